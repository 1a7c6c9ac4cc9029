-- The quick answers to the question for a peer are right.
use Rattle.std.proofs.Common.{◌≡◌, ℕ, zero, suc, ◌+◌, ◌-◌, ◌<◌, ◌≤◌, Bool, true, false, cond, not, ◌&&◌, eqb, leb, ◌≢◌, length, sym, refl, ap, ◌∙◌, ⊎_elim, not-suc-le-zero, add-one, arith, ltb-true, le-ltb, lt-ltb, eq-eqb, ne_eqb}
use mathlib.Core.Bool.{false≢true}
use lib.ListN.{get_or-eq_default}
use Rattle.rules.specs.Sizes.{task_count, plain}
use Rattle.rules.specs.Sound.{once}
use Rattle.rules.specs.Afresh.{lt_or_le}
use Rattle.rules.specs.Decides.{Decides, equals, at_most, itself, fails, both}
use Rattle.rules.specs.declared.Task.{Task}
use Rattle.rules.specs.Table.{Table, task_of, no_task, is_able}
use Rattle.rules.specs.Move.{has_peer, peer_below}
use Rattle.laws.specs.order.Order.{Peer}
use Rattle.laws.specs.numbers.Found.{peer}
use Rattle.laws.specs.queues.Stands.{able}
use Rattle.laws.specs.keeps.Tally.{tally, tally_two}
use Rattle.time.specs.Peers.{is_plain_with, plain_below, is_alone, second, is_peer, is_second_peer}

-- ---- how many are plain and of one working priority

plain-with : (w : ℕ) (k : Task) → Decides (is_plain_with w k) ((k.work ≡ w) × (k.state ≡ plain))
plain-with w k = both equals equals

module _ (w : ℕ) (t : Table) where
  pub plain_next : (j : ℕ) → plain_below (j + 1) w t ≡ once (is_plain_with w (task_of t j)) + plain_below j w t
  unfolding tally
  plain_next j = rw add-one

  pub plain_none : 0 ≡ plain_below 0 w t
  unfolding tally
  plain_none = refl

-- ---- alone

alone : (i : ℕ) (t : Table) → Decides (is_alone i t) ((i < task_count) × (((task_of t i).state ≡ plain) × (plain_below task_count (task_of t i).work t ≤ 1)))
unfolding is_alone
alone i t = both (record { holds = ltb-true i task_count; passes = lt-ltb i task_count }) (both equals at_most)

pub alone_no_task : (i : ℕ) (t : Table) → task_count ≤ i → false ≡ is_alone i t
unfolding is_alone
alone_no_task i t h = rw (le-ltb i task_count h)

pub alone_not_plain : (i : ℕ) (t : Table) → i < task_count → (task_of t i).state ≢ plain → false ≡ is_alone i t
unfolding is_alone
alone_not_plain i t h d = rw (lt-ltb i task_count h, ne_eqb _ _ d)

pub alone-counted : (i : ℕ) (t : Table) → i < task_count → (task_of t i).state ≡ plain → leb (plain_below task_count (task_of t i).work t) 1 ≡ is_alone i t
unfolding is_alone
alone-counted i t h e = rw (lt-ltb i task_count h, eq-eqb _ _ e)

-- Who is alone has no peer: it would count too.
pub alone_none : (i : ℕ) (t : Table) → is_alone i t ≡ true → has_peer i t ≡ false
alone_none i t e = go (has_peer i t) refl
  where
    w : ℕ
    w = (task_of t i).work

    h : (i < task_count) × (((task_of t i).state ≡ plain) × (plain_below task_count w t ≤ 1))
    h = (alone i t).holds e

    counts : ℕ → Bool
    counts j = is_plain_with w (task_of t j)

    own : is_plain_with w (task_of t i) ≡ true
    own = (plain-with w (task_of t i)).passes (refl, h.1.0)

    its : (p : Peer i t) → is_plain_with w (task_of t p.number) ≡ true
    its p = (plain-with w (task_of t p.number)).passes (p.work, ((able (task_of t p.number)).holds p.able).state)

    none : Peer i t → ⊥
    none p =
        ⊎_elim
        (λ l. omega (arith, h.1.1, tally_two counts i p.number task_count l p.range own (its p)))
        (λ l. omega (arith, h.1.1, tally_two counts p.number i task_count (omega (arith, l, p.other)) h.0 (its p) own))
        (lt_or_le i p.number)

    go : (b : Bool) → has_peer i t ≡ b → b ≡ false
    go false q = refl
    go true q = absurd (none ((peer i t).holds q))

-- ---- the second of the able queue

never : (b : Bool) → (b && false) ≡ false
never true = refl
never false = refl

module _ (i : ℕ) (t : Table) where
  pub second_none : second t ≡ 0 → false ≡ is_second_peer i t
  unfolding is_second_peer
  second_none e = rw (eq-eqb _ _ e)

  pub second_some : (v : ℕ) → second t ≡ v → v ≢ 0 → is_peer (v - 1) i (task_of t i).work t ≡ is_second_peer i t
  unfolding is_second_peer
  second_some v e d = rw (e, ne_eqb v 0 d)

  -- A number that is no task's is no peer's: it has the record of a free one, which is not able.
  pub second_past : (v : ℕ) → second t ≡ v → task_count < v → length t.tasks ≡ task_count → false ≡ is_second_peer i t
  unfolding is_second_peer is_able
  second_past v e h n =
      rw (e, ne_eqb v 0 (λ z. omega arith), get_or-eq_default t.tasks no_task {n = v - 1} (omega arith)) (sym (never (not (eqb (v - 1) i))))

  able-task : (j : ℕ) → length t.tasks ≡ task_count → is_able (task_of t j) ≡ true → j < task_count
  unfolding is_able
  able-task j n e =
      ⊎_elim
      (λ l. l)
      (λ l. absurd (false≢true (sym (ap is_able (get_or-eq_default t.tasks no_task {n = j} (omega arith))) ∙ e)))
      (lt_or_le j task_count)

  -- It is a peer, and so there is one.
  pub second-peer : length t.tasks ≡ task_count → is_second_peer i t ≡ true → has_peer i t ≡ true
  unfolding is_second_peer
  second-peer n e = go (eqb (second t) 0) e
    where
      j : ℕ
      j = second t - 1

      test : Decides (is_peer j i (task_of t i).work t) ((j ≢ i) × ((is_able (task_of t j) ≡ true) × ((task_of t j).work ≡ (task_of t i).work)))
      test = both (fails (equals {x = j} {y = i})) (both (itself {b = is_able (task_of t j)}) (equals {x = (task_of t j).work} {y = (task_of t i).work}))

      go : (b : Bool) → cond b false (is_peer j i (task_of t i).work t) ≡ true → has_peer i t ≡ true
      go true e = absurd (false≢true e)
      go false e =
          let h = test.holds e in
          (peer i t).passes (record { number = j; range = able-task j n h.1.0; other = h.0; able = h.1.0; work = h.1.1 })

-- ---- the scan for a peer: one turn, and its end

pub peer_turn :
    (j n i w : ℕ) (t : Table) {b : Bool} → j ≡ suc n → w ≡ (task_of t i).work → b ≡ not (eqb n i) && (is_able (task_of t n) && eqb (task_of t n).work w) →
    peer_below j i t ≡ cond b true (peer_below n i t)
unfolding peer_below
peer_turn j n i w t s f e = rw (s, ← f, ← e)

pub peer_none : (j i : ℕ) (t : Table) → j ≤ 0 → peer_below j i t ≡ false
unfolding peer_below
peer_none zero i t h = refl
peer_none (suc j) i t h = absurd (not-suc-le-zero h)
