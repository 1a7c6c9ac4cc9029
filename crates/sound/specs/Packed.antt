-- Which queues are packed, told by two counts over all of them: the slots that are filled from the front on, and those that are free.
use Rattle.std.specs.Prelude.{◌≡◌, Bool, true, false, cond, List, [], ◌∷◌, eqb, length, get_or}
use Rattle.std.proofs.Math.Path.{refl, ap}
use Rattle.std.proofs.Common.{⊎_elim, not-suc-le-zero, zero-add, add-zero, add-suc, eq-eqb, ne_eqb}
use Prim.Native.Nat.{ℕ, zero, suc, ◌+◌, ◌*◌, ◌≤◌, ◌<◌}
use Rattle.std.proofs.Math.Decide.{ℕ_discrete}
use native.Mathlib.Omega.{arith}
use Rattle.queue.specs.Slots.{first_at, same}
use Rattle.queue.specs.Order.{All, none, more, Ordered, empty, front, one, count}
use Rattle.queue.specs.Counts.{one_same, one_other}
use Rattle.queue.specs.Keeps.{all_map}
use Rattle.rules.specs.Sizes.{task_count}
use Rattle.rules.specs.Table.{Table, queue_of, queue_count, able_queue}
use Rattle.rules.specs.Sound.{Each}
use Rattle.rules.specs.Decides.{Decides, equals, last}

-- ---- one queue

-- How many slots are filled from the front on: the place of the first free one.
abbrev pub lead : List ℕ → ℕ
lead l = first_at (same 0) l

-- No other slot is filled.
pub record Packed (l : List ℕ) : Type 0 where
  pub all : lead l + count 0 l ≡ length l

pub lead-free : (x : ℕ) (xs : List ℕ) → x ≡ 0 → lead (x ∷ xs) ≡ 0
unfolding first_at
lead-free x xs e = rw (eq-eqb x 0 e)

pub lead_none : (l : List ℕ) → get_or l 0 0 ≡ 0 → lead l ≡ 0
unfolding first_at
lead_none [] e = refl
lead_none (x ∷ xs) e = lead-free x xs e

pub lead_more : (x : ℕ) (xs : List ℕ) → (x ≡ 0 → ⊥) → lead (x ∷ xs) ≡ suc (lead xs)
unfolding first_at
lead_more x xs d = rw (ne_eqb x 0 d)

-- A slot is 1 or 0 of what is counted.
pub one_most : (u x : ℕ) → one u x ≤ 1
one_most u x = go (eqb x u)
  where
    go : (b : Bool) → cond b 1 0 ≤ 1
    go true = omega arith
    go false = omega arith

count_most : (u : ℕ) (l : List ℕ) → count u l ≤ length l
unfolding count
count_most u [] = omega arith
count_most u (x ∷ xs) = omega (arith, one_most u x, count_most u xs)

pub lead_most : (l : List ℕ) → lead l + count 0 l ≤ length l
unfolding count first_at
lead_most [] = omega arith
lead_most (x ∷ xs) = go (ℕ_discrete x 0) (lead_most xs)
  where
    go : Dec (x ≡ 0) → lead xs + count 0 xs ≤ length xs → lead (x ∷ xs) + (one 0 x + count 0 xs) ≤ suc (length xs)
    go (yes e) h = omega (arith, lead-free x xs e, one_most 0 x, count_most 0 xs)
    go (no d) h = omega (arith, lead_more x xs d, one_other 0 x d)

-- All slots are free.
zeros : (l : List ℕ) → count 0 l ≡ length l → All (λ v. v ≡ 0) l
unfolding count
zeros [] e = none
zeros (x ∷ xs) e = more (go (ℕ_discrete x 0)) (zeros xs (omega (arith, one_most 0 x, count_most 0 xs)))
  where
    go : Dec (x ≡ 0) → x ≡ 0
    go (yes z) = z
    go (no d) = absurd (omega (arith, one_other 0 x d, count_most 0 xs))

zeros-count : {l : List ℕ} → All (λ v. v ≡ 0) l → count 0 l ≡ length l
unfolding count
zeros-count none = refl
zeros-count (more {x} {xs} e a) = omega (arith, ap (one 0) e, one_same 0, zeros-count a)

module _ {x : ℕ} {xs : List ℕ} where
  -- Behind a free slot all are free.
  pub packed-free : x ≡ 0 → Packed (x ∷ xs) → All (λ v. v ≡ 0) xs
  unfolding count
  packed-free e p = zeros xs (omega (arith, p.all, lead-free x xs e, ap (one 0) e, one_same 0))

  pub packed_rest : (x ≡ 0 → ⊥) → Packed (x ∷ xs) → Packed xs
  unfolding count
  packed_rest d p = record { all = omega (arith, p.all, lead_more x xs d, one_other 0 x d) }

-- What is in order is packed.
pub ordered-packed : {keys l : List ℕ} → Ordered keys l → Packed l
unfolding count first_at
ordered-packed empty = record { all = refl }
ordered-packed {keys} (front {x} {xs} a o) = go (ℕ_discrete x 0) (ordered-packed o)
  where
    go : Dec (x ≡ 0) → Packed xs → Packed (x ∷ xs)
    go (yes e) p = record { all = omega (arith, lead-free x xs e, ap (one 0) e, one_same 0, zeros-count (all_map (λ v q. ⊎_elim (λ z. z) (λ n. absurd (n.0 e)) q) a)) }
    go (no d) p = record { all = omega (arith, p.all, lead_more x xs d, one_other 0 x d) }

-- ---- all queues

unfoldable pub leads : ℕ → Table → ℕ
leads zero t = 0
leads (suc q) t = leads q t + lead (queue_of t q)

unfoldable pub frees : ℕ → Table → ℕ
frees zero t = 0
frees (suc q) t = frees q t + count 0 (queue_of t q)

-- The able queue, and seven queues more.
pub frees-able : (t : Table) → frees 1 t ≡ count 0 (queue_of t able_queue)
unfolding frees
frees-able t = zero-add (count 0 (queue_of t able_queue))

-- The sum over seven queues.
abbrev pub of_seven : (ℕ → ℕ) → ℕ → ℕ
of_seven f q = f q + (f (q + 1) + (f (q + 2) + (f (q + 3) + (f (q + 4) + (f (q + 5) + f (q + 6))))))

pub frees_seven : (q : ℕ) (t : Table) → frees (q + 7) t ≡ frees q t + of_seven (λ p. count 0 (queue_of t p)) q
unfolding frees
frees_seven q t =
    let one : q + 1 ≡ suc q = omega arith in
    let two : q + 2 ≡ suc (suc q) = omega arith in
    let three : q + 3 ≡ suc (suc (suc q)) = omega arith in
    let four : q + 4 ≡ suc (suc (suc (suc q))) = omega arith in
    let five : q + 5 ≡ suc (suc (suc (suc (suc q)))) = omega arith in
    let six : q + 6 ≡ suc (suc (suc (suc (suc (suc q))))) = omega arith in
    let seven : q + 7 ≡ suc (suc (suc (suc (suc (suc (suc q)))))) = omega arith in
    rw (one, two, three, four, five, six, seven) (omega arith)

pub frees_grow : (q n : ℕ) (t : Table) → frees q t ≤ frees (q + n) t
unfolding frees
frees_grow q zero t = rw (add-zero q) (omega arith)
frees_grow q (suc n) t = rw (add-suc q n) (omega (arith, frees_grow q n t))

abbrev pub slot_count : ℕ
slot_count = queue_count * task_count

module _ (t : Table) (slots : Each queue_count (λ q. length (queue_of t q) ≡ task_count)) where
  pub sums_most : (n : ℕ) → n ≤ queue_count → leads n t + frees n t ≤ n * task_count
  unfolding leads frees
  sums_most zero h = omega arith
  sums_most (suc n) h = omega (arith, sums_most n (omega arith), slots n h, lead_most (queue_of t n))

  sums_packed : (n : ℕ) → n ≤ queue_count → leads n t + frees n t ≡ n * task_count → Each n (λ q. Packed (queue_of t q))
  unfolding leads frees
  sums_packed zero h e q l = absurd (not-suc-le-zero l)
  sums_packed (suc n) h e q l = go (ℕ_discrete q n) (λ l. sums_packed n (omega arith) (omega (arith, sums_most n (omega arith), slots n h, lead_most (queue_of t n))) q l)
    where
      own : Packed (queue_of t n)
      own = record { all = omega (arith, sums_most n (omega arith), slots n h, lead_most (queue_of t n)) }

      go : Dec (q ≡ n) → (q < n → Packed (queue_of t q)) → Packed (queue_of t q)
      go (yes d) rest = rw d own
      go (no d) rest = rest (omega arith)

  packed_sums : (n : ℕ) → n ≤ queue_count → Each queue_count (λ q. Packed (queue_of t q)) → leads n t + frees n t ≡ n * task_count
  unfolding leads frees
  packed_sums zero h p = refl
  packed_sums (suc n) h p = omega (arith, packed_sums n (omega arith) p, (p n h).all, slots n h)

  pub packed_all : Decides (eqb (leads queue_count t + frees queue_count t) slot_count) (Each queue_count (λ q. Packed (queue_of t q)))
  packed_all = last (packed_sums queue_count (omega arith)) equals (sums_packed queue_count (omega arith))
