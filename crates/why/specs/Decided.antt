-- The tests of the list decide the rules of `Broken`: a record fails a test exactly where it breaks the rule.
use Rattle.std.specs.Prelude.{◌≡◌, refl, Bool, true, false, cond, List, [], ◌∷◌, ◌⊎◌, ℕ, ◌-◌, ◌<◌, eqb, ltb}
use Rattle.std.proofs.Common.{sym, subst, ◌∙◌, true≢false, arith, eqb-true, ltb-true, lt-ltb}
use Rattle.std.proofs.lemmas.Bool.{false≢true}
use Rattle.queue.specs.Order.{count}
use Rattle.rules.specs.Sizes.{task_count}
use Rattle.rules.specs.Chain.{Fresh}
use Rattle.rules.specs.Move.{next, base_of, fresh_in}
use Rattle.rules.specs.Table.{Table, task_of, mutex_of, queue_of, works, is_able, written}
use Rattle.rules.specs.Family.{place_of}
use Rattle.rules.specs.Sound.{Shaped, once}
use Rattle.rules.specs.Decides.{Decides, equals, at_most, itself, fails, if_so, either, each_of_lem}
use Rattle.rules.proofs.Tested.{no_task_lem, no_semaphore_lem, no_mutex_lem, no_group_lem, no_channel_lem, ends, worked}
use Rattle.why.specs.Broken.{OfAwaited, Broken, queue_at, slot_at, task_used, task_base, task_work, task_suspend, task_quantum, task_left, task_state, task_object, task_marked, task_due, task_outcome, task_mask, task_test, task_consume, task_message, task_free, task_plain_mark, task_delay_mark, task_left_most, task_asks, task_turn, semaphore_used, semaphore_counts, semaphore_free, mutex_used, mutex_holder, mutex_nesting, mutex_free, mutex_unheld, mutex_held, group_used, group_flags, group_free, channel_used, channel_capacity, channel_held, channel_free, channel_room, message_range, message_unused, wait_used, wait_nothing, wait_apart, holder_used, queue_places, queue_nothing_else, queue_ordered, task_worked, task_not_due, tick_range, depth_range, running_range, running_first, running_able, default_least, default_most, ready_word, ready_levels}
use Rattle.why.specs.Tests.{Test, tests, kept_in, is_kept, rule_end, record_end, of_awaited, is_object_used, offers_nothing, is_apart, is_holder_used, is_placed, may_run}
use Rattle.why.specs.TestLaws.{Every, end, with}
use Rattle.why.specs.Slots.{stand_decides}
use Rattle.why.specs.Ready.{level_decides}

-- ---- decisions

-- What fails a test is not so, and what is not so fails it; what is not refuted holds.
refutes : {b : Bool} {P : Type 0} → Decides b P → b ≡ false → P → ⊥
refutes d e p = false≢true (sym e ∙ d.passes p)

pub refuted : {b : Bool} {P : Type 0} → Decides b P → (P → ⊥) → b ≡ false
refuted {b} {P} d n = go b d
  where
    go : (b : Bool) → Decides b P → b ≡ false
    go true d = absurd (n (d.holds refl))
    go false d = refl

pub unrefuted : {b : Bool} {P : Type 0} → Decides b P → ((P → ⊥) → ⊥) → P
unrefuted {b} {P} d n = go b d
  where
    go : (b : Bool) → Decides b P → P
    go true d = d.holds refl
    go false d = absurd (n (refutes d refl))

module _ (t : Table) (i : ℕ) where
  pub used_decides : Decides (is_object_used t i) (OfAwaited t i (λ f. f.used t (task_of t i).object ≡ 1))
  unfolding is_object_used of_awaited
  used_decides = each_of_lem λ f. if_so equals equals

  pub nothing_decides : Decides (offers_nothing t i) (OfAwaited t i (λ f. f.offers t (task_of t i).object ≡ true → ⊥))
  unfolding offers_nothing of_awaited
  nothing_decides = each_of_lem λ f. if_so equals (fails itself)

  pub apart_decides : Decides (is_apart t i) (OfAwaited t i (λ f. f.holder t (task_of t i).object ≡ i → ⊥))
  unfolding is_apart of_awaited
  apart_decides = each_of_lem λ f. if_so equals (fails equals)

  pub holder_decides : Decides (is_holder_used t i) (((mutex_of t i).holder ≡ 0 → ⊥) → (task_of t ((mutex_of t i).holder - 1)).used ≡ 1)
  unfolding is_holder_used
  holder_decides = if_so (fails equals) equals

  pub work_decides : Shaped t → i < task_count → Decides (eqb (task_of t i).work (fresh_in t i)) (Fresh task_count (next t) (base_of t) i (task_of t i).work)
  unfolding fresh_in
  work_decides w h = worked (ends t w) h

pub placed_decides : (t : Table) (q i : ℕ) → Decides (is_placed t q i) (count (written i) (queue_of t q) ≡ once (eqb (place_of (task_of t i)) q))
unfolding is_placed
placed_decides t q i = equals

pub run_decides : (t : Table) → Decides (may_run t t.running) ((t.running ≡ 0) ⊎ (is_able (task_of t (t.running - 1)) ≡ true))
unfolding may_run
run_decides t = either equals itself

-- ---- what is broken fails

-- The record is among those of the test, and does not pass it.
outside : {i n : ℕ} {b : Bool} {P : Type 0} → i < n → Decides b P → (P → ⊥) → cond (ltb i n) b true ≡ false
outside {i} {n} h d p = rw (lt-ltb i n h) (refuted d p)

abbrev pub Fails : Table → (rule number : ℕ) → Type 0
Fails t c i = (c < rule_end) × (i < record_end c) × (is_kept c i t ≡ false)

pub broken-fails : {t : Table} {c i : ℕ} → Shaped t → Broken t c i → Fails t c i
unfolding kept_in record_end
broken-fails {t} w (task_used {i} h n) = (omega arith, h, outside h at_most n)
broken-fails {t} w (task_base {i} h n) = (omega arith, h, outside h at_most n)
broken-fails {t} w (task_work {i} h n) = (omega arith, h, outside h at_most n)
broken-fails {t} w (task_suspend {i} h n) = (omega arith, h, outside h at_most n)
broken-fails {t} w (task_quantum {i} h n) = (omega arith, h, outside h at_most n)
broken-fails {t} w (task_left {i} h n) = (omega arith, h, outside h at_most n)
broken-fails {t} w (task_state {i} h n) = (omega arith, h, outside h at_most n)
broken-fails {t} w (task_object {i} h n) = (omega arith, h, outside h at_most n)
broken-fails {t} w (task_marked {i} h n) = (omega arith, h, outside h at_most n)
broken-fails {t} w (task_due {i} h n) = (omega arith, h, outside h at_most n)
broken-fails {t} w (task_outcome {i} h n) = (omega arith, h, outside h at_most n)
broken-fails {t} w (task_mask {i} h n) = (omega arith, h, outside h at_most n)
broken-fails {t} w (task_test {i} h n) = (omega arith, h, outside h at_most n)
broken-fails {t} w (task_consume {i} h n) = (omega arith, h, outside h at_most n)
broken-fails {t} w (task_message {i} h n) = (omega arith, h, outside h at_most n)
broken-fails {t} w (task_free {i} h n) = (omega arith, h, outside h (if_so equals (no_task_lem _)) n)
broken-fails {t} w (task_plain_mark {i} h n) = (omega arith, h, outside h (if_so equals equals) n)
broken-fails {t} w (task_delay_mark {i} h n) = (omega arith, h, outside h (if_so equals equals) n)
broken-fails {t} w (task_left_most {i} h n) = (omega arith, h, outside h at_most n)
broken-fails {t} w (task_asks {i} h n) = (omega arith, h, outside h (if_so equals at_most) n)
broken-fails {t} w (task_turn {i} h n) = (omega arith, h, outside h (if_so equals at_most) n)
broken-fails {t} w (semaphore_used {i} h n) = (omega arith, omega arith, outside h at_most n)
broken-fails {t} w (semaphore_counts {i} h n) = (omega arith, omega arith, outside h at_most n)
broken-fails {t} w (semaphore_free {i} h n) = (omega arith, omega arith, outside h (if_so equals (no_semaphore_lem _)) n)
broken-fails {t} w (mutex_used {i} h n) = (omega arith, omega arith, outside h at_most n)
broken-fails {t} w (mutex_holder {i} h n) = (omega arith, omega arith, outside h at_most n)
broken-fails {t} w (mutex_nesting {i} h n) = (omega arith, omega arith, outside h at_most n)
broken-fails {t} w (mutex_free {i} h n) = (omega arith, omega arith, outside h (if_so equals (no_mutex_lem _)) n)
broken-fails {t} w (mutex_unheld {i} h n) = (omega arith, omega arith, outside h (if_so equals equals) n)
broken-fails {t} w (mutex_held {i} h n) = (omega arith, omega arith, outside h (if_so (fails equals) at_most) n)
broken-fails {t} w (group_used {i} h n) = (omega arith, omega arith, outside h at_most n)
broken-fails {t} w (group_flags {i} h n) = (omega arith, omega arith, outside h at_most n)
broken-fails {t} w (group_free {i} h n) = (omega arith, omega arith, outside h (if_so equals (no_group_lem _)) n)
broken-fails {t} w (channel_used {i} h n) = (omega arith, omega arith, outside h at_most n)
broken-fails {t} w (channel_capacity {i} h n) = (omega arith, omega arith, outside h at_most n)
broken-fails {t} w (channel_held {i} h n) = (omega arith, omega arith, outside h at_most n)
broken-fails {t} w (channel_free {i} h n) = (omega arith, omega arith, outside h (if_so equals (no_channel_lem _)) n)
broken-fails {t} w (channel_room {i} h n) = (omega arith, omega arith, outside h (if_so equals at_most) n)
broken-fails {t} w (message_range {n = i} h n) = (omega arith, h, outside h at_most n)
broken-fails {t} w (message_unused {n = i} h n) = (omega arith, h, outside h (if_so at_most equals) n)
broken-fails {t} w (wait_used {i} h n) = (omega arith, h, outside h (used_decides t i) n)
broken-fails {t} w (wait_nothing {i} h n) = (omega arith, h, outside h (nothing_decides t i) n)
broken-fails {t} w (wait_apart {i} h n) = (omega arith, h, outside h (apart_decides t i) n)
broken-fails {t} w (holder_used {i} h n) = (omega arith, omega arith, outside h (holder_decides t i) n)
broken-fails {t} w (queue_places {n = i} h n) = (omega arith, h, outside h (placed_decides t (queue_at i) (slot_at i)) n)
broken-fails {t} w (queue_nothing_else {n = i} h n) = (omega arith, h, outside h at_most n)
broken-fails {t} w (queue_ordered {n = i} h n) = (omega arith, h, outside h (stand_decides (works t) _ _) n)
broken-fails {t} w (task_worked {i} h n) = (omega arith, h, outside h (work_decides t i w h) n)
broken-fails {t} w (task_not_due {i} h n) = (omega arith, h, outside h (if_so equals (fails equals)) n)
broken-fails {t} w (tick_range n) = (omega arith, omega arith, refuted at_most n)
broken-fails {t} w (depth_range n) = (omega arith, omega arith, refuted at_most n)
broken-fails {t} w (running_range n) = (omega arith, omega arith, refuted at_most n)
broken-fails {t} w (running_first n) = (omega arith, omega arith, refuted (if_so equals equals) n)
broken-fails {t} w (running_able n) = (omega arith, omega arith, refuted (if_so (fails equals) (run_decides t)) n)
broken-fails {t} w (default_least n) = (omega arith, omega arith, refuted at_most n)
broken-fails {t} w (default_most n) = (omega arith, omega arith, refuted at_most n)
broken-fails {t} w (ready_word n) = (omega arith, omega arith, refuted at_most n)
broken-fails {t} w (ready_levels {l} h n) = (omega arith, h, outside h (level_decides t l) n)

-- ---- what fails is broken

-- A test whose failures break its rule.
abbrev Breaks : Table → Test → Type 0
Breaks t r = (i : ℕ) → i < r.count → r.keeps t i ≡ false → Broken t r.rule i

fails_in : (t : Table) (c i : ℕ) (l : List Test) → Every (Breaks t) l → kept_in l c i t ≡ false → Broken t c i
unfolding kept_in
fails_in t c i l end e = absurd (true≢false e)
fails_in t c i l (with {r} {rs} d ds) e = go (eqb c r.rule) refl e (fails_in t c i rs ds)
  where
    inside : (b : Bool) → ltb i r.count ≡ b → cond b (r.keeps t i) true ≡ false → Broken t r.rule i
    inside true q f = d i (ltb-true i r.count q) f
    inside false q f = absurd (true≢false f)

    go : (b : Bool) → eqb c r.rule ≡ b → cond b (cond (ltb i r.count) (r.keeps t i) true) (kept_in rs c i t) ≡ false → (kept_in rs c i t ≡ false → Broken t c i) → Broken t c i
    go true q f rest = subst (λ (x : ℕ). Broken t x i) (sym (eqb-true c r.rule q)) (inside (ltb i r.count) refl f)
    go false q f rest = rest f

-- The same, written test by test.
abbrev Listed : (Test → Type 0) → List Test → Type 0
Listed P [] = Unit
Listed P (r ∷ rs) = P r × Listed P rs

listed-every : (P : Test → Type 0) (l : List Test) → Listed P l → Every P l
listed-every P [] e = end
listed-every P (r ∷ rs) (d, e) = with {r = r} d (listed-every P rs e)

-- Pairs one within another, written in a row.
infixr 20 ◌and◌
◌and◌ : {A B : Type 0} → A → B → A × B
◌and◌ a b = (a, b)

-- There is no record but 0.
at_zero : {t : Table} {c i : ℕ} → i < 1 → Broken t c 0 → Broken t c i
at_zero {t} {c} {i} h b = let z : 0 ≡ i = omega arith in subst (λ (x : ℕ). Broken t c x) z b

all_break : (t : Table) → Shaped t → Every (Breaks t) tests
all_break t w =
    listed-every (Breaks t) tests (
    (λ i h e. task_used h (refutes at_most e))
    and (λ i h e. task_base h (refutes at_most e))
    and (λ i h e. task_work h (refutes at_most e))
    and (λ i h e. task_suspend h (refutes at_most e))
    and (λ i h e. task_quantum h (refutes at_most e))
    and (λ i h e. task_left h (refutes at_most e))
    and (λ i h e. task_state h (refutes at_most e))
    and (λ i h e. task_object h (refutes at_most e))
    and (λ i h e. task_marked h (refutes at_most e))
    and (λ i h e. task_due h (refutes at_most e))
    and (λ i h e. task_outcome h (refutes at_most e))
    and (λ i h e. task_mask h (refutes at_most e))
    and (λ i h e. task_test h (refutes at_most e))
    and (λ i h e. task_consume h (refutes at_most e))
    and (λ i h e. task_message h (refutes at_most e))
    and (λ i h e. task_free h (refutes (if_so equals (no_task_lem _)) e))
    and (λ i h e. task_plain_mark h (refutes (if_so equals equals) e))
    and (λ i h e. task_delay_mark h (refutes (if_so equals equals) e))
    and (λ i h e. task_left_most h (refutes at_most e))
    and (λ i h e. task_asks h (refutes (if_so equals at_most) e))
    and (λ i h e. task_turn h (refutes (if_so equals at_most) e))
    and (λ i h e. semaphore_used h (refutes at_most e))
    and (λ i h e. semaphore_counts h (refutes at_most e))
    and (λ i h e. semaphore_free h (refutes (if_so equals (no_semaphore_lem _)) e))
    and (λ i h e. mutex_used h (refutes at_most e))
    and (λ i h e. mutex_holder h (refutes at_most e))
    and (λ i h e. mutex_nesting h (refutes at_most e))
    and (λ i h e. mutex_free h (refutes (if_so equals (no_mutex_lem _)) e))
    and (λ i h e. mutex_unheld h (refutes (if_so equals equals) e))
    and (λ i h e. mutex_held h (refutes (if_so (fails equals) at_most) e))
    and (λ i h e. group_used h (refutes at_most e))
    and (λ i h e. group_flags h (refutes at_most e))
    and (λ i h e. group_free h (refutes (if_so equals (no_group_lem _)) e))
    and (λ i h e. channel_used h (refutes at_most e))
    and (λ i h e. channel_capacity h (refutes at_most e))
    and (λ i h e. channel_held h (refutes at_most e))
    and (λ i h e. channel_free h (refutes (if_so equals (no_channel_lem _)) e))
    and (λ i h e. channel_room h (refutes (if_so equals at_most) e))
    and (λ i h e. message_range h (refutes at_most e))
    and (λ i h e. message_unused h (refutes (if_so at_most equals) e))
    and (λ i h e. wait_used h (refutes (used_decides t i) e))
    and (λ i h e. wait_nothing h (refutes (nothing_decides t i) e))
    and (λ i h e. wait_apart h (refutes (apart_decides t i) e))
    and (λ i h e. holder_used h (refutes (holder_decides t i) e))
    and (λ i h e. queue_places h (refutes (placed_decides t (queue_at i) (slot_at i)) e))
    and (λ i h e. queue_nothing_else h (refutes at_most e))
    and (λ i h e. queue_ordered h (refutes (stand_decides (works t) _ _) e))
    and (λ i h e. task_worked h (refutes (work_decides t i w h) e))
    and (λ i h e. task_not_due h (refutes (if_so equals (fails equals)) e))
    and (λ i h e. at_zero h (tick_range (refutes at_most e)))
    and (λ i h e. at_zero h (depth_range (refutes at_most e)))
    and (λ i h e. at_zero h (running_range (refutes at_most e)))
    and (λ i h e. at_zero h (running_first (refutes (if_so equals equals) e)))
    and (λ i h e. at_zero h (running_able (refutes (if_so (fails equals) (run_decides t)) e)))
    and (λ i h e. at_zero h (default_least (refutes at_most e)))
    and (λ i h e. at_zero h (default_most (refutes at_most e)))
    and (λ i h e. at_zero h (ready_word (refutes at_most e)))
    and (λ i h e. ready_levels h (refutes (level_decides t i) e))
    and tt
    )

pub fails-broken : (t : Table) (c i : ℕ) → Shaped t → is_kept c i t ≡ false → Broken t c i
fails-broken t c i w e = fails_in t c i tests (all_break t w) e
