-- The calls on channels, case by case.
use mathlib.Core.Path.{◌≡◌, refl, sym, ap, ◌∙◌}
use Rattle.std.proofs.Common.{Result, Ok, Err, IsErrAnd}
use mathlib.Core.Bool.{Bool, true, false, cond, not, ◌||◌, true≢false}
use mathlib.Core.List.{List}
use Prim.Native.Nat.{ℕ, ◌-◌, ◌≤◌, ◌<◌}
use native.Mathlib.Omega.{arith}
use lib.Dec.{eqb, ltb, leb}
use borrow.Author.Tests.{le-leb, lt-leb, lt-ltb, le-ltb, ne_eqb, ltb-false}
use Rattle.rules.specs.Sizes.{task_count, channel_count, most_messages, given, done, beyond_range, not_in_use, bad_value, channel_full}
use Rattle.rules.specs.Table.{Table, task_of, channel_of, channel_queue, first_in, written, is_used, with_task, with_message}
use Rattle.rules.specs.Messages.{present, holding}
use Rattle.rules.specs.Move.{ended}
use Rattle.rules.specs.Step.{changes}
use Rattle.rules.specs.Family.{channels}
use Rattle.rules.specs.Object.{yes_no, object_create_answer}
use Rattle.rules.specs.Channel.{create_answer, right_capacity, delivered, with_posted, is_full, post, flush_answer}
use Rattle.service.specs.Answers.{refusal_number, refusal-keeps}
use Rattle.service.specs.declared.answers.Refusal.{Refusal}
use Rattle.service.specs.Told.{Told, told_of, tells-refused}
use Rattle.laws.specs.queues.Put.{put_out, put-stays, place_same}

-- ---- create

-- A capacity that is taken fits a byte.
pub few_messages : (capacity : ℕ) → (eqb capacity 0 || ltb most_messages capacity) ≡ false → capacity ≤ most_messages
few_messages capacity e = go (eqb capacity 0) (ltb most_messages capacity) refl e
  where
    go : (a b : Bool) → ltb most_messages capacity ≡ b → (a || b) ≡ false → capacity ≤ most_messages
    go true b d f = absurd (true≢false f)
    go false true d f = absurd (true≢false f)
    go false false d f = ltb-false most_messages capacity d

module _ (c capacity : ℕ) (t : Table) where
  -- a number that may not be created is refused before its capacity is looked at
  pub create-refused : (r : Refusal) → refusal_number r ≡ object_create_answer channels c t → refusal_number r ≡ create_answer c capacity t
  unfolding create_answer
  create-refused r e =
      let other : eqb (refusal_number r) 0 ≡ false = ne_eqb (refusal_number r) 0 (λ z. true≢false (sym (ap changes z) ∙ refusal-keeps r)) in
      rw (← e, other) refl

  pub create-goes_on : done ≡ object_create_answer channels c t → {n : ℕ} → n ≡ right_capacity capacity done → n ≡ create_answer c capacity t
  unfolding create_answer
  create-goes_on z e = rw (← z) e

-- ---- a message in a task's record

module _ (i v : ℕ) (t : Table) where
  pub delivered_none : task_count ≤ i → t ≡ delivered i v t
  unfolding delivered
  delivered_none l = sym (put_out i _ t l)

  pub delivered_one : i < task_count → with_task i (with_message v (task_of t i)) t ≡ delivered i v t
  unfolding delivered
  delivered_one l = sym (put-stays i _ t l (sym (place_same (task_of t i) (with_message v (task_of t i)) refl refl refl refl)) refl)

-- ---- a post: the channel keeps the message, or the first waiter is given it

module _ (c v front : ℕ) (t : Table) {u : Table} where
  pub post_keeps : 0 ≡ first_in (channel_queue c) t → u ≡ holding c (with_posted front v (present t c)) t → u ≡ post c v front t
  unfolding post
  post_keeps none made = rw (← none) made

  pub post-gives : (w : ℕ) → written w ≡ first_in (channel_queue c) t → u ≡ delivered w v (ended given w t) → u ≡ post c v front t
  unfolding post
  post-gives w first made =
      let it : first_in (channel_queue c) t - 1 ≡ w = omega (arith, first) in
      rw (it, ne_eqb (first_in (channel_queue c) t) 0 (λ z. omega (arith, first, z))) made

-- ---- the answer of a post, and of a flush

module _ (c front : ℕ) (t : Table) where
  abbrev pub post_rest : ℕ
  post_rest = yes_no front (cond (is_full t c) channel_full done)

  pub bad_front : 1 < front → bad_value ≡ post_rest
  bad_front l = rw (lt-ltb _ _ l)

  module _ (few : front ≤ 1) {most held : ℕ} (capacity : most ≡ (channel_of t c).capacity) (holds : held ≡ (channel_of t c).held) where
    pub full : most ≤ held → channel_full ≡ post_rest
    full l = rw (le-ltb _ _ few, ← capacity, ← holds, le-leb _ _ l)

    pub not-full : held < most → done ≡ post_rest
    not-full l = rw (le-ltb _ _ few, ← capacity, ← holds, lt-leb _ _ l)

small : (a b : Bool) → cond a beyond_range (cond b not_in_use done) < 256
small true b = omega arith
small false true = omega arith
small false false = omega arith

pub flush-refused : (c : ℕ) (t : Table) {new : Table} {k : ℕ} {l : List ℕ} (r : Refusal) (answer : Result ℕ Refusal) → IsErrAnd answer (λ e. e ≡ r) → refusal_number r ≡ flush_answer c t → Told (flush_answer c t) new k (told_of answer) l l
unfolding flush_answer
flush-refused c t r (Err e) h is =
    let n = ap refusal_number h ∙ is in
    tells-refused n (rw n (small (leb channel_count c) (not (is_used (channels.used t c))))) (refusal-keeps e)
flush-refused c t r (Ok d) h is = absurd h
