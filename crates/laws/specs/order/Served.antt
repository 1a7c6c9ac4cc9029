-- The outcome of a call on a sound table, accepted or refused; and of the numbers that change anything, which one a call on a channel, or a
-- task delete, is answered.
use Rattle.std.specs.Prelude.{◌≡◌, refl, Bool, ◌&&◌, ◌||◌, ℕ, ◌≤◌, eqb, ltb, leb}
use Rattle.std.proofs.Common.{sym, ◌∙◌, true≢false, le-leb}
use Rattle.std.proofs.Math.Path.{subst}
use Rattle.std.proofs.Math.Bool.{true, false, cond, not}
use Rattle.rules.specs.Sizes.{task_count, channel_count, mutex_count, done, beyond_range, not_in_use, bad_value, by_interrupt, none_running, while_locked, nothing_to_take, still_needed, blocks, channel_full}
use Rattle.rules.specs.Table.{Table, task_of, channel_of, channel_queue, is_used}
use Rattle.rules.specs.Move.{is_running}
use Rattle.rules.specs.Task.{is_locked, holds_below, delete_answer}
use Rattle.rules.specs.Family.{channels}
use Rattle.rules.specs.Object.{yes_no, has_waiter, block_answer, object_delete_answer}
use Rattle.rules.specs.Channel.{is_full}
use Rattle.rules.specs.Channel as channel
use Rattle.rules.specs.Sound.{Sound}
use Rattle.rules.specs.Step.{answer_to, told_by, for_interrupts, answer, effect, Outcome, changes, serve, step}
use Rattle.rules.specs.declared.Call.{Call}
use Rattle.rules.specs.declared.Call.TheVariants.{TaskDelete, ChannelDelete, ChannelWait, ChannelPost, ChannelFlush}
use Rattle.laws.specs.queues.Put.{whichever}
use Rattle.laws.specs.keeps.Sounds.{step-serve}
use Rattle.laws.specs.numbers.Presumes.{Presumes, accepts}

-- ---- outcomes

-- The outcome of a call that is accepted, and of one that is refused, where it is answered n.
abbrev pub accepted : ℕ → Call → Table → Outcome
accepted n call t = record { answer = n; table = effect call t; runs = (effect call t).running; further = told_by call t }

abbrev pub refusal : ℕ → Table → Outcome
refusal n t = record { answer = n; table = t; runs = t.running; further = 0 }

module _ {t : Table} (s : Sound t) (by : Bool) where
  -- What holds of both holds of a step.
  pub step_one : (P : Outcome → Type 0) (call : Call)
      → (changes (answer call by t) ≡ true → Presumes call t → P (accepted (answer call by t) call t))
      → (changes (answer call by t) ≡ false → P (refusal (answer call by t) t))
      → P (step call by t)
  unfolding serve
  step_one P call taken-so refused-so = subst P (sym (step-serve s call by)) (go (changes (answer call by t)) refl)
    where
      go : (b : Bool) → changes (answer call by t) ≡ b
          → P (record { answer = answer call by t; table = cond b (effect call t) t; runs = (cond b (effect call t) t).running; further = cond b (told_by call t) 0 })
      go true e = taken-so e ((accepts call by t).holds e)
      go false e = refused-so e

-- ---- answers

-- Of the numbers that change anything, n is only m.
abbrev pub Only : (m n : ℕ) → Type 0
Only m n = changes n ≡ true → n ≡ m

refused : {m : ℕ} (n : ℕ) → changes n ≡ false → Only m n
refused n e f = absurd (true≢false (sym f ∙ e))

pub not_done : (n : ℕ) → changes n ≡ false → eqb n done ≡ false
not_done n = go (eqb n done) (eqb n blocks)
  where
    go : (a b : Bool) → a || b ≡ false → a ≡ false
    go true b e = absurd (true≢false e)
    go false b e = refl

module _ {m : ℕ} where
  on_one_lem : (count o is : ℕ) {n : ℕ} → Only m n → Only m (cond (leb count o) beyond_range (cond (not (is_used is)) not_in_use n))
  on_one_lem count o is h = whichever (Only m) (leb count o) (refused beyond_range refl) (whichever (Only m) (not (is_used is)) (refused not_in_use refl) h)

  yes_no_lem : (byte : ℕ) {n : ℕ} → Only m n → Only m (yes_no byte n)
  yes_no_lem byte h = whichever (Only m) (ltb 1 byte) (refused bad_value refl) h

module _ (by : Bool) (t : Table) {m : ℕ} where
  made : (call : Call) → Only m (answer_to call t) → Only m (answer call by t)
  unfolding answer
  made call h = whichever (Only m) (by && not (for_interrupts call)) (refused by_interrupt refl) h

  waited : (d block limit : ℕ) → Only m (cond (channels.offers t d) done (block_answer block t)) → Only m (answer (ChannelWait d block limit) by t)
  unfolding answer_to channel.wait_answer
  waited d block limit h =
      made (ChannelWait d block limit) (whichever (Only m) (eqb t.running 0) (refused none_running refl) (on_one_lem channel_count d (channel_of t d).used (yes_no_lem block h)))

module _ (by : Bool) (t : Table) (d : ℕ) where
  pub took-done : (block limit : ℕ) → 1 ≤ (channel_of t d).held → Only done (answer (ChannelWait d block limit) by t)
  took-done block limit some = waited by t d block limit (rw (le-leb 1 (channel_of t d).held some) (λ e. refl))

  pub blocked-blocks : (block limit : ℕ) → (channel_of t d).held ≡ 0 → Only blocks (answer (ChannelWait d block limit) by t)
  blocked-blocks block limit none =
      waited by t d block limit
      (rw none
      (whichever (Only blocks) (eqb block 0) (refused nothing_to_take refl) (whichever (Only blocks) (is_locked t) (refused while_locked refl) (λ e. refl))))

  pub post-done : (v front : ℕ) → Only done (answer (ChannelPost d v front) by t)
  unfolding answer_to channel.post_answer
  post-done v front =
      made by t (ChannelPost d v front) (on_one_lem channel_count d (channel_of t d).used (yes_no_lem front (whichever (Only done) (is_full t d) (refused channel_full refl) (λ e. refl))))

  pub flush-done : Only done (answer (ChannelFlush d) by t)
  unfolding answer_to channel.flush_answer
  flush-done = made by t (ChannelFlush d) (on_one_lem channel_count d (channel_of t d).used (λ e. refl))

  pub delete-done : (force : ℕ) → Only done (answer (ChannelDelete d force) by t)
  unfolding answer_to object_delete_answer
  delete-done force =
      made by t (ChannelDelete d force)
      (on_one_lem channel_count d (channel_of t d).used
      (yes_no_lem force (whichever (Only done) (eqb force 0 && has_waiter (channel_queue d) t) (refused still_needed refl) (λ e. refl))))

  pub remove_done : Only done (answer (TaskDelete d) by t)
  unfolding answer_to delete_answer
  remove_done =
      made by t (TaskDelete d)
      (on_one_lem task_count d (task_of t d).used
      (whichever (Only done) (is_locked t && is_running d t) (refused while_locked refl)
      (whichever (Only done) (holds_below mutex_count d t) (refused still_needed refl) (λ e. refl))))
