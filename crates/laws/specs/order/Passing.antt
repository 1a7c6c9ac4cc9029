-- What the calls of a channel make of its messages and of the records of the tasks that get them; those of other channels they leave.
use Rattle.std.specs.Prelude.{◌≡◌, ◌≢◌, ℕ, ◌-◌, ◌<◌, length, get_or, drop}
use Rattle.std.proofs.Math.Path.{refl}
use Rattle.std.proofs.Common.{ap, ◌∙◌, inr, arith, length-drop, lt-ltb}
use mathlib.Core.List.{[]}
use Rattle.std.proofs.Math.Decide.{ℕ_discrete}
use Rattle.rules.specs.Sizes.{task_count, channel_count, given, object_deleted}
use Rattle.rules.specs.Table.{Table, task_of, channel_of, row_of, channel_queue, first_in, nothing_asked, no_channel, room_for}
use Rattle.rules.specs.Move.{ended}
use Rattle.rules.specs.Time.{caller_of}
use Rattle.rules.specs.Family.{channels}
use Rattle.rules.specs.Object.{emptied, has_waiter, taken, object_delete}
use Rattle.rules.specs.Messages.{present, holding}
use Rattle.rules.specs.Channel.{delivered, with_posted}
use Rattle.rules.specs.Channel as channel
use Rattle.rules.specs.Sound.{Sound, Shaped, SoundChannel}
use Rattle.rules.specs.declared.Channel.{Channel}
use Rattle.laws.specs.queues.Put.{whichever}
use Rattle.laws.specs.queues.Rows.{among-channels}
use Rattle.laws.specs.queues.Stands.{no_queue}
use Rattle.laws.specs.keeps.Messages.{present_rest, present-length, none_present, holding-present, holding-shaped, other_present, holding_other, posted-length}
use Rattle.laws.specs.keeps.Channel.{delivered_rest, delivered_there}
use Rattle.laws.specs.keeps.Caller.{midway, caller-task}
use Rattle.laws.specs.keeps.Moves.{ended_keeps}
use Rattle.laws.specs.keeps.Ending.{emptied_all}
use Rattle.laws.specs.keeps.Families.{waiter_of, channels_lawful}
use Rattle.laws.specs.order.Mail.{same_present, ended_mail, all_mail, walk_mail, taken_mail, waits_mail}

-- A message that a task is given leaves those of the channels.
delivered-present : (i v : ℕ) (t : Table) (c : ℕ) → present (delivered i v t) c ≡ present t c
delivered-present i v t c = present_rest t (delivered i v t) c (delivered_rest i v t)

-- ---- the channel of the call

module _ {t : Table} (s : Sound t) (c : ℕ) (l : c < channel_count) where
  shaped : Shaped t
  shaped = s.settled.queued.shaped

  was : SoundChannel (channel_of t c) (row_of t c)
  was = s.settled.objects.channels c l

  -- As many messages are there as it holds.
  pub has : length (present t c) ≡ (channel_of t c).held
  has = present-length shaped c l was

  pub has_none : (channel_of t c).held ≡ 0 → present t c ≡ []
  unfolding present
  has_none z = rw z

  -- "A queue with a waiter is empty"; one that is not in use has no message.
  pub awaited_none : first_in (channel_queue c) t ≢ 0 → present t c ≡ []
  awaited_none some = has_none (go (ℕ_discrete (channel_of t c).held 0))
    where
      go : Dec ((channel_of t c).held ≡ 0) → (channel_of t c).held ≡ 0
      go (yes z) = z
      go (no d) = absurd (some (no_queue among-channels s.settled.queued c l s.settled.tasks s.settled.objects (inr (lt-ltb 0 (channel_of t c).held (omega arith)))))

  pub unused_none : (channel_of t c).used ≢ 1 → present t c ≡ []
  unused_none d = has_none (ap (λ (x : Channel). x.held) (was.free (omega (arith, was.used))))

  -- A wait that finds a message.
  abbrev pub took : Table
  took = taken (delivered (caller_of t) (get_or (present t c) 0 0) (holding c (drop 1 (present t c)) t))

  pub took-present : present took c ≡ drop 1 (present t c)
  took-present =
      same_present (taken_mail _) c
      ∙ delivered-present _ _ _ c
      ∙ holding-present shaped c l (drop 1 (present t c)) (omega (arith, length-drop 1 (present t c), has, was.held, was.capacity))

  pub took-message : (task_of took (caller_of t)).message ≡ get_or (present t c) 0 0
  unfolding holding
  took-message = (taken_mail _).records (caller_of t) ∙ delivered_there (caller_of t) _ _ (caller-task s) shaped.tasks

  -- A post that finds a waiter, the first of whom is given the message; and one that finds none.
  abbrev pub waiter : ℕ
  waiter = first_in (channel_queue c) t - 1

  abbrev pub gave : ℕ → Table
  gave v = delivered waiter v (ended given waiter t)

  pub gave-present : (v : ℕ) → present (gave v) c ≡ present t c
  gave-present v = delivered-present _ v _ c ∙ same_present (ended_mail given _ t) c

  pub gave-message : (v : ℕ) → first_in (channel_queue c) t ≢ 0 → (task_of (gave v) waiter).message ≡ v
  gave-message v some =
      let w = waiter_of channels_lawful s.settled c l some in
      delivered_there _ v _ w.task (ended_keeps (midway s) w given (omega arith)).settled.queued.shaped.tasks

  pub put_in_present : (front v : ℕ) → (channel_of t c).held < (channel_of t c).capacity → present (holding c (with_posted front v (present t c)) t) c ≡ with_posted front v (present t c)
  put_in_present front v room = holding-present shaped c l _ (omega (arith, posted-length front v (present t c), has, was.capacity))

  -- After a flush, a delete and a create it has none.
  pub flush-present : present (channel.flush c t) c ≡ []
  unfolding channel.flush
  flush-present = holding-present shaped c l [] (omega arith)

  pub delete-present : present (object_delete channels c t) c ≡ []
  unfolding object_delete
  delete-present =
      let e = emptied_all (channel_queue c) (omega arith) (λ z. omega arith) (midway s) in
      same_present (walk_mail task_count _) c ∙ none_present (holding-shaped e.midway.settled.queued.shaped c []) c l no_channel refl

  pub create-present : (n : ℕ) → present (channel.create c n t) c ≡ []
  unfolding channel.create
  create-present n = none_present shaped c l (room_for n) refl

-- ---- another channel, d

module _ (t : Table) (c d : ℕ) (n : d ≢ c) where
  pub wait_other : (limit : ℕ) → present (channel.wait c limit t) d ≡ present t d
  unfolding channel.wait
  wait_other limit =
      whichever (λ (u : Table). present u d ≡ present t d) (channels.offers t c)
      (same_present (taken_mail _) d ∙ delivered-present _ _ _ d ∙ holding_other t c d n _)
      (same_present (waits_mail channels c limit nothing_asked t) d)

  pub post_other : (v front : ℕ) → present (channel.post c v front t) d ≡ present t d
  unfolding channel.post
  post_other v front =
      whichever (λ (u : Table). present u d ≡ present t d) (has_waiter (channel_queue c) t)
      (delivered-present _ v _ d ∙ same_present (ended_mail given _ t) d)
      (holding_other t c d n _)

  pub flush_other : present (channel.flush c t) d ≡ present t d
  unfolding channel.flush
  flush_other = holding_other t c d n []

  pub delete_other : present (object_delete channels c t) d ≡ present t d
  unfolding object_delete
  delete_other =
      let u = emptied (channel_queue c) t in
      same_present (walk_mail task_count _) d ∙ other_present (holding c [] u) c d n no_channel ∙ holding_other u c d n [] ∙ same_present (all_mail task_count object_deleted (channel_queue c) t) d

  pub create_other : (capacity : ℕ) → present (channel.create c capacity t) d ≡ present t d
  unfolding channel.create
  create_other capacity = other_present t c d n (room_for capacity)
