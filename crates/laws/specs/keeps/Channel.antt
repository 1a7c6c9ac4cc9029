-- What the calls of a channel keep that are its own.
use Rattle.std.specs.Prelude.{◌≡◌, ◌⊎◌, ◌≢◌, ℕ, ◌-◌, ◌≤◌, ◌<◌, length, drop}
use Rattle.std.proofs.Math.Path.{refl, ap, subst}
use Rattle.std.proofs.Common.{◌∙◌, inl, inr, lt-ltb}
use Rattle.std.proofs.Math.Logic.{⊎_elim}
use mathlib.Core.List.{List, []}
use native.Mathlib.Omega.{arith}
use Rattle.std.proofs.Math.ListN.{get_or, length-drop}
use Rattle.std.proofs.lemmas.List.{set-get_or}
use Rattle.rules.specs.Sizes.{task_count, channel_count, most_messages, greatest_message, ticks_round, given}
use Rattle.rules.specs.Table.{Table, nothing_asked, task_of, channel_of, row_of, channel_queue, first_in, is_able, room_for, with_held, with_message, with_messages, with_channel}
use Rattle.rules.specs.Decides.{equals, at_most}
use Rattle.rules.specs.Messages.{present, greater, holding}
use Rattle.rules.specs.Time.{caller_of}
use Rattle.rules.specs.Sound.{Empty, SoundChannel, Sound}
use Rattle.rules.specs.Family.{channels}
use Rattle.rules.specs.Channel.{delivered, with_posted}
use Rattle.rules.specs.Channel as channel
use Rattle.rules.specs.declared.Task.{Task}
use Rattle.rules.specs.declared.Channel.{Channel}
use Rattle.laws.specs.queues.Put.{pick, pick_not, part-put, task-put_same}
use Rattle.laws.specs.queues.Fields.{rest, put_rest}
use Rattle.laws.specs.queues.Rows.{among-channels}
use Rattle.laws.specs.queues.Stands.{unwaited, no_queue}
use Rattle.laws.specs.keeps.Messages.{Messages, no_messages, further-messages, posted-messages, posted-length, laid-length, anew-sound, present-length, present-messages}
use Rattle.laws.specs.keeps.Records.{message_right, asks_nothing}
use Rattle.laws.specs.keeps.Becomes.{caller-used, ended-becomes}
use Rattle.laws.specs.keeps.Moves.{Midway, BeforeChoice, goes_on_keeps, ended_keeps, stored_keeps}
use Rattle.laws.specs.keeps.Objects.{awaited-may}
use Rattle.laws.specs.keeps.Families.{channel_stores, channel-unwaited, waiter_of, channels_lawful, waits_keeps}
use Rattle.laws.specs.keeps.Caller.{taken_keeps, midway, caller-task, runs-able}

-- ---- a message stands in the record of a task

module _ (i v : ℕ) (t : Table) where
  pub delivered_rest : rest (delivered i v t) ≡ rest t
  unfolding delivered
  delivered_rest = put_rest i _ t

  -- Who is able stays so.
  pub delivered-able : (j : ℕ) → is_able (task_of (delivered i v t) j) ≡ is_able (task_of t j)
  unfolding delivered is_able
  delivered-able = part-put is_able i (with_message v (task_of t i)) t refl

  pub delivered_there : i < task_count → length t.tasks ≡ task_count → (task_of (delivered i v t) i).message ≡ v
  unfolding delivered
  delivered_there l z = ap (λ (k : Task). k.message) (task-put_same i (with_message v (task_of t i)) t l z)

pub delivered_keeps : {n : ℕ} {t : Table} → Midway n t → (i v : ℕ) → i < task_count → (task_of t i).used ≡ 1 → v ≤ greatest_message → Midway n (delivered i v t)
unfolding delivered
delivered_keeps h i v l u m = goes_on_keeps h l _ (message_right (h.settled.tasks i l) u v m) refl refl (λ d e x. record { used = x.used; state = x.state; suspend = x.suspend })

-- ---- the calls

module _ {t : Table} (s : Sound t) (c : ℕ) (l : c < channel_count) where
  was : SoundChannel (channel_of t c) (row_of t c)
  was = s.settled.objects.channels c l

  -- The row of a free channel has no message.
  pub create_keeps : (capacity : ℕ) → (channel_of t c).used ≢ 1 → 1 ≤ capacity → capacity ≤ most_messages → BeforeChoice (channel.create c capacity t)
  unfolding channel.create
  create_keeps capacity u some most =
      subst (λ (x : List (List ℕ)). BeforeChoice (with_messages x (with_channel c (room_for capacity) t))) (set-get_or t.messages c [])
      (stored_keeps (midway s)
      (channel-unwaited s.settled c l (room_for capacity) (row_of t c) refl right (no_queue among-channels s.settled.queued c l s.settled.tasks s.settled.objects (inl u))))
    where
      none : (channel_of t c).held ≡ 0
      none = ap (λ (x : Channel). x.held) (was.free (omega (arith, was.used)))

      right : SoundChannel (room_for capacity) (row_of t c)
      right =
          record {
            used = omega arith;
            capacity = most;
            held = omega arith;
            free = λ e. absurd (omega arith);
            room = λ e. some;
            messages = was.messages;
            unused = λ j k e. was.unused j k (omega (arith, none));
          }

  module _ (u : (channel_of t c).used ≡ 1) where
    -- It has other messages, or none: nobody waits for it where it has any.
    pub holding_keeps : (ms : List ℕ) → Messages ms → length ms ≤ (channel_of t c).capacity → Empty (channel_queue c) t ⊎ (length ms ≡ 0) → BeforeChoice (holding c ms t)
    unfolding holding
    holding_keeps ms m room why =
        stored_keeps (midway s)
        (channel_stores s.settled c l (with_held (length ms) (channel_of t c)) _ (laid-length (greater (channel_of t c).held (length ms)) ms (row_of t c))
        (anew-sound was (s.settled.queued.shaped.rows c l) ms m u room)
        (λ j k e o. ⊎_elim (λ z. absurd (unwaited among-channels s.settled.queued c l z j k e o)) (λ z. record { in_use = u; none = z }) why))

    has : length (present t c) ≡ (channel_of t c).held
    has = present-length s.settled.queued.shaped c l was

    are : Messages (present t c)
    are = present-messages s.settled.queued.shaped c l was

    -- The first message stands in the caller's record.
    takes_keeps : t.running ≢ 0 → 0 < (channel_of t c).held → BeforeChoice (delivered (caller_of t) (get_or (present t c) 0 0) (holding c (drop 1 (present t c)) t))
    unfolding holding
    takes_keeps runs some =
        delivered_keeps
        (holding_keeps (drop 1 (present t c)) (further-messages 1 (present t c) are) (omega (arith, length-drop 1 (present t c), has, was.held))
        (inl (no_queue among-channels s.settled.queued c l s.settled.tasks s.settled.objects (inr (lt-ltb 0 _ some)))))
        (caller_of t) _ (caller-task s) (caller-used t (runs-able s runs)) (are 0)

    pub wait_keeps : (limit : ℕ) → limit < ticks_round → t.running ≢ 0 → ((channel_of t c).held ≡ 0 → t.depth ≡ 0) → BeforeChoice (channel.wait c limit t)
    unfolding channel.wait holding
    wait_keeps limit most runs free =
        pick BeforeChoice at_most
        (λ (some : 1 ≤ (channel_of t c).held).
        let i = caller_of t in
        let v = get_or (present t c) 0 0 in
        let less = holding c (drop 1 (present t c)) t in
        let still = ap (λ (x : Table). x.running) (delivered_rest i v less) in
        taken_keeps {t = delivered i v less} (takes_keeps runs some) (omega (arith, still, caller-task s))
        (ap (λ (n : ℕ). is_able (task_of (delivered i v less) (n - 1))) still ∙ delivered-able i v less i ∙ runs-able s runs))
        (λ (n : 1 ≤ (channel_of t c).held → ⊥).
        let none : (channel_of t c).held ≡ 0 = omega arith in
        waits_keeps channels_lawful (midway s) c l limit nothing_asked most (asks_nothing (omega arith)) (caller-task s) (runs-able s runs) (free none) (awaited-may t _ c channels (channel_of t c).held refl refl (caller-task s) (record { in_use = u; none = none })))

    pub post_keeps : (v front : ℕ) → v ≤ greatest_message → (channel_of t c).held < (channel_of t c).capacity → BeforeChoice (channel.post c v front t)
    unfolding channel.post
    post_keeps v front m room =
        pick_not BeforeChoice equals
        (λ some.
        let i = first_in (channel_queue c) t - 1 in
        let w = waiter_of channels_lawful s.settled c l some in
        delivered_keeps (ended_keeps (midway s) w given (omega arith)) i v w.task (ap (λ (k : Task). k.used) (ended-becomes w.task s.settled.queued given).itself ∙ w.used) m)
        (λ none.
        holding_keeps (with_posted front v (present t c)) (posted-messages front v (present t c) m are) (omega (arith, posted-length front v (present t c), has)) (inl none))

    pub flush_keeps : BeforeChoice (channel.flush c t)
    unfolding channel.flush
    flush_keeps = holding_keeps [] no_messages (omega arith) (inr refl)
