-- Messages keep their order over any history, and stand in the records of those who got them: what `Histories` states.
use Rattle.std.specs.Prelude.{◌≡◌, ◌≢◌, Bool, false, ◌&&◌, ℕ, ◌+◌, ◌-◌, ◌≤◌, get_or, take, drop, replicate}
use Rattle.std.proofs.Math.Path.{refl, sym, ap, subst}
use Rattle.std.proofs.Common.{◌∙◌, ⊎_elim, true≢false, not-suc-le-zero, arith, length-append}
use Rattle.std.proofs.Math.Bool.{true, cond}
use Rattle.std.proofs.lemmas.Bool.{false≢true}
use mathlib.Core.List.{List, [], ◌∷◌, ◌++◌, append_assoc, append-nil}
use Rattle.std.proofs.Math.Decide.{ℕ_discrete}
use Rattle.std.proofs.Math.Dec.{eqb}
use Rattle.std.proofs.Math.ListN.{length, get_or-eq_default}
use Rattle.std.proofs.lemmas.List.{get_or-replicate}
use Rattle.std.proofs.Math.Seq.{take-length, take-append_seam, drop-append_seam}
use borrow.Author.Tests.{eqb-true, eq-eqb, ne_eqb}
use Rattle.rules.specs.Afresh.{lt_or_le}
use Rattle.rules.specs.Decides.{equals, at_most}
use Rattle.rules.specs.Sizes.{task_count, channel_count, given, object_deleted, done}
use Rattle.rules.specs.Table.{Table, fresh_table, task_of, channel_of, channel_queue, first_in, no_task, no_channel, nothing_asked, with_message}
use Rattle.rules.specs.Move.{put, next, chosen}
use Rattle.rules.specs.Task.{delete}
use Rattle.rules.specs.Time.{caller_of}
use Rattle.rules.specs.Family.{channels}
use Rattle.rules.specs.Object.{has_waiter, object_delete}
use Rattle.rules.specs.Messages.{present, holding}
use Rattle.rules.specs.Channel.{delivered, with_posted}
use Rattle.rules.specs.Channel as channel
use Rattle.rules.specs.Kinds.{spelled, kind_of}
use Rattle.rules.specs.Sound.{Sound}
use Rattle.rules.specs.Step.{change_by, told_by, answer, effect, Bounded, Outcome, changes, serve, step}
use Rattle.rules.specs.declared.Task.{Task}
use Rattle.rules.specs.declared.Channel.{Channel}
use Rattle.rules.specs.declared.Call.{Call}
use Rattle.rules.specs.declared.Call.TheVariants.{TaskDelete, ChannelCreate, ChannelDelete, ChannelWait, ChannelPost, ChannelFlush}
use Rattle.laws.specs.queues.Put.{pick, pick_not, task-put}
use Rattle.laws.specs.queues.Fields.{put_rest, walk_rest}
use Rattle.laws.specs.keeps.Messages.{present_rest}
use Rattle.laws.specs.keeps.Sounds.{step-serve, step-sound, fresh-sound}
use Rattle.laws.specs.numbers.Presumes.{Presumes}
use Rattle.laws.specs.order.Order.{Made, run}
use Rattle.laws.specs.order.Mail.{same_present, chosen_mail, ended_mail, all_mail, walk_mail, taken_mail, waits_mail, is_apart, Deals, removes, creates, deletes, awaits, posts, flushes, leaves, deals}
use Rattle.laws.specs.order.Passing.{has, awaited_none, unused_none, took, took-present, took-message, waiter, gave, gave-present, gave-message, put_in_present, flush-present, delete-present, create-present, wait_other, post_other, flush_other, delete_other, create_other}
use Rattle.laws.specs.order.Served.{accepted, step_one, Only, not_done, took-done, blocked-blocks, post-done, flush-done, delete-done, remove_done}
use Rattle.laws.specs.order.Histories.{is_on, is_flush, Brought, nothing, at_end, in_front, brings, in_record, gets, after, is_done, came_in, came_out, out, messages_of, posted, placed, line_from, AllAtEnd, MessagesInOrder, UnusedEmpty, FirstInFirstOut, FlushTells, Renews, RecordsStay}
use Rattle.laws.specs.order.Histories as history

-- ---- one call

-- A call found the messages l in a channel and left m; where it was done, as b tells, x came out and y was brought.
record Passed (b : Bool) (x m : List ℕ) (y : Brought) (l : List ℕ) : Type 0 where
  same : cond b x [] ++ m ≡ placed (cond b y nothing) 0 l

module _ {x x' : List ℕ} {y y' : Brought} {l m : List ℕ} where
  when_done : {b : Bool} → b ≡ true → x ≡ x' → y ≡ y' → x' ++ m ≡ placed y' 0 l → Passed b x m y l
  when_done e f g h = record { same = rw (e, f, g) h }

module _ {x : List ℕ} {y : Brought} {l m : List ℕ} where
  when_not : {b : Bool} → b ≡ false → m ≡ l → Passed b x m y l
  when_not e h = record { same = rw e h }

  when_apart : {b : Bool} → x ≡ [] → y ≡ nothing → m ≡ l → Passed b x m y l
  when_apart {b} e f h = record { same = rw (e, f) (go b) }
    where
      go : (b : Bool) → cond b [] [] ++ m ≡ placed (cond b nothing nothing) 0 l
      go true = h
      go false = h

-- So the call did in channel c, where its outcome on the table t is o.
abbrev Passes : ℕ → Call → Table → Outcome → Type 0
Passes c call t o = Passed (is_done o) (gets c call t o) (present o.table c) (brings c call) (present t c)

-- ---- lists

-- The first of l, and the others.
first_again : {x : ℕ} {m : List ℕ} (l : List ℕ) → 1 ≤ length l → x ≡ get_or l 0 0 → m ≡ drop 1 l → x ∷ m ≡ l
first_again [] h e f = absurd (not-suc-le-zero h)
first_again (y ∷ l) h e f = rw (e, f)

-- A message posted where none is, which goes at once; and one that stays.
given-placed : {x v : ℕ} {l m : List ℕ} (b : Bool) → x ≡ v → m ≡ l → l ≡ [] → x ∷ m ≡ placed (cond b (in_front v) (at_end v)) 0 l
given-placed true e f g = rw (e, f)
given-placed false e f g = rw (e, f, g)

posted-placed : (b : Bool) (v : ℕ) (l : List ℕ) → cond b (v ∷ l) (l ++ (v ∷ [])) ≡ placed (cond b (in_front v) (at_end v)) 0 l
posted-placed true v l = refl
posted-placed false v l = refl

all_gone : {l m : List ℕ} → m ≡ [] → l ++ m ≡ l
all_gone {l} e = rw e (append-nil l)

-- What is brought behind those that have come out, and to the end.
placed-behind : (b : Brought) (g l : List ℕ) → placed b (length g) (g ++ l) ≡ g ++ placed b 0 l
placed-behind nothing g l = refl
placed-behind (at_end v) g l = append_assoc g l (v ∷ [])
placed-behind (in_front v) g l = rw (take-append_seam g l, drop-append_seam g l)

placed_last : (b : Brought) (l : List ℕ) → ((v : ℕ) → b ≢ in_front v) → placed b 0 l ≡ l ++ messages_of b
placed_last nothing l h = sym (append-nil l)
placed_last (at_end v) l h = refl
placed_last (in_front v) l h = absurd (h v refl)

-- ---- calls that are on no channel

module _ (call : Call) (a : is_apart (kind_of call) ≡ true) where
  -- Such a call is of none of the kinds that bring or get.
  other_kind : (kind : ℕ) → is_apart kind ≡ false → eqb (kind_of call) kind ≡ false
  other_kind kind e = ne_eqb (kind_of call) kind (λ x. true≢false (sym a ∙ ap is_apart x ∙ e))

  not_on : (kind c : ℕ) → is_apart kind ≡ false → is_on kind c call ≡ false
  not_on kind c e = rw (other_kind kind e)

  gets_none : (c : ℕ) (t : Table) (o : Outcome) → gets c call t o ≡ []
  gets_none c t o = rw (not_on 0x42 c refl, not_on 0x43 c refl, not_on 0x45 c refl, not_on 0x41 c refl)

  brings_none : (c : ℕ) → brings c call ≡ nothing
  brings_none c = rw (not_on 0x43 c refl)

-- ---- the definitions of `Histories`, of the calls by their names

module _ (c d : ℕ) where
  pub post-brings : (v front : ℕ) → brings c (ChannelPost d v front) ≡ cond (eqb d c) (cond (eqb front 1) (in_front v) (at_end v)) nothing
  unfolding spelled
  post-brings v front = refl

  module _ (t : Table) (o : Outcome) where
    pub wait-gets : (block limit : ℕ) → gets c (ChannelWait d block limit) t o ≡ cond (eqb d c) (in_record (caller_of t) o.table ∷ []) []
    unfolding spelled
    wait-gets block limit = refl

    pub post-gets : (v front : ℕ) → gets c (ChannelPost d v front) t o ≡ cond (eqb d c && has_waiter (channel_queue c) t) (in_record (first_in (channel_queue c) t - 1) o.table ∷ []) []
    unfolding spelled
    post-gets v front = refl

    pub flush-gets : gets c (ChannelFlush d) t o ≡ cond (eqb d c) (take o.further (present t c)) []
    unfolding spelled
    flush-gets = refl

    pub delete-gets : (force : ℕ) → gets c (ChannelDelete d force) t o ≡ cond (eqb d c) (present t c) []
    unfolding spelled
    delete-gets force = refl

-- ---- a call

module _ {t : Table} (s : Sound t) (by : Bool) (c : ℕ) where
  -- Where the call is accepted.
  abbrev Accepts : Call → Type 0
  Accepts call = changes (answer call by t) ≡ true → Presumes call t → Passes c call t (accepted (answer call by t) call t)

  still : (u : Table) → present u c ≡ present t c → present (chosen u) c ≡ present t c
  still u h = same_present (chosen_mail u) c ∙ h

  itself : eqb c c ≡ true
  itself = eq-eqb c c refl

  another : {d : ℕ} → c ≢ d → eqb d c ≡ false
  another {d} n = ne_eqb d c (λ e. n (sym e))

  -- A call on channel d, which is c or another one.
  at_channel : (call : ℕ → Call) (d : ℕ) → Accepts (call c) → (c ≢ d → Accepts (call d)) → Accepts (call d)
  at_channel call d own other = go (ℕ_discrete c d)
    where
      go : Dec (c ≡ d) → Accepts (call d)
      go (yes e) = subst (λ (x : ℕ). Accepts (call x)) e own
      go (no n) = other n

  -- Calls on c itself.
  wait-own : (block limit : ℕ) → Accepts (ChannelWait c block limit)
  unfolding spelled effect change_by channel.wait
  wait-own block limit e p =
      let call = ChannelWait c block limit in
      let n = answer call by t in
      pick (λ (u : Table). Passes c call t (record { answer = n; table = chosen u; runs = (chosen u).running; further = told_by call t })) at_most
      (λ (some : 1 ≤ (channel_of t c).held).
      let u = took s c p.1 in
      when_done {x' = in_record (caller_of t) (chosen u) ∷ []} {y' = nothing} (eq-eqb _ _ (took-done by t c block limit some e)) (rw itself) refl
      (first_again (present t c) (omega (arith, has s c p.1, some))
      ((chosen_mail u).records (caller_of t) ∙ took-message s c p.1)
      (same_present (chosen_mail u) c ∙ took-present s c p.1)))
      (λ (none : 1 ≤ (channel_of t c).held → ⊥).
      when_not (ne_eqb n done (λ z. omega (arith, blocked-blocks by t c block limit (omega arith) e, z))) (still _ (same_present (waits_mail channels c limit nothing_asked t) c)))

  post-own : (v front : ℕ) → Accepts (ChannelPost c v front)
  unfolding spelled effect change_by channel.post
  post-own v front e p =
      let call = ChannelPost c v front in
      let n = answer call by t in
      let is-done : eqb n done ≡ true = eq-eqb _ _ (post-done by t c v front e) in
      let y : Brought = cond (eqb front 1) (in_front v) (at_end v) in
      let given_so = gave s c p.0 v in
      let kept-so = holding c (with_posted front v (present t c)) t in
      pick_not (λ (u : Table). Passes c call t (record { answer = n; table = chosen u; runs = (chosen u).running; further = told_by call t })) {x = given_so} {y = kept-so} (equals {x = first_in (channel_queue c) t} {y = 0})
      (λ some.
      when_done {x' = in_record (first_in (channel_queue c) t - 1) (chosen given_so) ∷ []} {y' = y} is-done (rw (itself, ne_eqb _ 0 some)) (rw itself)
      (given-placed (eqb front 1)
      ((chosen_mail given_so).records (waiter s c p.0) ∙ gave-message s c p.0 v some)
      (same_present (chosen_mail given_so) c ∙ gave-present s c p.0 v)
      (awaited_none s c p.0 some)))
      (λ none.
      when_done {x' = []} {y' = y} is-done (rw (itself, eq-eqb _ 0 none)) (rw itself)
      (same_present (chosen_mail kept-so) c ∙ put_in_present s c p.0 front v p.2 ∙ posted-placed (eqb front 1) v (present t c)))

  flush-own : Accepts (ChannelFlush c)
  unfolding spelled effect change_by told_by
  flush-own e p =
      when_done {x' = present t c} {y' = nothing} (eq-eqb _ _ (flush-done by t c e)) (rw itself (take-length (present t c))) refl
      (all_gone (same_present (chosen_mail (channel.flush c t)) c ∙ flush-present s c p.0))

  delete-own : (force : ℕ) → Accepts (ChannelDelete c force)
  unfolding spelled effect change_by
  delete-own force e l =
      when_done {x' = present t c} {y' = nothing} (eq-eqb _ _ (delete-done by t c force e)) (rw itself) refl
      (all_gone (same_present (chosen_mail (object_delete channels c t)) c ∙ delete-present s c l))

  -- All of them.
  accepts_all : {call : Call} → Deals t call → Accepts call
  unfolding spelled effect change_by delete
  accepts_all (removes i) = λ e p. when_apart refl refl (still _ (present_rest t _ c (walk_rest (next t i) (put i no_task t) ∙ put_rest i no_task t)))
  accepts_all (creates d capacity) =
      at_channel (λ d. ChannelCreate d capacity) d
      (λ e p. when_apart refl refl (same_present (chosen_mail (channel.create c capacity t)) c ∙ create-present s c p.0.0 capacity ∙ sym (unused_none s c p.0.0 p.0.1)))
      (λ n e p. when_apart refl refl (still _ (create_other t d c n capacity)))
  accepts_all (deletes d force) = at_channel (λ d. ChannelDelete d force) d (delete-own force) (λ n e p. when_apart (rw (another n)) refl (still _ (delete_other t d c n)))
  accepts_all (awaits d block limit) =
      at_channel (λ d. ChannelWait d block limit) d (wait-own block limit) (λ n e p. when_apart (rw (another n)) refl (still _ (wait_other t d c n limit)))
  accepts_all (posts d v front) =
      at_channel (λ d. ChannelPost d v front) d (post-own v front) (λ n e p. when_apart (rw (another n)) (rw (another n)) (still _ (post_other t d c n v front)))
  accepts_all (flushes d) = at_channel ChannelFlush d flush-own (λ n e p. when_apart (rw (another n)) refl (still _ (flush_other t d c n)))
  accepts_all (leaves {call} a h) = λ e p. when_apart (gets_none call a c t (accepted (answer call by t) call t)) (brings_none call a c) (still _ (same_present h c))

  one_call : (call : Call) → Passes c call t (step call by t)
  one_call call = step_one s by (Passes c call t) call (λ e p. accepts_all (deals s call p) e p) (λ e. when_not (not_done (answer call by t) e) refl)

-- ---- histories

module _ (c : ℕ) where
  -- The line of a history, behind the messages g that have come out before it.
  line_is : {t : Table} → Sound t → (ms : List Made) (g : List ℕ) → g ++ (out c ms t ++ present (run ms t) c) ≡ line_from c ms t (length g) (g ++ present t c)
  unfolding out line_from run
  line_is s [] g = refl
  line_is {t} s (m ∷ ms) g =
      let u = after m t in
      let x = came_out c m t in
      let y = came_in c m t in
      let rest = out c ms u in
      let last = present (run ms u) c in
      let there : (g ++ x) ++ present u c ≡ placed y (length g) (g ++ present t c) =
      append_assoc g x (present u c) ∙ ap (λ (r : List ℕ). g ++ r) (one_call s m.interrupt c m.call).same ∙ sym (placed-behind y g (present t c)) in
      ap (λ (r : List ℕ). g ++ r) (append_assoc x rest last)
      ∙ sym (append_assoc g x (rest ++ last))
      ∙ line_is {t = (step m.call m.interrupt t).table} (step-sound s m.call m.bounded m.interrupt) ms (g ++ x)
      ∙ ap (λ (n : ℕ). line_from c ms u n ((g ++ x) ++ present u c)) (length-append g x)
      ∙ ap (λ (l : List ℕ). line_from c ms u (length g + length x) l) there

  turn_is : {t : Table} → Sound t → (ms : List Made) → AllAtEnd c ms t → out c ms t ++ present (run ms t) c ≡ present t c ++ posted c ms t
  unfolding out posted run AllAtEnd
  turn_is {t} s [] h = sym (append-nil (present t c))
  turn_is {t} s (m ∷ ms) (first, others) =
      let u = after m t in
      let x = came_out c m t in
      let y = came_in c m t in
      append_assoc x (out c ms u) (present (run ms u) c)
      ∙ ap (λ (r : List ℕ). x ++ r) (turn_is {t = (step m.call m.interrupt t).table} (step-sound s m.call m.bounded m.interrupt) ms others)
      ∙ sym (append_assoc x (present u c) (posted c ms u))
      ∙ ap (λ (r : List ℕ). r ++ posted c ms u) ((one_call s m.interrupt c m.call).same ∙ placed_last y (present t c) first)
      ∙ append_assoc (present t c) (messages_of y) (posted c ms u)

-- What comes out is what went in, in its order.
pub messages_in_order : MessagesInOrder
messages_in_order t s c ms = record { in_line = line_is c s ms []; in_turn = turn_is c s ms }

-- A channel that is not in use has no message.
pub unused-empty : UnusedEmpty
unfolding present
unused-empty t s c d = ⊎_elim (λ l. unused_none s c l d) (λ l. rw (beyond l)) (lt_or_le c channel_count)
  where
    beyond : channel_count ≤ c → channel_of t c ≡ no_channel
    beyond l = get_or-eq_default t.channels no_channel (omega (arith, s.settled.queued.shaped.channels))

-- From the fresh table, where no channel is in use.
pub first_in_first_out : FirstInFirstOut
unfolding fresh_table
first_in_first_out c ms h = turn_is c fresh-sound ms h ∙ ap (λ (l : List ℕ). l ++ posted c ms fresh_table) (unused-empty fresh_table fresh-sound c (λ e. omega (arith, e, ap (λ (x : Channel). x.used) free)))
  where
    free : channel_of fresh_table c ≡ no_channel
    free = ⊎_elim (λ l. get_or-replicate channel_count c no_channel no_channel l) (λ l. get_or-eq_default (replicate channel_count no_channel) no_channel l) (lt_or_le c channel_count)

-- ---- flush

module _ {t : Table} (s : Sound t) (by : Bool) where
  -- Of a flush that is done, the table and the number told.
  flushed_so : (c : ℕ) {call : Call} → Deals t call → is_flush c call ≡ true → Presumes call t → (present (effect call t) c ≡ []) × (told_by call t ≡ length (present t c))
  unfolding spelled effect change_by told_by
  flushed_so c (removes i) f p = absurd (false≢true f)
  flushed_so c (creates d capacity) f p = absurd (false≢true f)
  flushed_so c (deletes d force) f p = absurd (false≢true f)
  flushed_so c (awaits d block limit) f p = absurd (false≢true f)
  flushed_so c (posts d v front) f p = absurd (false≢true f)
  flushed_so c (flushes d) f p =
      subst (λ (x : ℕ). (present (chosen (channel.flush d t)) x ≡ []) × (length (present t d) ≡ length (present t x))) (eqb-true d c f)
      (same_present (chosen_mail (channel.flush d t)) d ∙ flush-present s d p.0, refl)
  flushed_so c (leaves {call} a h) f p = absurd (true≢false (sym f ∙ not_on call a 0x45 c refl))

  -- Every other call tells 0.
  told_none : {call : Call} → Deals t call → ((c : ℕ) → is_flush c call && eqb (answer call by t) done ≢ true) → changes (answer call by t) ≡ true → told_by call t ≡ 0
  unfolding spelled told_by
  told_none (removes i) h e = refl
  told_none (creates d capacity) h e = refl
  told_none (deletes d force) h e = refl
  told_none (awaits d block limit) h e = refl
  told_none (posts d v front) h e = refl
  told_none (flushes d) h e = absurd (h d (rw (eq-eqb d d refl) (eq-eqb _ _ (flush-done by t d e))))
  told_none (leaves {call} a x) h e = rw (other_kind call a 0x45 refl)

-- A flush empties the channel and tells how many messages went.
pub flush-tells : FlushTells
flush-tells t s m =
    record {
      empties = λ c f.
          step_one s m.interrupt (λ o. is_done o ≡ true → (present o.table c ≡ []) × (o.further ≡ length (present t c))) m.call
          (λ e p d. flushed_so s m.interrupt c (deals s m.call p) f p)
          (λ e d. absurd (true≢false (sym d ∙ not_done (answer m.call m.interrupt t) e)));
      otherwise =
          step_one s m.interrupt (λ o. ((c : ℕ) → is_flush c m.call && is_done o ≢ true) → o.further ≡ 0) m.call
          (λ e p h. told_none s m.interrupt (deals s m.call p) h e)
          (λ e h. refl);
    }

-- ---- records

delivered-apart : (i v j : ℕ) (t : Table) → j ≢ i → in_record j (delivered i v t) ≡ in_record j t
unfolding delivered
delivered-apart i v j t d = ap (λ (k : Task). k.message) (task-put i (with_message v (task_of t i)) t j d)

module _ {t : Table} (s : Sound t) (by : Bool) (j : ℕ) where
  -- The call does not make another message of that of task j.
  abbrev Spares : (call : Call) → Bounded call → Type 0
  Spares call b = Renews j (record { call = call; interrupt = by; bounded = b }) t → ⊥

  -- What is answered 0 is done.
  done_so : (call : Call) → Only done (answer call by t) → changes (answer call by t) ≡ true → is_done (step call by t) ≡ true
  unfolding serve
  done_so call only e = ap is_done (step-serve s call by) ∙ eq-eqb _ _ (only e)

  wait_spares : (c block limit : ℕ) (b : Bounded (ChannelWait c block limit)) → Spares (ChannelWait c block limit) b → changes (answer (ChannelWait c block limit) by t) ≡ true
      → in_record j (channel.wait c limit t) ≡ in_record j t
  unfolding spelled channel.wait holding
  wait_spares c block limit b spares e =
      pick (λ (u : Table). in_record j u ≡ in_record j t) at_most
      (λ (some : 1 ≤ (channel_of t c).held).
      (taken_mail _).records j ∙ delivered-apart _ _ j _ (λ z. spares (history.taken c (done_so _ (took-done by t c block limit some) e) (eq-eqb c c refl) (sym z))))
      (λ none. (waits_mail channels c limit nothing_asked t).records j)

  post_spares : (c v front : ℕ) (b : Bounded (ChannelPost c v front)) → Spares (ChannelPost c v front) b → changes (answer (ChannelPost c v front) by t) ≡ true
      → in_record j (channel.post c v front t) ≡ in_record j t
  unfolding spelled channel.post holding
  post_spares c v front b spares e =
      pick_not (λ (u : Table). in_record j u ≡ in_record j t) equals
      (λ (some : first_in (channel_queue c) t ≢ 0).
      delivered-apart _ v j _ (λ (z : j ≡ first_in (channel_queue c) t - 1). spares (history.given c (done_so _ (post-done by t c v front) e) (eq-eqb c c refl) (omega arith)))
      ∙ (ended_mail given _ t).records j)
      (λ none. refl)

  spared : {call : Call} → Deals t call → (b : Bounded call) → Spares call b → changes (answer call by t) ≡ true → in_record j (change_by call t) ≡ in_record j t
  unfolding change_by delete channel.create channel.flush object_delete holding
  spared (removes i) b spares e =
      (walk_mail (next t i) (put i no_task t)).records j
      ∙ ap (λ (k : Task). k.message) (task-put i no_task t j (λ z. spares (history.gone (done_so _ (remove_done by t i) e) (ap TaskDelete (sym z)))))
  spared (creates c capacity) b spares e = refl
  spared (deletes c force) b spares e = (walk_mail task_count _).records j ∙ (all_mail task_count object_deleted (channel_queue c) t).records j
  spared (awaits c block limit) b spares e = wait_spares c block limit b spares e
  spared (posts c v front) b spares e = post_spares c v front b spares e
  spared (flushes c) b spares e = refl
  spared (leaves a h) b spares e = h.records j

-- A message stands in the record of a task until another one does, or the task is deleted.
pub records-stay : RecordsStay
unfolding effect
records-stay t s m j spares =
    step_one s m.interrupt (λ o. in_record j o.table ≡ in_record j t) m.call
    (λ e p. (chosen_mail (change_by m.call t)).records j ∙ spared s m.interrupt j (deals s m.call p) m.bounded spares e)
    (λ e. refl)
