-- Each call keeps the order that `Order` says it keeps.
use Rattle.std.specs.Prelude.{◌≡◌, ◌≢◌, Bool, not, List, ltb, get_or, drop}
use Rattle.std.proofs.Math.Path.{refl, sym}
use Rattle.std.proofs.Common.{ap, ◌∙◌}
use Rattle.std.proofs.Math.Bool.{true, false}
use Rattle.std.proofs.lemmas.Bool.{false≢true}
use Prim.Native.Nat.{ℕ, ◌+◌, ◌-◌, ◌≤◌, ◌<◌}
use native.Mathlib.Omega.{arith}
use Rattle.rules.specs.Sizes.{task_count, semaphore_count, mutex_count, group_count, channel_count, given, aborted, object_deleted}
use Rattle.rules.specs.Table.{Table, Asked, nothing_asked, asking, task_of, mutex_of, semaphore_of, group_of, queue_of, queue_count, able_queue, mutex_queue, channel_queue, first_in, written, no_task, with_count, with_hold, with_flags, with_base, with_state, with_asked, with_message}
use Rattle.rules.specs.Decides.{equals, itself}
use Rattle.rules.specs.Move.{put, walk, next, ended}
use Rattle.rules.specs.Task.{create, delete, change_priority, suspend, resume}
use Rattle.rules.specs.Time.{caller_of, yield, delay, delay_resume}
use Rattle.rules.specs.Lock.{lock, unlock}
use Rattle.rules.specs.Quantum.{set_default}
use Rattle.rules.specs.Family.{Family, waiters_of, semaphores, channels, place_of}
use Rattle.rules.specs.Object.{emptied, limited, blocked, waits, taken, abort, object_abort, object_delete}
use Rattle.rules.specs.Semaphore as semaphore
use Rattle.rules.specs.Mutex.{with_hold_of, is_held, is_own}
use Rattle.rules.specs.Mutex as mutex
use Rattle.rules.specs.Group.{is_met, consumed, turned_over, posted, flags_of}
use Rattle.rules.specs.Group as group
use Rattle.rules.specs.Messages.{present, holding}
use Rattle.rules.specs.Channel.{delivered}
use Rattle.rules.specs.Channel as channel
use Rattle.rules.specs.Kinds.{told_in, spelled}
use Rattle.rules.specs.Step.{change_by, for_interrupts, answer, effect, changes, serve, step}
use Rattle.rules.specs.Sound.{Sound, SoundQueues}
use Rattle.rules.specs.declared.Task.{Task}
use Rattle.rules.specs.declared.Call.{Call}
use Rattle.rules.specs.declared.Call.TheVariants.{TaskCreate, TaskDelete, ChangePriority, Suspend, Resume, Yield, Delay, DelayResume, Lock, Unlock, Tick, SetDefaultQuantum, SemaphoreCreate, SemaphoreDelete, SemaphoreWait, SemaphorePost, SemaphoreAbort, MutexCreate, MutexDelete, MutexWait, MutexPost, MutexAbort, GroupCreate, GroupDelete, GroupWait, GroupPost, GroupAbort, ChannelCreate, ChannelDelete, ChannelWait, ChannelPost, ChannelAbort, ChannelFlush}
use Rattle.laws.specs.queues.Rows.{waiting, first_queue, last_queue}
use Rattle.laws.specs.queues.Stands.{free-place, not_able, first_there, able-stands}
use Rattle.laws.specs.queues.Put.{whichever, pick, pick_not, task-put_same, place_same, sized}
use Rattle.laws.specs.queues.Fields.{walk-place}
use Rattle.laws.specs.queues.Shapes.{semaphore_shaped, group_shaped}
use Rattle.laws.specs.chains.Graph.{worked-walk}
use Rattle.laws.specs.keeps.Becomes.{caller, freed, given_to, released_one}
use Rattle.laws.specs.queues.Queues.{put-queued, walk-queued, same_queued, mutex-queued}
use Rattle.laws.specs.keeps.Running.{caller-able, chosen_one}
use Rattle.laws.specs.numbers.Presumes.{Presumes, accepts}
use Rattle.laws.specs.keeps.Sounds.{step-serve}
use Rattle.laws.specs.order.Order.{Before, Stayed, Rotated, yields, OrderKept}
use Rattle.laws.specs.order.Moved.{Two, Same, Oneway, same_goes, Moved, Walks, walks_oneway, put_kept, moved_on, put-moved, same_moved, apart-moved, rotate-moved, walk-moved}
use Rattle.laws.specs.order.Rising.{freed-goes, Rises, rises_oneway, still_moved, ended-rises, all_rise, woken-rise, ticked-rises}
use Rattle.laws.specs.numbers.Found.{peer}
use Rattle.laws.specs.keeps.Ending.{emptied_all}
use Rattle.laws.specs.keeps.Moves.{sound-before, Waiter, stored_keeps, ended_keeps}
use Rattle.laws.specs.keeps.Messages.{holding-shaped}
use Rattle.laws.specs.keeps.Families.{waiter_of, Lawful, semaphores_lawful, mutexes_lawful, groups_lawful, channels_lawful}

-- ---- what is to be shown

-- A task that becomes m of k stays in queue q and works at the same priority: `Stayed`, of the tasks alone.
record Stays (q : ℕ) (k m : Task) : Type 0 where
  was : place_of k ≡ q
  is : place_of m ≡ q
  work : m.work ≡ k.work

-- Of a call that makes u of t.
abbrev KeepsOrder : (q a b : ℕ) → Table → Table → Type 0
KeepsOrder q a b t u = Stays q (task_of t a) (task_of u a) → Stays q (task_of t b) (task_of u b) → Before a b (queue_of t q) → Before a b (queue_of u q)

stays_same : {q : ℕ} {k m : Task} → Stays q k m → Same k m
stays_same s = record { place = s.is ∙ sym s.was; work = s.work }

stayed_stays : {q j : ℕ} {t u : Table} → Stayed q j t u → Stays q (task_of t j) (task_of u j)
stayed_stays s = record { was = s.was; is = s.is; work = s.work }

-- The queues are as they were.
unmoved : {A B C : Type 0} → A → B → C → C
unmoved x y h = h

-- ---- the calls

module _ {q a b : ℕ} (m : q < queue_count) (two : Two a b) where
  moved_kept : {W : ℕ → ℕ → ℕ → Type 0} {t u : Table} → Moved W a b t u → KeepsOrder q a b t u
  moved_kept x y z = x.kept (stays_same y) (stays_same z) q m

  -- One task changes.
  one_kept : {t : Table} (i : ℕ) (k : Task) → SoundQueues t → KeepsOrder q a b t (put i k t)
  one_kept i k s x y = put_kept two i k s (stays_same x) (stays_same y) q m

  -- One task changes that does not stay in queue q, and its chain moves.
  chain_kept : {t : Table} (i : ℕ) (k : Task) (w : ℕ) → SoundQueues t → (place_of (task_of t i) ≡ q → place_of k ≡ q → ⊥) → KeepsOrder q a b t (walk w (put i k t))
  chain_kept {t} i k w s d x y =
      moved_kept
      (moved_on two (walks_oneway left) (apart-moved two (walks_oneway left) i (far two.first x) (far two.second y) s k) (walk-moved two w (put-queued i k s)))
      x
      y
    where
      left : Table
      left = put i k t

      far : {j : ℕ} → j < task_count → Stays q (task_of t j) (task_of (walk w left) j) → j ≢ i
      far l z e = d (rw e at z.was) (sym (walk-place w left i ∙ ap place_of (task-put_same i k t (rw e at l) s.shaped.tasks)) ∙ rw e at z.is)

  module _ {t : Table} (s : Sound t) where
    queued : SoundQueues t
    queued = s.settled.queued

    delete_kept : (i : ℕ) → KeepsOrder q a b t (delete i t)
    unfolding delete
    delete_kept i = chain_kept i no_task (next t i) queued (λ x y. omega (arith, free-place))

    -- The base bears on no place.
    priority_kept : (i base : ℕ) → KeepsOrder q a b t (change_priority i base t)
    unfolding change_priority
    priority_kept i base =
        let k = with_base base (task_of t i) in
        let g = walks_oneway (put i k t) in
        moved_kept
        (moved_on two g
        (put-moved two g i k queued (same_goes g i (record { place = place_same (task_of t i) k refl refl refl refl; work = refl })))
        (walk-moved two i (put-queued i k queued)))

    yield_kept : Presumes Yield t → (Rotated Yield false t a → ⊥) → (Rotated Yield false t b → ⊥) → KeepsOrder q a b t (yield t)
    unfolding yield
    yield_kept (c, z, p) x y = moved_kept (rotate-moved two rises_oneway i (λ e. x (rw e rotated)) (λ e. y (rw e rotated)) queued (omega (arith, s.runs.range)))
      where
        i : ℕ
        i = caller_of t

        rotated : Rotated Yield false t i
        rotated = record { runs = omega (arith, c); ends = yields; unlocked = z; peer = (peer i t).holds p }

    -- ---- waits that end

    ended_kept : (outcome : ℕ) → outcome ≤ object_deleted → {i : ℕ} → Waiter t i → KeepsOrder q a b t (ended outcome i t)
    ended_kept outcome o w = moved_kept (ended-rises two (sound-before s) w outcome o)

    post_kept : (n : ℕ) → n < semaphore_count → KeepsOrder q a b t (semaphore.post n t)
    unfolding semaphore.post
    post_kept n l = pick_not (KeepsOrder q a b t) equals (λ z. ended_kept given (omega arith) (waiter_of semaphores_lawful s.settled n l z)) (λ z. unmoved)

    -- Each waiter is let go, and the object goes; the walk from its holder finds all worked out.
    object_delete_kept : {f : Family} → Lawful f → (o : ℕ) → o < f.count → KeepsOrder q a b t (object_delete f o t)
    unfolding object_delete
    object_delete_kept {f} k o l =
        let p = waiters_of f o in
        let n : p < queue_count = omega (arith, last_queue k.among) in
        let d : p ≢ able_queue = λ e. omega (arith, first_queue k.among) in
        let e = emptied_all p n d (sound-before s) in
        let x = k.goes e.midway.settled o l e.empty in
        let v = (stored_keeps e.midway x).settled in
        let w = worked-walk (f.holder t o) (f.gone o (emptied p t)) (sized v) v.worked in
        moved_kept
        (moved_on two rises_oneway (all_rise two task_count object_deleted p (omega arith) n d t (sound-before s))
        (same_moved two rises_oneway (emptied p t) (object_delete f o t) (ap (λ (y : Table). y.tasks) w ∙ x.0.tasks) (ap (λ (y : Table). y.queues) w ∙ x.0.queues)))

    object_abort_kept : {f : Family} → Lawful f → (o : ℕ) → o < f.count → first_in (waiters_of f o) t ≢ 0 → KeepsOrder q a b t (object_abort f o t)
    unfolding object_abort abort
    object_abort_kept k o l z = ended_kept aborted (omega arith) (waiter_of k s.settled o l z)

    -- The caller moves, and the mutex goes to the first that waits for it.
    mutex_post_kept : (n : ℕ) → n < mutex_count → KeepsOrder q a b t (mutex.post n t)
    unfolding mutex.post
    mutex_post_kept n l = whichever (KeepsOrder q a b t) (ltb 1 (mutex_of t n).nesting) (unmoved) (moved_kept (released_one (Moved (Walks free) a b t) n t (λ e. moves) goes))
      where
        free : Table
        free = with_hold_of n 0 0 t

        g : Oneway (Walks free)
        g = walks_oneway free

        moves : Moved (Walks free) a b t (freed n t)
        moves = moved_on two g (same_moved two g t free refl refl) (walk-moved two (caller_of t) (mutex-queued n _ queued))

        goes : first_in (mutex_queue n) (freed n t) ≢ 0 → Moved (Walks free) a b t (given_to n (first_in (mutex_queue n) (freed n t)) (freed n t))
        goes z =
            let w = first_in (mutex_queue n) (freed n t) in
            let r = walk-queued (caller_of t) (mutex-queued n _ queued) in
            moved_on two g moves
            (moved_on two g
            (same_moved two g (freed n t) (with_hold_of n w 1 (freed n t)) refl refl)
            (put-moved two g (w - 1) _ (mutex-queued n _ r) (freed-goes g (w - 1) (λ e. omega (arith, first_there r (mutex_queue n) (omega arith) z)) (omega arith) refl)))

    -- ---- waits

    taken_kept : {u : Table} → SoundQueues u → KeepsOrder q a b u (taken u)
    unfolding taken
    taken_kept r = one_kept _ _ r

    -- The caller leaves the able queue.
    waits_kept : {f : Family} → Lawful f → (o limit : ℕ) (asked : Asked) → t.running ≢ 0 → KeepsOrder q a b t (waits f o limit asked t)
    unfolding waits blocked
    waits_kept {f} n o limit asked r =
        let k = with_asked asked (with_state f.state o (limited limit t (caller t))) in
        chain_kept (caller_of t) k (f.holder t o) queued
        (λ x y. not_able k (λ e. omega (arith, waiting n.among)) (y ∙ sym x ∙ able-stands (caller t) (caller-able queued s.runs r)))

    semaphore_wait_kept : (n limit : ℕ) → t.running ≢ 0 → KeepsOrder q a b t (semaphore.wait n limit t)
    unfolding semaphore.wait
    semaphore_wait_kept n limit r =
        let x = with_count ((semaphore_of t n).count - 1) (semaphore_of t n) in
        whichever (KeepsOrder q a b t) (semaphores.offers t n) (taken_kept (same_queued queued refl refl refl (semaphore_shaped queued.shaped n x))) (waits_kept semaphores_lawful n limit nothing_asked r)

    mutex_wait_kept : (n limit : ℕ) → t.running ≢ 0 → KeepsOrder q a b t (mutex.wait n limit t)
    unfolding mutex.wait
    mutex_wait_kept n limit r =
        let own = with_hold (written (caller_of t)) 1 (mutex_of t n) in
        let nested = with_hold (mutex_of t n).holder ((mutex_of t n).nesting + 1) (mutex_of t n) in
        whichever (KeepsOrder q a b t) (not (is_held n t))
        (taken_kept (mutex-queued n own queued))
        (whichever (KeepsOrder q a b t) (is_own n t) (taken_kept (mutex-queued n nested queued)) (waits_kept mutexes_lawful n limit nothing_asked r))

    group_wait_kept : (g limit : ℕ) (asked : Asked) → t.running ≢ 0 → KeepsOrder q a b t (group.wait g limit asked t)
    unfolding group.wait
    group_wait_kept g limit asked r =
        let x = with_flags (turned_over (consumed (flags_of t g) asked) (flags_of t g)) (group_of t g) in
        whichever (KeepsOrder q a b t) (is_met (flags_of t g) asked) (taken_kept (same_queued queued refl refl refl (group_shaped queued.shaped g x))) (waits_kept groups_lawful g limit asked r)

    group_post_kept : (g mask on : ℕ) → g < group_count → KeepsOrder q a b t (group.post g mask on t)
    unfolding group.post
    group_post_kept g mask on l = moved_kept (woken-rise two task_count g (posted mask on (flags_of t g)) 0 0 l t (sound-before s))

    -- ---- messages

    -- What a channel has bears on no queue, and what a task is given neither on its place nor on its working priority.
    holding-queued : (c : ℕ) (l : List ℕ) → SoundQueues (holding c l t)
    unfolding holding
    holding-queued c l = same_queued queued refl refl refl (holding-shaped queued.shaped c l)

    delivered-moved : {u : Table} (i v : ℕ) → SoundQueues u → Moved Rises a b u (delivered i v u)
    unfolding delivered
    delivered-moved {u} i v r = still_moved two i (with_message v (task_of u i)) r refl refl refl refl refl

    channel_wait_kept : (c limit : ℕ) → t.running ≢ 0 → KeepsOrder q a b t (channel.wait c limit t)
    unfolding channel.wait delivered taken holding
    channel_wait_kept c limit r =
        let l = present t c in
        let k = holding-queued c (drop 1 l) in
        whichever (KeepsOrder q a b t) (channels.offers t c)
        (moved_kept
        (moved_on two rises_oneway (same_moved two rises_oneway t (holding c (drop 1 l) t) refl refl)
        (moved_on two rises_oneway (delivered-moved (caller_of t) (get_or l 0 0) k) (still_moved two _ _ (put-queued _ _ k) refl refl refl refl refl))))
        (waits_kept channels_lawful c limit nothing_asked r)

    channel_post_kept : (c v front : ℕ) → c < channel_count → KeepsOrder q a b t (channel.post c v front t)
    unfolding channel.post holding
    channel_post_kept c v front l =
        pick_not (KeepsOrder q a b t) equals
        (λ z.
        let w = waiter_of channels_lawful s.settled c l z in
        let h = sound-before s in
        moved_kept (moved_on two rises_oneway (ended-rises two h w given (omega arith)) (delivered-moved (first_in (channel_queue c) t - 1) v (ended_keeps h w given (omega arith)).settled.queued)))
        (λ z. unmoved)

    -- ---- all calls

    -- Of a call that is accepted; an interrupt's yield is not.
    change_kept : (c : Call) (interrupt : Bool) → changes (answer c interrupt t) ≡ true → Presumes c t
        → (Rotated c interrupt t a → ⊥) → (Rotated c interrupt t b → ⊥) → KeepsOrder q a b t (change_by c t)
    unfolding answer told_in spelled for_interrupts change_by create suspend resume delay delay_resume lock unlock set_default semaphore.create mutex.create group.create channel.create channel.flush holding
    change_kept (TaskCreate i base quantum) by e h x y = one_kept i _ queued
    change_kept (TaskDelete i) by e h x y = delete_kept i
    change_kept (ChangePriority i base) by e h x y = priority_kept i base
    change_kept (Suspend i) by e h x y = one_kept i _ queued
    change_kept (Resume i) by e h x y = one_kept i _ queued
    change_kept Yield true e h x y = absurd (false≢true e)
    change_kept Yield false e h x y = yield_kept h x y
    change_kept (Delay n) by e h x y = one_kept _ _ queued
    change_kept (DelayResume i) by e (l, u, d) x y = ended_kept given (omega arith) (record { task = l; used = u; state = λ z. omega arith })
    change_kept Lock by e h x y = unmoved
    change_kept Unlock by e h x y = unmoved
    change_kept Tick by e h x y = moved_kept (ticked-rises by two s x y)
    change_kept (SetDefaultQuantum n) by e h x y = unmoved
    change_kept (SemaphoreCreate n v) by e h x y = unmoved
    change_kept (SemaphoreDelete n force) by e l x y = object_delete_kept semaphores_lawful n l
    change_kept (SemaphoreWait n block limit) by e h x y = semaphore_wait_kept n limit h.0
    change_kept (SemaphorePost n) by e (l, u, m) x y = post_kept n l
    change_kept (SemaphoreAbort n) by e (l, z) x y = object_abort_kept semaphores_lawful n l z
    change_kept (MutexCreate n) by e h x y = unmoved
    change_kept (MutexDelete n force) by e l x y = object_delete_kept mutexes_lawful n l
    change_kept (MutexWait n block limit) by e h x y = mutex_wait_kept n limit h.0
    change_kept (MutexPost n) by e h x y = mutex_post_kept n h.1
    change_kept (MutexAbort n) by e (l, z) x y = object_abort_kept mutexes_lawful n l z
    change_kept (GroupCreate g flags) by e h x y = unmoved
    change_kept (GroupDelete g force) by e l x y = object_delete_kept groups_lawful g l
    change_kept (GroupWait g block limit mask test consume) by e h x y = group_wait_kept g limit (asking mask test consume) h.0
    change_kept (GroupPost g mask on) by e (l, u) x y = group_post_kept g mask on l
    change_kept (GroupAbort g) by e (l, z) x y = object_abort_kept groups_lawful g l z
    change_kept (ChannelCreate c capacity) by e h x y = unmoved
    change_kept (ChannelDelete c force) by e l x y = object_delete_kept channels_lawful c l
    change_kept (ChannelWait c block limit) by e h x y = channel_wait_kept c limit h.0
    change_kept (ChannelPost c v front) by e h x y = channel_post_kept c v front h.0
    change_kept (ChannelAbort c) by e (l, z) x y = object_abort_kept channels_lawful c l z
    change_kept (ChannelFlush c) by e h x y = unmoved

-- ---- the law

-- Each call on a sound table keeps the order.
pub serve_kept : (c : Call) (interrupt : Bool) {t : Table} → Sound t → OrderKept c interrupt t (serve c interrupt t).table
unfolding serve effect
serve_kept c interrupt {t} s q a b m la lb apart sa sb x y =
    pick (KeepsOrder q a b t) itself
    -- The choice of the running task touches no queue.
    (λ e.
    let kept = change_kept m (record { first = la; second = lb; apart = apart }) s c interrupt e ((accepts c interrupt t).holds e) x y in
    chosen_one (KeepsOrder q a b t) (change_by c t) kept (λ n. kept))
    (λ e. unmoved)
    (stayed_stays sa)
    (stayed_stays sb)

-- Each step of the kernel from a sound table keeps the order.
pub order_kept : (c : Call) (interrupt : Bool) {t : Table} → Sound t → OrderKept c interrupt t (step c interrupt t).table
order_kept c interrupt {t} s = rw (step-serve s c interrupt) (serve_kept c interrupt s)
