-- After each change that moves a chain, in a settled table without rings, a cheap walk is the walk. 17 tasks are enough.
use Rattle.std.specs.Prelude.{◌≡◌, ◌⊎◌, ◌≢◌, ◌↔◌, true, ℕ, suc, ◌≤◌, ◌<◌, eqb, length}
use Rattle.std.proofs.Math.Path.{refl, sym, ap, fun_ext}
use Rattle.std.proofs.Common.{subst, ◌∙◌, inr, arith, get_or-set_same}
use Rattle.std.proofs.Math.Logic.{inl}
use Rattle.std.proofs.Math.Decide.{ℕ_discrete}
use Rattle.rules.specs.Sizes.{task_count, mutex_count, waits_mutex}
use Rattle.rules.specs.Chain.{after, Leads, Ends, leads}
use Rattle.rules.specs.Afresh.{leads_exact}
use Rattle.rules.specs.Walk.{walk_on}
use Rattle.rules.specs.Table.{Table, nothing_asked, task_of, mutex_of, holder_of, mutex_queue, is_able, written, no_task, no_mutex, with_hold, with_base, with_mutex, with_state, with_asked}
use Rattle.rules.specs.Family.{of_state}
use Rattle.rules.specs.Move.{put, next, base_of, fresh_in, put_work, walk, away}
use Rattle.rules.specs.Object.{limited, blocked}
use Rattle.rules.specs.Mutex.{with_hold_of}
use Rattle.rules.specs.Time.{caller_of}
use Rattle.rules.specs.Sound.{Empty, SoundWithin}
use Rattle.rules.specs.declared.Task.{Task}
use Rattle.rules.specs.declared.Mutex.{Mutex}
use Rattle.laws.specs.queues.Put.{Stored, put-stored, whichever, sized}
use Rattle.laws.specs.queues.Queues.{mutex-queued}
use Rattle.laws.specs.queues.Rows.{among-mutexes}
use Rattle.laws.specs.queues.Stands.{unwaited}
use Rattle.laws.specs.chains.Graph.{waits_for, next_is, waits_one, waits_none, ends-sized, Alike, alike-worked, stored-size, stored-task, stored_other, stored_next, stored_next_other, stored-nexts, stored-bases, stored-works, Waits, waits_or, waits_next, waits-task, no_holder, written-holder, mutex_other, unwaited-alike}
use Rattle.laws.specs.chains.Priorities.{able_next}
use Rattle.laws.specs.local.Local.{ringless, Local}
use Rattle.laws.specs.local.Ring.{chain-short, ringless-within, closes, fewer-ringless}
use Rattle.laws.specs.local.Least.{local_same, right_local}
use Rattle.laws.specs.local.First.{firsts-least}
use Rattle.laws.specs.local.Cheap.{Come, Turns, walk-idle, walk_enough, cheap_walk}
use Rattle.laws.specs.local.Turn.{ForOrNone, changed, renewed, added_rise, Rising, rising, falling}
use Rattle.laws.specs.local.Table.{NoRings, work_of, local_in, rise, fall, Sized, store, Ready, settled-ready, ready-put, firsts}

-- ---- no rings

pub alike-ringless : {t u : Table} → Alike t u → NoRings t → NoRings u
alike-ringless {t} {u} a free = rw (fun_ext a.nexts) free

-- One task's record is stored, and it waits for no mutex.
pub stored-fewer : {t u : Table} {i : ℕ} {k : Task} → Stored i k t u → i < task_count → Sized t → k.state ≢ waits_mutex → (j : ℕ) → (next u j ≡ next t j) ⊎ (task_count ≤ next u j)
stored-fewer {t} {u} {i} {k} s l z d j = go (ℕ_discrete j i)
  where
    go : Dec (j ≡ i) → (next u j ≡ next t j) ⊎ (task_count ≤ next u j)
    go (yes e) = inr (rw e (omega (arith, stored_next s (omega (arith, z)), waits_none (holder_of t) k d)))
    go (no d) = inl (stored_next_other s j d)

-- A mutex that nobody holds holds up nobody.
pub unheld-fewer : (m : ℕ) (x : Mutex) (t : Table) → m < length t.mutexes → x.holder ≡ 0 → (j : ℕ) → (next (with_mutex m x t) j ≡ next t j) ⊎ (task_count ≤ next (with_mutex m x t) j)
unheld-fewer m x t l z j = go (waits_or t m j)
  where
    unheld : (mutex_of (with_mutex m x t) m).holder ≡ 0
    unheld = ap (λ (y : Mutex). y.holder) (get_or-set_same t.mutexes m x no_mutex l) ∙ z

    go : Dec (Waits t m j) → (next (with_mutex m x t) j ≡ next t j) ⊎ (task_count ≤ next (with_mutex m x t) j)
    go (yes q) = inr (omega (arith, waits_next (with_mutex m x t) m j q, no_holder (with_mutex m x t) m unheld))
    go (no q) = inl (mutex_other m x t j q)

-- ---- the walk has come to i

abbrev pub ComeTo : Table → ℕ → Type 0
ComeTo t i = Come task_count next base_of work_of Sized t i

-- 16 mutexes: a chain has 17 tasks at most.
abbrev pub most : ℕ
most = suc mutex_count

module _ {t : Table} (r : Ready t) (free : NoRings t) where
  pub ends-soon : (j : ℕ) → task_count ≤ after (next t) most j
  ends-soon = chain-short (ends-sized t r.queued.shaped.tasks) (holder_of t) (firsts r).held free

  pub soon_enough : (i : ℕ) → walk_on task_count next fresh_in put_work most i t ≡ walk i t
  soon_enough i = sym (walk_enough store fresh_in most task_count i t (ends-sized t r.queued.shaped.tasks) (ends-soon i) (omega arith))

-- The test for a sound table: no chain has more than 16 waits.
pub ringless-table : {t : Table} → Ready t → (ringless task_count (next t) most task_count ≡ true) ↔ NoRings t
ringless-table {t} r = ringless-within (ends-sized t r.queued.shaped.tasks) most (ends-soon r)

-- Request eight's test: a chain leads from h to i.
pub leads-table : (t : Table) (h i : ℕ) → Sized t → i < task_count → (leads task_count (next t) task_count h i ≡ true) ↔ Leads (next t) h i
leads-table t h i z l = leads_exact (ends-sized t z) l h

-- A rise to p is the walk.
pub rise-walk : {t : Table} (p i : ℕ) → Ready t → ComeTo t i → Rising task_count next base_of work_of p t i → rise p most i t ≡ walk i t
unfolding fresh_in
rise-walk {t} p i r c v = cheap_walk store (rising store p) most i t c v ∙ soon_enough r c.free i

falls : Turns task_count next base_of work_of local_in put_work Sized (λ t i. Ready t)
unfolding local_in
falls = falling store Ready (λ t s l z r. firsts-least (base_of t) (firsts r) s l) (λ t s l z r. ready-put s _ (r.objects s l) r)

-- A fall is the walk.
pub fall-walk : {t : Table} (i : ℕ) → Ready t → ComeTo t i → fall most i t ≡ walk i t
unfolding fresh_in
fall-walk {t} i r c = cheap_walk store falls most i t c r ∙ soon_enough r c.free i

-- ---- a record is stored, and the chain moves

module _ {t : Table} (h : SoundWithin t) (free : NoRings t) where
  ends : Ends task_count (next t)
  ends = ends-sized t (sized h)

  local_now : Local task_count (next t) (base_of t) (work_of t)
  local_now = right_local ends h.worked

  -- The walk comes to s first, where only waits for s began or ended and only the base of s changed.
  come_first : (u : Table) (s : ℕ) → Sized u → NoRings u → ((j : ℕ) → work_of u j ≡ work_of t j)
      → ((j : ℕ) → j ≢ s → base_of u j ≡ base_of t j)
      → ((j : ℕ) → (next u j ≡ next t j) ⊎ (ForOrNone task_count s (next t j) × ForOrNone task_count s (next u j)))
      → ComeTo u s
  come_first u s z none works bases waits =
      record { fit = z; ends = ends-sized u z; free = none; rest = changed s bases waits (local_same (λ i. refl) works local_now) }

  -- The caller waits for mutex m, which another task holds: no ring is closed exactly if no chain leads from the holder to the caller,
  module _ (m limit : ℕ) (l : m < mutex_count) (c : caller_of t < task_count) (a : is_able (task_of t (caller_of t)) ≡ true) where
    abbrev k : Task
    k = with_asked nothing_asked (with_state waits_mutex m (limited limit t (task_of t (caller_of t))))

    s : Stored (caller_of t) k t (put (caller_of t) k t)
    s = put-stored (caller_of t) k t c

    keeps : (k.base ≡ base_of t (caller_of t)) × (k.work ≡ work_of t (caller_of t))
    keeps = whichever (λ (x : Task). (x.base ≡ base_of t (caller_of t)) × (x.work ≡ work_of t (caller_of t))) (eqb limit 0) (refl, refl) (refl, refl)

    waits : next (put (caller_of t) k t) (caller_of t) ≡ holder_of t m
    waits = stored_next s (omega (arith, sized h)) ∙ waits_one (holder_of t) k refl

    was : task_count ≤ next t (caller_of t)
    was = omega (arith, able_next t (caller_of t) a)

    pub wait-closes : NoRings (blocked waits_mutex m limit nothing_asked t) ↔ (¬ Leads (next t) (holder_of t m) (caller_of t))
    unfolding blocked
    wait-closes = closes ends (ends-sized (put (caller_of t) k t) (stored-size s (sized h))) c was waits (stored_next_other s) free

    -- and then the walk is a rise to the number of the caller.
    pub wait-rise : (¬ Leads (next t) (holder_of t m) (caller_of t)) → rise (work_of t (caller_of t)) most (holder_of t m) (blocked waits_mutex m limit nothing_asked t) ≡ walk (holder_of t m) (blocked waits_mutex m limit nothing_asked t)
    unfolding blocked of_state
    wait-rise apart =
        rise-walk (work_of t (caller_of t)) (holder_of t m) (ready-put (caller_of t) k l (settled-ready h))
        (come_first u (holder_of t m) (stored-size s (sized h)) (wait-closes.1 apart) (stored-works s keeps.1) (λ j d. stored-bases s keeps.0 j) (λ j. edge j (ℕ_discrete j (caller_of t))))
        (subst (λ (p : ℕ). Rising task_count next base_of work_of p u (holder_of t m)) (stored-works s keeps.1 (caller_of t))
        (added_rise (caller_of t) (holder_of t m) c was waits (stored_next_other s) (local_same (stored-bases s keeps.0) (stored-works s keeps.1) local_now)))
      where
        u : Table
        u = put (caller_of t) k t

        edge : (j : ℕ) → Dec (j ≡ caller_of t) → (next u j ≡ next t j) ⊎ (ForOrNone task_count (holder_of t m) (next t j) × ForOrNone task_count (holder_of t m) (next u j))
        edge j (yes e) = inr (inr (rw e was), inl (rw e waits))
        edge j (no d) = inl (stored_next_other s j d)

  -- Task i no longer waits.
  pub away-ringless : (i : ℕ) → i < task_count → NoRings (put i (away (task_of t i)) t)
  away-ringless i l = fewer-ringless (ends-sized t (sized h)) (stored-fewer (put-stored i (away (task_of t i)) t l) l (sized h) (λ e. omega arith)) free

  pub away-fall : (i : ℕ) → i < task_count → fall most (next t i) (put i (away (task_of t i)) t) ≡ walk (next t i) (put i (away (task_of t i)) t)
  unfolding of_state
  away-fall i l =
      fall-walk (next t i) (ready-put i k (omega arith) (settled-ready h))
      (come_first u (next t i) (stored-size s (sized h)) (away-ringless i l) (stored-works s refl) (λ j d. stored-bases s refl j) (λ j. edge j (ℕ_discrete j i)))
    where
      k : Task
      k = away (task_of t i)

      u : Table
      u = put i k t

      s : Stored i k t u
      s = put-stored i k t l

      edge : (j : ℕ) → Dec (j ≡ i) → (next u j ≡ next t j) ⊎ (ForOrNone task_count (next t i) (next t j) × ForOrNone task_count (next t i) (next u j))
      edge j (yes e) = inr (inl (ap (next t) e), inr (rw e (omega (arith, stored_next s (omega (arith, sized h)), waits_none (holder_of t) k (λ e. omega arith)))))
      edge j (no d) = inl (stored_next_other s j d)

  -- The base of task i changes.
  pub base-fall : (i base : ℕ) → i < task_count → fall most i (put i (with_base base (task_of t i)) t) ≡ walk i (put i (with_base base (task_of t i)) t)
  unfolding waits_for
  base-fall i base l =
      fall-walk i (ready-put i k (h.tasks i l).in_range.object (settled-ready h))
      (come_first u i (stored-size s (sized h)) (rw (fun_ext nexts) free) (stored-works s refl) (λ j d. ap (λ (x : Task). x.base) (stored_other s j d)) (λ j. inl (nexts j)))
    where
      k : Task
      k = with_base base (task_of t i)

      u : Table
      u = put i k t

      s : Stored i k t u
      s = put-stored i k t l

      nexts : (j : ℕ) → next u j ≡ next t j
      nexts = stored-nexts s (sym (next_is t i))

  -- The caller lets mutex m go.
  pub free-ringless : (m : ℕ) → m < mutex_count → NoRings (with_hold_of m 0 0 t)
  free-ringless m l = fewer-ringless (ends-sized t (sized h)) (unheld-fewer m (with_hold 0 0 (mutex_of t m)) t (omega (arith, h.queued.shaped.mutexes)) refl) free

  pub free-fall : (m i : ℕ) → m < mutex_count → (mutex_of t m).holder ≡ written i → fall most i (with_hold_of m 0 0 t) ≡ walk i (with_hold_of m 0 0 t)
  free-fall m i l own =
      fall-walk i (record { queued = mutex-queued m (with_hold 0 0 (mutex_of t m)) h.queued; objects = (settled-ready h).objects })
      (come_first u i (sized h) (free-ringless m l) (λ j. refl) (λ j d. refl) (λ j. edge j (waits_or t m j)))
    where
      u : Table
      u = with_hold_of m 0 0 t

      unheld : (mutex_of u m).holder ≡ 0
      unheld = ap (λ (x : Mutex). x.holder) (get_or-set_same t.mutexes m (with_hold 0 0 (mutex_of t m)) no_mutex (omega (arith, h.queued.shaped.mutexes)))

      edge : (j : ℕ) → Dec (Waits t m j) → (next u j ≡ next t j) ⊎ (ForOrNone task_count i (next t j) × ForOrNone task_count i (next u j))
      edge j (yes q) = inr (inl (waits_next t m j q ∙ written-holder t m i own), inr (omega (arith, waits_next u m j q, no_holder u m unheld)))
      edge j (no q) = inl (mutex_other m (with_hold 0 0 (mutex_of t m)) t j q)

  -- Task i, which holds no mutex, is gone.
  pub gone-fall : (i : ℕ) → i < task_count → ((j : ℕ) → next t j ≢ i) → fall most (next t i) (put i no_task t) ≡ walk (next t i) (put i no_task t)
  unfolding of_state
  gone-fall i l nobody =
      fall-walk (next t i) (ready-put i no_task (omega arith) (settled-ready h))
      (record {
        fit = z;
        ends = ends-sized u z;
        free = fewer-ringless ends (λ j. fewer j (ℕ_discrete j i)) free;
        rest =
            renewed i nobody out (ap (λ (x : Task). x.base) is ∙ sym (ap (λ (x : Task). x.work) is))
            (λ j d. (stored_next_other s j d, ap (λ (x : Task). x.base) (stored_other s j d), ap (λ (x : Task). x.work) (stored_other s j d))) local_now;
      })
    where
      u : Table
      u = put i no_task t

      s : Stored i no_task t u
      s = put-stored i no_task t l

      z : Sized u
      z = stored-size s (sized h)

      is : task_of u i ≡ no_task
      is = stored-task s (omega (arith, sized h))

      out : task_count ≤ next u i
      out = omega (arith, stored_next s (omega (arith, sized h)), waits_none (holder_of t) no_task (λ e. omega arith))

      fewer : (j : ℕ) → Dec (j ≡ i) → (next u j ≡ next t j) ⊎ (task_count ≤ next u j)
      fewer j (yes e) = inr (rw e out)
      fewer j (no d) = inl (stored_next_other s j d)

  -- A mutex without waiters is gone: no number changes, and no walk is needed.
  pub idle-walk : (m i : ℕ) → m < mutex_count → Empty (mutex_queue m) t → walk i (with_mutex m no_mutex t) ≡ with_mutex m no_mutex t
  unfolding fresh_in
  idle-walk m i l e =
      walk-idle store task_count i u (sized h) (ends-sized u (sized h)) (alike-worked (unwaited-alike m no_mutex t (λ j w. unwaited among-mutexes h.queued m l e j (waits-task t m j (sized h) w) w.0 w.1)) h.worked)
    where
      u : Table
      u = with_mutex m no_mutex t
