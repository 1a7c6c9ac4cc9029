-- A mutex that is released: each task works at the priority worked out afresh, and all the groups are kept.
use Rattle.std.specs.Prelude.{◌≡◌, refl, ◌⊎◌, ◌≢◌, List, ℕ, ◌-◌, ◌≤◌, ◌<◌, length}
use Rattle.std.proofs.Common.{sym, ap, subst, ◌∙◌, inl, inr, arith, get_or-set_same, set-set}
use Rattle.std.proofs.Math.Path.{fun_ext}
use Rattle.rules.specs.Sizes.{task_count, mutex_count, given}
use Rattle.rules.specs.Chain.{fresh}
use Rattle.rules.specs.Table.{Table, task_of, mutex_of, mutex_queue, first_in, written, no_mutex, with_hold, holder_of, with_mutexes}
use Rattle.rules.specs.Family.{place_of}
use Rattle.rules.specs.Move.{next, base_of, ready}
use Rattle.rules.specs.Time.{caller_of}
use Rattle.rules.specs.Mutex.{with_hold_of, released}
use Rattle.rules.specs.declared.Task.{Task}
use Rattle.rules.specs.declared.Mutex.{Mutex}
use Rattle.rules.specs.Sound.{SoundWithin, SoundQueues, WorkedOut, SoundObjects}
use Rattle.laws.specs.queues.Put.{sized, Stored, put-stored}
use Rattle.laws.specs.chains.Change.{Toward, Handed, handed_kept}
use Rattle.laws.specs.queues.Fields.{bare, put_rest, walk_rest, walk-bare, walk-place, rest}
use Rattle.laws.specs.queues.Queues.{mutex-queued, put-queued, walk-queued}
use Rattle.laws.specs.queues.Rows.{among-mutexes}
use Rattle.laws.specs.queues.Stands.{placed-used, waiter-place, waiter_there, first_range, first_there, first_least, unwaited}
use Rattle.laws.specs.keeps.Becomes.{Becomes, as_is, then_walk, then_stored, then_put, freed, given_to, released_one}
use Rattle.laws.specs.chains.Graph.{waits_none, ends-sized, stored-size, stored_next, stored_next_other, stored-bases, stored-works, Waits, waits_or, waits_next, waits-task, no_holder, written-holder, mutex_other, computed_worked, worked_computed}
use Rattle.laws.specs.chains.Priorities.{changed-worked}
use Rattle.laws.specs.keeps.Objects.{become_objects, holder-used, mutex-objects, unheld_right, held_right}
use Rattle.laws.specs.keeps.Families.{mutex_stores}
use Rattle.laws.specs.keeps.Moves.{Midway, Waiter, no_wait, becomes_keeps, may_end, stores_walk_keeps}

-- ---- a free mutex is handed to the first of its waiters

module _ (m : ℕ) (t : Table) (q : SoundQueues t) (l : m < mutex_count) (worked : WorkedOut t) (free : (mutex_of t m).holder ≡ 0) (some : first_in (mutex_queue m) t ≢ 0)
    (waited : Waits t m (first_in (mutex_queue m) t - 1)) where
  abbrev w : ℕ
  w = first_in (mutex_queue m) t

  abbrev i : ℕ
  i = w - 1

  abbrev held : Table
  held = with_hold_of m w 1 t

  abbrev u : Table
  u = given_to m w t

  z : length t.tasks ≡ task_count
  z = q.shaped.tasks

  task : i < task_count
  task = omega (arith, first_range q (mutex_queue m) (omega arith))

  stored : Stored i (ready given (task_of t i)) held u
  stored = put-stored i (ready given (task_of t i)) held task

  holds : holder_of held m ≡ i
  holds = written-holder held m i (omega (arith, ap (λ (x : Mutex). x.holder) (get_or-set_same t.mutexes m (with_hold w 1 (mutex_of t m)) no_mutex (omega (arith, q.shaped.mutexes)))))

  -- The other waiters wait for the first, which is no less urgent.
  others : (j : ℕ) → j ≢ i → Dec (Waits t m j)
      → (next u j ≡ next t j) ⊎ ((j < task_count) × (task_count ≤ next t j) × (next u j ≡ i) × (fresh task_count (next t) (base_of t) i ≤ fresh task_count (next t) (base_of t) j))
  others j d (yes x) =
      let k = waits-task t m j z x in
      let least = first_least q (mutex_queue m) (omega arith) j k (waiter-place (task_of t j) among-mutexes x.0 ∙ ap mutex_queue x.1) in
      inr (
        k,
        omega (arith, waits_next t m j x, no_holder t m free),
        stored_next_other stored j d ∙ waits_next held m j x ∙ holds,
        omega (arith, least, worked_computed t z worked i task, worked_computed t z worked j k),
      )
  others j d (no x) = inl (stored_next_other stored j d ∙ mutex_other m (with_hold w 1 (mutex_of t m)) t j x)

  handing : Handed task_count (next t) (next u) (base_of t) i
  handing =
      record {
        was = omega (arith, waits_next t m i waited, no_holder t m free);
        free = omega (arith, stored_next stored (omega (arith, task)), waits_none (holder_of held) (ready given (task_of t i)) (λ e. omega arith));
        others = λ j d. others j d (waits_or t m j);
      }

  given-worked : WorkedOut u
  given-worked =
      computed_worked u (stored-size stored z)
      (λ j k.
      stored-works stored refl j
      ∙ worked_computed t z worked j k
      ∙ sym (handed_kept (ends-sized t z) (ends-sized u (stored-size stored z)) handing j k)
      ∙ ap (λ (b : ℕ → ℕ). fresh task_count (next u) b j) (sym (fun_ext (stored-bases stored refl))))

-- ---- a release

module _ {n : ℕ} {t : Table} (h : Midway n t) (m : ℕ) (l : m < mutex_count) (used : (mutex_of t m).used ≡ 1) (own : (mutex_of t m).holder ≡ written (caller_of t)) where
  s : SoundWithin t
  s = h.settled

  -- The mutex counts for nobody.
  abbrev unheld : Mutex
  unheld = with_hold 0 0 (mutex_of t m)

  abbrev free : Table
  free = with_hold_of m 0 0 t

  is_unheld : mutex_of free m ≡ unheld
  is_unheld = get_or-set_same t.mutexes m unheld no_mutex (omega (arith, s.queued.shaped.mutexes))

  none_holds : (mutex_of free m).holder ≡ 0
  none_holds = ap (λ (x : Mutex). x.holder) is_unheld

  -- The waiters of m no longer wait for the caller, and the others wait as they did.
  waits : (j : ℕ) → Dec (Waits t m j) → (next free j ≡ next t j) ⊎ (Toward task_count (caller_of t) (next t j) × Toward task_count (caller_of t) (next free j))
  waits j (yes q) = inr (inl (waits_next t m j q ∙ written-holder t m (caller_of t) own), inr (omega (arith, waits_next free m j q, no_holder free m none_holds)))
  waits j (no q) = inl (mutex_other m unheld t j q)

  queued : SoundQueues (freed m t)
  queued = walk-queued (caller_of t) (mutex-queued m unheld s.queued)

  worked : WorkedOut (freed m t)
  worked = changed-worked t free (caller_of t) (sized s) s.worked (sized s) (λ j. refl) (λ j. inl refl) (λ j. waits j (waits_or t m j))

  -- No task waits for it.
  frees : first_in (mutex_queue m) (freed m t) ≡ 0 → Midway n (freed m t)
  frees z =
      stores_walk_keeps h
      (mutex_stores s m unheld (unheld_right (mutex_of t m) used) (λ j k e x. absurd (unwaited among-mutexes queued m l z j k (same (λ y. y.state) j e) (same (λ y. y.object) j x))) (λ d. absurd (d refl)))
      (caller_of t)
      worked
    where
      same : (f : Task → ℕ) → (j : ℕ) {v : ℕ} → f (bare (task_of t j)) ≡ v → f (bare (task_of (freed m t) j)) ≡ v
      same f j e = ap f (walk-bare (caller_of t) free j) ∙ e

  -- The first of its waiters holds it.
  gives : first_in (mutex_queue m) (freed m t) ≢ 0 → Midway n (given_to m (first_in (mutex_queue m) (freed m t)) (freed m t))
  gives d = becomes_keeps h (may_end h waiter given (omega arith)) becomes (put-queued i _ (mutex-queued m _ queued)) first_works objects
    where
      w : ℕ
      w = first_in (mutex_queue m) (freed m t)

      i : ℕ
      i = w - 1

      u : Table
      u = given_to m w (freed m t)

      r : i < task_count
      r = omega (arith, d, first_range queued (mutex_queue m) (omega arith))

      -- It waits for m in the table before.
      there : place_of (task_of t i) ≡ mutex_queue m
      there = sym (walk-place (caller_of t) free i) ∙ first_there queued (mutex_queue m) (omega arith) d

      waited : Waits t m i
      waited = waiter_there (task_of t i) among-mutexes (s.tasks i r).in_range.object m l there

      waiter : Waiter t i
      waiter = record { task = r; used = placed-used (s.tasks i r) (omega (arith, there)); state = λ e. omega (arith, waited.0) }

      becomes : Becomes i (ready given (task_of t i)) t u
      becomes =
          let walked = then_walk (as_is i t free refl refl) (caller_of t) in
          let b = then_put (then_stored walked (with_hold_of m w 1 (freed m t)) refl refl) (ready given (task_of (freed m t) i)) r queued.shaped.tasks in
          record { itself = b.itself ∙ ap (λ (x : Task). bare (ready given x)) walked.itself; others = b.others; frames = b.frames }

      first_works : WorkedOut u
      first_works =
          let same = walk-bare (caller_of t) free i in
          given-worked m (freed m t) queued l worked (ap (λ (x : Table). (mutex_of x m).holder) (walk_rest (caller_of t) free) ∙ none_holds) d
          (ap (λ (k : Task). k.state) same ∙ waited.0, ap (λ (k : Task). k.object) same ∙ waited.1)

      -- But for the mutex, the table after: the waiter is plain, and the caller still holds it.
      with-mutexes : List Mutex → Table
      with-mutexes x = with_mutexes x u

      rests : rest u ≡ rest (with_hold_of m w 1 t)
      rests = put_rest i _ _ ∙ ap (λ (x : Table). rest (with_hold_of m w 1 x)) (walk_rest (caller_of t) free) ∙ rw (is_unheld, set-set t.mutexes m unheld (with_hold w 1 (mutex_of t m)))

      awake : SoundObjects (with-mutexes t.mutexes)
      awake =
          become_objects
          (then_stored becomes (with-mutexes t.mutexes) refl refl)
          (ap (λ (x : Table). rest (with_mutexes t.mutexes x)) rests)
          s.objects
          (no_wait t i 0 0 (omega arith))
          (holder-used s.objects i)

      objects : SoundObjects u
      objects =
          subst (λ (x : List Mutex). SoundObjects (with-mutexes x)) (sym (ap (λ (x : Table). x.mutexes) rests))
          (mutex-objects m (with_hold w 1 (mutex_of t m)) awake (held_right (mutex_of t m) used w 1 d (omega (arith, r)) (omega arith) (omega arith))
          (λ j k e x. record { used = used; held = d; apart = λ z. let own : j ≡ i = omega arith in omega (arith, e, ap (λ (a : ℕ). (task_of u a).state) own, ap (λ (a : Task). a.state) becomes.itself) })
          (λ e. ap (λ (k : Task). k.used) becomes.itself ∙ waiter.used))

  pub released_keeps : Midway n (released m t)
  released_keeps = released_one (Midway n) m t frees gives
