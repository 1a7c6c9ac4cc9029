-- Who waits for whom, and at which base, after a store in the table; and the walk over the table.
use Rattle.std.specs.Prelude.{◌≡◌, refl, ◌≢◌, ℕ, ◌-◌, ◌<◌, eqb, length}
use Rattle.std.proofs.Math.Path.{sym, ap₂, subst₃, fun_ext}
use Rattle.std.proofs.Common.{ap, ◌∙◌, ⊎_elim, arith, length-set, get_or-set_same, eq-eqb, ne_eqb}
use Rattle.std.proofs.Math.Bool.{cond}
use Rattle.std.proofs.Math.Decide.{ℕ_discrete}
use Rattle.std.proofs.Math.ListN.{get_or-eq_default}
use Rattle.std.proofs.Math.Seq.{get_or-set_other}
use Rattle.std.proofs.lemmas.List.{set-get_or}
use Rattle.rules.specs.Decides.{equals}
use Rattle.rules.specs.Sizes.{task_count, waits_mutex}
use Rattle.rules.specs.Chain.{Leads, Ends, Fresh, fresh}
use Rattle.rules.specs.Afresh.{lt_or_le, fresh_is, fresh_one}
use Rattle.rules.specs.Table.{Table, task_of, mutex_of, written, no_task, no_mutex, with_work, with_task, with_mutex, holder_of}
use Rattle.rules.specs.Move.{next, base_of, fresh_in, put_work, walk}
use Rattle.rules.specs.declared.Task.{Task}
use Rattle.rules.specs.declared.Mutex.{Mutex}
use Rattle.rules.specs.Sound.{WorkedOut}
use Rattle.laws.specs.chains.Walk.{walk-fresh}
use Rattle.laws.specs.queues.Put.{pick, part-set, put_each, Stored, put-stays, put-stored, place_same, walk_keeps, walk_inv}
use Rattle.laws.specs.queues.Fields.{put-size, walk-size}

-- The task for which a record waits, or no task.
unfoldable pub waits_for : (ℕ → ℕ) → Task → ℕ
waits_for holders k = cond (eqb k.state waits_mutex) (holders k.object) task_count

pub next_is : (t : Table) (j : ℕ) → next t j ≡ waits_for (holder_of t) (task_of t j)
unfolding next waits_for
next_is t j = refl

pub waits_one : (holders : ℕ → ℕ) (k : Task) → k.state ≡ waits_mutex → waits_for holders k ≡ holders k.object
unfolding waits_for
waits_one holders k e = rw (eq-eqb k.state waits_mutex e)

pub waits_none : (holders : ℕ → ℕ) (k : Task) → k.state ≢ waits_mutex → waits_for holders k ≡ task_count
unfolding waits_for
waits_none holders k d = rw (ne_eqb k.state waits_mutex d)

-- Where the mutexes are the same, the holders are.
pub holders_same : (t u : Table) → u.mutexes ≡ t.mutexes → holder_of u ≡ holder_of t
unfolding holder_of
holders_same t u e = fun_ext (λ m. rw e)

-- What is no task waits for nothing.
pub ends-sized : (t : Table) → length t.tasks ≡ task_count → Ends task_count (next t)
ends-sized t z j h = rw (next_is t j, get_or-eq_default t.tasks no_task {n = j} (omega arith), waits_none (holder_of t) no_task (λ e. omega arith)) (omega arith)

-- ---- tables of the same graph

pub record Alike (t u : Table) : Type 0 where
  pub nexts : (j : ℕ) → next u j ≡ next t j
  pub bases : (j : ℕ) → base_of u j ≡ base_of t j
  pub works : (j : ℕ) → (task_of u j).work ≡ (task_of t j).work

pub alike-worked : {t u : Table} → Alike t u → WorkedOut t → WorkedOut u
alike-worked {t} {u} a w i l =
    subst₃ (λ (n b : ℕ → ℕ) (p : ℕ). Fresh task_count n b i p) (sym (fun_ext a.nexts)) (sym (fun_ext a.bases)) (sym (a.works i)) (w i l)

-- ---- one record stored

module _ {i : ℕ} {k : Task} {t u : Table} (s : Stored i k t u) where
  pub stored-size : length t.tasks ≡ task_count → length u.tasks ≡ task_count
  stored-size z = ap length s.tasks ∙ length-set t.tasks i k ∙ z

  pub stored-task : i < length t.tasks → task_of u i ≡ k
  stored-task l = rw s.tasks (get_or-set_same t.tasks i k no_task l)

  pub stored_other : (j : ℕ) → j ≢ i → task_of u j ≡ task_of t j
  stored_other j d = rw s.tasks (get_or-set_other t.tasks i j k no_task d)

  -- A field that the record stored has as before is as before.
  pub stored_field : (f : Task → ℕ) → f k ≡ f (task_of t i) → (j : ℕ) → f (task_of u j) ≡ f (task_of t j)
  stored_field f e j = rw s.tasks (part-set f t.tasks i k j no_task e)

  pub stored_next : i < length t.tasks → next u i ≡ waits_for (holder_of t) k
  stored_next l = rw (next_is u i, stored-task l, holders_same t u s.mutexes)

  pub stored_next_other : (j : ℕ) → j ≢ i → next u j ≡ next t j
  stored_next_other j d = rw (next_is u j, next_is t j, stored_other j d, holders_same t u s.mutexes)

  pub stored-nexts : waits_for (holder_of t) k ≡ next t i → (j : ℕ) → next u j ≡ next t j
  stored-nexts e j = rw (next_is u j, next_is t j, holders_same t u s.mutexes) (stored_field (waits_for (holder_of t)) (e ∙ next_is t i) j)

  pub stored-bases : k.base ≡ base_of t i → (j : ℕ) → base_of u j ≡ base_of t j
  stored-bases e = stored_field (λ x. x.base) e

  pub stored-works : k.work ≡ (task_of t i).work → (j : ℕ) → (task_of u j).work ≡ (task_of t j).work
  stored-works e = stored_field (λ x. x.work) e

  -- A record that waits for the same task, with the same base and working priority, changes nothing here.
  pub stored-alike : waits_for (holder_of t) k ≡ next t i → k.base ≡ base_of t i → k.work ≡ (task_of t i).work → Alike t u
  stored-alike n b w = record { nexts = stored-nexts n; bases = stored-bases b; works = stored-works w }

  -- Nor does one that waits as before.
  pub stored_as : k.state ≡ (task_of t i).state → k.object ≡ (task_of t i).object → k.base ≡ base_of t i → k.work ≡ (task_of t i).work → Alike t u
  unfolding waits_for
  stored_as e o = stored-alike (rw (next_is t i, e, o))

-- ---- one mutex stored

-- Task j waits for mutex m.
abbrev pub Waits : Table → ℕ → ℕ → Type 0
Waits t m j = ((task_of t j).state ≡ waits_mutex) × ((task_of t j).object ≡ m)

pub waits_or : (t : Table) (m j : ℕ) → Dec (Waits t m j)
waits_or t m j = go (ℕ_discrete (task_of t j).state waits_mutex) (ℕ_discrete (task_of t j).object m)
  where
    go : Dec ((task_of t j).state ≡ waits_mutex) → Dec ((task_of t j).object ≡ m) → Dec (Waits t m j)
    go (yes e) (yes q) = yes (e, q)
    go (yes e) (no d) = no (λ w. d w.1)
    go (no d) q = no (λ w. d w.0)

-- A waiter of m waits for its holder.
pub waits_next : (t : Table) (m j : ℕ) → Waits t m j → next t j ≡ holder_of t m
waits_next t m j w = next_is t j ∙ waits_one (holder_of t) (task_of t j) w.0 ∙ ap (holder_of t) w.1

-- Only a task waits.
pub waits-task : (t : Table) (m j : ℕ) → length t.tasks ≡ task_count → Waits t m j → j < task_count
waits-task t m j z w =
    ⊎_elim (λ l. l) (λ out. absurd (omega (arith, w.0, ap (λ (k : Task). k.state) (get_or-eq_default t.tasks no_task {n = j} (omega arith))))) (lt_or_le j task_count)

pub no_holder : (t : Table) (m : ℕ) → (mutex_of t m).holder ≡ 0 → holder_of t m ≡ task_count
unfolding holder_of
no_holder t m e = rw e

pub holder-written : (t : Table) (m i : ℕ) → i < task_count → holder_of t m ≡ i → (mutex_of t m).holder ≡ written i
unfolding holder_of
holder-written t m i l e = pick (λ h. h ≡ i → (mutex_of t m).holder ≡ written i) equals (λ z e. absurd (omega arith)) (λ (d : (mutex_of t m).holder ≢ 0) e. omega arith) e

pub written-holder : (t : Table) (m i : ℕ) → (mutex_of t m).holder ≡ written i → holder_of t m ≡ i
unfolding holder_of
written-holder t m i e = rw (e, ne_eqb (written i) 0 (λ z. omega arith)) (omega arith)

module _ (m : ℕ) (x : Mutex) (t : Table) where
  -- Those who do not wait for m wait for whom they did.
  pub mutex_other : (j : ℕ) → ¬ Waits t m j → next (with_mutex m x t) j ≡ next t j
  unfolding holder_of waits_for
  mutex_other j none = go (ℕ_discrete (task_of t j).state waits_mutex)
    where
      go : Dec ((task_of t j).state ≡ waits_mutex) → next (with_mutex m x t) j ≡ next t j
      go (yes e) = rw (next_is (with_mutex m x t) j, next_is t j, get_or-set_other t.mutexes m (task_of t j).object x no_mutex (λ q. none (e, q)))
      go (no d) = next_is (with_mutex m x t) j ∙ waits_none (holder_of (with_mutex m x t)) (task_of t j) d ∙ sym (waits_none (holder_of t) (task_of t j) d) ∙ sym (next_is t j)

  -- Nobody waits for m.
  pub unwaited-alike : ((j : ℕ) → ¬ Waits t m j) → Alike t (with_mutex m x t)
  unwaited-alike none = record { nexts = λ j. mutex_other j (none j); bases = λ j. refl; works = λ j. refl }

  -- The holder of m is as it was.
  kept_holders : x.holder ≡ (mutex_of t m).holder → holder_of (with_mutex m x t) ≡ holder_of t
  unfolding holder_of
  kept_holders e =
      fun_ext (λ n. part-set (λ y. cond (eqb y.holder 0) task_count (y.holder - 1)) t.mutexes m x n no_mutex (ap (λ (h : ℕ). cond (eqb h 0) task_count (h - 1)) e))

  pub held-alike : x.holder ≡ (mutex_of t m).holder → Alike t (with_mutex m x t)
  held-alike e = record { nexts = λ j. rw (next_is (with_mutex m x t) j, next_is t j, kept_holders e); bases = λ j. refl; works = λ j. refl }

-- ---- the walk

-- Where each task works at the number computed, each works at the one that is meant.
pub computed_worked : (t : Table) → length t.tasks ≡ task_count → ((j : ℕ) → j < task_count → (task_of t j).work ≡ fresh task_count (next t) (base_of t) j) → WorkedOut t
computed_worked t z h j l = rw (h j l) (fresh_is (base_of t) (ends-sized t z) l)

pub worked_computed : (t : Table) → length t.tasks ≡ task_count → WorkedOut t → (j : ℕ) → j < task_count → (task_of t j).work ≡ fresh task_count (next t) (base_of t) j
worked_computed t z w j l = fresh_one (w j l) (fresh_is (base_of t) (ends-sized t z) l)

-- A working priority makes no wait.
work-waits : (holders : ℕ → ℕ) (p : ℕ) (k : Task) → waits_for holders (with_work p k) ≡ waits_for holders k
unfolding waits_for
work-waits holders p k = refl

module _ (t : Table) (i p : ℕ) (l : i < task_count) where
  stored : Stored i (with_work p (task_of t i)) t (put_work t i p)
  stored = put-stored i (with_work p (task_of t i)) t l

  work_next : next (put_work t i p) ≡ next t
  work_next = fun_ext (stored-nexts stored (work-waits (holder_of t) p (task_of t i) ∙ sym (next_is t i)))

  pub work-base : base_of (put_work t i p) ≡ base_of t
  work-base = fun_ext (stored-bases stored refl)

  -- The working priority that the task has already changes nothing.
  pub work_same : (task_of t i).work ≡ p → put_work t i p ≡ t
  work_same e =
      put-stays i (with_work p (task_of t i)) t l (place_same (with_work p (task_of t i)) (task_of t i) refl refl refl refl) e
      ∙ ap (λ (x : ℕ). with_task i (with_work x (task_of t i)) t) (sym e)
      ∙ rw (set-get_or t.tasks i no_task)

  -- A new working priority changes no number worked out afresh.
  pub work-fresh : fresh_in (put_work t i p) ≡ fresh_in t
  unfolding fresh_in
  work-fresh = ap₂ (fresh task_count) work_next work-base

-- The walk changes no wait.
pub walk_next : (s : ℕ) (t : Table) → next (walk s t) ≡ next t
walk_next = walk_keeps next work_next

-- Task j works at the number worked out afresh, in a table with all its tasks.
abbrev AtFresh : Table → ℕ → Type 0
AtFresh t j = length t.tasks ≡ task_count → (task_of t j).work ≡ fresh_in t j

module _ (t : Table) (i : ℕ) where
  abbrev u : Table
  u = put_work t i (fresh_in t i)

  size : length u.tasks ≡ task_count → length t.tasks ≡ task_count
  size z = sym (put-size i (with_work (fresh_in t i) (task_of t i)) t) ∙ z

  same : i < task_count → (j : ℕ) → fresh_in u j ≡ fresh_in t j
  same l j = ap (λ (n : ℕ → ℕ). n j) (work-fresh t i (fresh_in t i) l)

  fresh_gains : i < task_count → AtFresh u i
  fresh_gains l z = ap (λ (k : Task). k.work) (stored-task (stored t i (fresh_in t i) l) (omega (arith, size z))) ∙ sym (same l i)

  fresh_keeps : (j : ℕ) → i < task_count → AtFresh t j → AtFresh u j
  fresh_keeps j l r z = put_each (λ n k. k.work ≡ fresh_in u n) i (with_work (fresh_in t i) (task_of t i)) t j (sym (same l i)) (r (size z) ∙ sym (same l j))

-- Where each task to which no chain leads from s works at the number worked out afresh, each does after the walk from s.
pub walked : (s : ℕ) (t : Table) → length t.tasks ≡ task_count → ((j : ℕ) → j < task_count → ¬ Leads (next t) s j → (task_of t j).work ≡ fresh task_count (next t) (base_of t) j) → WorkedOut (walk s t)
unfolding fresh_in
walked s t z right =
    let y = walk-size s t ∙ z in
    computed_worked (walk s t) y
    (λ j l. walk-fresh task_count next fresh_in put_work AtFresh work_next fresh_gains fresh_keeps s t (ends-sized t z) (λ i m apart x. right i m apart) j l y)

-- A walk where all is worked out changes nothing.
pub worked-walk : (s : ℕ) (t : Table) → length t.tasks ≡ task_count → WorkedOut t → walk s t ≡ t
unfolding fresh_in
worked-walk s t z w = walk_inv (λ u. u ≡ t) (λ u i l e. work_same u i (fresh_in u i) l (rw e (worked_computed t z w i l)) ∙ e) s refl
