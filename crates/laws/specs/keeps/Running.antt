-- What the moves leave of the running task (`MayRunOn`), and what the choice of the first able task makes of it (`SoundRuns`).
use Rattle.std.specs.Prelude.{◌≡◌, refl, ◌⊎◌, ◌≢◌, true, ℕ, ◌-◌, ◌≤◌, eqb}
use Rattle.std.proofs.Common.{sym, ap, subst, ◌∙◌, inl, inr, ⊎_elim, arith}
use Rattle.std.proofs.Math.Decide.{ℕ_discrete}
use Rattle.rules.specs.Sizes.{task_count}
use Rattle.rules.specs.Table.{Table, task_of, able_queue, first_in, written, is_able, with_running, with_depth}
use Rattle.rules.specs.Decides.{equals}
use Rattle.rules.specs.Move.{chosen}
use Rattle.rules.specs.Time.{caller_of}
use Rattle.rules.specs.declared.Task.{Task}
use Rattle.rules.specs.Sound.{SoundTasks, SoundQueues, SoundRuns}
use Rattle.laws.specs.queues.Fields.{bare-able}
use Rattle.laws.specs.queues.Put.{whichever, pick}
use Rattle.laws.specs.queues.Ready.{first_chosen}
use Rattle.laws.specs.keeps.Becomes.{Becomes, becomes_each, caller}
use Rattle.laws.specs.queues.Stands.{Able, able, able_there, first_range, first_there}

-- ---- the choice

-- What the choice leaves as it is: at depth above 0 the running task is able.
pub record MayRunOn (t : Table) : Type 0 where
  pub range : t.running ≤ task_count
  pub able : t.depth ≢ 0 → t.running ≢ 0 → is_able (caller t) ≡ true

pub may-run_on : {t : Table} → SoundRuns t → MayRunOn t
may-run_on r = record { range = r.range; able = λ d n. ⊎_elim (λ z. absurd (n z)) (λ a. a) (r.able d) }

pub chosen-runs : {t : Table} → SoundQueues t → SoundTasks t → MayRunOn t → SoundRuns (chosen t)
unfolding chosen
chosen-runs {t} q tasks r =
    let first = first_chosen q (λ j l. omega (arith, (tasks j l).in_range.work)) in
    pick SoundRuns equals
    (λ e. record { range = omega (arith, first, first_range q able_queue (omega arith)); first = λ z. first; able = λ d. absurd (d e) })
    (λ d. record { range = r.range; first = λ z. absurd (d z); able = λ e. someone e (ℕ_discrete t.running 0) })
  where
    someone : t.depth ≢ 0 → Dec (t.running ≡ 0) → (t.running ≡ 0) ⊎ (is_able (caller t) ≡ true)
    someone d (yes z) = inl z
    someone d (no n) = inr (r.able d n)

-- What holds where none is chosen, and whoever is.
pub chosen_one : (P : Table → Type 0) (t : Table) → P t → ((n : ℕ) → P (with_running n t)) → P (chosen t)
unfolding chosen
chosen_one P t same new = whichever P (eqb t.depth 0) (new _) same

-- Between calls the running task is able at any depth.
pub caller-able : {t : Table} → SoundQueues t → SoundRuns t → t.running ≢ 0 → is_able (caller t) ≡ true
caller-able {t} q r n = go (ℕ_discrete t.depth 0)
  where
    go : Dec (t.depth ≡ 0) → is_able (caller t) ≡ true
    go (no d) = (may-run_on r).able d n
    go (yes z) =
        let e : t.running ≡ first_in able_queue t = r.first z in
        rw e (able_there _ (first_there q able_queue (omega arith) (λ m. n (e ∙ m))))

pub depth-runs : {t : Table} → SoundQueues t → SoundRuns t → (n : ℕ) → MayRunOn (with_depth n t)
depth-runs q r n = record { range = r.range; able = λ d. caller-able q r }

-- ---- who runs stays able

-- Task i becomes k, which is able where task i runs and is able.
pub becomes-runs : {i : ℕ} {k : Task} {t u : Table} → Becomes i k t u → (t.depth ≢ 0 → t.running ≡ written i → Able (task_of t i) → Able k) → MayRunOn t → MayRunOn u
becomes-runs {i} {k} {t} {u} b keeps r =
    record {
      range = omega (arith, runs, r.range);
      able = λ d n. subst (λ (v : ℕ). is_able (task_of u (v - 1)) ≡ true) (sym runs) (still (λ z. d (ap (λ (x : Table). x.depth) b.frames ∙ z)) (λ z. n (runs ∙ z)));
    }
  where
    runs : u.running ≡ t.running
    runs = ap (λ (x : Table). x.running) b.frames

    still : t.depth ≢ 0 → t.running ≢ 0 → is_able (task_of u (caller_of t)) ≡ true
    still d n =
        let a : is_able (caller t) ≡ true = r.able d n in
        sym (bare-able (task_of u (caller_of t)))
        ∙ becomes_each
        (λ j x. j ≡ caller_of t → is_able x ≡ true)
        b
        (caller_of t)
        (λ own. bare-able k ∙ (able k).passes (keeps d (omega arith) ((able (task_of t i)).holds (ap (λ (j : ℕ). is_able (task_of t j)) own ∙ a))))
        (λ own. bare-able (caller t) ∙ a)
        refl
