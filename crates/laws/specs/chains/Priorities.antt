-- A change that begins at one task, and the walk from there, leave each task at the working priority worked out afresh.
use Rattle.std.specs.Prelude.{◌≡◌, ◌⊎◌, ◌≢◌, true, ℕ, zero, suc, ◌-◌, ◌≤◌, ◌<◌, eqb, length}
use Rattle.std.proofs.Math.Path.{refl, sym}
use Rattle.std.proofs.Common.{ap, subst, ◌∙◌, inl, inr, ⊎_elim, arith}
use Rattle.std.proofs.Math.Decide.{ℕ_discrete}
use Rattle.std.proofs.Math.ListN.{get_or-eq_default}
use Rattle.rules.specs.Sizes.{task_count, mutex_count, delayed, waits_mutex}
use Rattle.rules.specs.Chain.{after, Leads, Fresh, fresh}
use Rattle.rules.specs.Afresh.{lt_or_le, here, split, fresh_is, fresh_one}
use Rattle.rules.specs.Table.{Table, Asked, task_of, mutex_of, is_able, written, no_mutex, with_base, with_state, with_mark, holder_of, with_asked}
use Rattle.rules.specs.Move.{put, next, base_of, fresh_in, put_work, walk, away, ended}
use Rattle.rules.specs.Task.{created, change_priority}
use Rattle.rules.specs.Object.{limited}
use Rattle.rules.specs.Sound.{Each, Shaped, SoundWithin, WorkedOut}
use Rattle.rules.specs.declared.Task.{Task}
use Rattle.rules.specs.declared.Mutex.{Mutex}
use Rattle.laws.specs.queues.Put.{sized, whichever, Stored, put-stored}
use Rattle.laws.specs.chains.Walk.{walk_on_past}
use Rattle.laws.specs.chains.Change.{SameWait, out_not, keeps_number, Toward, untouched}
use Rattle.laws.specs.queues.Stands.{able}
use Rattle.laws.specs.chains.Graph.{waits_for, next_is, waits_one, waits_none, ends-sized, alike-worked, stored-size, stored-task, stored_other, stored_next, stored_next_other, stored-nexts, stored-bases, stored-works, stored-alike, holder-written, worked_computed, walked, walk_next}

-- ---- a change, and the walk from where it began

-- Bases change at s alone, and waits for s alone: the walk from s makes up for the change.
pub changed-worked : (t u : Table) (s : ℕ) → length t.tasks ≡ task_count → WorkedOut t → length u.tasks ≡ task_count → ((j : ℕ) → (task_of u j).work ≡ (task_of t j).work)
    → ((j : ℕ) → (base_of u j ≡ base_of t j) ⊎ (j ≡ s))
    → ((j : ℕ) → (next u j ≡ next t j) ⊎ (Toward task_count s (next t j) × Toward task_count s (next u j)))
    → WorkedOut (walk s u)
changed-worked t u s z w y same bases waits =
    walked s u y (λ j l apart. same j ∙ worked_computed t z w j l ∙ sym (untouched (ends-sized t z) (ends-sized u y) s bases waits j l apart))

-- An able task waits for none.
pub able_next : (t : Table) (i : ℕ) → is_able (task_of t i) ≡ true → next t i ≡ task_count
able_next t i a = next_is t i ∙ waits_none (holder_of t) (task_of t i) (λ e. omega (arith, ((able (task_of t i)).holds a).state))

-- A time limit changes neither base nor working priority.
limited_keeps : (limit : ℕ) (t : Table) (k : Task) → ((limited limit t k).base ≡ k.base) × ((limited limit t k).work ≡ k.work)
limited_keeps limit t k = whichever (λ (x : Task). (x.base ≡ k.base) × (x.work ≡ k.work)) (eqb limit 0) (refl, refl) (refl, refl)

module _ {t : Table} (h : SoundWithin t) {i : ℕ} (l : i < task_count) where
  -- Task i has another record with the same working priority: where its base is another the walk begins at i, and where its wait is
  -- another it was and is for the task where the walk begins, or for none.
  stored-worked : (k : Task) (s : ℕ) → k.work ≡ (task_of t i).work → (k.base ≡ base_of t i) ⊎ (i ≡ s)
      → (waits_for (holder_of t) k ≡ next t i) ⊎ (Toward task_count s (next t i) × Toward task_count s (waits_for (holder_of t) k))
      → WorkedOut (walk s (put i k t))
  stored-worked k s work base wait =
      changed-worked t u s (sized h) h.worked (stored-size r (sized h)) (stored-works r work) (λ m. bases m (ℕ_discrete m i) base) (λ m. waits m (ℕ_discrete m i) wait)
    where
      u : Table
      u = put i k t

      r : Stored i k t u
      r = put-stored i k t l

      bases : (m : ℕ) → Dec (m ≡ i) → (k.base ≡ base_of t i) ⊎ (i ≡ s) → (base_of u m ≡ base_of t m) ⊎ (m ≡ s)
      bases m (no d) b = inl (ap (λ (x : Task). x.base) (stored_other r m d))
      bases m (yes e) (inl b) = inl (stored-bases r b m)
      bases m (yes e) (inr b) = inr (e ∙ b)

      waits : (m : ℕ) → Dec (m ≡ i) → (waits_for (holder_of t) k ≡ next t i) ⊎ (Toward task_count s (next t i) × Toward task_count s (waits_for (holder_of t) k))
          → (next u m ≡ next t m) ⊎ (Toward task_count s (next t m) × Toward task_count s (next u m))
      waits m (no d) x = inl (stored_next_other r m d)
      waits m (yes e) (inl x) = inl (stored-nexts r x m)
      waits m (yes e) (inr (x, y)) = inr (rw e (x, rw (stored_next r (omega (arith, sized h))) y))

  pub change_priority-worked : (base : ℕ) → WorkedOut (change_priority i base t)
  unfolding change_priority waits_for
  change_priority-worked base = stored-worked (with_base base (task_of t i)) i refl (inr refl) (inl (sym (next_is t i)))

  -- Its wait is over: it leaves, the chain moves from the holder for whom it waited, and it becomes plain.
  pub ended-worked : (outcome : ℕ) → WorkedOut (ended outcome i t)
  unfolding ended
  ended-worked outcome = alike-worked (stored-alike (put-stored i _ (walk (next t i) (put i k t)) l) (waits_none (holder_of (walk (next t i) (put i k t))) _ (λ e. omega arith) ∙ sym still) refl refl) over
    where
      k : Task
      k = away (task_of t i)

      none : waits_for (holder_of t) k ≡ task_count
      none = waits_none (holder_of t) k (λ e. omega arith)

      over : WorkedOut (walk (next t i) (put i k t))
      over = stored-worked k (next t i) refl (inl refl) (inr (inl refl, inr (omega (arith, none))))

      still : next (walk (next t i) (put i k t)) i ≡ task_count
      still = ap (λ (n : ℕ → ℕ). n i) (walk_next (next t i) (put i k t)) ∙ stored_next (put-stored i k t l) (omega (arith, sized h)) ∙ none

  module _ (a : is_able (task_of t i) ≡ true) where
    -- It is able, and is delayed: no chain moves.
    pub delay-worked : (mark : ℕ) → WorkedOut (put i (with_state delayed 0 (with_mark 1 mark (task_of t i))) t)
    delay-worked mark = alike-worked (stored-alike (put-stored i _ t l) (waits_none (holder_of t) _ (λ e. omega arith) ∙ sym (able_next t i a)) refl refl) h.worked

    -- A wait of it begins: where it is for a mutex, the walk from its holder.
    pub blocked-worked : (state object limit : ℕ) (asked : Asked) (w : ℕ) → (state ≡ waits_mutex → w ≡ holder_of t object)
        → WorkedOut (walk w (put i (with_asked asked (with_state state object (limited limit t (task_of t i)))) t))
    blocked-worked state object limit asked w from =
        let (base, work) = limited_keeps limit t (task_of t i) in
        stored-worked k w work (inl base) (inr (inr (omega (arith, able_next t i a)), waits (ℕ_discrete state waits_mutex)))
      where
        k : Task
        k = with_asked asked (with_state state object (limited limit t (task_of t i)))

        waits : Dec (state ≡ waits_mutex) → Toward task_count w (waits_for (holder_of t) k)
        waits (yes e) = inl (waits_one (holder_of t) k e ∙ sym (from e))
        waits (no d) = inr (omega (arith, waits_none (holder_of t) k d))

-- ---- a task that comes or goes

-- Where nobody waits for i, only i itself leads to i.
alone-leads : {f : ℕ → ℕ} {i : ℕ} → ((j : ℕ) → f j ≢ i) → (j : ℕ) → Leads f j i → j ≡ i
unfolding after
alone-leads {f} {i} none j c = go c.waits j c.there
  where
    go : (n j : ℕ) → after f n j ≡ i → j ≡ i
    go zero j e = e
    go (suc n) j e = absurd (none j (go n (f j) e))

-- Nobody waits for a task that holds no mutex.
nobody-waits : (t : Table) (i : ℕ) → Shaped t → i < task_count → Each mutex_count (λ m. (mutex_of t m).holder ≢ written i) → (j : ℕ) → next t j ≢ i
nobody-waits t i s l none j e = go (ℕ_discrete (task_of t j).state waits_mutex)
  where
    m : ℕ
    m = (task_of t j).object

    go : Dec ((task_of t j).state ≡ waits_mutex) → ⊥
    go (yes q) =
        let held : (mutex_of t m).holder ≡ written i = holder-written t m i l (sym (waits_one (holder_of t) (task_of t j) q) ∙ sym (next_is t j) ∙ e) in
        ⊎_elim
        (λ k. none m k held)
        (λ k. omega (arith, ap (λ (x : Mutex). x.holder) (get_or-eq_default t.mutexes no_mutex {n = m} (omega (arith, s.mutexes)))))
        (lt_or_le m mutex_count)
    go (no d) = omega (arith, next_is t j, waits_none (holder_of t) (task_of t j) d)

-- Task i, which holds no mutex, has a new record, which waits for none and works at its base; the walk begins at the task for which i waited.
module _ {t : Table} (h : SoundWithin t) {i : ℕ} (l : i < task_count) (unheld : Each mutex_count (λ m. (mutex_of t m).holder ≢ written i)) (k : Task) (d : k.state ≢ waits_mutex)
    (own : k.work ≡ k.base) where
  abbrev u : Table
  u = put i k t

  s : Stored i k t u
  s = put-stored i k t l

  size : length u.tasks ≡ task_count
  size = stored-size s (sized h)

  out : task_count ≤ next u i
  out = omega (arith, stored_next s (omega (arith, sized h)), waits_none (holder_of t) k d)

  -- Nobody waits for it.
  nobody : (j : ℕ) → Dec (j ≡ i) → next u j ≢ i
  nobody j (yes q) e = omega (arith, out, ap (next u) q)
  nobody j (no q) e = nobody-waits t i h.queued.shaped l unheld j (sym (stored_next_other s j q) ∙ e)

  alone-fresh : Fresh task_count (next u) (base_of u) i (task_of u i).work
  alone-fresh =
      let is = stored-task s (omega (arith, sized h)) in
      let same : (task_of u i).work ≡ base_of u i = ap (λ (x : Task). x.work) is ∙ own ∙ sym (ap (λ (x : Task). x.base) is) in
      record { least = λ j m c. omega (arith, same, ap (base_of u) (alone-leads (λ j. nobody j (ℕ_discrete j i)) j c)); among = (i, l, here, sym same) }

  renewed : (j : ℕ) → j < task_count → ¬ Leads (next u) (next t i) j → Dec (j ≡ i) → (task_of u j).work ≡ fresh task_count (next u) (base_of u) j
  renewed j m apart (yes e) = rw e (fresh_one alone-fresh (fresh_is (base_of u) (ends-sized u size) l))
  renewed j m apart (no q) =
      ap (λ (x : Task). x.work) (stored_other s j q)
      ∙ worked_computed t (sized h) h.worked j m
      ∙ sym (keeps_number (ends-sized t (sized h)) (ends-sized u size) j m (λ n. base n (ℕ_discrete n i)) (λ n. edge n (ℕ_discrete n i)))
    where
      base : (n : ℕ) → Dec (n ≡ i) → (base_of u n ≡ base_of t n) ⊎ (¬ Leads (next u) n j)
      base n (yes e) = inr (rw e (λ c. ⊎_elim (λ p. q (sym p)) (out_not (ends-sized u size) m out) (split c)))
      base n (no p) = inl (ap (λ (x : Task). x.base) (stored_other s n p))

      edge : (n : ℕ) → Dec (n ≡ i) → SameWait (next t) (next u) j n
      edge n (yes e) = inr (rw e (apart, out_not (ends-sized u size) m out))
      edge n (no p) = inl (stored_next_other s n p)

  pub renewed-worked : WorkedOut (walk (next t i) u)
  renewed-worked = walked (next t i) u size (λ j m apart. renewed j m apart (ℕ_discrete j i))

-- A free number: no task waited, and no chain moves.
pub created-worked : {t : Table} → SoundWithin t → (i base quantum : ℕ) → i < task_count → (task_of t i).used ≡ 0 → WorkedOut (put i (created base quantum) t)
created-worked {t} h i base quantum l free =
    let k = created base quantum in
    subst WorkedOut (walk_on_past task_count next fresh_in put_work task_count (next t i) (put i k t) out) (renewed-worked h l unheld k (λ e. omega arith) refl)
  where
    unheld : Each mutex_count (λ m. (mutex_of t m).holder ≢ written i)
    unheld m k e =
        let there : (mutex_of t m).holder - 1 ≡ i = omega arith in
        omega (arith, h.objects.holders m k (λ z. omega arith), ap (λ (j : ℕ). (task_of t j).used) there)

    out : task_count ≤ next t i
    out = omega (arith, next_is t i, waits_none (holder_of t) (task_of t i) (λ e. omega (arith, ap (λ (x : Task). x.state) ((h.tasks i l).free_zero free))))
