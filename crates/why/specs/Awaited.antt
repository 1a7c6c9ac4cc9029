-- What the tests of a wait come to, by the state of the task.
use Rattle.std.specs.Prelude.{◌≡◌, refl, Bool, false, cond, ℕ, ◌-◌, ◌≤◌, ◌<◌, ltb}
use Rattle.std.proofs.Math.Path.{sym}
use Rattle.std.proofs.Common.{◌∙◌}
use Rattle.std.proofs.Math.Bool.{true, not}
use native.Mathlib.Omega.{arith}
use Rattle.std.proofs.Math.Dec.{eqb}
use Rattle.std.proofs.Math.ListN.{get_or-eq_default}
use borrow.Author.Tests.{eqb-true, ne_eqb}
use Rattle.rules.specs.Sizes.{task_count, semaphore_count, mutex_count, channel_count, waits_semaphore, waits_mutex, waits_flags, waits_message}
use Rattle.rules.specs.Table.{Table, task_of, semaphore_of, mutex_of, group_of, channel_of, holder_of, no_task, no_semaphore, no_mutex, no_channel}
use Rattle.rules.specs.Family.{Family, semaphores, mutexes, groups, channels}
use Rattle.rules.specs.Sound.{implies, each_of, Shaped}
use Rattle.why.specs.Tests.{of_awaited, is_object_used, offers_nothing, is_apart, is_holder_used}

-- ---- by the state

cond_self : (b : Bool) → cond b true false ≡ b
cond_self true = refl
cond_self false = refl

-- A family that passes where the state is its own passes.
passes_so : {x y : ℕ} {b : Bool} → (x ≡ y → b ≡ true) → implies (eqb x y) b ≡ true
passes_so {x} {y} {b} h = go (eqb x y) refl
  where
    go : (a : Bool) → eqb x y ≡ a → implies a b ≡ true
    go true e = h (eqb-true x y e)
    go false e = refl

module _ (t : Table) (i : ℕ) {state : ℕ} (e : state ≡ (task_of t i).state) (passes : Family → Bool) where
  of_semaphore : state ≡ waits_semaphore → of_awaited t i passes ≡ passes semaphores
  unfolding of_awaited each_of
  of_semaphore s = rw (sym e ∙ s) (cond_self (passes semaphores))

  of_mutex : state ≡ waits_mutex → of_awaited t i passes ≡ passes mutexes
  unfolding of_awaited each_of
  of_mutex s = rw (sym e ∙ s) (cond_self (passes mutexes))

  of_group : state ≡ waits_flags → of_awaited t i passes ≡ passes groups
  unfolding of_awaited each_of
  of_group s = rw (sym e ∙ s) (cond_self (passes groups))

  of_channel : state ≡ waits_message → of_awaited t i passes ≡ passes channels
  unfolding of_awaited each_of
  of_channel s = rw (sym e ∙ s) (cond_self (passes channels))

  of_passing : (state ≡ waits_semaphore → passes semaphores ≡ true) → (state ≡ waits_mutex → passes mutexes ≡ true) → (state ≡ waits_flags → passes groups ≡ true) → (state ≡ waits_message → passes channels ≡ true) → of_awaited t i passes ≡ true
  unfolding of_awaited each_of
  of_passing a b c d = rw (sym e, passes_so a, passes_so b, passes_so c, passes_so d)

-- ---- the three tests

module _ (t : Table) (i : ℕ) {state object : ℕ} (e : state ≡ (task_of t i).state) (f : object ≡ (task_of t i).object) where
  pub used_semaphore : {n : ℕ} → state ≡ waits_semaphore → n ≡ (semaphore_of t object).used → eqb n 1 ≡ is_object_used t i
  unfolding is_object_used
  used_semaphore s u = rw (of_semaphore t i e (λ g. eqb (g.used t (task_of t i).object) 1) s, u, f)

  pub used-mutex : {n : ℕ} → state ≡ waits_mutex → n ≡ (mutex_of t object).used → eqb n 1 ≡ is_object_used t i
  unfolding is_object_used
  used-mutex s u = rw (of_mutex t i e (λ g. eqb (g.used t (task_of t i).object) 1) s, u, f)

  pub used_group : {n : ℕ} → state ≡ waits_flags → n ≡ (group_of t object).used → eqb n 1 ≡ is_object_used t i
  unfolding is_object_used
  used_group s u = rw (of_group t i e (λ g. eqb (g.used t (task_of t i).object) 1) s, u, f)

  pub used-channel : {n : ℕ} → state ≡ waits_message → n ≡ (channel_of t object).used → eqb n 1 ≡ is_object_used t i
  unfolding is_object_used
  used-channel s u = rw (of_channel t i e (λ g. eqb (g.used t (task_of t i).object) 1) s, u, f)

  pub nothing_semaphore : {b : Bool} → state ≡ waits_semaphore → b ≡ not (ltb 0 (semaphore_of t object).count) → b ≡ offers_nothing t i
  unfolding offers_nothing
  nothing_semaphore s u = rw (of_semaphore t i e (λ g. not (g.offers t (task_of t i).object)) s, u, f)

  pub nothing-mutex : {b : Bool} → state ≡ waits_mutex → b ≡ not (eqb (mutex_of t object).holder 0) → b ≡ offers_nothing t i
  unfolding offers_nothing
  nothing-mutex s u = rw (of_mutex t i e (λ g. not (g.offers t (task_of t i).object)) s, u, f)

  pub nothing-channel : {b : Bool} → state ≡ waits_message → b ≡ not (ltb 0 (channel_of t object).held) → b ≡ offers_nothing t i
  unfolding offers_nothing
  nothing-channel s u = rw (of_channel t i e (λ g. not (g.offers t (task_of t i).object)) s, u, f)

  pub apart-mutex : {n : ℕ} → state ≡ waits_mutex → n ≡ holder_of t object → not (eqb n i) ≡ is_apart t i
  unfolding is_apart
  apart-mutex s u = rw (of_mutex t i e (λ g. not (eqb (g.holder t (task_of t i).object) i)) s, u, f)

module _ (t : Table) (i : ℕ) {state : ℕ} (e : state ≡ (task_of t i).state) where
  pub used_none : (state ≡ waits_semaphore → ⊥) → (state ≡ waits_mutex → ⊥) → (state ≡ waits_flags → ⊥) → (state ≡ waits_message → ⊥) → true ≡ is_object_used t i
  unfolding is_object_used
  used_none a b c d = sym (of_passing t i e (λ g. eqb (g.used t (task_of t i).object) 1) (λ z. absurd (a z)) (λ z. absurd (b z)) (λ z. absurd (c z)) (λ z. absurd (d z)))

  -- A group offers nothing, whatever is asked of its flags; and what is no mutex has no holder.
  pub nothing_else : (state ≡ waits_semaphore → ⊥) → (state ≡ waits_mutex → ⊥) → (state ≡ waits_message → ⊥) → true ≡ offers_nothing t i
  unfolding offers_nothing
  nothing_else a b d = sym (of_passing t i e (λ g. not (g.offers t (task_of t i).object)) (λ z. absurd (a z)) (λ z. absurd (b z)) (λ z. refl) (λ z. absurd (d z)))

  pub apart_else : i < task_count → (state ≡ waits_mutex → ⊥) → true ≡ is_apart t i
  unfolding is_apart
  apart_else h b =
      let n : not (eqb task_count i) ≡ true = rw (ne_eqb task_count i (λ z. omega arith)) in
      sym (of_passing t i e (λ g. not (eqb (g.holder t (task_of t i).object) i)) (λ z. n) (λ z. absurd (b z)) (λ z. n) (λ z. n))

-- ---- an object that is none, and a holder

module _ {t : Table} (s : Shaped t) where
  pub no_count : {o : ℕ} → semaphore_count ≤ o → true ≡ not (ltb 0 (semaphore_of t o).count)
  no_count {o} h = rw (get_or-eq_default t.semaphores no_semaphore {n = o} (omega (arith, s.semaphores)))

  pub no_message : {o : ℕ} → channel_count ≤ o → true ≡ not (ltb 0 (channel_of t o).held)
  no_message {o} h = rw (get_or-eq_default t.channels no_channel {n = o} (omega (arith, s.channels)))

  pub no_holder : {o : ℕ} → mutex_count ≤ o → false ≡ not (eqb (mutex_of t o).holder 0)
  no_holder {o} h = rw (get_or-eq_default t.mutexes no_mutex {n = o} (omega (arith, s.mutexes)))

  module _ (m : ℕ) {h : ℕ} (e : h ≡ (mutex_of t m).holder) where
    pub holder_none : h ≡ 0 → true ≡ is_holder_used t m
    unfolding is_holder_used
    holder_none z = rw (sym e, z)

    pub holder_past : task_count < h → false ≡ is_holder_used t m
    unfolding is_holder_used
    holder_past l =
        let n : h ≡ 0 → ⊥ = λ z. omega arith in
        rw (sym e, ne_eqb h 0 n, get_or-eq_default t.tasks no_task {n = h - 1} (omega (arith, s.tasks)))

    pub holder-within : {u : ℕ} → (h ≡ 0 → ⊥) → u ≡ (task_of t (h - 1)).used → eqb u 1 ≡ is_holder_used t m
    unfolding is_holder_used
    holder-within n f = rw (sym e, ne_eqb h 0 n, f)
