-- No object of an image has a number past its kind's count: none such is in use.
use Rattle.std.specs.Prelude.{◌≡◌, List, ℕ, ◌≤◌}
use Rattle.std.proofs.Common.{sym, ap, arith}
use Rattle.std.proofs.Math.ListN.{get_or-eq_default}
use Rattle.rules.specs.Sizes.{semaphore_count, mutex_count, group_count, channel_count}
use Rattle.rules.specs.Table.{semaphore_of, mutex_of, group_of, channel_of, no_semaphore, no_mutex, no_group, no_channel}
use Rattle.rules.specs.declared.Semaphore.{Semaphore}
use Rattle.rules.specs.declared.Mutex.{Mutex}
use Rattle.rules.specs.declared.Group.{Group}
use Rattle.rules.specs.declared.Channel.{Channel}
use Rattle.table.specs.Image.{Image, view}
use Rattle.table.specs.Shape.{view-shaped}

module _ (l : List ℕ) (h : Image l) (i : ℕ) where
  pub no_semaphore_beyond : semaphore_count ≤ i → 0 ≡ (semaphore_of (view l) i).used
  no_semaphore_beyond b = ap (λ (x : Semaphore). x.used) (sym (get_or-eq_default (view l).semaphores no_semaphore {n = i} (omega (arith, (view-shaped l h).semaphores))))

  pub no_mutex_beyond : mutex_count ≤ i → 0 ≡ (mutex_of (view l) i).used
  no_mutex_beyond b = ap (λ (x : Mutex). x.used) (sym (get_or-eq_default (view l).mutexes no_mutex {n = i} (omega (arith, (view-shaped l h).mutexes))))

  pub no_group_beyond : group_count ≤ i → 0 ≡ (group_of (view l) i).used
  no_group_beyond b = ap (λ (x : Group). x.used) (sym (get_or-eq_default (view l).groups no_group {n = i} (omega (arith, (view-shaped l h).groups))))

  pub no_channel_beyond : channel_count ≤ i → 0 ≡ (channel_of (view l) i).used
  no_channel_beyond b = ap (λ (x : Channel). x.used) (sym (get_or-eq_default (view l).channels no_channel {n = i} (omega (arith, (view-shaped l h).channels))))
