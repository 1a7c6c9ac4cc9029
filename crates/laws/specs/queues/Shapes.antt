-- What changes one object or the single numbers keeps the lists as long as they are.
use Rattle.std.specs.Prelude.{◌≡◌, List, [], ℕ, length}
use Rattle.std.proofs.Common.{◌∙◌, length-set}
use Rattle.rules.specs.Table.{Table, row_of, with_semaphore, with_mutex, with_group, with_channel, with_row}
use Rattle.rules.specs.Sound.{Shaped}
use Rattle.rules.specs.declared.Semaphore.{Semaphore}
use Rattle.rules.specs.declared.Mutex.{Mutex}
use Rattle.rules.specs.declared.Group.{Group}
use Rattle.rules.specs.declared.Channel.{Channel}
use Rattle.laws.specs.queues.Put.{part-set}
use Rattle.laws.specs.queues.Fields.{framed}

module _ {t : Table} (s : Shaped t) where
  pub semaphore_shaped : (i : ℕ) (x : Semaphore) → Shaped (with_semaphore i x t)
  semaphore_shaped i x =
      record { tasks = s.tasks; semaphores = length-set t.semaphores i x ∙ s.semaphores; mutexes = s.mutexes; groups = s.groups; channels = s.channels; queues = s.queues; slots = s.slots; messages = s.messages; rows = s.rows }

  pub mutex-shaped : (i : ℕ) (x : Mutex) → Shaped (with_mutex i x t)
  mutex-shaped i x =
      record { tasks = s.tasks; semaphores = s.semaphores; mutexes = length-set t.mutexes i x ∙ s.mutexes; groups = s.groups; channels = s.channels; queues = s.queues; slots = s.slots; messages = s.messages; rows = s.rows }

  pub group_shaped : (i : ℕ) (x : Group) → Shaped (with_group i x t)
  group_shaped i x =
      record { tasks = s.tasks; semaphores = s.semaphores; mutexes = s.mutexes; groups = length-set t.groups i x ∙ s.groups; channels = s.channels; queues = s.queues; slots = s.slots; messages = s.messages; rows = s.rows }

  pub channel-shaped : (i : ℕ) (x : Channel) → Shaped (with_channel i x t)
  channel-shaped i x =
      record { tasks = s.tasks; semaphores = s.semaphores; mutexes = s.mutexes; groups = s.groups; channels = length-set t.channels i x ∙ s.channels; queues = s.queues; slots = s.slots; messages = s.messages; rows = s.rows }

  pub row-shaped : (i : ℕ) (l : List ℕ) → length l ≡ length (row_of t i) → Shaped (with_row i l t)
  row-shaped i l e =
      record { tasks = s.tasks; semaphores = s.semaphores; mutexes = s.mutexes; groups = s.groups; channels = s.channels; queues = s.queues; slots = s.slots; messages = length-set t.messages i l ∙ s.messages; rows = λ c m. part-set length t.messages i l c [] e ∙ s.rows c m }

  pub framed-shaped : (f : Table) → Shaped (framed f t)
  framed-shaped f =
      record { tasks = s.tasks; semaphores = s.semaphores; mutexes = s.mutexes; groups = s.groups; channels = s.channels; queues = s.queues; slots = s.slots; messages = s.messages; rows = s.rows }
