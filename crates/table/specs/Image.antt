-- The layout of the image, and the table that it shows: a column for each field of the tasks and of each kind of object (`kinds`), a row of
-- slots for each queue, the single numbers, and a row of messages for each channel. docs/IMAGE.md lists every offset.
use Rattle.std.specs.Prelude.{◌≡◌, List, [], ◌∷◌, ◌++◌, ℕ, ◌+◌, length, replicate}
use Rattle.columns.specs.Columns.{Column, column, total, columns, entry, image}
use Rattle.columns.specs.Rows.{records, columns_of}
use Rattle.columns.specs.Runs.{run_of}
use Rattle.rules.specs.Sizes.{task_count, channel_count, most_messages}
use Rattle.rules.specs.Table.{Table, queue_count}
use Rattle.table.specs.kinds.Task as task
use Rattle.table.specs.kinds.Semaphore as semaphore
use Rattle.table.specs.kinds.Mutex as mutex
use Rattle.table.specs.kinds.Group as group
use Rattle.table.specs.kinds.Channel as channel

-- ---- queues: a row of slots for each, which can be lent

abbrev pub slot_count : ℕ
slot_count = task_count

abbrev pub queue_first : ℕ
queue_first = (channel.kind).first + (channel.kind).wide

abbrev pub queue_columns : List Column
queue_columns = replicate queue_count (column 1 slot_count)

-- ---- single numbers: columns with one entry

abbrev pub tick_column : ℕ
tick_column = queue_first + queue_count

abbrev pub default_column : ℕ
default_column = tick_column + 1

abbrev pub depth_column : ℕ
depth_column = default_column + 1

abbrev pub running_column : ℕ
running_column = depth_column + 1

abbrev pub ready_column : ℕ
ready_column = running_column + 1

abbrev pub number_columns : List Column
number_columns = column 4 1 ∷ column 2 1 ∷ column 1 1 ∷ column 1 1 ∷ column 8 1 ∷ []

-- ---- messages: a row of numbers for each channel

abbrev pub message_first : ℕ
message_first = ready_column + 1

abbrev pub message_columns : List Column
message_columns = replicate channel_count (column 4 most_messages)

-- ---- the image, and the table that it shows

abbrev pub layout : List Column
layout = task.widths ++ (semaphore.widths ++ (mutex.widths ++ (group.widths ++ (channel.widths ++ (queue_columns ++ (number_columns ++ message_columns))))))

abbrev pub image_size : ℕ
image_size = total layout

abbrev pub Image : List ℕ → Type 0
Image l = length l ≡ image_size

-- The table that the numbers of the columns are.
abbrev pub shown : List (List ℕ) → Table
shown n =
    record {
      tasks = records task.kind n;
      semaphores = records semaphore.kind n;
      mutexes = records mutex.kind n;
      groups = records group.kind n;
      channels = records channel.kind n;
      queues = run_of queue_first queue_count n;
      tick = entry n tick_column 0;
      default_quantum = entry n default_column 0;
      depth = entry n depth_column 0;
      running = entry n running_column 0;
      ready = entry n ready_column 0;
      messages = run_of message_first channel_count n;
    }

unfoldable pub view : List ℕ → Table
view l = shown (columns layout l)

-- The numbers of a table, column by column, and the image that shows it.
unfoldable pub numbers_of : Table → List (List ℕ)
numbers_of t =
    columns_of task.kind t.tasks
    ++ (columns_of semaphore.kind t.semaphores
    ++ (columns_of mutex.kind t.mutexes
    ++ (columns_of group.kind t.groups
    ++ (columns_of channel.kind t.channels
    ++ (t.queues
    ++ (((t.tick ∷ []) ∷ (t.default_quantum ∷ []) ∷ (t.depth ∷ []) ∷ (t.running ∷ []) ∷ (t.ready ∷ []) ∷ [])
    ++ t.messages))))))

unfoldable pub image_of : Table → List ℕ
image_of t = image layout (numbers_of t)
