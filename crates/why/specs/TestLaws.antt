-- Laws of the list of tests.
use Rattle.std.specs.Prelude.{Bool, ◌≢◌, ◌≡◌, ℕ, ◌<◌, ◌≤◌, eqb, ltb, leb}
use Rattle.std.proofs.Math.Bool.{true, false, cond}
use Rattle.std.proofs.lemmas.Bool.{false≢true}
use mathlib.Core.List.{List, [], ◌∷◌, ◌++◌}
use Rattle.std.proofs.Math.Path.{refl, ap}
use Rattle.std.proofs.Common.{◌∙◌, arith}
use borrow.Author.Tests.{ne_eqb, le-ltb, ltb-true, leb-true}
use Rattle.rules.specs.Table.{Table}
use Rattle.why.specs.Tests.{Test, range_tests, task_tests, object_tests, group_tests, channel_tests, message_tests, wait_tests, holder_tests, queue_tests, work_tests, single_tests, level_tests, kept_in, is_kept}

-- So it is of each test of the list.
pub data Every (P : Test → Type 0) : List Test → Type 0 where
  end : Every P []
  with : {r : Test} {rs : List Test} → P r → Every P rs → Every P (r ∷ rs)

cond_same : (b : Bool) → cond b true true ≡ true
cond_same true = refl
cond_same false = refl

module _ (c i : ℕ) (t : Table) where
  -- A rule that the list lacks is kept,
  pub kept_lacking : {l : List Test} → Every (λ r. c ≢ r.rule) l → kept_in l c i t ≡ true
  unfolding kept_in
  kept_lacking end = refl
  kept_lacking (with {r} {rs} d e) = rw (ne_eqb c r.rule d) (kept_lacking e)

  -- and so is each by a record from whose number on there is none.
  pub kept_beyond : (n : ℕ) {l : List Test} → n ≤ i → Every (λ r. r.count ≡ n) l → kept_in l c i t ≡ true
  unfolding kept_in
  kept_beyond n h end = refl
  kept_beyond n h (with {r} {rs} d e) = rw (d, le-ltb i n h, kept_beyond n h e) (cond_same (eqb c r.rule))

  -- Of two lists the one that does not lack it tells.
  kept_before : (l m : List Test) → Every (λ r. c ≢ r.rule) m → kept_in (l ++ m) c i t ≡ kept_in l c i t
  unfolding kept_in
  kept_before [] m e = kept_lacking e
  kept_before (r ∷ rs) m e = ap (λ (x : Bool). cond (eqb c r.rule) (cond (ltb i r.count) (r.keeps t i) true) x) (kept_before rs m e)

  kept_behind : (l m : List Test) → Every (λ r. c ≢ r.rule) l → kept_in (l ++ m) c i t ≡ kept_in m c i t
  unfolding kept_in
  kept_behind l m end = refl
  kept_behind l m (with {r} {rs} d e) = rw (ne_eqb c r.rule d) (kept_behind rs m e)

-- Rules whose numbers are below c, or above it: all of a list pass a test of their numbers.
unfoldable are_all : (ℕ → Bool) → List Test → Bool
are_all p [] = true
are_all p (r ∷ rs) = let others = are_all p rs in cond (p r.rule) others false

module _ {c : ℕ} {p : ℕ → Bool} (other : (d : ℕ) → p d ≡ true → c ≢ d) where
  all_other : (l : List Test) → are_all p l ≡ true → Every (λ r. c ≢ r.rule) l
  unfolding are_all
  all_other [] e = end
  all_other (r ∷ rs) e = go (p r.rule) refl e (all_other rs)
    where
      go : (b : Bool) → p r.rule ≡ b → cond b (are_all p rs) false ≡ true → (are_all p rs ≡ true → Every (λ r. c ≢ r.rule) rs) → Every (λ r. c ≢ r.rule) (r ∷ rs)
      go true q f rest = with {r = r} (other r.rule q) (rest f)
      go false q f rest = absurd (false≢true f)

all_below : {c : ℕ} (b : ℕ) (l : List Test) → b ≤ c → are_all (λ d. ltb d b) l ≡ true → Every (λ r. c ≢ r.rule) l
all_below b l h = all_other (λ d e z. omega (arith, h, ltb-true d b e, z)) l

all_above : {c : ℕ} (a : ℕ) (l : List Test) → c < a → are_all (λ d. leb a d) l ≡ true → Every (λ r. c ≢ r.rule) l
all_above a l h = all_other (λ d e z. omega (arith, h, leb-true a d e, z)) l

-- ---- which part of the list tells

abbrev from_singles : List Test
from_singles = single_tests ++ level_tests

abbrev from_works : List Test
from_works = work_tests ++ from_singles

abbrev from_queues : List Test
from_queues = queue_tests ++ from_works

abbrev from_holders : List Test
from_holders = holder_tests ++ from_queues

abbrev from_waits : List Test
from_waits = wait_tests ++ from_holders

abbrev from_messages : List Test
from_messages = message_tests ++ from_waits

abbrev from_channels : List Test
from_channels = channel_tests ++ from_messages

abbrev from_groups : List Test
from_groups = group_tests ++ from_channels

abbrev from_objects : List Test
from_objects = object_tests ++ from_groups

abbrev from_tasks : List Test
from_tasks = task_tests ++ from_objects

module _ (c i : ℕ) (t : Table) where
  pub kept_range : c < 0x10 → is_kept c i t ≡ kept_in range_tests c i t
  unfolding are_all
  kept_range p = kept_before c i t range_tests from_tasks (all_above 0x10 _ p refl)

  past_range : 0x10 ≤ c → is_kept c i t ≡ kept_in from_tasks c i t
  unfolding are_all
  past_range o = kept_behind c i t range_tests from_tasks (all_below 0x10 _ o refl)

  past_tasks : 0x20 ≤ c → is_kept c i t ≡ kept_in from_objects c i t
  unfolding are_all
  past_tasks o = past_range (omega arith) ∙ kept_behind c i t task_tests from_objects (all_below 0x20 _ o refl)

  past_objects : 0x40 ≤ c → is_kept c i t ≡ kept_in from_groups c i t
  unfolding are_all
  past_objects o = past_tasks (omega arith) ∙ kept_behind c i t object_tests from_groups (all_below 0x40 _ o refl)

  past_groups : 0x50 ≤ c → is_kept c i t ≡ kept_in from_channels c i t
  unfolding are_all
  past_groups o = past_objects (omega arith) ∙ kept_behind c i t group_tests from_channels (all_below 0x50 _ o refl)

  past_channels : 0x55 ≤ c → is_kept c i t ≡ kept_in from_messages c i t
  unfolding are_all
  past_channels o = past_groups (omega arith) ∙ kept_behind c i t channel_tests from_messages (all_below 0x55 _ o refl)

  past_messages : 0x80 ≤ c → is_kept c i t ≡ kept_in from_waits c i t
  unfolding are_all
  past_messages o = past_channels (omega arith) ∙ kept_behind c i t message_tests from_waits (all_below 0x80 _ o refl)

  past_waits : 0x83 ≤ c → is_kept c i t ≡ kept_in from_holders c i t
  unfolding are_all
  past_waits o = past_messages (omega arith) ∙ kept_behind c i t wait_tests from_holders (all_below 0x83 _ o refl)

  past_holders : 0x90 ≤ c → is_kept c i t ≡ kept_in from_queues c i t
  unfolding are_all
  past_holders o = past_waits (omega arith) ∙ kept_behind c i t holder_tests from_queues (all_below 0x90 _ o refl)

  past_queues : 0xA0 ≤ c → is_kept c i t ≡ kept_in from_works c i t
  unfolding are_all
  past_queues o = past_holders (omega arith) ∙ kept_behind c i t queue_tests from_works (all_below 0xA0 _ o refl)

  past_works : 0xB0 ≤ c → is_kept c i t ≡ kept_in from_singles c i t
  unfolding are_all
  past_works o = past_queues (omega arith) ∙ kept_behind c i t work_tests from_singles (all_below 0xB0 _ o refl)

  pub kept_task : 0x10 ≤ c → c < 0x20 → is_kept c i t ≡ kept_in task_tests c i t
  unfolding are_all
  kept_task o p = past_range o ∙ kept_before c i t task_tests from_objects (all_above 0x20 _ p refl)

  pub kept_object : 0x20 ≤ c → c < 0x40 → is_kept c i t ≡ kept_in object_tests c i t
  unfolding are_all
  kept_object o p = past_tasks o ∙ kept_before c i t object_tests from_groups (all_above 0x40 _ p refl)

  pub kept_group : 0x40 ≤ c → c < 0x50 → is_kept c i t ≡ kept_in group_tests c i t
  unfolding are_all
  kept_group o p = past_objects o ∙ kept_before c i t group_tests from_channels (all_above 0x50 _ p refl)

  pub kept_channel : 0x50 ≤ c → c < 0x55 → is_kept c i t ≡ kept_in channel_tests c i t
  unfolding are_all
  kept_channel o p = past_groups o ∙ kept_before c i t channel_tests from_messages (all_above 0x55 _ p refl)

  pub kept_message : 0x55 ≤ c → c < 0x80 → is_kept c i t ≡ kept_in message_tests c i t
  unfolding are_all
  kept_message o p = past_channels o ∙ kept_before c i t message_tests from_waits (all_above 0x80 _ p refl)

  pub kept_wait : 0x80 ≤ c → c < 0x83 → is_kept c i t ≡ kept_in wait_tests c i t
  unfolding are_all
  kept_wait o p = past_messages o ∙ kept_before c i t wait_tests from_holders (all_above 0x83 _ p refl)

  pub kept_holder : 0x83 ≤ c → c < 0x90 → is_kept c i t ≡ kept_in holder_tests c i t
  unfolding are_all
  kept_holder o p = past_waits o ∙ kept_before c i t holder_tests from_queues (all_above 0x90 _ p refl)

  pub kept_queue : 0x90 ≤ c → c < 0xA0 → is_kept c i t ≡ kept_in queue_tests c i t
  unfolding are_all
  kept_queue o p = past_holders o ∙ kept_before c i t queue_tests from_works (all_above 0xA0 _ p refl)

  pub kept_work : 0xA0 ≤ c → c < 0xB0 → is_kept c i t ≡ kept_in work_tests c i t
  unfolding are_all
  kept_work o p = past_queues o ∙ kept_before c i t work_tests from_singles (all_above 0xB0 _ p refl)

  pub kept_single : 0xB0 ≤ c → c < 0xB8 → is_kept c i t ≡ kept_in single_tests c i t
  unfolding are_all
  kept_single o p = past_works o ∙ kept_before c i t single_tests level_tests (all_above 0xB8 _ p refl)

  pub kept_level : 0xB8 ≤ c → is_kept c i t ≡ kept_in level_tests c i t
  unfolding are_all
  kept_level o = past_works (omega arith) ∙ kept_behind c i t single_tests level_tests (all_below 0xB8 _ o refl)
