-- Laws of the list of fields.
use Rattle.std.specs.Prelude.{Bool, true, false, ◌≢◌, ◌↔◌, ◌≡◌, ℕ, ◌<◌, ◌≤◌, ◌/◌, ◌%◌, eqb, ltb, length}
use Rattle.std.proofs.Math.Bool.{cond}
use Rattle.std.proofs.Common.{true≢false, sym, ◌∙◌, arith}
use mathlib.Core.List.{List, [], ◌∷◌, ◌++◌}
use Rattle.std.proofs.Math.Path.{refl, ap}
use Rattle.std.proofs.Math.Decide.{ℕ_discrete}
use borrow.Author.Tests.{eqb-true, eq-eqb, ne_eqb, le-ltb, ltb-true, leb-true}
use Rattle.rules.specs.Sizes.{task_count, channel_count, most_messages}
use Rattle.rules.specs.Table.{Table, queue_count}
use Rattle.rules.specs.Ready.{bit_of, is_set}
use Rattle.rules.specs.Sound.{Sound}
use Rattle.rules.specs.Tape.{Bytes}
use Rattle.table.specs.Image.{Image, image_size, view}
use Rattle.table.specs.Written.{Fits, view_fits}
use Rattle.port.specs.Field.{no_field, ready_field, Field, task_fields, object_fields, group_fields, channel_fields, queue_fields, message_fields, single_fields, fields, shown_in, field_of, read_of, known_in, known}

-- So it is of each field of the list.
pub data Each (P : Field → Type 0) : List Field → Type 0 where
  end : Each P []
  with : {r : Field} {rs : List Field} → P r → Each P rs → Each P (r ∷ rs)

cond_same : (b : Bool) (x : ℕ) → cond b x x ≡ x
cond_same true x = refl
cond_same false x = refl

module _ (f i : ℕ) (t : Table) where
  -- A field that the list lacks,
  pub shown_lacking : {l : List Field} → Each (λ r. f ≢ r.code) l → shown_in l f i t ≡ no_field
  unfolding shown_in
  shown_lacking end = refl
  shown_lacking (with {r} {rs} d e) = rw (ne_eqb f r.code d) (shown_lacking e)

  -- and a number from which on there is none.
  pub shown-beyond : (n : ℕ) {l : List Field} → n ≤ i → Each (λ r. r.count ≡ n) l → shown_in l f i t ≡ no_field
  unfolding shown_in
  shown-beyond n h end = refl
  shown-beyond n h (with {r} {rs} d e) = rw (d, le-ltb i n h, shown-beyond n h e) (cond_same (eqb f r.code) no_field)

  -- Of two lists the one that does not lack it tells.
  pub shown-before : (l m : List Field) → Each (λ r. f ≢ r.code) m → shown_in (l ++ m) f i t ≡ shown_in l f i t
  unfolding shown_in
  shown-before [] m e = shown_lacking e
  shown-before (r ∷ rs) m e = ap (λ (x : ℕ). cond (eqb f r.code) (cond (ltb i r.count) (r.shows t i) no_field) x) (shown-before rs m e)

  pub shown-behind : (l m : List Field) → Each (λ r. f ≢ r.code) l → shown_in (l ++ m) f i t ≡ shown_in m f i t
  unfolding shown_in
  shown-behind l m end = refl
  shown-behind l m (with {r} {rs} d e) = rw (ne_eqb f r.code d) (shown-behind rs m e)

-- Fields whose codes are below f, or above it.
pub all_below : {f : ℕ} (b : ℕ) {l : List Field} → b ≤ f → Each (λ r. r.code < b) l → Each (λ r. f ≢ r.code) l
all_below b h end = end
all_below b h (with {r} d e) = with {r = r} (λ z. omega (arith, h, d, z)) (all_below b h e)

pub all_above : {f : ℕ} (a : ℕ) {l : List Field} → f < a → Each (λ r. a ≤ r.code) l → Each (λ r. f ≢ r.code) l
all_above a h end = end
all_above a h (with {r} d e) = with {r = r} (λ z. omega (arith, h, d, z)) (all_above a h e)

-- ---- which fields are read of bytes

abbrev from_messages : List Field
from_messages = message_fields ++ single_fields

abbrev from_queues : List Field
from_queues = queue_fields ++ from_messages

abbrev from_channels : List Field
from_channels = channel_fields ++ from_queues

abbrev from_groups : List Field
from_groups = group_fields ++ from_channels

abbrev from_objects : List Field
from_objects = object_fields ++ from_groups

module _ (f i : ℕ) (l : List ℕ) where
  pub read-wrong : (Image l → ⊥) → read_of f i l ≡ no_field
  unfolding read_of
  read-wrong h = ap (λ (b : Bool). cond b (field_of f i (view l)) no_field) (ne_eqb (length l) image_size h)

  pub read_right : Image l → read_of f i l ≡ field_of f i (view l)
  unfolding read_of
  read_right h = ap (λ (b : Bool). cond b (field_of f i (view l)) no_field) (eq-eqb (length l) image_size h)

  pub read-task : Image l → f < 0x10 → read_of f i l ≡ shown_in task_fields f i (view l)
  read-task h p = read_right h ∙ shown-before f i (view l) task_fields from_objects (all_above 0x10 p (search (end, with, leb-true) depth 40))

  -- Past the tasks, the objects, the groups, the channels and the slots.
  past_tasks : Image l → 0x10 ≤ f → read_of f i l ≡ shown_in from_objects f i (view l)
  past_tasks h o = read_right h ∙ shown-behind f i (view l) task_fields from_objects (all_below 0x10 o (search (end, with, ltb-true) depth 40))

  past_objects : Image l → 0x30 ≤ f → read_of f i l ≡ shown_in from_groups f i (view l)
  past_objects h o = past_tasks h (omega arith) ∙ shown-behind f i (view l) object_fields from_groups (all_below 0x30 o (search (end, with, ltb-true) depth 40))

  past_groups : Image l → 0x40 ≤ f → read_of f i l ≡ shown_in from_channels f i (view l)
  past_groups h o = past_objects h (omega arith) ∙ shown-behind f i (view l) group_fields from_channels (all_below 0x40 o (search (end, with, ltb-true) depth 40))

  past_channels : Image l → 0x50 ≤ f → read_of f i l ≡ shown_in from_queues f i (view l)
  past_channels h o = past_groups h (omega arith) ∙ shown-behind f i (view l) channel_fields from_queues (all_below 0x50 o (search (end, with, ltb-true) depth 40))

  past_slots : Image l → 0xE1 ≤ f → read_of f i l ≡ shown_in from_messages f i (view l)
  past_slots h o = past_channels h (omega arith) ∙ shown-behind f i (view l) queue_fields from_messages (all_below 0xE1 o (search (end, with, ltb-true) depth 40))

  pub read-object : Image l → 0x10 ≤ f → f < 0x30 → read_of f i l ≡ shown_in object_fields f i (view l)
  read-object h o p = past_tasks h o ∙ shown-before f i (view l) object_fields from_groups (all_above 0x30 p (search (end, with, leb-true) depth 40))

  pub read_group : Image l → 0x30 ≤ f → f < 0x40 → read_of f i l ≡ shown_in group_fields f i (view l)
  read_group h o p = past_objects h o ∙ shown-before f i (view l) group_fields from_channels (all_above 0x40 p (search (end, with, leb-true) depth 40))

  pub read-channel : Image l → 0x40 ≤ f → f < 0x50 → read_of f i l ≡ shown_in channel_fields f i (view l)
  read-channel h o p = past_groups h o ∙ shown-before f i (view l) channel_fields from_queues (all_above 0x50 p (search (end, with, leb-true) depth 40))

  pub read-slot : Image l → 0x50 ≤ f → f < 0xE1 → read_of f i l ≡ shown_in queue_fields f i (view l)
  read-slot h o p = past_channels h o ∙ shown-before f i (view l) queue_fields from_messages (all_above 0xE1 p (search (end, with, leb-true) depth 40))

  pub read-message : Image l → 0xE1 ≤ f → f < 0xF0 → read_of f i l ≡ shown_in message_fields f i (view l)
  read-message h o p = past_slots h o ∙ shown-before f i (view l) message_fields single_fields (all_above 0xF0 p (search (end, with, leb-true) depth 40))

  pub read-single : Image l → 0xF0 ≤ f → read_of f i l ≡ shown_in single_fields f i (view l)
  read-single h o = past_slots h (omega arith) ∙ shown-behind f i (view l) message_fields single_fields (all_below 0xF0 o (search (end, with, ltb-true) depth 40))

-- ---- `no_field` is no field's number

-- Of an unknown field or number nothing is shown.
unknown_in : (l : List Field) (f i : ℕ) (t : Table) → known_in l f i ≡ false → shown_in l f i t ≡ no_field
unfolding known_in shown_in
unknown_in [] f i t k = refl
unknown_in (r ∷ rs) f i t k = go (eqb f r.code) k (unknown_in rs f i t)
  where
    go : (b : Bool) → cond b (ltb i r.count) (known_in rs f i) ≡ false → (known_in rs f i ≡ false → shown_in rs f i t ≡ no_field)
        → cond b (cond (ltb i r.count) (r.shows t i) no_field) (shown_in rs f i t) ≡ no_field
    go true k rest = rw k
    go false k rest = rest k

pub unknown_none : (f i : ℕ) (l : List ℕ) → known f i ≡ false → read_of f i l ≡ no_field
unfolding read_of
unknown_none f i l k = rw (unknown_in fields f i (view l) k) (cond_same (eqb (length l) image_size) no_field)

-- What each field shows has 32 bits; but for the word of ready levels.
abbrev Small : Table → Field → Type 0
Small t r = r.code ≢ ready_field → (i : ℕ) → i < r.count → r.shows t i < 4294967296

known_in_lem : (t : Table) (l : List Field) → Each (Small t) l → (f i : ℕ) → f ≢ ready_field → known_in l f i ≡ true → shown_in l f i t < 4294967296
unfolding known_in shown_in
known_in_lem t l end f i n k = absurd (true≢false (sym k))
known_in_lem t l (with {r} {rs} d e) f i n k = go (eqb f r.code) refl k (known_in_lem t rs e f i n)
  where
    go : (b : Bool) → eqb f r.code ≡ b → cond b (ltb i r.count) (known_in rs f i) ≡ true → (known_in rs f i ≡ true → shown_in rs f i t < 4294967296)
        → cond b (cond (ltb i r.count) (r.shows t i) no_field) (shown_in rs f i t) < 4294967296
    go true q k rest = rw k (d (λ z. n (eqb-true f r.code q ∙ z)) i (ltb-true i r.count k))
    go false q k rest = rest k

-- The same, written field by field.
abbrev Listed : (Field → Type 0) → List Field → Type 0
Listed P [] = Unit
Listed P (r ∷ rs) = P r × Listed P rs

listed_each : (P : Field → Type 0) (l : List Field) → Listed P l → Each P l
listed_each P [] e = end
listed_each P (r ∷ rs) (d, e) = with {r = r} d (listed_each P rs e)

-- Pairs one within another, written in a row.
infixr 20 ◌and◌
◌and◌ : {A B : Type 0} → A → B → A × B
◌and◌ a b = (a, b)

all_small : (t : Table) → Fits t → Each (Small t) fields
all_small t s =
    listed_each (Small t) fields (
    (λ n i h. omega (arith, s.tasks i h))
    and (λ n i h. omega (arith, s.tasks i h))
    and (λ n i h. omega (arith, s.tasks i h))
    and (λ n i h. omega (arith, s.tasks i h))
    and (λ n i h. omega (arith, s.tasks i h))
    and (λ n i h. omega (arith, s.tasks i h))
    and (λ n i h. omega (arith, s.tasks i h))
    and (λ n i h. omega (arith, s.tasks i h))
    and (λ n i h. omega (arith, s.tasks i h))
    and (λ n i h. omega (arith, s.tasks i h))
    and (λ n i h. omega (arith, s.tasks i h))
    and (λ n i h. omega (arith, s.tasks i h))
    and (λ n i h. omega (arith, s.tasks i h))
    and (λ n i h. omega (arith, s.tasks i h))
    and (λ n i h. omega (arith, s.tasks i h))
    and (λ n i h. omega (arith, s.semaphores i h))
    and (λ n i h. omega (arith, s.semaphores i h))
    and (λ n i h. omega (arith, s.mutexes i h))
    and (λ n i h. omega (arith, s.mutexes i h))
    and (λ n i h. omega (arith, s.mutexes i h))
    and (λ n i h. omega (arith, s.groups i h))
    and (λ n i h. omega (arith, s.groups i h))
    and (λ n i h. omega (arith, s.channels i h))
    and (λ n i h. omega (arith, s.channels i h))
    and (λ n i h. omega (arith, s.channels i h))
    and (λ n i h. let q : i / task_count < queue_count = omega (arith, h) in omega (arith, s.queues (i / task_count) q (i % task_count)))
    and (λ n i h. let c : i / most_messages < channel_count = omega (arith, h) in omega (arith, s.messages (i / most_messages) c (i % most_messages)))
    and (λ n i h. omega (arith, s.tick))
    and (λ n i h. omega (arith, s.depth))
    and (λ n i h. omega (arith, s.running))
    and (λ n i h. omega (arith, s.default_quantum))
    and (λ n i h. absurd (n refl))
    and tt
    )

pub known_small : (f i : ℕ) (l : List ℕ) → Image l → Bytes l → f ≢ ready_field → known f i ≡ true → read_of f i l < 4294967296
known_small f i l h b n k = rw (read_right f i l h) (known_in_lem (view l) fields (all_small (view l) (view_fits l h b)) f i n k)

-- The word is read where it is known.
word_read : (i : ℕ) (l : List ℕ) → Image l → known ready_field i ≡ true → read_of ready_field i l ≡ (view l).ready
unfolding known_in shown_in
word_read i l h k = read_right ready_field i l h ∙ rw k

-- So of an image `no_field` is read exactly where the field or the number is unknown; of the word's own field, where the word is not that number.
pub none_exactly : (f i : ℕ) (l : List ℕ) → Image l → Bytes l → (f ≡ ready_field → (view l).ready ≢ no_field) → (read_of f i l ≡ no_field) ↔ (known f i ≡ false)
none_exactly f i l h b w = ((λ e. go (known f i) refl (ℕ_discrete f ready_field) e), unknown_none f i l)
  where
    go : (k : Bool) → known f i ≡ k → Dec (f ≡ ready_field) → read_of f i l ≡ no_field → k ≡ false
    go true k (yes q) e = absurd (w q (sym (word_read i l h (rw q at k)) ∙ (rw q at e)))
    go true k (no n) e = absurd (omega (arith, known_small f i l h b n k, e))
    go false k q e = refl

-- No sound table has it there: the lowest bit, of level 63, is never set.
pub sound_word : {t : Table} → Sound t → t.ready ≢ no_field
unfolding is_set bit_of
sound_word {t} s e =
    let x = (s.settled.queued.ready.levels 63 (omega arith)).0 (ap (is_set 63) e) in
    omega (arith, x.level, (s.settled.tasks x.task x.range).in_range.work)
