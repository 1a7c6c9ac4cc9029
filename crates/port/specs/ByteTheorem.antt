-- Demand 3 of the bytes that C code holds, and exactly when they get 15. Statements alone; `ByteProof` proves each.
--
-- For a reader who knows no antt. C code calls `ntk_step` and `ntk_serve` on its bytes, again and again. `FromFresh` says what holds after
-- any such calls from memory that `ntk_fresh` has written, and `FromSound` from the image of any sound table. `FifteenExactly` says which bytes
-- `ntk_step` answers with 15, and `ZeroedIsNone` that zeroed memory is of these. That antt accepts `ByteProof` is the proof; nothing is assumed.
--
-- The symbols: `x ≡ y` is "x equals y" and `x ≢ y` that it does not; `A → B` is "if A, then B", and `(x : ℕ) → ..` is "for each number x,
-- .."; `A ⊎ B` is "A or B"; `A ↔ B` is "A exactly where B". `List ℕ` is a list of numbers, here of bytes. What a name means is said where it is
-- defined: in `Step` and `Reads` here; in the rules' `Table` (fresh_table), `Sound` (Sound), `Kinds` (reading) and `Port` (port_step); in the table's
-- `Image` (view, image_size) and `Written` (image_of); in the laws' `Order` (run, OrderKept) and `Demand` (Demand3).
use Rattle.std.specs.Prelude.{◌≡◌, ◌⊎◌, ◌↔◌, ◌≢◌, Bool, List, [], ◌∷◌, ℕ, length, replicate}
use Rattle.rules.specs.Sizes.{done, not_sound}
use Rattle.rules.specs.Table.{Table, fresh_table}
use Rattle.rules.specs.Sound.{Sound}
use Rattle.rules.specs.Tape.{Bytes}
use Rattle.rules.specs.Kinds.{says_call, says_none}
use Rattle.rules.specs.declared.Call.{Call}
use Rattle.laws.specs.order.Order.{run, OrderKept}
use Rattle.laws.specs.order.Demand.{Demand3}
use Rattle.table.specs.Image.{image_size, view, image_of}
use Rattle.port.specs.Step.{outcome_of, serve_of, Stepped, ServedPlainly, Freshened}
use Rattle.port.specs.Reads.{PortCall, reading_of, rule_of, made_by_all}

-- ---- calls from C

-- What C sees of a call p on the bytes l: the answer x, the task v to run, the further result k, and the bytes m afterwards. They are what one of the two
-- functions promises (src/lib.rt).
pub data Called (p : PortCall) (l : List ℕ) (x v k : ℕ) (m : List ℕ) : Type 0 where
  by_step : Stepped p.kind p.a p.b p.c p.d p.e p.f l x v k m → Called p l x v k m
  by_serve : ServedPlainly p.kind p.a p.b p.c p.d p.e p.f l x v k m → Called p l x v k m

-- Any number of calls one after another, in any mixture of the two functions, from the bytes l to the bytes n.
pub data Calls : List PortCall → List ℕ → List ℕ → Type 0 where
  none : {l : List ℕ} → Calls [] l l
  more : {p : PortCall} {ps : List PortCall} {x v k : ℕ} {l m n : List ℕ} → Called p l x v k m → Calls ps m n → Calls (p ∷ ps) l n

-- ---- what holds of the bytes

-- A call p on the image l of the table t, whichever of the two functions takes it:
pub record AsRules (p : PortCall) (t : Table) (l : List ℕ) (x v k : ℕ) (m : List ℕ) : Type 0 where
  -- the answer, the task to run, the further result and the table in the bytes are those of the rules;
  pub answer : x ≡ (rule_of p t).answer
  pub runs : v ≡ (rule_of p t).runs
  pub further : k ≡ (rule_of p t).further
  pub bytes : m ≡ image_of (rule_of p t).table
  -- it is not answered 15;
  pub taken : x ≢ not_sound
  -- a call of the list keeps the order of two tasks that stay in one queue, as demand 3 has it;
  pub order : (c : Call) (interrupt : Bool) → reading_of p ≡ says_call c interrupt → OrderKept c interrupt t (view m)
  -- and a kind that the list lacks changes no byte.
  pub unknown : (interrupt : Bool) → reading_of p ≡ says_none interrupt → m ≡ l

-- The bytes l follow the table t:
pub record Follows (t : Table) (l : List ℕ) : Type 0 where
  -- they are its image;
  pub image : l ≡ image_of t
  -- it is sound;
  pub sound : Sound t
  -- demand 3 holds of it;
  pub demand : Demand3 t
  -- any call on them is answered so;
  pub calls : (p : PortCall) {x v k : ℕ} {m : List ℕ} → Called p l x v k m → AsRules p t l x v k m
  -- and `ntk_serve` gives what `ntk_step` gives.
  pub same : (p : PortCall) → serve_of p.kind p.a p.b p.c p.d p.e p.f l ≡ outcome_of p.kind p.a p.b p.c p.d p.e p.f l

-- From the image of any sound table, after any calls: the bytes follow the table that the rules' `run` makes of the calls read. (A kind
-- that the list lacks is no call of the rules.)
abbrev pub FromSound : Type 0
FromSound = (t : Table) → Sound t → (ps : List PortCall) (l : List ℕ) → Calls ps (image_of t) l → Follows (run (made_by_all ps) t) l

-- The same from bytes k of the right length, whatever they are, once `ntk_fresh` has answered x and left the bytes l: it answers 0, and after
-- any calls the bytes follow.
abbrev pub FromFresh : Type 0
FromFresh =
    (k l : List ℕ) (x : ℕ) → length k ≡ image_size → Freshened k x l
    → (x ≡ done) × ((ps : List PortCall) (m : List ℕ) → Calls ps l m → Follows (run (made_by_all ps) fresh_table) m)

-- ---- 15

-- "the table is not sound, or its image has the wrong length": the length is wrong, or the bytes are not the image of a sound table.
abbrev pub NoImage : List ℕ → Type 0
NoImage l = (length l ≢ image_size) ⊎ ((t : Table) → Sound t → l ≢ image_of t)

-- Zeroed memory is no image: a board that does not call `ntk_fresh` is told so by its first `ntk_step`.
abbrev pub ZeroedIsNone : Type 0
ZeroedIsNone = NoImage (replicate image_size 0)

-- A call on the bytes l, of any length, is answered 15 exactly there; "With 15 the task to run is none", nothing further is told, and no byte
-- changes.
pub record Fifteen (l : List ℕ) (x v k : ℕ) (m : List ℕ) : Type 0 where
  pub exactly : (x ≡ not_sound) ↔ NoImage l
  pub none : x ≡ not_sound → v ≡ 0
  pub nothing : x ≡ not_sound → k ≡ 0
  pub bytes : x ≡ not_sound → m ≡ l

-- So `ntk_step` does, whatever the kind, those that the list lacks among them, and whatever the numbers. (`Bytes l` says that each number of
-- l is below 256.)
abbrev pub FifteenExactly : Type 0
FifteenExactly = (kind a b c d e f : ℕ) (l : List ℕ) → Bytes l → (x v k : ℕ) (m : List ℕ) → Stepped kind a b c d e f l x v k m → Fifteen l x v k m
