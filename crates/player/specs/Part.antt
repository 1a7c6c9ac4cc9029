-- One turn of playing a tape, and a part of a tape played.
use Rattle.std.specs.Prelude.{true, false, Result, Ok, Err, ◌≡◌, Bool, cond, List, [], ℕ, ◌+◌, ◌-◌, ◌≤◌, ltb, length}
use Rattle.std.proofs.Common.{sym, ap, ◌∙◌, arith, length-append}
use Rattle.rules.specs.Table.{Table}
use Rattle.rules.specs.Step.{serve}
use Rattle.rules.specs.Tape.{Bytes, line}
use Rattle.table.specs.Image.{Image, view}
use Rattle.table.specs.Written.{lossless}
use Rattle.tape.specs.Line.{pasted}
use Rattle.tape.specs.Next.{Next, next_in}
use Rattle.tape.specs.Play.{Played, plays}
use Rattle.tape.specs.declared.Stop.TheVariants.{Cut, NoKind, End}
use Rattle.player.specs.declared.Went.{Went}
use Rattle.player.specs.declared.Halt.{Halt}
use Rattle.player.specs.declared.Halt.TheVariants.{Full, NoCall}

-- A call that was made, or why none was.
abbrev pub Turn : Type 0
Turn = Result Went Halt

abbrev pub went : (read end : ℕ) → Turn
went read end = Ok (record { read = read; end = end })

-- Whether the list lacks the kind.
abbrev pub ends : Halt → Bool
ends Full = false
ends (NoCall End) = false
ends (NoCall Cut) = false
ends (NoCall NoKind) = true

-- What a turn answers, the table that it leaves, and the text that it writes.
pub record Taken : Type 0 where
  pub turn : Turn
  pub table : Table
  pub text : List ℕ

abbrev pub quiet : Halt → Table → Taken
quiet why t = record { turn = Err why; table = t; text = [] }

-- The line of a call ends behind `end`.
unfoldable pub taken_by : Table → ℕ → Next → Taken
taken_by t end (Ok w) =
    let o = serve w.call w.interrupt t in
    record { turn = went w.length (end + length (line o)); table = o.table; text = line o }
taken_by t end (Err why) = quiet (NoCall why) t

unfoldable pub taken_at : Table → (end room : ℕ) → List ℕ → Taken
taken_at t end room l = let taken = taken_by t end (next_in l) in cond (ltb room 6) (quiet Full t) taken

-- One turn from the table in the bytes s, the tape l and the buffer o, to the bytes s' and the buffer o'.
pub record Turned (s l o : List ℕ) (end : ℕ) (r : Turn) (s' o' : List ℕ) : Type 0 where
  pub turn : r ≡ (taken_at (view s) end (length o - end) l).turn
  pub table : view s' ≡ (taken_at (view s) end (length o - end) l).table
  pub buffer : o' ≡ pasted end (taken_at (view s) end (length o - end) l).text o

-- The part that is played: as many whole calls as find room for their lines.
abbrev pub part_of : (s l o : List ℕ) → Played
part_of s l o = plays serve (length l) (length o) (view s) l

pub record Parted (s l o : List ℕ) (read written : ℕ) (ended : Bool) (s' o' : List ℕ) : Type 0 where
  pub reads : read ≡ length l - length (part_of s l o).rest
  pub writes : written ≡ length (part_of s l o).text
  pub ends : ended ≡ (part_of s l o).ended
  pub table : view s' ≡ (part_of s l o).table
  pub buffer : o' ≡ pasted 0 (part_of s l o).text o

-- What was written lies within the buffer.
pub written-within : {s l o : List ℕ} {read written : ℕ} {ended : Bool} {s' o' : List ℕ} → Parted s l o read written ended s' o' → written ≤ length o'
unfolding pasted
written-within p = omega (arith, p.writes, simp length-append at (ap length p.buffer))

-- No two outcomes meet `Parted` for one input. What is left of the image that is lent is an image of bytes, as the types say.
module _ {s l o : List ℕ} {read written : ℕ} {ended : Bool} {s' o' : List ℕ} {read₂ written₂ : ℕ} {ended₂ : Bool} {s₂ o₂ : List ℕ} where
  pub determined : Image s' → Bytes s' → Image s₂ → Bytes s₂ → Parted s l o read written ended s' o' → Parted s l o read₂ written₂ ended₂ s₂ o₂
      → (read ≡ read₂) × (written ≡ written₂) × (ended ≡ ended₂) × (s' ≡ s₂) × (o' ≡ o₂)
  determined long bytes long₂ bytes₂ p q =
      (p.reads ∙ sym q.reads, p.writes ∙ sym q.writes, p.ends ∙ sym q.ends, lossless s' s₂ long long₂ bytes bytes₂ (p.table ∙ sym q.table), p.buffer ∙ sym q.buffer)
