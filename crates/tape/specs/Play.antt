-- A part of a tape played: as many calls as stand there whole and find room for their lines.
use Rattle.std.specs.Prelude.{Bool, Ok, Err, true, false, cond, ◌≡◌, List, [], ◌++◌, ltb, length, drop}
use Rattle.std.proofs.Math.Path.{refl}
use Prim.Native.Nat.{ℕ, zero, suc, ◌-◌, ◌≤◌, ◌<◌}
use Rattle.std.proofs.Common.{lt-ltb, le-ltb}
use Rattle.rules.specs.Table.{Table}
use Rattle.rules.specs.Step.{Outcome}
use Rattle.rules.specs.Tape.{line}
use Rattle.rules.specs.declared.Call.{Call}
use Rattle.tape.specs.Next.{Next, next_in}
use Rattle.tape.specs.declared.Stop.TheVariants.{Cut, NoKind, End}

-- What playing leaves: the table, the text written, the tape that is left, and whether it stopped at a kind that the list lacks.
pub record Played : Type 0 where
  pub table : Table
  pub text : List ℕ
  pub rest : List ℕ
  pub ended : Bool

abbrev pub stopped : Bool → Table → List ℕ → Played
stopped ended t l = record { table = t; text = []; rest = l; ended = ended }

-- What is played after a text.
abbrev pub behind : List ℕ → Played → Played
behind text p = record { table = p.table; text = text ++ p.text; rest = p.rest; ended = p.ended }

-- One turn: what a call leaves is played on, anything else stops.
unfoldable pub plays_on : (Call → Bool → Table → Outcome) → Table → List ℕ → (Outcome → ℕ → Played) → Next → Played
plays_on serves t l on (Ok w) = on (serves w.call w.interrupt t) w.length
plays_on serves t l on (Err Cut) = stopped false t l
plays_on serves t l on (Err NoKind) = stopped true t l
plays_on serves t l on (Err End) = stopped false t l

-- The tape l played from the table t, for n calls at most, while 6 bytes are left of the room, where `serves` is what a call does.
unfoldable pub plays : (Call → Bool → Table → Outcome) → (n room : ℕ) → Table → List ℕ → Played
plays serves zero room t l = stopped false t l
plays serves (suc n) room t l =
    let turn = plays_on serves t l (λ o m. behind (line o) (plays serves n (room - length (line o)) o.table (drop m l))) (next_in l) in
    cond (ltb room 6) (stopped false t l) turn

-- ---- a turn

module _ (serves : Call → Bool → Table → Outcome) where
  pub plays-full : (n room : ℕ) (t : Table) (l : List ℕ) → room < 6 → plays serves n room t l ≡ stopped false t l
  unfolding plays
  plays-full zero room t l h = refl
  plays-full (suc n) room t l h = rw (lt-ltb room 6 h)

  pub plays_next : (n room : ℕ) (t : Table) (l : List ℕ) → 6 ≤ room
      → plays serves (suc n) room t l ≡ plays_on serves t l (λ o m. behind (line o) (plays serves n (room - length (line o)) o.table (drop m l))) (next_in l)
  unfolding plays
  plays_next n room t l h = rw (le-ltb room 6 h)
