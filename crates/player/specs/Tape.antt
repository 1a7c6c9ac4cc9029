-- What is played is the tape of the rules. Its calls test the table and the player's do not.
use Rattle.std.specs.Prelude.{◌≡◌, refl, ℕ, ◌*◌, ◌≤◌}
use Rattle.std.proofs.Common.{sym, ◌∙◌}
use mathlib.Core.List.{List, [], ◌++◌, flatten}
use Rattle.rules.specs.Table.{fresh_table}
use Rattle.rules.specs.Step.{serve}
use Rattle.rules.specs.Tape.{Bytes, tape}
use Rattle.laws.specs.numbers.Tape.{tape-served}
use Rattle.tape.specs.Next.{next_in}
use Rattle.tape.specs.Play.{plays}
use Rattle.tape.specs.Prints.{prints, plays_more}
use Rattle.tape.specs.Reads.{by_reads, reads-prints}

-- A part played from the fresh table, then the rest with what is read behind it: what the rules print of the whole tape.
pub plays-tape : (n room : ℕ) (l more : List ℕ) → Bytes (l ++ more)
    → let p = plays serve n room fresh_table l in p.text ++ prints serve p.table (p.rest ++ more) ≡ tape (l ++ more)
plays-tape n room l more b = plays_more serve n room fresh_table l more ∙ sym (tape-served (l ++ more) b)

-- And so read by read to the end, as `play` does it: what is printed of all reads is what the rules print of the tape that they make up.
pub reads-tape : (room : ℕ → ℕ) → ((n : ℕ) → 6 * n ≤ room n) → (rs : List (List ℕ)) → Bytes (flatten rs)
    → by_reads serve room fresh_table [] rs ≡ tape (flatten rs)
unfolding next_in
reads-tape room enough rs b = reads-prints serve room enough fresh_table [] rs refl ∙ sym (tape-served (flatten rs) b)
