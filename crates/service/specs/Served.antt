-- What a service promises, and that one outcome alone meets it.
use Rattle.std.specs.Prelude.{◌≡◌, refl, Bool, true, false, List, ℕ}
use Rattle.std.proofs.Common.{sym, ◌∙◌}
use Rattle.rules.specs.Table.{Table}
use Rattle.rules.specs.Step.{changes}
use Rattle.rules.specs.Tape.{Bytes}
use Rattle.table.specs.Image.{Image, view}
use Rattle.table.specs.Written.{lossless}

-- A call answered r, from the bytes l with the bytes m, where the rules answer n and the table that they make is `new`: it answers
-- n; where that changes anything the bytes show the new table, and else they are the very bytes that came.
pub record Served (n : ℕ) (new : Table) (r : ℕ) (l m : List ℕ) : Type 0 where
  pub says : r ≡ n
  pub done : changes r ≡ true → view m ≡ new
  pub kept : changes r ≡ false → m ≡ l

-- No two outcomes meet it for one input. What a service leaves of the image that it is lent is an image of bytes, as the types say.
pub determined : {n : ℕ} {new : Table} {r r' : ℕ} {l m m' : List ℕ} → Image m → Bytes m → Image m' → Bytes m' → Served n new r l m → Served n new r' l m' → (r ≡ r') × (m ≡ m')
determined {n} {m = m} {m' = m'} long bytes long' bytes' s s' = (s.says ∙ sym s'.says, same (changes n) refl)
  where
    same : (b : Bool) → changes n ≡ b → m ≡ m'
    same true e = lossless m m' long long' bytes bytes' (s.done (rw s.says e) ∙ sym (s'.done (rw s'.says e)))
    same false e = s.kept (rw s.says e) ∙ sym (s'.kept (rw s'.says e))
