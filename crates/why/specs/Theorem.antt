-- What `why_of` says of a table. Statements alone; `Explained` proves each.
--
-- For a reader who knows no antt. `why_of t` (`Tests`) is a rule's number and a record's number. `WhyExactly` says that they are right: the rule is 0 exactly
-- where the table is sound, and else it is broken at that record, and nothing before it is. `Broken` lists the rules. That antt accepts `Explained` is
-- the proof; nothing is assumed but that the lists of the table have the paper's sizes, and each image of the right length shows such a table
-- (`view-shaped` of the crate `table`).
use Rattle.std.specs.Prelude.{◌≡◌, ◌↔◌, ◌≢◌, ℕ, ◌<◌}
use Rattle.rules.specs.Table.{Table}
use Rattle.rules.specs.Sound.{Shaped, Sound}
use Rattle.why.specs.declared.Reason.{Reason}
use Rattle.why.specs.Broken.{Broken}
use Rattle.why.specs.Tests.{rule_end, why_of}

-- A table is sound exactly where it breaks no rule of the list.
abbrev pub SoundExactly : Type 0
SoundExactly = (t : Table) → Shaped t → Sound t ↔ ((rule number : ℕ) → Broken t rule number → ⊥)

-- The reason r is that of the table t:
pub record Explains (t : Table) (r : Reason) : Type 0 where
  -- the rule is 0 exactly where the table is sound, and always below 0xC0;
  pub sound : (r.rule ≡ 0) ↔ Sound t
  pub below : r.rule < rule_end
  -- with rule 0 the record is 0 too;
  pub none : r.rule ≡ 0 → r.number ≡ 0
  -- else it is a rule of the list, and it is broken at that record;
  pub broken : r.rule ≢ 0 → Broken t r.rule r.number
  -- each rule with a smaller number is kept by every record,
  pub rules : (rule number : ℕ) → rule < r.rule → Broken t rule number → ⊥
  -- and this one by every record with a smaller number.
  pub records : (number : ℕ) → number < r.number → Broken t r.rule number → ⊥

abbrev pub WhyExactly : Type 0
WhyExactly = (t : Table) → Shaped t → Explains t (why_of t)
