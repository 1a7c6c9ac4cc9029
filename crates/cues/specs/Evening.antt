-- An evening at the desk: cues line up and change their levels, and then they are played. What it means that they are played in order.
use Rattle.std.specs.Prelude.{◌≡◌, Bool, cond, not, List, [], ◌∷◌, ◌++◌, ℕ, ◌≤◌, eqb, length, get_or, set, take}
use Rattle.queue.specs.Order.{All, Ordered, those}
use Rattle.queue.specs.Answers.{insert_answer, move_answer, inserted, moved_in}
use Rattle.queue.specs.Changes.{made}
use Rattle.cues.specs.Plays.{Played}

abbrev pub level_of : List ℕ → ℕ → ℕ
level_of levels cue = get_or levels cue 0

-- No cue comes before one of a smaller level.
pub data Rising (levels : List ℕ) : List ℕ → Type 0 where
  nothing : Rising levels []
  next : {cue : ℕ} {cues : List ℕ} → All (λ later. level_of levels cue ≤ level_of levels later) cues → Rising levels cues → Rising levels (cue ∷ cues)

-- The cues of a level, in their order.
abbrev pub of_level : List ℕ → ℕ → List ℕ → List ℕ
of_level levels k cues = those (λ cue. eqb (level_of levels cue) k) cues

-- The cues played are those that came, by their levels, and among equals in the order in which they came.
pub record InOrder (levels came cues : List ℕ) : Type 0 where
  pub rising : Rising levels cues
  pub stable : (k : ℕ) → of_level levels k cues ≡ of_level levels k came

-- The levels, the queue, and the cues that were accepted, in the order in which they came to their levels.
pub record Desk : Type 0 where
  pub levels : List ℕ
  pub queue : List ℕ
  pub came : List ℕ

pub data Step : Type 0 where
  lines_up : ℕ → Step
  changes : ℕ → ℕ → Step

-- Who is refused has not come.
abbrev pub accepted : Bool → ℕ → List ℕ
accepted a cue = cond a (cue ∷ []) []

-- A cue lines up; a cue changes its level, and where it stands in the queue it comes anew.
unfoldable pub step : Step → Desk → Desk
step (lines_up cue) d = record {
  levels = d.levels;
  queue = inserted d.levels cue d.queue;
  came = d.came ++ accepted (made (insert_answer d.levels cue d.queue)) cue;
}
step (changes cue level) d = record {
  levels = set d.levels cue level;
  queue = moved_in (set d.levels cue level) cue d.queue;
  came = those (λ other. not (eqb other cue)) d.came ++ accepted (made (move_answer (set d.levels cue level) cue d.queue)) cue;
}

unfoldable pub evening : List Step → Desk → Desk
evening [] d = d
evening (s ∷ steps) d = evening steps (step s d)

-- Nobody has come, and every slot is free.
pub record Opens (d : Desk) : Type 0 where
  pub free : All (λ v. v ≡ 0) d.queue
  pub nobody : d.came ≡ []

-- The cues that come out of the queue l into `out` come by their levels, where l is in order; and in order, where any evening has led to l
-- and there is room for all.
pub record PlayedInOrder (l out : List ℕ) (r : ℕ) (l' out' : List ℕ) : Type 0 where
  pub played : Played l out r l' out'
  pub rising : (levels : List ℕ) → Ordered levels l → Rising levels (take r out')
  pub in_order : (steps : List Step) (d : Desk) → Opens d → l ≡ (evening steps d).queue → length l ≤ length out
      → InOrder (evening steps d).levels (evening steps d).came (take r out')
