-- What the player does, in the words of the queue's contracts: it takes the first cue out again and again.
use Rattle.std.specs.Prelude.{Option, Some, None, ◌≡◌, List, [], ◌∷◌, ◌++◌, ℕ, zero, suc, length, drop}
use Rattle.queue.specs.Slots.{without}
use Rattle.queue.specs.Answers.{head_of}

-- One thing with the first cue, and another where there is none.
abbrev pub with_first : Option ℕ → (ℕ → List ℕ) → List ℕ → List ℕ
with_first (Some cue) one other = one cue
with_first None one other = other

-- The cues that come out, n at most, in their order.
unfoldable pub played : ℕ → List ℕ → List ℕ
played zero l = []
played (suc n) l = with_first (head_of l) (λ cue. cue ∷ played n (without cue l)) []

-- The queue that is left.
unfoldable pub left : ℕ → List ℕ → List ℕ
left zero l = l
left (suc n) l = with_first (head_of l) (λ cue. left n (without cue l)) l

-- Cues written over the front of what is there.
unfoldable pub over : List ℕ → List ℕ → List ℕ
over cues out = cues ++ drop (length cues) out

-- Of the queue l the cues come out into `out`, as many as it has room for: r of them, and l' and out' are left.
pub record Played (l out : List ℕ) (r : ℕ) (l' out' : List ℕ) : Type 0 where
  pub many : r ≡ length (played (length out) l)
  pub told : out' ≡ over (played (length out) l) out
  pub rest : l' ≡ left (length out) l
