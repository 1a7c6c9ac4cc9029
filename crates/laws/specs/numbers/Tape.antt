-- A tape of bytes prints the same whether each call tests the table first (`step`) or not (`serve`).
use Rattle.std.specs.Prelude.{◌≡◌, refl, Bool, List, [], ◌∷◌, ℕ, zero, suc, ◌+◌, ◌≤◌, ◌<◌, ◌^◌, length, get_or, take, drop, Option, Some, None}
use Rattle.std.proofs.Common.{subst, pow-suc, arith, get_or-drop}
use Rattle.std.proofs.Math.Nat.{one-le-pow, pow-le-pow_right}
use Rattle.queue.specs.Order.{All, none, more}
use Rattle.rules.specs.Sizes.{ticks_round}
use Rattle.rules.specs.Table.{Table, fresh_table}
use Rattle.rules.specs.Sound.{Sound}
use Rattle.rules.specs.Step.{Bounded, serve, step}
use Rattle.rules.specs.Kinds.{kinds, plain_kind, of_kind, says_call, reading, spelled, numbers_of}
use Rattle.rules.specs.KindLaws.{end, with, told_each, all_at, widths-narrow}
use Rattle.rules.specs.Tape.{Bytes, little, numbers, body_length, call_in, printed_of, printed, tape}
use Rattle.rules.specs.declared.Call.{Call}
use Rattle.rules.specs.declared.Reading.{Reading}
use Rattle.laws.specs.keeps.Sounds.{serve-sound, step-serve, fresh-sound}

-- ---- numbers made of bytes

bytes-behind : (n : ℕ) (l : List ℕ) → Bytes l → Bytes (drop n l)
bytes-behind n l b j = rw (get_or-drop n l j 0) (b (n + j))

little-below : (w : ℕ) (l : List ℕ) → Bytes l → little (take w l) < 256 ^ w
unfolding little
little-below zero l b = omega arith
little-below (suc w) [] b = one-le-pow (suc w) 256 (omega arith)
little-below (suc w) (x ∷ l) b =
    let p : x < 256 = b 0 in
    let h = little-below w l (λ j. b (suc j)) in
    rw (pow-suc 256 w) (omega arith)

-- A number of at most 4 bytes has 32 bits.
pub little-small : {w : ℕ} (l : List ℕ) → w ≤ 4 → Bytes l → little (take w l) < ticks_round
little-small {w} l h b = let most : 256 ^ w ≤ 256 ^ 4 = pow-le-pow_right (omega arith) h in omega (arith, little-below w l b)

-- ---- the call that is read

-- No number of a body has more than 4 bytes, so each has 32 bits.
numbers-small : (ws l : List ℕ) → ((i : ℕ) → get_or ws i 0 ≤ 4) → Bytes l → (i : ℕ) → get_or (numbers ws l) i 0 < ticks_round
unfolding numbers
numbers-small [] l four b i = omega arith
numbers-small (w ∷ ws) l four b zero = little-small l (four 0) b
numbers-small (w ∷ ws) l four b (suc i) = numbers-small ws (drop w l) (λ j. four (suc j)) (bytes-behind w l b) i

-- The numbers of the call that a reading says have 32 bits.
abbrev pub BoundedIn : Reading → Type 0
BoundedIn r = elim (r.call) as (λ _. Type 0) [ Some c ↦ Bounded c | None ↦ Unit {0} ]

bounded : (c : Call) → All (λ n. n < ticks_round) (numbers_of c) → Bounded c
unfolding Bounded
bounded c a = all_at {P = λ n. n < ticks_round} (omega arith) a

pub kind-bounded : (k : ℕ) (ns : List ℕ) (interrupt : Bool) → ((i : ℕ) → get_or ns i 0 < ticks_round) → BoundedIn (of_kind k ns interrupt)
unfolding of_kind spelled
kind-bounded k ns interrupt small = told_each BoundedIn _ kinds k _ (search (end, with, bounded, none, more, small) depth 40 fits 5000) tt

reading-bounded : (kind : ℕ) (body : List ℕ) → Bytes body → BoundedIn (call_in kind body)
unfolding call_in reading
reading-bounded kind body b = kind-bounded (plain_kind kind) _ _ (numbers-small _ body (widths-narrow (plain_kind kind)).four b)

-- A call that is read from bytes has numbers of 32 bits.
pub call-bounded : (kind : ℕ) (body : List ℕ) {c : Call} {interrupt : Bool} → Bytes body → call_in kind body ≡ says_call c interrupt → Bounded c
call-bounded kind body b e = subst BoundedIn e (reading-bounded kind body b)

-- ---- the tape

one_served : {t : Table} → Sound t → (cut : Bool) {rest rest' : Table → List ℕ} → ((u : Table) → Sound u → rest u ≡ rest' u) → (r : Reading) → BoundedIn r
    → printed_of step t cut rest r ≡ printed_of serve t cut rest' r
unfolding printed_of
one_served {t} s cut {rest} {rest'} same r = go r.call
  where
    go : (call : Option Call) → let r' : Reading = record { call = call; interrupt = r.interrupt } in BoundedIn r' → printed_of step t cut rest r' ≡ printed_of serve t cut rest' r'
    go None b = refl
    go (Some c) b = rw (step-serve s c r.interrupt, same (serve c r.interrupt t).table (serve-sound s c b r.interrupt))

-- From a sound table the test at each call changes nothing of what is printed.
pub printed-served : {t : Table} → Sound t → (n : ℕ) (l : List ℕ) → Bytes l → printed step n t l ≡ printed serve n t l
unfolding printed
printed-served s zero l b = refl
printed-served s (suc n) [] b = refl
printed-served s (suc n) (kind ∷ body) b =
    let rest : Bytes body = λ j. b (suc j) in
    one_served s _ (λ u h. printed-served h n (drop (body_length kind) body) (bytes-behind (body_length kind) body rest)) (call_in kind body) (reading-bounded kind body rest)

-- So the tape of the rules is what the services print, which do not test the table.
pub tape-served : (l : List ℕ) → Bytes l → tape l ≡ printed serve (length l) fresh_table l
unfolding tape
tape-served l b = printed-served fresh-sound (length l) l b
