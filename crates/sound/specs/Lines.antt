-- One queue, slot by slot, from its front up to the first free slot. `spots` has where each task stands; a slot strikes the spot of its task
-- out, and so it can stand in no second slot.
use Rattle.std.specs.Prelude.{◌≡◌, refl, ◌⊎◌, Option, Some, None, Bool, cond, ◌&&◌, List, [], ◌∷◌, ℕ, ◌+◌, ◌-◌, ◌≤◌, ◌<◌, leb, length, set}
use Rattle.std.proofs.Math.Path.{ap}
use Rattle.std.proofs.Common.{◌∙◌, length-set, get_or-set_same, get_or-set_other}
use Rattle.std.proofs.Math.Logic.{inl, inr, ⊎_elim}
use Rattle.std.proofs.Math.Bool.{true, false}
use Rattle.std.proofs.Math.Decide.{ℕ_discrete}
use native.Mathlib.Omega.{arith}
use Rattle.std.proofs.Math.Dec.{eqb}
use Rattle.std.proofs.Math.ListN.{get_or}
use borrow.Author.Tests.{eq-eqb, ne_eqb}
use Rattle.queue.specs.Slots.{key_of}
use Rattle.queue.specs.Order.{All, none, more, Ordered, empty, front, one, count}
use Rattle.queue.specs.Counts.{one_same, one_other}
use Rattle.queue.specs.Keeps.{all_map}
use Rattle.rules.specs.Sizes.{task_count}
use Rattle.rules.specs.Table.{queue_count, written}
use Rattle.rules.specs.Sound.{Each, once}
use Rattle.rules.proofs.Tested.{once_most}
use Rattle.rules.specs.Decides.{Decides, equals, at_most, first, last}
use Rattle.sound.specs.Tests.{by_cases, always, never, and_first, and_second}
use Rattle.sound.specs.Packed.{Packed, lead, packed-free, packed_rest}

-- ---- the test

-- What is struck out is in no queue.
abbrev pub struck_out : ℕ
struck_out = 255

-- Whether v may stand next in queue q, behind a task of this key.
unfoldable pub may_stand : ℕ → ℕ → List ℕ → List ℕ → ℕ → Bool
may_stand q key keys spots v = cond (leb v task_count) (eqb (get_or spots (v - 1) 0) q && leb key (key_of keys v)) false

unfoldable pub lined : List ℕ → ℕ → ℕ → List ℕ → List ℕ → Bool
lined keys q key spots [] = true
lined keys q key spots (x ∷ xs) =
    let rest = lined keys q (key_of keys x) (set spots (x - 1) struck_out) xs in
    cond (eqb x 0) true (may_stand q key keys spots x && rest)

unfoldable pub struck : List ℕ → List ℕ → List ℕ
struck spots [] = spots
struck spots (x ∷ xs) = let rest = struck (set spots (x - 1) struck_out) xs in cond (eqb x 0) spots rest

-- What the walk over a queue answers and leaves, by a test that it passes.
pub record Walked (passes : Bool) (ids spots : List ℕ) (r : Option ℕ) (after : List ℕ) : Type 0 where
  pub filled : r ≡ cond passes (Some (lead ids)) None
  pub left : passes ≡ true → after ≡ struck spots ids

-- ---- what it says of a queue that is packed

-- In order, of tasks alone; each of them has its spot here, and stands here once.
pub record Line (keys : List ℕ) (q : ℕ) (spots l : List ℕ) : Type 0 where
  pub ordered : Ordered keys l
  pub within : All (λ v. v ≤ task_count) l
  pub alone : Each task_count (λ i. count (written i) l ≤ once (eqb (get_or spots i 0) q))

-- The same of the slots behind a task of this key.
record Behind (keys : List ℕ) (q key : ℕ) (spots l : List ℕ) : Type 0 where
  line : Line keys q spots l
  above : All (λ v. (v ≡ 0) ⊎ (key ≤ key_of keys v)) l

-- ---- free slots

count-free : {l : List ℕ} (i : ℕ) → All (λ v. v ≡ 0) l → count (i + 1) l ≡ 0
unfolding count
count-free i none = refl
count-free i (more {x} {xs} p a) = omega (arith, one_other (i + 1) x (λ e. omega arith), count-free i a)

module _ (keys : List ℕ) where
  free-ordered : {l : List ℕ} → All (λ v. v ≡ 0) l → Ordered keys l
  free-ordered none = empty
  free-ordered (more p a) = front (all_map (λ v e. inl e) a) (free-ordered a)

  free-behind : {l : List ℕ} (q key : ℕ) (spots : List ℕ) → All (λ v. v ≡ 0) l → Behind keys q key spots l
  free-behind q key spots a =
      record {
        line = record { ordered = free-ordered a; within = all_map (λ v e. omega arith) a; alone = λ i h. omega (arith, count-free i a) };
        above = all_map (λ v e. inl e) a;
      }

-- ---- one slot that is not free

May : ℕ → ℕ → List ℕ → List ℕ → ℕ → Type 0
May q key keys spots x = (x ≤ task_count) × (get_or spots (x - 1) 0 ≡ q) × (key ≤ key_of keys x)

may : (q key : ℕ) (keys spots : List ℕ) (x : ℕ) → Decides (may_stand q key keys spots x) (May q key keys spots x)
unfolding may_stand May
may q key keys spots x =
    by_cases at_most
    (λ m. first (λ r. r.1) equals λ e. last (λ r. r.2) at_most λ k. (m, e, k))
    (λ m. never (λ r. m r.0))

-- The spots after the slot x: that of its task is no queue, and the others are as before.
module _ (spots : List ℕ) (x : ℕ) (d : x ≡ 0 → ⊥) where
  own-spot : (i : ℕ) → x ≤ length spots → x ≡ i + 1 → get_or (set spots (x - 1) struck_out) i 0 ≡ struck_out
  own-spot i m e =
      let p : i ≡ x - 1 = omega arith in
      rw p (get_or-set_same spots (x - 1) struck_out 0 (omega arith))

  other_spot : (i : ℕ) → (x ≡ i + 1 → ⊥) → get_or (set spots (x - 1) struck_out) i 0 ≡ get_or spots i 0
  other_spot i e = get_or-set_other spots (x - 1) i struck_out 0 (λ p. e (omega arith))

module _ {keys : List ℕ} {q key : ℕ} {spots : List ℕ} (h : q < queue_count) (n : length spots ≡ task_count) {x : ℕ} {xs : List ℕ} (d : x ≡ 0 → ⊥) where
  -- What stands in front may stand there, and the rest stands behind it.
  front_may : Behind keys q key spots (x ∷ xs) → May q key keys spots x
  unfolding May count
  front_may b = go b.line.within b.above
    where
      spot : x ≤ task_count → (c : Bool) → eqb (get_or spots (x - 1) 0) q ≡ c → get_or spots (x - 1) 0 ≡ q
      spot m true e = equals.holds e
      spot m false e =
          let p : x - 1 + 1 ≡ x = omega arith in
          absurd (omega (arith, rw (p, e) at (b.line.alone (x - 1) (omega arith)), one_same x))

      go : All (λ v. v ≤ task_count) (x ∷ xs) → All (λ v. (v ≡ 0) ⊎ (key ≤ key_of keys v)) (x ∷ xs) → (x ≤ task_count) × (get_or spots (x - 1) 0 ≡ q) × (key ≤ key_of keys x)
      go (more m w) (more a u) = (m, spot m _ refl, ⊎_elim (λ e. absurd (d e)) (λ k. k) a)

  rest_behind : Behind keys q key spots (x ∷ xs) → Behind keys q (key_of keys x) (set spots (x - 1) struck_out) xs
  unfolding count
  rest_behind b = go b.line.ordered b.line.within
    where
      alone : (i : ℕ) → i < task_count → Dec (x ≡ i + 1) → count (i + 1) xs ≤ once (eqb (get_or (set spots (x - 1) struck_out) i 0) q)
      alone i l (yes e) = omega (arith, b.line.alone i l, ap (one (i + 1)) e, one_same (i + 1), once_most (eqb (get_or spots i 0) q))
      alone i l (no e) = rw (other_spot spots x d i e) (omega (arith, b.line.alone i l))

      go : Ordered keys (x ∷ xs) → All (λ v. v ≤ task_count) (x ∷ xs) → Behind keys q (key_of keys x) (set spots (x - 1) struck_out) xs
      go (front a o) (more m w) =
          record {
            line = record { ordered = o; within = w; alone = λ i l. alone i l (ℕ_discrete x (i + 1)) };
            above = all_map (λ v p. ⊎_elim (λ e. inl e) (λ k. inr k.1) p) a;
          }

  front_behind : May q key keys spots x → Behind keys q (key_of keys x) (set spots (x - 1) struck_out) xs → Behind keys q key spots (x ∷ xs)
  unfolding May count
  front_behind (m, z, k) b =
      record {
        line =
            record {
              ordered = front (all_map (λ v p. ⊎_elim (λ z. inl z) (λ l. inr (d, l)) p) b.above) b.line.ordered;
              within = more m b.line.within;
              alone = λ i l. alone i l (ℕ_discrete x (i + 1));
            };
        above = more (inr k) (all_map (λ v p. ⊎_elim (λ z. inl z) (λ l. inr (omega arith)) p) b.above);
      }
    where
      alone : (i : ℕ) → i < task_count → Dec (x ≡ i + 1) → one (i + 1) x + count (i + 1) xs ≤ once (eqb (get_or spots i 0) q)
      alone i l (yes e) =
          let p : i ≡ x - 1 = omega arith in
          let s : get_or spots i 0 ≡ q = ap (λ (j : ℕ). get_or spots j 0) p ∙ z in
          rw (eq-eqb (get_or spots i 0) q s)
          (omega (arith, ap (one (i + 1)) e, one_same (i + 1), rw (own-spot spots x d i (omega arith) e, ne_eqb struck_out q (λ y. omega arith)) at (b.line.alone i l)))
      alone i l (no e) = omega (arith, one_other (i + 1) x e, rw (other_spot spots x d i e) at (b.line.alone i l))

-- ---- all slots

lined-says : (keys : List ℕ) (q key : ℕ) (spots l : List ℕ) → q < queue_count → length spots ≡ task_count → Packed l → Decides (lined keys q key spots l) (Behind keys q key spots l)
unfolding lined
lined-says keys q key spots [] h n p = always (free-behind keys q key spots none)
lined-says keys q key spots (x ∷ xs) h n p =
    by_cases equals
    (λ e. always (free-behind keys q key spots (more e (packed-free e p))))
    (λ d. first (front_may h n d) (may q key keys spots x) λ m.
    last (rest_behind h n d) (lined-says keys q (key_of keys x) (set spots (x - 1) struck_out) xs h (length-set spots (x - 1) struck_out ∙ n) (packed_rest d p)) λ b.
    front_behind h n d m b)

-- The test of a queue, from its front on.
pub line-says : (keys : List ℕ) (q : ℕ) (spots l : List ℕ) → q < queue_count → length spots ≡ task_count → Packed l → Decides (lined keys q 0 spots l) (Line keys q spots l)
line-says keys q spots l h n p = last (λ r. record { line = r; above = above l }) (lined-says keys q 0 spots l h n p) λ b. b.line
  where
    above : (l : List ℕ) → All (λ v. (v ≡ 0) ⊎ (0 ≤ key_of keys v)) l
    above [] = none
    above (x ∷ xs) = let z : 0 ≤ key_of keys x = omega arith in more (inr z) (above xs)

-- Where a queue is right, just the spots of its tasks are struck out.
pub struck_at : (keys : List ℕ) (q key : ℕ) (spots l : List ℕ) → q < queue_count → length spots ≡ task_count → Packed l → lined keys q key spots l ≡ true → (i : ℕ) → i < task_count
    → get_or (struck spots l) i 0 ≡ cond (eqb (count (i + 1) l) 0) (get_or spots i 0) struck_out
unfolding lined struck count May
struck_at keys q key spots [] h n p e i l = refl
struck_at keys q key spots (x ∷ xs) h n p e i l = go (ℕ_discrete x 0) (ℕ_discrete x (i + 1)) (λ d. struck_at keys q (key_of keys x) (set spots (x - 1) struck_out) xs h (length-set spots (x - 1) struck_out ∙ n) (packed_rest d p))
  where
    further : Bool
    further = lined keys q (key_of keys x) (set spots (x - 1) struck_out) xs

    ok : (x ≡ 0 → ⊥) → May q key keys spots x × (further ≡ true)
    ok d =
        let both : may_stand q key keys spots x && further ≡ true = rw (ne_eqb x 0 d) at e in
        ((may q key keys spots x).holds (and_first (may_stand q key keys spots x) further both), and_second (may_stand q key keys spots x) further both)

    either_way : (b : Bool) → cond b struck_out struck_out ≡ struck_out
    either_way true = refl
    either_way false = refl

    go : Dec (x ≡ 0) → Dec (x ≡ i + 1)
        → ((x ≡ 0 → ⊥) → lined keys q (key_of keys x) (set spots (x - 1) struck_out) xs ≡ true → (i : ℕ) → i < task_count → get_or (struck (set spots (x - 1) struck_out) xs) i 0 ≡ cond (eqb (count (i + 1) xs) 0) (get_or (set spots (x - 1) struck_out) i 0) struck_out)
        → get_or (cond (eqb x 0) spots (struck (set spots (x - 1) struck_out) xs)) i 0 ≡ cond (eqb (one (i + 1) x + count (i + 1) xs) 0) (get_or spots i 0) struck_out
    go (yes z) f rest =
        let none : one (i + 1) x + count (i + 1) xs ≡ 0 = omega (arith, one_other (i + 1) x (λ y. omega arith), count-free i (packed-free z p)) in
        rw (eq-eqb x 0 z, eq-eqb (one (i + 1) x + count (i + 1) xs) 0 none)
    go (no d) (yes f) rest =
        let m : x ≤ task_count = (ok d).0.0 in
        let some : one (i + 1) x + count (i + 1) xs ≡ 0 → ⊥ = λ z. omega (arith, ap (one (i + 1)) f, one_same (i + 1)) in
        rw (ne_eqb x 0 d, ne_eqb (one (i + 1) x + count (i + 1) xs) 0 some)
        (rest d (ok d).1 i l ∙ rw (own-spot spots x d i (omega arith) f) (either_way (eqb (count (i + 1) xs) 0)))
    go (no d) (no f) rest =
        let same : one (i + 1) x + count (i + 1) xs ≡ count (i + 1) xs = omega (arith, one_other (i + 1) x f) in
        rw (ne_eqb x 0 d, same) (rest d (ok d).1 i l ∙ rw (other_spot spots x d i f))

-- The walk of an empty queue.
pub lined-free : (keys : List ℕ) (q key : ℕ) (spots l : List ℕ) → get_or l 0 0 ≡ 0 → lined keys q key spots l ≡ true
unfolding lined
lined-free keys q key spots [] e = refl
lined-free keys q key spots (x ∷ xs) e = rw (eq-eqb x 0 e)

pub struck-free : (spots l : List ℕ) → get_or l 0 0 ≡ 0 → struck spots l ≡ spots
unfolding struck
struck-free spots [] e = refl
struck-free spots (x ∷ xs) e = rw (eq-eqb x 0 e)

pub struck-length : (spots l : List ℕ) → length (struck spots l) ≡ length spots
unfolding struck
struck-length spots [] = refl
struck-length spots (x ∷ xs) = go (eqb x 0) (struck-length (set spots (x - 1) struck_out) xs ∙ length-set spots (x - 1) struck_out)
  where
    go : (b : Bool) → length (struck (set spots (x - 1) struck_out) xs) ≡ length spots → length (cond b spots (struck (set spots (x - 1) struck_out) xs)) ≡ length spots
    go true e = refl
    go false e = e

-- What may stand somewhere is a task.
pub may-task : (q key : ℕ) (keys spots : List ℕ) (v : ℕ) → may_stand q key keys spots v ≡ true → v ≤ task_count
unfolding May
may-task q key keys spots v e = ((may q key keys spots v).holds e).0
