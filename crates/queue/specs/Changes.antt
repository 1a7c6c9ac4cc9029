-- The laws in the words of the contracts: what an insertion, a removal and a move keep, whatever they answer. A function's own tests are
-- no premise here; `made` of its answer says whether the change took place.
use Rattle.std.specs.Prelude.{Option, Some, None, Ok, Err, ◌≡◌, not, ◌&&◌, eqb, ltb, length, get_or}
use Rattle.std.proofs.Math.Path.{refl, ap}
use Rattle.std.proofs.Common.{sym, subst, ◌∙◌, inl, inr, true≢false, arith, ltb-true, lt-ltb, eqb-true, eq-eqb, ne_eqb}
use Rattle.std.proofs.Math.Bool.{Bool, true, false, cond, and-false}
use Rattle.std.proofs.lemmas.Bool.{false≢true}
use mathlib.Core.List.{List, [], ◌∷◌, ◌++◌, append-nil}
use Prim.Native.Nat.{ℕ, suc, ◌+◌, ◌-◌, ◌≤◌, ◌<◌}
use Rattle.std.proofs.Math.Decide.{ℕ_discrete}
use Rattle.queue.specs.Slots.{key_of, stands, limit, entered, behind, without, replaced, place_of}
use Rattle.queue.specs.Order.{Le, All, none, more, Ordered, empty, front, one, count, those, other, level, Whole}
use Rattle.queue.specs.Answers.{Answer, head_of, known, insert_answer, move_answer, after, inserted, replaced_in}
use Rattle.queue.specs.Stands.{count-stands, one_same, one_other}
use Rattle.queue.specs.Room.{nothing_falls}
use Rattle.queue.specs.Lengths.{length-entered, length-replaced}
pub use Rattle.queue.specs.Lengths.{length_without}
use Rattle.queue.specs.Counts.{count-entered, count-without, count-replaced, without-free}
use Rattle.queue.specs.Keeps.{all_map, le_self, all_opened, all_closed, key_own, entered-ordered, ordered-agree, Agree}
pub use Rattle.queue.specs.Keeps.{without-ordered}
use Rattle.queue.specs.Stable.{those-opened, those-closed, those-skip, those-take, behind_last, before_first, without-entered, placed}
use Rattle.queue.specs.Checked.{stands_all, entered-whole, replaced-whole}
pub use Rattle.queue.specs.Checked.{without-whole}
use Rattle.queue.specs.declared.Refusal.TheVariants.{BeyondKeys, AlreadyThere, NotThere, Full}

-- Whether an answer says that the change took place.
abbrev pub made : Answer → Bool
made (Ok _) = true
made (Err _) = false

-- The slot that comes in by it.
abbrev pub newly : Answer → ℕ → List ℕ
newly a id = cond (made a) ((id + 1) ∷ []) []

-- The slots are bytes, as those that a function is lent.
abbrev pub Bytes : List ℕ → Type 0
Bytes l = All (λ v. v < 256) l

-- What is known of a lent slice says so: `bytes _ (λ j. omega (arith, c .. .slice-known .given j))`.
pub bytes : (l : List ℕ) → ((j : ℕ) → get_or l j 0 < 256) → Bytes l
bytes [] h = none
bytes (x ∷ xs) h = more (h 0) (bytes xs (λ j. h (suc j)))

-- ---- the start

-- Free slots, as zeroed memory has them, are a whole queue under any keys.
pub free-whole : (keys : List ℕ) {l : List ℕ} → All (λ v. v ≡ 0) l → Whole keys l
unfolding count
free-whole keys none = record { ordered = empty; within = none; once = λ u n. omega arith }
free-whole keys (more {x} e a) =
    let w = free-whole keys a in
    let p : x ≤ length keys = omega (arith, e) in
    record { ordered = front (all_map (λ y z. inl z) a) w.ordered; within = more p w.within; once = λ u n. omega (arith, w.once u n, one_other u x (λ q. n (sym q ∙ e))) }

-- ---- levels

module _ (keys : List ℕ) (k id : ℕ) where
  -- An id is of the level of its key and of no other.
  of_level : (b : Bool) → eqb (get_or keys id 0) k ≡ b → level keys k (id + 1) ≡ b
  of_level b e = rw (ne_eqb (id + 1) 0 (λ p. omega arith), key_own keys id) e

  -- Who comes in comes before all of its own level, or else behind them.
  abbrev pub lined : Bool → List ℕ → List ℕ
  lined in_front l = cond in_front (those (level keys k) ((id + 1) ∷ []) ++ l) (l ++ those (level keys k) ((id + 1) ∷ []))

  entered-level : {l : List ℕ} (in_front : Bool) → Ordered keys l → stands 0 l ≡ true → those (level keys k) (entered in_front keys id l) ≡ lined in_front (those (level keys k) l)
  unfolding those
  entered-level {l} in_front o e = go in_front (eqb (get_or keys id 0) k) refl
    where
      q : ℕ → Bool
      q = level keys k

      own : (j : ℕ) → get_or keys id 0 ≡ j → (b : Bool) → those (level keys j) (entered b keys id l) ≡ cond b ((id + 1) ∷ those (level keys j) l) (those (level keys j) l ++ ((id + 1) ∷ []))
      own j p true = subst (λ (j : ℕ). those (level keys j) (entered true keys id l) ≡ (id + 1) ∷ those (level keys j) l) p (before_first keys id l e)
      own j p false = subst (λ (j : ℕ). those (level keys j) (entered false keys id l) ≡ those (level keys j) l ++ ((id + 1) ∷ [])) p (behind_last id o e)

      others : (b : Bool) → level keys k (id + 1) ≡ false → those q (entered b keys id l) ≡ those q l
      others b t = those-opened q refl _ (id + 1) l t (nothing_falls keys (limit b (get_or keys id 0)) (id + 1) l e)

      go : (b a : Bool) → eqb (get_or keys id 0) k ≡ a → those q (entered b keys id l) ≡ lined b (those q l)
      go true true t = own k (eqb-true (get_or keys id 0) k t) true ∙ ap (λ (r : List ℕ). r ++ those q l) (sym (those-take q (id + 1) [] (of_level true t)))
      go false true t = own k (eqb-true (get_or keys id 0) k t) false ∙ ap (λ (r : List ℕ). those q l ++ r) (sym (those-take q (id + 1) [] (of_level true t)))
      go true false t = others true (of_level false t) ∙ ap (λ (r : List ℕ). r ++ those q l) (sym (those-skip q (id + 1) [] (of_level false t)))
      go false false t =
          others false (of_level false t) ∙ sym (append-nil (those q l)) ∙ ap (λ (r : List ℕ). those q l ++ r) (sym (those-skip q (id + 1) [] (of_level false t)))

-- ---- an insertion

-- What an insertion that takes place has found.
record Enters (keys : List ℕ) (id : ℕ) (l : List ℕ) : Type 0 where
  small : id < 255
  inside : id < length keys
  absent : stands (id + 1) l ≡ false
  room : stands 0 l ≡ true

known_id : (keys : List ℕ) (id : ℕ) → known keys id ≡ true → (id < 255) × (id < length keys)
known_id keys id = go (ltb id 255) refl
  where
    go : (b : Bool) → ltb id 255 ≡ b → b && ltb id (length keys) ≡ true → (id < 255) × (id < length keys)
    go true s e = (ltb-true id 255 s, ltb-true id (length keys) e)
    go false s e = absurd (false≢true e)

module _ (keys : List ℕ) (id : ℕ) (l : List ℕ) where
  -- What holds of the new queue where the id enters, and of the old one where it is refused, holds of what is left.
  inserted_by : (P : Bool → List ℕ → Type 0) → (Enters keys id l → P true (behind keys id l)) → P false l → P (made (insert_answer keys id l)) (inserted keys id l)
  unfolding inserted insert_answer after
  inserted_by P done left = go (known keys id) refl (stands (id + 1) l) refl (stands 0 l) refl
    where
      answer : Bool → Bool → Bool → Answer
      answer k a r = cond (not k) (Err BeyondKeys) (cond a (Err AlreadyThere) (cond r (Ok tt) (Err Full)))

      go : (k : Bool) → known keys id ≡ k → (a : Bool) → stands (id + 1) l ≡ a → (r : Bool) → stands 0 l ≡ r
          → P (made (answer k a r)) (after (answer k a r) (behind keys id l) l)
      go false d a e r f = left
      go true d true e r f = left
      go true d false e false f = left
      go true d false e true f = let k = known_id keys id d in done (record { small = k.0; inside = k.1; absent = e; room = f })

  -- A refusal leaves the queue as it came.
  pub inserted-refused : made (insert_answer keys id l) ≡ false → inserted keys id l ≡ l
  inserted-refused = inserted_by (λ b m. b ≡ false → m ≡ l) (λ e h. absurd (true≢false h)) (λ h. refl)

  -- As many slots.
  pub inserted-length : length (inserted keys id l) ≡ length l
  inserted-length = inserted_by (λ b m. length m ≡ length l) (λ e. length-entered false keys id l) refl

  -- The id stands there once more where it enters, and each other as often.
  pub inserted-count : (u : ℕ) → (u ≡ 0 → ⊥) → count u (inserted keys id l) ≡ count u l + cond (made (insert_answer keys id l)) (one u (id + 1)) 0
  inserted-count u n = inserted_by (λ b m. count u m ≡ count u l + cond b (one u (id + 1)) 0) (λ e. omega (arith, count-entered u n false keys id l e.room)) (omega arith)

  -- The others keep their order: any choice of slots that has neither the free ones nor this id among them.
  pub inserted-others : (q : ℕ → Bool) → q 0 ≡ false → q (id + 1) ≡ false → those q (inserted keys id l) ≡ those q l
  inserted-others q f h =
      inserted_by (λ b m. those q m ≡ those q l) (λ e. those-opened q f _ (id + 1) l h (nothing_falls keys (limit false (get_or keys id 0)) (id + 1) l e.room)) refl

  -- Order stays.
  pub inserted-ordered : Ordered keys l → Ordered keys (inserted keys id l)
  inserted-ordered o = inserted_by (λ b m. Ordered keys m) (λ e. entered-ordered false id o) o

  -- A whole queue stays whole.
  pub inserted-whole : Whole keys l → Whole keys (inserted keys id l)
  inserted-whole w = inserted_by (λ b m. Whole keys m) (λ e. entered-whole false id w e.inside e.absent e.room) w

  -- Each level is as it was, and who enters comes last of its own.
  pub inserted-level : (k : ℕ) → Ordered keys l → those (level keys k) (inserted keys id l) ≡ those (level keys k) l ++ those (level keys k) (newly (insert_answer keys id l) id)
  unfolding those
  inserted-level k o = inserted_by (λ b m. those (level keys k) m ≡ those (level keys k) l ++ those (level keys k) (cond b ((id + 1) ∷ []) [])) (λ e. entered-level keys k id false o e.room) (sym (append-nil _))

  -- The slots stay bytes.
  pub inserted-bytes : Bytes l → Bytes (inserted keys id l)
  inserted-bytes b = inserted_by (λ _ m. Bytes m) (λ e. all_opened _ (id + 1) (omega (arith, e.small)) b) b

  -- To remove who has entered gives the queue back.
  pub inserted-undone : Ordered keys l → made (insert_answer keys id l) ≡ true → without id (inserted keys id l) ≡ l
  inserted-undone o = inserted_by (λ b m. b ≡ true → without id m ≡ l) (λ e h. without-entered false id o e.room e.absent) (λ h. absurd (false≢true h))

-- ---- a removal; `without-whole`, `without-ordered` and `length_without` have no premise of its own either

module _ (id : ℕ) (l : List ℕ) where
  -- The others keep their order.
  pub removed_others : (q : ℕ → Bool) → q 0 ≡ false → q (id + 1) ≡ false → those q (without id l) ≡ those q l
  removed_others q f h = those-closed q f (place_of id l) l (placed q (id + 1) f h l)

  -- The slots stay bytes.
  pub removed_bytes : Bytes l → Bytes (without id l)
  removed_bytes b = all_closed _ (omega arith) b

-- ---- a move

module _ (in_front : Bool) (keys : List ℕ) (id : ℕ) (l : List ℕ) where
  replaced_in_by : (P : Bool → List ℕ → Type 0) → (stands (id + 1) l ≡ true → P true (replaced in_front keys id l)) → ((known keys id ≡ true → stands (id + 1) l ≡ false) → P false l)
      → P (made (move_answer keys id l)) (replaced_in in_front keys id l)
  unfolding replaced_in move_answer after
  replaced_in_by P done left = go (known keys id) refl (stands (id + 1) l) refl
    where
      answer : Bool → Bool → Answer
      answer k a = cond (not k) (Err BeyondKeys) (cond a (Ok tt) (Err NotThere))

      go : (k : Bool) → known keys id ≡ k → (a : Bool) → stands (id + 1) l ≡ a → P (made (answer k a)) (after (answer k a) (replaced in_front keys id l) l)
      go false d a e = left (λ h. absurd (false≢true (sym d ∙ h)))
      go true d true e = done e
      go true d false e = left (λ h. e)

  -- A refusal leaves the queue as it came.
  pub replaced_in-refused : made (move_answer keys id l) ≡ false → replaced_in in_front keys id l ≡ l
  replaced_in-refused = replaced_in_by (λ b m. b ≡ false → m ≡ l) (λ e h. absurd (true≢false h)) (λ e h. refl)

  -- As many slots.
  pub replaced_in-length : length (replaced_in in_front keys id l) ≡ length l
  replaced_in-length = replaced_in_by (λ b m. length m ≡ length l) (λ e. length-replaced in_front keys id l) (λ e. refl)

  -- Each id stands there as often.
  pub replaced_in-count : (u : ℕ) → (u ≡ 0 → ⊥) → count u (replaced_in in_front keys id l) ≡ count u l
  replaced_in-count u n = replaced_in_by (λ b m. count u m ≡ count u l) (λ e. count-replaced u n in_front keys id l e) (λ e. refl)

  -- The others keep their order.
  pub replaced_in-others : (q : ℕ → Bool) → q 0 ≡ false → q (id + 1) ≡ false → those q (replaced_in in_front keys id l) ≡ those q l
  replaced_in-others q f h = replaced_in_by (λ b m. those q m ≡ those q l) there (λ e. refl)
    where
      there : stands (id + 1) l ≡ true → those q (replaced in_front keys id l) ≡ those q l
      there e = those-opened q f _ (id + 1) (without id l) h (nothing_falls keys (limit in_front (get_or keys id 0)) (id + 1) (without id l) (without-free id l e)) ∙ removed_others id l q f h

  -- The slots stay bytes.
  pub replaced_in-bytes : Bytes l → Bytes (replaced_in in_front keys id l)
  replaced_in-bytes b = replaced_in_by (λ _ m. Bytes m) (λ e. all_opened _ (id + 1) (stands_all (id + 1) e b) (all_closed _ (omega arith) b)) (λ e. b)

-- Another id of the level k than the one in v.
abbrev pub peer : List ℕ → ℕ → ℕ → ℕ → Bool
peer keys k v x = other v x && level keys k x

module _ (keys : List ℕ) (k v : ℕ) where
  peer-level : (x : ℕ) → (x ≡ v → ⊥) → level keys k x ≡ peer keys k v x
  peer-level x n = go (eqb x 0) refl
    where
      go : (b : Bool) → eqb x 0 ≡ b → not b && eqb (key_of keys x) k ≡ (not b && not (eqb x v)) && (not b && eqb (key_of keys x) k)
      go true e = refl
      go false e = rw (ne_eqb x v n)

  -- Where v does not stand, those of a level are the others of it.
  peers : (l : List ℕ) → count v l ≡ 0 → those (level keys k) l ≡ those (peer keys k v) l
  unfolding those count
  peers [] e = refl
  peers (x ∷ xs) e =
      let n : x ≡ v → ⊥ = λ p. omega (arith, ap (one v) p, one_same v) in
      ap (λ (b : Bool). cond b (x ∷ those (level keys k) xs) (those (level keys k) xs)) (peer-level x n)
      ∙ ap (λ (r : List ℕ). cond (peer keys k v x) (x ∷ r) r) (peers xs (omega arith))

-- A queue that was whole under the old keys, where the moved id alone has another key now.
module _ (in_front : Bool) (old keys : List ℕ) (id : ℕ) (l : List ℕ) (w : Whole old l) (k : length keys ≡ length old) (agree : Agree old keys (id + 1)) (small : Bytes l) where
  -- Who is refused does not stand there.
  absent : (known keys id ≡ true → stands (id + 1) l ≡ false) → stands (id + 1) l ≡ false
  absent h = go (stands (id + 1) l) refl
    where
      go : (b : Bool) → stands (id + 1) l ≡ b → b ≡ false
      go false e = refl
      go true e =
          let inside : id < length keys = omega (arith, stands_all (id + 1) e w.within) in
          let fits : id < 255 = omega (arith, stands_all (id + 1) e small) in
          sym e ∙ h (rw (lt-ltb id 255 fits) (lt-ltb id (length keys) inside))

  -- It is whole under the new keys, whatever is answered.
  pub replaced_in-whole : Whole keys (replaced_in in_front keys id l)
  replaced_in-whole = replaced_in_by in_front keys id l (λ b m. Whole keys m) (λ e. replaced-whole in_front keys id w k agree e) (λ h. same (absent h))
    where
      same : stands (id + 1) l ≡ false → Whole keys l
      same e = record { ordered = ordered-agree old keys (id + 1) agree (count-stands (id + 1) l e) w.ordered; within = all_map (λ v p. omega arith) w.within; once = w.once }

  -- Each level has its others as they were, and who moves comes before those of its own, or else behind them.
  pub replaced_in-level : (k : ℕ) → those (level keys k) (replaced_in in_front keys id l)
      ≡ cond in_front (those (level keys k) (newly (move_answer keys id l) id) ++ those (peer keys k (id + 1)) l) (those (peer keys k (id + 1)) l ++ those (level keys k) (newly (move_answer keys id l) id))
  unfolding those
  replaced_in-level k =
      replaced_in_by in_front keys id l (λ b m. those q m ≡ cond in_front (those q (cond b ((id + 1) ∷ []) []) ++ those p l) (those p l ++ those q (cond b ((id + 1) ∷ []) []))) there
      (λ h. refused in_front (absent h))
    where
      q : ℕ → Bool
      q = level keys k

      p : ℕ → Bool
      p = peer keys k (id + 1)

      there : stands (id + 1) l ≡ true → those q (replaced in_front keys id l) ≡ lined keys k id in_front (those p l)
      there e =
          let gone : count (id + 1) (without id l) ≡ 0 = omega (arith, count-without (id + 1) (λ z. omega arith) id l, one_same (id + 1), w.once (id + 1) (λ z. omega arith)) in
          let others = peers keys k (id + 1) (without id l) gone ∙ removed_others id l p refl (rw (eq-eqb (id + 1) (id + 1) refl, and-false (not (eqb (id + 1) 0)))) in
          entered-level keys k id in_front (ordered-agree old keys (id + 1) agree gone (without-ordered id w.ordered)) (without-free id l e)
          ∙ ap (lined keys k id in_front) others

      refused : (b : Bool) → stands (id + 1) l ≡ false → those q l ≡ cond b ([] ++ those p l) (those p l ++ [])
      refused true e = peers keys k (id + 1) l (count-stands (id + 1) l e)
      refused false e = peers keys k (id + 1) l (count-stands (id + 1) l e) ∙ sym (append-nil (those p l))

-- ---- who is first

-- The slot that an answer of `first` tells of.
abbrev slot_of : Option ℕ → ℕ
slot_of (Some id) = id + 1
slot_of None = 0

head_slot : (l : List ℕ) → slot_of (head_of l) ≡ get_or l 0 0
unfolding head_of
head_slot l = go (ℕ_discrete (get_or l 0 0) 0)
  where
    go : Dec (get_or l 0 0 ≡ 0) → slot_of (cond (eqb (get_or l 0 0) 0) None (Some (get_or l 0 0 - 1))) ≡ get_or l 0 0
    go (yes e) = rw (eq-eqb (get_or l 0 0) 0 e) (sym e)
    go (no h) = rw (ne_eqb (get_or l 0 0) 0 h) (omega arith)

-- Nobody in the queue has a smaller key than the first.
pub first_least : {keys l : List ℕ} (id : ℕ) → Ordered keys l → head_of l ≡ Some id → All (Le keys (id + 1)) l
first_least id empty e = none
first_least {keys} id (front {x} {xs} a o) e = subst (λ (v : ℕ). All (Le keys v) (x ∷ xs)) (sym (head_slot (x ∷ xs)) ∙ ap slot_of e) (more (le_self keys x) a)

-- Where nobody is first, every slot is free.
pub nobody-free : {keys l : List ℕ} → Ordered keys l → head_of l ≡ None → All (λ v. v ≡ 0) l
nobody-free empty e = none
nobody-free {keys} (front {x} {xs} a o) e = more z (all_map behind-free a)
  where
    z : x ≡ 0
    z = sym (head_slot (x ∷ xs)) ∙ ap slot_of e

    behind-free : (y : ℕ) → Le keys x y → y ≡ 0
    behind-free y (inl p) = p
    behind-free y (inr p) = absurd (p.0 z)
