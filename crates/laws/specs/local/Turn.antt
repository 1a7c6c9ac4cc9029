-- What a change of waits, bases or records leaves to the cheap walk, and the two walks: a rise, and a fall.
use Rattle.std.specs.Prelude.{◌≡◌, ◌⊎◌, ◌≢◌, List, length, get_or, set}
use Rattle.std.proofs.Math.Path.{refl}
use Rattle.std.proofs.Common.{sym, ap, ◌∙◌, inl, inr, arith, sub-one, length-set, get_or-set_same, get_or-set_other}
use Rattle.std.proofs.Math.Logic.{⊎_elim}
use Prim.Native.Nat.{ℕ, zero, suc, ◌-◌, ◌≤◌, ◌<◌, min}
use Rattle.std.proofs.Math.Decide.{ℕ_discrete}
use Rattle.std.proofs.lemmas.List.{set-get_or}
use borrow.Author.Tests.{eq-eqb, ne_eqb, lt-ltb, le-ltb}
use Rattle.rules.specs.Chain.{after, Ends}
use Rattle.rules.specs.Afresh.{lt_or_le, here}
use Rattle.laws.specs.local.Local.{NoRing, Right, Least, Local, AllBut, local, cheap_on, rise_on}
use Rattle.laws.specs.local.Least.{least_same, least-lower, local_is, right_local}
use Rattle.laws.specs.local.Cheap.{Store, Come, Turns, cheap_right}

-- ---- changes

-- Only s can be wrong, where only the base of s changed and waits for s began or ended.
abbrev pub ForOrNone : ℕ → ℕ → ℕ → Type 0
ForOrNone n s v = (v ≡ s) ⊎ (n ≤ v)

pub changed : {n : ℕ} {next next' base base' work : ℕ → ℕ} (s : ℕ)
    → ((i : ℕ) → i ≢ s → base' i ≡ base i)
    → ((m : ℕ) → (next' m ≡ next m) ⊎ (ForOrNone n s (next m) × ForOrNone n s (next' m)))
    → Local n next base work → AllBut n next' base' work s
changed {n} {next} {next'} s bases waits h i l d =
    least_same (bases i d) (λ j k e. (forth j e (waits j), refl)) (λ j k e. (back j e (waits j), refl)) (h i l)
  where
    never : {v : ℕ} → ForOrNone n s v → v ≡ i → ⊥
    never (inl q) e = d (sym e ∙ q)
    never (inr out) e = omega arith

    forth : (j : ℕ) → next j ≡ i → (next' j ≡ next j) ⊎ (ForOrNone n s (next j) × ForOrNone n s (next' j)) → next' j ≡ i
    forth j e (inl q) = q ∙ e
    forth j e (inr f) = absurd (never f.0 e)

    back : (j : ℕ) → next' j ≡ i → (next' j ≡ next j) ⊎ (ForOrNone n s (next j) × ForOrNone n s (next' j)) → next j ≡ i
    back j e (inl q) = sym q ∙ e
    back j e (inr f) = absurd (never f.1 e)

-- Task x, for whom nobody waits, has a new base and works at it, and waits for none: only the task for which it waited can be wrong.
pub renewed : {n : ℕ} {next next' base base' work work' : ℕ → ℕ} (x : ℕ)
    → ((j : ℕ) → next j ≢ x) → n ≤ next' x → base' x ≡ work' x
    → ((m : ℕ) → m ≢ x → (next' m ≡ next m) × (base' m ≡ base m) × (work' m ≡ work m))
    → Local n next base work → AllBut n next' base' work' (next x)
renewed {n} {next} {next'} {base} {base'} {work} {work'} x nobody none own others h i l d = go (ℕ_discrete i x)
  where
    not_x : (j : ℕ) → next' j ≡ i → j ≢ x
    not_x j e q = omega (arith, none, ap next' q)

    go : Dec (i ≡ x) → Least n next' base' work' i (work' i)
    go (yes e) =
        let same : base' i ≡ work' i = ap base' e ∙ own ∙ ap work' (sym e) in
        record {
          own = omega (arith, same);
          waiters = λ j k q. absurd (nobody j (sym (others j (not_x j q)).0 ∙ q ∙ e));
          among = inl same;
        }
    go (no m) =
        rw (others i m).2
        (least_same (others i m).1
        (λ j k e. let (a, b, c) = others j (λ q. d (sym e ∙ ap next q)) in (a ∙ e, c))
        (λ j k e. let (a, b, c) = others j (not_x j e) in (sym a ∙ e, c))
        (h i l))

-- x, which waited for none, waits for h: h works at the number of x or better.
pub added_rise : {n : ℕ} {next next' base work : ℕ → ℕ} (x h : ℕ) → x < n → n ≤ next x → next' x ≡ h → ((m : ℕ) → m ≢ x → next' m ≡ next m)
    → Local n next base work → h < n → Least n next' base work h (min (work h) (work x))
added_rise {work = work} x h l none is others loc k = least-lower x (work x) l is refl (λ e. omega arith) (λ m d. (others m d, refl)) (loc h k)

-- The base of s became no less urgent: s works at it or better.
pub based_rise : {n : ℕ} {next base base' work : ℕ → ℕ} (s : ℕ) → base' s ≤ base s → Local n next base work → s < n → Least n next base' work s (min (work s) (base' s))
based_rise {n} {next} {base} {base'} {work} s less loc l =
    record {
      own = omega arith;
      waiters = λ j k e. omega (arith, a.waiters j k e);
      among = ⊎_elim (λ m. inl (omega arith)) (λ m. ⊎_elim (λ e. inl (omega arith)) (λ w. inr (w.0, w.1, w.2, omega (arith, w.3))) a.among) (lt_or_le (base' s) (work s));
    }
  where
    a : Least n next base work s (work s)
    a = loc s l

-- ---- a rise, and a fall

-- The number to which a task that the rise comes to is to rise.
abbrev pub Rising : {S : Type 0} (n : ℕ) (next base work : S → ℕ → ℕ) → ℕ → S → ℕ → Type 0
Rising n next base work p t s = s < n → Least n (next t) (base t) (work t) s (min (work t s) p)

module _ {S : Type 0} {n : ℕ} {next base work : S → ℕ → ℕ} {put : S → ℕ → ℕ → S} {Fit : S → Type 0} (store : Store n next base work put Fit) where
  pub rising : (p : ℕ) → Turns n next base work (λ t s. min (work t s) p) put Fit (Rising n next base work p)
  rising p = record { small = λ t s l c v. v l; keeps = keeps }
    where
      keeps : (t : S) (s : ℕ) → s < n → Come n next base work Fit t s → Rising n next base work p t s → min (work t s) p ≢ work t s
          → Rising n next base work p (put t s (min (work t s) p)) (next t s)
      keeps t s l c v d k =
          let q = min (work t s) p in
          let apart : next t s ≢ s = λ e. c.free s l (rw e here) in
          let other = store.others t s q l in
          rw (store.nexts t s q l, store.bases t s q l, other (next t s) apart)
          (least-lower s p l refl (store.there t s q l c.fit ∙ omega (arith, d)) (λ e. omega (arith, d)) (λ j m. (refl, other j m)) (c.rest (next t s) k apart))

  -- A fall: the local number is worked out at each task. P is what it takes to do so.
  pub falling : {new : S → ℕ → ℕ} (P : S → Type 0)
      → ((t : S) (s : ℕ) → s < n → Fit t → P t → Least n (next t) (base t) (work t) s (new t s))
      → ((t : S) (s : ℕ) → s < n → Fit t → P t → P (put t s (new t s)))
      → Turns n next base work new put Fit (λ t s. P t)
  falling P small kept = record { small = λ t s l c v. small t s l c.fit v; keeps = λ t s l c v d. kept t s l c.fit v }

-- ---- the turns, for the code that makes them

module _ {S : Type 0} (n : ℕ) (next work new : S → ℕ → ℕ) (put : S → ℕ → ℕ → S) where
  pub cheap_on_none : (k s : ℕ) (t : S) → k ≡ 0 → cheap_on n next work new put k s t ≡ t
  unfolding cheap_on
  cheap_on_none k s t e = rw e

  pub cheap_on_past : (k s : ℕ) (t : S) → n ≤ s → cheap_on n next work new put k s t ≡ t
  unfolding cheap_on
  cheap_on_past zero s t h = refl
  cheap_on_past (suc k) s t h = rw (le-ltb s n h)

  pub cheap_on_still : (k s : ℕ) (t : S) → new t s ≡ work t s → cheap_on n next work new put k s t ≡ t
  unfolding cheap_on
  cheap_on_still zero s t e = refl
  cheap_on_still (suc k) s t e = ⊎_elim (λ l. rw (lt-ltb s n l, eq-eqb (new t s) (work t s) e)) (λ l. rw (le-ltb s n l)) (lt_or_le s n)

  pub cheap_on_turn : (k s : ℕ) (t : S) → k ≢ 0 → s < n → new t s ≢ work t s → cheap_on n next work new put k s t ≡ cheap_on n next work new put (k - 1) (next t s) (put t s (new t s))
  unfolding cheap_on
  cheap_on_turn zero s t d l m = absurd (d refl)
  cheap_on_turn (suc k) s t d l m = rw (lt-ltb s n l, ne_eqb (new t s) (work t s) m, sub-one)

module _ {S : Type 0} (n : ℕ) (next work : S → ℕ → ℕ) (put : S → ℕ → ℕ → S) (p : ℕ) where
  pub rise_on_still : (k s : ℕ) (t : S) → work t s ≤ p → rise_on n next work put p k s t ≡ t
  rise_on_still k s t h = cheap_on_still n next work (λ t s. min (work t s) p) put k s t (omega arith)

  pub rise_on_turn : (k s : ℕ) (t : S) → k ≢ 0 → s < n → p < work t s → rise_on n next work put p k s t ≡ rise_on n next work put p (k - 1) (next t s) (put t s p)
  rise_on_turn k s t d l m =
      cheap_on_turn n next work (λ t s. min (work t s) p) put k s t d l (λ e. omega arith)
      ∙ ap (λ (q : ℕ). rise_on n next work put p (k - 1) (next t s) (put t s q)) (omega arith)

-- ---- over a list of working priorities

abbrev pub at : List ℕ → ℕ → ℕ
at l j = get_or l j 0

list-store : (n : ℕ) (next base : ℕ → ℕ) → Store n (λ (l : List ℕ). next) (λ (l : List ℕ). base) at set (λ (l : List ℕ). length l ≡ n)
list-store n next base =
    record {
      nexts = λ t s p l. refl;
      bases = λ t s p l. refl;
      there = λ t s p l z. get_or-set_same t s p 0 (omega arith);
      others = λ t s p l j d. get_or-set_other t s j p 0 d;
      idle = λ t s l z. set-get_or t s 0;
      fits = λ t s p l z. length-set t s p ∙ z;
    }

module _ {n : ℕ} {next next' base : ℕ → ℕ} (ends : Ends n next) (ends' : Ends n next') (free : NoRing n next') (k s : ℕ) (out : n ≤ after next' k s) (work : List ℕ) (size : length work ≡ n)
    (right : Right n next base (at work)) where
  -- A rise from h, for which x now waits.
  pub rise_added : (x : ℕ) → x < n → n ≤ next x → next' x ≡ s → ((m : ℕ) → m ≢ x → next' m ≡ next m)
      → Right n next' base (at (rise_on n (λ (l : List ℕ). next') at set (at work x) k s work))
  rise_added x l none is others =
      cheap_right (list-store n next' base) (rising (list-store n next' base) (at work x)) k s work
      (record { fit = size; ends = ends'; free = free; rest = changed s (λ i d. refl) (λ m. waits m (ℕ_discrete m x)) (right_local ends right) })
      (added_rise x s l none is others (right_local ends right))
      out
    where
      waits : (m : ℕ) → Dec (m ≡ x) → (next' m ≡ next m) ⊎ (ForOrNone n s (next m) × ForOrNone n s (next' m))
      waits m (yes e) = inr (inr (rw e none), inl (rw e is))
      waits m (no d) = inl (others m d)

  -- A fall from s: waits for s ended (or began), or the base of s changed, or both.
  pub fall-changed : (base' : ℕ → ℕ) → ((i : ℕ) → i ≢ s → base' i ≡ base i) → ((m : ℕ) → (next' m ≡ next m) ⊎ (ForOrNone n s (next m) × ForOrNone n s (next' m)))
      → Right n next' base' (at (cheap_on n (λ (l : List ℕ). next') at (λ l. local n next' base' (at l)) set k s work))
  fall-changed base' bases waits =
      cheap_right (list-store n next' base')
      (falling (list-store n next' base') (λ l. length l ≡ n) (λ t i l z v. local_is n next' base' (at t) i) (λ t i l z v. length-set t i _ ∙ z))
      k s work
      (record { fit = size; ends = ends'; free = free; rest = changed s bases waits (right_local ends right) })
      size out
