-- The loop that plays a part of a tape.
use mathlib.Core.Path.{◌≡◌, refl, sym, ap, ◌∙◌, subst}
use mathlib.Core.Bool.{Bool, true, false, true≢false}
use mathlib.Core.List.{List, ◌++◌, append_assoc, append-nil}
use Prim.Native.Nat.{ℕ, suc, ◌+◌, ◌-◌, ◌≤◌, ◌<◌}
use native.Mathlib.Nat.{sub-zero}
use native.Mathlib.Omega.{arith}
use borrow.Author.Tests.{ltb-true, ltb-false}
use lib.Dec.{ltb}
use lib.ListN.{length, take, drop, length-append, length-drop}
use lib.Seq.{take_at, take_all, drop-drop, length-take-le}
use Rattle.rules.specs.Table.{Table}
use Rattle.rules.specs.Step.{Outcome, serve}
use Rattle.rules.specs.Tape.{line}
use Rattle.rules.specs.declared.Call.{Call}
use Rattle.table.specs.Image.{view}
use Rattle.tape.specs.Line.{Wrote, pasted, pasted-after, pasted-nothing, line_of_lem, line-short}
use Rattle.tape.specs.Next.{Next, whole, next_in}
use Rattle.tape.specs.Play.{Played, stopped, behind, plays_on, plays, plays-full, plays_next}
use Rattle.tape.specs.Prints.{whole-within}
use Rattle.tape.specs.declared.Stop.TheVariants.{Cut, NoKind, End}
use Rattle.std.specs.Prelude.{Ok, Err}
use Rattle.player.specs.declared.Went.{Went}
use Rattle.player.specs.declared.Halt.{Halt}
use Rattle.player.specs.declared.Halt.TheVariants.{Full, NoCall}
use Rattle.player.specs.Part.{ends, Turn, went, Taken, Turned, Parted, part_of, taken_by, taken_at}
use Rattle.player.proofs.Turns.{taken-full, taken_next}

-- ---- what a turn says of the tape

abbrev pub is_gone : Turn → Bool
is_gone (Ok w) = true
is_gone (Err why) = false

went_in : Went → Turn → Went
went_in other (Ok w) = w
went_in other (Err why) = other

why_in : Halt → Turn → Halt
why_in other (Ok w) = other
why_in other (Err why) = why

-- A turn in which a call was made.
record Gone (s l o : List ℕ) (end n to : ℕ) (s' o' : List ℕ) : Type 0 where
  pub call : Call
  pub interrupt : Bool
  pub room : 6 ≤ length o - end
  pub reads : next_in l ≡ whole call interrupt n
  pub table : view s' ≡ (serve call interrupt (view s)).table
  pub wrote : Wrote end (line (serve call interrupt (view s))) o o' to

-- A turn in which none was: playing stops there.
record Idle (ended : Bool) (s l o : List ℕ) (end left : ℕ) (s' o' : List ℕ) : Type 0 where
  pub stops : plays serve left (length o - end) (view s) l ≡ stopped ended (view s) l
  pub table : view s' ≡ view s
  pub buffer : o' ≡ o

module _ {s l o : List ℕ} {end : ℕ} {s' o' : List ℕ} where
  module _ {n to : ℕ} (t : Turned s l o end (went n to) s' o') where
    never : {x : Taken} → taken_at (view s) end (length o - end) l ≡ x → is_gone x.turn ≡ false → Gone s l o end n to s' o'
    never e z = absurd (true≢false (ap is_gone t.turn ∙ ap (λ (x : Taken). is_gone x.turn) e ∙ z))

    gone_by : (b : Bool) → ltb (length o - end) 6 ≡ b → (x : Next) → next_in l ≡ x → Gone s l o end n to s' o'
    unfolding taken_by went_in
    gone_by true e x f = never (taken-full (view s) end (length o - end) l e) refl
    gone_by false e (Err why) f = never (taken_next (view s) end (length o - end) l e f) refl
    gone_by false e (Ok w) f =
        let x = taken_next (view s) end (length o - end) l e f in
        let same = ap (went_in (record { read = n; end = to })) (t.turn ∙ ap (λ (x : Taken). x.turn) x) in
        record {
          call = w.call;
          interrupt = w.interrupt;
          room = ltb-false _ 6 e;
          reads = f ∙ ap (λ (m : ℕ). whole w.call w.interrupt m) (sym (ap (λ (w : Went). w.read) same));
          table = t.table ∙ ap (λ (x : Taken). x.table) x;
          wrote = record { list = t.buffer ∙ ap (λ (x : Taken). pasted end x.text o) x; ends = ap (λ (w : Went). w.end) same };
        }

    gone : Gone s l o end n to s' o'
    gone = gone_by (ltb (length o - end) 6) refl (next_in l) refl

  module _ {why : Halt} (left : ℕ) (some : 0 < left) (t : Turned s l o end (Err why) s' o') where
    stays : {x : Taken} (h : Halt) → taken_at (view s) end (length o - end) l ≡ x → x.turn ≡ Err h → plays serve left (length o - end) (view s) l ≡ stopped (ends h) (view s) l
        → x.table ≡ view s → o ≡ pasted end x.text o → Idle (ends why) s l o end left s' o'
    unfolding why_in
    stays h e turn stops table text =
        let same : why ≡ h = ap (why_in h) (t.turn ∙ ap (λ (x : Taken). x.turn) e ∙ turn) in
        record {
          stops = rw same stops;
          table = t.table ∙ ap (λ (x : Taken). x.table) e ∙ table;
          buffer = t.buffer ∙ ap (λ (x : Taken). pasted end x.text o) e ∙ sym text;
        }

    stops_by : {x : Next} → ltb (length o - end) 6 ≡ false → next_in l ≡ x → (ended : Bool) → ((on : Outcome → ℕ → Played) → plays_on serve (view s) l on x ≡ stopped ended (view s) l)
        → plays serve left (length o - end) (view s) l ≡ stopped ended (view s) l
    stops_by e f ended h =
        let n : left ≡ suc (left - 1) = omega arith in
        ap (λ k. plays serve k (length o - end) (view s) l) n ∙ plays_next serve (left - 1) (length o - end) (view s) l (ltb-false _ 6 e) ∙ ap (plays_on serve (view s) l _) f ∙ h _

    idle_by : (b : Bool) → ltb (length o - end) 6 ≡ b → (x : Next) → next_in l ≡ x → Idle (ends why) s l o end left s' o'
    unfolding taken_by plays_on
    idle_by true e x f = stays Full (taken-full (view s) end (length o - end) l e) refl (plays-full serve left _ (view s) l (ltb-true _ 6 e)) refl (pasted-nothing end o)
    idle_by false e (Err Cut) f = stays (NoCall Cut) (taken_next (view s) end (length o - end) l e f) refl (stops_by e f false (λ on. refl)) refl (pasted-nothing end o)
    idle_by false e (Err NoKind) f = stays (NoCall NoKind) (taken_next (view s) end (length o - end) l e f) refl (stops_by e f true (λ on. refl)) refl (pasted-nothing end o)
    idle_by false e (Err End) f = stays (NoCall End) (taken_next (view s) end (length o - end) l e f) refl (stops_by e f false (λ on. refl)) refl (pasted-nothing end o)
    idle_by false e (Ok w) f = absurd (true≢false (sym (ap is_gone (t.turn ∙ ap (λ (x : Taken). x.turn) (taken_next (view s) end (length o - end) l e f)))))

    idle : Idle (ends why) s l o end left s' o'
    idle = idle_by (ltb (length o - end) 6) refl (next_in l) refl

-- ---- the loop

-- What is played from here on, behind what is written, is the part; and what is written is all that has changed.
pub record Going (s₀ l o₀ s o : List ℕ) (at end left : ℕ) : Type 0 where
  pub part : part_of s₀ l o₀ ≡ behind (take end o) (plays serve left (length o - end) (view s) (drop at l))
  pub buffer : o ≡ pasted 0 (take end o) o₀

pub going_from : (s l o : List ℕ) → Going s l o s o 0 0 (length l - 0)
going_from s l o = record { part = rw (sub-zero (length l), sub-zero (length o)); buffer = pasted-nothing 0 o }

plays-call : (k room : ℕ) (t : Table) (l : List ℕ) {c : Call} {i : Bool} {n : ℕ} → 6 ≤ room → next_in l ≡ whole c i n
    → let o = serve c i t in plays serve (suc k) room t l ≡ behind (line o) (plays serve k (room - length (line o)) o.table (drop n l))
unfolding plays_on
plays-call k room t l h e = plays_next serve k room t l h ∙ ap (plays_on serve t l (λ o m. behind (line o) (plays serve k (room - length (line o)) o.table (drop m l)))) e

behind-behind : (a b : List ℕ) (p : Played) → behind a (behind b p) ≡ behind (a ++ b) p
behind-behind a b p = rw (append_assoc a b p.text)

pasted_front : (end : ℕ) (text o : List ℕ) → end ≤ length o → take (end + length text) (pasted end text o) ≡ take end o ++ text
unfolding pasted
pasted_front end text o h = take_at (take end o ++ text) _ (end + length text) (simp (length-append, length-take-le end o h))

-- The rest of a tape as a slice of it.
pub rest_turn : (s l o : List ℕ) (at end : ℕ) (r : Turn) {r' : Turn} (s' o' : List ℕ) → Turned s (take (length l - at) (drop at l)) o end r s' o' → r ≡ r'
    → Turned s (drop at l) o end r' s' o'
rest_turn s l o at end r s' o' t e =
    subst (λ x. Turned s (drop at l) o end x s' o') e
    (subst (λ (x : List ℕ). Turned s x o end r s' o') (take_all (length l - at) (drop at l) (simp length-drop (omega arith))) t)

-- Where a call was made, there is no more read and written than there is.
pub gone-within : {s l o : List ℕ} {end n to : ℕ} {s' o' : List ℕ} → Turned s l o end (went n to) s' o' → (n ≤ length l) × (to ≤ length o)
gone-within {s = s} {l} t =
    let g = gone t in
    let out = serve g.call g.interrupt (view s) in
    let short : length (line out) ≤ 6 = rw (line_of_lem out) (line-short _ _) in
    ((whole-within l g.reads).1, omega (arith, g.room, g.wrote.ends))

pub going_on : {s₀ l o₀ s o : List ℕ} {at end left n to : ℕ} {s' o' : List ℕ} → Going s₀ l o₀ s o at end left → end ≤ length o → length o' ≡ length o → 0 < left
    → Turned s (drop at l) o end (went n to) s' o' → Going s₀ l o₀ s' o' (at + n) to (left - 1)
going_on {l = l} {o₀} {s} {o} {at} {end} {left} {n} {to} {s'} {o'} g fits same some t =
    let x = gone t in
    let out = serve x.call x.interrupt (view s) in
    let k : left ≡ suc (left - 1) = omega arith in
    let front : take to o' ≡ take end o ++ line out =
    ap (λ j. take j o') x.wrote.ends ∙ ap (take (end + length (line out))) x.wrote.list ∙ pasted_front end (line out) o fits in
    let room : length o - end - length (line out) ≡ length o' - to = omega (arith, x.wrote.ends) in
    let zero-on : 0 + length (take end o) ≡ end = omega (arith, length-take-le end o fits) in
    let turn = plays-call (left - 1) (length o - end) (view s) (drop at l) x.room x.reads in
    record {
      part = rw (front, ← room, x.table, ← drop-drop n at l, ← behind-behind (take end o) (line out) (plays serve (left - 1) (length o - end - length (line out)) out.table (drop n (drop at l)))) (g.part ∙ ap (λ j. behind (take end o) (plays serve j (length o - end) (view s) (drop at l))) k ∙ ap (behind (take end o)) turn);
      buffer = rw front (x.wrote.list ∙ ap (pasted end (line out)) g.buffer ∙ ap (λ j. pasted j (line out) (pasted 0 (take end o) o₀)) (sym zero-on) ∙ pasted-after 0 (take end o) (line out) o₀ (omega arith));
    }

finished : {s₀ l o₀ s o : List ℕ} {at end left : ℕ} {ended : Bool} → Going s₀ l o₀ s o at end left → at ≤ length l → end ≤ length o
    → plays serve left (length o - end) (view s) (drop at l) ≡ stopped ended (view s) (drop at l) → Parted s₀ l o₀ at end ended s o
finished {s₀ = s₀} {l} {o₀} {s} {o} {at} {end} {left} {ended} g within fits stops =
    let e : part_of s₀ l o₀ ≡ behind (take end o) (stopped ended (view s) (drop at l)) = g.part ∙ ap (behind (take end o)) stops in
    let text : (part_of s₀ l o₀).text ≡ take end o = ap (λ (p : Played). p.text) e ∙ append-nil (take end o) in
    let rest : (part_of s₀ l o₀).rest ≡ drop at l = ap (λ (p : Played). p.rest) e in
    record {
      reads = rw (rest, length-drop at l) (omega arith);
      writes = sym (ap length text ∙ length-take-le end o fits);
      ends = sym (ap (λ (p : Played). p.ended) e);
      table = sym (ap (λ (p : Played). p.table) e);
      buffer = rw text g.buffer;
    }

-- Where no call was made, the part is played.
pub going_stops : {s₀ l o₀ s o : List ℕ} {at end left : ℕ} {why : Halt} {s' o' : List ℕ} → Going s₀ l o₀ s o at end left → at ≤ length l → end ≤ length o → 0 < left
    → Turned s (drop at l) o end (Err why) s' o' → Parted s₀ l o₀ at end (ends why) s' o'
going_stops {s₀ = s₀} {l} {o₀} {s} {o} {at} {end} {left} {why} {s'} {o'} g within fits some t =
    let i = idle left some t in
    let p : Parted s₀ l o₀ at end (ends why) s o = finished g within fits i.stops in
    record { reads = p.reads; writes = p.writes; ends = p.ends; table = i.table ∙ p.table; buffer = i.buffer ∙ p.buffer }

-- And where no turn is left.
pub going_over : {s₀ l o₀ s o : List ℕ} {at end left : ℕ} → Going s₀ l o₀ s o at end left → at ≤ length l → end ≤ length o → left ≤ 0 → Parted s₀ l o₀ at end false s o
unfolding plays
going_over {left = left} g within fits none = finished g within fits (let z : left ≡ 0 = omega arith in rw z)
