-- One turn of playing a tape.
use mathlib.Core.Path.{◌≡◌, refl, sym, ap, ◌∙◌}
use mathlib.Core.Bool.{Bool, true, false, cond}
use mathlib.Core.List.{List}
use Prim.Native.Nat.{ℕ, ◌+◌, ◌-◌, ◌≤◌, ◌<◌}
use borrow.Author.Tests.{lt-ltb, le-ltb}
use lib.Dec.{ltb}
use lib.ListN.{length}
use Rattle.rules.specs.Table.{Table}
use Rattle.rules.specs.Step.{answer, effect, changes, told_by, serve}
use Rattle.rules.specs.Tape.{line}
use Rattle.rules.specs.declared.Call.{Call}
use Rattle.table.specs.Image.{view}
use Rattle.service.specs.Served.{Served}
use Rattle.service.specs.Told.{Told, answer_in}
use Rattle.tape.specs.Line.{Wrote, line_in, line_in_lem, line_of_lem, pasted-nothing}
use Rattle.tape.specs.Next.{Next, whole, next_in}
use Rattle.player.specs.declared.Halt.{Halt}
use Rattle.player.specs.declared.Halt.TheVariants.{Full}
use Rattle.std.specs.Prelude.{Err}
use Rattle.player.specs.Part.{Turned, went, quiet, taken_by, taken_at}

-- ---- a call served

after_is : (n : ℕ) (new : Table) (r : ℕ) (l m : List ℕ) → Served n new r l m → (b : Bool) → changes r ≡ b → view m ≡ cond b new (view l)
after_is n new r l m s true e = s.done e
after_is n new r l m s false e = ap view (s.kept e)

served-table : (c : Call) (i : Bool) (r : ℕ) (l m : List ℕ) → Served (answer c i (view l)) (effect c (view l)) r l m → view m ≡ (serve c i (view l)).table
unfolding serve
served-table c i r l m s = after_is _ _ r l m s (changes (answer c i (view l))) (ap changes s.says)

served-runs : (c : Call) (i : Bool) (t : Table) → (serve c i t).runs ≡ (serve c i t).table.running
unfolding serve
served-runs c i t = refl

served-answer : (c : Call) (i : Bool) (t : Table) → (serve c i t).answer ≡ answer c i t
unfolding serve
served-answer c i t = refl

-- ---- what a turn comes to

pub taken-full : (t : Table) (end room : ℕ) (l : List ℕ) → ltb room 6 ≡ true → taken_at t end room l ≡ quiet Full t
unfolding taken_at
taken-full t end room l e = rw e

pub taken_next : (t : Table) (end room : ℕ) (l : List ℕ) {x : Next} → ltb room 6 ≡ false → next_in l ≡ x → taken_at t end room l ≡ taken_by t end x
unfolding taken_at
taken_next t end room l e f = rw (e, f)

quiet_turn : (s l o : List ℕ) (end : ℕ) (r : Halt) → taken_at (view s) end (length o - end) l ≡ quiet r (view s) → Turned s l o end (Err r) s o
quiet_turn s l o end r e = record {
  turn = sym (ap (λ x. x.turn) e);
  table = sym (ap (λ x. x.table) e);
  buffer = rw e (pasted-nothing end o);
}

pub full_turn : (s l o : List ℕ) (end : ℕ) → length o - end < 6 → Turned s l o end (Err Full) s o
full_turn s l o end h = quiet_turn s l o end Full (taken-full (view s) end (length o - end) l (lt-ltb _ 6 h))

pub idle_turn : (s l o : List ℕ) (end : ℕ) (r : Halt) → 6 ≤ length o - end → taken_by (view s) end (next_in l) ≡ quiet r (view s) → Turned s l o end (Err r) s o
idle_turn s l o end r h e = quiet_turn s l o end r (taken_next (view s) end (length o - end) l (le-ltb _ 6 h) refl ∙ e)

pub call_turn : (s l o s' o' : List ℕ) (end : ℕ) {c : Call} {i : Bool} {n a runs to : ℕ} → 6 ≤ length o - end → next_in l ≡ whole c i n
    → Told (answer c i (view s)) (effect c (view s)) (told_by c (view s)) a s s' → runs ≡ (view s').running → Wrote end (line_in (answer_in a) runs (length o - end)) o o' to → Turned s l o end (went n to) s' o'
unfolding taken_by
call_turn s l o s' o' end {c} {i} {n} {a} {runs} {to} h e told run wrote =
    let served = told.served in
    let x = taken_next (view s) end (length o - end) l (le-ltb _ 6 h) e in
    let out = serve c i (view s) in
    let after = served-table c i (answer_in a) s s' served in
    let text : line_in (answer_in a) runs (length o - end) ≡ line out = cc (line_in_lem (answer_in a) runs (length o - end) h, line_of_lem out, served.says, after, served-runs c i (view s), served-answer c i (view s)) in
    record {
      turn = rw x (ap (went n) (wrote.ends ∙ ap (λ (q : List ℕ). end + length q) text));
      table = rw x after;
      buffer = rw x (rw (← text) wrote.list);
    }
