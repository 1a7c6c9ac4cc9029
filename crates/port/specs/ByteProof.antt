-- The bytes follow the rules, and 15 is answered exactly where they are no image of a sound table: what `ByteTheorem` states.
use Rattle.std.specs.Prelude.{◌≡◌, Option, Some, None, refl, ◌≢◌, Bool, true, false, cond, List, [], ◌∷◌, ◌++◌, ℕ, length}
use Rattle.std.proofs.Common.{sym, subst, ◌∙◌, inl, inr, true≢false, arith, eq-eqb}
use Rattle.std.proofs.Math.Path.{ap}
use Rattle.std.proofs.Math.Decide.{ℕ_discrete}
use Rattle.rules.specs.Sizes.{not_sound}
use Rattle.rules.specs.Table.{Table}
use Rattle.rules.specs.Sound.{Sound, is_sound}
use Rattle.rules.proofs.Tested.{sound-tested, tested-sound}
use Rattle.rules.specs.Step.{Outcome, serve, step, unsound, changes}
use Rattle.rules.specs.Kinds.{says_call, says_none}
use Rattle.rules.specs.Port.{says, port_step}
use Rattle.rules.specs.Tape.{Bytes}
use Rattle.rules.specs.declared.Call.{Call}
use Rattle.rules.specs.declared.Reading.{Reading}
use Rattle.laws.specs.order.Order.{Made, run, OrderKept}
use Rattle.laws.specs.keeps.Sounds.{step-serve, serve_not_15, fresh-sound}
use Rattle.laws.specs.keeps.Always.{always_from}
use Rattle.laws.specs.order.Demand.{demand-sound}
use Rattle.table.specs.Image.{Image, image_size, view, image_of}
use Rattle.table.specs.Shape.{zeros-view}
use Rattle.table.specs.Written.{sound_fits, image-length, image-view, view-image}
use Rattle.port.specs.Step.{said, plainly, outcome_of, serve_of, bytes_after, Gives}
use Rattle.port.specs.Ways.{rules-sound, step-wrong, step_right, step-unsound, step-sound, serve_right}
use Rattle.laws.specs.numbers.Tape.{BoundedIn}
use Rattle.port.specs.Reads.{PortCall, reading_of, rule_of, made_in, made_by, made_by_all}
use Rattle.port.specs.ByteTheorem.{Called, by_step, by_serve, Calls, none, more, AsRules, Follows, FromSound, FromFresh, NoImage, ZeroedIsNone, Fifteen, FifteenExactly}

-- ---- a reading on a sound table

-- A refusal leaves the table as it is.
plainly_kept : (r : Reading) (t : Table) → changes (plainly r t).answer ≡ false → (plainly r t).table ≡ t
unfolding plainly serve
plainly_kept r t = go r.call
  where
    go : (call : Option Call) → let said : Reading = record { call = call; interrupt = r.interrupt } in changes (plainly said t).answer ≡ false → (plainly said t).table ≡ t
    go (Some c) e = rw e
    go None e = refl

-- No answer is 15.
plainly_other : (r : Reading) (t : Table) → (plainly r t).answer ≢ not_sound
unfolding plainly
plainly_other r t = go r.call r.interrupt
  where
    go : (call : Option Call) (interrupt : Bool) → (plainly (record { call = call; interrupt = interrupt }) t).answer ≢ not_sound
    go (Some c) interrupt = serve_not_15 c interrupt t
    go None true = λ e. omega arith
    go None false = λ e. omega arith

-- The table is the one that the rules' calls make.
plainly-run : {t : Table} → Sound t → (r : Reading) (b : BoundedIn r) → (plainly r t).table ≡ run (made_in r b) t
unfolding plainly made_in run
plainly-run {t} s r = go r.call
  where
    go : (call : Option Call) → let said : Reading = record { call = call; interrupt = r.interrupt } in (b : BoundedIn said) → (plainly said t).table ≡ run (made_in said b) t
    go (Some c) b = ap (λ (o : Outcome). o.table) (sym (step-serve s c r.interrupt))
    go None b = refl

-- The bytes are the image of that table, also where they stay as they are.
bytes-image : (t : Table) (o : Outcome) → (changes o.answer ≡ false → o.table ≡ t) → bytes_after o (image_of t) ≡ image_of o.table
unfolding bytes_after
bytes-image t o kept = go (changes o.answer) refl
  where
    go : (b : Bool) → changes o.answer ≡ b → cond b (image_of o.table) (image_of t) ≡ image_of o.table
    go true e = refl
    go false e = ap image_of (sym (kept e))

-- ---- a call on the image of a sound table

module _ {t : Table} (s : Sound t) (p : PortCall) where
  abbrev rule : Outcome
  rule = rule_of p t

  -- The rules do as they do without the test.
  rule-plainly : rule ≡ plainly (reading_of p) t
  rule-plainly = rules-sound p.kind p.a p.b p.c p.d p.e p.f t (sound-tested s)

  by_step_lem : outcome_of p.kind p.a p.b p.c p.d p.e p.f (image_of t) ≡ rule
  by_step_lem = step_right p.kind p.a p.b p.c p.d p.e p.f (image_of t) (image-length (sound_fits s)) ∙ ap (rule_of p) (image-view (sound_fits s))

  by_serve_lem : serve_of p.kind p.a p.b p.c p.d p.e p.f (image_of t) ≡ rule
  by_serve_lem =
      serve_right p.kind p.a p.b p.c p.d p.e p.f (image_of t) (image-length (sound_fits s))
      ∙ ap (plainly (reading_of p)) (image-view (sound_fits s))
      ∙ sym rule-plainly

  -- Whichever function is called.
  by_either : {x v k : ℕ} {m : List ℕ} → Called p (image_of t) x v k m → Gives rule (image_of t) x v k m
  by_either {x} {v} {k} {m} (by_step g) = subst (λ (o : Outcome). Gives o (image_of t) x v k m) by_step_lem g
  by_either {x} {v} {k} {m} (by_serve g) = subst (λ (o : Outcome). Gives o (image_of t) x v k m) by_serve_lem g

  -- The table afterwards.
  rule-run : rule.table ≡ run (made_by p) t
  rule-run = ap (λ (o : Outcome). o.table) rule-plainly ∙ plainly-run s (reading_of p) _

  after-sound : Sound rule.table
  after-sound = subst Sound (sym rule-run) (always_from (made_by p) s)

  after-image : bytes_after rule (image_of t) ≡ image_of rule.table
  after-image = bytes-image t rule (rw rule-plainly (plainly_kept (reading_of p) t))

  says-table : (c : Call) (interrupt : Bool) → reading_of p ≡ says_call c interrupt → rule.table ≡ (step c interrupt t).table
  unfolding port_step says
  says-table c interrupt e = ap (λ (r : Reading). (says r t).table) e

  unknown-table : (interrupt : Bool) → reading_of p ≡ says_none interrupt → rule.table ≡ t
  unfolding plainly
  unknown-table interrupt e = ap (λ (o : Outcome). o.table) (rule-plainly ∙ ap (λ (r : Reading). plainly r t) e)

  answered : {x v k : ℕ} {m : List ℕ} → Called p (image_of t) x v k m → AsRules p t (image_of t) x v k m
  answered {x} {v} {k} {m} c =
      let g = by_either c in
      let bytes : m ≡ image_of rule.table = g.bytes ∙ after-image in
      record {
        answer = g.answer;
        runs = g.runs;
        further = g.further;
        bytes = bytes;
        taken = λ e. plainly_other (reading_of p) t (sym (g.answer ∙ ap (λ (o : Outcome). o.answer) rule-plainly) ∙ e);
        order = λ d interrupt e.
            subst (OrderKept d interrupt t)
            (sym (ap view bytes ∙ image-view (sound_fits after-sound) ∙ says-table d interrupt e))
            ((demand-sound s).stable d interrupt);
        unknown = λ interrupt e. bytes ∙ ap image_of (unknown-table interrupt e);
      }

follows : {t : Table} → Sound t → Follows t (image_of t)
follows s = record { image = refl; sound = s; demand = demand-sound s; calls = answered s; same = λ p. by_serve_lem s p ∙ sym (by_step_lem s p) }

-- ---- calls one after another

run_append : (cs ds : List Made) (t : Table) → run (cs ++ ds) t ≡ run ds (run cs t)
unfolding run
run_append [] ds t = refl
run_append (c ∷ cs) ds t = run_append cs ds (step c.call c.interrupt t).table

along : {ps : List PortCall} {l n : List ℕ} {t : Table} → Calls ps l n → Sound t → l ≡ image_of t → Follows (run (made_by_all ps) t) n
unfolding made_by_all run
along {t = t} none s e = subst (Follows t) (sym e) (follows s)
along {n = n} {t = t} (more {p} {ps} {x} {v} {k} {m = m} c cs) s e =
    let a = answered s p (subst (λ (z : List ℕ). Called p z x v k m) e c) in
    let rest : Follows (run (made_by_all ps) (run (made_by p) t)) n = along cs (always_from (made_by p) s) (a.bytes ∙ ap image_of (rule-run s p)) in
    subst (λ (u : Table). Follows u n) (sym (run_append (made_by p) (made_by_all ps) t)) rest

-- Such calls there are, from any bytes.
pub some_calls : (ps : List PortCall) (l : List ℕ) → (n : List ℕ) × Calls ps l n
some_calls [] l = (l, none)
some_calls (p ∷ ps) l =
    let (n, rest) = some_calls ps (bytes_after (outcome_of p.kind p.a p.b p.c p.d p.e p.f l) l) in
    (n, more (by_step (record { answer = refl; runs = refl; further = refl; bytes = refl })) rest)

-- From the image of any sound table.
pub from_sound : FromSound
from_sound t s ps l calls = along calls s refl

-- From memory that `ntk_fresh` has written.
pub from_fresh : FromFresh
from_fresh k l x h f =
    let e = eq-eqb (length k) image_size h in
    ((rw e at f.answer), λ ps m calls. along calls fresh-sound (rw e at f.bytes))

-- Zeroed memory: its default quantum is 0.
pub zeroed : ZeroedIsNone
zeroed = inr λ t s e. omega (arith, s.settled.numbers.default_least, ap (λ (u : Table). u.default_quantum) (sym zeros-view ∙ ap view e ∙ image-view (sound_fits s)))

-- ---- 15

module _ (kind a b c d e f : ℕ) (l : List ℕ) (bytes : Bytes l) {x v k : ℕ} {m : List ℕ} (g : Gives (outcome_of kind a b c d e f l) l x v k m) where
  -- Where the outcome is that of a table that is not sound.
  refused : outcome_of kind a b c d e f l ≡ unsound (view l) → NoImage l → Fifteen l x v k m
  unfolding bytes_after
  refused e h =
      record {
        exactly = ((λ z. h), (λ z. g.answer ∙ ap (λ (o : Outcome). o.answer) e));
        none = λ z. g.runs ∙ ap (λ (o : Outcome). o.runs) e;
        nothing = λ z. g.further ∙ ap (λ (o : Outcome). o.further) e;
        bytes = λ z. g.bytes ∙ ap (λ (o : Outcome). bytes_after o l) e;
      }

  -- Where the bytes are the image of a sound table.
  taken : Image l → is_sound (view l) ≡ true → Fifteen l x v k m
  taken h tested = record { exactly = ((λ z. absurd (small z)), (λ h. absurd (is h))); none = λ z. absurd (small z); nothing = λ z. absurd (small z); bytes = λ z. absurd (small z) }
    where
      small : x ≡ not_sound → ⊥
      small z = plainly_other (said kind a b c d e f) (view l) (sym (g.answer ∙ ap (λ (o : Outcome). o.answer) (step-sound kind a b c d e f l h tested)) ∙ z)

      is : NoImage l → ⊥
      is (inl wrong) = wrong h
      is (inr other) = other (view l) (tested-sound (view l) tested) (sym (view-image l h bytes))

  by_length : Dec (Image l) → Fifteen l x v k m
  by_length (no h) = refused (step-wrong kind a b c d e f l h) (inl h)
  by_length (yes h) = go (is_sound (view l)) refl
    where
      -- The image of a sound table would have been found sound.
      none_sound : is_sound (view l) ≡ false → (t : Table) → Sound t → l ≡ image_of t → ⊥
      none_sound e t s z = let shown : view l ≡ t = ap view z ∙ image-view (sound_fits s) in true≢false (sym (sound-tested s) ∙ ap is_sound (sym shown) ∙ e)

      go : (y : Bool) → is_sound (view l) ≡ y → Fifteen l x v k m
      go true tested = taken h tested
      go false tested = refused (step-unsound kind a b c d e f l h tested) (inr (none_sound tested))

-- ntk_step, of any bytes.
pub fifteen : FifteenExactly
fifteen kind a b c d e f l bytes x v k m g = by_length kind a b c d e f l bytes g (ℕ_discrete (length l) image_size)
