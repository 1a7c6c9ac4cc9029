-- Which outcome each way through the port has.
use Rattle.std.specs.Prelude.{◌≡◌, Option, Some, None, refl, Bool, true, false, List, ℕ, length}
use Rattle.std.proofs.Math.Path.{ap}
use Rattle.std.proofs.Common.{◌∙◌, eq-eqb, ne_eqb}
use Rattle.std.proofs.Math.Bool.{cond}
use Rattle.rules.specs.Table.{Table}
use Rattle.rules.specs.Sound.{is_sound}
use Rattle.rules.specs.Step.{Outcome, step, unsound}
use Rattle.rules.specs.Port.{unknown, says, port_step}
use Rattle.rules.specs.declared.Call.{Call}
use Rattle.rules.specs.declared.Reading.{Reading}
use Rattle.table.specs.Image.{Image, image_size, view}
use Rattle.port.specs.Step.{sized, said, plainly, outcome_of, serve_of}

-- ---- the length

module _ (rule : Table → Outcome) (l : List ℕ) where
  sized_right : Image l → sized rule l ≡ rule (view l)
  unfolding sized
  sized_right h = ap (λ (b : Bool). cond b (rule (view l)) (unsound (view l))) (eq-eqb (length l) image_size h)

  sized-wrong : (Image l → ⊥) → sized rule l ≡ unsound (view l)
  unfolding sized
  sized-wrong h = ap (λ (b : Bool). cond b (rule (view l)) (unsound (view l))) (ne_eqb (length l) image_size h)

-- ---- the test of the table

-- The rules test the table, and then do as `plainly` does.
tested : (r : Reading) (t : Table) → says r t ≡ cond (is_sound t) (plainly r t) (unsound t)
unfolding says plainly unknown step
tested r t = go r.call
  where
    go : (call : Option Call) → let said : Reading = record { call = call; interrupt = r.interrupt } in says said t ≡ cond (is_sound t) (plainly said t) (unsound t)
    go (Some c) = refl
    go None = refl

module _ (kind a b c d e f : ℕ) (t : Table) where
  by_test : (x : Bool) → is_sound t ≡ x → port_step kind a b c d e f t ≡ cond x (plainly (said kind a b c d e f) t) (unsound t)
  unfolding port_step
  by_test x h = tested (said kind a b c d e f) t ∙ ap (λ (y : Bool). cond y (plainly (said kind a b c d e f) t) (unsound t)) h

  -- On a sound table the rules do without the test.
  pub rules-sound : is_sound t ≡ true → port_step kind a b c d e f t ≡ plainly (said kind a b c d e f) t
  rules-sound = by_test true

  rules-unsound : is_sound t ≡ false → port_step kind a b c d e f t ≡ unsound t
  rules-unsound = by_test false

-- ---- the two functions

module _ (kind a b c d e f : ℕ) (l : List ℕ) where
  pub step-wrong : (Image l → ⊥) → outcome_of kind a b c d e f l ≡ unsound (view l)
  unfolding outcome_of
  step-wrong = sized-wrong (port_step kind a b c d e f) l

  pub step_right : Image l → outcome_of kind a b c d e f l ≡ port_step kind a b c d e f (view l)
  unfolding outcome_of
  step_right = sized_right (port_step kind a b c d e f) l

  pub serve-wrong : (Image l → ⊥) → serve_of kind a b c d e f l ≡ unsound (view l)
  unfolding serve_of
  serve-wrong = sized-wrong (plainly (said kind a b c d e f)) l

  pub serve_right : Image l → serve_of kind a b c d e f l ≡ plainly (said kind a b c d e f) (view l)
  unfolding serve_of
  serve_right = sized_right (plainly (said kind a b c d e f)) l

  pub step-unsound : Image l → is_sound (view l) ≡ false → outcome_of kind a b c d e f l ≡ unsound (view l)
  step-unsound h s = step_right h ∙ rules-unsound kind a b c d e f (view l) s

  pub step-sound : Image l → is_sound (view l) ≡ true → outcome_of kind a b c d e f l ≡ plainly (said kind a b c d e f) (view l)
  step-sound h s = step_right h ∙ rules-sound kind a b c d e f (view l) s
