-- What is left of an input whose first bytes are let go.
use Rattle.std.specs.Prelude.{◌≡◌, List, ℕ, ◌+◌, ◌-◌, ◌≤◌, length, take, drop}
use Rattle.std.specs.List.{copy_within}
use Rattle.std.proofs.Common.{◌∙◌, ap, sym, arith, length-drop}
use Rattle.std.proofs.lemmas.List.{drop-take}
use Rattle.std.proofs.lemmas.List.Edits.{take-paste}

pub kept : (bytes : List ℕ) (n held : ℕ) → n ≤ held → held ≤ length bytes → take (held - n) (copy_within bytes n held 0) ≡ drop n (take held bytes)
kept bytes n held h fits =
    let m = held - n in
    let zero : m ≡ 0 + m = omega arith in
    let all : n + m ≡ held = omega arith in
    ap (λ (k : ℕ). take k (copy_within bytes n held 0)) zero
    ∙ take-paste bytes 0 (drop n bytes) m (omega arith) (rw length-drop (omega arith))
    ∙ sym (drop-take n m bytes)
    ∙ ap (λ (k : ℕ). drop n (take k bytes)) all
