use Rattle.std.proofs.Common.{rules, ◌≤◌, ◌-◌, ◌∙◌, ap, length, drop, take, List, ℕ}
use Rattle.play.proofs.Kept.{kept}
use Rattle.play.proofs.Input.advance.Goals as goal

pub returns : goal.returns
returns c =
    let inside = c.self.inside in
    let fits : inside.held ≤ length inside.bytes = search rules in
    let some : c.args.n ≤ inside.held = search rules in
    ap (λ (l : List ℕ). take (inside.held - c.args.n) l) c.copy_within.ensures.after
    ∙ kept inside.bytes c.args.n inside.held some fits
    ∙ ap (λ (l : List ℕ). drop c.args.n l) c.self.view_is
