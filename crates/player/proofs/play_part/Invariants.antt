use Rattle.std.proofs.Common.{◌≡◌, ◌≤◌, ◌-◌, length}
use Rattle.player.proofs.Parts.{Going}
use Rattle.player.proofs.play_part.Given as goal

abbrev pub invariant-loop : goal.invariant-loop
invariant-loop l =
    (length l.image ≡ length l.initial.image) × (length l.out ≡ length l.initial.out) × (l.read ≤ length l.tape) × (l.written ≤ length l.out)
    × Going l.initial.image l.tape l.initial.out l.image l.out l.read l.written (length l.tape - l.counter)
