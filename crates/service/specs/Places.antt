-- A delayed task stands nowhere.
use Rattle.std.specs.Prelude.{◌≡◌, ◌≤◌}
use Rattle.std.proofs.Common.{arith}
use Rattle.rules.specs.Sizes.{delayed}
use Rattle.rules.specs.Table.{queue_count}
use Rattle.rules.specs.Family.{place_of}
use Rattle.rules.specs.declared.Task.{Task}
use Rattle.laws.specs.queues.Stands.{delayed-place}

pub delayed-nowhere : (k : Task) → k.state ≡ delayed → queue_count ≤ place_of k
delayed-nowhere k e = omega (arith, delayed-place k e)
