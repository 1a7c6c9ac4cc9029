-- What a wait asks of flags, as the rules have it.
use Rattle.rules.specs.Table as table
use Rattle.rules.specs.Table.{asking}
use Rattle.table.specs.declared.tasks.Asked.{Asked}

abbrev pub asked_in : Asked → table.Asked
asked_in a = asking a.mask a.test a.consume
