-- What a stage's answer stands for in the definitions: its verdict, and the type table that it hands back, on a refusal too.
use Rattle.std.specs.Prelude.{Result, Ok, Err}
use Rattle.scope.specs.Check.{Check, passed, refused}
use Rattle.types.specs.declared.TypeTable.{TypeTable}
use Rattle.stages.specs.declared.Refused.{Refused}

abbrev pub verdict_of : Result TypeTable Refused → Check (Unit {0})
verdict_of (Ok table) = passed tt
verdict_of (Err stopped) = refused stopped.why

abbrev pub table_of : Result TypeTable Refused → TypeTable
table_of (Ok table) = table
table_of (Err stopped) = stopped.table
