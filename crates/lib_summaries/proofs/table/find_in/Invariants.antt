use Rattle.std.proofs.Common.{◌≡◌, drop, map}
use Rattle.lib_summaries.specs.Table.{find_from}
use Rattle.lib_summaries.specs.Shown.{shown}
use Rattle.lib_summaries.proofs.table.find_in.Given as goal

abbrev pub invariant-loop-number : goal.invariant-loop-number
invariant-loop-number l = find_from 0 (map shown l.rows) l.name ≡ find_from l.number (drop l.number (map shown l.rows)) l.name
