use Rattle.std.proofs.Common.{take}
use Rattle.std.specs.List.{AllZip}
use Rattle.link_units.specs.link_whole.Entries.{IsEntryOf}
use Rattle.link_units.proofs.link_whole.entries.entry_numbers.Given as goal

abbrev pub invariant-loop-name : goal.invariant-loop-name
invariant-loop-name l = AllZip (IsEntryOf l.entities) (take l.name-index l.entries) l.list.items
