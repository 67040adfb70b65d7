use Rattle.std.proofs.Common.{◌≡◌}
use Rattle.struct_rows.specs.tag_types.Opened.{IsOpened}
use Rattle.struct_rows.proofs.tag_types.opening.open_types.Given as goal

-- each tag so far has its type
abbrev pub invariant-loop-tag : goal.invariant-loop-tag
invariant-loop-tag l = record { opened : IsOpened l.numbered l.types; count : l.types.tags ≡ l._tag }
