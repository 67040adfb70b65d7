use Rattle.std.proofs.Common.{arith, ◌++◌, List, ap, ◌∙◌}
use Rattle.obj_space.specs.declared.location.Location.{Location}
use Rattle.obj_space.proofs.LibraryRows.{outside_written}
use Rattle.obj_space.proofs.library.write_outside.Goals as goal

pub returns-in_ok-write_known : goal.returns-in_ok-write_known
returns-in_ok-write_known c = λ table.
    c.in_ok-write_known.ensures table
    ∙ ap (λ (ls : List Location). c.args.out.now.items ++ ls) (outside_written table c.in_ok-name.name c.args.entries.now (grind (arith, c.if-not-is_empty.true, c.is_empty.ensures)) c.in_ok-name.ensures)
