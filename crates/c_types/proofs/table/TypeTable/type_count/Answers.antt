use Rattle.std.proofs.Common.{length}
use Rattle.c_types.proofs.Read.{terms_named}
use Rattle.c_types.proofs.table.TypeTable.type_count.Goals as goal

pub returns-clause-named : goal.returns-clause-named
returns-clause-named c =
    rw (← c.self.view_is) (terms_named _ (length c.self.inside.tags.items) c.self.invariant.right.entries_right)
