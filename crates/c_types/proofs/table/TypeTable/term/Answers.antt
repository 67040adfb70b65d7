use Rattle.std.proofs.Common.{◌<◌, length}
use Rattle.c_types.specs.Inside.{terms_of}
use Rattle.c_types.proofs.Read.{entry_read}
use Rattle.c_types.proofs.table.TypeTable.term.Goals as goal

pub returns-clause-types : goal.returns-clause-types
returns-clause-types c =
    let lt : c.args.id.0 < length (terms_of c.self.inside.entries.items) = rw (← c.self.view_is) at c.requires in
    (c.self.invariant.right.entries_right.each _ _ (entry_read _ _ _ lt c.index.ensures)).after

pub returns-clause-tags : goal.returns-clause-tags
returns-clause-tags c =
    let lt : c.args.id.0 < length (terms_of c.self.inside.entries.items) = rw (← c.self.view_is) at c.requires in
    rw (← c.self.view_is) (c.self.invariant.right.entries_right.tagged _ _ (entry_read _ _ _ lt c.index.ensures))
