use Rattle.std.proofs.Common.{arith, refl, length}
use Rattle.std.proofs.lemmas.Option.{slice_get_read}
use Rattle.c_types.proofs.table.first_in.Goals as goal

pub returns-clause-known : goal.returns-clause-known
returns-clause-known c =
    let there = slice_get_read c.args.entries.now (length c.args.entries.now) c.args.id.0 c.index-entries-id.result refl c.requires.id c.index-entries-id.is in
    let before = (c.requires.entries.1.each _ _ there).first_before in
    rw (← c.index-entries-id.is) (omega arith)

pub returns-clause-same : goal.returns-clause-same
returns-clause-same c =
    let there = slice_get_read c.args.entries.now (length c.args.entries.now) c.args.id.0 c.index-entries-id.result refl c.requires.id c.index-entries-id.is in
    rw (← c.index-entries-id.is) (c.requires.entries.1.each _ _ there).first_same

pub returns-clause-least : goal.returns-clause-least
returns-clause-least c =
    let there = slice_get_read c.args.entries.now (length c.args.entries.now) c.args.id.0 c.index-entries-id.result refl c.requires.id c.index-entries-id.is in
    rw (← c.index-entries-id.is) (c.requires.entries.1.each _ _ there).first_least
