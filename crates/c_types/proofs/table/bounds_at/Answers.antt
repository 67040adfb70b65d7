use Rattle.std.proofs.Common.{arith, ◌<◌, length, [], get_or}
use Rattle.std.proofs.lemmas.Option.{slice_get-get_or}
use Rattle.c_types.specs.Trees.{grown}
use Rattle.c_types.specs.Inside.{terms_of, table_of}
use Rattle.c_types.specs.Table.{look_in}
use Rattle.c_types.proofs.Read.{entry_at}
use Rattle.c_types.proofs.Split.{element_term, bounds_right}
use Rattle.c_types.proofs.table.bounds_at.Goals as goal

pub bounds-entries-element : goal.bounds-entries-element
bounds-entries-element c =
    let e = entry_at c.args.entries.now (length c.args.tags.now) c.requires.right.entries_right c.args.id.0 c.index-entries-id.result c.requires.id in
    let h = c.requires.id in
    omega (arith, e.element_before)

pub plain_bounds-base-requires-clause-plain : goal.plain_bounds-base-requires-clause-plain
plain_bounds-base-requires-clause-plain c =
    let e = entry_at c.args.entries.now (length c.args.tags.now) c.requires.right.entries_right c.args.id.0 c.index-entries-id.result c.requires.id in
    let k : (get_or c.args.entries.now c.args.id.0 c.index-entries-id.result).element < length c.args.entries.now = omega (arith, e.element_before) in
    element_term c.args.entries.now (length c.args.tags.now) c.requires.right.entries_right c.args.id.0 c.index-entries-id.result c.index-entries-element.result c.requires.id k

pub plain_bounds-base-requires-clause-tag : goal.plain_bounds-base-requires-clause-tag
plain_bounds-base-requires-clause-tag c =
    let e = entry_at c.args.entries.now (length c.args.tags.now) c.requires.right.entries_right c.args.id.0 c.index-entries-id.result c.requires.id in
    let k : (get_or c.args.entries.now c.args.id.0 c.index-entries-id.result).element < length c.args.entries.now = omega (arith, e.element_before) in
    c.requires.right.entries_right.tagged _ _ (slice_get-get_or c.args.entries.now (get_or c.args.entries.now c.args.id.0 c.index-entries-id.result).element c.index-entries-element.result k)

pub returns : goal.returns
returns c =
    let e = entry_at c.args.entries.now (length c.args.tags.now) c.requires.right.entries_right c.args.id.0 c.index-entries-id.result c.requires.id in
    let k : (get_or c.args.entries.now c.args.id.0 c.index-entries-id.result).element < length c.args.entries.now = omega (arith, e.element_before) in
    bounds_right c.args.entries.now (length c.args.tags.now) c.requires.right.entries_right c.args.id.0 c.index-entries-id.result c.index-entries-id-2.result c.index-entries-element.result c.requires.id k
    (look_in (table_of c.args.entries.now c.args.tags.now c.args.completed.now)) c.times_bounds.result c.plain_bounds-base.result (c.plain_bounds-base.ensures (grown [] (terms_of c.args.entries.now))) c.times_bounds.ensures
