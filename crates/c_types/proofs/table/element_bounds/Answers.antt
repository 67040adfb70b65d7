use Rattle.std.proofs.Common.{arith, ◌∙◌, ◌<◌, sym, ap, length, []}
use Rattle.c_types.specs.Trees.{Ctype, grow, grown}
use Rattle.c_types.specs.Layout.{element_extent}
use Rattle.c_types.specs.Table.{look_in}
use Rattle.c_types.specs.Bounds.{bounds_or}
use Rattle.c_types.specs.Inside.{terms_of, table_of}
use Rattle.c_types.proofs.Read.{entry_at}
use Rattle.c_types.proofs.Members.{no_element}
use Rattle.c_types.proofs.table.element_bounds.Goals as goal

pub bounds_at-requires-clause-id : goal.bounds_at-requires-clause-id
bounds_at-requires-clause-id c =
    let e = entry_at c.args.entries.now (length c.args.tags.now) c.requires.right.entries_right c.args.id.0 c.index-entries-id.result c.requires.id in
    let lt : c.in-Array.of.0 < c.args.id.0 = rw c.in-Array.is at e.after in
    let h = c.requires.id in
    omega arith

pub returns-in-Array : goal.returns-in-Array
returns-in-Array c =
    let e = entry_at c.args.entries.now (length c.args.tags.now) c.requires.right.entries_right c.args.id.0 c.index-entries-id.result c.requires.id in
    let tree = e.term ∙ ap (grow (grown [] (terms_of c.args.entries.now))) c.in-Array.is in
    c.bounds_at.ensures ∙ sym (ap (λ (t : Ctype). bounds_or (element_extent (look_in (table_of c.args.entries.now c.args.tags.now c.args.completed.now)) t)) tree)

pub returns-in_default : goal.returns-in_default
returns-in_default c =
    let e = entry_at c.args.entries.now (length c.args.tags.now) c.requires.right.entries_right c.args.id.0 c.index-entries-id.result c.requires.id in
    let look = look_in (table_of c.args.entries.now c.args.tags.now c.args.completed.now) in
    sym (ap (λ (t : Ctype). bounds_or (element_extent look t)) e.term ∙ ap bounds_or (no_element look (grown [] (terms_of c.args.entries.now)) _ c.in_default.not-Array))
