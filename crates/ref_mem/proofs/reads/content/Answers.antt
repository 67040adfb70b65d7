use Rattle.std.proofs.Common.{◌≡◌, ℕ, Option, Some, None, length, zero-add, sym, ap, ◌∙◌, subst}
use Rattle.std.specs.Option.{option_map}
use Rattle.c_types.specs.Trees.{Ctype}
use Rattle.c_types.specs.Table.{type_of}
use Rattle.ref_cells.specs.Cells.{CellList, seen}
use Rattle.ref_cells.specs.Order.{IsOrdered}
use Rattle.ref_cells.specs.Wholes.{shape_in, whole_of}
use Rattle.ref_cells.specs.Values.{filled}
use Rattle.ref_mem.specs.Reads.{opened}
use Rattle.ref_cells.proofs.Unders.{seen_none}
use Rattle.ref_mem.proofs.reads.content.Goals as goal

pub opened-requires-clause-ordered : goal.opened-requires-clause-ordered
opened-requires-clause-ordered c = subst IsOrdered (sym (seen_none _ ∙ c.as_slice.ensures.cells)) c.as_slice.ensures.ordered

pub returns-in_ok-list-in-Some : goal.returns-in_ok-list-in-Some
returns-in_ok-list-in-Some c =
    let table = c.args.types.now in
    let path = c.args.path.now in
    let part = c.in-Some.cells.now in
    let fill = filled table c.args.inst.now.zero (type_of table c.args.ty.0) in
    let same : opened table (whole_of table c.args.inst.now) path c.args.inst.now.cells ≡ Some (seen (length path) part) =
    ap (λ (w : Option Ctype). opened table w path c.args.inst.now.cells) (sym c.whole_of-whole.ensures.whole)
    ∙ ap (opened table (shape_in table c.whole_of-whole.result) path) (sym (seen_none c.as_slice.result.now ∙ c.as_slice.ensures.cells))
    ∙ c.in-Some.ensures.cells
    ∙ ap (λ (n : ℕ). Some (seen n part)) (zero-add (length path)) in
    ap Some (c.of.ensures ∙ c.in_ok-list-in-Some.ensures.cells) ∙ sym (ap (λ (o : Option CellList). option_map fill o) same)

pub returns-in-None : goal.returns-in-None
returns-in-None c =
    let table = c.args.types.now in
    let path = c.args.path.now in
    let fill = filled table c.args.inst.now.zero (type_of table c.args.ty.0) in
    let same : opened table (whole_of table c.args.inst.now) path c.args.inst.now.cells ≡ None =
    ap (λ (w : Option Ctype). opened table w path c.args.inst.now.cells) (sym c.whole_of-whole.ensures.whole)
    ∙ ap (opened table (shape_in table c.whole_of-whole.result) path) (sym (seen_none c.as_slice.result.now ∙ c.as_slice.ensures.cells))
    ∙ c.in-None.ensures.cells in
    sym (ap (λ (o : Option CellList). option_map fill o) same)
