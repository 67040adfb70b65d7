use Rattle.std.proofs.Common.{◌≡◌, ℕ, ℤ, Option, Some, length, zero-add, sym, ap, ◌∙◌, subst}
use Rattle.c_types.specs.Trees.{Ctype}
use Rattle.c_types.specs.Table.{type_of}
use Rattle.type_rules.specs.Kinds.{character}
use Rattle.ref_cells.specs.Answers.{Agrees}
use Rattle.ref_cells.specs.Cells.{CellList, seen}
use Rattle.ref_cells.specs.Order.{IsOrdered}
use Rattle.ref_cells.specs.Wholes.{shape_in, whole_of}
use Rattle.ref_mem.specs.Reads.{opened, opened_value, number_read}
use Rattle.ref_cells.proofs.Unders.{seen_none}
use Rattle.ref_mem.proofs.reads.character_in.Goals as goal

pub opened-requires-clause-ordered : goal.opened-requires-clause-ordered
opened-requires-clause-ordered c = subst IsOrdered (sym (seen_none _ ∙ c.as_slice.ensures.cells)) c.as_slice.ensures.ordered

pub returns-in-Some : goal.returns-in-Some
returns-in-Some c =
    let table = c.args.types.now in
    let path = c.args.path.now in
    let part = c.in-Some.cells.now in
    let same : opened table (whole_of table c.args.inst.now) path c.args.inst.now.cells ≡ Some (seen (length path) part) =
    ap (λ (w : Option Ctype). opened table w path c.args.inst.now.cells) (sym c.whole_of-whole.ensures.whole)
    ∙ ap (opened table (shape_in table c.whole_of-whole.result) path) (sym (seen_none c.as_slice.result.now ∙ c.as_slice.ensures.cells))
    ∙ c.in-Some.ensures.cells
    ∙ ap (λ (n : ℕ). Some (seen n part)) (zero-add (length path)) in
    subst (λ (o : Option CellList). Agrees (λ (n : ℤ). n) c.character_of.result (number_read (opened_value table c.args.inst.now.zero (type_of table c.args.found.0) character o))) (sym same) c.character_of.ensures

pub returns-in-None : goal.returns-in-None
returns-in-None c =
    let table = c.args.types.now in
    let path = c.args.path.now in
    ap (λ (o : Option CellList). number_read (opened_value table c.args.inst.now.zero (type_of table c.args.found.0) character o))
    (ap (λ (w : Option Ctype). opened table w path c.args.inst.now.cells) (sym c.whole_of-whole.ensures.whole)
    ∙ ap (opened table (shape_in table c.whole_of-whole.result) path) (sym (seen_none c.as_slice.result.now ∙ c.as_slice.ensures.cells))
    ∙ c.in-None.ensures.cells)
