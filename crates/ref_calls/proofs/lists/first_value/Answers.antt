use Rattle.std.proofs.Common.{arith, ◌≡◌, ◌∙◌, ◌<◌, ◌≤◌, List, [], ◌∷◌, length, get_or, refl, sym, ap, subst}
use Rattle.c_types.specs.declared.term.PathStep.TheVariants.{Index}
use Rattle.c_types.specs.Trees.{Ctype}
use Rattle.c_types.specs.Table.{type_of}
use Rattle.ref_cells.specs.Answers.{Gives}
use Rattle.ref_cells.specs.declared.cells.Cell.{Cell}
use Rattle.ref_cells.specs.declared.cells.Cell.TheVariants.{Unset}
use Rattle.ref_cells.specs.Cells.{Entry, CellList, seen, under}
use Rattle.ref_cells.specs.Order.{IsOrdered}
use Rattle.ref_cells.proofs.Unders.{seen_none}
use Rattle.ref_state.specs.Values.{first_cell}
use Rattle.ref_calls.specs.Lists.{held_value}
use Rattle.ref_calls.proofs.lists.first_value.Goals as goal

none_first : (cells : CellList) → length cells < 1 → first_cell (seen 1 cells) ≡ Unset
none_first [] lt = refl
none_first (e ∷ rest) lt = absurd (omega (arith, lt))

some_first : (cells : CellList) (e : Entry) → 1 ≤ length cells → e ≡ get_or cells 0 e → e.1 ≡ first_cell (seen 1 cells)
some_first [] e le is = absurd (omega (arith, le))
some_first (x ∷ rest) e le is = ap (λ (y : Entry). y.1) is

pub under-requires : goal.under-requires
under-requires c = subst IsOrdered (sym (seen_none c.as_slice.result.now ∙ c.as_slice.ensures.cells)) c.as_slice.ensures.ordered

pub returns-in-empty : goal.returns-in-empty
returns-in-empty c =
    let t : Ctype = type_of c.args.types.now c.args.ty.0 in
    let is : seen 1 c.under.result.now ≡ under (Index c.args.k) c.args.inst.now.cells =
    c.under.ensures.cells ∙ ap (under (Index c.args.k)) (seen_none c.as_slice.result.now ∙ c.as_slice.ensures.cells) in
    ap (λ (cells : CellList). held_value t (first_cell cells)) (sym is) ∙ ap (held_value t) (none_first c.under.result.now c.in-empty.len_below)

pub returns-in-len1-up : goal.returns-in-len1-up
returns-in-len1-up c =
    let t : Ctype = type_of c.args.types.now c.args.ty.0 in
    let is : seen 1 c.under.result.now ≡ under (Index c.args.k) c.args.inst.now.cells =
    c.under.ensures.cells ∙ ap (under (Index c.args.k)) (seen_none c.as_slice.result.now ∙ c.as_slice.ensures.cells) in
    subst (λ (cell : Cell). Gives (λ v. v) c.held_value.result (held_value t cell))
    (some_first c.under.result.now c.entry-item.result c.in-len1-up.len_at_least c.entry-item.is ∙ ap first_cell is) c.held_value.ensures
