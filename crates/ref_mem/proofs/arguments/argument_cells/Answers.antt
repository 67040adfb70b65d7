use Rattle.std.proofs.Common.{arith, ◌≡◌, ◌∙◌, ◌+◌, ◌*◌, ℕ, List, ◌∷◌, ◌++◌, drop, length, refl, sym, ap, subst}
use Rattle.std.proofs.lemmas.List.{append_assoc, drop_more}
use Rattle.c_types.specs.declared.term.PathStep.TheVariants.{Index}
use Rattle.ref_cells.specs.Cells.{CellList}
use Rattle.ref_cells.specs.Order.{IsOrdered}
use Rattle.ref_cells.specs.declared.cells.Value.{Value}
use Rattle.ref_cells.proofs.Ordered.{AllBelow, ordered_prefixed, ordered_append, prefixed_from, prefixed_below, below_append, below_more}
use Rattle.ref_mem.specs.Arguments.{under_index, argument_cells}
use Rattle.ref_mem.proofs.arguments.argument_cells.Goals as goal

pub loop-i-preserved : goal.loop-i-preserved
loop-i-preserved c =
    let i : ℕ = c.loop-i.i in
    let all : List Value = c.args.arguments.now in
    let value : Value = c.index-arguments-i.result in
    let items : CellList = c.loop-i.list.items in
    let added : CellList = under_index i value.cells in
    let rest : CellList = argument_cells (i + 1) (drop (i + 1) all) in
    let is : c.push_argument.new.list.items ≡ items ++ added = c.in_ok-push_argument.ensures.cells in
    let next : drop i all ≡ value ∷ drop (i + 1) all = drop_more all i value c.loop-i-test.true ∙ ap (λ (x : Value). x ∷ drop (i + 1) all) (sym c.index-arguments-i.is) in
    let before = c.loop-i.invariant.1 in
    let below : AllBelow (2 * (i + 1) + 1) (items ++ added) =
    below_append (2 * (i + 1) + 1) items added (below_more (2 * i + 1) (2 * (i + 1) + 1) items (omega arith) before)
    (prefixed_below (Index i) (2 * (i + 1) + 1) value.cells (omega arith)) in
    let ordered : IsOrdered (items ++ added) =
    ordered_append (2 * i + 1) items added before (prefixed_from (Index i) (2 * i + 1) value.cells (omega arith)) c.loop-i.invariant.2
    (ordered_prefixed (Index i) value.cells c.in_ok-push_argument.ensures.ordered) in (
      ap (λ (cells : CellList). cells ++ rest) is
          ∙ (append_assoc items added rest
          ∙ (ap (λ (values : List Value). items ++ argument_cells i values) (sym next) ∙ c.loop-i.invariant.0)),
      subst (AllBelow (2 * (i + 1) + 1)) (sym is) below,
      subst IsOrdered (sym is) ordered,
    )
