use Rattle.std.proofs.Common.{◌<◌, ◌≡◌, ◌∙◌, ◌++◌, [], ◌∷◌, ℤ, pos, get_or, length, sym, ap, subst, to_z-of_z, FitsSigned, rules, arith}
use Rattle.std.specs.Int.{w128}
use Rattle.c_types.specs.declared.term.PathStep.TheVariants.{Index}
use Rattle.ref_cells.specs.declared.cells.Cell.TheVariants.{Number}
use Rattle.ref_cells.specs.Order.{IsOrdered}
use Rattle.ref_texts.specs.Writing.{text_cells}
use Rattle.ref_texts.proofs.PartSteps.{cells_ordered, list_begins, list_goes, list_all_of}
use Rattle.ref_texts.proofs.writing.text_cells.Goals as goal

pub loop-i-init : goal.loop-i-init
loop-i-init c = list_begins c.args.text.now c.new-list.result.items (cc)

pub loop-i-preserved : goal.loop-i-preserved
loop-i-preserved c =
    let lt : c.loop-i.i < length c.args.text.now = omega arith in
    let i = c.loop-i.i in
    let x = get_or c.args.text.now i (pos 0) in
    let fits : FitsSigned w128 x = search rules in
    let longer = c.in_ok-push_element.ensures ∙ ap (λ (y : ℤ). c.loop-i.list.items ++ (Index i ∷ [], Number y) ∷ []) (to_z-of_z fits) in
    list_goes i c.args.text.now c.loop-i.list.items _ (text_cells 0 c.args.text.now) lt c.loop-i.invariant longer

pub of-requires : goal.of-requires
of-requires c = subst IsOrdered (sym (list_all_of c.loop-i.i c.args.text.now c.loop-i.list.items (text_cells 0 c.args.text.now) (omega arith) c.loop-i.invariant)) (cells_ordered 0 c.args.text.now)

pub returns : goal.returns
returns c =
    let all : c.loop-i.list.items ≡ text_cells 0 c.args.text.now = list_all_of c.loop-i.i c.args.text.now c.loop-i.list.items (text_cells 0 c.args.text.now) (omega arith) c.loop-i.invariant in
    cc
