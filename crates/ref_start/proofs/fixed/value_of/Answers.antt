use Rattle.std.proofs.Common.{◌≡◌, [], Option, Some, None, IfOk, get_or, slice_get, refl, ap, sym, subst, ◌∙◌}
use Rattle.std.specs.Option.{option_and_then}
use Rattle.std.proofs.lemmas.Option.{slice_get-get_or}
use Rattle.core_tree.specs.declared.node.Node.{Node}
use Rattle.core_tree.specs.Seen.{core_of}
use Rattle.ref_cells.specs.declared.cells.Value.{Value}
use Rattle.ref_start.specs.declared.fixed.Way.TheVariants.{Computed, Alone, Kept, Chosen, Never}
use Rattle.ref_start.specs.Fixed.{way_of, all_fixed, value_over, kept_by, chosen_by, fixed_by, value_at}
use Rattle.ref_start.proofs.FixedSteps.{is_by}
use Rattle.ref_start.proofs.fixed.value_of.Goals as goal

pub returns-in-Some-clause-value : goal.returns-in-Some-clause-value
returns-in-Some-clause-value c =
    let u = core_of c.args.trees.now in
    let memory = c.args.memory.now in
    let fix = value_at c.args.table.now in
    let n = c.args.n in
    let node : Node = get_or u.nodes n c.index-trees-n.result in
    let there : slice_get u.nodes n ≡ Some node = slice_get-get_or u.nodes n c.index-trees-n.result c.requires.node in
    let way : way_of node.kind (slice_get u.types.terms node.ty.0) ≡ Computed = sym c.way_of.ensures ∙ c.in-Computed.is in
    let values = c.in-Some.values.items in
    let all : all_fixed fix node.children ≡ Some values =
    ap (all_fixed fix) (sym c.as_slice-children.ensures) ∙ sym (rw c.in-Some.is at c.in_ok-values-in-Computed.ensures) in
    let made : fixed_by u memory fix n node Computed ≡ value_over u memory n node c.as_slice.result.now =
    ap (option_and_then (value_over u memory n node)) all ∙ ap (value_over u memory n node) (sym c.as_slice.ensures.value) in
    subst (λ (v : Option Value). IfOk c.value_over.result (λ o. o ≡ v))
    (is_by u memory c.requires.range c.args.table.now n node Computed (value_over u memory n node c.as_slice.result.now) c.requires.table there way made)
    (c.value_over.ensures.value node there)

pub returns-in-None-clause-value : goal.returns-in-None-clause-value
returns-in-None-clause-value c =
    let u = core_of c.args.trees.now in
    let memory = c.args.memory.now in
    let fix = value_at c.args.table.now in
    let n = c.args.n in
    let node : Node = get_or u.nodes n c.index-trees-n.result in
    let there : slice_get u.nodes n ≡ Some node = slice_get-get_or u.nodes n c.index-trees-n.result c.requires.node in
    let way : way_of node.kind (slice_get u.types.terms node.ty.0) ≡ Computed = sym c.way_of.ensures ∙ c.in-Computed.is in
    let none : all_fixed fix node.children ≡ None =
    ap (all_fixed fix) (sym c.as_slice-children.ensures) ∙ sym (rw c.in-None.is at c.in_ok-values-in-Computed.ensures) in
    is_by u memory c.requires.range c.args.table.now n node Computed None c.requires.table there way (ap (option_and_then (value_over u memory n node)) none)

pub returns-in-Alone-clause-value : goal.returns-in-Alone-clause-value
returns-in-Alone-clause-value c =
    let u = core_of c.args.trees.now in
    let memory = c.args.memory.now in
    let fix = value_at c.args.table.now in
    let n = c.args.n in
    let node : Node = get_or u.nodes n c.index-trees-n.result in
    let there : slice_get u.nodes n ≡ Some node = slice_get-get_or u.nodes n c.index-trees-n.result c.requires.node in
    let way : way_of node.kind (slice_get u.types.terms node.ty.0) ≡ Alone = sym c.way_of.ensures ∙ c.in-Alone.is in
    subst (λ (v : Option Value). IfOk c.value_over-in-Alone.result (λ o. o ≡ v))
    (is_by u memory c.requires.range c.args.table.now n node Alone (value_over u memory n node []) c.requires.table there way refl)
    (c.value_over-in-Alone.ensures.value node there)

pub returns-in-Kept-clause-value : goal.returns-in-Kept-clause-value
returns-in-Kept-clause-value c =
    let u = core_of c.args.trees.now in
    let memory = c.args.memory.now in
    let fix = value_at c.args.table.now in
    let n = c.args.n in
    let node : Node = get_or u.nodes n c.index-trees-n.result in
    let there : slice_get u.nodes n ≡ Some node = slice_get-get_or u.nodes n c.index-trees-n.result c.requires.node in
    let way : way_of node.kind (slice_get u.types.terms node.ty.0) ≡ Kept = sym c.way_of.ensures ∙ c.in-Kept.is in
    let cs = c.as_slice-children.result.now in
    subst (λ (v : Option Value). IfOk c.kept_by.result (λ o. o ≡ v))
    (is_by u memory c.requires.range c.args.table.now n node Kept (kept_by fix cs) c.requires.table there way (ap (kept_by fix) (sym c.as_slice-children.ensures)))
    c.kept_by.ensures

pub returns-in-Chosen-clause-value : goal.returns-in-Chosen-clause-value
returns-in-Chosen-clause-value c =
    let u = core_of c.args.trees.now in
    let memory = c.args.memory.now in
    let fix = value_at c.args.table.now in
    let n = c.args.n in
    let node : Node = get_or u.nodes n c.index-trees-n.result in
    let there : slice_get u.nodes n ≡ Some node = slice_get-get_or u.nodes n c.index-trees-n.result c.requires.node in
    let way : way_of node.kind (slice_get u.types.terms node.ty.0) ≡ Chosen = sym c.way_of.ensures ∙ c.in-Chosen.is in
    let cs = c.as_slice-children.result.now in
    subst (λ (v : Option Value). IfOk c.chosen_by.result (λ o. o ≡ v))
    (is_by u memory c.requires.range c.args.table.now n node Chosen (chosen_by fix cs) c.requires.table there way (ap (chosen_by fix) (sym c.as_slice-children.ensures)))
    c.chosen_by.ensures

pub returns-in-Never-clause-value : goal.returns-in-Never-clause-value
returns-in-Never-clause-value c =
    let u = core_of c.args.trees.now in
    let memory = c.args.memory.now in
    let fix = value_at c.args.table.now in
    let n = c.args.n in
    let node : Node = get_or u.nodes n c.index-trees-n.result in
    let there : slice_get u.nodes n ≡ Some node = slice_get-get_or u.nodes n c.index-trees-n.result c.requires.node in
    let way : way_of node.kind (slice_get u.types.terms node.ty.0) ≡ Never = sym c.way_of.ensures ∙ c.in-Never.is in
    is_by u memory c.requires.range c.args.table.now n node Never None c.requires.table there way refl
