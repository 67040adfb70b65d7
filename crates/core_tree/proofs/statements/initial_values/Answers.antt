use Rattle.std.proofs.Common.{ℕ, ◌<◌, List, Some, length, refl, ◌∙◌, subst, get_or}
use Rattle.std.proofs.lemmas.List.Elements.{All-take, All-drop}
use Rattle.c_types.specs.declared.term.PathStep.{PathStep}
use Rattle.c_types.specs.Table.{type_of}
use Rattle.core_tree.specs.Seen.{core_of}
use Rattle.core_tree.proofs.Lists.{IsValueAt, next_value}
use Rattle.core_tree.proofs.statements.initial_values.Goals as goal

pub loop-path-preserved : goal.loop-path-preserved
loop-path-preserved c =
    let u = core_of c.args.trees.now in
    let t = type_of c.args.trees.now.types.now c.args.ty.0 in
    let told = subst (λ (path : List PathStep). IsValueAt u (Some t) path (get_or c.loop-path.rest.now 0 0)) (c.as_slice.ensures ∙ c.path-item.is) (c.if-not-is_value_at.ensures.0 refl) in
    let next = next_value u (Some t) c.args.paths.now c.loop-path.path-index c.path-item.result c.loop-path.rest.now 0 c.loop-path-test.true c.in-len1-up.len_at_least told in
    record {
      values = All-take (λ (v : ℕ). v < length c.args.trees.now.nodes.now) _ _ (All-drop (λ (v : ℕ). v < length c.args.trees.now.nodes.now) 1 c.loop-path.rest.now c.loop-path.invariant.values);
      same = (λ h. c.loop-path.invariant.same.0 (next.1 h), λ h. next.0 (c.loop-path.invariant.same.1 h));
    }
