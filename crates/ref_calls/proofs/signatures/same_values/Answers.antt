use Rattle.std.proofs.Common.{rules, arith, true, false, ◌≡◌, ℕ, ◌≤◌, length, Some, nat_eq, slice_get, get_or, ap, sym, ◌∙◌}
use Rattle.std.proofs.lemmas.Option.{slice_get-get_or}
use Rattle.c_types.specs.declared.term.TypeId.{TypeId}
use Rattle.c_types.specs.Table.{types_of}
use Rattle.c_types.specs.Trees.{tree_at}
use Rattle.core_tree.specs.declared.node.Node.{Node}
use Rattle.call_sites.specs.Calls.{ids_of}
use Rattle.ref_elements.specs.Types.{same_type}
use Rattle.ref_calls.proofs.TypeLists.{types_next, types_differ, types_longer, types_end, ids_length, ids_at}
use Rattle.ref_calls.proofs.signatures.same_values.Goals as goal

pub returns-then-i-values : goal.returns-then-i-values
returns-then-i-values c =
    let a = c.args.parameters.now in
    let b = ids_of c.args.trees.now.nodes.now c.args.values.now in
    let i = c.loop-i.i in
    let d : TypeId = record { 0 = 0 } in
    let at : slice_get a i ≡ Some (get_or a i d) = slice_get-get_or a i d c.loop-i-test.true in
    let long : length b ≡ length c.args.values.now = ids_length c.args.trees.now.nodes.now c.args.values.now c.requires.values in
    let past : length b ≤ i = omega (arith, long, c.if-i-values.true) in
    sym (types_longer (types_of c.args.trees.now.types.now) a b i (get_or a i d) at past) ∙ c.loop-i.invariant.same

pub returns : goal.returns
returns c =
    let a = c.args.parameters.now in
    let b = ids_of c.args.trees.now.nodes.now c.args.values.now in
    let i = c.loop-i.i in
    let past : length a ≡ i = omega (arith, c.loop-i-test.false, c.loop-i.auto.i-end) in
    let long : length b ≡ length c.args.values.now = ids_length c.args.trees.now.nodes.now c.args.values.now c.requires.values in
    let within : i ≤ length b = omega (arith, long, c.loop-i.invariant.within) in
    ap (λ (n : ℕ). nat_eq n (length c.args.values.now)) past
    ∙ (ap (λ (n : ℕ). nat_eq i n) (sym long)
    ∙ (types_end (types_of c.args.trees.now.types.now) a b i (omega (arith, past)) within
    ∙ c.loop-i.invariant.same))

pub same_type-requires-clause-right : goal.same_type-requires-clause-right
same_type-requires-clause-right c =
    let nodes = c.args.trees.now.nodes.now in
    let v = get_or c.args.values.now c.loop-i.i 0 in
    let d = c.index-trees-values.result in
    c.requires.range.types v (get_or nodes v d) (slice_get-get_or nodes v d (c.requires.values c.loop-i.i 0 c.if-i-values.false))

pub returns-then-not-same_type : goal.returns-then-not-same_type
returns-then-not-same_type c =
    let nodes = c.args.trees.now.nodes.now in
    let trees = types_of c.args.trees.now.types.now in
    let a = c.args.parameters.now in
    let i = c.loop-i.i in
    let d : TypeId = record { 0 = 0 } in
    let v = get_or c.args.values.now i 0 in
    let node : Node = get_or nodes v c.index-trees-values.result in
    let there : slice_get nodes v ≡ Some node = slice_get-get_or nodes v c.index-trees-values.result (c.requires.values i 0 c.if-i-values.false) in
    let at_a : slice_get a i ≡ Some (get_or a i d) = slice_get-get_or a i d c.loop-i-test.true in
    let at_v : slice_get c.args.values.now i ≡ Some v = slice_get-get_or c.args.values.now i 0 c.if-i-values.false in
    let at_b : slice_get (ids_of nodes c.args.values.now) i ≡ Some node.ty = ids_at nodes c.args.values.now i v node c.requires.values at_v there in
    let differ : same_type (tree_at trees (get_or a i d).0) (tree_at trees node.ty.0) ≡ false = search rules in
    sym (types_differ trees a (ids_of nodes c.args.values.now) i (get_or a i d) node.ty at_a at_b differ) ∙ c.loop-i.invariant.same

pub loop-i-preserved : goal.loop-i-preserved
loop-i-preserved c =
    let nodes = c.args.trees.now.nodes.now in
    let trees = types_of c.args.trees.now.types.now in
    let a = c.args.parameters.now in
    let i = c.loop-i.i in
    let d : TypeId = record { 0 = 0 } in
    let v = get_or c.args.values.now i 0 in
    let node : Node = get_or nodes v c.index-trees-values.result in
    let there : slice_get nodes v ≡ Some node = slice_get-get_or nodes v c.index-trees-values.result (c.requires.values i 0 c.if-i-values.false) in
    let at_a : slice_get a i ≡ Some (get_or a i d) = slice_get-get_or a i d c.loop-i-test.true in
    let at_v : slice_get c.args.values.now i ≡ Some v = slice_get-get_or c.args.values.now i 0 c.if-i-values.false in
    let at_b : slice_get (ids_of nodes c.args.values.now) i ≡ Some node.ty = ids_at nodes c.args.values.now i v node c.requires.values at_v there in
    let same : same_type (tree_at trees (get_or a i d).0) (tree_at trees node.ty.0) ≡ true = search rules in
    record {
      within = omega (arith, c.if-i-values.false);
      same = types_next trees a (ids_of nodes c.args.values.now) i (get_or a i d) node.ty at_a at_b same ∙ c.loop-i.invariant.same;
    }
