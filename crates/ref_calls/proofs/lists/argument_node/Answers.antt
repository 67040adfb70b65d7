use Rattle.std.proofs.Common.{arith, ◌≡◌, ◌∙◌, ◌<◌, ℕ, zero, suc, ◌+◌, List, [], ◌∷◌, Option, None, Some, IfSome, All, length, map, reverse, drop, slice_get, refl, sym, ap, subst}
use Rattle.std.proofs.lemmas.List.{length-map}
use Rattle.std.proofs.lemmas.List.Elements.{All-head, All-tail}
use Rattle.std.proofs.lemmas.Option.{slice_get-get_or, slice_get_within}
use Rattle.c_types.specs.declared.key.ObjectKey.TheVariants.{Entity as EntityKey}
use Rattle.core_tree.specs.declared.node.Node.{Node}
use Rattle.core_tree.specs.declared.node.Entity.{Entity}
use Rattle.core_tree.specs.Range.{InRange}
use Rattle.core_tree.specs.Typed.{CoreTrees}
use Rattle.core_tree.specs.Seen.{core_of}
use Rattle.obj_space.specs.View.{view_of}
use Rattle.row_numbers.specs.Functions.{parameters_of}
use Rattle.ref_state.specs.declared.frames.Frame.{Frame}
use Rattle.ref_frames.specs.Made.{AreParameters, seen}
use Rattle.ref_frames.specs.Running.{Running}
use Rattle.ref_calls.specs.Lists.{call_over, child_of, call_child, node_of, argument_node}
use Rattle.ref_calls.proofs.lists.argument_node.Goals as goal

there : {X : Type 0} (xs : List X) (e : ℕ) → e < length xs → (x : X) × (slice_get xs e ≡ Some x)
there [] e lt = absurd (omega (arith, lt))
there (x ∷ xs) zero lt = (x, refl)
there (x ∷ xs) (suc e) lt = there xs e (omega (arith, lt))

-- the k-th child behind as many as a function has parameters
module _ (w : Running) (lists : List (List ℕ)) (are : AreParameters w.trees (view_of w.space) lists) (e : ℕ) (list : List ℕ) (at : slice_get lists e ≡ Some list) where
  by_entity : (frames items : List Frame) (i k : ℕ) → reverse items ≡ frames
      → call_child w.trees.nodes (call_over i (reverse items)) (length list + 1) k ≡ node_of w frames i k e (slice_get w.trees.entities e)
  by_entity frames items i k view =
      let found : (x : Entity) × (slice_get w.trees.entities e ≡ Some x) = there w.trees.entities e (omega (arith, slice_get_within lists e list at, are.many)) in
      let count : length list ≡ length (parameters_of w.trees (view_of w.space) e) = sym (length-map list EntityKey) ∙ ap length (are.each e list at) in
      ap (λ (n : ℕ). call_child w.trees.nodes (call_over i (reverse items)) (n + 1) k) count
      ∙ (ap (λ (fs : List Frame). call_child w.trees.nodes (call_over i fs) (length (parameters_of w.trees (view_of w.space) e) + 1) k) view
      ∙ ap (node_of w frames i k e) (sym found.1))

child_known : (cs : List ℕ) (first k n m : ℕ) → All (λ (c : ℕ). c < n) cs → n < m → IfSome (slice_get (drop first cs) k) (λ v. v < m)
child_known [] zero k n m all lt = tt
child_known [] (suc f) k n m all lt = tt
child_known (x ∷ xs) zero zero n m all lt = omega (arith, All-head (λ (c : ℕ). c < n) x xs all, lt)
child_known (x ∷ xs) zero (suc k) n m all lt = child_known xs zero k n m (All-tail (λ (c : ℕ). c < n) x xs all) lt
child_known (x ∷ xs) (suc f) k n m all lt = child_known xs f k n m (All-tail (λ (c : ℕ). c < n) x xs all) lt

of_node : (u : CoreTrees) → InRange u → (n first k : ℕ) (o : Option Node) → slice_get u.nodes n ≡ o → IfSome (child_of o first k) (λ v. v < length u.nodes)
of_node u range n first k None is = tt
of_node u range n first k (Some node) is =
    child_known node.children first k n (length u.nodes) (range.children n node is) (slice_get_within u.nodes n node is)

of_call : (u : CoreTrees) → InRange u → (call : Option ℕ) (first k : ℕ) → IfSome (call_child u.nodes call first k) (λ v. v < length u.nodes)
of_call u range None first k = tt
of_call u range (Some n) first k = of_node u range n first k (slice_get u.nodes n) refl

pub returns-in_ok-parameters-in-Varargs-clause-value : goal.returns-in_ok-parameters-in-Varargs-clause-value
returns-in_ok-parameters-in-Varargs-clause-value c =
    let w = seen c.args.running.now in
    let nodes = c.args.running.now.trees.nodes.now in
    let e = c.in-Varargs.e in
    let i = c.args.i in
    let k = c.args.k in
    let items = c.as_slice.result.now in
    let lists = c.args.running.now.parameters.now in
    let list = c.in_ok-parameters-in-Varargs.parameters.now in
    let at : slice_get lists e ≡ Some list =
    slice_get-get_or lists e list c.in_ok-parameters-in-Varargs.ensures.lookup.3.0
    ∙ ap (λ (xs : List ℕ). Some xs) (sym c.in_ok-parameters-in-Varargs.ensures.lookup.1) in
    let view : reverse items ≡ c.args.frames.now = ap reverse c.as_slice.ensures.value ∙ c.frames.view_is in
    c.call_child.ensures
    ∙ (ap (λ (o : Option ℕ). call_child nodes o (length c.as_slice-in-Varargs.result.now + 1) k) c.call_over-call.ensures
    ∙ (ap (λ (xs : List ℕ). call_child nodes (call_over i (reverse items)) (length xs + 1) k) c.as_slice-in-Varargs.ensures
    ∙ (by_entity w lists c.requires.running.parameters e list at c.args.frames.now items i k view
    ∙ ap (argument_node w c.args.frames.now i k) (sym c.in-Varargs.is))))

pub returns-in_ok-parameters-in-Varargs-clause-known : goal.returns-in_ok-parameters-in-Varargs-clause-known
returns-in_ok-parameters-in-Varargs-clause-known c =
    let u = core_of c.args.running.now.trees in
    let o = c.call_over-call.result in
    let first = length c.as_slice-in-Varargs.result.now + 1 in
    subst (λ (r : Option ℕ). IfSome r (λ v. v < length u.nodes)) (sym c.call_child.ensures) (of_call u c.requires.running.range o first c.args.k)
