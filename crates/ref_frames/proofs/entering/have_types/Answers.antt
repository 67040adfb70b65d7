use Rattle.std.proofs.Common.{arith, ◌≡◌, ℕ, ◌<◌, length, Some, nat_eq, slice_get, get_or, ap, sym, ◌∙◌}
use Rattle.std.proofs.lemmas.Option.{slice_get-get_or}
use Rattle.c_types.specs.Table.{types_of}
use Rattle.core_tree.specs.Seen.{core_of}
use Rattle.ref_frames.proofs.ListedTypes.{list_shorter, typed_end}
use Rattle.ref_frames.proofs.entering.have_types.Goals as goal

pub returns-then-k-list : goal.returns-then-k-list
returns-then-k-list c =
    let ps = c.args.parameters.now in
    let k = c.loop-k.k in
    let lt : k < length ps = c.loop-k-test.true in
    let at : slice_get ps k ≡ Some (get_or ps k 0) = slice_get-get_or ps k 0 lt in
    sym (list_shorter (core_of c.args.trees.now) (types_of c.args.trees.now.types.now) ps c.args.list.now k (get_or ps k 0) at c.if-k-list.true)
    ∙ c.loop-k.invariant.same

pub returns : goal.returns
returns c =
    let ps = c.args.parameters.now in
    let k = c.loop-k.k in
    let past : length ps ≡ k = omega (arith, c.loop-k-test.false, c.loop-k.auto.k-end) in
    ap (λ (n : ℕ). nat_eq n (length c.args.list.now)) past
    ∙ (typed_end (core_of c.args.trees.now) (types_of c.args.trees.now.types.now) ps c.args.list.now k past c.loop-k.invariant.within
    ∙ c.loop-k.invariant.same)
