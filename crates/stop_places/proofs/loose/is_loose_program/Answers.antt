use Rattle.std.proofs.Common.{◌≡◌, ℕ, ◌<◌, List, length, Some, slice_get, refl, sym, ◌∙◌, ap, subst, below_more, arith}
use Rattle.std.proofs.lemmas.Bool.{false≢true}
use Rattle.std.proofs.lemmas.Option.{same_Some, slice_get_read, slice_get_within}
use Rattle.core_tree.specs.declared.node.Node.{Node}
use Rattle.stop_places.specs.Loose.{LooseBy}
use Rattle.stop_places.specs.Sight.{solution_in}
use Rattle.stop_places.proofs.loose.is_loose_program.Goals as goal

pub loop-n-preserved : goal.loop-n-preserved
loop-n-preserved c =
    let x = solution_in c.args.sight.now in
    let items = c.args.sight.now.program.now.nodes.items in
    let n : ℕ = c.loop-n.n in
    let node : Node = c.index-nodes-n.result in
    let listed : slice_get c.as_slice-nodes.result.now n ≡ Some node = slice_get_read c.as_slice-nodes.result.now _ n node refl c.loop-n-test.true c.index-nodes-n.is in
    let there : slice_get items n ≡ Some node = subst (λ (xs : List Node). slice_get xs n ≡ Some node) c.as_slice-nodes.ensures.value listed in
    below_more (λ k. (one : Node) → slice_get items k ≡ Some one → LooseBy x k one.kind one.children → ⊥) n c.loop-n.invariant
    (λ one at h.
    false≢true (sym c.if-makes_loose.false ∙ c.makes_loose.ensures.1 (subst (λ (y : Node). LooseBy x n y.kind y.children) (same_Some one node (sym at ∙ there)) h)))

pub returns : goal.returns
returns c =
    let items = c.args.sight.now.program.now.nodes.items in (
      λ h. absurd (false≢true h),
      λ l. absurd (c.loop-n.invariant l.0
          (let within = slice_get_within items l.0 l.1 l.2 in let same = ap length c.as_slice-nodes.ensures.value in let past = c.loop-n-test.false in omega arith)
          l.1 l.2 l.3),
    )
