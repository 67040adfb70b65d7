use Rattle.std.proofs.Common.{arith, ap, ◌≡◌, ◌-◌, ◌<◌, sym, ◌∙◌, Some, None, length, refl}
use Rattle.std.specs.List.{slice_get}
use Rattle.std.proofs.lemmas.Option.{slice_get_read}
use Rattle.core_tree.specs.declared.node.Node.{Node}
use Rattle.row_numbers.proofs.AroundLemmas.{to_end, filled_none, filled_some, below_all}
use Rattle.row_numbers.proofs.around.fill.Goals as goal

pub loop-n-init : goal.loop-n-init
loop-n-init c = to_end c.args.owners.now.items c.args.nodes.now c.requires.each

pub index-requires : goal.index-requires
index-requires c = omega (arith, c.loop-n.invariant.each, c.requires.each)

pub pass_down-requires : goal.pass_down-requires
pass_down-requires c k d lt =
    let at = slice_get_read c.args.nodes.now _ (c.loop-n.n - 1) c.index-nodes-n.result refl (omega arith) c.index-nodes-n.is in
    let e : c.as_slice.result.now ≡ c.index-nodes-n.result.children = c.as_slice.ensures ∙ ap (λ (n : Node). n.children) (sym c.index-nodes-n.is) in
    let first = c.requires.children (c.loop-n.n - 1) c.index-nodes-n.result at k d (rw e at lt) in
    rw e (omega (arith, first, c.loop-n.invariant.each, c.requires.each))

pub loop-n-preserved : goal.loop-n-preserved
loop-n-preserved c =
    let inside : c.loop-n.n - 1 < length c.loop-n.owners.items = omega (arith, c.loop-n.invariant.each, c.requires.each) in
    let none : slice_get c.loop-n.owners.items (c.loop-n.n - 1) ≡ Some None = slice_get_read c.loop-n.owners.items _ (c.loop-n.n - 1) None refl inside (rw c.in_default.is at c.index.ensures) in
    filled_none _ _ _ c.loop-n.n (c.loop-n.n - 1) c.loop-n.invariant (omega arith) none

pub loop-n-preserved-in-Some : goal.loop-n-preserved-in-Some
loop-n-preserved-in-Some c =
    let at = slice_get_read c.args.nodes.now _ (c.loop-n.n - 1) c.index-nodes-n.result refl (omega arith) c.index-nodes-n.is in
    let e : c.as_slice.result.now ≡ c.index-nodes-n.result.children = c.as_slice.ensures ∙ ap (λ (n : Node). n.children) (sym c.index-nodes-n.is) in
    let inside : c.loop-n.n - 1 < length c.loop-n.owners.items = omega (arith, c.loop-n.invariant.each, c.requires.each) in
    let mine : slice_get c.loop-n.owners.items (c.loop-n.n - 1) ≡ Some (Some c.in-Some.owner) = slice_get_read c.loop-n.owners.items _ (c.loop-n.n - 1) (Some c.in-Some.owner) refl inside (rw c.in-Some.is at c.index.ensures) in
    let children = c.requires.children (c.loop-n.n - 1) c.index-nodes-n.result at in
    filled_some _ _ _ c.loop-n.n (c.loop-n.n - 1) c.loop-n.invariant (omega arith) _ c.index-nodes-n.result c.in-Some.owner at mine (λ child (k, h). below_all _ children k child h) (rw e at c.pass_down.ensures)
