use Rattle.std.proofs.Common.{get_or}
use Rattle.std.proofs.lemmas.Option.{slice_get-get_or}
use Rattle.std.proofs.lemmas.List.Sorted.{Contains-permutation, IsPermutation-sym}
use Rattle.mod_ref.proofs.Paths.{made_all, made_more, made_none}
use Rattle.mod_ref.proofs.class_edges.class_edges.Goals as goal

pub bounds-first-edges : goal.bounds-first-edges
bounds-first-edges c = (c.requires c.loop-i.i (0, 0) c.loop-i-test.true).0

pub bounds-first-edges-in-loop-i : goal.bounds-first-edges-in-loop-i
bounds-first-edges-in-loop-i c = (c.requires c.loop-i.i (0, 0) c.loop-i-test.true).1

pub loop-i-init : goal.loop-i-init
loop-i-init c = made_none c.args.edges.now c.args.first.now _ c.new-made.ensures.items

pub loop-i-preserved : goal.loop-i-preserved
loop-i-preserved c =
    let edges = c.args.edges.now in
    let first = c.args.first.now in
    let edge = get_or edges c.loop-i.i (0, 0) in
    let pair = c.requires c.loop-i.i (0, 0) c.loop-i-test.true in
    made_more edges first c.loop-i.made.items c.push_apart.new.made.items c.loop-i.i edge _ _ (slice_get-get_or edges c.loop-i.i (0, 0) c.loop-i-test.true) (slice_get-get_or first edge.0 0 pair.0) (slice_get-get_or first edge.1 0 pair.1)
    c.in_ok-push_apart.ensures c.loop-i.invariant

pub returns : goal.returns
returns c =
    let made = c.loop-i.made.items in
    let sorted = c.sort_unstable.new.self.items in
    made_all c.args.edges.now c.args.first.now made sorted c.loop-i.i c.loop-i-test.false c.loop-i.invariant
    (λ pair h. Contains-permutation made sorted pair c.sort_unstable.ensures.permutation h)
    (λ pair h. Contains-permutation sorted made pair (IsPermutation-sym made sorted c.sort_unstable.ensures.permutation) h)
