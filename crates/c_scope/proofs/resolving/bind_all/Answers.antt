use Rattle.std.proofs.Common.{◌≤◌, length, take, sym, ap, subst, ◌∙◌, arith}
use Rattle.std.proofs.lemmas.List.{take_all}
use Rattle.c_scope.specs.Known.{nothing_known}
use Rattle.c_scope.specs.Binding.{Holds, label_at}
use Rattle.c_scope.specs.Happens.{known_with}
use Rattle.c_scope.proofs.Passing.{go, go_more, speaks_within, known_spoken}
use Rattle.c_scope.proofs.resolving.bind_all.Goals as goal

pub take_node-requires : goal.take_node-requires
take_node-requires c = speaks_within c.args.unit c.args.speaking.now c.requires c.loop-node.node-index c.loop-node-test.true

pub loop-node-preserved : goal.loop-node-preserved
loop-node-preserved c = λ all h.
    let f = known_with c.args.unit.file (label_at c.args.labels.now) all in
    let before = go f (take c.loop-node.node-index c.args.speaking.now) nothing_known in
    subst (λ k. Holds c.take_node.new.binder k) (sym (go_more f c.args.speaking.now c.loop-node.node-index nothing_known c.loop-node-test.true)) (c.in_ok-take_node.ensures all h before (c.loop-node.invariant all h))

pub returns : goal.returns
returns c = λ all h.
    let e : length c.args.speaking.now ≤ c.loop-node.node-index = omega arith in
    let f = known_with c.args.unit.file (label_at c.args.labels.now) all in
    subst (λ k. Holds c.loop-node.binder k) (ap (λ l. go f l nothing_known) (take_all c.loop-node.node-index c.args.speaking.now e) ∙ known_spoken c.args.unit c.args.speaking.now c.requires all h (label_at c.args.labels.now) nothing_known) (c.loop-node.invariant all h)
