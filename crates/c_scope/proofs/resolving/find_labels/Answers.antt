use Rattle.std.proofs.Common.{◌≤◌, None, length, get_or, sym, ap, ◌∙◌, arith}
use Rattle.std.proofs.lemmas.List.{take_all}
use Rattle.c_scope.specs.Happens.{label_with}
use Rattle.c_scope.proofs.Passing.{go, go_more, speaks_within, labels_spoken}
use Rattle.c_scope.proofs.resolving.find_labels.Goals as goal

pub note_node-requires : goal.note_node-requires
note_node-requires c = speaks_within c.args.unit c.args.speaking.now c.requires c.loop-node.node-index c.loop-node-test.true

pub loop-node-preserved : goal.loop-node-preserved
loop-node-preserved c = λ all h body symbol.
    let f = label_with all body symbol in
    c.in_ok-note_node.ensures all h body symbol
    ∙ (ap (f (get_or c.args.speaking.now c.loop-node.node-index 0)) (c.loop-node.invariant all h body symbol) ∙ sym (go_more f c.args.speaking.now c.loop-node.node-index None c.loop-node-test.true))

pub returns : goal.returns
returns c = λ all h body symbol.
    let e : length c.args.speaking.now ≤ c.loop-node.node-index = omega arith in
    c.loop-node.invariant all h body symbol
    ∙ (ap (λ l. go (label_with all body symbol) l None) (take_all c.loop-node.node-index c.args.speaking.now e) ∙ labels_spoken c.args.unit c.args.speaking.now c.requires all h body symbol)
