-- One node more is looked at.
use Rattle.std.proofs.Common.{sym, ◌∙◌, ap}
use Rattle.std.proofs.lemmas.Result.{on_ok_weaker}
use Rattle.core_tree.specs.declared.node.Node.{Node}
use Rattle.ref_blocks.specs.Marks.{found_from}
use Rattle.ref_blocks.proofs.Marked.{mark_put, none_put}
use Rattle.ref_blocks.proofs.marks.put_mark.Goals as goal

pub returns-in-Some : goal.returns-in-Some
returns-in-Some c =
    on_ok_weaker c.put_behind.result
    (λ e. e ∙ mark_put c.args.nodes.now c.args.n c.in-Some.m c.index-nodes-n.result c.args.marks.now.items c.requires.node c.index-nodes-n.is (sym c.found_from.ensures ∙ c.in-Some.is) c.requires.marks)
    c.put_behind.ensures

pub returns-in-None : goal.returns-in-None
returns-in-None c = none_put c.args.nodes.now c.args.n c.index-nodes-n.result c.args.marks.now.items c.requires.node c.index-nodes-n.is (sym c.found_from.ensures ∙ c.in-None.is) c.requires.marks
