use Rattle.std.proofs.Common.{arith, refl, sym, ap, ◌≡◌, ◌∙◌, ◌∷◌, [], ◌++◌, length}
use Rattle.core_tree.specs.declared.node.Unit.{Unit}
use Rattle.core_tree.specs.declared.node.Node.{Node}
use Rattle.c_senses.specs.Given.{Fits}
use Rattle.core_nodes.specs.Standing.{core_at}
use Rattle.core_nodes.proofs.Growing.{same_builds, push_builds, core_pushed, ready_pushed, ready_same}
use Rattle.core_nodes.proofs.trees.push_node.Goals as goal

pub returns-in_err-push-clause-builds : goal.returns-in_err-push-clause-builds
returns-in_err-push-clause-builds c =
    let old = c.args.unit.now in let new : Unit = record old { nodes = c.push.new.self } in same_builds old new refl c.in_err-push.ensures.items refl

pub returns-clause-ready : goal.returns-clause-ready
returns-clause-ready c =
    let old = c.args.unit.now in
    let node : Node = record { kind = c.args.kind; place = c.args.place; ty = c.args.ty; children = c.args.children } in
    ready_same old.types (old.nodes.items ++ node ∷ []) c.push.new.self.items c.in_ok-push.ensures.items (ready_pushed old.types old.nodes.items node c.requires.ready c.requires.ty c.requires.children)

pub returns-clause-builds : goal.returns-clause-builds
returns-clause-builds c =
    let old = c.args.unit.now in
    let new : Unit = record old { nodes = c.push.new.self } in
    let node : Node = record { kind = c.args.kind; place = c.args.place; ty = c.args.ty; children = c.args.children } in
    push_builds old new node refl c.in_ok-push.ensures.items refl

pub returns-clause-made : goal.returns-clause-made
returns-clause-made c =
    let old = c.args.unit.now in
    let new : Unit = record old { nodes = c.push.new.self } in
    let node : Node = record { kind = c.args.kind; place = c.args.place; ty = c.args.ty; children = c.args.children } in
    let long : c.len-i.result ≡ length old.nodes.items = omega (arith, c.len-i.ensures, old.nodes.ok) in
    ap Fits (sym (ap (core_at new) long ∙ core_pushed old new node refl c.in_ok-push.ensures.items))
