use Rattle.std.proofs.Common.{◌≡◌, length, drop, refl, sym, ap}
use Rattle.std.proofs.lemmas.List.{take-append-drop, length-take-le}
use Rattle.core_tree.specs.declared.node.Node.{Node}
use Rattle.core_tree.specs.declared.node.Unit.{Unit}
use Rattle.std.proofs.Common.{List, ◌++◌, ◌∙◌}
use Rattle.core_nodes.proofs.Growing.{same_builds}
use Rattle.core_nodes.proofs.kept_nodes.Trees.{keeps_before}
use Rattle.core_nodes.proofs.kept_nodes.keeping.cut_back.Goals as goal

pub returns-clause-keeps : goal.returns-clause-keeps
returns-clause-keeps c =
    let u0 = c.args.unit.now in
    let u1 : Unit = record u0 { nodes = c.truncate.new.self } in
    let cut = drop c.args.from u0.nodes.items in
    let left : c.args.from ≡ length u1.nodes.items = sym (ap length c.truncate.ensures.items ∙ length-take-le c.args.from u0.nodes.items c.requires.from) in
    keeps_before u0 u1 u1 cut c.args.from refl refl (ap (λ (l : List Node). l ++ cut) c.truncate.ensures.items ∙ take-append-drop c.args.from u0.nodes.items) left (same_builds u1 u1 refl refl refl)
