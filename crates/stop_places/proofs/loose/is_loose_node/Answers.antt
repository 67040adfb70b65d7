use Rattle.std.proofs.Common.{◌↔◌, ℕ, IsTrue, List, Contains, refl, subst}
use Rattle.std.proofs.lemmas.Option.{slice_get_read}
use Rattle.core_tree.specs.Typed.{trees_in}
use Rattle.stop_places.specs.Loose.{HasLooseType}
use Rattle.stop_places.proofs.Loosening.{loose_node_is}
use Rattle.stop_places.proofs.loose.is_loose_node.Goals as goal

pub returns-else-has_loose_type : goal.returns-else-has_loose_type
returns-else-has_loose_type c =
    let u = trees_in c.args.sight.now.program.now in
    let at = slice_get_read c.args.sight.now.program.now.nodes.items _ c.args.n c.index.result.now refl c.requires.node c.index.ensures in
    loose_node_is u c.args.n c.index.result.now c.has_loose_type.result c.any_loose_type.result at c.has_loose_type.ensures c.if-has_loose_type.false
    (subst (λ (xs : List ℕ). IsTrue c.any_loose_type.result ↔ ((k : ℕ) × Contains xs k × HasLooseType u k)) c.as_slice.ensures c.any_loose_type.ensures)
