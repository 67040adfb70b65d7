-- Nodes that stay, one after another.
use Rattle.std.proofs.Common.{◌≡◌, List, [], ◌∷◌, refl}
use Rattle.core_tree.specs.declared.node.Node.{Node}
use Rattle.unit_finish.specs.unit_parts.Numbered.{staying}

pub staying_none : (nodes : List Node) → staying nodes [] ≡ []
staying_none [] = refl
staying_none (x ∷ nodes) = refl
