-- What is declared, in a unit, and by which leaf.
use Rattle.std.specs.Prelude.{◌<◌, length, IfSome}
use Rattle.core_tree.specs.declared.node.Unit.{Unit}
use Rattle.unit_finish.specs.declared.unit_parts.declared.Declared.{Declared}

-- its type and its body are the unit's
pub record IsDeclaredIn (u : Unit) (x : Declared) : Type 0 where
  pub ty : x.ty.0 < length u.types.terms
  pub body : IfSome x.body (λ b. b < length u.nodes.items)
