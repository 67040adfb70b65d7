-- What functions give.
use Rattle.std.specs.Prelude.{◌≡◌, ℕ, [], ◌∷◌, Some}
use Rattle.c_types.specs.Table.{type_of}
use Rattle.type_rules.specs.Conversions.{result_of}
use Rattle.core_tree.specs.declared.node.Entity.{Entity}
use Rattle.core_tree.specs.declared.node.Node.{Node}
use Rattle.core_tree.specs.declared.node.NodeKind.TheVariants.{Return}
use Rattle.core_tree.specs.declared.node.Program.{Program}
use Rattle.core_tree.specs.declared.node.Storage.TheVariants.{FunctionBody}
use Rattle.core_tree.specs.Typed.{IsValue, trees_in}
use Rattle.core_tree.specs.Range.{EachEntity, node_at, entity_at}
use Rattle.core_tree.specs.Valid.{IsAround, ValidProgram}
use Rattle.covering_laws.specs.covered_types.Whole.{IsHeld}

-- what a function with a body gives is of a type that a value may have, and so is each value that is returned in it
pub record HasResults (p : Program) : Type 0 where
  pub given : EachEntity (trees_in p)
      (λ f function. function.storage ≡ FunctionBody → IsHeld p.types (result_of (type_of p.types function.ty.0)))
  pub returned : (n : ℕ) (node : Node) (v f : ℕ) (function : Entity)
      → node_at (trees_in p) n ≡ Some node
      → node.kind ≡ Return
      → node.children ≡ v ∷ []
      → entity_at (trees_in p) f ≡ Some function
      → IsAround (trees_in p) n function
      → IsValue (trees_in p) v (result_of (type_of p.types function.ty.0))

abbrev pub ReturnsHeld : Type 0
ReturnsHeld = (p : Program) → ValidProgram p → HasResults p
