-- What a built unit's keys, uses and numbers are.
use Rattle.std.specs.Prelude.{ℕ, List}
use Rattle.core_tree.specs.declared.node.Unit.{Unit}
use Rattle.core_tree.specs.Typed.{trees_of}
use Rattle.core_tree.specs.Range.{InRange}
use Rattle.core_tree.specs.Valid.{Keyed, UsesRight}
use Rattle.c_senses.specs.Tree.{Source}
use Rattle.core_node_laws.specs.built_unit_laws.built_units.Built.{IsBuilt}

abbrev pub KeysAreRight : Type 0
KeysAreRight = (s : Source) (name : List ℕ) (u : Unit) → IsBuilt s name u → Keyed u.types.tags u.tags.items

abbrev pub UsesAreRight : Type 0
UsesAreRight = (s : Source) (name : List ℕ) (u : Unit) → IsBuilt s name u → UsesRight (trees_of u)

abbrev pub AreInRange : Type 0
AreInRange = (s : Source) (name : List ℕ) (u : Unit) → IsBuilt s name u → InRange (trees_of u)
