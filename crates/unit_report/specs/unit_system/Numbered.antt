-- Units by their numbers.
use Rattle.std.specs.Prelude.{◌≡◌, ℕ, List}
use Rattle.core_tree.specs.declared.node.Unit.{Unit}
use Rattle.unit_link.specs.Needs.{IsNumbered}
use Rattle.c_senses.specs.Tree.{Source}
use Rattle.c_senses.specs.Right.{Right}

abbrev pub RightIsNumbered : Type 0
RightIsNumbered = (s : Source) (name : List ℕ) (x : Unit) (n : ℕ) → s.unit ≡ n → Right s name x → IsNumbered n x
