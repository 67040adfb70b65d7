-- The units of places.
use Rattle.std.specs.Prelude.{ℕ, ◌≡◌, ⊤, List}
use Rattle.core_tree.specs.declared.node.Unit.{Unit}
use Rattle.core_tree.specs.Typed.{trees_of}
use Rattle.core_tree.specs.Range.{EachNode, EachEntity}
use Rattle.c_consts.specs.Core.{Core, Cores, Of, NoCores, MoreCores}
use Rattle.c_senses.specs.Tree.{Source}
use Rattle.c_senses.specs.Right.{Right}

-- each place of a tree is of that unit
abbrev mutual
  pub OfUnit : ℕ → Core → Type 0
  OfUnit unit (Of kind place type under) = (place.unit ≡ unit) × AllOfUnit unit under

  pub AllOfUnit : ℕ → Cores → Type 0
  AllOfUnit unit NoCores = ⊤
  AllOfUnit unit (MoreCores c rest) = OfUnit unit c × AllOfUnit unit rest

-- each node and entity of a unit, and its place, is of that number
pub record AreOfUnit (unit : ℕ) (u : Unit) : Type 0 where
  pub nodes : EachNode (trees_of u) (λ i node. node.place.unit ≡ unit)
  pub entities : EachEntity (trees_of u) (λ e entity. (entity.unit ≡ unit) × (entity.place.unit ≡ unit))

abbrev pub NumberedRight : Type 0
NumberedRight = (s : Source) (name : List ℕ) (u : Unit) → Right s name u → AreOfUnit s.unit u
