-- The places of what makes objects, in units and in programs.
use Rattle.std.specs.Prelude.{ℕ, ◌≡◌, List, Some, slice_get}
use Rattle.c_lexer.specs.declared.Tokens.{Tokens}
use Rattle.c_lexer.specs.Cut.{IsTokens}
use Rattle.c_grammar.specs.declared.trees.Tree.{Tree}
use Rattle.c_parser.specs.c_units.Units.{IsUnit}
use Rattle.core_tree.specs.declared.node.Unit.{Unit}
use Rattle.core_tree.specs.declared.node.Program.{Program}
use Rattle.core_tree.specs.declared.node.Node.{Node}
use Rattle.core_tree.specs.declared.node.Entity.{Entity}
use Rattle.c_senses.specs.Names.{source_of, numbered}
use Rattle.c_senses.specs.Right.{Right}
use Rattle.unit_link.specs.Linked.{LinkedAt}
use Rattle.unit_link.specs.Needs.{AreLinkable}
use Rattle.twin_report_laws.specs.orders.Order.{MayMake, MadeApart}

-- no two entities of a unit stand at one place, and no two nodes that may make an object
pub record UnitApart (u : Unit) : Type 0 where
  pub entities : (e f : ℕ) (y z : Entity)
      → slice_get u.entities.items e ≡ Some y
      → slice_get u.entities.items f ≡ Some z
      → y.place.line ≡ z.place.line → y.place.column ≡ z.place.column → e ≡ f
  pub nodes : (n m : ℕ) (a b : Node)
      → slice_get u.nodes.items n ≡ Some a
      → slice_get u.nodes.items m ≡ Some b
      → MayMake a.kind
      → MayMake b.kind
      → a.place.line ≡ b.place.line → a.place.column ≡ b.place.column → n ≡ m

-- so it is in each unit that is right for a text that is cut and read
abbrev pub RightApart : Type 0
RightApart =
    (tokens : Tokens) (unit : ℕ) (tree : Tree) (tag_number : ℕ → ℕ) (name : List ℕ) (u : Unit)
    → IsTokens tokens.text.now tokens.list.items
    → IsUnit tokens unit tree → Right (numbered tag_number (source_of tokens tree)) name u → UnitApart u

abbrev pub AreUnitsApart : List Unit → Type 0
AreUnitsApart units = (k : ℕ) (u : Unit) → slice_get units k ≡ Some u → UnitApart u

-- and in a program that is linked from such units
abbrev pub LinkedApart : Type 0
LinkedApart = (entered : List (List ℕ)) (units : List Unit) (p : Program)
    → AreLinkable units
    → AreUnitsApart units
    → LinkedAt entered units p
    → MadeApart p
