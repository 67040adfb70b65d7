-- What tells the parts of a parsed unit apart: their names and their places.
use Rattle.std.specs.Prelude.{ℕ, ◌≡◌, ◌<◌, ◌^◌, true, false, List, Some, length, slice_get}
use Rattle.pta_base.specs.declared.place.Place.{Place}
use Rattle.c_lexer.specs.declared.Tokens.{Tokens}
use Rattle.c_lexer.specs.Cut.{IsTokens}
use Rattle.c_grammar.specs.declared.trees.Tree.{Tree}
use Rattle.c_parser.specs.c_units.Units.{IsUnit}
use Rattle.c_types.specs.declared.term.MemberTerm.{MemberTerm}
use Rattle.c_types.specs.Table.{Table, members_in}
use Rattle.c_types.specs.Made.{IsMade, AreNamed}
use Rattle.core_tree.specs.declared.node.Unit.{Unit}
use Rattle.core_tree.specs.declared.node.Node.{Node}
use Rattle.core_tree.specs.declared.node.Entity.{Entity}
use Rattle.core_tree.specs.declared.node.Linkage.TheVariants.{Internal, Local}
use Rattle.obj_made.specs.Uses.{is_literal}
use Rattle.linked_laws.specs.location_laws.name_shapes.Bytes.{is_unit_byte, is_letter, IsMadeOf, IsWord}
use Rattle.c_senses.specs.Names.{source_of, numbered}
use Rattle.c_senses.specs.Right.{Right}

-- numbers of 32 bits
pub record IsNarrow (place : Place) : Type 0 where
  pub line : place.line < 2 ^ 32
  pub column : place.column < 2 ^ 32

-- an object without linkage that no compound literal makes
pub record IsLocalOf (x : Unit) (e : ℕ) (y : Entity) : Type 0 where
  pub entity : slice_get x.entities.items e ≡ Some y
  pub plain : is_literal x.nodes.items e ≡ false
  pub local : y.linkage ≡ Local

-- two places of one unit
pub record SamePlace (a b : Place) : Type 0 where
  pub line : a.line ≡ b.line
  pub column : a.column ≡ b.column

-- Entities have identifiers as names, but for those of literals, which have none. Those of internal linkage have
-- different names (C11 6.2.2p2), and objects without linkage, literals among them, different places.
pub record HaveOwnNames (x : Unit) : Type 0 where
  pub letters : (e : ℕ) (y : Entity) → slice_get x.entities.items e ≡ Some y → IsMadeOf is_letter y.name
  pub word : (e : ℕ) (y : Entity) → IsLocalOf x e y → IsWord y.name
  pub place : (e : ℕ) (y : Entity) → slice_get x.entities.items e ≡ Some y → IsNarrow y.place
  pub internal : (e f : ℕ) (y z : Entity)
      → slice_get x.entities.items e ≡ Some y
      → slice_get x.entities.items f ≡ Some z
      → y.linkage ≡ Internal
      → z.linkage ≡ Internal
      → y.name ≡ z.name
      → e ≡ f
  pub local : (e f : ℕ) (y z : Entity) → IsLocalOf x e y → IsLocalOf x f z → SamePlace y.place z.place → e ≡ f
  pub literal : (e f : ℕ) (y z : Entity)
      → slice_get x.entities.items e ≡ Some y
      → slice_get x.entities.items f ≡ Some z
      → is_literal x.nodes.items e ≡ true
      → is_literal x.nodes.items f ≡ true
      → SamePlace y.place z.place → e ≡ f

pub record HavePlaces (x : Unit) : Type 0 where
  pub place : (n : ℕ) (node : Node) → slice_get x.nodes.items n ≡ Some node → IsNarrow node.place

-- members of one structure or union have different names, which are identifiers
pub record HaveNames (members : List MemberTerm) : Type 0 where
  pub few : length members < 2 ^ 32
  pub letters : (k : ℕ) (m : MemberTerm) (name : List ℕ)
      → slice_get members k ≡ Some m
      → m.name ≡ Some name
      → IsMadeOf is_letter name
  pub once : (i j : ℕ) (m n : MemberTerm) (name : List ℕ)
      → slice_get members i ≡ Some m
      → slice_get members j ≡ Some n
      → m.name ≡ Some name
      → n.name ≡ Some name
      → i ≡ j

-- a unit whose name has no ':', no '@' and no '*', and whose entities are told apart
pub record HasUnitNames (x : Unit) : Type 0 where
  pub name : IsMadeOf is_unit_byte x.name
  pub entities : HaveOwnNames x
  pub nodes : HavePlaces x
  pub members : (tag : ℕ) (members : List MemberTerm)
      → tag < x.types.tags
      → members_in x.types tag ≡ Some members
      → HaveNames members

-- so is what is right for a parsed unit, whatever the numbers of tags are
abbrev pub UnitsAreNamed : Type 0
UnitsAreNamed =
    (tokens : Tokens) (unit : ℕ) (tree : Tree) (tag_number : ℕ → ℕ) (name : List ℕ) (u : Unit)
    → IsTokens tokens.text.now tokens.list.items
    → IsUnit tokens unit tree
    → Right (numbered tag_number (source_of tokens tree)) name u
    → IsMadeOf is_unit_byte name
    → HasUnitNames u

-- a tag that has members is one of the table's
abbrev pub TagsAreKnown : Type 0
TagsAreKnown =
    (table : Table) (tag : ℕ) (members : List MemberTerm)
    → IsMade table
    → AreNamed table
    → members_in table tag ≡ Some members
    → tag < table.tags
