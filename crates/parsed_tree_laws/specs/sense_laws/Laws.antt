-- What a unit's nodes are where their trees are sound.
use Rattle.std.specs.Prelude.{pos, ℕ, ◌≡◌, ◌<◌, Bool, true, ◌||◌, take, length, List, Option, Some, slice_get}
use Rattle.c_types.specs.Trees.{Ctype}
use Rattle.c_conversions.specs.passed.core_tree.declared.node.Node.{Node}
use Rattle.c_conversions.specs.passed.core_tree.declared.node.Unit.{Unit}
use Rattle.c_conversions.specs.passed.core_tree.Typed.{Holds, trees_of}
use Rattle.c_conversions.specs.passed.core_tree.Rows.{RowOf, entity_type}
use Rattle.c_conversions.specs.passed.core_tree.Valid.{InRow, Under, entity_at}
use Rattle.pta_base.specs.declared.place.Place.{Place}
use Rattle.c_senses.specs.passed.c_consts.Core.{Core, ctype_of}
use Rattle.c_types.specs.Table.{type_of}
use Rattle.c_senses.specs.passed.c_consts.Nodes.{AreRows, IsConstantKind, bare}
use Rattle.c_conversions.specs.passed.core_tree.Typed.{IsInteger}
use Rattle.c_types.specs.Layout.{Extent}
use Rattle.c_senses.specs.passed.c_inits.Made.{Part}
use Rattle.c_senses.specs.World.{World, Meaning, extent}
use Rattle.c_senses.specs.Literals.{unsigned_long}
use Rattle.c_conversions.specs.passed.core_nodes.Standing.{IsReady, Knows, core_at}
use Rattle.c_grammar.specs.Productions.{p_statement, p_block, p_declaration}
use Rattle.c_senses.specs.Tree.{Source, is_a, children_at, production_at}
use Rattle.c_senses.specs.Statements.{objects_declared, block_row, statement_row}
use Rattle.c_senses.specs.Sense.{Sense, sense_in}
use Rattle.c_senses.specs.passed.c_inits.Made.{shape_for}
use Rattle.c_senses.specs.passed.c_inits.View as view
use Rattle.c_senses.specs.Entities.{entity_of}
use Rattle.c_senses.specs.Initialised.{most_elements, seen, outcome_of, object_initialiser, opening, brace, braced}
use Rattle.c_senses.specs.Initialised.{literal_of}
use Rattle.c_senses.specs.Conversions.{value_of, promotion, conversion}
use Rattle.c_senses.specs.Operators.{between, operator, choice_row}
use Rattle.c_senses.specs.Expressions.{expression_row}
use Rattle.parsed_tree_laws.specs.sense_laws.Sound.{Sound, SoundValue, SoundOf, SoundWorld, IsProper, MeaningFits, Gives}
use Rattle.parsed_tree_laws.specs.sense_laws.Sound.{FurtherIsVariadic}
use Rattle.parsed_tree_laws.specs.sense_laws.Senses.{SoundSense, ChildrenFirst, ConstantsFit, StatementParts, StatementGrammar}
use Rattle.parsed_tree_laws.specs.sense_laws.Senses.{RunsIn, IsStatementSense, OutcomeFits, InitialisersFit}
use Rattle.c_senses.specs.Rows.{AreSenses, world_at, row_of}

-- a unit's types and entities are what a world says of them
pub record Backs (w : World) (entities : ℕ → Option Ctype) (u : Unit) : Type 0 where
  pub knows : Knows w u
  pub typed : (e : ℕ) → entity_type (trees_of u) (entity_at (trees_of u) e) ≡ entities e

-- the nodes under one whose tree is sound stand in their rows
abbrev pub SoundStands : Type 0
SoundStands =
    (w : World) (entities : ℕ → Option Ctype) (u : Unit) → IsReady u → Backs w entities u
    → (i j : ℕ) (n m : Node)
    → slice_get u.nodes.items i ≡ Some n
    → Sound w entities (core_at u i)
    → Under (trees_of u) i j
    → slice_get u.nodes.items j ≡ Some m
    → InRow (trees_of u) m

-- where all trees are sound, nodes of constants stand in their rows, whatever the entities are
abbrev pub SoundRows : Type 0
SoundRows =
    (w : World) (entities : ℕ → Option Ctype) (u : Unit) → IsReady u
    → ((i : ℕ) → i < length u.nodes.items → Sound w entities (core_at u i)) → AreRows u.types u.nodes.items

-- the nodes of constants under one whose tree is sound stand in their rows, whatever the other nodes, the members
-- and the entities are
abbrev pub SoundRowsUnder : Type 0
SoundRowsUnder =
    (w : World) (entities : ℕ → Option Ctype) (u : Unit)
    → IsReady u
    → (i j : ℕ) (m : Node)
    → Sound w entities (core_at u i)
    → Under (trees_of u) i j
    → slice_get u.nodes.items j ≡ Some m
    → IsConstantKind m.kind
    → RowOf (bare u.types u.nodes.items) m.kind (type_of u.types m.ty.0) m.children

-- 6.3: the value of a sound tree, an integer promoted, and a value converted to a proper type, are sound
pub record ConversionsSound : Type 0 where
  pub values : (w : World) (entities : ℕ → Option Ctype) (at : ℕ) (c : Core)
      → Sound w entities c
      → Gives (SoundValue w entities) (value_of w at c)
  pub promotions : (w : World) (entities : ℕ → Option Ctype) (v : Core)
      → SoundValue w entities v
      → IsInteger (ctype_of v)
      → SoundValue w entities (promotion w v)
  pub conversions : (w : World) (entities : ℕ → Option Ctype) (cast : Bool) (at : ℕ) (v : Core) (t : Ctype)
      → SoundWorld w entities
      → SoundValue w entities v
      → IsProper t
      → Gives (SoundOf w entities t) (conversion w cast at v t)

-- 6.5.5 to 6.5.15, 6.5.17: operators over sound values are sound
pub record OperatorsSound : Type 0 where
  pub between : (w : World) (entities : ℕ → Option Ctype) (sign : ℕ) (place : Place) (at : ℕ) (a b : Core)
      → SoundValue w entities a
      → SoundValue w entities b
      → Gives (SoundValue w entities) (between w (operator sign) place at a b)
  pub choices : (w : World) (entities : ℕ → Option Ctype) (place : Place) (at : ℕ) (c a b : Core)
      → SoundValue w entities c
      → SoundValue w entities a
      → SoundValue w entities b
      → Gives (SoundValue w entities) (choice_row w place at c a b)

-- 6.5: the row of an expression over sound senses gives a sound one
abbrev pub ExpressionsSound : Type 0
ExpressionsSound =
    (w : World) (entities : ℕ → Option Ctype) (s : Source) (sense : ℕ → Sense)
    → SoundWorld w entities
    → ConstantsFit s
    → ((i : ℕ) → SoundSense w entities (sense i))
    → (production at : ℕ) (children : List ℕ)
    → Gives (SoundSense w entities) (expression_row w s sense production at children)

-- 6.8: the row of a statement or a block over sound senses gives a sound statement
pub record StatementsSound : Type 0 where
  pub statements : (w : World) (entities : ℕ → Option Ctype) (s : Source) (sense : ℕ → Sense)
      → SoundWorld w entities
      → ((i : ℕ) → SoundSense w entities (sense i))
      → StatementParts w s sense
      → (at : ℕ)
      → is_a s p_statement at ≡ true
      → Gives (λ x. SoundSense w entities x × IsStatementSense x)
      (statement_row w s sense at (children_at s at))
  pub blocks : (w : World) (entities : ℕ → Option Ctype) (s : Source) (sense : ℕ → Sense)
      → SoundWorld w entities
      → ((i : ℕ) → SoundSense w entities (sense i))
      → StatementParts w s sense
      → (at : ℕ)
      → is_a s p_block at ≡ true
      → Gives (λ x. SoundSense w entities x × IsStatementSense x)
      (block_row w s sense at (children_at s at))

-- 6.5.2.5, 6.7.9: the initialiser of an object, and a compound literal, over sound senses are sound, where each
-- value fits in the object
pub record InitialisersSound : Type 0 where
  pub objects : (w : World) (entities : ℕ → Option Ctype) (s : Source) (sense : ℕ → Sense)
      → SoundWorld w entities
      → ((i : ℕ) → SoundSense w entities (sense i))
      → (at declarator leaf : ℕ) (t : Ctype)
      → Gives (OutcomeFits w entities s sense (entity_of s sense leaf) t)
      (outcome_of w s sense at (shape_for w.fillable most_elements t)
      (view.init_at (seen w s sense) s.nodes at))
      → Gives (SoundSense w entities) (object_initialiser w s sense at declarator leaf t)
  pub literals : (w : World) (entities : ℕ → Option Ctype) (s : Source) (sense : ℕ → Sense)
      → SoundWorld w entities
      → ((i : ℕ) → SoundSense w entities (sense i))
      → (at p : ℕ) (t : Ctype)
      → IsProper t
      → Gives (OutcomeFits w entities s sense (opening w s sense p) t)
      (outcome_of w s sense (brace w s sense p) (shape_for w.fillable most_elements t)
      (braced w s sense (brace w s sense p) (view.items_at (seen w s sense) s.nodes at)))
      → Gives (Sound w entities) (literal_of w s sense at p t)

-- the row of any node over sound senses gives a sound sense
abbrev pub RowsSound : Type 0
RowsSound =
    (w : World) (entities : ℕ → Option Ctype) (s : Source) (sense : ℕ → Sense)
    → SoundWorld w entities
    → ((i : ℕ) → SoundSense w entities (sense i))
    → ConstantsFit s → StatementParts w s sense → InitialisersFit w entities s sense
    → (i : ℕ) → Gives (SoundSense w entities) (row_of w s sense (production_at s i) i (children_at s i))

-- a world that has all members and extents of another, and maybe more
pub record Grows (old new : World) : Type 0 where
  pub members : (tag : ℕ) (parts : List Part) → old.members tag ≡ Some parts → new.members tag ≡ Some parts
  pub extents : (t : Ctype) (e : Extent) → extent old t ≡ Some e → extent new t ≡ Some e

-- what is sound stays so while more structures and unions are completed
abbrev pub SoundKept : Type 0
SoundKept =
    (old new : World) (entities : ℕ → Option Ctype) (c : Core)
    → Grows old new
    → Sound old entities c
    → Sound new entities c

-- what is known where each row is asked: that a name's type agrees with its entity's, that a function whose last
-- parameter is known is variadic, alignments, that what a declaration runs initialises its objects, and that
-- initialisers fit
pub record SensesFit (entities : ℕ → Option Ctype) (s : Source) (senses : List Sense) : Type 0 where
  pub names : (i : ℕ)
      → i < length senses
      → (leaf : ℕ) (m : Meaning)
      → (world_at s (take i senses) i).meaning leaf ≡ Some m
      → MeaningFits entities m
  pub further : (i : ℕ) → i < length senses → FurtherIsVariadic (world_at s (take i senses) i) entities
  pub aligns : (i : ℕ)
      → i < length senses
      → (t : Ctype) (e : Extent)
      → IsProper t
      → extent (world_at s (take i senses) i) t ≡ Some e
      → Holds unsigned_long (pos e.align)
  pub runs : (i : ℕ)
      → i < length senses
      → (d : ℕ)
      → is_a s p_declaration d ≡ true
      → RunsIn (objects_declared (world_at s (take i senses) i) s (sense_in (take i senses)) d)
      (sense_in (take i senses) d)
  pub initials : (i : ℕ)
      → i < length senses
      → InitialisersFit (world_at s (take i senses) i) entities s (sense_in (take i senses))

-- all senses of a tree are sound in the world at its end, and those of statements and blocks are statements
abbrev pub SensesSound : Type 0
SensesSound =
    (entities : ℕ → Option Ctype) (s : Source) (senses : List Sense)
    → AreSenses s senses
    → ChildrenFirst s
    → ConstantsFit s
    → StatementGrammar s
    → SensesFit entities s senses
    → (i : ℕ)
    → SoundSense (world_at s senses (length senses)) entities (sense_in senses i)
    × ((is_a s p_statement i || is_a s p_block i) ≡ true → IsStatementSense (sense_in senses i))
