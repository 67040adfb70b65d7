-- What the row of a node asks of the declarations before it: of the name that a primary begins with, of the last
-- parameter of a variadic function, and of an initialiser's own object.
use Rattle.std.specs.Prelude.{ℕ, pos, ◌≡◌, ◌<◌, ⊤, true, ◌||◌, take, length, List, [], ◌∷◌, Option, Some, is_some}
use Rattle.c_types.specs.Trees.{Ctype}
use Rattle.c_types.specs.Layout.{Extent}
use Rattle.c_conversions.specs.passed.core_tree.Typed.{IsInteger, Holds}
use Rattle.c_grammar.specs.Productions.{p_rest, p_declaration, p_type_name, p_init, p_items, p_cast, p_unary}
use Rattle.c_grammar.specs.Productions.{p_primary, p_statement, p_block}
use Rattle.c_senses.specs.passed.c_inits.Made.{shape_for}
use Rattle.c_senses.specs.passed.c_inits.Initial.{Placed, Outcome, Places, NoPlace, lasting}
use Rattle.c_senses.specs.passed.c_inits.View as view
use Rattle.c_senses.specs.Tree.{Source, is_a, children_at, child_of, parent_of}
use Rattle.c_senses.specs.World.{World, Meaning, extent}
use Rattle.c_senses.specs.Literals.{unsigned_long}
use Rattle.c_senses.specs.Entities.{with_length, length_seen, entity_of, specified_of, derived_type}
use Rattle.c_senses.specs.Entities.{initialised_by}
use Rattle.c_senses.specs.Initialised.{type_along, new_length, most_elements, seen, outcome_of, opening, brace}
use Rattle.c_senses.specs.Initialised.{braced, name_of_declarator}
use Rattle.c_senses.specs.Statements.{objects_declared}
use Rattle.c_senses.specs.Sense.{Sense, IsType, sense_in}
use Rattle.c_senses.specs.Rows.{AreSenses, world_at}
use Rattle.parsed_tree_laws.specs.sense_laws.Sound.{IsProper, MeaningFits, FurtherIsVariadic, type_down, Gives}
use Rattle.parsed_tree_laws.specs.sense_laws.Senses.{SoundSense, ChildrenFirst, ConstantsFit, StatementGrammar, IsStatementSense}
use Rattle.parsed_tree_laws.specs.sense_laws.Senses.{RunsIn, OutcomeFits}

-- what a node's first part means, where it is a name: the type of its entity agrees with its own
abbrev pub FirstFits : World → (ℕ → Option Ctype) → List ℕ → Type 0
FirstFits w entities [] = ⊤
FirstFits w entities (first ∷ rest) = (m : Meaning) → w.meaning first ≡ Some m → MeaningFits entities m

-- all that a primary asks
abbrev pub PrimaryFits : World → (ℕ → Option Ctype) → List ℕ → Type 0
PrimaryFits w entities children = FirstFits w entities children × FurtherIsVariadic w entities

-- what is asked of node i where it is the initialiser of an object, with the declarator, the name and the type of
-- that object, which has the length that is seen of its name, and where it is the list of a compound literal, with
-- the type of that
pub record InitialAsks (asks : ℕ → Ctype → Outcome → Type 0) (w : World) (s : Source) (sense : ℕ → Sense)
    (i : ℕ) : Type 0 where
  pub objects : (p declarator leaf : ℕ) (t : Ctype)
      → is_a s p_init i ≡ true
      → parent_of s i ≡ Some p
      → is_a s p_rest p ≡ true
      → initialised_by s sense i ≡ Some declarator
      → name_of_declarator w s sense (sense declarator) ≡ Some leaf
      → derived_type s sense (specified_of s sense leaf) (Some declarator) ≡ Some t
      → Gives (asks (entity_of s sense leaf) (with_length (length_seen s sense leaf) t))
      (outcome_of w s sense i (shape_for w.fillable most_elements (with_length (length_seen s sense leaf) t))
      (view.init_at (seen w s sense) s.nodes i))
  pub literals : (p name : ℕ) (t : Ctype)
      → is_a s p_items i ≡ true
      → parent_of s i ≡ Some p
      → (is_a s p_cast p || is_a s p_unary p) ≡ true
      → child_of s p_type_name p ≡ Some name
      → sense name ≡ IsType t
      → Gives (asks (opening w s sense p) t)
      (outcome_of w s sense (brace w s sense p) (shape_for w.fillable most_elements t)
      (braced w s sense (brace w s sense p) (view.items_at (seen w s sense) s.nodes i)))

abbrev pub InitialFits : World → (ℕ → Option Ctype) → Source → (ℕ → Sense) → ℕ → Type 0
InitialFits w entities s sense i = InitialAsks (OutcomeFits w entities s sense) w s sense i

-- 6.7.9: where a value goes in an object of type t, its type is found within the bounds of arrays, and is an
-- integer type for a character of a string; that the type is proper isn't asked
abbrev pub PlacedStands : World → Ctype → Placed → Ctype → Type 0
PlacedStands w t p type = (type_down w (Some t) p.path ≡ Some type) × (is_some p.character ≡ true → IsInteger type)

abbrev pub AllStand : World → Ctype → List Placed → Type 0
AllStand w t [] = ⊤
AllStand w t (p ∷ rest) =
    ((type : Ctype) → type_along w (Some t) p.path ≡ Some type → PlacedStands w t p type) × AllStand w t rest

abbrev pub OutcomeStands : World → (ℕ → Option Ctype) → Source → (ℕ → Sense) → ℕ → Ctype → Outcome → Type 0
OutcomeStands w entities s sense entity t (NoPlace node) = ⊤
OutcomeStands w entities s sense entity t (Places actions) =
    (entities entity ≡ Some (with_length (new_length w s sense t actions) t))
    × AllStand w (with_length (new_length w s sense t actions) t) (lasting [] actions)

-- what each row of a list of senses asks
pub record AskedFit (entities : ℕ → Option Ctype) (s : Source) (senses : List Sense) : Type 0 where
  pub names : (i : ℕ)
      → i < length senses
      → is_a s p_primary i ≡ true
      → FirstFits (world_at s (take i senses) i) entities (children_at s i)
  pub further : (i : ℕ)
      → i < length senses
      → is_a s p_primary i ≡ true
      → FurtherIsVariadic (world_at s (take i senses) i) entities
  pub aligns : (i : ℕ)
      → i < length senses
      → (t : Ctype) (e : Extent)
      → IsProper t
      → extent (world_at s (take i senses) i) t ≡ Some e
      → Holds unsigned_long (pos e.align)
  pub runs : (i : ℕ)
      → i < length senses
      → (d : ℕ)
      → is_a s p_declaration d ≡ true
      → RunsIn (objects_declared (world_at s (take i senses) i) s (sense_in (take i senses)) d)
      (sense_in (take i senses) d)
  pub initials : (i : ℕ) → i < length senses
      → InitialAsks (OutcomeStands (world_at s (take i senses) i) entities s (sense_in (take i senses)))
      (world_at s (take i senses) i) s (sense_in (take i senses)) i

-- all senses of a tree are sound in the world at its end, where what its rows ask fits
abbrev pub AskedSensesSound : Type 0
AskedSensesSound =
    (entities : ℕ → Option Ctype) (s : Source) (senses : List Sense)
    → AreSenses s senses
    → ChildrenFirst s
    → ConstantsFit s
    → StatementGrammar s
    → AskedFit entities s senses
    → (i : ℕ)
    → SoundSense (world_at s senses (length senses)) entities (sense_in senses i)
    × ((is_a s p_statement i || is_a s p_block i) ≡ true → IsStatementSense (sense_in senses i))
