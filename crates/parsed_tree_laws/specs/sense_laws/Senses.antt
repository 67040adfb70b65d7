-- Senses whose core trees are sound and whose types are proper.
use Rattle.std.specs.Prelude.{ℕ, ◌≡◌, ◌<◌, ◌^◌, ⊤, Bool, true, false, ◌||◌, List, [], ◌∷◌, Option, Some, is_some}
use Rattle.std.specs.Prelude.{slice_get}
use Rattle.c_lexer.specs.declared.TokenKind.TheVariants.{Integer}
use Rattle.c_types.specs.Trees.{Ctype}
use Rattle.c_conversions.specs.passed.core_tree.declared.node.NodeKind.{NodeKind}
use Rattle.c_conversions.specs.passed.core_tree.declared.node.NodeKind.TheVariants.{Initialise}
use Rattle.c_conversions.specs.passed.core_tree.Typed.{StatementNode, IsInteger, Holds}
use Rattle.c_conversions.specs.passed.core_tree.Rows.{InitialisesOneOf, int}
use Rattle.c_grammar.specs.Productions.{p_statement, p_block, p_declaration, p_assert, p_expression}
use Rattle.c_senses.specs.passed.c_consts.Core.{Core, kind_of, core_sort}
use Rattle.c_senses.specs.passed.c_inits.Made.{Part, shape_for}
use Rattle.c_senses.specs.passed.c_inits.Initial.{Placed, Outcome, Places, NoPlace, lasting}
use Rattle.c_senses.specs.Entities.{with_length, length_seen, entity_of, specified_of, derived_type}
use Rattle.c_senses.specs.Initialised.{type_along, new_length, most_elements, seen, outcome_of, opening, brace}
use Rattle.c_senses.specs.Initialised.{braced}
use Rattle.c_senses.specs.passed.c_inits.View as view
use Rattle.c_senses.specs.Tree.{Source, spelling_at, kind_at, is_a, is_leaf, children_at}
use Rattle.c_senses.specs.World.{World}
use Rattle.c_senses.specs.Literals.{value_of_integer}
use Rattle.c_senses.specs.Sense.{Derivation, Pointing, Elements, Returning, Sense, Nothing, IsCore, IsType}
use Rattle.c_senses.specs.Sense.{IsSpecified, IsDeclarator, IsDerivation, IsParameter, IsMembers, IsValue, IsRun}
use Rattle.c_senses.specs.Sense.{IsInitial}
use Rattle.c_senses.specs.Statements.{objects_declared, returned_type}
use Rattle.parsed_tree_laws.specs.sense_laws.Sound.{Sound, AreSound, IsProper, AreProper, IsListOf, type_down, Gives}

abbrev pub IsProperStep : Derivation → Type 0
IsProperStep Pointing = ⊤
IsProperStep (Elements n) = ⊤
IsProperStep (Returning ps form) = AreProper ps × IsListOf form ps

abbrev pub AreProperSteps : List Derivation → Type 0
AreProperSteps [] = ⊤
AreProperSteps (d ∷ rest) = IsProperStep d × AreProperSteps rest

abbrev pub AreProperParts : List Part → Type 0
AreProperParts [] = ⊤
AreProperParts (m ∷ rest) = IsProper m.type × AreProperParts rest

abbrev pub IsInitialiser : NodeKind → Type 0
IsInitialiser (Initialise e paths) = ⊤
IsInitialiser kind = ⊥

abbrev pub AreInitialisers : List Core → Type 0
AreInitialisers [] = ⊤
AreInitialisers (c ∷ rest) = IsInitialiser (kind_of c) × AreInitialisers rest

abbrev pub SoundSense : (w : World) (entities : ℕ → Option Ctype) → Sense → Type 0
SoundSense w entities Nothing = ⊤
SoundSense w entities (IsCore c) = Sound w entities c
SoundSense w entities (IsType t) = IsProper t
SoundSense w entities (IsSpecified x) = IsProper x.type
SoundSense w entities (IsDeclarator name ds) = AreProperSteps ds
SoundSense w entities (IsDerivation d) = IsProperStep d
SoundSense w entities (IsParameter p) = IsProper p.type
SoundSense w entities (IsMembers parts) = AreProperParts parts
SoundSense w entities (IsValue n) = ⊤
SoundSense w entities (IsRun cores) = AreSound w entities cores × AreInitialisers cores
SoundSense w entities (IsInitial c n) = Sound w entities c × IsInitialiser (kind_of c)

-- 6.4.4.1: each integer constant has a value that some type holds
abbrev pub ConstantsFit : Source → Type 0
ConstantsFit s = (i : ℕ) → kind_at s i ≡ Integer → value_of_integer (spelling_at s i) < 2 ^ 64

-- a sense that is a core tree is a statement's
abbrev pub IsStatementSense : Sense → Type 0
IsStatementSense (IsCore c) = core_sort c ≡ StatementNode
IsStatementSense x = ⊤

-- 6.7.2.2: a value of an enumerator is in the range of int
abbrev pub IsIntSense : Sense → Type 0
IsIntSense (IsValue n) = Holds int n
IsIntSense x = ⊤

-- of each core tree: it initialises one of these entities
abbrev pub AllInitialise : List ℕ → List Core → Type 0
AllInitialise entities [] = ⊤
AllInitialise entities (c ∷ rest) = InitialisesOneOf entities (kind_of c) × AllInitialise entities rest

abbrev pub RunsIn : List ℕ → Sense → Type 0
RunsIn entities (IsRun cores) = AllInitialise entities cores
RunsIn entities x = ⊤

-- 6.8: what the grammar and the declarations before it say of a statement's parts: the senses of statements and
-- blocks are statements, a statement that begins with no token and no expression begins with a block, what stands
-- in a block is no expression, and what a declaration runs initialises its objects
pub record StatementParts (w : World) (s : Source) (sense : ℕ → Sense) : Type 0 where
  pub statements : (i : ℕ) → is_a s p_statement i ≡ true → IsStatementSense (sense i)
  pub begins : (i first : ℕ) (rest : List ℕ)
      → is_a s p_statement i ≡ true
      → children_at s i ≡ first ∷ rest
      → is_leaf s first ≡ false
      → is_a s p_expression first ≡ false
      → IsStatementSense (sense first)
  pub blocks : (i k c : ℕ)
      → is_a s p_block i ≡ true
      → slice_get (children_at s i) k ≡ Some c
      → IsStatementSense (sense c)
  pub runs : (i : ℕ) → is_a s p_declaration i ≡ true → RunsIn (objects_declared w s sense i) (sense i)
  pub returns : (i : ℕ) (t : Ctype) → returned_type w s sense i ≡ Some t → IsProper t

-- 6.7.9: where a value goes in an object of type t, its type is found within the bounds of arrays, and is an
-- integer type for a character of a string
abbrev pub PlacedFit : World → Ctype → Placed → Ctype → Type 0
PlacedFit w t p type =
    (type_down w (Some t) p.path ≡ Some type) × IsProper type × (is_some p.character ≡ true → IsInteger type)

abbrev pub AllFit : World → Ctype → List Placed → Type 0
AllFit w t [] = ⊤
AllFit w t (p ∷ rest) =
    ((type : Ctype) → type_along w (Some t) p.path ≡ Some type → PlacedFit w t p type) × AllFit w t rest

-- an object that gets its length from its initialiser has the type with it, and each value fits there
abbrev pub OutcomeFits : World → (ℕ → Option Ctype) → Source → (ℕ → Sense) → ℕ → Ctype → Outcome → Type 0
OutcomeFits w entities s sense entity t (NoPlace node) = ⊤
OutcomeFits w entities s sense entity t (Places actions) =
    (entities entity ≡ Some (with_length (new_length w s sense t actions) t))
    × AllFit w (with_length (new_length w s sense t actions) t) (lasting [] actions)

-- the values of each initialiser and each compound literal fit in its object
pub record InitialisersFit (w : World) (entities : ℕ → Option Ctype) (s : Source) (sense : ℕ → Sense) : Type 0 where
  pub objects : (at declarator leaf : ℕ) (t : Ctype)
      → derived_type s sense (specified_of s sense leaf) (Some declarator) ≡ Some t
      → Gives (OutcomeFits w entities s sense (entity_of s sense leaf) (with_length (length_seen s sense leaf) t))
      (outcome_of w s sense at (shape_for w.fillable most_elements (with_length (length_seen s sense leaf) t))
      (view.init_at (seen w s sense) s.nodes at))
  pub literals : (at p : ℕ) (t : Ctype)
      → Gives (OutcomeFits w entities s sense (opening w s sense p) t)
      (outcome_of w s sense (brace w s sense p) (shape_for w.fillable most_elements t)
      (braced w s sense (brace w s sense p) (view.items_at (seen w s sense) s.nodes at)))

-- each part of a node stands before it
abbrev pub ChildrenFirst : Source → Type 0
ChildrenFirst s = (i k c : ℕ) → slice_get (children_at s i) k ≡ Some c → c < i

-- 6.8.2: what may stand in a block: a token, a declaration, a static assertion or a statement
abbrev pub is_block_part : Source → ℕ → Bool
is_block_part s i = is_leaf s i || (is_a s p_declaration i || (is_a s p_assert i || is_a s p_statement i))

-- 6.8, 6.8.2: what the grammar says of a tree's statements and blocks: a statement begins with a token, an
-- expression or a block, and in a block stand its parts alone
pub record StatementGrammar (s : Source) : Type 0 where
  pub begins : (i first : ℕ) (rest : List ℕ)
      → is_a s p_statement i ≡ true
      → children_at s i ≡ first ∷ rest
      → is_leaf s first ≡ false
      → is_a s p_expression first ≡ false
      → is_a s p_block first ≡ true
  pub blocks : (i k c : ℕ)
      → is_a s p_block i ≡ true
      → slice_get (children_at s i) k ≡ Some c
      → is_block_part s c ≡ true
