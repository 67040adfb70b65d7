-- A fact of the nodes that name or list entities, in the trees of nodes near each other: where it holds of what the
-- rows of such nodes make of names, of initialisers, of compound literals and of lists, it holds of all their
-- trees.
use Rattle.std.specs.Prelude.{ℕ, ◌≡◌, ⊤, Bool, true, not, ◌||◌, List, [], ◌∷◌, Option, Some}
use Rattle.pta_base.specs.declared.place.Place.{Place}
use Rattle.c_types.specs.Trees.{Ctype, VoidType, VaListType}
use Rattle.core_tree.specs.declared.node.NodeKind.{NodeKind}
use Rattle.core_tree.specs.declared.node.NodeKind.TheVariants.{Named, Literal, FunctionName, Initialise, Block, For}
use Rattle.core_tree.specs.declared.node.NodeKind.TheVariants.{VarArgs}
use Rattle.core_tree.specs.Rows.{Has}
use Rattle.c_grammar.specs.Productions.{p_declaration, p_block, p_statement, p_cast, p_unary, p_post}
use Rattle.c_consts.specs.Core.{Core, Cores, Of, NoCores, MoreCores}
use Rattle.c_inits.specs.Shapes.{Path}
use Rattle.core_nodes.specs.passed.c_senses.Tree.{Source, is_a, is_name, children_at, parent_of, place_at, left_of}
use Rattle.core_nodes.specs.passed.c_senses.World.{World, Meaning, Object, Function}
use Rattle.core_nodes.specs.passed.c_senses.Entities.{entity_of, is_static_object, initialised_by}
use Rattle.core_nodes.specs.passed.c_senses.Places.{own_place}
use Rattle.core_nodes.specs.passed.c_senses.Initialised.{is_fixed, is_automatic, is_in_body, opening, brace}
use Rattle.core_nodes.specs.passed.c_senses.Initialised.{name_of_declarator}
use Rattle.core_nodes.specs.passed.c_senses.Statements.{objects_in, objects_declared}
use Rattle.core_nodes.specs.passed.c_senses.Sense.{Sense, IsCore, IsDeclarator, IsRun, IsInitial}

-- nothing is asked of other kinds
abbrev pub Asks : (Core → Type 0) → NodeKind → Place → Ctype → Cores → Type 0
Asks asks (Named e) place type under = asks (Of (Named e) place type under)
Asks asks (FunctionName e) place type under = asks (Of (FunctionName e) place type under)
Asks asks (Literal e) place type under = asks (Of (Literal e) place type under)
Asks asks (VarArgs e) place type under = asks (Of (VarArgs e) place type under)
Asks asks (Initialise e paths) place type under = asks (Of (Initialise e paths) place type under)
Asks asks (Block es) place type under = asks (Of (Block es) place type under)
Asks asks (For es c a) place type under = asks (Of (For es c a) place type under)
Asks asks kind place type under = ⊤

-- each node of a tree is so
abbrev mutual
  pub Holds : (Core → Type 0) → Core → Type 0
  Holds asks (Of kind place type under) = Asks asks kind place type under × AllHold asks under

  pub AllHold : (Core → Type 0) → Cores → Type 0
  AllHold asks NoCores = ⊤
  AllHold asks (MoreCores c rest) = Holds asks c × AllHold asks rest

abbrev pub AreOf : (Core → Type 0) → List Core → Type 0
AreOf asks [] = ⊤
AreOf asks (c ∷ rest) = Holds asks c × AreOf asks rest

-- each node of what a sense stands for is so, and the name of a declarator is near and a name
abbrev pub OfSense : Source → (ℕ → Type 0) → (Core → Type 0) → Sense → Type 0
OfSense s near asks (IsCore c) = Holds asks c
OfSense s near asks (IsRun cores) = AreOf asks cores
OfSense s near asks (IsInitial c n) = Holds asks c
OfSense s near asks (IsDeclarator (Some leaf) ds) = near leaf × (is_name s leaf ≡ true)
OfSense s near asks x = ⊤

-- what a name means
abbrev pub MeaningGives : (Core → Type 0) → Option Meaning → Type 0
MeaningGives asks (Some (Object e t)) = (place : Place) → asks (Of (Named e) place t NoCores)
MeaningGives asks (Some (Function e t)) = (place : Place) → asks (Of (FunctionName e) place t NoCores)
MeaningGives asks m = ⊤

-- 7.16.1.4: what a function was passed past its last parameter, where that is named
abbrev pub ListsGive : (Core → Type 0) → World → Type 0
ListsGive asks w =
    (entity function : ℕ) (place at : Place) (type : Ctype)
    → asks (Of (Named entity) place type NoCores)
    → w.further entity ≡ Some function
    → asks (Of (VarArgs function) at VaListType NoCores)

module _ (w : World) (s : Source) (sense : ℕ → Sense) where
  -- 6.7.9p4: fixed values, where the object has its place for the whole run
  abbrev pub IsFixedIf : Bool → Core → Type 0
  IsFixedIf static c = static ≡ true → is_fixed (is_automatic w s sense) c ≡ true

  abbrev pub AreFixedIf : Bool → Cores → Type 0
  AreFixedIf static NoCores = ⊤
  AreFixedIf static (MoreCores c rest) = IsFixedIf static c × AreFixedIf static rest

-- what the row of a node with those parts makes: names, the initialiser of the object that it initialises, a
-- compound literal with its own, and the lists of blocks and of a `for`
pub record RowGives (asks : Core → Type 0) (w : World) (s : Source) (sense : ℕ → Sense) (at : ℕ)
    (children : List ℕ) : Type 0 where
  pub names : (leaf : ℕ) → Has children leaf → MeaningGives asks (w.meaning leaf)
  pub lists : ListsGive asks w
  pub objects : (declarator leaf : ℕ)
      → initialised_by s sense at ≡ Some declarator
      → name_of_declarator w s sense (sense declarator) ≡ Some leaf
      → (paths : List Path) (values : Cores)
      → AreFixedIf w s sense (is_static_object s sense leaf) values
      → asks (Of (Initialise (entity_of s sense leaf) paths) (own_place s at) VoidType values)
  pub initials : (p : ℕ)
      → parent_of s at ≡ Some p
      → (paths : List Path) (values : Cores)
      → (is_a s p_cast p || is_a s p_unary p) ≡ true
      → AreFixedIf w s sense (not (is_in_body w s sense at)) values
      → asks (Of (Initialise (opening w s sense p) paths) (place_at s (brace w s sense p)) VoidType values)
  pub literals : (p : ℕ)
      → parent_of s at ≡ Some p
      → (type : Ctype) (initial : Core)
      → (is_a s p_cast p || is_a s p_unary p) ≡ true
      → asks
      (Of (Literal (opening w s sense p)) (place_at s (opening w s sense p)) type
      (MoreCores initial NoCores))
  pub blocks : is_a s p_block at ≡ true
      → (place : Place) (under : Cores)
      → asks (Of (Block (objects_in w s sense children)) place VoidType under)
  pub plains : (c a : Bool) (place : Place) (under : Cores) → asks (Of (For [] c a) place VoidType under)
  pub fors : is_a s p_statement at ≡ true
      → (declaration : ℕ)
      → Has children declaration
      → is_a s p_declaration declaration ≡ true
      → (c a : Bool) (place : Place) (under : Cores)
      → asks (Of (For (objects_declared w s sense declaration) c a) place VoidType under)

-- the parts of a node that is near are, and so is what stands to the left of an operator behind it
pub record Closed (s : Source) (near : ℕ → Type 0) : Type 0 where
  pub parts : (i c : ℕ) → Has (children_at s i) c → near i → near c
  pub lefts : (i first : ℕ) (rest : List ℕ)
      → is_a s p_post i ≡ true
      → children_at s i ≡ first ∷ rest
      → near i
      → near (left_of s first)
