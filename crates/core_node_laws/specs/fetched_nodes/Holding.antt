-- A fact of the nodes that name entities, in all trees that rows give: where it holds of what the rows make of
-- names, of initialisers and of compound literals, it holds of all.
use Rattle.std.specs.Prelude.{ℕ, ◌≡◌, ⊤, Bool, true, not, ◌||◌, List, [], ◌∷◌, Option, Some}
use Rattle.pta_base.specs.declared.place.Place.{Place}
use Rattle.c_types.specs.Trees.{Ctype, VoidType}
use Rattle.core_tree.specs.declared.node.NodeKind.{NodeKind}
use Rattle.core_tree.specs.declared.node.NodeKind.TheVariants.{Named, Literal, FunctionName, Initialise, Fetch}
use Rattle.core_tree.specs.declared.node.NodeKind.TheVariants.{CallNode}
use Rattle.c_grammar.specs.Productions.{p_cast, p_unary}
use Rattle.c_consts.specs.Core.{Core, Cores, Of, NoCores, MoreCores}
use Rattle.c_inits.specs.Shapes.{Path}
use Rattle.core_nodes.specs.passed.c_senses.Tree.{Source, is_a, place_at}
use Rattle.core_nodes.specs.passed.c_senses.World.{World, Meaning, Object, Function}
use Rattle.core_nodes.specs.passed.c_senses.Entities.{entity_of, is_static_object}
use Rattle.core_nodes.specs.passed.c_senses.Places.{own_place}
use Rattle.core_nodes.specs.passed.c_senses.Conversions.{operand_of, is_fetched, is_list}
use Rattle.core_nodes.specs.passed.c_senses.Objects.{is_returned}
use Rattle.core_nodes.specs.passed.c_senses.Initialised.{is_fixed, is_automatic, is_in_body, opening, brace}
use Rattle.core_nodes.specs.passed.c_senses.Sense.{Sense, IsCore, IsRun, IsInitial}

-- nothing is asked of other kinds
abbrev pub Asks : (Core → Type 0) → NodeKind → Place → Ctype → Cores → Type 0
Asks asks (Named e) place type under = asks (Of (Named e) place type under)
Asks asks (FunctionName e) place type under = asks (Of (FunctionName e) place type under)
Asks asks (Literal e) place type under = asks (Of (Literal e) place type under)
Asks asks (Initialise e paths) place type under = asks (Of (Initialise e paths) place type under)
Asks asks Fetch place type under = asks (Of Fetch place type under)
Asks asks CallNode place type under = asks (Of CallNode place type under)
Asks asks kind place type under = ⊤

-- each node of a tree is so
abbrev mutual
  pub Holds : (Core → Type 0) → Core → Type 0
  Holds asks (Of kind place type under) = Asks asks kind place type under × AllHold asks under

  pub AllHold : (Core → Type 0) → Cores → Type 0
  AllHold asks NoCores = ⊤
  AllHold asks (MoreCores c rest) = Holds asks c × AllHold asks rest

abbrev pub AreOf : (Core → Type 0) → List Core → Type 0
AreOf asks [] = ⊤
AreOf asks (c ∷ rest) = Holds asks c × AreOf asks rest

-- each node of what a sense stands for is so
abbrev pub OfSense : (Core → Type 0) → Sense → Type 0
OfSense asks (IsCore c) = Holds asks c
OfSense asks (IsRun cores) = AreOf asks cores
OfSense asks (IsInitial c n) = Holds asks c
OfSense asks x = ⊤

-- what a name means
abbrev pub MeaningGives : (Core → Type 0) → Option Meaning → Type 0
MeaningGives asks (Some (Object e t)) = (place : Place) → asks (Of (Named e) place t NoCores)
MeaningGives asks (Some (Function e t)) = (place : Place) → asks (Of (FunctionName e) place t NoCores)
MeaningGives asks m = ⊤

module _ (w : World) (s : Source) (sense : ℕ → Sense) where
  -- 6.7.9p4: fixed values, where the object has its place for the whole run
  abbrev pub IsFixedIf : Bool → Core → Type 0
  IsFixedIf static c = static ≡ true → is_fixed (is_automatic w s sense) c ≡ true

  abbrev pub AreFixedIf : Bool → Cores → Type 0
  AreFixedIf static NoCores = ⊤
  AreFixedIf static (MoreCores c rest) = IsFixedIf static c × AreFixedIf static rest

-- what is tested where a place is fetched, and where a function is called
pub record Tests (asks : Core → Type 0) (w : World) : Type 0 where
  pub fetched : (place : Place) (t : Ctype) (under : Cores)
      → is_fetched w (operand_of t) || is_list t ≡ true
      → asks (Of Fetch place t under)
  pub returned : (place : Place) (t : Ctype) (under : Cores)
      → is_returned w t ≡ true
      → asks (Of CallNode place t under)

-- what the rows of one node make: names, the initialisers of objects, and compound literals with theirs
pub record RowGives (asks : Core → Type 0) (w : World) (s : Source) (sense : ℕ → Sense) : Type 0 where
  pub tests : Tests asks w
  pub names : (leaf : ℕ) → MeaningGives asks (w.meaning leaf)
  pub objects : (leaf at : ℕ) (paths : List Path) (values : Cores)
      → AreFixedIf w s sense (is_static_object s sense leaf) values
      → asks (Of (Initialise (entity_of s sense leaf) paths) (own_place s at) VoidType values)
  pub initials : (at p : ℕ) (paths : List Path) (values : Cores) → (is_a s p_cast p || is_a s p_unary p) ≡ true
      → AreFixedIf w s sense (not (is_in_body w s sense at)) values
      → asks (Of (Initialise (opening w s sense p) paths) (place_at s (brace w s sense p)) VoidType values)
  pub literals : (p : ℕ) (type : Ctype) (initial : Core) → (is_a s p_cast p || is_a s p_unary p) ≡ true
      → asks
      (Of (Literal (opening w s sense p)) (place_at s (opening w s sense p)) type
      (MoreCores initial NoCores))
