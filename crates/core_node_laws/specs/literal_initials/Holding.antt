-- Where initialisers stand in trees: that of a compound literal under it, and of each other one something holds of
-- what it initialises.
use Rattle.std.specs.Prelude.{ℕ, ◌≡◌, ⊤, true, List, [], ◌∷◌, Some}
use Rattle.c_grammar.specs.Productions.{p_rest}
use Rattle.core_tree.specs.declared.node.NodeKind.TheVariants.{Literal, Initialise}
use Rattle.core_tree.specs.Rows.{InitialisesEntity}
use Rattle.c_consts.specs.Core.{Core, Cores, Of, NoCores, MoreCores, kind_of}
use Rattle.core_nodes.specs.passed.c_senses.Tree.{Source, is_a, parent_of}
use Rattle.core_nodes.specs.passed.c_senses.World.{World}
use Rattle.core_nodes.specs.passed.c_senses.Entities.{entity_of, initialised_by}
use Rattle.core_nodes.specs.passed.c_senses.Initialised.{name_of_declarator}
use Rattle.core_nodes.specs.passed.c_senses.Sense.{Sense, IsCore, IsRun, IsInitial}

-- one tree, which initialises the entity
abbrev pub IsOwn : ℕ → Cores → Type 0
IsOwn e (MoreCores c NoCores) = InitialisesEntity (kind_of c) e
IsOwn e cores = ⊥

-- a literal has its own initialiser, and of that nothing is asked but of what is under it; of any other initialiser
-- the fact is asked
abbrev mutual
  pub Holds : (ℕ → Type 0) → Core → Type 0
  Holds asks (Of (Initialise e paths) place type under) = asks e × AllHold asks under
  Holds asks (Of (Literal e) place type under) = IsOwn e under × InsideHold asks under
  Holds asks (Of kind place type under) = ⊤ × AllHold asks under

  pub AllHold : (ℕ → Type 0) → Cores → Type 0
  AllHold asks NoCores = ⊤
  AllHold asks (MoreCores c rest) = Holds asks c × AllHold asks rest

  -- what is under some trees
  pub InsideHold : (ℕ → Type 0) → Cores → Type 0
  InsideHold asks NoCores = ⊤
  InsideHold asks (MoreCores (Of kind place type under) rest) = AllHold asks under × InsideHold asks rest

abbrev pub AreOf : (ℕ → Type 0) → List Core → Type 0
AreOf asks [] = ⊤
AreOf asks (c ∷ rest) = Holds asks c × AreOf asks rest

-- so it is of the trees that a sense stands for
abbrev pub OfSense : (ℕ → Type 0) → Sense → Type 0
OfSense asks (IsCore c) = Holds asks c
OfSense asks (IsRun cores) = AreOf asks cores
OfSense asks (IsInitial c n) = Holds asks c
OfSense asks x = ⊤

-- what the row of a node makes where it initialises an object
abbrev pub ObjectsGive : (ℕ → Type 0) → World → Source → (ℕ → Sense) → ℕ → Type 0
ObjectsGive asks w s sense at =
    (above declarator leaf : ℕ)
    → parent_of s at ≡ Some above
    → is_a s p_rest above ≡ true
    → initialised_by s sense at ≡ Some declarator
    → name_of_declarator w s sense (sense declarator) ≡ Some leaf → asks (entity_of s sense leaf)
