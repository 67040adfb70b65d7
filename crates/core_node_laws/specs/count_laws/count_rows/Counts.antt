-- How many nodes of core trees, and of what syntax nodes stand for, pass a test of their kind and place.
use Rattle.std.specs.Prelude.{ℕ, ◌+◌, Bool, List, [], ◌∷◌, if◌then◌else◌}
use Rattle.pta_base.specs.declared.place.Place.{Place}
use Rattle.core_tree.specs.declared.node.NodeKind.{NodeKind}
use Rattle.core_tree.specs.declared.node.NodeKind.TheVariants.{Text, Literal, CallNode, Block, For, Initialise}
use Rattle.c_consts.specs.Core.{Core, Cores, Of, NoCores, MoreCores}
use Rattle.c_inits.specs.Syntax.{Init, Items, Value, Braces, NoItems, Item}
use Rattle.c_senses.specs.Sense.{Sense, IsCore, IsRun, IsInitial}

-- how much a node counts by its kind and place, and whose initialisers are left out with all that is under them
pub record Count : Type 0 where
  pub weight : NodeKind → Place → ℕ
  pub leaves_out : ℕ → Bool

-- strings, compound literals, calls, initialisers, blocks and loops that list objects count; no other node does
abbrev pub own_weight : Count → NodeKind → Place → ℕ
own_weight n (Text bytes) place = n.weight (Text bytes) place
own_weight n (Literal e) place = n.weight (Literal e) place
own_weight n CallNode place = n.weight CallNode place
own_weight n (Initialise e paths) place = n.weight (Initialise e paths) place
own_weight n (Block es) place = n.weight (Block es) place
own_weight n (For es c a) place = n.weight (For es c a) place
own_weight n kind place = 0

abbrev pub unless_left_out : Count → NodeKind → ℕ → ℕ
unless_left_out n (Initialise e paths) k = if n.leaves_out e then 0 else k
unless_left_out n kind k = k

abbrev mutual
  pub count_in : Count → Core → ℕ
  count_in n (Of kind place type under) = unless_left_out n kind (own_weight n kind place + count_under n under)

  pub count_under : Count → Cores → ℕ
  count_under n NoCores = 0
  count_under n (MoreCores c rest) = count_in n c + count_under n rest

-- a tree whose top isn't left out
abbrev pub count_whole : Count → Core → ℕ
count_whole n (Of kind place type under) = own_weight n kind place + count_under n under

abbrev pub count_all : Count → List Core → ℕ
count_all n [] = 0
count_all n (c ∷ rest) = count_in n c + count_all n rest

abbrev pub count_of : Count → Sense → ℕ
count_of n (IsCore c) = count_in n c
count_of n (IsRun cores) = count_all n cores
count_of n (IsInitial c length) = count_in n c
count_of n x = 0

-- over the senses of some nodes
abbrev pub total : Count → (ℕ → Sense) → List ℕ → ℕ
total n sense [] = 0
total n sense (c ∷ rest) = count_of n (sense c) + total n sense rest

-- the values in an initialiser, and in a list of items: over what is counted for each of their nodes
abbrev mutual
  pub init_total : (ℕ → ℕ) → Init → ℕ
  init_total e (Value node type text) = e node
  init_total e (Braces node items) = items_total e items

  pub items_total : (ℕ → ℕ) → Items → ℕ
  items_total e NoItems = 0
  items_total e (Item designators init rest) = init_total e init + items_total e rest

-- the whole of what a node makes, also an initialiser that is left out: that of an object, or that of a compound
-- literal
abbrev pub count_full : Count → Sense → ℕ
count_full n (IsInitial c length) = count_whole n c
count_full n (IsCore (Of (Literal e) place type (MoreCores v NoCores))) = n.weight (Literal e) place
    + count_whole n v
count_full n x = count_of n x
