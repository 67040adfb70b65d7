-- The copies of the nodes of some trees, with numbers by which children come first.
use Rattle.std.specs.Prelude.{ℕ, suc, zero, ◌+◌, ◌-◌, List, [], ◌∷◌, ◌++◌, Option, None, length, get_or, option_map}
use Rattle.core_tree.specs.declared.node.Node.{Node}
use Rattle.core_tree.specs.declared.node.NodeKind.TheVariants.{Skip}
use Rattle.unit_finish.specs.declared.unit_parts.declared.Declared.{Declared}

-- what stands for a node that isn't there
abbrev pub no_node : Node
no_node =
    record { kind = Skip; place = record { unit = 0; line = 0; column = 0 }; ty = record { 0 = 0 }; children = [] }

abbrev pub node_of : List Node → ℕ → Node
node_of nodes o = get_or nodes o no_node

-- the number of a position: the last one is 0
abbrev pub number_of : ℕ → ℕ → ℕ
number_of total position = total - (position + 1)

-- the numbers of so many positions
abbrev pub numbers_from : ℕ → ℕ → ℕ → List ℕ
numbers_from total start zero = []
numbers_from total start (suc k) = numbers_from total start k ++ number_of total (start + k) ∷ []

-- a copy of the node at a position, over the copies of its children
abbrev pub copy_at : List Node → List ℕ → List ℕ → ℕ → Node
copy_at nodes origins starts p =
    record
    (node_of nodes (get_or origins p 0)) {
      children = numbers_from (length origins) (get_or starts p 0)
          (length (node_of nodes (get_or origins p 0)).children);
    }

-- the copies under the first so many numbers
abbrev pub copies_to : List Node → List ℕ → List ℕ → ℕ → List Node
copies_to nodes origins starts zero = []
copies_to nodes origins starts (suc k) =
    copies_to nodes origins starts k ++ copy_at nodes origins starts (number_of (length origins) k) ∷ []

-- what is declared, with the number of the place of its body
abbrev pub with_place : ℕ → Declared → Option ℕ → Declared
with_place total x place = record x { body = option_map (number_of total) place }

abbrev pub with_places : ℕ → List Declared → List (Option ℕ) → List Declared
with_places total [] places = []
with_places total (x ∷ list) [] = with_place total x None ∷ with_places total list []
with_places total (x ∷ list) (p ∷ places) = with_place total x p ∷ with_places total list places
