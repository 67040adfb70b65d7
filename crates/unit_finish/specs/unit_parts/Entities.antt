-- Entities out of what is declared.
use Rattle.std.specs.Prelude.{ℕ, suc, ◌≡◌, Bool, true, List, [], ◌∷◌, Option, Some, None, slice_get, is_some}
use Rattle.std.specs.Prelude.{option_and_then, option_map}
use Rattle.core_tree.specs.declared.node.Node.{Node}
use Rattle.core_tree.specs.declared.node.Entity.{Entity}
use Rattle.c_senses.specs.Tree.{paired}
use Rattle.unit_finish.specs.declared.unit_parts.declared.Declared.{Declared}
use Rattle.unit_finish.specs.unit_parts.Numbered.{new_number}
use Rattle.unit_finish.specs.unit_parts.Uses.{least_use}

-- what is declared at each leaf has its position as its number
abbrev pub leaves_from : ℕ → List Declared → List (ℕ × ℕ)
leaves_from k [] = []
leaves_from k (x ∷ rest) = (x.leaf, k) ∷ leaves_from (suc k) rest

abbrev pub numbering_of : List Declared → ℕ → Option ℕ
numbering_of list = paired (leaves_from 0 list)

-- each one is known by its leaf
abbrev pub EachApart : List Declared → Type 0
EachApart list = (k : ℕ) (x : Declared) → slice_get list k ≡ Some x → numbering_of list x.leaf ≡ Some k

-- the owner, if there is one, is known
abbrev pub is_owner_known : (ℕ → Option ℕ) → Option ℕ → Bool
is_owner_known n None = true
is_owner_known n (Some d) = is_some (n d)

-- the bodies of what is declared, in order
abbrev pub with_body : Option ℕ → List ℕ → List ℕ
with_body None bodies = bodies
with_body (Some b) bodies = b ∷ bodies

abbrev pub bodies_of : List Declared → List ℕ
bodies_of [] = []
bodies_of (x ∷ rest) = with_body x.body (bodies_of rest)

-- the same with the new number of its body
abbrev pub with_moved_body : List (Option ℕ) → Declared → Declared
with_moved_body numbers x = record x { body = option_map (new_number numbers) x.body }

-- the entity number k over the nodes of its unit
abbrev pub entity_from : ℕ → (ℕ → Option ℕ) → List Node → ℕ → Declared → Entity
entity_from unit n nodes k x = record {
  name = x.name;
  unit = unit;
  place = x.place;
  ty = x.ty;
  linkage = x.linkage;
  storage = x.storage;
  owner = option_and_then n x.owner;
  body = x.body;
  used = least_use None k nodes;
}

abbrev pub entities_from : ℕ → (ℕ → Option ℕ) → List Node → ℕ → List Declared → List Entity
entities_from unit n nodes k [] = []
entities_from unit n nodes k (x ∷ rest) = entity_from unit n nodes k x ∷ entities_from unit n nodes (suc k) rest
