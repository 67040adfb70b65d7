-- Lists of numbers that tell tags and member lists apart.
use Rattle.std.specs.Prelude.{ℕ, ◌≡◌, ◌+◌, ◌≤◌, cond, List, [], ◌∷◌, Option, Some, None, length, map, slice_get}
use Rattle.std.specs.Prelude.{slice_index}
use Rattle.std.specs.Global.{Vec}
use Rattle.std.specs.List.{slice_index_or}
use Rattle.std.specs.Option.{option_map}
use Rattle.c_types.specs.declared.term.MemberTerm.{MemberTerm}
use Rattle.core_tree.specs.declared.node.Unit.{Unit}
use Rattle.link_model.specs.declared.item.Item.{Item}
use Rattle.link_model.specs.Units.{item, Label, list_at}
use Rattle.link_merge.specs.Codes.{members_code}

abbrev pub label_code : Label → List ℕ
label_code l = cond l.union 1 0 ∷ l.key

abbrev pub list_code : List ℕ → ℕ → Option (List MemberTerm) → List ℕ
list_code firsts start None = []
list_code firsts start (Some members) = members_code firsts start members

-- the list that a tag has in its own unit
abbrev pub own_code : List Unit → List ℕ → List ℕ → Item → List ℕ
own_code units starts firsts a = list_code firsts (slice_index starts a.unit) (list_at units a)

-- the list that counts for a tag, by the place of the tag that has it
abbrev pub tag_code : List Unit → List ℕ → List ℕ → List Item → Option ℕ → List ℕ
tag_code units starts firsts tags None = []
tag_code units starts firsts tags (Some h) = own_code units starts firsts (slice_index_or tags h (item 0 0))

-- each unit's types stand among so many, from its start on
pub record AllStand (units : List Unit) (starts : List ℕ) (count : ℕ) : Type 0 where
  pub enough : length units ≤ length starts
  pub each : (u : ℕ) (x : Unit) → slice_get units u ≡ Some x → slice_index starts u + length x.types.terms ≤ count

-- the key of a thing, where it has one
abbrev pub key_of : Option (Vec ℕ) → Option (List ℕ)
key_of key = option_map (λ v. v.items) key

abbrev pub keys_of : List (Option (Vec ℕ)) → List (Option (List ℕ))
keys_of keys = map key_of keys
