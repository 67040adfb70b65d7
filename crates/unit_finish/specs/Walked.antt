-- What the walk over a unit's tree gives, and what its declarations are.
use Rattle.std.specs.Prelude.{ℕ, ◌≡◌, ◌<◌, true, List, [], length, Option, Some, slice_get, option_map}
use Rattle.c_types.specs.Table.{type_of, members_in}
use Rattle.c_inits.specs.Tables.{parts_in}
use Rattle.core_tree.specs.declared.node.Unit.{Unit}
use Rattle.core_tree.specs.declared.node.Linkage.TheVariants.{Local}
use Rattle.core_nodes.specs.Standing.{core_at, Knows}
use Rattle.c_senses.specs.Tree.{Source, place_at}
use Rattle.c_senses.specs.Entities.{entity_of, function_around}
use Rattle.c_senses.specs.Tags.{completed_from, members_under}
use Rattle.c_senses.specs.Right.{declared_name, literal_storage, is_tag, TagsDiffer, KeysRight}
use Rattle.c_senses.specs.Right as right
use Rattle.c_senses.specs.Rows.{AreSenses, world_at}
use Rattle.c_senses.specs.Sense.{Sense, sense_in}
use Rattle.unit_finish.specs.declared.unit_parts.declared.Declared.{Declared}
use Rattle.unit_finish.specs.declared.unit_parts.literals.LiteralAt.{LiteralAt}

-- what a unit's nodes and types make of it
abbrev pub declared_seen : Unit → Declared → right.Declared
declared_seen u x = record {
  name = x.name;
  place = x.place;
  type = type_of u.types x.ty.0;
  linkage = x.linkage;
  storage = x.storage;
  owner = x.owner;
  body = option_map (core_at u) x.body;
}

-- the list has what each leaf of a name declares, once, in the order of the leaves, with a type of the table, and
-- nothing else
pub record AreNames (s : Source) (senses : List Sense) (u : Unit) (names : List Declared) : Type 0 where
  pub each : (k : ℕ) (x : Declared)
      → slice_get names k ≡ Some x
      → declared_name s senses x.leaf ≡ Some (declared_seen u x)
  pub all : (d : ℕ) (what : right.Declared)
      → declared_name s senses d ≡ Some what
      → (k : ℕ) × (x : Declared) × (slice_get names k ≡ Some x) × (x.leaf ≡ d)
  pub once : (j k : ℕ) (x y : Declared)
      → slice_get names j ≡ Some x
      → slice_get names k ≡ Some y
      → x.leaf ≡ y.leaf
      → j ≡ k
  pub ascend : (j k : ℕ) (x y : Declared)
      → j < k
      → slice_get names j ≡ Some x
      → slice_get names k ≡ Some y
      → x.leaf < y.leaf
  pub typed : (k : ℕ) (x : Declared) → slice_get names k ≡ Some x → x.ty.0 < length u.types.terms

-- what is declared at a compound literal
abbrev pub literal_entry : Source → List Sense → LiteralAt → Declared
literal_entry s senses l = record {
  leaf = l.leaf;
  name = [];
  place = place_at s l.leaf;
  ty = l.ty;
  linkage = Local;
  storage = literal_storage s senses l.leaf;
  owner = option_map (entity_of s (sense_in senses)) (function_around s (sense_in senses) l.leaf);
  body = l.body;
}

-- each tag has a number of its own in the unit, with its members, and there are no others
pub record AreTags (s : Source) (senses : List Sense) (u : Unit) : Type 0 where
  pub once : TagsDiffer s
  pub each : (d : ℕ) → is_tag s d ≡ true → s.tag_number d < u.types.tags
  pub no_other : (t : ℕ) → t < u.types.tags → (d : ℕ) × (is_tag s d ≡ true) × (s.tag_number d ≡ t)
  pub members : (d : ℕ)
      → is_tag s d ≡ true
      → parts_in u.types (members_in u.types (s.tag_number d))
      ≡ members_under (completed_from s senses (sense_in senses) 0) (s.tag_number d)

-- the senses of a whole tree, with its tags, the keys of these, and the names that it declares; the table knows the
-- members and the sizes at its end
pub record IsWalked (s : Source) (senses : List Sense) (u : Unit) (keys : List (Option (List ℕ)))
    (names : List Declared) : Type 0 where
  pub are_senses : AreSenses s senses
  pub whole : length senses ≡ length s.nodes
  pub tags : AreTags s senses u
  pub keys_right : KeysRight s (sense_in senses) keys
  pub one_key_each : length keys ≡ u.types.tags
  pub knows : Knows (world_at s senses (length senses)) u
  pub are_names : AreNames s senses u names
