-- The entities of compound literals.
use Rattle.std.specs.Prelude.{ℕ, List, [], get_or, slice_get, Option, None, is_some, if◌then◌else◌}
use Rattle.core_tree.specs.declared.node.Entity.{Entity}
use Rattle.core_tree.specs.declared.node.Linkage.TheVariants.{Local}
use Rattle.core_tree.specs.declared.node.Node.{Node}
use Rattle.core_tree.specs.declared.node.NodeKind.TheVariants.{Skip}
use Rattle.c_senses.specs.Tree.{Source, place_at}
use Rattle.c_senses.specs.Sense.{Sense, sense_in}
use Rattle.c_senses.specs.Entities.{function_around}
use Rattle.c_senses.specs.Right.{literal_storage}

-- what is read past a list's end
abbrev pub no_node : Node
no_node =
    record { kind = Skip; place = record { unit = 0; line = 0; column = 0 }; ty = record { 0 = 0 }; children = [] }

-- within a function it belongs to that
abbrev pub literal_owner : Source → List Sense → Option ℕ → ℕ → Option ℕ
literal_owner s senses owner leaf = if is_some (function_around s (sense_in senses) leaf) then owner else None

-- An object without a name, at the place of its leaf, with the type of its node, whose initialiser is its body. It
-- is listed by its leaf and its node.
abbrev pub literal_entity : Source → List Sense → Option ℕ → List Node → ℕ × ℕ → Entity
literal_entity s senses owner nodes l = record {
  name = [];
  unit = s.unit;
  place = place_at s l.0;
  ty = (get_or nodes l.1 no_node).ty;
  linkage = Local;
  storage = literal_storage s senses l.0;
  owner = literal_owner s senses owner l.0;
  body = slice_get (get_or nodes l.1 no_node).children 0;
  used = None;
}
