-- What entering and leaving blocks does to the memory (C11 6.2.4p6, 6.8p3).
use Rattle.std.specs.Prelude.{ℕ, ◌==◌, not, Bool, true, false, List, [], ◌∷◌, ◌++◌, Option, Some, None, length, map}
use Rattle.std.specs.Prelude.{filter, slice_get}
use Rattle.std.specs.List.{list_any, range_with_len}
use Rattle.c_types.specs.declared.key.ObjectKey.{ObjectKey}
use Rattle.c_types.specs.declared.key.ObjectKey.TheVariants.{Entity as EntityKey}
use Rattle.c_types.specs.declared.term.TypeId.{TypeId}
use Rattle.core_tree.specs.declared.node.Entity.{Entity}
use Rattle.core_tree.specs.Typed.{CoreTrees}
use Rattle.ref_cells.specs.declared.instance.Instance.{Instance}
use Rattle.ref_state.specs.Changes.{Blocks, ended_all}
use Rattle.ref_blocks.specs.declared.block.Block.{Block}
pub use Rattle.ref_blocks.specs.Around.{opens_part, part_on, own_on, blocks_in, blocks_on, blocks_around, objects_of}
pub use Rattle.ref_blocks.specs.Around.{is_among, but_for}

abbrev pub id_in : Option Entity → Option TypeId
id_in None = None
id_in (Some entity) = Some entity.ty

-- an object of which nothing is set
abbrev pub unset_object : CoreTrees → ℕ → Instance
unset_object u e =
    record {
      key = EntityKey e;
      live = true;
      ty = id_in (slice_get u.entities e);
      bytes = 0;
      zero = false;
      cells = [];
    }

-- entering a block makes its objects
abbrev pub entered : CoreTrees → Block → Blocks → Blocks
entered u b s = record {
  memory = s.memory ++ map (unset_object u) (objects_of u b);
  own = s.own ++ range_with_len (length s.memory) (length (objects_of u b));
}

abbrev pub is_one_of : List ℕ → ObjectKey → Bool
is_one_of objects (EntityKey e) = list_any (λ x. x == e) objects
is_one_of objects key = false

abbrev pub is_of : List ℕ → Option Instance → Bool
is_of objects None = false
is_of objects (Some inst) = is_one_of objects inst.key

-- leaving it ends them
abbrev pub left : CoreTrees → Block → Blocks → Blocks
left u b s = record {
  memory = ended_all s.memory (filter (λ i. is_of (objects_of u b) (slice_get s.memory i)) s.own);
  own = filter (λ i. not (is_of (objects_of u b) (slice_get s.memory i))) s.own;
}

abbrev pub all_left : CoreTrees → List Block → Blocks → Blocks
all_left u [] s = s
all_left u (b ∷ rest) s = all_left u rest (left u b s)

abbrev pub all_entered : CoreTrees → List Block → Blocks → Blocks
all_entered u [] s = s
all_entered u (b ∷ rest) s = all_entered u rest (entered u b s)
