-- What the walk over nodes and calls reads.
use Rattle.std.specs.Prelude.{◌≡◌, ℕ, ◌+◌, ◌<◌, ◌^◌, length, map}
use Rattle.std.specs.List.{range_with_len}
use Rattle.core_tree.specs.Typed.{trees_in}
use Rattle.core_tree.specs.Range.{InRange}
use Rattle.sol_model.specs.Systems.{IsValid, Fits, location_count}
use Rattle.obj_space.specs.View.{view_of}
use Rattle.row_numbers.specs.Setting.{Setting, row}
use Rattle.normal_form.specs.SystemOf.{setting_of}
use Rattle.mod_ref.specs.declared.ground.Ground.{Ground}

-- the setting that it shows
abbrev pub setting_in : Ground → Setting
setting_in g = setting_of g.program.now (view_of g.space.now) g.owners.now

pub record IsGround (g : Ground) : Type 0 where
  pub range : InRange (trees_in g.program.now)
  pub valid : IsValid g.system.now
  pub fits : Fits g.system.now g.rows.now
  pub count : length g.space.now ≡ location_count g.system.now
  pub owners : length g.owners.now ≡ length g.program.now.nodes.items
  pub starts : g.starts.now
      ≡ map (row (trees_in g.program.now) (view_of g.space.now)) (range_with_len 0 (length g.program.now.nodes.items))
  pub within : (n : ℕ)
      → n < length g.program.now.nodes.items
      → row (trees_in g.program.now) (view_of g.space.now) n < g.system.now.rows
  pub tags : g.program.now.types.tags + 8 < 2 ^ 32
