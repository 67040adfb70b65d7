-- What the steps of a run are over, in the code.
use Rattle.std.specs.Prelude.{◌≡◌, ℕ, ◌<◌, ◌^◌, List, length, slice_get, Option, Some, None, map, filter}
use Rattle.c_types.specs.declared.key.ObjectKey.{ObjectKey}
use Rattle.c_types.specs.declared.term.TypeId.{TypeId}
use Rattle.c_types.specs.declared.key.ObjectKey.TheVariants.{Entity as EntityKey}
use Rattle.core_tree.specs.declared.node.Entity.{Entity}
use Rattle.core_tree.specs.Range.{InRange}
use Rattle.core_tree.specs.Seen.{core_of}
use Rattle.core_tree.specs.Typed.{CoreTrees}
use Rattle.obj_space.specs.declared.location.Location.{Location}
use Rattle.obj_space.specs.View.{SpaceView, view_of}
use Rattle.row_numbers.specs.Functions.{parameters_of, is_owned_by}
use Rattle.ref_cells.specs.Places.{IsKnown}
use Rattle.ref_frames.specs.declared.running.Running.{Running as Made}
use Rattle.ref_frames.specs.Running.{Running, element_in, entity_of}

abbrev pub seen : Made → Running
seen made = record {
  trees = core_of made.trees;
  space = made.space.now;
  characters = made.characters;
  entries = made.entries.now;
}

-- for each function its parameters
pub record AreParameters (u : CoreTrees) (s : SpaceView) (lists : List (List ℕ)) : Type 0 where
  pub each : (f : ℕ) (list : List ℕ) → slice_get lists f ≡ Some list → map EntityKey list ≡ parameters_of u s f
  pub many : length lists ≡ length u.entities
  pub few : length u.entities < 2 ^ 32

abbrev pub entity_at : List Entity → Option ℕ → Option Entity
entity_at entities None = None
entity_at entities (Some e) = slice_get entities e

-- for each function those of these keys that it owns
abbrev pub ArePutIn : List Entity → List ObjectKey → List (List ℕ) → Type 0
ArePutIn entities keys lists =
    (f : ℕ) (list : List ℕ)
    → slice_get lists f ≡ Some list
    → map EntityKey list ≡ filter (λ key. is_owned_by f (entity_at entities (entity_of key))) keys

-- the types of elements are the table's
abbrev pub AreElementsKnown : ℕ → TypeId → List Location → Type 0
AreElementsKnown types characters space =
    (l : ℕ) (x : Location) → slice_get space l ≡ Some x → IsKnown types (element_in characters x.content)

-- a program whose numbers are in range, and the parameters of each function
pub record IsRunning (made : Made) : Type 0 where
  pub range : InRange (core_of made.trees)
  pub parameters : AreParameters (core_of made.trees) (view_of made.space.now) made.parameters.now
  pub elements : AreElementsKnown (length made.trees.types.now.terms) made.characters made.space.now
