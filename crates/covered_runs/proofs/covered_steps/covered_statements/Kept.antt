-- Leaving and entering blocks keeps a memory covered, and no object that a conversion types comes about.
use Rattle.std.proofs.Common.{◌≡◌, ◌∙◌, inl, inr, ℕ, List, [], ◌∷◌, ◌++◌, filter, map, Option, Some, None, slice_get, sym, ap}
use Rattle.obj_space.specs.View.{first_from}
use Rattle.ref_cells.specs.declared.instance.Instance.{Instance}
use Rattle.ref_state.specs.Changes.{Blocks}
use Rattle.ref_blocks.specs.declared.block.Block.{Block}
use Rattle.ref_blocks.specs.declared.block.Block.TheVariants.{Part}
use Rattle.ref_blocks.specs.Blocks.{id_in, unset_object, objects_of, is_of, entered, left, all_entered, all_left}
use Rattle.ref_statements.specs.Statements.{parts_left}
use Rattle.covering_laws.specs.covered_memory.Covered.{MemoryIn, Leaves}
use Rattle.covering_laws.proofs.covered_memory.Stays.{same_memory}
use Rattle.covering_laws.specs.covered_state.World.{World, trees_of, sets_of}
use Rattle.covering_laws.specs.covered_state.Items.{Each}
use Rattle.covered_runs.specs.covered_steps.covered_values.Values.{GoesBack}
use Rattle.covered_runs.specs.covered_steps.Made.{HasPlace}
use Rattle.covered_runs.specs.covered_steps.Steps.{NoneBare}
use Rattle.covered_runs.proofs.covered_steps.Made.{instances_ended}
use Rattle.covered_runs.proofs.covered_steps.Steps.{each_at}
use Rattle.covered_runs.proofs.covered_steps.Frames.{then_left, get_either, ended_back, blocks_entered}
use Rattle.covered_runs.specs.covered_steps.covered_statements.Runnable.{IsRunnable}

some_one : {X : Type 0} → {x y : X} → ◌≡◌ {A = Option X} (Some x) (Some y) → x ≡ y
some_one h = cc

some_none : {X : Type 0} → {x : X} → ◌≡◌ {A = Option X} (Some x) None → ⊥
some_none h = cc

-- a covered memory is left covered, and where no instance waited for its type none does then
abbrev pub Keeps : World → List Instance → List Instance → Type 0
Keeps world old new = MemoryIn (sets_of world) old → Leaves (sets_of world) old new × (NoneBare world old → NoneBare world new)

-- an instance that waits for its type did so before
pub back_bare : (world : World) (old new : List Instance) → Leaves (sets_of world) old new → GoesBack old new → NoneBare world old → NoneBare world new
back_bare world old new left back none i inst at b =
    let a = back i inst at in
    let x = left.extends i a.0 a.1 in
    let key : a.0.key ≡ inst.key = sym (x.2.key) ∙ ap (λ (z : Instance). z.key) (some_one (sym x.1 ∙ at)) in
    none i a.0 a.1 (record { untyped = a.2 b.untyped; first = b.first; location = b.location; first_is = ap (first_from 0 world.space) key ∙ b.first_is; location_is = b.location_is; id = b.id; content_is = b.content_is })

pub keeps_same : (world : World) (memory : List Instance) → Keeps world memory memory
keeps_same world memory all = (record { extends = same_memory (sets_of world) memory; covered = all }, λ none. none)

pub keeps_then : (world : World) (a b c : List Instance) → Keeps world a b → Keeps world b c → Keeps world a c
keeps_then world a b c first second all =
    let f = first all in
    let s = second f.0.covered in
    (then_left (sets_of world) a b c f.0 s.0, λ none. s.1 (f.1 none))

-- each object of a block has its type
typed_each : (world : World) (list : List ℕ) → Each (HasPlace world) list → Each (λ inst. inst.ty ≡ None → ⊥) (map (unset_object (trees_of world)) list)
typed_each world [] h = tt
typed_each world (e ∷ rest) h = (λ none. some_none (sym (ap id_in h.0.entity_is) ∙ none), typed_each world rest h.1)

module _ (world : World) (runs : IsRunnable world) where
  pub keeps_left : (b : Block) (s : Blocks) → Keeps world s.memory (left (trees_of world) b s).memory
  keeps_left b s all =
      let list = filter (λ i. is_of (objects_of (trees_of world) b) (slice_get s.memory i)) s.own in
      let one = instances_ended world s.memory list runs.stands.grounds all in
      (one, back_bare world s.memory (left (trees_of world) b s).memory one (ended_back list s.memory))

  pub keeps_entered : (b : Block) (s : Blocks) → Keeps world s.memory (entered (trees_of world) b s).memory
  keeps_entered b s all = (blocks_entered world (b ∷ []) s (runs.places b, tt) all, bare)
    where
      bare : NoneBare world s.memory → NoneBare world (s.memory ++ map (unset_object (trees_of world)) (objects_of (trees_of world) b))
      bare none i inst at h = elim (get_either s.memory (map (unset_object (trees_of world)) (objects_of (trees_of world) b)) i inst at) [
        | inl before ↦ none i inst before h
        | inr new ↦ each_at (λ x. x.ty ≡ None → ⊥) (map (unset_object (trees_of world)) (objects_of (trees_of world) b)) new.0 inst new.1 (typed_each world (objects_of (trees_of world) b) (runs.places b)) h.untyped
      ]

  pub keeps_all_left : (blocks : List Block) (s : Blocks) → Keeps world s.memory (all_left (trees_of world) blocks s).memory
  keeps_all_left [] s = keeps_same world s.memory
  keeps_all_left (b ∷ rest) s =
      keeps_then world s.memory (left (trees_of world) b s).memory (all_left (trees_of world) rest (left (trees_of world) b s)).memory (keeps_left b s) (keeps_all_left rest (left (trees_of world) b s))

  pub keeps_all_entered : (blocks : List Block) (s : Blocks) → Keeps world s.memory (all_entered (trees_of world) blocks s).memory
  keeps_all_entered [] s = keeps_same world s.memory
  keeps_all_entered (b ∷ rest) s =
      keeps_then world s.memory (entered (trees_of world) b s).memory (all_entered (trees_of world) rest (entered (trees_of world) b s)).memory (keeps_entered b s)
      (keeps_all_entered rest (entered (trees_of world) b s))

  pub keeps_parts_left : (parts : List ℕ) (s : Blocks) → Keeps world s.memory (parts_left (trees_of world) parts s).memory
  keeps_parts_left [] s = keeps_same world s.memory
  keeps_parts_left (part ∷ rest) s =
      keeps_then world s.memory (left (trees_of world) (Part part) s).memory (parts_left (trees_of world) rest (left (trees_of world) (Part part) s)).memory (keeps_left (Part part) s)
      (keeps_parts_left rest (left (trees_of world) (Part part) s))
