-- Instances that are made and ended over a covered memory.
use Rattle.std.proofs.Common.{◌≡◌, ◌∙◌, ℕ, ◌+◌, List, [], ◌∷◌, ◌++◌, append-nil, append_assoc, Option, Some, None, refl, sym, ap, subst}
use Rattle.std.specs.Option.{option_map}
use Rattle.c_types.specs.declared.key.ObjectKey.{ObjectKey}
use Rattle.c_types.specs.declared.key.ObjectKey.TheVariants.{Entity as EntityKey}
use Rattle.c_types.specs.Trees.{Ctype}
use Rattle.c_types.specs.Table.{type_of}
use Rattle.core_tree.specs.declared.node.Entity.{Entity}
use Rattle.obj_made.specs.declared.object.Content.{Content}
use Rattle.obj_space.specs.View.{first_from}
use Rattle.ref_cells.specs.declared.instance.Instance.{Instance}
use Rattle.ref_cells.specs.Wholes.{typed_whole, whole_of}
use Rattle.ref_state.specs.Changes.{ended_one, ended_all}
use Rattle.ref_blocks.specs.Blocks.{id_in, unset_object}
use Rattle.ref_frames.specs.Frames.{parameter_object}
use Rattle.covering_laws.specs.covered_memory.Spots.{whole_part, IsFurther}
use Rattle.covering_laws.specs.covered_memory.Covered.{Sets, CellsIn, object_row, HasShape, InstanceIn, MemoryIn, Leaves}
use Rattle.covering_laws.proofs.covered_memory.Stays.{same_memory, then_extends, instance_stays, cells_in, one_more}
use Rattle.covering_laws.proofs.covered_memory.Changes.{end_law}
use Rattle.covering_laws.specs.covered_state.World.{World, trees_of, sets_of}
use Rattle.covering_laws.specs.covered_state.Items.{Each}
use Rattle.covering_laws.proofs.covered_state.Stays.{each_change}
use Rattle.covered_runs.specs.covered_steps.Made.{HasPlace, InstancesMade, InstancesEnded, UnsetCovered, ParametersCovered}

some_none : {X : Type 0} → {x : X} → ◌≡◌ {A = Option X} (Some x) None → ⊥
some_none h = cc

pub made_so : (g : Sets) (memory news : List Instance) → MemoryIn g memory → Each (InstanceIn g memory) news → Leaves g memory (memory ++ news)
made_so g memory [] all h = subst (Leaves g memory) (sym (append-nil memory)) (record { extends = same_memory g memory; covered = all })
made_so g memory (x ∷ rest) all h =
    let one = one_more g memory x all h.0 in
    let more = made_so g (memory ++ x ∷ []) rest one.covered
    (each_change (InstanceIn g memory) (InstanceIn g (memory ++ x ∷ [])) (instance_stays g memory (memory ++ x ∷ []) one.extends) rest h.1) in
    subst (Leaves g memory) (append_assoc memory (x ∷ []) rest)
    (record { extends = then_extends g memory (memory ++ x ∷ []) ((memory ++ x ∷ []) ++ rest) one.extends more.extends; covered = more.covered })

pub instances_made : InstancesMade
instances_made world memory news grounds all h = made_so (sets_of world) memory news all h

pub instances_ended : InstancesEnded
instances_ended world memory [] grounds all = record { extends = same_memory (sets_of world) memory; covered = all }
instances_ended world memory (i ∷ rest) grounds all =
    let one = end_law (sets_of world) world.system grounds memory i all in
    let more = instances_ended world (ended_one memory i) rest grounds one.covered in
    record { extends = then_extends (sets_of world) memory (ended_one memory i) (ended_all (ended_one memory i) rest) one.extends more.extends; covered = more.covered }

-- an object of an entity, whatever cells it has
module _ (world : World) (memory : List Instance) (e : ℕ) (h : HasPlace world e) (inst : Instance) (key : inst.key ≡ EntityKey e) (ty : inst.ty ≡ Some h.entity.ty)
    (cells : CellsIn (sets_of world) memory (λ i. h.first + i) (whole_part (Some (type_of world.program.types h.entity.ty.0))) inst.cells) where
  whole_is : whole_of world.program.types inst ≡ Some (type_of world.program.types h.entity.ty.0)
  whole_is = ap (typed_whole world.program.types inst) ty ∙ keyed
    where
      keyed : typed_whole world.program.types inst (Some h.entity.ty) ≡ Some (type_of world.program.types h.entity.ty.0)
      keyed = ap (λ (k : ObjectKey). typed_whole world.program.types (record inst { key = k }) (Some h.entity.ty)) key

  plain : IsFurther inst.key → ⊥
  plain f = subst IsFurther key f

  object_in : InstanceIn (sets_of world) memory inst
  object_in = record {
    first = h.first;
    location = h.location;
    first_is = ap (first_from 0 world.space) key ∙ h.first_is;
    location_is = h.location_is;
    shape = subst (λ (c : Content). HasShape world.program.types c (whole_of world.program.types inst)) (sym h.content_is) (whole_is, h.complete);
    untyped = λ none. absurd (some_none (sym ty ∙ none));
    further = λ f. absurd (plain f);
    cells = cells_in (sets_of world) memory inst h.location.content h.first (λ f. absurd (plain f)) inst.cells
        (subst (λ (c : Content). CellsIn (sets_of world) memory (object_row c h.first) (whole_part (whole_of world.program.types inst)) inst.cells) (sym h.content_is)
        (subst (λ (o : Option Ctype). CellsIn (sets_of world) memory (λ i. h.first + i) (whole_part o) inst.cells) (sym whole_is) cells));
  }

pub unset_covered : UnsetCovered
unset_covered world memory e h = object_in world memory e h (unset_object (trees_of world) e) refl (ap id_in h.entity_is) tt

pub parameters_covered : ParametersCovered
parameters_covered world memory e value h cells =
    object_in world memory e h (parameter_object (trees_of world) (EntityKey e) value) refl (ap (λ (o : Option Entity). option_map (λ (x : Entity). x.ty) o) h.entity_is) cells
