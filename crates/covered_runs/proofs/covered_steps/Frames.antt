-- Steps that enter and leave functions and blocks leave the state covered.
use Rattle.std.proofs.Common.{◌≡◌, ◌∙◌, inl, inr, ◌⊎◌, ℕ, zero, suc, false, filter, List, [], ◌∷◌, ◌++◌, map, Option, Some, None, slice_get, refl, sym, ap}
use Rattle.obj_space.specs.View.{first_from}
use Rattle.ref_cells.specs.declared.cells.Value.{Value}
use Rattle.ref_cells.specs.declared.instance.Instance.{Instance}
use Rattle.ref_mem.specs.Writes.{changed}
use Rattle.ref_state.specs.declared.items.Item.{Item}
use Rattle.ref_state.specs.declared.items.Item.TheVariants.{Wait, Result as Returned}
use Rattle.ref_state.specs.declared.frames.Frame.{Frame}
use Rattle.ref_state.specs.declared.state.State.{State}
use Rattle.ref_state.specs.Changes.{ended_one, ended_all}
use Rattle.ref_blocks.specs.Blocks.{objects_of, unset_object, is_of, entered, left, all_entered, all_left}
use Rattle.ref_frames.specs.Frames.{caller_given}
use Rattle.covering_laws.specs.covered_memory.Covered.{Sets, InstanceIn, Leaves}
use Rattle.covering_laws.specs.covered_memory.Demands.{Grounds}
use Rattle.covering_laws.proofs.covered_memory.Stays.{same_memory, then_extends}
use Rattle.covering_laws.specs.covered_state.World.{World, trees_of, sets_of}
use Rattle.covering_laws.specs.covered_state.Items.{Each}
use Rattle.covering_laws.specs.covered_state.Awaited.{IsBare}
use Rattle.covering_laws.specs.covered_state.State.{FrameIn, Covered}
use Rattle.covering_laws.proofs.covered_state.Stays.{node_stays, frames_stay, handed_stay, settled_in}
use Rattle.covered_runs.specs.covered_steps.covered_values.Values.{GoesBack}
use Rattle.covered_runs.proofs.covered_steps.covered_values.Awaited.{top_one}
use Rattle.covered_runs.proofs.covered_steps.covered_values.Operands.{same_back, set_back}
use Rattle.covered_runs.specs.covered_steps.Made.{HasPlace}
use Rattle.covered_runs.specs.covered_steps.Steps.{NoneBare}
use Rattle.covered_runs.specs.covered_steps.Frames.{BlocksLeft, BlocksEntered, StepsEntered, StepsLeft}
use Rattle.covered_runs.proofs.covered_steps.Made.{made_so, instances_ended, unset_covered}
use Rattle.covered_runs.proofs.covered_steps.Placed.{some_one}
use Rattle.covered_runs.proofs.covered_steps.Steps.{each_at, own_frames, none_bare}

pub cons_empty : {x : Item} → {xs : List Item} → ◌≡◌ {A = List Item} (x ∷ xs) [] → ⊥
cons_empty h = cc

pub returned_wait : {v : Value} → {m : ℕ} → {left : List ℕ} → {values : List (ℕ × Value)} → Returned v ≡ Wait m left values → ⊥
returned_wait h = cc

pub then_left : (g : Sets) (a b c : List Instance) → Leaves g a b → Leaves g b c → Leaves g a c
then_left g a b c first second = record { extends = then_extends g a b c first.extends second.extends; covered = second.covered }

pub blocks_left : BlocksLeft
blocks_left world [] s grounds all = record { extends = same_memory (sets_of world) s.memory; covered = all }
blocks_left world (b ∷ rest) s grounds all =
    let one : Leaves (sets_of world) s.memory (left (trees_of world) b s).memory = instances_ended world s.memory (filter (λ i. is_of (objects_of (trees_of world) b) (slice_get s.memory i)) s.own) grounds all in
    then_left (sets_of world) s.memory (left (trees_of world) b s).memory (all_left (trees_of world) rest (left (trees_of world) b s)).memory one
    (blocks_left world rest (left (trees_of world) b s) grounds one.covered)

unset_all : (world : World) (memory : List Instance) (list : List ℕ) → Each (HasPlace world) list → Each (InstanceIn (sets_of world) memory) (map (unset_object (trees_of world)) list)
unset_all world memory [] h = tt
unset_all world memory (e ∷ rest) h = (unset_covered world memory e h.0, unset_all world memory rest h.1)

pub blocks_entered : BlocksEntered
blocks_entered world [] s places all = record { extends = same_memory (sets_of world) s.memory; covered = all }
blocks_entered world (b ∷ rest) s places all =
    let one : Leaves (sets_of world) s.memory (entered (trees_of world) b s).memory =
    made_so (sets_of world) s.memory (map (unset_object (trees_of world)) (objects_of (trees_of world) b)) all (unset_all world s.memory (objects_of (trees_of world) b) places.0) in
    then_left (sets_of world) s.memory (entered (trees_of world) b s).memory (all_entered (trees_of world) rest (entered (trees_of world) b s)).memory one
    (blocks_entered world rest (entered (trees_of world) b s) places.1 one.covered)

-- what stands in the longer of two memories was there before, or is one of the new ones
pub get_either : (xs ys : List Instance) (i : ℕ) (a : Instance) → slice_get (xs ++ ys) i ≡ Some a → (slice_get xs i ≡ Some a) ⊎ ((j : ℕ) × (slice_get ys j ≡ Some a))
get_either [] ys i a e = inr (i, e)
get_either (x ∷ xs) ys zero a e = inl e
get_either (x ∷ xs) ys (suc i) a e = get_either xs ys i a e

pub steps_entered : StepsEntered
steps_entered world state f rest top items fresh frame notes covered frames_are items_are other made typed framed noted = record {
  memory = more.covered;
  frames = (framed, frames_stay world state.memory (state.memory ++ fresh) more.extends (f ∷ rest) (own_frames world state f rest covered frames_are));
  kept = covered.kept;
  notes = noted;
  handed = handed_stay world state.memory (state.memory ++ fresh) more.extends state.handed covered.handed;
  awaited = record { each = λ i inst at b. absurd (bare i inst at b) };
}
  where
    more : Leaves (sets_of world) state.memory (state.memory ++ fresh)
    more = made_so (sets_of world) state.memory fresh covered.memory made

    bare : NoneBare world (state.memory ++ fresh)
    bare i inst at b = elim (get_either state.memory fresh i inst at) [
      | inl before ↦ none_bare world state f rest covered frames_are top items items_are other i inst before b
      | inr new ↦ each_at (λ x. IsBare world x → ⊥) fresh new.0 inst new.1 typed b
    ]

-- ended instances go back to what they were
pub ended_back : (list : List ℕ) (memory : List Instance) → GoesBack memory (ended_all memory list)
ended_back [] memory = same_back memory
ended_back (i ∷ rest) memory = λ j b at. (let later = ended_back rest (ended_one memory i) j b at in let before = one (slice_get memory i) refl j later.0 later.1 in (before.0, before.1, λ none. before.2 (later.2 none)))
  where
    one : (o : Option Instance) → slice_get memory i ≡ o → GoesBack memory (changed memory i o (λ inst. record inst { live = false }))
    one None is = same_back memory
    one (Some x) is = set_back memory i x (record x { live = false }) is (λ none. none)

-- the top frame is left: its items are done, or a value is returned
module _ (world : World) (state : State) (f : Frame) (rest : List Frame) (grounds : Grounds world.program.types world.space world.system) (covered : Covered world state) (frames_are : state.frames ≡ f ∷ rest)
    (done : (f.items ≡ []) ⊎ ((v : Value) × (items : List Item) × (f.items ≡ Returned v ∷ items))) where
  pub frame_ended : Leaves (sets_of world) state.memory (ended_all state.memory f.instances)
  frame_ended = instances_ended world state.memory f.instances grounds covered.memory

  none : (i : ℕ) (inst : Instance) → slice_get state.memory i ≡ Some inst → IsBare world inst → ⊥
  none i inst at b =
      let w = covered.awaited.each i inst at b in
      let same = ap (λ (g : Frame). g.items) (top_one (sym frames_are ∙ w.frames_are)) ∙ w.items_are in
      elim done [
        | inl empty ↦ cons_empty (sym same ∙ empty)
        | inr result ↦ returned_wait (top_one (sym result.2 ∙ same))
      ]

  pub none_after : NoneBare world (ended_all state.memory f.instances)
  none_after i inst at b =
      let a = ended_back f.instances state.memory i inst at in
      let x = frame_ended.extends i a.0 a.1 in
      let key : a.0.key ≡ inst.key = sym (x.2.key) ∙ ap (λ (z : Instance). z.key) (some_one (sym x.1 ∙ at)) in
      none i a.0 a.1 (record { untyped = a.2 b.untyped; first = b.first; location = b.location; first_is = ap (first_from 0 world.space) key ∙ b.first_is; location_is = b.location_is; id = b.id; content_is = b.content_is })

pub steps_left : StepsLeft
steps_left world state f rest n value grounds covered frames_are done h = record {
  memory = ended.covered;
  frames = given rest (frames_stay world state.memory (ended_all state.memory f.instances) ended.extends rest (own_frames world state f rest covered frames_are).1);
  kept = covered.kept;
  notes = record { target = tt; stores = tt };
  handed = handed_stay world state.memory (ended_all state.memory f.instances) ended.extends state.handed covered.handed;
  awaited = record { each = λ i inst at b. absurd (none_after world state f rest grounds covered frames_are done i inst at b) };
}
  where
    ended : Leaves (sets_of world) state.memory (ended_all state.memory f.instances)
    ended = frame_ended world state f rest grounds covered frames_are done

    given : (frames : List Frame) → Each (FrameIn world (ended_all state.memory f.instances)) frames → Each (FrameIn world (ended_all state.memory f.instances)) (caller_given n value frames)
    given [] h = tt
    given (g ∷ more) own = (
      record {
        called = own.0.called;
        back = own.0.back;
        entered = own.0.entered;
        items = settled_in world (ended_all state.memory f.instances) g.function n value g.items (node_stays world state.memory (ended_all state.memory f.instances) ended.extends n value h) own.0.items;
      },
      own.1,
    )
