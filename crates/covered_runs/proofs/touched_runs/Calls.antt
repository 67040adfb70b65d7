-- The cells that a library function accesses have locations that the function around its call touches.
use Rattle.std.proofs.Common.{◌≡◌, ◌∙◌, inl, inr, ℕ, true, false, List, [], Option, Some, None, slice_get, IsSome, refl, sym, ap, subst}
use Rattle.std.proofs.lemmas.Bool.{false≢true}
use Rattle.c_types.specs.declared.key.ObjectKey.{ObjectKey}
use Rattle.c_types.specs.declared.key.ObjectKey.TheVariants.{Entity as EntityKey, Library as LibraryKey}
use Rattle.c_types.specs.declared.term.PathStep.{PathStep}
use Rattle.c_types.specs.declared.term.TypeId.{TypeId}
use Rattle.sol_model.specs.Families.{Family}
use Rattle.obj_made.specs.declared.object.Content.TheVariants.{Scalars}
use Rattle.obj_space.specs.Objects.{LibraryRow, library_rows}
use Rattle.obj_space.specs.View.{first_from}
use Rattle.row_numbers.specs.Functions.{number_of}
use Rattle.mod_ref.specs.declared.access.Access.{Access}
use Rattle.mod_ref.specs.Direct.{IsInArguments, IsMade, IsWrite, CallsTouch}
use Rattle.ref_cells.specs.declared.cells.Cell.{Cell}
use Rattle.ref_cells.specs.declared.cells.Value.{Value}
use Rattle.ref_cells.specs.declared.instance.Instance.{Instance}
use Rattle.ref_cells.specs.Wholes.{whole_of}
use Rattle.ref_lib.specs.declared.rows.Making.TheVariants.{Malloc, Calloc, Realloc, Classes}
use Rattle.ref_lib.specs.declared.rows.Texts.TheVariants.{Duplicate}
use Rattle.ref_lib.specs.declared.rows.Row.{Row}
use Rattle.ref_lib.specs.declared.rows.Row.TheVariants.{Makes, Writes}
use Rattle.ref_lib.specs.Effects.{rows}
use Rattle.ref_state.specs.declared.frames.Frame.{Frame}
use Rattle.ref_state.specs.declared.state.State.{State}
use Rattle.ref_calls.specs.Library.{object_of}
use Rattle.covering_laws.specs.covered_memory.Spots.{spot, spot_from}
use Rattle.covering_laws.specs.covered_memory.Covered.{MemoryIn}
use Rattle.covering_laws.specs.covered_state.World.{World, trees_of, view_in, sets_of, setting_in}
use Rattle.covering_laws.specs.covered_state.Items.{IsOwned, IsPending}
use Rattle.covering_laws.specs.covered_state.State.{Covered}
use Rattle.covering_laws.proofs.covered_memory.Firsts.{is_first}
use Rattle.covered_runs.specs.covered_steps.Steps.{NoneBare}
use Rattle.covered_runs.specs.covered_steps.covered_statements.Runnable.{IsRunnable}
use Rattle.covered_runs.proofs.covered_steps.covered_effects.Called.{contains_at}
use Rattle.covered_runs.proofs.covered_steps.covered_effects.Backed.{quiet}
use Rattle.covered_runs.proofs.covered_steps.covered_effects.Needs.{fact, needs_met}
use Rattle.covered_runs.specs.machine_sound.Carried.{IsSteppable}
use Rattle.covered_runs.specs.touched_runs.Accesses.{IsOfArgument, IsMaker, MadeBy, MayHold, MayBeCell}
use Rattle.covered_runs.specs.touched_runs.Touched.{IsTouchOf, AreNumbered, IsTouchedBy}
use Rattle.covered_runs.proofs.touched_runs.Numbers.{site_at, caller_is}
use Rattle.covered_runs.proofs.touched_runs.Pointed.{made_under, scalars_first, scalars_under, pointer_reached}
use Rattle.covered_runs.proofs.touched_runs.Given.{IsLookedThrough, pending_reaches, frame_at, state_at, awaited_at}

some_one : {X : Type 0} → {x y : X} → ◌≡◌ {A = Option X} (Some x) (Some y) → x ≡ y
some_one h = cc

none_some : {X : Type 0} → {x : X} → ◌≡◌ {A = Option X} None (Some x) → ⊥
none_some h = cc

-- a function that makes an object does more than look
pub maker_loud : (row : Row) → IsMaker row → quiet row ≡ true → ⊥
maker_loud (Makes Malloc) h q = false≢true q
maker_loud (Makes Calloc) h q = false≢true q
maker_loud (Makes Realloc) h q = false≢true q
maker_loud (Writes Duplicate) h q = false≢true q
maker_loud row h q = absurd h

-- so does the one that sets the classes of characters
pub classes_there : slice_get rows 53 ≡ Some (Makes Classes)
unfolding rows
classes_there = refl

-- the classes of characters are an object of scalars
classes_row : (row : LibraryRow) → slice_get library_rows 8 ≡ Some row → row.content ≡ Scalars 1
unfolding library_rows
classes_row row h = ap (λ (r : LibraryRow). r.content) (sym (some_one h))

spot_first : (world : World) (key : ObjectKey) (path : List PathStep) (l : ℕ) → spot world.program.types world.space key path ≡ Some l → (first : ℕ) × (first_from 0 world.space key ≡ Some first)
spot_first world key path l lands = by (first_from 0 world.space key) refl lands
  where
    by : (o : Option ℕ) → first_from 0 world.space key ≡ o → spot_from world.program.types world.space o path ≡ Some l → (first : ℕ) × (first_from 0 world.space key ≡ Some first)
    by None is h = absurd (none_some h)
    by (Some first) is h = (first, is)

module _ (world : World) (access : Access) (touch : Family) (closed : IsTouchOf world access touch) (numbered : AreNumbered world) (e n : ℕ) (owned : IsOwned world (EntityKey e) n) where
  -- what a call of the function touches
  call_has : (l : ℕ) → CallsTouch (setting_in world) world.system world.family access (number_of (trees_of world) (view_in world) e) l → IsTouchedBy world touch (EntityKey e) l
  call_has l touches = record { number = number_of (trees_of world) (view_in world) e; function = numbered e n owned; has = closed.direct (number_of (trees_of world) (view_in world) e) l (inr touches) }

  -- a cell to which an argument leads
  pub argument_touched : (runs : IsRunnable world) (memory : List Instance) → MemoryIn (sets_of world) memory → (cell : Cell) → IsLookedThrough world memory n cell → (i l : ℕ) (key : ObjectKey) (path : List PathStep) → IsOfArgument cell i path
      → MayBeCell world.program.types memory i key path → spot world.program.types world.space key path ≡ Some l → IsTouchedBy world touch (EntityKey e) l
  argument_touched runs memory all cell looked i l key path a c lands =
      let points = looked.held i a.front a.past a.argument_is in
      let may_hold = subst (λ (p : List PathStep). MayHold world.program.types (whole_of world.program.types c.inst) p) a.path_is c.may_hold in
      let own_lands = ap (λ (p : List PathStep). spot world.program.types world.space c.inst.key p) (sym a.path_is) ∙ (ap (λ (k : ObjectKey). spot world.program.types world.space k path) c.key_is ∙ lands) in
      let reached =
      pointer_reached (sets_of world) world.system runs.stands.grounds runs.stands.few memory all looked.row i a.front a.past points c.inst c.there a.beside a.below a.is_beside may_hold l own_lands in
      let in_arguments : IsInArguments world.system world.family looked.site l = record { rows = looked.list; argument = looked.given; row = looked.row; listed = looked.listed; reached = reached } in
      call_has l (record { call = looked.site; there = looked.there; caller = caller_is world e n looked.site looked.right owned; touches = (looked.number, looked.function, looked.target, inl in_arguments) })

  module _ (characters : TypeId) (h : IsSteppable world characters) (state : State) (f : Frame) (rest : List Frame) (covered : Covered world state) (none : NoneBare world state.memory) (k : ℕ) (arguments : List Value)
      (pending : IsPending world state.memory n k arguments) (writes : IsWrite access) where
    made_has : (l : ℕ) → IsMade (view_in world) world.system pending.target.target.0 pending.target.function pending.target.target.1 l → IsTouchedBy world touch (EntityKey e) l
    made_has l made =
        let site = pending.target.target.0 in
        let at = pending.target.target.2 in
        let own = fact world h.runs.stands characters h.served n k (pending_reaches world state.memory n k arguments pending) in
        call_has l
        (record {
          call = site;
          there = contains_at world.system.calls pending.target.call site at;
          caller = caller_is world e n site (site_at world n pending.target.call site pending.target.call_is at) owned;
          touches = (pending.target.function, pending.target.target.1, record { target = pending.target.target.3; library = subst IsSome (sym own.library) refl }, inr (writes, made));
        })

    -- a cell of an object that the call makes
    pub made_touched : (key : ObjectKey) (path : List PathStep) (l : ℕ) → MadeBy (trees_of world) n k key → spot world.program.types world.space key path ≡ Some l → IsTouchedBy world touch (EntityKey e) l
    made_touched key path l (inl (row, row_is, maker, key_is)) lands = by row row_is maker
      where
        own_lands : spot world.program.types world.space (object_of (trees_of world) n k) path ≡ Some l
        own_lands = ap (λ (o : ObjectKey). spot world.program.types world.space o path) (sym key_is) ∙ lands

        by : (r : Row) → slice_get rows k ≡ Some r → IsMaker r → IsTouchedBy world touch (EntityKey e) l
        by (Makes Malloc) is m =
            let needs =
            needs_met world h.runs.stands characters h.served n k (pending_reaches world state.memory n k arguments pending) (state_at world characters h state f rest covered none n k arguments) (frame_at world characters h state f rest covered none n k arguments) rest
            arguments [] (awaited_at world characters h state f rest covered none n k arguments) refl refl covered.memory pending.arguments_in (Makes Malloc) is in
            let fresh = needs.1 in
            made_has l
            (inl (
              fresh.0.first,
              fresh.1,
              made_under (sets_of world) world.system h.runs.stands.grounds h.runs.stands.few (object_of (trees_of world) n k) fresh.0.first fresh.0.location fresh.0.first_is fresh.0.location_is fresh.0.shape path l own_lands,
            ))
        by (Makes Calloc) is m =
            let needs =
            needs_met world h.runs.stands characters h.served n k (pending_reaches world state.memory n k arguments pending) (state_at world characters h state f rest covered none n k arguments) (frame_at world characters h state f rest covered none n k arguments) rest
            arguments [] (awaited_at world characters h state f rest covered none n k arguments) refl refl covered.memory pending.arguments_in (Makes Calloc) is in
            let fresh = needs.1 in
            made_has l
            (inl (
              fresh.0.first,
              fresh.1,
              made_under (sets_of world) world.system h.runs.stands.grounds h.runs.stands.few (object_of (trees_of world) n k) fresh.0.first fresh.0.location fresh.0.first_is fresh.0.location_is fresh.0.shape path l own_lands,
            ))
        by (Makes Realloc) is m =
            let needs =
            needs_met world h.runs.stands characters h.served n k (pending_reaches world state.memory n k arguments pending) (state_at world characters h state f rest covered none n k arguments) (frame_at world characters h state f rest covered none n k arguments) rest
            arguments [] (awaited_at world characters h state f rest covered none n k arguments) refl refl covered.memory pending.arguments_in (Makes Realloc) is in
            let fresh = needs.2 in
            made_has l
            (inl (
              fresh.0.first,
              fresh.1,
              made_under (sets_of world) world.system h.runs.stands.grounds h.runs.stands.few (object_of (trees_of world) n k) fresh.0.first fresh.0.location fresh.0.first_is fresh.0.location_is fresh.0.shape path l own_lands,
            ))
        by (Writes Duplicate) is m =
            let needs =
            needs_met world h.runs.stands characters h.served n k (pending_reaches world state.memory n k arguments pending) (state_at world characters h state f rest covered none n k arguments) (frame_at world characters h state f rest covered none n k arguments) rest
            arguments [] (awaited_at world characters h state f rest covered none n k arguments) refl refl covered.memory pending.arguments_in (Writes Duplicate) is in
            let text = needs.1 in
            let x = text.2 in
            made_has l
            (inl (
              x.first,
              text.3,
              scalars_under (sets_of world) world.system h.runs.stands.grounds h.runs.stands.few (object_of (trees_of world) n k) x.first x.scalar x.location x.first_is x.location_is x.content_is text.0 x.is_scalar x.scalar_is path l own_lands,
            ))
        by r is m = absurd m
    made_touched key path l (inr (number, key_is)) lands =
        let own = fact world h.runs.stands characters h.served n k (pending_reaches world state.memory n k arguments pending) in
        let own_lands : spot world.program.types world.space (LibraryKey 8) path ≡ Some l = ap (λ (o : ObjectKey). spot world.program.types world.space o path) (sym key_is) ∙ lands in
        let first = spot_first world (LibraryKey 8) path l own_lands in
        let here = (is_first world.space (LibraryKey 8) first.0 first.1).here in
        let row = h.served.objects first.0 here.0 8 here.1 here.2 in
        let one = scalars_first (sets_of world) world.system h.runs.stands.grounds h.runs.stands.few (LibraryKey 8) first.0 1 here.0 first.1 here.1 (row.2 ∙ classes_row row.0 row.1) path l own_lands in
        made_has l (inr (own.library ∙ ap (λ (m : ℕ). Some m) number, first.1 ∙ ap (λ (m : ℕ). Some m) (sym one)))
