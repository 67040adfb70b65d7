-- What a function gives at which the program is entered is handed over.
use Rattle.std.proofs.Common.{◌≡◌, ◌∙◌, ◌≢◌, inl, inr, ◌⊎◌, ℕ, List, [], ◌∷◌, Option, Some, None, Contains, refl, sym, ap, subst}
use Rattle.std.specs.Option.{option_map}
use Rattle.std.proofs.lemmas.List.Elements.{All-contains}
use Rattle.c_types.specs.declared.key.ObjectKey.{ObjectKey}
use Rattle.c_types.specs.declared.key.ObjectKey.TheVariants.{Entity as EntityKey}
use Rattle.c_types.specs.declared.term.TypeId.{TypeId}
use Rattle.c_types.specs.Trees.{Ctype, VoidType, FunctionFrom}
use Rattle.c_types.specs.Table.{type_of}
use Rattle.type_rules.specs.Conversions.{result_of}
use Rattle.type_rules.specs.Kinds.{IsScalar, IsEntryType}
use Rattle.core_tree.specs.declared.node.Entity.{Entity}
use Rattle.core_tree.specs.Valid.{IsEntryAt}
use Rattle.row_numbers.specs.Functions.{entity_in, type_or_void, key_type}
use Rattle.ref_cells.specs.declared.cells.Cell.{Cell}
use Rattle.ref_cells.specs.declared.cells.Cell.TheVariants.{Unset, Number, Null, Pointer, Function}
use Rattle.ref_cells.specs.declared.cells.Value.{Value}
use Rattle.ref_cells.specs.declared.instance.Instance.{Instance}
use Rattle.ref_state.specs.declared.items.Item.{Item}
use Rattle.ref_state.specs.declared.items.Item.TheVariants.{Result as Returned}
use Rattle.ref_state.specs.Changes.{ended_all}
use Rattle.ref_state.specs.Values.{no_value, cell_of}
use Rattle.ref_frames.specs.Frames.{result_of as result_id, handed_over, left_start, left_with}
use Rattle.covering_laws.specs.covered_memory.Covered.{CellIn, Leaves, outside_row}
use Rattle.covering_laws.specs.covered_rows.Laws.{Solved}
use Rattle.covering_laws.proofs.covered_rows.Targets.{entity_listed}
use Rattle.covering_laws.proofs.covered_outside.Given.{entries_give}
use Rattle.covering_laws.specs.covered_state.World.{World, trees_of, sets_of}
use Rattle.covering_laws.specs.covered_state.Items.{Each, ReturnedIn}
use Rattle.covering_laws.specs.covered_state.State.{IsEntered, EnteredIn, HandedIn, Covered}
use Rattle.covering_laws.proofs.covered_state.Stays.{each_append, frames_stay, handed_stay}
use Rattle.covered_runs.specs.covered_steps.covered_values.Values.{Stands, IsOpened}
use Rattle.covered_runs.specs.covered_steps.Steps.{nothing}
use Rattle.covered_runs.proofs.covered_steps.Steps.{own_frames, own_items}
use Rattle.covered_runs.proofs.covered_steps.Frames.{frame_ended, none_after}
use Rattle.covered_runs.specs.covered_steps.covered_calls.Results.{StepsHanded}

listed_none : (first : ℕ) (more : List ℕ) → first ∷ more ≡ [] → ⊥
listed_none first more h = cc

-- such a function gives nothing, a number or a pointer
entry_result : (t : Ctype) → IsEntryType t → (result_of t ≡ VoidType) ⊎ IsScalar (result_of t)
entry_result (FunctionFrom r ps f) h = h.1
entry_result t h = absurd h

-- a world in which sets are closed
abbrev solved : (world : World) → Stands world → Solved
solved world stands = record {
  program = world.program;
  space = world.space;
  system = world.system;
  is_system = world.is_system;
  family = world.family;
  closed = stands.closed;
  grounds = stands.grounds;
}

module _ (world : World) (stands : Stands world) (memory : List Instance) (v : Value) where
  -- what it returns is in the row of what lies outside
  entry_gives : (opened : IsOpened world) (e : ℕ) → Contains world.program.entries.items e → ReturnedIn world memory (EntityKey e) v → CellIn (sets_of world) memory (outside_row (sets_of world)) (cell_of v)
  entry_gives opened e has h =
      let entry : IsEntryAt (trees_of world) e = All-contains (λ x. IsEntryAt (trees_of world) x) world.program.entries.items e opened.entries has in
      let first = opened.firsts e has in
      let type_is : key_type (trees_of world) (EntityKey e) ≡ type_of world.program.types entry.0.ty.0 = ap (λ (o : Option Entity). type_or_void world.program.types (option_map (λ (x : Entity). x.ty) o)) entry.1 in
      entries_give (solved world stands) e first.0 (result_of (key_type (trees_of world) (EntityKey e))) memory v opened.outside has
      (entity_listed (trees_of world) e entry.0 entry.1 entry.2.storage) first.1 refl
      (subst (λ (t : Ctype). (result_of t ≡ VoidType) ⊎ IsScalar (result_of t)) (sym type_is) (entry_result (type_of world.program.types entry.0.ty.0) entry.2.type)) h

  entered_gives : (key : ObjectKey) → world.program.entries.items ≢ [] → IsEntered world key → ReturnedIn world memory key v → CellIn (sets_of world) memory (outside_row (sets_of world)) (cell_of v)
  entered_gives key some entered h =
      let own = entered some in
      entry_gives (stands.opened some) own.0 own.2 (subst (λ (k : ObjectKey). ReturnedIn world memory k v) own.1 h)

-- what is handed over stands behind what was
over_in : (world : World) (memory : List Instance) (handed : List (TypeId × Cell)) (ty : Option TypeId) (c : Cell) → Each (HandedIn world memory) handed → CellIn (sets_of world) memory (outside_row (sets_of world)) c
    → Each (HandedIn world memory) (handed_over handed ty c)
over_in world memory handed (Some id) (Pointer i path past) each h = each_append (HandedIn world memory) handed ((id, Pointer i path past) ∷ []) each (h, tt)
over_in world memory handed (Some id) (Function key) each h = each_append (HandedIn world memory) handed ((id, Function key) ∷ []) each (h, tt)
over_in world memory handed (Some id) Unset each h = each
over_in world memory handed (Some id) (Number n) each h = each
over_in world memory handed (Some id) Null each h = each
over_in world memory handed None c each h = each

pub steps_handed : StepsHanded
steps_handed world state f rest first more value stands covered frames_are call by entries_are done =
    subst (λ (c : Option ℕ). Covered world (record (left_with (trees_of world) world.program.entries.items state f rest value c f.by) { notes = nothing })) (sym call)
    (subst (λ (b : Option ℕ). Covered world (record (left_with (trees_of world) world.program.entries.items state f rest value None b) { notes = nothing })) (sym by)
    (subst (λ (entries : List ℕ). Covered world (record (left_start (trees_of world) entries state f rest value) { notes = nothing })) (sym entries_are) after))
  where
    some : world.program.entries.items ≢ []
    some = λ none. listed_none first more (sym entries_are ∙ none)

    either : ((f.items ≡ []) × (value ≡ no_value)) ⊎ ((items : List Item) × (f.items ≡ Returned value ∷ items)) → (f.items ≡ []) ⊎ ((v : Value) × (items : List Item) × (f.items ≡ Returned v ∷ items))
    either (inl e) = inl e.0
    either (inr r) = inr (value, r.0, r.1)

    ended : Leaves (sets_of world) state.memory (ended_all state.memory f.instances)
    ended = frame_ended world state f rest stands.grounds covered frames_are (either done)

    entered : IsEntered world f.function
    entered =
        subst (λ (c : Option ℕ). EnteredIn world f.function c None) call
        (subst (λ (b : Option ℕ). EnteredIn world f.function f.call b) by (own_frames world state f rest covered frames_are).0.entered)

    gives : ((f.items ≡ []) × (value ≡ no_value)) ⊎ ((items : List Item) × (f.items ≡ Returned value ∷ items)) → CellIn (sets_of world) state.memory (outside_row (sets_of world)) (cell_of value)
    gives (inl e) = subst (λ (v : Value). CellIn (sets_of world) state.memory (outside_row (sets_of world)) (cell_of v)) (sym e.1) tt
    gives (inr r) = entered_gives world stands state.memory value f.function some entered (own_items world state f rest covered frames_are (Returned value) r.0 r.1).0

    after : Covered world (record (left_start (trees_of world) (first ∷ more) state f rest value) { notes = nothing })
    after = record {
      memory = ended.covered;
      frames = frames_stay world state.memory (ended_all state.memory f.instances) ended.extends rest (own_frames world state f rest covered frames_are).1;
      kept = covered.kept;
      notes = record { target = tt; stores = tt };
      handed = handed_stay world state.memory (ended_all state.memory f.instances) ended.extends (handed_over state.handed (result_id (trees_of world) (entity_in (trees_of world) f.function)) (cell_of value))
          (over_in world state.memory state.handed (result_id (trees_of world) (entity_in (trees_of world) f.function)) (cell_of value) covered.handed (gives done));
      awaited = record { each = λ i inst at b. absurd (none_after world state f rest stands.grounds covered frames_are (either done) i inst at b) };
    }
