-- The step that enters a function at which the program is entered, or ends the program, leaves the state covered.
use Rattle.std.proofs.Common.{arith, ◌≡◌, ◌∙◌, ℕ, zero, suc, ◌+◌, ◌%◌, ◌/◌, pos, Bool, true, false, cond, IsSome, is_some, Contains, List, [], ◌∷◌, ◌++◌, append-nil, append_assoc, filter, map, length, length-append, get_or, Option, Some, None, Ok, slice_get, refl, sym, ap, subst}
use Rattle.std.specs.Option.{option_map}
use Rattle.std.proofs.lemmas.List.Elements.{All-contains}
use Rattle.c_types.specs.declared.key.ObjectKey.{ObjectKey}
use Rattle.c_types.specs.declared.key.ObjectKey.TheVariants.{Entity as EntityKey}
use Rattle.c_types.specs.declared.term.Form.TheVariants.{Fixed, Variadic, Unspecified}
use Rattle.c_types.specs.declared.term.TypeId.{TypeId}
use Rattle.c_types.specs.Trees.{Ctype, PointerTo, FunctionFrom}
use Rattle.c_types.specs.Table.{Table, type_of, extent_in}
use Rattle.type_rules.specs.Kinds.{IsEntryType}
use Rattle.core_tree.specs.declared.node.Entity.{Entity}
use Rattle.core_tree.specs.Valid.{IsEntryAt}
use Rattle.obj_made.specs.declared.object.Content.TheVariants.{Blob, Elements}
use Rattle.obj_space.specs.declared.location.Location.{Location}
use Rattle.obj_space.specs.View.{first_from}
use Rattle.obj_space.proofs.Preorder.{get_behind}
use Rattle.row_numbers.specs.Functions.{key_id, type_or_void, key_type, parameters_of}
use Rattle.row_numbers.specs.Setting.{takes_further}
use Rattle.ref_cells.specs.declared.cells.Cell.{Cell}
use Rattle.ref_cells.specs.declared.cells.Cell.TheVariants.{Unset, Number, Null, Pointer, Function as FunctionCell}
use Rattle.ref_cells.specs.declared.cells.Value.{Value}
use Rattle.ref_cells.specs.declared.instance.Instance.{Instance}
use Rattle.ref_cells.specs.Numbers.{converted}
use Rattle.ref_mem.specs.Reads.{one_cell}
use Rattle.ref_elements.specs.Types.{same_type}
use Rattle.ref_elements.specs.Outcomes.{start_of}
use Rattle.ref_values.specs.Memory.{pointee, complete_only}
use Rattle.ref_state.specs.declared.state.State.{State}
use Rattle.ref_frames.specs.declared.entering.Activation.{Activation}
use Rattle.ref_frames.specs.Running.{Running}
use Rattle.ref_frames.specs.Frames.{parameter_object, parameter_objects, pointers_from, activation, called_list, all_ended, entered}
use Rattle.ref_frames.specs.OnTop.{only, on_top}
use Rattle.ref_start.specs.Begin.{main_entry}
use Rattle.ref_start.specs.Entries.{Given, handed_as, outside_object, with_argument, with_object, with_new, with_pointer, given_as, given_under, given_one, given_all, given_to, with_given, entered_given, ends, enters_or_ends, enters_one}
use Rattle.covering_laws.specs.covered_memory.Covered.{CellIn, ValueIn, InstanceIn, MemoryIn, Extends, Leaves, outside_row}
use Rattle.covering_laws.specs.covered_library.Calls.{StoresIn}
use Rattle.covering_laws.specs.covered_rows.Laws.{Solved}
use Rattle.covering_laws.specs.covered_state.World.{World, trees_of, view_in, sets_of}
use Rattle.covering_laws.specs.covered_state.Items.{Each}
use Rattle.covering_laws.specs.covered_state.Awaited.{IsBare}
use Rattle.covering_laws.specs.covered_state.State.{HandedIn}
use Rattle.covering_laws.proofs.covered_memory.Stays.{same_memory, then_extends, instance_stays}
use Rattle.covering_laws.proofs.covered_outside.Given.{outside_covered, outside_points, entries_take}
use Rattle.covering_laws.proofs.covered_state.Stays.{each_change, each_append, handed_stay}
use Rattle.covered_runs.specs.covered_steps.covered_values.Values.{IsOpened}
use Rattle.covered_runs.proofs.covered_steps.covered_values.Operands.{ok_one, went}
use Rattle.covered_runs.specs.covered_steps.Steps.{NoneBare}
use Rattle.covered_runs.proofs.covered_steps.Made.{made_so, parameters_covered}
use Rattle.covered_runs.specs.covered_steps.covered_calls.Activations.{IsParameterOf}
use Rattle.covered_runs.proofs.covered_steps.covered_calls.Entering.{fresh_stored}
use Rattle.covered_runs.specs.covered_steps.covered_statements.Runnable.{IsRunnable, Steady}
use Rattle.covered_runs.specs.covered_steps.covered_statements.Rows.{running_in}
use Rattle.covered_runs.proofs.covered_steps.covered_statements.Calling.{IsEntered, entered_inv, plain_objects, parameters_met}
use Rattle.covered_runs.proofs.machine_sound.covered_start.Objects.{IsNumber}
use Rattle.covered_runs.proofs.machine_sound.covered_start.Framed.{more_bare, none_bare, framed}

some_one : {X : Type 0} → {x y : X} → ◌≡◌ {A = Option X} (Some x) (Some y) → x ≡ y
some_one h = cc

none_some : {X : Type 0} → {x : X} → ◌≡◌ {A = Option X} None (Some x) → ⊥
none_some h = cc

cons_empty : {X : Type 0} → {x : X} → {xs : List X} → ◌≡◌ {A = List X} (x ∷ xs) [] → ⊥
cons_empty h = cc

elements_blob : {id : TypeId} → Elements id ≡ Blob → ⊥
elements_blob h = cc

contains_at : (xs : List ℕ) (i x : ℕ) → slice_get xs i ≡ Some x → Contains xs x
contains_at [] i x e = absurd (none_some e)
contains_at (y ∷ ys) zero x e = (0, omega arith, some_one e)
contains_at (y ∷ ys) (suc i) x e = (let (j, lt, at) = contains_at ys i x e in (suc j, omega arith, at))

-- what holds of each element by its place
each_by : (P : ObjectKey → Type 0) (keys : List ObjectKey) → ((k : ℕ) (key : ObjectKey) → slice_get keys k ≡ Some key → P key) → Each P keys
each_by P [] h = tt
each_by P (key ∷ keys) h = (h 0 key refl, each_by P keys (λ k x at. h (suc k) x at))

-- an entry isn't variadic
entry_plain : (t : Ctype) → IsEntryType t → takes_further t ≡ false
entry_plain (FunctionFrom r ps Variadic) h = absurd (h.0 refl)
entry_plain (FunctionFrom r ps Fixed) h = refl
entry_plain (FunctionFrom r ps Unspecified) h = refl
entry_plain t h = absurd h

module _ (world : World) (runs : IsRunnable world) where
  abbrev solved : Solved
  solved = record {
    program = world.program;
    space = world.space;
    system = world.system;
    is_system = world.is_system;
    family = world.family;
    closed = runs.stands.closed;
    grounds = runs.stands.grounds;
  }

  abbrev table : Table
  table = world.program.types

  -- what may be handed to a parameter of a type: a pointer that is covered outside, or a number
  abbrev Passed : Ctype → List Instance → Cell → Type 0
  Passed (PointerTo to) memory cell = CellIn (sets_of world) memory (outside_row (sets_of world)) cell
  Passed t memory cell = IsNumber cell

  -- a new object's type is complete
  only_complete : (o : Option TypeId) (id : TypeId) → complete_only table o ≡ Some id → IsSome (extent_in table (type_of table id.0))
  only_complete None id h = absurd (none_some h)
  only_complete (Some x) id h = by (is_some (extent_in table (type_of table x.0))) refl h
    where
      by : (b : Bool) → is_some (extent_in table (type_of table x.0)) ≡ b → cond b (Some x) None ≡ Some id → IsSome (extent_in table (type_of table id.0))
      by true is k = subst (λ (y : TypeId). IsSome (extent_in table (type_of table y.0))) (some_one k) is
      by false is k = absurd (none_some k)

  -- what was handed over under a type is covered outside
  handed_cells : (memory : List Instance) (t : Ctype) (handed : List (TypeId × Cell)) → Each (HandedIn world memory) handed → Each (CellIn (sets_of world) memory (outside_row (sets_of world))) (handed_as table t handed)
  handed_cells memory t [] h = tt
  handed_cells memory t (x ∷ rest) h = by (same_type (type_of table x.0.0) t) (handed_cells memory t rest h.1)
    where
      by : (b : Bool) → Each (CellIn (sets_of world) memory (outside_row (sets_of world))) (handed_as table t rest)
          → Each (CellIn (sets_of world) memory (outside_row (sets_of world)))
          (map (λ (e : TypeId × Cell). e.1) (cond b (x ∷ filter (λ (e : TypeId × Cell). same_type (type_of table e.0.0) t) rest) (filter (λ (e : TypeId × Cell). same_type (type_of table e.0.0) t) rest)))
      by true more = (h.0, more)
      by false more = more

  -- so is the one that is picked, or null
  picked_in : (memory : List Instance) (cells : List Cell) (k : ℕ) → Each (CellIn (sets_of world) memory (outside_row (sets_of world))) cells → CellIn (sets_of world) memory (outside_row (sets_of world)) (get_or cells k Null)
  picked_in memory [] k h = tt
  picked_in memory (c ∷ cells) zero h = h.0
  picked_in memory (c ∷ cells) (suc k) h = picked_in memory cells k h.1

  module _ (state : State) (e : ℕ) (among : Contains world.program.entries.items e) (opened : IsOpened world) where
    abbrev memory_of : Given → List Instance
    memory_of given = state.memory ++ given.fresh

    -- what was made and handed over so far is covered, and none of it waits for a type
    record IsGiven (given : Given) : Type 0 where
      covered : MemoryIn (sets_of world) (memory_of given)
      bare : NoneBare world (memory_of given)
      handed : Each (HandedIn world (memory_of given)) given.handed

    -- one argument more, for a parameter of a type
    record IsOneMore (t : Ctype) (given next : Given) : Type 0 where
      so : IsGiven next
      extends : Extends (sets_of world) (memory_of given) (memory_of next)
      cell : Cell
      arguments : next.arguments ≡ given.arguments ++ one_cell cell ∷ []
      passed : Passed t (memory_of next) cell

    plain_more : (t : Ctype) (given : Given) (cell : Cell) → IsGiven given → Passed t (memory_of given) cell → IsOneMore t given (with_argument given cell)
    plain_more t given cell so passed = record {
      so = record { covered = so.covered; bare = so.bare; handed = so.handed };
      extends = same_memory (sets_of world) (memory_of given);
      cell = cell;
      arguments = refl;
      passed = passed;
    }

    -- a new object outside waits for no type
    outside_unbare : (new : Option TypeId) → IsBare world (outside_object new) → ⊥
    outside_unbare new b =
        let first : opened.outside.first ≡ b.first = some_one (sym opened.outside.first_is ∙ b.first_is) in
        let location : opened.outside.location ≡ b.location = some_one (sym opened.outside.location_is ∙ (ap (slice_get world.space) first ∙ b.location_is)) in
        elements_blob (sym b.content_is ∙ (ap (λ (x : Location). x.content) (sym location) ∙ opened.outside.content_is))

    module _ (ty : TypeId) (to : Ctype) (given : Given) (so : IsGiven given) where
      abbrev number : ℕ
      number = length state.memory + length given.fresh

      object_more : (new : Option TypeId) → ((id : TypeId) → new ≡ Some id → IsSome (extent_in table (type_of table id.0))) → IsOneMore (PointerTo to) given (with_object number ty new given)
      object_more new complete = record {
        so = record {
          covered = subst (MemoryIn (sets_of world)) same left.covered;
          bare = subst (NoneBare world) same (more_bare world (memory_of given) (outside_object new ∷ []) so.bare (outside_unbare new, tt));
          handed = subst (λ (m : List Instance). Each (HandedIn world m) (given.handed ++ (ty, start_of number) ∷ [])) same
              (each_append (HandedIn world (memory_of given ++ outside_object new ∷ [])) given.handed ((ty, start_of number) ∷ [])
              (handed_stay world (memory_of given) (memory_of given ++ outside_object new ∷ []) left.extends given.handed so.handed) (pointed, tt));
        };
        extends = subst (Extends (sets_of world) (memory_of given)) same left.extends;
        cell = start_of number;
        arguments = refl;
        passed = subst (λ (m : List Instance). CellIn (sets_of world) m (outside_row (sets_of world)) (start_of number)) same pointed;
      }
        where
          same : memory_of given ++ outside_object new ∷ [] ≡ state.memory ++ (given.fresh ++ outside_object new ∷ [])
          same = append_assoc state.memory given.fresh (outside_object new ∷ [])

          left : Leaves (sets_of world) (memory_of given) (memory_of given ++ outside_object new ∷ [])
          left = made_so (sets_of world) (memory_of given) (outside_object new ∷ []) so.covered (outside_covered (sets_of world) (memory_of given) (outside_object new) runs.stands.grounds.made opened.outside refl refl complete, tt)

          there : slice_get (memory_of given ++ outside_object new ∷ []) number ≡ Some (outside_object new)
          there = (let long : length (memory_of given) ≡ length state.memory + length given.fresh = length-append state.memory given.fresh in get_behind (memory_of given) (outside_object new ∷ []) number 0 (omega arith))

          pointed : CellIn (sets_of world) (memory_of given ++ outside_object new ∷ []) (outside_row (sets_of world)) (start_of number)
          pointed = outside_points solved e number (memory_of given ++ outside_object new ∷ []) (outside_object new) opened.outside among there refl

    new_more : (ty : TypeId) (to : Ctype) (given : Given) → IsGiven given → IsOneMore (PointerTo to) given (with_new table (length state.memory + length given.fresh) ty to given)
    new_more ty (FunctionFrom r ps f) given so = plain_more (PointerTo (FunctionFrom r ps f)) given Null so tt
    new_more ty to given so = object_more ty to given so (complete_only table (pointee (slice_get table.terms ty.0))) (only_complete (pointee (slice_get table.terms ty.0)))

    pointer_more : (ty : TypeId) (to : Ctype) (given : Given) → IsGiven given → (choice : ℕ)
        → IsOneMore (PointerTo to) given (with_pointer table (length state.memory + length given.fresh) ty to (handed_as table (PointerTo to) given.handed) choice given)
    pointer_more ty to given so zero = plain_more (PointerTo to) given Null so tt
    pointer_more ty to given so (suc zero) = new_more ty to given so
    pointer_more ty to given so (suc (suc k)) =
        plain_more (PointerTo to) given (get_or (handed_as table (PointerTo to) given.handed) k Null) so
        (picked_in (memory_of given) (handed_as table (PointerTo to) given.handed) k (handed_cells (memory_of given) (PointerTo to) given.handed so.handed))

    as_more : (h : ℕ) (ty : TypeId) (t : Ctype) (given : Given) → IsGiven given → IsOneMore t given (given_as table (length state.memory) h ty t given)
    as_more h ty (PointerTo to) given so = pointer_more ty to given so (h % (length (handed_as table (PointerTo to) given.handed) + 2))
    as_more h ty t given so = plain_more t given (Number (converted t (pos h))) so tt

    -- a parameter of the entry, with its object
    abbrev IsOwn : ObjectKey → Type 0
    IsOwn key = (k : ℕ) × (slice_get (parameters_of (trees_of world) (view_in world) e) k ≡ Some key) × (t : Ctype) × IsParameterOf world key t

    module _ (key : ObjectKey) (own : IsOwn key) where
      abbrev place : IsParameterOf world key own.2
      place = own.3

      id_is : key_id (trees_of world) key ≡ Some place.place.entity.ty
      id_is = ap (key_id (trees_of world)) place.key_is ∙ ap (option_map (λ (x : Entity). x.ty)) place.place.entity_is

      key_more : (h : ℕ) (given : Given) → IsGiven given → IsOneMore (key_type (trees_of world) key) given (given_one (trees_of world) (length state.memory) h given key)
      key_more h given so =
          subst (λ (o : Option TypeId). IsOneMore (type_or_void table o) given (given_under table (length state.memory) h o given)) (sym id_is)
          (as_more h place.place.entity.ty (type_of table place.place.entity.ty.0) given so)

      number_in : (memory : List Instance) (t : Ctype) (cell : Cell) → IsNumber cell → ValueIn (sets_of world) memory (λ i. place.place.first + i) t (one_cell cell)
      number_in memory t (Number n) h = (tt, tt)
      number_in memory t Unset h = absurd h
      number_in memory t Null h = absurd h
      number_in memory t (Pointer i path past) h = absurd h
      number_in memory t (FunctionCell k) h = absurd h

      value_in : (memory : List Instance) (t : Ctype) (cell : Cell) → key_type (trees_of world) key ≡ t → Passed t memory cell → ValueIn (sets_of world) memory (λ i. place.place.first + i) t (one_cell cell)
      value_in memory (PointerTo to) cell is passed =
          entries_take solved e own.0 place.place.first key to memory cell opened.outside among own.1 (ap (first_from 0 world.space) place.key_is ∙ place.place.first_is) is passed
      value_in memory t cell is passed = number_in memory t cell passed

      -- the parameter's object is covered, and waits for no type
      object_made : (memory : List Instance) (cell : Cell) → Passed (key_type (trees_of world) key) memory cell
          → InstanceIn (sets_of world) memory (parameter_object (trees_of world) key (one_cell cell)) × (IsBare world (parameter_object (trees_of world) key (one_cell cell)) → ⊥)
      object_made memory cell passed = (
        subst (λ (k : ObjectKey). InstanceIn (sets_of world) memory (parameter_object (trees_of world) k (one_cell cell))) (sym place.key_is)
            (parameters_covered world memory place.e (one_cell cell) place.place
            (subst (λ (t : Ctype). ValueIn (sets_of world) memory (λ i. place.place.first + i) t (one_cell cell)) (ap (type_or_void table) id_is) (value_in memory (key_type (trees_of world) key) cell refl passed))),
        λ b. none_some (sym b.untyped ∙ id_is),
      )

    abbrev IsMade : List Instance → Instance → Type 0
    IsMade memory inst = InstanceIn (sets_of world) memory inst × (IsBare world inst → ⊥)

    -- the arguments of all these parameters
    record IsAllGiven (keys : List ObjectKey) (given next : Given) : Type 0 where
      so : IsGiven next
      extends : Extends (sets_of world) (memory_of given) (memory_of next)
      values : List Value
      arguments : next.arguments ≡ given.arguments ++ values
      made : Each (IsMade (memory_of next)) (parameter_objects (trees_of world) keys values)

    all_more : (h : ℕ) (keys : List ObjectKey) → Each IsOwn keys → (given : Given) → IsGiven given → IsAllGiven keys given (given_all (trees_of world) (length state.memory) h given keys)
    all_more h [] own given so = record {
      so = record { covered = so.covered; bare = so.bare; handed = so.handed };
      extends = same_memory (sets_of world) (memory_of given);
      values = [];
      arguments = sym (append-nil given.arguments);
      made = tt;
    }
    all_more h (key ∷ keys) own given so =
        let first : Given = given_one (trees_of world) (length state.memory) h given key in
        let last : Given = given_all (trees_of world) (length state.memory) h first keys in
        let one = key_more key own.0 h given so in
        let more = all_more h keys own.1 first one.so in
        let made = object_made key own.0 (memory_of first) one.cell one.passed in
        record {
          so = record { covered = more.so.covered; bare = more.so.bare; handed = more.so.handed };
          extends = then_extends (sets_of world) (memory_of given) (memory_of first) (memory_of last) one.extends more.extends;
          values = one_cell one.cell ∷ more.values;
          arguments = more.arguments ∙ (ap (λ (list : List Value). list ++ more.values) one.arguments ∙ append_assoc given.arguments (one_cell one.cell ∷ []) more.values);
          made = ((instance_stays (sets_of world) (memory_of first) (memory_of last) more.extends (parameter_object (trees_of world) key (one_cell one.cell)) made.0, made.1), more.made);
        }

module _ (world : World) (runs : IsRunnable world) (state : State) (steady : Steady world state) (outside : state.frames ≡ []) (characters : TypeId) where
  abbrev w : Running
  w = running_in world characters

  -- the program ends where it is left to
  ends_steady : Steady world (ends state)
  ends_steady =
      let same : all_ended state.memory state.frames ≡ state.memory = ap (all_ended state.memory) outside in
      record {
        covered = record {
          memory = subst (MemoryIn (sets_of world)) (sym same) steady.covered.memory;
          frames = tt;
          kept = steady.covered.kept;
          notes = record { target = tt; stores = tt };
          handed = subst (λ (m : List Instance). Each (HandedIn world m) state.handed) (sym same) steady.covered.handed;
          awaited = record { each = λ i inst at b. absurd (none_bare world runs state steady outside i inst (ap (λ (m : List Instance). slice_get m i) (sym same) ∙ at) b) };
        };
        stacked = tt;
      }

  module _ (e : ℕ) (among : Contains world.program.entries.items e) (opened : IsOpened world) (h : ℕ) where
    entry : IsEntryAt (trees_of world) e
    entry = All-contains (λ (n : ℕ). IsEntryAt (trees_of world) n) world.program.entries.items e opened.entries among

    abbrev given : Given
    given = given_to w state e h

    abbrev memory : List Instance
    memory = state.memory ++ given.fresh

    abbrev count : ℕ
    count = length state.memory + length given.fresh

    abbrev objects : List Instance
    objects = parameter_objects (trees_of world) (parameters_of (trees_of world) (view_in world) e) given.arguments

    module _ (made : Activation) (is_entered : entered w count (main_entry e) given.arguments ≡ Ok made) where
      inv : IsEntered world count (main_entry e) given.arguments made
      inv = entered_inv world characters count (main_entry e) given.arguments made is_entered

      same_entity : inv.entity ≡ entry.0
      same_entity = some_one (sym inv.there ∙ entry.1)

      plain : takes_further (key_type (trees_of world) (EntityKey e)) ≡ false
      plain =
          ap (λ (o : Option Entity). takes_further (type_or_void world.program.types (option_map (λ (x : Entity). x.ty) o))) entry.1
          ∙ entry_plain (type_of world.program.types entry.0.ty.0) entry.2.type

      own_keys : Each (IsOwn world runs state e among opened) (parameters_of (trees_of world) (view_in world) e)
      own_keys =
          each_by (IsOwn world runs state e among opened) (parameters_of (trees_of world) (view_in world) e)
          (λ k key at. (let t = parameters_met world runs e (called_list (trees_of world) inv.entity) inv.types k key at in (k, at, t.0, t.2)))

      abbrev begun : Given
      begun = record { fresh = []; handed = state.handed; arguments = [] }

      begun_given : IsGiven world runs state e among opened begun
      begun_given = record {
        covered = subst (MemoryIn (sets_of world)) (sym (append-nil state.memory)) steady.covered.memory;
        bare = subst (NoneBare world) (sym (append-nil state.memory)) (none_bare world runs state steady outside);
        handed = subst (λ (m : List Instance). Each (HandedIn world m) state.handed) (sym (append-nil state.memory)) steady.covered.handed;
      }

      all : IsAllGiven world runs state e among opened (parameters_of (trees_of world) (view_in world) e) begun given
      all = all_more world runs state e among opened h (parameters_of (trees_of world) (view_in world) e) own_keys begun begun_given

      objects_made : Each (IsMade world runs state e among opened memory) objects
      objects_made = subst (λ (list : List Value). Each (IsMade world runs state e among opened memory) (parameter_objects (trees_of world) (parameters_of (trees_of world) (view_in world) e) list)) (sym all.arguments) all.made

      objects_in : Each (InstanceIn (sets_of world) memory) objects
      objects_in = each_change (IsMade world runs state e among opened memory) (InstanceIn (sets_of world) memory) (λ x one. one.0) objects objects_made

      objects_left : Leaves (sets_of world) memory (memory ++ objects)
      objects_left = made_so (sets_of world) memory objects all.so.covered objects_in

      behind : (j : ℕ) (x : Instance) → slice_get objects j ≡ Some x → slice_get (memory ++ objects) (count + j) ≡ Some x
      behind j x at = (let long : length memory ≡ length state.memory + length given.fresh = length-append state.memory given.fresh in get_behind memory objects (count + j) j (omega arith)) ∙ at

      stored : StoresIn (sets_of world) (memory ++ objects) (pointers_from count objects)
      stored = fresh_stored world runs.stands memory objects objects_left.extends count objects behind objects_in

      entered_steady : Steady world (on_top (with_given state given) state.frames (only made.stores) made)
      entered_steady =
          subst (λ (a : Activation). Steady world (on_top (with_given state given) state.frames (only a.stores) a))
          (ap (activation (main_entry e) count inv.body) (sym (plain_objects world e given.arguments plain)) ∙ inv.made_is)
          (framed world runs state steady outside (memory ++ objects) objects given.handed (pointers_from count objects) objects_left.covered
          (more_bare world memory objects all.so.bare (each_change (IsMade world runs state e among opened memory) (λ x. IsBare world x → ⊥) (λ x one. one.1) objects objects_made))
          (handed_stay world memory (memory ++ objects) objects_left.extends given.handed all.so.handed) stored e count given.arguments made inv
          (ap (λ (x : Entity). x.storage) same_entity ∙ entry.2.storage) (λ some. (e, refl, among)))

    given_steady : (next : State) → entered_given w state e given ≡ Ok next → Steady world next
    given_steady next is =
        let r = went (entered w count (main_entry e) given.arguments) (λ made. Ok (on_top (with_given state given) state.frames (only made.stores) made)) next is in
        subst (Steady world) (ok_one r.2) (entered_steady r.0 r.1)

  -- one of the entries is entered, or the program ends
  module _ (first : ℕ) (rest : List ℕ) (entries : world.program.entries.items ≡ first ∷ rest) (word : ℕ) (next : State) where
    abbrev chosen : ℕ
    chosen = word % (length (first ∷ rest) + 1)

    abbrev h : ℕ
    h = word / (length (first ∷ rest) + 1)

    opened : IsOpened world
    opened = runs.stands.opened (λ none. cons_empty (sym entries ∙ none))

    among : (e : ℕ) → slice_get (first ∷ rest) chosen ≡ Some e → Contains world.program.entries.items e
    among e at = subst (λ (list : List ℕ). Contains list e) (sym entries) (contains_at (first ∷ rest) chosen e at)

    by_choice : (o : Option ℕ) → slice_get (first ∷ rest) chosen ≡ o → enters_or_ends w state h o ≡ Ok next → Steady world next
    by_choice None at is = subst (Steady world) (ok_one is) ends_steady
    by_choice (Some e) at is = given_steady e (among e at) opened h next is

    pub one_steady : enters_one w state (first ∷ rest) word ≡ Ok next → Steady world next
    one_steady is = by_choice (slice_get (first ∷ rest) chosen) refl is
