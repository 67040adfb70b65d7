-- What the code decides of a state is what it means that sets cover it.
use Rattle.std.proofs.Common.{arith, ◌≡◌, ◌∙◌, ◌⊎◌, inl, inr, ℕ, zero, suc, ◌+◌, ◌<◌, ◌≤◌, ◌↔◌, false, List, [], ◌∷◌, Option, Some, None, All, get_or, length, reverse, slice_get, refl, sym, ap, subst}
use Rattle.std.proofs.lemmas.Option.{slice_get_within}
use Rattle.c_types.specs.declared.key.ObjectKey.{ObjectKey}
use Rattle.c_types.specs.declared.key.ObjectKey.TheVariants.{Entity as EntityKey, Function as FunctionKey}
use Rattle.c_types.specs.declared.term.TypeId.{TypeId}
use Rattle.core_tree.specs.declared.node.Node.{Node}
use Rattle.core_tree.specs.Range.{InRange}
use Rattle.core_tree.specs.Typed.{sort_at}
use Rattle.sol_model.specs.Systems.{IsValid}
use Rattle.obj_space.specs.Spots.{reached}
use Rattle.obj_space.specs.View.{first_from}
use Rattle.row_numbers.specs.Kept.{kept_row}
use Rattle.row_numbers.specs.Functions.{number_of}
use Rattle.row_numbers.specs.Setting.{result_row}
use Rattle.call_sites.specs.Calls.{rest_of}
use Rattle.normal_form.specs.Assignments.{given_type, type_nodes}
use Rattle.ref_cells.specs.declared.cells.Cell.{Cell}
use Rattle.ref_cells.specs.declared.cells.Value.{Value}
use Rattle.ref_cells.specs.declared.instance.Instance.{Instance}
use Rattle.ref_cells.specs.Places.{AreKnown}
use Rattle.ref_state.specs.declared.items.Item.{Item}
use Rattle.ref_state.specs.declared.items.Item.TheVariants.{Do, Wait, Library, Result}
use Rattle.ref_state.specs.declared.frames.Frame.{Frame}
use Rattle.ref_state.specs.declared.notes.Notes.{Notes}
use Rattle.ref_state.specs.declared.state.State.{State}
use Rattle.ref_state.specs.ref_types.Types.{types_with}
use Rattle.covering_laws.specs.covered_library.Calls.{place_row, StoresIn}
use Rattle.covering_laws.specs.covered_memory.Covered.{outside_row}
use Rattle.covering_laws.specs.covered_state.World.{World, trees_of, view_in, sets_of, setting_in}
use Rattle.covering_laws.specs.covered_state.Items.{Each, ReturnedIn, ArgumentsIn, IsPendingBack}
use Rattle.covering_laws.specs.covered_state.State.{KeptIn, NotesIn, HandedIn}
use Rattle.machine_covers.specs.Covers.{HasIn, IsWaiting, HoldsIn, StandsIn, IsCovered}
use Rattle.machine_covers.specs.Decided.{StateBy}
use Rattle.machine_covers.specs.Frames.{result_start, numbered, given_by, GivenBy, ReturnedBy, ValueBy, ArgumentBy, ArgumentAt, ArgumentsBy, PendingAt, PendingBackBy, LibraryBy, ItemBy, FrameBy, KeptBy, StoreBy, NotesBy, FramesBy, KeptAll, HandedAll}
use Rattle.machine_covers.specs.Whole.{sight_in, StateExact, CoversExact, world_over}
use Rattle.machine_covers.proofs.Aims.{target_to, target_from, back_to, back_from, called_to, called_from, under_to, under_from, noted_to, noted_from, kept_to, kept_from}
use Rattle.machine_covers.proofs.Given.{start_same}
use Rattle.machine_covers.proofs.Official.{each_of, all_of, held_to, held_from, has_to, has_from, all_exist_to, all_exist_from, memory_exact}
use Rattle.machine_covers.proofs.Waiting.{all_turned, all_back, waiting_to, waiting_from}
use Rattle.row_covers.specs.Cells.{CellBy}
use Rattle.row_covers.proofs.Decided.{cell_of_by, by_of_cell, cells_of_by, by_of_cells}

none_some : {X : Type 0} → {x : X} → ◌≡◌ {A = Option X} None (Some x) → ⊥
none_some h = cc

module _ (world : World) (range : InRange (trees_of world)) (valid : IsValid world.system) (memory : List Instance) where
  -- the arguments of a pending call
  arguments_to : (nodes : List ℕ) (values : List Value) → ArgumentsBy (sight_in world) memory nodes values → ArgumentsIn world memory nodes values × (length values ≤ length nodes)
  unfolding ArgumentsBy ArgumentAt ArgumentBy
  arguments_to [] [] h = (tt, omega arith)
  arguments_to [] (v ∷ values) h = absurd (h 0 (omega arith))
  arguments_to (a ∷ nodes) [] h = (tt, omega arith)
  arguments_to (a ∷ nodes) (v ∷ values) h =
      let first = h 0 (omega arith) in
      let rest = arguments_to nodes values (λ k lt. h (suc k) (omega arith)) in
      let le = rest.1 in
      ((held_to world memory a v first.1, rest.0), omega arith)

  arguments_from : (nodes : List ℕ) (values : List Value) → All (λ c. c < length (trees_of world).nodes) nodes → length values ≤ length nodes → ArgumentsIn world memory nodes values → ArgumentsBy (sight_in world) memory nodes values
  unfolding ArgumentsBy ArgumentAt ArgumentBy
  arguments_from [] [] inside le h k lt = absurd (omega arith)
  arguments_from [] (v ∷ values) inside le h k lt = absurd (omega arith)
  arguments_from (a ∷ nodes) [] inside le h k lt = absurd (omega arith)
  arguments_from (a ∷ nodes) (v ∷ values) inside le h zero lt = (inside 0 a (omega arith), held_from world memory a v h.0)
  arguments_from (a ∷ nodes) (v ∷ values) inside le h (suc k) lt = arguments_from nodes values (λ j d l. inside (suc j) d (omega arith)) (omega arith) h.1 k (omega arith)

  rest_within : (n count : ℕ) (children : List ℕ) → n < count → All (λ c. c < n) children → All (λ c. c < count) (rest_of children)
  rest_within n count [] lt h k d l = absurd (omega arith)
  rest_within n count (c ∷ children) lt h k d l = (let below = h (suc k) d (omega arith) in omega arith)

  -- pending functions of the library
  pending_to : (n function : ℕ) (arguments : List Value) (o : Option Node) → slice_get (trees_of world).nodes n ≡ o → PendingAt (sight_in world) memory n function arguments o → IsWaiting world memory n function arguments
  pending_to n function arguments None e h = absurd h
  pending_to n function arguments (Some node) e h =
      let a = arguments_to (rest_of node.children) arguments h.1 in
      record { node = node; there = e; target = target_to world valid n (FunctionKey function) h.0; arguments_in = a.0; all = a.1 }

  pending_from : (n function : ℕ) (arguments : List Value) → IsWaiting world memory n function arguments → PendingAt (sight_in world) memory n function arguments (slice_get (trees_of world).nodes n)
  pending_from n function arguments h =
      let lt = slice_get_within (trees_of world).nodes n h.node h.there in
      let inside = rest_within n (length (trees_of world).nodes) h.node.children lt (range.children n h.node h.there) in
      subst (λ (o : Option Node). PendingAt (sight_in world) memory n function arguments o) (sym h.there)
      (target_from world valid n (FunctionKey function) h.target, arguments_from (rest_of h.node.children) arguments inside h.all h.arguments_in)

  pending_back_to : (n function : ℕ) (arguments : List Value) → PendingBackBy (sight_in world) memory n function arguments → IsPendingBack world memory n function arguments
  pending_back_to n function arguments h =
      let b = back_to world valid n (FunctionKey function) h.0 in
      record { library = b.library; back = b.back; called = b.is; exist = all_exist_to world memory arguments h.1 }

  pending_back_from : (n function : ℕ) (arguments : List Value) → IsPendingBack world memory n function arguments → PendingBackBy (sight_in world) memory n function arguments
  pending_back_from n function arguments h = (back_from world valid n h.library h.back (FunctionKey function) h.called, all_exist_from world memory arguments h.exist)

  library_to : (n function : ℕ) (arguments : List Value) → LibraryBy (sight_in world) memory n function arguments → IsWaiting world memory n function arguments ⊎ IsPendingBack world memory n function arguments
  library_to n function arguments (inl h) = inl (pending_to n function arguments (slice_get (trees_of world).nodes n) refl h)
  library_to n function arguments (inr h) = inr (pending_back_to n function arguments h)

  library_from : (n function : ℕ) (arguments : List Value) → IsWaiting world memory n function arguments ⊎ IsPendingBack world memory n function arguments → LibraryBy (sight_in world) memory n function arguments
  library_from n function arguments (inl h) = inl (pending_from n function arguments h)
  library_from n function arguments (inr h) = inr (pending_back_from n function arguments h)

  -- what is returned
  given_same : (f k : ℕ) → kept_row (result_start (trees_of world) world.space world.system (numbered world.system (first_from 0 world.space (EntityKey f)))) (type_nodes (setting_in world) (given_type (setting_in world) f)) k
      ≡ kept_row (result_row (trees_of world) (view_in world) (number_of (trees_of world) (view_in world) f)) (type_nodes (setting_in world) (given_type (setting_in world) f)) k
  given_same f k = ap (λ (first : ℕ). kept_row first (type_nodes (setting_in world) (given_type (setting_in world) f)) k) (start_same world f)

  returned_to : (key : ObjectKey) (v : Value) → ReturnedBy (sight_in world) memory key v → ReturnedIn world memory key v
  returned_to (EntityKey f) v h =
      cells_of_by (sets_of world) memory
      (kept_row (result_start (trees_of world) world.space world.system (numbered world.system (first_from 0 world.space (EntityKey f)))) (type_nodes (setting_in world) (given_type (setting_in world) f)))
      (kept_row (result_row (trees_of world) (view_in world) (number_of (trees_of world) (view_in world) f)) (type_nodes (setting_in world) (given_type (setting_in world) f)))
      (given_same f) (Some (reached (given_type (setting_in world) f) 0 false)) v.cells h
  returned_to key v h = absurd h

  returned_from : (key : ObjectKey) (v : Value) → ReturnedIn world memory key v → ReturnedBy (sight_in world) memory key v
  returned_from (EntityKey f) v h =
      by_of_cells (sets_of world) memory
      (kept_row (result_start (trees_of world) world.space world.system (numbered world.system (first_from 0 world.space (EntityKey f)))) (type_nodes (setting_in world) (given_type (setting_in world) f)))
      (kept_row (result_row (trees_of world) (view_in world) (number_of (trees_of world) (view_in world) f)) (type_nodes (setting_in world) (given_type (setting_in world) f)))
      (given_same f) (Some (reached (given_type (setting_in world) f) 0 false)) v.cells h
  returned_from key v h = absurd h

  -- items and frames
  item_to : (f : ObjectKey) (item : Item) → ItemBy (sight_in world) memory f item → HoldsIn world memory f item
  item_to f (Do n) h = tt
  item_to f (Wait n left values) h =
      each_of (λ (v : ℕ × Value). HasIn world memory (sort_at (trees_of world) v.0) v.0 v.1) values
      (λ k d lt. (let v = get_or values k d in has_to world memory (sort_at (trees_of world) v.0) v.0 v.1 (h k d lt)))
  item_to f (Library n function arguments) h = library_to n function arguments h
  item_to f (Result v) h = returned_to f v h

  item_from : (f : ObjectKey) (item : Item) → HoldsIn world memory f item → ItemBy (sight_in world) memory f item
  item_from f (Do n) h = tt
  item_from f (Wait n left values) h =
      λ k d lt.
      (let v = get_or values k d in
      has_from world memory (sort_at (trees_of world) v.0) v.0 v.1 (all_of (λ (v : ℕ × Value). HasIn world memory (sort_at (trees_of world) v.0) v.0 v.1) values h k d lt))
  item_from f (Library n function arguments) h = library_from n function arguments h
  item_from f (Result v) h = returned_from f v h

  frame_to : (f : Frame) → FrameBy (sight_in world) memory f → StandsIn world memory f
  frame_to f h = record {
    called = called_to world valid f.function f.call h.0;
    back = under_to world valid f.function f.by h.1;
    items = each_of (HoldsIn world memory f.function) f.items (λ k d lt. item_to f.function (get_or f.items k d) (h.2 k d lt));
  }

  frame_from : (f : Frame) → StandsIn world memory f → FrameBy (sight_in world) memory f
  frame_from f h = (
    called_from world valid f.function f.call h.called,
    under_from world valid f.function f.by h.back,
    λ k d lt. item_from f.function (get_or f.items k d) (all_of (HoldsIn world memory f.function) f.items h.items k d lt),
  )

  frames_to : (frames : List Frame) → FramesBy (sight_in world) memory (reverse frames) → Each (StandsIn world memory) frames
  unfolding FramesBy
  frames_to frames h = each_of (StandsIn world memory) frames (λ k d lt. frame_to (get_or frames k d) (all_back (λ f. FrameBy (sight_in world) memory f) frames h k d lt))

  frames_from : (frames : List Frame) → Each (StandsIn world memory) frames → FramesBy (sight_in world) memory (reverse frames)
  unfolding FramesBy
  frames_from frames h = all_turned (λ f. FrameBy (sight_in world) memory f) frames (λ k d lt. frame_from (get_or frames k d) (all_of (StandsIn world memory) frames h k d lt))

  -- kept functions and notes
  kept_all_to : (kept : List (ObjectKey × ℕ)) → KeptAll (sight_in world) kept → Each (λ entry. KeptIn world entry.0 entry.1) kept
  unfolding KeptAll
  kept_all_to kept h = each_of (λ (entry : ObjectKey × ℕ). KeptIn world entry.0 entry.1) kept (λ k d lt. kept_to world valid (get_or kept k d) (h k d lt))

  kept_all_from : (kept : List (ObjectKey × ℕ)) → Each (λ entry. KeptIn world entry.0 entry.1) kept → KeptAll (sight_in world) kept
  unfolding KeptAll
  kept_all_from kept h k d lt = kept_from world valid (get_or kept k d) (all_of (λ (entry : ObjectKey × ℕ). KeptIn world entry.0 entry.1) kept h k d lt)

  stores_to : (stores : List (Cell × Cell)) → All (λ store. StoreBy (sight_in world) memory store) stores → StoresIn (sets_of world) memory stores
  stores_to [] h = tt
  stores_to (s ∷ rest) h = (cell_of_by (sets_of world) memory (place_row (sets_of world) memory s.0) s.1 (h 0 s (omega arith)), stores_to rest (λ k d lt. h (suc k) d (omega arith)))

  stores_from : (stores : List (Cell × Cell)) → StoresIn (sets_of world) memory stores → All (λ store. StoreBy (sight_in world) memory store) stores
  stores_from [] h k d lt = absurd (omega arith)
  stores_from (s ∷ rest) h zero d lt = by_of_cell (sets_of world) memory (place_row (sets_of world) memory s.0) s.1 h.0
  stores_from (s ∷ rest) h (suc k) d lt = stores_from rest h.1 k d (omega arith)

  notes_to : (notes : Notes) → NotesBy (sight_in world) memory notes → NotesIn world memory notes
  unfolding NotesBy
  notes_to notes h = record { target = noted_to world valid notes.target h.0; stores = stores_to notes.stores h.1 }

  notes_from : (notes : Notes) → NotesIn world memory notes → NotesBy (sight_in world) memory notes
  unfolding NotesBy
  notes_from notes h = (noted_from world valid notes.target h.target, stores_from notes.stores h.stores)

  -- what was handed over
  handed_to : (handed : List (TypeId × Cell)) → HandedAll (sight_in world) memory handed → Each (HandedIn world memory) handed
  unfolding HandedAll
  handed_to handed h = each_of (HandedIn world memory) handed (λ k d lt. cell_of_by (sets_of world) memory (outside_row (sets_of world)) (get_or handed k d).1 (h k d lt))

  handed_from : (handed : List (TypeId × Cell)) → Each (HandedIn world memory) handed → HandedAll (sight_in world) memory handed
  unfolding HandedAll
  handed_from handed h k d lt = by_of_cell (sets_of world) memory (outside_row (sets_of world)) (get_or handed k d).1 (all_of (HandedIn world memory) handed h k d lt)

module _ (world : World) (state : State) (range : InRange (trees_of world)) (valid : IsValid world.system) (known : AreKnown (length world.program.types.terms) state.memory) where
  to : StateBy (sight_in world) state → IsCovered world state
  to (memory, frames, kept, notes, handed, awaited) = record {
    memory = (memory_exact world state.memory known).0 memory;
    frames = frames_to world range valid state.memory state.frames frames;
    kept = kept_all_to world range valid state.memory state.kept kept;
    notes = notes_to world range valid state.memory state.notes notes;
    handed = handed_to world range valid state.memory state.handed handed;
    awaited = waiting_to world state awaited;
  }

  from : IsCovered world state → StateBy (sight_in world) state
  from h = (
    (memory_exact world state.memory known).1 h.memory,
    frames_from world range valid state.memory state.frames h.frames,
    kept_all_from world range valid state.memory state.kept h.kept,
    notes_from world range valid state.memory state.notes h.notes,
    handed_from world range valid state.memory state.handed h.handed,
    waiting_from world state h.awaited,
  )

pub state_exact : StateExact
state_exact world state range valid known = (to world state range valid known, from world state range valid known)

pub covers_exact : CoversExact
unfolding types_with
covers_exact p space system family machine is valid system_is = state_exact (world_over p space system family system_is) machine.state is.prepared.range valid is.known
