-- What a run changes is in the sets of what its functions may write.
use Rattle.std.proofs.Common.{arith, ◌≡◌, ◌∙◌, ◌⊎◌, inl, inr, ℕ, zero, suc, Bool, true, false, cond, IsTrue, List, [], ◌∷◌, length, Option, Some, None, IsSome, Contains, slice_get, refl, sym, ap, subst}
use Rattle.std.specs.Option.{option_map}
use Rattle.std.proofs.lemmas.Bool.{false≢true}
use Rattle.c_types.specs.declared.key.ObjectKey.{ObjectKey}
use Rattle.c_types.specs.declared.term.PathStep.{PathStep}
use Rattle.c_types.specs.declared.term.PathStep.TheVariants.{Index, Member}
use Rattle.c_types.specs.declared.term.TypeId.{TypeId}
use Rattle.c_types.specs.Trees.{Ctype, ArrayOf, UnionOf}
use Rattle.c_types.specs.Table.{Table, type_of, extent_in, size_below}
use Rattle.core_tree.specs.Typed.{CoreTrees}
use Rattle.sol_model.specs.declared.system.System.{System}
use Rattle.obj_space.specs.Space.{locations_in}
use Rattle.obj_space.specs.Spots.{Reached, reached, part_at}
use Rattle.mod_ref.specs.declared.access.Access.TheVariants.{Write}
use Rattle.ref_cells.specs.declared.instance.Instance.{Instance}
use Rattle.ref_cells.specs.Cells.{CellList}
use Rattle.ref_cells.specs.Values.{cell_in}
use Rattle.ref_cells.specs.Wholes.{is_allocated, elements_of, array_in, typed_whole, whole_of}
use Rattle.ref_mem.specs.Reads.{opened}
use Rattle.ref_state.specs.declared.items.Item.{Item}
use Rattle.ref_state.specs.declared.items.Item.TheVariants.{Do, Wait, Library, Result as Returned}
use Rattle.ref_state.specs.declared.frames.Frame.{Frame}
use Rattle.ref_state.specs.declared.state.State.{State}
use Rattle.ref_state.specs.ref_types.Types.{id, types_with}
use Rattle.ref_frames.specs.Running.{Running}
use Rattle.ref_calls.specs.Outcomes.{Outcome, Goes, Ends, Stops}
use Rattle.ref_machine.specs.Step.{step, chooses}
use Rattle.ref_machine.specs.Types.{running}
use Rattle.ref_machine.specs.Run.{word_for, words_after, step_with, goes_on, run_from, start, run}
use Rattle.covering_laws.specs.covered_memory.Spots.{spot, whole_part, part_in, IsFurther, room, IsInTree}
use Rattle.covering_laws.specs.covered_memory.Covered.{Sets, object_row, HasShape, InstanceIn, MemoryIn}
use Rattle.covering_laws.specs.covered_memory.Demands.{Grounds}
use Rattle.covering_laws.specs.covered_state.World.{World, trees_of, sets_of}
use Rattle.covering_laws.proofs.covered_memory.Anchors.{spot_is}
use Rattle.covering_laws.proofs.covered_memory.Filled.{nowhere}
use Rattle.covering_laws.proofs.covered_memory.Parts.{stays_inside, union_node}
use Rattle.covering_laws.proofs.covered_memory.Puts.{part_along}
use Rattle.covered_runs.specs.covered_steps.covered_statements.Rows.{running_in}
use Rattle.covered_runs.proofs.covered_programs.Programs.{scene}
use Rattle.covered_runs.specs.machine_sound.Carried.{IsSteppable}
use Rattle.covered_runs.specs.machine_sound.covered_start.Start.{machine_world}
use Rattle.covered_runs.specs.touched_runs.Accesses.{IsCell, MayHold, ItemMakes, FramesAccess}
use Rattle.covered_runs.specs.touched_runs.called_frames.Laws.{Layered}
use Rattle.covered_runs.proofs.touched_runs.called_frames.Runs.{runs_layered}
use Rattle.covered_runs.proofs.touched_runs.Runs.{touch_covers_runs}
use Rattle.covered_runs.proofs.touched_runs.Spots.{cell_spot}
use Rattle.changed_cells.specs.Cells.{IsPlain, held, with_type, IsChanged, IsBareChanged, AreInUnion, ItemFills, FramesWrite, IsWritten, StaysBut}
use Rattle.changed_cells.specs.Laws.{ChangesCovered, BareChangesCovered}
use Rattle.changed_cells.proofs.Puts.{never}
use Rattle.changed_cells.proofs.Steps.{steps_write_only}

some_one : {X : Type 0} → {x y : X} → ◌≡◌ {A = Option X} (Some x) (Some y) → x ≡ y
some_one h = cc

none_some : {X : Type 0} → {x : X} → ◌≡◌ {A = Option X} None (Some x) → ⊥
none_some h = cc

there : {X : Type 0} (o : Option X) → IsSome o → (x : X) × (o ≡ Some x)
there None h = absurd (false≢true h)
there (Some x) h = (x, refl)

-- ---- one step more of a run
module _ (w : Running) where
  next_run : (n : ℕ) (state : State) (words : List ℕ) → (run_from w (suc n) state words ≡ run_from w n state words) ⊎ ((word : ℕ) × (step w (run_from w n state words) word ≡ Goes (run_from w (suc n) state words)))
  next_run zero state words = by (step_with w state words) refl
    where
      by : (o : Outcome) → step_with w state words ≡ o → (goes_on (run_from w zero) state (words_after (chooses w state) words) o ≡ state) ⊎ ((word : ℕ) × (step w state word ≡ Goes (goes_on (run_from w zero) state (words_after (chooses w state) words) o)))
      by (Goes next) is = inr (word_for (chooses w state) words, is)
      by (Ends status) is = inl refl
      by (Stops reason m) is = inl refl
  next_run (suc n) state words = by (step_with w state words) (λ s ws. next_run n s ws)
    where
      by : (o : Outcome)
          → ((s : State) (ws : List ℕ) → (run_from w (suc n) s ws ≡ run_from w n s ws) ⊎ ((word : ℕ) × (step w (run_from w n s ws) word ≡ Goes (run_from w (suc n) s ws))))
          → (goes_on (run_from w (suc n)) state (words_after (chooses w state) words) o ≡ goes_on (run_from w n) state (words_after (chooses w state) words) o)
          ⊎ ((word : ℕ) × (step w (goes_on (run_from w n) state (words_after (chooses w state) words) o) word ≡ Goes (goes_on (run_from w (suc n)) state (words_after (chooses w state) words) o)))
      by (Goes next) more = more next (words_after (chooses w state) words)
      by (Ends status) more = inl refl
      by (Stops reason m) more = inl refl

-- ---- the members of a union have one location
union_below : (table : Table) (top r : Reached) (tag : ℕ) (path : List PathStep) → top.ty ≡ UnionOf tag → part_at table (Some top) path ≡ Some r → r.node ≡ top.node
union_below table top r tag path union is = by top.inside refl
  where
    by : (b : Bool) → top.inside ≡ b → r.node ≡ top.node
    by true b_is = (stays_inside table top.ty top.node path r (ap (λ (b : Bool). part_at table (Some (reached top.ty top.node b)) path) (sym b_is) ∙ is)).0
    by false b_is =
        union_node table tag top.node path r
        (ap (λ (t : Ctype). part_at table (Some (reached t top.node false)) path) (sym union) ∙ (ap (λ (b : Bool). part_at table (Some (reached top.ty top.node b)) path) (sym b_is) ∙ is))

union_parts : (table : Table) (whole : Option Reached) (p q : List PathStep) (a b : Reached) → AreInUnion table whole p q → part_at table whole p ≡ Some a → part_at table whole q ≡ Some b → a.node ≡ b.node
union_parts table whole p q a b u a_is b_is =
    let one : part_at table (Some u.top) (Member u.first ∷ u.below) ≡ Some a =
    ap (λ (o : Option Reached). part_at table o (Member u.first ∷ u.below)) (sym u.top_is) ∙ (sym (part_along table whole u.front (Member u.first ∷ u.below)) ∙ (ap (part_at table whole) (sym u.p_is) ∙ a_is)) in
    let two : part_at table (Some u.top) (Member u.second ∷ u.beside) ≡ Some b =
    ap (λ (o : Option Reached). part_at table o (Member u.second ∷ u.beside)) (sym u.top_is) ∙ (sym (part_along table whole u.front (Member u.second ∷ u.beside)) ∙ (ap (part_at table whole) (sym u.q_is) ∙ b_is)) in
    union_below table u.top a u.tag (Member u.first ∷ u.below) u.union one ∙ sym (union_below table u.top b u.tag (Member u.second ∷ u.beside) u.union two)

module _ (g : Sets) (system : System) (grounds : Grounds g.table g.space system) (memory : List Instance) (all : MemoryIn g memory) where
  spot_of : (i : ℕ) (inst : Instance) → slice_get memory i ≡ Some inst → (whole : Ctype) → whole_of g.table inst ≡ Some whole → (p q : List PathStep) (a b : Reached) → part_at g.table (Some (reached whole 0 false)) p ≡ Some a
      → part_at g.table (Some (reached whole 0 false)) q ≡ Some b → a.node ≡ b.node → spot g.table g.space inst.key p ≡ spot g.table g.space inst.key q
  spot_of i inst at whole whole_is p q a b a_is b_is node = by (all i inst at)
    where
      by : InstanceIn g memory inst → spot g.table g.space inst.key p ≡ spot g.table g.space inst.key q
      by inside =
          let shape : HasShape g.table inside.location.content (Some whole) = subst (HasShape g.table inside.location.content) whole_is inside.shape in
          let one = spot_is g.table g.space system grounds inst.key inside.first inside.location inside.first_is inside.location_is (Some whole) shape p a a_is in
          let two = spot_is g.table g.space system grounds inst.key inside.first inside.location inside.first_is inside.location_is (Some whole) shape q b b_is in
          one ∙ (ap (λ (m : ℕ). Some (object_row inside.location.content inside.first m)) node ∙ sym two)

  -- two cells of one union have one location
  union_spot : (i : ℕ) (inst : Instance) → slice_get memory i ≡ Some inst → (p q : List PathStep) (b : Reached) → MayHold g.table (whole_of g.table inst) p → part_in g.table inst q ≡ Some b
      → AreInUnion g.table (whole_part (whole_of g.table inst)) p q → spot g.table g.space inst.key p ≡ spot g.table g.space inst.key q
  union_spot i inst at p q b may b_is u = by (whole_of g.table inst) refl may b_is u
    where
      by : (o : Option Ctype) → whole_of g.table inst ≡ o → MayHold g.table o p → part_at g.table (whole_part o) q ≡ Some b → AreInUnion g.table (whole_part o) p q → spot g.table g.space inst.key p ≡ spot g.table g.space inst.key q
      by None is x y v = absurd (none_some (sym (nowhere g.table q) ∙ y))
      by (Some whole) is x y v =
          let a = there (part_at g.table (Some (reached whole 0 false)) p) x in
          spot_of i inst at whole is p q a.0 b a.1 y (union_parts g.table (Some (reached whole 0 false)) p q a.0 b v a.1 y)

-- ---- a cell that is written is one that the step accesses
fills_makes : (u : CoreTrees) (items : List Item) (key : ObjectKey) → ItemFills items key → ItemMakes u Write items key
fills_makes u (Library n k arguments ∷ items) key fills = (tt, inr fills)
fills_makes u [] key fills = absurd fills
fills_makes u (Do n ∷ items) key fills = absurd fills
fills_makes u (Wait n left values ∷ items) key fills = absurd fills
fills_makes u (Returned v ∷ items) key fills = absurd fills

module _ (world : World) (grounds : Grounds world.program.types world.space world.system) (memory : List Instance) (all : MemoryIn (sets_of world) memory) where
  -- the location of what is written is the cell's
  accessed_so : (frames : List Frame) (i : ℕ) (inst : Instance) → slice_get memory i ≡ Some inst → (path : List PathStep) (part : Reached) → part_in world.program.types inst path ≡ Some part → (c : List PathStep)
      → FramesWrite (trees_of world) memory frames i inst.key c → (c ≡ path) ⊎ AreInUnion world.program.types (whole_part (whole_of world.program.types inst)) c path
      → (p : List PathStep) × FramesAccess (trees_of world) memory Write frames inst.key p × (spot world.program.types world.space inst.key p ≡ spot world.program.types world.space inst.key path)
  accessed_so [] i inst at path part part_is c written same = absurd written
  accessed_so (f ∷ rest) i inst at path part part_is c (inr fills) same = (path, inr (fills_makes (trees_of world) f.items inst.key fills), refl)
  accessed_so (f ∷ rest) i inst at path part part_is c (inl written) (inl one) = (c, inl (i, written.0, written.1), ap (spot world.program.types world.space inst.key) one)
  accessed_so (f ∷ rest) i inst at path part part_is c (inl written) (inr union) =
      let may : MayHold world.program.types (whole_of world.program.types inst) c =
      subst (λ (x : Instance). MayHold world.program.types (whole_of world.program.types x) c) (some_one (sym written.1.there ∙ at)) written.1.may_hold in
      (c, inl (i, written.0, written.1), union_spot (sets_of world) world.system grounds memory all i inst at c path part may part_is union)

frames_accessed : (u : CoreTrees) (memory : List Instance) (frames : List Frame) (i : ℕ) (key : ObjectKey) (path : List PathStep) → FramesWrite u memory frames i key path → FramesAccess u memory Write frames key path
frames_accessed u memory [] i key path h = absurd h
frames_accessed u memory (f ∷ rest) i key path (inl written) = inl (i, written.0, written.1)
frames_accessed u memory (f ∷ rest) i key path (inr fills) = inr (fills_makes u f.items key fills)

-- ---- instances as they are with the type that they get
whole_since : (table : Table) (old new : Instance) → new.key ≡ old.key → new.bytes ≡ old.bytes → whole_of table (with_type old new.ty) ≡ whole_of table new
whole_since table old new key bytes = by new.ty
  where
    by : (o : Option TypeId) → typed_whole table (with_type old new.ty) o ≡ typed_whole table new o
    by None = refl
    by (Some id) =
        ap (λ (k : ObjectKey). Some (cond (is_allocated k) (array_in table k old.bytes (type_of table id.0)) (type_of table id.0))) (sym key)
        ∙ ap (λ (n : ℕ). Some (cond (is_allocated new.key) (array_in table new.key n (type_of table id.0)) (type_of table id.0))) (sym bytes)

-- in an allocated object cells are in elements
in_array : (table : Table) (t : Ctype) (n : ℕ) (path : List PathStep) (part : Reached) → part_at table (Some (reached (ArrayOf t (Some n)) 0 false)) path ≡ Some part → IsPlain part.ty
    → (k : ℕ) × (below : List PathStep) × (path ≡ Index k ∷ below)
in_array table t n [] part is plain = absurd (never (subst (λ (r : Reached). IsPlain r.ty) (sym (some_one is)) plain))
in_array table t n (Index k ∷ below) part is plain = (k, below, refl)
in_array table t n (Member m ∷ below) part is plain = absurd (none_some (sym (nowhere table below) ∙ is))

in_element : (table : Table) (a : Instance) (path : List PathStep) (part : Reached) → is_allocated a.key ≡ true → part_in table a path ≡ Some part → IsPlain part.ty → (k : ℕ) × (below : List PathStep) × (path ≡ Index k ∷ below)
in_element table a path part heap is plain = by a.ty is
  where
    by : (o : Option TypeId) → part_at table (whole_part (typed_whole table a o)) path ≡ Some part → (k : ℕ) × (below : List PathStep) × (path ≡ Index k ∷ below)
    by None e = absurd (none_some (sym (nowhere table path) ∙ e))
    by (Some id) e =
        in_array table (type_of table id.0) (elements_of a.key a.bytes (size_below (extent_in table (type_of table id.0)))) path part
        (ap (λ (b : Bool). part_at table (whole_part (Some (cond b (array_in table a.key a.bytes (type_of table id.0)) (type_of table id.0)))) path) (sym heap) ∙ e) plain

-- a cell that is changed is one of the later memory
changed_cell : (table : Table) (before after : List Instance) (i : ℕ) (key : ObjectKey) (path : List PathStep) → IsChanged table before after i key path → IsCell table after i key path
changed_cell table before after i key path c = record { inst = c.new; there = c.there; key_is = c.key_is; in_tree = by (whole_of table c.new) c.part_is }
  where
    by : (o : Option Ctype) → part_at table (whole_part o) path ≡ Some c.part → IsInTree table o (room c.new) path
    by None e = absurd (none_some (sym (nowhere table path) ∙ e))
    by (Some t) e = subst (λ (o : Option Reached). IsSome o) (sym e) refl

-- nothing is changed in one memory
nothing_changed : (table : Table) (memory : List Instance) (i : ℕ) (key : ObjectKey) (path : List PathStep) → IsChanged table memory memory i key path → ⊥
nothing_changed table memory i key path c = c.differs (ap (λ (x : Instance). held table (with_type x c.new.ty) path c.part.ty) (some_one (sym c.was ∙ c.there)))

nothing_bare : (memory : List Instance) (i : ℕ) (key : ObjectKey) → IsBareChanged memory memory i key → ⊥
nothing_bare memory i key c = (let same : c.new ≡ c.old = some_one (sym c.there ∙ c.was) in c.differs (ap (λ (x : Instance). x.cells) same, ap (λ (x : Instance). x.zero) same))

-- ---- a step that changes a cell accesses one of its location
module _ (world : World) (characters : TypeId) (h : IsSteppable world characters) (state later : State) (word : ℕ) (now : Layered world state) (went : step (running_in world characters) state word ≡ Goes later) (f : Frame) (rest : List Frame)
    (frames_are : state.frames ≡ f ∷ rest) where
  abbrev AreLeft : ℕ → Instance → Instance → Type 0
  AreLeft i old new = StaysBut (trees_of world) state.memory state.frames i old new

  left : (i : ℕ) (old new : Instance) → slice_get state.memory i ≡ Some old → slice_get later.memory i ≡ Some new → AreLeft i old new
  left i old new was there = (let s = steps_write_only world characters state later f rest word i old h now frames_are went was in subst (AreLeft i old) (some_one (sym s.1 ∙ there)) s.2)

  -- an access of a cell at the location of a path
  abbrev AccessesAt : List PathStep → ObjectKey → Type 0
  AccessesAt path key =
      (p : List PathStep) × FramesAccess (trees_of world) state.memory Write state.frames key p × (spot world.program.types world.space key p ≡ spot world.program.types world.space key path)

  module _ (i : ℕ) (key : ObjectKey) (path : List PathStep) (c : IsChanged world.program.types state.memory later.memory i key path) where
    own : AreLeft i c.old c.new
    own = left i c.old c.new c.was c.there

    since : whole_of world.program.types (with_type c.old c.new.ty) ≡ whole_of world.program.types c.new
    since = whole_since world.program.types c.old c.new own.key own.bytes

    typed : (id : TypeId) → c.old.ty ≡ Some id → AccessesAt path c.old.key
    typed id is = by (own.cells path c.part part_is c.plain)
      where
        itself : with_type c.old c.new.ty ≡ c.old
        itself = ap (with_type c.old) (own.ty id is ∙ sym is)

        part_is : part_in world.program.types c.old path ≡ Some c.part
        part_is = ap (λ (o : Option Ctype). part_at world.program.types (whole_part o) path) (ap (whole_of world.program.types) (sym itself) ∙ since) ∙ c.part_is

        by : (held world.program.types c.new path c.part.ty ≡ held world.program.types c.old path c.part.ty) ⊎ IsWritten (trees_of world) state.memory state.frames i c.old path → AccessesAt path c.old.key
        by (inl same) = absurd (c.differs (ap (λ (x : Instance). held world.program.types x path c.part.ty) itself ∙ sym same))
        by (inr written) =
            accessed_so world h.runs.stands.grounds state.memory now.carried.steady.covered.memory state.frames i c.old c.was path c.part part_is written.cell written.written written.same

    -- what had no type and has one now was allocated
    allocated : MemoryIn (sets_of world) later.memory → c.old.ty ≡ None → is_allocated c.new.key ≡ true
    allocated after none = by ((now.carried.steady.covered.memory i c.old c.was).untyped none)
      where
        by : IsTrue (is_allocated c.old.key) ⊎ IsFurther c.old.key → is_allocated c.new.key ≡ true
        by (inl heap) = ap is_allocated own.key ∙ heap
        by (inr further) =
            let bare : c.new.ty ≡ None = ((after i c.new c.there).further (subst IsFurther (sym own.key) further)).0 in
            absurd (none_some (sym (ap (λ (o : Option TypeId). part_at world.program.types (whole_part (typed_whole world.program.types c.new o)) path) bare ∙ nowhere world.program.types path) ∙ c.part_is))

    untyped : MemoryIn (sets_of world) later.memory → c.old.ty ≡ None → AccessesAt path c.old.key
    untyped after none = by (own.bare none)
      where
        by : ((c.new.cells ≡ c.old.cells) × (c.new.zero ≡ c.old.zero)) ⊎ ((k : ℕ) (below : List PathStep) → FramesWrite (trees_of world) state.memory state.frames i c.old.key (Index k ∷ below)) → AccessesAt path c.old.key
        by (inl same) =
            absurd (c.differs
            (ap (λ (o : Option Ctype). option_map (cell_in c.old.zero c.part.ty) (opened world.program.types o path c.old.cells)) since
            ∙ (ap (λ (cells : CellList). option_map (cell_in c.old.zero c.part.ty) (opened world.program.types (whole_of world.program.types c.new) path cells)) (sym same.0)
            ∙ ap (λ (z : Bool). option_map (cell_in z c.part.ty) (opened world.program.types (whole_of world.program.types c.new) path c.new.cells)) (sym same.1))))
        by (inr all) =
            let e = in_element world.program.types c.new path c.part (allocated after none) c.part_is c.plain in
            (path, subst (FramesAccess (trees_of world) state.memory Write state.frames c.old.key) (sym e.2) (frames_accessed (trees_of world) state.memory state.frames i c.old.key (Index e.0 ∷ e.1) (all e.0 e.1)), refl)

    change_accessed : MemoryIn (sets_of world) later.memory → AccessesAt path key
    change_accessed after = subst (AccessesAt path) (sym own.key ∙ c.key_is) (by c.old.ty refl)
      where
        by : (o : Option TypeId) → c.old.ty ≡ o → AccessesAt path c.old.key
        by None is = untyped after is
        by (Some id) is = typed id is

  -- the same of an object that has no type yet
  bare_accessed : (i k : ℕ) (key : ObjectKey) (path : List PathStep) → IsBareChanged state.memory later.memory i key → FramesAccess (trees_of world) state.memory Write state.frames key (Index k ∷ path)
  bare_accessed i k key path c = subst (λ (x : ObjectKey). FramesAccess (trees_of world) state.memory Write state.frames x (Index k ∷ path)) (sym own.key ∙ c.key_is) (by c.old.ty refl)
    where
      own : AreLeft i c.old c.new
      own = left i c.old c.new c.was c.there

      all : ((c.new.cells ≡ c.old.cells) × (c.new.zero ≡ c.old.zero)) ⊎ ((j : ℕ) (below : List PathStep) → FramesWrite (trees_of world) state.memory state.frames i c.old.key (Index j ∷ below))
          → FramesAccess (trees_of world) state.memory Write state.frames c.old.key (Index k ∷ path)
      all (inl same) = absurd (c.differs same)
      all (inr written) = frames_accessed (trees_of world) state.memory state.frames i c.old.key (Index k ∷ path) (written k path)

      by : (o : Option TypeId) → c.old.ty ≡ o → FramesAccess (trees_of world) state.memory Write state.frames c.old.key (Index k ∷ path)
      by None is = all (own.bare is)
      by (Some id) is = absurd (none_some (sym c.untyped ∙ own.ty id is))

top_frame : (frames : List Frame) (f : Frame) → Contains frames f → (top : Frame) × (rest : List Frame) × (frames ≡ top ∷ rest)
top_frame [] f (k, lt, at) = absurd (omega arith)
top_frame (top ∷ rest) f has = (top, rest, refl)

pub changes_covered : ChangesCovered
unfolding types_with run
changes_covered units p system family made words n i key path f analysed effects c has =
    let r = runs_layered p system family (scene units p system family analysed) in
    let after = (r.2 words (suc n)).carried.steady.covered.memory in
    let location = there (spot (types_with p.types) (locations_in p) key path)
    (cell_spot (sets_of (machine_world p system family r.0)) system r.1.runs.stands.grounds (run p words (suc n)).memory after i key path
    (changed_cell (types_with p.types) (run p words n).memory (run p words (suc n)).memory i key path c)) in
    elim (next_run (running p) n (start p) words) [
      | inl same ↦
          absurd (nothing_changed (types_with p.types) (run p words n).memory i key path (subst (λ (s : State). IsChanged (types_with p.types) (run p words n).memory s.memory i key path) same c))
      | inr went ↦
          let top = top_frame (run p words n).frames f has in
          let a = change_accessed (machine_world p system family r.0) (id (length p.types.terms)) r.1 (run p words n) (run p words (suc n)) went.0 (r.2 words n) went.1 top.0 top.1 top.2 i key path c after in
          (location.0, location.1, touch_covers_runs units p system family made words n Write key a.0 location.0 f analysed effects a.1 (a.2 ∙ location.1) has)
    ]

pub bare_changes_covered : BareChangesCovered
unfolding types_with run
bare_changes_covered units p system family made words n i k key path location f analysed effects c lands has =
    let r = runs_layered p system family (scene units p system family analysed) in
    elim (next_run (running p) n (start p) words) [
      | inl same ↦ absurd (nothing_bare (run p words n).memory i key (subst (λ (s : State). IsBareChanged (run p words n).memory s.memory i key) same c))
      | inr went ↦
          let top = top_frame (run p words n).frames f has in
          touch_covers_runs units p system family made words n Write key (Index k ∷ path) location f analysed effects
          (bare_accessed (machine_world p system family r.0) (id (length p.types.terms)) r.1 (run p words n) (run p words (suc n)) went.0 (r.2 words n) went.1 top.0 top.1 top.2 i k key path c) lands has
    ]
