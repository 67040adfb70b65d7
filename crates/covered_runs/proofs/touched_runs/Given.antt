-- What the arguments of a pending library function lead to: an argument of the call that waits for it, or that waits for the one that calls it back.
use Rattle.std.proofs.Common.{arith, ◌≡◌, ◌∙◌, inl, inr, ℕ, zero, suc, ◌&&◌, Bool, true, false, List, [], ◌∷◌, Option, Some, None, slice_get, Contains, IsSome, refl, sym, ap, subst}
use Rattle.std.specs.Prelude.{option_and_then}
use Rattle.std.proofs.lemmas.Bool.{false≢true}
use Rattle.c_types.specs.declared.key.ObjectKey.TheVariants.{Entity as EntityKey, Function as FunctionKey}
use Rattle.c_types.specs.declared.term.PathStep.{PathStep}
use Rattle.c_types.specs.declared.term.TypeId.{TypeId}
use Rattle.core_tree.specs.declared.node.Node.{Node}
use Rattle.core_tree.specs.Rows.{Has}
use Rattle.core_tree.specs.Typed.{ValueNode, sort_of}
use Rattle.lib_summaries.specs.Table.{Row as Summary, rows as summaries}
use Rattle.sol_model.specs.declared.system.CallSite.{CallSite}
use Rattle.sol_model.specs.declared.system.Function.{Function}
use Rattle.sol_model.specs.Rules.{first_row}
use Rattle.row_numbers.specs.Functions.{key_type}
use Rattle.call_sites.specs.Calls.{IsSiteAt}
use Rattle.normal_form.specs.Assignments.{row_in}
use Rattle.mod_ref.specs.Direct.{IsLibraryTarget}
use Rattle.ref_blocks.specs.Ways.{kind_in, kind_at, children_at}
use Rattle.ref_cells.specs.declared.cells.Cell.{Cell}
use Rattle.ref_cells.specs.declared.cells.Cell.TheVariants.{Unset, Number, Null, Pointer, Function as FunctionCell}
use Rattle.ref_cells.specs.declared.cells.Value.{Value}
use Rattle.ref_cells.specs.declared.instance.Instance.{Instance}
use Rattle.ref_cells.specs.Cells.{CellList}
use Rattle.ref_elements.specs.Arguments.{first_cell, argument}
use Rattle.ref_lib.specs.declared.rows.Row.{Row}
use Rattle.ref_lib.specs.Effects.{rows as table_rows}
use Rattle.ref_state.specs.declared.items.Item.{Item}
use Rattle.ref_state.specs.declared.items.Item.TheVariants.{Do, Wait, Library, Result as Returned}
use Rattle.ref_state.specs.declared.frames.Frame.{Frame}
use Rattle.ref_state.specs.declared.state.State.{State}
use Rattle.covering_laws.specs.covered_memory.Cells.{EachCell}
use Rattle.covering_laws.specs.covered_memory.Spots.{spot}
use Rattle.covering_laws.specs.covered_memory.Covered.{Lands, PointsIn, CellIn}
use Rattle.covering_laws.specs.covered_state.World.{World, trees_of, sets_of, setting_in}
use Rattle.covering_laws.specs.covered_state.Items.{Each, IsOwned, ExistsIn, AllExist, IsPending, IsPendingBack, ItemIn}
use Rattle.covering_laws.specs.covered_state.Awaited.{AwaitedIn}
use Rattle.covering_laws.specs.covered_state.State.{Covered}
use Rattle.covering_laws.proofs.covered_rows.Places.{held_cell}
use Rattle.covering_laws.proofs.covered_library.Effects.{argument_is}
use Rattle.covered_runs.specs.covered_steps.Steps.{NoneBare}
use Rattle.covered_runs.specs.covered_steps.covered_statements.Stacked.{PendingOn, Stacked}
use Rattle.covered_runs.specs.covered_steps.covered_statements.Runnable.{IsRunnable}
use Rattle.covered_runs.proofs.covered_steps.covered_statements.Ways.{child_owned}
use Rattle.covered_runs.specs.covered_steps.covered_effects.Served.{IsOfShape, Reaches}
use Rattle.covered_runs.proofs.covered_steps.covered_effects.Called.{call_kind, contains_at}
use Rattle.covered_runs.proofs.covered_steps.covered_effects.Needs.{rows_below, of_call, fact, shape, has_argument}
use Rattle.covered_runs.proofs.covered_steps.covered_effects.Told.{TakesPointer, takes_pointer, takes}
use Rattle.covered_runs.specs.machine_sound.Carried.{IsSteppable}
use Rattle.covered_runs.specs.touched_runs.called_frames.Looked.{looked_at, looked_in, looked_by}
use Rattle.covered_runs.specs.touched_runs.called_frames.Layers.{LeadsBeside, AreBeside, AreLayered}
use Rattle.covered_runs.proofs.touched_runs.Numbers.{site_at}
use Rattle.covered_runs.proofs.touched_runs.Pointed.{beside_spot}

some_one : {X : Type 0} → {x y : X} → ◌≡◌ {A = Option X} (Some x) (Some y) → x ≡ y
some_one h = cc

none_some : {X : Type 0} → {x : X} → ◌≡◌ {A = Option X} None (Some x) → ⊥
none_some h = cc

entity_function : {e k : ℕ} → EntityKey e ≡ FunctionKey k → ⊥
entity_function h = cc

-- ---- the parameters through which functions look are pointers

abbrev all_take : List ℕ → List ℕ → Bool
all_take [] shape = true
all_take (i ∷ rest) shape = takes_pointer i shape && all_take rest shape

abbrev rows_take : List Row → List Summary → Bool
rows_take [] others = true
rows_take (row ∷ rest) [] = true
rows_take (row ∷ rest) (summary ∷ others) = all_take (looked_at row) summary.shape && rows_take rest others

all_rows_take : rows_take table_rows summaries ≡ true
unfolding table_rows summaries
all_rows_take = refl

first_true : (a b : Bool) → (a && b) ≡ true → a ≡ true
first_true true b e = refl
first_true false b e = absurd (false≢true e)

second_true : (a b : Bool) → (a && b) ≡ true → b ≡ true
second_true true b e = e
second_true false b e = absurd (false≢true e)

take_one : (list shape : List ℕ) (i : ℕ) → all_take list shape ≡ true → Contains list i → takes_pointer i shape ≡ true
take_one [] shape i h (k, lt, at) = absurd (omega arith)
take_one (x ∷ rest) shape i h (zero, lt, at) = subst (λ (n : ℕ). takes_pointer n shape ≡ true) at (first_true (takes_pointer x shape) (all_take rest shape) h)
take_one (x ∷ rest) shape i h (suc k, lt, at) = take_one rest shape i (second_true (takes_pointer x shape) (all_take rest shape) h) (k, omega arith, at)

take_at : (list : List Row) (others : List Summary) (k : ℕ) (row : Row) (s : Summary) → rows_take list others ≡ true → slice_get list k ≡ Some row → slice_get others k ≡ Some s → all_take (looked_at row) s.shape ≡ true
take_at [] others k row s h at there = absurd (none_some at)
take_at (x ∷ rest) [] k row s h at there = absurd (none_some there)
take_at (x ∷ rest) (y ∷ others) zero row s h at there =
    subst (λ (r : Row). all_take (looked_at r) s.shape ≡ true) (some_one at)
    (subst (λ (z : Summary). all_take (looked_at x) z.shape ≡ true) (some_one there) (first_true (all_take (looked_at x) y.shape) (rows_take rest others) h))
take_at (x ∷ rest) (y ∷ others) (suc k) row s h at there = take_at rest others k row s (second_true (all_take (looked_at x) y.shape) (rows_take rest others) h) at there

-- a function that looks through an argument has a row
looked_row : (o : Option Row) (i : ℕ) → Contains (looked_in o) i → (row : Row) × (o ≡ Some row) × Contains (looked_at row) i
looked_row None i (k, lt, at) = absurd (omega arith)
looked_row (Some row) i h = (row, refl, h)

row_found : (o : Option (List ℕ)) (r : ℕ) → option_and_then first_row o ≡ Some r → (list : List ℕ) × (o ≡ Some list) × (slice_get list 0 ≡ Some r)
row_found None r e = absurd (none_some e)
row_found (Some list) r e = (list, refl, e)

-- ---- arguments

-- what a cell points to is in the row of an argument of a call of the library at that node
pub record IsLookedThrough (world : World) (memory : List Instance) (n : ℕ) (cell : Cell) : Type 0 where
  pub site : CallSite
  pub there : Contains world.system.calls site
  pub right : IsSiteAt (setting_in world) n site
  pub number : ℕ
  pub function : Function
  pub target : IsLibraryTarget world.system world.family site number function
  pub list : List ℕ
  pub given : Contains site.arguments list
  pub row : ℕ
  pub listed : Contains list row
  pub held : (i : ℕ) (path : List PathStep) (past : Bool) → cell ≡ Pointer i path past → PointsIn (sets_of world) memory (Some row) i path

leads_inv : (i : ℕ) (p : List PathStep) (past : Bool) (d : Cell) → LeadsBeside (Pointer i p past) d → (q : List PathStep) × (over : Bool) × (d ≡ Pointer i q over) × AreBeside p q
leads_inv i p past (Pointer j q over) h = (q, over, ap (λ (k : ℕ). Pointer k q over) (sym h.0), h.1)
leads_inv i p past Unset h = absurd h
leads_inv i p past Null h = absurd h
leads_inv i p past (Number n) h = absurd h
leads_inv i p past (FunctionCell key) h = absurd h

-- what an argument points to is there
first_exists : (world : World) (memory : List Instance) (cells : CellList) → EachCell (λ path cell. ExistsIn world memory cell) cells → ExistsIn world memory (first_cell cells)
first_exists world memory [] h = tt
first_exists world memory (e ∷ rest) h = h.0

argument_exists : (world : World) (memory : List Instance) (arguments : List Value) (k : ℕ) → AllExist world memory arguments → ExistsIn world memory (argument arguments k)
argument_exists world memory [] k h = tt
argument_exists world memory (v ∷ rest) zero h = first_exists world memory v.cells h.0
argument_exists world memory (v ∷ rest) (suc k) h = argument_exists world memory rest k h.1

module _ (world : World) (runs : IsRunnable world) (memory : List Instance) where
  pending_on : (n k m : ℕ) (arguments : List Value) (left : List ℕ) (values : List (ℕ × Value)) (rest : List Item) → PendingOn world memory n k arguments (Wait m left values ∷ rest) → IsPending world memory n k arguments
  pending_on n k m arguments left values rest (inl p) = p.1
  pending_on n k m arguments left values rest (inr p) = absurd (false≢true (sym p.0))

  back_on : (n k m j : ℕ) (arguments others : List Value) (rest : List Item) → PendingOn world memory n k arguments (Library m j others ∷ rest) → IsPendingBack world memory n k arguments
  back_on n k m j arguments others rest (inl p) = absurd (false≢true p.0)
  back_on n k m j arguments others rest (inr p) = p.1

  -- the node of a pending library function is the program's, where the frame's function is
  pub library_owned : (e n k : ℕ) (arguments : List Value) (items : List Item) → Stacked (trees_of world).nodes (PendingOn world memory) (Library n k arguments ∷ items) → AreLayered (EntityKey e) (Library n k arguments ∷ items)
      → Each (ItemIn world memory (EntityKey e)) (Library n k arguments ∷ items) → IsOwned world (EntityKey e) n
  library_owned e n k arguments [] stacked layered each = absurd (entity_function layered.0.0)
  library_owned e n k arguments (Wait m left values ∷ rest) stacked layered each =
      let pending = pending_on n k m arguments left values rest stacked.0 in
      let value : sort_of (kind_at (trees_of world).nodes n) ≡ ValueNode =
      ap (λ (o : Option Node). sort_of (kind_in o)) pending.there ∙ ap sort_of (call_kind world pending.target.call n pending.node pending.target.call_is pending.there) in
      let has : Has (children_at (trees_of world).nodes m) n = (stacked.1 refl).parent value in
      child_owned world runs (EntityKey e) m n each.1.0.0 has
  library_owned e n k arguments (Library m j others ∷ rest) stacked layered each = subst (IsOwned world (EntityKey e)) layered.0.0 (library_owned e m j others rest stacked.2 layered.1 each.1)
  library_owned e n k arguments (Do m ∷ rest) stacked layered each = absurd layered.0
  library_owned e n k arguments (Returned v ∷ rest) stacked layered each = absurd layered.0

-- a call that is pending reaches the library function
abbrev pub pending_reaches : (world : World) (memory : List Instance) (n k : ℕ) (arguments : List Value) → IsPending world memory n k arguments → Reaches world n k
pending_reaches world memory n k arguments pending = record {
  node = pending.node;
  there = pending.there;
  kind = call_kind world pending.target.call n pending.node pending.target.call_is pending.there;
  target = pending.target;
  type = pending.fits;
}

module _ (world : World) (characters : TypeId) (h : IsSteppable world characters) (state : State) (f : Frame) (rest : List Frame) (covered : Covered world state) (none : NoneBare world state.memory) where
  -- the state as it would be where that call alone were on top
  abbrev pub frame_at : ℕ → ℕ → List Value → Frame
  frame_at n k arguments = record f { items = Library n k arguments ∷ [] }

  abbrev pub state_at : ℕ → ℕ → List Value → State
  state_at n k arguments = record state { frames = frame_at n k arguments ∷ rest }

  pub awaited_at : (n k : ℕ) (arguments : List Value) → AwaitedIn world (state_at n k arguments)
  awaited_at n k arguments = record { each = λ i inst at bare. absurd (none i inst at bare) }

  pending_looked : (n k : ℕ) (arguments : List Value) → IsPending world state.memory n k arguments → (i : ℕ) → Contains (looked_by k) i → IsLookedThrough world state.memory n (argument arguments i)
  pending_looked n k arguments pending i looks =
      let stands = h.runs.stands in
      let reaches = pending_reaches world state.memory n k arguments pending in
      let site = reaches.target.target.0 in
      let at = reaches.target.target.2 in
      let row = looked_row (slice_get table_rows k) i looks in
      let o : IsOfShape (trees_of world) k = shape world stands characters h.served n k reaches (rows_below k row.0 row.1) in
      let pointer = take_one (looked_at row.0) o.row.shape i (take_at table_rows summaries k row.0 o.row all_rows_take row.1 o.row_is) row.2 in
      let told : TakesPointer (key_type (trees_of world) (FunctionKey k)) i = takes (key_type (trees_of world) (FunctionKey k)) o.row.shape o.shape o.listed i pointer in
      let given = has_argument world stands characters h.served n k reaches (state_at n k arguments) (frame_at n k arguments) rest arguments [] (awaited_at n k arguments) refl refl covered.memory pending.arguments_in o.listed i told in
      let own = fact world stands characters h.served n k reaches in
      let of = of_call world stands characters h.served n k reaches in
      let listed = argument_is world.program world.space world.system world.is_system world.family stands.closed stands.grounds reaches.target.call n reaches.node site at of reaches.target.function reaches.target.target.1
      reaches.target.target.3 k own.library i given.0 given.1 given.2 given.3 in
      let found = row_found (slice_get site.arguments i) (row_in (setting_in world) given.0) listed in
      record {
        site = site;
        there = contains_at world.system.calls reaches.target.call site at;
        right = site_at world n reaches.target.call site reaches.target.call_is at;
        number = reaches.target.function;
        function = reaches.target.target.1;
        target = record { target = reaches.target.target.3; library = subst IsSome (sym own.library) refl };
        list = found.0;
        given = contains_at site.arguments i found.0 found.1;
        row = row_in (setting_in world) given.0;
        listed = contains_at found.0 0 (row_in (setting_in world) given.0) found.2;
        held = λ j path past is.
            subst (CellIn (sets_of world) state.memory (Some (row_in (setting_in world) given.0))) is
            (held_cell world.program world.space world.system world.is_system world.family stands.closed stands.grounds given.0 given.1 state.memory (argument arguments i) given.3 given.4);
      }

  -- whatever it stands on
  pub looked : (e n k : ℕ) (arguments : List Value) (items : List Item) → Stacked (trees_of world).nodes (PendingOn world state.memory) (Library n k arguments ∷ items) → AreLayered (EntityKey e) (Library n k arguments ∷ items)
      → (i : ℕ) → Contains (looked_by k) i → IsLookedThrough world state.memory n (argument arguments i)
  looked e n k arguments [] stacked layered i looks = absurd (entity_function layered.0.0)
  looked e n k arguments (Wait m left values ∷ more) stacked layered i looks = pending_looked n k arguments (pending_on world h.runs state.memory n k m arguments left values more stacked.0) i looks
  looked e n k arguments (Library m j others ∷ more) stacked layered i looks =
      let led = layered.0.1 i in
      let below = looked e m j others more stacked.2 layered.1 led.0 led.1 in
      let back = back_on world h.runs state.memory n k m j arguments others more stacked.0 in
      subst (λ (x : ℕ). IsLookedThrough world state.memory x (argument arguments i)) layered.0.0
      (record {
        site = below.site;
        there = below.there;
        right = below.right;
        number = below.number;
        function = below.function;
        target = below.target;
        list = below.list;
        given = below.given;
        row = below.row;
        listed = below.listed;
        held = λ x path past is. points below.row (argument others led.0) below.held x path past (subst (λ (c : Cell). LeadsBeside c (argument others led.0)) is led.2)
            (subst (ExistsIn world state.memory) is (argument_exists world state.memory arguments i back.exist));
      })
    where
      points : (row : ℕ) (other : Cell) → ((y : ℕ) (path : List PathStep) (past : Bool) → other ≡ Pointer y path past → PointsIn (sets_of world) state.memory (Some row) y path) → (x : ℕ) (path : List PathStep) (past : Bool)
          → LeadsBeside (Pointer x path past) other → ExistsIn world state.memory (Pointer x path past) → PointsIn (sets_of world) state.memory (Some row) x path
      points row other held x path past leads exists =
          let l = leads_inv x path past other leads in
          let b = held x l.0 l.1 l.2 in
          let same : b.inst ≡ exists.0 = some_one (sym b.inst_is ∙ exists.1) in
          record {
            inst = exists.0;
            inst_is = exists.1;
            in_tree = exists.2;
            lands = subst (Lands world.family (Some row)) (ap (λ (z : Instance). spot world.program.types world.space z.key l.0) same ∙ sym (beside_spot world.program.types world.space exists.0.key path l.0 l.3)) b.lands;
          }
  looked e n k arguments (Do m ∷ more) stacked layered i looks = absurd layered.0
  looked e n k arguments (Returned v ∷ more) stacked layered i looks = absurd layered.0
