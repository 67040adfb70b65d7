-- Steps that go on in the top frame leave the state covered.
use Rattle.std.proofs.Common.{◌≡◌, ◌∙◌, inl, inr, ◌⊎◌, ℕ, zero, suc, List, [], ◌∷◌, take, drop, remove, Option, Some, None, slice_get, refl, sym, ap, subst}
use Rattle.c_types.specs.declared.key.ObjectKey.{ObjectKey}
use Rattle.core_tree.specs.declared.node.Node.{Node}
use Rattle.core_tree.specs.declared.node.NodeKind.TheVariants.{Convert}
use Rattle.ref_cells.specs.declared.cells.Value.{Value}
use Rattle.ref_cells.specs.declared.instance.Instance.{Instance}
use Rattle.ref_state.specs.declared.items.Item.{Item}
use Rattle.ref_state.specs.declared.items.Item.TheVariants.{Do, Wait}
use Rattle.ref_state.specs.declared.frames.Frame.{Frame}
use Rattle.ref_state.specs.declared.notes.Notes.{Notes}
use Rattle.ref_state.specs.declared.state.State.{State}
use Rattle.ref_state.specs.Items.{settled, taken_from, operand_taken}
use Rattle.ref_state.specs.Values.{cell_in}
use Rattle.covering_laws.specs.covered_memory.Covered.{Leaves}
use Rattle.covering_laws.specs.covered_state.World.{World, trees_of, sets_of}
use Rattle.covering_laws.specs.covered_state.Items.{Each, NodeIn, IsOwned, ItemIn}
use Rattle.covering_laws.specs.covered_state.State.{FrameIn, NotesIn, Covered}
use Rattle.covering_laws.proofs.covered_state.Stays.{each_append, items_stay, frames_stay, handed_stay, settled_in}
use Rattle.covered_runs.specs.covered_steps.covered_values.Values.{MayType, IsComputed}
use Rattle.covered_runs.proofs.covered_steps.covered_values.Awaited.{top_one, types_awaited}
use Rattle.covered_runs.proofs.covered_steps.covered_values.Bare.{nothing_bare}
use Rattle.covered_runs.proofs.covered_steps.covered_values.Computed.{values_covered}
use Rattle.covered_runs.specs.covered_steps.Steps.{moved, NoneBare, StepsMoved, StepsComputed}
use Rattle.covered_runs.proofs.covered_steps.Placed.{none_some, some_one}

pub wait_left : {n m : ℕ} → {left other : List ℕ} → {values more : List (ℕ × Value)} → Wait n left values ≡ Wait m other more → left ≡ other
wait_left h = cc

pub cons_none : {c : ℕ} → {left : List ℕ} → ◌≡◌ {A = List ℕ} (c ∷ left) [] → ⊥
cons_none h = cc

-- a fact of each element of parts of a list
pub each_take : {X : Type 0} (P : X → Type 0) (k : ℕ) (xs : List X) → Each P xs → Each P (take k xs)
each_take P zero xs h = tt
each_take P (suc k) [] h = tt
each_take P (suc k) (x ∷ xs) h = (h.0, each_take P k xs h.1)

pub each_drop : {X : Type 0} (P : X → Type 0) (k : ℕ) (xs : List X) → Each P xs → Each P (drop k xs)
each_drop P zero xs h = h
each_drop P (suc k) [] h = tt
each_drop P (suc k) (x ∷ xs) h = each_drop P k xs h.1

pub each_at : {X : Type 0} (P : X → Type 0) (xs : List X) (k : ℕ) (x : X) → slice_get xs k ≡ Some x → Each P xs → P x
each_at P [] k x e h = absurd (none_some e)
each_at P (y ∷ ys) zero x e h = subst P (some_one e) h.0
each_at P (y ∷ ys) (suc k) x e h = each_at P ys k x e h.1

module _ (world : World) (state : State) (f : Frame) (rest : List Frame) (covered : Covered world state) (frames_are : state.frames ≡ f ∷ rest) where
  pub own_frames : Each (FrameIn world state.memory) (f ∷ rest)
  own_frames = subst (Each (FrameIn world state.memory)) frames_are covered.frames

  -- a covered memory, items and notes are a covered state
  moved_so : (memory : List Instance) (own : List ℕ) (items : List Item) (notes : Notes) → Leaves (sets_of world) state.memory memory → Each (ItemIn world memory f.function) items → NotesIn world memory notes
      → NoneBare world memory → Covered world (moved state f rest memory own items notes)
  moved_so memory own items notes left h noted bare = record {
    memory = left.covered;
    frames = (record { called = own_frames.0.called; back = own_frames.0.back; entered = own_frames.0.entered; items = h }, frames_stay world state.memory memory left.extends rest own_frames.1);
    kept = covered.kept;
    notes = noted;
    handed = handed_stay world state.memory memory left.extends state.handed covered.handed;
    awaited = record { each = λ i inst at b. absurd (bare i inst at b) };
  }

  -- the items of the top frame
  pub own_items : (top : Item) (items : List Item) → f.items ≡ top ∷ items → Each (ItemIn world state.memory f.function) (top ∷ items)
  own_items top items is = subst (Each (ItemIn world state.memory f.function)) is own_frames.0.items

  -- where the top item is no conversion with its operand, no object waits for its type
  pub none_bare : (top : Item) (items : List Item) → f.items ≡ top ∷ items → ((m : ℕ) (values : List (ℕ × Value)) (node : Node) → top ≡ Wait m [] values → slice_get (trees_of world).nodes m ≡ Some node → node.kind ≡ Convert → ⊥)
      → NoneBare world state.memory
  none_bare top items is other i inst at bare =
      let w = covered.awaited.each i inst at bare in
      other w.convert ((w.call, _) ∷ []) w.node (top_one (sym is ∙ (ap (λ (g : Frame). g.items) (top_one (sym frames_are ∙ w.frames_are)) ∙ w.items_are))) w.there w.kind

pub steps_moved : StepsMoved
steps_moved world state f rest memory own items notes covered frames_are left h noted bare = moved_so world state f rest covered frames_are memory own items notes left h noted bare

pub steps_computed : StepsComputed
steps_computed world state f rest n node values top items word e stands typed covered frames_are items_are how there is =
    moved_so world state f rest covered frames_are e.memory f.instances (settled n e.outcome.value f.items) (record { target = None; stores = e.outcome.stores }) done.leaves
    (settled_in world e.memory f.function n e.outcome.value f.items done.value (items_stay world state.memory e.memory done.leaves.extends f.function f.items (own_frames world state f rest covered frames_are).0.items))
    (record { target = tt; stores = done.stores })
    (λ i inst at bare. nothing_bare world state f rest f.instances n node values top items word e stands typed covered.awaited frames_are items_are (either how) there is done i inst at bare)
  where
    either : ((top ≡ Do n) × (values ≡ [])) ⊎ (top ≡ Wait n [] values) → (top ≡ Do n) ⊎ (top ≡ Wait n [] values)
    either (inl does) = inl does.0
    either (inr waits) = inr waits

    held : ((top ≡ Do n) × (values ≡ [])) ⊎ (top ≡ Wait n [] values) → Each (λ v. NodeIn world state.memory v.0 v.1) values
    held (inl does) = subst (Each (λ v. NodeIn world state.memory v.0 v.1)) (sym does.1) tt
    held (inr waits) =
        let h = (own_items world state f rest covered frames_are top items items_are).0 in
        (subst (ItemIn world state.memory f.function) waits h).2

    may : ((top ≡ Do n) × (values ≡ [])) ⊎ (top ≡ Wait n [] values) → (v : ℕ) → node.kind ≡ Convert → node.children ≡ v ∷ [] → MayType world state.memory (cell_in values v) node.ty
    may (inl does) v kind children = subst (λ (vs : List (ℕ × Value)). MayType world state.memory (cell_in vs v) node.ty) (sym does.1) tt
    may (inr waits) v kind children =
        types_awaited world state f rest n v node values items typed covered.awaited frames_are (items_are ∙ ap (λ (x : Item). x ∷ items) waits) there kind children

    done : IsComputed world state.memory n e
    done = values_covered world state.memory f.instances n node values word e stands covered.memory there (held how) (may how) is

-- the operand that is done next stands in the function, and so do those that are left
pub taken_items : (world : World) (memory : List Instance) (f : ObjectKey) (n c i : ℕ) (left : List ℕ) (values : List (ℕ × Value)) (items : List Item) → Each (ItemIn world memory f) (Wait n (c ∷ left) values ∷ items)
    → Each (ItemIn world memory f) (operand_taken i (Wait n (c ∷ left) values ∷ items))
taken_items world memory f n c i left values items own = taken (slice_get (c ∷ left) i) refl
  where
    fewer : Each (IsOwned world f) (remove (c ∷ left) i)
    fewer =
        each_append (IsOwned world f) (take i (c ∷ left)) (drop (suc i) (c ∷ left)) (each_take (IsOwned world f) i (c ∷ left) own.0.1)
        (each_drop (IsOwned world f) (suc i) (c ∷ left) own.0.1)

    taken : (o : Option ℕ) → slice_get (c ∷ left) i ≡ o → Each (ItemIn world memory f) (taken_from i (Wait n (c ∷ left) values) items o)
    taken None is = own
    taken (Some x) is = (each_at (IsOwned world f) (c ∷ left) i x is own.0.1, ((own.0.0, fewer, own.0.2), own.1))
