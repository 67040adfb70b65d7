-- The rows of all nodes but calls leave the state covered and stacked.
use Rattle.std.proofs.Common.{◌≡◌, ◌∙◌, inl, inr, ◌⊎◌, ℕ, Bool, true, false, List, [], ◌∷◌, drop, length, Option, Some, None, Ok, Err, slice_get, refl, sym, ap, subst}
use Rattle.std.proofs.lemmas.Bool.{false≢true}
use Rattle.c_types.specs.declared.key.ObjectKey.{ObjectKey}
use Rattle.c_types.specs.declared.key.ObjectKey.TheVariants.{Entity as EntityKey}
use Rattle.c_types.specs.Trees.{Ctype}
use Rattle.c_types.specs.Table.{type_of}
use Rattle.core_tree.specs.declared.node.Node.{Node}
use Rattle.core_tree.specs.declared.node.NodeKind.{NodeKind}
use Rattle.core_tree.specs.declared.node.NodeKind.TheVariants.{Choose, Convert, Return}
use Rattle.core_tree.specs.Rows.{Has, RowOf}
use Rattle.core_tree.specs.Typed.{CoreTrees}
use Rattle.ref_cells.specs.declared.cells.Value.{Value}
use Rattle.ref_elements.specs.Outcomes.{Effect, Effected, gives}
use Rattle.ref_state.specs.declared.items.Item.{Item}
use Rattle.ref_state.specs.declared.items.Item.TheVariants.{Do, Wait}
use Rattle.ref_state.specs.declared.frames.Frame.{Frame}
use Rattle.ref_state.specs.declared.state.State.{State}
use Rattle.ref_state.specs.Changes.{Change, blocks_of, changed_frame}
use Rattle.ref_state.specs.Items.{settled, operand_taken, replaced}
use Rattle.ref_state.specs.Values.{cell_of, value_in, cell_in}
use Rattle.ref_values.specs.Values.{is_true, computed}
use Rattle.ref_blocks.specs.declared.block.Block.TheVariants.{Part}
use Rattle.ref_blocks.specs.Ways.{kind_in, kind_at, children_in, children_at}
use Rattle.ref_frames.specs.OnTop.{only}
use Rattle.ref_statements.specs.declared.forms.Form.{Form}
use Rattle.ref_statements.specs.Forms.{form_of, goto_name, branches, part_before}
use Rattle.ref_statements.specs.Rows.{Next, Move, goes_on, changes, computes}
use Rattle.ref_statements.specs.Statements.{waits, begun_row, finished_row}
use Rattle.ref_statements.specs.Initialisers.{initialise_row}
use Rattle.ref_statements.specs.Nodes.{begun_value, begun_initialiser, begun_by, do_in, do_row, picked, first_value, chosen, choose_row, operand_at, part_left, operand_row, taken_by, finish_row, wait_in, wait_row}
use Rattle.covering_laws.specs.covered_memory.Covered.{Leaves}
use Rattle.covering_laws.proofs.covered_memory.Stays.{same_memory}
use Rattle.covering_laws.specs.covered_state.World.{World, trees_of, sets_of}
use Rattle.covering_laws.specs.covered_state.Items.{Each, NodeIn, IsOwned, ReturnedIn, ItemIn}
use Rattle.covering_laws.specs.covered_state.State.{Covered}
use Rattle.covering_laws.proofs.covered_state.Stays.{items_stay, settled_in}
use Rattle.covered_runs.proofs.covered_steps.covered_values.Operands.{ok_one, err_ok, operand_in}
use Rattle.covered_runs.proofs.covered_steps.covered_values.Passed.{choices_covered, returns_passed}
use Rattle.covered_runs.specs.covered_steps.Steps.{nothing, NoneBare}
use Rattle.covered_runs.specs.covered_steps.Frames.{IsOther}
use Rattle.covered_runs.proofs.covered_steps.Steps.{cons_none, wait_left, own_frames, own_items, none_bare, taken_items, steps_moved, steps_computed}
use Rattle.covered_runs.specs.covered_steps.covered_values.Values.{MayType, IsComputed}
use Rattle.covered_runs.proofs.covered_steps.covered_values.Awaited.{wait_one, types_awaited}
use Rattle.covered_runs.proofs.covered_steps.covered_values.Computed.{values_covered}
use Rattle.covered_runs.specs.covered_steps.covered_statements.Stacked.{IsBranch, ChoiceWaits, NodeStands, PendingOn, Stacked, FramesStand}
use Rattle.covered_runs.specs.covered_steps.covered_statements.Runnable.{IsRunnable, Steady}
use Rattle.covered_runs.specs.covered_steps.covered_statements.Rows.{placed, BegunSteady, WaitsSteady}
use Rattle.covered_runs.proofs.covered_steps.covered_statements.Plain.{is_plain}
use Rattle.covered_runs.proofs.covered_steps.covered_statements.Ways.{has_all, children_owned, child_owned}
use Rattle.covered_runs.proofs.covered_steps.covered_statements.Stacking.{deliver_stacked, taken_stacked}
use Rattle.covered_runs.proofs.covered_steps.covered_statements.Pending.{stacked_stays, frames_stacked}
use Rattle.covered_runs.proofs.covered_steps.covered_statements.Kept.{Keeps, keeps_same, keeps_left, back_bare}
use Rattle.covered_runs.proofs.covered_steps.covered_statements.Moves.{IsHere, Fits, Moves, goes, then_moves}
use Rattle.covered_runs.proofs.covered_steps.covered_statements.Statements.{is_statement, form_plain, of_return, of_choice, of_label, begun_moves, finished_moves}
use Rattle.covered_runs.proofs.covered_steps.covered_statements.Initialised.{IsInitialised, initialised_covered}

none_some : {X : Type 0} → {x : X} → ◌≡◌ {A = Option X} None (Some x) → ⊥
none_some h = cc

some_one : {X : Type 0} → {x y : X} → ◌≡◌ {A = Option X} (Some x) (Some y) → x ≡ y
some_one h = cc

some_none : {X : Type 0} → {x : X} → ◌≡◌ {A = Option X} (Some x) None → ⊥
some_none h = cc

do_wait : {n m : ℕ} → {left : List ℕ} → {values : List (ℕ × Value)} → Do n ≡ Wait m left values → ⊥
do_wait h = cc

initialise_value : Form.Initialise ≡ Form.Value → ⊥
initialise_value h = cc

choose_convert : Choose ≡ Convert → ⊥
choose_convert h = cc

none_cons : {c : ℕ} → {left : List ℕ} → ◌≡◌ {A = List ℕ} [] (c ∷ left) → ⊥
none_cons h = cc

two_three : {a b c d e : ℕ} → ◌≡◌ {A = List ℕ} (a ∷ b ∷ []) (c ∷ d ∷ e ∷ []) → ⊥
two_three h = cc

cons_first : {a b : ℕ} → {xs ys : List ℕ} → ◌≡◌ {A = List ℕ} (a ∷ xs) (b ∷ ys) → a ≡ b
cons_first h = cc

cons_rest : {a b : ℕ} → {xs ys : List ℕ} → ◌≡◌ {A = List ℕ} (a ∷ xs) (b ∷ ys) → xs ≡ ys
cons_rest h = cc

-- the children of a choice and of a conversion
choice_children : (u : CoreTrees) (t : Ctype) (cs : List ℕ) → RowOf u Choose t cs → (p : ℕ) × (a : ℕ) × (b : ℕ) × (cs ≡ p ∷ a ∷ b ∷ [])
choice_children u t (p ∷ a ∷ b ∷ []) row = (p, a, b, refl)
choice_children u t [] row = absurd row
choice_children u t (p ∷ []) row = absurd row
choice_children u t (p ∷ a ∷ []) row = absurd row
choice_children u t (p ∷ a ∷ b ∷ c ∷ more) row = absurd row

conversion_children : (u : CoreTrees) (t : Ctype) (cs : List ℕ) → RowOf u Convert t cs → (v : ℕ) × (cs ≡ v ∷ [])
conversion_children u t (v ∷ []) row = (v, refl)
conversion_children u t [] row = absurd row
conversion_children u t (v ∷ w ∷ more) row = absurd row

-- only a choice takes one of two branches
branches_inv : (form : Form) (left : List ℕ) (two : ℕ × ℕ) → branches form left ≡ Some two → (form ≡ Form.Choose) × (left ≡ two.0 ∷ two.1 ∷ [])
branches_inv Form.Choose (a ∷ b ∷ []) two h = (refl, ap (λ (t : ℕ × ℕ). t.0 ∷ t.1 ∷ []) (some_one h))
branches_inv Form.Choose [] two h = absurd (none_some h)
branches_inv Form.Choose (a ∷ []) two h = absurd (none_some h)
branches_inv Form.Choose (a ∷ b ∷ c ∷ more) two h = absurd (none_some h)
branches_inv form left two h = absurd (none_some h)

changed_inv : (f : Frame) (move : Move) (next : Next) → changes f move ≡ Ok next
    → (change : Change) × (◌≡◌ {A = Move} move (Ok change)) × (record { memory = change.blocks.memory; frame = changed_frame change f; stores = [] } ≡ next)
changed_inv f (Ok change) next e = (change, refl, ok_one e)
changed_inv f (Err reason) next e = absurd (err_ok e)

computed_inv : (f : Frame) (n : ℕ) (effect : Effect) (next : Next) → computes f n effect ≡ Ok next
    → (e : Effected) × (◌≡◌ {A = Effect} effect (Ok e)) × (record { memory = e.memory; frame = record f { items = settled n e.outcome.value f.items }; stores = e.outcome.stores } ≡ next)
computed_inv f n (Ok e) next h = (e, refl, ok_one h)
computed_inv f n (Err reason) next h = absurd (err_ok h)

module _ (world : World) (runs : IsRunnable world) (state : State) (f : Frame) (rest : List Frame) (steady : Steady world state) (frames_are : state.frames ≡ f ∷ rest) where
  abbrev u : CoreTrees
  u = trees_of world

  frames_stand : FramesStand world state.memory (f ∷ rest)
  frames_stand = subst (FramesStand world state.memory) frames_are steady.stacked

  stay : Leaves (sets_of world) state.memory state.memory
  stay = record { extends = same_memory (sets_of world) state.memory; covered = steady.covered.memory }

  moves_steady : (move : Move) (next : Next) → Moves world state.memory f move → changes f move ≡ Ok next → Steady world (placed state rest next)
  moves_steady move next moves e = subst (λ (z : Next). Steady world (placed state rest z)) inv.2 fitting
    where
      inv : (change : Change) × (◌≡◌ {A = Move} move (Ok change)) × (record { memory = change.blocks.memory; frame = changed_frame change f; stores = [] } ≡ next)
      inv = changed_inv f move next e

      fits : Fits world state.memory f inv.0
      fits = moves inv.0 inv.1

      fitting : Steady world (placed state rest (record { memory = inv.0.blocks.memory; frame = changed_frame inv.0 f; stores = [] }))
      fitting = record {
        covered = steps_moved world state f rest inv.0.blocks.memory inv.0.blocks.own (replaced inv.0.off inv.0.on f.items) nothing steady.covered frames_are fits.leaves
            (items_stay world state.memory inv.0.blocks.memory fits.leaves.extends f.function (replaced inv.0.off inv.0.on f.items) fits.items) (record { target = tt; stores = tt }) fits.bare;
        stacked = (stacked_stays world state.memory inv.0.blocks.memory fits.leaves.extends (replaced inv.0.off inv.0.on f.items) fits.stacked, frames_stand.1, frames_stacked world state.memory inv.0.blocks.memory fits.leaves.extends rest frames_stand.2);
      }

  module _ (n word : ℕ) (items : List Item) (node : Node) (there : slice_get (trees_of world).nodes n ≡ Some node) where
    kind_is : kind_at u.nodes n ≡ node.kind
    kind_is = ap kind_in there

    children_are : children_at u.nodes n ≡ node.children
    children_are = ap children_in there

    row_of : (kind : NodeKind) → node.kind ≡ kind → RowOf u kind (type_of u.types node.ty.0) node.children
    row_of kind is = subst (λ (k : NodeKind). RowOf u k (type_of u.types node.ty.0) node.children) is (runs.stands.rows n node there)

    has_each : Each (Has (children_at u.nodes n)) node.children
    has_each = subst (Each (Has (children_at u.nodes n))) children_are (has_all (children_at u.nodes n))

    plain_by : (form : Form) → form_of node.kind ≡ form → is_statement form ≡ true → is_plain (kind_at u.nodes n) ≡ true
    plain_by form is statement = ap is_plain kind_is ∙ form_plain node.kind (ap is_statement is ∙ statement)

    -- what a return gives is in its function's rows
    returns_in : (key : ObjectKey) (v : ℕ) (values : List (ℕ × Value)) → node.kind ≡ Return → node.children ≡ v ∷ [] → IsOwned world key n → Each (λ x. NodeIn world state.memory x.0 x.1) values
        → ReturnedIn world state.memory key (value_in values v)
    returns_in (EntityKey g) v values kind children owned each =
        returns_passed world state.memory n node v g (value_in values v) runs.stands there kind children owned (runs.returns n node there v g kind children owned) (operand_in world state.memory values each v)
    returns_in key v values kind children owned each = absurd owned

    module _ (top : Item) (items_are : f.items ≡ top ∷ items) (stands : NodeStands (trees_of world).nodes n items) where
      own_each : Each (ItemIn world state.memory f.function) (top ∷ items)
      own_each = own_items world state f rest steady.covered frames_are top items items_are

      whole : Stacked (trees_of world).nodes (PendingOn world state.memory) (top ∷ items)
      whole = subst (Stacked (trees_of world).nodes (PendingOn world state.memory)) items_are frames_stand.0

      here_of : IsOther world top → IsOwned world f.function n → IsHere world state.memory f n items
      here_of other owned = record {
        bare = none_bare world state f rest steady.covered frames_are top items items_are other;
        covered = steady.covered.memory;
        rest_is = ap (drop 1) items_are;
        owned = owned;
        own = (own_frames world state f rest steady.covered frames_are).0.items;
        below = own_each.1;
        stands = stands;
        whole = frames_stand.0;
        under = whole.2;
      }

      settled_stacked : (v : Value) → Stacked (trees_of world).nodes (PendingOn world state.memory) (settled n v f.items)
      settled_stacked v = subst (λ (xs : List Item). Stacked (trees_of world).nodes (PendingOn world state.memory) (settled n v xs)) (sym items_are) (deliver_stacked (trees_of world).nodes (PendingOn world state.memory) n v items stands.gives whole.2)

      -- a place or a value is computed
      computed_steady : (values : List (ℕ × Value)) (next : Next) → ((top ≡ Do n) × (values ≡ [])) ⊎ (top ≡ Wait n [] values)
          → computes f n (computed (trees_of world) state.memory f.instances n node values word) ≡ Ok next → Steady world (placed state rest next)
      computed_steady values next how e =
          subst (λ (z : Next). Steady world (placed state rest z)) inv.2
          (record {
            covered = steps_computed world state f rest n node values top items word inv.0 runs.stands runs.typed steady.covered frames_are items_are how there inv.1;
            stacked = (
              stacked_stays world state.memory inv.0.memory done.leaves.extends (settled n inv.0.outcome.value f.items) (settled_stacked inv.0.outcome.value),
              frames_stand.1,
              frames_stacked world state.memory inv.0.memory done.leaves.extends rest frames_stand.2,
            );
          })
        where
          inv : (x : Effected) × (◌≡◌ {A = Effect} (computed (trees_of world) state.memory f.instances n node values word) (Ok x))
              × (record { memory = x.memory; frame = record f { items = settled n x.outcome.value f.items }; stores = x.outcome.stores } ≡ next)
          inv = computed_inv f n (computed (trees_of world) state.memory f.instances n node values word) next e

          held : ((top ≡ Do n) × (values ≡ [])) ⊎ (top ≡ Wait n [] values) → Each (λ x. NodeIn world state.memory x.0 x.1) values
          held (inl does) = subst (Each (λ x. NodeIn world state.memory x.0 x.1)) (sym does.1) tt
          held (inr waits) = (subst (ItemIn world state.memory f.function) waits own_each.0).2

          may : ((top ≡ Do n) × (values ≡ [])) ⊎ (top ≡ Wait n [] values) → (v : ℕ) → node.kind ≡ Convert → node.children ≡ v ∷ [] → MayType world state.memory (cell_in values v) node.ty
          may (inl does) v kind children = subst (λ (vs : List (ℕ × Value)). MayType world state.memory (cell_in vs v) node.ty) (sym does.1) tt
          may (inr waits) v kind children =
              types_awaited world state f rest n v node values items runs.typed steady.covered.awaited frames_are (items_are ∙ ap (λ (x : Item). x ∷ items) waits) there kind children

          done : IsComputed world state.memory n inv.0
          done = values_covered world state.memory f.instances n node values word inv.0 runs.stands steady.covered.memory there (held how) (may how) inv.1

      -- an object is initialised
      initial_steady : (values : List (ℕ × Value)) (next : Next) → NoneBare world state.memory → Each (λ x. NodeIn world state.memory x.0 x.1) values
          → initialise_row (trees_of world) state.memory f node values ≡ Ok next → Steady world (placed state rest next)
      initial_steady values next bare each e = record {
        covered = subst (λ (g : Frame). Covered world (record state { memory = next.memory; frames = g ∷ rest; notes = record { target = None; stores = next.stores } })) (sym done.frame)
            (steps_moved world state f rest next.memory f.instances (replaced 1 [] f.items) (record { target = None; stores = next.stores }) steady.covered frames_are done.leaves
            (items_stay world state.memory next.memory done.leaves.extends f.function (replaced 1 [] f.items) (subst (λ (xs : List Item). Each (ItemIn world state.memory f.function) (drop 1 xs)) (sym items_are) own_each.1))
            (record { target = tt; stores = done.stores }) (back_bare world state.memory next.memory done.leaves done.back bare));
        stacked = subst (λ (g : Frame). FramesStand world next.memory (g ∷ rest)) (sym done.frame) (
          stacked_stays world state.memory next.memory done.leaves.extends (drop 1 f.items)
              (subst (λ (xs : List Item). Stacked (trees_of world).nodes (PendingOn world state.memory) (drop 1 xs)) (sym items_are) whole.2),
          frames_stand.1,
          frames_stacked world state.memory next.memory done.leaves.extends rest frames_stand.2,
        );
      }
        where
          done : IsInitialised world state.memory f next
          done = initialised_covered world runs state.memory f n node values next steady.covered.memory there each e

    -- Do
    module _ (items_are : f.items ≡ Do n ∷ items) where
      do_stands : NodeStands (trees_of world).nodes n items
      do_stands = (subst (Stacked (trees_of world).nodes (PendingOn world state.memory)) items_are frames_stand.0).1

      do_here : IsHere world state.memory f n items
      do_here = here_of (Do n) items_are do_stands (λ m values other same at kind. do_wait same) (own_each (Do n) items_are do_stands).0

      -- an expression waits for its operands
      whole_waits : (c : ℕ) (left : List ℕ) → node.children ≡ c ∷ left → Moves world state.memory f (goes_on (blocks_of state.memory f) (waits n (c ∷ left) ∷ []))
      whole_waits c left children =
          let all : c ∷ left ≡ children_at u.nodes n = sym (children_are ∙ children) in
          let has = subst (Each (Has (children_at u.nodes n))) children has_each in
          goes world runs state.memory f n items do_here (blocks_of state.memory f) (Wait n (c ∷ left) [] ∷ []) (keeps_same world state.memory)
          ((do_here.owned, children_owned world runs f.function n do_here.owned (c ∷ left) has, tt), tt)
          (record { left_in = has; choice = λ is. inl all; conversion = λ is. inr (all, refl) }, do_here.stands, do_here.under)

      value_begun : (children : List ℕ) (next : Next) → node.children ≡ children → begun_value (trees_of world) state.memory f n node children word ≡ Ok next → Steady world (placed state rest next)
      value_begun [] next is e = computed_steady (Do n) items_are do_stands [] next (inl (refl, refl)) e
      value_begun (c ∷ left) next is e = moves_steady (goes_on (blocks_of state.memory f) (waits n (c ∷ left) ∷ [])) next (whole_waits c left is) e

      initial_begun : (children : List ℕ) (next : Next) → node.children ≡ children → begun_initialiser (trees_of world) state.memory f n node children ≡ Ok next → Steady world (placed state rest next)
      initial_begun [] next is e = initial_steady (Do n) items_are do_stands [] next do_here.bare tt e
      initial_begun (c ∷ left) next is e = moves_steady (goes_on (blocks_of state.memory f) (waits n (c ∷ left) ∷ [])) next (whole_waits c left is) e

      statement_begun : (form : Form) (next : Next) → form_of node.kind ≡ form → is_statement form ≡ true
          → changes f (begun_row (trees_of world) f.items (blocks_of state.memory f) n form (goto_name node.kind) node.children) ≡ Ok next → Steady world (placed state rest next)
      statement_begun form next is statement e =
          moves_steady (begun_row (trees_of world) f.items (blocks_of state.memory f) n form (goto_name node.kind) node.children) next
          (begun_moves world runs state.memory f n items do_here (blocks_of state.memory f) form (goto_name node.kind) node.children (plain_by form is statement)
          (λ label. of_label u node.kind (type_of u.types node.ty.0) node.children (is ∙ label) (runs.stands.rows n node there)) (keeps_same world state.memory) has_each) e

      begun_so : (form : Form) (next : Next) → form_of node.kind ≡ form → begun_by (trees_of world) state.memory f n node form word ≡ Ok next → Steady world (placed state rest next)
      begun_so Form.Value next is e = value_begun node.children next refl e
      begun_so Form.Sequence next is e = value_begun node.children next refl e
      begun_so Form.Choose next is e = value_begun node.children next refl e
      begun_so Form.Initialise next is e = initial_begun node.children next refl e
      begun_so form next is e = statement_begun form next is refl e

    -- Wait, with all operands there
    module _ (values : List (ℕ × Value)) (items_are : f.items ≡ Wait n [] values ∷ items) where
      end_stands : NodeStands (trees_of world).nodes n items
      end_stands = (subst (Stacked (trees_of world).nodes (PendingOn world state.memory)) items_are frames_stand.0).1

      end_own : Each (ItemIn world state.memory f.function) (Wait n [] values ∷ items)
      end_own = own_each (Wait n [] values) items_are end_stands

      other_kind : (node.kind ≡ Convert → ⊥) → IsOther world (Wait n [] values)
      other_kind other m vs x same at kind =
          other (sym (ap (λ (y : Node). y.kind) (some_one (sym at ∙ (sym (ap (slice_get (trees_of world).nodes) (wait_one same)) ∙ there)))) ∙ kind)

      end_here : (node.kind ≡ Convert → ⊥) → IsHere world state.memory f n items
      end_here other = here_of (Wait n [] values) items_are end_stands (other_kind other) end_own.0.0

      statement_apart : (form : Form) → form_of node.kind ≡ form → is_statement form ≡ true → node.kind ≡ Convert → ⊥
      statement_apart form is statement kind = false≢true (ap is_statement (sym (ap form_of kind) ∙ is) ∙ statement)

      statement_finished : (form : Form) (next : Next) → form_of node.kind ≡ form → is_statement form ≡ true
          → changes f (finished_row (trees_of world) f.items (blocks_of state.memory f) n form node.children values) ≡ Ok next → Steady world (placed state rest next)
      statement_finished form next is statement e =
          moves_steady (finished_row (trees_of world) f.items (blocks_of state.memory f) n form node.children values) next
          (finished_moves world runs state.memory f n items (end_here (statement_apart form is statement)) (blocks_of state.memory f) form node.children values (plain_by form is statement)
          (λ return v children. returns_in f.function v values (of_return node.kind (is ∙ return)) children end_own.0.0 end_own.0.2) (keeps_same world state.memory) has_each) e

      -- a choice passes on what its branch gave
      choice_value : (vs : List (ℕ × Value)) → values ≡ vs → node.kind ≡ Choose → NodeIn world state.memory n (first_value vs)
      choice_value [] is kind = operand_in world state.memory [] tt n
      choice_value (v ∷ more) is kind = by waits
        where
          cs : (p : ℕ) × (a : ℕ) × (b : ℕ) × (node.children ≡ p ∷ a ∷ b ∷ [])
          cs = choice_children u (type_of u.types node.ty.0) node.children (row_of Choose kind)

          children : children_at u.nodes n ≡ cs.0 ∷ cs.1 ∷ cs.2 ∷ []
          children = children_are ∙ cs.3

          waits : ChoiceWaits (cs.0 ∷ cs.1 ∷ cs.2 ∷ []) [] (v ∷ more)
          waits =
              subst (λ (xs : List ℕ). ChoiceWaits xs [] (v ∷ more)) children
              (subst (λ (ys : List (ℕ × Value)). ChoiceWaits (children_at u.nodes n) [] ys) is
              ((subst (Stacked (trees_of world).nodes (PendingOn world state.memory)) items_are frames_stand.0).0.choice (kind_is ∙ kind)))

          given : Each (λ x. NodeIn world state.memory x.0 x.1) (v ∷ more)
          given = subst (Each (λ x. NodeIn world state.memory x.0 x.1)) is end_own.0.2

          pass : (NodeIn world state.memory cs.1 v.1 → NodeIn world state.memory n v.1) × (NodeIn world state.memory cs.2 v.1 → NodeIn world state.memory n v.1)
          pass = choices_covered world state.memory n node cs.0 cs.1 cs.2 v.1 runs.stands there kind cs.3

          by : ChoiceWaits (cs.0 ∷ cs.1 ∷ cs.2 ∷ []) [] (v ∷ more) → NodeIn world state.memory n v.1
          by (inl all) = absurd (none_cons all)
          by (inr (inl two)) = absurd (none_cons two)
          by (inr (inr one)) = elim one.1.0 [
            | inl first ↦ pass.0 (subst (λ (y : ℕ). NodeIn world state.memory y v.1) first given.0)
            | inr second ↦ pass.1 (subst (λ (y : ℕ). NodeIn world state.memory y v.1) second given.0)
          ]

      choice_finished : (next : Next) → node.kind ≡ Choose → computes f n (gives state.memory (first_value values)) ≡ Ok next → Steady world (placed state rest next)
      choice_finished next kind e =
          let v = first_value values in
          let h = choice_value values refl kind in
          subst (λ (z : Next). Steady world (placed state rest z)) (ok_one e)
          (record {
            covered = steps_moved world state f rest state.memory f.instances (settled n v f.items) nothing steady.covered frames_are stay
                (settled_in world state.memory f.function n v f.items h (own_frames world state f rest steady.covered frames_are).0.items) (record { target = tt; stores = tt })
                (end_here (λ convert. choose_convert (sym kind ∙ convert))).bare;
            stacked = (settled_stacked (Wait n [] values) items_are end_stands v, frames_stand.1, frames_stand.2);
          })

      -- an effect of another step gives its value to the item below
      pub settles_steady : (e : Effected) → IsComputed world state.memory n e → (node.kind ≡ Convert → ⊥)
          → Steady world (record state { memory = e.memory; frames = record f { items = settled n e.outcome.value f.items } ∷ rest; notes = only e.outcome.stores })
      settles_steady e done other = record {
        covered = steps_moved world state f rest e.memory f.instances (settled n e.outcome.value f.items) (record { target = None; stores = e.outcome.stores }) steady.covered frames_are done.leaves
            (settled_in world e.memory f.function n e.outcome.value f.items done.value
            (items_stay world state.memory e.memory done.leaves.extends f.function f.items (own_frames world state f rest steady.covered frames_are).0.items))
            (record { target = tt; stores = done.stores }) (back_bare world state.memory e.memory done.leaves done.before (end_here other).bare);
        stacked = (
          stacked_stays world state.memory e.memory done.leaves.extends (settled n e.outcome.value f.items) (settled_stacked (Wait n [] values) items_are end_stands e.outcome.value),
          frames_stand.1,
          frames_stacked world state.memory e.memory done.leaves.extends rest frames_stand.2,
        );
      }

      finish_so : (form : Form) (next : Next) → form_of node.kind ≡ form → finish_row (trees_of world) state.memory f n node form values word ≡ Ok next → Steady world (placed state rest next)
      finish_so Form.Value next is e = computed_steady (Wait n [] values) items_are end_stands values next (inr refl) e
      finish_so Form.Sequence next is e = computed_steady (Wait n [] values) items_are end_stands values next (inr refl) e
      finish_so Form.Choose next is e = choice_finished next (of_choice node.kind is) e
      finish_so Form.Initialise next is e =
          initial_steady (Wait n [] values) items_are end_stands values next (end_here (λ convert. initialise_value (sym is ∙ ap form_of convert))).bare end_own.0.2 e
      finish_so form next is e = statement_finished form next is refl e

    -- Wait, with operands left
    module _ (c : ℕ) (left : List ℕ) (values : List (ℕ × Value)) (items_are : f.items ≡ Wait n (c ∷ left) values ∷ items) where
      left_stands : NodeStands (trees_of world).nodes n items
      left_stands = (subst (Stacked (trees_of world).nodes (PendingOn world state.memory)) items_are frames_stand.0).1

      left_whole : Stacked (trees_of world).nodes (PendingOn world state.memory) (Wait n (c ∷ left) values ∷ items)
      left_whole = subst (Stacked (trees_of world).nodes (PendingOn world state.memory)) items_are frames_stand.0

      left_own : Each (ItemIn world state.memory f.function) (Wait n (c ∷ left) values ∷ items)
      left_own = own_each (Wait n (c ∷ left) values) items_are left_stands

      left_here : IsHere world state.memory f n items
      left_here = here_of (Wait n (c ∷ left) values) items_are left_stands (λ m vs x same at kind. cons_none (wait_left same)) left_own.0.0

      part_keeps : (o : Option ℕ) → Keeps world state.memory (part_left (trees_of world) o (blocks_of state.memory f)).memory
      part_keeps None = keeps_same world state.memory
      part_keeps (Some part) = keeps_left world runs (Part part) (blocks_of state.memory f)

      operand_steady : (form : Form) (next : Next) → form_of node.kind ≡ form → branches form (c ∷ left) ≡ None
          → operand_row (trees_of world) state.memory f form node.children (c ∷ left) (picked form (length (c ∷ left)) word) ≡ Ok next → Steady world (placed state rest next)
      operand_steady form next is none e =
          let i = picked form (length (c ∷ left)) word in
          let s = part_left (trees_of world) (part_before form node.children (operand_at (c ∷ left) i)) (blocks_of state.memory f) in
          let kept = part_keeps (part_before form node.children (operand_at (c ∷ left) i)) steady.covered.memory in
          subst (λ (z : Next). Steady world (placed state rest z)) (ok_one e)
          (record {
            covered = steps_moved world state f rest s.memory s.own (operand_taken i f.items) nothing steady.covered frames_are kept.0
                (items_stay world state.memory s.memory kept.0.extends f.function (operand_taken i f.items)
                (subst (λ (xs : List Item). Each (ItemIn world state.memory f.function) (operand_taken i xs)) (sym items_are) (taken_items world state.memory f.function n c i left values items left_own)))
                (record { target = tt; stores = tt }) (kept.1 left_here.bare);
            stacked = (
              stacked_stays world state.memory s.memory kept.0.extends (operand_taken i f.items)
                  (subst (λ (xs : List Item). Stacked (trees_of world).nodes (PendingOn world state.memory) (operand_taken i xs)) (sym items_are)
                  (taken_stacked (trees_of world).nodes (PendingOn world state.memory) n c left values items i left_whole (choice i refl) single)),
              frames_stand.1,
              frames_stacked world state.memory s.memory kept.0.extends rest frames_stand.2,
            );
          })
        where
          choice : (i : ℕ) → picked form (length (c ∷ left)) word ≡ i → kind_at (trees_of world).nodes n ≡ Choose
              → (i ≡ 0) × ((p : ℕ) × (a : ℕ) × (b : ℕ) × (children_at (trees_of world).nodes n ≡ p ∷ a ∷ b ∷ []) × ((c ∷ left ≡ a ∷ b ∷ []) → ⊥))
          choice i i_is kind =
              let k : node.kind ≡ Choose = sym kind_is ∙ kind in
              let cs = choice_children u (type_of u.types node.ty.0) node.children (row_of Choose k) in
              let choosing : Form.Choose ≡ form = sym (ap form_of k) ∙ is in (
                sym i_is ∙ ap (λ (x : Form). picked x (length (c ∷ left)) word) (sym choosing),
                (
                  cs.0,
                  cs.1,
                  cs.2,
                  children_are ∙ cs.3,
                  λ two. some_none (sym (ap (λ (xs : List ℕ). branches Form.Choose xs) two) ∙ (ap (λ (x : Form). branches x (c ∷ left)) choosing ∙ none)),
                ),
              )

          single : kind_at (trees_of world).nodes n ≡ Convert → (v : ℕ) × (children_at (trees_of world).nodes n ≡ v ∷ [])
          single kind =
              let cs = conversion_children u (type_of u.types node.ty.0) node.children (row_of Convert (sym kind_is ∙ kind)) in
              (cs.0, children_are ∙ cs.1)

      -- one branch alone is done
      choice_steady : (form : Form) (next : Next) (two : ℕ × ℕ) → form_of node.kind ≡ form → branches form (c ∷ left) ≡ Some two
          → changes f (choose_row (blocks_of state.memory f) n two.0 two.1 values) ≡ Ok next → Steady world (placed state rest next)
      choice_steady form next two is some e =
          moves_steady (choose_row (blocks_of state.memory f) n two.0 two.1 values) next
          (then_moves world runs state.memory f n items left_here (is_true (cell_of (first_value values))) (λ b. goes_on (blocks_of state.memory f) (Do (chosen b two.0 two.1) ∷ waits n [] ∷ []))
          (λ b. goes world runs state.memory f n items left_here (blocks_of state.memory f) (Do (chosen b two.0 two.1) ∷ Wait n [] [] ∷ []) (keeps_same world state.memory)
          (child_owned world runs f.function n (chosen b two.0 two.1) left_here.owned (has b), ((left_here.owned, tt, tt), tt)) (
            tt,
            record {
              gives = record { choice = λ k none. branch b; conversion = λ k. absurd (choose_convert (sym (kind_is ∙ kind) ∙ k)) };
              parent = λ value. has b;
            },
            (record { left_in = tt; choice = λ k. inr (inr (refl, tt)); conversion = λ k. inl refl }, left_here.stands, left_here.under),
          ))) e
        where
          inv : (form ≡ Form.Choose) × (c ∷ left ≡ two.0 ∷ two.1 ∷ [])
          inv = branches_inv form (c ∷ left) two some

          kind : node.kind ≡ Choose
          kind = of_choice node.kind (is ∙ inv.0)

          cs : (p : ℕ) × (a : ℕ) × (b : ℕ) × (node.children ≡ p ∷ a ∷ b ∷ [])
          cs = choice_children u (type_of u.types node.ty.0) node.children (row_of Choose kind)

          children : children_at (trees_of world).nodes n ≡ cs.0 ∷ cs.1 ∷ cs.2 ∷ []
          children = children_are ∙ cs.3

          pair : two.0 ∷ two.1 ∷ [] ≡ cs.1 ∷ cs.2 ∷ []
          pair = by (subst (λ (xs : List ℕ). ChoiceWaits xs (two.0 ∷ two.1 ∷ []) values) children (subst (λ (xs : List ℕ). ChoiceWaits (children_at (trees_of world).nodes n) xs values) inv.1 (left_whole.0.choice (kind_is ∙ kind))))
            where
              by : ChoiceWaits (cs.0 ∷ cs.1 ∷ cs.2 ∷ []) (two.0 ∷ two.1 ∷ []) values → two.0 ∷ two.1 ∷ [] ≡ cs.1 ∷ cs.2 ∷ []
              by (inl all) = absurd (two_three all)
              by (inr (inl both)) = both
              by (inr (inr none)) = absurd (cons_none none.0)

          has : (b : Bool) → Has (children_at (trees_of world).nodes n) (chosen b two.0 two.1)
          has true = (subst (Each (Has (children_at (trees_of world).nodes n))) inv.1 left_whole.0.left_in).0
          has false = (subst (Each (Has (children_at (trees_of world).nodes n))) inv.1 left_whole.0.left_in).1.0

          one_of : (b : Bool) → IsBranch (cs.0 ∷ cs.1 ∷ cs.2 ∷ []) (chosen b two.0 two.1)
          one_of true = inl (cons_first pair)
          one_of false = inr (cons_first (cons_rest pair))

          branch : (b : Bool) → IsBranch (children_at (trees_of world).nodes n) (chosen b two.0 two.1)
          branch b = subst (λ (xs : List ℕ). IsBranch xs (chosen b two.0 two.1)) (sym children) (one_of b)

      taken_so : (form : Form) (next : Next) (o : Option (ℕ × ℕ)) → form_of node.kind ≡ form → branches form (c ∷ left) ≡ o
          → taken_by (trees_of world) state.memory f n form node.children (c ∷ left) values word o ≡ Ok next → Steady world (placed state rest next)
      taken_so form next None is o_is e = operand_steady form next is o_is e
      taken_so form next (Some two) is o_is e = choice_steady form next two is o_is e

pub begun_steady : BegunSteady
unfolding do_row
begun_steady world state f rest n word items next runs steady frames_are items_are e = by (slice_get (trees_of world).nodes n) refl e
  where
    by : (o : Option Node) → slice_get (trees_of world).nodes n ≡ o → do_in (trees_of world) state.memory f n o word ≡ Ok next → Steady world (placed state rest next)
    by None is g = absurd (err_ok g)
    by (Some node) is g = begun_so world runs state f rest steady frames_are n word items node is items_are (form_of node.kind) next refl g

pub waits_steady : WaitsSteady
unfolding wait_row
waits_steady world state f rest n word left values items next runs steady frames_are items_are e = by left items_are (slice_get (trees_of world).nodes n) refl e
  where
    by : (xs : List ℕ) → f.items ≡ Wait n xs values ∷ items → (o : Option Node) → slice_get (trees_of world).nodes n ≡ o → wait_in (trees_of world) state.memory f n o xs values word ≡ Ok next → Steady world (placed state rest next)
    by xs same None is g = absurd (err_ok g)
    by [] same (Some node) is g = finish_so world runs state f rest steady frames_are n word items node is values same (form_of node.kind) next refl g
    by (c ∷ more) same (Some node) is g =
        taken_so world runs state f rest steady frames_are n word items node is c more values same (form_of node.kind) next (branches (form_of node.kind) (c ∷ more)) refl refl g
