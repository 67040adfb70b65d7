-- A node is computed over items in which a place for its value is open.
use Rattle.std.proofs.Common.{arith, ◌≡◌, ℕ, ◌<◌, ◌≤◌, length, List, [], ◌∷◌, Option, Some, Result, Ok, refl, ap, sym, subst, ◌∙◌, slice_get}
use Rattle.core_tree.specs.declared.node.Node.{Node}
use Rattle.core_tree.specs.Typed.{CoreTrees}
use Rattle.ref_cells.specs.declared.cells.MemFault.{MemFault}
use Rattle.ref_cells.specs.declared.cells.Value.{Value}
use Rattle.ref_cells.specs.declared.instance.Instance.{Instance}
use Rattle.ref_cells.specs.Answers.{Gives}
use Rattle.ref_elements.specs.Outcomes.{Effected}
use Rattle.ref_state.specs.declared.items.Item.{Item}
use Rattle.ref_state.specs.declared.frames.Frame.{Frame}
use Rattle.ref_state.specs.Items.{top_values, opened, below_filled}
use Rattle.ref_values.specs.Values.{computed}
use Rattle.ref_statements.specs.declared.forms.Form.{Form}
use Rattle.ref_statements.specs.Forms.{form_of}
use Rattle.ref_statements.specs.Rows.{Next, computes}
use Rattle.ref_statements.specs.Nodes.{finish_row, take_row, wait_in, wait_row}
use Rattle.ref_frames.proofs.OpenedItems.{filled_opened}

opened_values : (n : ℕ) (items : List Item) → top_values (opened n items) ≡ top_values items
opened_values n [] = refl
opened_values n (top ∷ rest) = refl

pub computed_row : (u : CoreTrees) (memory : List Instance) (f : Frame) (n : ℕ) (node : Node) (word : ℕ) (own : List ℕ) (values : List (ℕ × Value)) (e : Effected) (there done : List Item)
    → own ≡ f.instances → values ≡ top_values there → there ≡ opened n f.items → computed u memory own n node values word ≡ Ok e → done ≡ below_filled e.outcome.value there
    → computes f n (computed u memory f.instances n node (top_values f.items) word) ≡ Ok (record { memory = e.memory; frame = record f { items = done }; stores = e.outcome.stores })
computed_row u memory f n node word own values e there done same_own same_values is given full =
    ap (λ (o : List ℕ). computes f n (computed u memory o n node (top_values f.items) word)) (sym same_own)
    ∙ (ap (λ (vs : List (ℕ × Value)). computes f n (computed u memory own n node vs word)) (sym (same_values ∙ (ap top_values is ∙ opened_values n f.items)))
    ∙ (ap (computes f n) given
    ∙ ap (λ (xs : List Item). Ok (record { memory = e.memory; frame = record f { items = xs }; stores = e.outcome.stores }))
    (sym (full ∙ (ap (below_filled e.outcome.value) is ∙ filled_opened n e.outcome.value f.items)))))

-- a node that waits, found among the nodes

pub waits_finished : {X : Type 0} (view : X → Next) (r : Result X MemFault) (u : CoreTrees) (memory : List Instance) (f : Frame) (n : ℕ) (node : Node) (form : Form)
    (operands : List ℕ) (values : List (ℕ × Value)) (word : ℕ) → slice_get u.nodes n ≡ Some node → length operands < 1 → form ≡ form_of node.kind
    → Gives view r (finish_row u memory f n node form values word) → Gives view r (wait_row u memory f n operands values word)
unfolding wait_row
waits_finished view r u memory f n node form [] values word there less is h =
    subst (λ (o : Option Node). Gives view r (wait_in u memory f n o [] values word)) (sym there)
    (subst (λ (k : Form). Gives view r (finish_row u memory f n node k values word)) is h)
waits_finished view r u memory f n node form (c ∷ rest) values word there less is h = absurd (omega arith)

pub waits_taken : {X : Type 0} (view : X → Next) (r : Result X MemFault) (u : CoreTrees) (memory : List Instance) (f : Frame) (n : ℕ) (node : Node) (form : Form)
    (operands children : List ℕ) (values : List (ℕ × Value)) (word : ℕ) → slice_get u.nodes n ≡ Some node → 1 ≤ length operands → form ≡ form_of node.kind → children ≡ node.children
    → Gives view r (take_row u memory f n form children operands values word) → Gives view r (wait_row u memory f n operands values word)
unfolding wait_row
waits_taken view r u memory f n node form [] children values word there less is same h = absurd (omega arith)
waits_taken view r u memory f n node form (c ∷ rest) children values word there less is same h =
    subst (λ (o : Option Node). Gives view r (wait_in u memory f n o (c ∷ rest) values word)) (sym there)
    (subst (λ (k : Form). Gives view r (take_row u memory f n k node.children (c ∷ rest) values word)) is
    (subst (λ (cs : List ℕ). Gives view r (take_row u memory f n form cs (c ∷ rest) values word)) same h))
