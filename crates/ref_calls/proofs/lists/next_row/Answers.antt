use Rattle.std.proofs.Common.{arith, ◌≡◌, ◌∙◌, ◌<◌, ◌≤◌, ℕ, List, [], ◌∷◌, All, Option, Some, Result, length, get_or, slice_get, refl, sym, ap, subst}
use Rattle.std.proofs.lemmas.List.Elements.{All-head}
use Rattle.std.proofs.lemmas.Option.{slice_get-get_or, slice_get_within}
use Rattle.c_types.specs.Table.{type_of}
use Rattle.core_tree.specs.declared.node.Node.{Node}
use Rattle.core_tree.specs.Range.{InRange}
use Rattle.core_tree.specs.Seen.{core_of}
use Rattle.core_tree.specs.Typed.{CoreTrees}
use Rattle.ref_cells.specs.declared.cells.Reason.{Reason}
use Rattle.ref_cells.specs.Answers.{Gives}
use Rattle.ref_state.specs.declared.frames.Frame.{Frame}
use Rattle.ref_state.specs.declared.state.State.{State}
use Rattle.ref_state.specs.Items.{top_values}
use Rattle.ref_frames.specs.Made.{seen}
use Rattle.ref_frames.specs.Running.{Running}
use Rattle.ref_calls.specs.Lists.{settled_by, taken_at, taken_over, next_row}
use Rattle.ref_calls.proofs.lists.next_row.Goals as goal

one_item : (xs : List ℕ) → 1 ≤ length xs → length xs < 2 → xs ≡ get_or xs 0 0 ∷ []
one_item [] le lt = absurd (omega (arith, le))
one_item (x ∷ []) le lt = refl
one_item (x ∷ y ∷ ys) le lt = absurd (omega (arith, lt))

-- a child is a node
child_within : (u : CoreTrees) → InRange u → (n p : ℕ) (node : Node) → slice_get u.nodes n ≡ Some node → node.children ≡ p ∷ [] → p < length u.nodes
child_within u range n p node at one =
    let all : All (λ (c : ℕ). c < n) (p ∷ []) = subst (λ (cs : List ℕ). All (λ (c : ℕ). c < n) cs) one (range.children n node at) in
    omega (arith, All-head (λ (c : ℕ). c < n) p [] all, slice_get_within u.nodes n node at)

is_over : (w : Running) (st : State) (f : Frame) (rest : List Frame) (n p : ℕ) (node : Node) → slice_get w.trees.nodes n ≡ Some node → node.children ≡ p ∷ []
    → next_row w st f rest n (top_values f.items)
    ≡ settled_by st f rest n (taken_over w st.memory (f ∷ rest) (type_of w.trees.types node.ty.0) (p ∷ []) (top_values f.items))
unfolding next_row
is_over w st f rest n p node at one =
    ap (λ (o : Option Node). settled_by st f rest n (taken_at w st.memory (f ∷ rest) o (top_values f.items))) at
    ∙ ap (λ (cs : List ℕ). settled_by st f rest n (taken_over w st.memory (f ∷ rest) (type_of w.trees.types node.ty.0) cs (top_values f.items))) one

pub next_over-requires-clause-place : goal.next_over-requires-clause-place
next_over-requires-clause-place c =
    let u = core_of c.args.running.now.trees in
    let node = c.in-Some.node.now in
    let xs = c.as_slice.result.now in
    child_within u c.requires.running.range c.args.n (get_or xs 0 0) node
    (slice_get-get_or u.nodes c.args.n node c.in-Some.ensures.lookup.3.0 ∙ ap (λ (x : Node). Some x) (sym c.in-Some.ensures.lookup.1))
    (sym c.as_slice.ensures ∙ one_item xs c.in-len1.len_at_least c.in-len1.len_below)

pub next_over-requires-clause-ty : goal.next_over-requires-clause-ty
next_over-requires-clause-ty c =
    let u = core_of c.args.running.now.trees in
    let node = c.in-Some.node.now in
    c.requires.running.range.types c.args.n node
    (slice_get-get_or u.nodes c.args.n node c.in-Some.ensures.lookup.3.0 ∙ ap (λ (x : Node). Some x) (sym c.in-Some.ensures.lookup.1))

pub returns-clause-row : goal.returns-clause-row
returns-clause-row c =
    λ f rest e.
    let w = seen c.args.running.now in
    let u = w.trees in
    let node = c.in-Some.node.now in
    let xs = c.as_slice.result.now in
    let at : slice_get u.nodes c.args.n ≡ Some node =
    slice_get-get_or u.nodes c.args.n node c.in-Some.ensures.lookup.3.0 ∙ ap (λ (x : Node). Some x) (sym c.in-Some.ensures.lookup.1) in
    let P : Result State Reason → Type 0 = λ r. Gives (λ notes. record c.next_over.new.state { notes = notes }) c.next_over.result r in
    subst P
    (sym (is_over w c.args.state.now f rest c.args.n (get_or xs 0 0) node at (sym c.as_slice.ensures ∙ one_item xs c.in-len1.len_at_least c.in-len1.len_below)))
    (c.next_over.ensures.row f rest e)
