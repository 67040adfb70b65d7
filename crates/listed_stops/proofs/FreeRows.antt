-- The rows of all nodes but calls stop with Mismatch only for a cause.
use Rattle.std.proofs.Common.{arith, ◌≡◌, ◌∙◌, ◌⊎◌, inl, inr, ℕ, ◌-◌, ◌==◌, ℤ, Bool, true, false, cond, find, List, [], ◌∷◌, length, drop, Option, Some, None, Ok, Err, slice_get, refl, sym, ap, subst}
use Rattle.std.proofs.lemmas.Bool.{false≢true}
use Rattle.c_types.specs.declared.key.ObjectKey.TheVariants.{Entity as EntityKey}
use Rattle.c_types.specs.declared.term.PathStep.{PathStep}
use Rattle.c_types.specs.Trees.{Ctype}
use Rattle.c_types.specs.Table.{type_of}
use Rattle.type_rules.specs.Kinds.{int}
use Rattle.core_tree.specs.declared.node.Node.{Node}
use Rattle.core_tree.specs.declared.node.NodeKind.{NodeKind}
use Rattle.core_tree.specs.declared.node.NodeKind.TheVariants.{Named, Text, Literal, FunctionName, Deref, Member, Number as NumberNode, NullValue, VarArgs, Fetch, AddressOf, Decay, PointerAdd, Convert, Upcast, Assign, Update, Choose, Sequence, CallNode, MemberOfValue, Arith, NextArg}
use Rattle.core_tree.specs.declared.node.NodeKind.TheVariants.{Expression, Block, If, While, DoWhile, For, Switch, Case, Default, Label, Goto, Break, Continue, Return, Initialise, Skip}
use Rattle.core_tree.specs.Rows.{RowOf}
use Rattle.core_tree.specs.Typed.{CoreTrees}
use Rattle.call_sites.specs.Calls.{is_call}
use Rattle.ref_cells.specs.declared.cells.Reason.TheVariants.{Unset as UnsetUse, Mismatch}
use Rattle.ref_cells.specs.declared.cells.Cell.{Cell}
use Rattle.ref_cells.specs.declared.cells.Cell.TheVariants.{Unset, Number, Null, Pointer, Function}
use Rattle.ref_cells.specs.declared.cells.Value.{Value}
use Rattle.ref_cells.specs.declared.instance.Instance.{Instance}
use Rattle.ref_mem.specs.declared.writes.Initial.{Initial}
use Rattle.ref_elements.specs.Outcomes.{Effect}
use Rattle.ref_state.specs.declared.items.Item.{Item}
use Rattle.ref_state.specs.declared.items.Item.TheVariants.{Do}
use Rattle.ref_state.specs.declared.frames.Frame.{Frame}
use Rattle.ref_state.specs.declared.state.State.{State}
use Rattle.ref_state.specs.Values.{cell_of, value_in}
use Rattle.ref_state.specs.Changes.{Blocks, blocks_of}
use Rattle.ref_places.specs.Places.{instance_of}
use Rattle.ref_values.specs.Values.{lacks, is_true, computed}
use Rattle.ref_blocks.specs.declared.ways.Sought.TheVariants.{LoopAlone, LoopOrSwitch}
use Rattle.ref_blocks.specs.Ways.{above, nearest, is_sought}
use Rattle.ref_blocks.specs.Loops.{condition_of, after_of, body_of}
use Rattle.ref_blocks.specs.Jumps.{switch_target, label_target, meeting}
use Rattle.ref_statements.specs.declared.forms.Form.{Form}
use Rattle.ref_statements.specs.Forms.{form_of, goto_name, branches}
use Rattle.ref_statements.specs.Rows.{Move, goes_on, changes, computes}
use Rattle.ref_statements.specs.Statements.{waits, does_branch, branch, if_row, turns, turns_by, while_row, do_while_row, for_asked, for_part, for_row, number_in, switches_to, switch_row, breaks, break_row, continues, continue_row, goes_to, goto_found, goto_row, returns, lone_row, begun_row, finished_row}
use Rattle.ref_statements.specs.Initialisers.{parts, initialised_at, initialise_by, initialise_row}
use Rattle.ref_statements.specs.Nodes.{begun_value, begun_initialiser, begun_by, do_in, do_row, first_value, chosen, choose_row, taken_by, finish_row, wait_in, wait_row}
use Rattle.ref_calls.specs.Lists.{is_next}
use Rattle.ref_frames.specs.Running.{Running}
use Rattle.covered_runs.specs.covered_steps.covered_statements.Stacked.{waits_next}
use Rattle.listed_stops.specs.Mismatches.{HasForm, LacksNumber}
use Rattle.listed_stops.proofs.Free.{Free, lift_free, then_free, either_free, true_free}
use Rattle.listed_stops.proofs.FreeNodes.{LacksLabel, Here, IsComputed, computed_free}

-- ---- statements
does_branch_free : (C : Type 0) (u : CoreTrees) (s : Blocks) (n : ℕ) (parts : List ℕ) → Free C (does_branch u s n parts)
does_branch_free C u s n [] = tt
does_branch_free C u s n (part ∷ rest) = tt

turns_free : (C : Type 0) (u : CoreTrees) (s : Blocks) (n : ℕ) (operands : List ℕ) (part : ℕ) (b : Bool) → Free C (turns u s n operands part b)
turns_free C u s n operands part true = tt
turns_free C u s n operands part false = tt

turns_by_free : (C : Type 0) (u : CoreTrees) (s : Blocks) (n : ℕ) (operands : List ℕ) (part : ℕ) (cell : Cell) → Free C (turns_by u s n operands part cell)
turns_by_free C u s n operands part cell = then_free C (is_true cell) (λ b. turns u s n operands part b) (true_free C cell) (λ b. turns_free C u s n operands part b)

if_free : (C : Type 0) (u : CoreTrees) (s : Blocks) (n c : ℕ) (branches : List ℕ) (values : List (ℕ × Value)) → Free C (if_row u s n (c ∷ branches) values)
if_free C u s n c branches [] = tt
if_free C u s n c branches (v ∷ values) = then_free C (is_true (cell_of v.1)) (λ b. does_branch u s n (branch b branches)) (true_free C (cell_of v.1)) (λ b. does_branch_free C u s n (branch b branches))

while_free : (C : Type 0) (u : CoreTrees) (s : Blocks) (n c part : ℕ) (values : List (ℕ × Value)) → Free C (while_row u s n (c ∷ part ∷ []) values)
while_free C u s n c part [] = tt
while_free C u s n c part (v ∷ values) = turns_by_free C u s n [] part (cell_of v.1)

do_while_free : (u : CoreTrees) (s : Blocks) (n c part : ℕ) (values : List (ℕ × Value)) → Free (values ≡ []) (do_while_row u s n (part ∷ c ∷ []) values)
do_while_free u s n c part [] = refl
do_while_free u s n c part (v ∷ values) = turns_by_free (v ∷ values ≡ []) u s n (c ∷ []) part (cell_of v.1)

for_asked_free : (C : Type 0) (u : CoreTrees) (s : Blocks) (n c : ℕ) (after : List ℕ) (part : ℕ) (o : Option (ℕ × Value)) → Free C (for_asked u s n c after part o)
for_asked_free C u s n c after part None = tt
for_asked_free C u s n c after part (Some v) = turns_by_free C u s n after part (cell_of v.1)

for_part_free : (C : Type 0) (u : CoreTrees) (s : Blocks) (n : ℕ) (condition after : List ℕ) (part : ℕ) (values : List (ℕ × Value)) → Free C (for_part u s n condition after part values)
for_part_free C u s n [] after part values = tt
for_part_free C u s n (c ∷ rest) after part values = for_asked_free C u s n c after part (find (λ (v : ℕ × Value). v.0 == c) values)

-- one child is the body of a For
last_one : (c : ℕ) (cs : List ℕ) → (part : ℕ) × (drop (length cs) (c ∷ cs) ≡ part ∷ [])
last_one c [] = (c, refl)
last_one c (d ∷ ds) = last_one d ds

body_one : (c : ℕ) (cs : List ℕ) → (part : ℕ) × (body_of (c ∷ cs) ≡ part ∷ [])
body_one c cs =
    let r = last_one c cs in
    (r.0, (let same : length (c ∷ cs) - 1 ≡ length cs = omega arith in ap (λ (k : ℕ). drop k (c ∷ cs)) same) ∙ r.1)

for_free : (C : Type 0) (u : CoreTrees) (s : Blocks) (n : ℕ) (condition after : List ℕ) (c : ℕ) (cs : List ℕ) (values : List (ℕ × Value)) → Free C (for_row u s n condition after (body_of (c ∷ cs)) values)
for_free C u s n condition after c cs values =
    let r = body_one c cs in
    subst (λ (body : List ℕ). Free C (for_row u s n condition after body values)) (sym r.1) (for_part_free C u s n condition after r.0 values)

switches_free : (C : Type 0) (u : CoreTrees) (items : List Item) (s : Blocks) (n : ℕ) (o : Option ℕ) → Free C (switches_to u items s n o)
switches_free C u items s n None = tt
switches_free C u items s n (Some t) = tt

number_free : (C : Type 0) (cell : Cell) → ((HasForm int cell → ⊥) → C) → Free C (number_in cell)
number_free C (Number k) bad = tt
number_free C Unset bad = tt
number_free C Null bad = bad (λ h. h)
number_free C (Pointer i path past) bad = bad (λ h. h)
number_free C (Function key) bad = bad (λ h. h)

switch_free : (u : CoreTrees) (items : List Item) (s : Blocks) (n c part : ℕ) (values : List (ℕ × Value)) → Free (LacksNumber values) (switch_row u items s n (c ∷ part ∷ []) values)
switch_free u items s n c part [] = tt
switch_free u items s n c part (v ∷ values) =
    then_free (LacksNumber (v ∷ values)) (number_in (cell_of v.1)) (λ (x : ℤ). switches_to u items s n (switch_target u.nodes n x)) (number_free (LacksNumber (v ∷ values)) (cell_of v.1) (λ bad. bad))
    (λ x. switches_free (LacksNumber (v ∷ values)) u items s n (switch_target u.nodes n x))

breaks_free : (u : CoreTrees) (items : List Item) (s : Blocks) (n : ℕ) (o : Option ℕ) → Free (o ≡ None) (breaks u items s n o)
breaks_free u items s n None = refl
breaks_free u items s n (Some a) = tt

continues_free : (u : CoreTrees) (items : List Item) (s : Blocks) (n : ℕ) (o : Option ℕ) → Free (o ≡ None) (continues u items s n o)
continues_free u items s n None = refl
continues_free u items s n (Some a) = tt

goes_to_free : (u : CoreTrees) (items : List Item) (s : Blocks) (n t : ℕ) (o : Option ℕ) → Free (o ≡ None) (goes_to u items s n t o)
goes_to_free u items s n t None = refl
goes_to_free u items s n t (Some a) = tt

goto_found_free : (u : CoreTrees) (items : List Item) (s : Blocks) (n : ℕ) (o : Option ℕ)
    → Free ((o ≡ None) ⊎ ((t : ℕ) × (o ≡ Some t) × (meeting u.nodes (above u.nodes n) (above u.nodes t) ≡ None))) (goto_found u items s n o)
goto_found_free u items s n None = inl refl
goto_found_free u items s n (Some t) =
    lift_free (meeting u.nodes (above u.nodes n) (above u.nodes t) ≡ None) ((◌≡◌ {A = Option ℕ} (Some t) None) ⊎ ((k : ℕ) × (◌≡◌ {A = Option ℕ} (Some t) (Some k)) × (meeting u.nodes (above u.nodes n) (above u.nodes k) ≡ None)))
    (goes_to u items s n t (meeting u.nodes (above u.nodes n) (above u.nodes t))) (λ h. inr (t, refl, h)) (goes_to_free u items s n t (meeting u.nodes (above u.nodes n) (above u.nodes t)))

-- ---- what rows leave
changes_free : (C : Type 0) (f : Frame) (move : Move) → Free C move → Free C (changes f move)
changes_free C f (Ok change) h = tt
changes_free C f (Err Mismatch) h = h
changes_free C f (Err reason) h = tt

computes_free : (C : Type 0) (f : Frame) (n : ℕ) (effect : Effect) → Free C effect → Free C (computes f n effect)
computes_free C f n (Ok e) h = tt
computes_free C f n (Err Mismatch) h = h
computes_free C f n (Err reason) h = tt

module _ (w : Running) (state : State) (f : Frame) (n : ℕ) where
  -- ---- a statement that is begun
  lone_free : (items : List Item) (s : Blocks) (kind : NodeKind) → Free (Here w state f n kind [] []) (lone_row w.trees items s n (form_of kind) (goto_name kind))
  unfolding break_row continue_row goto_row
  lone_free items s Break =
      lift_free (nearest w.trees.nodes (is_sought LoopOrSwitch) (above w.trees.nodes n) ≡ None) (Here w state f n Break [] []) (break_row w.trees items s n) (λ h. inl h)
      (breaks_free w.trees items s n (nearest w.trees.nodes (is_sought LoopOrSwitch) (above w.trees.nodes n)))
  lone_free items s Continue =
      lift_free (nearest w.trees.nodes (is_sought LoopAlone) (above w.trees.nodes n) ≡ None) (Here w state f n Continue [] []) (continue_row w.trees items s n) (λ h. inl h)
      (continues_free w.trees items s n (nearest w.trees.nodes (is_sought LoopAlone) (above w.trees.nodes n)))
  lone_free items s (Goto name) =
      lift_free (LacksLabel w.trees.nodes n name) (Here w state f n (Goto name) [] []) (goto_row w.trees items s n name) (λ h. inl h) (goto_found_free w.trees items s n (label_target w.trees.nodes n name))
  lone_free items s kind = tt

  begun_row_free : (items : List Item) (s : Blocks) (kind : NodeKind) (children : List ℕ) → Free (Here w state f n kind children []) (begun_row w.trees items s n (form_of kind) (goto_name kind) children)
  begun_row_free items s kind [] = lone_free items s kind
  begun_row_free items s (Case k) (part ∷ rest) = tt
  begun_row_free items s Default (part ∷ rest) = tt
  begun_row_free items s (Label name) (part ∷ rest) = tt
  begun_row_free items s DoWhile (part ∷ rest) = tt
  begun_row_free items s kind (part ∷ rest) = tt

  -- ---- a statement whose operands are there
  finished_free : (items : List Item) (s : Blocks) (values : List (ℕ × Value)) (kind : NodeKind) (children : List ℕ) (t : Ctype) → RowOf w.trees kind t children → waits_next f.items ≡ true
      → Free (Here w state f n kind children values) (finished_row w.trees items s n (form_of kind) children values)
  finished_free items s values If (c ∷ a ∷ []) t row at = if_free (Here w state f n If (c ∷ a ∷ []) values) w.trees s n c (a ∷ []) values
  finished_free items s values If (c ∷ a ∷ b ∷ []) t row at = if_free (Here w state f n If (c ∷ a ∷ b ∷ []) values) w.trees s n c (a ∷ b ∷ []) values
  finished_free items s values If children t row at = absurd row
  finished_free items s values While (c ∷ part ∷ []) t row at = while_free (Here w state f n While (c ∷ part ∷ []) values) w.trees s n c part values
  finished_free items s values While children t row at = absurd row
  finished_free items s values DoWhile (part ∷ c ∷ []) t row at =
      lift_free (values ≡ []) (Here w state f n DoWhile (part ∷ c ∷ []) values) (do_while_row w.trees s n (part ∷ c ∷ []) values) (λ h. inr (at, h)) (do_while_free w.trees s n c part values)
  finished_free items s values DoWhile children t row at = absurd row
  finished_free items s values (For entities condition after) [] t row at = absurd row
  finished_free items s values (For entities condition after) (c ∷ cs) t row at =
      for_free (Here w state f n (For entities condition after) (c ∷ cs) values) w.trees s n (condition_of condition after (c ∷ cs)) (after_of after (c ∷ cs)) c cs values
  finished_free items s values Switch (c ∷ part ∷ []) t row at =
      lift_free (LacksNumber values) (Here w state f n Switch (c ∷ part ∷ []) values) (switch_row w.trees items s n (c ∷ part ∷ []) values) (λ h. inr h) (switch_free w.trees items s n c part values)
  finished_free items s values Switch children t row at = absurd row
  finished_free items s values Return [] t row at = inr (at, refl)
  finished_free items s values Return (v ∷ []) t row at =
      either_free (Here w state f n Return (v ∷ []) values) (lacks w.trees values (v ∷ [])) (Err UnsetUse) (returns items s (value_in values v)) tt tt
  finished_free items s values Return (v ∷ x ∷ rest) t row at = absurd row
  finished_free items s values kind children t row at = tt

  -- ---- initialisers
  initialised_free : (o : Option ℕ) (paths : List (List PathStep)) (list : List Initial) → Free (o ≡ None) (initialised_at w.trees state.memory f o paths list)
  initialised_free None paths list = refl
  initialised_free (Some i) paths list = tt

  abbrev IsInit : NodeKind → Type 0
  IsInit (Initialise e paths) = Unit {0}
  IsInit kind = ⊥

  initialise_by_free : (values : List (ℕ × Value)) (kind : NodeKind) (children : List ℕ) → IsInit kind → Free (Here w state f n kind children values) (initialise_by w.trees state.memory f kind children values)
  initialise_by_free values (Initialise e paths) children h =
      lift_free (instance_of state.memory f.instances (EntityKey e) ≡ None) (Here w state f n (Initialise e paths) children values)
      (initialised_at w.trees state.memory f (instance_of state.memory f.instances (EntityKey e)) paths (parts w.trees paths children values)) (λ g. inr g)
      (initialised_free (instance_of state.memory f.instances (EntityKey e)) paths (parts w.trees paths children values))
  initialise_by_free values kind children h = absurd h

  module _ (node : Node) (in_row : RowOf w.trees node.kind (type_of w.trees.types node.ty.0) node.children) where
    initialise_free : (values : List (ℕ × Value)) → IsInit node.kind → Free (Here w state f n node.kind node.children values) (initialise_row w.trees state.memory f node values)
    unfolding initialise_row
    initialise_free values h =
        either_free (Here w state f n node.kind node.children values) (lacks w.trees values node.children) (Err UnsetUse) (initialise_by w.trees state.memory f node.kind node.children values) tt
        (initialise_by_free values node.kind node.children h)

    -- ---- a node that is begun
    begun_value_free : (word : ℕ) (children : List ℕ) → node.children ≡ children → IsComputed node.kind [] → Free (Here w state f n node.kind node.children []) (begun_value w.trees state.memory f n node children word)
    begun_value_free word [] is c =
        computes_free (Here w state f n node.kind node.children []) f n (computed w.trees state.memory f.instances n node [] word)
        (computed_free w state f n [] node word in_row (subst (λ (cs : List ℕ). IsComputed node.kind cs) (sym is) c))
    begun_value_free word (c ∷ rest) is h = tt

    begun_initialiser_free : (children : List ℕ) → IsInit node.kind → Free (Here w state f n node.kind node.children []) (begun_initialiser w.trees state.memory f n node children)
    begun_initialiser_free [] h = initialise_free [] h
    begun_initialiser_free (c ∷ rest) h = tt

    -- a value, of that kind
    value_begun : (word : ℕ) (kind : NodeKind) → node.kind ≡ kind → IsComputed kind [] → Free (Here w state f n kind node.children []) (begun_value w.trees state.memory f n node node.children word)
    value_begun word kind is c =
        subst (λ (k : NodeKind). Free (Here w state f n k node.children []) (begun_value w.trees state.memory f n node node.children word)) is
        (begun_value_free word node.children refl (subst (λ (k : NodeKind). IsComputed k []) (sym is) c))

    -- a statement
    statement_begun : (kind : NodeKind) → node.kind ≡ kind → Free (Here w state f n kind node.children []) (changes f (begun_row w.trees f.items (blocks_of state.memory f) n (form_of kind) (goto_name node.kind) node.children))
    statement_begun kind is =
        subst (λ (name : List ℕ). Free (Here w state f n kind node.children []) (changes f (begun_row w.trees f.items (blocks_of state.memory f) n (form_of kind) name node.children))) (ap goto_name (sym is))
        (changes_free (Here w state f n kind node.children []) f (begun_row w.trees f.items (blocks_of state.memory f) n (form_of kind) (goto_name kind) node.children)
        (begun_row_free f.items (blocks_of state.memory f) kind node.children))

    begun_free : (word : ℕ) (kind : NodeKind) → node.kind ≡ kind → Free (Here w state f n kind node.children []) (begun_by w.trees state.memory f n node (form_of kind) word)
    begun_free word (Named e) is = value_begun word (Named e) is tt
    begun_free word (Text bytes) is = value_begun word (Text bytes) is tt
    begun_free word (Literal e) is = value_begun word (Literal e) is tt
    begun_free word (FunctionName e) is = value_begun word (FunctionName e) is tt
    begun_free word Deref is = value_begun word Deref is tt
    begun_free word (Member k) is = value_begun word (Member k) is tt
    begun_free word (NumberNode k) is = value_begun word (NumberNode k) is tt
    begun_free word NullValue is = value_begun word NullValue is tt
    begun_free word Fetch is = value_begun word Fetch is tt
    begun_free word AddressOf is = value_begun word AddressOf is tt
    begun_free word Decay is = value_begun word Decay is tt
    begun_free word (PointerAdd minus) is = value_begun word (PointerAdd minus) is tt
    begun_free word Convert is = value_begun word Convert is tt
    begun_free word Upcast is = value_begun word Upcast is tt
    begun_free word Assign is = value_begun word Assign is tt
    begun_free word (Update op post) is = value_begun word (Update op post) is tt
    begun_free word Sequence is = value_begun word Sequence is tt
    begun_free word (MemberOfValue k) is = value_begun word (MemberOfValue k) is tt
    begun_free word (Arith op) is = value_begun word (Arith op) is tt
    begun_free word (VarArgs e) is = value_begun word (VarArgs e) is tt
    begun_free word Choose is = value_begun word Choose is tt
    begun_free word CallNode is = value_begun word CallNode is tt
    begun_free word NextArg is = value_begun word NextArg is tt
    begun_free word Expression is = statement_begun Expression is
    begun_free word (Block entities) is = statement_begun (Block entities) is
    begun_free word If is = statement_begun If is
    begun_free word While is = statement_begun While is
    begun_free word DoWhile is = statement_begun DoWhile is
    begun_free word (For entities condition after) is = statement_begun (For entities condition after) is
    begun_free word Switch is = statement_begun Switch is
    begun_free word (Case k) is = statement_begun (Case k) is
    begun_free word Default is = statement_begun Default is
    begun_free word (Label name) is = statement_begun (Label name) is
    begun_free word (Goto name) is = statement_begun (Goto name) is
    begun_free word Break is = statement_begun Break is
    begun_free word Continue is = statement_begun Continue is
    begun_free word Return is = statement_begun Return is
    begun_free word Skip is = statement_begun Skip is
    begun_free word (Initialise e paths) is =
        subst (λ (k : NodeKind). Free (Here w state f n k node.children []) (begun_initialiser w.trees state.memory f n node node.children)) is
        (begun_initialiser_free node.children (subst IsInit (sym is) tt))

    do_in_free : (word : ℕ) → Free (Here w state f n node.kind node.children []) (do_in w.trees state.memory f n (Some node) word)
    do_in_free word = begun_free word node.kind refl

    pub do_free : (word : ℕ) → slice_get w.trees.nodes n ≡ Some node → Free (Here w state f n node.kind node.children []) (do_row w.trees state.memory f n word)
    unfolding do_row
    do_free word there = subst (λ (o : Option Node). Free (Here w state f n node.kind node.children []) (do_in w.trees state.memory f n o word)) (sym there) (do_in_free word)

    -- ---- a node whose operands are there
    module _ (values : List (ℕ × Value)) (word : ℕ) (at : waits_next f.items ≡ true) where
      value_finished : (kind : NodeKind) → node.kind ≡ kind → IsComputed kind node.children → Free (Here w state f n kind node.children values) (computes f n (computed w.trees state.memory f.instances n node values word))
      value_finished kind is c =
          subst (λ (k : NodeKind). Free (Here w state f n k node.children values) (computes f n (computed w.trees state.memory f.instances n node values word))) is
          (computes_free (Here w state f n node.kind node.children values) f n (computed w.trees state.memory f.instances n node values word)
          (computed_free w state f n values node word in_row (subst (λ (k : NodeKind). IsComputed k node.children) (sym is) c)))

      statement_finished : (kind : NodeKind) → node.kind ≡ kind → Free (Here w state f n kind node.children values) (changes f (finished_row w.trees f.items (blocks_of state.memory f) n (form_of kind) node.children values))
      statement_finished kind is =
          changes_free (Here w state f n kind node.children values) f (finished_row w.trees f.items (blocks_of state.memory f) n (form_of kind) node.children values)
          (finished_free f.items (blocks_of state.memory f) values kind node.children (type_of w.trees.types node.ty.0) (subst (λ (k : NodeKind). RowOf w.trees k (type_of w.trees.types node.ty.0) node.children) is in_row) at)

      finish_free : is_call node.kind ≡ false → is_next node.kind ≡ false → (kind : NodeKind) → node.kind ≡ kind → Free (Here w state f n kind node.children values) (finish_row w.trees state.memory f n node (form_of kind) values word)
      finish_free unlike none (Named e) is = value_finished (Named e) is tt
      finish_free unlike none (Text bytes) is = value_finished (Text bytes) is tt
      finish_free unlike none (Literal e) is = value_finished (Literal e) is tt
      finish_free unlike none (FunctionName e) is = value_finished (FunctionName e) is tt
      finish_free unlike none Deref is = value_finished Deref is tt
      finish_free unlike none (Member k) is = value_finished (Member k) is tt
      finish_free unlike none (NumberNode k) is = value_finished (NumberNode k) is tt
      finish_free unlike none NullValue is = value_finished NullValue is tt
      finish_free unlike none Fetch is = value_finished Fetch is tt
      finish_free unlike none AddressOf is = value_finished AddressOf is tt
      finish_free unlike none Decay is = value_finished Decay is tt
      finish_free unlike none (PointerAdd minus) is = value_finished (PointerAdd minus) is tt
      finish_free unlike none Convert is = value_finished Convert is tt
      finish_free unlike none Upcast is = value_finished Upcast is tt
      finish_free unlike none Assign is = value_finished Assign is tt
      finish_free unlike none (Update op post) is = value_finished (Update op post) is tt
      finish_free unlike none Sequence is = value_finished Sequence is tt
      finish_free unlike none (MemberOfValue k) is = value_finished (MemberOfValue k) is tt
      finish_free unlike none (Arith op) is = value_finished (Arith op) is tt
      finish_free unlike none (VarArgs e) is = value_finished (VarArgs e) is tt
      finish_free unlike none Expression is = statement_finished Expression is
      finish_free unlike none (Block entities) is = statement_finished (Block entities) is
      finish_free unlike none If is = statement_finished If is
      finish_free unlike none While is = statement_finished While is
      finish_free unlike none DoWhile is = statement_finished DoWhile is
      finish_free unlike none (For entities condition after) is = statement_finished (For entities condition after) is
      finish_free unlike none Switch is = statement_finished Switch is
      finish_free unlike none (Case k) is = statement_finished (Case k) is
      finish_free unlike none Default is = statement_finished Default is
      finish_free unlike none (Label name) is = statement_finished (Label name) is
      finish_free unlike none (Goto name) is = statement_finished (Goto name) is
      finish_free unlike none Break is = statement_finished Break is
      finish_free unlike none Continue is = statement_finished Continue is
      finish_free unlike none Return is = statement_finished Return is
      finish_free unlike none Skip is = statement_finished Skip is
      finish_free unlike none Choose is = tt
      finish_free unlike none CallNode is = absurd (false≢true (sym unlike ∙ ap is_call is))
      finish_free unlike none NextArg is = absurd (false≢true (sym none ∙ ap is_next is))
      finish_free unlike none (Initialise e paths) is =
          subst (λ (k : NodeKind). Free (Here w state f n k node.children values) (initialise_row w.trees state.memory f node values)) is (initialise_free values (subst IsInit (sym is) tt))

      wait_in_free : is_call node.kind ≡ false → is_next node.kind ≡ false → Free (Here w state f n node.kind node.children values) (wait_in w.trees state.memory f n (Some node) [] values word)
      wait_in_free unlike none = finish_free unlike none node.kind refl

      pub wait_free : is_call node.kind ≡ false → is_next node.kind ≡ false → slice_get w.trees.nodes n ≡ Some node → Free (Here w state f n node.kind node.children values) (wait_row w.trees state.memory f n [] values word)
      unfolding wait_row
      wait_free unlike none there = subst (λ (o : Option Node). Free (Here w state f n node.kind node.children values) (wait_in w.trees state.memory f n o [] values word)) (sym there) (wait_in_free unlike none)

-- ---- operands are left: nothing stops so
choose_free : (s : Blocks) (n a b : ℕ) (values : List (ℕ × Value)) → Free ⊥ (choose_row s n a b values)
choose_free s n a b values =
    then_free ⊥ (is_true (cell_of (first_value values))) (λ (yes : Bool). goes_on s (Do (chosen yes a b) ∷ waits n [] ∷ [])) (true_free ⊥ (cell_of (first_value values))) (λ yes. tt)

taken_by_free : (u : CoreTrees) (memory : List Instance) (f : Frame) (n : ℕ) (form : Form) (children operands : List ℕ) (values : List (ℕ × Value)) (word : ℕ) (o : Option (ℕ × ℕ))
    → Free ⊥ (taken_by u memory f n form children operands values word o)
taken_by_free u memory f n form children operands values word None = tt
taken_by_free u memory f n form children operands values word (Some two) = changes_free ⊥ f (choose_row (blocks_of memory f) n two.0 two.1 values) (choose_free (blocks_of memory f) n two.0 two.1 values)

pub left_free : (u : CoreTrees) (memory : List Instance) (f : Frame) (n : ℕ) (node : Node) (c : ℕ) (operands : List ℕ) (values : List (ℕ × Value)) (word : ℕ)
    → slice_get u.nodes n ≡ Some node → Free ⊥ (wait_row u memory f n (c ∷ operands) values word)
unfolding wait_row
left_free u memory f n node c operands values word there =
    subst (λ (o : Option Node). Free ⊥ (wait_in u memory f n o (c ∷ operands) values word)) (sym there)
    (taken_by_free u memory f n (form_of node.kind) node.children (c ∷ operands) values word (branches (form_of node.kind) (c ∷ operands)))
