-- What statements that are begun and that have their operands leave is covered and stacked.
use Rattle.std.proofs.Common.{◌≡◌, ◌∙◌, ℕ, Bool, true, false, List, [], ◌∷◌, Option, Some, None, slice_get, refl, sym, ap}
use Rattle.std.proofs.lemmas.Bool.{false≢true}
use Rattle.c_types.specs.declared.key.ObjectKey.{ObjectKey}
use Rattle.c_types.specs.declared.key.ObjectKey.TheVariants.{Entity as EntityKey}
use Rattle.c_types.specs.Trees.{Ctype}
use Rattle.core_tree.specs.declared.node.Node.{Node}
use Rattle.core_tree.specs.declared.node.NodeKind.{NodeKind}
use Rattle.core_tree.specs.declared.node.NodeKind.TheVariants.{Choose, Expression, Block, If, While, DoWhile, For, Switch, Case, Default, Label, Goto, Break, Continue, Return, Skip}
use Rattle.core_tree.specs.Rows.{Has, RowOf}
use Rattle.core_tree.specs.Typed.{CoreTrees, NoNode, ValueNode, StatementNode, IsStatement, sort_of, sort_in}
use Rattle.ref_cells.specs.declared.cells.Value.{Value}
use Rattle.ref_cells.specs.declared.instance.Instance.{Instance}
use Rattle.ref_state.specs.declared.items.Item.{Item}
use Rattle.ref_state.specs.declared.frames.Frame.{Frame}
use Rattle.ref_state.specs.Changes.{Blocks}
use Rattle.ref_state.specs.Values.{no_value, value_in}
use Rattle.ref_blocks.specs.declared.block.Block.TheVariants.{Own}
use Rattle.ref_blocks.specs.Ways.{kind_in, kind_at, children_at}
use Rattle.ref_blocks.specs.Loops.{body_at, after_at, condition_of, after_of, body_of}
use Rattle.ref_blocks.specs.Blocks.{entered}
use Rattle.ref_statements.specs.declared.forms.Form.{Form}
use Rattle.ref_statements.specs.Forms.{form_of, opens, awaited}
use Rattle.ref_statements.specs.Statements.{opened, lone_row, waits_row, begun_row, finished_row}
use Rattle.covering_laws.specs.covered_state.World.{World, trees_of}
use Rattle.covering_laws.specs.covered_state.Items.{Each, IsOwned, ReturnedIn}
use Rattle.covered_runs.proofs.covered_steps.Steps.{each_take, each_drop}
use Rattle.covered_runs.specs.covered_steps.covered_statements.Runnable.{IsRunnable}
use Rattle.covered_runs.proofs.covered_steps.covered_statements.Plain.{is_plain}
use Rattle.covered_runs.proofs.covered_steps.covered_statements.Ways.{each_range, each_after}
use Rattle.covered_runs.proofs.covered_steps.covered_statements.Kept.{Keeps, keeps_then, keeps_entered}
use Rattle.covered_runs.proofs.covered_steps.covered_statements.Moves.{IsHere, Moves, ends, gives_back, returned, over, waiting, part, labelled, if_moves, while_moves, do_while_moves, for_moves, opened_keeps}
use Rattle.covered_runs.proofs.covered_steps.covered_statements.Jumps.{switch_moves, break_moves, continue_moves, goto_moves}

value_statement : ValueNode ≡ StatementNode → ⊥
value_statement h = cc

none_statement : NoNode ≡ StatementNode → ⊥
none_statement h = cc

-- the forms of statements that do not initialise
abbrev pub is_statement : Form → Bool
is_statement Form.Value = false
is_statement Form.Sequence = false
is_statement Form.Choose = false
is_statement Form.Initialise = false
is_statement form = true

abbrev is_labelling : Form → Bool
is_labelling Form.Label = true
is_labelling form = false

abbrev is_returning : Form → Bool
is_returning Form.Return = true
is_returning form = false

abbrev is_choosing : Form → Bool
is_choosing Form.Choose = true
is_choosing form = false

pub form_plain : (kind : NodeKind) → is_statement (form_of kind) ≡ true → is_plain kind ≡ true
form_plain Expression h = refl
form_plain (Block entities) h = refl
form_plain If h = refl
form_plain While h = refl
form_plain DoWhile h = refl
form_plain (For entities condition after) h = refl
form_plain Switch h = refl
form_plain (Case k) h = refl
form_plain Default h = refl
form_plain (Label name) h = refl
form_plain (Goto name) h = refl
form_plain Break h = refl
form_plain Continue h = refl
form_plain Return h = refl
form_plain Skip h = refl
form_plain kind h = absurd (false≢true h)

return_kind : (kind : NodeKind) → is_returning (form_of kind) ≡ true → kind ≡ Return
return_kind Return h = refl
return_kind kind h = absurd (false≢true h)

choice_kind : (kind : NodeKind) → is_choosing (form_of kind) ≡ true → kind ≡ Choose
choice_kind Choose h = refl
choice_kind kind h = absurd (false≢true h)

pub of_return : (kind : NodeKind) → form_of kind ≡ Form.Return → kind ≡ Return
of_return kind h = return_kind kind (ap is_returning h)

pub of_choice : (kind : NodeKind) → form_of kind ≡ Form.Choose → kind ≡ Choose
of_choice kind h = choice_kind kind (ap is_choosing h)

-- a label stands before a statement
labelled_statement : (u : CoreTrees) (kind : NodeKind) (t : Ctype) (cs : List ℕ) → is_labelling (form_of kind) ≡ true → RowOf u kind t cs → Each (IsStatement u) cs
labelled_statement u (Case k) t (s ∷ []) h row = (row, tt)
labelled_statement u (Case k) t cs h row = absurd row
labelled_statement u Default t (s ∷ []) h row = (row, tt)
labelled_statement u Default t cs h row = absurd row
labelled_statement u (Label name) t (s ∷ []) h row = (row, tt)
labelled_statement u (Label name) t cs h row = absurd row
labelled_statement u kind t cs h row = absurd (false≢true h)

pub of_label : (u : CoreTrees) (kind : NodeKind) (t : Ctype) (cs : List ℕ) → form_of kind ≡ Form.Label → RowOf u kind t cs → Each (IsStatement u) cs
of_label u kind t cs h row = labelled_statement u kind t cs (ap is_labelling h) row

statement_sort : (u : CoreTrees) (p : ℕ) → IsStatement u p → sort_of (kind_at u.nodes p) ≡ ValueNode → ⊥
statement_sort u p is value = by (slice_get u.nodes p) is value
  where
    by : (o : Option Node) → sort_in o ≡ StatementNode → sort_of (kind_in o) ≡ ValueNode → ⊥
    by None s v = none_statement s
    by (Some node) s v = value_statement (sym v ∙ s)

each_awaited : (P : ℕ → Type 0) (form : Form) (cs : List ℕ) → Each P cs → Each P (awaited form cs)
each_awaited P Form.If cs h = each_take P 1 cs h
each_awaited P Form.While cs h = each_take P 1 cs h
each_awaited P Form.Switch cs h = each_take P 1 cs h
each_awaited P (Form.For condition after) cs h = each_take P (after_at after cs) cs h
each_awaited P form cs h = h

-- nothing is returned
none_returned : (world : World) (memory : List Instance) (key : ObjectKey) (n : ℕ) → IsOwned world key n → ReturnedIn world memory key no_value
none_returned world memory (EntityKey g) n owned = tt
none_returned world memory key n owned = absurd owned

module _ (world : World) (runs : IsRunnable world) (memory : List Instance) (f : Frame) (n : ℕ) (items : List Item) (here : IsHere world memory f n items) where
  abbrev u : CoreTrees
  u = trees_of world

  abbrev IsChildOf : ℕ → Type 0
  IsChildOf c = Has (children_at (trees_of world).nodes n) c

  lone_moves : (s : Blocks) (form : Form) (name : List ℕ) → is_plain (kind_at u.nodes n) ≡ true → Keeps world memory s.memory → Moves world memory f (lone_row u f.items s n form name)
  lone_moves s Form.Break name plain keeps = break_moves world runs memory f n items here s keeps
  lone_moves s Form.Continue name plain keeps = continue_moves world runs memory f n items here s keeps
  lone_moves s Form.Goto name plain keeps = goto_moves world runs memory f n items here s name keeps
  lone_moves s Form.Return name plain keeps = gives_back world runs memory f n items here s no_value keeps (none_returned world memory f.function n here.owned)
  lone_moves s Form.Compound name plain keeps =
      over world runs memory f n items here plain (entered u (Own n) s) (keeps_then world memory s.memory (entered u (Own n) s).memory keeps (keeps_entered world runs (Own n) s))
  lone_moves s form name plain keeps = ends world runs memory f n items here s keeps

  waits_moves : (s : Blocks) (form : Form) (children : List ℕ) → is_plain (kind_at u.nodes n) ≡ true → Keeps world memory s.memory → Each IsChildOf children
      → Moves world memory f (waits_row u s n form children)
  waits_moves s form children plain keeps h =
      waiting world runs memory f n items here plain (opened u n (opens form) s) (awaited form children)
      (keeps_then world memory s.memory (opened u n (opens form) s).memory keeps (opened_keeps world runs memory f n items here plain (opens form) s))
      (each_awaited IsChildOf form children h)

  -- a statement is begun
  pub begun_moves : (s : Blocks) (form : Form) (name children : List ℕ) → is_plain (kind_at u.nodes n) ≡ true → (form ≡ Form.Label → Each (IsStatement u) children) → Keeps world memory s.memory → Each IsChildOf children
      → Moves world memory f (begun_row u f.items s n form name children)
  begun_moves s form name [] plain label keeps h = lone_moves s form name plain keeps
  begun_moves s Form.Label name (p ∷ rest) plain label keeps h = labelled world runs memory f n items here plain s p keeps h.0 (statement_sort u p (label refl).0)
  begun_moves s Form.DoWhile name (p ∷ rest) plain label keeps h =
      part world runs memory f n items here plain (entered u (Own n) s) rest p (keeps_then world memory s.memory (entered u (Own n) s).memory keeps (keeps_entered world runs (Own n) s)) h.1 h.0
  begun_moves s form name (c ∷ rest) plain label keeps h = waits_moves s form (c ∷ rest) plain keeps h

  -- its operands are there
  pub finished_moves : (s : Blocks) (form : Form) (children : List ℕ) (values : List (ℕ × Value)) → is_plain (kind_at u.nodes n) ≡ true
      → (form ≡ Form.Return → (v : ℕ) → children ≡ v ∷ [] → ReturnedIn world memory f.function (value_in values v)) → Keeps world memory s.memory → Each IsChildOf children
      → Moves world memory f (finished_row u f.items s n form children values)
  finished_moves s Form.Compound children values plain gives keeps h = over world runs memory f n items here plain s keeps
  finished_moves s Form.If children values plain gives keeps h = if_moves world runs memory f n items here plain s children values keeps h
  finished_moves s Form.While children values plain gives keeps h = while_moves world runs memory f n items here plain s children values keeps h
  finished_moves s Form.DoWhile children values plain gives keeps h = do_while_moves world runs memory f n items here plain s children values keeps h
  finished_moves s (Form.For condition after) children values plain gives keeps h =
      for_moves world runs memory f n items here plain s (condition_of condition after children) (after_of after children) (body_of children) values keeps
      (each_range IsChildOf children _ _ h) (each_after IsChildOf after children h) (each_drop IsChildOf (body_at children) children h)
  finished_moves s Form.Switch children values plain gives keeps h = switch_moves world runs memory f n items here s children values plain keeps
  finished_moves s Form.Return children values plain gives keeps h = returned world runs memory f n items here children values s keeps (gives refl)
  finished_moves s form children values plain gives keeps h = ends world runs memory f n items here s keeps
