-- What statements put on top of a frame's items are no calls of the library.
use Rattle.std.proofs.Common.{◌≡◌, ℕ, ◌==◌, Bool, true, false, cond, List, [], ◌∷◌, find, length, Option, Some, None, Result, Ok, Err, subst}
use Rattle.core_tree.specs.declared.node.Node.{Node}
use Rattle.core_tree.specs.Typed.{CoreTrees}
use Rattle.ref_cells.specs.declared.cells.Reason.{Reason}
use Rattle.ref_cells.specs.declared.cells.Reason.TheVariants.{Unset as UnsetUse, Mismatch}
use Rattle.ref_cells.specs.declared.cells.Cell.{Cell}
use Rattle.ref_cells.specs.declared.cells.Value.{Value}
use Rattle.ref_elements.specs.Runs.{◌>>=◌}
use Rattle.ref_state.specs.declared.items.Item.{Item}
use Rattle.ref_state.specs.declared.items.Item.TheVariants.{Do, Wait, Result as Returned}
use Rattle.ref_state.specs.Changes.{Blocks, Change}
use Rattle.ref_state.specs.Values.{no_value, cell_of, value_in}
use Rattle.ref_values.specs.Values.{is_true, lacks}
use Rattle.ref_blocks.specs.declared.block.Block.{Block}
use Rattle.ref_blocks.specs.declared.block.Block.TheVariants.{Own, Part}
use Rattle.ref_blocks.specs.declared.ways.Link.{Link}
use Rattle.ref_blocks.specs.declared.ways.Sought.TheVariants.{LoopAlone, LoopOrSwitch}
use Rattle.ref_blocks.specs.Ways.{above, kind_at, children_at, is_label, nearest, is_sought}
use Rattle.ref_blocks.specs.Loops.{left_behind, left_next, condition_of, after_of, body_of}
use Rattle.ref_blocks.specs.Around.{blocks_around, but_for}
use Rattle.ref_blocks.specs.Blocks.{entered, left, all_left}
use Rattle.ref_blocks.specs.Jumps.{switch_target, label_target, items_to, wait_for, waits_to, jump, meeting, blocks_with}
use Rattle.ref_statements.specs.declared.forms.Form.{Form}
use Rattle.ref_statements.specs.Forms.{opens, awaited}
use Rattle.ref_statements.specs.Rows.{Move, goes_on}
use Rattle.ref_statements.specs.Statements.{waits, does_part, is_over, does_branch, branch, parts_left, if_row, turns, turns_by, asks, while_row, do_while_row, for_asked, for_part, for_row, number_in, switches_to, switch_row, breaks, break_row, continues, continue_row, goes_to, goto_found, goto_row, returns, return_row, lone_row, opened, waits_row, begun_row, finished_row}
use Rattle.ref_statements.specs.Nodes.{first_value, chosen, choose_row}
use Rattle.covering_laws.specs.covered_state.Items.{Each}
use Rattle.covering_laws.proofs.covered_state.Stays.{each_append}
use Rattle.covered_runs.proofs.covered_steps.covered_values.Operands.{ok_one, err_ok, went}
use Rattle.covered_runs.proofs.touched_runs.called_frames.Items.{IsNoCall}

abbrev pub PutsNoCall : Move → Type 0
PutsNoCall move = (change : Change) → move ≡ Ok change → Each IsNoCall change.on

fails : (reason : Reason) → PutsNoCall (Err reason)
fails reason change is = absurd (err_ok is)

then_puts : {A : Type 0} (r : Result A Reason) (k : A → Move) → ((x : A) → PutsNoCall (k x)) → PutsNoCall (r >>= k)
then_puts r k each change is = let w = went r k change is in each w.0 change w.2

changed_so : (x : Change) → Each IsNoCall x.on → PutsNoCall (Ok x)
changed_so x h change is = subst (λ (c : Change). Each IsNoCall c.on) (ok_one is) h

goes : (s : Blocks) (on : List Item) → Each IsNoCall on → PutsNoCall (goes_on s on)
goes s on h = changed_so (record { off = 1; on = on; blocks = s }) h

-- the items on a way up wait
wait_puts : (nodes : List Node) (link : Link) → Each IsNoCall (wait_for nodes link)
wait_puts nodes link = by (is_label (kind_at nodes link.node))
  where
    by : (b : Bool) → Each IsNoCall (cond b [] (Wait link.node (left_behind (kind_at nodes link.node) (children_at nodes link.node) link.child) [] ∷ []))
    by true = tt
    by false = (tt, tt)

way_puts : (nodes : List Node) (a : ℕ) (links : List Link) → Each IsNoCall (waits_to nodes a links)
way_puts nodes a [] = tt
way_puts nodes a (link ∷ rest) = each_append IsNoCall (wait_for nodes link) (cond (link.node == a) [] (waits_to nodes a rest)) (wait_puts nodes link) (by (link.node == a) (way_puts nodes a rest))
  where
    by : (b : Bool) → Each IsNoCall (waits_to nodes a rest) → Each IsNoCall (cond b [] (waits_to nodes a rest))
    by true h = tt
    by false h = h

pub waiting : (s : Blocks) (n : ℕ) (ops : List ℕ) → PutsNoCall (goes_on s (waits n ops ∷ []))
waiting s n ops = goes s (Wait n ops [] ∷ []) (tt, tt)

module _ (u : CoreTrees) where
  over : (s : Blocks) (n : ℕ) → PutsNoCall (is_over u s n)
  over s n = goes (left u (Own n) s) [] tt

  part : (s : Blocks) (n : ℕ) (ops : List ℕ) (p : ℕ) → PutsNoCall (does_part u s n ops p)
  part s n ops p = goes (entered u (Part p) s) (Do p ∷ Wait n ops [] ∷ []) (tt, (tt, tt))

  jumps : (items : List Item) (s : Blocks) (inside : List Block) (a t : ℕ) → PutsNoCall (Ok (jump u items s inside a t))
  jumps items s inside a t = changed_so (jump u items s inside a t) (tt, way_puts u.nodes a (above u.nodes t))

  -- If

  does_one : (s : Blocks) (n : ℕ) (parts : List ℕ) → PutsNoCall (does_branch u s n parts)
  does_one s n [] = over s n
  does_one s n (p ∷ rest) = part s n [] p

  if_puts : (s : Blocks) (n : ℕ) (children : List ℕ) (values : List (ℕ × Value)) → PutsNoCall (if_row u s n children values)
  if_puts s n (c ∷ branches) [] = over (parts_left u branches s) n
  if_puts s n (c ∷ branches) (v ∷ values) = then_puts (is_true (cell_of v.1)) (λ b. does_branch u s n (branch b branches)) (λ b. does_one s n (branch b branches))
  if_puts s n [] values = fails Mismatch

  -- loops

  turn : (s : Blocks) (n : ℕ) (ops : List ℕ) (p : ℕ) (b : Bool) → PutsNoCall (turns u s n ops p b)
  turn s n ops p true = part s n ops p
  turn s n ops p false = over s n

  turn_by : (s : Blocks) (n : ℕ) (ops : List ℕ) (p : ℕ) (cell : Cell) → PutsNoCall (turns_by u s n ops p cell)
  turn_by s n ops p cell = then_puts (is_true cell) (λ b. turns u s n ops p b) (turn s n ops p)

  asks_for : (s : Blocks) (n p c : ℕ) → PutsNoCall (asks u s n p c)
  asks_for s n p c = waiting (left u (Part p) s) n (c ∷ [])

  while_puts : (s : Blocks) (n : ℕ) (children : List ℕ) (values : List (ℕ × Value)) → PutsNoCall (while_row u s n children values)
  while_puts s n (c ∷ p ∷ []) [] = asks_for s n p c
  while_puts s n (c ∷ p ∷ []) (v ∷ values) = turn_by s n [] p (cell_of v.1)
  while_puts s n children values = fails Mismatch

  do_while_puts : (s : Blocks) (n : ℕ) (children : List ℕ) (values : List (ℕ × Value)) → PutsNoCall (do_while_row u s n children values)
  do_while_puts s n (p ∷ c ∷ []) (v ∷ values) = turn_by s n (c ∷ []) p (cell_of v.1)
  do_while_puts s n children values = fails Mismatch

  asked : (s : Blocks) (n c : ℕ) (after : List ℕ) (p : ℕ) (o : Option (ℕ × Value)) → PutsNoCall (for_asked u s n c after p o)
  asked s n c after p None = asks_for s n p c
  asked s n c after p (Some v) = turn_by s n after p (cell_of v.1)

  part_puts : (s : Blocks) (n : ℕ) (condition after : List ℕ) (p : ℕ) (values : List (ℕ × Value)) → PutsNoCall (for_part u s n condition after p values)
  part_puts s n [] after p values = part (left u (Part p) s) n after p
  part_puts s n (c ∷ rest) after p values = asked s n c after p (find (λ v. v.0 == c) values)

  for_puts : (s : Blocks) (n : ℕ) (condition after body : List ℕ) (values : List (ℕ × Value)) → PutsNoCall (for_row u s n condition after body values)
  for_puts s n condition after (p ∷ []) values = part_puts s n condition after p values
  for_puts s n condition after [] values = fails Mismatch
  for_puts s n condition after (p ∷ q ∷ more) values = fails Mismatch

  -- Switch

  switched : (items : List Item) (s : Blocks) (n : ℕ) (o : Option ℕ) → PutsNoCall (switches_to u items s n o)
  switched items s n None = over s n
  switched items s n (Some t) = jumps items s (blocks_with u n) n t

  switch_puts : (items : List Item) (s : Blocks) (n : ℕ) (children : List ℕ) (values : List (ℕ × Value)) → PutsNoCall (switch_row u items s n children values)
  switch_puts items s n (c ∷ p ∷ []) [] = over (left u (Part p) s) n
  switch_puts items s n (c ∷ p ∷ []) (v ∷ values) =
      then_puts (number_in (cell_of v.1)) (λ x. switches_to u items s n (switch_target u.nodes n x)) (λ x. switched items s n (switch_target u.nodes n x))
  switch_puts items s n children values = fails Mismatch

  -- jumps

  broken : (items : List Item) (s : Blocks) (n : ℕ) (o : Option ℕ) → PutsNoCall (breaks u items s n o)
  broken items s n None = fails Mismatch
  broken items s n (Some a) = changed_so (record { off = items_to a items; on = []; blocks = all_left u (but_for (blocks_around u n) (blocks_around u a)) s }) tt

  break_puts : (items : List Item) (s : Blocks) (n : ℕ) → PutsNoCall (break_row u items s n)
  unfolding break_row
  break_puts items s n = broken items s n (nearest u.nodes (is_sought LoopOrSwitch) (above u.nodes n))

  continued : (items : List Item) (s : Blocks) (n : ℕ) (o : Option ℕ) → PutsNoCall (continues u items s n o)
  continued items s n None = fails Mismatch
  continued items s n (Some a) =
      changed_so (record { off = items_to a items; on = Wait a (left_next (kind_at u.nodes a) (children_at u.nodes a)) [] ∷ []; blocks = all_left u (but_for (blocks_around u n) (blocks_with u a)) s }) (tt, tt)

  continue_puts : (items : List Item) (s : Blocks) (n : ℕ) → PutsNoCall (continue_row u items s n)
  unfolding continue_row
  continue_puts items s n = continued items s n (nearest u.nodes (is_sought LoopAlone) (above u.nodes n))

  gone_to : (items : List Item) (s : Blocks) (n t : ℕ) (o : Option ℕ) → PutsNoCall (goes_to u items s n t o)
  gone_to items s n t None = fails Mismatch
  gone_to items s n t (Some a) = jumps items s (blocks_around u n) a t

  found : (items : List Item) (s : Blocks) (n : ℕ) (o : Option ℕ) → PutsNoCall (goto_found u items s n o)
  found items s n None = fails Mismatch
  found items s n (Some t) = gone_to items s n t (meeting u.nodes (above u.nodes n) (above u.nodes t))

  goto_puts : (items : List Item) (s : Blocks) (n : ℕ) (name : List ℕ) → PutsNoCall (goto_row u items s n name)
  unfolding goto_row
  goto_puts items s n name = found items s n (label_target u.nodes n name)

  -- Return

  given_back : (items : List Item) (s : Blocks) (value : Value) → PutsNoCall (returns items s value)
  given_back items s value = changed_so (record { off = length items; on = Returned value ∷ []; blocks = s }) (tt, tt)

  return_puts : (items : List Item) (s : Blocks) (children : List ℕ) (values : List (ℕ × Value)) → PutsNoCall (return_row u items s children values)
  return_puts items s (v ∷ []) values = by (lacks u values (v ∷ []))
    where
      by : (b : Bool) → PutsNoCall (cond b (Err UnsetUse) (returns items s (value_in values v)))
      by true = fails UnsetUse
      by false = given_back items s (value_in values v)
  return_puts items s [] values = fails Mismatch
  return_puts items s (v ∷ w ∷ more) values = fails Mismatch

  -- all statements

  lone_puts : (items : List Item) (s : Blocks) (n : ℕ) (form : Form) (name : List ℕ) → PutsNoCall (lone_row u items s n form name)
  lone_puts items s n Form.Break name = break_puts items s n
  lone_puts items s n Form.Continue name = continue_puts items s n
  lone_puts items s n Form.Goto name = goto_puts items s n name
  lone_puts items s n Form.Return name = given_back items s no_value
  lone_puts items s n Form.Compound name = over (entered u (Own n) s) n
  lone_puts items s n form name = goes s [] tt

  begins : (s : Blocks) (n : ℕ) (form : Form) (children : List ℕ) → PutsNoCall (waits_row u s n form children)
  begins s n form children = waiting (opened u n (opens form) s) n (awaited form children)

  pub begun_puts : (items : List Item) (s : Blocks) (n : ℕ) (form : Form) (name children : List ℕ) → PutsNoCall (begun_row u items s n form name children)
  begun_puts items s n form name [] = lone_puts items s n form name
  begun_puts items s n Form.Label name (p ∷ rest) = goes s (Do p ∷ []) (tt, tt)
  begun_puts items s n Form.DoWhile name (p ∷ rest) = part (entered u (Own n) s) n rest p
  begun_puts items s n form name (c ∷ rest) = begins s n form (c ∷ rest)

  pub finished_puts : (items : List Item) (s : Blocks) (n : ℕ) (form : Form) (children : List ℕ) (values : List (ℕ × Value)) → PutsNoCall (finished_row u items s n form children values)
  finished_puts items s n Form.Compound children values = over s n
  finished_puts items s n Form.If children values = if_puts s n children values
  finished_puts items s n Form.While children values = while_puts s n children values
  finished_puts items s n Form.DoWhile children values = do_while_puts s n children values
  finished_puts items s n (Form.For condition after) children values = for_puts s n (condition_of condition after children) (after_of after children) (body_of children) values
  finished_puts items s n Form.Switch children values = switch_puts items s n children values
  finished_puts items s n Form.Return children values = return_puts items s children values
  finished_puts items s n form children values = goes s [] tt

pub choose_puts : (s : Blocks) (n a b : ℕ) (values : List (ℕ × Value)) → PutsNoCall (choose_row s n a b values)
choose_puts s n a b values =
    then_puts (is_true (cell_of (first_value values))) (λ yes. goes_on s (Do (chosen yes a b) ∷ waits n [] ∷ [])) (λ yes. goes s (Do (chosen yes a b) ∷ Wait n [] [] ∷ []) (tt, (tt, tt)))
