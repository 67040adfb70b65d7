-- The rows of statements leave the types of instances those of the table, and their keys.
use Rattle.std.proofs.Common.{ℕ, ◌==◌, Bool, true, false, List, [], ◌∷◌, Option, Some, None, IfOk, length, reverse}
use Rattle.std.specs.Prelude.{find}
use Rattle.core_tree.specs.Typed.{CoreTrees}
use Rattle.core_tree.specs.Range.{InRange}
use Rattle.ref_cells.specs.declared.cells.Value.{Value}
use Rattle.ref_cells.specs.declared.instance.Instance.{Instance}
use Rattle.ref_lib.proofs.memory_laws.Steps.{after_any, either}
use Rattle.ref_state.specs.declared.items.Item.{Item}
use Rattle.ref_state.specs.Values.{cell_of, value_in}
use Rattle.ref_state.specs.Changes.{Blocks, Change}
use Rattle.ref_values.specs.Values.{is_true, lacks}
use Rattle.ref_blocks.specs.declared.block.Block.{Block}
use Rattle.ref_blocks.specs.declared.block.Block.TheVariants.{Own, Part}
use Rattle.ref_blocks.specs.declared.ways.Sought.TheVariants.{LoopAlone, LoopOrSwitch}
use Rattle.ref_blocks.specs.Ways.{above}
use Rattle.ref_blocks.specs.Loops.{condition_of, after_of, body_of}
use Rattle.ref_blocks.specs.Blocks.{entered, left, all_left, all_entered, blocks_around, but_for}
use Rattle.ref_blocks.specs.Jumps.{nearest, is_sought, switch_target, label_target, meeting, blocks_with}
use Rattle.ref_statements.specs.declared.forms.Form.{Form}
use Rattle.ref_statements.specs.Forms.{opens}
use Rattle.ref_statements.specs.Rows.{Move}
use Rattle.ref_statements.specs.Statements.{does_part, is_over, does_branch, branch, parts_left, if_row, turns, asks, while_row, do_while_row, for_asked, for_part, for_row, number_in, switches_to, switch_row, breaks, break_row, continues, continue_row, goes_to, goto_found, goto_row, returns, return_row, lone_row, opened, begun_row, finished_row}
use Rattle.ref_machine.specs.Standing.{IsAfter}
use Rattle.ref_machine.proofs.Known.{entered_known, left_known, all_left_known, all_entered_known, parts_left_known}

module _ (u : CoreTrees) (first : List Instance) (range : InRange u) where
  abbrev K : List Instance → Type 0
  K memory = IsAfter (length u.types.terms) first memory

  abbrev pub Kept : Move → Type 0
  Kept move = IfOk move (λ (change : Change). IsAfter (length u.types.terms) first change.blocks.memory)

  part_kept : (s : Blocks) (n : ℕ) (operands : List ℕ) (part : ℕ) → K s.memory → Kept (does_part u s n operands part)
  part_kept s n operands part h = entered_known u first range (Part part) s h

  over_kept : (s : Blocks) (n : ℕ) → K s.memory → Kept (is_over u s n)
  over_kept s n h = left_known u first range (Own n) s h

  does_branch_kept : (s : Blocks) (n : ℕ) (parts : List ℕ) → K s.memory → Kept (does_branch u s n parts)
  does_branch_kept s n [] h = over_kept s n h
  does_branch_kept s n (part ∷ rest) h = part_kept s n [] part h

  if_kept : (s : Blocks) (n : ℕ) (children : List ℕ) (values : List (ℕ × Value)) → K s.memory → Kept (if_row u s n children values)
  if_kept s n [] values h = tt
  if_kept s n (c ∷ branches) [] h = over_kept (parts_left u branches s) n (parts_left_known u first range branches s h)
  if_kept s n (c ∷ branches) (v ∷ values) h =
      after_any (is_true (cell_of v.1)) (λ b. does_branch u s n (branch b branches)) (λ (change : Change). K change.blocks.memory)
      (λ b. does_branch_kept s n (branch b branches) h)

  turns_kept : (s : Blocks) (n : ℕ) (operands : List ℕ) (part : ℕ) (b : Bool) → K s.memory → Kept (turns u s n operands part b)
  turns_kept s n operands part true h = part_kept s n operands part h
  turns_kept s n operands part false h = over_kept s n h

  asks_kept : (s : Blocks) (n part c : ℕ) → K s.memory → Kept (asks u s n part c)
  asks_kept s n part c h = left_known u first range (Part part) s h

  while_kept : (s : Blocks) (n : ℕ) (children : List ℕ) (values : List (ℕ × Value)) → K s.memory → Kept (while_row u s n children values)
  while_kept s n [] values h = tt
  while_kept s n (c ∷ []) values h = tt
  while_kept s n (c ∷ part ∷ []) [] h = asks_kept s n part c h
  while_kept s n (c ∷ part ∷ []) (v ∷ values) h =
      after_any (is_true (cell_of v.1)) (λ b. turns u s n [] part b) (λ (change : Change). K change.blocks.memory)
      (λ b. turns_kept s n [] part b h)
  while_kept s n (c ∷ part ∷ d ∷ rest) values h = tt

  do_while_kept : (s : Blocks) (n : ℕ) (children : List ℕ) (values : List (ℕ × Value)) → K s.memory → Kept (do_while_row u s n children values)
  do_while_kept s n [] values h = tt
  do_while_kept s n (part ∷ []) values h = tt
  do_while_kept s n (part ∷ c ∷ []) [] h = tt
  do_while_kept s n (part ∷ c ∷ []) (v ∷ values) h =
      after_any (is_true (cell_of v.1)) (λ b. turns u s n (c ∷ []) part b) (λ (change : Change). K change.blocks.memory)
      (λ b. turns_kept s n (c ∷ []) part b h)
  do_while_kept s n (part ∷ c ∷ d ∷ rest) values h = tt

  for_asked_kept : (s : Blocks) (n c : ℕ) (after : List ℕ) (part : ℕ) (o : Option (ℕ × Value)) → K s.memory → Kept (for_asked u s n c after part o)
  for_asked_kept s n c after part None h = asks_kept s n part c h
  for_asked_kept s n c after part (Some v) h =
      after_any (is_true (cell_of v.1)) (λ b. turns u s n after part b) (λ (change : Change). K change.blocks.memory)
      (λ b. turns_kept s n after part b h)

  for_part_kept : (s : Blocks) (n : ℕ) (condition after : List ℕ) (part : ℕ) (values : List (ℕ × Value)) → K s.memory → Kept (for_part u s n condition after part values)
  for_part_kept s n [] after part values h = part_kept (left u (Part part) s) n after part (left_known u first range (Part part) s h)
  for_part_kept s n (c ∷ rest) after part values h = for_asked_kept s n c after part (find (λ v. v.0 == c) values) h

  for_kept : (s : Blocks) (n : ℕ) (condition after body : List ℕ) (values : List (ℕ × Value)) → K s.memory → Kept (for_row u s n condition after body values)
  for_kept s n condition after [] values h = tt
  for_kept s n condition after (part ∷ []) values h = for_part_kept s n condition after part values h
  for_kept s n condition after (part ∷ d ∷ rest) values h = tt

  jumped_known : (s : Blocks) (from to : List Block) → K s.memory → K (all_entered u to (all_left u from s)).memory
  jumped_known s from to h = all_entered_known u first range to (all_left u from s) (all_left_known u first range from s h)

  switches_kept : (items : List Item) (s : Blocks) (n : ℕ) (o : Option ℕ) → K s.memory → Kept (switches_to u items s n o)
  switches_kept items s n None h = over_kept s n h
  switches_kept items s n (Some t) h =
      jumped_known s (but_for (blocks_with u n) (blocks_around u t)) (reverse (but_for (blocks_around u t) (blocks_with u n))) h

  switch_kept : (items : List Item) (s : Blocks) (n : ℕ) (children : List ℕ) (values : List (ℕ × Value)) → K s.memory → Kept (switch_row u items s n children values)
  switch_kept items s n [] values h = tt
  switch_kept items s n (c ∷ []) values h = tt
  switch_kept items s n (c ∷ part ∷ []) [] h = over_kept (left u (Part part) s) n (left_known u first range (Part part) s h)
  switch_kept items s n (c ∷ part ∷ []) (v ∷ values) h =
      after_any (number_in (cell_of v.1)) (λ x. switches_to u items s n (switch_target u.nodes n x)) (λ (change : Change). K change.blocks.memory)
      (λ x. switches_kept items s n (switch_target u.nodes n x) h)
  switch_kept items s n (c ∷ part ∷ d ∷ rest) values h = tt

  breaks_kept : (items : List Item) (s : Blocks) (n : ℕ) (o : Option ℕ) → K s.memory → Kept (breaks u items s n o)
  breaks_kept items s n None h = tt
  breaks_kept items s n (Some a) h = all_left_known u first range (but_for (blocks_around u n) (blocks_around u a)) s h

  break_kept : (items : List Item) (s : Blocks) (n : ℕ) → K s.memory → Kept (break_row u items s n)
  unfolding break_row
  break_kept items s n h = breaks_kept items s n (nearest u.nodes (is_sought LoopOrSwitch) (above u.nodes n)) h

  continues_kept : (items : List Item) (s : Blocks) (n : ℕ) (o : Option ℕ) → K s.memory → Kept (continues u items s n o)
  continues_kept items s n None h = tt
  continues_kept items s n (Some a) h = all_left_known u first range (but_for (blocks_around u n) (blocks_with u a)) s h

  continue_kept : (items : List Item) (s : Blocks) (n : ℕ) → K s.memory → Kept (continue_row u items s n)
  unfolding continue_row
  continue_kept items s n h = continues_kept items s n (nearest u.nodes (is_sought LoopAlone) (above u.nodes n)) h

  goes_kept : (items : List Item) (s : Blocks) (n t : ℕ) (o : Option ℕ) → K s.memory → Kept (goes_to u items s n t o)
  goes_kept items s n t None h = tt
  goes_kept items s n t (Some a) h =
      jumped_known s (but_for (blocks_around u n) (blocks_around u t)) (reverse (but_for (blocks_around u t) (blocks_around u n))) h

  found_kept : (items : List Item) (s : Blocks) (n : ℕ) (o : Option ℕ) → K s.memory → Kept (goto_found u items s n o)
  found_kept items s n None h = tt
  found_kept items s n (Some t) h = goes_kept items s n t (meeting u.nodes (above u.nodes n) (above u.nodes t)) h

  goto_kept : (items : List Item) (s : Blocks) (n : ℕ) (name : List ℕ) → K s.memory → Kept (goto_row u items s n name)
  unfolding goto_row
  goto_kept items s n name h = found_kept items s n (label_target u.nodes n name) h

  return_kept : (items : List Item) (s : Blocks) (children : List ℕ) (values : List (ℕ × Value)) → K s.memory → Kept (return_row u items s children values)
  return_kept items s [] values h = tt
  return_kept items s (v ∷ []) values h =
      either (lacks u values (v ∷ [])) _ (returns items s (value_in values v)) (λ (change : Change). K change.blocks.memory) tt h
  return_kept items s (v ∷ w ∷ rest) values h = tt

  lone_kept : (items : List Item) (s : Blocks) (n : ℕ) (form : Form) (name : List ℕ) → K s.memory → Kept (lone_row u items s n form name)
  lone_kept items s n Form.Break name h = break_kept items s n h
  lone_kept items s n Form.Continue name h = continue_kept items s n h
  lone_kept items s n Form.Goto name h = goto_kept items s n name h
  lone_kept items s n Form.Compound name h = over_kept (entered u (Own n) s) n (entered_known u first range (Own n) s h)
  lone_kept items s n form name h = h

  opened_known : (n : ℕ) (b : Bool) (s : Blocks) → K s.memory → K (opened u n b s).memory
  opened_known n true s h = entered_known u first range (Own n) s h
  opened_known n false s h = h

  pub begun_kept : (items : List Item) (s : Blocks) (n : ℕ) (form : Form) (name children : List ℕ) → K s.memory → Kept (begun_row u items s n form name children)
  begun_kept items s n form name [] h = lone_kept items s n form name h
  begun_kept items s n Form.Label name (part ∷ rest) h = h
  begun_kept items s n Form.DoWhile name (part ∷ rest) h = part_kept (entered u (Own n) s) n rest part (entered_known u first range (Own n) s h)
  begun_kept items s n form name (part ∷ rest) h = opened_known n (opens form) s h

  pub finished_kept : (items : List Item) (s : Blocks) (n : ℕ) (form : Form) (children : List ℕ) (values : List (ℕ × Value)) → K s.memory → Kept (finished_row u items s n form children values)
  finished_kept items s n Form.Compound children values h = over_kept s n h
  finished_kept items s n Form.If children values h = if_kept s n children values h
  finished_kept items s n Form.While children values h = while_kept s n children values h
  finished_kept items s n Form.DoWhile children values h = do_while_kept s n children values h
  finished_kept items s n (Form.For condition after) children values h =
      for_kept s n (condition_of condition after children) (after_of after children) (body_of children) values h
  finished_kept items s n Form.Switch children values h = switch_kept items s n children values h
  finished_kept items s n Form.Return children values h = return_kept items s children values h
  finished_kept items s n form children values h = h
