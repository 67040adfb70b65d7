-- Statements that are begun and that go on make objects and end some, and write nothing.
use Rattle.std.proofs.Common.{ℕ, ◌==◌, not, Bool, true, false, List, [], ◌∷◌, filter, find, map, reverse, Option, Some, None, Ok, Err, IfOk, slice_get}
use Rattle.core_tree.specs.Typed.{CoreTrees}
use Rattle.ref_cells.specs.declared.cells.Reason.TheVariants.{Unset as UnsetUse}
use Rattle.ref_cells.specs.declared.cells.Cell.{Cell}
use Rattle.ref_cells.specs.declared.cells.Value.{Value}
use Rattle.ref_cells.specs.declared.instance.Instance.{Instance}
use Rattle.ref_lib.proofs.memory_laws.Steps.{after_any, either}
use Rattle.ref_state.specs.declared.items.Item.{Item}
use Rattle.ref_state.specs.Changes.{Blocks, ended_one, ended_all}
use Rattle.ref_state.specs.Values.{cell_of, value_in}
use Rattle.ref_values.specs.Values.{is_true, lacks}
use Rattle.ref_blocks.specs.declared.block.Block.{Block}
use Rattle.ref_blocks.specs.declared.block.Block.TheVariants.{Own, Part}
use Rattle.ref_blocks.specs.declared.ways.Sought.TheVariants.{LoopAlone, LoopOrSwitch}
use Rattle.ref_blocks.specs.Ways.{above}
use Rattle.ref_blocks.specs.Loops.{condition_of, after_of, body_of}
use Rattle.ref_blocks.specs.Blocks.{unset_object, entered, is_of, left, all_left, all_entered, objects_of, blocks_around, but_for}
use Rattle.ref_blocks.specs.Jumps.{nearest, is_sought, switch_target, label_target, jump, meeting, blocks_with}
use Rattle.ref_statements.specs.declared.forms.Form.{Form}
use Rattle.ref_statements.specs.Forms.{opens}
use Rattle.ref_statements.specs.Rows.{Move}
use Rattle.ref_statements.specs.Statements.{does_part, is_over, does_branch, branch, parts_left, if_row, turns, turns_by, asks, while_row, do_while_row, for_asked, for_part, for_row, number_in, switches_to, switch_row, breaks, break_row, continues, continue_row, goes_to, goto_found, goto_row, returns, return_row, lone_row, opened, waits_row, begun_row, finished_row}
use Rattle.changed_cells.proofs.Kept.{Same, same_memory, then_same, more_same, ended_same}

pub ended_all_same : (memory : List Instance) (list : List ℕ) → Same memory (ended_all memory list)
ended_all_same memory [] = same_memory memory
ended_all_same memory (i ∷ rest) = then_same memory (ended_one memory i) (ended_all (ended_one memory i) rest) (ended_same memory i) (ended_all_same (ended_one memory i) rest)

module _ (u : CoreTrees) (old : List Instance) where
  -- ---- blocks
  abbrev IsSame : Blocks → Type 0
  IsSame s = Same old s.memory

  entered_same : (b : Block) (s : Blocks) → IsSame s → IsSame (entered u b s)
  entered_same b s h = then_same old s.memory (entered u b s).memory h (more_same s.memory (map (unset_object u) (objects_of u b)))

  pub left_same : (b : Block) (s : Blocks) → Same old s.memory → Same old (left u b s).memory
  left_same b s h = then_same old s.memory (left u b s).memory h (ended_all_same s.memory (filter (λ i. is_of (objects_of u b) (slice_get s.memory i)) s.own))

  all_left_same : (list : List Block) (s : Blocks) → IsSame s → IsSame (all_left u list s)
  all_left_same [] s h = h
  all_left_same (b ∷ rest) s h = all_left_same rest (left u b s) (left_same b s h)

  all_entered_same : (list : List Block) (s : Blocks) → IsSame s → IsSame (all_entered u list s)
  all_entered_same [] s h = h
  all_entered_same (b ∷ rest) s h = all_entered_same rest (entered u b s) (entered_same b s h)

  -- ---- rows
  -- a move after which each instance stays
  abbrev pub Moved : Move → Type 0
  Moved move = IfOk move (λ c. Same old c.blocks.memory)

  part_moved : (s : Blocks) (n : ℕ) (operands : List ℕ) (part : ℕ) → IsSame s → Moved (does_part u s n operands part)
  part_moved s n operands part h = entered_same (Part part) s h

  over_moved : (s : Blocks) (n : ℕ) → IsSame s → Moved (is_over u s n)
  over_moved s n h = left_same (Own n) s h

  branch_moved : (s : Blocks) (n : ℕ) (children : List ℕ) → IsSame s → Moved (does_branch u s n children)
  branch_moved s n [] h = over_moved s n h
  branch_moved s n (part ∷ rest) h = part_moved s n [] part h

  parts_left_same : (children : List ℕ) (s : Blocks) → IsSame s → IsSame (parts_left u children s)
  parts_left_same [] s h = h
  parts_left_same (part ∷ rest) s h = parts_left_same rest (left u (Part part) s) (left_same (Part part) s h)

  if_moved : (s : Blocks) (n : ℕ) (children : List ℕ) (values : List (ℕ × Value)) → IsSame s → Moved (if_row u s n children values)
  if_moved s n (c ∷ branches) [] h = over_moved (parts_left u branches s) n (parts_left_same branches s h)
  if_moved s n (c ∷ branches) (v ∷ values) h = after_any (is_true (cell_of v.1)) _ _ (λ b. branch_moved s n (branch b branches) h)
  if_moved s n [] values h = tt

  turns_moved : (s : Blocks) (n : ℕ) (operands : List ℕ) (part : ℕ) (b : Bool) → IsSame s → Moved (turns u s n operands part b)
  turns_moved s n operands part true h = part_moved s n operands part h
  turns_moved s n operands part false h = over_moved s n h

  turned : (s : Blocks) (n : ℕ) (operands : List ℕ) (part : ℕ) (cell : Cell) → IsSame s → Moved (turns_by u s n operands part cell)
  turned s n operands part cell h = after_any (is_true cell) _ _ (λ b. turns_moved s n operands part b h)

  asks_moved : (s : Blocks) (n part c : ℕ) → IsSame s → Moved (asks u s n part c)
  asks_moved s n part c h = left_same (Part part) s h

  while_moved : (s : Blocks) (n : ℕ) (children : List ℕ) (values : List (ℕ × Value)) → IsSame s → Moved (while_row u s n children values)
  while_moved s n (c ∷ part ∷ []) [] h = asks_moved s n part c h
  while_moved s n (c ∷ part ∷ []) (v ∷ values) h = turned s n [] part (cell_of v.1) h
  while_moved s n [] values h = tt
  while_moved s n (c ∷ []) values h = tt
  while_moved s n (c ∷ part ∷ x ∷ rest) values h = tt

  do_while_moved : (s : Blocks) (n : ℕ) (children : List ℕ) (values : List (ℕ × Value)) → IsSame s → Moved (do_while_row u s n children values)
  do_while_moved s n (part ∷ c ∷ []) (v ∷ values) h = turned s n (c ∷ []) part (cell_of v.1) h
  do_while_moved s n (part ∷ c ∷ []) [] h = tt
  do_while_moved s n [] values h = tt
  do_while_moved s n (part ∷ []) values h = tt
  do_while_moved s n (part ∷ c ∷ x ∷ rest) values h = tt

  asked_moved : (s : Blocks) (n c : ℕ) (after : List ℕ) (part : ℕ) (o : Option (ℕ × Value)) → IsSame s → Moved (for_asked u s n c after part o)
  asked_moved s n c after part None h = asks_moved s n part c h
  asked_moved s n c after part (Some v) h = turned s n after part (cell_of v.1) h

  for_part_moved : (s : Blocks) (n : ℕ) (condition after : List ℕ) (part : ℕ) (values : List (ℕ × Value)) → IsSame s → Moved (for_part u s n condition after part values)
  for_part_moved s n [] after part values h = part_moved (left u (Part part) s) n after part (left_same (Part part) s h)
  for_part_moved s n (c ∷ rest) after part values h = asked_moved s n c after part (find (λ v. v.0 == c) values) h

  for_moved : (s : Blocks) (n : ℕ) (condition after body : List ℕ) (values : List (ℕ × Value)) → IsSame s → Moved (for_row u s n condition after body values)
  for_moved s n condition after (part ∷ []) values h = for_part_moved s n condition after part values h
  for_moved s n condition after [] values h = tt
  for_moved s n condition after (part ∷ x ∷ rest) values h = tt

  jump_same : (items : List Item) (s : Blocks) (inside : List Block) (a t : ℕ) → IsSame s → Same old (jump u items s inside a t).blocks.memory
  jump_same items s inside a t h =
      all_entered_same (reverse (but_for (blocks_around u t) inside)) (all_left u (but_for inside (blocks_around u t)) s) (all_left_same (but_for inside (blocks_around u t)) s h)

  switched : (items : List Item) (s : Blocks) (n : ℕ) (o : Option ℕ) → IsSame s → Moved (switches_to u items s n o)
  switched items s n None h = over_moved s n h
  switched items s n (Some t) h = jump_same items s (blocks_with u n) n t h

  switch_moved : (items : List Item) (s : Blocks) (n : ℕ) (children : List ℕ) (values : List (ℕ × Value)) → IsSame s → Moved (switch_row u items s n children values)
  switch_moved items s n (c ∷ part ∷ []) [] h = over_moved (left u (Part part) s) n (left_same (Part part) s h)
  switch_moved items s n (c ∷ part ∷ []) (v ∷ values) h = after_any (number_in (cell_of v.1)) _ _ (λ x. switched items s n (switch_target u.nodes n x) h)
  switch_moved items s n [] values h = tt
  switch_moved items s n (c ∷ []) values h = tt
  switch_moved items s n (c ∷ part ∷ x ∷ rest) values h = tt

  breaks_moved : (items : List Item) (s : Blocks) (n : ℕ) (o : Option ℕ) → IsSame s → Moved (breaks u items s n o)
  breaks_moved items s n None h = tt
  breaks_moved items s n (Some a) h = all_left_same (but_for (blocks_around u n) (blocks_around u a)) s h

  break_moved : (items : List Item) (s : Blocks) (n : ℕ) → IsSame s → Moved (break_row u items s n)
  unfolding break_row
  break_moved items s n h = breaks_moved items s n (nearest u.nodes (is_sought LoopOrSwitch) (above u.nodes n)) h

  continues_moved : (items : List Item) (s : Blocks) (n : ℕ) (o : Option ℕ) → IsSame s → Moved (continues u items s n o)
  continues_moved items s n None h = tt
  continues_moved items s n (Some a) h = all_left_same (but_for (blocks_around u n) (blocks_with u a)) s h

  continue_moved : (items : List Item) (s : Blocks) (n : ℕ) → IsSame s → Moved (continue_row u items s n)
  unfolding continue_row
  continue_moved items s n h = continues_moved items s n (nearest u.nodes (is_sought LoopAlone) (above u.nodes n)) h

  goes_moved : (items : List Item) (s : Blocks) (n t : ℕ) (o : Option ℕ) → IsSame s → Moved (goes_to u items s n t o)
  goes_moved items s n t None h = tt
  goes_moved items s n t (Some a) h = jump_same items s (blocks_around u n) a t h

  found_moved : (items : List Item) (s : Blocks) (n : ℕ) (o : Option ℕ) → IsSame s → Moved (goto_found u items s n o)
  found_moved items s n None h = tt
  found_moved items s n (Some t) h = goes_moved items s n t (meeting u.nodes (above u.nodes n) (above u.nodes t)) h

  goto_moved : (items : List Item) (s : Blocks) (n : ℕ) (name : List ℕ) → IsSame s → Moved (goto_row u items s n name)
  unfolding goto_row
  goto_moved items s n name h = found_moved items s n (label_target u.nodes n name) h

  return_moved : (items : List Item) (s : Blocks) (children : List ℕ) (values : List (ℕ × Value)) → IsSame s → Moved (return_row u items s children values)
  return_moved items s (v ∷ []) values h = either (lacks u values (v ∷ [])) (Err UnsetUse) (returns items s (value_in values v)) _ tt h
  return_moved items s [] values h = tt
  return_moved items s (v ∷ x ∷ rest) values h = tt

  lone_moved : (items : List Item) (s : Blocks) (n : ℕ) (form : Form) (name : List ℕ) → IsSame s → Moved (lone_row u items s n form name)
  lone_moved items s n Form.Break name h = break_moved items s n h
  lone_moved items s n Form.Continue name h = continue_moved items s n h
  lone_moved items s n Form.Goto name h = goto_moved items s n name h
  lone_moved items s n Form.Return name h = h
  lone_moved items s n Form.Compound name h = over_moved (entered u (Own n) s) n (entered_same (Own n) s h)
  lone_moved items s n form name h = h

  opened_same : (n : ℕ) (b : Bool) (s : Blocks) → IsSame s → IsSame (opened u n b s)
  opened_same n true s h = entered_same (Own n) s h
  opened_same n false s h = h

  waits_moved : (s : Blocks) (n : ℕ) (form : Form) (children : List ℕ) → IsSame s → Moved (waits_row u s n form children)
  waits_moved s n form children h = opened_same n (opens form) s h

  -- a statement is begun
  pub begun_moved : (items : List Item) (s : Blocks) (n : ℕ) (form : Form) (name children : List ℕ) → Same old s.memory → Moved (begun_row u items s n form name children)
  begun_moved items s n form name [] h = lone_moved items s n form name h
  begun_moved items s n Form.Label name (part ∷ rest) h = h
  begun_moved items s n Form.DoWhile name (part ∷ rest) h = part_moved (entered u (Own n) s) n rest part (entered_same (Own n) s h)
  begun_moved items s n form name (c ∷ rest) h = waits_moved s n form (c ∷ rest) h

  -- all its operands are there
  pub finished_moved : (items : List Item) (s : Blocks) (n : ℕ) (form : Form) (children : List ℕ) (values : List (ℕ × Value)) → Same old s.memory → Moved (finished_row u items s n form children values)
  finished_moved items s n Form.Compound children values h = over_moved s n h
  finished_moved items s n Form.If children values h = if_moved s n children values h
  finished_moved items s n Form.While children values h = while_moved s n children values h
  finished_moved items s n Form.DoWhile children values h = do_while_moved s n children values h
  finished_moved items s n (Form.For condition after) children values h = for_moved s n (condition_of condition after children) (after_of after children) (body_of children) values h
  finished_moved items s n Form.Switch children values h = switch_moved items s n children values h
  finished_moved items s n Form.Return children values h = return_moved items s children values h
  finished_moved items s n form children values h = h
