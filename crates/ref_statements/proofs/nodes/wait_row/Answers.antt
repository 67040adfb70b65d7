-- The node is done, or takes an operand.
use Rattle.std.proofs.lemmas.Option.{slice_get-get_or}
use Rattle.core_tree.specs.declared.node.Node.{Node}
use Rattle.std.proofs.Common.{Some, ◌<◌, ◌≤◌, List, ℕ, length, ap, sym, subst, ◌∙◌}
use Rattle.core_tree.specs.Seen.{core_of}
use Rattle.ref_state.specs.Items.{top_left, top_values}
use Rattle.ref_statements.proofs.Computed.{waits_finished, waits_taken}
use Rattle.ref_statements.proofs.nodes.wait_row.Goals as goal

pub returns-in-empty-clause-row : goal.returns-in-empty-clause-row
returns-in-empty-clause-row c =
    waits_finished _ _ (core_of c.args.world.now.trees) c.args.memory.now c.args.frame.now c.args.n c.in-Some.node.now c.form_of-form.result
    (top_left c.args.frame.now.items) (top_values c.args.frame.now.items) c.args.word
    (slice_get-get_or c.args.world.now.trees.nodes.now c.args.n c.in-Some.node.now c.in-Some.ensures.lookup.3.0 ∙ ap (λ (x : Node). Some x) (sym c.in-Some.ensures.lookup.1)) (subst (λ (xs : List ℕ). length xs < 1) c.left.ensures c.in-empty.len_below) c.form_of-form.ensures c.finish_row.ensures.row

pub returns-in-len1-up-clause-row : goal.returns-in-len1-up-clause-row
returns-in-len1-up-clause-row c =
    waits_taken _ _ (core_of c.args.world.now.trees) c.args.memory.now c.args.frame.now c.args.n c.in-Some.node.now c.form_of-form.result
    (top_left c.args.frame.now.items) c.as_slice.result.now (top_values c.args.frame.now.items) c.args.word
    (slice_get-get_or c.args.world.now.trees.nodes.now c.args.n c.in-Some.node.now c.in-Some.ensures.lookup.3.0 ∙ ap (λ (x : Node). Some x) (sym c.in-Some.ensures.lookup.1)) (subst (λ (xs : List ℕ). 1 ≤ length xs) c.left.ensures c.in-len1-up.len_at_least) c.form_of-form.ensures c.as_slice.ensures c.take_row.ensures.row
