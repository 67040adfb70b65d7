use Rattle.std.proofs.Common.{◌≡◌, sym, ap, ◌∙◌, length}
use Rattle.core_tree.specs.Typed.{trees_in}
use Rattle.row_numbers.specs.Around.{nobody}
use Rattle.row_numbers.proofs.AroundLemmas.{bodies_all, length_nobody, owners_right}
use Rattle.row_numbers.proofs.around.owners_of.Goals as goal

pub begin-requires-clause-bodies : goal.begin-requires-clause-bodies
begin-requires-clause-bodies c k d lt =
    let many : length c.in_ok-owners.owners.items ≡ length c.args.program.now.nodes.items = ap length c.in_ok-owners.ensures ∙ (length_nobody _ ∙ ap length c.as_slice-nodes.ensures.value) in
    rw (c.as_slice.ensures.value, many) (bodies_all (trees_in c.args.program.now) c.requires.range k d (rw c.as_slice.ensures.value at lt))

pub begin-requires-clause-none : goal.begin-requires-clause-none
begin-requires-clause-none c = c.in_ok-owners.ensures ∙ ap nobody (sym (ap length c.in_ok-owners.ensures ∙ length_nobody _))

pub fill-requires-clause-each : goal.fill-requires-clause-each
fill-requires-clause-each c = c.begin.ensures.each ∙ (ap length c.in_ok-owners.ensures ∙ length_nobody _)

pub returns : goal.returns
returns c =
    let many : length c.in_ok-owners.owners.items ≡ length c.args.program.now.nodes.items = ap length c.in_ok-owners.ensures ∙ (length_nobody _ ∙ ap length c.as_slice-nodes.ensures.value) in
    owners_right (trees_in c.args.program.now) _ _ (rw (many, c.as_slice.ensures.value) at c.begin.ensures) (rw c.as_slice-nodes.ensures.value at c.fill.ensures)
