use Rattle.std.proofs.Common.{ℕ, List, subst}
use Rattle.c_consts.specs.Core.{Core}
use Rattle.c_senses.specs.Given.{Fits}
use Rattle.c_senses.specs.Sense.{sense_in}
use Rattle.c_senses.specs.Statements as spec
use Rattle.c_results.specs.Standing.{senses_made, Rowed}
use Rattle.tree_reads.specs.Sources.{source_in}
use Rattle.core_tree.specs.declared.node.NodeKind.TheVariants.{Block}
use Rattle.c_senses.specs.Tree.{place_at}
use Rattle.c_senses.specs.Sense.{fits}
use Rattle.statement_rows.proofs.rows.block_row.Goals as goal

pub returns-clause-row : goal.returns-clause-row
returns-clause-row c = λ w uses.
    let s = source_in c.args.syntax.now uses in
    let u0 = c.args.unit.now in
    let u = c.block_row.new.unit in
    let sense = sense_in (senses_made u0 c.args.results.now) in
    let under = spec.cores_in w s sense c.args.children.now in
    let tree : List ℕ → Core = λ l. spec.statement (Block l) (place_at s c.args.at) under in
    subst (λ (l : List ℕ). Rowed u c.made_of.result (fits (tree l))) (c.in_ok-objects.ensures.objects u0 w uses) (c.made_of.ensures.row u (Fits (tree c.in_ok-objects.objects.items)) (c.block_row.ensures.made w uses))
