use Rattle.std.proofs.Common.{arith, ◌≡◌, ◌<◌, ◌≤◌, ℕ, List, ◌++◌, length, map, get_or, ap, ◌∙◌}
use Rattle.c_consts.specs.Core.{Core}
use Rattle.c_senses.specs.Given.{Fits}
use Rattle.c_senses.specs.Sense.{IsRun, sense_in}
use Rattle.core_nodes.specs.Standing.{core_at}
use Rattle.c_results.specs.Standing.{senses_made}
use Rattle.tree_reads.specs.Sources.{source_in}
use Rattle.c_senses.specs.Tree.{children_at}
use Rattle.statement_rows.specs.Parts.{initial_at}
use Rattle.statement_rows.proofs.Running.{initials_more, initials_all}
use Rattle.statement_rows.proofs.declarations.rest_row.Goals as goal

pub loop-node-preserved : goal.loop-node-preserved
loop-node-preserved c =
    let i = c.loop-node.node-index in
    let here = c.children_of-node-items.result.now in
    record {
      rest = λ u w uses.
          let s = source_in c.args.syntax.now uses in
          let sense = sense_in (senses_made u c.args.results.now) in
          let list = children_at s c.args.at in
          let same : here ≡ list = c.children_of-node-items.ensures in
          let long : length here ≡ length list = ap length same in
          let more : i < length list = omega (arith, long) in
          initials_more w s sense list i (map (core_at u) c.loop-node.list.items) (map (core_at u) c.add_initial.new.list.items) more
          (c.in_ok-add_initial.ensures.added u w uses ∙ ap (λ (l : List ℕ). map (core_at u) c.loop-node.list.items ++ initial_at w s sense (get_or l i 0)) same) (c.loop-node.invariant.rest u w uses);
      within = λ u all. c.in_ok-add_initial.ensures.within u all (c.loop-node.invariant.within u all);
    }

pub returns-clause-row : goal.returns-clause-row
returns-clause-row c = λ u w uses.
    let s = source_in c.args.syntax.now uses in
    let sense = sense_in (senses_made u c.args.results.now) in
    let here = c.children_of-node-items.result.now in
    let list = children_at s c.args.at in
    let same : here ≡ list = c.children_of-node-items.ensures in
    let long : length here ≡ length list = ap length same in
    let all : length list ≤ c.loop-node.node-index = omega (arith, long) in
    ap (λ (l : List Core). Fits (IsRun l)) (initials_all w s sense list c.loop-node.node-index (map (core_at u) c.loop-node.list.items) all (c.loop-node.invariant.rest u w uses))
