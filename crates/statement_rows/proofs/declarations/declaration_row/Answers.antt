use Rattle.std.proofs.Common.{arith, ◌<◌, ◌≤◌, List, length, map, sym, ap, ◌∙◌}
use Rattle.c_consts.specs.Core.{Core}
use Rattle.c_senses.specs.Given.{Fits}
use Rattle.c_senses.specs.Sense.{IsRun, sense_in}
use Rattle.core_nodes.specs.Standing.{core_at}
use Rattle.c_results.specs.Standing.{senses_made}
use Rattle.statement_rows.proofs.Running.{run_here, run_on, run_end}
use Rattle.statement_rows.proofs.declarations.declaration_row.Goals as goal

pub returns-in-Some-clause-row : goal.returns-in-Some-clause-row
returns-in-Some-clause-row c = λ u w s.
    let sense = sense_in (senses_made u c.args.results.now) in
    let more : c.loop-node.node-index < length c.args.children.now = omega arith in
    ap (λ (l : List Core). Fits (IsRun l)) (run_here w s sense c.args.children.now c.loop-node.node-index (map (core_at u) c.in-Some.run'.now) more (c.loop-node.invariant u w s) (c.in-Some.ensures.seen u) ∙ sym (ap (map (core_at u)) c.in_ok-list.ensures.items))

pub loop-node-preserved : goal.loop-node-preserved
loop-node-preserved c = λ u w s.
    let sense = sense_in (senses_made u c.args.results.now) in
    let more : c.loop-node.node-index < length c.args.children.now = omega arith in
    run_on w s sense c.args.children.now c.loop-node.node-index more (c.loop-node.invariant u w s) (c.in_default.ensures.seen u)

pub returns-clause-row : goal.returns-clause-row
returns-clause-row c = λ u w s.
    let sense = sense_in (senses_made u c.args.results.now) in
    let all : length c.args.children.now ≤ c.loop-node.node-index = omega arith in
    ap (λ (l : List Core). Fits (IsRun l)) (run_end w s sense c.args.children.now c.loop-node.node-index all (c.loop-node.invariant u w s) ∙ sym (ap (map (core_at u)) c.new.ensures.items))
