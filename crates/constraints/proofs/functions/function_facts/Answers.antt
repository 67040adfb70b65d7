use Rattle.std.proofs.Common.{arith, ap, length}
use Rattle.core_tree.specs.Typed.{trees_in}
use Rattle.obj_space.specs.View.{view_of}
use Rattle.constraints.proofs.ListLemmas.{fact_more, facts_end}
use Rattle.constraints.proofs.functions.function_facts.Goals as goal

pub loop-number-preserved : goal.loop-number-preserved
loop-number-preserved c =
    let (key, at, is) = c.in_ok-function_fact.ensures in
    fact_more (trees_in c.args.program.now) (view_of c.args.space.now) c.args.results.now.functions.items c.loop-number.number c.loop-number.functions c.push.new.self c.in_ok-function_fact.field-0 key (omega (arith, ap length c.as_slice-number-end.ensures.value)) at is c.in_ok-push.ensures.ok c.loop-number.invariant

pub returns : goal.returns
returns c =
    let end = facts_end (trees_in c.args.program.now) (view_of c.args.space.now) c.args.results.now.functions.items c.loop-number.number c.loop-number.functions (omega (arith, ap length c.as_slice-number-end.ensures.value)) c.loop-number.invariant in
    rw c.requires.results.functions at end

pub function_fact-requires-clause-owned : goal.function_fact-requires-clause-owned
function_fact-requires-clause-owned c = c.requires.owned
