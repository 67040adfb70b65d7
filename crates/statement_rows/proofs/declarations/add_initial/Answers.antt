use Rattle.std.proofs.Common.{Bool, List, ◌++◌, Option, Some, map, append-nil, sym, ap, ◌∙◌}
use Rattle.c_consts.specs.Core.{Core}
use Rattle.c_senses.specs.Sense.{sense_in}
use Rattle.c_senses.specs.Statements as spec
use Rattle.core_nodes.specs.Standing.{core_at}
use Rattle.c_results.specs.Standing.{senses_made}
use Rattle.tree_reads.specs.Sources.{source_in}
use Rattle.statement_rows.proofs.Running.{initial_by, initial_is, map_last}
use Rattle.statement_rows.proofs.declarations.add_initial.Goals as goal

pub returns-in_ok-push-clause-added : goal.returns-in_ok-push-clause-added
returns-in_ok-push-clause-added c = λ u w uses.
    let s = source_in c.args.syntax.now uses in
    let sense = sense_in (senses_made u c.args.results.now) in
    let old = c.args.list.now.items in
    let node = c.args.node in
    let runs = spec.runs_initialiser w s sense node in
    ap (map (core_at u)) c.in_ok-push.ensures.items
    ∙ (map_last (core_at u) old c.in-Some.initial
    ∙ (ap (λ (b : Bool). map (core_at u) old ++ initial_by (Some (core_at u c.in-Some.initial)) b) (c.if-runs_initialiser.ensures u w uses)
    ∙ (ap (λ (o : Option Core). map (core_at u) old ++ initial_by o runs) (sym (c.in-Some.ensures.seen u)) ∙ ap (λ (l : List Core). map (core_at u) old ++ l) (initial_is (sense node) runs))))

pub returns-else-runs_initialiser-clause-added : goal.returns-else-runs_initialiser-clause-added
returns-else-runs_initialiser-clause-added c = λ u w uses.
    let s = source_in c.args.syntax.now uses in
    let sense = sense_in (senses_made u c.args.results.now) in
    let old = c.args.list.now.items in
    let node = c.args.node in
    let runs = spec.runs_initialiser w s sense node in
    sym (append-nil (map (core_at u) old))
    ∙ (ap (λ (b : Bool). map (core_at u) old ++ initial_by (Some (core_at u c.in-Some.initial)) b) (c.if-runs_initialiser.ensures u w uses)
    ∙ (ap (λ (o : Option Core). map (core_at u) old ++ initial_by o runs) (sym (c.in-Some.ensures.seen u)) ∙ ap (λ (l : List Core). map (core_at u) old ++ l) (initial_is (sense node) runs)))

pub returns-in_default-clause-added : goal.returns-in_default-clause-added
returns-in_default-clause-added c = λ u w uses.
    let s = source_in c.args.syntax.now uses in
    let sense = sense_in (senses_made u c.args.results.now) in
    let old = c.args.list.now.items in
    let node = c.args.node in
    let runs = spec.runs_initialiser w s sense node in
    sym (append-nil (map (core_at u) old))
    ∙ (ap (λ (o : Option Core). map (core_at u) old ++ initial_by o runs) (sym (c.in_default.ensures.seen u)) ∙ ap (λ (l : List Core). map (core_at u) old ++ l) (initial_is (sense node) runs))
