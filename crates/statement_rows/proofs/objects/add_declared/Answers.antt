use Rattle.std.proofs.Common.{◌≡◌, ℕ, List, ◌++◌, append-nil, sym, ap, ◌∙◌}
use Rattle.c_senses.specs.Sense.{sense_in}
use Rattle.c_senses.specs.Statements as spec
use Rattle.c_results.specs.Standing.{senses_made}
use Rattle.tree_reads.specs.Sources.{source_in}
use Rattle.std.proofs.Common.{append_assoc}
use Rattle.c_statements.proofs.Choosing.{ok_more}
use Rattle.statement_rows.proofs.Placing.{by_rest, rest_found}
use Rattle.statement_rows.proofs.objects.add_declared.Goals as goal

pub returns-in-Some-clause-added : goal.returns-in-Some-clause-added
returns-in-Some-clause-added c = λ u w uses.
    let s = source_in c.args.syntax.now uses in
    let sense = sense_in (senses_made u c.args.results.now) in
    let old = c.args.list.now.items in
    let mid = c.add_among.new.list.items in
    let new = c.add_among-in-Some.new.list.items in
    let children = c.children_of-children.result.now in
    let same = c.children_of-children.ensures in
    let first = spec.objects_among w s sense children in
    let rest = spec.objects_among w s sense c.children_of.result.now in
    let rest_is = ap (spec.objects_among w s sense) c.children_of.ensures ∙ (ap (by_rest w s sense) c.in-Some.ensures ∙ rest_found w s sense children) in
    ok_more c.add_among-in-Some.result (new ≡ mid ++ rest) (new ≡ old ++ spec.objects_declared w s sense c.args.declaration) (c.add_among-in-Some.ensures.added u w uses)
    (λ e.
    e
    ∙ (ap (λ (l : List ℕ). l ++ rest) (c.in_ok-add_among.ensures.added u w uses)
    ∙ (append_assoc old first rest
    ∙ (ap (λ (l : List ℕ). old ++ (first ++ l)) rest_is ∙ ap (λ (l : List ℕ). old ++ (spec.objects_among w s sense l ++ spec.objects_in_rest w s sense l)) same))))

pub returns-in-None-clause-added : goal.returns-in-None-clause-added
returns-in-None-clause-added c = λ u w uses.
    let s = source_in c.args.syntax.now uses in
    let sense = sense_in (senses_made u c.args.results.now) in
    let old = c.args.list.now.items in
    let children = c.children_of-children.result.now in
    let same = c.children_of-children.ensures in
    let first = spec.objects_among w s sense children in
    let rest_is = ap (by_rest w s sense) c.in-None.ensures ∙ rest_found w s sense children in
    c.in_ok-add_among.ensures.added u w uses
    ∙ (ap (λ (l : List ℕ). old ++ l) (sym (append-nil first))
    ∙ (ap (λ (l : List ℕ). old ++ (first ++ l)) rest_is ∙ ap (λ (l : List ℕ). old ++ (spec.objects_among w s sense l ++ spec.objects_in_rest w s sense l)) same))
