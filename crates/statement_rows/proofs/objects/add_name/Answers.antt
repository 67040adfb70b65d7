use Rattle.std.proofs.Common.{ℕ, Bool, cond, List, [], ◌∷◌, ◌++◌, Option, append-nil, sym, ap, ◌∙◌}
use Rattle.c_senses.specs.Sense.{sense_in}
use Rattle.c_results.specs.Standing.{senses_made}
use Rattle.tree_reads.specs.Sources.{source_in}
use Rattle.statement_rows.proofs.Placing.{by_name, automatic_by}
use Rattle.statement_rows.proofs.objects.add_name.Goals as goal

pub returns-in_ok-push-clause-added : goal.returns-in_ok-push-clause-added
returns-in_ok-push-clause-added c = λ u w uses.
    let s = source_in c.args.syntax.now uses in
    let sense = sense_in (senses_made u c.args.results.now) in
    let old = c.args.list.now.items in
    c.in_ok-push.ensures.items
    ∙ (ap (λ (b : Bool). old ++ cond b (c.in-Some.leaf ∷ []) []) (c.if-is_automatic_object.ensures u w uses)
    ∙ (ap (λ (o : Option ℕ). old ++ by_name w s sense o) (c.in-Some.ensures u) ∙ ap (λ (l : List ℕ). old ++ l) (automatic_by w s sense (sense c.args.node))))

pub returns-else-is_automatic_object-clause-added : goal.returns-else-is_automatic_object-clause-added
returns-else-is_automatic_object-clause-added c = λ u w uses.
    let s = source_in c.args.syntax.now uses in
    let sense = sense_in (senses_made u c.args.results.now) in
    let old = c.args.list.now.items in
    sym (append-nil old)
    ∙ (ap (λ (b : Bool). old ++ cond b (c.in-Some.leaf ∷ []) []) (c.if-is_automatic_object.ensures u w uses)
    ∙ (ap (λ (o : Option ℕ). old ++ by_name w s sense o) (c.in-Some.ensures u) ∙ ap (λ (l : List ℕ). old ++ l) (automatic_by w s sense (sense c.args.node))))

pub returns-in_default-clause-added : goal.returns-in_default-clause-added
returns-in_default-clause-added c = λ u w uses.
    let s = source_in c.args.syntax.now uses in
    let sense = sense_in (senses_made u c.args.results.now) in
    let old = c.args.list.now.items in
    sym (append-nil old) ∙ (ap (λ (o : Option ℕ). old ++ by_name w s sense o) (c.in_default.ensures u) ∙ ap (λ (l : List ℕ). old ++ l) (automatic_by w s sense (sense c.args.node)))
