use Rattle.std.proofs.Common.{◌≡◌, Bool, cond, [], ◌++◌, ap, ◌∙◌}
use Rattle.c_senses.specs.Sense.{sense_in}
use Rattle.c_senses.specs.Statements as spec
use Rattle.c_results.specs.Standing.{senses_made}
use Rattle.tree_reads.specs.Sources.{source_in}
use Rattle.c_statements.proofs.Choosing.{ok_more}
use Rattle.statement_rows.specs.Parts.{object_at}
use Rattle.statement_rows.proofs.objects.add_object.Goals as goal

pub returns-then-is_a-clause-added : goal.returns-then-is_a-clause-added
returns-then-is_a-clause-added c = λ u w uses.
    let s = source_in c.args.syntax.now uses in
    let sense = sense_in (senses_made u c.args.results.now) in
    let old = c.args.list.now.items in
    let new = c.add_name.new.list.items in
    let name = spec.automatic_name w s sense (sense c.args.node) in
    ok_more c.add_name.result (new ≡ old ++ name) (new ≡ old ++ object_at w s sense c.args.node) (c.add_name.ensures.added u w uses) (λ e. e ∙ ap (λ (b : Bool). old ++ cond b name []) c.if-is_a.ensures)
