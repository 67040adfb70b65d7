use Rattle.std.proofs.Common.{◌≡◌, Bool, cond, [], ◌++◌, ap, ◌∙◌}
use Rattle.c_senses.specs.Sense.{sense_in}
use Rattle.c_senses.specs.Statements as spec
use Rattle.c_results.specs.Standing.{senses_made}
use Rattle.tree_reads.specs.Sources.{source_in}
use Rattle.c_statements.proofs.Choosing.{ok_more}
use Rattle.statement_rows.specs.Parts.{objects_at}
use Rattle.statement_rows.proofs.objects.add_part.Goals as goal

pub returns-then-is_a-clause-added : goal.returns-then-is_a-clause-added
returns-then-is_a-clause-added c = λ u w uses.
    let s = source_in c.args.syntax.now uses in
    let sense = sense_in (senses_made u c.args.results.now) in
    let old = c.args.list.now.items in
    let new = c.add_declared.new.list.items in
    let objects = spec.objects_declared w s sense c.args.part in
    ok_more c.add_declared.result (new ≡ old ++ objects) (new ≡ old ++ objects_at w s sense c.args.part) (c.add_declared.ensures.added u w uses) (λ e. e ∙ ap (λ (b : Bool). old ++ cond b objects []) c.if-is_a.ensures)
