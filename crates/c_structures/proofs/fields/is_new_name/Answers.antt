use Rattle.std.proofs.Common.{ap, sym, ◌∙◌, not, Option, ℕ}
use Rattle.c_senses.specs.Tags.{field_name, has_part_named, earlier_parts, is_new_name}
use Rattle.tree_reads.specs.Sources.{source_read}
use Rattle.c_structures.proofs.fields.is_new_name.Goals as goal

pub returns-in-Some : goal.returns-in-Some
returns-in-Some c = λ w sense at says.
    let s = source_read c.args.syntax.now in
    let parts = earlier_parts w s sense at in
    ap not (c.contains.ensures ∙ (says.named w s sense c.spelling_of.result.now ∙ ap (λ name. has_part_named w s sense name parts) c.spelling_of.ensures))
    ∙ ap (λ (o : Option ℕ). is_new_name w s sense at (field_name w s sense o)) (sym c.in-Some.is)

pub returns-in-None : goal.returns-in-None
returns-in-None c = λ w sense at says.
    let s = source_read c.args.syntax.now in
    ap (λ (o : Option ℕ). is_new_name w s sense at (field_name w s sense o)) (sym c.in-None.is)
