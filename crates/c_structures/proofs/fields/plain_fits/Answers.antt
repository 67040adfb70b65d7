use Rattle.std.proofs.Common.{ap, ◌∙◌, ◌&&◌, Bool}
use Rattle.c_senses.specs.Tags.{field_name, is_new_name}
use Rattle.tree_reads.specs.Sources.{source_read}
use Rattle.c_structures.proofs.fields.plain_fits.Goals as goal

pub returns-then-may_be_member : goal.returns-then-may_be_member
returns-then-may_be_member c = λ w sense k f says.
    let s = source_read c.args.syntax.now in
    let name = field_name w s sense c.args.leaf in
    let has = c.has_members-has_earlier.ensures ∙ says.any_are in
    c.is_new_name.ensures w sense c.args.at says
    ∙ ap (λ (b : Bool). b && is_new_name w s sense c.args.at name) (c.if-may_be_member.ensures w sense k f has)

pub returns-else-may_be_member : goal.returns-else-may_be_member
returns-else-may_be_member c = λ w sense k f says.
    let s = source_read c.args.syntax.now in
    let name = field_name w s sense c.args.leaf in
    let has = c.has_members-has_earlier.ensures ∙ says.any_are in
    c.if-may_be_member.false ∙ ap (λ (b : Bool). b && is_new_name w s sense c.args.at name) (c.if-may_be_member.ensures w sense k f has)
