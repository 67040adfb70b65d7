use Rattle.c_senses.specs.Tags.{tag_of}
use Rattle.tree_reads.specs.Sources.{source_in}
use Rattle.unit_worlds.specs.Growing.{completed_at}
use Rattle.unit_worlds.proofs.unit_limits.Flags.{unions_grown, unions_untyped, tag_same}
use Rattle.unit_worlds.proofs.unit_limits.steps.note_behind.Goals as goal

pub returns-in-Some : goal.returns-in-Some
returns-in-Some c = λ old w uses sense row grows made flags.
    let s = source_in c.args.syntax.now uses in
    let u = c.args.unit.now in
    let at = c.args.at in
    let es = completed_at s sense at in
    unions_grown old u es c.args.unions.now.items c.note_type.new.unions.items (tag_of s at) made c.type_count-count.ensures.made c.type_count-count.ensures.named grows flags
    (c.note_type.ensures (tag_of s at) (c.in-Some.ensures.tagged u w uses sense row))
    (tag_same u.types c.in-Some.ty es (tag_of s at) (c.in-Some.ensures.tag u w uses sense row) (c.in-Some.ensures.tagged u w uses sense row))

pub returns-in-None : goal.returns-in-None
returns-in-None c = λ old w uses sense row grows made flags.
    let s = source_in c.args.syntax.now uses in
    unions_untyped old c.args.unit.now (completed_at s sense c.args.at) c.args.unions.now.items (c.in-None.ensures.tag c.args.unit.now w uses sense row) grows flags
