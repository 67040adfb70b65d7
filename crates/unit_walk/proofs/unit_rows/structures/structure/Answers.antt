use Rattle.std.proofs.Common.{Err, sym, ◌∙◌, subst}
use Rattle.c_senses.specs.Sense.{sense_in}
use Rattle.c_results.specs.Standing.{senses_made, Rowed}
use Rattle.unit_worlds.specs.Growing.{completed_at}
use Rattle.unit_walk.specs.unit_rows.Standing.{source_known, world_there}
use Rattle.unit_walk.proofs.unit_rows.Answers.{built_there, length_made, specified_struct, tags_grown}
use Rattle.unit_walk.proofs.unit_rows.structures.structure.Goals as goal

pub returns-in-Err-clause-row : goal.returns-in-Err-clause-row
returns-in-Err-clause-row c =
    let k = c.args.known.now in
    let s = source_known k in
    let at = c.args.at in
    let senses = senses_made c.args.unit.now c.args.results.now in
    let w = world_there k c.args.unit.now c.args.results.now at in
    let seen = c.seen_at-tag.ensures s c.requires.known.tags (specified_struct s at c.requires.at) in
    let built = built_there s senses at c.requires.senses c.requires.known.ordered c.requires.known.tags.differ c.requires.families (length_made c.args.unit.now c.args.results.now ∙ c.requires.long) c.requires.inside c.requires.at in
    subst (Rowed c.struct_row.new.unit (Err c.in-Err.fault)) built (c.in-Err.ensures.row w k.bound.now.uses.items c.requires.knows seen c.requires.types)

pub returns-clause-row : goal.returns-clause-row
returns-clause-row c =
    let k = c.args.known.now in
    let s = source_known k in
    let at = c.args.at in
    let senses = senses_made c.args.unit.now c.args.results.now in
    let w = world_there k c.args.unit.now c.args.results.now at in
    let seen = c.seen_at-tag.ensures s c.requires.known.tags (specified_struct s at c.requires.at) in
    let built = built_there s senses at c.requires.senses c.requires.known.ordered c.requires.known.tags.differ c.requires.families (length_made c.args.unit.now c.args.results.now ∙ c.requires.long) c.requires.inside c.requires.at in
    sym built ∙ c.in-Ok.ensures.row w k.bound.now.uses.items c.requires.knows seen c.requires.types

pub note_behind-requires-clause-long : goal.note_behind-requires-clause-long
note_behind-requires-clause-long c =
    let k = c.args.known.now in
    let s = source_known k in
    let S = sense_in (senses_made c.args.unit.now c.args.results.now) in
    let seen = c.seen_at-tag.ensures s c.requires.known.tags (specified_struct s c.args.at c.requires.at) in
    c.requires.unions.long ∙ sym (tags_grown c.args.unit.now c.struct_row.new.unit (completed_at s S c.args.at) (c.in-Ok.ensures.grows k.bound.now.uses.items seen))

pub returns-clause-unions : goal.returns-clause-unions
returns-clause-unions c =
    let k = c.args.known.now in
    let uses = k.bound.now.uses.items in
    let s = source_known k in
    let at = c.args.at in
    let senses = senses_made c.args.unit.now c.args.results.now in
    let S = sense_in senses in
    let w = world_there k c.args.unit.now c.args.results.now at in
    let seen = c.seen_at-tag.ensures s c.requires.known.tags (specified_struct s at c.requires.at) in
    let built = built_there s senses at c.requires.senses c.requires.known.ordered c.requires.known.tags.differ c.requires.families (length_made c.args.unit.now c.args.results.now ∙ c.requires.long) c.requires.inside c.requires.at in
    c.note_behind.ensures c.args.unit.now w uses S (λ e. sym built ∙ c.in-Ok.ensures.row w uses c.requires.knows seen c.requires.types) (c.in-Ok.ensures.grows uses seen) c.type_count-types.ensures.made c.requires.unions
