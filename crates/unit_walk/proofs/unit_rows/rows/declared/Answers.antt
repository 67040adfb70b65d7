use Rattle.std.proofs.Common.{refl, sym, subst}
use Rattle.c_senses.specs.Given.{Given}
use Rattle.c_senses.specs.Sense.{Sense, sense_in}
use Rattle.c_senses.specs.Tree.{production_at, children_at}
use Rattle.c_results.specs.Standing.{senses_made, Rowed}
use Rattle.unit_walk.specs.unit_rows.Standing.{source_known, world_there}
use Rattle.unit_walk.proofs.unit_rows.Answers.{row_at, row_declaring, plain_other}
use Rattle.unit_walk.proofs.unit_rows.rows.declared.Goals as goal

pub returns-then-is_part-clause-row : goal.returns-then-is_part-clause-row
returns-then-is_part-clause-row c =
    let k = c.args.known.now in
    let s = source_known k in
    let at = c.args.at in
    let S = sense_in (senses_made c.args.unit.now c.args.results.now) in
    let w = world_there k c.args.unit.now c.args.results.now at in
    subst (λ (g : Given Sense). Rowed c.specifier.new.unit c.specifier.result g)
    (row_at w s S c.production_of-production.result (production_at s at) at c.children_of-children.result.now (children_at s at) c.production_of-production.ensures c.children_of-children.ensures (plain_other (production_at s at) c.requires.plain))
    (c.specifier.ensures.row w c.requires.knows (λ leaf. refl))

pub returns-then-is_derivation-clause-row : goal.returns-then-is_derivation-clause-row
returns-then-is_derivation-clause-row c =
    let k = c.args.known.now in
    let s = source_known k in
    let at = c.args.at in
    let S = sense_in (senses_made c.args.unit.now c.args.results.now) in
    let w = world_there k c.args.unit.now c.args.results.now at in
    subst (λ (g : Given Sense). Rowed c.derivation.new.unit c.derivation.result g)
    (row_at w s S c.production_of-production.result (production_at s at) at c.children_of-children.result.now (children_at s at) c.production_of-production.ensures c.children_of-children.ensures (plain_other (production_at s at) c.requires.plain))
    (c.derivation.ensures.row w k.bound.now.uses.items)

pub returns-clause-row : goal.returns-clause-row
returns-clause-row c =
    let k = c.args.known.now in
    let s = source_known k in
    let at = c.args.at in
    let S = sense_in (senses_made c.args.unit.now c.args.results.now) in
    let w = world_there k c.args.unit.now c.args.results.now at in
    subst (λ (g : Given Sense). Rowed c.row.new.unit c.row.result g) (sym (row_declaring w s S (production_at s at) at (children_at s at) (plain_other (production_at s at) c.requires.plain)))
    (c.row.ensures.row w k.bound.now.uses.items c.requires.knows c.requires.choices)
