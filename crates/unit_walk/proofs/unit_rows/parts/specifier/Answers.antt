use Rattle.std.proofs.Common.{ℕ, ◌∙◌, sym, subst}
use Rattle.c_senses.specs.Sense.{sense_in}
use Rattle.c_senses.specs.Rows.{declaring_row}
use Rattle.c_results.specs.Standing.{senses_made, Rowed}
use Rattle.tree_reads.specs.Sources.{number_in}
use Rattle.unit_walk.specs.unit_rows.Standing.{source_known}
use Rattle.unit_walk.proofs.unit_rows.Answers.{constants_of, specified_enum, last_part}
use Rattle.unit_walk.proofs.unit_rows.parts.specifier.Goals as goal

pub returns-then-production-eq-ASSERT-clause-row : goal.returns-then-production-eq-ASSERT-clause-row
returns-then-production-eq-ASSERT-clause-row c w knows means =
    let uses = c.args.known.now.bound.now.uses.items in
    let s = source_known c.args.known.now in
    let S = sense_in (senses_made c.args.unit.now c.args.results.now) in
    subst (λ (p : ℕ). Rowed c.args.unit.now c.assert_row.result (declaring_row w s S p c.args.at c.args.children.now)) (sym c.if-production-eq-ASSERT.true)
    (c.assert_row.ensures.row w uses knows)

pub returns-then-production-eq-SPECS-clause-row : goal.returns-then-production-eq-SPECS-clause-row
returns-then-production-eq-SPECS-clause-row c w knows means =
    let uses = c.args.known.now.bound.now.uses.items in
    let s = source_known c.args.known.now in
    let S = sense_in (senses_made c.args.unit.now c.args.results.now) in
    subst (λ (p : ℕ). Rowed c.specs_row.new.unit c.specs_row.result (declaring_row w s S p c.args.at c.args.children.now)) (sym c.if-production-eq-SPECS.true)
    (c.specs_row.ensures.row w uses)

pub returns-then-production-eq-ALIGN-clause-row : goal.returns-then-production-eq-ALIGN-clause-row
returns-then-production-eq-ALIGN-clause-row c w knows means =
    let uses = c.args.known.now.bound.now.uses.items in
    let s = source_known c.args.known.now in
    let S = sense_in (senses_made c.args.unit.now c.args.results.now) in
    subst (λ (p : ℕ). Rowed c.args.unit.now c.align_specifier.result (declaring_row w s S p c.args.at c.args.children.now)) (sym c.if-production-eq-ALIGN.true)
    (c.align_specifier.ensures.row w uses knows)

pub returns-then-production-eq-TYPE-clause-row : goal.returns-then-production-eq-TYPE-clause-row
returns-then-production-eq-TYPE-clause-row c w knows means =
    let uses = c.args.known.now.bound.now.uses.items in
    let s = source_known c.args.known.now in
    let S = sense_in (senses_made c.args.unit.now c.args.results.now) in
    subst (λ (p : ℕ). Rowed c.type_specifier.new.unit c.type_specifier.result (declaring_row w s S p c.args.at c.args.children.now)) (sym c.if-production-eq-TYPE.true)
    (c.type_specifier.ensures.row w uses c.requires.known.pairs means)

pub returns-then-production-eq-ENUM-clause-row : goal.returns-then-production-eq-ENUM-clause-row
returns-then-production-eq-ENUM-clause-row c w knows means =
    let uses = c.args.known.now.bound.now.uses.items in
    let s = source_known c.args.known.now in
    let S = sense_in (senses_made c.args.unit.now c.args.results.now) in
    subst (λ (p : ℕ). Rowed c.enum_row.new.unit c.enum_row.result (declaring_row w s S p c.args.at c.args.children.now)) (sym c.if-production-eq-ENUM.true)
    (c.enum_row.ensures.row w uses (number_in c.args.known.now.numbered.now.syntax.tag_numbers) S (c.seen_at.ensures s c.requires.known.tags (specified_enum s c.args.at (sym c.requires.production ∙ c.if-production-eq-ENUM.true))))

pub returns-clause-row : goal.returns-clause-row
returns-clause-row c w knows means =
    let uses = c.args.known.now.bound.now.uses.items in
    let s = source_known c.args.known.now in
    let S = sense_in (senses_made c.args.unit.now c.args.results.now) in
    subst (λ (p : ℕ). Rowed c.args.unit.now c.enumerator_row.result (declaring_row w s S p c.args.at c.args.children.now))
    (sym (last_part c.args.production c.requires.part c.if-production-eq-ASSERT.false c.if-production-eq-SPECS.false c.if-production-eq-ALIGN.false c.if-production-eq-TYPE.false c.if-production-eq-ENUM.false))
    (c.enumerator_row.ensures.row w uses knows)

pub assert_row-requires-clause-rows : goal.assert_row-requires-clause-rows
assert_row-requires-clause-rows c = constants_of _ c.args.unit.now c.args.results.now c.requires.kept

pub align_specifier-requires-clause-rows : goal.align_specifier-requires-clause-rows
align_specifier-requires-clause-rows c = constants_of _ c.args.unit.now c.args.results.now c.requires.kept

pub enumerator_row-requires-clause-rows : goal.enumerator_row-requires-clause-rows
enumerator_row-requires-clause-rows c = constants_of _ c.args.unit.now c.args.results.now c.requires.kept

pub type_specifier-requires-clause-names : goal.type_specifier-requires-clause-names
type_specifier-requires-clause-names c = record { named = c.requires.known.names c.args.results.now }
