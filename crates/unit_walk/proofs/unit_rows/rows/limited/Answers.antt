use Rattle.std.proofs.Common.{◌≡◌, ℕ, true, IfOk, refl, sym, ◌∙◌, subst}
use Rattle.c_senses.specs.Given.{Given}
use Rattle.c_senses.specs.Sense.{Sense, sense_in}
use Rattle.c_senses.specs.Tree.{production_at, children_at}
use Rattle.c_grammar.specs.Productions.{p_struct}
use Rattle.c_results.specs.Standing.{sense_made, senses_made, Rowed}
use Rattle.name_places.specs.Named.{IsNamedSense}
use Rattle.parsed_tree_laws.specs.sense_laws.row_trees.Trees.{SenseHasRows}
use Rattle.unit_walk.specs.row_shapes.Kept as shapes
use Rattle.statement_rows.specs.Kept.{HasAllRows}
use Rattle.c_declarators.specs.Limited.{AreFlexible}
use Rattle.unit_worlds.proofs.unit_limits.Flags.{unions_flexible, unions_built}
use Rattle.unit_worlds.specs.unit_limits.Unions.{AreUnions}
use Rattle.unit_walk.specs.unit_rows.Built.{is_member, is_declarator, is_initial, is_limited, is_expression}
use Rattle.unit_walk.specs.unit_rows.Standing.{source_known, nodes_known, world_there}
use Rattle.unit_walk.proofs.unit_rows.Answers.{structure_there, keeps_there, unless, given, anyway, of_member, member_kind, of_declarator, of_initial, initial_there, declarator_there, limited_so, row_declaring, named_sense}
use Rattle.unit_walk.proofs.unit_rows.rows.limited.Goals as goal

pub returns-then-production-eq-STRUCT-clause-keeps : goal.returns-then-production-eq-STRUCT-clause-keeps
returns-then-production-eq-STRUCT-clause-keeps c =
    let k = c.args.known.now in
    let s = source_known k in
    let at = c.args.at in
    let rs = c.args.results.now in
    let S = sense_in (senses_made c.args.unit.now rs) in
    let w = world_there k c.args.unit.now rs at in
    let q = production_at s at in
    let ys = children_at s at in
    let struct : q ≡ p_struct = sym c.production_of-production.ensures ∙ c.if-production-eq-STRUCT.true in
    keeps_there (nodes_known k) c.args.unit.now c.structure.new.unit rs w s q at ys c.structure.result c.requires.stand.kept
    (structure_there s c.structure.new.unit w S at c.structure.result struct c.structure.ensures.row)
    (unless (is_expression q) (limited_so q c.requires.limited) c.structure.result (λ m. SenseHasRows (sense_made c.structure.new.unit m)))
    (subst (λ (p : ℕ). IfOk c.structure.result (λ m. shapes.is_initial p ≡ true → HasAllRows (sense_made c.structure.new.unit m))) (sym struct) (unless (shapes.is_initial p_struct) refl c.structure.result (λ m. HasAllRows (sense_made c.structure.new.unit m))))
    (subst (λ (p : ℕ). IfOk c.structure.result (λ m. shapes.is_declarator p ≡ true → IsNamedSense (nodes_known k) (sense_made c.structure.new.unit m))) (sym struct) (unless (shapes.is_declarator p_struct) refl c.structure.result (λ m. IsNamedSense (nodes_known k) (sense_made c.structure.new.unit m))))

pub returns-then-production-eq-STRUCT-clause-row : goal.returns-then-production-eq-STRUCT-clause-row
returns-then-production-eq-STRUCT-clause-row c =
    let k = c.args.known.now in
    let s = source_known k in
    let at = c.args.at in
    let rs = c.args.results.now in
    let struct : production_at s at ≡ p_struct = sym c.production_of-production.ensures ∙ c.if-production-eq-STRUCT.true in
    structure_there s c.structure.new.unit (world_there k c.args.unit.now rs at) (sense_in (senses_made c.args.unit.now rs)) at c.structure.result struct c.structure.ensures.row

pub returns-then-is_member-clause-keeps : goal.returns-then-is_member-clause-keeps
returns-then-is_member-clause-keeps c =
    let k = c.args.known.now in
    let s = source_known k in
    let at = c.args.at in
    let rs = c.args.results.now in
    let S = sense_in (senses_made c.args.unit.now rs) in
    let w = world_there k c.args.unit.now rs at in
    let q = production_at s at in
    let ys = children_at s at in
    let kind : is_member q ≡ true = subst (λ (p : ℕ). is_member p ≡ true) c.production_of-production.ensures (sym c.is_member.ensures ∙ c.if-is_member.true) in
    keeps_there (nodes_known k) c.args.unit.now c.listed_member.new.unit rs w s q at ys c.listed_member.result c.requires.stand.kept
    ((subst (λ (g : Given Sense). Rowed c.listed_member.new.unit c.listed_member.result g) (sym (row_declaring w s S q at ys (limited_so q c.requires.limited)))
    (c.listed_member.ensures.row w k.bound.now.uses.items c.requires.knows (subst (AreFlexible w) (sym c.as_slice.ensures.value) (unions_flexible w c.args.unit.now c.args.unions.now.items c.type_count-count.ensures.made c.type_count-count.ensures.named c.requires.knows c.requires.unions)))))
    (unless (is_expression q) (limited_so q c.requires.limited) c.listed_member.result (λ m. SenseHasRows (sense_made c.listed_member.new.unit m)))
    (unless (shapes.is_initial q) (of_member q kind).0 c.listed_member.result (λ m. HasAllRows (sense_made c.listed_member.new.unit m)))
    (unless (shapes.is_declarator q) (of_member q kind).1.0 c.listed_member.result (λ m. IsNamedSense (nodes_known k) (sense_made c.listed_member.new.unit m)))

pub returns-then-is_member-clause-row : goal.returns-then-is_member-clause-row
returns-then-is_member-clause-row c =
    let k = c.args.known.now in
    let s = source_known k in
    let at = c.args.at in
    let rs = c.args.results.now in
    let S = sense_in (senses_made c.args.unit.now rs) in
    let w = world_there k c.args.unit.now rs at in
    let q = production_at s at in
    let ys = children_at s at in
    (subst (λ (g : Given Sense). Rowed c.listed_member.new.unit c.listed_member.result g) (sym (row_declaring w s S q at ys (limited_so q c.requires.limited)))
    (c.listed_member.ensures.row w k.bound.now.uses.items c.requires.knows (subst (AreFlexible w) (sym c.as_slice.ensures.value) (unions_flexible w c.args.unit.now c.args.unions.now.items c.type_count-count.ensures.made c.type_count-count.ensures.named c.requires.knows c.requires.unions))))

pub returns-then-is_declarator-clause-keeps : goal.returns-then-is_declarator-clause-keeps
returns-then-is_declarator-clause-keeps c =
    let k = c.args.known.now in
    let s = source_known k in
    let at = c.args.at in
    let rs = c.args.results.now in
    let S = sense_in (senses_made c.args.unit.now rs) in
    let w = world_there k c.args.unit.now rs at in
    let q = production_at s at in
    let ys = children_at s at in
    let kind : is_declarator q ≡ true = subst (λ (p : ℕ). is_declarator p ≡ true) c.production_of-production.ensures (sym c.is_declarator.ensures ∙ c.if-is_declarator.true) in
    keeps_there (nodes_known k) c.args.unit.now c.declared_name.new.unit rs w s q at ys c.declared_name.result c.requires.stand.kept
    ((subst (λ (g : Given Sense). Rowed c.declared_name.new.unit c.declared_name.result g)
    (declarator_there w s S q q at ys ys kind refl (limited_so q c.requires.limited))
    (c.declared_name.ensures.row w c.requires.knows c.requires.limits)))
    (unless (is_expression q) (limited_so q c.requires.limited) c.declared_name.result (λ m. SenseHasRows (sense_made c.declared_name.new.unit m)))
    (unless (shapes.is_initial q) (of_declarator q kind).0 c.declared_name.result (λ m. HasAllRows (sense_made c.declared_name.new.unit m)))
    (given c.declared_name.result (λ m. IsNamedSense (nodes_known k) (sense_made c.declared_name.new.unit m)) (shapes.is_declarator q) (named_sense (nodes_known k) c.declared_name.new.unit c.declared_name.result (c.declared_name.ensures.named w c.requires.knows c.requires.limits)))

pub returns-then-is_declarator-clause-row : goal.returns-then-is_declarator-clause-row
returns-then-is_declarator-clause-row c =
    let k = c.args.known.now in
    let s = source_known k in
    let at = c.args.at in
    let rs = c.args.results.now in
    let S = sense_in (senses_made c.args.unit.now rs) in
    let w = world_there k c.args.unit.now rs at in
    let q = production_at s at in
    let ys = children_at s at in
    let kind : is_declarator q ≡ true = subst (λ (p : ℕ). is_declarator p ≡ true) c.production_of-production.ensures (sym c.is_declarator.ensures ∙ c.if-is_declarator.true) in
    (subst (λ (g : Given Sense). Rowed c.declared_name.new.unit c.declared_name.result g)
    (declarator_there w s S q q at ys ys kind refl (limited_so q c.requires.limited))
    (c.declared_name.ensures.row w c.requires.knows c.requires.limits))

pub returns-clause-keeps : goal.returns-clause-keeps
returns-clause-keeps c =
    let k = c.args.known.now in
    let s = source_known k in
    let at = c.args.at in
    let rs = c.args.results.now in
    let S = sense_in (senses_made c.args.unit.now rs) in
    let w = world_there k c.args.unit.now rs at in
    let q = production_at s at in
    let ys = children_at s at in
    let kind : is_initial q ≡ true =
    subst (λ (p : ℕ). is_initial p ≡ true) c.production_of-production.ensures
    (initial_there c.production_of-production.result (subst (λ (p : ℕ). is_limited p ≡ true) (sym c.production_of-production.ensures) c.requires.limited) c.if-production-eq-STRUCT.false (sym c.is_member.ensures ∙ c.if-is_member.false) (sym c.is_declarator.ensures ∙ c.if-is_declarator.false)) in
    keeps_there (nodes_known k) c.args.unit.now c.initial_row.new.unit rs w s q at ys c.initial_row.result c.requires.stand.kept
    ((subst (λ (g : Given Sense). Rowed c.initial_row.new.unit c.initial_row.result g) (sym (row_declaring w s S q at ys (limited_so q c.requires.limited)))
    (c.initial_row.ensures.row w c.requires.knows c.requires.fills c.requires.limits)))
    (unless (is_expression q) (limited_so q c.requires.limited) c.initial_row.result (λ m. SenseHasRows (sense_made c.initial_row.new.unit m)))
    (given c.initial_row.result (λ m. HasAllRows (sense_made c.initial_row.new.unit m)) (shapes.is_initial q) c.initial_row.ensures.kept)
    (unless (shapes.is_declarator q) (of_initial q kind).0 c.initial_row.result (λ m. IsNamedSense (nodes_known k) (sense_made c.initial_row.new.unit m)))

pub returns-clause-row : goal.returns-clause-row
returns-clause-row c =
    let k = c.args.known.now in
    let s = source_known k in
    let at = c.args.at in
    let rs = c.args.results.now in
    let S = sense_in (senses_made c.args.unit.now rs) in
    let w = world_there k c.args.unit.now rs at in
    let q = production_at s at in
    let ys = children_at s at in
    (subst (λ (g : Given Sense). Rowed c.initial_row.new.unit c.initial_row.result g) (sym (row_declaring w s S q at ys (limited_so q c.requires.limited)))
    (c.initial_row.ensures.row w c.requires.knows c.requires.fills c.requires.limits))

pub returns-then-is_member-clause-unions : goal.returns-then-is_member-clause-unions
returns-then-is_member-clause-unions c =
    anyway c.listed_member.result (AreUnions c.listed_member.new.unit.types c.args.unions.now.items) (unions_built c.args.unit.now c.listed_member.new.unit c.args.unions.now.items c.listed_member.ensures.builds c.requires.unions)

pub returns-then-is_declarator-clause-unions : goal.returns-then-is_declarator-clause-unions
returns-then-is_declarator-clause-unions c =
    anyway c.declared_name.result (AreUnions c.declared_name.new.unit.types c.args.unions.now.items) (unions_built c.args.unit.now c.declared_name.new.unit c.args.unions.now.items c.declared_name.ensures.builds c.requires.unions)

pub returns-clause-unions : goal.returns-clause-unions
returns-clause-unions c =
    anyway c.initial_row.result (AreUnions c.initial_row.new.unit.types c.args.unions.now.items) (unions_built c.args.unit.now c.initial_row.new.unit c.args.unions.now.items c.initial_row.ensures.builds c.requires.unions)

pub declared_name-requires-clause-unions : goal.declared_name-requires-clause-unions
declared_name-requires-clause-unions c = subst (AreUnions c.args.unit.now.types) (sym c.as_slice-then-is_declarator.ensures.value) c.requires.unions

pub listed_member-requires-clause-production : goal.listed_member-requires-clause-production
listed_member-requires-clause-production c =
    let q = production_at (source_known c.args.known.now) c.args.at in
    member_kind q (subst (λ (p : ℕ). is_member p ≡ true) c.production_of-production.ensures (sym c.is_member.ensures ∙ c.if-is_member.true))
