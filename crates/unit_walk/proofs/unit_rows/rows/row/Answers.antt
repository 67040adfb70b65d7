use Rattle.std.proofs.Common.{◌≡◌, ℕ, true, false, refl, sym, ◌∙◌, subst}
use Rattle.core_nodes.proofs.Growing.{same_builds}
use Rattle.c_senses.specs.Sense.{sense_in}
use Rattle.c_senses.specs.Tree.{production_at, children_at}
use Rattle.c_results.specs.Standing.{sense_made, senses_made}
use Rattle.name_places.specs.Named.{IsNamedSense}
use Rattle.parsed_tree_laws.specs.sense_laws.row_trees.Trees.{SenseHasRows}
use Rattle.unit_walk.specs.row_shapes.Kept as shapes
use Rattle.statement_rows.specs.Kept.{HasAllRows}
use Rattle.unit_worlds.specs.Growing.{Grows, completed_at}
use Rattle.unit_walk.specs.unit_rows.Built.{lists_others, is_expression, is_plain}
use Rattle.unit_walk.specs.unit_rows.Along.{AreAlong}
use Rattle.unit_walk.specs.unit_rows.Standing.{source_known, nodes_known, world_there}
use Rattle.unit_walk.proofs.unit_rows.Nothing.{nothing_of}
use Rattle.unit_walk.proofs.unit_rows.Cover.{limited_there}
use Rattle.unit_walk.proofs.unit_rows.Expressions.{expression_there, no_struct, no_initial, no_declarator, lists_no_struct, rows_made, names_in}
use Rattle.unit_walk.proofs.unit_rows.Answers.{keeps_there, unless, given, anyway, plain_other, plain_own, along_on, along_by, grows_so}
use Rattle.unit_walk.proofs.unit_rows.rows.row.Goals as goal

pub returns-then-is_list-clause-row : goal.returns-then-is_list-clause-row
returns-then-is_list-clause-row c =
    let k = c.args.known.now in
    let s = source_known k in
    let at = c.args.at in
    let rs = c.args.results.now in
    let u = c.args.unit.now in
    let S = sense_in (senses_made u rs) in
    let w = world_there k u rs at in
    let q = production_at s at in
    let ys = children_at s at in
    let p = c.production_of-production.ensures in
    let kind : lists_others q ≡ true = subst (λ (x : ℕ). lists_others x ≡ true) p (sym c.is_list.ensures ∙ c.if-is_list.true) in
    nothing_of w s S at ys q kind

pub returns-then-is_list-clause-grows : goal.returns-then-is_list-clause-grows
returns-then-is_list-clause-grows c =
    let k = c.args.known.now in
    let s = source_known k in
    let at = c.args.at in
    let rs = c.args.results.now in
    let u = c.args.unit.now in
    let S = sense_in (senses_made u rs) in
    let w = world_there k u rs at in
    let q = production_at s at in
    let ys = children_at s at in
    let p = c.production_of-production.ensures in
    let kind : lists_others q ≡ true = subst (λ (x : ℕ). lists_others x ≡ true) p (sym c.is_list.ensures ∙ c.if-is_list.true) in
    grows_so s S at u u (lists_no_struct q kind) (same_builds u u refl refl refl)

pub returns-then-is_expression-clause-row : goal.returns-then-is_expression-clause-row
returns-then-is_expression-clause-row c =
    let k = c.args.known.now in
    let s = source_known k in
    let at = c.args.at in
    let rs = c.args.results.now in
    let u = c.args.unit.now in
    let S = sense_in (senses_made u rs) in
    let w = world_there k u rs at in
    let q = production_at s at in
    let ys = children_at s at in
    let p = c.production_of-production.ensures in
    let kind : is_expression q ≡ true = subst (λ (x : ℕ). is_expression x ≡ true) p (sym c.is_expression.ensures ∙ c.if-is_expression.true) in
    (expression_there w s S at c.expression.new.unit c.expression.result kind c.requires.readable (c.expression.ensures.built k.bound.now.uses.items c.requires.known.pairs c.requires.senses c.requires.knows))

pub returns-then-is_expression-clause-keeps : goal.returns-then-is_expression-clause-keeps
returns-then-is_expression-clause-keeps c =
    let k = c.args.known.now in
    let s = source_known k in
    let at = c.args.at in
    let rs = c.args.results.now in
    let u = c.args.unit.now in
    let S = sense_in (senses_made u rs) in
    let w = world_there k u rs at in
    let q = production_at s at in
    let ys = children_at s at in
    let p = c.production_of-production.ensures in
    let kind : is_expression q ≡ true = subst (λ (x : ℕ). is_expression x ≡ true) p (sym c.is_expression.ensures ∙ c.if-is_expression.true) in
    keeps_there (nodes_known k) u c.expression.new.unit rs w s q at ys c.expression.result c.requires.stand.kept
    ((expression_there w s S at c.expression.new.unit c.expression.result kind c.requires.readable (c.expression.ensures.built k.bound.now.uses.items c.requires.known.pairs c.requires.senses c.requires.knows)))
    (given c.expression.result (λ m. SenseHasRows (sense_made c.expression.new.unit m)) (is_expression q) c.expression.ensures.rows)
    (unless (shapes.is_initial q) (no_initial q kind) c.expression.result (λ m. HasAllRows (sense_made c.expression.new.unit m)))
    (unless (shapes.is_declarator q) (no_declarator q kind) c.expression.result (λ m. IsNamedSense (nodes_known k) (sense_made c.expression.new.unit m)))

pub returns-then-is_expression-clause-grows : goal.returns-then-is_expression-clause-grows
returns-then-is_expression-clause-grows c =
    let k = c.args.known.now in
    let s = source_known k in
    let at = c.args.at in
    let rs = c.args.results.now in
    let u = c.args.unit.now in
    let S = sense_in (senses_made u rs) in
    let w = world_there k u rs at in
    let q = production_at s at in
    let ys = children_at s at in
    let p = c.production_of-production.ensures in
    let kind : is_expression q ≡ true = subst (λ (x : ℕ). is_expression x ≡ true) p (sym c.is_expression.ensures ∙ c.if-is_expression.true) in
    anyway c.expression.result (Grows u c.expression.new.unit (completed_at s S at)) (grows_so s S at u c.expression.new.unit (no_struct q kind) c.expression.ensures.builds)

pub returns-then-is_expression-clause-along : goal.returns-then-is_expression-clause-along
returns-then-is_expression-clause-along c =
    let k = c.args.known.now in
    let s = source_known k in
    let at = c.args.at in
    let rs = c.args.results.now in
    let u = c.args.unit.now in
    let S = sense_in (senses_made u rs) in
    let w = world_there k u rs at in
    let q = production_at s at in
    let ys = children_at s at in
    let p = c.production_of-production.ensures in
    anyway c.expression.result (AreAlong k.numbered.now.syntax k.names.now c.expression.new.unit rs (record { lists = c.args.along.now.lists; unions = c.args.along.now.unions; linkages = c.expression.new.linkages }))
    (along_on k.numbered.now.syntax k.names.now u c.expression.new.unit rs c.args.along.now c.expression.new.linkages c.requires.along c.expression.ensures.builds c.expression.ensures.linkages)

pub returns-then-is_plain-clause-row : goal.returns-then-is_plain-clause-row
returns-then-is_plain-clause-row c =
    let k = c.args.known.now in
    let s = source_known k in
    let at = c.args.at in
    let rs = c.args.results.now in
    let u = c.args.unit.now in
    let S = sense_in (senses_made u rs) in
    let w = world_there k u rs at in
    let q = production_at s at in
    let ys = children_at s at in
    let p = c.production_of-production.ensures in
    c.declared.ensures.row

pub returns-then-is_plain-clause-keeps : goal.returns-then-is_plain-clause-keeps
returns-then-is_plain-clause-keeps c =
    let k = c.args.known.now in
    let s = source_known k in
    let at = c.args.at in
    let rs = c.args.results.now in
    let u = c.args.unit.now in
    let S = sense_in (senses_made u rs) in
    let w = world_there k u rs at in
    let q = production_at s at in
    let ys = children_at s at in
    let p = c.production_of-production.ensures in
    let kind : is_plain q ≡ true = subst (λ (x : ℕ). is_plain x ≡ true) p (sym c.is_plain.ensures ∙ c.if-is_plain.true) in
    keeps_there (nodes_known k) u c.declared.new.unit rs w s q at ys c.declared.result c.requires.stand.kept
    (c.declared.ensures.row)
    (unless (is_expression q) (plain_other q kind) c.declared.result (λ m. SenseHasRows (sense_made c.declared.new.unit m)))
    (unless (shapes.is_initial q) (plain_own q kind).0 c.declared.result (λ m. HasAllRows (sense_made c.declared.new.unit m)))
    (unless (shapes.is_declarator q) (plain_own q kind).1.0 c.declared.result (λ m. IsNamedSense (nodes_known k) (sense_made c.declared.new.unit m)))

pub returns-then-is_plain-clause-grows : goal.returns-then-is_plain-clause-grows
returns-then-is_plain-clause-grows c =
    let k = c.args.known.now in
    let s = source_known k in
    let at = c.args.at in
    let rs = c.args.results.now in
    let u = c.args.unit.now in
    let S = sense_in (senses_made u rs) in
    let w = world_there k u rs at in
    let q = production_at s at in
    let ys = children_at s at in
    let p = c.production_of-production.ensures in
    let kind : is_plain q ≡ true = subst (λ (x : ℕ). is_plain x ≡ true) p (sym c.is_plain.ensures ∙ c.if-is_plain.true) in
    anyway c.declared.result (Grows u c.declared.new.unit (completed_at s S at)) (grows_so s S at u c.declared.new.unit (plain_own q kind).1.1 c.declared.ensures.builds)

pub returns-then-is_plain-clause-along : goal.returns-then-is_plain-clause-along
returns-then-is_plain-clause-along c =
    let k = c.args.known.now in
    let s = source_known k in
    let at = c.args.at in
    let rs = c.args.results.now in
    let u = c.args.unit.now in
    let S = sense_in (senses_made u rs) in
    let w = world_there k u rs at in
    let q = production_at s at in
    let ys = children_at s at in
    let p = c.production_of-production.ensures in
    anyway c.declared.result (AreAlong k.numbered.now.syntax k.names.now c.declared.new.unit rs (record { lists = c.args.along.now.lists; unions = c.args.along.now.unions; linkages = c.declared.new.linkages }))
    (along_on k.numbered.now.syntax k.names.now u c.declared.new.unit rs c.args.along.now c.declared.new.linkages c.requires.along c.declared.ensures.builds c.declared.ensures.linkages)

pub limited-requires-clause-limited : goal.limited-requires-clause-limited
limited-requires-clause-limited c =
    let k = c.args.known.now in
    let s = source_known k in
    let at = c.args.at in
    let rs = c.args.results.now in
    let u = c.args.unit.now in
    let S = sense_in (senses_made u rs) in
    let w = world_there k u rs at in
    let q = production_at s at in
    let ys = children_at s at in
    let p = c.production_of-production.ensures in
    limited_there q (subst (λ (x : ℕ). lists_others x ≡ false) p (sym c.is_list.ensures ∙ c.if-is_list.false)) (subst (λ (x : ℕ). is_expression x ≡ false) p (sym c.is_expression.ensures ∙ c.if-is_expression.false))
    (subst (λ (x : ℕ). is_plain x ≡ false) p (sym c.is_plain.ensures ∙ c.if-is_plain.false))

pub declared-requires-clause-plain : goal.declared-requires-clause-plain
declared-requires-clause-plain c =
    let k = c.args.known.now in
    let s = source_known k in
    let at = c.args.at in
    let rs = c.args.results.now in
    let u = c.args.unit.now in
    let S = sense_in (senses_made u rs) in
    let w = world_there k u rs at in
    let q = production_at s at in
    let ys = children_at s at in
    let p = c.production_of-production.ensures in
    let kind : is_plain q ≡ true = subst (λ (x : ℕ). is_plain x ≡ true) p (sym c.is_plain.ensures ∙ c.if-is_plain.true) in
    kind

pub expression-requires-clause-rows : goal.expression-requires-clause-rows
expression-requires-clause-rows c = rows_made (nodes_known c.args.known.now) c.args.unit.now c.args.results.now c.requires.stand.kept

pub expression-requires-clause-named : goal.expression-requires-clause-named
expression-requires-clause-named c = names_in (nodes_known c.args.known.now) c.args.unit.now c.args.results.now c.requires.stand.kept

pub expression-requires-clause-names : goal.expression-requires-clause-names
expression-requires-clause-names c = record { named = c.requires.known.names c.args.results.now }

pub returns-clause-along : goal.returns-clause-along
returns-clause-along c =
    along_by c.args.known.now.numbered.now.syntax c.args.known.now.names.now c.limited.new.unit c.args.results.now (record { lists = c.limited.new.lists; unions = c.limited.new.unions; linkages = c.limited.new.linkages }) c.limited.result
    c.limited.ensures.lists c.limited.ensures.unions c.limited.ensures.linkages
