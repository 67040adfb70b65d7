use Rattle.std.proofs.Common.{arith, ◌≡◌, ◌<◌, ℕ, length, sym, ap, ◌∙◌, subst, map}
use Rattle.std.proofs.lemmas.List.Elements.{All-same, All-weaker}
use Rattle.c_types.specs.Table.{type_of}
use Rattle.c_consts.specs.Core.{Cores}
use Rattle.c_inits.specs.Items.{placed_of}
use Rattle.c_senses.specs.Given.{Fits}
use Rattle.c_senses.specs.Sense.{sense_in}
use Rattle.c_senses.specs.Initialised.{placed_cores, initialise_core}
use Rattle.core_nodes.specs.Standing.{cores_at}
use Rattle.core_nodes.proofs.Growing.{builds_on}
use Rattle.c_conversions.specs.Constants.{HaveRows}
use Rattle.c_results.specs.Standing.{senses_made}
use Rattle.tree_reads.specs.Sources.{source_read}
use Rattle.c_initials.proofs.PlacedLaws.{cores_kept}
use Rattle.c_initials.proofs.ObjectLaws.{node_made, node_rows, cores_refused}
use Rattle.c_initials.proofs.objects.initialised.Goals as goal

pub returns-in-Err-clause-made : goal.returns-in-Err-clause-made
returns-in-Err-clause-made c = λ w told.
    let u = c.args.unit.now in
    let s = source_read c.args.scope.now.syntax.now in
    let sense = sense_in (senses_made u c.args.scope.now.results.now) in
    let items = map placed_of c.args.items.now in
    cores_refused c.placed_values.new.unit c.placed_values.new.unit c.in-Err.fault (placed_cores w s sense c.args.is_static (type_of u.types c.args.whole.0) items)
    (λ (values : Cores). Fits (initialise_core w s sense c.args.entity c.args.place items values)) (c.in-Err.ensures.made w told)

pub returns-in_default-add_type-clause-builds : goal.returns-in_default-add_type-clause-builds
returns-in_default-add_type-clause-builds c = builds_on c.args.unit.now c.placed_values.new.unit c.add_type.new.unit c.placed_values.ensures.builds c.add_type.ensures.builds

pub returns-in_err-paths-clause-builds : goal.returns-in_err-paths-clause-builds
returns-in_err-paths-clause-builds c = builds_on c.args.unit.now c.placed_values.new.unit c.add_type.new.unit c.placed_values.ensures.builds c.add_type.ensures.builds

pub returns-in_err-values-clause-builds : goal.returns-in_err-values-clause-builds
returns-in_err-values-clause-builds c = builds_on c.args.unit.now c.placed_values.new.unit c.add_type.new.unit c.placed_values.ensures.builds c.add_type.ensures.builds

pub push_node-requires-clause-children : goal.push_node-requires-clause-children
push_node-requires-clause-children c =
    let mid = c.placed_values.new.unit in
    let now = c.add_type.new.unit in
    All-same (λ (i : ℕ). i < length now.nodes.items) c.in_ok-values.values c.in-Ok.values (c.in_ok-values.ensures ∙ c.into_vec-2.ensures)
    (All-weaker (λ (i : ℕ). i < length mid.nodes.items) (λ (i : ℕ). i < length now.nodes.items) (λ i l. omega (arith, c.add_type.ensures.builds.more)) c.in-Ok.values c.in-Ok.ensures.within)

pub returns-clause-builds : goal.returns-clause-builds
returns-clause-builds c =
    builds_on c.args.unit.now c.placed_values.new.unit c.push_node.new.unit c.placed_values.ensures.builds
    (builds_on c.placed_values.new.unit c.add_type.new.unit c.push_node.new.unit c.add_type.ensures.builds c.push_node.ensures.builds)

pub returns-clause-rows : goal.returns-clause-rows
returns-clause-rows c =
    let kept = cores_kept c.placed_values.new.unit c.add_type.new.unit c.add_type.ensures.builds c.in-Ok.values c.in-Ok.ensures.within in
    let same : c.in_ok-values.values ≡ c.in-Ok.values = c.in_ok-values.ensures ∙ c.into_vec-2.ensures in
    node_rows c.push_node.new.unit c.push_node.result c.args.entity c.in_ok-paths.paths c.args.place (type_of c.add_type.new.unit.types c.in-Ok-add_type.void.0) (cores_at c.add_type.new.unit c.in_ok-values.values)
    c.push_node.ensures.made (subst HaveRows (sym (ap (cores_at c.add_type.new.unit) same ∙ kept)) c.in-Ok.ensures.rows)

pub returns-clause-made : goal.returns-clause-made
returns-clause-made c = λ w told.
    let u = c.args.unit.now in
    let s = source_read c.args.scope.now.syntax.now in
    let sense = sense_in (senses_made u c.args.scope.now.results.now) in
    let items = map placed_of c.args.items.now in
    let kept = cores_kept c.placed_values.new.unit c.add_type.new.unit c.add_type.ensures.builds c.in-Ok.values c.in-Ok.ensures.within in
    let same : c.in_ok-values.values ≡ c.in-Ok.values = c.in_ok-values.ensures ∙ c.into_vec-2.ensures in
    node_made w s sense c.args.is_static c.args.entity c.args.place (type_of u.types c.args.whole.0) (type_of c.add_type.new.unit.types c.in-Ok-add_type.void.0) items
    (cores_at c.placed_values.new.unit c.in-Ok.values) (cores_at c.add_type.new.unit c.in_ok-values.values) c.in_ok-paths.paths c.push_node.new.unit c.push_node.result
    (c.in-Ok.ensures.made w told) (c.in_ok-paths.ensures ∙ (c.into_vec.ensures ∙ c.in-Ok-paths_of.ensures w s sense)) c.in-Ok-add_type.ensures.made (ap (cores_at c.add_type.new.unit) same ∙ kept) c.push_node.ensures.made
