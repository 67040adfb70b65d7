use Rattle.std.proofs.Common.{List, Some, sym, ap, subst, ◌∙◌}
use Rattle.c_types.specs.Trees.{Ctype}
use Rattle.c_senses.specs.Sense.{Sense, IsDeclarator}
use Rattle.c_senses.specs.Declarators.{adjusted, base_type}
use Rattle.c_senses.specs.Rows.{at_its_name}
use Rattle.c_senses.specs.Entities.{by_place}
use Rattle.c_results.specs.Standing.{derivations_seen}
use Rattle.c_results.proofs.Keeping.{mades_kept}
use Rattle.core_nodes.proofs.Growing.{builds_on, knows_on}
use Rattle.c_named.specs.Said.{IsSaid}
use Rattle.c_named.proofs.Keeping.{read_kept}
use Rattle.c_named.proofs.Judging.{passes_same, name_untyped, name_typed}
use Rattle.c_named.proofs.rows.at_its_name.Goals as goal
use Rattle.c_types.specs.Table.{type_of}
use Rattle.c_senses.specs.Sense.{sense_in}
use Rattle.c_results.specs.Standing.{senses_made}
use Rattle.tree_reads.specs.Sources.{source_in}

pub returns-in_default-clause-row : goal.returns-in_default-clause-row
returns-in_default-clause-row c = λ w uses knows completed said g.
    let s = source_in c.args.syntax.now uses in
    let old = c.args.unit.now in
    let sense = sense_in (senses_made old c.args.results.now) in
    name_untyped w s sense c.args.at c.args.leaf (derivations_seen old.types c.args.derivations.now) (base_type w s sense c.args.at) (c.in_default.ensures.seen old w) g

pub returns-clause-builds : goal.returns-clause-builds
returns-clause-builds c = builds_on c.args.unit.now c.derived.new.unit c.by_place.new.unit c.in_ok-ty.ensures.builds c.by_place.ensures.builds

pub returns-clause-row : goal.returns-clause-row
returns-clause-row c = λ w uses knows completed said.
    let s = source_in c.args.syntax.now uses in
    let old = c.args.unit.now in
    let sense = sense_in (senses_made old c.args.results.now) in
    let mid = c.derived.new.unit in
    let b = c.in_ok-ty.ensures.builds in
    let at = c.args.at in
    let leaf = c.args.leaf in
    let ds = derivations_seen old.types c.args.derivations.now in
    let base = type_of old.types c.in-Some.base.0 in
    let there = sense_in (senses_made mid c.args.results.now) in
    let t = type_of mid.types c.in_ok-ty.ty.0 in
    let said_there = subst (λ (senses : List Sense). IsSaid w s (sense_in senses) leaf c.args.around.now.said.now) (sym (mades_kept old mid b c.args.results.now c.requires.results)) said in
    passes_same c.by_place.result (by_place w s there at leaf t (adjusted t)) (λ g. at_its_name w s sense at g (base_type w s sense at) (IsDeclarator (Some leaf) ds))
    (λ g. name_typed w s sense at leaf ds (base_type w s sense at) base (c.in-Some.ensures.seen old w) c.if-not-is_outermost.ensures g
    ∙ (sym (ap (λ (x : Ctype). by_place w s sense at leaf x (adjusted x) g) c.in_ok-ty.ensures.made)
    ∙ sym (read_kept old mid b c.args.results.now c.requires.results (λ x. by_place w s x at leaf t (adjusted t) g))))
    (c.by_place.ensures.row w uses (knows_on w old mid b knows) completed said_there)
