use Rattle.std.proofs.Common.{ℕ, Bool, ◌&&◌, sym, ap, ◌∙◌, subst}
use Rattle.c_types.specs.Trees.{Ctype}
use Rattle.c_types.specs.Table.{type_of}
use Rattle.c_senses.specs.Sense.{Sense, sense_in}
use Rattle.c_senses.specs.World.{extent}
use Rattle.c_senses.specs.Limits.{is_small}
use Rattle.c_senses.specs.Entities.{with_length, internal_agrees}
use Rattle.core_nodes.proofs.Growing.{builds_on, knows_on}
use Rattle.c_named.specs.Said.{IsSaid}
use Rattle.c_results.specs.Standing.{senses_made}
use Rattle.c_results.proofs.Keeping.{mades_kept}
use Rattle.tree_reads.specs.Sources.{source_in}
use Rattle.init_rows.proofs.TypeLaws.{limits_are}
use Rattle.init_rows.proofs.RowLaws.{fits_same}
use Rattle.init_rows.proofs.agreeing.initialised_fits.Goals as goal

pub returns-then-not-limited-clause-fits : goal.returns-then-not-limited-clause-fits
returns-then-not-limited-clause-fits c = λ w uses leaf knows said limited.
    let s = source_in c.args.syntax.now uses in
    let old = c.args.unit.now in
    let mid = c.with_length.new.unit in
    let sense = sense_in (senses_made old c.args.results.now) in
    let t = type_of old.types c.args.declared.ty.0 in
    let whole = type_of mid.types c.in-Ok.whole.0 in
    let n = c.args.count in
    let small = c.is_small-small.ensures ∙ (ap is_small (sym ((knows_on w old mid c.in-Ok.ensures.builds knows).extents whole)) ∙ ap (λ (x : Ctype). is_small (extent w x)) c.in-Ok.ensures.made) in
    let within = limits_are w t n c.args.declared.limited c.is_small-small.result c.both-limited.result limited small c.both-limited.ensures in
    ap (λ (b : Bool). b && internal_agrees w s sense (with_length n t) leaf) (sym c.if-not-limited.true ∙ within)

pub returns-clause-builds : goal.returns-clause-builds
returns-clause-builds c = builds_on c.args.unit.now c.with_length.new.unit c.internal_agrees.new.unit c.in-Ok.ensures.builds c.internal_agrees.ensures.builds

pub returns-clause-fits : goal.returns-clause-fits
returns-clause-fits c = λ w uses leaf knows said limited.
    let s = source_in c.args.syntax.now uses in
    let old = c.args.unit.now in
    let mid = c.with_length.new.unit in
    let results = c.args.results.now in
    let t = type_of old.types c.args.declared.ty.0 in
    let whole = type_of mid.types c.in-Ok.whole.0 in
    let n = c.args.count in
    let same = ap sense_in (mades_kept old mid c.in-Ok.ensures.builds results c.requires.results) in
    let small = c.is_small-small.ensures ∙ (ap is_small (sym ((knows_on w old mid c.in-Ok.ensures.builds knows).extents whole)) ∙ ap (λ (x : Ctype). is_small (extent w x)) c.in-Ok.ensures.made) in
    let within = sym c.if-not-limited.false ∙ limits_are w t n c.args.declared.limited c.is_small-small.result c.both-limited.result limited small c.both-limited.ensures in
    let known = c.internal_agrees.ensures.agrees w uses leaf (subst (λ (f : ℕ → Sense). IsSaid w s f leaf c.args.said.now) (sym same) said) in
    fits_same w s (sense_in (senses_made mid results)) (sense_in (senses_made old results)) whole (with_length n t) leaf c.internal_agrees.result same c.in-Ok.ensures.made within known
