use Rattle.std.proofs.Common.{ℕ, Bool, true, false, ◌≡◌, ◌&&◌, not, None, List, Option, sym, ap, ◌∙◌}
use Rattle.c_types.specs.Trees.{Ctype}
use Rattle.c_senses.specs.Entities as spec
use Rattle.c_entities.specs.Types.{type_in}
use Rattle.c_named.specs.Lists.{types_at, some_defines}
use Rattle.c_named.proofs.Judging.{internal_apart, internal_is}
use Rattle.c_named.proofs.internal.internal_fits.Goals as goal
use Rattle.c_types.specs.Table.{type_of}
use Rattle.c_senses.specs.Sense.{sense_in}
use Rattle.c_results.specs.Standing.{senses_made}
use Rattle.tree_reads.specs.Sources.{source_in}

pub returns-then-not-agrees_with-clause-fits : goal.returns-then-not-agrees_with-clause-fits
returns-then-not-agrees_with-clause-fits c = λ w uses leaf said.
    let s = source_in c.args.syntax.now uses in
    let old = c.args.unit.now in
    let sense = sense_in (senses_made old c.args.results.now) in
    let mid = c.types_together.new.unit in
    let t = type_of old.types c.args.ty.0 in
    let internal : true ≡ spec.is_internal s sense leaf = sym c.if-not-said.false ∙ said.internal in
    let types = c.in_ok-before.ensures.made ∙ (ap (λ (xs : List ℕ). spec.all_together None (types_at s sense xs)) c.as_slice-leaves.ensures.value ∙ said.types (sym internal)) in
    let agrees : false ≡ spec.agrees_with w s sense t (spec.all_together None (spec.types_of s sense (spec.internal_before w s sense leaf))) =
    c.if-not-agrees_with.ensures w s sense ∙ (ap (λ (x : Ctype). spec.agrees_with w s sense x (type_in mid.types c.in_ok-before.before)) (c.in_ok-before.ensures.builds.types c.args.ty.0 c.requires.ty)
    ∙ ap (λ (o : Option Ctype). spec.agrees_with w s sense t o) types) in
    internal_apart w s sense leaf t c.args.defined internal agrees

pub returns-clause-fits : goal.returns-clause-fits
returns-clause-fits c = λ w uses leaf said.
    let s = source_in c.args.syntax.now uses in
    let old = c.args.unit.now in
    let sense = sense_in (senses_made old c.args.results.now) in
    let mid = c.types_together.new.unit in
    let t = type_of old.types c.args.ty.0 in
    let internal : true ≡ spec.is_internal s sense leaf = sym c.if-not-said.false ∙ said.internal in
    let types = c.in_ok-before.ensures.made ∙ (ap (λ (xs : List ℕ). spec.all_together None (types_at s sense xs)) c.as_slice-leaves.ensures.value ∙ said.types (sym internal)) in
    let agrees : true ≡ spec.agrees_with w s sense t (spec.all_together None (spec.types_of s sense (spec.internal_before w s sense leaf))) =
    c.if-not-agrees_with.ensures w s sense ∙ (ap (λ (x : Ctype). spec.agrees_with w s sense x (type_in mid.types c.in_ok-before.before)) (c.in_ok-before.ensures.builds.types c.args.ty.0 c.requires.ty)
    ∙ ap (λ (o : Option Ctype). spec.agrees_with w s sense t o) types) in
    let once = ap (λ (xs : List ℕ). some_defines s sense xs) c.as_slice-leaves.ensures.value ∙ said.defined (sym internal) in
    c.is_once.ensures ∙ (ap (λ (b : Bool). not (c.args.defined && b)) (c.some_defines-again.ensures sense ∙ once) ∙ internal_is w s sense leaf t c.args.defined internal agrees)
