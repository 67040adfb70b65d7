use Rattle.std.proofs.Common.{ℕ, Bool, true, ◌≡◌, ◌||◌, not, None, List, Option, sym, ap, ◌∙◌}
use Rattle.c_types.specs.Trees.{Ctype}
use Rattle.c_types.specs.Table.{type_of}
use Rattle.c_senses.specs.Sense.{sense_in}
use Rattle.c_senses.specs.Entities as spec
use Rattle.c_entities.specs.Types.{type_in}
use Rattle.c_named.specs.Lists.{types_at}
use Rattle.c_results.specs.Standing.{senses_made}
use Rattle.tree_reads.specs.Sources.{source_in}
use Rattle.init_rows.proofs.agreeing.internal_agrees.Goals as goal

pub returns-clause-agrees : goal.returns-clause-agrees
returns-clause-agrees c = λ w uses leaf said.
    let s = source_in c.args.syntax.now uses in
    let old = c.args.unit.now in
    let sense = sense_in (senses_made old c.args.results.now) in
    let mid = c.types_together.new.unit in
    let t = type_of old.types c.args.ty.0 in
    let internal : true ≡ spec.is_internal s sense leaf = sym c.if-not-said.false ∙ said.internal in
    let together : Option Ctype = spec.all_together None (spec.types_of s sense (spec.internal_before w s sense leaf)) in
    let types = c.in_ok-before.ensures.made ∙ (ap (λ (xs : List ℕ). spec.all_together None (types_at s sense xs)) c.as_slice.ensures.value ∙ said.types (sym internal)) in
    c.agrees_with.ensures w s sense
    ∙ (ap (λ (x : Ctype). spec.agrees_with w s sense x (type_in mid.types c.in_ok-before.before)) (c.in_ok-before.ensures.builds.types c.args.ty.0 c.requires.ty)
    ∙ (ap (λ (o : Option Ctype). spec.agrees_with w s sense t o) types
    ∙ ap (λ (b : Bool). not b || spec.agrees_with w s sense t together) internal))
