use Rattle.std.proofs.Common.{Bool, true, ◌≡◌, List, IfOk, sym, ap, subst, ◌∙◌}
use Rattle.c_types.specs.Trees.{Ctype}
use Rattle.c_senses.specs.Sense.{Sense}
use Rattle.c_senses.specs.Entities as spec
use Rattle.core_nodes.proofs.Growing.{builds_on}
use Rattle.c_results.proofs.Keeping.{mades_kept}
use Rattle.c_named.specs.Said.{IsSaid}
use Rattle.c_named.proofs.Keeping.{read_kept}
use Rattle.c_named.proofs.Judging.{agrees_not, agrees_so}
use Rattle.c_named.proofs.named.agrees_before.Goals as goal
use Rattle.c_types.specs.Table.{type_of}
use Rattle.c_senses.specs.Sense.{sense_in}
use Rattle.c_results.specs.Standing.{senses_made}
use Rattle.tree_reads.specs.Sources.{source_in}

pub returns-then-not-branch-clause-agrees : goal.returns-then-not-branch-clause-agrees
returns-then-not-branch-clause-agrees c = λ w uses leaf said.
    let s = source_in c.args.syntax.now uses in
    let old = c.args.unit.now in
    let sense = sense_in (senses_made old c.args.results.now) in
    agrees_not w s sense c.args.defined (type_of old.types c.args.ty.0) leaf (sym c.if-not-branch.true ∙ c.in_ok-is_same_again.ensures.same w uses leaf said)

pub returns-clause-builds : goal.returns-clause-builds
returns-clause-builds c = builds_on c.args.unit.now c.is_same_again.new.unit c.internal_fits.new.unit c.in_ok-is_same_again.ensures.builds c.internal_fits.ensures.builds

pub returns-clause-agrees : goal.returns-clause-agrees
returns-clause-agrees c = λ w uses leaf said.
    let s = source_in c.args.syntax.now uses in
    let old = c.args.unit.now in
    let sense = sense_in (senses_made old c.args.results.now) in
    let mid = c.is_same_again.new.unit in
    let b = c.in_ok-is_same_again.ensures.builds in
    let t = type_of old.types c.args.ty.0 in
    let said_there = subst (λ (senses : List Sense). IsSaid w s (sense_in senses) leaf c.args.said.now) (sym (mades_kept old mid b c.args.results.now c.requires.results)) said in
    let same : true ≡ spec.is_same_again w s sense t leaf = sym c.if-not-branch.false ∙ c.in_ok-is_same_again.ensures.same w uses leaf said in
    let one : true ≡ spec.has_one_linkage w s sense leaf = sym c.if-not-said.false ∙ said.one_linkage in
    let is = read_kept old mid b c.args.results.now c.requires.results (λ x. spec.internal_fits w s x c.args.defined (type_of mid.types c.args.ty.0) leaf)
    ∙ (ap (λ (x : Ctype). spec.internal_fits w s sense c.args.defined x leaf) (b.types c.args.ty.0 c.requires.ty) ∙ agrees_so w s sense c.args.defined t leaf same one) in
    subst (λ (y : Bool). IfOk c.internal_fits.result (λ (x : Bool). x ≡ y)) is (c.internal_fits.ensures.fits w uses leaf said_there)
