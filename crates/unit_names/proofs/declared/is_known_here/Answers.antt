use Rattle.std.proofs.Common.{◌≡◌, ℕ, Bool, true, false, cond, eqb, eq-eqb, refl, sym, ap, ◌∙◌}
use Rattle.c_senses.specs.Names.{ordinary_at}
use Rattle.c_senses.specs.Sense.{sense_in}
use Rattle.c_senses.specs.Entities.{first_of, internal_among}
use Rattle.c_results.specs.Standing.{senses_made}
use Rattle.tree_reads.specs.Sources.{source_in}
use Rattle.unit_names.proofs.declared.is_known_here.Goals as goal

pub returns-then-not-internal-clause-known : goal.returns-then-not-internal-clause-known
returns-then-not-internal-clause-known c = λ u uses.
    let s = source_in c.args.syntax.now uses in
    let sense = sense_in (senses_made u c.args.results.now) in
    let leaf = c.args.leaf in
    let e : c.args.internal ≡ false = cc in
    sym
    (ap (λ (b : Bool). eqb (cond b (first_of s sense leaf (internal_among s sense s.declared.ordinary (ordinary_at s leaf))) leaf) leaf) (sym (c.requires.internal u uses) ∙ e)
    ∙ eq-eqb leaf leaf refl)

pub first_of-requires-clause-internal : goal.first_of-requires-clause-internal
first_of-requires-clause-internal c = λ u uses.
    let e : c.args.internal ≡ true = cc in
    sym (c.requires.internal u uses) ∙ e

pub returns-clause-known : goal.returns-clause-known
returns-clause-known c = λ u uses. ap (λ (n : ℕ). eqb n c.args.leaf) (c.in_ok-first.ensures.first u uses)
