use Rattle.c_senses.specs.Sense.{Sense}
use Rattle.c_senses.specs.Entities.{is_open, own_type}
use Rattle.core_nodes.proofs.Growing.{builds_on}
use Rattle.c_results.proofs.Keeping.{mades_kept}
use Rattle.c_meanings.proofs.Tests.{with_third, without_third}
use Rattle.std.proofs.Common.{◌≡◌, List, true, ap, sym, ◌∙◌}
use Rattle.c_senses.specs.Sense.{sense_in}
use Rattle.c_results.specs.Standing.{senses_made}
use Rattle.tree_reads.specs.Sources.{source_in}
use Rattle.c_meanings.proofs.meanings.has_earlier_length.Goals as goal

pub returns-then-is_open-clause-made : goal.returns-then-is_open-clause-made
returns-then-is_open-clause-made c = λ uses.
    let s = source_in c.args.syntax.now uses in
    let sense = sense_in (senses_made c.args.unit.now c.args.results.now) in
    with_third _ _ _ (ap (is_open s sense) (sym (c.in_ok-behind.ensures.made uses)) ∙ (sym (c.is_open.ensures s sense) ∙ c.if-is_open.true))

pub returns-in_err-own-clause-builds : goal.returns-in_err-own-clause-builds
returns-in_err-own-clause-builds c = builds_on c.args.unit.now c.type_thinned.new.unit c.own_type.new.unit c.in_ok-behind.ensures.builds c.in_err-own.ensures.builds

pub returns-clause-builds : goal.returns-clause-builds
returns-clause-builds c = builds_on c.args.unit.now c.type_thinned.new.unit c.own_type.new.unit c.in_ok-behind.ensures.builds c.in_ok-own.ensures.builds

pub returns-clause-made : goal.returns-clause-made
returns-clause-made c = λ uses.
    let s = source_in c.args.syntax.now uses in
    let u0 = c.args.unit.now in
    let u1 = c.type_thinned.new.unit in
    let rs = c.args.results.now in
    let sense = sense_in (senses_made u0 rs) in
    let begun : c.has_initialiser.result ≡ true = cc in
    without_third _ _ _ _ (sym (c.has_initialiser.ensures uses sense) ∙ begun)
    (ap (is_open s sense) (sym (c.in_ok-behind.ensures.made uses)) ∙ (sym (c.is_open.ensures s sense) ∙ c.if-is_open.false))
    (c.is_open-2.ensures s sense ∙ (ap (is_open s sense) c.in_ok-own.ensures.made ∙ ap (λ (ss : List Sense). is_open s sense (own_type s (sense_in ss) c.args.leaf)) (mades_kept u0 u1 c.in_ok-behind.ensures.builds rs c.requires.results)))
