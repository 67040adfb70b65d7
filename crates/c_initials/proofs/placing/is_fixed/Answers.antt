use Rattle.std.proofs.Common.{◌≡◌, sym, ◌∙◌, subst, Bool, IfOk}
use Rattle.c_senses.specs.Sense.{sense_in}
use Rattle.c_senses.specs.Initialised.{is_automatic, is_fixed_number, is_fixed_pointer}
use Rattle.core_nodes.specs.Standing.{core_at}
use Rattle.c_results.specs.Standing.{senses_made}
use Rattle.tree_reads.specs.Sources.{source_read}
use Rattle.c_initials.proofs.PlacedLaws.{or_pointer}
use Rattle.c_initials.proofs.placing.is_fixed.Goals as goal

pub returns : goal.returns
returns c = λ u w told.
    let s = source_read c.args.scope.now.syntax.now in
    let sense = sense_in (senses_made u c.args.scope.now.results.now) in
    let f = is_automatic w s sense in
    let core = core_at c.args.unit.now c.args.node in
    subst (λ (b : Bool). IfOk c.is_held.result (λ known. known ≡ b))
    (c.in_ok-base.ensures f ∙ or_pointer (is_fixed_number core) (is_fixed_pointer f core) (sym c.if-branch.false ∙ c.in_ok-are_numbers.ensures))
    (c.is_held.ensures u w told)
