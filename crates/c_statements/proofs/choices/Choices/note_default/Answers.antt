use Rattle.std.proofs.Common.{ap, ◌∙◌}
use Rattle.std.proofs.Common.{is_some, Bool, ◌||◌}
use Rattle.c_senses.specs.Sense.{sense_in}
use Rattle.c_results.specs.Standing.{senses_made}
use Rattle.tree_reads.specs.Sources.{source_in}
use Rattle.c_senses.specs.Statements.{is_default_again}
use Rattle.tree_reads.specs.leaf_maps.Numbers.{number_at}
use Rattle.c_statements.proofs.Choosing.{added, none_put}
use Rattle.c_statements.proofs.choices.Choices.note_default.Goals as goal

pub returns-in_ok-add-clause-noted : goal.returns-in_ok-add-clause-noted
returns-in_ok-add-clause-noted c = λ w uses switch.
    let old = c.args.self.now.defaults in
    added old c.add.new.self c.in-Some.switch c.args.at switch c.in_ok-add.ensures.here c.in_ok-add.ensures.others ∙ ap (λ (b : Bool). is_some (number_at old switch) || b) (c.in-Some.ensures w uses switch)

pub returns-in_default-clause-noted : goal.returns-in_default-clause-noted
returns-in_default-clause-noted c = λ w uses switch.
    let s = source_in c.args.syntax.now uses in
    let sense = sense_in (senses_made c.args.unit.now c.args.results.now) in
    none_put (is_some (number_at c.args.self.now.defaults switch)) (is_default_again w s sense switch c.args.at) (c.in_default.ensures w uses switch)
