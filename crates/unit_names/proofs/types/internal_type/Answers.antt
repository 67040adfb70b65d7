use Rattle.std.proofs.Common.{Some, Option, option_map, ap, ◌∙◌}
use Rattle.c_senses.specs.Sense.{sense_in}
use Rattle.c_results.specs.Standing.{senses_made}
use Rattle.std.proofs.lemmas.Result.{IfOk-weaker}
use Rattle.core_nodes.proofs.Growing.{builds_on}
use Rattle.c_types.specs.Trees.{Ctype}
use Rattle.c_senses.specs.Entities.{with_length}
use Rattle.c_meanings.proofs.Tests.{if_then, if_else}
use Rattle.unit_names.proofs.types.internal_type.Goals as goal

pub returns-then-is_defined-clause-made : goal.returns-then-is_defined-clause-made
returns-then-is_defined-clause-made c =
    let sense = sense_in (senses_made c.args.unit.now c.args.results.now) in
    IfOk-weaker c.own_type.result _ _ (λ t h. if_then _ _ _ _ _ (c.is_defined.ensures sense) c.if-is_defined.true h) c.own_type.ensures.made

pub returns-clause-builds : goal.returns-clause-builds
returns-clause-builds c = builds_on c.args.unit.now c.types_together.new.unit c.with_one.new.unit c.in_ok-found.ensures.builds c.with_one.ensures.builds

pub returns-clause-made : goal.returns-clause-made
returns-clause-made c =
    let sense = sense_in (senses_made c.args.unit.now c.args.results.now) in
    IfOk-weaker c.with_one.result _ _
    (λ t h. if_else _ _ _ _ _ (c.is_defined.ensures sense) c.if-is_defined.false (h ∙ ap (λ (o : Option Ctype). option_map (with_length (Some 1)) o) c.in_ok-found.ensures.made)) c.with_one.ensures.made
