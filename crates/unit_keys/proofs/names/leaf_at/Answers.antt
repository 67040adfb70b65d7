use Rattle.std.proofs.Common.{◌∙◌, Bool, None, cond, ap}
use Rattle.c_senses.specs.Sense.{sense_in}
use Rattle.c_results.specs.Standing.{senses_made}
use Rattle.unit_keys.specs.Free.{name_in}
use Rattle.unit_keys.proofs.names.leaf_at.Goals as goal

pub returns-then-is_a : goal.returns-then-is_a
returns-then-is_a c = λ u uses.
    c.name_at.ensures u ∙ ap (λ (b : Bool). cond b (name_in (sense_in (senses_made u c.args.results.now) c.args.node)) None) c.if-is_a.ensures
