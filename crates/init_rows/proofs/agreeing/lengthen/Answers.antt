use Rattle.std.proofs.Common.{sym, ap, ◌∙◌}
use Rattle.c_types.specs.Trees.{Ctype}
use Rattle.c_types.specs.Table.{type_of}
use Rattle.c_senses.specs.World.{extent}
use Rattle.c_senses.specs.Limits.{is_small, within_limits}
use Rattle.core_nodes.proofs.Growing.{knows_on}
use Rattle.init_rows.proofs.TypeLaws.{limits_are}
use Rattle.init_rows.proofs.agreeing.lengthen.Goals as goal

pub returns-clause-limited : goal.returns-clause-limited
returns-clause-limited c = λ w knows limited.
    let old = c.args.unit.now in
    let mid = c.with_length.new.unit in
    let t = type_of old.types c.args.declared.ty.0 in
    let whole = type_of mid.types c.in-Ok.ty.0 in
    let small = c.is_small-small.ensures ∙ (ap is_small (sym ((knows_on w old mid c.in-Ok.ensures.builds knows).extents whole)) ∙ ap (λ (x : Ctype). is_small (extent w x)) c.in-Ok.ensures.made) in
    limits_are w t c.args.seen c.args.declared.limited c.is_small-small.result c.both-limited.result limited small c.both-limited.ensures ∙ sym (ap (within_limits w) c.in-Ok.ensures.made)
