use Rattle.std.proofs.Common.{sym}
use Rattle.c_types.specs.Table.{type_of}
use Rattle.core_nodes.specs.passed.c_senses.Conversions.{target_of}
use Rattle.core_nodes.specs.Standing.{core_at}
use Rattle.c_conversions.specs.Targets.{target_seen}
use Rattle.c_conversions.proofs.Failing.{targets_same, refusal_made}
use Rattle.c_conversions.proofs.table.pointers.Goals as goal

pub returns-in-Refused-clause-made : goal.returns-in-Refused-clause-made
returns-in-Refused-clause-made c = λ w k.
    let u = c.args.unit.now in
    let from = type_of u.types c.args.from.0 in
    let to = type_of u.types c.args.to.0 in
    refusal_made u _ _ _ _ c.refusal.ensures (targets_same w c.args.cast c.args.at (core_at u c.args.v) from to (target_seen c.target_of-a.result) (target_seen c.target_of-b.result) (target_of from) (target_of to) _ c.target_of-a.ensures c.target_of-b.ensures (c.in-Refused.ensures w c.args.cast c.args.at (core_at u c.args.v) from to (sym c.is_character-character.ensures)))
