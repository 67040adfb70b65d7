use Rattle.std.proofs.Common.{◌≡◌, ◌<◌, length, subst, arith}
use Rattle.unit_link.proofs.link_program.Readying.{ReadyTo, ready_none, ready_more, ready_all}
use Rattle.unit_link.proofs.link_program.ready.ready.Goals as goal

pub loop-id-init : goal.loop-id-init
loop-id-init c = ready_none _

pub loop-id-preserved : goal.loop-id-preserved
loop-id-preserved c =
    let added = c.in_ok-add_ready.ensures in
    ready_more c.args.types.now c.loop-id.types c.add_ready.new.types c.loop-id.id c.loop-id.invariant (omega (arith, c.type_count-count.ensures.count)) added.grown added.here added.added

pub returns-clause-ready : goal.returns-clause-ready
returns-clause-ready c =
    let whole : c.loop-id.id ≡ length c.args.types.now.terms = omega (arith, c.type_count-count.ensures.count) in
    ready_all c.args.types.now c.loop-id.types (subst (ReadyTo c.args.types.now c.loop-id.types) whole c.loop-id.invariant)
