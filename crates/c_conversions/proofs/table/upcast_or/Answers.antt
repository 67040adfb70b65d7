use Rattle.std.proofs.Common.{Ok, Option, ℕ, subst}
use Rattle.c_types.specs.Table.{type_of}
use Rattle.core_nodes.specs.passed.c_senses.Conversions.{upcast}
use Rattle.core_nodes.specs.Standing.{core_at}
use Rattle.c_conversions.specs.Targets.{UpcastMade}
use Rattle.c_conversions.proofs.Failing.{structure_stays, structure_ends, refusal_made}
use Rattle.c_conversions.proofs.table.upcast_or.Goals as goal

pub returns-then-not-cast-clause-made : goal.returns-then-not-cast-clause-made
returns-then-not-cast-clause-made c = λ w k.
    let u = c.args.unit.now in
    refusal_made u _ _ _ _ c.refusal.ensures (structure_stays w c.args.cast c.args.at (core_at u c.args.v) (type_of u.types c.args.from.0) (type_of u.types c.args.to.0) c.args.kind c.if-not-cast.true)

pub returns-in-None-clause-made : goal.returns-in-None-clause-made
returns-in-None-clause-made c = λ w k.
    let u = c.args.unit.now in
    let none = subst (λ (o : Option ℕ). UpcastMade c.upcast.new.unit (Ok o) (upcast w (type_of u.types c.args.from.0) (type_of u.types c.args.to.0) (core_at u c.args.v))) c.in-None.is (c.in_ok-last.ensures.made w k) in
    refusal_made u _ _ _ _ c.refusal-in-None.ensures (structure_ends w c.args.cast c.args.at (core_at u c.args.v) (type_of u.types c.args.from.0) (type_of u.types c.args.to.0) c.args.kind c.if-not-cast.false none)
