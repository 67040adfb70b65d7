use Rattle.std.proofs.Common.{refl, Some, None}
use Rattle.c_types.specs.Table.{type_of}
use Rattle.c_operators.specs.c_members.Worlds.{part_of}
use Rattle.c_initials.proofs.Parts.{below_member}
use Rattle.c_initials.proofs.along.type_below.Goals as goal

pub returns-in-Some-clause-part : goal.returns-in-Some-clause-part
returns-in-Some-clause-part c = λ w h.
    below_member w (type_of c.args.types.now c.args.ty.0) c.args.step c.in-Member.k (Some (part_of c.args.types.now c.in-Some.member.now)) _ c.in-Member.is (c.in-Some.ensures.member w h) refl

pub returns-in-None-clause-part : goal.returns-in-None-clause-part
returns-in-None-clause-part c = λ w h.
    below_member w (type_of c.args.types.now c.args.ty.0) c.args.step c.in-Member.k None _ c.in-Member.is (c.in-None.ensures.member w h) refl
