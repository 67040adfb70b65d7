use Rattle.std.proofs.Common.{arith, ◌≤◌, subst}
use Rattle.c_types.specs.Made.{IsSized}
use Rattle.c_types.specs.declared.term.Term.TheVariants.{Integer}
use Rattle.c_structures.proofs.Fielding.{size_small}
use Rattle.c_structures.proofs.bits.bits_in.Goals as goal

pub overflow_mul-result : goal.overflow_mul-result
overflow_mul-result c =
    let sized : IsSized (Integer c.in-Integer.size c.in-Integer.rank c.in-Integer.signed) = subst IsSized c.in-Integer.is (c.type_count-count.ensures.made.sizes c.args.ty.0 c.term.result.now c.term.ensures.value) in
    let small : c.in-Integer.size ≤ 8 = size_small c.in-Integer.size sized in
    omega arith
