use Rattle.std.proofs.Common.{refl}
use Rattle.c_meanings.proofs.SameMade.{alike_stays}
use Rattle.c_meanings.proofs.alike.is_alike.Goals as goal

pub returns-then-defines_no_more : goal.returns-then-defines_no_more
returns-then-defines_no_more c = λ e.
    alike_stays c.args.syntax.now c.args.results.now c.args.one c.args.other c.in-Some.first c.in-Some-parts_of.second c.in-Some.ensures c.in-Some-parts_of.ensures (c.made_alike.ensures e)
    (c.same_lengths.ensures c.if-not-same_lengths.false) (c.if-defines_no_more.ensures refl)
