use Rattle.std.proofs.Common.{sym, ◌∙◌}
use Rattle.ref_places.proofs.Paths.{none_left}
use Rattle.ref_places.proofs.pointers.same_path.Goals as goal

pub returns-in-empty : goal.returns-in-empty
returns-in-empty c =
    sym (none_left c.loop-a.a-index c.args.p.now c.loop-a.rest.now c.loop-a-test.true c.in-empty.len_below) ∙ c.loop-a.invariant
