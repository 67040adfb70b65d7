use Rattle.std.proofs.Common.{refl}
use Rattle.std.proofs.lemmas.Result.{on_ok_weaker}
use Rattle.struct_rows.proofs.Completing.{completes}
use Rattle.struct_rows.proofs.completion.complete.Goals as goal

pub returns-clause-completes : goal.returns-clause-completes
returns-clause-completes c = on_ok_weaker c.complete.result (λ done.
    completes c.args.unit.now (record c.args.unit.now { types = c.complete.new.self }) c.args.tag c.args.members.items c.requires.ready refl refl
    done c.type_count-count.ensures.made c.requires.incomplete c.complete.ensures.kept) c.complete.ensures.ok
