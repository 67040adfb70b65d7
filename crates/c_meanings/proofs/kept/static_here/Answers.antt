use Rattle.std.proofs.Common.{◌∙◌}
use Rattle.c_meanings.proofs.Onward.{static_stays}
use Rattle.c_meanings.proofs.kept.static_here.Goals as goal

pub returns-clause-stays : goal.returns-clause-stays
returns-clause-stays c = λ settled u uses more.
    c.is_static_at_file.ensures u uses ∙ static_stays c.args.syntax.now c.args.results.now c.args.leaf (c.is_settled.ensures settled) u uses more
