use Rattle.std.proofs.Common.{arith}
use Rattle.row_share.proofs.share_laws.Onward.{follows_earlier}
use Rattle.row_share.proofs.row_classes.onward.first_of.Goals as goal

pub bounds-rows-from : goal.bounds-rows-from
bounds-rows-from c = let lt = follows_earlier c.args.system.now c.requires.onward c.args.row c.in-Some.from c.in-Some.ensures.some.0 in let e = c.requires.before in omega arith
