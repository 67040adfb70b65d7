use Rattle.std.proofs.Common.{◌<◌, length, sym, ◌∙◌, arith}
use Rattle.row_share.proofs.share_laws.EqualSets.{its_copy}
use Rattle.row_share.proofs.share_laws.Marking.{copy_rows}
use Rattle.row_share.proofs.row_classes.Books.{at_any}
use Rattle.row_share.proofs.row_classes.inflow.followed.Goals as goal

pub returns-in-CopyOf-clause-some : goal.returns-in-CopyOf-clause-some
returns-in-CopyOf-clause-some c =
    let lt : c.args.row < length c.args.inflows.now = (let s = c.requires.inflows.sized in let r = c.requires.row in omega arith) in
    let follows = c.requires.inflows.follows c.args.row c.in-CopyOf.from c.requires.row (at_any c.args.inflows.now c.args.row _ _ lt c.in-CopyOf.is) in
    (follows, (copy_rows c.args.system.now c.requires.valid c.in-CopyOf.from c.args.row (its_copy c.args.system.now c.args.row c.in-CopyOf.from follows)).0)

pub returns-in-Nothing-clause-none : goal.returns-in-Nothing-clause-none
returns-in-Nothing-clause-none c from follows =
    let lt : c.args.row < length c.args.inflows.now = (let s = c.requires.inflows.sized in let r = c.requires.row in omega arith) in
    let e = sym (at_any c.args.inflows.now c.args.row _ _ lt c.in-Nothing.is) ∙ c.requires.inflows.shown c.args.row from c.requires.row follows in cc

pub returns-in-More-clause-none : goal.returns-in-More-clause-none
returns-in-More-clause-none c from follows =
    let lt : c.args.row < length c.args.inflows.now = (let s = c.requires.inflows.sized in let r = c.requires.row in omega arith) in
    let e = sym (at_any c.args.inflows.now c.args.row _ _ lt c.in-More.is) ∙ c.requires.inflows.shown c.args.row from c.requires.row follows in cc
