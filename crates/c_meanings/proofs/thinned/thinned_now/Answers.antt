use Rattle.std.proofs.Common.{false}
use Rattle.std.proofs.lemmas.Result.{IfOk-weaker}
use Rattle.c_meanings.proofs.Tests.{some_weaker}
use Rattle.c_meanings.proofs.thinned.thinned_now.Goals as goal

pub returns-clause-list : goal.returns-clause-list
returns-clause-list c =
    let results = c.args.results.now in
    let links = c.args.links.now in
    IfOk-weaker c.thinned_list.result _ _
    (λ found h. some_weaker _ _ found (λ v g. g results false links c.in_ok-thin_all.ensures.thinned) h)
    c.thinned_list.ensures.list
