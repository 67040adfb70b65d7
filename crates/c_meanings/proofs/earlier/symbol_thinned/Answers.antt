use Rattle.std.proofs.Common.{true}
use Rattle.std.proofs.lemmas.Result.{IfOk-weaker}
use Rattle.c_meanings.proofs.Tests.{some_weaker}
use Rattle.c_meanings.proofs.earlier.symbol_thinned.Goals as goal

pub returns-clause-thin : goal.returns-clause-thin
returns-clause-thin c =
    let results = c.args.results.now in
    let links = c.args.names.now.symbols.items in
    IfOk-weaker c.thinned_list.result _ _
    (λ found h. some_weaker _ _ found (λ v g. g results true links c.in_ok-thin_symbols.ensures.linkages.internal) h)
    c.thinned_list.ensures.list
