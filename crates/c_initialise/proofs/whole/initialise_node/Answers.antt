use Rattle.std.proofs.Common.{ap}
use Rattle.c_initialise.specs.c_braces.Tree.{init_at}
use Rattle.c_initialise.specs.Facts.{told}
use Rattle.c_initialise.proofs.Given.{seen_init, answers}
use Rattle.c_initialise.proofs.whole.initialise_node.Goals as goal

pub returns : goal.returns
returns c =
    let table = c.args.source.now.unit.now.types in
    let s = told c.args.source.now in
    let init = init_at table c.read_init.new.inits.items c.in_ok-at.at in (
      init,
      seen_init s c.args.source.now.syntax.now.tree.now.nodes.items c.args.node init c.in_ok-at.ensures.init,
      answers table c.args.limit c.args.id.0 (init_at table c.as_slice.result.now c.in_ok-at.at) init c.in_ok-answer.answer
          (ap (λ l. init_at table l c.in_ok-at.at) c.as_slice.ensures.value) c.in_ok-answer.ensures,
    )
