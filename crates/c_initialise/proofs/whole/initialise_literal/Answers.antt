use Rattle.std.proofs.Common.{ap, ◌∙◌}
use Rattle.c_inits.specs.Syntax.{Braces}
use Rattle.c_initialise.specs.c_braces.Tree.{init_at, items_over}
use Rattle.c_initialise.specs.Facts.{told}
use Rattle.c_initialise.proofs.Given.{seen_items, answers}
use Rattle.c_initialise.proofs.whole.initialise_literal.Goals as goal

pub returns : goal.returns
returns c =
    let table = c.args.source.now.unit.now.types in
    let s = told c.args.source.now in
    let items = items_over (init_at table c.read_items.new.inits.items) c.in_ok-entries.entries.items in (
      items,
      seen_items s c.args.source.now.syntax.now.tree.now.nodes.items c.args.list items c.in_ok-entries.ensures.items,
      answers table c.args.limit c.args.id.0 (init_at table c.as_slice.result.now c.in_ok-at.at) (Braces c.args.brace items) c.in_ok-answer.answer
          (ap (λ l. init_at table l c.in_ok-at.at) c.as_slice.ensures.value ∙ c.in_ok-at.ensures.init) c.in_ok-answer.ensures,
    )
