use Rattle.c_initialise.specs.declared.c_braces.tree.InitNode.TheVariants.{Braces as BracesNode}
use Rattle.c_initialise.proofs.c_braces.Grown.{push_grows, braces_pushed}
use Rattle.c_initialise.proofs.c_braces.growing.push_braces.Goals as goal

pub returns-clause-init : goal.returns-clause-init
returns-clause-init c = braces_pushed c.args.types.now c.args.inits.now.items c.push_init.new.inits.items c.args.node c.args.items c.in_ok-at.at c.in_ok-at.ensures.list c.in_ok-at.ensures.at c.requires.inits c.requires.items

pub returns-clause-grows : goal.returns-clause-grows
returns-clause-grows c = push_grows c.args.types.now c.args.inits.now.items c.push_init.new.inits.items (BracesNode c.args.node c.args.items) c.in_ok-at.ensures.list c.requires.inits c.requires.items
