use Rattle.c_initialise.specs.declared.c_braces.tree.InitNode.TheVariants.{Value as ValueNode}
use Rattle.c_initialise.proofs.c_braces.Grown.{push_grows, value_pushed}
use Rattle.c_initialise.proofs.c_braces.growing.push_value.Goals as goal

pub returns-clause-init : goal.returns-clause-init
returns-clause-init c = value_pushed c.args.types.now c.args.inits.now.items c.push_init.new.inits.items c.args.node c.args.value c.in_ok-at.at c.in_ok-at.ensures.list c.in_ok-at.ensures.at c.requires.inits c.requires.value

pub returns-clause-grows : goal.returns-clause-grows
returns-clause-grows c = push_grows c.args.types.now c.args.inits.now.items c.push_init.new.inits.items (ValueNode c.args.node c.args.value) c.in_ok-at.ensures.list c.requires.inits c.requires.value
