use Rattle.std.specs.Prelude.{nat_lt}
use Rattle.c_mentions.specs.Mentions.{symbol_at}
use Rattle.c_mentions.specs.Syntax.{nodes_of}
use Rattle.c_scope.proofs.Unlabelled.{no_label}
use Rattle.c_scope.proofs.resolving.label_mention.Goals as goal

pub returns-in_default : goal.returns-in_default
returns-in_default c =
    let unit = c.args.unit in
    no_label unit.text.now unit.tokens.now (symbol_at unit.symbols.now) (nodes_of unit.nodes.now) c.args.node (nat_lt c.args.setting.body unit.file) c.args.setting.role c.in_default.not-Statement
