use Rattle.std.proofs.Common.{◌<◌, sym, ap, arith}
use Rattle.c_mentions.specs.Syntax.{nodes_of}
use Rattle.c_mentions.specs.Declarators.{around}
use Rattle.c_mentions.proofs.Levels.{inner_before, declarator_inner, declarator_level}
use Rattle.c_mentions.proofs.declarators.+declarator_at.Goals as goal

pub declarator_at-inner-requires : goal.declarator_at-inner-requires
declarator_at-inner-requires t c =
    let l : c.in-Some.inner < c.args.node = inner_before (nodes_of c.args.nodes.now) c.args.node c.in-Some.inner (sym c.in-Some.ensures) in
    (omega arith, tt)

pub returns-in-Some : goal.returns-in-Some
returns-in-Some t c =
    let e = declarator_inner c.args.tokens.now (nodes_of c.args.nodes.now) c.args.node c.in-Some.inner (sym c.in-Some.ensures) in
    let f = ap (around c.args.tokens.now (nodes_of c.args.nodes.now) c.args.node) c.declarator_at-inner.ensures in
    cc (e, f)

pub returns-in-None : goal.returns-in-None
returns-in-None t c =
    let e = declarator_level c.args.tokens.now (nodes_of c.args.nodes.now) c.args.node (sym c.in-None.ensures) in
    cc e
