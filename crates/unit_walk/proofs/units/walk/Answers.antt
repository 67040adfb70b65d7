use Rattle.std.proofs.Common.{length, sym, ap, ◌∙◌}
use Rattle.c_grammar.specs.declared.trees.Tree.{Tree}
use Rattle.c_senses.specs.Names.{source_of}
use Rattle.unit_walk.specs.Ground.{source_ground}
use Rattle.unit_walk.proofs.Stopping.{walked_whole, refused_whole}
use Rattle.unit_walk.proofs.units.walk.Goals as goal

pub returns-in-Ok-clause-walked : goal.returns-in-Ok-clause-walked
returns-in-Ok-clause-walked c =
    let w = c.in-Ok.walked in
    walked_whole (source_ground w.ground c.args.bound.now) c.in-Some.end w.unit w.results c.in-Ok.ensures.walked
    (c.in-Some.ensures ∙ sym (ap (λ (t : Tree). length t.nodes.items) c.in-Ok.ensures.tree))

pub returns-in-Err-clause-walked : goal.returns-in-Err-clause-walked
returns-in-Err-clause-walked c =
    refused_whole (source_of c.args.tokens.now c.args.tree.now) c.in-Some.end c.in-Err.fault c.in-Err.ensures.walked
