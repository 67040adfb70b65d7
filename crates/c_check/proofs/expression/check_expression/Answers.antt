use Rattle.std.proofs.Common.{◌+◌}
use Rattle.c_senses.specs.Names.{source_of}
use Rattle.tree_reads.specs.Sources.{number_in}
use Rattle.unit_walk.specs.Ground.{source_ground}
use Rattle.c_check.proofs.Answering.{answered, refused_early, built_answer, built_early}
use Rattle.c_check.proofs.ToldTrees.{none_there}
use Rattle.c_check.proofs.expression.check_expression.Goals as goal

pub carried-requires-clause-told : goal.carried-requires-clause-told
carried-requires-clause-told c =
    let w = c.in-Ok.walked in
    let ok = c.in-Ok.ensures in
    none_there (source_of c.args.tokens.now c.args.tree.now) (source_ground w.ground c.args.bound.now) (number_in w.ground.numbered.syntax.tag_numbers) ok.source ok.dense c.args.node c.args.known.now.list.items c.args.unit.now c.requires.told

pub returns-in-Ok-clause-answer : goal.returns-in-Ok-clause-answer
returns-in-Ok-clause-answer c =
    let w = c.in-Ok.walked in
    let ok = c.in-Ok.ensures in
    answered (source_of c.args.tokens.now c.args.tree.now) (source_ground w.ground c.args.bound.now) (number_in w.ground.numbered.syntax.tag_numbers) ok.source ok.dense c.args.node c.args.known.now.list.items c.carried.new.list.items c.args.known.now.owner c.args.unit.now c.carried.new.unit c.carried.result c.carried.ensures.answer

pub returns-in-Ok-clause-built : goal.returns-in-Ok-clause-built
returns-in-Ok-clause-built c =
    built_answer c.rows_are_built.ensures (source_ground c.in-Ok.walked.ground c.args.bound.now) c.args.node c.args.known.now.list.items c.carried.new.list.items c.args.known.now.owner c.args.unit.now c.carried.new.unit c.carried.result c.carried.ensures.answer

pub returns-in-Err-clause-answer : goal.returns-in-Err-clause-answer
returns-in-Err-clause-answer c =
    refused_early (source_of c.args.tokens.now c.args.tree.now) c.args.node c.args.known.now.list.items c.args.known.now.list.items c.args.known.now.owner c.args.unit.now c.args.unit.now c.in-Err.fault c.in-Err.ensures.refused

pub returns-in-Err-clause-built : goal.returns-in-Err-clause-built
returns-in-Err-clause-built c = built_early c.rows_are_built.ensures (source_of c.args.tokens.now c.args.tree.now) (c.args.node + 1) c.in-Err.fault c.in-Err.ensures.refused
