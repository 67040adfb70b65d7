use Rattle.std.proofs.Common.{arith, ◌∙◌}
use Rattle.tree_reads.specs.Sources.{source_in}
use Rattle.unit_keys.specs.Words.{has_word}
use Rattle.unit_keys.proofs.Taking.{name_more, names_done}
use Rattle.unit_keys.proofs.free.take_names.Goals as goal

pub loop-leaf-preserved : goal.loop-leaf-preserved
loop-leaf-preserved c = λ uses sense name.
    name_more (source_in c.args.syntax.now uses) sense c.args.leaves.now c.loop-leaf.leaf-index name c.spelling_of.result.now (has_word c.loop-leaf.taken name) (has_word c.add_word.new.words name) (omega (arith, c.loop-leaf-test.true)) c.spelling_of.ensures (c.in_ok-add_word.ensures name)
    ∙ c.loop-leaf.invariant uses sense name

pub returns : goal.returns
returns c = λ uses sense name.
    names_done (source_in c.args.syntax.now uses) sense c.args.leaves.now c.loop-leaf.leaf-index name (has_word c.loop-leaf.taken name) _ (omega (arith, c.loop-leaf-test.false)) (c.loop-leaf.invariant uses sense name)
