use Rattle.std.proofs.Common.{arith, ◌<◌, length, refl, sym, ◌∙◌}
use Rattle.tree_reads.specs.Sources.{source_in}
use Rattle.unit_keys.proofs.given_keys.Marking.{flags_same, flags_more}
use Rattle.unit_keys.proofs.given_keys.flags.mark_node.Goals as goal

pub returns-then-not-is_structure_at-clause-marked : goal.returns-then-not-is_structure_at-clause-marked
returns-then-not-is_structure_at-clause-marked c = λ uses roles h below. flags_same (source_in c.args.syntax.now uses) c.args.node c.args.flags.now.items (sym (c.is_structure_at.ensures (source_in c.args.syntax.now uses) roles) ∙ c.if-not-is_structure_at.true) below

pub returns-clause-marked : goal.returns-clause-marked
returns-clause-marked c = λ uses roles h below.
    let lt : c.tag_declared-declared.result < length c.args.flags.now.items = omega (arith, c.if-declared-len.false, c.len.ensures) in
    flags_more (source_in c.args.syntax.now uses) c.args.node c.tag_declared-declared.result c.args.flags.now.items _ (sym (c.is_structure_at.ensures (source_in c.args.syntax.now uses) roles) ∙ c.if-not-is_structure_at.false) (c.tag_declared-declared.ensures uses h) lt refl below
