use Rattle.std.proofs.Common.{ℕ, not, sym}
use Rattle.c_senses.specs.Tree.{all_where, is_leaf}
use Rattle.tree_reads.specs.Sources.{source_read}
use Rattle.expression_rows.proofs.c_rows.lists.list_row.Goals as goal

pub returns-clause-row : goal.returns-clause-row
returns-clause-row c w k fits =
    let inner = all_where (λ (i : ℕ). not (is_leaf (source_read c.args.syntax.now) i)) c.args.rest.now in
    c.sensed.ensures.row c.list_node.new.unit _ (c.list_node.ensures.made w inner k (sym c.list_parts-parts.ensures) fits)
