use Rattle.std.proofs.Common.{◌≡◌, ◌++◌, true, drop}
use Rattle.expression_rows.specs.c_rows.Literals.{are_bytes}
use Rattle.expression_rows.specs.c_rows.Pieces.{pieces}
use Rattle.tree_reads.specs.Sources.{source_read}
use Rattle.expression_rows.proofs.c_rows.literals.gathered.Given as goal

-- the bytes of the pieces so far
abbrev pub invariant-loop-leaf : goal.invariant-loop-leaf
invariant-loop-leaf l = record {
  gathered : l.text.items ++ pieces (source_read l.syntax) (drop l.leaf-index l.leaves) ≡ pieces (source_read l.syntax) l.leaves;
  bytes : are_bytes l.text.items ≡ true;
}
