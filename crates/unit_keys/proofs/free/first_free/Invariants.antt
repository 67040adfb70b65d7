use Rattle.std.proofs.Common.{◌≡◌, ℕ, List, map, drop}
use Rattle.c_senses.specs.Tree.{spelling_at}
use Rattle.tree_reads.specs.Sources.{source_in}
use Rattle.unit_keys.specs.Words.{has_word}
use Rattle.unit_keys.specs.Free.{first_untaken}
use Rattle.unit_keys.proofs.free.first_free.Given as goal

abbrev pub invariant-loop-leaf : goal.invariant-loop-leaf
invariant-loop-leaf l = (uses : List (ℕ × ℕ)) →
    first_untaken (has_word l.taken) (map (spelling_at (source_in l.syntax uses)) (drop l.leaf-index l.leaves))
    ≡ first_untaken (has_word l.taken) (map (spelling_at (source_in l.syntax uses)) l.leaves)
