use Rattle.std.proofs.Common.{◌≡◌, ℕ, List, map, drop}
use Rattle.std.specs.Prelude.{◌||◌}
use Rattle.c_senses.specs.Tree.{spelling_at}
use Rattle.c_senses.specs.Keys.{has_bytes}
use Rattle.c_senses.specs.Sense.{Sense}
use Rattle.tree_reads.specs.Sources.{source_in}
use Rattle.unit_keys.specs.Words.{has_word}
use Rattle.unit_keys.proofs.free.take_names.Given as goal

-- the names that are taken so far, and those that are left
abbrev pub invariant-loop-leaf : goal.invariant-loop-leaf
invariant-loop-leaf l = (uses : List (ℕ × ℕ)) (sense : ℕ → Sense) (name : List ℕ) →
    (has_word l.taken name || has_bytes (source_in l.syntax uses) sense name (map (spelling_at (source_in l.syntax uses)) (drop l.leaf-index l.leaves)))
    ≡ (has_word l.fn.taken name || has_bytes (source_in l.syntax uses) sense name (map (spelling_at (source_in l.syntax uses)) l.leaves))
