-- What is known of names goes on standing while nodes are made.
use Rattle.std.proofs.Common.{◌≡◌, ℕ, ◌<◌, ◌≤◌, List, [], ◌∷◌, ◌++◌, length}
use Rattle.core_tree.specs.declared.node.Unit.{Unit}
use Rattle.c_types.specs.Table.{type_of}
use Rattle.c_results.specs.declared.made.Made.{Made}
use Rattle.c_results.specs.Standing.{senses_made}
use Rattle.tree_reads.specs.declared.syntax.Syntax.{Syntax}
use Rattle.c_meanings.specs.declared.names.Names.{Names}
use Rattle.c_meanings.specs.Known.{AreNames}

-- with one more result
pub names_more : (syntax : Syntax) (u : Unit) (results : List Made) (m : Made) (names : Names) → AreNames syntax u results names → AreNames syntax u (results ++ m ∷ []) names
names_more syntax u results m names h = record { named = record { chained = h.named.chained } }

-- with more types and nodes, where the senses stay
pub names_kept : (syntax : Syntax) (old new : Unit) (results : List Made) (names : Names) → senses_made new results ≡ senses_made old results → length old.types.terms ≤ length new.types.terms
    → ((id : ℕ) → id < length old.types.terms → type_of new.types id ≡ type_of old.types id) → AreNames syntax old results names → AreNames syntax new results names
names_kept syntax old new results names senses more types h = record { named = record { chained = h.named.chained } }
