-- What holds in the trees of nodes that stand near each other, where their rows give it.
use Rattle.std.specs.Prelude.{ℕ, ◌≡◌, ◌<◌, Bool, true, List, length, take}
use Rattle.c_consts.specs.Core.{Core}
use Rattle.core_nodes.specs.passed.c_senses.Tree.{Source, children_at}
use Rattle.core_nodes.specs.passed.c_senses.Sense.{Sense, sense_in}
use Rattle.core_nodes.specs.passed.c_senses.Rows.{AreSenses, world_at}
use Rattle.core_node_laws.specs.near_nodes.Holding.{OfSense, RowGives, Closed}

-- of a test of trees and a set of nodes that has with a node its parts and what stands to its left: where the row
-- of each of these nodes gives names, initialisers, compound literals and lists that pass, those in the trees of
-- all these nodes pass, and the names of their declarators are in the set
abbrev pub NearTreesHold : Type 0
NearTreesHold =
    (asks : Core → Bool) (s : Source) (senses : List Sense) (near : ℕ → Bool)
    → AreSenses s senses
    → Closed s (λ i. near i ≡ true)
    → ((n : ℕ) → n < length senses → near n ≡ true
    → ((c : ℕ) → near c ≡ true
    → OfSense s (λ i. near i ≡ true) (λ x. asks x ≡ true) (sense_in (take n senses) c))
    → RowGives (λ x. asks x ≡ true) (world_at s (take n senses) n) s (sense_in (take n senses)) n
    (children_at s n)) → (i : ℕ) → near i ≡ true → OfSense s (λ j. near j
    ≡ true) (λ x. asks x ≡ true) (sense_in senses i)
