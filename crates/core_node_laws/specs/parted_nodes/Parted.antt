-- What holds in the trees of nodes that stand near each other, where what stands below some suffixes of declarators
-- does not: no tree of a suffix or of a node above it has a tree from below it.
use Rattle.std.specs.Prelude.{ℕ, ◌≡◌, ◌<◌, Bool, true, false, List, ◌∷◌, length, take}
use Rattle.core_tree.specs.Rows.{Has}
use Rattle.c_grammar.specs.Productions.{p_post, p_suffix}
use Rattle.c_consts.specs.Core.{Core}
use Rattle.core_nodes.specs.passed.c_senses.Tree.{Source, is_a, children_at, left_of}
use Rattle.core_nodes.specs.passed.c_senses.Sense.{Sense, sense_in}
use Rattle.core_nodes.specs.passed.c_senses.Rows.{AreSenses, world_at}
use Rattle.core_node_laws.specs.near_nodes.Holding.{OfSense, RowGives}

-- the parts of a node that is near and no suffix are near, and so is what stands to the left of an operator behind
-- it
pub record Parted (s : Source) (near : ℕ → Type 0) : Type 0 where
  pub parts : (i c : ℕ) → Has (children_at s i) c → is_a s p_suffix i ≡ false → near i → near c
  pub lefts : (i first : ℕ) (rest : List ℕ)
      → is_a s p_post i ≡ true
      → children_at s i ≡ first ∷ rest
      → near i
      → near (left_of s first)

-- where the row of each of these nodes that is no suffix gives names, initialisers, compound literals and lists
-- that pass a test, those in the trees of all these nodes pass, and the names of their declarators are among them
abbrev pub PartedTreesHold : Type 0
PartedTreesHold =
    (asks : Core → Bool) (s : Source) (senses : List Sense) (near : ℕ → Bool)
    → AreSenses s senses
    → Parted s (λ i. near i ≡ true)
    → ((n : ℕ) → n < length senses → is_a s p_suffix n ≡ false → near n ≡ true
    → ((c : ℕ) → near c ≡ true
    → OfSense s (λ i. near i ≡ true) (λ x. asks x ≡ true) (sense_in (take n senses) c))
    → RowGives (λ x. asks x ≡ true) (world_at s (take n senses) n) s (sense_in (take n senses)) n
    (children_at s n)) → (i : ℕ) → near i ≡ true → OfSense s (λ j. near j
    ≡ true) (λ x. asks x ≡ true) (sense_in senses i)
