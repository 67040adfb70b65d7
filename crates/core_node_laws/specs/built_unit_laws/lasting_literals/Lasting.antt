-- Compound literals of a unit that is made of the senses of a whole tree.
use Rattle.std.specs.Prelude.{ℕ, ◌≡◌, List}
use Rattle.core_tree.specs.declared.node.Unit.{Unit}
use Rattle.core_tree.specs.declared.node.NodeKind.TheVariants.{Literal}
use Rattle.core_tree.specs.Typed.{trees_of}
use Rattle.core_tree.specs.Range.{EachNode, entity_at}
use Rattle.core_tree.specs.Valid.{IsLasting}
use Rattle.c_senses.specs.Tree.{Source}
use Rattle.c_senses.specs.Sense.{Sense}
use Rattle.c_senses.specs.Right.{Numbering}
use Rattle.core_node_laws.specs.standing_laws.Standing.{IsGrown, IsMade}

-- each literal's entity lives for the whole run or with its block
abbrev pub LiteralsLast : Type 0
LiteralsLast =
    (s : Source) (senses : List Sense) (numbering : Numbering) (u : Unit) → IsGrown s → IsMade s senses numbering u
    → EachNode (trees_of u) (λ n node. (e : ℕ) → node.kind ≡ Literal e → IsLasting (entity_at (trees_of u) e))
