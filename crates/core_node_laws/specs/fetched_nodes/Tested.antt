-- What was asked of the values of places and of calls where they were made.
use Rattle.std.specs.Prelude.{ℕ, ◌≡◌, ◌||◌, ⊤, true, List, length}
use Rattle.c_types.specs.Trees.{Ctype}
use Rattle.core_tree.specs.declared.node.NodeKind.{NodeKind}
use Rattle.core_tree.specs.declared.node.NodeKind.TheVariants.{Fetch, CallNode}
use Rattle.c_consts.specs.Core.{Core, kind_of, ctype_of}
use Rattle.core_nodes.specs.passed.c_senses.Tree.{Source}
use Rattle.core_nodes.specs.passed.c_senses.World.{World}
use Rattle.core_nodes.specs.passed.c_senses.Conversions.{operand_of, is_fetched, is_list}
use Rattle.core_nodes.specs.passed.c_senses.Objects.{is_returned}
use Rattle.core_nodes.specs.passed.c_senses.Rows.{AreSenses, world_at}
use Rattle.core_nodes.specs.passed.c_senses.Sense.{Sense, sense_in}
use Rattle.parsed_tree_laws.specs.passed.sense_laws.Senses.{ChildrenFirst}
use Rattle.core_node_laws.specs.fetched_nodes.Holding.{OfSense}

-- 6.3.2.1p2: what is fetched is a scalar, a variadic list, or a structure or union that is complete; 6.5.2.2p1: what
-- a call gives is void or has a size
abbrev pub IsTestedKind : World → NodeKind → Ctype → Type 0
IsTestedKind w Fetch t = is_fetched w (operand_of t) || is_list t ≡ true
IsTestedKind w CallNode t = is_returned w t ≡ true
IsTestedKind w kind t = ⊤

abbrev pub IsTested : World → Core → Type 0
IsTested w c = IsTestedKind w (kind_of c) (ctype_of c)

-- in all trees of the senses it holds of the world at their end
abbrev pub ValuesTested : Type 0
ValuesTested =
    (s : Source) (senses : List Sense)
    → AreSenses s senses
    → ChildrenFirst s
    → (i : ℕ)
    → OfSense (IsTested (world_at s senses (length senses))) (sense_in senses i)
