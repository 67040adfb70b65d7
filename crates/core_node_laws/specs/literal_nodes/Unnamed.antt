-- By which leaves the objects of compound literals are known.
use Rattle.std.specs.Prelude.{ℕ, ◌≡◌, ⊤, false, List}
use Rattle.core_tree.specs.declared.node.NodeKind.{NodeKind}
use Rattle.core_tree.specs.declared.node.NodeKind.TheVariants.{Literal}
use Rattle.c_consts.specs.Core.{Core, kind_of}
use Rattle.core_nodes.specs.passed.c_senses.Tree.{Source, is_name}
use Rattle.core_nodes.specs.passed.c_senses.Rows.{AreSenses}
use Rattle.core_nodes.specs.passed.c_senses.Sense.{Sense, sense_in}
use Rattle.core_node_laws.specs.literal_nodes.Holding.{OfSense}

-- the leaf of a compound literal is no name
abbrev pub IsUnnamedKind : Source → NodeKind → Type 0
IsUnnamedKind s (Literal leaf) = is_name s leaf ≡ false
IsUnnamedKind s kind = ⊤

abbrev pub IsUnnamed : Source → Core → Type 0
IsUnnamed s c = IsUnnamedKind s (kind_of c)

-- whatever the senses are
abbrev pub LiteralsUnnamed : Type 0
LiteralsUnnamed =
    (s : Source) (senses : List Sense) → AreSenses s senses → (i : ℕ) → OfSense (IsUnnamed s) (sense_in senses i)
