-- Where nodes of some kinds stand that statements of a tree stand for.
use Rattle.std.specs.Prelude.{ℕ, ◌≡◌, Bool, true, false, List, Some, slice_get}
use Rattle.core_tree.specs.declared.node.Unit.{Unit}
use Rattle.core_tree.specs.declared.node.Node.{Node}
use Rattle.core_tree.specs.declared.node.NodeKind.{NodeKind}
use Rattle.core_tree.specs.declared.node.NodeKind.TheVariants.{Switch, Case, Default, Label, Goto}
use Rattle.core_tree.specs.Typed.{trees_of}
use Rattle.core_tree.specs.Range.{Under}
use Rattle.core_tree.specs.Valid.{InRows}
use Rattle.c_grammar.specs.Productions.{p_block, p_statement}
use Rattle.c_consts.specs.Core.{Core, kind_of}
use Rattle.core_nodes.specs.passed.c_senses.Tree.{Source, is_a}
use Rattle.core_nodes.specs.passed.c_senses.Sense.{Sense, IsCore, sense_in}
use Rattle.core_nodes.specs.passed.c_senses.Right.{Numbering, StandsBy}
use Rattle.parsed_tree_laws.specs.counted_parts.Counted.{CountedParts}
use Rattle.parsed_tree_laws.specs.ordered_parts.Ordered.{Beneath}
use Rattle.core_node_laws.specs.standing_laws.Standing.{IsGrown, IsMade, RunsInitialise}

-- the kinds that may be marked
abbrev pub is_mark : NodeKind → Bool
is_mark (Case n) = true
is_mark Default = true
is_mark (Label name) = true
is_mark (Goto name) = true
is_mark Switch = true
is_mark kind = false

abbrev pub MarksOnly : (NodeKind → Bool) → Type 0
MarksOnly marked = (kind : NodeKind) → is_mark kind ≡ false → marked kind ≡ false

-- of the statements beneath a block one alone stands for what is marked
abbrev pub SoleBeneath : Source → List Sense → (NodeKind → Bool) → ℕ → ℕ → Type 0
SoleBeneath s senses marked block p =
    (i : ℕ) (c : Core)
    → Beneath s block i
    → is_a s p_statement i ≡ true
    → sense_in senses i ≡ IsCore c
    → marked (kind_of c) ≡ true
    → i ≡ p

-- of the nodes under one of a unit one alone is marked
abbrev pub OneUnder : Unit → (NodeKind → Bool) → ℕ → Type 0
OneUnder u marked b =
    (x y : ℕ) (m n : Node)
    → slice_get u.nodes.items x ≡ Some m
    → slice_get u.nodes.items y ≡ Some n
    → marked m.kind ≡ true
    → marked n.kind ≡ true
    → Under (trees_of u) b x
    → Under (trees_of u) b y
    → x ≡ y

-- where one statement of a block alone stands for what is marked, one node of the block's tree alone is marked
abbrev pub MarkedOnce : Type 0
MarkedOnce =
    (s : Source) (senses : List Sense) (numbering : Numbering) (u : Unit)
    → IsGrown s
    → CountedParts s
    → IsMade s senses numbering u
    → RunsInitialise senses
    → InRows (trees_of u)
    → (marked : NodeKind → Bool)
    → MarksOnly marked
    → (block b p : ℕ) (core : Core)
    → is_a s p_block block ≡ true
    → sense_in senses block ≡ IsCore core
    → StandsBy numbering u b core
    → SoleBeneath s senses marked block p
    → OneUnder u marked b
