-- Where the names of a parsed unit are used, and what the nodes at one place name.
use Rattle.std.specs.Prelude.{ℕ, ◌≡◌, true, List, [], ◌∷◌, Some, slice_get}
use Rattle.c_lexer.specs.declared.Tokens.{Tokens}
use Rattle.c_lexer.specs.Cut.{IsTokens}
use Rattle.c_grammar.specs.declared.trees.Tree.{Tree}
use Rattle.c_grammar.specs.Productions.{p_rest, p_specs, p_type, p_struct, p_enum, p_primary}
use Rattle.c_grammar.specs.Terminals.{contains}
use Rattle.c_parser.specs.c_units.Units.{IsUnit}
use Rattle.core_tree.specs.declared.node.Unit.{Unit}
use Rattle.core_tree.specs.declared.node.Node.{Node}
use Rattle.core_tree.specs.Valid.{IsUseOf}
use Rattle.c_senses.specs.Names.{source_of, numbered}
use Rattle.c_senses.specs.Tree.{Source, production_at, children_at, paired}
use Rattle.c_senses.specs.Right.{Right}

-- the productions that a name that is used may be a part of
abbrev pub using : List ℕ
using = p_rest ∷ p_specs ∷ p_type ∷ p_struct ∷ p_enum ∷ p_primary ∷ []

-- what is paired with a declaration is a part of no other node
pub record UsesStand (s : Source) : Type 0 where
  pub each : (p n x : ℕ)
      → contains (children_at s p) n ≡ true
      → paired s.uses n ≡ Some x
      → contains using (production_at s p) ≡ true

abbrev pub UsesAreParts : Type 0
UsesAreParts =
    (tokens : Tokens) (unit : ℕ) (tree : Tree) (tag_number : ℕ → ℕ) → IsTokens tokens.text.now tokens.list.items
    → IsUnit tokens unit tree → UsesStand (numbered tag_number (source_of tokens tree))

-- the nodes that name entities stand in the unit of that number, and those at one place name one entity
pub record UsesOnce (unit : ℕ) (u : Unit) : Type 0 where
  pub placed : (n e : ℕ) (a : Node) → slice_get u.nodes.items n ≡ Some a → IsUseOf a.kind e → a.place.unit ≡ unit
  pub one : (n m e f : ℕ) (a b : Node) → slice_get u.nodes.items n ≡ Some a → slice_get u.nodes.items m ≡ Some b
      → IsUseOf a.kind e → IsUseOf b.kind f → a.place.line ≡ b.place.line → a.place.column ≡ b.place.column → e ≡ f

-- so it is in each unit that is right for a text that is cut and read
abbrev pub RightUsesOnce : Type 0
RightUsesOnce =
    (tokens : Tokens) (unit : ℕ) (tree : Tree) (tag_number : ℕ → ℕ) (name : List ℕ) (u : Unit)
    → IsTokens tokens.text.now tokens.list.items
    → IsUnit tokens unit tree → Right (numbered tag_number (source_of tokens tree)) name u → UsesOnce unit u
