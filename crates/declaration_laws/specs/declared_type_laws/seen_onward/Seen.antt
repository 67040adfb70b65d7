-- Which declarations with linkage are seen where a name is declared (C11 6.2.1p4, 6.2.2p4).
use Rattle.std.specs.Prelude.{ℕ, ◌≡◌, ◌⊎◌, true, List, [], ◌∷◌, length, Some}
use Rattle.c_lexer.specs.declared.Tokens.{Tokens}
use Rattle.c_lexer.specs.Cut.{IsTokens}
use Rattle.c_grammar.specs.declared.trees.Tree.{Tree}
use Rattle.c_parser.specs.c_units.Units.{IsUnit}
use Rattle.c_scope.specs.declared.kinds.Declared.{Declared}
use Rattle.c_senses.specs.Names.{source_of, numbered, has_linkage, linked_before}
use Rattle.c_senses.specs.Tree.{Source}

-- one of some declarations
abbrev pub In : Declared → List Declared → Type 0
In d [] = ⊥
In d (x ∷ xs) = (x ≡ d) ⊎ In d xs

-- what a seen declaration of a name with linkage saw is seen: no other declaration that hides it was made since;
-- and from file scope, whose number is that of nodes, only what is declared there is seen
pub record SeesOn (s : Source) : Type 0 where
  pub on : (x d e : Declared)
      → In x s.declared.ordinary
      → has_linkage x ≡ true
      → In d (linked_before s (Some x))
      → In e (linked_before s (Some d))
      → In e (linked_before s (Some x))
  pub file : (x d : Declared)
      → In x s.declared.ordinary
      → has_linkage x ≡ true
      → x.scope ≡ length s.nodes
      → In d (linked_before s (Some x))
      → d.scope ≡ length s.nodes

abbrev pub SeenOnward : Type 0
SeenOnward =
    (tokens : Tokens) (unit : ℕ) (tree : Tree) (tag_number : ℕ → ℕ)
    → IsTokens tokens.text.now tokens.list.items
    → IsUnit tokens unit tree
    → SeesOn (numbered tag_number (source_of tokens tree))
