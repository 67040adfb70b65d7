-- All rows of a tree in order.
use Rattle.std.specs.Prelude.{◌≡◌, ℕ, List, [], ◌∷◌, ◌++◌, length, take, Some, None, ◌⊎◌, All, true, is_some}
use Rattle.pta_base.specs.declared.kind.Kind.{Kind}
use Rattle.c_lexer.specs.declared.Tokens.{Tokens}
use Rattle.c_grammar.specs.declared.trees.Tree.{Tree}
use Rattle.c_grammar.specs.declared.trees.SyntaxNode.{SyntaxNode}
use Rattle.c_scope.specs.declared.resolving.Bound.{Bound}
use Rattle.c_scope.specs.Resolves.{IsBound}
use Rattle.c_senses.specs.Tree.{Source, is_a, last_where, all_nodes, Names}
use Rattle.c_senses.specs.Names.{source_of, source_with, entry_of}
use Rattle.c_senses.specs.Given.{Given, Fits, Refuses, ◌>>=◌}
use Rattle.c_senses.specs.Sense.{Sense, Nothing, sense_in}
use Rattle.c_senses.specs.Rows.{row, AreSenses, RefusedAt}
use Rattle.c_senses.specs.Places.{own_place}
use Rattle.sense_cases.specs.Branches.{Branch, source}
use Rattle.sense_cases.specs.Columns.{sense_by}

-- the senses of all nodes, each by its row over those before it, or the first refusal
abbrev pub run : Source → List Sense → List SyntaxNode → Given (List Sense)
run s senses [] = Fits senses
run s senses (n ∷ rest) = row s senses (length senses) n >>= (λ x. run s (senses ++ x ∷ []) rest)

abbrev pub all_senses : Source → Given (List Sense)
all_senses s = run s [] s.nodes

-- What the run comes to is what the rows give: the senses of all nodes, or the first refusal.
pub record Computed : Type 0 where
  pub senses : (s : Source) (senses : List Sense)
      → all_senses s ≡ Fits senses
      → AreSenses s senses × (length senses ≡ length s.nodes)
  pub refusal : (s : Source) (kind : Kind) (named : ℕ) → all_senses s ≡ Refuses kind named → RefusedAt s kind named

-- A tree has its senses or exactly one first refusal: two lists of all senses are the same, two refusals are the
-- same, and none has both.
pub record OneReading : Type 0 where
  pub decided : (s : Source)
      → ((senses : List Sense) × AreSenses s senses × (length senses ≡ length s.nodes))
      ⊎ ((kind : Kind) × (named : ℕ) × RefusedAt s kind named)
  pub senses : (s : Source) (one other : List Sense)
      → AreSenses s one
      → length one ≡ length s.nodes
      → AreSenses s other
      → length other ≡ length s.nodes
      → one ≡ other
  pub refusal : (s : Source) (k l : Kind) (m n : ℕ) → RefusedAt s k m → RefusedAt s l n → (k ≡ l) × (m ≡ n)
  pub either : (s : Source) (senses : List Sense) (k : Kind) (n : ℕ)
      → AreSenses s senses
      → length senses ≡ length s.nodes
      → RefusedAt s k n
      → ⊥

-- Where the names of a unit are bound, its source has the pairs that were found.
abbrev pub BoundSource : Type 0
BoundSource =
    (tokens : Tokens) (tree : Tree) (bound : Bound)
    → IsBound tokens tree bound
    → source_of tokens tree ≡ source_with tokens tree bound.uses.items

-- Each use is paired with a declaration that was made, of an ordinary name or of a tag.
abbrev pub IsMade : Names → ℕ × ℕ → Type 0
IsMade names pair =
    (is_some (entry_of names.ordinary pair.1) ≡ true) ⊎ (is_some (entry_of names.tags pair.1) ≡ true)

abbrev pub DeclarationsMade : Type 0
DeclarationsMade =
    (tokens : Tokens) (tree : Tree)
    → All (λ pair. IsMade (source_of tokens tree).declared pair) (source_of tokens tree).uses

-- what a tree comes to: the sense of its last node of a production, with entities and tags by their columns, or a
-- kind and the column at which it is refused
pub data Outcome : Type 0 where
  Stands : Sense → Outcome
  Refused : (kind : Kind) (column : ℕ) → Outcome

abbrev pub sense_of_last : Source → ℕ → List Sense → Sense
sense_of_last s production senses =
    elim (last_where (is_a s production) (all_nodes s)) [ None ↦ Nothing | Some i ↦ sense_in senses i ]

abbrev pub come_of : Source → ℕ → Given (List Sense) → Outcome
come_of s production (Fits senses) = Stands (sense_by s (sense_of_last s production senses))
come_of s production (Refuses kind node) = Refused kind (own_place s node).column

abbrev pub outcome : Branch → ℕ → Outcome
outcome b production = let s = source b in come_of s production (all_senses s)

-- what it comes to before the row of the last node of another production
abbrev pub nodes_before : Source → ℕ → List SyntaxNode
nodes_before s production =
    elim (last_where (is_a s production) (all_nodes s)) [ None ↦ s.nodes | Some i ↦ take i s.nodes ]

abbrev pub outcome_before : Branch → (stop production : ℕ) → Outcome
outcome_before b stop production = let s = source b in come_of s production (run s [] (nodes_before s stop))
