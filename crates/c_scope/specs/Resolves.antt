-- What it is to resolve the names of a unit (C11 6.2.1, 6.2.3).
use Rattle.std.specs.Prelude.{Contains, slice_get, take, false, ◌≡◌, ◌≢◌, ℕ, ◌+◌, nat_lt, Option, Some, None, List}
use Rattle.std.specs.Prelude.{[], ◌∷◌, length}
use Rattle.c_lexer.specs.declared.Token.{Token}
use Rattle.c_lexer.specs.declared.Tokens.{Tokens}
use Rattle.c_grammar.specs.Reads.{Node}
use Rattle.c_grammar.specs.declared.trees.Tree.{Tree}
use Rattle.c_scope.specs.declared.kinds.NameFault.{NameFault}
use Rattle.c_scope.specs.declared.kinds.NameFault.TheVariants.{Undeclared, Redeclared, OutOfMemory}
use Rattle.c_scope.specs.declared.resolving.Bound.{Bound}
use Rattle.c_mentions.specs.Syntax.{nodes_of}
use Rattle.c_mentions.specs.Symbols.{symbol_of}
use Rattle.c_mentions.specs.Settings.{AreSettings, Standing, standings}
use Rattle.c_mentions.specs.Mentions.{mention_at}
use Rattle.c_mentions.specs.declared.mentions.Mention.TheVariants.{Use}
use Rattle.c_scope.specs.declared.kinds.Declared.{Declared}
use Rattle.c_scope.specs.Known.{Happening, Known, known, nothing_known, first_label, first_fault, innermost}

module _ (text : List ℕ) (tokens : List Token) (nodes : List Node) where
  -- what a node does, by where it stands
  abbrev pub happening : ℕ → Standing → Happening
  happening n s = record {
    mention = mention_at text tokens (symbol_of text tokens) nodes n (nat_lt s.body (length nodes)) s.role;
    scopes = s.scopes;
    body = s.body;
  }

  -- what the nodes from a number on do
  abbrev pub happenings_from : ℕ → List Standing → List Happening
  happenings_from n [] = []
  happenings_from n (s ∷ ss) = happening n s ∷ happenings_from (n + 1) ss

  -- what all nodes do, in the order in which their productions end
  unfoldable pub happenings : List Happening
  happenings = happenings_from 0 (standings tokens nodes 0 nodes)

  -- what is known behind all nodes
  unfoldable pub bindings : Known
  bindings = known (length nodes) (first_label 0 happenings) 0 nothing_known happenings

-- the first fault of the names of nodes, if there is one
abbrev pub first_of : List ℕ → List Token → List Node → Option NameFault
first_of text tokens nodes = first_fault None (bindings text tokens nodes).faults

abbrev pub fault_of : Tokens → Tree → Option NameFault
fault_of tokens tree = first_of tokens.text.now tokens.list.items (nodes_of tree.nodes.items)

-- no name is at fault, and these are the uses and the gotos, in order, with what they mean, the declarations, and
-- where the nodes stand
pub record IsBound (tokens : Tokens) (tree : Tree) (bound : Bound) : Type 0 where
  pub right : fault_of tokens tree ≡ None
  pub uses : bound.uses.items ≡ (bindings tokens.text.now tokens.list.items (nodes_of tree.nodes.items)).uses
  pub labels : bound.labels.items ≡ (bindings tokens.text.now tokens.list.items (nodes_of tree.nodes.items)).labels
  pub names : bound.names.items ≡ (bindings tokens.text.now tokens.list.items (nodes_of tree.nodes.items)).names
  pub tags : bound.tags.items ≡ (bindings tokens.text.now tokens.list.items (nodes_of tree.nodes.items)).tags
  pub settings : AreSettings tokens.list.items (nodes_of tree.nodes.items) bound.settings

-- the first fault; want of memory says nothing of the unit
abbrev pub IsNameFault : Tokens → Tree → NameFault → Type 0
IsNameFault tokens tree (Undeclared n) = fault_of tokens tree ≡ Some (Undeclared n)
IsNameFault tokens tree (Redeclared n) = fault_of tokens tree ≡ Some (Redeclared n)
IsNameFault tokens tree OutOfMemory = Unit {0}

-- A unit has one answer: two bounds have the same pairs, two faults that aren't want of memory are the same, and a
-- unit whose names are bound has none.
pub record OneAnswer : Type 0 where
  pub bound : (tokens : Tokens) (tree : Tree) (one other : Bound)
      → IsBound tokens tree one
      → IsBound tokens tree other
      → (one.uses.items ≡ other.uses.items) × (one.labels.items ≡ other.labels.items)
  pub fault : (tokens : Tokens) (tree : Tree) (one other : NameFault)
      → one ≢ OutOfMemory
      → other ≢ OutOfMemory
      → IsNameFault tokens tree one
      → IsNameFault tokens tree other
      → one ≡ other
  pub either : (tokens : Tokens) (tree : Tree) (bound : Bound) (fault : NameFault)
      → fault ≢ OutOfMemory
      → IsBound tokens tree bound
      → IsNameFault tokens tree fault
      → ⊥

-- what is known when a node is reached
unfoldable pub known_before : List ℕ → List Token → List Node → ℕ → Known
known_before text tokens nodes n =
    known (length nodes) (first_label 0 (happenings text tokens nodes)) 0 nothing_known
    (take n (happenings text tokens nodes))

-- a use of an ordinary name that needs a declaration
abbrev pub IsUse : Tokens → Tree → ℕ → Happening → ℕ → Type 0
IsUse tokens tree n h symbol =
    (slice_get (happenings tokens.text.now tokens.list.items (nodes_of tree.nodes.items)) n ≡ Some h)
    × (h.mention ≡ Use symbol false)

-- In a unit whose names are bound each such use has its pair: the innermost of the declarations that are known
-- there.
abbrev pub UsesArePaired : Type 0
UsesArePaired =
    (tokens : Tokens) (tree : Tree) (bound : Bound)
    → IsBound tokens tree bound
    → (n : ℕ) (h : Happening) (symbol : ℕ)
    → IsUse tokens tree n h symbol
    → (d : Declared)
    × (innermost h.scopes symbol
    (known_before tokens.text.now tokens.list.items (nodes_of tree.nodes.items) n).names
    ≡ Some d)
    × Contains bound.uses.items (n, d.node)
