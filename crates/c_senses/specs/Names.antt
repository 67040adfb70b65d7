-- What a unit's declarations say of its names (C11 6.2.1 to 6.2.3), and the source that its tokens and its tree
-- are.
use Rattle.std.specs.Prelude.{ℕ, ◌==◌, Bool, true, false, ◌&&◌, List, [], ◌∷◌, ◌++◌, map, get_or, Option, Some}
use Rattle.std.specs.Prelude.{None, if◌then◌else◌}
use Rattle.std.specs.List.{find}
use Rattle.c_inits.specs.passed.c_grammar.PassedOn.{Token}
use Rattle.c_inits.specs.passed.c_grammar.PassedOn.{Tokens}
use Rattle.c_inits.specs.passed.c_grammar.declared.trees.SyntaxNode.{SyntaxNode}
use Rattle.c_inits.specs.passed.c_grammar.declared.trees.Tree.{Tree}
use Rattle.c_scope.specs.PassedOn.{nodes_of}
use Rattle.c_scope.specs.PassedOn.{standings}
use Rattle.c_scope.specs.declared.kinds.Kind.{Kind}
use Rattle.c_scope.specs.declared.kinds.Kind.TheVariants.{Linked, Typedef}
use Rattle.c_scope.specs.declared.kinds.Declared.{Declared}
use Rattle.c_scope.specs.Known.{those_at}
use Rattle.c_scope.specs.Resolves.{bindings}
use Rattle.c_senses.specs.Tree.{Source, Names, paired}

-- what name resolution finds of a tree: its declarations in order, and the scopes around each node
unfoldable pub names_of : List ℕ → List Token → List SyntaxNode → Names
names_of text tokens nodes = record {
  ordinary = (bindings text tokens (nodes_of nodes)).names;
  tags = (bindings text tokens (nodes_of nodes)).tags;
  scopes = map (λ s. s.scopes) (standings tokens (nodes_of nodes) 0 (nodes_of nodes));
}

-- the source that the rows see, by the pairs of uses and declarations; a tag has its node's number
abbrev pub source_with : Tokens → Tree → List (ℕ × ℕ) → Source
source_with tokens tree uses = record {
  unit = tree.unit;
  text = tokens.text.now;
  tokens = tokens.list.items;
  nodes = tree.nodes.items;
  uses = uses;
  declared = names_of tokens.text.now tokens.list.items tree.nodes.items;
  tag_number = λ node. node;
}

-- the source of a unit
unfoldable pub source_of : Tokens → Tree → Source
source_of tokens tree =
    source_with tokens tree (bindings tokens.text.now tokens.list.items (nodes_of tree.nodes.items)).uses

-- the same source with other numbers of tags
abbrev pub numbered : (ℕ → ℕ) → Source → Source
numbered tag_number s = record s { tag_number = tag_number }

-- a declaration of a name with linkage, and one of a typedef name
abbrev pub is_linked_kind : Kind → Bool
is_linked_kind Linked = true
is_linked_kind kind = false

abbrev pub is_typedef_kind : Kind → Bool
is_typedef_kind Typedef = true
is_typedef_kind kind = false

abbrev pub has_linkage : Declared → Bool
has_linkage d = is_linked_kind d.kind

abbrev pub names_type : Declared → Bool
names_type d = is_typedef_kind d.kind

-- the declaration that a leaf makes, and those that are made before it
abbrev pub entry_of : List Declared → ℕ → Option Declared
entry_of ds leaf = find (λ d. d.node == leaf) ds

abbrev pub made_before : ℕ → List Declared → List Declared
made_before leaf [] = []
made_before leaf (d ∷ rest) = if d.node == leaf then [] else d ∷ made_before leaf rest

-- Along the scopes around a node, the innermost first: the declarations of a name with linkage, those of the
-- outermost scope first. One without linkage hides those of the scopes around its own (6.2.1p4).
abbrev pub all_linked : List Declared → Bool
all_linked [] = true
all_linked (d ∷ rest) = has_linkage d && all_linked rest

abbrev pub with_outer : List Declared → List Declared → List Declared
with_outer here outer = if all_linked here then outer ++ here else []

abbrev pub linked_along : List ℕ → ℕ → List Declared → List Declared
linked_along [] symbol ds = []
linked_along (scope ∷ scopes) symbol ds = with_outer (those_at scope symbol ds) (linked_along scopes symbol ds)

abbrev pub scopes_at : Source → ℕ → List ℕ
scopes_at s i = get_or s.declared.scopes i []

-- 6.2.2p4: the declarations with linkage that are seen where a name is declared
abbrev pub linked_before : Source → Option Declared → List Declared
linked_before s None = []
linked_before s (Some d) = linked_along (scopes_at s d.node) d.symbol (made_before d.node s.declared.ordinary)

-- the earlier declarations of a name in its own scope
abbrev pub before_in_scope : Source → Option Declared → List Declared
before_in_scope s None = []
before_in_scope s (Some d) = those_at d.scope d.symbol (made_before d.node s.declared.ordinary)

-- 6.2.7p4: those that together give a declared name its type: a name without linkage has its own declaration's
-- alone
abbrev pub typing_declarations : Source → Option Declared → List Declared
typing_declarations s None = []
typing_declarations s (Some d) = if has_linkage d then linked_before s (Some d) ++ d ∷ [] else d ∷ []

-- the declaration of an ordinary name by its leaf
abbrev pub ordinary_at : Source → ℕ → Option Declared
ordinary_at s leaf = entry_of s.declared.ordinary leaf

-- 6.2.3, 6.7.2.3: the node of the first declaration of a tag in its scope, by which the tag is known; a leaf that
-- uses a tag has the one that it is paired with
abbrev pub first_node : ℕ → List Declared → ℕ
first_node leaf [] = leaf
first_node leaf (d ∷ rest) = d.node

abbrev pub first_in_scope : List Declared → ℕ → Option Declared → ℕ
first_in_scope tags leaf None = leaf
first_in_scope tags leaf (Some d) = first_node leaf (those_at d.scope d.symbol tags)

abbrev pub declaring_leaf : ℕ → Option ℕ → ℕ
declaring_leaf leaf None = leaf
declaring_leaf leaf (Some declaring) = declaring

abbrev pub tag_of_leaf : Source → ℕ → ℕ
tag_of_leaf s leaf =
    let declaring = declaring_leaf leaf (paired s.uses leaf) in first_in_scope s.declared.tags declaring
    (entry_of s.declared.tags declaring)
