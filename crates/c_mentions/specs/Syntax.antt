-- Reads of a tree's nodes and of the tokens that its leaves stand for.
use Rattle.std.specs.Prelude.{ℕ, ◌==◌, Bool, true, false, Option, Some, None, List, [], ◌∷◌, map, slice_get}
use Rattle.std.specs.Prelude.{if◌then◌else◌}
use Rattle.std.specs.List.{find, list_any}
use Rattle.c_lexer.specs.declared.Token.{Token}
use Rattle.c_lexer.specs.declared.TokenKind.{TokenKind}
use Rattle.c_lexer.specs.declared.TokenKind.TheVariants.{Identifier, Keyword, Punctuator, End}
use Rattle.c_grammar.specs.declared.trees.SyntaxNode.{SyntaxNode}
use Rattle.c_grammar.specs.Productions.{p_nothing}
use Rattle.c_grammar.specs.Reads.{Node, node_of, leaf}

-- the nodes of the code's tree, seen as the grammar sees them
abbrev pub nodes_of : List SyntaxNode → List Node
nodes_of nodes = map node_of nodes

abbrev pub production_of : Option Node → ℕ
production_of None = p_nothing
production_of (Some n) = n.production

abbrev pub token_of : Option Node → ℕ
token_of None = 0
token_of (Some n) = n.token

abbrev pub children_of : Option Node → List ℕ
children_of None = []
children_of (Some n) = n.children

-- the production, the first token and the children of a node by its number; where there is no node, there are none
abbrev pub production_at : List Node → ℕ → ℕ
production_at nodes n = production_of (slice_get nodes n)

abbrev pub token_at : List Node → ℕ → ℕ
token_at nodes n = token_of (slice_get nodes n)

abbrev pub children_at : List Node → ℕ → List ℕ
children_at nodes n = children_of (slice_get nodes n)

abbrev pub is_of : List Node → ℕ → ℕ → Bool
is_of nodes production n = production_at nodes n == production

abbrev pub is_leaf : List Node → ℕ → Bool
is_leaf nodes n = production_at nodes n == leaf

abbrev pub kind_of : Option Token → TokenKind
kind_of None = End
kind_of (Some t) = t.kind

abbrev pub token_kind : List Token → ℕ → TokenKind
token_kind tokens token = kind_of (slice_get tokens token)

-- the kind of the token for which a leaf stands
abbrev pub leaf_kind : List Token → List Node → ℕ → TokenKind
leaf_kind tokens nodes n = if is_leaf nodes n then token_kind tokens (token_at nodes n) else End

abbrev pub is_identifier : TokenKind → Bool
is_identifier Identifier = true
is_identifier _ = false

abbrev pub is_keyword : TokenKind → ℕ → Bool
is_keyword (Keyword position) word = position == word
is_keyword _ word = false

abbrev pub is_punctuator : TokenKind → ℕ → Bool
is_punctuator (Punctuator position) sign = position == sign
is_punctuator _ sign = false

-- a leaf of an identifier, of a keyword, of a punctuator
abbrev pub is_name : List Token → List Node → ℕ → Bool
is_name tokens nodes n = is_identifier (leaf_kind tokens nodes n)

abbrev pub is_word : List Token → List Node → ℕ → ℕ → Bool
is_word tokens nodes n word = is_keyword (leaf_kind tokens nodes n) word

abbrev pub is_sign : List Token → List Node → ℕ → ℕ → Bool
is_sign tokens nodes n sign = is_punctuator (leaf_kind tokens nodes n) sign

abbrev pub first_of : List ℕ → Option ℕ
first_of [] = None
first_of (n ∷ ns) = Some n

-- the first child of a node
abbrev pub first_child : List Node → ℕ → Option ℕ
first_child nodes n = first_of (children_at nodes n)

-- whether a node has a child of a production, and the first one of these
abbrev pub has_part : List Node → ℕ → ℕ → Bool
has_part nodes n production = list_any (λ child. is_of nodes production child) (children_at nodes n)

abbrev pub first_part : List Node → ℕ → ℕ → Option ℕ
first_part nodes n production = find (λ child. is_of nodes production child) (children_at nodes n)
