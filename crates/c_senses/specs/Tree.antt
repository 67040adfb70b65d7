-- A unit's text, its tokens and its syntax tree, with what its names mean.
use Rattle.std.specs.Prelude.{ℕ, zero, suc, ◌-◌, ◌==◌, Bool, true, false, ◌&&◌, ◌||◌, List, [], ◌∷◌, Option, Some}
use Rattle.std.specs.Prelude.{None, slice_get, length, if◌then◌else◌}
use Rattle.c_scope.specs.passed.pta_base.declared.place.Place.{Place}
use Rattle.c_inits.specs.passed.c_grammar.PassedOn.{Token}
use Rattle.c_inits.specs.passed.c_grammar.PassedOn.{TokenKind}
use Rattle.c_inits.specs.passed.c_grammar.PassedOn.{Identifier, Keyword, Punctuator, End}
use Rattle.c_inits.specs.passed.c_grammar.declared.trees.SyntaxNode.{SyntaxNode}
use Rattle.c_inits.specs.passed.c_grammar.Reads.{leaf}
use Rattle.c_inits.specs.passed.c_grammar.Terminals.{spelled, contains}
use Rattle.c_scope.specs.declared.kinds.Declared.{Declared}

-- what is found of a unit's names: the declarations of ordinary names and those of tags (C11 6.2.3), each in the
-- order in which they are made, and for each node the scopes around it, the innermost first
pub record Names : Type 0 where
  pub ordinary : List Declared
  pub tags : List Declared
  pub scopes : List (List ℕ)

-- `uses` pairs the leaf of each use of a name with the leaf, or the specifier, that declares it; `tag_number` gives
-- a tag, by the node of its first declaration, the number by which types name it
pub record Source : Type 0 where
  pub unit : ℕ
  pub text : List ℕ
  pub tokens : List Token
  pub nodes : List SyntaxNode
  pub uses : List (ℕ × ℕ)
  pub declared : Names
  pub tag_number : ℕ → ℕ

abbrev pub production_of : Option SyntaxNode → ℕ
production_of None = leaf
production_of (Some n) = n.production

abbrev pub children_of : Option SyntaxNode → List ℕ
children_of None = []
children_of (Some n) = n.children.items

abbrev pub production_at : Source → ℕ → ℕ
production_at s i = production_of (slice_get s.nodes i)

abbrev pub children_at : Source → ℕ → List ℕ
children_at s i = children_of (slice_get s.nodes i)

-- node i is a node of that production
abbrev pub is_a : Source → ℕ → ℕ → Bool
is_a s production i = production_at s i == production

abbrev pub is_leaf : Source → ℕ → Bool
is_leaf s i = is_a s leaf i

-- a node's first token, or the one that follows where it takes none
abbrev pub token_of : Source → Option SyntaxNode → Option Token
token_of s None = None
token_of s (Some n) = slice_get s.tokens n.token

abbrev pub token_at : Source → ℕ → Option Token
token_at s i = token_of s (slice_get s.nodes i)

abbrev pub place_of_token : ℕ → Option Token → Place
place_of_token unit None = record { unit = unit; line = 0; column = 0 }
place_of_token unit (Some t) = record { unit = unit; line = t.line; column = t.column }

-- the place of a node's first token
abbrev pub place_at : Source → ℕ → Place
place_at s i = place_of_token s.unit (token_at s i)

abbrev pub spelling_of : Source → Option Token → List ℕ
spelling_of s None = []
spelling_of s (Some t) = spelled s.text t

-- how a node's first token is spelled
abbrev pub spelling_at : Source → ℕ → List ℕ
spelling_at s i = spelling_of s (token_at s i)

abbrev pub sign_of_kind : TokenKind → Option ℕ
sign_of_kind (Punctuator p) = Some p
sign_of_kind kind = None

abbrev pub word_of_kind : TokenKind → Option ℕ
word_of_kind (Keyword k) = Some k
word_of_kind kind = None

abbrev pub kind_of_token : Option Token → TokenKind
kind_of_token None = End
kind_of_token (Some t) = t.kind

abbrev pub kind_at : Source → ℕ → TokenKind
kind_at s i = kind_of_token (token_at s i)

-- the punctuator, or the keyword, that a node's first token is
abbrev pub sign_at : Source → ℕ → Option ℕ
sign_at s i = sign_of_kind (kind_at s i)

abbrev pub word_at : Source → ℕ → Option ℕ
word_at s i = word_of_kind (kind_at s i)

abbrev pub is_number : Option ℕ → ℕ → Bool
is_number None k = false
is_number (Some n) k = n == k

abbrev pub has_sign : Source → ℕ → ℕ → Bool
has_sign s k i = is_leaf s i && is_number (sign_at s i) k

abbrev pub has_word : Source → ℕ → ℕ → Bool
has_word s k i = is_leaf s i && is_number (word_at s i) k

abbrev pub is_identifier : TokenKind → Bool
is_identifier Identifier = true
is_identifier kind = false

abbrev pub is_name : Source → ℕ → Bool
is_name s i = is_leaf s i && is_identifier (kind_at s i)

-- the first number of a list that passes a test, the last one, and all that pass
abbrev pub first_where : (ℕ → Bool) → List ℕ → Option ℕ
first_where test [] = None
first_where test (x ∷ xs) = if test x then Some x else first_where test xs

abbrev pub last_or : Option ℕ → Option ℕ → Option ℕ
last_or None other = other
last_or (Some x) other = Some x

abbrev pub last_where : (ℕ → Bool) → List ℕ → Option ℕ
last_where test [] = None
last_where test (x ∷ xs) = last_or (last_where test xs) (if test x then Some x else None)

abbrev pub all_where : (ℕ → Bool) → List ℕ → List ℕ
all_where test [] = []
all_where test (x ∷ xs) = if test x then x ∷ all_where test xs else all_where test xs

abbrev pub any_where : (ℕ → Bool) → List ℕ → Bool
any_where test [] = false
any_where test (x ∷ xs) = test x || any_where test xs

-- there is a first one, and it passes
abbrev pub first_is : (ℕ → Bool) → List ℕ → Bool
first_is test [] = false
first_is test (x ∷ xs) = test x

-- the first child of that production
abbrev pub child_of : Source → ℕ → ℕ → Option ℕ
child_of s production i = first_where (is_a s production) (children_at s i)

-- the nodes of a tree, by number: so many of them from one on
abbrev pub numbers_from : ℕ → ℕ → List ℕ
numbers_from k zero = []
numbers_from k (suc n) = k ∷ numbers_from (suc k) n

abbrev pub all_nodes : Source → List ℕ
all_nodes s = numbers_from 0 (length s.nodes)

-- the node that has this one as a child
abbrev pub parent_of : Source → ℕ → Option ℕ
parent_of s i = first_where (λ p. contains (children_at s p) i) (all_nodes s)

-- the nearest node above that passes a test; a parent's number is larger, so there are no more levels than nodes
abbrev pub above_within : Source → (ℕ → Bool) → ℕ → Option ℕ → Option ℕ
above_within s test zero p = None
above_within s test (suc n) None = None
above_within s test (suc n) (Some p) = if test p then Some p else above_within s test n (parent_of s p)

abbrev pub nearest_above : Source → (ℕ → Bool) → ℕ → Option ℕ
nearest_above s test i = above_within s test (length s.nodes) (parent_of s i)

-- the declaration that a use is paired with
abbrev pub paired : List (ℕ × ℕ) → ℕ → Option ℕ
paired [] name = None
paired (p ∷ rest) name = if p.0 == name then Some p.1 else paired rest name

-- the sibling to the left of a node whose first token has the leaf `first`: in the tree's order it stands directly
-- before that leaf, but for the brace that closes a compound literal's list
abbrev pub left_of : Source → ℕ → ℕ
left_of s first = if is_leaf s (first - 1) then first - 2 else first - 1
