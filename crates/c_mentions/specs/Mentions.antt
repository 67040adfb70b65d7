-- What a node does to names: it declares one, uses one, or neither.
use Rattle.std.specs.Prelude.{ℕ, ◌==◌, Bool, false, ◌&&◌, ◌||◌, Option, Some, None, List, codes, filter, length}
use Rattle.std.specs.Prelude.{slice_get, if◌then◌else◌}
use Rattle.std.specs.List.{range_with_len}
use Rattle.std.specs.Str.{bytes_eq}
use Rattle.c_lexer.specs.declared.Token.{Token}
use Rattle.c_grammar.specs.Reads.{Node}
use Rattle.c_grammar.specs.Productions.{p_declarator, p_either, p_enumerator}
use Rattle.c_grammar.specs.Reads as reads
use Rattle.c_mentions.specs.declared.roles.Specifiers.{Specifiers}
use Rattle.c_mentions.specs.declared.roles.Role.{Role}
use Rattle.c_mentions.specs.declared.roles.Role.TheVariants.{Elsewhere, Name, Alone, Tag, Statement, Declaration}
use Rattle.c_mentions.specs.declared.roles.Role.TheVariants.{Parameter}
use Rattle.c_mentions.specs.declared.declarators.Derivation.{Derivation}
use Rattle.c_mentions.specs.declared.declarators.Derivation.TheVariants.{Other}
use Rattle.c_mentions.specs.declared.declarators.Declarator.{Declarator}
use Rattle.c_mentions.specs.declared.mentions.Linkage.{Linkage}
use Rattle.c_mentions.specs.declared.mentions.Linkage.TheVariants.{Never, Typedef, Object, External}
use Rattle.c_mentions.specs.declared.mentions.Mention.{Mention}
use Rattle.c_mentions.specs.declared.mentions.Mention.TheVariants as mention
use Rattle.c_mentions.specs.Syntax.{first_child, is_identifier, is_name, production_at, token_at, token_kind}
use Rattle.c_mentions.specs.Declarators.{declarator}

-- the name that a token spells, and its symbol by a list of the symbols of all tokens
abbrev pub name_at : List ℕ → List Token → ℕ → List ℕ
name_at text tokens token = reads.name_at text (slice_get tokens token)

abbrev pub symbol_or : ℕ → Option ℕ → ℕ
symbol_or token None = token
symbol_or token (Some symbol) = symbol

abbrev pub symbol_at : List ℕ → ℕ → ℕ
symbol_at symbols token = symbol_or token (slice_get symbols token)

-- the names of floating types, which are type words
unfoldable pub is_type_word : List ℕ → Bool
is_type_word name =
    bytes_eq name (codes "_Float32") || bytes_eq name (codes "_Float64")
    || bytes_eq name (codes "_Float128")
    || bytes_eq name (codes "_Float32x") || bytes_eq name (codes "_Float64x")

-- the names that stand for operations on variadic lists (C11 7.16.1), which are no uses
unfoldable pub is_list_word : List ℕ → Bool
is_list_word name =
    bytes_eq name (codes "__builtin_va_start") || bytes_eq name (codes "__builtin_va_copy")
    || bytes_eq name (codes "__builtin_va_arg")
    || bytes_eq name (codes "__builtin_va_end")

-- the names that stand for the function around them (C11 6.4.2.2)
unfoldable pub is_function_name : List ℕ → Bool
is_function_name name =
    bytes_eq name (codes "__func__") || bytes_eq name (codes "__FUNCTION__")
    || bytes_eq name (codes "__PRETTY_FUNCTION__")

-- the names that need no declaration
unfoldable pub is_exempt : List ℕ → Bool → Bool
is_exempt name in_body = (in_body && is_function_name name) || bytes_eq name (codes "__builtin_va_list")

unfoldable pub name_used : List ℕ → ℕ → Bool → Mention
name_used name symbol in_body =
    if is_type_word name || is_list_word name then mention.Nothing else mention.Use symbol (is_exempt name in_body)

-- an identifier that stands first in a statement is its label, another one the label of a goto
abbrev pub label_used : Option ℕ → ℕ → ℕ → Mention
label_used None n symbol = mention.Goto symbol
label_used (Some leaf) n symbol = if leaf == n then mention.Label symbol else mention.Goto symbol

-- what the leaf of an identifier does
abbrev pub leaf_mention : List ℕ → ℕ → ℕ → Bool → Role → Mention
leaf_mention name symbol n in_body Name = name_used name symbol in_body
leaf_mention name symbol n in_body Alone = name_used name symbol in_body
leaf_mention name symbol n in_body (Tag how) = mention.Tag symbol how
leaf_mention name symbol n in_body (Statement first selects) = label_used first n symbol
leaf_mention name symbol n in_body Elsewhere = mention.Nothing
leaf_mention name symbol n in_body (Declaration specifiers) = mention.Nothing
leaf_mention name symbol n in_body Parameter = mention.Nothing

abbrev pub linkage_of : Specifiers → Linkage
linkage_of specifiers = if specifiers.is_typedef then Typedef else if specifiers.is_extern then External else Object

-- the declaration of the name at a leaf: in a declaration by its specifiers, and of a parameter
abbrev pub name_declared : ℕ → ℕ → Derivation → Role → Mention
name_declared leaf symbol derivation (Declaration specifiers) =
    mention.Declares leaf symbol (linkage_of specifiers) derivation specifiers.type_name
name_declared leaf symbol derivation Parameter = mention.Declares leaf symbol Never Other None
name_declared leaf symbol derivation _ = mention.Nothing

abbrev pub at_leaf : (ℕ → ℕ) → List Node → Derivation → Role → Option ℕ → Mention
at_leaf symbol nodes derivation role None = mention.Nothing
at_leaf symbol nodes derivation role (Some leaf) = name_declared leaf (symbol (token_at nodes leaf)) derivation role

unfoldable pub declarator_mention : (ℕ → ℕ) → List Node → Declarator → Role → Mention
declarator_mention symbol nodes d role = at_leaf symbol nodes d.derivation role d.name

abbrev pub enumerator_leaf : (ℕ → ℕ) → List Node → Option ℕ → Mention
enumerator_leaf symbol nodes None = mention.Nothing
enumerator_leaf symbol nodes (Some leaf) = mention.Declares leaf (symbol (token_at nodes leaf)) Never Other None

unfoldable pub enumerator_mention : (ℕ → ℕ) → List Node → ℕ → Mention
enumerator_mention symbol nodes n = enumerator_leaf symbol nodes (first_child nodes n)

-- what the end of a node does that is no leaf of an identifier: an enumerator and an outermost declarator declare
-- their name
unfoldable pub end_mention : List Token → (ℕ → ℕ) → List Node → ℕ → Role → Mention
end_mention tokens symbol nodes n role =
    if production_at nodes n == p_enumerator then enumerator_mention symbol nodes n
    else if production_at nodes n == p_declarator
    || production_at nodes n == p_either
    then declarator_mention symbol nodes (declarator tokens nodes n) role
    else mention.Nothing

-- the productions whose end declares a name
abbrev pub ends_name : ℕ → Bool
ends_name production = production == p_enumerator || (production == p_declarator || production == p_either)

-- a node that may do something to names: the leaf of an identifier, an enumerator or a declarator
abbrev pub node_speaks : List Token → Node → Bool
node_speaks tokens n =
    if n.production == reads.leaf then is_identifier (token_kind tokens n.token) else ends_name n.production

abbrev pub speaks_of : List Token → Option Node → Bool
speaks_of tokens None = false
speaks_of tokens (Some n) = node_speaks tokens n

-- whether the node of a number may do something to names, and all that may
abbrev pub speaks : List Token → List Node → ℕ → Bool
speaks tokens nodes n = speaks_of tokens (slice_get nodes n)

unfoldable pub speaking : List Token → List Node → List ℕ
speaking tokens nodes = filter (speaks tokens nodes) (range_with_len 0 (length nodes))

-- what a node does to names, that stands in a function's body or not, and in a role below its parent
unfoldable pub mention_at : List ℕ → List Token → (ℕ → ℕ) → List Node → ℕ → Bool → Role → Mention
mention_at text tokens symbol nodes n in_body role =
    if is_name tokens nodes n
    then leaf_mention (name_at text tokens (token_at nodes n)) (symbol (token_at nodes n)) n in_body role
    else end_mention tokens symbol nodes n role
