-- How a node stands below its parent, as far as names ask for it, and which scopes it opens.
use Rattle.std.specs.Prelude.{ℕ, ◌==◌, Bool, true, false, ◌&&◌, ◌||◌, not, Option, Some, None, List, [], ◌∷◌}
use Rattle.std.specs.Prelude.{if◌then◌else◌}
use Rattle.std.specs.List.{find, list_any}
use Rattle.c_lexer.specs.declared.Token.{Token}
use Rattle.c_grammar.specs.Reads.{Node}
use Rattle.c_grammar.specs.Productions.{p_external, p_rest, p_declaration, p_specs, p_storage, p_type, p_struct}
use Rattle.c_grammar.specs.Productions.{p_members, p_enum, p_enumerators, p_declarator, p_suffix, p_parameter}
use Rattle.c_grammar.specs.Productions.{p_block, p_statement, p_primary}
use Rattle.c_grammar.specs.Words.{word_do, word_extern, word_for, word_if, word_switch, word_typedef, word_while}
use Rattle.c_mentions.specs.declared.roles.Specifiers.{Specifiers}
use Rattle.c_mentions.specs.declared.roles.TagUse.TheVariants.{Declares, Refers, Uses}
use Rattle.c_mentions.specs.declared.roles.Role.{Role}
use Rattle.c_mentions.specs.declared.roles.Role.TheVariants.{Elsewhere, Name, Alone, Tag, Statement, Declaration}
use Rattle.c_mentions.specs.declared.roles.Role.TheVariants.{Parameter}
use Rattle.c_mentions.specs.Syntax.{production_at, children_at, first_child, first_part, has_part, is_leaf, is_name}
use Rattle.c_mentions.specs.Syntax.{is_of, is_word}
use Rattle.c_mentions.specs.Declarators.{declarator, is_list}

abbrev pub word_first : List Token → List Node → ℕ → Option ℕ → Bool
word_first tokens nodes word None = false
word_first tokens nodes word (Some child) = is_word tokens nodes child word

-- the first child of a node is the leaf of a keyword, or of an identifier
unfoldable pub begins_with : List Token → List Node → ℕ → ℕ → Bool
begins_with tokens nodes n word = word_first tokens nodes word (first_child nodes n)

abbrev pub name_first : List Token → List Node → Option ℕ → Bool
name_first tokens nodes None = false
name_first tokens nodes (Some child) = is_name tokens nodes child

unfoldable pub begins_with_name : List Token → List Node → ℕ → Bool
begins_with_name tokens nodes n = name_first tokens nodes (first_child nodes n)

-- specifiers with a storage-class specifier
unfoldable pub has_storage : List Token → List Node → ℕ → ℕ → Bool
has_storage tokens nodes specs word =
    list_any (λ child. is_of nodes p_storage child && begins_with tokens nodes child word) (children_at nodes specs)

-- among specifiers the type specifier that is an identifier, and its leaf
unfoldable pub named_type : List Token → List Node → ℕ → Option ℕ
named_type tokens nodes specs =
    find (λ child. is_of nodes p_type child && begins_with_name tokens nodes child) (children_at nodes specs)

abbrev pub first_child_of : List Node → Option ℕ → Option ℕ
first_child_of nodes None = None
first_child_of nodes (Some n) = first_child nodes n

unfoldable pub type_name : List Token → List Node → ℕ → Option ℕ
type_name tokens nodes specs = first_child_of nodes (named_type tokens nodes specs)

abbrev pub second_is_last : List Node → List ℕ → Bool
second_is_last nodes (specs ∷ second ∷ []) = is_leaf nodes second
second_is_last nodes _ = false

-- a declaration of specifiers alone, which only a semicolon follows
unfoldable pub has_no_declarator : List Node → ℕ → Bool
has_no_declarator nodes n = second_is_last nodes (children_at nodes n)

abbrev pub suffix_of : List Token → List Node → Option ℕ → Option ℕ
suffix_of tokens nodes None = None
suffix_of tokens nodes (Some n) = (declarator tokens nodes n).suffix

-- in the definition of a function the parameter list that belongs to its name
unfoldable pub list_of : List Token → List Node → ℕ → Option ℕ
list_of tokens nodes n =
    if has_part nodes n p_block then suffix_of tokens nodes (first_part nodes n p_declarator) else None

-- what a declaration says of its names by its specifiers
unfoldable pub specified : List Token → List Node → ℕ → ℕ → Specifiers
specified tokens nodes n specs = record {
  is_typedef = has_storage tokens nodes specs word_typedef;
  is_extern = has_storage tokens nodes specs word_extern;
  is_alone = has_no_declarator nodes n && not (has_part nodes specs p_storage);
  type_name = type_name tokens nodes specs;
  list = list_of tokens nodes n;
}

abbrev pub by_specs : List Token → List Node → ℕ → Option ℕ → Role
by_specs tokens nodes n None = Elsewhere
by_specs tokens nodes n (Some specs) = Declaration (specified tokens nodes n specs)

-- the roles of what stands in a declaration, in specifiers, in a type specifier, in a structure or union specifier,
-- in an enumeration specifier, and in a statement
unfoldable pub in_declaration : List Token → List Node → ℕ → Role
in_declaration tokens nodes n = by_specs tokens nodes n (first_child nodes n)

abbrev pub in_specs : Role → Role
in_specs (Declaration specifiers) = if specifiers.is_alone then Alone else Elsewhere
in_specs _ = Elsewhere

abbrev pub is_alone : Role → Bool
is_alone Alone = true
is_alone _ = false

unfoldable pub in_type : Role → Role
in_type role = if is_alone role then Alone else Name

unfoldable pub in_struct : List Node → ℕ → Role → Role
in_struct nodes n role = if has_part nodes n p_members || is_alone role then Tag Declares else Tag Refers

unfoldable pub in_enum : List Node → ℕ → Role
in_enum nodes n = if has_part nodes n p_enumerators then Tag Declares else Tag Uses

-- selection and iteration statements (C11 6.8.4, 6.8.5)
unfoldable pub selects : List Token → List Node → ℕ → Bool
selects tokens nodes n =
    begins_with tokens nodes n word_if || begins_with tokens nodes n word_switch
    || begins_with tokens nodes n word_while || begins_with tokens nodes n word_do
    || begins_with tokens nodes n word_for

unfoldable pub in_statement : List Token → List Node → ℕ → Role
in_statement tokens nodes n = Statement (first_child nodes n) (selects tokens nodes n)

-- how the children of a node stand, which itself stands in a role
unfoldable pub handed : List Token → List Node → ℕ → Role → Role
handed tokens nodes n role =
    let p = production_at nodes n in
    if p == p_external then in_declaration tokens nodes n
    else if p == p_declaration then in_declaration tokens nodes n
    else if p == p_rest then role
    else if p == p_parameter then Parameter
    else if p == p_specs then in_specs role
    else if p == p_type then in_type role
    else if p == p_primary then Name
    else if p == p_struct then in_struct nodes n role
    else if p == p_enum then in_enum nodes n
    else if p == p_statement then in_statement tokens nodes n
    else Elsewhere

abbrev pub is_function : Role → Bool
is_function (Declaration specifiers) = true
is_function _ = false

abbrev pub list_or : ℕ → Option ℕ → ℕ
list_or n None = n
list_or n (Some list) = list

-- the scope of a block: that of a function's body is one with its parameter list (C11 6.2.1p4)
abbrev pub block_scope : ℕ → Role → ℕ
block_scope n (Declaration specifiers) = list_or n specifiers.list
block_scope n _ = n

abbrev pub is_selected : Role → Bool
is_selected (Statement first selects) = selects
is_selected _ = false

-- The scope that a node opens for what stands in it: a block, a parameter list, a selection or iteration statement,
-- and a statement that stands directly in one open a scope (C11 6.2.1p4, 6.8.4p3, 6.8.5p5).
unfoldable pub opened : List Token → List Node → ℕ → Role → Option ℕ
opened tokens nodes n role =
    let p = production_at nodes n in
    if p == p_block then Some (block_scope n role)
    else if p == p_suffix then (if is_list tokens nodes n then Some n else None)
    else if p == p_statement then (if is_selected role || selects tokens nodes n then Some n else None)
    else None

-- the body of a function
unfoldable pub is_body : List Node → ℕ → Role → Bool
is_body nodes n role = is_of nodes p_block n && is_function role
