-- The productions of a unit's nodes, by the calls that make their rows.
use Rattle.std.specs.Prelude.{ℕ, Bool, ◌==◌, nat_lt, nat_le, ◌||◌, ◌&&◌, List, [], ◌∷◌}
use Rattle.c_grammar.specs.Terminals.{contains}
use Rattle.c_grammar.specs.Productions.{p_unit, p_external, p_rest, p_declaration, p_asm_name, p_storage}
use Rattle.c_grammar.specs.Productions.{p_function, p_qualifier, p_struct, p_members, p_member, p_field}
use Rattle.c_grammar.specs.Productions.{p_enumerators, p_assert, p_specs, p_align, p_type, p_enum, p_enumerator}
use Rattle.c_grammar.specs.Productions.{p_suffix, p_parameter, p_type_name, p_declarator, p_abstract, p_either}
use Rattle.c_grammar.specs.Productions.{p_init, p_items, p_item, p_designator, p_block, p_statement, p_expression}
use Rattle.c_grammar.specs.Productions.{p_primary}

-- the productions of nodes that stand for nothing of their own, and a leaf's
abbrev pub lists : List ℕ
lists = p_unit ∷ p_external ∷ p_asm_name ∷ p_storage ∷ p_function ∷ p_qualifier ∷ p_enumerators ∷ p_item ∷ []

abbrev pub lists_others : ℕ → Bool
lists_others production = contains lists production || nat_lt p_primary production

-- a part of specifiers, or an assertion; a part of a declarator; a statement, a block, a declaration or the rest of
-- one; an expression
abbrev pub is_part : ℕ → Bool
is_part production = contains (p_assert ∷ p_specs ∷ p_align ∷ p_type ∷ p_enum ∷ p_enumerator ∷ []) production

abbrev pub is_derivation : ℕ → Bool
is_derivation production = contains (p_suffix ∷ p_parameter ∷ p_type_name ∷ []) production

abbrev pub is_statement : ℕ → Bool
is_statement production = contains (p_rest ∷ p_declaration ∷ p_block ∷ p_statement ∷ []) production

abbrev pub is_expression : ℕ → Bool
is_expression production = nat_le p_expression production && nat_le production p_primary

-- a list of members, a declaration of some or a field; a declarator; an initialiser, the list of a compound literal
-- or a designator
abbrev pub is_member : ℕ → Bool
is_member production = contains (p_members ∷ p_member ∷ p_field ∷ []) production

abbrev pub is_declarator : ℕ → Bool
is_declarator production = contains (p_declarator ∷ p_abstract ∷ p_either ∷ []) production

abbrev pub is_initial : ℕ → Bool
is_initial production = contains (p_init ∷ p_items ∷ p_designator ∷ []) production

-- those of which nothing more is asked, and those that ask for types within the limits
abbrev pub is_plain : ℕ → Bool
is_plain production = is_part production || (is_derivation production || is_statement production)

abbrev pub is_limited : ℕ → Bool
is_limited production =
    (production == p_struct) || (is_member production || (is_declarator production || is_initial production))
