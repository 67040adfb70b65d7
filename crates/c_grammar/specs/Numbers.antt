-- What the grammar's numbers stand for.
use Rattle.std.specs.Prelude.{◌≡◌, ℕ, Option, Some, List, [], ◌∷◌, map}
use Rattle.c_lexer.specs.Spellings.{keywords, punctuators}
use Rattle.c_grammar.specs.declared.productions.TheConstants.{UNIT, EXTERNAL, REST, DECLARATION, ASSERT, ASM_NAME}
use Rattle.c_grammar.specs.declared.productions.TheConstants.{SPECS, STORAGE, FUNCTION, QUALIFIER, ALIGN, TYPE}
use Rattle.c_grammar.specs.declared.productions.TheConstants.{STRUCT, MEMBERS, MEMBER, FIELD, ENUM, ENUMERATORS}
use Rattle.c_grammar.specs.declared.productions.TheConstants.{ENUMERATOR, DECLARATOR, ABSTRACT, EITHER, SUFFIX}
use Rattle.c_grammar.specs.declared.productions.TheConstants.{PARAMETER, TYPE_NAME, INIT, ITEMS, ITEM, DESIGNATOR}
use Rattle.c_grammar.specs.declared.productions.TheConstants.{BLOCK, STATEMENT, EXPRESSION, ASSIGNMENT, CONDITIONAL}
use Rattle.c_grammar.specs.declared.productions.TheConstants.{LOGICAL_OR, LOGICAL_AND, INCLUSIVE_OR, EXCLUSIVE_OR}
use Rattle.c_grammar.specs.declared.productions.TheConstants.{AND, EQUALITY, RELATIONAL, SHIFT, ADDITIVE}
use Rattle.c_grammar.specs.declared.productions.TheConstants.{MULTIPLICATIVE, CAST, UNARY, POST, PRIMARY}
use Rattle.c_grammar.specs.Terminals.{own_meaning}
use Rattle.c_grammar.specs.Productions.{p_unit, p_external, p_rest, p_declaration, p_assert, p_asm_name, p_specs}
use Rattle.c_grammar.specs.Productions.{p_storage, p_function, p_qualifier, p_align, p_type, p_struct, p_members}
use Rattle.c_grammar.specs.Productions.{p_member, p_field, p_enum, p_enumerators, p_enumerator, p_declarator}
use Rattle.c_grammar.specs.Productions.{p_abstract, p_either, p_suffix, p_parameter, p_type_name, p_init, p_items}
use Rattle.c_grammar.specs.Productions.{p_item, p_designator, p_block, p_statement, p_expression, p_assignment}
use Rattle.c_grammar.specs.Productions.{p_conditional, p_logical_or, p_logical_and, p_inclusive_or, p_exclusive_or}
use Rattle.c_grammar.specs.Productions.{p_and, p_equality, p_relational, p_shift, p_additive, p_multiplicative}
use Rattle.c_grammar.specs.Productions.{p_cast, p_unary, p_post, p_primary}
use Rattle.c_grammar.specs.Words.{written_words, written_signs}

-- what a table of spellings says of each word
abbrev pub looked_up : List (List ℕ × ℕ) → List (List ℕ × ℕ) → List (Option ℕ)
looked_up table words = map (λ w. own_meaning table w.0) words

abbrev pub told : List (List ℕ × ℕ) → List (Option ℕ)
told words = map (λ w. Some w.1) words

-- the numbers of the words and signs are the lexer's positions of their spellings
unfoldable pub SpeaksOfWords : Type 0
SpeaksOfWords =
    (looked_up keywords written_words ≡ told written_words)
    × (looked_up punctuators written_signs ≡ told written_signs)

-- the code's names of the productions that make a node, and those of the table
abbrev pub code_names : List ℕ
code_names =
    UNIT ∷ EXTERNAL ∷ REST ∷ DECLARATION ∷ ASSERT ∷ ASM_NAME ∷ SPECS ∷ STORAGE ∷ FUNCTION ∷ QUALIFIER ∷ ALIGN
    ∷ TYPE
    ∷ STRUCT ∷ MEMBERS ∷ MEMBER ∷ FIELD ∷ ENUM ∷ ENUMERATORS ∷ ENUMERATOR ∷ DECLARATOR ∷ ABSTRACT ∷ EITHER
    ∷ SUFFIX
    ∷ PARAMETER ∷ TYPE_NAME ∷ INIT ∷ ITEMS ∷ ITEM ∷ DESIGNATOR ∷ BLOCK ∷ STATEMENT ∷ EXPRESSION ∷ ASSIGNMENT
    ∷ CONDITIONAL ∷ LOGICAL_OR ∷ LOGICAL_AND ∷ INCLUSIVE_OR ∷ EXCLUSIVE_OR ∷ AND ∷ EQUALITY ∷ RELATIONAL ∷ SHIFT
    ∷ ADDITIVE ∷ MULTIPLICATIVE ∷ CAST ∷ UNARY ∷ POST ∷ PRIMARY ∷ []

abbrev pub table_names : List ℕ
table_names =
    p_unit ∷ p_external ∷ p_rest ∷ p_declaration ∷ p_assert ∷ p_asm_name ∷ p_specs ∷ p_storage ∷ p_function
    ∷ p_qualifier ∷ p_align ∷ p_type ∷ p_struct ∷ p_members ∷ p_member ∷ p_field ∷ p_enum ∷ p_enumerators
    ∷ p_enumerator ∷ p_declarator ∷ p_abstract ∷ p_either ∷ p_suffix ∷ p_parameter ∷ p_type_name ∷ p_init
    ∷ p_items
    ∷ p_item ∷ p_designator ∷ p_block ∷ p_statement ∷ p_expression ∷ p_assignment ∷ p_conditional ∷ p_logical_or
    ∷ p_logical_and ∷ p_inclusive_or ∷ p_exclusive_or ∷ p_and ∷ p_equality ∷ p_relational ∷ p_shift ∷ p_additive
    ∷ p_multiplicative ∷ p_cast ∷ p_unary ∷ p_post ∷ p_primary ∷ []
