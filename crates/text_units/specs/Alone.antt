-- What is asked of each unit alone: its tokens, its syntax and its names.
use Rattle.std.specs.Prelude.{◌≡◌, ◌⊎◌, ℕ, List, [], ◌∷◌, ◌++◌, Some, None, Result, Ok, Err, slice_get, codes}
use Rattle.std.specs.Option.{option_map_or}
use Rattle.pta_base.specs.Kind.{name_of}
use Rattle.pta_base.specs.declared.kind.Kind.TheVariants as kind
use Rattle.c_lexer.specs.declared.Token.{Token}
use Rattle.c_lexer.specs.declared.LexFault.{LexFault}
use Rattle.c_lexer.specs.declared.LexFault.TheVariants.{BadByte, Unended, BadNumber, TooLong, OutOfMemory}
use Rattle.c_lexer.specs.Cut.{IsTokens, IsFault}
use Rattle.c_lexer.specs.Places.{line_of, column_of}
use Rattle.c_grammar.specs.Names.{no_names}
use Rattle.c_grammar.specs.Productions.{p_unit}
use Rattle.c_grammar.specs.Reads.{State, Node, Fault, malformed, unsupported, too_deep, Opens}
use Rattle.c_parser.specs.Parse.{begin}
use Rattle.c_scope.specs.declared.kinds.NameFault.{NameFault}
use Rattle.c_scope.specs.declared.kinds.NameFault.TheVariants as names
use Rattle.c_mentions.specs.Syntax.{token_at}
use Rattle.c_scope.specs.Resolves.{first_of}
use Rattle.text_units.specs.Answers.{NamedText, Answer, refusal, place_text}

-- text that is no C11, at a place
abbrev pub malformed_at : List ℕ → Answer
malformed_at place = refusal 3 (place ++ codes ": malformed")

-- the refusal of a unit for its first lexical fault; want of memory is none
abbrev pub lexical_refusal : NamedText → LexFault → Answer
lexical_refusal unit (BadByte at) = malformed_at (place_text unit.0 (line_of unit.1 at) (column_of unit.1 at))
lexical_refusal unit (Unended at) = malformed_at (place_text unit.0 (line_of unit.1 at) (column_of unit.1 at))
lexical_refusal unit (BadNumber at) = malformed_at (place_text unit.0 (line_of unit.1 at) (column_of unit.1 at))
lexical_refusal unit TooLong = refusal 6 (unit.0 ++ codes ": too large text 16777217")
lexical_refusal unit OutOfMemory = refusal 9 (codes "out of memory")

-- the place of a token, by its number
abbrev pub token_place : List ℕ → List Token → ℕ → List ℕ
token_place name list number =
    option_map_or (λ token. place_text name token.line token.column) (slice_get list number) name

-- the refusal of a unit for the first token that doesn't fit its grammar
abbrev pub syntax_refusal : List ℕ → List Token → Fault → Answer
syntax_refusal name list (malformed number) = malformed_at (token_place name list number)
syntax_refusal name list (unsupported kind number) =
    refusal 4 (token_place name list number ++ codes ": not accepted " ++ name_of kind)
syntax_refusal name list (too_deep number) = refusal 6 (token_place name list number ++ codes ": too deep 257")

-- the refusal of a unit for its first name that is undeclared or redeclared, at the name; want of memory is none
abbrev pub name_refusal : List ℕ → List Token → List Node → NameFault → Answer
name_refusal name list nodes (names.Undeclared node) =
    refusal 4 (token_place name list (token_at nodes node) ++ codes ": not accepted " ++ name_of kind.Undeclared)
name_refusal name list nodes (names.Redeclared node) =
    refusal 4 (token_place name list (token_at nodes node) ++ codes ": not accepted " ++ name_of kind.Redeclared)
name_refusal name list nodes names.OutOfMemory = refusal 9 (codes "out of memory")

-- reading a unit from its first token on gives this state, or this first fault
abbrev pub Reading : List ℕ → List Token → Result State Fault → Type 0
Reading text list result = Opens text list p_unit 0 (begin 0 no_names []) result

-- a unit has no tokens, or its tokens are those of no unit, or a name in it is undeclared or redeclared
unfoldable pub IsRefusedAlone : NamedText → Answer → Type 0
IsRefusedAlone unit answer =
    ((fault : LexFault) × (fault ≡ OutOfMemory → ⊥) × IsFault unit.1 fault × (answer ≡ lexical_refusal unit fault))
    ⊎ (((list : List Token) × IsTokens unit.1 list × (fault : Fault) × Reading unit.1 list (Err fault)
    × (answer ≡ syntax_refusal unit.0 list fault))
    ⊎ ((list : List Token) × IsTokens unit.1 list × (state : State) × Reading unit.1 list (Ok state)
    × (fault : NameFault) × (fault ≡ names.OutOfMemory → ⊥)
    × (first_of unit.1 list state.nodes ≡ Some fault)
    × (answer ≡ name_refusal unit.0 list state.nodes fault)))

-- a unit has tokens that are those of a unit, and no name in it is undeclared or redeclared
unfoldable pub IsReadAs : NamedText → List Token → Type 0
IsReadAs unit list =
    IsTokens unit.1 list
    × ((state : State) × Reading unit.1 list (Ok state) × (first_of unit.1 list state.nodes ≡ None))

abbrev pub IsReadAlone : NamedText → Type 0
IsReadAlone unit = (list : List Token) × IsReadAs unit list

-- each of some units is read alone
abbrev pub AreReadAlone : List NamedText → Type 0
AreReadAlone [] = Unit {0}
AreReadAlone (unit ∷ units) = IsReadAlone unit × AreReadAlone units
