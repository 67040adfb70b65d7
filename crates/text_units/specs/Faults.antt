-- What the fault of a text says.
use Rattle.std.specs.Prelude.{◌≡◌, List, [], ℕ}
use Rattle.c_lexer.specs.declared.Token.{Token}
use Rattle.c_lexer.specs.declared.Tokens.{Tokens}
use Rattle.c_grammar.specs.declared.trees.Tree.{Tree}
use Rattle.c_lexer.specs.declared.LexFault.{LexFault}
use Rattle.c_lexer.specs.declared.LexFault.TheVariants.{BadByte, Unended, BadNumber, TooLong}
use Rattle.c_lexer.specs.declared.LexFault.TheVariants as lex
use Rattle.c_grammar.specs.Reads.{Node, malformed, unsupported, too_deep}
use Rattle.c_scope.specs.declared.kinds.NameFault.{NameFault}
use Rattle.c_scope.specs.declared.kinds.NameFault.TheVariants as names
use Rattle.c_parser.specs.declared.ParseFault.{ParseFault}
use Rattle.c_parser.specs.declared.ParseFault.TheVariants.{Malformed, Unsupported, TooDeep, OutOfMemory}
use Rattle.pta_base.specs.declared.kind.Kind.TheVariants.{Operand}
use Rattle.core_nodes.specs.declared.fault.CheckFault.{CheckFault}
use Rattle.core_nodes.specs.declared.fault.CheckFault.TheVariants as check
use Rattle.text_units.specs.declared.fault.UnitsFault.{UnitsFault}
use Rattle.text_units.specs.declared.fault.UnitsFault.TheVariants.{Refused, Memory}
use Rattle.text_units.specs.Answers.{NamedText, Answer}
use Rattle.text_units.specs.Alone.{IsRefusedAlone, lexical_refusal, syntax_refusal, name_refusal}
use Rattle.text_units.specs.Lowered.{kind_refusal}
use Rattle.text_units.specs.Refused.{IsRefusedText, FirstRefused}

-- a fault is a refusal
abbrev pub fault_of : Answer → UnitsFault
fault_of answer = Refused answer.status answer.err

-- a refusal is that of a unit alone
abbrev pub IsFaultAlone : NamedText → UnitsFault → Type 0
IsFaultAlone unit (Refused status line) = IsRefusedAlone unit (record { status = status; out = []; err = line })
IsFaultAlone unit Memory = Unit {0}

-- a refusal is that of a text, as unit of that number
abbrev pub IsFaultIn : ℕ → NamedText → UnitsFault → Type 0
IsFaultIn number text (Refused status line) =
    IsRefusedText number text (record { status = status; out = []; err = line })
IsFaultIn number text Memory = Unit {0}

-- a refusal is that of the first text that isn't right, where the first text is the unit of that number
abbrev pub IsFirstFault : ℕ → List NamedText → UnitsFault → Type 0
IsFirstFault number texts (Refused status line) =
    FirstRefused IsRefusedText number texts (record { status = status; out = []; err = line })
IsFirstFault number texts Memory = Unit {0}

-- the refusal for a lexical fault
abbrev pub IsLexical : NamedText → LexFault → UnitsFault → Type 0
IsLexical unit (BadByte at) fault = fault ≡ fault_of (lexical_refusal unit (BadByte at))
IsLexical unit (Unended at) fault = fault ≡ fault_of (lexical_refusal unit (Unended at))
IsLexical unit (BadNumber at) fault = fault ≡ fault_of (lexical_refusal unit (BadNumber at))
IsLexical unit TooLong fault = fault ≡ fault_of (lexical_refusal unit TooLong)
IsLexical unit lex.OutOfMemory fault = fault ≡ Memory

-- the refusal for a fault of syntax
abbrev pub IsSyntactic : List ℕ → List Token → ParseFault → UnitsFault → Type 0
IsSyntactic name list (Malformed number) fault = fault ≡ fault_of (syntax_refusal name list (malformed number))
IsSyntactic name list (Unsupported kind number) fault =
    fault ≡ fault_of (syntax_refusal name list (unsupported kind number))
IsSyntactic name list (TooDeep number) fault = fault ≡ fault_of (syntax_refusal name list (too_deep number))
IsSyntactic name list OutOfMemory fault = fault ≡ Memory

-- the refusal for a fault of names
abbrev pub IsNominal : List ℕ → List Token → List Node → NameFault → UnitsFault → Type 0
IsNominal name list nodes (names.Undeclared node) fault =
    fault ≡ fault_of (name_refusal name list nodes (names.Undeclared node))
IsNominal name list nodes (names.Redeclared node) fault =
    fault ≡ fault_of (name_refusal name list nodes (names.Redeclared node))
IsNominal name list nodes names.OutOfMemory fault = fault ≡ Memory

-- the refusal for the fault of a node
abbrev pub IsKindRefusal : List ℕ → Tokens → Tree → CheckFault → UnitsFault → Type 0
IsKindRefusal name tokens tree (check.BadOperand node) fault =
    fault ≡ fault_of (kind_refusal name tokens tree Operand node)
IsKindRefusal name tokens tree (check.Unsupported kind node) fault =
    fault ≡ fault_of (kind_refusal name tokens tree kind node)
IsKindRefusal name tokens tree check.OutOfMemory fault = fault ≡ Memory
