-- Which constructs are refused while reading, and under which kinds.
use Rattle.std.specs.Prelude.{ℕ, ◌==◌, ◌&&◌, ◌||◌, Option, Some, None, if◌then◌else◌}
use Rattle.pta_base.specs.declared.kind.Kind.{Kind}
use Rattle.pta_base.specs.declared.kind.Kind.TheVariants.{Floating, Complex, Atomic, Generic, Asm}
use Rattle.pta_base.specs.declared.kind.Kind.TheVariants.{StatementExpression, Typeof, Builtin, OldParameters}
use Rattle.pta_base.specs.declared.kind.Kind.TheVariants.{ThreadLocal, Wide, WideInteger, Character, LabelAddress}
use Rattle.pta_base.specs.declared.kind.Kind.TheVariants.{Range}
use Rattle.c_grammar.specs.Terminals.{contains, list_names}
use Rattle.c_grammar.specs.Terminals.{sign, plain_name, typeof_name, builtin_name, builtin_type, floating}
use Rattle.c_grammar.specs.Terminals.{wide_literal, long_character, wide_integer, thread_word}
use Rattle.c_grammar.specs.Words.{word_asm, word_atomic, word_complex, word_generic, word_imaginary}
use Rattle.c_grammar.specs.Words.{word_thread_local, sign_left_parenthesis, sign_left_brace, sign_both}
use Rattle.c_grammar.specs.Words.{sign_ellipsis}
use Rattle.c_grammar.specs.Productions.{p_external, p_type, p_parameter, p_statement, p_cast, p_primary}
use Rattle.c_grammar.specs.Productions.{p_range_end, p_case_end}

-- a floating constant, _Generic, a statement in parentheses and the name of a builtin stand where an operand begins
abbrev pub refused_primary : ℕ → ℕ → Option Kind
refused_primary first second =
    if first == floating then Some Floating
    else if first == word_generic then Some Generic
    else if (first == builtin_name) || (first == builtin_type) then Some Builtin
    else if (first == sign sign_left_parenthesis) && (second == sign sign_left_brace) then Some StatementExpression
    else None

-- the kind under which a production is refused where it opens: by the operand's first tokens; a label's address
-- where a cast begins; asm where a statement or an external declaration begins; typeof where a type is named; a
-- range of cases or of indices; a name that is no type where a parameter begins
unfoldable pub refusal : ℕ → ℕ → ℕ → Option Kind
refusal production first second =
    if production == p_primary then refused_primary first second
    else if production == p_cast then (if first == sign sign_both then Some LabelAddress else None)
    else if (production == p_statement)
    || (production == p_external) then (if first == word_asm then Some Asm else None)
    else if production == p_type then (if first == typeof_name then Some Typeof else None)
    else if (production == p_range_end)
    || (production == p_case_end) then (if first == sign sign_ellipsis then Some Range else None)
    else if production == p_parameter
    then (if (first == plain_name) || (first == builtin_name) || contains list_names first
    then Some OldParameters else None)
    else None

-- the kind under which a token that doesn't fit is refused, wherever it stands
unfoldable pub refused_token : ℕ → Option Kind
refused_token first =
    if (first == word_complex) || (first == word_imaginary) then Some Complex
    else if first == word_atomic then Some Atomic
    else if first == word_generic then Some Generic
    else if (first == word_thread_local) || (first == thread_word) then Some ThreadLocal
    else if first == wide_literal then Some Wide
    else if first == long_character then Some Character
    else if first == wide_integer then Some WideInteger
    else None
