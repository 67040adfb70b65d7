-- The kinds under which texts are refused.
use Rattle.std.proofs.Common.{arith, ◌≡◌, ℕ, ◌+◌, ◌==◌, ◌&&◌, ◌||◌, Bool, true, false, List, [], ◌∷◌, ◌++◌, Option, Some, None, Result, Err, inl, inr, sym, ap, ◌∙◌, subst}
use Rattle.std.specs.Prelude.{IfSome, if◌then◌else◌, codes}
use Rattle.pta_base.specs.Kind.{name_of}
use Rattle.pta_base.specs.declared.kind.Kind.{Kind}
use Rattle.pta_base.specs.declared.kind.Kind.TheVariants.{Floating, Complex, Atomic, Generic, Asm, StatementExpression, Typeof, Builtin, OldParameters, ThreadLocal, Wide, WideInteger, Character, LabelAddress, Range}
use Rattle.pta_base.specs.declared.kind.Kind.TheVariants as kinds
use Rattle.c_lexer.specs.declared.Token.{Token}
use Rattle.c_lexer.specs.declared.LexFault.{LexFault}
use Rattle.c_lexer.specs.declared.LexFault.TheVariants.{BadByte, Unended, BadNumber, TooLong, OutOfMemory}
use Rattle.c_grammar.specs.Terminals.{contains, list_names, sign, plain_name, typeof_name, builtin_name, builtin_type, floating, wide_literal, long_character, wide_integer, thread_word}
use Rattle.c_grammar.specs.Words.{word_asm, word_atomic, word_complex, word_generic, word_imaginary, word_thread_local, sign_left_parenthesis, sign_left_brace, sign_both, sign_ellipsis}
use Rattle.c_grammar.specs.Productions.{p_external, p_type, p_parameter, p_statement, p_cast, p_primary, p_range_end, p_case_end}
use Rattle.c_grammar.specs.Refusals.{refused_primary, refusal, refused_token}
use Rattle.c_grammar.specs.Reads.{State, Fault, Node, malformed, unsupported, too_deep, fault_of, first, second, scoped, taken, opened, Walks, Opens, at_end, token, no_token, use_of, no_use, choice, no_choice, no_alternative, again, no_again, scope, enough, deep, refused, whole, broken}
use Rattle.c_senses.specs.Names.{source_of}
use Rattle.c_senses.specs.Places.{own_place}
use Rattle.c_mentions.specs.Syntax.{token_at}
use Rattle.c_scope.specs.declared.kinds.NameFault.{NameFault}
use Rattle.c_scope.specs.declared.kinds.NameFault.TheVariants as names
use Rattle.refusal_laws.specs.Refusals.{IsOther}
use Rattle.refusal_laws.proofs.Rows.{rows_built}
use Rattle.text_units.specs.Answers.{NamedText, Answer, place_text}
use Rattle.text_units.specs.Answers as answers
use Rattle.text_units.specs.Alone.{IsRefusedAlone, lexical_refusal, token_place, syntax_refusal, name_refusal}
use Rattle.text_units.specs.Lowered.{IsRefusedRow}
use Rattle.text_units.specs.Refused.{IsRefusedText, FirstRefused}
use Rattle.text_units.specs.Kinds.{IsReadBuilt, IsKindLine, KindsBuilt}

-- ---- what is refused while reading

token_kinds : (a b c d e f g : Bool) → IfSome (if a then Some Complex else if b then Some Atomic else if c then Some Generic else if d then Some ThreadLocal else if e then Some Wide else if f then Some Character else if g then Some WideInteger else None) IsOther
token_kinds true b c d e f g = tt
token_kinds false true c d e f g = tt
token_kinds false false true d e f g = tt
token_kinds false false false true e f g = tt
token_kinds false false false false true f g = tt
token_kinds false false false false false true g = tt
token_kinds false false false false false false true = tt
token_kinds false false false false false false false = tt

refused_token_built : (t : ℕ) → IfSome (refused_token t) IsOther
unfolding refused_token
refused_token_built t =
    token_kinds ((t == word_complex) || (t == word_imaginary)) (t == word_atomic) (t == word_generic) ((t == word_thread_local) || (t == thread_word)) (t == wide_literal) (t == long_character) (t == wide_integer)

operand_kinds : (a b c d : Bool) → IfSome (if a then Some Floating else if b then Some Generic else if c then Some Builtin else if d then Some StatementExpression else None) IsOther
operand_kinds true b c d = tt
operand_kinds false true c d = tt
operand_kinds false false true d = tt
operand_kinds false false false true = tt
operand_kinds false false false false = tt

kind_if : (b : Bool) (kind : Kind) → IsOther kind → IfSome (if b then Some kind else None) IsOther
kind_if true kind h = h
kind_if false kind h = tt

either_kind : (b : Bool) (o p : Option Kind) → IfSome o IsOther → IfSome p IsOther → IfSome (if b then o else p) IsOther
either_kind true o p h k = h
either_kind false o p h k = k

refusal_built : (q a b : ℕ) → IfSome (refusal q a b) IsOther
unfolding refusal
refusal_built q a b =
    let old : Option Kind = if (a == plain_name) || (a == builtin_name) || contains list_names a then Some OldParameters else None in
    let by_parameter : Option Kind = if q == p_parameter then old else None in
    let range : Option Kind = if a == sign sign_ellipsis then Some Range else None in
    let by_range : Option Kind = if (q == p_range_end) || (q == p_case_end) then range else by_parameter in
    let named : Option Kind = if a == typeof_name then Some Typeof else None in
    let by_type : Option Kind = if q == p_type then named else by_range in
    let asm : Option Kind = if a == word_asm then Some Asm else None in
    let by_asm : Option Kind = if (q == p_statement) || (q == p_external) then asm else by_type in
    let label : Option Kind = if a == sign sign_both then Some LabelAddress else None in
    let by_label : Option Kind = if q == p_cast then label else by_asm in
    either_kind (q == p_primary) (refused_primary a b) by_label
    (operand_kinds (a == floating) (a == word_generic) ((a == builtin_name) || (a == builtin_type)) ((a == sign sign_left_parenthesis) && (b == sign sign_left_brace)))
    (either_kind (q == p_cast) label by_asm (kind_if (a == sign sign_both) LabelAddress tt)
    (either_kind ((q == p_statement) || (q == p_external)) asm by_type (kind_if (a == word_asm) Asm tt)
    (either_kind (q == p_type) named by_range (kind_if (a == typeof_name) Typeof tt)
    (either_kind ((q == p_range_end) || (q == p_case_end)) range by_parameter (kind_if (a == sign sign_ellipsis) Range tt)
    (either_kind (q == p_parameter) old None (kind_if ((a == plain_name) || (a == builtin_name) || contains list_names a) OldParameters tt) tt)))))

fault_built : (o : Option Kind) (place : ℕ) → IfSome o IsOther → IsReadBuilt (Err (fault_of o place))
fault_built None place h = tt
fault_built (Some kind) place h = h

some_built : (o : Option Kind) (kind : Kind) → IfSome o IsOther → o ≡ Some kind → IsOther kind
some_built o kind h e = subst (λ (x : Option Kind). IfSome x IsOther) e h

module _ (text : List ℕ) (tokens : List Token) where
  mutual
    walks_built : (p at d : ℕ) (s : State) (r : Result State Fault) → Walks text tokens p at d s r → IsReadBuilt r
    walks_built p at d s r (at_end h) = tt
    walks_built p at d s r (token h k w) = walks_built p (at + 1) d (taken text tokens p s) r w
    walks_built p at d s r (no_token h k) = fault_built (refused_token (first text tokens s)) s.place (refused_token_built (first text tokens s))
    walks_built p at d s r (use_of {t = u} h o w) = walks_built p (at + 1) d u r w
    walks_built p at d s r (no_use {q = q} {f = f} h o) = opens_built q d s (Err f) o
    walks_built p at d s r (choice {t = u} h c o w) = walks_built p (at + 1) d u r w
    walks_built p at d s r (no_choice {q = q} {f = f} h c o) = opens_built q d s (Err f) o
    walks_built p at d s r (no_alternative h c) = fault_built (refused_token (first text tokens s)) s.place (refused_token_built (first text tokens s))
    walks_built p at d s r (again {t = u} h k o w) = walks_built p at d u r w
    walks_built p at d s r (no_again {q = q} {f = f} h k o) = opens_built q d s (Err f) o
    walks_built p at d s r (scope {n = n} h w) = walks_built p (at + 1) d (scoped text tokens p n s) r w
    walks_built p at d s r (enough h k w) = walks_built p (at + 1) d s r w

    opens_built : (q d : ℕ) (s : State) (r : Result State Fault) → Opens text tokens q d s r → IsReadBuilt r
    opens_built q d s r (deep h) = tt
    opens_built q d s r (refused {kind = kind} h k) = some_built (refusal q (first text tokens s) (second text tokens s)) kind (refusal_built q (first text tokens s) (second text tokens s)) k
    opens_built q d s r (whole h k w) = tt
    opens_built q d s r (broken {f = f} h k w) = walks_built q 0 _ (opened q s) (Err f) w

-- ---- lines of refusals

kind_line : (place : List ℕ) (kind : Kind) (answer : Answer) → IsOther kind → answer ≡ answers.refusal 4 (place ++ codes ": not accepted " ++ name_of kind) → IsKindLine answer
kind_line place kind answer built is = record { place = place; kind = kind; built = built; answer_is = is }

-- with another status it is none of these
with_status : (answer other : Answer) → answer ≡ other → answer.status ≡ 4 → other.status ≡ 4
with_status answer other is four = ap (λ (a : Answer). a.status) (sym is) ∙ four

lexical_line : (text : NamedText) (fault : LexFault) (answer : Answer) → answer ≡ lexical_refusal text fault → answer.status ≡ 4 → IsKindLine answer
lexical_line text (BadByte at) answer is four = let no : ◌≡◌ {A = ℕ} 3 4 = with_status answer (lexical_refusal text (BadByte at)) is four in absurd (omega arith)
lexical_line text (Unended at) answer is four = let no : ◌≡◌ {A = ℕ} 3 4 = with_status answer (lexical_refusal text (Unended at)) is four in absurd (omega arith)
lexical_line text (BadNumber at) answer is four = let no : ◌≡◌ {A = ℕ} 3 4 = with_status answer (lexical_refusal text (BadNumber at)) is four in absurd (omega arith)
lexical_line text TooLong answer is four = let no : ◌≡◌ {A = ℕ} 6 4 = with_status answer (lexical_refusal text TooLong) is four in absurd (omega arith)
lexical_line text OutOfMemory answer is four = let no : ◌≡◌ {A = ℕ} 9 4 = with_status answer (lexical_refusal text OutOfMemory) is four in absurd (omega arith)

syntax_line : (name : List ℕ) (list : List Token) (fault : Fault) (answer : Answer) → IsReadBuilt (Err fault) → answer ≡ syntax_refusal name list fault → answer.status ≡ 4 → IsKindLine answer
syntax_line name list (malformed number) answer built is four = let no : ◌≡◌ {A = ℕ} 3 4 = with_status answer (syntax_refusal name list (malformed number)) is four in absurd (omega arith)
syntax_line name list (unsupported kind number) answer built is four = kind_line (token_place name list number) kind answer built is
syntax_line name list (too_deep number) answer built is four = let no : ◌≡◌ {A = ℕ} 6 4 = with_status answer (syntax_refusal name list (too_deep number)) is four in absurd (omega arith)

name_line : (name : List ℕ) (list : List Token) (nodes : List Node) (fault : NameFault) (answer : Answer) → answer ≡ name_refusal name list nodes fault → answer.status ≡ 4 → IsKindLine answer
name_line name list nodes (names.Undeclared node) answer is four = kind_line (token_place name list (token_at nodes node)) kinds.Undeclared answer tt is
name_line name list nodes (names.Redeclared node) answer is four = kind_line (token_place name list (token_at nodes node)) kinds.Redeclared answer tt is
name_line name list nodes names.OutOfMemory answer is four = let no : ◌≡◌ {A = ℕ} 9 4 = with_status answer (name_refusal name list nodes names.OutOfMemory) is four in absurd (omega arith)

alone_line : (text : NamedText) (answer : Answer) → IsRefusedAlone text answer → answer.status ≡ 4 → IsKindLine answer
unfolding IsRefusedAlone
alone_line text answer h four = elim h [
  | inl lexical ↦ lexical_line text lexical.0 answer lexical.3 four
  | inr rest ↦ elim rest [
    | inl syntax ↦ syntax_line text.0 syntax.0 syntax.2 answer (opens_built text.1 syntax.0 _ _ _ _ syntax.3) syntax.4 four
    | inr named ↦ name_line text.0 named.0 (named.2).nodes named.4 answer named.7 four
  ]
]

row_line : (number : ℕ) (text : NamedText) (answer : Answer) → IsRefusedRow number text answer → IsKindLine answer
row_line number text answer h =
    let place = own_place (source_of h.tokens h.tree) h.node in
    kind_line (place_text text.0 place.line place.column) h.kind answer (rows_built.never _ h.kind h.node h.refused) h.answer_is

text_line : (number : ℕ) (text : NamedText) (answer : Answer) → IsRefusedText number text answer → answer.status ≡ 4 → IsKindLine answer
text_line number text answer h four = elim h [ inl alone ↦ alone_line text answer alone four | inr row ↦ row_line number text answer row ]

first_line : (number : ℕ) (texts : List NamedText) (answer : Answer) → FirstRefused IsRefusedText number texts answer → answer.status ≡ 4 → IsKindLine answer
first_line number [] answer h four = absurd h
first_line number (text ∷ texts) answer h four = elim h [
  | inl here ↦ text_line number text answer here four
  | inr later ↦ first_line (number + 1) texts answer later.2 four
]

pub kinds_built : KindsBuilt
kinds_built = record {
  reads = opens_built;
  alone = alone_line;
  row = row_line;
  text = text_line;
  first = first_line;
}
