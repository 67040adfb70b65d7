-- Integer constants are below 2^64.
use Rattle.std.proofs.Common.{arith, ◌≡◌, ℕ, ◌<◌, ◌^◌, ◌&&◌, ◌==◌, Bool, true, false, List, [], Option, Some, None, slice_get, length, All, inl, inr, refl, ap, ◌∙◌, subst}
use Rattle.std.specs.Prelude.{slice_index, slice_range, codes, nat_lt, nat_le, nat_eq, drop, if◌then◌else◌}
use Rattle.std.specs.Cmp.Lexicographic.{pointwise}
use Rattle.c_lexer.specs.declared.Token.{Token}
use Rattle.c_lexer.specs.declared.Tokens.{Tokens}
use Rattle.c_lexer.specs.declared.TokenKind.TheVariants as token
use Rattle.c_lexer.specs.declared.meanings.Meaning.TheVariants as means
use Rattle.c_lexer.specs.declared.numbers.Base.{Base}
use Rattle.c_lexer.specs.declared.numbers.Base.TheVariants.{Octal, Decimal, Hexadecimal}
use Rattle.c_lexer.specs.declared.runs.Run.TheVariants.{White, Line, Name, Number}
use Rattle.c_lexer.specs.declared.quotes.Quote.TheVariants.{Character, Text}
use Rattle.c_lexer.specs.Bytes.{is_digit, is_octal_digit, is_hexadecimal_digit}
use Rattle.c_lexer.specs.Numbers.{is_integer, is_whole, value, digit_count, behind, is_suffix, value_on, begins_hexadecimal}
use Rattle.c_lexer.specs.Spellings.{keywords}
use Rattle.c_lexer.specs.Pieces.{Kind, run, sign, literal, Piece}
use Rattle.c_lexer.specs.Meanings.{kind_meaning, keyword_meaning, word_meaning, number_meaning, lookup}
use Rattle.c_lexer.specs.Cut.{IsTokens}
use Rattle.c_lexer.specs.Laws.{Stands}
use Rattle.c_lexer.proofs.OneCut.{stand}
use Rattle.c_grammar.specs.declared.trees.SyntaxNode.{SyntaxNode}
use Rattle.c_grammar.specs.declared.trees.Tree.{Tree}
use Rattle.c_grammar.specs.Terminals.{spelled}
use Rattle.c_senses.specs.Literals.{value_of_integer}
use Rattle.c_senses.specs.Names.{source_of, numbered}
use Rattle.c_senses.specs.Tree.{Source, token_of, kind_of_token, spelling_of}
use Rattle.parsed_tree_laws.specs.sense_laws.Senses.{ConstantsFit}
use Rattle.std.proofs.lemmas.Bool.{ltb-true}
use Rattle.std.proofs.lemmas.Option.{slice_get_within, get_or_from_slice_get}
use Rattle.parsed_tree_laws.proofs.sense_laws.Giving.{and_left, and_right}

whole_fits : (base : Base) (xs : List ℕ) → is_whole base xs ≡ true → value base xs < 2 ^ 64
unfolding is_whole
whole_fits base xs h =
    let right : (nat_lt (value base xs) (2 ^ 64) && is_suffix (behind base xs)) ≡ true = and_right (nat_lt 0 (digit_count base xs)) _ h in
    below (and_left (nat_lt (value base xs) (2 ^ 64)) (is_suffix (behind base xs)) right)
  where
    below : nat_lt (value base xs) (2 ^ 64) ≡ true → value base xs < 2 ^ 64
    below e = ltb-true (value base xs) (2 ^ 64) e

by_base : (b : Bool) (base : Base) (w : List ℕ) → (if b then is_whole Hexadecimal (drop 2 w) else is_whole base w) ≡ true → value (if b then Hexadecimal else base) (if b then drop 2 w else w) < 2 ^ 64
by_base true base w h = whole_fits Hexadecimal (drop 2 w) h
by_base false base w h = whole_fits base w h

constant_fits : (w : List ℕ) → is_integer w ≡ true → value_of_integer w < 2 ^ 64
unfolding is_integer
constant_fits w h = by_base (begins_hexadecimal w) (if slice_index w 0 == 48 then Octal else Decimal) w h

nothing_fits : value_of_integer [] < 2 ^ 64
unfolding begins_hexadecimal value_on is_digit is_octal_digit is_hexadecimal_digit
nothing_fits = omega arith

-- what means an integer constant is one
keyword_no : (o : Option ℕ) → keyword_meaning o ≡ means.Token token.Integer → ⊥
keyword_no None e = cc
keyword_no (Some k) e = cc

word_no : (a b : Bool) (o : Option ℕ) → (if a then means.Attribute else (if b then means.Nothing else keyword_meaning o)) ≡ means.Token token.Integer → ⊥
word_no true b o e = cc
word_no false true o e = cc
word_no false false o e = keyword_no o e

number_is : (b : Bool) → (if b then means.Token token.Integer else means.Token token.Floating) ≡ means.Token token.Integer → b ≡ true
number_is true e = refl
number_is false e = cc

is_constant : (kind : Kind) (word : List ℕ) → kind_meaning kind word ≡ means.Token token.Integer → is_integer word ≡ true
unfolding word_meaning number_meaning
is_constant (run White) word e = cc
is_constant (run Line) word e = cc
is_constant (run Name) word e = absurd (word_no (pointwise nat_eq (codes "__attribute__") word) (pointwise nat_eq (codes "__extension__") word) (lookup keywords word) e)
is_constant (run Number) word e = number_is (is_integer word) e
is_constant (sign k) word e = cc
is_constant (literal p Character) word e = cc
is_constant (literal p Text) word e = cc

range_fits : (text : List ℕ) (t : Token) → Stands text t → t.kind ≡ token.Integer → value_of_integer (slice_range text t.start t.end) < 2 ^ 64
range_fits text t (inl h) e = absurd (let f : t.kind ≡ token.End = h.0 in cc)
range_fits text t (inr h) e =
    let p : Piece = h.0 in
    let word : List ℕ = slice_range text t.start t.end in
    let same : slice_range text p.from p.end ≡ word = ap (λ (k : ℕ). slice_range text k p.end) h.1 ∙ ap (λ (k : ℕ). slice_range text t.start k) h.2 in
    let means_it : kind_meaning p.kind (slice_range text p.from p.end) ≡ means.Token token.Integer = h.4 ∙ ap means.Token e in
    constant_fits word (is_constant p.kind word (subst (λ (w : List ℕ). kind_meaning p.kind w ≡ means.Token token.Integer) same means_it))

spelling_fits : (b : Bool) (w : List ℕ) → value_of_integer w < 2 ^ 64 → value_of_integer (if b then w else []) < 2 ^ 64
spelling_fits true w h = h
spelling_fits false w h = nothing_fits

token_fits : (text : List ℕ) (t : Token) → Stands text t → t.kind ≡ token.Integer → value_of_integer (spelled text t) < 2 ^ 64
token_fits text t h e = spelling_fits (nat_le t.start t.end && nat_le t.end (length text)) (slice_range text t.start t.end) (range_fits text t h e)

module _ (s : Source) (all : All (Stands s.text) s.tokens) where
  token_stands : (k : ℕ) (t : Token) → slice_get s.tokens k ≡ Some t → Stands s.text t
  token_stands k t e = subst (λ (u : Token). Stands s.text u) (get_or_from_slice_get s.tokens k t t e) (all k t (slice_get_within s.tokens k t e))

  by_token : (k : ℕ) (o : Option Token) → slice_get s.tokens k ≡ o → kind_of_token o ≡ token.Integer → value_of_integer (spelling_of s o) < 2 ^ 64
  by_token k None h e = absurd (let f : token.End ≡ token.Integer = e in cc)
  by_token k (Some t) h e = token_fits s.text t (token_stands k t h) e

  by_node : (n : Option SyntaxNode) → kind_of_token (token_of s n) ≡ token.Integer → value_of_integer (spelling_of s (token_of s n)) < 2 ^ 64
  by_node None e = absurd (let f : token.End ≡ token.Integer = e in cc)
  by_node (Some n) e = by_token n.token (slice_get s.tokens n.token) refl e

  constants_in : ConstantsFit s
  constants_in i e = by_node (slice_get s.nodes i) e

pub constants_fit : (tokens : Tokens) (tree : Tree) (tag_number : ℕ → ℕ) → IsTokens tokens.text.now tokens.list.items → ConstantsFit (numbered tag_number (source_of tokens tree))
unfolding source_of
constants_fit tokens tree tag_number is = constants_in (numbered tag_number (source_of tokens tree)) (stand tokens.text.now tokens.list.items is)
