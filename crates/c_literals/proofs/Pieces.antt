-- What the kind of a token says of its piece.
use Rattle.std.proofs.Common.{◌≡◌, ℕ, ◌≤◌, ◌<◌, ◌^◌, Bool, true, false, cond, eqb, nat_eq, ltb, leb, ◌&&◌, Option, Some, None, List, length, slice_range, slice_index, codes, drop, refl, arith}
use Rattle.std.specs.Cmp.Lexicographic.{pointwise}
use Rattle.std.proofs.lemmas.Bool.{and_parts, ltb-true, le-leb}
use Rattle.c_lexer.specs.declared.numbers.Base.{Base}
use Rattle.c_lexer.specs.declared.numbers.Base.TheVariants.{Octal, Decimal, Hexadecimal}
use Rattle.c_lexer.specs.declared.TokenKind.TheVariants.{Integer, Floating, Text}
use Rattle.c_lexer.specs.declared.meanings.Meaning.TheVariants.{Nothing, Attribute, Token}
use Rattle.c_lexer.specs.declared.runs.Run.TheVariants.{White, Line, Name, Number}
use Rattle.c_lexer.specs.declared.quotes.Prefix.{Prefix}
use Rattle.c_lexer.specs.declared.quotes.Quote.TheVariants as quote
use Rattle.c_lexer.specs.Spellings.{keywords}
use Rattle.c_lexer.specs.Numbers.{value, behind, digit_count, is_suffix, is_whole, is_integer, begins_hexadecimal}
use Rattle.c_lexer.specs.Pieces.{Kind, run, sign, literal}
use Rattle.c_lexer.specs.Meanings.{lookup, keyword_meaning, word_meaning, number_meaning, kind_meaning}
use Rattle.c_grammar.specs.Terminals.{bytes_between}
use Rattle.c_senses.specs.Literals.{value_of_integer}

-- a word is neither a constant nor a string
no_integer : (a b : Bool) (o : Option ℕ) → cond a Attribute (cond b Nothing (keyword_meaning o)) ≡ Token Integer → ⊥
no_integer true b o e = cc
no_integer false true o e = cc
no_integer false false None e = cc
no_integer false false (Some k) e = cc

no_text : (a b : Bool) (o : Option ℕ) → cond a Attribute (cond b Nothing (keyword_meaning o)) ≡ Token Text → ⊥
no_text true b o e = cc
no_text false true o e = cc
no_text false false None e = cc
no_text false false (Some k) e = cc

word_no_integer : (word : List ℕ) → word_meaning word ≡ Token Integer → ⊥
unfolding word_meaning
word_no_integer word e = no_integer (pointwise nat_eq (codes "__attribute__") word) (pointwise nat_eq (codes "__extension__") word) (lookup keywords word) e

word_no_text : (word : List ℕ) → word_meaning word ≡ Token Text → ⊥
unfolding word_meaning
word_no_text word e = no_text (pointwise nat_eq (codes "__attribute__") word) (pointwise nat_eq (codes "__extension__") word) (lookup keywords word) e

integer_from : (b : Bool) → cond b (Token Integer) (Token Floating) ≡ Token Integer → b ≡ true
integer_from true e = refl
integer_from false e = cc

no_text_from : (b : Bool) → cond b (Token Integer) (Token Floating) ≡ Token Text → ⊥
no_text_from true e = cc
no_text_from false e = cc

number_is_integer : (word : List ℕ) → number_meaning word ≡ Token Integer → is_integer word ≡ true
unfolding number_meaning
number_is_integer word e = integer_from (is_integer word) e

number_no_text : (word : List ℕ) → number_meaning word ≡ Token Text → ⊥
unfolding number_meaning
number_no_text word e = no_text_from (is_integer word) e

-- an integer token is an integer constant
pub integer_piece : (k : Kind) (word : List ℕ) → kind_meaning k word ≡ Token Integer → is_integer word ≡ true
integer_piece (run White) word e = cc
integer_piece (run Line) word e = cc
integer_piece (run Name) word e = absurd (word_no_integer word e)
integer_piece (run Number) word e = number_is_integer word e
integer_piece (sign n) word e = cc
integer_piece (literal p quote.Character) word e = cc
integer_piece (literal p quote.Text) word e = cc

-- a string token is a string literal
pub text_piece : (k : Kind) (word : List ℕ) → kind_meaning k word ≡ Token Text → (p : Prefix) × (k ≡ literal p quote.Text)
text_piece (run White) word e = absurd cc
text_piece (run Line) word e = absurd cc
text_piece (run Name) word e = absurd (word_no_text word e)
text_piece (run Number) word e = absurd (number_no_text word e)
text_piece (sign n) word e = absurd cc
text_piece (literal p quote.Character) word e = absurd cc
text_piece (literal p quote.Text) word e = (p, refl)

-- a token's bytes
pub spelled_is : (text : List ℕ) (start end : ℕ) → start < end → end ≤ length text → bytes_between text start end ≡ slice_range text start end
spelled_is text start end h k =
    let a : leb start end ≡ true = le-leb start end (omega arith) in
    let b : leb end (length text) ≡ true = le-leb end (length text) k in
    rw (a, b) refl

-- an integer constant is below 2^64
whole_fits : (base : Base) (xs : List ℕ) → is_whole base xs ≡ true → value base xs < 2 ^ 64
unfolding is_whole
whole_fits base xs e =
    let parts = and_parts (ltb 0 (digit_count base xs)) (ltb (value base xs) (2 ^ 64) && is_suffix (behind base xs)) e in
    ltb-true (value base xs) (2 ^ 64) (and_parts (ltb (value base xs) (2 ^ 64)) (is_suffix (behind base xs)) parts.1).0

chosen : (b : Bool) (base : Base) (xs ys : List ℕ) → cond b (is_whole Hexadecimal ys) (is_whole base xs) ≡ true → is_whole (cond b Hexadecimal base) (cond b ys xs) ≡ true
chosen true base xs ys e = e
chosen false base xs ys e = e

pub integer_fits : (xs : List ℕ) → is_integer xs ≡ true → value_of_integer xs < 2 ^ 64
unfolding is_integer
integer_fits xs e =
    let base = cond (eqb (slice_index xs 0) 48) Octal Decimal in
    let b = begins_hexadecimal xs in
    whole_fits (cond b Hexadecimal base) (cond b (drop 2 xs) xs) (chosen b base xs (drop 2 xs) e)
