-- Where the quotes of a string token stand, and what the tokens of a text say of literals.
use Rattle.std.proofs.Common.{◌≡◌, ℕ, zero, suc, ◌+◌, ◌-◌, ◌<◌, ◌≤◌, ◌^◌, true, false, not, eqb, ◌⊎◌, inl, inr, List, length, take, drop, get_or, slice_range, refl, sym, ap, ◌∙◌, subst, arith}
use Rattle.std.proofs.lemmas.List.{take-take, drop-take, drop-drop, get_or-take, get_or-drop, length-drop, length-take-le}
use Rattle.std.proofs.lemmas.List.Sums.{prefix_len_is}
use Rattle.std.proofs.lemmas.List.Elements.{All-weaker}
use Rattle.std.proofs.lemmas.Bool.{cases_lt, both_ways}
use Rattle.c_lexer.specs.declared.Token.{Token}
use Rattle.c_lexer.specs.declared.TokenKind.TheVariants.{Text}
use Rattle.c_lexer.specs.declared.LexFault.{LexFault}
use Rattle.c_lexer.specs.declared.LexFault.TheVariants.{BadByte}
use Rattle.c_lexer.specs.declared.meanings.Meaning.TheVariants as means
use Rattle.c_lexer.specs.declared.quotes.Prefix.{Prefix}
use Rattle.c_lexer.specs.declared.quotes.Prefix.TheVariants.{Plain, Wide, Char16, Char32, Utf8}
use Rattle.c_lexer.specs.declared.quotes.Quote.TheVariants as quote
use Rattle.c_lexer.specs.Spells.{Spells}
use Rattle.c_lexer.specs.Quotes.{prefix, is_wide}
use Rattle.c_lexer.specs.Escapes.{IsBad}
use Rattle.c_lexer.specs.Pieces.{literal, quote_of, Stands, Piece}
use Rattle.c_lexer.specs.Meanings.{kind_meaning, KindFlaw, IsGood}
use Rattle.c_lexer.specs.Laws.{Stands as TokenStands}
use Rattle.c_lexer.proofs.Quoted.{escaped_first}
use Rattle.c_lexer.proofs.OneCut.{stand}
use Rattle.c_grammar.specs.Terminals as terminals
use Rattle.c_grammar.specs.Terminals.{bytes_between, spelled}
use Rattle.c_senses.specs.Literals.{prefix_length, between_quotes, bytes_of, bytes_of_string, value_of_integer}
use Rattle.c_literals.specs.Laws.{AreBytes, LiteralFits, LiteralsFit}
use Rattle.c_literals.proofs.Pieces.{integer_piece, text_piece, spelled_is, integer_fits}
use Rattle.c_literals.proofs.Narrow.{IsNarrow, narrow}

-- a byte of a range
byte_of : (text : List ℕ) (from end j : ℕ) → j < end - from → get_or (slice_range text from end) j 0 ≡ get_or text (from + j) 0
byte_of text from end j h = get_or-take (end - from) (drop from text) j 0 h ∙ get_or-drop from text j 0

-- a literal that the grammar doesn't take as wide has no wide prefix
wide_0 : (word : List ℕ) (c : ℕ) → get_or word 0 0 ≡ c → (c ≡ 76) ⊎ (c ≡ 85) → terminals.is_wide word ≡ true
unfolding terminals.is_wide
wide_0 word c e (inl h) = rw (e, h) refl
wide_0 word c e (inr h) = rw (e, h) refl

wide_16 : (word : List ℕ) → get_or word 0 0 ≡ 117 → get_or word 1 0 ≡ 34 → terminals.is_wide word ≡ true
unfolding terminals.is_wide
wide_16 word e h = rw (e, h) refl

-- how many bytes stand before the quote
none_before : (word : List ℕ) → 0 < length word → get_or word 0 0 ≡ 34 → prefix_length 34 word ≡ 0
none_before word some e =
    prefix_len_is (λ c. not (eqb c 34)) word 0 0 (omega arith) (λ k h. absurd (omega arith)) (λ h. rw e refl)

two_before : (word : List ℕ) → 2 < length word → get_or word 0 0 ≡ 117 → get_or word 1 0 ≡ 56 → get_or word 2 0 ≡ 34 → prefix_length 34 word ≡ 2
two_before word some e f g = prefix_len_is (λ c. not (eqb c 34)) word 2 0 (omega arith) before (λ h. rw g refl)
  where
    before : (k : ℕ) → k < 2 → not (eqb (get_or word k 0) 34) ≡ true
    before zero h = rw e refl
    before (suc zero) h = rw f refl
    before (suc (suc k)) h = absurd (omega arith)

range_long : (text : List ℕ) (from end : ℕ) → end ≤ length text → length (slice_range text from end) ≡ end - from
range_long text from end h = length-take-le (end - from) (drop from text) (omega (arith, length-drop from text))

-- a string that isn't wide begins with a quote, or with u8 and a quote
before_quote : (text : List ℕ) (from end n : ℕ) (p : Prefix) → Spells text from (prefix p) → get_or text (from + length (prefix p)) 0 ≡ 34 → end ≡ from + length (prefix p) + n + 2 → end ≤ length text → terminals.is_wide (slice_range text from end) ≡ false → (is_wide p ≡ false) × (prefix_length 34 (slice_range text from end) ≡ length (prefix p))
before_quote text from end n Plain s q e h w =
    let word = slice_range text from end in
    let long = range_long text from end h in
    (refl, none_before word (omega arith) (byte_of text from end 0 (omega arith) ∙ q))
before_quote text from end n Wide s q e h w =
    let word = slice_range text from end in
    absurd (both_ways (terminals.is_wide word) w (wide_0 word 76 (byte_of text from end 0 (omega arith) ∙ s.1 0 (omega arith)) (inl refl)))
before_quote text from end n Char16 s q e h w =
    let word = slice_range text from end in
    absurd (both_ways (terminals.is_wide word) w (wide_16 word (byte_of text from end 0 (omega arith) ∙ s.1 0 (omega arith)) (byte_of text from end 1 (omega arith) ∙ q)))
before_quote text from end n Char32 s q e h w =
    let word = slice_range text from end in
    absurd (both_ways (terminals.is_wide word) w (wide_0 word 85 (byte_of text from end 0 (omega arith) ∙ s.1 0 (omega arith)) (inr refl)))
before_quote text from end n Utf8 s q e h w =
    let word = slice_range text from end in
    let long = range_long text from end h in
    (refl, two_before word (omega arith) (byte_of text from end 0 (omega arith) ∙ s.1 0 (omega arith)) (byte_of text from end 1 (omega arith) ∙ s.1 1 (omega arith)) (byte_of text from end 2 (omega arith) ∙ q))

-- what stands between the quotes
inside_is : (text : List ℕ) (from end n size : ℕ) → end ≡ from + size + n + 2 → end ≤ length text → prefix_length 34 (slice_range text from end) ≡ size → between_quotes 34 (slice_range text from end) ≡ take n (drop (from + size + 1) text)
inside_is text from end n size e h s =
    let word = slice_range text from end in
    let tail = drop (from + size + 1) text in
    let parts : end - from ≡ size + 1 + (n + 1) = omega arith in
    let place : from + (size + 1) ≡ from + size + 1 = omega arith in
    let behind : drop (prefix_length 34 word + 1) word ≡ take (n + 1) tail =
    ap (λ k. drop (k + 1) word) s
    ∙ (ap (λ k. drop (size + 1) (take k (drop from text))) parts
    ∙ (drop-take (size + 1) (n + 1) (drop from text) ∙ ap (λ xs. take (n + 1) xs) (drop-drop (size + 1) from text ∙ ap (λ i. drop i text) place)))
    in
    let long : length (take (n + 1) tail) ≡ n + 1 = length-take-le (n + 1) tail (omega (arith, length-drop (from + size + 1) text)) in
    let less : length (take (n + 1) tail) - 1 ≡ n = omega arith in
    ap (λ xs. take (length xs - 1) xs) behind ∙ (ap (λ k. take k (take (n + 1) tail)) less ∙ take-take n (n + 1) tail (omega arith))

-- a literal without a flaw has no bad escape
none_bad : (text : List ℕ) (p : Prefix) (from end : ℕ) → ((fault : LexFault) → KindFlaw (literal p quote.Text) text from end fault → ⊥) → (k : ℕ) → k ≤ end - quote_of p from - 2 → (i : ℕ) → i < k → IsBad (is_wide p) text (quote_of p from + 1) i → ⊥
none_bad text p from end flawless zero h i l b = omega arith
none_bad text p from end flawless (suc k) h i l b =
    elim (cases_lt i k) [
      | inl m ↦ none_bad text p from end flawless k (omega arith) i m b
      | inr m ↦
          let same : i ≡ k = omega arith in
          flawless (BadByte (quote_of p from + 1 + k)) (inr (
            k,
            record {
              within = omega arith;
              bad = subst (λ j. IsBad (is_wide p) text (quote_of p from + 1) j) same b;
              first = none_bad text p from end flawless k (omega arith);
            },
            refl,
          ))
    ]

-- a string that isn't wide stands for bytes
string_fits : (text : List ℕ) (p : Prefix) (from end : ℕ) → Stands (literal p quote.Text) text from end → ((fault : LexFault) → KindFlaw (literal p quote.Text) text from end fault → ⊥) → end ≤ length text → AreBytes text → terminals.is_wide (slice_range text from end) ≡ false → AreBytes (bytes_of_string (slice_range text from end))
string_fits text p from end stands flawless h all w =
    let q = quote_of p from in
    let n = stands.1.0 in
    let closed = stands.1.2 in
    let parts = before_quote text from end n p stands.0.spelled stands.0.quote stands.1.1 h w in
    let size : n ≤ end - q - 2 = let e = stands.1.1 in omega arith in
    let is : IsNarrow text (q + 1) n = record {
      within = let c = closed.within in omega arith;
      quote = closed.closes.0 ∙ stands.0.quote;
      closes = closed.closes.1;
      good = λ i l b. none_bad text p from end flawless n size i l (subst (λ v. IsBad v text (q + 1) i) (sym parts.0) b);
    } in
    let bytes = narrow text (q + 1) n is all n 0 (omega arith) (omega arith) (escaped_first text (q + 1)) in
    let count : n - 0 ≡ n = omega arith in
    let place : q + 1 + 0 ≡ q + 1 = omega arith in
    let here = ap (λ k. take k (drop (q + 1 + 0) text)) count ∙ ap (λ j. take n (drop j text)) place in
    subst (λ xs. AreBytes (bytes_of xs)) (here ∙ sym (inside_is text from end n (length (prefix p)) stands.1.1 h parts.1)) bytes

-- what a token says of its literal
word_is : (text : List ℕ) (t : Token) (p : Piece) → p.from ≡ t.start → p.end ≡ t.end → IsGood text p → spelled text t ≡ slice_range text p.from p.end
word_is text t p e f good =
    ap (λ s. bytes_between text s t.end) (sym e) ∙ (ap (λ j. bytes_between text p.from j) (sym f) ∙ spelled_is text p.from p.end good.piece.within.0 good.piece.within.1)

piece_string : (text : List ℕ) (p : Piece) → IsGood text p → AreBytes text → kind_meaning p.kind (slice_range text p.from p.end) ≡ means.Token Text → terminals.is_wide (slice_range text p.from p.end) ≡ false → AreBytes (bytes_of_string (slice_range text p.from p.end))
piece_string text p good all m w =
    let found = text_piece p.kind (slice_range text p.from p.end) m in
    string_fits text found.0 p.from p.end (subst (λ k. Stands k text p.from p.end) found.1 good.piece.stands)
    (λ fault flaw. good.flawless fault (subst (λ k. KindFlaw k text p.from p.end fault) (sym found.1) flaw)) good.piece.within.1 all w

token_fits : (text : List ℕ) (t : Token) → AreBytes text → TokenStands text t → LiteralFits text t
token_fits text t all (inl (end, start, last)) = record {
  integer = λ k. absurd cc;
  string = λ k w. absurd cc;
}
token_fits text t all (inr (p, from, end, good, meant)) =
    let word = word_is text t p from end good in
    record {
      integer = λ k. subst (λ xs. value_of_integer xs < 2 ^ 64) (sym word) (integer_fits (slice_range text p.from p.end) (integer_piece p.kind (slice_range text p.from p.end) (meant ∙ ap means.Token k)));
      string = λ k w.
          subst (λ xs. AreBytes (bytes_of_string xs)) (sym word) (piece_string text p good all (meant ∙ ap means.Token k) (sym (ap terminals.is_wide word) ∙ w));
    }

pub fits : LiteralsFit
fits text ts all tokens = All-weaker (TokenStands text) (LiteralFits text) (λ t s. token_fits text t all s) ts (stand text ts tokens)
