-- Names are letters and digits of ASCII.
use Rattle.std.proofs.Common.{arith, ◌≡◌, ◌+◌, ◌-◌, ◌<◌, ℕ, ◌&&◌, ◌||◌, ◌==◌, Bool, true, false, List, [], Option, Some, None, length, drop, slice_get, All, inl, inr, refl, sym, ap, ◌∙◌, subst}
use Rattle.std.specs.Prelude.{slice_index, slice_range, nat_le, if◌then◌else◌}
use Rattle.std.proofs.lemmas.Bool.{leb-true, eqb-true, and_parts, or_cases, cases_lt}
use Rattle.std.proofs.lemmas.List.{get_or-take, get_or-drop, length-take}
use Rattle.std.proofs.lemmas.List.Elements.{All-from_get_or, All-nil}
use Rattle.std.proofs.lemmas.Option.{slice_get_within, get_or_from_slice_get}
use Rattle.c_lexer.specs.declared.Token.{Token}
use Rattle.c_lexer.specs.declared.TokenKind.{TokenKind}
use Rattle.c_lexer.specs.declared.TokenKind.TheVariants as token
use Rattle.c_lexer.specs.declared.meanings.Meaning.TheVariants as means
use Rattle.c_lexer.specs.declared.runs.Run.TheVariants.{White, Line, Name, Number}
use Rattle.c_lexer.specs.declared.quotes.Quote.TheVariants.{Character, Text}
use Rattle.c_lexer.specs.Bytes.{is_letter, is_digit}
use Rattle.c_lexer.specs.Numbers.{is_integer}
use Rattle.c_lexer.specs.Pieces.{Kind, run, sign, literal, Piece, Stands, follows}
use Rattle.c_lexer.specs.Meanings.{kind_meaning, number_meaning}
use Rattle.c_lexer.specs.Cut.{IsTokens}
use Rattle.c_lexer.specs.Laws as laws
use Rattle.c_lexer.proofs.OneCut.{stand}
use Rattle.c_grammar.specs.declared.trees.SyntaxNode.{SyntaxNode}
use Rattle.c_grammar.specs.Terminals.{spelled}
use Rattle.c_senses.specs.Tree.{Source, token_of, token_at, kind_of_token, spelling_of, spelling_at, is_identifier, is_name, is_leaf}

-- letters and digits are below 128
in_class : (low high c : ℕ) → (nat_le low c && nat_le c high) ≡ true → high < 128 → c < 128
in_class low high c h below = let most = leb-true c high (and_parts (nat_le low c) (nat_le c high) h).1 in omega (arith, most, below)

letter_below : (c : ℕ) → is_letter c ≡ true → c < 128
unfolding is_letter
letter_below c h = elim (or_cases ((nat_le 97 c && nat_le c 122) || (nat_le 65 c && nat_le c 90)) (c == 95) h) [
  | inl e ↦ elim (or_cases (nat_le 97 c && nat_le c 122) (nat_le 65 c && nat_le c 90) e) [
    | inl f ↦ in_class 97 122 c f (omega arith)
    | inr f ↦ in_class 65 90 c f (omega arith)
  ]
  | inr e ↦ let same = eqb-true c 95 e in omega (arith, same)
]

digit_below : (c : ℕ) → is_digit c ≡ true → c < 128
unfolding is_digit
digit_below c h = in_class 48 57 c h (omega arith)

name_below : (before c : ℕ) → follows Name before c ≡ true → c < 128
unfolding follows
name_below before c h = elim (or_cases (is_letter c) (is_digit c) h) [ inl e ↦ letter_below c e | inr e ↦ digit_below c e ]

-- the bytes of a run of a name
module _ (text : List ℕ) (from end : ℕ) (h : Stands (run Name) text from end) where
  byte_below : (i : ℕ) → from + i < end → slice_index text (from + i) < 128
  byte_below i lt = elim (cases_lt 0 i) [
    | inl more ↦ name_below (slice_index text (from + i - 1)) (slice_index text (from + i)) (h.2 (from + i) (omega arith) lt)
    | inr none ↦ let e : from ≡ from + i = omega arith in subst (λ (k : ℕ). slice_index text k < 128) e (letter_below (slice_index text from) h.1)
  ]

  name_ascii : All (λ b. b < 128) (slice_range text from end)
  name_ascii =
      All-from_get_or (λ (b : ℕ). b < 128) (slice_range text from end) 0
      (λ i lt.
      let inside : i < end - from = omega (arith, lt, length-take (end - from) (drop from text)) in
      subst (λ (b : ℕ). b < 128) (sym (get_or-take (end - from) (drop from text) i 0 inside ∙ get_or-drop from text i 0)) (byte_below i (omega (arith, inside))))

-- what means an identifier is a run of a name
number_no : (b : Bool) → (if b then means.Token token.Integer else means.Token token.Floating) ≡ means.Token token.Identifier → ⊥
number_no true e = cc
number_no false e = cc

is_word : (kind : Kind) (word : List ℕ) → kind_meaning kind word ≡ means.Token token.Identifier → kind ≡ run Name
unfolding number_meaning
is_word (run White) word e = cc
is_word (run Line) word e = cc
is_word (run Name) word e = refl
is_word (run Number) word e = absurd (number_no (is_integer word) e)
is_word (sign k) word e = cc
is_word (literal p Character) word e = cc
is_word (literal p Text) word e = cc

range_ascii : (text : List ℕ) (t : Token) → laws.Stands text t → t.kind ≡ token.Identifier → All (λ b. b < 128) (slice_range text t.start t.end)
range_ascii text t (inl h) e = absurd (let f : t.kind ≡ token.End = h.0 in cc)
range_ascii text t (inr h) e =
    let p : Piece = h.0 in
    let named : p.kind ≡ run Name = is_word p.kind (slice_range text p.from p.end) (h.4 ∙ ap means.Token e) in
    let stands : Stands (run Name) text p.from p.end = subst (λ (k : Kind). Stands k text p.from p.end) named h.3.piece.stands in
    let same : slice_range text p.from p.end ≡ slice_range text t.start t.end = ap (λ (k : ℕ). slice_range text k p.end) h.1 ∙ ap (λ (k : ℕ). slice_range text t.start k) h.2 in
    subst (λ (w : List ℕ). All (λ b. b < 128) w) same (name_ascii text p.from p.end stands)

spelling_ascii : (b : Bool) (w : List ℕ) → All (λ b. b < 128) w → All (λ b. b < 128) (if b then w else [])
spelling_ascii true w h = h
spelling_ascii false w h = All-nil (λ (b : ℕ). b < 128)

token_ascii : (text : List ℕ) (t : Token) → laws.Stands text t → t.kind ≡ token.Identifier → All (λ b. b < 128) (spelled text t)
token_ascii text t h e = spelling_ascii (nat_le t.start t.end && nat_le t.end (length text)) (slice_range text t.start t.end) (range_ascii text t h e)

identifier_is : (k : TokenKind) → is_identifier k ≡ true → k ≡ token.Identifier
identifier_is token.Identifier e = refl
identifier_is (token.Keyword k) e = cc
identifier_is (token.Punctuator k) e = cc
identifier_is token.Integer e = cc
identifier_is token.Floating e = cc
identifier_is token.Character e = cc
identifier_is token.Text e = cc
identifier_is token.End e = cc

module _ (s : Source) (all : All (laws.Stands s.text) s.tokens) where
  token_stands : (k : ℕ) (t : Token) → slice_get s.tokens k ≡ Some t → laws.Stands s.text t
  token_stands k t e = subst (λ (u : Token). laws.Stands s.text u) (get_or_from_slice_get s.tokens k t t e) (all k t (slice_get_within s.tokens k t e))

  by_token : (k : ℕ) (o : Option Token) → slice_get s.tokens k ≡ o → kind_of_token o ≡ token.Identifier → All (λ b. b < 128) (spelling_of s o)
  by_token k None h e = absurd (let f : token.End ≡ token.Identifier = e in cc)
  by_token k (Some t) h e = token_ascii s.text t (token_stands k t h) e

  by_node : (n : Option SyntaxNode) → kind_of_token (token_of s n) ≡ token.Identifier → All (λ b. b < 128) (spelling_of s (token_of s n))
  by_node None e = absurd (let f : token.End ≡ token.Identifier = e in cc)
  by_node (Some n) e = by_token n.token (slice_get s.tokens n.token) refl e

pub names_spelled : (s : Source) → IsTokens s.text s.tokens → (name : ℕ) → is_name s name ≡ true → All (λ b. b < 128) (spelling_at s name)
names_spelled s is name h =
    by_node s (stand s.text s.tokens is) (slice_get s.nodes name)
    (identifier_is (kind_of_token (token_at s name)) (and_parts (is_leaf s name) (is_identifier (kind_of_token (token_at s name))) h).1)
