-- Names are made of letters, which stand in no other part of a location's name.
use Rattle.std.proofs.Common.{arith, ◌≡◌, ◌+◌, ◌-◌, ◌<◌, ◌≤◌, ℕ, suc, ◌&&◌, ◌||◌, ◌==◌, Bool, true, false, List, [], ◌∷◌, Option, Some, None, length, drop, slice_get, All, inl, inr, refl, sym, ap, ◌∙◌, subst}
use Rattle.std.specs.Prelude.{slice_index, slice_range, nat_le, nat_eq, not, if◌then◌else◌}
use Rattle.std.proofs.lemmas.Bool.{le-leb, leb-true, eqb-true, and_parts, or_cases, cases_lt}
use Rattle.std.proofs.lemmas.Bool.Decides.{nat_tests}
use Rattle.std.proofs.lemmas.List.{get_or-take, get_or-drop, length-take, length-take-le, length-drop}
use Rattle.std.proofs.lemmas.Option.{slice_get_within, get_or_from_slice_get}
use Rattle.std.specs.List.{list_all}
use Rattle.c_lexer.specs.declared.Token.{Token}
use Rattle.c_lexer.specs.declared.TokenKind.{TokenKind}
use Rattle.c_lexer.specs.declared.TokenKind.TheVariants as token
use Rattle.c_lexer.specs.declared.meanings.Meaning.TheVariants as means
use Rattle.c_lexer.specs.declared.runs.Run.TheVariants.{White, Line, Name, Number}
use Rattle.c_lexer.specs.declared.quotes.Quote.TheVariants.{Character, Text}
use Rattle.c_lexer.specs.Bytes as bytes
use Rattle.c_lexer.specs.Numbers.{is_integer}
use Rattle.c_lexer.specs.Pieces.{Kind, run, sign, literal, Piece, Stands, follows}
use Rattle.c_lexer.specs.Meanings.{kind_meaning, number_meaning}
use Rattle.c_lexer.specs.Cut.{IsTokens}
use Rattle.c_lexer.specs.Laws as laws
use Rattle.c_lexer.proofs.OneCut.{stand}
use Rattle.c_grammar.specs.declared.trees.SyntaxNode.{SyntaxNode}
use Rattle.c_grammar.specs.Terminals.{spelled}
use Rattle.linked_laws.specs.location_laws.name_shapes.Bytes.{is_letter, IsMadeOf, IsWord}
use Rattle.c_senses.specs.Tree.{Source, token_of, token_at, kind_of_token, spelling_of, spelling_at, is_identifier, is_name, is_leaf}

-- letters and digits are none of the signs that stand between the parts of names
differs : (c k : ℕ) → (c ≡ k → ⊥) → nat_eq c k ≡ false
differs c k n = grind (arith, nat_tests)

letter_so : (a b c d e f : Bool) → a ≡ false → b ≡ false → c ≡ false → d ≡ false → e ≡ false → f ≡ false → (((not a && not b) && (not c && not d)) && (not e && not f)) ≡ true
letter_so a b c d e f p q r s t u = rw (p, q, r, s, t, u) refl

apart : (c : ℕ) → (c ≡ 58 → ⊥) → (c ≡ 64 → ⊥) → (c ≡ 46 → ⊥) → (c ≡ 47 → ⊥) → (c ≡ 35 → ⊥) → (c ≡ 60 → ⊥) → is_letter c ≡ true
apart c p q r s t u =
    letter_so (nat_eq c 58) (nat_eq c 64) (nat_eq c 46) (nat_eq c 47) (nat_eq c 35) (nat_eq c 60) (differs c 58 p) (differs c 64 q) (differs c 46 r) (differs c 47 s) (differs c 35 t) (differs c 60 u)

range_letter : (low high c : ℕ) → (nat_le low c && nat_le c high) ≡ true → ((k : ℕ) → low ≤ k → k ≤ high → is_letter k ≡ true) → is_letter c ≡ true
range_letter low high c h each = let parts = and_parts (nat_le low c) (nat_le c high) h in each c (leb-true low c parts.0) (leb-true c high parts.1)

letter_is : (c : ℕ) → bytes.is_letter c ≡ true → is_letter c ≡ true
unfolding bytes.is_letter
letter_is c h = elim (or_cases ((nat_le 97 c && nat_le c 122) || (nat_le 65 c && nat_le c 90)) (c == 95) h) [
  | inl e ↦ elim (or_cases (nat_le 97 c && nat_le c 122) (nat_le 65 c && nat_le c 90) e) [
    | inl f ↦ range_letter 97 122 c f (λ k l m. apart k (λ e. omega (arith, e, l, m)) (λ e. omega (arith, e, l, m)) (λ e. omega (arith, e, l, m)) (λ e. omega (arith, e, l, m)) (λ e. omega (arith, e, l, m)) (λ e. omega (arith, e, l, m)))
    | inr f ↦ range_letter 65 90 c f (λ k l m. apart k (λ e. omega (arith, e, l, m)) (λ e. omega (arith, e, l, m)) (λ e. omega (arith, e, l, m)) (λ e. omega (arith, e, l, m)) (λ e. omega (arith, e, l, m)) (λ e. omega (arith, e, l, m)))
  ]
  | inr e ↦ let same = eqb-true c 95 e in subst (λ (k : ℕ). is_letter k ≡ true) (sym same) refl
]

digit_is : (c : ℕ) → bytes.is_digit c ≡ true → is_letter c ≡ true
unfolding bytes.is_digit
digit_is c h =
    range_letter 48 57 c h (λ k l m. apart k (λ e. omega (arith, e, l, m)) (λ e. omega (arith, e, l, m)) (λ e. omega (arith, e, l, m)) (λ e. omega (arith, e, l, m)) (λ e. omega (arith, e, l, m)) (λ e. omega (arith, e, l, m)))

name_is : (before c : ℕ) → follows Name before c ≡ true → is_letter c ≡ true
unfolding follows
name_is before c h = elim (or_cases (bytes.is_letter c) (bytes.is_digit c) h) [ inl e ↦ letter_is c e | inr e ↦ digit_is c e ]

-- a list whose elements pass
all_pass : (list : List ℕ) → ((i : ℕ) → i < length list → is_letter (slice_index list i) ≡ true) → IsMadeOf is_letter list
all_pass [] h = refl
all_pass (x ∷ list) h = both (is_letter x) (list_all is_letter list) (h 0 (omega arith)) (all_pass list (λ i l. h (suc i) (omega (arith, l))))
  where
    both : (a b : Bool) → a ≡ true → b ≡ true → (a && b) ≡ true
    both a b p q = rw (p, q) refl

-- the bytes of a run of a name
module _ (text : List ℕ) (from end : ℕ) (h : Stands (run Name) text from end) where
  byte_is : (i : ℕ) → from + i < end → is_letter (slice_index text (from + i)) ≡ true
  byte_is i lt = elim (cases_lt 0 i) [
    | inl more ↦ name_is (slice_index text (from + i - 1)) (slice_index text (from + i)) (h.2 (from + i) (omega arith) lt)
    | inr none ↦ let e : from ≡ from + i = omega arith in subst (λ (k : ℕ). is_letter (slice_index text k) ≡ true) e (letter_is (slice_index text from) h.1)
  ]

  name_letters : IsMadeOf is_letter (slice_range text from end)
  name_letters =
      all_pass (slice_range text from end)
      (λ i lt.
      let inside : i < end - from = omega (arith, lt, length-take (end - from) (drop from text)) in
      subst (λ (b : ℕ). is_letter b ≡ true) (sym (get_or-take (end - from) (drop from text) i 0 inside ∙ get_or-drop from text i 0)) (byte_is i (omega (arith, inside))))

-- what means an identifier is a run of a name
number_no : (b : Bool) → (if b then means.Token token.Integer else means.Token token.Floating) ≡ means.Token token.Identifier → ⊥
number_no true e = cc
number_no false e = cc

is_word : (kind : Kind) (word : List ℕ) → kind_meaning kind word ≡ means.Token token.Identifier → kind ≡ run Name
unfolding number_meaning
is_word (run White) word e = cc
is_word (run Line) word e = cc
is_word (run Name) word e = refl
is_word (run Number) word e = absurd (number_no (is_integer word) e)
is_word (sign k) word e = cc
is_word (literal p Character) word e = cc
is_word (literal p Text) word e = cc

-- a word's token is a text of letters with a byte
word_there : (list : List ℕ) → 0 < length list → IsMadeOf is_letter list → IsWord list
word_there [] lt h = absurd (omega (arith, lt))
word_there (c ∷ rest) lt h = h

letters_of : (list : List ℕ) → IsWord list → IsMadeOf is_letter list
letters_of [] h = absurd h
letters_of (c ∷ rest) h = h

range_word : (text : List ℕ) (t : Token) → laws.Stands text t → t.kind ≡ token.Identifier → (t.start ≤ t.end) × (t.end ≤ length text) × IsWord (slice_range text t.start t.end)
range_word text t (inl h) e = absurd (let f : t.kind ≡ token.End = h.0 in cc)
range_word text t (inr h) e =
    let p : Piece = h.0 in
    let named : p.kind ≡ run Name = is_word p.kind (slice_range text p.from p.end) (h.4 ∙ ap means.Token e) in
    let stands : Stands (run Name) text p.from p.end = subst (λ (k : Kind). Stands k text p.from p.end) named h.3.piece.stands in
    let same : slice_range text p.from p.end ≡ slice_range text t.start t.end = ap (λ (k : ℕ). slice_range text k p.end) h.1 ∙ ap (λ (k : ℕ). slice_range text t.start k) h.2 in
    let start : p.from ≡ t.start = h.1 in
    let end : p.end ≡ t.end = h.2 in
    let some : p.from < p.end = h.3.piece.within.0 in
    let inside : p.end ≤ length text = h.3.piece.within.1 in
    let long : length (slice_range text p.from p.end) ≡ p.end - p.from = length-take-le (p.end - p.from) (drop p.from text) (omega (arith, length-drop p.from text, inside)) in
    (omega (arith, start, end, some), omega (arith, end, inside), subst IsWord same (word_there (slice_range text p.from p.end) (omega (arith, long, some)) (name_letters text p.from p.end stands)))

spelling_word : (a b : Bool) (w : List ℕ) → a ≡ true → b ≡ true → IsWord w → IsWord (if a && b then w else [])
spelling_word true true w e f h = h
spelling_word true false w e f h = cc
spelling_word false b w e f h = cc

token_word : (text : List ℕ) (t : Token) → laws.Stands text t → t.kind ≡ token.Identifier → IsWord (spelled text t)
token_word text t h e =
    let word = range_word text t h e in
    spelling_word (nat_le t.start t.end) (nat_le t.end (length text)) (slice_range text t.start t.end) (le-leb t.start t.end word.0) (le-leb t.end (length text) word.1) word.2

identifier_is : (k : TokenKind) → is_identifier k ≡ true → k ≡ token.Identifier
identifier_is token.Identifier e = refl
identifier_is (token.Keyword k) e = cc
identifier_is (token.Punctuator k) e = cc
identifier_is token.Integer e = cc
identifier_is token.Floating e = cc
identifier_is token.Character e = cc
identifier_is token.Text e = cc
identifier_is token.End e = cc

module _ (s : Source) (all : All (laws.Stands s.text) s.tokens) where
  token_stands : (k : ℕ) (t : Token) → slice_get s.tokens k ≡ Some t → laws.Stands s.text t
  token_stands k t e = subst (λ (u : Token). laws.Stands s.text u) (get_or_from_slice_get s.tokens k t t e) (all k t (slice_get_within s.tokens k t e))

  by_token : (k : ℕ) (o : Option Token) → slice_get s.tokens k ≡ o → kind_of_token o ≡ token.Identifier → IsWord (spelling_of s o)
  by_token k None h e = absurd (let f : token.End ≡ token.Identifier = e in cc)
  by_token k (Some t) h e = token_word s.text t (token_stands k t h) e

  by_node : (n : Option SyntaxNode) → kind_of_token (token_of s n) ≡ token.Identifier → IsWord (spelling_of s (token_of s n))
  by_node None e = absurd (let f : token.End ≡ token.Identifier = e in cc)
  by_node (Some n) e = by_token n.token (slice_get s.tokens n.token) refl e

pub words_spelled : (s : Source) → IsTokens s.text s.tokens → (name : ℕ) → is_name s name ≡ true → IsWord (spelling_at s name)
words_spelled s is name h =
    by_node s (stand s.text s.tokens is) (slice_get s.nodes name)
    (identifier_is (kind_of_token (token_at s name)) (and_parts (is_leaf s name) (is_identifier (kind_of_token (token_at s name))) h).1)

pub names_spelled : (s : Source) → IsTokens s.text s.tokens → (name : ℕ) → is_name s name ≡ true → IsMadeOf is_letter (spelling_at s name)
names_spelled s is name h = letters_of (spelling_at s name) (words_spelled s is name h)
