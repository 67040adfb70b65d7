-- Which tokens are opening parentheses.
use Rattle.std.proofs.Common.{arith, ◌≡◌, ◌<◌, ◌≤◌, ◌&&◌, ◌||◌, ℕ, not, nat_lt, nat_eq, Bool, true, false, cond, List, [], ◌∷◌, Option, Some, None, inl, inr, refl, sym, ap, subst}
use Rattle.std.specs.Prelude.{codes, if◌then◌else◌}
use Rattle.std.specs.List.{list_all}
use Rattle.std.specs.Option.{unwrap_or}
use Rattle.std.specs.Str.{bytes_eq}
use Rattle.std.specs.Cmp.Lexicographic.{pointwise}
use Rattle.std.proofs.lemmas.Bool.{eqb-true, ltb-true}
use Rattle.std.proofs.lemmas.Bool.Decides.{nat_tests}
use Rattle.c_lexer.specs.declared.Token.{Token}
use Rattle.c_lexer.specs.declared.TokenKind.{TokenKind}
use Rattle.c_lexer.specs.declared.TokenKind.TheVariants.{Identifier, Keyword, Punctuator, Integer, Floating, Character, Text, End}
use Rattle.c_lexer.specs.declared.meanings.Meaning.TheVariants as means
use Rattle.c_lexer.specs.declared.runs.Run.TheVariants.{White, Line, Name, Number}
use Rattle.c_lexer.specs.declared.quotes.Quote.TheVariants as quote
use Rattle.c_lexer.specs.Numbers.{is_integer}
use Rattle.c_lexer.specs.Spellings.{keywords, position}
use Rattle.c_lexer.specs.Pieces.{Kind, run, sign, literal, Piece}
use Rattle.c_lexer.specs.Meanings.{kind_meaning, keyword_meaning, word_meaning, number_meaning, lookup}
use Rattle.c_lexer.specs.Laws.{Stands}
use Rattle.c_grammar.specs.Names.{Names, is_type}
use Rattle.c_grammar.specs.Terminals.{is_wide, has_one_character, terminal_of_kind, terminal_of, takes, spelled, own_words, list_words, own_meaning, name_terminal, is_builtin}

left : (a b : Bool) → (a && b) ≡ true → a ≡ true
left true b e = refl
left false b e = cc

right : (a b : Bool) → (a && b) ≡ true → b ≡ true
right true b e = e
right false b e = cc

-- a keyword's number is below those of punctuators
small_in : (table : List (List ℕ × ℕ)) → list_all (λ e. nat_lt e.1 45) table ≡ true → (word : List ℕ) (k : ℕ) → lookup table word ≡ Some k → k < 45
unfolding lookup
small_in [] h word k e = cc
small_in (x ∷ table) h word k e = by (small_in table (right (nat_lt x.1 45) (list_all (λ e. nat_lt e.1 45) table) h) word k) (pointwise nat_eq x.0 word) e
  where
    by : (lookup table word ≡ Some k → k < 45) → (b : Bool) → cond b (Some x.1) (lookup table word) ≡ Some k → k < 45
    by rest true e = let same : x.1 ≡ k = cc in subst (λ (n : ℕ). n < 45) same (ltb-true x.1 45 (left (nat_lt x.1 45) (list_all (λ e. nat_lt e.1 45) table) h))
    by rest false e = rest e

small_words : list_all (λ e. nat_lt e.1 45) keywords ≡ true
unfolding keywords
small_words = refl

abbrev IsSmall : TokenKind → Type 0
IsSmall (Keyword k) = k < 45
IsSmall kind = Unit {0}

keyword_small : (o : Option ℕ) → ((k : ℕ) → o ≡ Some k → k < 45) → (t : TokenKind) → keyword_meaning o ≡ means.Token t → IsSmall t
keyword_small None h t e = let same : Identifier ≡ t = cc in subst IsSmall same tt
keyword_small (Some k) h t e = let same : Keyword k ≡ t = cc in subst IsSmall same (h k refl)

word_small : (a b : Bool) (o : Option ℕ) → ((k : ℕ) → o ≡ Some k → k < 45) → (t : TokenKind) → cond a means.Attribute (cond b means.Nothing (keyword_meaning o)) ≡ means.Token t → IsSmall t
word_small true b o h t e = cc
word_small false true o h t e = cc
word_small false false o h t e = keyword_small o h t e

number_small : (b : Bool) (t : TokenKind) → cond b (means.Token Integer) (means.Token Floating) ≡ means.Token t → IsSmall t
number_small true t e = let same : Integer ≡ t = cc in subst IsSmall same tt
number_small false t e = let same : Floating ≡ t = cc in subst IsSmall same tt

piece_small : (k : Kind) (word : List ℕ) (t : TokenKind) → kind_meaning k word ≡ means.Token t → IsSmall t
unfolding word_meaning number_meaning
piece_small (run White) word t e = cc
piece_small (run Line) word t e = cc
piece_small (run Name) word t e = word_small (pointwise nat_eq (codes "__attribute__") word) (pointwise nat_eq (codes "__extension__") word) (lookup keywords word) (small_in keywords small_words word) t e
piece_small (run Number) word t e = number_small (is_integer word) t e
piece_small (sign k) word t e = let same : Punctuator (position k) ≡ t = cc in subst IsSmall same tt
piece_small (literal p quote.Character) word t e = let same : Character ≡ t = cc in subst IsSmall same tt
piece_small (literal p quote.Text) word t e = let same : Text ≡ t = cc in subst IsSmall same tt

token_small : (text : List ℕ) (t : Token) → Stands text t → IsSmall t.kind
token_small text t (inl h) = subst IsSmall (sym h.0) tt
token_small text t (inr h) = let p : Piece = h.0 in piece_small p.kind _ t.kind h.4

-- the terminals of names are above those of punctuators
not_less : (y : ℕ) → nat_lt y 93 ≡ false → 93 ≤ y
not_less y e = grind (arith, nat_tests, e)

high : (y : ℕ) (b : Bool) → nat_lt y 93 ≡ b → not b ≡ true → 93 ≤ y
high y true e g = cc
high y false e g = not_less y e

own_high : (words : List (List ℕ × ℕ)) → list_all (λ w. not (nat_lt w.1 93)) words ≡ true → (name : List ℕ) (x : ℕ) → own_meaning words name ≡ Some x → 93 ≤ x
own_high [] h name x e = cc
own_high (w ∷ words) h name x e = by (own_high words (right (not (nat_lt w.1 93)) (list_all (λ w. not (nat_lt w.1 93)) words) h) name x) (bytes_eq name w.0) e
  where
    by : (own_meaning words name ≡ Some x → 93 ≤ x) → (b : Bool) → cond b (Some w.1) (own_meaning words name) ≡ Some x → 93 ≤ x
    by rest true e = let same : w.1 ≡ x = cc in subst (λ (n : ℕ). 93 ≤ n) same (high w.1 (nat_lt w.1 93) refl (left (not (nat_lt w.1 93)) (list_all (λ w. not (nat_lt w.1 93)) words) h))
    by rest false e = rest e

high_words : list_all (λ w. not (nat_lt w.1 93)) own_words ≡ true
unfolding own_words
high_words = refl

high_list_words : list_all (λ w. not (nat_lt w.1 93)) list_words ≡ true
unfolding list_words
high_list_words = refl

name_high : (names : Names) (name : List ℕ) → 93 ≤ name_terminal names name
unfolding name_terminal
name_high names name = by (own_meaning own_words name) refl
  where
    plain : (a b : Bool) (o : Option ℕ) → own_meaning list_words name ≡ o → 93 ≤ (if a then (if b then 108 else unwrap_or o 97) else (if b then 94 else 93))
    plain true true o e = omega arith
    plain true false None e = omega arith
    plain true false (Some x) e = own_high list_words high_list_words name x e
    plain false true o e = omega arith
    plain false false o e = omega arith

    by : (o : Option ℕ) → own_meaning own_words name ≡ o
        → 93 ≤ unwrap_or o (if is_builtin name then (if is_type names name then 108 else unwrap_or (own_meaning list_words name) 97) else (if is_type names name then 94 else 93))
    by None e = plain (is_builtin name) (is_type names name) (own_meaning list_words name) refl
    by (Some x) e = own_high own_words high_words name x e

paren_kind : (k : TokenKind) (names : Names) (bytes : List ℕ) → IsSmall k → terminal_of_kind k names bytes ≡ 47 → k ≡ Punctuator 2
paren_kind Identifier names bytes h e = let up = name_high names bytes in absurd (omega (arith, up, e))
paren_kind (Keyword k) names bytes h e = absurd (omega (arith, h, e))
paren_kind (Punctuator p) names bytes h e = let same : p ≡ 2 = omega (arith, e) in ap Punctuator same
paren_kind Integer names bytes h e = absurd (omega (arith, e))
paren_kind Floating names bytes h e = absurd (omega (arith, e))
paren_kind Character names bytes h e = by (is_wide bytes) (has_one_character bytes) e
  where
    by : (a b : Bool) → ◌≡◌ {A = ℕ} (cond a 104 (cond b 100 105)) 47 → Character ≡ Punctuator 2
    by true b e = absurd (omega (arith, e))
    by false true e = absurd (omega (arith, e))
    by false false e = absurd (omega (arith, e))
paren_kind Text names bytes h e = by (is_wide bytes) e
  where
    by : (a : Bool) → ◌≡◌ {A = ℕ} (cond a 104 101) 47 → Text ≡ Punctuator 2
    by true e = absurd (omega (arith, e))
    by false e = absurd (omega (arith, e))
paren_kind End names bytes h e = absurd (omega (arith, e))

-- a token that is an opening parenthesis
abbrev pub IsParen : Option Token → Type 0
IsParen o = (t : Token) × (o ≡ Some t) × (t.kind ≡ Punctuator 2)

one_of : (x : ℕ) → (nat_eq 47 x || false) ≡ true → x ≡ 47
one_of x h = by (nat_eq 47 x) refl h
  where
    by : (b : Bool) → nat_eq 47 x ≡ b → (b || false) ≡ true → x ≡ 47
    by true e h = sym (eqb-true 47 x e)
    by false e h = cc

-- an item for the parenthesis takes it
pub paren_taken : (text : List ℕ) (p : ℕ) (names : Names) (o : Option Token) → ((t : Token) → o ≡ Some t → Stands text t) → takes p (Punctuator 2) (terminal_of text names o) ≡ true → IsParen o
unfolding takes
paren_taken text p names None stands h = cc
paren_taken text p names (Some t) stands h =
    let taken : (nat_eq 47 (terminal_of_kind t.kind names (spelled text t)) || false) ≡ true = right (not (nat_eq (terminal_of_kind t.kind names (spelled text t)) 103)) _ h in
    (t, refl, paren_kind t.kind names (spelled text t) (token_small text t (stands t refl)) (one_of (terminal_of_kind t.kind names (spelled text t)) taken))
