-- Which tokens are names, and which are signs.
use Rattle.std.proofs.Common.{arith, ◌≡◌, ◌<◌, ◌≤◌, ◌&&◌, ◌||◌, ℕ, zero, suc, not, nat_lt, nat_eq, Bool, true, false, cond, List, [], ◌∷◌, Option, Some, None, get_or, inl, inr, refl, sym, ap, ◌+◌, subst}
use Rattle.std.specs.Prelude.{codes, nat_le}
use Rattle.std.specs.List.{list_all}
use Rattle.std.specs.Cmp.Lexicographic.{pointwise}
use Rattle.std.specs.Option.{unwrap_or}
use Rattle.std.specs.Str.{bytes_eq}
use Rattle.std.proofs.lemmas.Bool.{eqb-true, ltb-true, leb-true}
use Rattle.std.proofs.lemmas.Bool.Decides.{nat_tests}
use Rattle.c_lexer.specs.declared.Token.{Token}
use Rattle.c_lexer.specs.declared.TokenKind.{TokenKind}
use Rattle.c_lexer.specs.declared.TokenKind.TheVariants.{Identifier, Keyword, Punctuator, Integer, Floating, Character, Text, End}
use Rattle.c_lexer.specs.declared.meanings.Meaning.TheVariants as means
use Rattle.c_lexer.specs.declared.runs.Run.TheVariants.{White, Line, Name, Number}
use Rattle.c_lexer.specs.declared.quotes.Quote.TheVariants as quote
use Rattle.c_lexer.specs.Numbers.{is_integer}
use Rattle.c_lexer.specs.Spellings.{keywords, punctuators, position}
use Rattle.c_lexer.specs.Pieces.{Kind, run, sign, literal, Piece}
use Rattle.c_lexer.specs.Meanings.{kind_meaning, keyword_meaning, word_meaning, number_meaning, lookup}
use Rattle.c_lexer.specs.Laws.{Stands}
use Rattle.c_grammar.specs.Names.{Names, is_type}
use Rattle.c_grammar.specs.Terminals.{contains, is_wide, has_one_character, terminal_of_kind, terminal_of, takes, spelled, own_words, list_words, own_meaning, is_builtin, name_terminal}

left : (a b : Bool) → (a && b) ≡ true → a ≡ true
left true b e = refl
left false b e = cc

right : (a b : Bool) → (a && b) ≡ true → b ≡ true
right true b e = e
right false b e = cc

-- the numbers of keywords and punctuators are small
small_in : (table : List (List ℕ × ℕ)) → list_all (λ e. nat_lt e.1 45) table ≡ true → (word : List ℕ) (k : ℕ) → lookup table word ≡ Some k → k < 45
unfolding lookup
small_in [] h word k e = cc
small_in (x ∷ table) h word k e = by (small_in table (right (nat_lt x.1 45) (list_all (λ e. nat_lt e.1 45) table) h) word k) (pointwise nat_eq x.0 word) e
  where
    by : (lookup table word ≡ Some k → k < 45) → (b : Bool) → cond b (Some x.1) (lookup table word) ≡ Some k → k < 45
    by rest true e = let same : x.1 ≡ k = cc in subst (λ (n : ℕ). n < 45) same (ltb-true x.1 45 (left (nat_lt x.1 45) (list_all (λ e. nat_lt e.1 45) table) h))
    by rest false e = rest e

small_at : (table : List (List ℕ × ℕ)) → list_all (λ e. nat_lt e.1 48) table ≡ true → (k : ℕ) → (get_or table k ([], 0)).1 < 48
small_at [] h k = omega arith
small_at (x ∷ table) h zero = ltb-true x.1 48 (left (nat_lt x.1 48) (list_all (λ e. nat_lt e.1 48) table) h)
small_at (x ∷ table) h (suc k) = small_at table (right (nat_lt x.1 48) (list_all (λ e. nat_lt e.1 48) table) h) k

small_words : list_all (λ e. nat_lt e.1 45) keywords ≡ true
unfolding keywords
small_words = refl

small_signs : list_all (λ e. nat_lt e.1 48) punctuators ≡ true
unfolding punctuators
small_signs = refl

position_small : (k : ℕ) → position k < 48
unfolding position
position_small k = small_at punctuators small_signs k

-- what is said of a token's kind by what its piece means
abbrev IsSmall : TokenKind → Type 0
IsSmall (Keyword k) = k < 45
IsSmall (Punctuator p) = p < 48
IsSmall kind = Unit {0}

keyword_small : (o : Option ℕ) → ((k : ℕ) → o ≡ Some k → k < 45) → (t : TokenKind) → keyword_meaning o ≡ means.Token t → IsSmall t
keyword_small None h t e = let same : Identifier ≡ t = cc in subst IsSmall same tt
keyword_small (Some k) h t e = let same : Keyword k ≡ t = cc in subst IsSmall same (h k refl)

word_small : (a b : Bool) (o : Option ℕ) → ((k : ℕ) → o ≡ Some k → k < 45) → (t : TokenKind) → cond a means.Attribute (cond b means.Nothing (keyword_meaning o)) ≡ means.Token t → IsSmall t
word_small true b o h t e = cc
word_small false true o h t e = cc
word_small false false o h t e = keyword_small o h t e

number_small : (b : Bool) (t : TokenKind) → cond b (means.Token Integer) (means.Token Floating) ≡ means.Token t → IsSmall t
number_small true t e = let same : Integer ≡ t = cc in subst IsSmall same tt
number_small false t e = let same : Floating ≡ t = cc in subst IsSmall same tt

piece_small : (k : Kind) (word : List ℕ) (t : TokenKind) → kind_meaning k word ≡ means.Token t → IsSmall t
unfolding word_meaning number_meaning
piece_small (run White) word t e = cc
piece_small (run Line) word t e = cc
piece_small (run Name) word t e = word_small (pointwise nat_eq (codes "__attribute__") word) (pointwise nat_eq (codes "__extension__") word) (lookup keywords word) (small_in keywords small_words word) t e
piece_small (run Number) word t e = number_small (is_integer word) t e
piece_small (sign k) word t e = let same : Punctuator (position k) ≡ t = cc in subst IsSmall same (position_small k)
piece_small (literal p quote.Character) word t e = let same : Character ≡ t = cc in subst IsSmall same tt
piece_small (literal p quote.Text) word t e = let same : Text ≡ t = cc in subst IsSmall same tt

pub token_small : (text : List ℕ) (t : Token) → Stands text t → IsSmall t.kind
token_small text t (inl h) = subst IsSmall (sym h.0) tt
token_small text t (inr h) = let p : Piece = h.0 in piece_small p.kind _ t.kind h.4

-- a token that is a name
abbrev pub IsName : Option Token → Type 0
IsName o = (t : Token) × (o ≡ Some t) × (t.kind ≡ Identifier)

-- the terminals of names
abbrev names_of : List ℕ
names_of = 93 ∷ 94 ∷ 96 ∷ 97 ∷ 108 ∷ 109 ∷ 110 ∷ 111 ∷ []

not_less : (y : ℕ) → nat_lt y 93 ≡ false → 93 ≤ y
not_less y e = grind (arith, nat_tests, e)

named_high : (list : List ℕ) (x : ℕ) → list_all (λ y. not (nat_lt y 93)) list ≡ true → contains list x ≡ true → 93 ≤ x
named_high [] x h c = cc
named_high (y ∷ list) x h c = by (named_high list x (right (not (nat_lt y 93)) (list_all (λ y. not (nat_lt y 93)) list) h)) (nat_eq y x) refl c
  where
    high : (b : Bool) → nat_lt y 93 ≡ b → not b ≡ true → 93 ≤ y
    high true e g = cc
    high false e g = not_less y e

    by : (contains list x ≡ true → 93 ≤ x) → (b : Bool) → nat_eq y x ≡ b → (b || contains list x) ≡ true → 93 ≤ x
    by rest true e c = let same : y ≡ x = eqb-true y x e in let up : 93 ≤ y = high (nat_lt y 93) refl (left (not (nat_lt y 93)) (list_all (λ y. not (nat_lt y 93)) list) h) in omega (arith, same, up)
    by rest false e c = rest c

name_kind : (k : TokenKind) (names : Names) (bytes : List ℕ) → IsSmall k → contains names_of (terminal_of_kind k names bytes) ≡ true → k ≡ Identifier
name_kind Identifier names bytes h e = refl
name_kind (Keyword k) names bytes h e = let up : 93 ≤ k = named_high names_of k refl e in absurd (omega (arith, h, up))
name_kind (Punctuator p) names bytes h e = let up : 93 ≤ terminal_of_kind (Punctuator p) names bytes = named_high names_of (terminal_of_kind (Punctuator p) names bytes) refl e in absurd (omega (arith, h, up))
name_kind Integer names bytes h e = cc
name_kind Floating names bytes h e = cc
name_kind Character names bytes h e = by (is_wide bytes) (has_one_character bytes) e
  where
    by : (a b : Bool) → contains names_of (cond a 104 (cond b 100 105)) ≡ true → Character ≡ Identifier
    by true b e = cc
    by false true e = cc
    by false false e = cc
name_kind Text names bytes h e = by (is_wide bytes) e
  where
    by : (a : Bool) → contains names_of (cond a 104 101) ≡ true → Text ≡ Identifier
    by true e = cc
    by false e = cc
name_kind End names bytes h e = cc

-- an item for names takes names
pub name_taken : (text : List ℕ) (names : Names) (o : Option Token) → ((t : Token) → o ≡ Some t → Stands text t) → takes 116 Identifier (terminal_of text names o) ≡ true → IsName o
unfolding takes
name_taken text names None stands h = cc
name_taken text names (Some t) stands h =
    let taken : contains names_of (terminal_of_kind t.kind names (spelled text t)) ≡ true = right (not (nat_eq (terminal_of_kind t.kind names (spelled text t)) 103)) _ h in
    (t, refl, name_kind t.kind names (spelled text t) (token_small text t (stands t refl)) taken)

-- ---- signs

-- the terminal of an identifier is none of a sign
named_large : (table : List (List ℕ × ℕ)) → list_all (λ e. nat_le 93 e.1) table ≡ true → (name : List ℕ) (d : ℕ) → nat_le 93 d ≡ true → nat_le 93 (unwrap_or (own_meaning table name) d) ≡ true
named_large [] h name d e = e
named_large (w ∷ table) h name d e = by (named_large table (right (nat_le 93 w.1) (list_all (λ e. nat_le 93 e.1) table) h) name d e) (bytes_eq name w.0)
  where
    by : nat_le 93 (unwrap_or (own_meaning table name) d) ≡ true → (b : Bool) → nat_le 93 (unwrap_or (cond b (Some w.1) (own_meaning table name)) d) ≡ true
    by rest true = left (nat_le 93 w.1) (list_all (λ e. nat_le 93 e.1) table) h
    by rest false = rest

own_large : list_all (λ e. nat_le 93 e.1) own_words ≡ true
unfolding own_words
own_large = refl

list_large : list_all (λ e. nat_le 93 e.1) list_words ≡ true
unfolding list_words
list_large = refl

name_large : (names : Names) (name : List ℕ) → nat_le 93 (name_terminal names name) ≡ true
unfolding name_terminal
name_large names name = named_large own_words own_large name _ (by (is_builtin name) (is_type names name) (unwrap_or (own_meaning list_words name) 97) (named_large list_words list_large name 97 refl))
  where
    by : (a b : Bool) (d : ℕ) → nat_le 93 d ≡ true → nat_le 93 (cond a (cond b 108 d) (cond b 94 93)) ≡ true
    by true true d h = refl
    by true false d h = h
    by false true d h = refl
    by false false d h = refl

is_first : (x y : ℕ) → contains (x ∷ []) y ≡ true → x ≡ y
is_first x y h = by (nat_eq x y) refl h
  where
    by : (b : Bool) → nat_eq x y ≡ b → (b || false) ≡ true → x ≡ y
    by true e h = eqb-true x y e
    by false e h = cc

sign_kind : (g : ℕ) (k : TokenKind) (names : Names) (bytes : List ℕ) → g < 48 → IsSmall k → 45 + g ≡ terminal_of_kind k names bytes → k ≡ Punctuator g
sign_kind g Identifier names bytes lt h e = let large : 93 ≤ name_terminal names bytes = leb-true 93 (name_terminal names bytes) (name_large names bytes) in absurd (omega (arith, lt, e, large))
sign_kind g (Keyword k) names bytes lt h e = absurd (omega (arith, e, h))
sign_kind g (Punctuator p) names bytes lt h e = let same : p ≡ g = omega (arith, e) in ap Punctuator same
sign_kind g Integer names bytes lt h e = absurd (omega (arith, lt, e))
sign_kind g Floating names bytes lt h e = absurd (omega (arith, lt, e))
sign_kind g Character names bytes lt h e = by (is_wide bytes) (has_one_character bytes) e
  where
    by : (a b : Bool) → 45 + g ≡ cond a 104 (cond b 100 105) → Character ≡ Punctuator g
    by true b f = absurd (omega (arith, lt, f))
    by false true f = absurd (omega (arith, lt, f))
    by false false f = absurd (omega (arith, lt, f))
sign_kind g Text names bytes lt h e = by (is_wide bytes) e
  where
    by : (a : Bool) → 45 + g ≡ cond a 104 101 → Text ≡ Punctuator g
    by true f = absurd (omega (arith, lt, f))
    by false f = absurd (omega (arith, lt, f))
sign_kind g End names bytes lt h e = absurd (omega (arith, lt, e))

-- an item for a sign takes that sign
pub sign_taken : (text : List ℕ) (p g : ℕ) (names : Names) (o : Option Token) → ((t : Token) → o ≡ Some t → Stands text t) → g < 48 → takes p (Punctuator g) (terminal_of text names o) ≡ true → (t : Token) × (o ≡ Some t) × (t.kind ≡ Punctuator g)
unfolding takes
sign_taken text p g names None stands lt h = absurd (let same : 45 + g ≡ 103 = is_first (45 + g) 103 (right (not (nat_eq 103 103)) (contains ((45 + g) ∷ []) 103) h) in omega (arith, lt, same))
sign_taken text p g names (Some t) stands lt h =
    (t, refl, sign_kind g t.kind names (spelled text t) lt (token_small text t (stands t refl)) (is_first (45 + g) (terminal_of_kind t.kind names (spelled text t)) (right (not (nat_eq (terminal_of_kind t.kind names (spelled text t)) 103)) (contains ((45 + g) ∷ []) (terminal_of_kind t.kind names (spelled text t))) h)))
