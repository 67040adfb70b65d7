-- Which tokens are names.
use Rattle.std.proofs.Common.{arith, ◌≡◌, ◌<◌, ◌≤◌, ◌&&◌, ◌||◌, ℕ, zero, suc, not, nat_lt, nat_eq, Bool, true, false, cond, List, [], ◌∷◌, Option, Some, None, get_or, inl, inr, refl, sym, subst}
use Rattle.std.specs.Prelude.{codes}
use Rattle.std.specs.List.{list_all}
use Rattle.std.specs.Cmp.Lexicographic.{pointwise}
use Rattle.std.proofs.lemmas.Bool.{eqb-true, ltb-true}
use Rattle.std.proofs.lemmas.Bool.Decides.{nat_tests}
use Rattle.c_lexer.specs.declared.Token.{Token}
use Rattle.c_lexer.specs.declared.TokenKind.{TokenKind}
use Rattle.c_lexer.specs.declared.TokenKind.TheVariants.{Identifier, Keyword, Punctuator, Integer, Floating, Character, Text, End}
use Rattle.c_lexer.specs.declared.meanings.Meaning.TheVariants as means
use Rattle.c_lexer.specs.declared.runs.Run.TheVariants.{White, Line, Name, Number}
use Rattle.c_lexer.specs.declared.quotes.Quote.TheVariants as quote
use Rattle.c_lexer.specs.Numbers.{is_integer}
use Rattle.c_lexer.specs.Spellings.{keywords, punctuators, position}
use Rattle.c_lexer.specs.Pieces.{Kind, run, sign, literal, Piece}
use Rattle.c_lexer.specs.Meanings.{kind_meaning, keyword_meaning, word_meaning, number_meaning, lookup}
use Rattle.c_lexer.specs.Laws.{Stands}
use Rattle.c_grammar.specs.Names.{Names}
use Rattle.c_grammar.specs.Terminals.{contains, is_wide, has_one_character, terminal_of_kind, terminal_of, takes, spelled}

left : (a b : Bool) → (a && b) ≡ true → a ≡ true
left true b e = refl
left false b e = cc

right : (a b : Bool) → (a && b) ≡ true → b ≡ true
right true b e = e
right false b e = cc

-- the numbers of keywords and punctuators are small
small_in : (table : List (List ℕ × ℕ)) → list_all (λ e. nat_lt e.1 48) table ≡ true → (word : List ℕ) (k : ℕ) → lookup table word ≡ Some k → k < 48
unfolding lookup
small_in [] h word k e = cc
small_in (x ∷ table) h word k e = by (small_in table (right (nat_lt x.1 48) (list_all (λ e. nat_lt e.1 48) table) h) word k) (pointwise nat_eq x.0 word) e
  where
    by : (lookup table word ≡ Some k → k < 48) → (b : Bool) → cond b (Some x.1) (lookup table word) ≡ Some k → k < 48
    by rest true e = let same : x.1 ≡ k = cc in subst (λ (n : ℕ). n < 48) same (ltb-true x.1 48 (left (nat_lt x.1 48) (list_all (λ e. nat_lt e.1 48) table) h))
    by rest false e = rest e

small_at : (table : List (List ℕ × ℕ)) → list_all (λ e. nat_lt e.1 48) table ≡ true → (k : ℕ) → (get_or table k ([], 0)).1 < 48
small_at [] h k = omega arith
small_at (x ∷ table) h zero = ltb-true x.1 48 (left (nat_lt x.1 48) (list_all (λ e. nat_lt e.1 48) table) h)
small_at (x ∷ table) h (suc k) = small_at table (right (nat_lt x.1 48) (list_all (λ e. nat_lt e.1 48) table) h) k

small_words : list_all (λ e. nat_lt e.1 48) keywords ≡ true
unfolding keywords
small_words = refl

small_signs : list_all (λ e. nat_lt e.1 48) punctuators ≡ true
unfolding punctuators
small_signs = refl

position_small : (k : ℕ) → position k < 48
unfolding position
position_small k = small_at punctuators small_signs k

-- what is said of a token's kind by what its piece means
abbrev IsSmall : TokenKind → Type 0
IsSmall (Keyword k) = k < 48
IsSmall (Punctuator p) = p < 48
IsSmall kind = Unit {0}

keyword_small : (o : Option ℕ) → ((k : ℕ) → o ≡ Some k → k < 48) → (t : TokenKind) → keyword_meaning o ≡ means.Token t → IsSmall t
keyword_small None h t e = let same : Identifier ≡ t = cc in subst IsSmall same tt
keyword_small (Some k) h t e = let same : Keyword k ≡ t = cc in subst IsSmall same (h k refl)

word_small : (a b : Bool) (o : Option ℕ) → ((k : ℕ) → o ≡ Some k → k < 48) → (t : TokenKind) → cond a means.Attribute (cond b means.Nothing (keyword_meaning o)) ≡ means.Token t → IsSmall t
word_small true b o h t e = cc
word_small false true o h t e = cc
word_small false false o h t e = keyword_small o h t e

number_small : (b : Bool) (t : TokenKind) → cond b (means.Token Integer) (means.Token Floating) ≡ means.Token t → IsSmall t
number_small true t e = let same : Integer ≡ t = cc in subst IsSmall same tt
number_small false t e = let same : Floating ≡ t = cc in subst IsSmall same tt

piece_small : (k : Kind) (word : List ℕ) (t : TokenKind) → kind_meaning k word ≡ means.Token t → IsSmall t
unfolding word_meaning number_meaning
piece_small (run White) word t e = cc
piece_small (run Line) word t e = cc
piece_small (run Name) word t e = word_small (pointwise nat_eq (codes "__attribute__") word) (pointwise nat_eq (codes "__extension__") word) (lookup keywords word) (small_in keywords small_words word) t e
piece_small (run Number) word t e = number_small (is_integer word) t e
piece_small (sign k) word t e = let same : Punctuator (position k) ≡ t = cc in subst IsSmall same (position_small k)
piece_small (literal p quote.Character) word t e = let same : Character ≡ t = cc in subst IsSmall same tt
piece_small (literal p quote.Text) word t e = let same : Text ≡ t = cc in subst IsSmall same tt

pub token_small : (text : List ℕ) (t : Token) → Stands text t → IsSmall t.kind
token_small text t (inl h) = subst IsSmall (sym h.0) tt
token_small text t (inr h) = let p : Piece = h.0 in piece_small p.kind _ t.kind h.4

-- a token that is a name
abbrev pub IsName : Option Token → Type 0
IsName o = (t : Token) × (o ≡ Some t) × (t.kind ≡ Identifier)

-- the terminals of names
abbrev names_of : List ℕ
names_of = 93 ∷ 94 ∷ 96 ∷ 97 ∷ 108 ∷ 109 ∷ 110 ∷ 111 ∷ []

not_less : (y : ℕ) → nat_lt y 93 ≡ false → 93 ≤ y
not_less y e = grind (arith, nat_tests, e)

named_high : (list : List ℕ) (x : ℕ) → list_all (λ y. not (nat_lt y 93)) list ≡ true → contains list x ≡ true → 93 ≤ x
named_high [] x h c = cc
named_high (y ∷ list) x h c = by (named_high list x (right (not (nat_lt y 93)) (list_all (λ y. not (nat_lt y 93)) list) h)) (nat_eq y x) refl c
  where
    high : (b : Bool) → nat_lt y 93 ≡ b → not b ≡ true → 93 ≤ y
    high true e g = cc
    high false e g = not_less y e

    by : (contains list x ≡ true → 93 ≤ x) → (b : Bool) → nat_eq y x ≡ b → (b || contains list x) ≡ true → 93 ≤ x
    by rest true e c = let same : y ≡ x = eqb-true y x e in let up : 93 ≤ y = high (nat_lt y 93) refl (left (not (nat_lt y 93)) (list_all (λ y. not (nat_lt y 93)) list) h) in omega (arith, same, up)
    by rest false e c = rest c

name_kind : (k : TokenKind) (names : Names) (bytes : List ℕ) → IsSmall k → contains names_of (terminal_of_kind k names bytes) ≡ true → k ≡ Identifier
name_kind Identifier names bytes h e = refl
name_kind (Keyword k) names bytes h e = let up : 93 ≤ k = named_high names_of k refl e in absurd (omega (arith, h, up))
name_kind (Punctuator p) names bytes h e = let up : 93 ≤ terminal_of_kind (Punctuator p) names bytes = named_high names_of (terminal_of_kind (Punctuator p) names bytes) refl e in absurd (omega (arith, h, up))
name_kind Integer names bytes h e = cc
name_kind Floating names bytes h e = cc
name_kind Character names bytes h e = by (is_wide bytes) (has_one_character bytes) e
  where
    by : (a b : Bool) → contains names_of (cond a 104 (cond b 100 105)) ≡ true → Character ≡ Identifier
    by true b e = cc
    by false true e = cc
    by false false e = cc
name_kind Text names bytes h e = by (is_wide bytes) e
  where
    by : (a : Bool) → contains names_of (cond a 104 101) ≡ true → Text ≡ Identifier
    by true e = cc
    by false e = cc
name_kind End names bytes h e = cc

-- an item for names takes names
pub name_taken : (text : List ℕ) (names : Names) (o : Option Token) → ((t : Token) → o ≡ Some t → Stands text t) → takes 104 Identifier (terminal_of text names o) ≡ true → IsName o
unfolding takes
name_taken text names None stands h = cc
name_taken text names (Some t) stands h =
    let taken : contains names_of (terminal_of_kind t.kind names (spelled text t)) ≡ true = right (not (nat_eq (terminal_of_kind t.kind names (spelled text t)) 103)) _ h in
    (t, refl, name_kind t.kind names (spelled text t) (token_small text t (stands t refl)) taken)
