-- Which tokens the terminals of strings are.
use Rattle.std.proofs.Common.{arith, ◌≡◌, ◌<◌, ◌&&◌, ◌||◌, ℕ, zero, suc, not, nat_lt, nat_eq, Bool, true, false, cond, List, [], ◌∷◌, Option, Some, None, get_or, inl, inr, refl, sym, subst}
use Rattle.std.specs.Prelude.{codes}
use Rattle.std.specs.List.{list_all}
use Rattle.std.specs.Option.{unwrap_or}
use Rattle.std.specs.Str.{bytes_eq}
use Rattle.std.specs.Cmp.Lexicographic.{pointwise}
use Rattle.std.proofs.lemmas.Bool.{eqb-true, ltb-true}
use Rattle.c_lexer.specs.declared.Token.{Token}
use Rattle.c_lexer.specs.declared.TokenKind.{TokenKind}
use Rattle.c_lexer.specs.declared.TokenKind.TheVariants.{Identifier, Keyword, Punctuator, Integer, Floating, Character, Text, End}
use Rattle.c_lexer.specs.declared.meanings.Meaning.TheVariants as means
use Rattle.c_lexer.specs.declared.runs.Run.TheVariants.{White, Line, Name, Number}
use Rattle.c_lexer.specs.declared.quotes.Quote.TheVariants as quote
use Rattle.c_lexer.specs.Numbers.{is_integer}
use Rattle.c_lexer.specs.Spellings.{keywords, punctuators, position}
use Rattle.c_lexer.specs.Pieces.{Kind, run, sign, literal, Piece}
use Rattle.c_lexer.specs.Meanings.{kind_meaning, keyword_meaning, word_meaning, number_meaning, lookup}
use Rattle.c_lexer.specs.Laws.{Stands}
use Rattle.c_grammar.specs.Names.{Names, is_type}
use Rattle.c_grammar.specs.Terminals.{contains, own_words, list_words, own_meaning, is_builtin, builtin_type, builtin_name, type_name, plain_name, name_terminal, is_wide, has_one_character, terminal_of_kind, terminal_of, terminals, takes, spelled}

left : (a b : Bool) → (a && b) ≡ true → a ≡ true
left true b e = refl
left false b e = cc

right : (a b : Bool) → (a && b) ≡ true → b ≡ true
right true b e = e
right false b e = cc

-- the numbers of keywords and punctuators are small
small_in : (table : List (List ℕ × ℕ)) → list_all (λ e. nat_lt e.1 48) table ≡ true → (word : List ℕ) (k : ℕ) → lookup table word ≡ Some k → k < 48
unfolding lookup
small_in [] h word k e = cc
small_in (x ∷ table) h word k e = by (small_in table (right (nat_lt x.1 48) (list_all (λ e. nat_lt e.1 48) table) h) word k) (pointwise nat_eq x.0 word) e
  where
    by : (lookup table word ≡ Some k → k < 48) → (b : Bool) → cond b (Some x.1) (lookup table word) ≡ Some k → k < 48
    by rest true e = let same : x.1 ≡ k = cc in subst (λ (n : ℕ). n < 48) same (ltb-true x.1 48 (left (nat_lt x.1 48) (list_all (λ e. nat_lt e.1 48) table) h))
    by rest false e = rest e

small_at : (table : List (List ℕ × ℕ)) → list_all (λ e. nat_lt e.1 48) table ≡ true → (k : ℕ) → (get_or table k ([], 0)).1 < 48
small_at [] h k = omega arith
small_at (x ∷ table) h zero = ltb-true x.1 48 (left (nat_lt x.1 48) (list_all (λ e. nat_lt e.1 48) table) h)
small_at (x ∷ table) h (suc k) = small_at table (right (nat_lt x.1 48) (list_all (λ e. nat_lt e.1 48) table) h) k

small_words : list_all (λ e. nat_lt e.1 48) keywords ≡ true
unfolding keywords
small_words = refl

small_signs : list_all (λ e. nat_lt e.1 48) punctuators ≡ true
unfolding punctuators
small_signs = refl

position_small : (k : ℕ) → position k < 48
unfolding position
position_small k = small_at punctuators small_signs k

-- what is said of a token's kind by what its piece means
abbrev IsSmall : TokenKind → Type 0
IsSmall (Keyword k) = k < 48
IsSmall (Punctuator p) = p < 48
IsSmall kind = Unit {0}

keyword_small : (o : Option ℕ) → ((k : ℕ) → o ≡ Some k → k < 48) → (t : TokenKind) → keyword_meaning o ≡ means.Token t → IsSmall t
keyword_small None h t e = let same : Identifier ≡ t = cc in subst IsSmall same tt
keyword_small (Some k) h t e = let same : Keyword k ≡ t = cc in subst IsSmall same (h k refl)

word_small : (a b : Bool) (o : Option ℕ) → ((k : ℕ) → o ≡ Some k → k < 48) → (t : TokenKind) → cond a means.Attribute (cond b means.Nothing (keyword_meaning o)) ≡ means.Token t → IsSmall t
word_small true b o h t e = cc
word_small false true o h t e = cc
word_small false false o h t e = keyword_small o h t e

number_small : (b : Bool) (t : TokenKind) → cond b (means.Token Integer) (means.Token Floating) ≡ means.Token t → IsSmall t
number_small true t e = let same : Integer ≡ t = cc in subst IsSmall same tt
number_small false t e = let same : Floating ≡ t = cc in subst IsSmall same tt

piece_small : (k : Kind) (word : List ℕ) (t : TokenKind) → kind_meaning k word ≡ means.Token t → IsSmall t
unfolding word_meaning number_meaning
piece_small (run White) word t e = cc
piece_small (run Line) word t e = cc
piece_small (run Name) word t e = word_small (pointwise nat_eq (codes "__attribute__") word) (pointwise nat_eq (codes "__extension__") word) (lookup keywords word) (small_in keywords small_words word) t e
piece_small (run Number) word t e = number_small (is_integer word) t e
piece_small (sign k) word t e = let same : Punctuator (position k) ≡ t = cc in subst IsSmall same (position_small k)
piece_small (literal p quote.Character) word t e = let same : Character ≡ t = cc in subst IsSmall same tt
piece_small (literal p quote.Text) word t e = let same : Text ≡ t = cc in subst IsSmall same tt

pub token_small : (text : List ℕ) (t : Token) → Stands text t → IsSmall t.kind
token_small text t (inl h) = subst IsSmall (sym h.0) tt
token_small text t (inr h) = let p : Piece = h.0 in piece_small p.kind _ t.kind h.4

-- no name has the terminal of a string
named_other : (table : List (List ℕ × ℕ)) → list_all (λ e. not (nat_eq e.1 101)) table ≡ true → (name : List ℕ) (d : ℕ) → nat_eq d 101 ≡ false → nat_eq (unwrap_or (own_meaning table name) d) 101 ≡ false
named_other [] h name d e = e
named_other (w ∷ table) h name d e = by (named_other table (right (not (nat_eq w.1 101)) (list_all (λ e. not (nat_eq e.1 101)) table) h) name d e) (bytes_eq name w.0)
  where
    not_it : (b : Bool) → not b ≡ true → b ≡ false
    not_it true h = cc
    not_it false h = refl

    by : nat_eq (unwrap_or (own_meaning table name) d) 101 ≡ false → (b : Bool) → nat_eq (unwrap_or (cond b (Some w.1) (own_meaning table name)) d) 101 ≡ false
    by rest true = not_it (nat_eq w.1 101) (left (not (nat_eq w.1 101)) (list_all (λ e. not (nat_eq e.1 101)) table) h)
    by rest false = rest

own_other : list_all (λ e. not (nat_eq e.1 101)) own_words ≡ true
unfolding own_words
own_other = refl

list_other : list_all (λ e. not (nat_eq e.1 101)) list_words ≡ true
unfolding list_words
list_other = refl

name_other : (names : Names) (name : List ℕ) → nat_eq (name_terminal names name) 101 ≡ false
unfolding name_terminal
name_other names name = named_other own_words own_other name _ (by (is_builtin name) (is_type names name) (unwrap_or (own_meaning list_words name) builtin_name) (named_other list_words list_other name builtin_name refl))
  where
    by : (a b : Bool) (d : ℕ) → nat_eq d 101 ≡ false → nat_eq (cond a (cond b builtin_type d) (cond b type_name plain_name)) 101 ≡ false
    by true true d h = refl
    by true false d h = h
    by false true d h = refl
    by false false d h = refl

-- a token that is a string, and not a wide one; and one that is none
abbrev pub IsText : List ℕ → Option Token → Type 0
IsText text o = (t : Token) × (o ≡ Some t) × (t.kind ≡ Text) × (is_wide (spelled text t) ≡ false)

abbrev pub IsOther : Option Token → Type 0
IsOther o = (t : Token) × (o ≡ Some t) × (t.kind ≡ Text → ⊥)

holds : (x : ℕ) → contains (101 ∷ []) x ≡ true → x ≡ 101
holds x h = by (nat_eq 101 x) refl h
  where
    by : (b : Bool) → nat_eq 101 x ≡ b → (b || false) ≡ true → x ≡ 101
    by true e h = sym (eqb-true 101 x e)
    by false e h = cc

never : (x : ℕ) → nat_eq x 101 ≡ false → x ≡ 101 → ⊥
never x other e = let yes : nat_eq 101 101 ≡ false = subst (λ (y : ℕ). nat_eq y 101 ≡ false) e other in cc

string_kind : (k : TokenKind) (names : Names) (bytes : List ℕ) → IsSmall k → terminal_of_kind k names bytes ≡ 101 → (k ≡ Text) × (is_wide bytes ≡ false)
string_kind Identifier names bytes h e = absurd (never (name_terminal names bytes) (name_other names bytes) e)
string_kind (Keyword k) names bytes h e = absurd (omega (arith, h, e))
string_kind (Punctuator p) names bytes h e = absurd (omega (arith, h, e))
string_kind Integer names bytes h e = absurd (omega (arith, e))
string_kind Floating names bytes h e = absurd (omega (arith, e))
string_kind Character names bytes h e = by (is_wide bytes) (has_one_character bytes) e
  where
    by : (a b : Bool) → ◌≡◌ {A = ℕ} (cond a 104 (cond b 100 105)) 101 → (Character ≡ Text) × (is_wide bytes ≡ false)
    by true b e = absurd (omega (arith, e))
    by false true e = absurd (omega (arith, e))
    by false false e = absurd (omega (arith, e))
string_kind Text names bytes h e = (refl, by (is_wide bytes) e)
  where
    by : (a : Bool) → ◌≡◌ {A = ℕ} (cond a 104 101) 101 → a ≡ false
    by true e = absurd (omega (arith, e))
    by false e = refl
string_kind End names bytes h e = absurd (omega (arith, e))

-- an item for strings takes strings that aren't wide
pub text_taken : (text : List ℕ) (p : ℕ) (names : Names) (o : Option Token) → ((t : Token) → o ≡ Some t → Stands text t) → takes p Text (terminal_of text names o) ≡ true → IsText text o
unfolding takes
text_taken text p names None stands h = cc
text_taken text p names (Some t) stands h =
    let taken : contains (101 ∷ []) (terminal_of_kind t.kind names (spelled text t)) ≡ true = right (not (nat_eq (terminal_of_kind t.kind names (spelled text t)) 103)) _ h in
    let found = string_kind t.kind names (spelled text t) (token_small text t (stands t refl)) (holds _ taken) in
    (t, refl, found.0, found.1)

-- an item that takes no terminal of a string takes none
abbrev pub avoids : ℕ → TokenKind → Bool
avoids p k = not (contains (terminals p k) 101) && not (contains (terminals p k) 104)

text_avoided : (p : ℕ) (k : TokenKind) (b : Bool) → avoids p k ≡ true → contains (terminals p k) (cond b 104 101) ≡ true → ⊥
text_avoided p k true a h = by (contains (terminals p k) 104) (right (not (contains (terminals p k) 101)) (not (contains (terminals p k) 104)) a) h
  where
    by : (b : Bool) → not b ≡ true → b ≡ true → ⊥
    by true a h = cc
    by false a h = cc
text_avoided p k false a h = by (contains (terminals p k) 101) (left (not (contains (terminals p k) 101)) (not (contains (terminals p k) 104)) a) h
  where
    by : (b : Bool) → not b ≡ true → b ≡ true → ⊥
    by true a h = cc
    by false a h = cc

pub other_taken : (text : List ℕ) (p : ℕ) (k : TokenKind) (names : Names) (o : Option Token) → avoids p k ≡ true → takes p k (terminal_of text names o) ≡ true → IsOther o
unfolding takes
other_taken text p k names None a h = cc
other_taken text p k names (Some t) a h =
    let taken : contains (terminals p k) (terminal_of_kind t.kind names (spelled text t)) ≡ true = right (not (nat_eq (terminal_of_kind t.kind names (spelled text t)) 103)) _ h in
    (t, refl, λ e. text_avoided p k (is_wide (spelled text t)) a (subst (λ (x : TokenKind). contains (terminals p k) (terminal_of_kind x names (spelled text t)) ≡ true) e taken))
