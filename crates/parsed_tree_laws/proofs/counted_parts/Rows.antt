-- How many declarators, endings and statements the rows of external declarations and statements bring.
use Rattle.std.proofs.Common.{arith, ◌≡◌, ◌<◌, ◌≤◌, ◌+◌, ℕ, nat_eq, nat_lt, not, Bool, true, false, ◌&&◌, ◌||◌, cond, List, [], ◌∷◌, Option, Some, None, slice_get, refl, sym, subst}
use Rattle.std.specs.Prelude.{nat_le}
use Rattle.std.specs.List.{list_all}
use Rattle.std.specs.Option.{unwrap_or}
use Rattle.std.specs.Str.{bytes_eq}
use Rattle.std.proofs.lemmas.Bool.{eqb-true, ltb-true, leb-true}
use Rattle.c_lexer.specs.declared.Token.{Token}
use Rattle.c_lexer.specs.declared.TokenKind.{TokenKind}
use Rattle.c_lexer.specs.declared.TokenKind.TheVariants.{Identifier, Keyword, Punctuator, End}
use Rattle.c_grammar.specs.Names.{Names, is_type}
use Rattle.c_grammar.specs.Table.{table, row}
use Rattle.c_grammar.specs.Terminals.{contains, takes, own_words, list_words, own_meaning, is_builtin, builtin_type, builtin_name, type_name, plain_name, name_terminal, terminal_of_kind, terminal_of, terminal, sign, spelled}
use Rattle.c_grammar.specs.Tree.{makes_node}
use Rattle.c_grammar.specs.Reads.{State, Node, leaf, first}
use Rattle.parsed_tree_laws.proofs.counted_parts.Steps.{left, right}
use Rattle.parsed_tree_laws.proofs.counted_parts.Counting.{number, row_cost, bounded}

-- ---- tests of nodes alone

abbrev pub no_token : TokenKind → ℕ
no_token k = 0

abbrev pub of_list : List ℕ → Node → Bool
of_list list n = contains list n.production

abbrev pub list_cost : List ℕ → ℕ → ℕ
list_cost list q = number (contains list q)

abbrev pub declarator_bounds : List (ℕ × ℕ)
declarator_bounds = (48, 0) ∷ (49, 0) ∷ (53, 0) ∷ (52, 1) ∷ []

abbrev pub inner_bounds : List (ℕ × ℕ)
inner_bounds = (48, 0) ∷ (49, 0) ∷ (53, 0) ∷ (52, 0) ∷ []

abbrev pub ending_bounds : List (ℕ × ℕ)
ending_bounds = (48, 0) ∷ (49, 0) ∷ (53, 1) ∷ (52, 1) ∷ []

abbrev pub statement_bounds : List (ℕ × ℕ)
statement_bounds =
    (48, 0) ∷ (138, 1) ∷ (139, 1) ∷ (140, 0) ∷ (141, 1) ∷ (142, 1) ∷ (143, 2) ∷ (144, 1) ∷ (145, 1) ∷ (146, 1) ∷ (147, 1) ∷ (148, 1) ∷ (149, 0) ∷ (150, 0) ∷ (151, 0) ∷ (152, 0) ∷ (153, 0) ∷ (154, 0) ∷ (155, 0) ∷ (156, 0) ∷ (157, 0) ∷ (158, 1) ∷ (159, 1)
    ∷ (160, 1) ∷ (161, 1) ∷ (162, 2) ∷ (163, 2) ∷ (164, 2) ∷ (165, 2) ∷ []

pub declarators_bounded : bounded no_token (list_cost (19 ∷ [])) declarator_bounds declarator_bounds ≡ true
unfolding table row makes_node
declarators_bounded = refl

pub inner_bounded : bounded no_token (list_cost (15 ∷ 20 ∷ 21 ∷ [])) inner_bounds inner_bounds ≡ true
unfolding table row makes_node
inner_bounded = refl

pub endings_bounded : bounded no_token (list_cost (29 ∷ 2 ∷ [])) ending_bounds ending_bounds ≡ true
unfolding table row makes_node
endings_bounded = refl

pub statements_bounded : bounded no_token (list_cost (30 ∷ [])) statement_bounds statement_bounds ≡ true
unfolding table row makes_node
statements_bounded = refl

pub external_declarators : row_cost no_token (list_cost (19 ∷ [])) declarator_bounds 1 ≡ 1
unfolding table row makes_node
external_declarators = refl

pub external_inner : row_cost no_token (list_cost (15 ∷ 20 ∷ 21 ∷ [])) inner_bounds 1 ≡ 0
unfolding table row makes_node
external_inner = refl

pub external_endings : row_cost no_token (list_cost (29 ∷ 2 ∷ [])) ending_bounds 1 ≡ 1
unfolding table row makes_node
external_endings = refl

pub own_statements : row_cost no_token (list_cost (30 ∷ [])) statement_bounds 30 ≡ 2
unfolding table row makes_node
own_statements = refl

-- ---- names, some words, and statements

-- a name, or one of some words
abbrev pub begins : List ℕ → TokenKind → Bool
begins words Identifier = true
begins words (Keyword w) = contains words w
begins words kind = false

abbrev pub kind_in : Option Token → TokenKind
kind_in None = End
kind_in (Some t) = t.kind

abbrev pub is_counted : List ℕ → List Token → Node → Bool
is_counted words tokens n = contains (30 ∷ []) n.production || (contains (leaf ∷ []) n.production && begins words (kind_in (slice_get tokens n.token)))

abbrev pub word_cost : List ℕ → TokenKind → ℕ
word_cost words (Keyword k) = number (not (nat_lt k 45) || contains words k)
word_cost words (Punctuator g) = number (not (nat_lt (45 + g) 93))
word_cost words kind = 1

abbrev pub counted_bounds : List (ℕ × ℕ)
counted_bounds =
    (48, 0) ∷ (138, 2) ∷ (139, 2) ∷ (140, 0) ∷ (141, 2) ∷ (142, 1) ∷ (143, 2) ∷ (144, 1) ∷ (145, 2) ∷ (146, 2) ∷ (147, 2) ∷ (148, 2) ∷ (149, 1) ∷ (150, 0) ∷ (151, 0) ∷ (152, 0) ∷ (153, 0) ∷ (154, 0) ∷ (155, 0) ∷ (156, 0) ∷ (157, 1) ∷ (158, 2) ∷ (159, 2)
    ∷ (160, 2) ∷ (161, 2) ∷ (162, 2) ∷ (163, 2) ∷ (164, 2) ∷ (165, 2) ∷ []

-- all but `while`, and `while` alone, since it also ends a `do`
abbrev pub most_words : List ℕ
most_words = 2 ∷ 6 ∷ 27 ∷ 7 ∷ 13 ∷ []

abbrev pub while_words : List ℕ
while_words = 33 ∷ []

pub most_bounded : bounded (word_cost most_words) (list_cost (30 ∷ [])) counted_bounds counted_bounds ≡ true
unfolding table row makes_node
most_bounded = refl

pub while_bounded : bounded (word_cost while_words) (list_cost (30 ∷ [])) counted_bounds counted_bounds ≡ true
unfolding table row makes_node
while_bounded = refl

pub most_statement : row_cost (word_cost most_words) (list_cost (30 ∷ [])) counted_bounds 30 ≡ 2
unfolding table row makes_node
most_statement = refl

pub while_statement : row_cost (word_cost while_words) (list_cost (30 ∷ [])) counted_bounds 30 ≡ 2
unfolding table row makes_node
while_statement = refl

pub most_small : list_all (λ w. nat_lt w 45) most_words ≡ true
most_small = refl

pub while_small : list_all (λ w. nat_lt w 45) while_words ≡ true
while_small = refl

-- ---- what items take

-- the terminal of an identifier is none of a sign or a word
named_large : (table : List (List ℕ × ℕ)) → list_all (λ e. nat_le 93 e.1) table ≡ true → (name : List ℕ) (d : ℕ) → nat_le 93 d ≡ true → nat_le 93 (unwrap_or (own_meaning table name) d) ≡ true
named_large [] h name d e = e
named_large (w ∷ table) h name d e = by (named_large table (right (nat_le 93 w.1) (list_all (λ e. nat_le 93 e.1) table) h) name d e) (bytes_eq name w.0)
  where
    by : nat_le 93 (unwrap_or (own_meaning table name) d) ≡ true → (b : Bool) → nat_le 93 (unwrap_or (cond b (Some w.1) (own_meaning table name)) d) ≡ true
    by rest true = left (nat_le 93 w.1) (list_all (λ e. nat_le 93 e.1) table) h
    by rest false = rest

own_large : list_all (λ e. nat_le 93 e.1) own_words ≡ true
unfolding own_words
own_large = refl

list_large : list_all (λ e. nat_le 93 e.1) list_words ≡ true
unfolding list_words
list_large = refl

name_large : (names : Names) (name : List ℕ) → 93 ≤ name_terminal names name
unfolding name_terminal
name_large names name = leb-true 93 _ (named_large own_words own_large name _ (by (is_builtin name) (is_type names name) (unwrap_or (own_meaning list_words name) builtin_name) (named_large list_words list_large name builtin_name refl)))
  where
    by : (a b : Bool) (d : ℕ) → nat_le 93 d ≡ true → nat_le 93 (cond a (cond b builtin_type d) (cond b type_name plain_name)) ≡ true
    by true true d h = refl
    by true false d h = h
    by false true d h = refl
    by false false d h = refl

is_first : (x y : ℕ) → contains (x ∷ []) y ≡ true → x ≡ y
is_first x y h = by (nat_eq x y) refl h
  where
    by : (b : Bool) → nat_eq x y ≡ b → (b || false) ≡ true → x ≡ y
    by true e h = eqb-true x y e
    by false e h = cc

listed_small : (words : List ℕ) (w : ℕ) → list_all (λ x. nat_lt x 45) words ≡ true → contains words w ≡ true → w < 45
listed_small [] w all h = cc
listed_small (x ∷ words) w all h = by (nat_eq x w) refl h (listed_small words w (right (nat_lt x 45) (list_all (λ x. nat_lt x 45) words) all))
  where
    by : (b : Bool) → nat_eq x w ≡ b → (b || contains words w) ≡ true → (contains words w ≡ true → w < 45) → w < 45
    by true e h later = subst (λ (y : ℕ). y < 45) (eqb-true x w e) (ltb-true x 45 (left (nat_lt x 45) (list_all (λ x. nat_lt x 45) words) all))
    by false e h later = later h

-- what a word's item takes counts only where that word does
word_counts : (words : List ℕ) (k : ℕ) (kind : TokenKind) (names : Names) (bytes : List ℕ) → k < 45 → k ≡ terminal_of_kind kind names bytes → begins words kind ≡ true → contains words k ≡ true
word_counts words k Identifier names bytes small same h = let large = name_large names bytes in absurd (omega (arith, large, same, small))
word_counts words k (Keyword w) names bytes small same h = subst (λ (x : ℕ). contains words x ≡ true) (sym same) h
word_counts words k kind names bytes small same h = cc

sign_counts : (words : List ℕ) (g : ℕ) (kind : TokenKind) (names : Names) (bytes : List ℕ) → list_all (λ w. nat_lt w 45) words ≡ true → 45 + g < 93 → 45 + g ≡ terminal_of_kind kind names bytes → begins words kind ≡ true → ⊥
sign_counts words g Identifier names bytes all small same h = let large = name_large names bytes in omega (arith, large, same, small)
sign_counts words g (Keyword w) names bytes all small same h = let less = listed_small words w all h in omega (arith, same, less)
sign_counts words g kind names bytes all small same h = cc

counts_no : (b : Bool) (n : ℕ) → (b ≡ true → ⊥) → number b ≤ n
counts_no true n h = absurd (h refl)
counts_no false n h = omega arith

counts_one : (b : Bool) → number b ≤ 1
counts_one true = omega arith
counts_one false = omega arith

counts_both : (b c : Bool) → (b ≡ true → c ≡ true) → number b ≤ number c
counts_both true true h = omega arith
counts_both true false h = let no = h refl in cc
counts_both false c h = omega arith

begun : (words : List ℕ) (all : list_all (λ w. nat_lt w 45) words ≡ true) (text : List ℕ) (p : ℕ) (k : TokenKind) (names : Names) (o : Option Token) → takes p k (terminal_of text names o) ≡ true → number (begins words (kind_in o)) ≤ word_cost words k
unfolding takes
begun words all text p k names None h = counts_no false (word_cost words k) (λ e. cc)
begun words all text p (Keyword w) names (Some t) h = by (nat_lt w 45) refl
  where
    same : w ≡ terminal_of_kind t.kind names (spelled text t)
    same = is_first w (terminal_of_kind t.kind names (spelled text t)) (right (not (nat_eq (terminal_of_kind t.kind names (spelled text t)) 103)) (contains (w ∷ []) (terminal_of_kind t.kind names (spelled text t))) h)

    by : (b : Bool) → nat_lt w 45 ≡ b → number (begins words t.kind) ≤ number (not b || contains words w)
    by false e = counts_one (begins words t.kind)
    by true e = counts_both (begins words t.kind) (contains words w) (λ f. word_counts words w t.kind names (spelled text t) (ltb-true w 45 e) same f)
begun words all text p (Punctuator g) names (Some t) h = by (nat_lt (45 + g) 93) refl
  where
    same : 45 + g ≡ terminal_of_kind t.kind names (spelled text t)
    same = is_first (sign g) (terminal_of_kind t.kind names (spelled text t)) (right (not (nat_eq (terminal_of_kind t.kind names (spelled text t)) 103)) (contains (sign g ∷ []) (terminal_of_kind t.kind names (spelled text t))) h)

    by : (b : Bool) → nat_lt (45 + g) 93 ≡ b → number (begins words t.kind) ≤ number (not b)
    by false e = counts_one (begins words t.kind)
    by true e = counts_no (begins words t.kind) 0 (λ f. sign_counts words g t.kind names (spelled text t) all (ltb-true (45 + g) 93 e) same f)
begun words all text p k names (Some t) h = counts_one (begins words t.kind)

pub word_token : (words : List ℕ) → list_all (λ w. nat_lt w 45) words ≡ true → (text : List ℕ) (tokens : List Token) (p : ℕ) (k : TokenKind) (s : State) → takes p k (first text tokens s) ≡ true
    → number (is_counted words tokens (record { production = leaf; token = s.place; children = [] })) ≤ word_cost words k
unfolding terminal
word_token words all text tokens p k s h = begun words all text p k s.scopes (slice_get tokens s.place) h

no_leaf : (q : ℕ) → makes_node q ≡ true → nat_eq leaf q ≡ false
unfolding makes_node
no_leaf q m = by (nat_eq leaf q) refl
  where
    by : (b : Bool) → nat_eq leaf q ≡ b → b ≡ false
    by true e = let never : nat_lt leaf 48 ≡ true = subst (λ (x : ℕ). nat_lt x 48 ≡ true) (sym (eqb-true leaf q e)) m in cc
    by false e = refl

pub word_node : (words : List ℕ) (tokens : List Token) (q place : ℕ) (children : List ℕ) → makes_node q ≡ true → number (is_counted words tokens (record { production = q; token = place; children = children })) ≤ list_cost (30 ∷ []) q
word_node words tokens q place children m = by (contains (30 ∷ []) q) (nat_eq leaf q) (no_leaf q m) (begins words (kind_in (slice_get tokens place)))
  where
    by : (a b : Bool) → b ≡ false → (c : Bool) → number (a || ((b || false) && c)) ≤ number a
    by true b e c = omega arith
    by false false e c = omega arith
    by false true e c = cc
