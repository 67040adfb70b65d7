-- The sequences of parts of a statement.
use Rattle.std.proofs.Common.{arith, ◌≡◌, ◌<◌, ◌≤◌, ◌+◌, ℕ, zero, suc, nat_eq, not, Bool, true, false, ◌&&◌, ◌||◌, cond, List, [], ◌∷◌, map, length, Option, Some, None, slice_get, refl, sym, ap, ◌∙◌, subst, ◌⊎◌, inl, inr}
use Rattle.std.specs.Prelude.{nat_le, if◌then◌else◌}
use Rattle.std.specs.List.{list_all, list_any}
use Rattle.std.specs.Option.{unwrap_or}
use Rattle.std.specs.Str.{bytes_eq}
use Rattle.std.proofs.lemmas.Bool.{eqb-true, leb-true}
use Rattle.c_lexer.specs.declared.Token.{Token}
use Rattle.c_lexer.specs.declared.Tokens.{Tokens}
use Rattle.c_lexer.specs.declared.TokenKind.{TokenKind}
use Rattle.c_lexer.specs.declared.TokenKind.TheVariants.{Identifier, Keyword, Punctuator, Integer, Floating, Character, Text, End}
use Rattle.c_grammar.specs.declared.rows.Item.TheVariants as item
use Rattle.c_grammar.specs.declared.trees.SyntaxNode.{SyntaxNode}
use Rattle.c_grammar.specs.declared.trees.Tree.{Tree}
use Rattle.c_grammar.specs.Names.{Names, is_type, no_names}
use Rattle.c_grammar.specs.Productions.{p_unit, p_block, p_statement, p_expression, p_floating_name, p_typedef_name, p_list_pair_call, p_list_argument_call, p_list_end_call}
use Rattle.c_grammar.specs.Words.{word_case, word_default, word_switch, word_while, word_do, word_for, word_goto, word_continue, word_break, word_return, sign_semicolon}
use Rattle.c_grammar.specs.Table.{table, row}
use Rattle.c_grammar.specs.Terminals.{contains, takes, own_words, list_words, own_meaning, is_builtin, builtin_type, builtin_name, type_name, plain_name, name_terminal, terminal_of_kind, terminal_of, terminals, identifiers, list_name, spelled}
use Rattle.c_grammar.specs.Tree.{makes_node}
use Rattle.c_grammar.specs.Reads.{Node, node_of, leaf}
use Rattle.c_parser.specs.Parse.{begin}
use Rattle.c_parser.specs.c_units.Units.{IsUnit}
use Rattle.c_senses.specs.Names.{source_of, numbered}
use Rattle.c_senses.specs.Tree.{Source, production_of, production_at, children_of, children_at, kind_of_token, token_of, kind_at, is_a, is_leaf, is_name, is_identifier, is_number, has_sign, has_word, sign_at, word_at, word_of_kind, sign_of_kind, all_where}
use Rattle.parsed_tree_laws.proofs.counted_parts.Steps.{left, right}
use Rattle.parsed_tree_laws.specs.statement_shapes.Shaped.{is_part, of_word, allowed, StatementsShaped}
use Rattle.parsed_tree_laws.proofs.statement_shapes.Language.{Word, IsIn, words_in, part_words, IsTaken, IsNode, Matches, Good, AllGood, all_read}

-- ---- what an item takes

abbrev names : List ℕ
names = 93 ∷ 94 ∷ 95 ∷ 96 ∷ 97 ∷ 108 ∷ 109 ∷ 110 ∷ 111 ∷ []

abbrev pattern_of : TokenKind → List ℕ
pattern_of Identifier = names
pattern_of (Keyword k) = k ∷ []
pattern_of (Punctuator g) = (45 + g) ∷ []
pattern_of Integer = 98 ∷ []
pattern_of Floating = 99 ∷ []
pattern_of Character = 100 ∷ []
pattern_of Text = 101 ∷ []
pattern_of End = 102 ∷ []

abbrev is_large : ℕ → Bool
is_large x = nat_le 93 x

-- whether an item may take a token of a kind
abbrev may : TokenKind → TokenKind → Bool
may k Identifier = list_any is_large (pattern_of k)
may k (Keyword b) = contains (pattern_of k) b
may k (Punctuator h) = contains (pattern_of k) (45 + h)
may k kind = true

named_large : (words : List (List ℕ × ℕ)) → list_all (λ e. nat_le 93 e.1) words ≡ true → (name : List ℕ) (d : ℕ) → nat_le 93 d ≡ true → nat_le 93 (unwrap_or (own_meaning words name) d) ≡ true
named_large [] h name d e = e
named_large (w ∷ words) h name d e = by (named_large words (right (nat_le 93 w.1) (list_all (λ e. nat_le 93 e.1) words) h) name d e) (bytes_eq name w.0)
  where
    by : nat_le 93 (unwrap_or (own_meaning words name) d) ≡ true → (b : Bool) → nat_le 93 (unwrap_or (cond b (Some w.1) (own_meaning words name)) d) ≡ true
    by rest true = left (nat_le 93 w.1) (list_all (λ e. nat_le 93 e.1) words) h
    by rest false = rest

own_large : list_all (λ e. nat_le 93 e.1) own_words ≡ true
unfolding own_words
own_large = refl

list_large : list_all (λ e. nat_le 93 e.1) list_words ≡ true
unfolding list_words
list_large = refl

name_large : (n : Names) (name : List ℕ) → is_large (name_terminal n name) ≡ true
unfolding name_terminal
name_large n name = named_large own_words own_large name _ (by (is_builtin name) (is_type n name) (unwrap_or (own_meaning list_words name) builtin_name) (named_large list_words list_large name builtin_name refl))
  where
    by : (a b : Bool) (d : ℕ) → nat_le 93 d ≡ true → nat_le 93 (cond a (cond b builtin_type d) (cond b type_name plain_name)) ≡ true
    by true true d h = refl
    by true false d h = h
    by false true d h = refl
    by false false d h = refl

same_more : (a b : Bool) → b ≡ true → (a || b) ≡ true
same_more true b e = refl
same_more false b e = e

same_here : (a b : Bool) → a ≡ true → (a || b) ≡ true
same_here true b e = refl
same_here false b e = cc

any_large : (list : List ℕ) (x : ℕ) → contains list x ≡ true → is_large x ≡ true → list_any is_large list ≡ true
any_large [] x h e = cc
any_large (y ∷ list) x h e = by (nat_eq y x) refl h (λ i. any_large list x i e)
  where
    by : (b : Bool) → nat_eq y x ≡ b → (b || contains list x) ≡ true → (contains list x ≡ true → list_any is_large list ≡ true) → (is_large y || list_any is_large list) ≡ true
    by true f h later = same_here (is_large y) (list_any is_large list) (subst (λ (z : ℕ). is_large z ≡ true) (sym (eqb-true y x f)) e)
    by false f h later = same_more (is_large y) (list_any is_large list) (later h)

-- each list that is within another
within : (a b : List ℕ) → list_all (λ x. contains b x) a ≡ true → (x : ℕ) → contains a x ≡ true → contains b x ≡ true
within [] b h x e = cc
within (y ∷ a) b h x e = by (nat_eq y x) refl e (λ i. within a b (right (contains b y) (list_all (λ x. contains b x) a) h) x i)
  where
    by : (c : Bool) → nat_eq y x ≡ c → (c || contains a x) ≡ true → (contains a x ≡ true → contains b x ≡ true) → contains b x ≡ true
    by true f e later = subst (λ (z : ℕ). contains b z ≡ true) (eqb-true y x f) (left (contains b y) (list_all (λ x. contains b x) a) h)
    by false f e later = later e

named_within : (p x : ℕ) → contains (identifiers p) x ≡ true → contains names x ≡ true
named_within p x h = by (nat_eq p p_floating_name) (nat_eq p p_typedef_name) (nat_le p_list_pair_call p && nat_le p p_list_end_call) h
  where
    list_within : (a b : Bool) → contains ((if a then 109 else (if b then 110 else 111)) ∷ []) x ≡ true → contains names x ≡ true
    list_within true b h = within (109 ∷ []) names refl x h
    list_within false true h = within (110 ∷ []) names refl x h
    list_within false false h = within (111 ∷ []) names refl x h

    by : (a b c : Bool)
        → contains (elim a as (λ _. List ℕ) [
          | true ↦ 95 ∷ []
          | false ↦ elim b as (λ _. List ℕ) [
            | true ↦ 94 ∷ 108 ∷ []
            | false ↦ elim c as (λ _. List ℕ) [ true ↦ list_name p ∷ [] | false ↦ 93 ∷ 94 ∷ 96 ∷ 97 ∷ 108 ∷ 109 ∷ 110 ∷ 111 ∷ [] ]
          ]
        ]) x ≡ true → contains names x ≡ true
    by true b c h = within (95 ∷ []) names refl x h
    by false true c h = within (94 ∷ 108 ∷ []) names refl x h
    by false false true h = list_within (nat_eq p p_list_pair_call) (nat_eq p p_list_argument_call) h
    by false false false h = within (93 ∷ 94 ∷ 96 ∷ 97 ∷ 108 ∷ 109 ∷ 110 ∷ 111 ∷ []) names refl x h

in_pattern : (p : ℕ) (k : TokenKind) (x : ℕ) → contains (terminals p k) x ≡ true → contains (pattern_of k) x ≡ true
in_pattern p Identifier x h = named_within p x h
in_pattern p (Keyword k) x h = h
in_pattern p (Punctuator g) x h = h
in_pattern p Integer x h = h
in_pattern p Floating x h = h
in_pattern p Character x h = h
in_pattern p Text x h = h
in_pattern p End x h = h

may_kind : (k kind : TokenKind) (n : Names) (bytes : List ℕ) → contains (pattern_of k) (terminal_of_kind kind n bytes) ≡ true → may k kind ≡ true
may_kind k Identifier n bytes h = any_large (pattern_of k) (name_terminal n bytes) h (name_large n bytes)
may_kind k (Keyword b) n bytes h = h
may_kind k (Punctuator g) n bytes h = h
may_kind k Integer n bytes h = refl
may_kind k Floating n bytes h = refl
may_kind k Character n bytes h = refl
may_kind k Text n bytes h = refl
may_kind k End n bytes h = refl

may_take : (text : List ℕ) (p : ℕ) (k : TokenKind) (n : Names) (o : Option Token) → takes p k (terminal_of text n o) ≡ true → may k (kind_of_token o) ≡ true
unfolding takes
may_take text p k n None h = cc
may_take text p k n (Some t) h =
    may_kind k t.kind n (spelled text t)
    (in_pattern p k (terminal_of_kind t.kind n (spelled text t)) (right (not (nat_eq (terminal_of_kind t.kind n (spelled text t)) 103)) (contains (terminals p k) (terminal_of_kind t.kind n (spelled text t))) h))

-- ---- the words of a statement

abbrev number : Bool → ℕ
number true = 1
number false = 0

abbrev of_list : List ℕ → Word → ℕ
of_list list [] = 0
of_list list (item.Use q ∷ w) = number (contains list q) + of_list list w
of_list list (i ∷ w) = of_list list w

abbrev is_known : Word → Bool
is_known [] = true
is_known (item.Token k ∷ w) = is_known w
is_known (item.Use q ∷ w) = is_known w
is_known (i ∷ w) = false

abbrev parts_in : Word → ℕ
parts_in w = of_list (30 ∷ 29 ∷ []) w

-- no expression behind a statement
abbrev in_order : Word → Bool
in_order [] = true
in_order (item.Use q ∷ w) = (not (nat_eq q 30) || nat_eq (of_list (31 ∷ []) w) 0) && in_order w
in_order (i ∷ w) = in_order w

abbrev none_words : List ℕ
none_words = word_goto ∷ word_continue ∷ word_break ∷ word_return ∷ []

abbrev one_words : List ℕ
one_words = word_case ∷ word_default ∷ word_switch ∷ word_while ∷ word_do ∷ word_for ∷ []

abbrev at_most_for : TokenKind → TokenKind → ℕ → ℕ → Bool
at_most_for k kind n most = not (may k kind) || nat_le n most

abbrev first_fine : Word → Bool
first_fine [] = true
first_fine (item.Token k ∷ w) =
    nat_eq (of_list (29 ∷ []) w) 0
    && (at_most_for k Identifier (parts_in w) 1
    && (at_most_for k (Punctuator sign_semicolon) (parts_in w) 0
    && (list_all (λ b. at_most_for k (Keyword b) (parts_in w) 0) none_words && (list_all (λ b. at_most_for k (Keyword b) (parts_in w) 1) one_words && (not (may k (Keyword word_switch)) || in_order w)))))
first_fine (item.Use q ∷ w) = contains (29 ∷ 31 ∷ []) q && nat_eq (parts_in w) 0
first_fine (i ∷ w) = false

abbrev is_fine : Word → Bool
is_fine w = is_known w && (nat_le (parts_in w) 2 && first_fine w)

abbrev pub statement_words : List Word
statement_words = words_in (part_words 20) (row 30)

all_fine : list_all is_fine statement_words ≡ true
unfolding table row makes_node
all_fine = refl

listed_fine : (words : List Word) (w : Word) → list_all is_fine words ≡ true → IsIn words w → is_fine w ≡ true
listed_fine [] w h i = cc
listed_fine (v ∷ words) w h (zero, e) = let same : v ≡ w = cc in subst (λ (x : Word). is_fine x ≡ true) same (left (is_fine v) (list_all is_fine words) h)
listed_fine (v ∷ words) w h (suc k, e) = listed_fine words w (right (is_fine v) (list_all is_fine words) h) (k, e)

listed_holds : (P : ℕ → Bool) (list : List ℕ) (x : ℕ) → list_all P list ≡ true → contains list x ≡ true → P x ≡ true
listed_holds P [] x h e = cc
listed_holds P (y ∷ list) x h e = by (nat_eq y x) refl e (λ i. listed_holds P list x (right (P y) (list_all P list) h) i)
  where
    by : (c : Bool) → nat_eq y x ≡ c → (c || contains list x) ≡ true → (contains list x ≡ true → P x ≡ true) → P x ≡ true
    by true f e later = subst (λ (z : ℕ). P z ≡ true) (eqb-true y x f) (left (P y) (list_all P list) h)
    by false f e later = later e

-- ---- children that match

produced : (items : List SyntaxNode) (k : ℕ) (n : Node) → slice_get (map node_of items) k ≡ Some n → (m : SyntaxNode) × (slice_get items k ≡ Some m) × (node_of m ≡ n)
produced [] k n e = cc
produced (x ∷ items) zero n e = let same : node_of x ≡ n = cc in (x, refl, same)
produced (x ∷ items) (suc k) n e = produced items k n e

module _ (s : Source) (text : List ℕ) where
  abbrev nodes : List Node
  nodes = map node_of s.nodes

  abbrev Match : Word → List ℕ → Type 0
  Match w ks = Matches text s.tokens nodes w ks

  production_is : (c q : ℕ) → IsNode text s.tokens q nodes c → production_at s c ≡ q
  production_is c q h = let m = produced s.nodes c h.0 h.1 in ap production_of m.1 ∙ (ap (λ (n : Node). n.production) m.2 ∙ h.2)

  leaf_is : (c : ℕ) (k : TokenKind) → IsTaken text s.tokens k nodes c → production_at s c ≡ leaf
  leaf_is c k h = let m = produced s.nodes c h.0 h.1 in ap production_of m.1 ∙ (ap (λ (n : Node). n.production) m.2 ∙ h.2)

  kind_is : (c : ℕ) (k : TokenKind) → IsTaken text s.tokens k nodes c → may k (kind_at s c) ≡ true
  kind_is c k h =
      let m = produced s.nodes c h.0 h.1 in
      let token : kind_at s c ≡ kind_of_token (slice_get s.tokens h.0.token) = ap (λ (o : Option SyntaxNode). kind_of_token (token_of s o)) m.1 ∙ ap (λ (n : Node). kind_of_token (slice_get s.tokens n.token)) m.2 in
      subst (λ (x : TokenKind). may k x ≡ true) (sym token) (may_take text h.3.0 k h.3.1 (slice_get s.tokens h.0.token) h.3.2)

  -- so many pass a test of productions as the word has
  module _ (test : ℕ → Bool) (list : List ℕ) (tests : (c : ℕ) → test c ≡ true → contains list (production_at s c) ≡ true) (no_leaf : contains list leaf ≡ false) where
    counted : (w : Word) (ks : List ℕ) → is_known w ≡ true → Match w ks → length (all_where test ks) ≤ of_list list w
    counted [] [] known h = omega arith
    counted [] (c ∷ ks) known h = absurd h
    counted (item.Token k ∷ w) [] known h = absurd h
    counted (item.Token k ∷ w) (c ∷ ks) known h = by (test c) refl (counted w ks known h.1)
      where
        by : (b : Bool) → test c ≡ b → length (all_where test ks) ≤ of_list list w → length (if b then c ∷ all_where test ks else all_where test ks) ≤ of_list list w
        by false e later = later
        by true e later =
            let is : contains list leaf ≡ true = subst (λ (q : ℕ). contains list q ≡ true) (leaf_is c k h.0) (tests c e) in
            let never : true ≡ false = sym is ∙ no_leaf in
            cc
    counted (item.Use q ∷ w) [] known h = absurd h
    counted (item.Use q ∷ w) (c ∷ ks) known h = by (test c) refl (counted w ks known h.1)
      where
        by : (b : Bool) → test c ≡ b → length (all_where test ks) ≤ of_list list w → length (if b then c ∷ all_where test ks else all_where test ks) ≤ number (contains list q) + of_list list w
        by false e later = omega (arith, later)
        by true e later =
            let is : contains list q ≡ true = subst (λ (x : ℕ). contains list x ≡ true) (production_is c q h.0) (tests c e) in
            let one : number (contains list q) ≡ 1 = ap number is in
            omega (arith, one, later)
    counted (item.Repeat q ∷ w) ks known h = cc
    counted (item.Choice a b ∷ w) ks known h = cc
    counted (item.Scope n ∷ w) ks known h = cc

  expression_only : (c : ℕ) → is_a s p_expression c ≡ true → contains (31 ∷ []) (production_at s c) ≡ true
  expression_only c e = let p = eqb-true (production_at s c) p_expression e in subst (λ (q : ℕ). contains (31 ∷ []) q ≡ true) (sym p) refl

  some_counted : (test : ℕ → Bool) (ks : List ℕ) (k x : ℕ) → slice_get ks k ≡ Some x → test x ≡ true → 1 ≤ length (all_where test ks)
  some_counted test [] k x e h = cc
  some_counted test (y ∷ ks) zero x e h = let same : y ≡ x = cc in by (test y) (subst (λ (z : ℕ). test z ≡ true) (sym same) h)
    where
      by : (b : Bool) → b ≡ true → 1 ≤ length (if b then y ∷ all_where test ks else all_where test ks)
      by true f = omega arith
      by false f = cc
  some_counted test (y ∷ ks) (suc k) x e h = by (test y) (some_counted test ks k x e h)
    where
      by : (b : Bool) → 1 ≤ length (all_where test ks) → 1 ≤ length (if b then y ∷ all_where test ks else all_where test ks)
      by true f = omega arith
      by false f = f

  -- no expression comes behind a statement
  ordered : (w : Word) (ks : List ℕ) → is_known w ≡ true → in_order w ≡ true → Match w ks → (j k c d : ℕ) → slice_get ks j ≡ Some c → slice_get ks k ≡ Some d → is_a s p_expression c ≡ true → is_a s p_statement d ≡ true → j < k
  ordered [] [] known order h j k c d ec ed hc hd = cc
  ordered [] (x ∷ ks) known order h j k c d ec ed hc hd = absurd h
  ordered (item.Repeat q ∷ w) ks known order h j k c d ec ed hc hd = cc
  ordered (item.Choice a b ∷ w) ks known order h j k c d ec ed hc hd = cc
  ordered (item.Scope n ∷ w) ks known order h j k c d ec ed hc hd = cc
  ordered (item.Token t ∷ w) [] known order h j k c d ec ed hc hd = absurd h
  ordered (item.Token t ∷ w) (x ∷ ks) known order h zero zero c d ec ed hc hd =
      let same : x ≡ d = cc in
      let lf : production_at s d ≡ leaf = subst (λ (y : ℕ). production_at s y ≡ leaf) same (leaf_is x t h.0) in
      let st = eqb-true (production_at s d) p_statement hd in
      absurd (omega (arith, lf, st))
  ordered (item.Token t ∷ w) (x ∷ ks) known order h (suc j) zero c d ec ed hc hd =
      let same : x ≡ d = cc in
      let lf : production_at s d ≡ leaf = subst (λ (y : ℕ). production_at s y ≡ leaf) same (leaf_is x t h.0) in
      let st = eqb-true (production_at s d) p_statement hd in
      absurd (omega (arith, lf, st))
  ordered (item.Token t ∷ w) (x ∷ ks) known order h zero (suc k) c d ec ed hc hd = omega arith
  ordered (item.Token t ∷ w) (x ∷ ks) known order h (suc j) (suc k) c d ec ed hc hd = let more = ordered w ks known order h.1 j k c d ec ed hc hd in omega (arith, more)
  ordered (item.Use q ∷ w) [] known order h j k c d ec ed hc hd = absurd h
  ordered (item.Use q ∷ w) (x ∷ ks) known order h zero (suc k) c d ec ed hc hd = omega arith
  ordered (item.Use q ∷ w) (x ∷ ks) known order h (suc j) (suc k) c d ec ed hc hd = let more = ordered w ks known (right (not (nat_eq q 30) || nat_eq (of_list (31 ∷ []) w) 0) (in_order w) order) h.1 j k c d ec ed hc hd in omega (arith, more)
  ordered (item.Use q ∷ w) (x ∷ ks) known order h zero zero c d ec ed hc hd =
      let same : ◌≡◌ {A = Option ℕ} (Some c) (Some d) = sym ec ∙ ed in
      let one : c ≡ d = cc in
      let ex = eqb-true (production_at s c) p_expression hc in
      let st : production_at s c ≡ p_statement = subst (λ (y : ℕ). production_at s y ≡ p_statement) (sym one) (eqb-true (production_at s d) p_statement hd) in
      absurd (omega (arith, ex, st))
  ordered (item.Use q ∷ w) (x ∷ ks) known order h (suc j) zero c d ec ed hc hd =
      let same : x ≡ d = cc in
      let own : production_at s d ≡ q = subst (λ (y : ℕ). production_at s y ≡ q) same (production_is x q h.0) in
      let st : nat_eq q 30 ≡ true = subst (λ (y : ℕ). nat_eq y 30 ≡ true) own hd in
      let none : nat_eq (of_list (31 ∷ []) w) 0 ≡ true = by (nat_eq q 30) st (nat_eq (of_list (31 ∷ []) w) 0) (left (not (nat_eq q 30) || nat_eq (of_list (31 ∷ []) w) 0) (in_order w) order) in
      let few = counted (is_a s p_expression) (31 ∷ []) expression_only refl w ks known h.1 in
      let some = some_counted (is_a s p_expression) ks j c ec hc in
      let zero_is = eqb-true (of_list (31 ∷ []) w) 0 none in
      absurd (omega (arith, few, some, zero_is))
    where
      by : (a : Bool) → a ≡ true → (b : Bool) → (not a || b) ≡ true → b ≡ true
      by true e b h = h
      by false e b h = cc

-- ---- of a tree

stands : (o : Option SyntaxNode) (p : ℕ) → production_of o ≡ p → (p ≡ leaf → ⊥) → (n : SyntaxNode) × (o ≡ Some n)
stands None p e never = absurd (never (sym e))
stands (Some n) p e never = (n, refl)

no_number : leaf ≡ 30 → ⊥
no_number e = absurd (omega (arith, e))

record Shaped (s : Source) (text : List ℕ) (i : ℕ) : Type 0 where
  word : Word
  fine : is_fine word ≡ true
  match : Matches text s.tokens (map node_of s.nodes) word (children_at s i)

shaped : (tokens : Tokens) (unit : ℕ) (tree : Tree) (tag_number : ℕ → ℕ) → IsUnit tokens unit tree → (i : ℕ) → is_a (numbered tag_number (source_of tokens tree)) p_statement i ≡ true → Shaped (numbered tag_number (source_of tokens tree)) tokens.text.now i
unfolding source_of
shaped tokens unit tree tag_number is i h =
    let read = is.0 in
    let items = tree.nodes.items in
    let text = tokens.text.now in
    let list = tokens.list.items in
    let good : AllGood text list 30 20 (map node_of items) (map node_of items) = subst (λ (l : List Node). AllGood text list 30 20 l l) read.2 (all_read text list 30 20 no_number p_unit 0 (begin 0 no_names []) read.0 refl read.1) in
    let p = eqb-true (production_of (slice_get items i)) 30 h in
    let n = stands (slice_get items i) 30 p (λ e. no_number (sym e)) in
    let own = at (map node_of items) items i n.0 good n.1 (ap production_of (sym n.1) ∙ p) in
    record {
      word = own.0;
      fine = listed_fine statement_words own.0 all_fine own.1;
      match = subst (λ (o : Option SyntaxNode). Matches text list (map node_of items) own.0 (children_of o)) (sym n.1) own.2;
    }
  where
    at : (nodes : List Node) (some : List SyntaxNode) (i : ℕ) (n : SyntaxNode) → AllGood tokens.text.now tokens.list.items 30 20 nodes (map node_of some) → slice_get some i ≡ Some n → Good tokens.text.now tokens.list.items 30 20 nodes (node_of n)
    at nodes [] i n g e = cc
    at nodes (m ∷ some) zero n g e = let same : m ≡ n = cc in subst (λ (x : SyntaxNode). Good tokens.text.now tokens.list.items 30 20 nodes (node_of x)) same g.0
    at nodes (m ∷ some) (suc i) n g e = at nodes some i n g.1 e

both : (a b : Bool) → (a && b) ≡ true → (a ≡ true) × (b ≡ true)
both true b e = (refl, e)
both false b e = cc

at_most : (k kind : TokenKind) (n most : ℕ) → at_most_for k kind n most ≡ true → may k kind ≡ true → n ≤ most
at_most k kind n most h may_it = by (may k kind) may_it h
  where
    by : (a : Bool) → a ≡ true → (not a || nat_le n most) ≡ true → n ≤ most
    by true e h = leb-true n most h
    by false e h = cc

module _ (s : Source) (text : List ℕ) where
  part_listed : (c : ℕ) → is_part s c ≡ true → contains (30 ∷ 29 ∷ []) (production_at s c) ≡ true
  part_listed c h = by (nat_eq (production_at s c) 30) (nat_eq (production_at s c) 29) refl refl h
    where
      by : (a b : Bool) → nat_eq (production_at s c) 30 ≡ a → nat_eq (production_at s c) 29 ≡ b → (a || b) ≡ true → contains (30 ∷ 29 ∷ []) (production_at s c) ≡ true
      by true b ea eb h = subst (λ (x : ℕ). contains (30 ∷ 29 ∷ []) x ≡ true) (sym (eqb-true (production_at s c) 30 ea)) refl
      by false true ea eb h = subst (λ (x : ℕ). contains (30 ∷ 29 ∷ []) x ≡ true) (sym (eqb-true (production_at s c) 29 eb)) refl
      by false false ea eb h = cc

  block_listed : (c : ℕ) → is_a s p_block c ≡ true → contains (29 ∷ []) (production_at s c) ≡ true
  block_listed c h = subst (λ (x : ℕ). contains (29 ∷ []) x ≡ true) (sym (eqb-true (production_at s c) p_block h)) refl

  -- what a leaf that begins a statement allows
  record OfLeaf (first n : ℕ) : Type 0 where
    two : n ≤ 2
    named : kind_at s first ≡ Identifier → n ≤ 1
    empty : kind_at s first ≡ Punctuator sign_semicolon → n ≤ 0
    none : (b : ℕ) → kind_at s first ≡ Keyword b → contains none_words b ≡ true → n ≤ 0
    one : (b : ℕ) → kind_at s first ≡ Keyword b → contains one_words b ≡ true → n ≤ 1

  keyword_is : (k : TokenKind) (b : ℕ) → word_of_kind k ≡ Some b → k ≡ Keyword b
  keyword_is (Keyword x) b e = let same : x ≡ b = cc in ap Keyword same
  keyword_is Identifier b e = cc
  keyword_is (Punctuator p) b e = cc
  keyword_is Integer b e = cc
  keyword_is Floating b e = cc
  keyword_is Character b e = cc
  keyword_is Text b e = cc
  keyword_is End b e = cc

  sign_is : (k : TokenKind) (g : ℕ) → is_number (sign_of_kind k) g ≡ true → k ≡ Punctuator g
  sign_is (Punctuator p) g e = ap Punctuator (eqb-true p g e)
  sign_is (Keyword x) g e = cc
  sign_is Identifier g e = cc
  sign_is Integer g e = cc
  sign_is Floating g e = cc
  sign_is Character g e = cc
  sign_is Text g e = cc
  sign_is End g e = cc

  identifier_is : (k : TokenKind) → is_identifier k ≡ true → k ≡ Identifier
  identifier_is Identifier e = refl
  identifier_is (Keyword x) e = cc
  identifier_is (Punctuator p) e = cc
  identifier_is Integer e = cc
  identifier_is Floating e = cc
  identifier_is Character e = cc
  identifier_is Text e = cc
  identifier_is End e = cc

  word_allows : (first n : ℕ) → OfLeaf first n → n ≤ of_word (word_at s first)
  word_allows first n o = by (word_at s first) refl
    where
      by : (w : Option ℕ) → word_at s first ≡ w → n ≤ of_word w
      by None e = o.two
      by (Some b) e = by_word (contains none_words b) (contains one_words b) refl refl
        where
          kind : kind_at s first ≡ Keyword b
          kind = keyword_is (kind_at s first) b e

          by_word : (x y : Bool) → contains none_words b ≡ x → contains one_words b ≡ y → n ≤ (if x then 0 else if y then 1 else 2)
          by_word true y ex ey = o.none b kind ex
          by_word false true ex ey = o.one b kind ey
          by_word false false ex ey = o.two

  leaf_allows : (first n : ℕ) → is_leaf s first ≡ true → OfLeaf first n → n ≤ allowed s first
  leaf_allows first n lf o = by (is_leaf s first) lf (has_sign s sign_semicolon first) (is_name s first) refl refl
    where
      by : (l : Bool) → l ≡ true → (a b : Bool) → has_sign s sign_semicolon first ≡ a → is_name s first ≡ b → n ≤ (if l then (if a then 0 else if b then 1 else of_word (word_at s first)) else if is_a s p_expression first then 0 else 1)
      by true e true b ea eb = o.empty (sign_is (kind_at s first) sign_semicolon (both (is_leaf s first) (is_number (sign_at s first) sign_semicolon) ea).1)
      by true e false true ea eb = o.named (identifier_is (kind_at s first) (both (is_leaf s first) (is_identifier (kind_at s first)) eb).1)
      by true e false false ea eb = word_allows first n o
      by false e a b ea eb = cc

  of_word_fine : (first : ℕ) (k : TokenKind) (w : Word) → IsTaken text s.tokens k (map node_of s.nodes) first → nat_le (parts_in w) 2 ≡ true → first_fine (item.Token k ∷ w) ≡ true → OfLeaf first (parts_in w)
  of_word_fine first k w taken two fine =
      let may_it = kind_is s text first k taken in
      let a = both (nat_eq (of_list (29 ∷ []) w) 0) _ fine in
      let b = both (at_most_for k Identifier (parts_in w) 1) _ a.1 in
      let c = both (at_most_for k (Punctuator sign_semicolon) (parts_in w) 0) _ b.1 in
      let d = both (list_all (λ b. at_most_for k (Keyword b) (parts_in w) 0) none_words) _ c.1 in
      let e = both (list_all (λ b. at_most_for k (Keyword b) (parts_in w) 1) one_words) _ d.1 in
      record {
        two = leb-true (parts_in w) 2 two;
        named = λ is. at_most k Identifier (parts_in w) 1 b.0 (subst (λ (x : TokenKind). may k x ≡ true) is may_it);
        empty = λ is. at_most k (Punctuator sign_semicolon) (parts_in w) 0 c.0 (subst (λ (x : TokenKind). may k x ≡ true) is may_it);
        none = λ x is h. at_most k (Keyword x) (parts_in w) 0 (listed_holds (λ b. at_most_for k (Keyword b) (parts_in w) 0) none_words x d.0 h) (subst (λ (y : TokenKind). may k y ≡ true) is may_it);
        one = λ x is h. at_most k (Keyword x) (parts_in w) 1 (listed_holds (λ b. at_most_for k (Keyword b) (parts_in w) 1) one_words x e.0 h) (subst (λ (y : TokenKind). may k y ≡ true) is may_it);
      }

  record Facts (i first : ℕ) (rest : List ℕ) : Type 0 where
    parts : length (all_where (is_part s) (first ∷ rest)) ≤ allowed s first
    blocks : is_leaf s first ≡ true → length (all_where (is_a s p_block) (first ∷ rest)) ≡ 0
    switches : has_word s word_switch first ≡ true → (j k c d : ℕ) → slice_get (first ∷ rest) j ≡ Some c → slice_get (first ∷ rest) k ≡ Some d → is_a s p_expression c ≡ true → is_a s p_statement d ≡ true → j < k

  none_is : (n : ℕ) → n ≤ 0 → n ≡ 0
  none_is n h = omega (arith, h)

  facts : (i first : ℕ) (rest : List ℕ) (w : Word) → is_fine w ≡ true → Matches text s.tokens (map node_of s.nodes) w (first ∷ rest) → Facts i first rest
  facts i first rest [] fine h = absurd h
  facts i first rest (item.Repeat q ∷ w) fine h = cc
  facts i first rest (item.Choice a b ∷ w) fine h = cc
  facts i first rest (item.Scope n ∷ w) fine h = cc
  facts i first rest (item.Token k ∷ w) fine h =
      let known = both (is_known w) _ fine in
      let two = both (nat_le (parts_in w) 2) _ known.1 in
      let lf : is_leaf s first ≡ true = subst (λ (x : ℕ). nat_eq x leaf ≡ true) (sym (leaf_is s text first k h.0)) refl in
      let many = counted s text (is_part s) (30 ∷ 29 ∷ []) part_listed refl (item.Token k ∷ w) (first ∷ rest) known.0 h in
      let blocks = counted s text (is_a s p_block) (29 ∷ []) block_listed refl (item.Token k ∷ w) (first ∷ rest) known.0 h in
      let no_block = eqb-true (of_list (29 ∷ []) w) 0 (both (nat_eq (of_list (29 ∷ []) w) 0) _ two.1).0 in
      let allows = leaf_allows first (parts_in w) lf (of_word_fine first k w h.0 two.0 two.1) in
      let may_it = kind_is s text first k h.0 in
      record {
        parts = omega (arith, many, allows);
        blocks = λ e. none_is (length (all_where (is_a s p_block) (first ∷ rest))) (omega (arith, blocks, no_block));
        switches = λ word. ordered s text (item.Token k ∷ w) (first ∷ rest) known.0 (in_order_of k w two.1 (subst (λ (x : TokenKind). may k x ≡ true) (word_kind first word) may_it)) h;
      }
    where
      word_kind : (c : ℕ) → has_word s word_switch c ≡ true → kind_at s c ≡ Keyword word_switch
      word_kind c e = by (kind_at s c) (both (is_leaf s c) (is_number (word_at s c) word_switch) e).1
        where
          by : (k : TokenKind) → is_number (word_of_kind k) word_switch ≡ true → k ≡ Keyword word_switch
          by (Keyword x) e = ap Keyword (eqb-true x word_switch e)
          by Identifier e = cc
          by (Punctuator p) e = cc
          by Integer e = cc
          by Floating e = cc
          by Character e = cc
          by Text e = cc
          by End e = cc

      in_order_of : (k : TokenKind) (w : Word) → first_fine (item.Token k ∷ w) ≡ true → may k (Keyword word_switch) ≡ true → in_order w ≡ true
      in_order_of k w fine may_it =
          let a = both (nat_eq (of_list (29 ∷ []) w) 0) _ fine in
          let b = both (at_most_for k Identifier (parts_in w) 1) _ a.1 in
          let c = both (at_most_for k (Punctuator sign_semicolon) (parts_in w) 0) _ b.1 in
          let d = both (list_all (λ b. at_most_for k (Keyword b) (parts_in w) 0) none_words) _ c.1 in
          let e = both (list_all (λ b. at_most_for k (Keyword b) (parts_in w) 1) one_words) _ d.1 in
          by (may k (Keyword word_switch)) may_it e.1
        where
          by : (a : Bool) → a ≡ true → (not a || in_order w) ≡ true → in_order w ≡ true
          by true x h = h
          by false x h = cc
  facts i first rest (item.Use q ∷ w) fine h =
      let known = both (is_known w) _ fine in
      let two = both (nat_le (parts_in (item.Use q ∷ w)) 2) _ known.1 in
      let own = production_is s text first q h.0 in
      let last = both (contains (29 ∷ 31 ∷ []) q) _ two.1 in
      let none = eqb-true (parts_in w) 0 last.1 in
      let many = counted s text (is_part s) (30 ∷ 29 ∷ []) part_listed refl (item.Use q ∷ w) (first ∷ rest) known.0 h in
      let sort = one_of q last.0 in
      record {
        parts = by sort own (omega (arith, many, none));
        blocks = λ e. let lf = eqb-true (production_at s first) leaf e in absurd (no_leaf sort own lf);
        switches = λ word. let lf = eqb-true (production_at s first) leaf (both (is_leaf s first) _ word).0 in absurd (no_leaf sort own lf);
      }
    where
      one_of : (q : ℕ) → contains (29 ∷ 31 ∷ []) q ≡ true → (q ≡ 29) ⊎ (q ≡ 31)
      one_of q h = by (nat_eq 29 q) (nat_eq 31 q) refl refl h
        where
          by : (a b : Bool) → nat_eq 29 q ≡ a → nat_eq 31 q ≡ b → (a || (b || false)) ≡ true → (q ≡ 29) ⊎ (q ≡ 31)
          by true b ea eb h = inl (sym (eqb-true 29 q ea))
          by false true ea eb h = inr (sym (eqb-true 31 q eb))
          by false false ea eb h = cc

      no_leaf : (q ≡ 29) ⊎ (q ≡ 31) → production_at s first ≡ q → production_at s first ≡ leaf → ⊥
      no_leaf (inl e) own lf = absurd (omega (arith, e, own, lf))
      no_leaf (inr e) own lf = absurd (omega (arith, e, own, lf))

      by : (q ≡ 29) ⊎ (q ≡ 31) → production_at s first ≡ q → length (all_where (is_part s) (first ∷ rest)) ≤ number (contains (30 ∷ 29 ∷ []) q) + 0 → length (all_where (is_part s) (first ∷ rest)) ≤ allowed s first
      by (inl e) own many =
          let p : production_at s first ≡ 29 = own ∙ e in
          let value : allowed s first ≡ 1 = ap (λ (x : ℕ). if nat_eq x leaf then (if has_sign s sign_semicolon first then 0 else if is_name s first then 1 else of_word (word_at s first)) else if nat_eq x p_expression then 0 else 1) p in
          let one : number (contains (30 ∷ 29 ∷ []) q) ≡ 1 = ap (λ (x : ℕ). number (contains (30 ∷ 29 ∷ []) x)) e in
          omega (arith, many, value, one)
      by (inr e) own many =
          let p : production_at s first ≡ 31 = own ∙ e in
          let value : allowed s first ≡ 0 = ap (λ (x : ℕ). if nat_eq x leaf then (if has_sign s sign_semicolon first then 0 else if is_name s first then 1 else of_word (word_at s first)) else if nat_eq x p_expression then 0 else 1) p in
          let one : number (contains (30 ∷ 29 ∷ []) q) ≡ 0 = ap (λ (x : ℕ). number (contains (30 ∷ 29 ∷ []) x)) e in
          omega (arith, many, value, one)

pub statements_shaped : StatementsShaped
statements_shaped tokens unit tree tag_number is =
    let s = numbered tag_number (source_of tokens tree) in
    let at : (i first : ℕ) (rest : List ℕ) → is_a s p_statement i ≡ true → children_at s i ≡ first ∷ rest → Facts s tokens.text.now i first rest =
    λ i first rest h e.
    let own = shaped tokens unit tree tag_number is i h in
    facts s tokens.text.now i first rest own.word own.fine (subst (λ (l : List ℕ). Matches tokens.text.now s.tokens (map node_of s.nodes) own.word l) e own.match) in
    record {
      parts = λ i first rest h e. subst (λ (l : List ℕ). length (all_where (is_part s) l) ≤ allowed s first) (sym e) (at i first rest h e).parts;
      blocks = λ i first rest h e lf. subst (λ (l : List ℕ). length (all_where (is_a s p_block) l) ≡ 0) (sym e) ((at i first rest h e).blocks lf);
      switches = λ i first rest h e word j k c d ec ed.
          (at i first rest h e).switches word j k c d (subst (λ (l : List ℕ). slice_get l j ≡ Some c) e ec) (subst (λ (l : List ℕ). slice_get l k ≡ Some d) e ed);
    }
