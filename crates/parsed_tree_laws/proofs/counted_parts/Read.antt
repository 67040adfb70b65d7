-- The counts of parts in a tree that is read.
use Rattle.std.proofs.Common.{arith, ◌≡◌, ◌<◌, ◌≤◌, ◌+◌, ℕ, zero, suc, nat_eq, nat_lt, Bool, true, false, ◌&&◌, ◌||◌, List, [], ◌∷◌, map, length, Option, Some, None, slice_get, refl, sym, ap, ◌∙◌, subst, ◌⊎◌, inl, inr}
use Rattle.std.specs.Prelude.{if◌then◌else◌}
use Rattle.std.specs.List.{list_all}
use Rattle.std.proofs.lemmas.Bool.{eqb-true, eq-eqb}
use Rattle.c_lexer.specs.declared.Token.{Token}
use Rattle.c_lexer.specs.declared.Tokens.{Tokens}
use Rattle.c_lexer.specs.declared.TokenKind.{TokenKind}
use Rattle.c_lexer.specs.declared.TokenKind.TheVariants.{Identifier, Keyword, Punctuator, Integer, Floating, Character, Text, End}
use Rattle.c_grammar.specs.declared.trees.SyntaxNode.{SyntaxNode}
use Rattle.c_grammar.specs.declared.trees.Tree.{Tree}
use Rattle.c_grammar.specs.Names.{no_names}
use Rattle.c_grammar.specs.Productions.{p_unit, p_declarator, p_statement}
use Rattle.c_grammar.specs.Words.{word_case, word_default, word_switch, word_while, word_do, word_for}
use Rattle.c_grammar.specs.Terminals.{contains, takes}
use Rattle.c_grammar.specs.Tree.{makes_node}
use Rattle.c_grammar.specs.Reads.{State, Node, node_of, leaf, first}
use Rattle.c_parser.specs.Parse.{begin}
use Rattle.c_parser.specs.c_units.Units.{IsUnit}
use Rattle.c_senses.specs.Names.{source_of, numbered}
use Rattle.c_senses.specs.Tree.{Source, production_of, children_of, production_at, children_at, kind_of_token, token_of, kind_at, is_a, is_leaf, is_name, is_identifier, is_number, has_word, word_of_kind, all_where}
use Rattle.parsed_tree_laws.specs.counted_parts.Counted.{is_inner, is_ending, begins_one, PartsAreCounted}
use Rattle.parsed_tree_laws.proofs.counted_parts.Counting.{number, passes_in, tally, row_cost, bounded, AllGood, all_read}
use Rattle.parsed_tree_laws.proofs.counted_parts.Rows.{no_token, of_list, list_cost, declarator_bounds, inner_bounds, ending_bounds, statement_bounds, declarators_bounded, inner_bounded, endings_bounded, statements_bounded, external_declarators, external_inner, external_endings, own_statements, begins, kind_in, is_counted, word_cost, counted_bounds, most_words, while_words, most_bounded, while_bounded, most_statement, while_statement, most_small, while_small, word_token, word_node}

no_more : (b : Bool) → (b ≡ true → ⊥) → number b ≤ 0
no_more true h = absurd (h refl)
no_more false h = omega arith

stands : (o : Option SyntaxNode) (p : ℕ) → production_of o ≡ p → (p ≡ leaf → ⊥) → (n : SyntaxNode) × (o ≡ Some n)
stands None p e never = absurd (never (sym e))
stands (Some n) p e never = (n, refl)

node_there : (items : List SyntaxNode) (k : ℕ) (n : SyntaxNode) → slice_get items k ≡ Some n → slice_get (map node_of items) k ≡ Some (node_of n)
node_there [] k n e = cc
node_there (x ∷ items) zero n e = let same : x ≡ n = cc in ap (λ (m : SyntaxNode). Some (node_of m)) same
node_there (x ∷ items) (suc k) n e = node_there items k n e

-- numbers that pass are counted
module _ (s : Source) (P : Node → Bool) (test : ℕ → Bool) (counts : (k : ℕ) (n : SyntaxNode) → slice_get s.nodes k ≡ Some n → test k ≡ true → P (node_of n) ≡ true) where
  abbrev nodes : List Node
  nodes = map node_of s.nodes

  counted_one : (k : ℕ) → test k ≡ true → number (passes_in P (slice_get nodes k)) ≡ 1
  counted_one k h = by (slice_get s.nodes k) refl (slice_get nodes k) refl
    where
      none_there : (items : List SyntaxNode) (k : ℕ) → slice_get items k ≡ None → slice_get (map node_of items) k ≡ None
      none_there [] k e = refl
      none_there (x ∷ items) zero e = cc
      none_there (x ∷ items) (suc k) e = none_there items k e

      by : (o : Option SyntaxNode) → slice_get s.nodes k ≡ o → (q : Option Node) → slice_get nodes k ≡ q → number (passes_in P (slice_get nodes k)) ≡ 1
      by None e q f = ap (λ (x : Option Node). number (passes_in P x)) (none_there s.nodes k e)
      by (Some n) e q f = ap (λ (x : Option Node). number (passes_in P x)) (node_there s.nodes k n e) ∙ ap number (counts k n e h)

  all_counted : (ks : List ℕ) → length (all_where test ks) ≤ tally P nodes ks
  all_counted [] = omega arith
  all_counted (k ∷ ks) = by (test k) refl (all_counted ks)
    where
      by : (b : Bool) → test k ≡ b → length (all_where test ks) ≤ tally P nodes ks → length (if b then k ∷ all_where test ks else all_where test ks) ≤ number (passes_in P (slice_get nodes k)) + tally P nodes ks
      by true e h = let own = counted_one k e in omega (arith, own, h)
      by false e h = omega (arith, h)

-- a node of the tree
module _ (tokens : Tokens) (unit : ℕ) (tree : Tree) (is : IsUnit tokens unit tree) where
  abbrev items : List SyntaxNode
  items = tree.nodes.items

  abbrev text : List ℕ
  text = tokens.text.now

  abbrev list : List Token
  list = tokens.list.items

  module _
      (token_cost : TokenKind → ℕ) (node_cost : ℕ → ℕ) (bounds : List (ℕ × ℕ)) (P : Node → Bool)
      (token_counts : (p : ℕ) (k : TokenKind) (s : State) → takes p k (first text list s) ≡ true → number (P (record { production = leaf; token = s.place; children = [] })) ≤ token_cost k)
      (node_counts : (q place : ℕ) (children : List ℕ) → makes_node q ≡ true → number (P (record { production = q; token = place; children = children })) ≤ node_cost q) (all_bounded : bounded token_cost node_cost bounds bounds ≡ true)
    where
      abbrev AllFine : List Node → List Node → Type 0
      AllFine nodes ns = AllGood token_cost node_cost bounds text list P token_counts node_counts all_bounded nodes ns

      all_fine : AllFine (map node_of items) (map node_of items)
      all_fine =
          let read = is.0 in
          subst (λ (l : List Node). AllFine l l) read.2 (all_read token_cost node_cost bounds text list P token_counts node_counts all_bounded p_unit 0 (begin 0 no_names []) read.0 refl read.1)

      at : (nodes : List Node) (some : List SyntaxNode) (i : ℕ) (n : SyntaxNode) → AllFine nodes (map node_of some) → slice_get some i ≡ Some n → row_cost token_cost node_cost bounds n.production < 1000 → tally P nodes n.children.items ≤ row_cost token_cost node_cost bounds n.production
      at nodes [] i n g e = cc
      at nodes (m ∷ some) zero n g e = let same : m ≡ n = cc in subst (λ (x : SyntaxNode). row_cost token_cost node_cost bounds x.production < 1000 → tally P nodes x.children.items ≤ row_cost token_cost node_cost bounds x.production) same g.0
      at nodes (m ∷ some) (suc i) n g e = at nodes some i n g.1 e

      -- the children of a node of a production whose row brings so many
      tallied : (i q c : ℕ) → nat_eq (production_of (slice_get items i)) q ≡ true → (q ≡ leaf → ⊥) → row_cost token_cost node_cost bounds q ≡ c → c < 1000 → tally P (map node_of items) (children_of (slice_get items i)) ≤ c
      tallied i q c h never cost lt =
          let p = eqb-true (production_of (slice_get items i)) q h in
          let n = stands (slice_get items i) q p never in
          let same : n.0.production ≡ q = ap production_of (sym n.1) ∙ p in
          let own : row_cost token_cost node_cost bounds n.0.production ≡ c = ap (λ (x : ℕ). row_cost token_cost node_cost bounds x) same ∙ cost in
          let few = at (map node_of items) items i n.0 all_fine n.1 (omega (arith, own, lt)) in
          subst (λ (o : Option SyntaxNode). tally P (map node_of items) (children_of o) ≤ c) (sym n.1) (omega (arith, few, own))

-- ---- tests of rows and of the grammar

turned : (q p : ℕ) → nat_eq p q ≡ true → contains (q ∷ []) p ≡ true
turned q p h = subst (λ (x : ℕ). contains (q ∷ []) x ≡ true) (sym (eqb-true p q h)) (by (nat_eq q q) (eq-eqb q q refl))
  where
    by : (b : Bool) → b ≡ true → (b || false) ≡ true
    by true e = refl
    by false e = cc

two : (p : ℕ) → (nat_eq p 29 || nat_eq p 2) ≡ true → contains (29 ∷ 2 ∷ []) p ≡ true
two p h = by (nat_eq p 29) (nat_eq p 2) refl refl h
  where
    by : (a b : Bool) → nat_eq p 29 ≡ a → nat_eq p 2 ≡ b → (a || b) ≡ true → contains (29 ∷ 2 ∷ []) p ≡ true
    by true b ea eb h = subst (λ (x : ℕ). contains (29 ∷ 2 ∷ []) x ≡ true) (sym (eqb-true p 29 ea)) refl
    by false true ea eb h = subst (λ (x : ℕ). contains (29 ∷ 2 ∷ []) x ≡ true) (sym (eqb-true p 2 eb)) refl
    by false false ea eb h = cc

three : (p : ℕ) → (nat_eq p 15 || (nat_eq p 20 || nat_eq p 21)) ≡ true → contains (15 ∷ 20 ∷ 21 ∷ []) p ≡ true
three p h = by (nat_eq p 15) (nat_eq p 20) (nat_eq p 21) refl refl refl h
  where
    by : (a b c : Bool) → nat_eq p 15 ≡ a → nat_eq p 20 ≡ b → nat_eq p 21 ≡ c → (a || (b || c)) ≡ true → contains (15 ∷ 20 ∷ 21 ∷ []) p ≡ true
    by true b c ea eb ec h = subst (λ (x : ℕ). contains (15 ∷ 20 ∷ 21 ∷ []) x ≡ true) (sym (eqb-true p 15 ea)) refl
    by false true c ea eb ec h = subst (λ (x : ℕ). contains (15 ∷ 20 ∷ 21 ∷ []) x ≡ true) (sym (eqb-true p 20 eb)) refl
    by false false true ea eb ec h = subst (λ (x : ℕ). contains (15 ∷ 20 ∷ 21 ∷ []) x ≡ true) (sym (eqb-true p 21 ec)) refl
    by false false false ea eb ec h = cc

left_on : (a b : Bool) → a ≡ true → (a || b) ≡ true
left_on true b e = refl
left_on false b e = cc

right_on : (a b : Bool) → b ≡ true → (a || b) ≡ true
right_on true b e = refl
right_on false b e = e

both_on : (a b : Bool) → a ≡ true → b ≡ true → (a && b) ≡ true
both_on true b e f = f
both_on false b e f = cc

parts_of : (a b : Bool) → (a && b) ≡ true → (a ≡ true) × (b ≡ true)
parts_of true b e = (refl, e)
parts_of false b e = cc

-- what begins such a statement is a leaf that counts
module _ (s : Source) where
  abbrev IsBegun : ℕ → Type 0
  IsBegun c = (is_leaf s c ≡ true) × ((begins most_words (kind_at s c) ≡ true) ⊎ (begins while_words (kind_at s c) ≡ true))

  word_is : (w : ℕ) (k : TokenKind) → is_number (word_of_kind k) w ≡ true → k ≡ Keyword w
  word_is w (Keyword x) h = ap Keyword (eqb-true x w h)
  word_is w Identifier h = cc
  word_is w (Punctuator p) h = cc
  word_is w Integer h = cc
  word_is w Floating h = cc
  word_is w Character h = cc
  word_is w Text h = cc
  word_is w End h = cc

  by_word : (words : List ℕ) (w c : ℕ) → contains words w ≡ true → has_word s w c ≡ true → (is_leaf s c ≡ true) × (begins words (kind_at s c) ≡ true)
  by_word words w c listed h =
      let both = parts_of (is_leaf s c) (is_number (word_of_kind (kind_at s c)) w) h in
      (both.0, ap (λ (k : TokenKind). begins words k) (word_is w (kind_at s c) both.1) ∙ listed)

  named : (k : TokenKind) → is_identifier k ≡ true → begins most_words k ≡ true
  named Identifier h = refl
  named (Keyword x) h = cc
  named (Punctuator p) h = cc
  named Integer h = cc
  named Floating h = cc
  named Character h = cc
  named Text h = cc
  named End h = cc

  most : (c : ℕ) → (is_leaf s c ≡ true) × (begins most_words (kind_at s c) ≡ true) → IsBegun c
  most c h = (h.0, inl h.1)

  is_begun : (c : ℕ) → begins_one s c ≡ true → IsBegun c
  is_begun c h = by (is_name s c) (has_word s word_case c) (has_word s word_default c) (has_word s word_switch c) (has_word s word_while c) (has_word s word_do c) (has_word s word_for c) refl refl refl refl refl refl refl h
    where
      by : (a b d e f g i : Bool) → is_name s c ≡ a → has_word s word_case c ≡ b → has_word s word_default c ≡ d → has_word s word_switch c ≡ e → has_word s word_while c ≡ f → has_word s word_do c ≡ g → has_word s word_for c ≡ i
          → (a || (b || (d || (e || (f || (g || i)))))) ≡ true → IsBegun c
      by true b d e f g i ea eb ed ee ef eg ei h = let both = parts_of (is_leaf s c) (is_identifier (kind_at s c)) ea in (both.0, inl (named (kind_at s c) both.1))
      by false true d e f g i ea eb ed ee ef eg ei h = most c (by_word most_words word_case c refl eb)
      by false false true e f g i ea eb ed ee ef eg ei h = most c (by_word most_words word_default c refl ed)
      by false false false true f g i ea eb ed ee ef eg ei h = most c (by_word most_words word_switch c refl ee)
      by false false false false true g i ea eb ed ee ef eg ei h = let own = by_word while_words word_while c refl ef in (own.0, inr own.1)
      by false false false false false true i ea eb ed ee ef eg ei h = most c (by_word most_words word_do c refl eg)
      by false false false false false false true ea eb ed ee ef eg ei h = most c (by_word most_words word_for c refl ei)
      by false false false false false false false ea eb ed ee ef eg ei h = cc

  -- a leaf is no statement
  leaf_apart : (c : ℕ) → is_leaf s c ≡ true → is_a s p_statement c ≡ false
  leaf_apart c h = ap (λ (p : ℕ). nat_eq p p_statement) (eqb-true (production_at s c) leaf h)

  kind_same : (k : ℕ) (n : SyntaxNode) → slice_get s.nodes k ≡ Some n → kind_at s k ≡ kind_in (slice_get s.tokens n.token)
  kind_same k n e = ap (λ (o : Option SyntaxNode). kind_of_token (token_of s o)) e ∙ by (slice_get s.tokens n.token)
    where
      by : (o : Option Token) → kind_of_token o ≡ kind_in o
      by None = refl
      by (Some t) = refl

  statement_counts : (words : List ℕ) (k : ℕ) (n : SyntaxNode) → slice_get s.nodes k ≡ Some n → is_a s p_statement k ≡ true → is_counted words s.tokens (node_of n) ≡ true
  statement_counts words k n e h = left_on (contains (30 ∷ []) n.production) _ (turned 30 n.production (subst (λ (o : Option SyntaxNode). nat_eq (production_of o) 30 ≡ true) e h))

  leaf_counts : (words : List ℕ) (k : ℕ) (n : SyntaxNode) → slice_get s.nodes k ≡ Some n → is_leaf s k ≡ true → begins words (kind_at s k) ≡ true → is_counted words s.tokens (node_of n) ≡ true
  leaf_counts words k n e h b =
      right_on (contains (30 ∷ []) n.production) _
      (both_on (contains (leaf ∷ []) n.production) (begins words (kind_in (slice_get s.tokens n.token))) (turned leaf n.production (subst (λ (o : Option SyntaxNode). nat_eq (production_of o) leaf ≡ true) e h))
      (subst (λ (x : TokenKind). begins words x ≡ true) (kind_same k n e) b))

  -- a leaf that counts leaves one statement less
  one_less : (words : List ℕ) (first : ℕ) (rest : List ℕ) → is_leaf s first ≡ true → begins words (kind_at s first) ≡ true → tally (is_counted words s.tokens) (map node_of s.nodes) (first ∷ rest) ≤ 2 → length (all_where (is_a s p_statement) (first ∷ rest)) ≤ 1
  one_less words begin rest lf b few =
      let P = is_counted words s.tokens in
      let own = counted_one s P (λ c. nat_eq c begin) (λ k n e same. let is : k ≡ begin = eqb-true k begin same in leaf_counts words k n e (subst (λ (x : ℕ). is_leaf s x ≡ true) (sym is) lf) (subst (λ (x : ℕ). begins words (kind_at s x) ≡ true) (sym is) b)) begin (eq-eqb begin begin refl) in
      let more = all_counted s P (is_a s p_statement) (λ k n e h. statement_counts words k n e h) rest in
      let skip : length (all_where (is_a s p_statement) (begin ∷ rest)) ≡ length (all_where (is_a s p_statement) rest) = left_out (is_a s p_statement begin) (leaf_apart begin lf) in
      omega (arith, own, more, skip, few)
    where
      left_out : (b : Bool) → b ≡ false → length (if b then begin ∷ all_where (is_a s p_statement) rest else all_where (is_a s p_statement) rest) ≡ length (all_where (is_a s p_statement) rest)
      left_out true e = cc
      left_out false e = refl

pub parts_are_counted : PartsAreCounted
unfolding source_of
parts_are_counted tokens unit tree tag_number is =
    let s = numbered tag_number (source_of tokens tree) in
    record {
      declarators = λ i h.
          let few = tallied tokens unit tree is no_token (list_cost (19 ∷ [])) declarator_bounds (of_list (19 ∷ [])) (λ p k s t. omega arith) (λ q place children m. omega arith) declarators_bounded i 1 1 h (λ e. absurd (omega (arith, e))) external_declarators (omega arith) in
          let all = all_counted s (of_list (19 ∷ [])) (is_a s p_declarator) (λ k n e t. turned 19 n.production (subst (λ (o : Option SyntaxNode). nat_eq (production_of o) 19 ≡ true) e t)) (children_at s i) in
          omega (arith, few, all);
      inner = λ i h.
          let few = tallied tokens unit tree is no_token (list_cost (15 ∷ 20 ∷ 21 ∷ [])) inner_bounds (of_list (15 ∷ 20 ∷ 21 ∷ [])) (λ p k s t. omega arith) (λ q place children m. omega arith) inner_bounded i 1 0 h (λ e. absurd (omega (arith, e))) external_inner (omega arith) in
          let all = all_counted s (of_list (15 ∷ 20 ∷ 21 ∷ [])) (is_inner s) (λ k n e t. three n.production (subst (λ (o : Option SyntaxNode). (nat_eq (production_of o) 15 || (nat_eq (production_of o) 20 || nat_eq (production_of o) 21)) ≡ true) e t)) (children_at s i) in
          omega (arith, few, all);
      endings = λ i h.
          let few = tallied tokens unit tree is no_token (list_cost (29 ∷ 2 ∷ [])) ending_bounds (of_list (29 ∷ 2 ∷ [])) (λ p k s t. omega arith) (λ q place children m. omega arith) endings_bounded i 1 1 h (λ e. absurd (omega (arith, e))) external_endings (omega arith) in
          let all = all_counted s (of_list (29 ∷ 2 ∷ [])) (is_ending s) (λ k n e t. two n.production (subst (λ (o : Option SyntaxNode). (nat_eq (production_of o) 29 || nat_eq (production_of o) 2) ≡ true) e t)) (children_at s i) in
          omega (arith, few, all);
      statements = λ i h.
          let few = tallied tokens unit tree is no_token (list_cost (30 ∷ [])) statement_bounds (of_list (30 ∷ [])) (λ p k s t. omega arith) (λ q place children m. omega arith) statements_bounded i 30 2 h (λ e. absurd (omega (arith, e))) own_statements (omega arith) in
          let all = all_counted s (of_list (30 ∷ [])) (is_a s p_statement) (λ k n e t. turned 30 n.production (subst (λ (o : Option SyntaxNode). nat_eq (production_of o) 30 ≡ true) e t)) (children_at s i) in
          omega (arith, few, all);
      begun = λ i first rest h children begun.
          let own = is_begun s first begun in
          let few : (words : List ℕ) → list_all (λ w. nat_lt w 45) words ≡ true → bounded (word_cost words) (list_cost (30 ∷ [])) counted_bounds counted_bounds ≡ true → row_cost (word_cost words) (list_cost (30 ∷ [])) counted_bounds 30 ≡ 2 → tally (is_counted words s.tokens) (map node_of s.nodes) (first ∷ rest) ≤ 2 =
          λ words small bound cost.
          subst (λ (l : List ℕ). tally (is_counted words s.tokens) (map node_of s.nodes) l ≤ 2) children
          (tallied tokens unit tree is (word_cost words) (list_cost (30 ∷ [])) counted_bounds (is_counted words tokens.list.items) (λ p k st t. word_token words small tokens.text.now tokens.list.items p k st t) (λ q place children m. word_node words tokens.list.items q place children m) bound i 30 2 h (λ e. absurd (omega (arith, e))) cost (omega arith)) in
          subst (λ (l : List ℕ). length (all_where (is_a s p_statement) l) ≤ 1) (sym children)
          (elim own.1 [
            | inl b ↦ one_less s most_words first rest own.0 b (few most_words most_small most_bounded most_statement)
            | inr b ↦ one_less s while_words first rest own.0 b (few while_words while_small while_bounded while_statement)
          ]);
    }
