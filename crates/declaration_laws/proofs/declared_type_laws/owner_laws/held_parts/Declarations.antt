-- Which statements have declarations as parts.
use Rattle.std.proofs.Common.{arith, ◌≡◌, ◌+◌, ℕ, zero, suc, nat_eq, not, Bool, true, false, ◌&&◌, ◌||◌, cond, List, [], ◌∷◌, map, Option, Some, None, slice_get, refl, sym, ap, ◌∙◌, subst}
use Rattle.std.specs.Prelude.{nat_le}
use Rattle.std.specs.List.{list_all}
use Rattle.std.specs.Option.{unwrap_or}
use Rattle.std.specs.Str.{bytes_eq}
use Rattle.std.proofs.lemmas.Bool.{eqb-true, leb-true}
use Rattle.c_lexer.specs.declared.Token.{Token}
use Rattle.c_lexer.specs.declared.Tokens.{Tokens}
use Rattle.c_lexer.specs.declared.TokenKind.{TokenKind}
use Rattle.c_lexer.specs.declared.TokenKind.TheVariants.{Identifier, Keyword, Punctuator, Integer, Floating, Character, Text, End}
use Rattle.c_grammar.specs.declared.rows.Item.TheVariants as item
use Rattle.c_grammar.specs.declared.trees.SyntaxNode.{SyntaxNode}
use Rattle.c_grammar.specs.declared.trees.Tree.{Tree}
use Rattle.c_grammar.specs.Names.{Names, is_type, no_names}
use Rattle.c_grammar.specs.Productions.{p_unit, p_declaration, p_statement}
use Rattle.c_grammar.specs.Words.{word_for}
use Rattle.c_grammar.specs.Table.{table, row}
use Rattle.c_grammar.specs.Terminals.{contains, takes, own_words, list_words, own_meaning, is_builtin, builtin_type, builtin_name, type_name, plain_name, name_terminal, is_wide, has_one_character, terminal_of_kind, terminal_of, spelled}
use Rattle.c_grammar.specs.Tree.{makes_node}
use Rattle.c_grammar.specs.Reads.{Node, node_of, leaf}
use Rattle.c_parser.specs.Parse.{begin}
use Rattle.c_parser.specs.c_units.Units.{IsUnit}
use Rattle.c_senses.specs.Names.{source_of, numbered}
use Rattle.c_senses.specs.Tree.{Source, production_of, production_at, children_of, children_at, kind_of_token, token_of, kind_at, is_a, is_leaf, is_number, has_word, word_at, word_of_kind}
use Rattle.core_node_laws.proofs.passed.parsed_tree_laws.statement_shapes.Language.{Word, IsIn, words_in, part_words, IsTaken, IsNode, Matches, Good, AllGood, all_read}
use Rattle.declaration_laws.specs.declared_type_laws.owner_laws.held_parts.Held.{ForDeclarations}

left : (a b : Bool) → (a && b) ≡ true → a ≡ true
left true b e = refl
left false b e = cc

right : (a b : Bool) → (a && b) ≡ true → b ≡ true
right true b e = e
right false b e = cc

-- ---- the token that is the word `for`

high : (words : List (List ℕ × ℕ)) → list_all (λ e. nat_le 93 e.1) words ≡ true → (name : List ℕ) (d : ℕ) → nat_le 93 d ≡ true → nat_le 93 (unwrap_or (own_meaning words name) d) ≡ true
high [] h name d e = e
high (w ∷ words) h name d e = by (high words (right (nat_le 93 w.1) (list_all (λ e. nat_le 93 e.1) words) h) name d e) (bytes_eq name w.0)
  where
    by : nat_le 93 (unwrap_or (own_meaning words name) d) ≡ true → (b : Bool) → nat_le 93 (unwrap_or (cond b (Some w.1) (own_meaning words name)) d) ≡ true
    by rest true = left (nat_le 93 w.1) (list_all (λ e. nat_le 93 e.1) words) h
    by rest false = rest

own_high : list_all (λ e. nat_le 93 e.1) own_words ≡ true
unfolding own_words
own_high = refl

list_high : list_all (λ e. nat_le 93 e.1) list_words ≡ true
unfolding list_words
list_high = refl

name_high : (n : Names) (name : List ℕ) → nat_le 93 (name_terminal n name) ≡ true
unfolding name_terminal
name_high n name = high own_words own_high name _ (by (is_builtin name) (is_type n name) (unwrap_or (own_meaning list_words name) builtin_name) (high list_words list_high name builtin_name refl))
  where
    by : (a b : Bool) (d : ℕ) → nat_le 93 d ≡ true → nat_le 93 (cond a (cond b builtin_type d) (cond b type_name plain_name)) ≡ true
    by true true d h = refl
    by true false d h = h
    by false true d h = refl
    by false false d h = refl

is_one : (x y : ℕ) → contains (x ∷ []) y ≡ true → x ≡ y
is_one x y h = by (nat_eq x y) refl h
  where
    by : (b : Bool) → nat_eq x y ≡ b → (b || false) ≡ true → x ≡ y
    by true e h = eqb-true x y e
    by false e h = cc

for_kind : (k : TokenKind) (n : Names) (bytes : List ℕ) → contains (word_for ∷ []) (terminal_of_kind k n bytes) ≡ true → word_of_kind k ≡ Some word_for
for_kind Identifier n bytes h = let same = is_one word_for (name_terminal n bytes) h in let large = leb-true 93 (name_terminal n bytes) (name_high n bytes) in absurd (omega (arith, same, large))
for_kind (Keyword b) n bytes h = ap (λ (x : ℕ). Some x) (sym (is_one word_for b h))
for_kind (Punctuator g) n bytes h = let same = is_one word_for (45 + g) h in absurd (omega (arith, same))
for_kind Integer n bytes h = cc
for_kind Floating n bytes h = cc
for_kind Character n bytes h = by (is_wide bytes) (has_one_character bytes) h
  where
    by : (a b : Bool) → contains (word_for ∷ []) (cond a 104 (cond b 100 105)) ≡ true → word_of_kind Character ≡ Some word_for
    by true b h = cc
    by false true h = cc
    by false false h = cc
for_kind Text n bytes h = by (is_wide bytes) h
  where
    by : (a : Bool) → contains (word_for ∷ []) (cond a 104 101) ≡ true → word_of_kind Text ≡ Some word_for
    by true h = cc
    by false h = cc
for_kind End n bytes h = cc

for_taken : (text : List ℕ) (p : ℕ) (n : Names) (o : Option Token) → takes p (Keyword word_for) (terminal_of text n o) ≡ true → word_of_kind (kind_of_token o) ≡ Some word_for
unfolding takes
for_taken text p n None h = cc
for_taken text p n (Some t) h =
    for_kind t.kind n (spelled text t) (right (not (nat_eq (terminal_of_kind t.kind n (spelled text t)) 103)) (contains (word_for ∷ []) (terminal_of_kind t.kind n (spelled text t))) h)

-- ---- the parts of a statement

abbrev free : Word → Bool
free [] = true
free (item.Token k ∷ w) = free w
free (item.Use q ∷ w) = not (nat_eq q 3) && free w
free (i ∷ w) = false

abbrev is_for : TokenKind → Bool
is_for (Keyword b) = nat_eq b word_for
is_for k = false

abbrev begins_for : Word → Bool
begins_for (item.Token k ∷ item.Token j ∷ item.Use q ∷ w) = is_for k && free w
begins_for w = false

abbrev fine : Word → Bool
fine w = free w || begins_for w

abbrev statement_words : List Word
statement_words = words_in (part_words 20) (row 30)

all_fine : list_all fine statement_words ≡ true
unfolding table row makes_node
all_fine = refl

listed_fine : (words : List Word) (w : Word) → list_all fine words ≡ true → IsIn words w → fine w ≡ true
listed_fine [] w h i = cc
listed_fine (v ∷ words) w h (zero, e) = let same : v ≡ w = cc in subst (λ (x : Word). fine x ≡ true) same (left (fine v) (list_all fine words) h)
listed_fine (v ∷ words) w h (suc k, e) = listed_fine words w (right (fine v) (list_all fine words) h) (k, e)

produced : (items : List SyntaxNode) (k : ℕ) (n : Node) → slice_get (map node_of items) k ≡ Some n → (m : SyntaxNode) × (slice_get items k ≡ Some m) × (node_of m ≡ n)
produced [] k n e = cc
produced (x ∷ items) zero n e = let same : node_of x ≡ n = cc in (x, refl, same)
produced (x ∷ items) (suc k) n e = produced items k n e

module _ (s : Source) (text : List ℕ) where
  abbrev Match : Word → List ℕ → Type 0
  Match w ks = Matches text s.tokens (map node_of s.nodes) w ks

  production_is : (c q : ℕ) → IsNode text s.tokens q (map node_of s.nodes) c → production_at s c ≡ q
  production_is c q h = let m = produced s.nodes c h.0 h.1 in ap production_of m.1 ∙ (ap (λ (n : Node). n.production) m.2 ∙ h.2)

  leaf_is : (c : ℕ) (k : TokenKind) → IsTaken text s.tokens k (map node_of s.nodes) c → production_at s c ≡ leaf
  leaf_is c k h = let m = produced s.nodes c h.0 h.1 in ap production_of m.1 ∙ (ap (λ (n : Node). n.production) m.2 ∙ h.2)

  for_is : (c : ℕ) (k : TokenKind) → is_for k ≡ true → IsTaken text s.tokens k (map node_of s.nodes) c → has_word s word_for c ≡ true
  for_is c (Keyword b) e h =
      let same : b ≡ word_for = eqb-true b word_for e in
      let m = produced s.nodes c h.0 h.1 in
      let token : kind_at s c ≡ kind_of_token (slice_get s.tokens h.0.token) = ap (λ (o : Option SyntaxNode). kind_of_token (token_of s o)) m.1 ∙ ap (λ (n : Node). kind_of_token (slice_get s.tokens n.token)) m.2 in
      let taken : takes h.3.0 (Keyword word_for) (terminal_of text h.3.1 (slice_get s.tokens h.0.token)) ≡ true = subst (λ (x : ℕ). takes h.3.0 (Keyword x) (terminal_of text h.3.1 (slice_get s.tokens h.0.token)) ≡ true) same h.3.2 in
      let word : word_at s c ≡ Some word_for = ap word_of_kind token ∙ for_taken text h.3.0 h.3.1 (slice_get s.tokens h.0.token) taken in
      both (is_leaf s c) (word_at s c) (ap (λ (x : ℕ). nat_eq x leaf) (leaf_is c (Keyword b) h)) word
    where
      both : (a : Bool) (o : Option ℕ) → a ≡ true → o ≡ Some word_for → (a && is_number o word_for) ≡ true
      both true o e f = ap (λ (x : Option ℕ). is_number x word_for) f
      both false o e f = cc
  for_is c Identifier e h = cc
  for_is c (Punctuator g) e h = cc
  for_is c Integer e h = cc
  for_is c Floating e h = cc
  for_is c Character e h = cc
  for_is c Text e h = cc
  for_is c End e h = cc

  declared : (c q : ℕ) → production_at s c ≡ q → is_a s p_declaration c ≡ true → q ≡ 3
  declared c q is h = sym is ∙ eqb-true (production_at s c) p_declaration h

  differs : (q : ℕ) → q ≡ 3 → not (nat_eq q 3) ≡ true → ⊥
  differs q e h = let three : not (nat_eq q 3) ≡ false = ap (λ (x : ℕ). not (nat_eq x 3)) e in let both : true ≡ false = sym h ∙ three in cc

  no_declaration : (w : Word) (ks : List ℕ) (k c : ℕ) → free w ≡ true → Match w ks → slice_get ks k ≡ Some c → is_a s p_declaration c ≡ true → ⊥
  no_declaration [] [] k c f h e is = cc
  no_declaration [] (x ∷ ks) k c f h e is = absurd h
  no_declaration (item.Token t ∷ w) [] k c f h e is = absurd h
  no_declaration (item.Token t ∷ w) (x ∷ ks) zero c f h e is =
      let same : x ≡ c = cc in
      let three = declared c leaf (subst (λ (y : ℕ). production_at s y ≡ leaf) same (leaf_is x t h.0)) is in
      absurd (omega (arith, three))
  no_declaration (item.Token t ∷ w) (x ∷ ks) (suc k) c f h e is = no_declaration w ks k c f h.1 e is
  no_declaration (item.Use q ∷ w) [] k c f h e is = absurd h
  no_declaration (item.Use q ∷ w) (x ∷ ks) zero c f h e is =
      let same : x ≡ c = cc in
      differs q (declared c q (subst (λ (y : ℕ). production_at s y ≡ q) same (production_is x q h.0)) is) (left (not (nat_eq q 3)) (free w) f)
  no_declaration (item.Use q ∷ w) (x ∷ ks) (suc k) c f h e is = no_declaration w ks k c (right (not (nat_eq q 3)) (free w) f) h.1 e is
  no_declaration (item.Repeat q ∷ w) ks k c f h e is = cc
  no_declaration (item.Choice a b ∷ w) ks k c f h e is = cc
  no_declaration (item.Scope n ∷ w) ks k c f h e is = cc

  abbrev Begins : List ℕ → ℕ → Type 0
  Begins ks c = (word parenthesis : ℕ) × (rest : List ℕ) × (ks ≡ word ∷ parenthesis ∷ c ∷ rest) × (has_word s word_for word ≡ true)

  leaf_no : (x c : ℕ) (t : TokenKind) → x ≡ c → IsTaken text s.tokens t (map node_of s.nodes) x → is_a s p_declaration c ≡ true → ⊥
  leaf_no x c t same h is = let three = declared c leaf (subst (λ (y : ℕ). production_at s y ≡ leaf) same (leaf_is x t h)) is in absurd (omega (arith, three))

  for_begins : (t j : TokenKind) (q : ℕ) (w : Word) (ks : List ℕ) (k c : ℕ) → is_for t ≡ true → free w ≡ true → Match (item.Token t ∷ item.Token j ∷ item.Use q ∷ w) ks → slice_get ks k ≡ Some c → is_a s p_declaration c ≡ true → Begins ks c
  for_begins t j q w [] k c ft f h e is = absurd h
  for_begins t j q w (x ∷ []) k c ft f h e is = absurd h.1
  for_begins t j q w (x ∷ y ∷ []) k c ft f h e is = absurd h.1.1
  for_begins t j q w (x ∷ y ∷ z ∷ ks) zero c ft f h e is = absurd (leaf_no x c t (cc) h.0 is)
  for_begins t j q w (x ∷ y ∷ z ∷ ks) (suc zero) c ft f h e is = absurd (leaf_no y c j (cc) h.1.0 is)
  for_begins t j q w (x ∷ y ∷ z ∷ ks) (suc (suc zero)) c ft f h e is = let same : z ≡ c = cc in (x, y, ks, ap (λ (n : ℕ). x ∷ y ∷ n ∷ ks) same, for_is x t ft h.0)
  for_begins t j q w (x ∷ y ∷ z ∷ ks) (suc (suc (suc k))) c ft f h e is = absurd (no_declaration w ks k c f h.1.1.1 e is)

  pub found : (w : Word) (ks : List ℕ) (k c : ℕ) → fine w ≡ true → Match w ks → slice_get ks k ≡ Some c → is_a s p_declaration c ≡ true → Begins ks c
  found w ks k c fits h e is = by (free w) refl fits
    where
      of_for : (w : Word) → begins_for w ≡ true → Match w ks → Begins ks c
      of_for (item.Token t ∷ item.Token j ∷ item.Use q ∷ w) b h = for_begins t j q w ks k c (left (is_for t) (free w) b) (right (is_for t) (free w) b) h e is
      of_for w b h = cc

      by : (b : Bool) → free w ≡ b → (b || begins_for w) ≡ true → Begins ks c
      by true f fits = absurd (no_declaration w ks k c f h e is)
      by false f fits = of_for w fits h

-- ---- of a tree

stands : (o : Option SyntaxNode) (p : ℕ) → production_of o ≡ p → (p ≡ leaf → ⊥) → (n : SyntaxNode) × (o ≡ Some n)
stands None p e never = absurd (never (sym e))
stands (Some n) p e never = (n, refl)

no_number : leaf ≡ 30 → ⊥
no_number e = absurd (omega (arith, e))

record Shaped (s : Source) (text : List ℕ) (i : ℕ) : Type 0 where
  word : Word
  is_fine : fine word ≡ true
  match : Matches text s.tokens (map node_of s.nodes) word (children_at s i)

shaped : (tokens : Tokens) (unit : ℕ) (tree : Tree) (tag_number : ℕ → ℕ) → IsUnit tokens unit tree → (i : ℕ) → is_a (numbered tag_number (source_of tokens tree)) p_statement i ≡ true → Shaped (numbered tag_number (source_of tokens tree)) tokens.text.now i
unfolding source_of
shaped tokens unit tree tag_number is i h =
    let read = is.0 in
    let items = tree.nodes.items in
    let text = tokens.text.now in
    let list = tokens.list.items in
    let good : AllGood text list 30 20 (map node_of items) (map node_of items) = subst (λ (l : List Node). AllGood text list 30 20 l l) read.2 (all_read text list 30 20 no_number p_unit 0 (begin 0 no_names []) read.0 refl read.1) in
    let p = eqb-true (production_of (slice_get items i)) 30 h in
    let n = stands (slice_get items i) 30 p (λ e. no_number (sym e)) in
    let own = at (map node_of items) items i n.0 good n.1 (ap production_of (sym n.1) ∙ p) in
    record {
      word = own.0;
      is_fine = listed_fine statement_words own.0 all_fine own.1;
      match = subst (λ (o : Option SyntaxNode). Matches text list (map node_of items) own.0 (children_of o)) (sym n.1) own.2;
    }
  where
    at : (nodes : List Node) (some : List SyntaxNode) (i : ℕ) (n : SyntaxNode) → AllGood tokens.text.now tokens.list.items 30 20 nodes (map node_of some) → slice_get some i ≡ Some n → Good tokens.text.now tokens.list.items 30 20 nodes (node_of n)
    at nodes [] i n g e = cc
    at nodes (m ∷ some) zero n g e = let same : m ≡ n = cc in subst (λ (x : SyntaxNode). Good tokens.text.now tokens.list.items 30 20 nodes (node_of x)) same g.0
    at nodes (m ∷ some) (suc i) n g e = at nodes some i n g.1 e

pub for_declarations : (tokens : Tokens) (unit : ℕ) (tree : Tree) (tag_number : ℕ → ℕ) → IsUnit tokens unit tree → ForDeclarations (numbered tag_number (source_of tokens tree))
for_declarations tokens unit tree tag_number is =
    let s = numbered tag_number (source_of tokens tree) in
    record {
      first = λ i c states h declares.
          let own = shaped tokens unit tree tag_number is i states in
          found s tokens.text.now own.word (children_at s i) h.0 c own.is_fine own.match h.1 declares;
    }
