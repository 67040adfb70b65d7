-- What a declaration has as parts: an assertion, specifiers, a declarator, a name for the assembler, a rest, and leaves.
use Rattle.std.proofs.Common.{arith, ◌≡◌, ℕ, zero, suc, nat_eq, Bool, true, false, ◌&&◌, ◌||◌, List, [], ◌∷◌, map, Option, Some, None, slice_get, refl, sym, ap, ◌∙◌, subst, ◌⊎◌, inl, inr}
use Rattle.std.specs.List.{list_all}
use Rattle.std.proofs.lemmas.Bool.{eqb-true}
use Rattle.c_lexer.specs.declared.Tokens.{Tokens}
use Rattle.c_lexer.specs.declared.TokenKind.{TokenKind}
use Rattle.c_grammar.specs.declared.rows.Item.TheVariants as item
use Rattle.c_grammar.specs.declared.trees.SyntaxNode.{SyntaxNode}
use Rattle.c_grammar.specs.declared.trees.Tree.{Tree}
use Rattle.c_grammar.specs.Names.{no_names}
use Rattle.c_grammar.specs.Productions.{p_unit, p_declaration, p_declarator, p_abstract, p_either, p_field}
use Rattle.c_grammar.specs.Table.{table, row}
use Rattle.c_grammar.specs.Terminals.{contains}
use Rattle.c_grammar.specs.Tree.{makes_node}
use Rattle.c_grammar.specs.Reads.{Node, node_of, leaf}
use Rattle.c_parser.specs.Parse.{begin}
use Rattle.c_parser.specs.c_units.Units.{IsUnit}
use Rattle.c_senses.specs.Names.{source_of, numbered}
use Rattle.c_senses.specs.Tree.{Source, production_of, production_at, children_of, children_at, is_a}
use Rattle.c_senses.specs.Declarators.{is_declarator}
use Rattle.declaration_laws.specs.declared_type_laws.owner_laws.passed.definition_laws.scope_laws.Scoped.{IsPart}
use Rattle.core_node_laws.proofs.standing_laws.Climbing.{in_list}
use Rattle.parsed_tree_laws.proofs.statement_shapes.Language.{Word, IsIn, words_in, part_words, IsTaken, IsNode, Matches, Good, AllGood, all_read}

left : (a b : Bool) → (a && b) ≡ true → a ≡ true
left true b e = refl
left false b e = cc

right : (a b : Bool) → (a && b) ≡ true → b ≡ true
right true b e = e
right false b e = cc

-- the productions of parts
abbrev allowed : List ℕ
allowed = 2 ∷ 4 ∷ 5 ∷ 6 ∷ 19 ∷ []

abbrev among : Word → Bool
among [] = true
among (item.Token k ∷ w) = among w
among (item.Use q ∷ w) = contains allowed q && among w
among (i ∷ w) = false

abbrev declaration_words : List Word
declaration_words = words_in (part_words 20) (row 3)

all_among : list_all among declaration_words ≡ true
unfolding table row makes_node
all_among = refl

listed_among : (words : List Word) (w : Word) → list_all among words ≡ true → IsIn words w → among w ≡ true
listed_among [] w h i = cc
listed_among (v ∷ words) w h (zero, e) = let same : v ≡ w = cc in subst (λ (x : Word). among x ≡ true) same (left (among v) (list_all among words) h)
listed_among (v ∷ words) w h (suc k, e) = listed_among words w (right (among v) (list_all among words) h) (k, e)

produced : (items : List SyntaxNode) (k : ℕ) (n : Node) → slice_get (map node_of items) k ≡ Some n → (m : SyntaxNode) × (slice_get items k ≡ Some m) × (node_of m ≡ n)
produced [] k n e = cc
produced (x ∷ items) zero n e = let same : node_of x ≡ n = cc in (x, refl, same)
produced (x ∷ items) (suc k) n e = produced items k n e

-- a leaf, or of one of the productions
abbrev pub IsAllowed : Source → ℕ → Type 0
IsAllowed s c = (production_at s c ≡ leaf) ⊎ (contains allowed (production_at s c) ≡ true)

module _ (s : Source) (text : List ℕ) where
  abbrev Match : Word → List ℕ → Type 0
  Match w ks = Matches text s.tokens (map node_of s.nodes) w ks

  production_is : (c q : ℕ) → IsNode text s.tokens q (map node_of s.nodes) c → production_at s c ≡ q
  production_is c q h = let m = produced s.nodes c h.0 h.1 in ap production_of m.1 ∙ (ap (λ (n : Node). n.production) m.2 ∙ h.2)

  leaf_is : (c : ℕ) (k : TokenKind) → IsTaken text s.tokens k (map node_of s.nodes) c → production_at s c ≡ leaf
  leaf_is c k h = let m = produced s.nodes c h.0 h.1 in ap production_of m.1 ∙ (ap (λ (n : Node). n.production) m.2 ∙ h.2)

  each_allowed : (w : Word) (ks : List ℕ) (k c : ℕ) → among w ≡ true → Match w ks → slice_get ks k ≡ Some c → IsAllowed s c
  each_allowed [] [] k c f h e = cc
  each_allowed [] (x ∷ ks) k c f h e = absurd h
  each_allowed (item.Token t ∷ w) [] k c f h e = absurd h
  each_allowed (item.Token t ∷ w) (x ∷ ks) zero c f h e = let same : x ≡ c = cc in inl (subst (λ (y : ℕ). production_at s y ≡ leaf) same (leaf_is x t h.0))
  each_allowed (item.Token t ∷ w) (x ∷ ks) (suc k) c f h e = each_allowed w ks k c f h.1 e
  each_allowed (item.Use q ∷ w) [] k c f h e = absurd h
  each_allowed (item.Use q ∷ w) (x ∷ ks) zero c f h e =
      let same : x ≡ c = cc in
      let own : production_at s c ≡ q = subst (λ (y : ℕ). production_at s y ≡ q) same (production_is x q h.0) in
      inr (subst (λ (y : ℕ). contains allowed y ≡ true) (sym own) (left (contains allowed q) (among w) f))
  each_allowed (item.Use q ∷ w) (x ∷ ks) (suc k) c f h e = each_allowed w ks k c (right (contains allowed q) (among w) f) h.1 e
  each_allowed (item.Repeat q ∷ w) ks k c f h e = cc
  each_allowed (item.Choice a b ∷ w) ks k c f h e = cc
  each_allowed (item.Scope n ∷ w) ks k c f h e = cc

stands : (o : Option SyntaxNode) (p : ℕ) → production_of o ≡ p → (p ≡ leaf → ⊥) → (n : SyntaxNode) × (o ≡ Some n)
stands None p e never = absurd (never (sym e))
stands (Some n) p e never = (n, refl)

no_number : leaf ≡ 3 → ⊥
no_number e = absurd (omega (arith, e))

record Shaped (s : Source) (text : List ℕ) (i : ℕ) : Type 0 where
  word : Word
  is_among : among word ≡ true
  match : Matches text s.tokens (map node_of s.nodes) word (children_at s i)

shaped : (tokens : Tokens) (unit : ℕ) (tree : Tree) (tag_number : ℕ → ℕ) → IsUnit tokens unit tree → (i : ℕ) → is_a (numbered tag_number (source_of tokens tree)) p_declaration i ≡ true → Shaped (numbered tag_number (source_of tokens tree)) tokens.text.now i
unfolding source_of
shaped tokens unit tree tag_number is i h =
    let read = is.0 in
    let items = tree.nodes.items in
    let text = tokens.text.now in
    let list = tokens.list.items in
    let good : AllGood text list 3 20 (map node_of items) (map node_of items) = subst (λ (l : List Node). AllGood text list 3 20 l l) read.2 (all_read text list 3 20 no_number p_unit 0 (begin 0 no_names []) read.0 refl read.1) in
    let p = eqb-true (production_of (slice_get items i)) 3 h in
    let n = stands (slice_get items i) 3 p (λ e. no_number (sym e)) in
    let own = at (map node_of items) items i n.0 good n.1 (ap production_of (sym n.1) ∙ p) in
    record {
      word = own.0;
      is_among = listed_among declaration_words own.0 all_among own.1;
      match = subst (λ (o : Option SyntaxNode). Matches text list (map node_of items) own.0 (children_of o)) (sym n.1) own.2;
    }
  where
    at : (nodes : List Node) (some : List SyntaxNode) (i : ℕ) (n : SyntaxNode) → AllGood tokens.text.now tokens.list.items 3 20 nodes (map node_of some) → slice_get some i ≡ Some n → Good tokens.text.now tokens.list.items 3 20 nodes (node_of n)
    at nodes [] i n g e = cc
    at nodes (m ∷ some) zero n g e = let same : m ≡ n = cc in subst (λ (x : SyntaxNode). Good tokens.text.now tokens.list.items 3 20 nodes (node_of x)) same g.0
    at nodes (m ∷ some) (suc i) n g e = at nodes some i n g.1 e

-- a part of a declaration
part_allowed : (tokens : Tokens) (unit : ℕ) (tree : Tree) (tag_number : ℕ → ℕ) → IsUnit tokens unit tree → (q c : ℕ) → is_a (numbered tag_number (source_of tokens tree)) p_declaration q ≡ true
    → IsPart (numbered tag_number (source_of tokens tree)) q c → IsAllowed (numbered tag_number (source_of tokens tree)) c
part_allowed tokens unit tree tag_number is q c declares child =
    let s = numbered tag_number (source_of tokens tree) in
    let own = shaped tokens unit tree tag_number is q declares in
    let k = in_list (children_at s q) c child in
    each_allowed s tokens.text.now own.word (children_at s q) k.0 c own.is_among own.match k.1

-- what is of another production is none
no_part : {X : Type 0} (s : Source) (c q : ℕ) → IsAllowed s c → is_a s q c ≡ true → nat_eq leaf q ≡ false → contains allowed q ≡ false → X
no_part s c q (inl e) is other none = let both : true ≡ false = sym is ∙ (ap (λ (p : ℕ). nat_eq p q) e ∙ other) in cc
no_part s c q (inr h) is other none = let both : true ≡ false = sym (subst (λ (p : ℕ). contains allowed p ≡ true) (eqb-true (production_at s c) q is) h) ∙ none in cc

module _ (tokens : Tokens) (unit : ℕ) (tree : Tree) (tag_number : ℕ → ℕ) (is : IsUnit tokens unit tree) where
  abbrev src : Source
  src = numbered tag_number (source_of tokens tree)

  -- a declaration has no field of a structure
  pub no_field : {X : Type 0} (q c : ℕ) → is_a src p_declaration q ≡ true → IsPart src q c → is_a src p_field c ≡ true → X
  no_field q c declares child field = no_part src c p_field (part_allowed tokens unit tree tag_number is q c declares child) field refl refl

  -- and its declarators have names
  pub plain_declarator : (q c : ℕ) → is_a src p_declaration q ≡ true → IsPart src q c → is_declarator src c ≡ true → is_a src p_declarator c ≡ true
  plain_declarator q c declares child declarator = by (is_a src p_declarator c) (is_a src p_abstract c) (is_a src p_either c) refl refl declarator
    where
      own : IsAllowed src c
      own = part_allowed tokens unit tree tag_number is q c declares child

      by : (x y z : Bool) → is_a src p_abstract c ≡ y → is_a src p_either c ≡ z → (x || y || z) ≡ true → x ≡ true
      by true y z ey ez h = refl
      by false true z ey ez h = no_part src c p_abstract own ey refl refl
      by false false true ey ez h = no_part src c p_either own ez refl refl
      by false false false ey ez h = cc
