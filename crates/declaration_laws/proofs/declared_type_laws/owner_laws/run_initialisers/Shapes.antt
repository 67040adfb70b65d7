-- The parts of a declaration: before its rest stand specifiers, a declarator and a name for the assembler, and it has one rest alone.
use Rattle.std.proofs.Common.{arith, ◌≡◌, ℕ, zero, suc, nat_eq, not, Bool, true, false, ◌&&◌, ◌||◌, List, [], ◌∷◌, map, Option, Some, None, slice_get, refl, sym, ap, ◌∙◌, subst, ◌⊎◌, inl, inr}
use Rattle.std.specs.List.{list_all}
use Rattle.std.proofs.lemmas.Bool.{eqb-true}
use Rattle.c_lexer.specs.declared.Tokens.{Tokens}
use Rattle.c_lexer.specs.declared.TokenKind.{TokenKind}
use Rattle.c_grammar.specs.declared.rows.Item.TheVariants as item
use Rattle.c_grammar.specs.declared.trees.SyntaxNode.{SyntaxNode}
use Rattle.c_grammar.specs.declared.trees.Tree.{Tree}
use Rattle.c_grammar.specs.Names.{no_names}
use Rattle.c_grammar.specs.Productions.{p_unit, p_rest, p_declaration}
use Rattle.c_grammar.specs.Table.{table, row}
use Rattle.c_grammar.specs.Terminals.{contains}
use Rattle.c_grammar.specs.Tree.{makes_node}
use Rattle.c_grammar.specs.Reads.{Node, node_of, leaf}
use Rattle.c_parser.specs.Parse.{begin}
use Rattle.c_parser.specs.c_units.Units.{IsUnit}
use Rattle.c_senses.specs.Names.{source_of, numbered}
use Rattle.c_senses.specs.Tree.{Source, production_of, production_at, children_of, children_at, is_a}
use Rattle.core_node_laws.proofs.passed.parsed_tree_laws.statement_shapes.Language.{Word, IsIn, words_in, part_words, IsTaken, IsNode, Matches, Good, AllGood, all_read}

left : (a b : Bool) → (a && b) ≡ true → a ≡ true
left true b e = refl
left false b e = cc

right : (a b : Bool) → (a && b) ≡ true → b ≡ true
right true b e = e
right false b e = cc

-- no rest
abbrev free : Word → Bool
free [] = true
free (item.Token k ∷ w) = free w
free (item.Use q ∷ w) = not (nat_eq q 2) && free w
free (i ∷ w) = false

abbrev calm : List ℕ
calm = 5 ∷ 6 ∷ 19 ∷ []

-- a rest last, behind some parts
abbrev ends : Word → Bool
ends (item.Token k ∷ w) = ends w
ends (item.Use q ∷ []) = nat_eq q 2
ends (item.Use q ∷ w) = contains calm q && ends w
ends w = false

abbrev fine : Word → Bool
fine w = free w || ends w

abbrev declaration_words : List Word
declaration_words = words_in (part_words 20) (row 3)

all_fine : list_all fine declaration_words ≡ true
unfolding table row makes_node
all_fine = refl

listed_fine : (words : List Word) (w : Word) → list_all fine words ≡ true → IsIn words w → fine w ≡ true
listed_fine [] w h i = cc
listed_fine (v ∷ words) w h (zero, e) = let same : v ≡ w = cc in subst (λ (x : Word). fine x ≡ true) same (left (fine v) (list_all fine words) h)
listed_fine (v ∷ words) w h (suc k, e) = listed_fine words w (right (fine v) (list_all fine words) h) (k, e)

produced : (items : List SyntaxNode) (k : ℕ) (n : Node) → slice_get (map node_of items) k ≡ Some n → (m : SyntaxNode) × (slice_get items k ≡ Some m) × (node_of m ≡ n)
produced [] k n e = cc
produced (x ∷ items) zero n e = let same : node_of x ≡ n = cc in (x, refl, same)
produced (x ∷ items) (suc k) n e = produced items k n e

-- the rest last, behind leaves and calm parts
abbrev pub Calm : Source → ℕ → Type 0
Calm s c = (production_at s c ≡ leaf) ⊎ (contains (5 ∷ 6 ∷ 19 ∷ []) (production_at s c) ≡ true)

abbrev pub EndsIn : Source → ℕ → List ℕ → Type 0
EndsIn s r [] = ⊥
EndsIn s r (c ∷ ks) = (c ≡ r) ⊎ (Calm s c × EndsIn s r ks)

module _ (s : Source) (text : List ℕ) where
  abbrev Match : Word → List ℕ → Type 0
  Match w ks = Matches text s.tokens (map node_of s.nodes) w ks

  production_is : (c q : ℕ) → IsNode text s.tokens q (map node_of s.nodes) c → production_at s c ≡ q
  production_is c q h = let m = produced s.nodes c h.0 h.1 in ap production_of m.1 ∙ (ap (λ (n : Node). n.production) m.2 ∙ h.2)

  leaf_is : (c : ℕ) (k : TokenKind) → IsTaken text s.tokens k (map node_of s.nodes) c → production_at s c ≡ leaf
  leaf_is c k h = let m = produced s.nodes c h.0 h.1 in ap production_of m.1 ∙ (ap (λ (n : Node). n.production) m.2 ∙ h.2)

  rested : (c q : ℕ) → production_at s c ≡ q → is_a s p_rest c ≡ true → q ≡ 2
  rested c q is h = sym is ∙ eqb-true (production_at s c) p_rest h

  differs : (q : ℕ) → q ≡ 2 → not (nat_eq q 2) ≡ true → ⊥
  differs q e h = let two : not (nat_eq q 2) ≡ false = ap (λ (x : ℕ). not (nat_eq x 2)) e in let both : true ≡ false = sym h ∙ two in cc

  leaf_no : (x c : ℕ) (t : TokenKind) → x ≡ c → IsTaken text s.tokens t (map node_of s.nodes) x → is_a s p_rest c ≡ true → ⊥
  leaf_no x c t same h is = let two = rested c leaf (subst (λ (y : ℕ). production_at s y ≡ leaf) same (leaf_is x t h)) is in absurd (omega (arith, two))

  no_rest : (w : Word) (ks : List ℕ) (k c : ℕ) → free w ≡ true → Match w ks → slice_get ks k ≡ Some c → is_a s p_rest c ≡ true → ⊥
  no_rest [] [] k c f h e is = cc
  no_rest [] (x ∷ ks) k c f h e is = absurd h
  no_rest (item.Token t ∷ w) [] k c f h e is = absurd h
  no_rest (item.Token t ∷ w) (x ∷ ks) zero c f h e is = leaf_no x c t (cc) h.0 is
  no_rest (item.Token t ∷ w) (x ∷ ks) (suc k) c f h e is = no_rest w ks k c f h.1 e is
  no_rest (item.Use q ∷ w) [] k c f h e is = absurd h
  no_rest (item.Use q ∷ w) (x ∷ ks) zero c f h e is =
      let same : x ≡ c = cc in
      differs q (rested c q (subst (λ (y : ℕ). production_at s y ≡ q) same (production_is x q h.0)) is) (left (not (nat_eq q 2)) (free w) f)
  no_rest (item.Use q ∷ w) (x ∷ ks) (suc k) c f h e is = no_rest w ks k c (right (not (nat_eq q 2)) (free w) f) h.1 e is
  no_rest (item.Repeat q ∷ w) ks k c f h e is = cc
  no_rest (item.Choice a b ∷ w) ks k c f h e is = cc
  no_rest (item.Scope n ∷ w) ks k c f h e is = cc

  ends_so : (w : Word) (ks : List ℕ) (k c : ℕ) → ends w ≡ true → Match w ks → slice_get ks k ≡ Some c → is_a s p_rest c ≡ true → EndsIn s c ks
  ends_so [] ks k c f h e is = cc
  ends_so (item.Token t ∷ w) [] k c f h e is = absurd h
  ends_so (item.Token t ∷ w) (x ∷ ks) zero c f h e is = inl (cc)
  ends_so (item.Token t ∷ w) (x ∷ ks) (suc k) c f h e is = inr (inl (leaf_is x t h.0), ends_so w ks k c f h.1 e is)
  ends_so (item.Use q ∷ w) [] k c f h e is = absurd h
  ends_so (item.Use q ∷ w) (x ∷ ks) zero c f h e is = inl (cc)
  ends_so (item.Use q ∷ []) (x ∷ []) (suc k) c f h e is = cc
  ends_so (item.Use q ∷ []) (x ∷ y ∷ ks) (suc k) c f h e is = absurd h.1
  ends_so (item.Use q ∷ i ∷ w) (x ∷ ks) (suc k) c f h e is =
      inr (inr (subst (λ (y : ℕ). contains calm y ≡ true) (sym (production_is x q h.0)) (left (contains calm q) (ends (i ∷ w)) f)), ends_so (i ∷ w) ks k c (right (contains calm q) (ends (i ∷ w)) f) h.1 e is)
  ends_so (item.Repeat q ∷ w) ks k c f h e is = cc
  ends_so (item.Choice a b ∷ w) ks k c f h e is = cc
  ends_so (item.Scope n ∷ w) ks k c f h e is = cc

  found : (w : Word) (ks : List ℕ) (k c : ℕ) → fine w ≡ true → Match w ks → slice_get ks k ≡ Some c → is_a s p_rest c ≡ true → EndsIn s c ks
  found w ks k c fits h e is = by (free w) refl fits
    where
      by : (b : Bool) → free w ≡ b → (b || ends w) ≡ true → EndsIn s c ks
      by true f fits = absurd (no_rest w ks k c f h e is)
      by false f fits = ends_so w ks k c fits h e is

stands : (o : Option SyntaxNode) (p : ℕ) → production_of o ≡ p → (p ≡ leaf → ⊥) → (n : SyntaxNode) × (o ≡ Some n)
stands None p e never = absurd (never (sym e))
stands (Some n) p e never = (n, refl)

no_number : leaf ≡ 3 → ⊥
no_number e = absurd (omega (arith, e))

record Shaped (s : Source) (text : List ℕ) (i : ℕ) : Type 0 where
  word : Word
  is_fine : fine word ≡ true
  match : Matches text s.tokens (map node_of s.nodes) word (children_at s i)

shaped : (tokens : Tokens) (unit : ℕ) (tree : Tree) (tag_number : ℕ → ℕ) → IsUnit tokens unit tree → (i : ℕ) → is_a (numbered tag_number (source_of tokens tree)) p_declaration i ≡ true → Shaped (numbered tag_number (source_of tokens tree)) tokens.text.now i
unfolding source_of
shaped tokens unit tree tag_number is i h =
    let read = is.0 in
    let items = tree.nodes.items in
    let text = tokens.text.now in
    let list = tokens.list.items in
    let good : AllGood text list 3 20 (map node_of items) (map node_of items) = subst (λ (l : List Node). AllGood text list 3 20 l l) read.2 (all_read text list 3 20 no_number p_unit 0 (begin 0 no_names []) read.0 refl read.1) in
    let p = eqb-true (production_of (slice_get items i)) 3 h in
    let n = stands (slice_get items i) 3 p (λ e. no_number (sym e)) in
    let own = at (map node_of items) items i n.0 good n.1 (ap production_of (sym n.1) ∙ p) in
    record {
      word = own.0;
      is_fine = listed_fine declaration_words own.0 all_fine own.1;
      match = subst (λ (o : Option SyntaxNode). Matches text list (map node_of items) own.0 (children_of o)) (sym n.1) own.2;
    }
  where
    at : (nodes : List Node) (some : List SyntaxNode) (i : ℕ) (n : SyntaxNode) → AllGood tokens.text.now tokens.list.items 3 20 nodes (map node_of some) → slice_get some i ≡ Some n → Good tokens.text.now tokens.list.items 3 20 nodes (node_of n)
    at nodes [] i n g e = cc
    at nodes (m ∷ some) zero n g e = let same : m ≡ n = cc in subst (λ (x : SyntaxNode). Good tokens.text.now tokens.list.items 3 20 nodes (node_of x)) same g.0
    at nodes (m ∷ some) (suc i) n g e = at nodes some i n g.1 e

-- the rest of a declaration stands last, behind calm parts
pub rest_last : (tokens : Tokens) (unit : ℕ) (tree : Tree) (tag_number : ℕ → ℕ) → IsUnit tokens unit tree → (d k r : ℕ) → is_a (numbered tag_number (source_of tokens tree)) p_declaration d ≡ true
    → slice_get (children_at (numbered tag_number (source_of tokens tree)) d) k ≡ Some r → is_a (numbered tag_number (source_of tokens tree)) p_rest r ≡ true
    → EndsIn (numbered tag_number (source_of tokens tree)) r (children_at (numbered tag_number (source_of tokens tree)) d)
rest_last tokens unit tree tag_number is d k r declares e rests =
    let s = numbered tag_number (source_of tokens tree) in
    let own = shaped tokens unit tree tag_number is d declares in
    found s tokens.text.now own.word (children_at s d) k r own.is_fine own.match e rests
