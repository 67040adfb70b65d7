-- What the resolution of names reads of a tree, and what the rows read of it.
use Rattle.std.proofs.Common.{eq-eqb, ◌||◌, [], ◌∷◌, arith, ◌≡◌, ◌<◌, ◌≤◌, ◌+◌, ℕ, zero, suc, ◌&&◌, ◌==◌, nat_eq, Bool, true, false, List, map, Option, Some, None, length, slice_get, refl, sym, ap, ◌∙◌, subst}
use Rattle.std.specs.Prelude.{option_map, if◌then◌else◌}
use Rattle.std.proofs.lemmas.Bool.{eqb-true, eqb-false}
use Rattle.std.proofs.lemmas.Option.{slice_get-map, slice_get_within}
use Rattle.c_lexer.specs.declared.TokenKind.{TokenKind}
use Rattle.c_lexer.specs.declared.TokenKind.TheVariants.{End}
use Rattle.c_grammar.specs.declared.trees.SyntaxNode.{SyntaxNode}
use Rattle.c_grammar.specs.Terminals.{contains}
use Rattle.c_grammar.specs.Reads.{Node, node_of, leaf}
use Rattle.c_mentions.specs.Syntax as syntax
use Rattle.c_senses.specs.Tree.{Source, production_of, children_of, production_at, children_at, is_a, is_name, is_identifier, kind_of_token, token_of, first_where, numbers_from, all_nodes, parent_of}
use Rattle.core_node_laws.proofs.count_laws.passed.parsed_tree_laws.nesting_laws.PassedOn.{Grown, found_where}

pub some_same : {A : Type 0} → {x y : A} → ◌≡◌ {A = Option A} (Some x) (Some y) → x ≡ y
some_same e = cc

pub none_some : {A : Type 0} → {x : A} → ◌≡◌ {A = Option A} None (Some x) → ⊥
none_some e = cc

pub no_both : (b : Bool) → b ≡ true → b ≡ false → ⊥
no_both b e f = let both : true ≡ false = sym e ∙ f in cc

-- a number of a list is in it
pub list_in : (list : List ℕ) (k i : ℕ) → slice_get list k ≡ Some i → contains list i ≡ true
list_in [] k i h = cc
list_in (x ∷ list) zero i h = let same : x ≡ i = cc in ap (λ (b : Bool). b || contains list i) (eq-eqb x i same)
list_in (x ∷ list) (suc k) i h = by (nat_eq x i) (list_in list k i h)
  where
    by : (b : Bool) → contains list i ≡ true → (b || contains list i) ≡ true
    by true e = refl
    by false e = e

-- a number that passes, from some number on, is found if no other one passes
found_first : (test : ℕ → Bool) (from count p : ℕ) → from ≤ p → p < from + count → test p ≡ true → ((q : ℕ) → test q ≡ true → q ≡ p) → first_where test (numbers_from from count) ≡ Some p
found_first test from zero p low high is only = absurd (omega (arith, low, high))
found_first test from (suc count) p low high is only = by (test from) refl (λ less. found_first test (suc from) count p less (omega (arith, high)) is only)
  where
    apart : (b : Bool) → nat_eq from p ≡ b → test from ≡ false → suc from ≤ p
    apart true same e = let none : false ≡ true = sym e ∙ (ap test (eqb-true from p same) ∙ is) in cc
    apart false other e = let differ = eqb-false from p other in omega (arith, low, differ)

    by : (b : Bool) → test from ≡ b → (suc from ≤ p → first_where test (numbers_from (suc from) count) ≡ Some p) → (if b then Some from else first_where test (numbers_from (suc from) count)) ≡ Some p
    by true e later = ap Some (only from e)
    by false e later = later (apart (nat_eq from p) refl e)

module _ (s : Source) where
  abbrev pub nodes : List Node
  nodes = map node_of s.nodes

  -- the node of a number, as both see it
  pub production_is : (p i : ℕ) → nat_eq 48 p ≡ false → (syntax.production_at nodes i == p) ≡ true → is_a s p i ≡ true
  production_is p i other h = by (slice_get s.nodes i) (subst (λ (o : Option Node). (syntax.production_of o == p) ≡ true) (slice_get-map node_of s.nodes i) h)
    where
      by : (o : Option SyntaxNode) → (syntax.production_of (option_map node_of o) == p) ≡ true → (production_of o == p) ≡ true
      by None h = absurd (no_both (nat_eq 48 p) h other)
      by (Some n) h = h

  pub production_same : (p i : ℕ) → nat_eq leaf p ≡ false → is_a s p i ≡ true → syntax.production_at nodes i ≡ p
  production_same p i other h = ap syntax.production_of (slice_get-map node_of s.nodes i) ∙ by (slice_get s.nodes i) h
    where
      by : (o : Option SyntaxNode) → (production_of o == p) ≡ true → syntax.production_of (option_map node_of o) ≡ p
      by None h = absurd (no_both (nat_eq leaf p) h other)
      by (Some n) h = eqb-true n.production p h

  pub children_are : (i : ℕ) → syntax.children_at nodes i ≡ children_at s i
  children_are i = ap syntax.children_of (slice_get-map node_of s.nodes i) ∙ by (slice_get s.nodes i)
    where
      by : (o : Option SyntaxNode) → syntax.children_of (option_map node_of o) ≡ children_of o
      by None = refl
      by (Some n) = refl

  -- a child of a node
  pub child_is : (p i : ℕ) (n : Node) → slice_get nodes p ≡ Some n → contains n.children i ≡ true → contains (children_at s p) i ≡ true
  child_is p i n at h = subst (λ (l : List ℕ). contains l i ≡ true) (sym (ap syntax.children_of at) ∙ children_are p) h

  pub node_has : (p i : ℕ) → contains (children_at s p) i ≡ true → (n : Node) × (slice_get nodes p ≡ Some n) × (contains n.children i ≡ true)
  node_has p i h = by (slice_get s.nodes p) h (slice_get-map node_of s.nodes p)
    where
      by : (o : Option SyntaxNode) → contains (children_of o) i ≡ true → slice_get nodes p ≡ option_map node_of o → (n : Node) × (slice_get nodes p ≡ Some n) × (contains n.children i ≡ true)
      by None h e = cc
      by (Some n) h e = (node_of n, e, h)

  pub node_within : (p i : ℕ) → is_a s p i ≡ true → nat_eq leaf p ≡ false → i < length s.nodes
  node_within p i h other = by (slice_get s.nodes i) refl h
    where
      by : (o : Option SyntaxNode) → slice_get s.nodes i ≡ o → (production_of o == p) ≡ true → i < length s.nodes
      by None e h = absurd (no_both (nat_eq leaf p) h other)
      by (Some n) e h = slice_get_within s.nodes i n e

  abbrev named : Option Node → Bool
  named o = syntax.is_identifier (if syntax.production_of o == leaf then syntax.token_kind s.tokens (syntax.token_of o) else End)

  -- a leaf of an identifier
  pub name_is : (r : ℕ) → syntax.is_name s.tokens nodes r ≡ true → is_name s r ≡ true
  name_is r h = by (slice_get s.nodes r) (subst (λ (o : Option Node). named o ≡ true) (slice_get-map node_of s.nodes r) h)
    where
      seen : (b : Bool) (k : TokenKind) → is_identifier (if b then k else End) ≡ true → (b && is_identifier k) ≡ true
      seen true k h = h
      seen false k h = cc

      by : (o : Option SyntaxNode) → named (option_map node_of o) ≡ true → ((production_of o == leaf) && is_identifier (kind_of_token (token_of s o))) ≡ true
      by None h = cc
      by (Some n) h = seen (n.production == leaf) (syntax.token_kind s.tokens n.token) h

  -- a node is of one production
  pub apart : (i a b : ℕ) → is_a s a i ≡ true → nat_eq a b ≡ false → is_a s b i ≡ false
  apart i a b h differ = ap (λ (q : ℕ). nat_eq q b) (eqb-true (production_at s i) a h) ∙ differ

  module _ (grown : Grown s) where
    pub parent_is : (p c : ℕ) → contains (children_at s p) c ≡ true → parent_of s c ≡ Some p
    parent_is p c h =
        let inside : p < length s.nodes = grown.within p c h in
        found_first (λ q. contains (children_at s q) c) 0 (length s.nodes) p (omega arith) (omega (arith, inside)) h (λ q e. grown.once q p c e h)

    pub parent_holds : (p c : ℕ) → parent_of s c ≡ Some p → contains (children_at s p) c ≡ true
    parent_holds p c e = found_where (λ (q : ℕ). contains (children_at s q) c) (all_nodes s) p e
