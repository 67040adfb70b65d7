-- What the nodes of a parsed tree are parts of.
use Rattle.std.proofs.Common.{◌≡◌, ℕ, zero, suc, ◌||◌, nat_eq, Bool, true, false, cond, List, [], ◌∷◌, map, Some, slice_get, refl, sym, ap, subst}
use Rattle.std.proofs.lemmas.Bool.{eqb-true}
use Rattle.c_lexer.specs.declared.Tokens.{Tokens}
use Rattle.c_grammar.specs.declared.trees.SyntaxNode.{SyntaxNode}
use Rattle.c_grammar.specs.declared.trees.Tree.{Tree}
use Rattle.c_grammar.specs.Names.{no_names}
use Rattle.c_grammar.specs.Productions.{p_unit}
use Rattle.c_grammar.specs.Terminals.{contains}
use Rattle.c_grammar.specs.Reads.{Node, node_of}
use Rattle.c_parser.specs.Parse.{begin}
use Rattle.parsed_tree_laws.specs.placed_laws.PassedOn.{IsUnit}
use Rattle.parsed_tree_laws.specs.placed_laws.PassedOn.{source_of}
use Rattle.parsed_tree_laws.specs.placed_laws.PassedOn.{production_of, children_of}
use Rattle.parsed_tree_laws.proofs.placed_laws.Adding.{All}
use Rattle.parsed_tree_laws.specs.nesting_laws.Nested.{UnitsNest}
use Rattle.parsed_tree_laws.proofs.nesting_laws.Rows.{barred, free}
use Rattle.parsed_tree_laws.proofs.nesting_laws.Parts.{passes, AllGood, all_read}

produced : (items : List SyntaxNode) (k : ℕ) (m : Node) → slice_get (map node_of items) k ≡ Some m → production_of (slice_get items k) ≡ m.production
produced [] k m e = cc
produced (x ∷ items) zero m e = let same : node_of x ≡ m = cc in ap (λ (n : Node). n.production) same
produced (x ∷ items) (suc k) m e = produced items k m e

passing : (p : ℕ) (items : List SyntaxNode) (ks : List ℕ) (c : ℕ) → All (passes p) (map node_of items) ks → contains ks c ≡ true → free (barred p) (production_of (slice_get items c)) ≡ true
passing p items [] c h e = cc
passing p items (k ∷ ks) c h e = by (nat_eq k c) refl e (λ f. passing p items ks c h.1 f)
  where
    by : (b : Bool) → nat_eq k c ≡ b → (b || contains ks c) ≡ true → (contains ks c ≡ true → free (barred p) (production_of (slice_get items c)) ≡ true) → free (barred p) (production_of (slice_get items c)) ≡ true
    by true same f later =
        subst (λ (x : ℕ). free (barred p) (production_of (slice_get items x)) ≡ true) (eqb-true k c same) (subst (λ (x : ℕ). free (barred p) x ≡ true) (sym (produced items k h.0.0 h.0.1)) h.0.2)
    by false other f later = later f

-- what a part of a node isn't
part_free : (all items : List SyntaxNode) (i c : ℕ) → AllGood (map node_of all) (map node_of items) → contains (children_of (slice_get items i)) c ≡ true → free (barred (production_of (slice_get items i))) (production_of (slice_get all c)) ≡ true
part_free all [] i c g e = cc
part_free all (n ∷ items) zero c g e = passing n.production all n.children.items c g.0 e
part_free all (n ∷ items) (suc i) c g e = part_free all items i c g.1 e

abbrev Frees : ℕ → ℕ → Type 0
Frees p q = free (barred p) q ≡ true

no_unit : (p : ℕ) → Frees p 0 → ⊥
no_unit p h = by (nat_eq p 0) (nat_eq p 1) (nat_eq p 3) (nat_eq p 29) (nat_eq p 30) h
  where
    by : (a b c d e : Bool) → free (cond a (0 ∷ 2 ∷ 3 ∷ 29 ∷ 30 ∷ []) (cond b (0 ∷ 1 ∷ 3 ∷ 30 ∷ []) (cond c (0 ∷ 1 ∷ 3 ∷ 29 ∷ 30 ∷ []) (cond d (0 ∷ 1 ∷ 2 ∷ 29 ∷ []) (cond e (0 ∷ 1 ∷ 2 ∷ []) (0 ∷ 1 ∷ 2 ∷ 3 ∷ 29 ∷ 30 ∷ [])))))) 0 ≡ true → ⊥
    by true b c d e h = cc
    by false true c d e h = cc
    by false false true d e h = cc
    by false false false true e h = cc
    by false false false false true h = cc
    by false false false false false h = cc

external_in : (p : ℕ) → Frees p 1 → nat_eq p 0 ≡ true
external_in p h = by (nat_eq p 0) (nat_eq p 1) (nat_eq p 3) (nat_eq p 29) (nat_eq p 30) h
  where
    by : (a b c d e : Bool) → free (cond a (0 ∷ 2 ∷ 3 ∷ 29 ∷ 30 ∷ []) (cond b (0 ∷ 1 ∷ 3 ∷ 30 ∷ []) (cond c (0 ∷ 1 ∷ 3 ∷ 29 ∷ 30 ∷ []) (cond d (0 ∷ 1 ∷ 2 ∷ 29 ∷ []) (cond e (0 ∷ 1 ∷ 2 ∷ []) (0 ∷ 1 ∷ 2 ∷ 3 ∷ 29 ∷ 30 ∷ [])))))) 1 ≡ true → a ≡ true
    by true b c d e h = refl
    by false true c d e h = cc
    by false false true d e h = cc
    by false false false true e h = cc
    by false false false false true h = cc
    by false false false false false h = cc

rest_in : (p : ℕ) → Frees p 2 → (nat_eq p 1 || nat_eq p 3) ≡ true
rest_in p h = by (nat_eq p 0) (nat_eq p 1) (nat_eq p 3) (nat_eq p 29) (nat_eq p 30) h
  where
    by : (a b c d e : Bool) → free (cond a (0 ∷ 2 ∷ 3 ∷ 29 ∷ 30 ∷ []) (cond b (0 ∷ 1 ∷ 3 ∷ 30 ∷ []) (cond c (0 ∷ 1 ∷ 3 ∷ 29 ∷ 30 ∷ []) (cond d (0 ∷ 1 ∷ 2 ∷ 29 ∷ []) (cond e (0 ∷ 1 ∷ 2 ∷ []) (0 ∷ 1 ∷ 2 ∷ 3 ∷ 29 ∷ 30 ∷ [])))))) 2 ≡ true → (b || c) ≡ true
    by true b c d e h = cc
    by false true c d e h = refl
    by false false true d e h = refl
    by false false false true e h = cc
    by false false false false true h = cc
    by false false false false false h = cc

declaration_in : (p : ℕ) → Frees p 3 → (nat_eq p 29 || nat_eq p 30) ≡ true
declaration_in p h = by (nat_eq p 0) (nat_eq p 1) (nat_eq p 3) (nat_eq p 29) (nat_eq p 30) h
  where
    by : (a b c d e : Bool) → free (cond a (0 ∷ 2 ∷ 3 ∷ 29 ∷ 30 ∷ []) (cond b (0 ∷ 1 ∷ 3 ∷ 30 ∷ []) (cond c (0 ∷ 1 ∷ 3 ∷ 29 ∷ 30 ∷ []) (cond d (0 ∷ 1 ∷ 2 ∷ 29 ∷ []) (cond e (0 ∷ 1 ∷ 2 ∷ []) (0 ∷ 1 ∷ 2 ∷ 3 ∷ 29 ∷ 30 ∷ [])))))) 3 ≡ true → (d || e) ≡ true
    by true b c d e h = cc
    by false true c d e h = cc
    by false false true d e h = cc
    by false false false true e h = refl
    by false false false false true h = refl
    by false false false false false h = cc

block_in : (p : ℕ) → Frees p 29 → (nat_eq p 1 || nat_eq p 30) ≡ true
block_in p h = by (nat_eq p 0) (nat_eq p 1) (nat_eq p 3) (nat_eq p 29) (nat_eq p 30) h
  where
    by : (a b c d e : Bool) → free (cond a (0 ∷ 2 ∷ 3 ∷ 29 ∷ 30 ∷ []) (cond b (0 ∷ 1 ∷ 3 ∷ 30 ∷ []) (cond c (0 ∷ 1 ∷ 3 ∷ 29 ∷ 30 ∷ []) (cond d (0 ∷ 1 ∷ 2 ∷ 29 ∷ []) (cond e (0 ∷ 1 ∷ 2 ∷ []) (0 ∷ 1 ∷ 2 ∷ 3 ∷ 29 ∷ 30 ∷ [])))))) 29 ≡ true → (b || e) ≡ true
    by true b c d e h = cc
    by false true c d e h = refl
    by false false true d e h = cc
    by false false false true e h = cc
    by false false false false true h = refl
    by false false false false false h = cc

statement_in : (p : ℕ) → Frees p 30 → (nat_eq p 29 || nat_eq p 30) ≡ true
statement_in p h = by (nat_eq p 0) (nat_eq p 1) (nat_eq p 3) (nat_eq p 29) (nat_eq p 30) h
  where
    by : (a b c d e : Bool) → free (cond a (0 ∷ 2 ∷ 3 ∷ 29 ∷ 30 ∷ []) (cond b (0 ∷ 1 ∷ 3 ∷ 30 ∷ []) (cond c (0 ∷ 1 ∷ 3 ∷ 29 ∷ 30 ∷ []) (cond d (0 ∷ 1 ∷ 2 ∷ 29 ∷ []) (cond e (0 ∷ 1 ∷ 2 ∷ []) (0 ∷ 1 ∷ 2 ∷ 3 ∷ 29 ∷ 30 ∷ [])))))) 30 ≡ true → (d || e) ≡ true
    by true b c d e h = cc
    by false true c d e h = cc
    by false false true d e h = cc
    by false false false true e h = refl
    by false false false false true h = refl
    by false false false false false h = cc

is_no : (p q : ℕ) → (p ≡ q → ⊥) → nat_eq p q ≡ false
is_no p q never = by (nat_eq p q) refl
  where
    by : (b : Bool) → nat_eq p q ≡ b → b ≡ false
    by true e = absurd (never (eqb-true p q e))
    by false e = refl

all_good : (tokens : Tokens) (unit : ℕ) (tree : Tree) → IsUnit tokens unit tree → AllGood (map node_of tree.nodes.items) (map node_of tree.nodes.items)
all_good tokens unit tree is =
    let read = is.0 in
    subst (λ (l : List Node). AllGood l l) read.2 (all_read tokens.text.now tokens.list.items p_unit 0 (begin 0 no_names []) read.0 refl read.1)

pub units_nest : UnitsNest
unfolding source_of
units_nest tokens unit tree tag_number is =
    let items = tree.nodes.items in
    let own : (i c : ℕ) → contains (children_of (slice_get items i)) c ≡ true → Frees (production_of (slice_get items i)) (production_of (slice_get items c)) = λ i c h. part_free items items i c (all_good tokens unit tree is) h in
    let at : (i c q : ℕ) → contains (children_of (slice_get items i)) c ≡ true → nat_eq (production_of (slice_get items c)) q ≡ true → Frees (production_of (slice_get items i)) q =
    λ i c q h e. subst (λ (x : ℕ). Frees (production_of (slice_get items i)) x) (eqb-true (production_of (slice_get items c)) q e) (own i c h) in
    record {
      units = λ i c h. is_no (production_of (slice_get items c)) 0 (λ e. no_unit (production_of (slice_get items i)) (subst (λ (x : ℕ). Frees (production_of (slice_get items i)) x) e (own i c h)));
      externals = λ i c h e. external_in (production_of (slice_get items i)) (at i c 1 h e);
      rests = λ i c h e. rest_in (production_of (slice_get items i)) (at i c 2 h e);
      declarations = λ i c h e. declaration_in (production_of (slice_get items i)) (at i c 3 h e);
      blocks = λ i c h e. block_in (production_of (slice_get items i)) (at i c 29 h e);
      statements = λ i c h e. statement_in (production_of (slice_get items i)) (at i c 30 h e);
    }
