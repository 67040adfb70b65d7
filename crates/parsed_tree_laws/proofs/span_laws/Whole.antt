-- The spans of the nodes of a parsed unit.
use Rattle.std.proofs.Common.{arith, ◌≡◌, ◌<◌, ◌≤◌, ◌+◌, ℕ, zero, suc, nat_eq, not, Bool, true, false, ◌||◌, List, [], ◌∷◌, map, take, Some, length, slice_get, refl, sym, ap, ◌∙◌, subst}
use Rattle.std.proofs.lemmas.Bool.{eqb-true}
use Rattle.std.specs.Prelude.{nat_le, if◌then◌else◌}
use Rattle.c_lexer.specs.declared.Tokens.{Tokens}
use Rattle.c_grammar.specs.declared.trees.SyntaxNode.{SyntaxNode}
use Rattle.c_grammar.specs.declared.trees.Tree.{Tree}
use Rattle.c_grammar.specs.Names.{no_names}
use Rattle.c_grammar.specs.Productions.{p_unit, p_rest, p_asm_name, p_declarator, p_init, p_items, p_post, p_primary, p_unary, p_cast}
use Rattle.c_grammar.specs.Terminals.{contains}
use Rattle.c_grammar.specs.Tree.{makes_node}
use Rattle.c_grammar.specs.Reads.{Node, leaf, node_of}
use Rattle.c_parser.specs.Parse.{begin}
use Rattle.c_parser.specs.c_units.Units.{IsUnit}
use Rattle.c_senses.specs.Names.{source_of, numbered}
use Rattle.c_senses.specs.Tree.{Source, production_of, children_of, production_at, children_at, is_a, is_leaf}
use Rattle.parsed_tree_laws.specs.span_laws.Spans.{Spans, over, Runs, no_more, one_more, weights, Spanned, UnitsAreSpanned}
use Rattle.parsed_tree_laws.proofs.span_laws.Table.{is_post, weight, ok, none_post, bringing, beginning, rest_rows, is_rest_node, all_rest, is_list, lists_in, left, right}
use Rattle.parsed_tree_laws.proofs.span_laws.Steps as steps
use Rattle.parsed_tree_laws.proofs.span_laws.Steps.{AllFacts, FactOf, SpansIn, RunsIn, Are, Starts}
use Rattle.parsed_tree_laws.proofs.span_laws.Reading.{all_read}

produced : (items : List SyntaxNode) (k : ℕ) (m : Node) → slice_get (map node_of items) k ≡ Some m → production_of (slice_get items k) ≡ m.production
produced [] k m e = cc
produced (x ∷ items) zero m e = let same : node_of x ≡ m = cc in ap (λ (n : Node). n.production) same
produced (x ∷ items) (suc k) m e = produced items k m e

kids : (items : List SyntaxNode) (k : ℕ) (m : Node) → slice_get (map node_of items) k ≡ Some m → children_of (slice_get items k) ≡ m.children
kids [] k m e = cc
kids (x ∷ items) zero m e = let same : node_of x ≡ m = cc in ap (λ (n : Node). n.children) same
kids (x ∷ items) (suc k) m e = kids items k m e

there : (items : List SyntaxNode) (k : ℕ) → k < length items → (m : Node) × (slice_get (map node_of items) k ≡ Some m)
there [] k lt = absurd (omega (arith, lt))
there (x ∷ items) zero lt = (node_of x, refl)
there (x ∷ items) (suc k) lt = there items k (omega (arith, lt))

same_length : (items : List SyntaxNode) → length (map node_of items) ≡ length items
same_length [] = refl
same_length (x ∷ items) = ap suc (same_length items)

-- a node with a child stands there
with_child : (items : List SyntaxNode) (i k c : ℕ) → slice_get (children_of (slice_get items i)) k ≡ Some c → (m : Node) × (slice_get (map node_of items) i ≡ Some m)
with_child [] i k c e = cc
with_child (x ∷ items) zero k c e = (node_of x, refl)
with_child (x ∷ items) (suc i) k c e = with_child items i k c e

-- of those that bring such parts, two are nodes
two_only : (p : ℕ) → contains bringing p ≡ true → (nat_eq p leaf || makes_node p) ≡ true → (nat_eq p 45 || nat_eq p 44) ≡ true
unfolding makes_node
two_only p c n = grind (arith, c, n)

one_if : (b : Bool) → b ≡ true → 1 ≤ (if b then 1 else 0)
one_if true e = omega arith
one_if false e = cc

some_list : (ps : List ℕ) (k p : ℕ) → slice_get ps k ≡ Some p → is_list p ≡ true → 1 ≤ lists_in ps
some_list [] k p e a = cc
some_list (x ∷ ps) zero p e a =
    let same : x ≡ p = cc in
    let here = one_if (is_list x) (ap is_list same ∙ a) in
    omega (arith, here)
some_list (x ∷ ps) (suc k) p e a = let h = some_list ps k p e a in omega (arith, h)

module _ (s : Source) (all : AllFacts (map node_of s.nodes)) where
  mutual
    spans_of : (low i : ℕ) → SpansIn (map node_of s.nodes) low i → Spans s low i
    spans_of low i (steps.over {m = m} e runs) = over (subst (λ (l : List ℕ). Runs s low l i) (sym (kids s.nodes i m e)) (runs_of low m.children i runs))

    runs_of : (low : ℕ) (list : List ℕ) (high : ℕ) → RunsIn (map node_of s.nodes) low list high → Runs s low list high
    runs_of low list high steps.no_more = no_more
    runs_of low list high (steps.one_more {c = c} {rest = rest} span runs) = one_more (spans_of low c span) (runs_of (suc c) rest high runs)

  each_spans : (i : ℕ) → i < length s.nodes → (low : ℕ) × Spans s low i
  each_spans i lt =
      let n = there s.nodes i lt in
      let f = all i n.0 n.1 in
      (f.low, spans_of f.low i (steps.over {m = n.0} n.1 f.runs))

  weight_is : (c p : ℕ) → steps.IsOf (map node_of s.nodes) c p → (if is_leaf s c then 1 else 2) ≡ weight p
  weight_is c p h = ap (λ (q : ℕ). if nat_eq q leaf then 1 else 2) (produced s.nodes c h.0 h.1 ∙ h.2)

  so_much : (z : ℕ) (xs ps : List ℕ) (k c : ℕ) → Are (map node_of s.nodes) xs ps → ok z ps ≡ true → slice_get xs k ≡ Some c → is_a s p_post c ≡ true → 2 ≤ z + weights s (take k xs)
  so_much z [] [] k c are good e is = cc
  so_much z [] (p ∷ ps) k c are good e is = absurd are
  so_much z (x ∷ xs) [] k c are good e is = absurd are
  so_much z (x ∷ xs) (p ∷ ps) zero c are good e is =
      let same : x ≡ c = cc in
      let post : is_post p ≡ true = ap is_post (sym (ap (production_at s) (sym same) ∙ (produced s.nodes x are.0.0 are.0.1 ∙ are.0.2))) ∙ is in
      let two = must (is_post p) (nat_le 2 z) post (left (not (is_post p) || nat_le 2 z) (ok (z + weight p) ps) good) in
      grind (arith, two)
    where
      must : (a b : Bool) → a ≡ true → (not a || b) ≡ true → b ≡ true
      must true b h k = k
      must false b h k = cc
  so_much z (x ∷ xs) (p ∷ ps) (suc k) c are good e is =
      let later = so_much (z + weight p) xs ps k c are.1 (right (not (is_post p) || nat_le 2 z) (ok (z + weight p) ps) good) e is in
      let own = weight_is x p are.0 in
      omega (arith, later, own)

  no_post : (xs ps : List ℕ) (k c : ℕ) → Are (map node_of s.nodes) xs ps → none_post ps ≡ true → slice_get xs k ≡ Some c → is_a s p_post c ≡ true → ⊥
  no_post [] [] k c are good e is = cc
  no_post [] (p ∷ ps) k c are good e is = are
  no_post (x ∷ xs) [] k c are good e is = are
  no_post (x ∷ xs) (p ∷ ps) zero c are good e is =
      let same : x ≡ c = cc in
      let post : is_post p ≡ true = ap is_post (sym (ap (production_at s) (sym same) ∙ (produced s.nodes x are.0.0 are.0.1 ∙ are.0.2))) ∙ is in
      let no = left (not (is_post p)) (none_post ps) good in
      let never : true ≡ false = sym no ∙ ap not post in
      cc
  no_post (x ∷ xs) (p ∷ ps) (suc k) c are good e is = no_post xs ps k c are.1 (right (not (is_post p)) (none_post ps) good) e is

  behind : (i k c : ℕ) → slice_get (children_at s i) k ≡ Some c → is_a s p_post c ≡ true → 2 ≤ weights s (take k (children_at s i))
  behind i k c e is =
      let n = with_child s.nodes i k c e in
      let f = all i n.0 n.1 in
      let own = kids s.nodes i n.0 n.1 in
      let h = so_much 0 (children_at s i) f.ps k c (subst (λ (l : List ℕ). Are (map node_of s.nodes) l f.ps) (sym own) f.are) f.posts e is in
      omega (arith, h)

  parents : (i k c : ℕ) → slice_get (children_at s i) k ≡ Some c → is_a s p_post c ≡ true → (is_a s p_unary i || is_a s p_cast i) ≡ true
  parents i k c e is =
      let n = with_child s.nodes i k c e in
      let f = all i n.0 n.1 in
      let own = kids s.nodes i n.0 n.1 in
      let are = subst (λ (l : List ℕ). Are (map node_of s.nodes) l f.ps) (sym own) f.are in
      let some = by (contains bringing n.0.production) refl (λ none. no_post (children_at s i) f.ps k c are (f.none_in none) e is) in
      subst (λ (p : ℕ). (nat_eq p 45 || nat_eq p 44) ≡ true) (sym (produced s.nodes i n.0 n.1)) (two_only n.0.production some f.node)
    where
      by : (b : Bool) → contains bringing (with_child s.nodes i k c e).0.production ≡ b → (contains bringing (with_child s.nodes i k c e).0.production ≡ false → ⊥) → b ≡ true
      by true h none = refl
      by false h none = absurd (none h)

  opens : (i first : ℕ) (rest : List ℕ) (p : ℕ) → is_a s p i ≡ true → contains beginning p ≡ true → children_at s i ≡ first ∷ rest → is_leaf s first ≡ true
  opens i first rest p is among e =
      let n = with_child s.nodes i 0 first (ap (λ (l : List ℕ). slice_get l 0) e) in
      let f = all i n.0 n.1 in
      let own = kids s.nodes i n.0 n.1 in
      let production : n.0.production ≡ p = sym (produced s.nodes i n.0 n.1) ∙ eqb-true (production_at s i) p is in
      let starts = f.starts (ap (contains beginning) production ∙ among) in
      let are = subst (λ (l : List ℕ). Are (map node_of s.nodes) l f.ps) (sym own ∙ e) f.are in
      by f.ps starts.0 are starts.1
    where
      by : (ps more : List ℕ) → Are (map node_of s.nodes) (first ∷ rest) ps → ps ≡ leaf ∷ more → is_leaf s first ≡ true
      by [] more are same = absurd are
      by (q ∷ ps) more are same =
          let one : q ≡ leaf = cc in
          ap (λ (k : ℕ). nat_eq k leaf) (produced s.nodes first are.0.0 are.0.1 ∙ (are.0.2 ∙ one))

  -- one in a list of nodes has one of its productions
  one_of : (xs ps : List ℕ) (k c : ℕ) → Are (map node_of s.nodes) xs ps → slice_get xs k ≡ Some c → (p : ℕ) × (slice_get ps k ≡ Some p) × (production_at s c ≡ p)
  one_of [] [] k c are e = cc
  one_of [] (p ∷ ps) k c are e = absurd are
  one_of (x ∷ xs) [] k c are e = absurd are
  one_of (x ∷ xs) (p ∷ ps) zero c are e = let same : x ≡ c = cc in (p, refl, ap (production_at s) (sym same) ∙ (produced s.nodes x are.0.0 are.0.1 ∙ are.0.2))
  one_of (x ∷ xs) (p ∷ ps) (suc k) c are e = one_of xs ps k c are.1 e

  each_rest : (ps : List ℕ) (k p : ℕ) → all_rest ps ≡ true → slice_get ps k ≡ Some p → (nat_eq p leaf || is_rest_node p) ≡ true
  each_rest [] k p h e = cc
  each_rest (q ∷ ps) zero p h e = let same : q ≡ p = cc in subst (λ (x : ℕ). (nat_eq x leaf || is_rest_node x) ≡ true) same (left (nat_eq q leaf || is_rest_node q) (all_rest ps) h)
  each_rest (q ∷ ps) (suc k) p h e = each_rest ps k p (right (nat_eq q leaf || is_rest_node q) (all_rest ps) h) e

  turned : (p : ℕ) → (nat_eq p leaf || is_rest_node p) ≡ true → (nat_eq p leaf || (nat_eq p p_asm_name || (nat_eq p p_declarator || nat_eq p p_init))) ≡ true
  turned p h = by (nat_eq p leaf) (nat_eq 5 p) refl (nat_eq 19 p) refl (nat_eq 25 p) refl h
    where
      by : (a b : Bool) → nat_eq 5 p ≡ b → (c : Bool) → nat_eq 19 p ≡ c → (d : Bool) → nat_eq 25 p ≡ d → (a || (b || (c || (d || false)))) ≡ true → (a || (nat_eq p p_asm_name || (nat_eq p p_declarator || nat_eq p p_init))) ≡ true
      by true b eb c ec d ed h = refl
      by false true eb c ec d ed h = subst (λ (x : ℕ). (nat_eq x 5 || (nat_eq x 19 || nat_eq x 25)) ≡ true) (eqb-true 5 p eb) refl
      by false false eb true ec d ed h = subst (λ (x : ℕ). (nat_eq x 5 || (nat_eq x 19 || nat_eq x 25)) ≡ true) (eqb-true 19 p ec) refl
      by false false eb false ec true ed h = subst (λ (x : ℕ). (nat_eq x 5 || (nat_eq x 19 || nat_eq x 25)) ≡ true) (eqb-true 25 p ed) refl
      by false false eb false ec false ed h = cc

  rests : (i k c : ℕ) → is_a s p_rest i ≡ true → slice_get (children_at s i) k ≡ Some c → (is_leaf s c || (is_a s p_asm_name c || (is_a s p_declarator c || is_a s p_init c))) ≡ true
  rests i k c is e =
      let n = with_child s.nodes i k c e in
      let f = all i n.0 n.1 in
      let own = kids s.nodes i n.0 n.1 in
      let production : n.0.production ≡ p_rest = sym (produced s.nodes i n.0 n.1) ∙ eqb-true (production_at s i) p_rest is in
      let good = f.rests (ap (contains rest_rows) production) in
      let one = one_of (children_at s i) f.ps k c (subst (λ (l : List ℕ). Are (map node_of s.nodes) l f.ps) (sym own) f.are) e in
      subst (λ (p : ℕ). (nat_eq p leaf || (nat_eq p p_asm_name || (nat_eq p p_declarator || nat_eq p p_init))) ≡ true) (sym one.2) (turned one.0 (each_rest f.ps k one.0 good one.1))

  one_list : (ps : List ℕ) (j k p q : ℕ) → lists_in ps ≤ 1 → slice_get ps j ≡ Some p → slice_get ps k ≡ Some q → is_list p ≡ true → is_list q ≡ true → j ≡ k
  one_list [] j k p q few e f a b = cc
  one_list (x ∷ ps) zero zero p q few e f a b = refl
  one_list (x ∷ ps) zero (suc k) p q few e f a b =
      let same : x ≡ p = cc in
      let here = one_if (is_list x) (ap is_list same ∙ a) in
      let there = some_list ps k q f b in
      absurd (omega (arith, few, here, there))
  one_list (x ∷ ps) (suc j) zero p q few e f a b =
      let same : x ≡ q = cc in
      let here = one_if (is_list x) (ap is_list same ∙ b) in
      let there = some_list ps j p e a in
      absurd (omega (arith, few, here, there))
  one_list (x ∷ ps) (suc j) (suc k) p q few e f a b = ap suc (one_list ps j k p q (omega (arith, few)) e f a b)

  lists : (i j k c d : ℕ) → slice_get (children_at s i) j ≡ Some c → slice_get (children_at s i) k ≡ Some d → is_a s p_items c ≡ true → is_a s p_items d ≡ true → j ≡ k
  lists i j k c d e g a b =
      let n = with_child s.nodes i j c e in
      let f = all i n.0 n.1 in
      let own = kids s.nodes i n.0 n.1 in
      let are = subst (λ (l : List ℕ). Are (map node_of s.nodes) l f.ps) (sym own) f.are in
      let one = one_of (children_at s i) f.ps j c are e in
      let two = one_of (children_at s i) f.ps k d are g in
      one_list f.ps j k one.0 two.0 f.lists one.1 two.1 (ap is_list (sym one.2) ∙ a) (ap is_list (sym two.2) ∙ b)

  leaves : (i : ℕ) → is_leaf s i ≡ true → children_at s i ≡ []
  leaves i is = by (children_at s i) refl
    where
      by : (l : List ℕ) → children_at s i ≡ l → l ≡ []
      by [] e = refl
      by (c ∷ l) e =
          let n = with_child s.nodes i 0 c (ap (λ (x : List ℕ). slice_get x 0) e) in
          let f = all i n.0 n.1 in
          let bare = f.childless (ap (λ (q : ℕ). nat_eq q leaf) (sym (produced s.nodes i n.0 n.1)) ∙ is) in
          sym e ∙ (kids s.nodes i n.0 n.1 ∙ bare)

  pub spanned : (root : ℕ) → suc root ≡ length s.nodes → SpansIn (map node_of s.nodes) 0 root → Spanned s
  spanned root last span = record {
    root = root;
    last = last;
    whole = spans_of 0 root span;
    each = each_spans;
    leaves = leaves;
    behind = behind;
    parents = parents;
    begins = λ i first rest is e. opens i first rest p_post is refl e;
    primaries = λ i first rest is e. opens i first rest p_primary is refl e;
    rests = rests;
    lists = lists;
  }

unit_node : makes_node p_unit ≡ true
unfolding makes_node
unit_node = refl

facts : (tokens : Tokens) (unit : ℕ) (tree : Tree) → IsUnit tokens unit tree → AllFacts (map node_of tree.nodes.items) × ((c : ℕ) × (suc c ≡ length (map node_of tree.nodes.items)) × SpansIn (map node_of tree.nodes.items) 0 c)
facts tokens unit tree is =
    let (st, reads, nodes) = is.0 in
    subst (λ (l : List Node). AllFacts l × ((c : ℕ) × (suc c ≡ length l) × SpansIn l 0 c)) nodes (all_read tokens.text.now tokens.list.items p_unit 0 (begin 0 no_names []) st unit_node reads refl)

pub units_are_spanned : UnitsAreSpanned
unfolding source_of
units_are_spanned tokens unit tree tag_number is =
    let f = facts tokens unit tree is in
    spanned (numbered tag_number (source_of tokens tree)) f.0 f.1.0 (f.1.1 ∙ same_length tree.nodes.items) f.1.2
