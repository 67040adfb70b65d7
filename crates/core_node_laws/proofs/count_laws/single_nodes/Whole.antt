-- Strings, calls and compound literals of a unit.
use Rattle.std.proofs.Common.{arith, ◌≡◌, ◌≤◌, ◌==◌, ℕ, suc, nat_eq, eq-eqb, ◌&&◌, ◌||◌, Bool, true, false, List, [], ◌∷◌, Option, Some, None, length, slice_get, refl, sym, ap, ◌∙◌, subst}
use Rattle.std.specs.Prelude.{is_some, if◌then◌else◌}
use Rattle.std.proofs.lemmas.Bool.{eqb-true, and_parts}
use Rattle.pta_base.specs.declared.place.Place.{Place}
use Rattle.c_grammar.specs.Productions.{p_cast, p_unary, p_post, p_primary, p_items}
use Rattle.c_grammar.specs.Terminals.{contains}
use Rattle.c_grammar.specs.Words.{sign_left_parenthesis}
use Rattle.c_grammar.specs.Reads.{leaf}
use Rattle.core_tree.specs.declared.node.Node.{Node}
use Rattle.core_tree.specs.declared.node.NodeKind.{NodeKind}
use Rattle.core_tree.specs.declared.node.NodeKind.TheVariants.{Text, Literal, CallNode}
use Rattle.c_senses.specs.Names.{source_of, numbered}
use Rattle.c_senses.specs.Tree.{Source, is_a, is_leaf, has_sign, token_at, place_at, children_at, parent_of, first_where, all_nodes}
use Rattle.c_senses.specs.Sense.{Sense}
use Rattle.c_senses.specs.Right.{Numbering, SameKind}
use Rattle.parsed_tree_laws.specs.family_laws.Families.{Families, IsChild}
use Rattle.parsed_tree_laws.proofs.family_laws.Reading.{units_families}
use Rattle.parsed_tree_laws.specs.span_laws.Spans.{Spanned}
use Rattle.parsed_tree_laws.proofs.span_laws.Whole.{units_are_spanned}
use Rattle.core_node_laws.specs.count_laws.count_rows.Counts.{own_weight}
use Rattle.core_node_laws.specs.count_laws.Counting.{sum_below, Makes}
use Rattle.core_node_laws.proofs.count_laws.Rooms.{apart}
use Rattle.core_node_laws.specs.count_laws.once_nodes.Once.{apart_from_names, Weighs}
use Rattle.core_node_laws.proofs.count_laws.once_nodes.Rooted.{found_where}
use Rattle.core_node_laws.proofs.count_laws.once_nodes.Whole.{nodes_once}
use Rattle.core_node_laws.specs.count_laws.single_nodes.Single.{TextsOnce, CallsOnce, LiteralsOnce}
use Rattle.core_node_laws.proofs.count_laws.single_nodes.Places.{IsPlaced, is_placed, one_place, once_only}

abbrev one_if : Bool → ℕ
one_if b = if b then 1 else 0

most_one : (b : Bool) → one_if b ≤ 1
most_one true = omega arith
most_one false = omega arith

is_one : (b : Bool) → 1 ≤ one_if b → b ≡ true
is_one true h = refl
is_one false h = absurd (omega (arith, h))

one_is : (b : Bool) → b ≡ true → 1 ≤ one_if b
one_is true e = omega arith
one_is false e = cc

both_true : (a b : Bool) → a ≡ true → b ≡ true → (a && b) ≡ true
both_true true b ea eb = eb
both_true false b ea eb = cc

less_if : (a b : Bool) → (a ≡ true → b ≡ true) → one_if a ≤ one_if b
less_if true b h = one_is b (h refl)
less_if false b h = omega arith

-- two places with one line and one column
abbrev at_one : Place → Place → Bool
at_one p q = (p.line == q.line) && (p.column == q.column)

at_one_is : (p q : Place) → p.line ≡ q.line → p.column ≡ q.column → at_one p q ≡ true
at_one_is p q l c = both_true (p.line == q.line) (p.column == q.column) (eq-eqb p.line q.line l) (eq-eqb p.column q.column c)

is_at_one : (p q : Place) → at_one p q ≡ true → (p.line ≡ q.line) × (p.column ≡ q.column)
is_at_one p q e = let parts = and_parts (p.line == q.line) (p.column == q.column) e in (eqb-true p.line q.line parts.0, eqb-true p.column q.column parts.1)

-- a node of a production that begins with a token at a place
module _ (s : Source) (target : Place) (production : ℕ) where
  abbrev pub begins_at : List ℕ → Bool
  begins_at [] = false
  begins_at (first ∷ rest) = is_some (token_at s first) && at_one (place_at s first) target

  abbrev pub begun : ℕ → Bool
  begun i = is_a s production i && begins_at (children_at s i)

  first_of : (i : ℕ) → begun i ≡ true → (first : ℕ) × (rest : List ℕ) × (is_a s production i ≡ true) × (children_at s i ≡ first ∷ rest) × (is_some (token_at s first) ≡ true) × (at_one (place_at s first) target ≡ true)
  first_of i e = let parts = and_parts (is_a s production i) (begins_at (children_at s i)) e in by (children_at s i) refl parts.0 parts.1
    where
      by : (l : List ℕ) → children_at s i ≡ l → is_a s production i ≡ true → begins_at l ≡ true → (first : ℕ) × (rest : List ℕ) × (is_a s production i ≡ true) × (children_at s i ≡ first ∷ rest) × (is_some (token_at s first) ≡ true) × (at_one (place_at s first) target ≡ true)
      by [] e is h = cc
      by (first ∷ rest) e is h = let parts = and_parts (is_some (token_at s first)) (at_one (place_at s first) target) h in (first, rest, is, e, parts.0, parts.1)

  one_begun : Families s → IsPlaced s → ((i first : ℕ) (rest : List ℕ) → is_a s production i ≡ true → children_at s i ≡ first ∷ rest → is_leaf s first ≡ true) → (i j : ℕ) → begun i ≡ true → begun j ≡ true → i ≡ j
  one_begun families placed leafy i j a b =
      let (x, xs, xi, xe, xt, xa) = first_of i a in
      let (y, ys, yi, ye, yt, ya) = first_of j b in
      let p = is_at_one (place_at s x) target xa in
      let q = is_at_one (place_at s y) target ya in
      let same = one_place s placed x y (leafy i x xs xi xe) (leafy j y ys yi ye) xt yt (p.0 ∙ sym q.0) (p.1 ∙ sym q.1) in
      let first : IsChild s i x = (0, ap (λ (l : List ℕ). slice_get l 0) xe) in
      let other : IsChild s j y = (0, ap (λ (l : List ℕ). slice_get l 0) ye) in
      families.single i j x first (subst (λ (z : ℕ). IsChild s j z) (sym same) other)

  begun_is : (i first : ℕ) (rest : List ℕ) → is_a s production i ≡ true → children_at s i ≡ first ∷ rest → is_some (token_at s first) ≡ true → at_one (place_at s first) target ≡ true → begun i ≡ true
  begun_is i first rest is e there at =
      both_true (is_a s production i) (begins_at (children_at s i)) is (subst (λ (l : List ℕ). begins_at l ≡ true) (sym e) (both_true (is_some (token_at s first)) (at_one (place_at s first) target) there at))

  abbrev pub bound : ℕ → ℕ
  bound i = one_if (begun i)

  bound_once : (k : ℕ) → ((i j : ℕ) → begun i ≡ true → begun j ≡ true → i ≡ j) → sum_below bound k ≤ 1
  bound_once k one = once_only bound k (λ i. most_one (begun i)) (λ i j a b. one i j (is_one (begun i) a) (is_one (begun j) b))

-- weights
abbrev text_weight : Place → NodeKind → Place → ℕ
text_weight target (Text bytes) place = one_if (at_one place target)
text_weight target kind place = 0

abbrev call_weight : Place → NodeKind → Place → ℕ
call_weight target CallNode place = one_if (at_one place target)
call_weight target kind place = 0

abbrev literal_weight : ℕ → NodeKind → Place → ℕ
literal_weight d (Literal e) place = one_if (e == d)
literal_weight d kind place = 0

none : (k : ℕ) → 0 ≤ k
none k = omega arith

module _ (s : Source) (senses : List Sense) (m : Numbering) where
  texts_made : (target : Place) → Makes (apart_from_names s senses (text_weight target)) s senses (λ i. one_if (begun s target p_primary i))
  texts_made target = record {
    texts = λ i first rest bytes is e there. less_if (at_one (place_at s first) target) (begun s target p_primary i) (λ at. begun_is s target p_primary i first rest is e there at);
    calls = λ i first rest is e there. omega arith;
    objects = λ i declarator leaf paths is by_it named. omega arith;
    literals = λ i p paths is parent kind typed. omega arith;
    blocks = λ i is. omega arith;
    loops = λ i word parenthesis rest c a is e. omega arith;
  }

  calls_made : (target : Place) → Makes (apart_from_names s senses (call_weight target)) s senses (λ i. one_if (begun s target p_post i))
  calls_made target = record {
    texts = λ i first rest bytes is e there. omega arith;
    calls = λ i first rest is e there. less_if (at_one (place_at s first) target) (begun s target p_post i) (λ at. begun_is s target p_post i first rest is e there at);
    objects = λ i declarator leaf paths is by_it named. omega arith;
    literals = λ i p paths is parent kind typed. omega arith;
    blocks = λ i is. omega arith;
    loops = λ i word parenthesis rest c a is e. omega arith;
  }

  text_weighs : (target : Place) (node : Node) (bytes : List ℕ) → node.kind ≡ Text bytes → node.place.line ≡ target.line → node.place.column ≡ target.column → Weighs s senses m (text_weight target) node
  text_weighs target node bytes is line column kind place same at = by kind (subst (λ (k : NodeKind). SameKind m kind k) is same)
    where
      here : at_one place target ≡ true
      here = at_one_is place target (ap (λ (p : Place). p.line) (sym at) ∙ line) (ap (λ (p : Place). p.column) (sym at) ∙ column)

      by : (kind : NodeKind) → SameKind m kind (Text bytes) → 1 ≤ own_weight (apart_from_names s senses (text_weight target)) kind place
      by (Text own) h = one_is (at_one place target) here
      by kind h = absurd (cc)

  call_weighs : (target : Place) (node : Node) → node.kind ≡ CallNode → node.place.line ≡ target.line → node.place.column ≡ target.column → Weighs s senses m (call_weight target) node
  call_weighs target node is line column kind place same at = by kind (subst (λ (k : NodeKind). SameKind m kind k) is same)
    where
      here : at_one place target ≡ true
      here = at_one_is place target (ap (λ (p : Place). p.line) (sym at) ∙ line) (ap (λ (p : Place). p.column) (sym at) ∙ column)

      by : (kind : NodeKind) → SameKind m kind CallNode → 1 ≤ own_weight (apart_from_names s senses (call_weight target)) kind place
      by CallNode h = one_is (at_one place target) here
      by kind h = absurd (cc)

  literal_weighs : (d e : ℕ) (node : Node) → ((x : ℕ) → m x ≡ Some e → x ≡ d) → node.kind ≡ Literal e → Weighs s senses m (literal_weight d) node
  literal_weighs d e node one is kind place same at = by kind (subst (λ (k : NodeKind). SameKind m kind k) is same)
    where
      by : (kind : NodeKind) → SameKind m kind (Literal e) → 1 ≤ own_weight (apart_from_names s senses (literal_weight d)) kind place
      by (Literal x) h = one_is (x == d) (eq-eqb x d (one x h))
      by kind h = absurd (cc)

-- ---- compound literals

in_list : (list : List ℕ) (i : ℕ) → contains list i ≡ true → (k : ℕ) × (slice_get list k ≡ Some i)
in_list [] i h = cc
in_list (x ∷ list) i h = by (in_list list i) (nat_eq x i) refl h
  where
    by : (contains list i ≡ true → (k : ℕ) × (slice_get list k ≡ Some i)) → (b : Bool) → nat_eq x i ≡ b → (b || contains list i) ≡ true → (k : ℕ) × (slice_get (x ∷ list) k ≡ Some i)
    by rest true e h = (0, ap Some (eqb-true x i e))
    by rest false e h = let more = rest h in (suc more.0, more.1)

module _ (s : Source) where
  -- the parenthesis before the type of a compound literal
  abbrev opened : ℕ → ℕ
  opened p = elim (first_where (has_sign s sign_left_parenthesis) (children_at s p)) as (λ _. ℕ) [ None ↦ p | Some leaf ↦ leaf ]

  child_of_parent : (p c : ℕ) → parent_of s c ≡ Some p → IsChild s p c
  child_of_parent p c e = in_list (children_at s p) c (found_where (λ (q : ℕ). contains (children_at s q) c) (all_nodes s) p e).0

  -- the node itself, or a leaf that is its child
  data Opens : ℕ → ℕ → Type 0 where
    itself : {p : ℕ} → Opens p p
    leafy : {p d : ℕ} → IsChild s p d → is_leaf s d ≡ true → Opens p d

  opens : (p : ℕ) → Opens p (opened p)
  opens p = by (first_where (has_sign s sign_left_parenthesis) (children_at s p)) refl
    where
      by : (o : Option ℕ) → first_where (has_sign s sign_left_parenthesis) (children_at s p) ≡ o → Opens p (elim o as (λ _. ℕ) [ None ↦ p | Some leaf ↦ leaf ])
      by None e = itself
      by (Some d) e = let found = found_where (has_sign s sign_left_parenthesis) (children_at s p) d e in leafy found.1 (and_parts (is_leaf s d) _ found.0).0

  no_leaf : (p : ℕ) → (is_a s p_cast p || is_a s p_unary p) ≡ true → is_leaf s p ≡ false
  no_leaf p h = by (is_a s p_cast p) refl (is_a s p_unary p) refl h
    where
      by : (a : Bool) → is_a s p_cast p ≡ a → (b : Bool) → is_a s p_unary p ≡ b → (a || b) ≡ true → is_leaf s p ≡ false
      by true e b f h = apart s p_cast leaf p refl e
      by false e true f h = apart s p_unary leaf p refl f
      by false e false f h = cc

  one_opener : Families s → (p q d e : ℕ) → Opens p d → Opens q e → d ≡ e → (is_a s p_cast p || is_a s p_unary p) ≡ true → (is_a s p_cast q || is_a s p_unary q) ≡ true → p ≡ q
  one_opener families p q d e itself itself same a b = same
  one_opener families p q d e itself (leafy child leafy_e) same a b = absurd (let off = no_leaf p a in let never : true ≡ false = sym leafy_e ∙ (ap (is_leaf s) (sym same) ∙ off) in cc)
  one_opener families p q d e (leafy child leafy_d) itself same a b = absurd (let off = no_leaf q b in let never : true ≡ false = sym leafy_d ∙ (ap (is_leaf s) same ∙ off) in cc)
  one_opener families p q d e (leafy child leafy_d) (leafy other leafy_e) same a b = families.single p q d child (subst (λ (x : ℕ). IsChild s q x) (sym same) other)

  -- a list of items below what a parenthesis opens
  abbrev opened_by : ℕ → Option ℕ → Bool
  opened_by d None = false
  opened_by d (Some p) = (is_a s p_cast p || is_a s p_unary p) && (opened p == d)

  abbrev listed : ℕ → ℕ → Bool
  listed d i = is_a s p_items i && opened_by d (parent_of s i)

  parent_in : (d : ℕ) (o : Option ℕ) → opened_by d o ≡ true → (p : ℕ) × (o ≡ Some p) × ((is_a s p_cast p || is_a s p_unary p) ≡ true) × (opened p ≡ d)
  parent_in d None h = cc
  parent_in d (Some p) h = let parts = and_parts (is_a s p_cast p || is_a s p_unary p) (opened p == d) h in (p, refl, parts.0, eqb-true (opened p) d parts.1)

  one_listed : Spanned s → Families s → (d i j : ℕ) → listed d i ≡ true → listed d j ≡ true → i ≡ j
  one_listed spanned families d i j a b =
      let x = and_parts (is_a s p_items i) (opened_by d (parent_of s i)) a in
      let y = and_parts (is_a s p_items j) (opened_by d (parent_of s j)) b in
      let (p, parent, kind, opening) = parent_in d (parent_of s i) x.1 in
      let (q, other, also, closing) = parent_in d (parent_of s j) y.1 in
      let same = one_opener families p q (opened p) (opened q) (opens p) (opens q) (opening ∙ sym closing) kind also in
      let first = child_of_parent p i parent in
      let second : IsChild s p j = subst (λ (z : ℕ). IsChild s z j) (sym same) (child_of_parent q j other) in
      let place = spanned.lists p first.0 second.0 i j first.1 second.1 x.0 y.0 in
      one (sym first.1 ∙ (ap (slice_get (children_at s p)) place ∙ second.1))
    where
      one : {x y : ℕ} → ◌≡◌ {A = Option ℕ} (Some x) (Some y) → x ≡ y
      one h = cc

  listed_is : (d i p : ℕ) → is_a s p_items i ≡ true → parent_of s i ≡ Some p → (is_a s p_cast p || is_a s p_unary p) ≡ true → (opened p == d) ≡ true → listed d i ≡ true
  listed_is d i p is parent kind e =
      both_true (is_a s p_items i) (opened_by d (parent_of s i)) is (subst (λ (o : Option ℕ). opened_by d o ≡ true) (sym parent) (both_true (is_a s p_cast p || is_a s p_unary p) (opened p == d) kind e))

module _ (s : Source) (senses : List Sense) where
  literals_made : (d : ℕ) → Makes (apart_from_names s senses (literal_weight d)) s senses (λ i. one_if (listed s d i))
  literals_made d = record {
    texts = λ i first rest bytes is e there. omega arith;
    calls = λ i first rest is e there. omega arith;
    objects = λ i declarator leaf paths is by_it named. omega arith;
    literals = λ i p paths is parent kind typed. let h = less_if (opened s p == d) (listed s d i) (λ e. listed_is s d i p is parent kind e) in omega (arith, h);
    blocks = λ i is. omega arith;
    loops = λ i word parenthesis rest c a is e. omega arith;
  }

-- ---- the laws

pub texts_once : TextsOnce
texts_once tokens unit tree tag_number senses m u cut read laid x y a b bytes others at there ka kb line column =
    let s : Source = numbered tag_number (source_of tokens tree) in
    let spanned = units_are_spanned tokens unit tree tag_number read in
    let families = units_families tokens unit tree tag_number cut read in
    let placed = is_placed tokens unit tree tag_number cut read in
    nodes_once s senses m u (text_weight b.place) (λ i. one_if (begun s b.place p_primary i)) spanned families laid (texts_made s senses m b.place)
    (bound_once s b.place p_primary (length s.nodes) (λ i j e f. one_begun s b.place p_primary families placed spanned.primaries i j e f))
    x y a b at there (text_weighs s senses m b.place a bytes ka line column) (text_weighs s senses m b.place b others kb refl refl)

pub calls_once : CallsOnce
calls_once tokens unit tree tag_number senses m u cut read laid x y a b at there ka kb line column =
    let s : Source = numbered tag_number (source_of tokens tree) in
    let spanned = units_are_spanned tokens unit tree tag_number read in
    let families = units_families tokens unit tree tag_number cut read in
    let placed = is_placed tokens unit tree tag_number cut read in
    nodes_once s senses m u (call_weight b.place) (λ i. one_if (begun s b.place p_post i)) spanned families laid (calls_made s senses m b.place)
    (bound_once s b.place p_post (length s.nodes) (λ i j e f. one_begun s b.place p_post families placed spanned.begins i j e f))
    x y a b at there (call_weighs s senses m b.place a ka line column) (call_weighs s senses m b.place b kb refl refl)

pub literals_once : LiteralsOnce
literals_once tokens unit tree tag_number senses m u cut read laid x y e a b lt at there ka kb =
    let s : Source = numbered tag_number (source_of tokens tree) in
    let spanned = units_are_spanned tokens unit tree tag_number read in
    let families = units_families tokens unit tree tag_number cut read in
    let (d, what, declared, number) = laid.no_other_entity e lt in
    let one : (z : ℕ) → m z ≡ Some e → z ≡ d = λ z h. laid.entity_once z d e h number in
    nodes_once s senses m u (literal_weight d) (λ i. one_if (listed s d i)) spanned families laid (literals_made s senses d)
    (once_only (λ i. one_if (listed s d i)) (length s.nodes) (λ i. most_one (listed s d i)) (λ i j h g. one_listed s spanned families d i j (is_one (listed s d i) h) (is_one (listed s d j) g)))
    x y a b at there (literal_weighs s senses m d e a one ka) (literal_weighs s senses m d e b one kb)
