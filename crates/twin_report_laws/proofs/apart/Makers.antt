-- Strings and calls of a unit stand at different places.
use Rattle.std.proofs.Common.{arith, ◌≡◌, ◌≤◌, ◌==◌, ℕ, eq-eqb, ◌&&◌, ◌||◌, Bool, true, false, List, [], ◌∷◌, Some, length, slice_get, refl, sym, ap, ◌∙◌, subst}
use Rattle.std.specs.Prelude.{is_some, if◌then◌else◌}
use Rattle.std.proofs.lemmas.Bool.{eqb-true, and_parts}
use Rattle.pta_base.specs.declared.place.Place.{Place}
use Rattle.c_lexer.specs.declared.Tokens.{Tokens}
use Rattle.c_lexer.specs.Cut.{IsTokens}
use Rattle.c_grammar.specs.declared.trees.Tree.{Tree}
use Rattle.c_grammar.specs.Productions.{p_post, p_primary}
use Rattle.c_parser.specs.c_units.Units.{IsUnit}
use Rattle.core_tree.specs.declared.node.Node.{Node}
use Rattle.core_tree.specs.declared.node.Unit.{Unit}
use Rattle.core_tree.specs.declared.node.NodeKind.{NodeKind}
use Rattle.core_tree.specs.declared.node.NodeKind.TheVariants.{Text, CallNode}
use Rattle.c_senses.specs.Names.{source_of, numbered}
use Rattle.c_senses.specs.Tree.{Source, is_a, is_leaf, token_at, place_at, children_at}
use Rattle.c_senses.specs.Sense.{Sense}
use Rattle.c_senses.specs.Right.{Numbering, SameKind}
use Rattle.parsed_tree_laws.specs.family_laws.Families.{Families, IsChild}
use Rattle.parsed_tree_laws.proofs.family_laws.Reading.{units_families}
use Rattle.parsed_tree_laws.specs.span_laws.Spans.{Spanned}
use Rattle.parsed_tree_laws.proofs.span_laws.Whole.{units_are_spanned}
use Rattle.core_node_laws.specs.count_laws.count_rows.Counts.{own_weight}
use Rattle.core_node_laws.specs.count_laws.Counting.{sum_below, Makes}
use Rattle.core_node_laws.specs.count_laws.once_nodes.Once.{IsLaid, apart_from_names, Weighs}
use Rattle.core_node_laws.proofs.count_laws.once_nodes.Whole.{nodes_once}
use Rattle.core_node_laws.proofs.count_laws.single_nodes.Places.{IsPlaced, is_placed, one_place, once_only}
use Rattle.twin_report_laws.specs.orders.Order.{MayMake}

abbrev one_if : Bool → ℕ
one_if b = if b then 1 else 0

most_one : (b : Bool) → one_if b ≤ 1
most_one true = omega arith
most_one false = omega arith

is_one : (b : Bool) → 1 ≤ one_if b → b ≡ true
is_one true h = refl
is_one false h = absurd (omega (arith, h))

one_is : (b : Bool) → b ≡ true → 1 ≤ one_if b
one_is true e = omega arith
one_is false e = cc

both_true : (a b : Bool) → a ≡ true → b ≡ true → (a && b) ≡ true
both_true true b ea eb = eb
both_true false b ea eb = cc

less_if : (a b : Bool) → (a ≡ true → b ≡ true) → one_if a ≤ one_if b
less_if true b h = one_is b (h refl)
less_if false b h = omega arith

-- two places with one line and one column
abbrev at_one : Place → Place → Bool
at_one p q = (p.line == q.line) && (p.column == q.column)

at_one_is : (p q : Place) → p.line ≡ q.line → p.column ≡ q.column → at_one p q ≡ true
at_one_is p q l c = both_true (p.line == q.line) (p.column == q.column) (eq-eqb p.line q.line l) (eq-eqb p.column q.column c)

is_at_one : (p q : Place) → at_one p q ≡ true → (p.line ≡ q.line) × (p.column ≡ q.column)
is_at_one p q e = let parts = and_parts (p.line == q.line) (p.column == q.column) e in (eqb-true p.line q.line parts.0, eqb-true p.column q.column parts.1)

-- a primary or a postfix expression that begins with a token at a place
module _ (s : Source) (target : Place) where
  abbrev begins_at : List ℕ → Bool
  begins_at [] = false
  begins_at (first ∷ rest) = is_some (token_at s first) && at_one (place_at s first) target

  abbrev is_maker : ℕ → Bool
  is_maker i = is_a s p_primary i || is_a s p_post i

  abbrev begun : ℕ → Bool
  begun i = is_maker i && begins_at (children_at s i)

  abbrev bound : ℕ → ℕ
  bound i = one_if (begun i)

  either_leafy : Spanned s → (i first : ℕ) (rest : List ℕ) → is_maker i ≡ true → children_at s i ≡ first ∷ rest → is_leaf s first ≡ true
  either_leafy spanned i first rest h e = by (is_a s p_primary i) refl (is_a s p_post i) refl h
    where
      by : (a : Bool) → is_a s p_primary i ≡ a → (b : Bool) → is_a s p_post i ≡ b → (a || b) ≡ true → is_leaf s first ≡ true
      by true f b g k = spanned.primaries i first rest f e
      by false f true g k = spanned.begins i first rest g e
      by false f false g k = cc

  record IsBegun (i : ℕ) : Type 0 where
    first : ℕ
    rest : List ℕ
    maker : is_maker i ≡ true
    children : children_at s i ≡ first ∷ rest
    token : is_some (token_at s first) ≡ true
    place : at_one (place_at s first) target ≡ true

  is_begun : (i : ℕ) → begun i ≡ true → IsBegun i
  is_begun i e = let parts = and_parts (is_maker i) (begins_at (children_at s i)) e in by (children_at s i) refl parts.0 parts.1
    where
      by : (l : List ℕ) → children_at s i ≡ l → is_maker i ≡ true → begins_at l ≡ true → IsBegun i
      by [] e is h = cc
      by (first ∷ rest) e is h =
          let parts = and_parts (is_some (token_at s first)) (at_one (place_at s first) target) h in
          record { first = first; rest = rest; maker = is; children = e; token = parts.0; place = parts.1 }

  one_begun : Families s → IsPlaced s → Spanned s → (i j : ℕ) → begun i ≡ true → begun j ≡ true → i ≡ j
  one_begun families placed spanned i j a b =
      let x = is_begun i a in
      let y = is_begun j b in
      let p = is_at_one (place_at s x.first) target x.place in
      let q = is_at_one (place_at s y.first) target y.place in
      let same = one_place s placed x.first y.first (either_leafy spanned i x.first x.rest x.maker x.children) (either_leafy spanned j y.first y.rest y.maker y.children) x.token y.token (p.0 ∙ sym q.0) (p.1 ∙ sym q.1) in
      let first : IsChild s i x.first = (0, ap (λ (l : List ℕ). slice_get l 0) x.children) in
      let other : IsChild s j y.first = (0, ap (λ (l : List ℕ). slice_get l 0) y.children) in
      families.single i j x.first first (subst (λ (z : ℕ). IsChild s j z) (sym same) other)

  begun_is : (i first : ℕ) (rest : List ℕ) → is_maker i ≡ true → children_at s i ≡ first ∷ rest → is_some (token_at s first) ≡ true → at_one (place_at s first) target ≡ true → begun i ≡ true
  begun_is i first rest is e there at =
      both_true (is_maker i) (begins_at (children_at s i)) is (subst (λ (l : List ℕ). begins_at l ≡ true) (sym e) (both_true (is_some (token_at s first)) (at_one (place_at s first) target) there at))

  bound_once : Families s → IsPlaced s → Spanned s → (k : ℕ) → sum_below bound k ≤ 1
  bound_once families placed spanned k = once_only bound k (λ i. most_one (begun i)) (λ i j a b. one_begun families placed spanned i j (is_one (begun i) a) (is_one (begun j) b))

-- strings and calls at a place
abbrev weight : Place → NodeKind → Place → ℕ
weight target (Text bytes) place = one_if (at_one place target)
weight target CallNode place = one_if (at_one place target)
weight target kind place = 0

first_of : (a b : Bool) → a ≡ true → (a || b) ≡ true
first_of true b h = refl
first_of false b h = cc

second_of : (a b : Bool) → b ≡ true → (a || b) ≡ true
second_of true b h = refl
second_of false b h = h

module _ (s : Source) (senses : List Sense) (m : Numbering) where
  makers_made : (target : Place) → Makes (apart_from_names s senses (weight target)) s senses (bound s target)
  makers_made target = record {
    texts = λ i first rest bytes is e there. less_if (at_one (place_at s first) target) (begun s target i) (λ at. begun_is s target i first rest (first_of (is_a s p_primary i) (is_a s p_post i) is) e there at);
    calls = λ i first rest is e there. less_if (at_one (place_at s first) target) (begun s target i) (λ at. begun_is s target i first rest (second_of (is_a s p_primary i) (is_a s p_post i) is) e there at);
    objects = λ i declarator leaf paths is by_it named. omega arith;
    literals = λ i p paths is parent kind typed. omega arith;
    blocks = λ i is. omega arith;
    loops = λ i word parenthesis rest c a is e. omega arith;
  }

  maker_weighs : (target : Place) (node : Node) → MayMake node.kind → node.place.line ≡ target.line → node.place.column ≡ target.column → Weighs s senses m (weight target) node
  maker_weighs target node may line column kind place same at = by kind node.kind same may
    where
      here : at_one place target ≡ true
      here = at_one_is place target (ap (λ (p : Place). p.line) (sym at) ∙ line) (ap (λ (p : Place). p.column) (sym at) ∙ column)

      by : (kind other : NodeKind) → SameKind m kind other → MayMake other → 1 ≤ own_weight (apart_from_names s senses (weight target)) kind place
      by (Text own) other h k = one_is (at_one place target) here
      by CallNode other h k = one_is (at_one place target) here
      by kind (Text own) h k = absurd (cc)
      by kind CallNode h k = absurd (cc)
      by kind other h k = absurd k

pub makers_once : (tokens : Tokens) (unit : ℕ) (tree : Tree) (tag_number : ℕ → ℕ) (senses : List Sense) (m : Numbering) (u : Unit) → IsTokens tokens.text.now tokens.list.items → IsUnit tokens unit tree
    → IsLaid (numbered tag_number (source_of tokens tree)) senses m u → (x y : ℕ) (a b : Node) → slice_get u.nodes.items x ≡ Some a → slice_get u.nodes.items y ≡ Some b → MayMake a.kind → MayMake b.kind
    → a.place.line ≡ b.place.line → a.place.column ≡ b.place.column → x ≡ y
makers_once tokens unit tree tag_number senses m u cut read laid x y a b at there ka kb line column =
    let s : Source = numbered tag_number (source_of tokens tree) in
    let spanned = units_are_spanned tokens unit tree tag_number read in
    let families = units_families tokens unit tree tag_number cut read in
    let placed = is_placed tokens unit tree tag_number cut read in
    nodes_once s senses m u (weight b.place) (bound s b.place) spanned families laid (makers_made s senses m b.place) (bound_once s b.place families placed spanned (length s.nodes))
    x y a b at there (maker_weighs s senses m b.place a ka line column) (maker_weighs s senses m b.place b kb refl refl)
