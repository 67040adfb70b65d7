-- How many compound literals of one leaf the trees of a unit's nodes have, and how many the rows of a tree make.
use Rattle.std.proofs.Common.{arith, ◌≡◌, ◌≤◌, ◌+◌, ◌==◌, ℕ, zero, suc, nat_eq, eq-eqb, ◌&&◌, ◌||◌, Bool, true, false, List, [], ◌∷◌, Option, Some, None, length, slice_get, refl, sym, ap, ◌∙◌, subst}
use Rattle.std.specs.Prelude.{if◌then◌else◌}
use Rattle.std.proofs.lemmas.Bool.{eqb-true, eqb-false, and_parts}
use Rattle.pta_base.specs.declared.place.Place.{Place}
use Rattle.c_grammar.specs.Productions.{p_cast, p_unary, p_items}
use Rattle.c_grammar.specs.Terminals.{contains}
use Rattle.c_grammar.specs.Words.{sign_left_parenthesis}
use Rattle.c_grammar.specs.Reads.{leaf}
use Rattle.core_tree.specs.declared.node.Node.{Node}
use Rattle.core_tree.specs.declared.node.NodeKind.{NodeKind}
use Rattle.core_tree.specs.declared.node.NodeKind.TheVariants.{Literal, Initialise}
use Rattle.core_tree.specs.declared.node.Unit.{Unit}
use Rattle.core_tree.specs.Range.{child_in}
use Rattle.core_nodes.specs.Standing.{core_at, cores_at, IsReady}
use Rattle.core_nodes.proofs.Reading.{core_is}
use Rattle.core_nodes.specs.kept_nodes.Marked.{ChildIn}
use Rattle.c_senses.specs.Tree.{Source, is_a, is_leaf, has_sign, children_at, parent_of, first_where, all_nodes}
use Rattle.c_senses.specs.Sense.{Sense}
use Rattle.c_senses.specs.Rows.{AreSenses}
use Rattle.parsed_tree_laws.specs.family_laws.Families.{Families, IsChild}
use Rattle.parsed_tree_laws.specs.span_laws.Spans.{Spanned}
use Rattle.core_node_laws.specs.count_laws.count_rows.Counts.{Count, own_weight, unless_left_out, count_in, count_under}
use Rattle.core_node_laws.specs.count_laws.Counting.{sum_below, bodies, Makes}
use Rattle.core_node_laws.proofs.count_laws.Main.{counting}
use Rattle.core_node_laws.proofs.count_laws.Rooms.{apart}
use Rattle.core_node_laws.proofs.count_laws.once_nodes.Rooted.{found_where}
use Rattle.core_node_laws.proofs.count_laws.single_nodes.Places.{once_only}

-- a compound literal of one leaf weighs one, and nothing is left out
abbrev pub literal_weight : ℕ → NodeKind → Place → ℕ
literal_weight d (Literal e) place = if e == d then 1 else 0
literal_weight d kind place = 0

abbrev pub literals_of : ℕ → Count
literals_of d = record { weight = literal_weight d; leaves_out = λ e. false }

-- ---- the trees of nodes

-- from a node down to one below it
pub data Down (nodes : List Node) : ℕ → ℕ → Type 0 where
  Here : {j : ℕ} → Down nodes j j
  Below : {p c j : ℕ} → ChildIn nodes p c → Down nodes c j → Down nodes p j

pub further : (nodes : List Node) {t p j : ℕ} → Down nodes t p → ChildIn nodes p j → Down nodes t j
further nodes Here h = Below h Here
further nodes (Below g d) h = Below g (further nodes d h)

module _ (u : Unit) (ready : IsReady u) (d : ℕ) where
  abbrev at : ℕ → Option Node
  at i = slice_get u.nodes.items i

  -- a compound literal of the leaf
  pub record IsLiteralAt (j : ℕ) : Type 0 where
    pub node : Node
    pub there : slice_get u.nodes.items j ≡ Some node
    pub kind : node.kind ≡ Literal d

  abbrev pub counted : ℕ → ℕ
  counted j = count_in (literals_of d) (core_at u j)

  kept : (kind : NodeKind) (k : ℕ) → unless_left_out (literals_of d) kind k ≡ k
  kept (Initialise e paths) k = refl
  kept kind k = refl

  weighs : (kind : NodeKind) (place : Place) → kind ≡ Literal d → 1 ≤ own_weight (literals_of d) kind place
  weighs kind place is = subst (λ (k : NodeKind). 1 ≤ own_weight (literals_of d) k place) (sym is) (one (d == d) (eq-eqb d d refl))
    where
      one : (b : Bool) → b ≡ true → 1 ≤ (if b then 1 else 0)
      one true e = omega arith
      one false e = cc

  sums : (j : ℕ) (x : Node) → at j ≡ Some x → counted j ≡ own_weight (literals_of d) x.kind x.place + count_under (literals_of d) (cores_at u x.children)
  sums j x there = ap (count_in (literals_of d)) (core_is u ready j x there) ∙ kept x.kind (own_weight (literals_of d) x.kind x.place + count_under (literals_of d) (cores_at u x.children))

  one_under : (cs : List ℕ) (k c : ℕ) → slice_get cs k ≡ Some c → counted c ≤ count_under (literals_of d) (cores_at u cs)
  one_under [] k c e = cc
  one_under (x ∷ cs) zero c e = let same : x ≡ c = cc in let own : counted x ≡ counted c = ap counted same in omega (arith, own)
  one_under (x ∷ cs) (suc k) c e = let h = one_under cs k c e in omega (arith, h)

  two_under : (cs : List ℕ) (k l c e : ℕ) → slice_get cs k ≡ Some c → slice_get cs l ≡ Some e → (k ≡ l → ⊥) → counted c + counted e ≤ count_under (literals_of d) (cores_at u cs)
  two_under [] k l c e f g differ = cc
  two_under (x ∷ cs) zero zero c e f g differ = absurd (differ refl)
  two_under (x ∷ cs) zero (suc l) c e f g differ = let same : x ≡ c = cc in let own : counted x ≡ counted c = ap counted same in let h = one_under cs l e g in omega (arith, own, h)
  two_under (x ∷ cs) (suc k) zero c e f g differ = let same : x ≡ e = cc in let own : counted x ≡ counted e = ap counted same in let h = one_under cs k c f in omega (arith, own, h)
  two_under (x ∷ cs) (suc k) (suc l) c e f g differ = let h = two_under cs k l c e f g (λ same. differ (ap suc same)) in omega (arith, h)

  -- a node that has a child is there
  parent_there : (p k c : ℕ) → child_in (at p) k ≡ Some c → (x : Node) × (at p ≡ Some x) × (slice_get x.children k ≡ Some c)
  parent_there p k c e = by (at p) refl e
    where
      by : (o : Option Node) → at p ≡ o → child_in o k ≡ Some c → (x : Node) × (at p ≡ Some x) × (slice_get x.children k ≡ Some c)
      by None is h = cc
      by (Some x) is h = (x, is, h)

  pub one_down : {t j : ℕ} → Down u.nodes.items t j → IsLiteralAt j → 1 ≤ counted t
  one_down {t = t} Here l = let w = weighs l.node.kind l.node.place l.kind in let s = sums t l.node l.there in omega (arith, w, s)
  one_down {t = t} (Below {c = c} h rest) l =
      let below = one_down rest l in
      let (x, there, child) = parent_there t h.0 c h.1 in
      let under = one_under x.children h.0 c child in
      let s = sums t x there in
      omega (arith, below, under, s)

  -- the top and a node below it
  top_and : (t c j : ℕ) → IsLiteralAt t → ChildIn u.nodes.items t c → 1 ≤ counted c → 2 ≤ counted t
  top_and t c j l h below =
      let (x, there, child) = parent_there t h.0 c h.1 in
      let same : l.node ≡ x = (let one : ◌≡◌ {A = Option Node} (Some l.node) (Some x) = sym l.there ∙ there in cc) in
      let w = weighs x.kind x.place (ap (λ (n : Node). n.kind) (sym same) ∙ l.kind) in
      let under = one_under x.children h.0 c child in
      let s = sums t x there in
      omega (arith, w, below, under, s)

  pub two_down : {t j k : ℕ} → Down u.nodes.items t j → Down u.nodes.items t k → IsLiteralAt j → IsLiteralAt k → (j ≡ k → ⊥) → 2 ≤ counted t
  two_down {t = t} Here Here l m differ = absurd (differ refl)
  two_down {t = t} Here (Below {c = c} h rest) l m differ = top_and t c t l h (one_down rest m)
  two_down {t = t} (Below {c = c} h rest) Here l m differ = top_and t c t m h (one_down rest l)
  two_down {t = t} {j = j} {k = k} (Below {c = c} h rest) (Below {c = e} g more) l m differ = by (nat_eq h.0 g.0) refl (λ y. two_down rest y l m differ)
    where
      a : (x : Node) × (at t ≡ Some x) × (slice_get x.children h.0 ≡ Some c)
      a = parent_there t h.0 c h.1

      s : counted t ≡ own_weight (literals_of d) a.0.kind a.0.place + count_under (literals_of d) (cores_at u a.0.children)
      s = sums t a.0 a.1

      other : slice_get a.0.children g.0 ≡ Some e
      other = sym (ap (λ (o : Option Node). child_in o g.0) a.1) ∙ g.1

      by : (b : Bool) → nat_eq h.0 g.0 ≡ b → (Down u.nodes.items c k → 2 ≤ counted c) → 2 ≤ counted t
      by true q later =
          let one : ◌≡◌ {A = Option ℕ} (Some c) (Some e) = sym a.2 ∙ (ap (slice_get a.0.children) (eqb-true h.0 g.0 q) ∙ other) in
          let same : c ≡ e = cc in
          let below = later (subst (λ (z : ℕ). Down u.nodes.items z k) (sym same) more) in
          let under = one_under a.0.children h.0 c a.2 in
          omega (arith, below, under, s)
      by false q later =
          let x = one_down rest l in
          let y = one_down more m in
          let under = two_under a.0.children h.0 g.0 c e a.2 other (eqb-false h.0 g.0 q) in
          omega (arith, x, y, under, s)

-- ---- what the rows make

abbrev one_if : Bool → ℕ
one_if b = if b then 1 else 0

most_one : (b : Bool) → one_if b ≤ 1
most_one true = omega arith
most_one false = omega arith

is_one : (b : Bool) → 1 ≤ one_if b → b ≡ true
is_one true h = refl
is_one false h = absurd (omega (arith, h))

both_true : (a b : Bool) → a ≡ true → b ≡ true → (a && b) ≡ true
both_true true b ea eb = eb
both_true false b ea eb = cc

less_if : (a b : Bool) → (a ≡ true → b ≡ true) → one_if a ≤ one_if b
less_if true b h = by b (h refl)
  where
    by : (b : Bool) → b ≡ true → 1 ≤ one_if b
    by true e = omega arith
    by false e = cc
less_if false b h = omega arith

in_list : (list : List ℕ) (i : ℕ) → contains list i ≡ true → (k : ℕ) × (slice_get list k ≡ Some i)
in_list [] i h = cc
in_list (x ∷ list) i h = by (in_list list i) (nat_eq x i) refl h
  where
    by : (contains list i ≡ true → (k : ℕ) × (slice_get list k ≡ Some i)) → (b : Bool) → nat_eq x i ≡ b → (b || contains list i) ≡ true → (k : ℕ) × (slice_get (x ∷ list) k ≡ Some i)
    by rest true e h = (0, ap Some (eqb-true x i e))
    by rest false e h = let more = rest h in (suc more.0, more.1)

module _ (s : Source) where
  -- the parenthesis before the type of a compound literal
  abbrev opened : ℕ → ℕ
  opened p = elim (first_where (has_sign s sign_left_parenthesis) (children_at s p)) as (λ _. ℕ) [ None ↦ p | Some leaf ↦ leaf ]

  child_of_parent : (p c : ℕ) → parent_of s c ≡ Some p → IsChild s p c
  child_of_parent p c e = in_list (children_at s p) c (found_where (λ (q : ℕ). contains (children_at s q) c) (all_nodes s) p e).0

  -- the node itself, or a leaf that is its child
  data Opens : ℕ → ℕ → Type 0 where
    itself : {p : ℕ} → Opens p p
    leafy : {p d : ℕ} → IsChild s p d → is_leaf s d ≡ true → Opens p d

  opens : (p : ℕ) → Opens p (opened p)
  opens p = by (first_where (has_sign s sign_left_parenthesis) (children_at s p)) refl
    where
      by : (o : Option ℕ) → first_where (has_sign s sign_left_parenthesis) (children_at s p) ≡ o → Opens p (elim o as (λ _. ℕ) [ None ↦ p | Some leaf ↦ leaf ])
      by None e = itself
      by (Some d) e = let found = found_where (has_sign s sign_left_parenthesis) (children_at s p) d e in leafy found.1 (and_parts (is_leaf s d) _ found.0).0

  no_leaf : (p : ℕ) → (is_a s p_cast p || is_a s p_unary p) ≡ true → is_leaf s p ≡ false
  no_leaf p h = by (is_a s p_cast p) refl (is_a s p_unary p) refl h
    where
      by : (a : Bool) → is_a s p_cast p ≡ a → (b : Bool) → is_a s p_unary p ≡ b → (a || b) ≡ true → is_leaf s p ≡ false
      by true e b f h = apart s p_cast leaf p refl e
      by false e true f h = apart s p_unary leaf p refl f
      by false e false f h = cc

  one_opener : Families s → (p q d e : ℕ) → Opens p d → Opens q e → d ≡ e → (is_a s p_cast p || is_a s p_unary p) ≡ true → (is_a s p_cast q || is_a s p_unary q) ≡ true → p ≡ q
  one_opener families p q d e itself itself same a b = same
  one_opener families p q d e itself (leafy child leafy_e) same a b = absurd (let off = no_leaf p a in let never : true ≡ false = sym leafy_e ∙ (ap (is_leaf s) (sym same) ∙ off) in cc)
  one_opener families p q d e (leafy child leafy_d) itself same a b = absurd (let off = no_leaf q b in let never : true ≡ false = sym leafy_d ∙ (ap (is_leaf s) same ∙ off) in cc)
  one_opener families p q d e (leafy child leafy_d) (leafy other leafy_e) same a b = families.single p q d child (subst (λ (x : ℕ). IsChild s q x) (sym same) other)

  -- a list of items below what a parenthesis opens
  abbrev opened_by : ℕ → Option ℕ → Bool
  opened_by d None = false
  opened_by d (Some p) = (is_a s p_cast p || is_a s p_unary p) && (opened p == d)

  abbrev listed : ℕ → ℕ → Bool
  listed d i = is_a s p_items i && opened_by d (parent_of s i)

  parent_in : (d : ℕ) (o : Option ℕ) → opened_by d o ≡ true → (p : ℕ) × (o ≡ Some p) × ((is_a s p_cast p || is_a s p_unary p) ≡ true) × (opened p ≡ d)
  parent_in d None h = cc
  parent_in d (Some p) h = let parts = and_parts (is_a s p_cast p || is_a s p_unary p) (opened p == d) h in (p, refl, parts.0, eqb-true (opened p) d parts.1)

  one_listed : Spanned s → Families s → (d i j : ℕ) → listed d i ≡ true → listed d j ≡ true → i ≡ j
  one_listed spanned families d i j a b =
      let x = and_parts (is_a s p_items i) (opened_by d (parent_of s i)) a in
      let y = and_parts (is_a s p_items j) (opened_by d (parent_of s j)) b in
      let (p, parent, kind, opening) = parent_in d (parent_of s i) x.1 in
      let (q, other, also, closing) = parent_in d (parent_of s j) y.1 in
      let same = one_opener families p q (opened p) (opened q) (opens p) (opens q) (opening ∙ sym closing) kind also in
      let first = child_of_parent p i parent in
      let second : IsChild s p j = subst (λ (z : ℕ). IsChild s z j) (sym same) (child_of_parent q j other) in
      let place = spanned.lists p first.0 second.0 i j first.1 second.1 x.0 y.0 in
      one (sym first.1 ∙ (ap (slice_get (children_at s p)) place ∙ second.1))
    where
      one : {x y : ℕ} → ◌≡◌ {A = Option ℕ} (Some x) (Some y) → x ≡ y
      one h = cc

  listed_is : (d i p : ℕ) → is_a s p_items i ≡ true → parent_of s i ≡ Some p → (is_a s p_cast p || is_a s p_unary p) ≡ true → (opened p == d) ≡ true → listed d i ≡ true
  listed_is d i p is parent kind e =
      both_true (is_a s p_items i) (opened_by d (parent_of s i)) is (subst (λ (o : Option ℕ). opened_by d o ≡ true) (sym parent) (both_true (is_a s p_cast p || is_a s p_unary p) (opened p == d) kind e))

module _ (s : Source) (senses : List Sense) (d : ℕ) where
  literals_made : Makes (literals_of d) s senses (λ i. one_if (listed s d i))
  literals_made = record {
    texts = λ i first rest bytes is e there. omega arith;
    calls = λ i first rest is e there. omega arith;
    objects = λ i declarator leaf paths is by_it named. omega arith;
    literals = λ i p paths is parent kind typed. let h = less_if (opened s p == d) (listed s d i) (λ e. listed_is s d i p is parent kind e) in omega (arith, h);
    blocks = λ i is. omega arith;
    loops = λ i word parenthesis rest c a is e. omega arith;
  }

  -- all bodies together have one such literal at most
  pub few_literals : Spanned s → Families s → AreSenses s senses → length senses ≡ length s.nodes → sum_below (bodies (literals_of d) s senses) (length s.nodes) ≤ 1
  few_literals spanned families are whole =
      let law = counting (literals_of d) s senses (λ i. one_if (listed s d i)) spanned families are whole literals_made in
      let one = once_only (λ i. one_if (listed s d i)) (length s.nodes) (λ i. most_one (listed s d i)) (λ i j h g. one_listed s spanned families d i j (is_one (listed s d i) h) (is_one (listed s d j) g)) in
      omega (arith, law, one)
