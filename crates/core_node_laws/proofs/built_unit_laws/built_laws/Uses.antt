-- The least place at which an entity is named.
use Rattle.std.proofs.Common.{arith, ◌≡◌, ◌∙◌, ◌⊎◌, ℕ, zero, suc, ◌<◌, ◌≤◌, ◌||◌, ◌&&◌, Bool, true, false, cond, List, [], ◌∷◌, Option, Some, None, slice_get, refl, sym, ap, subst, inl, inr}
use Rattle.std.specs.Prelude.{◌==◌, nat_lt}
use Rattle.std.proofs.lemmas.Bool.{eqb-true, eqb-false, ltb-true, ltb-false, cases_order, eq-eqb, both_ways}
use Rattle.pta_base.specs.declared.place.Place.{Place}
use Rattle.core_tree.specs.declared.node.Node.{Node}
use Rattle.core_tree.specs.declared.node.Unit.{Unit}
use Rattle.core_tree.specs.declared.node.NodeKind.{NodeKind}
use Rattle.core_tree.specs.declared.node.NodeKind.TheVariants.{Named, FunctionName}
use Rattle.core_tree.specs.Typed.{trees_of}
use Rattle.core_tree.specs.Valid.{PlaceAtMost, IsUseOf, IsUsed, UsesRight}
use Rattle.c_senses.specs.Tree.{Source}
use Rattle.core_node_laws.specs.built_unit_laws.built_units.PassedOn.{used_by, is_use, is_before, earlier, least_use}
use Rattle.core_node_laws.specs.built_unit_laws.built_units.Built.{IsBuilt}

some_one : {X : Type 0} → {x y : X} → ◌≡◌ {A = Option X} (Some x) (Some y) → x ≡ y
some_one h = cc

some_none : {X : Type 0} → {x : X} → ◌≡◌ {A = Option X} (Some x) None → ⊥
some_none h = cc

none_some : {X : Type 0} → {x : X} → ◌≡◌ {A = Option X} None (Some x) → ⊥
none_some h = cc

-- the order of places
line_after : (a b c : Place) → (a.line < b.line) ⊎ ((a.line ≡ b.line) × (a.column ≤ b.column)) → (b.line < c.line) ⊎ ((b.line ≡ c.line) × (b.column ≤ c.column))
    → (a.line < c.line) ⊎ ((a.line ≡ c.line) × (a.column ≤ c.column))
line_after a b c (inl x) (inl y) = inl (omega arith)
line_after a b c (inl x) (inr y) = (let e = y.0 in inl (omega arith))
line_after a b c (inr x) (inl y) = (let e = x.0 in inl (omega arith))
line_after a b c (inr x) (inr y) = (let l = x.1 in let m = y.1 in inr (x.0 ∙ y.0, omega arith))

place_after : (a b c : Place) → PlaceAtMost a b → PlaceAtMost b c → PlaceAtMost a c
place_after a b c (inl x) (inl y) = inl (omega arith)
place_after a b c (inl x) (inr y) = (let e = y.0 in inl (omega arith))
place_after a b c (inr x) (inl y) = (let e = x.0 in inl (omega arith))
place_after a b c (inr x) (inr y) = inr (x.0 ∙ y.0, line_after a b c x.1 y.1)

same_place : (p : Place) → PlaceAtMost p p
same_place p = inr (refl, inr (refl, omega arith))

-- what the test of the order says
column_from : (p q : Place) → (t : Bool) → nat_lt p.column q.column ≡ t → (t ≡ true → p.column < q.column) × (t ≡ false → q.column ≤ p.column)
column_from p q t e = (λ h. ltb-true p.column q.column (e ∙ h), λ h. ltb-false p.column q.column (e ∙ h))

line_least : (p q : Place) (lt same : Bool) → nat_lt p.line q.line ≡ lt → (p.line == q.line) ≡ same → (lt || (same && nat_lt p.column q.column)) ≡ true → (p.line < q.line) ⊎ ((p.line ≡ q.line) × (p.column ≤ q.column))
line_least p q true same l e h = inl (ltb-true p.line q.line l)
line_least p q false true l e h = let c = ltb-true p.column q.column h in inr (eqb-true p.line q.line e, omega arith)
line_least p q false false l e h = cc

before_at_most : (p q : Place) (lt same : Bool) → nat_lt p.unit q.unit ≡ lt → (p.unit == q.unit) ≡ same → (lt || (same && (nat_lt p.line q.line || ((p.line == q.line) && nat_lt p.column q.column)))) ≡ true → PlaceAtMost p q
before_at_most p q true same l e h = inl (ltb-true p.unit q.unit l)
before_at_most p q false true l e h = inr (eqb-true p.unit q.unit e, line_least p q (nat_lt p.line q.line) (p.line == q.line) refl refl h)
before_at_most p q false false l e h = cc

line_most : (p q : Place) (lt same : Bool) → nat_lt p.line q.line ≡ lt → (p.line == q.line) ≡ same → (lt || (same && nat_lt p.column q.column)) ≡ false → (q.line < p.line) ⊎ ((q.line ≡ p.line) × (q.column ≤ p.column))
line_most p q true same l e h = cc
line_most p q false true l e h = inr (sym (eqb-true p.line q.line e), ltb-false p.column q.column h)
line_most p q false false l e h = let a = ltb-false p.line q.line l in let d = eqb-false p.line q.line e in inl (elim (cases_order p.line q.line) [
  | inl same ↦ absurd (d same)
  | inr (inl lt) ↦ omega arith
  | inr (inr lt) ↦ lt
])

after_at_most : (p q : Place) (lt same : Bool) → nat_lt p.unit q.unit ≡ lt → (p.unit == q.unit) ≡ same → (lt || (same && (nat_lt p.line q.line || ((p.line == q.line) && nat_lt p.column q.column)))) ≡ false → PlaceAtMost q p
after_at_most p q true same l e h = cc
after_at_most p q false true l e h = inr (sym (eqb-true p.unit q.unit e), line_most p q (nat_lt p.line q.line) (p.line == q.line) refl refl h)
after_at_most p q false false l e h = let a = ltb-false p.unit q.unit l in let d = eqb-false p.unit q.unit e in inl (elim (cases_order p.unit q.unit) [
  | inl same ↦ absurd (d same)
  | inr (inl lt) ↦ omega arith
  | inr (inr lt) ↦ lt
])

-- a use is what names the entity
use_tells : (kind : NodeKind) (e : ℕ) → is_use (used_by kind) e ≡ true → IsUseOf kind e
use_tells (Named o) e h = eqb-true o e h
use_tells (FunctionName o) e h = eqb-true o e h
use_tells kind e h = cc

use_told : (kind : NodeKind) (e : ℕ) → IsUseOf kind e → is_use (used_by kind) e ≡ true
use_told (Named o) e h = eq-eqb o e h
use_told (FunctionName o) e h = eq-eqb o e h
use_told kind e h = absurd h

abbrev HasUseAt : List Node → ℕ → Place → Type 0
HasUseAt nodes e p = (n : ℕ) × (node : Node) × (slice_get nodes n ≡ Some node) × IsUseOf node.kind e × (node.place ≡ p)

abbrev UsedBehind : List Node → ℕ → Place → Type 0
UsedBehind nodes e p = (n : ℕ) (node : Node) → slice_get nodes n ≡ Some node → IsUseOf node.kind e → PlaceAtMost p node.place

abbrev Unused : List Node → ℕ → Type 0
Unused nodes e = (n : ℕ) (node : Node) → slice_get nodes n ≡ Some node → IsUseOf node.kind e → ⊥

-- where there is a place so far, there is one at the end, which is the least
pub record IsLeast (nodes : List Node) (e : ℕ) (so_far p : Place) : Type 0 where
  pub from : (so_far ≡ p) ⊎ HasUseAt nodes e p
  pub least : PlaceAtMost p so_far
  pub each : UsedBehind nodes e p

use_on : (x : Node) (nodes : List Node) (e : ℕ) (p : Place) → HasUseAt nodes e p → HasUseAt (x ∷ nodes) e p
use_on x nodes e p h = (suc h.0, h.1, h.2, h.3, h.4)

passed : (x : Node) (nodes : List Node) (e : ℕ) (q p : Place) → is_use (used_by x.kind) e ≡ false → IsLeast nodes e q p → IsLeast (x ∷ nodes) e q p
passed x nodes e q p none least = record {
  from = elim least.from [ inl same ↦ inl same | inr named ↦ inr (use_on x nodes e p named) ];
  least = least.least;
  each = behind;
}
  where
    behind : UsedBehind (x ∷ nodes) e p
    behind zero node at named =
        let same : x ≡ node = some_one at in
        absurd (both_ways (is_use (used_by x.kind) e) none (use_told x.kind e (subst (λ (y : Node). IsUseOf y.kind e) (sym same) named)))
    behind (suc n) node at named = least.each n node at named

taken : (x : Node) (nodes : List Node) (e : ℕ) (q m p : Place) → is_use (used_by x.kind) e ≡ true → (m ≡ q) ⊎ (m ≡ x.place) → PlaceAtMost m q → PlaceAtMost m x.place → IsLeast nodes e m p → IsLeast (x ∷ nodes) e q p
taken x nodes e q m p is one before own least = record {
  from = elim least.from [
    | inl same ↦ elim one [ inl old ↦ inl (sym old ∙ same) | inr new ↦ inr (0, x, refl, use_tells x.kind e is, sym new ∙ same) ]
    | inr named ↦ inr (use_on x nodes e p named)
  ];
  least = place_after p m q least.least before;
  each = behind;
}
  where
    behind : UsedBehind (x ∷ nodes) e p
    behind zero node at named =
        let same : x ≡ node = some_one at in
        subst (λ (y : Node). PlaceAtMost p y.place) same (place_after p m x.place least.least own)
    behind (suc n) node at named = least.each n node at named

-- the earlier of two places
pub record IsEarlier (q x m : Place) : Type 0 where
  pub is : earlier (Some q) x ≡ Some m
  pub one : (m ≡ q) ⊎ (m ≡ x)
  pub before : PlaceAtMost m q
  pub own : PlaceAtMost m x

earlier_by : (q x : Place) (t : Bool) → is_before x q ≡ t → (m : Place) × IsEarlier q x m
earlier_by q x true h = (
  x,
  record {
    is = ap (λ (b : Bool). cond b (Some x) (Some q)) h;
    one = inr refl;
    before = before_at_most x q (nat_lt x.unit q.unit) (x.unit == q.unit) refl refl h;
    own = same_place x;
  },
)
earlier_by q x false h = (
  q,
  record {
    is = ap (λ (b : Bool). cond b (Some x) (Some q)) h;
    one = inl refl;
    before = same_place q;
    own = after_at_most x q (nat_lt x.unit q.unit) (x.unit == q.unit) refl refl h;
  },
)

-- over the uses among the nodes behind
Least : List Node → ℕ → Place → Type 0
Least nodes e q = (p : Place) × (least_use (Some q) e nodes ≡ Some p) × IsLeast nodes e q p

least_over : (x : Node) (rest : List Node) (e : ℕ) (q : Place) → ((m : Place) → Least rest e m) → (t : Bool) → is_use (used_by x.kind) e ≡ t → Least (x ∷ rest) e q
unfolding Least
least_over x rest e q behind true h =
    let (m, is) = earlier_by q x.place (is_before x.place q) refl in
    let (p, found, least) = behind m in
    let e1 : least_use (Some q) e (x ∷ rest) ≡ least_use (earlier (Some q) x.place) e rest = ap (λ (b : Bool). cond b (least_use (earlier (Some q) x.place) e rest) (least_use (Some q) e rest)) h in
    (p, e1 ∙ (ap (λ (o : Option Place). least_use o e rest) is.is ∙ found), taken x rest e q m p h is.one is.before is.own least)
least_over x rest e q behind false h =
    let (p, found, least) = behind q in
    let e1 : least_use (Some q) e (x ∷ rest) ≡ least_use (Some q) e rest = ap (λ (b : Bool). cond b (least_use (earlier (Some q) x.place) e rest) (least_use (Some q) e rest)) h in
    (p, e1 ∙ found, passed x rest e q p h least)

least_from : (nodes : List Node) (e : ℕ) (q : Place) → Least nodes e q
unfolding Least
least_from [] e q = (q, refl, record { from = inl refl; least = same_place q; each = λ n node at named. absurd (none_some at) })
least_from (x ∷ rest) e q = least_over x rest e q (λ m. least_from rest e m) (is_use (used_by x.kind) e) refl

-- what is found, or that there is nothing
abbrev IsFound : List Node → ℕ → Option Place → Type 0
IsFound nodes e None = Unused nodes e
IsFound nodes e (Some p) = HasUseAt nodes e p × UsedBehind nodes e p

found_on : (x : Node) (nodes : List Node) (e : ℕ) (o : Option Place) → is_use (used_by x.kind) e ≡ false → IsFound nodes e o → IsFound (x ∷ nodes) e o
found_on x nodes e None none h = unused
  where
    unused : Unused (x ∷ nodes) e
    unused zero node at named =
        let same : x ≡ node = some_one at in
        both_ways (is_use (used_by x.kind) e) none (use_told x.kind e (subst (λ (y : Node). IsUseOf y.kind e) (sym same) named))
    unused (suc n) node at named = h n node at named
found_on x nodes e (Some p) none h = (use_on x nodes e p h.0, behind)
  where
    behind : UsedBehind (x ∷ nodes) e p
    behind zero node at named =
        let same : x ≡ node = some_one at in
        absurd (both_ways (is_use (used_by x.kind) e) none (use_told x.kind e (subst (λ (y : Node). IsUseOf y.kind e) (sym same) named)))
    behind (suc n) node at named = h.1 n node at named

first_found : (x : Node) (rest : List Node) (e : ℕ) (p : Place) → is_use (used_by x.kind) e ≡ true → IsLeast rest e x.place p → IsFound (x ∷ rest) e (Some p)
first_found x rest e p is least = (first least.from, behind)
  where
    first : (x.place ≡ p) ⊎ HasUseAt rest e p → HasUseAt (x ∷ rest) e p
    first (inl same) = (0, x, refl, use_tells x.kind e is, same)
    first (inr there) = use_on x rest e p there

    behind : UsedBehind (x ∷ rest) e p
    behind zero node at used = subst (λ (y : Node). PlaceAtMost p y.place) (some_one at) least.least
    behind (suc n) node at used = least.each n node at used

found_over : (x : Node) (rest : List Node) (e : ℕ) → IsFound rest e (least_use None e rest) → (t : Bool) → is_use (used_by x.kind) e ≡ t → IsFound (x ∷ rest) e (least_use None e (x ∷ rest))
unfolding Least
found_over x rest e behind true h =
    let (p, found, least) = least_from rest e x.place in
    let e1 : least_use None e (x ∷ rest) ≡ least_use (Some x.place) e rest = ap (λ (b : Bool). cond b (least_use (Some x.place) e rest) (least_use None e rest)) h in
    subst (IsFound (x ∷ rest) e) (sym (e1 ∙ found)) (first_found x rest e p h least)
found_over x rest e behind false h =
    let e1 : least_use None e (x ∷ rest) ≡ least_use None e rest = ap (λ (b : Bool). cond b (least_use (Some x.place) e rest) (least_use None e rest)) h in
    subst (IsFound (x ∷ rest) e) (sym e1) (found_on x rest e (least_use None e rest) h behind)

pub least_found : (nodes : List Node) (e : ℕ) → IsFound nodes e (least_use None e nodes)
least_found [] e = λ n node at named. none_some at
least_found (x ∷ rest) e = found_over x rest e (least_found rest e) (is_use (used_by x.kind) e) refl

used_so : (u : Unit) (e : ℕ) (o : Option Place) → IsFound u.nodes.items e o → IsUsed (trees_of u) e o
used_so u e None h = h
used_so u e (Some p) h =
    let named = h.0 in
    (record { some = (named.0, named.1, named.2, (named.3, named.4)) }, record { each = h.1 })

pub uses_right : (s : Source) (name : List ℕ) (u : Unit) → IsBuilt s name u → UsesRight (trees_of u)
uses_right s name u b e entity at = subst (IsUsed (trees_of u) e) (sym (b.entered e entity at).used) (used_so u e (least_use None e u.nodes.items) (least_found u.nodes.items e))
