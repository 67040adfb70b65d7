-- Nodes under nodes, before and behind the planting.
use Rattle.std.proofs.Common.{arith, ◌≡◌, ◌∙◌, ℕ, zero, suc, ◌+◌, ◌<◌, ◌≤◌, nat_eq, ◌⊎◌, inl, inr, Bool, true, false, List, [], ◌∷◌, length, get_or, map, slice_get, Option, Some, None, refl, ap, subst, All}
use Rattle.std.specs.Prelude.{if◌then◌else◌}
use Rattle.std.proofs.lemmas.Bool.{eqb-true, eqb-false}
use Rattle.std.proofs.lemmas.Option.{slice_get_within, get_or_from_slice_get}
use Rattle.core_tree.specs.declared.node.Node.{Node}
use Rattle.core_tree.specs.declared.node.Unit.{Unit}
use Rattle.core_tree.specs.Range.{child_in}
use Rattle.c_consts.specs.Core.{Core, Cores, core_in}
use Rattle.core_nodes.specs.Standing.{core_at, cores_at, IsReady}
use Rattle.core_nodes.proofs.Reading.{under_is}
use Rattle.core_nodes.specs.kept_nodes.Marked.{ChildIn, marked}
use Rattle.c_senses.specs.Tree.{Source}
use Rattle.c_senses.specs.Sense.{Sense}
use Rattle.c_senses.specs.Right.{Within, Itself, Below, IsPart}
use Rattle.unit_finish.specs.declared.unit_parts.declared.Declared.{Declared}
use Rattle.unit_finish.specs.unit_parts.Entities.{with_body}
use Rattle.unit_finish.specs.unit_parts.Marked.{AreMarked}
use Rattle.unit_finish.specs.planted_nodes.Planted.{IsUnder, here, below}
use Rattle.unit_finish.specs.own_bodies.Own.{is_automatic, lasting_bodies}

some_one : {X : Type 0} → {x y : X} → ◌≡◌ {A = Option X} (Some x) (Some y) → x ≡ y
some_one h = cc

pub child_of_some : (o : Option Node) (k i : ℕ) → child_in o k ≡ Some i → (node : Node) × (o ≡ Some node) × (slice_get node.children k ≡ Some i)
child_of_some None k i e = cc
child_of_some (Some node) k i e = (node, refl, e)

pub below_at : (list : List ℕ) (n k i : ℕ) → All (λ c. c < n) list → slice_get list k ≡ Some i → i < n
below_at list n k i h at = let lt = slice_get_within list k i at in subst (λ (c : ℕ). c < n) (get_or_from_slice_get list k i 0 at) (h k 0 lt)

-- ---- a node is a child, or none's

find_in : (cs : List ℕ) (b : ℕ) → ((k : ℕ) × (slice_get cs k ≡ Some b)) ⊎ ((k : ℕ) → slice_get cs k ≡ Some b → ⊥)
find_in [] b = inr (λ k e. none k e)
  where
    none : (k : ℕ) → ◌≡◌ {A = Option ℕ} (slice_get [] k) (Some b) → ⊥
    none k e = cc
find_in (c ∷ cs) b = by (nat_eq c b) refl (find_in cs b)
  where
    skip : (c ≡ b → ⊥) → ((k : ℕ) → slice_get cs k ≡ Some b → ⊥) → (k : ℕ) → slice_get (c ∷ cs) k ≡ Some b → ⊥
    skip differ h zero e = differ (some_one e)
    skip differ h (suc k) e = h k e

    by : (t : Bool) → nat_eq c b ≡ t → ((k : ℕ) × (slice_get cs k ≡ Some b)) ⊎ ((k : ℕ) → slice_get cs k ≡ Some b → ⊥) → ((k : ℕ) × (slice_get (c ∷ cs) k ≡ Some b)) ⊎ ((k : ℕ) → slice_get (c ∷ cs) k ≡ Some b → ⊥)
    by true e rest = inl (0, ap (λ (z : ℕ). Some z) (eqb-true c b e))
    by false e (inl h) = inl (suc h.0, h.1)
    by false e (inr h) = inr (skip (eqb-false c b e) h)

pub child_or_none : (nodes : List Node) (b : ℕ) → ((p : ℕ) × ChildIn nodes p b) ⊎ ((p : ℕ) → ChildIn nodes p b → ⊥)
child_or_none [] b = inr (λ p h. none p h.0 h.1)
  where
    none : (p k : ℕ) → child_in (slice_get [] p) k ≡ Some b → ⊥
    none p k e = cc
child_or_none (x ∷ nodes) b = by (find_in x.children b) (child_or_none nodes b)
  where
    skip : ((k : ℕ) → slice_get x.children k ≡ Some b → ⊥) → ((p : ℕ) → ChildIn nodes p b → ⊥) → (p : ℕ) → ChildIn (x ∷ nodes) p b → ⊥
    skip own h zero c = own c.0 c.1
    skip own h (suc p) c = h p (c.0, c.1)

    by : ((k : ℕ) × (slice_get x.children k ≡ Some b)) ⊎ ((k : ℕ) → slice_get x.children k ≡ Some b → ⊥) → ((p : ℕ) × ChildIn nodes p b) ⊎ ((p : ℕ) → ChildIn nodes p b → ⊥)
        → ((p : ℕ) × ChildIn (x ∷ nodes) p b) ⊎ ((p : ℕ) → ChildIn (x ∷ nodes) p b → ⊥)
    by (inl h) rest = inl (0, (h.0, h.1))
    by (inr own) (inl h) = inl (suc h.0, (h.1.0, h.1.1))
    by (inr own) (inr h) = inr (skip own h)

-- the copies of two lists
pub twin : (f g : ℕ → ℕ) (xs ys : List ℕ) (q x : ℕ) → map f ys ≡ map g xs → slice_get xs q ≡ Some x → (y : ℕ) × (slice_get ys q ≡ Some y) × (f y ≡ g x)
twin f g [] ys q x e at = cc
twin f g (a ∷ xs) [] q x e at = cc
twin f g (a ∷ xs) (b ∷ ys) zero x e at =
    let same : a ≡ x = some_one at in
    let first : f b ≡ g a = cc in
    (b, refl, first ∙ ap g same)
twin f g (a ∷ xs) (b ∷ ys) (suc q) x e at = let rest : map f ys ≡ map g xs = cc in twin f g xs ys q x rest at

-- a body that lasts is that of one that does
pub lasting_back : (list : List Declared) (q b : ℕ) → slice_get (lasting_bodies list) q ≡ Some b → (k : ℕ) × (x : Declared) × (slice_get list k ≡ Some x) × (is_automatic x.storage ≡ false) × (x.body ≡ Some b)
lasting_back [] q b at = cc
lasting_back (y ∷ list) q b at = by (is_automatic y.storage) refl y.body q refl at (λ j e. lasting_back list j b e)
  where
    later : (k : ℕ) × (x : Declared) × (slice_get list k ≡ Some x) × (is_automatic x.storage ≡ false) × (x.body ≡ Some b) → (k : ℕ) × (x : Declared) × (slice_get (y ∷ list) k ≡ Some x) × (is_automatic x.storage ≡ false) × (x.body ≡ Some b)
    later r = (suc r.0, r.1, r.2, r.3, r.4)

    by : (a : Bool) → is_automatic y.storage ≡ a → (o : Option ℕ) (j : ℕ) → y.body ≡ o → slice_get (if a then lasting_bodies list else with_body o (lasting_bodies list)) j ≡ Some b
        → ((j : ℕ) → slice_get (lasting_bodies list) j ≡ Some b → (k : ℕ) × (x : Declared) × (slice_get list k ≡ Some x) × (is_automatic x.storage ≡ false) × (x.body ≡ Some b))
        → (k : ℕ) × (x : Declared) × (slice_get (y ∷ list) k ≡ Some x) × (is_automatic x.storage ≡ false) × (x.body ≡ Some b)
    by true off o j body e rest = later (rest j e)
    by false off None j body e rest = later (rest j e)
    by false off (Some c) zero body e rest = let same : c ≡ b = cc in (0, y, refl, off, body ∙ ap Some same)
    by false off (Some c) (suc j) body e rest = later (rest j e)

-- ---- a marked node is under a top
module _ (old : Unit) (ready : IsReady old) where
  module _ (marks : List Bool) (tops : List ℕ) (are : AreMarked old.nodes.items tops marks) where
    marked_in : (k : ℕ) (bs : List Bool) → marked bs k → k < length bs
    marked_in k [] on = cc
    marked_in zero (b ∷ bs) on = omega arith
    marked_in (suc k) (b ∷ bs) on = let h = marked_in k bs on in omega (arith, h)

    from_top : (k j : ℕ) → length old.nodes.items ≤ j + k → marked marks j → (q : ℕ) × (q < length tops) × IsUnder old.nodes.items (get_or tops q 0) j
    from_top zero j le on = let lt = marked_in j marks on in absurd (omega (arith, lt, are.long, le))
    from_top (suc k) j le on =
        elim (are.reached j on) [
          | inl q ↦ (q.0, q.1, subst (λ (i : ℕ). IsUnder old.nodes.items (get_or tops q.0 0) i) q.2 here)
          | inr p ↦
              let (x, at, child) = child_of_some (slice_get old.nodes.items p.0) p.2.0 j p.2.1 in
              let above = below_at x.children p.0 p.2.0 j (ready.children p.0 x at) child in
              let r = from_top k p.0 (omega (arith, above, le)) p.1 in
              (r.0, r.1, below r.2 p.2)
        ]

    pub under_top : (j : ℕ) → marked marks j → (q : ℕ) × (q < length tops) × IsUnder old.nodes.items (get_or tops q 0) j
    under_top j on = from_top (length old.nodes.items) j (omega arith) on

  -- and its tree stands inside the top's
  module _ (s : Source) (senses : List Sense) where
    at_core : (cs : List ℕ) (k c : ℕ) → slice_get cs k ≡ Some c → core_in (cores_at old cs) k ≡ Some (core_at old c)
    at_core [] k c at = cc
    at_core (d ∷ cs) zero c at = ap (λ (i : ℕ). Some (core_at old i)) (some_one at)
    at_core (d ∷ cs) (suc k) c at = at_core cs k c at

    within_part : (part c top : Core) → Within s senses c top → IsPart s senses part c → Within s senses part top
    within_part part c top Itself h = Below h Itself
    within_part part c top (Below g w) h = Below g (within_part part c _ w h)

    pub under_within : {t j : ℕ} → IsUnder old.nodes.items t j → Within s senses (core_at old j) (core_at old t)
    under_within here = Itself
    under_within {t = t} (below {parent = p} {child = j} under h) =
        let (x, at, child) = child_of_some (slice_get old.nodes.items p) h.0 j h.1 in
        within_part (core_at old j) (core_at old p) (core_at old t) (under_within under) (h.0, ap (λ (cs : Cores). core_in cs h.0) (under_is old ready p x at) ∙ at_core x.children h.0 j child)
