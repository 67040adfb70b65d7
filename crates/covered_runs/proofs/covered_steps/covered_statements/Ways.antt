-- The nodes on a way up: each is above the one before it, and all of them stand in one function.
use Rattle.std.proofs.Common.{arith, ◌≡◌, ◌∙◌, inl, inr, ◌⊎◌, ℕ, zero, suc, ◌+◌, ◌-◌, ◌<◌, ◌==◌, nat_lt, ◌&&◌, ◌||◌, not, Bool, true, false, cond, eqb, All, List, [], ◌∷◌, drop, length, find, Option, Some, None, slice_get, refl, sym, ap, subst}
use Rattle.std.specs.List.{list_any, slice_range, enumerate_from}
use Rattle.std.proofs.lemmas.Bool.{false≢true}
use Rattle.std.proofs.lemmas.Bool.Decides.{eqb_tells}
use Rattle.std.proofs.lemmas.List.Elements.{All-head, All-tail}
use Rattle.std.proofs.lemmas.Option.{slice_get_within}
use Rattle.c_types.specs.declared.key.ObjectKey.{ObjectKey}
use Rattle.c_types.specs.declared.key.ObjectKey.TheVariants.{Entity as EntityKey}
use Rattle.core_tree.specs.declared.node.Node.{Node}
use Rattle.core_tree.specs.declared.node.NodeKind.{NodeKind}
use Rattle.core_tree.specs.declared.node.NodeKind.TheVariants.{Block, While, DoWhile, For}
use Rattle.core_tree.specs.Rows.{Has}
use Rattle.core_tree.specs.Range.{child_in, IsChild, InRange}
use Rattle.core_tree.specs.Typed.{CoreTrees}
use Rattle.ref_blocks.specs.declared.ways.Link.{Link}
use Rattle.ref_blocks.specs.Ways.{is_child, parent_from, parent_of, above_in, kind_at, children_in, children_at, is_label, nearest}
use Rattle.ref_blocks.specs.Loops.{behind, after_at, after_of, condition_of, left_behind, either, left_next}
use Rattle.ref_blocks.specs.Jumps.{is_above, meeting}
use Rattle.covering_laws.specs.covered_state.World.{World, trees_of}
use Rattle.covering_laws.specs.covered_state.Items.{Each, IsOwned}
use Rattle.covered_runs.proofs.covered_steps.Owned.{owners_pass, owners_rise}
use Rattle.covered_runs.proofs.covered_steps.Steps.{each_take, each_drop}
use Rattle.covered_runs.specs.covered_steps.covered_statements.Runnable.{IsRunnable}

none_some : {X : Type 0} → {x : X} → ◌≡◌ {A = Option X} None (Some x) → ⊥
none_some h = cc

some_one : {X : Type 0} → {x y : X} → ◌≡◌ {A = Option X} (Some x) (Some y) → x ≡ y
some_one h = cc

pub number_same : (a b : ℕ) → eqb a b ≡ true → a ≡ b
number_same a b e = elim (eqb_tells a b) [ inl is ↦ is.1 | inr other ↦ absurd (false≢true (sym other.0 ∙ e)) ]

pub and_both : (a b : Bool) → (a && b) ≡ true → (a ≡ true) × (b ≡ true)
and_both true b h = (refl, h)
and_both false b h = absurd (false≢true h)

all_at : {X : Type 0} (P : X → Type 0) (xs : List X) (k : ℕ) (x : X) → slice_get xs k ≡ Some x → All P xs → P x
all_at P [] k x e h = absurd (none_some e)
all_at P (y ∷ ys) zero x e h = subst P (some_one e) (All-head P y ys h)
all_at P (y ∷ ys) (suc k) x e h = all_at P ys k x e (All-tail P y ys h)

each_of : {X : Type 0} (P : X → Type 0) (xs : List X) → ((k : ℕ) (x : X) → slice_get xs k ≡ Some x → P x) → Each P xs
each_of P [] h = tt
each_of P (x ∷ xs) h = (h 0 x refl, each_of P xs (λ k y e. h (suc k) y e))

-- a list has each of its elements
pub has_all : (cs : List ℕ) → Each (Has cs) cs
has_all cs = each_of (Has cs) cs (λ k x e. (k, e))

-- Parts of the children of a statement.

pub each_range : {X : Type 0} (P : X → Type 0) (xs : List X) (a b : ℕ) → Each P xs → Each P (slice_range xs a b)
each_range P xs a b h = each_take P (b - a) (drop a xs) (each_drop P a xs h)

each_behind : (P : ℕ → Type 0) (n : ℕ) (cs : List ℕ) → Each P cs → Each P (behind n cs)
each_behind P n [] h = tt
each_behind P n (c ∷ rest) h = by (eqb c n) (each_behind P n rest h.1)
  where
    by : (b : Bool) → Each P (behind n rest) → Each P (cond b rest (behind n rest))
    by true more = h.1
    by false more = more

pub each_after : (P : ℕ → Type 0) (after : Bool) (cs : List ℕ) → Each P cs → Each P (after_of after cs)
each_after P after cs h = each_range P cs (after_at after cs) _ h

pub each_left_behind : (P : ℕ → Type 0) (kind : NodeKind) (cs : List ℕ) (n : ℕ) → Each P cs → Each P (left_behind kind cs n)
each_left_behind P (Block entities) cs n h = each_behind P n cs h
each_left_behind P DoWhile (s ∷ c ∷ []) n h = (h.1.0, tt)
each_left_behind P (For entities condition after) cs n h = each_after P after cs h
each_left_behind P kind cs n h = tt

each_either : (P : ℕ → Type 0) (a b : List ℕ) → Each P a → Each P b → Each P (either a b)
each_either P [] b h g = g
each_either P (c ∷ rest) b h g = h

pub each_left_next : (P : ℕ → Type 0) (kind : NodeKind) (cs : List ℕ) → Each P cs → Each P (left_next kind cs)
each_left_next P While (c ∷ s ∷ []) h = (h.0, tt)
each_left_next P DoWhile (s ∷ c ∷ []) h = (h.1.0, tt)
each_left_next P (For entities condition after) cs h =
    each_either P (after_of after cs) (condition_of condition after cs) (each_after P after cs h) (each_range P cs _ _ h)
each_left_next P kind cs h = tt

-- The node above a node.

child_place : (n : ℕ) (cs : List ℕ) → is_child n cs ≡ true → Has cs n
child_place n [] h = absurd (false≢true h)
child_place n (c ∷ rest) h = by (eqb c n) refl h (λ e. child_place n rest e)
  where
    by : (b : Bool) → eqb c n ≡ b → (b || list_any (λ x. x == n) rest) ≡ true → (is_child n rest ≡ true → Has rest n) → Has (c ∷ rest) n
    by true is e more = (0, ap (λ (x : ℕ). Some x) (number_same c n is))
    by false is e more = let r = more e in (suc r.0, r.1)

parent_found : (n i : ℕ) (nodes : List Node) (p : ℕ) → parent_from n i nodes ≡ Some p → (k : ℕ) × (node : Node) × (p ≡ i + k) × (slice_get nodes k ≡ Some node) × Has node.children n
parent_found n i [] p h = absurd (none_some h)
parent_found n i (node ∷ rest) p h = by (nat_lt n i && is_child n node.children) refl h (λ e. parent_found n (i + 1) rest p e)
  where
    by : (b : Bool) → (nat_lt n i && is_child n node.children) ≡ b → cond b (Some i) (parent_from n (i + 1) rest) ≡ Some p
        → (parent_from n (i + 1) rest ≡ Some p → (k : ℕ) × (x : Node) × (p ≡ (i + 1) + k) × (slice_get rest k ≡ Some x) × Has x.children n)
        → (k : ℕ) × (x : Node) × (p ≡ i + k) × (slice_get (node ∷ rest) k ≡ Some x) × Has x.children n
    by true is e more = (0, node, sym (some_one e) ∙ (let z : i ≡ i + 0 = omega arith in z), refl, child_place n node.children (and_both (nat_lt n i) (is_child n node.children) is).1)
    by false is e more = let r = more e in (suc r.0, r.1, r.2 ∙ (let z : (i + 1) + r.0 ≡ i + suc r.0 = omega arith in z), r.3, r.4)

-- the node above has the node among its children
pub parent_has : (nodes : List Node) (n p : ℕ) → parent_of nodes n ≡ Some p → Has (children_at nodes p) n
parent_has nodes n p h =
    let r = parent_found n 0 nodes p h in
    let at : p ≡ r.0 = r.2 ∙ (let z : 0 + r.0 ≡ r.0 = omega arith in z) in
    subst (λ (cs : List ℕ). Has cs n) (sym (ap (λ (k : ℕ). children_at nodes k) at ∙ ap children_in r.3)) r.4

pub has_child : (u : CoreTrees) (p c : ℕ) → Has (children_at u.nodes p) c → IsChild u p c
has_child u p c has = (has.0, by (slice_get u.nodes p) has.1)
  where
    by : (o : Option Node) → slice_get (children_in o) has.0 ≡ Some c → child_in o has.0 ≡ Some c
    by None e = absurd (none_some e)
    by (Some node) e = e

pub child_within : (u : CoreTrees) → InRange u → (p c : ℕ) → Has (children_at u.nodes p) c → (c < length u.nodes) × (p < length u.nodes)
child_within u range p c has = by (slice_get u.nodes p) refl has
  where
    by : (o : Option Node) → slice_get u.nodes p ≡ o → Has (children_in o) c → (c < length u.nodes) × (p < length u.nodes)
    by None is h = absurd (none_some h.1)
    by (Some node) is h =
        let less : c < p = all_at (λ (x : ℕ). x < p) node.children h.0 c h.1 (range.children p node is) in
        let here = slice_get_within u.nodes p node is in
        (omega arith, here)

-- a node is on a way up
abbrev pub Meets : ℕ → List Link → Type 0
Meets a [] = ⊥
Meets a (link ∷ rest) = (link.node ≡ a) ⊎ Meets a rest

pub above_found : (nodes : List Node) (f n p : ℕ) → parent_of nodes n ≡ Some p → above_in nodes (suc f) n ≡ record { node = p; child = n } ∷ above_in nodes f p
above_found nodes f n p h = rw (h, above_in)

pub above_none : (nodes : List Node) (f n : ℕ) → parent_of nodes n ≡ None → above_in nodes (suc f) n ≡ []
above_none nodes f n h = rw (h, above_in)

pub nearest_meets : (nodes : List Node) (test : NodeKind → Bool) (links : List Link) (a : ℕ) → nearest nodes test links ≡ Some a → Meets a links × (test (kind_at nodes a) ≡ true)
nearest_meets nodes test [] a h = absurd (none_some h)
nearest_meets nodes test (link ∷ rest) a h = by (test (kind_at nodes link.node)) refl h (λ e. nearest_meets nodes test rest a e)
  where
    by : (b : Bool) → test (kind_at nodes link.node) ≡ b → cond b (Some link.node) (nearest nodes test rest) ≡ Some a → (nearest nodes test rest ≡ Some a → Meets a rest × (test (kind_at nodes a) ≡ true))
        → Meets a (link ∷ rest) × (test (kind_at nodes a) ≡ true)
    by true is e more = (inl (some_one e), subst (λ (k : ℕ). test (kind_at nodes k) ≡ true) (some_one e) is)
    by false is e more = let r = more e in (inr r.0, r.1)

any_meets : (a : ℕ) (links : List Link) → is_above a links ≡ true → Meets a links
any_meets a [] h = absurd (false≢true h)
any_meets a (link ∷ rest) h = by (eqb link.node a) refl h (λ e. any_meets a rest e)
  where
    by : (b : Bool) → eqb link.node a ≡ b → (b || list_any (λ l. l.node == a) rest) ≡ true → (is_above a rest ≡ true → Meets a rest) → Meets a (link ∷ rest)
    by true is e more = inl (number_same link.node a is)
    by false is e more = inr (more e)

not_true : (b : Bool) → not b ≡ true → b ≡ false
not_true true h = absurd (false≢true h)
not_true false h = refl

-- where two ways meet: both have the node, and it is no label
pub meeting_meets : (nodes : List Node) (from links : List Link) (a : ℕ) → meeting nodes from links ≡ Some a → Meets a from × Meets a links × (is_label (kind_at nodes a) ≡ false)
meeting_meets nodes from [] a h = absurd (none_some h)
meeting_meets nodes from (link ∷ rest) a h = by (is_above link.node from && not (is_label (kind_at nodes link.node))) refl h (λ e. meeting_meets nodes from rest a e)
  where
    by : (b : Bool) → (is_above link.node from && not (is_label (kind_at nodes link.node))) ≡ b → cond b (Some link.node) (meeting nodes from rest) ≡ Some a
        → (meeting nodes from rest ≡ Some a → Meets a from × Meets a rest × (is_label (kind_at nodes a) ≡ false)) → Meets a from × Meets a (link ∷ rest) × (is_label (kind_at nodes a) ≡ false)
    by true is e more =
        let both = and_both (is_above link.node from) (not (is_label (kind_at nodes link.node))) is in (
          subst (λ (k : ℕ). Meets k from) (some_one e) (any_meets link.node from both.0),
          inl (some_one e),
          subst (λ (k : ℕ). is_label (kind_at nodes k) ≡ false) (some_one e) (not_true (is_label (kind_at nodes link.node)) both.1),
        )
    by false is e more = let r = more e in (r.0, inr r.1, r.2)

-- a node that is sought among all has what is sought
pub found_node : (test : ℕ × Node → Bool) (i : ℕ) (nodes : List Node) (e : ℕ × Node) → find test (enumerate_from i nodes) ≡ Some e → (k : ℕ) × (e.0 ≡ i + k) × (slice_get nodes k ≡ Some e.1) × (test e ≡ true)
found_node test i [] e h = absurd (none_some h)
found_node test i (node ∷ rest) e h = by (test (i, node)) refl h (λ g. found_node test (i + 1) rest e g)
  where
    by : (b : Bool) → test (i, node) ≡ b → cond b (Some (i, node)) (find test (enumerate_from (i + 1) rest)) ≡ Some e
        → (find test (enumerate_from (i + 1) rest) ≡ Some e → (k : ℕ) × (e.0 ≡ (i + 1) + k) × (slice_get rest k ≡ Some e.1) × (test e ≡ true))
        → (k : ℕ) × (e.0 ≡ i + k) × (slice_get (node ∷ rest) k ≡ Some e.1) × (test e ≡ true)
    by true is g more =
        let same : (i, node) ≡ e = some_one g in
        (0, sym (ap (λ (x : ℕ × Node). x.0) same) ∙ (let z : i ≡ i + 0 = omega arith in z), ap (λ (x : ℕ × Node). Some x.1) same, subst (λ (x : ℕ × Node). test x ≡ true) same is)
    by false is g more = let r = more g in (suc r.0, r.1 ∙ (let z : (i + 1) + r.0 ≡ i + suc r.0 = omega arith in z), r.2, r.3)

-- All nodes on a way stand in the function in which one of them stands.
module _ (world : World) (runs : IsRunnable world) where
  abbrev u : CoreTrees
  u = trees_of world

  pub child_owned : (f : ObjectKey) (p c : ℕ) → IsOwned world f p → Has (children_at u.nodes p) c → IsOwned world f c
  child_owned (EntityKey g) p c owned has = owners_pass world g p c runs.once runs.tops runs.single owned (has_child u p c has) (child_within u runs.range p c has).0
  child_owned key p c owned has = absurd owned

  parent_owned : (f : ObjectKey) (p c : ℕ) → IsOwned world f c → Has (children_at u.nodes p) c → IsOwned world f p
  parent_owned (EntityKey g) p c owned has = owners_rise world g p c runs.once runs.tops runs.single owned (has_child u p c has) (child_within u runs.range p c has).1
  parent_owned key p c owned has = absurd owned

  pub children_owned : (f : ObjectKey) (n : ℕ) → IsOwned world f n → (cs : List ℕ) → Each (Has (children_at u.nodes n)) cs → Each (IsOwned world f) cs
  children_owned f n owned [] h = tt
  children_owned f n owned (c ∷ cs) h = (child_owned f n c owned h.0, children_owned f n owned cs h.1)

  -- down to the node from which the way goes
  pub way_down : (f : ObjectKey) (a fuel x : ℕ) → IsOwned world f a → Meets a (above_in u.nodes fuel x) → IsOwned world f x
  way_down f a zero x owned meets = absurd meets
  way_down f a (suc fuel) x owned meets = by (parent_of u.nodes x) refl (λ p m. way_down f a fuel p owned m)
    where
      by : (o : Option ℕ) → parent_of u.nodes x ≡ o → ((p : ℕ) → Meets a (above_in u.nodes fuel p) → IsOwned world f p) → IsOwned world f x
      by None is next = absurd (subst (Meets a) (above_none u.nodes fuel x is) meets)
      by (Some p) is next =
          elim (subst (Meets a) (above_found u.nodes fuel x p is) meets) [
            | inl same ↦ child_owned f p x (subst (IsOwned world f) (sym same) owned) (parent_has u.nodes x p is)
            | inr more ↦ child_owned f p x (next p more) (parent_has u.nodes x p is)
          ]

  -- and up
  pub way_up : (f : ObjectKey) (a fuel x : ℕ) → IsOwned world f x → Meets a (above_in u.nodes fuel x) → IsOwned world f a
  way_up f a zero x owned meets = absurd meets
  way_up f a (suc fuel) x owned meets = by (parent_of u.nodes x) refl (λ p own m. way_up f a fuel p own m)
    where
      by : (o : Option ℕ) → parent_of u.nodes x ≡ o → ((p : ℕ) → IsOwned world f p → Meets a (above_in u.nodes fuel p) → IsOwned world f a) → IsOwned world f a
      by None is next = absurd (subst (Meets a) (above_none u.nodes fuel x is) meets)
      by (Some p) is next =
          let own = parent_owned f p x owned (parent_has u.nodes x p is) in
          elim (subst (Meets a) (above_found u.nodes fuel x p is) meets) [ inl same ↦ subst (IsOwned world f) same own | inr more ↦ next p own more ]
