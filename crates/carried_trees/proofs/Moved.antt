-- A tree that was carried, with its compound literals.
use Rattle.std.proofs.Common.{arith, ◌≡◌, ◌∙◌, ℕ, zero, suc, ◌+◌, ◌-◌, ◌<◌, ◌||◌, ◌⊎◌, inl, inr, Bool, true, false, List, [], ◌∷◌, All, length, get_or, map, slice_get, Option, Some, None, is_some, refl, sym, ap, subst}
use Rattle.std.proofs.Math.Path.{fun_ext}
use Rattle.std.proofs.lemmas.Bool.Decides.{eqb_tells}
use Rattle.std.proofs.lemmas.List.Elements.{All-head, All-tail}
use Rattle.std.proofs.lemmas.Option.{slice_get_within, slice_get-map}
use Rattle.std.specs.Option.{option_map, unwrap_or}
use Rattle.c_types.specs.Trees.{Ctype}
use Rattle.c_types.specs.Table.{type_of}
use Rattle.core_tree.specs.declared.node.Node.{Node}
use Rattle.core_tree.specs.declared.node.NodeKind.{NodeKind}
use Rattle.core_tree.specs.declared.node.NodeKind.TheVariants.{Literal}
use Rattle.core_tree.specs.declared.node.Unit.{Unit}
use Rattle.core_tree.specs.Typed.{trees_of}
use Rattle.core_tree.specs.Range.{child_in, Under, here, below}
use Rattle.c_consts.specs.Core.{Core, Of}
use Rattle.core_nodes.specs.Standing.{core_at, cores_at, IsReady}
use Rattle.core_nodes.proofs.Reading.{core_is}
use Rattle.core_nodes.specs.kept_nodes.Keeps.{AllUnder}
use Rattle.tree_reads.specs.leaf_maps.Numbers.{number_at}
use Rattle.carried_trees.specs.declared.literals.OwnLiterals.{OwnLiterals}
use Rattle.carried_trees.specs.Carried.{carried_kind, carried_core, is_given_core}
use Rattle.carried_trees.specs.Copied.{AreCarried}
use Rattle.carried_trees.specs.Literals.{is_literal, has_literal, have_literal, literal_number, IsLiteralNode, AreLiterals, IsTree, IsFound, AreFound}
use Rattle.carried_trees.specs.Numbered.{AreNumbered}
use Rattle.carried_trees.proofs.Listing.{number_found}

-- tests
or_left : (a b : Bool) → a ≡ true → (a || b) ≡ true
or_left a b e = ap (λ (x : Bool). x || b) e

or_right : (a b : Bool) → b ≡ true → (a || b) ≡ true
or_right true b e = refl
or_right false b e = e

or_cases : (a b : Bool) → (a || b) ≡ true → (a ≡ true) ⊎ (b ≡ true)
or_cases true b e = inl refl
or_cases false b e = inr e

same_test : (a b : Bool) → (a ≡ true → b ≡ true) → (b ≡ true → a ≡ true) → a ≡ b
same_test true b f g = sym (f refl)
same_test false true f g = g refl
same_test false false f g = refl

literal_is : (leaf : ℕ) (kind : NodeKind) → is_literal leaf kind ≡ true → kind ≡ Literal leaf
literal_is leaf (Literal e) h = elim (eqb_tells e leaf) [ inl p ↦ ap Literal p.1 | inr p ↦ absurd (false_true (sym p.0 ∙ h)) ]
  where
    false_true : false ≡ true → ⊥
    false_true g = cc
literal_is leaf kind h = cc

is_itself : (leaf : ℕ) (kind : NodeKind) → kind ≡ Literal leaf → is_literal leaf kind ≡ true
is_itself leaf kind e = ap (is_literal leaf) e ∙ same
  where
    same : is_literal leaf (Literal leaf) ≡ true
    same = elim (eqb_tells leaf leaf) [ inl p ↦ p.0 | inr p ↦ absurd (p.1 refl) ]

-- the literals of a unit's trees are those of its nodes
module _ (u : Unit) (ready : IsReady u) (leaf : ℕ) where
  abbrev IsThere : Type 0
  IsThere = (m : ℕ) × (node : Node) × (slice_get u.nodes.items m ≡ Some node) × (node.kind ≡ Literal leaf)

  one_of : (room : ℕ) (is : List ℕ) → All (λ c. c < room) is → ((c : ℕ) → c < room → has_literal (core_at u c) leaf ≡ true → IsThere) → have_literal (cores_at u is) leaf ≡ true → IsThere
  one_of room [] all by h = cc
  one_of room (i ∷ is) all by h =
      elim (or_cases (has_literal (core_at u i) leaf) (have_literal (cores_at u is) leaf) h) [
        | inl p ↦ by i (All-head (λ (c : ℕ). c < room) i is all) p
        | inr p ↦ one_of room is (All-tail (λ (c : ℕ). c < room) i is all) by p
      ]

  at_node : (i : ℕ) (node : Node) → slice_get u.nodes.items i ≡ Some node → ((c : ℕ) → c < i → has_literal (core_at u c) leaf ≡ true → IsThere) → has_literal (core_at u i) leaf ≡ true → IsThere
  at_node i node at by h =
      let is = core_is u ready i node at in
      let here : has_literal (Of node.kind node.place (type_of u.types node.ty.0) (cores_at u node.children)) leaf ≡ true = ap (λ (c : Core). has_literal c leaf) (sym is) ∙ h in
      elim (or_cases (is_literal leaf node.kind) (have_literal (cores_at u node.children) leaf) here) [
        | inl p ↦ (i, node, at, literal_is leaf node.kind p)
        | inr p ↦ one_of i node.children (ready.children i node at) by p
      ]

  node_there : (i : ℕ) (nodes : List Node) → i < length nodes → (node : Node) × (slice_get nodes i ≡ Some node)
  node_there i [] lt = absurd (omega arith)
  node_there zero (x ∷ nodes) lt = (x, refl)
  node_there (suc i) (x ∷ nodes) lt = node_there i nodes (omega arith)

  by_fuel : (fuel i : ℕ) → i < fuel → i < length u.nodes.items → has_literal (core_at u i) leaf ≡ true → IsThere
  by_fuel zero i few lt h = absurd (omega arith)
  by_fuel (suc fuel) i few lt h =
      let n = node_there i u.nodes.items lt in
      at_node i n.0 n.1 (λ c less has. by_fuel fuel c (omega (arith, few, less)) (omega (arith, lt, less)) has) h

  pub found_in : (i : ℕ) → i < length u.nodes.items → has_literal (core_at u i) leaf ≡ true → IsThere
  found_in i lt h = by_fuel (suc i) i (omega arith) lt h

  among : (is : List ℕ) (k c : ℕ) → slice_get is k ≡ Some c → has_literal (core_at u c) leaf ≡ true → have_literal (cores_at u is) leaf ≡ true
  among [] k c at h = cc
  among (i ∷ is) zero c at h =
      let same : i ≡ c = some_same i c at in
      or_left (has_literal (core_at u i) leaf) (have_literal (cores_at u is) leaf) (ap (λ (x : ℕ). has_literal (core_at u x) leaf) same ∙ h)
    where
      some_same : (a b : ℕ) → ◌≡◌ {A = Option ℕ} (Some a) (Some b) → a ≡ b
      some_same a b e = cc
  among (i ∷ is) (suc k) c at h = or_right (has_literal (core_at u i) leaf) (have_literal (cores_at u is) leaf) (among is k c at h)

  parent_has : (p c k : ℕ) (o : Option Node) → slice_get u.nodes.items p ≡ o → child_in o k ≡ Some c → has_literal (core_at u c) leaf ≡ true → has_literal (core_at u p) leaf ≡ true
  parent_has p c k None e at h = cc
  parent_has p c k (Some x) e at h =
      let is = core_is u ready p x e in
      ap (λ (t : Core). has_literal t leaf) is ∙ or_right (is_literal leaf x.kind) (have_literal (cores_at u x.children) leaf) (among x.children k c at h)

  climbs : (top n : ℕ) → Under (trees_of u) top n → has_literal (core_at u n) leaf ≡ true → has_literal (core_at u top) leaf ≡ true
  climbs top n here h = h
  climbs top n (below {parent} {child} under child_of) h = climbs top parent under (parent_has parent child child_of.0 (slice_get u.nodes.items parent) refl child_of.1 h)

  pub has_node : (top m : ℕ) (node : Node) → Under (trees_of u) top m → slice_get u.nodes.items m ≡ Some node → node.kind ≡ Literal leaf → has_literal (core_at u top) leaf ≡ true
  has_node top m node under at kind =
      let is = core_is u ready m node at in
      climbs top m under (ap (λ (t : Core). has_literal t leaf) is ∙ or_left (is_literal leaf node.kind) (have_literal (cores_at u node.children) leaf) (is_itself leaf node.kind kind))

-- of a unit of one tree
module _ (u : Unit) (ready : IsReady u) (top : ℕ) (within : top < length u.nodes.items) (alone : AllUnder u 0 top) (from first : ℕ) (list : List (ℕ × ℕ)) (found : AreFound u.nodes.items from first (length u.nodes.items) list) where
  some_at : (o : Option ℕ) → is_some o ≡ true → (e : ℕ) × (o ≡ Some e)
  some_at None h = cc
  some_at (Some e) h = (e, refl)

  listed : (leaf : ℕ) → is_some (literal_number first list leaf) ≡ true → has_literal (core_at u top) leaf ≡ true
  listed leaf h =
      let s = some_at (literal_number first list leaf) h in
      let n = number_found first list leaf s.0 s.1 in
      let f = found.each n.0 n.1 n.2 in
      has_node u ready leaf top f.place f.node (alone f.place (omega arith) f.few) f.there (f.kind ∙ ap Literal n.3)

  numbered : (leaf : ℕ) → has_literal (core_at u top) leaf ≡ true → is_some (literal_number first list leaf) ≡ true
  numbered leaf h =
      let n = found_in u ready leaf top within h in
      found.all n.0 n.1 leaf (slice_get_within u.nodes.items n.0 n.1 n.2) n.2 n.3

  pub own_literals : (leaf : ℕ) → is_some (literal_number first list leaf) ≡ has_literal (core_at u top) leaf
  own_literals leaf = same_test (is_some (literal_number first list leaf)) (has_literal (core_at u top) leaf) (listed leaf) (numbered leaf)

-- behind the nodes of another unit
module _ (entity own : ℕ → Option ℕ) (tag : ℕ → Option Ctype) (u : Unit) (from : ℕ) (flags : List Bool) (new : Unit) (carried : AreCarried entity own tag u from (length u.nodes.items) flags new) where
  child_moved : (p c k : ℕ) (o : Option Node) → slice_get u.nodes.items p ≡ o → child_in o k ≡ Some c → child_in (slice_get new.nodes.items (from + p)) k ≡ Some (from + c)
  child_moved p c k None e at = cc
  child_moved p c k (Some x) e at =
      let m = carried.moved p x (slice_get_within u.nodes.items p x e) e in
      let raised : slice_get (map (λ (i : ℕ). from + i) x.children) k ≡ Some (from + c) = slice_get-map (λ (i : ℕ). from + i) x.children k ∙ ap (option_map (λ (i : ℕ). from + i)) at in
      ap (λ (o : Option Node). child_in o k) m.there ∙ (ap (λ (is : List ℕ). slice_get is k) m.children ∙ raised)

  under_moved : (top n : ℕ) → Under (trees_of u) top n → Under (trees_of new) (from + top) (from + n)
  under_moved top n here = here
  under_moved top n (below {parent} {child} under child_of) = below (under_moved top parent under) (child_of.0, child_moved parent child child_of.0 (slice_get u.nodes.items parent) refl child_of.1)

  pub all_moved : (top : ℕ) → AllUnder u 0 top → AllUnder new from (from + top)
  all_moved top alone n ge lt =
      let same : from + (n - from) ≡ n = omega arith in
      let few : n - from < length u.nodes.items = omega (arith, carried.nodes) in
      subst (λ (i : ℕ). Under (trees_of new) (from + top) i) same (under_moved top (n - from) (alone (n - from) (omega arith) few))

  pub literal_moved : (first : ℕ) (l : ℕ × ℕ) (number : ℕ) → IsFound u.nodes.items from (length u.nodes.items) l → own l.0 ≡ Some number → IsLiteralNode new from l.1 number
  literal_moved first l number f numbered =
      let m = carried.moved f.place f.node f.few f.there in
      record {
        behind = let at = f.at in omega arith;
        node = m.node;
        there = ap (λ (i : ℕ). slice_get new.nodes.items i) f.at ∙ m.there;
        kind = m.kind ∙ (ap (carried_kind entity own) f.kind ∙ ap (λ (o : Option ℕ). Literal (unwrap_or o 0)) numbered);
      }

-- the tree of a unit of one tree, carried
module _ (entity : ℕ → Option ℕ) (tag : ℕ → Option Ctype) (u : Unit) (ready : IsReady u) (top : ℕ) (within : top < length u.nodes.items) (alone : AllUnder u 0 top) (from first : ℕ) (own : OwnLiterals) (numbered : AreNumbered u.nodes.items from first (length u.nodes.items) own) (flags : List Bool) (new : Unit) (carried : AreCarried entity (number_at own.numbers) tag u from (length u.nodes.items) flags new) where
  same_numbers : number_at own.numbers ≡ literal_number first own.list.items
  same_numbers = fun_ext numbered.numbers

  same_flags : (λ (e : ℕ). is_some (number_at own.numbers e)) ≡ has_literal (core_at u top)
  same_flags = fun_ext (λ e. ap is_some (numbered.numbers e) ∙ own_literals u ready top within alone from first own.list.items numbered.found e)

  pub given_moved : get_or flags top false ≡ is_given_core entity (has_literal (core_at u top)) tag (core_at u top)
  given_moved = carried.given_are top within ∙ ap (λ (f : ℕ → Bool). is_given_core entity f tag (core_at u top)) same_flags

  pub literals_moved : AreLiterals (core_at u top) from first new own.list.items
  literals_moved = record {
    own = own_literals u ready top within alone from first own.list.items numbered.found;
    once = numbered.found.once;
    nodes = λ k l at. literal_moved entity (number_at own.numbers) tag u from flags new carried first l (first + k) (numbered.found.each k l at) (numbered.numbers l.0 ∙ numbered.found.once k l at);
    rising = numbered.found.rising;
  }

  pub tree_moved : core_at new (from + top) ≡ carried_core entity (literal_number first own.list.items) tag (core_at u top)
  tree_moved = carried.trees top within ∙ ap (λ (f : ℕ → Option ℕ). carried_core entity f tag (core_at u top)) same_numbers

  pub tree_there : (old : Unit) (node : ℕ) → from ≡ length old.nodes.items → first ≡ length old.entities.items → node ≡ from + top → get_or flags top false ≡ true → IsTree entity tag (core_at u top) old new node own.list.items
  tree_there old node nodes entities place flag = record {
    given = sym given_moved ∙ flag;
    carried = ap (λ (i : ℕ). core_at new i) place ∙ (tree_moved ∙ ap (λ (n : ℕ). carried_core entity (literal_number n own.list.items) tag (core_at u top)) entities);
    literals = subst (λ (n : ℕ). AreLiterals (core_at u top) n (length old.entities.items) new own.list.items) nodes (subst (λ (n : ℕ). AreLiterals (core_at u top) from n new own.list.items) entities literals_moved);
  }

  pub not_there : get_or flags top false ≡ false → is_given_core entity (has_literal (core_at u top)) tag (core_at u top) ≡ false
  not_there flag = sym given_moved ∙ flag
