-- Trees of core nodes: there is one for each node, one alone, and it goes on standing.
use Rattle.std.proofs.Common.{arith, ◌≡◌, ℕ, zero, suc, ◌<◌, ◌≤◌, ◌+◌, List, [], ◌∷◌, ◌++◌, Option, Some, None, slice_get, length, get_or, refl, ap, ◌∙◌, subst, All}
use Rattle.std.proofs.lemmas.List.Elements.{All-head, All-tail}
use Rattle.c_types.specs.Table.{Table, type_of}
use Rattle.core_tree.specs.declared.node.Node.{Node}
use Rattle.c_consts.specs.Core.{Core, Cores, Of, NoCores, MoreCores, Stands, StandAll, Extends, InOrder, core_in, part_in, part_at, cores_under, number_at, kind_of, place_of, ctype_of}

-- ---- one tree alone

pub some_inj : {A : Type 0} (a b : A) (o : Option A) → o ≡ Some a → o ≡ Some b → a ≡ b
some_inj a b o p q = cc

module _ (types : Table) (nodes : List Node) where
  mutual
    pub stands_once : (c d : Core) (i : ℕ) → Stands types nodes i c → Stands types nodes i d → c ≡ d
    stands_once (Of kind place type under) (Of kind' place' type' under') i (n, at, k, p, t, all) (m, at', k', p', t', all') =
        let same : n ≡ m = some_inj n m (slice_get nodes i) at at' in
        let rest : under ≡ under' = stand_once under under' n.children all (rw same all') in
        let a : kind ≡ kind' = cc in
        let b : place ≡ place' = cc in
        let e : type ≡ type' = cc in
        cc

    pub stand_once : (cs ds : Cores) (is : List ℕ) → StandAll types nodes is cs → StandAll types nodes is ds → cs ≡ ds
    stand_once NoCores NoCores is e f = refl
    stand_once NoCores (MoreCores d ds) is e (j, more, f, one, rest) = cc
    stand_once (MoreCores c cs) NoCores is (i, more, e, one, rest) f = cc
    stand_once (MoreCores c cs) (MoreCores d ds) is (i, more, e, one, rest) (j, more', f, one', rest') =
        let same : i ≡ j = cc in
        let tail : more ≡ more' = cc in
        let first : c ≡ d = stands_once c d i one (rw same one') in
        let others : cs ≡ ds = stand_once cs ds more rest (rw tail rest') in
        cc

-- ---- what stands goes on standing

module _ (old new : Table) (before after : List Node) (typed : (i : ℕ) (node : Node) → slice_get before i ≡ Some node → node.ty.0 < length old.terms) (g : Extends old new before after) where
  mutual
    pub stands_grown : (c : Core) (i : ℕ) → Stands old before i c → Stands new after i c
    stands_grown (Of kind place type under) i (node, at, k, p, t, all) =
        (node, g.nodes i node at, k, p, g.types node.ty.0 (typed i node at) ∙ t, stand_grown under node.children all)

    pub stand_grown : (cs : Cores) (is : List ℕ) → StandAll old before is cs → StandAll new after is cs
    stand_grown NoCores is e = e
    stand_grown (MoreCores c rest) is (i, more, e, first, others) = (i, more, e, stands_grown c i first, stand_grown rest more others)

slice_get_push : {X : Type 0} (xs ys : List X) (i : ℕ) (e : X) → slice_get xs i ≡ Some e → slice_get (xs ++ ys) i ≡ Some e
slice_get_push [] ys i e h = cc
slice_get_push (x ∷ xs) ys zero e h = h
slice_get_push (x ∷ xs) ys (suc i) e h = slice_get_push xs ys i e h

-- more nodes behind
pub stands_push : (table : Table) (nodes more : List Node) → InOrder table nodes → (c : Core) (i : ℕ) → Stands table nodes i c → Stands table (nodes ++ more) i c
stands_push table nodes more order =
    stands_grown table table nodes (nodes ++ more) order.types (record { nodes = λ i node at. slice_get_push nodes more i node at; types = λ id lt. refl })

-- more types in the table
pub stands_typed : (old new : Table) (nodes : List Node) → InOrder old nodes → ((id : ℕ) → id < length old.terms → type_of new id ≡ type_of old id) → (c : Core) (i : ℕ) → Stands old nodes i c → Stands new nodes i c
stands_typed old new nodes order kept =
    stands_grown old new nodes nodes order.types (record { nodes = λ i node at. at; types = kept })

-- ---- what a tree tells of its node

module _ (table : Table) (nodes : List Node) where
  pub kind_stands : (i : ℕ) (c : Core) (node : Node) → slice_get nodes i ≡ Some node → Stands table nodes i c → node.kind ≡ kind_of c
  kind_stands i (Of kind place type under) node at (n, at', k, p, t, all) = ap (λ (m : Node). m.kind) (some_inj node n (slice_get nodes i) at at') ∙ k

  pub place_stands : (i : ℕ) (c : Core) (node : Node) → slice_get nodes i ≡ Some node → Stands table nodes i c → node.place ≡ place_of c
  place_stands i (Of kind place type under) node at (n, at', k, p, t, all) = ap (λ (m : Node). m.place) (some_inj node n (slice_get nodes i) at at') ∙ p

  pub type_stands : (i : ℕ) (c : Core) (node : Node) → slice_get nodes i ≡ Some node → Stands table nodes i c → type_of table node.ty.0 ≡ ctype_of c
  type_stands i (Of kind place type under) node at (n, at', k, p, t, all) = ap (λ (m : Node). type_of table m.ty.0) (some_inj node n (slice_get nodes i) at at') ∙ t

  pub under_stands : (i : ℕ) (c : Core) (node : Node) → slice_get nodes i ≡ Some node → Stands table nodes i c → StandAll table nodes node.children (cores_under c)
  under_stands i (Of kind place type under) node at (n, at', k, p, t, all) = subst (λ (m : Node). StandAll table nodes m.children under) (some_inj n node (slice_get nodes i) at' at) all

  -- ---- a part stands at the node to which its way leads

  part_stands_among : (cs : Cores) (is : List ℕ) (k : ℕ) (d : Core) → StandAll table nodes is cs → core_in cs k ≡ Some d → Stands table nodes (get_or is k 0) d
  part_stands_among NoCores is k d all e = cc
  part_stands_among (MoreCores c rest) is zero d (i, more, e, first, others) f =
      let same : c ≡ d = cc in
      rw e (subst (λ (x : Core). Stands table nodes i x) same first)
  part_stands_among (MoreCores c rest) is (suc k) d (i, more, e, first, others) f = rw e (part_stands_among rest more k d others f)

  part_stands_in : (path : List ℕ) (o : Option Core) (i : ℕ) (d : Core) → ((c : Core) → o ≡ Some c → Stands table nodes i c) → part_in o path ≡ Some d → Stands table nodes (number_at nodes i path) d
  part_stands_in path None i d s e = cc
  part_stands_in [] (Some c) i d s e = let same : c ≡ d = cc in subst (λ (x : Core). Stands table nodes i x) same (s c refl)
  part_stands_in (k ∷ path) (Some (Of kind place type under)) i d s e =
      let (n, at, k', p, t, all) = s (Of kind place type under) refl in
      rw at (part_stands_in path (core_in under k) (get_or n.children k 0) d (λ c f. part_stands_among under n.children k c all f) e)

  pub part_stands : (path : List ℕ) (c : Core) (i : ℕ) (d : Core) → Stands table nodes i c → part_at c path ≡ Some d → Stands table nodes (number_at nodes i path) d
  part_stands path c i d s e = part_stands_in path (Some c) i d (λ x f. let same : c ≡ x = cc in subst (λ (y : Core). Stands table nodes i y) same s) e

slice_get_some : {X : Type 0} (xs : List X) (i : ℕ) → i < length xs → slice_get xs i ≡ None → ⊥
slice_get_some [] i lt h = omega arith
slice_get_some (x ∷ xs) zero lt h = cc
slice_get_some (x ∷ xs) (suc i) lt h = slice_get_some xs i (omega arith) h

-- ---- each node has a tree

module _ (table : Table) (nodes : List Node) (order : InOrder table nodes) where
  trees_of_children : (n : ℕ) → ((i : ℕ) → i < n → i < length nodes → (c : Core) × Stands table nodes i c) → n ≤ length nodes → (is : List ℕ) → All (λ i. i < n) is → (cs : Cores) × StandAll table nodes is cs
  trees_of_children n each within [] all = (NoCores, refl)
  trees_of_children n each within (i ∷ is) all =
      let below = All-head (λ (j : ℕ). j < n) i is all in
      let first = each i below (omega arith) in
      let rest = trees_of_children n each within is (All-tail (λ (j : ℕ). j < n) i is all) in
      (MoreCores first.0 rest.0, (i, is, refl, first.1, rest.1))

  tree_at : (i : ℕ) → ((j : ℕ) → j < i → j < length nodes → (c : Core) × Stands table nodes j c) → i < length nodes → (o : Option Node) → slice_get nodes i ≡ o → (c : Core) × Stands table nodes i c
  tree_at i each within None h = absurd (slice_get_some nodes i within h)
  tree_at i each within (Some node) h =
      let rest = trees_of_children i each (omega arith) node.children (order.children i node h) in
      (Of node.kind node.place (type_of table node.ty.0) rest.0, (node, h, refl, refl, refl, rest.1))

  trees_below : (n : ℕ) (i : ℕ) → i < n → i < length nodes → (c : Core) × Stands table nodes i c
  trees_below zero i lt within = absurd (omega arith)
  trees_below (suc n) i lt within = tree_at i (λ j below inside. trees_below n j (omega arith) inside) within (slice_get nodes i) refl

  pub tree_of : (i : ℕ) → i < length nodes → (c : Core) × Stands table nodes i c
  tree_of i within = trees_below (i + 1) i (omega arith) within
