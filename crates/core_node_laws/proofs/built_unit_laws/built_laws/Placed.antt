-- Each node of a built unit stands by a tree in a body.
use Rattle.std.proofs.Common.{arith, ◌≡◌, ◌∙◌, ℕ, zero, suc, ◌+◌, ◌<◌, ◌≤◌, List, length, Option, Some, None, slice_get, refl, sym, ap, subst, inl, inr}
use Rattle.std.specs.List.{All, slice_index_or}
use Rattle.std.proofs.lemmas.Option.{slice_get_within, slice_get-get_or}
use Rattle.core_tree.specs.declared.node.Unit.{Unit}
use Rattle.core_tree.specs.declared.node.Node.{Node}
use Rattle.core_tree.specs.declared.node.Entity.{Entity}
use Rattle.core_tree.specs.Typed.{trees_of}
use Rattle.core_tree.specs.Range.{child_in, entity_at}
use Rattle.c_consts.specs.Core.{Core, Cores, Of, NoCores, MoreCores, cores_under, core_in}
use Rattle.c_senses.specs.Tree.{Source}
use Rattle.c_senses.specs.Sense.{Sense}
use Rattle.c_senses.specs.Right.{Numbering, StandsBy, AllStandBy, SameBody, IsEntityOf, IsDeclaredAt, IsBody, Within, Itself, Below, declared_name, literal_as}
use Rattle.c_senses.specs.Right as right
use Rattle.core_node_laws.specs.built_unit_laws.built_units.Built.{IsBuilt}
use Rattle.core_node_laws.specs.built_unit_laws.built_laws.Placed.{IsInBody, Stands, NodesStand}

some_one : {X : Type 0} → {x y : X} → ◌≡◌ {A = Option X} (Some x) (Some y) → x ≡ y
some_one h = cc

none_some : {X : Type 0} → {x : X} → ◌≡◌ {A = Option X} None (Some x) → ⊥
none_some h = cc

-- what an entity is
pub record IsMade (s : Source) (senses : List Sense) (n : Numbering) (u : Unit) (e : ℕ) (entity : Entity) : Type 0 where
  pub leaf : ℕ
  pub what : right.Declared
  pub declared : IsDeclaredAt s senses leaf what
  pub number : n leaf ≡ Some e
  pub is : IsEntityOf n u s.unit what entity

pub made : (s : Source) (name : List ℕ) (u : Unit) (b : IsBuilt s name u) (e : ℕ) (entity : Entity) → entity_at (trees_of u) e ≡ Some entity → IsMade s b.senses b.numbering u e entity
made s name u b e entity at =
    let (d, what, declared, number) = b.no_other_entity e (slice_get_within u.entities.items e entity at) in
    let (f, other, numbered, there, is) = b.each_declared d what declared in
    let same : f ≡ e = some_one (sym numbered ∙ number) in
    let one : other ≡ entity = some_one (sym there ∙ (ap (slice_get u.entities.items) same ∙ at)) in
    record { leaf = d; what = what; declared = declared; number = number; is = subst (λ (x : Entity). IsEntityOf b.numbering u s.unit what x) one is }

module _ (s : Source) (senses : List Sense) where
  -- a part of a tree in a body is in that body
  below_top : {c top part : Core} → Within s senses c top → right.IsPart s senses part c → Within s senses part top
  below_top Itself p = Below p Itself
  below_top (Below q w) p = Below q (below_top w p)

  pub part_in_body : (c part : Core) (k : ℕ) → IsInBody s senses c → core_in (cores_under c) k ≡ Some part → IsInBody s senses part
  part_in_body c part k h at = record { leaf = h.leaf; what = h.what; body = h.body; declared = h.declared; has = h.has; within = below_top h.within (k, at) }

  -- the body of what is declared, by a name or as a compound literal
  pub body_in_body : (d : ℕ) (what : right.Declared) (body : Core) → IsDeclaredAt s senses d what → what.body ≡ Some body → IsInBody s senses body
  body_in_body d what body (inl named) has = record { leaf = d; what = what; body = body; declared = named; has = has; within = Itself }
  body_in_body d what body (inr (c, (kind, (e, other, whole, named, is, inside)), same)) has =
      part_in_body c body 0 (record { leaf = e; what = other; body = whole; declared = named; has = is; within = inside }) (sym (ap (λ (w : right.Declared). w.body) same) ∙ has)

  module _ (n : Numbering) (u : Unit) where
    abbrev Here : ℕ → Type 0
    Here i = Stands s senses n u i

    -- part k of a node stands by part k of its tree
    child_tree : (is : List ℕ) (cs : Cores) (k i : ℕ) → AllStandBy n u is cs → slice_get is k ≡ Some i → (part : Core) × (core_in cs k ≡ Some part) × StandsBy n u i part
    child_tree is NoCores k i stands at = absurd (none_some (sym (ap (λ (l : List ℕ). slice_get l k) stands) ∙ at))
    child_tree is (MoreCores c rest) zero i stands at =
        let same : stands.0 ≡ i = some_one (sym (ap (λ (l : List ℕ). slice_get l 0) stands.2) ∙ at) in
        (c, refl, subst (λ (j : ℕ). StandsBy n u j c) same stands.3)
    child_tree is (MoreCores c rest) (suc k) i stands at =
        child_tree stands.1 rest k i stands.4 (sym (ap (λ (l : List ℕ). slice_get l (suc k)) stands.2) ∙ at)

    below_stands : (p k i : ℕ) → Here p → child_in (slice_get u.nodes.items p) k ≡ Some i → Here i
    below_stands p k i h at = by h.tree h.by h.in_body
      where
        by : (c : Core) → StandsBy n u p c → IsInBody s senses c → Here i
        by (Of kind place type under) stands inside =
            let (part, is, by) = child_tree stands.0.children under k i stands.5 (sym (ap (λ (o : Option Node). child_in o k) stands.1) ∙ at) in
            record { tree = part; by = by; in_body = part_in_body (Of kind place type under) part k inside is }

    top_stands : (o : Option Core) (i : ℕ) → SameBody n u o (Some i) → ((body : Core) → o ≡ Some body → IsInBody s senses body) → Here i
    top_stands None i same inside = absurd same
    top_stands (Some c) i same inside = record { tree = c; by = same; in_body = inside c refl }

-- the numbers of a list that are below another one
below_at : (list : List ℕ) (n k i : ℕ) → All (λ c. c < n) list → slice_get list k ≡ Some i → i < n
below_at list n k i h at =
    let lt = slice_get_within list k i at in
    let same : slice_index_or list k i ≡ i = some_one (sym (slice_get-get_or list k i lt) ∙ at) in
    subst (λ (c : ℕ). c < n) same (h k i lt)

child_of_some : (o : Option Node) (k i : ℕ) → child_in o k ≡ Some i → (node : Node) × (o ≡ Some node) × (slice_get node.children k ≡ Some i)
child_of_some None k i e = absurd (none_some e)
child_of_some (Some node) k i e = (node, refl, e)

module _ (s : Source) (name : List ℕ) (u : Unit) (b : IsBuilt s name u) where
  body_stands : (i : ℕ) → IsBody u i → Stands s b.senses b.numbering u i
  body_stands i (e, entity, at, body) =
      let m = made s name u b e entity at in
      top_stands s b.senses b.numbering u m.what.body i (subst (λ (o : Option ℕ). SameBody b.numbering u m.what.body o) body m.is.body) (λ c has. body_in_body s b.senses m.leaf m.what c m.declared has)

  stands_from : (fuel i : ℕ) → i < length u.nodes.items → length u.nodes.items ≤ i + fuel → Stands s b.senses b.numbering u i
  stands_from zero i lt enough = absurd (omega arith)
  stands_from (suc fuel) i lt enough = elim (b.no_other_node i lt) [
    | inl body ↦ body_stands i body
    | inr (p, (k, child)) ↦
        let (node, is, at) = child_of_some (slice_get u.nodes.items p) k i child in
        let before = below_at node.children p k i (b.ready.children p node is) at in
        below_stands s b.senses b.numbering u p k i (stands_from fuel p (slice_get_within u.nodes.items p node is) (omega arith)) child
  ]

pub nodes_stand : NodesStand
nodes_stand s name u b i lt = stands_from s name u b (length u.nodes.items) i lt (omega arith)
