-- The function around each node, in two programs that are one, but for numbers.
use Rattle.std.proofs.Common.{arith, ◌≡◌, ◌∙◌, ℕ, List, Option, Some, None, refl, sym, ap, subst, inl, inr}
use Rattle.std.specs.List.{slice_get}
use Rattle.std.specs.Option.{option_map}
use Rattle.std.proofs.lemmas.Option.{slice_get_within}
use Rattle.core_tree.specs.declared.node.Node.{Node}
use Rattle.core_tree.specs.declared.node.Entity.{Entity}
use Rattle.core_tree.specs.declared.node.Program.{Program}
use Rattle.core_tree.specs.Typed.{CoreTrees, trees_in}
use Rattle.core_tree.specs.Range.{IsChild, Under, here, below, child_in}
use Rattle.core_tree.specs.Valid.{IsAround, UnderBody, HasBody}
use Rattle.linked_laws.specs.embedded_laws.Trees.{AreTreesRight}
use Rattle.row_numbers.specs.Around.{IsOwner, AreOwners}
use Rattle.twin_report_laws.specs.outcome_laws.twin_programs.One.{Numbers, SameEntity, LeadsTo}
use Rattle.twin_report_laws.proofs.outcome_laws.twin_words.Sums.{some_one, none_some}
use Rattle.twin_report_laws.proofs.outcome_laws.twin_words.Options.{mapped_at}
use Rattle.twin_report_laws.proofs.rows.Nodes.{some_at}

-- ---- one function around a node
module _ (u : CoreTrees) (valid : AreTreesRight u) where
  -- a body has no parent
  IsTop : ℕ → Type 0
  IsTop b = (parent : ℕ) → IsChild u parent b → ⊥

  one_top : (a b n : ℕ) → IsTop a → IsTop b → Under u a n → Under u b n → a ≡ b
  unfolding IsTop
  one_top a b n ta tb here here = refl
  one_top a b n ta tb here (below {parent} {child} under child_of) = absurd (ta parent child_of)
  one_top a b n ta tb (below {parent} {child} under child_of) here = absurd (tb parent child_of)
  one_top a b n ta tb (below {parent} {child} under child_of) (below {parent = other} {child = same} also also_of) =
      let one = valid.child_once parent other child_of.0 also_of.0 n child_of.1 also_of.1 in
      one_top a b parent ta tb under (subst (Under u b) (sym one.0) also)

  child_has : (parent b : ℕ) (h : IsChild u parent b) → (x : Node) × (slice_get u.nodes parent ≡ Some x) × (slice_get x.children h.0 ≡ Some b)
  child_has parent b h = by (slice_get u.nodes parent) refl h.1
    where
      by : (o : Option Node) → slice_get u.nodes parent ≡ o → child_in o h.0 ≡ Some b → (x : Node) × (slice_get u.nodes parent ≡ Some x) × (slice_get x.children h.0 ≡ Some b)
      by None e f = absurd (none_some f)
      by (Some x) e f = (x, e, f)

  record IsBodyOf (n f : ℕ) : Type 0 where
    entity : Entity
    there : slice_get u.entities f ≡ Some entity
    body : ℕ
    body_is : entity.body ≡ Some body
    top : IsTop body
    under : Under u body n

  body_of : (n f : ℕ) (x : Entity) → slice_get u.entities f ≡ Some x → IsAround u n x → IsBodyOf n f
  unfolding IsTop
  body_of n f x at around = by x.body refl around.1
    where
      by : (o : Option ℕ) → x.body ≡ o → UnderBody u o n → IsBodyOf n f
      by None e under = absurd under
      by (Some b) e under = record { entity = x; there = at; body = b; body_is = e; top = top; under = under }
        where
          top : (parent : ℕ) → IsChild u parent b → ⊥
          top parent child =
              let (y, y_at, y_has) = child_has parent b child in
              elim (subst (HasBody u f x) e (valid.bodied f x at)).0 [
                | inl function ↦ function.top parent y y_at (child.0, y_has)
                | inr object ↦ object.storage around.0
              ]

  pub one_around : (n f g : ℕ) (x y : Entity) → slice_get u.entities f ≡ Some x → slice_get u.entities g ≡ Some y → IsAround u n x → IsAround u n y → f ≡ g
  one_around n f g x y fx gy a b =
      let one = body_of n f x fx a in
      let two = body_of n g y gy b in
      let same : one.body ≡ two.body = one_top one.body two.body n one.top two.top one.under two.under in
      let x_is : one.entity ≡ x = some_one (sym one.there ∙ fx) in
      let own : HasBody u g two.entity (Some two.body) = subst (HasBody u g two.entity) two.body_is (valid.bodied g two.entity two.there) in
      own.1 f one.entity one.there (one.body_is ∙ ap (λ (k : ℕ). Some k) same)

-- ---- around a node there, and around its twin
module _ (p q : Program) (to back : Numbers) (l : LeadsTo p q to back) where
  child_there : (parent c : ℕ) → IsChild (trees_in p) parent c → IsChild (trees_in q) (to.node parent) (to.node c)
  child_there parent c h = by (slice_get p.nodes.items parent) refl h.1
    where
      by : (o : Option Node) → slice_get p.nodes.items parent ≡ o → child_in o h.0 ≡ Some c → IsChild (trees_in q) (to.node parent) (to.node c)
      by None e f = absurd (none_some f)
      by (Some x) e f =
          let (y, there, same) = l.nodes parent x e in
          (h.0, ap (λ (o : Option Node). child_in o h.0) there ∙ (ap (λ (cs : List ℕ). slice_get cs h.0) same.children ∙ mapped_at to.node x.children h.0 c f))

  under_there : (b n : ℕ) → Under (trees_in p) b n → Under (trees_in q) (to.node b) (to.node n)
  under_there b n here = here
  under_there b n (below {parent} {child} under child_of) = below (under_there b parent under) (child_there parent n child_of)

  pub around_there : (n : ℕ) (x y : Entity) → SameEntity p.types q.types to x y → IsAround (trees_in p) n x → IsAround (trees_in q) (to.node n) y
  around_there n x y same around = (same.storage ∙ around.0, subst (λ (o : Option ℕ). UnderBody (trees_in q) o (to.node n)) (sym same.body) (by x.body around.1))
    where
      by : (o : Option ℕ) → UnderBody (trees_in p) o n → UnderBody (trees_in q) (option_map to.node o) (to.node n)
      by None under = under
      by (Some b) under = under_there b n under

module _ (p q : Program) (to back : Numbers) (l : LeadsTo p q to back) (r : LeadsTo q p back to) (valid : AreTreesRight (trees_in q)) (owners other : List (Option ℕ)) (are : AreOwners (trees_in p) owners) (others : AreOwners (trees_in q) other) where
  pub owner_there : (n : ℕ) (x : Node) → slice_get p.nodes.items n ≡ Some x → slice_get other (to.node n) ≡ option_map (option_map to.entity) (slice_get owners n)
  owner_there n x at =
      let (y, there, same) = l.nodes n x at in
      let lt = slice_get_within p.nodes.items n x at in
      let over = slice_get_within q.nodes.items (to.node n) y there in
      let many = are.each in
      let others_many = others.each in
      let (o, o_at) = some_at owners n (omega (arith, lt, many)) in
      let (w, w_at) = some_at other (to.node n) (omega (arith, over, others_many)) in
      w_at ∙ (ap (λ (k : Option ℕ). Some k) (by o w (are.right n o o_at) (others.right (to.node n) w w_at)) ∙ sym (ap (option_map (option_map to.entity)) o_at))
    where
      by : (o w : Option ℕ) → IsOwner (trees_in p) n o → IsOwner (trees_in q) (to.node n) w → w ≡ option_map to.entity o
      by None None h k = refl
      by None (Some g) h k =
          let (e, e_at, like) = r.entities g k.0 k.1 in
          let round = l.node_back n (slice_get_within p.nodes.items n x at) in
          absurd (h (back.entity g) e e_at (subst (λ (i : ℕ). IsAround (trees_in p) i e) round (around_there q p back to r (to.node n) k.0 e like k.2)))
      by (Some f) None h k =
          let (e, e_at, like) = l.entities f h.0 h.1 in
          absurd (k (to.entity f) e e_at (around_there p q to back l n h.0 e like h.2))
      by (Some f) (Some g) h k =
          let (e, e_at, like) = l.entities f h.0 h.1 in
          ap (λ (i : ℕ). Some i) (one_around (trees_in q) valid (to.node n) g (to.entity f) k.0 e k.1 e_at k.2 (around_there p q to back l n h.0 e like h.2))
