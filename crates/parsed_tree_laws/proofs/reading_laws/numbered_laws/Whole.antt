-- The places of the nodes and entities of a unit that is right for a tree.
use Rattle.std.proofs.Common.{arith, ◌≡◌, ◌∙◌, ℕ, zero, suc, ◌+◌, ◌<◌, ◌≤◌, Bool, true, false, List, length, Option, Some, None, slice_get, refl, sym, ap, subst, inl, inr}
use Rattle.std.specs.Prelude.{option_map, option_and_then, if◌then◌else◌}
use Rattle.std.proofs.lemmas.Option.{slice_get_within, slice_get-get_or}
use Rattle.pta_base.specs.declared.place.Place.{Place}
use Rattle.c_types.specs.Trees.{Ctype}
use Rattle.core_tree.specs.declared.node.Unit.{Unit}
use Rattle.core_tree.specs.declared.node.Node.{Node}
use Rattle.core_tree.specs.declared.node.Entity.{Entity}
use Rattle.core_tree.specs.Typed.{trees_of}
use Rattle.core_tree.specs.Range.{child_in}
use Rattle.core_tree.specs.Valid.{entity_at}
use Rattle.std.specs.List.{All, slice_index_or}
use Rattle.c_consts.specs.Core.{Core, Cores, Of, NoCores, MoreCores, cores_under, core_in}
use Rattle.c_senses.specs.Tree.{Source}
use Rattle.c_senses.specs.Sense.{Sense, IsCore, IsInitial, sense_in}
use Rattle.c_senses.specs.Rows.{AreSenses}
use Rattle.c_senses.specs.Entities.{is_defined, initialiser_for}
use Rattle.c_senses.specs.Right.{Numbering, StandsBy, AllStandBy, SameBody, IsEntityOf, IsDeclaredAt, IsLiteralOf, IsBody, Within, Itself, Below, sense_of, declares_entity, entity_type, representative, core_of_sense, block_for, body_at, declared_as, declared_name, literal_as, Right}
use Rattle.c_senses.specs.Right as right
use Rattle.parsed_tree_laws.specs.reading_laws.numbered_laws.Numbered.{OfUnit, AllOfUnit, AreOfUnit}
use Rattle.parsed_tree_laws.proofs.reading_laws.numbered_laws.Giving.{if_holds}
use Rattle.parsed_tree_laws.proofs.reading_laws.numbered_laws.Values.{SomeOf}
use Rattle.parsed_tree_laws.proofs.reading_laws.numbered_laws.Expressions.{OfSense, at_unit}
use Rattle.parsed_tree_laws.proofs.reading_laws.numbered_laws.All.{all_kept}

some_one : {X : Type 0} → {x y : X} → ◌≡◌ {A = Option X} (Some x) (Some y) → x ≡ y
some_one h = cc

none_some : {X : Type 0} → {x : X} → ◌≡◌ {A = Option X} None (Some x) → ⊥
none_some h = cc

-- parts of a tree
part_kept : (unit : ℕ) (cs : Cores) (k : ℕ) → AllOfUnit unit cs → SomeOf unit (core_in cs k)
part_kept unit NoCores k h = tt
part_kept unit (MoreCores c rest) zero h = h.0
part_kept unit (MoreCores c rest) (suc k) h = part_kept unit rest k h.1

under_kept : (unit : ℕ) (c : Core) → OfUnit unit c → AllOfUnit unit (cores_under c)
under_kept unit (Of kind place type under) h = h.1

some_kept : (unit : ℕ) (o : Option Core) (c : Core) → o ≡ Some c → SomeOf unit o → OfUnit unit c
some_kept unit None c e h = absurd (none_some e)
some_kept unit (Some x) c e h = subst (λ (y : Core). OfUnit unit y) (some_one e) h

module _ (s : Source) (senses : List Sense) (are : AreSenses s senses) where
  core_kept : (x : Sense) → OfSense s.unit x → SomeOf s.unit (core_of_sense s senses x)
  core_kept (IsCore c) h = h
  core_kept (IsInitial c n) h = h
  core_kept x h = tt

  found_kept : (o : Option ℕ) → SomeOf s.unit (option_and_then (λ b. core_of_sense s senses (sense_of s senses b)) o)
  found_kept None = tt
  found_kept (Some b) = core_kept (sense_in senses b) (all_kept s senses are b)

  body_kept : (i : ℕ) → SomeOf s.unit (body_at s senses i)
  body_kept i = if_holds (SomeOf s.unit) (is_defined s (sense_of s senses) i) _ _ (found_kept (block_for s senses i)) (found_kept (initialiser_for s (sense_of s senses) i))

  -- what is declared
  DeclaredOf : right.Declared → Type 0
  DeclaredOf what = (what.place.unit ≡ s.unit) × SomeOf s.unit what.body

  name_by : (i : ℕ) (b : Bool) (o : Option Ctype) (what : right.Declared) → (if b then option_map (declared_as s senses i) o else None) ≡ Some what → DeclaredOf what
  unfolding DeclaredOf
  name_by i false o what e = absurd (none_some e)
  name_by i true None what e = absurd (none_some e)
  name_by i true (Some t) what e =
      let P : right.Declared → Type 0 = λ (w : right.Declared). (w.place.unit ≡ s.unit) × SomeOf s.unit w.body in
      subst P (some_one e) (at_unit s (representative s senses i), body_kept (representative s senses i))

  name_kept : (i : ℕ) (what : right.Declared) → declared_name s senses i ≡ Some what → DeclaredOf what
  name_kept i what e = name_by i (declares_entity s senses i) (entity_type s senses i) what e

  within_kept : {c d : Core} → Within s senses c d → OfUnit s.unit d → OfUnit s.unit c
  within_kept Itself h = h
  within_kept (Below {c = c} {part = part} k h) whole = within_kept h (some_kept s.unit (core_in (cores_under c) k.0) part k.1 (part_kept s.unit (cores_under c) k.0 (under_kept s.unit c whole)))

  declared_kept : (i : ℕ) (what : right.Declared) → IsDeclaredAt s senses i what → DeclaredOf what
  unfolding DeclaredOf
  declared_kept i what (inl e) = name_kept i what e
  declared_kept i what (inr l) =
      let c = l.0 in
      let (d, other, body, named, is, inside) = l.1.1 in
      let whole : OfUnit s.unit body = some_kept s.unit other.body body is (name_kept d other named).1 in
      let here : OfUnit s.unit c = within_kept inside whole in
      let P : right.Declared → Type 0 = λ (w : right.Declared). (w.place.unit ≡ s.unit) × SomeOf s.unit w.body in
      subst P (sym l.2) (at_unit s i, part_kept s.unit (cores_under c) 0 (under_kept s.unit c here))

  declared_of : (i : ℕ) (what : right.Declared) → IsDeclaredAt s senses i what → (what.place.unit ≡ s.unit) × SomeOf s.unit what.body
  unfolding DeclaredOf
  declared_of i what h = declared_kept i what h

  module _ (name : List ℕ) (u : Unit) (m : Numbering) where
    -- a node that stands by a tree of the unit
    IsPlaced : ℕ → Type 0
    IsPlaced i = (c : Core) × StandsBy m u i c × OfUnit s.unit c

    node_kept : (i : ℕ) (node : Node) → slice_get u.nodes.items i ≡ Some node → IsPlaced i → node.place.unit ≡ s.unit
    unfolding IsPlaced
    node_kept i node at h = by h.0 h.1 h.2
      where
        by : (c : Core) → StandsBy m u i c → OfUnit s.unit c → node.place.unit ≡ s.unit
        by (Of kind place type under) stands of =
            let same : node ≡ stands.0 = some_one (sym at ∙ stands.1) in
            ap (λ (x : Node). x.place.unit) same ∙ (ap (λ (p : Place). p.unit) stands.3 ∙ of.0)

    child_placed : (is : List ℕ) (cs : Cores) (k i : ℕ) → AllStandBy m u is cs → AllOfUnit s.unit cs → slice_get is k ≡ Some i → IsPlaced i
    unfolding IsPlaced
    child_placed is NoCores k i stands of at = absurd (none_some (sym (ap (λ (l : List ℕ). slice_get l k) stands) ∙ at))
    child_placed is (MoreCores c rest) zero i stands of at =
        let same : stands.0 ≡ i = some_one (sym (ap (λ (l : List ℕ). slice_get l 0) stands.2) ∙ at) in
        (c, subst (λ (j : ℕ). StandsBy m u j c) same stands.3, of.0)
    child_placed is (MoreCores c rest) (suc k) i stands of at =
        child_placed stands.1 rest k i stands.4 of.1 (sym (ap (λ (l : List ℕ). slice_get l (suc k)) stands.2) ∙ at)

    below_placed : (p k i : ℕ) → IsPlaced p → child_in (slice_get u.nodes.items p) k ≡ Some i → IsPlaced i
    unfolding IsPlaced
    below_placed p k i h at = by h.0 h.1 h.2
      where
        by : (c : Core) → StandsBy m u p c → OfUnit s.unit c → IsPlaced i
        by (Of kind place type under) stands of = child_placed stands.0.children under k i stands.5 of.1 (sym (ap (λ (o : Option Node). child_in o k) stands.1) ∙ at)

    by_body : (o : Option Core) (i : ℕ) → SameBody m u o (Some i) → SomeOf s.unit o → IsPlaced i
    unfolding IsPlaced
    by_body None i same of = absurd same
    by_body (Some c) i same of = (c, same, of)

-- the numbers of a list that are below another one
below_at : (list : List ℕ) (n k i : ℕ) → All (λ c. c < n) list → slice_get list k ≡ Some i → i < n
below_at list n k i h at =
    let lt = slice_get_within list k i at in
    let same : slice_index_or list k i ≡ i = some_one (sym (slice_get-get_or list k i lt) ∙ at) in
    subst (λ (c : ℕ). c < n) same (h k i lt)

child_of_some : (o : Option Node) (k i : ℕ) → child_in o k ≡ Some i → (node : Node) × (o ≡ Some node) × (slice_get node.children k ≡ Some i)
child_of_some None k i e = absurd (none_some e)
child_of_some (Some node) k i e = (node, refl, e)

module _ (s : Source) (name : List ℕ) (u : Unit) (r : Right s name u) where
  Placed : ℕ → Type 0
  Placed i = IsPlaced s r.senses r.are_senses name u r.numbering i

  -- what an entity is
  record IsMade (e : ℕ) (entity : Entity) : Type 0 where
    what : right.Declared
    place : what.place.unit ≡ s.unit
    body : SomeOf s.unit what.body
    is : IsEntityOf r.numbering u s.unit what entity

  made : (e : ℕ) (entity : Entity) → entity_at (trees_of u) e ≡ Some entity → IsMade e entity
  made e entity at =
      let (d, what, declared, number) = r.no_other_entity e (slice_get_within u.entities.items e entity at) in
      let (f, other, numbered, there, is) = r.each_declared d what declared in
      let same : f ≡ e = some_one (sym numbered ∙ number) in
      let one : other ≡ entity = some_one (sym there ∙ (ap (slice_get u.entities.items) same ∙ at)) in
      let of = declared_of s r.senses r.are_senses d what declared in
      record { what = what; place = of.0; body = of.1; is = subst (λ (x : Entity). IsEntityOf r.numbering u s.unit what x) one is }

  body_placed : (i : ℕ) → IsBody u i → Placed i
  unfolding Placed
  body_placed i (e, entity, at, body) =
      let m = made e entity at in
      by_body s r.senses r.are_senses name u r.numbering m.what.body i (subst (λ (o : Option ℕ). SameBody r.numbering u m.what.body o) body m.is.body) m.body

  placed_from : (fuel i : ℕ) → i < length u.nodes.items → length u.nodes.items ≤ i + fuel → Placed i
  unfolding Placed
  placed_from zero i lt enough = absurd (omega arith)
  placed_from (suc fuel) i lt enough = elim (r.no_other_node i lt) [
    | inl body ↦ body_placed i body
    | inr (p, (k, child)) ↦
        let (node, is, at) = child_of_some (slice_get u.nodes.items p) k i child in
        let before = below_at node.children p k i (r.valid.trees.in_range.children p node is) at in
        below_placed s r.senses r.are_senses name u r.numbering p k i (placed_from fuel p (slice_get_within u.nodes.items p node is) (omega arith)) child
  ]

  pub numbered : AreOfUnit s.unit u
  unfolding Placed
  numbered = record {
    nodes = λ i node at.
        let lt = slice_get_within u.nodes.items i node at in
        node_kept s r.senses r.are_senses name u r.numbering i node at (placed_from (length u.nodes.items) i lt (omega arith));
    entities = λ e entity at.
        let m = made e entity at in
        (m.is.unit_is, ap (λ (p : Place). p.unit) m.is.place ∙ m.place);
  }
