-- A compound literal that has an object has a node.
use Rattle.std.proofs.Common.{◌≡◌, ◌||◌, ℕ, zero, suc, Bool, true, false, List, [], ◌∷◌, Option, Some, None, slice_get, eq-eqb, refl, sym, ap, ◌∙◌, subst, inl}
use Rattle.std.specs.List.{list_any}
use Rattle.core_tree.specs.declared.node.Unit.{Unit}
use Rattle.core_tree.specs.declared.node.Node.{Node}
use Rattle.core_tree.specs.declared.node.NodeKind.{NodeKind}
use Rattle.core_tree.specs.declared.node.NodeKind.TheVariants.{Literal}
use Rattle.c_consts.specs.Core.{Core, Cores, Of, NoCores, MoreCores, kind_of, cores_under, core_in}
use Rattle.c_senses.specs.Tree.{Source}
use Rattle.c_senses.specs.Sense.{Sense}
use Rattle.c_senses.specs.Right.{Numbering, SameKind, StandsBy, AllStandBy, SameBody, Within, Itself, Below, IsLiteralOf}
use Rattle.obj_made.specs.Uses.{is_literal, is_number, literal_entity}
use Rattle.declaration_laws.specs.declared_type_laws.owned_locals.Numbers.{AreNumbered}

some_one : {X : Type 0} → {x y : X} → ◌≡◌ {A = Option X} (Some x) (Some y) → x ≡ y
some_one h = cc

none_some : {X : Type 0} → {x : X} → ◌≡◌ {A = Option X} None (Some x) → ⊥
none_some h = cc

any_at : (test : Node → Bool) (nodes : List Node) (j : ℕ) (node : Node) → slice_get nodes j ≡ Some node → test node ≡ true → list_any test nodes ≡ true
any_at test [] j node e h = absurd (none_some e)
any_at test (x ∷ nodes) zero node e h = first (test x) (list_any test nodes) (ap test (some_one e) ∙ h)
  where
    first : (a b : Bool) → a ≡ true → (a || b) ≡ true
    first true b k = refl
    first false b k = cc
any_at test (x ∷ nodes) (suc j) node e h = second (test x) (list_any test nodes) (any_at test nodes j node e h)
  where
    second : (a b : Bool) → b ≡ true → (a || b) ≡ true
    second true b k = refl
    second false b k = k

module _ (m : Numbering) (u : Unit) where
  same_literal : (d e : ℕ) (k : NodeKind) → SameKind m (Literal d) k → m d ≡ Some e → k ≡ Literal e
  same_literal d e (Literal f) h number = ap Literal (some_one (sym h ∙ number))
  same_literal d e k h number = absurd (cc)

  among : (is : List ℕ) (cs : Cores) (k : ℕ) (part : Core) → AllStandBy m u is cs → core_in cs k ≡ Some part → (j : ℕ) × StandsBy m u j part
  among is NoCores k part h e = absurd (none_some e)
  among is (MoreCores c rest) zero part h e = (h.0, subst (λ (x : Core). StandsBy m u h.0 x) (some_one e) h.3)
  among is (MoreCores c rest) (suc k) part h e = among h.1 rest k part h.4 e

  part_stands : (c part : Core) (i k : ℕ) → StandsBy m u i c → core_in (cores_under c) k ≡ Some part → (j : ℕ) × StandsBy m u j part
  part_stands (Of kind place type under) part i k h e = among h.0.children under k part h.5 e

  within_stands : (s : Source) (senses : List Sense) → {c d : Core} → Within s senses c d → (i : ℕ) → StandsBy m u i d → (j : ℕ) × StandsBy m u j c
  within_stands s senses Itself i h = (i, h)
  within_stands s senses (Below {c = c} {part = part} k inside) i h = let below = part_stands c part i k.0 h k.1 in within_stands s senses inside below.0 below.1

  literal_stands : (c : Core) (d e i : ℕ) → kind_of c ≡ Literal d → StandsBy m u i c → m d ≡ Some e → (node : Node) × (slice_get u.nodes.items i ≡ Some node) × (node.kind ≡ Literal e)
  literal_stands (Of kind place type under) d e i is h number = (h.0, h.1, same_literal d e h.0.kind (subst (λ (x : NodeKind). SameKind m x h.0.kind) is h.2) number)

  node_is_literal : (e j : ℕ) (node : Node) → slice_get u.nodes.items j ≡ Some node → node.kind ≡ Literal e → is_literal u.nodes.items e ≡ true
  node_is_literal e j node at is = any_at (λ (x : Node). is_number e (literal_entity x.kind)) u.nodes.items j node at (ap (λ (k : NodeKind). is_number e (literal_entity k)) is ∙ eq-eqb e e refl)

  body_stands : (c : Core) (o : Option ℕ) → SameBody m u (Some c) o → (i : ℕ) × StandsBy m u i c
  body_stands c None h = absurd h
  body_stands c (Some i) h = (i, h)

pub has_literal : (s : Source) (senses : List Sense) (n : Numbering) (u : Unit) → AreNumbered s senses n u → (d e : ℕ) (c : Core) → IsLiteralOf s senses d c → n d ≡ Some e → is_literal u.nodes.items e ≡ true
has_literal s senses n u b d e c h number =
    let (f, what, body, named, is, inside) = h.1 in
    let (g, entity, own_number, there, entity_is) = b.each f what (inl named) in
    let stands = body_stands n u body entity.body (subst (λ (o : Option Core). SameBody n u o entity.body) is entity_is.body) in
    let below = within_stands n u s senses inside stands.0 stands.1 in
    let (node, at, kind) = literal_stands n u c d e below.0 h.0 below.1 number in
    node_is_literal n u e below.0 node at kind
