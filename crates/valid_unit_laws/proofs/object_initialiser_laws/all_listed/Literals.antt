-- What is declared as a compound literal has a Literal in the unit.
use Rattle.std.proofs.Common.{◌≡◌, ℕ, zero, suc, List, Option, Some, None, slice_get, refl, sym, ap, ◌∙◌, subst, inl}
use Rattle.core_tree.specs.declared.node.Unit.{Unit}
use Rattle.core_tree.specs.declared.node.Node.{Node}
use Rattle.core_tree.specs.declared.node.NodeKind.{NodeKind}
use Rattle.core_tree.specs.declared.node.NodeKind.TheVariants.{Literal}
use Rattle.core_tree.specs.Typed.{trees_of}
use Rattle.core_tree.specs.Valid.{NoLiteral, IsLiteralOf as IsLiteral}
use Rattle.c_consts.specs.Core.{Core, Cores, Of, NoCores, MoreCores, kind_of, core_in}
use Rattle.c_senses.specs.Tree.{Source}
use Rattle.c_senses.specs.Sense.{Sense}
use Rattle.c_senses.specs.Right.{Numbering, SameKind, StandsBy, AllStandBy, SameBody, IsPart, Within, Itself, Below, IsLiteralOf}
use Rattle.core_node_laws.specs.built_unit_laws.built_units.Built.{IsBuilt}

some_same : {A : Type 0} → {x y : A} → ◌≡◌ {A = Option A} (Some x) (Some y) → x ≡ y
some_same e = cc

module _ (s : Source) (senses : List Sense) (m : Numbering) (u : Unit) where
  child_by : (is : List ℕ) (under : Cores) (k : ℕ) (c : Core) → AllStandBy m u is under → core_in under k ≡ Some c → (j : ℕ) × StandsBy m u j c
  child_by is NoCores k c are e = cc
  child_by is (MoreCores x rest) zero c (i, more, same, own, others) e = (i, subst (λ (y : Core). StandsBy m u i y) (let one : x ≡ c = some_same e in one) own)
  child_by is (MoreCores x rest) (suc k) c (i, more, same, own, others) e = child_by more rest k c others e

  part_by : (part whole : Core) (b : ℕ) → IsPart s senses part whole → StandsBy m u b whole → (j : ℕ) × StandsBy m u j part
  part_by part (Of kind place type under) b p (node, at, same, place_is, type_is, are) = child_by node.children under p.0 part are p.1

  within_by : (c whole : Core) (b : ℕ) → Within s senses c whole → StandsBy m u b whole → (j : ℕ) × StandsBy m u j c
  within_by c whole b Itself h = (b, h)
  within_by c whole b (Below {part = part} p inner) h = let own = part_by part whole b p h in within_by c part own.0 inner own.1

  -- the node of a literal
  literal_node : (n e leaf : ℕ) (c : Core) → StandsBy m u n c → kind_of c ≡ Literal leaf → m leaf ≡ Some e → (node : Node) × (slice_get u.nodes.items n ≡ Some node) × (node.kind ≡ Literal e)
  literal_node n e leaf (Of kind place type under) (node, at, same, place_is, type_is, are) is number =
      (node, at, by node.kind (subst (λ (k : NodeKind). SameKind m k node.kind) is same))
    where
      by : (k : NodeKind) → SameKind m (Literal leaf) k → k ≡ Literal e
      by (Literal o) h = let one : o ≡ e = some_same (sym h ∙ number) in ap (λ (x : ℕ). Literal x) one
      by k h = absurd (let bad : Literal leaf ≡ k = h in cc)

body_node : (m : Numbering) (u : Unit) (c : Core) (o : Option ℕ) → SameBody m u (Some c) o → (b : ℕ) × StandsBy m u b c
body_node m u c None h = absurd h
body_node m u c (Some b) h = (b, h)

pub no_literal : (s : Source) (name : List ℕ) (u : Unit) (built : IsBuilt s name u) (leaf e : ℕ) (c : Core) → IsLiteralOf s built.senses leaf c → built.numbering leaf ≡ Some e → NoLiteral (trees_of u) e → ⊥
no_literal s name u built leaf e c (kind, (d, what, body, named, is, within)) number none =
    let (f, entity, numbered, at, entered) = built.each_declared d what (inl named) in
    let (b, stands) = body_node built.numbering u body entity.body (subst (λ (o : Option Core). SameBody built.numbering u o entity.body) is entered.body) in
    let (n, own) = within_by s built.senses built.numbering u c body b within stands in
    let (node, there, same) = literal_node s built.senses built.numbering u n e leaf c own kind number in
    none.each n node there (subst (λ (k : NodeKind). IsLiteral k e) (sym same) refl)
