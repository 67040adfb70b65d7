-- The objects of compound literals have no linkage.
use Rattle.std.proofs.Common.{◌≡◌, ◌∙◌, ℕ, ◌<◌, ◌&&◌, Bool, true, false, List, length, Option, Some, None, slice_get, refl, sym, ap, subst, inl, inr, ◌⊎◌}
use Rattle.std.specs.Prelude.{option_map, if◌then◌else◌}
use Rattle.std.proofs.lemmas.Bool.{and_parts, both_ways}
use Rattle.std.proofs.lemmas.Option.{slice_get_within, slice_get_cases}
use Rattle.pta_base.specs.declared.place.Place.{Place}
use Rattle.c_types.specs.Trees.{Ctype}
use Rattle.core_tree.specs.declared.node.Unit.{Unit}
use Rattle.core_tree.specs.declared.node.Node.{Node}
use Rattle.core_tree.specs.declared.node.Entity.{Entity}
use Rattle.core_tree.specs.declared.node.NodeKind.{NodeKind}
use Rattle.core_tree.specs.declared.node.NodeKind.TheVariants.{Literal}
use Rattle.core_tree.specs.declared.node.Linkage.{Linkage}
use Rattle.core_tree.specs.declared.node.Linkage.TheVariants.{Local}
use Rattle.core_tree.specs.Typed.{trees_of}
use Rattle.core_tree.specs.Range.{entity_at}
use Rattle.core_tree.specs.Linkages.{MakesUnlinked, HasNoLinkage}
use Rattle.c_consts.specs.Core.{Core, Cores, Of}
use Rattle.c_senses.specs.Tree.{Source, is_name}
use Rattle.c_senses.specs.Sense.{Sense, sense_in}
use Rattle.c_senses.specs.Right.{Numbering, SameKind, StandsBy, IsEntityOf, IsDeclaredAt, declared_name, declared_as, declares_entity, entity_type, is_declaring, literal_as}
use Rattle.c_senses.specs.Right as right
use Rattle.core_node_laws.specs.literal_nodes.Holding.{Holds, OfSense}
use Rattle.core_node_laws.specs.literal_nodes.Unnamed.{IsUnnamedKind, IsUnnamed}
use Rattle.core_node_laws.proofs.literal_nodes.Unnamed.{unnamed}
use Rattle.core_node_laws.specs.built_unit_laws.built_laws.PassedOn.{IsBuilt}
use Rattle.core_node_laws.specs.built_unit_laws.built_laws.Placed.{Stands}
use Rattle.core_node_laws.proofs.built_unit_laws.built_laws.Placed.{IsMade, made, nodes_stand}
use Rattle.core_node_laws.specs.built_unit_laws.unlinked_laws.Unlinked.{LiteralsUnlinked}
use Rattle.core_node_laws.proofs.built_unit_laws.unlinked_laws.Inside.{in_body_holds}

some_one : {X : Type 0} → {x y : X} → ◌≡◌ {A = Option X} (Some x) (Some y) → x ≡ y
some_one h = cc

none_some : {X : Type 0} → {x : X} → ◌≡◌ {A = Option X} None (Some x) → ⊥
none_some h = cc

module _ (s : Source) (senses : List Sense) where
  declares : (i : ℕ) (b : Bool) (o : Option Ctype) (what : right.Declared) → (if b then option_map (declared_as s senses i) o else None) ≡ Some what → b ≡ true
  declares i false o what e = absurd (none_some e)
  declares i true o what e = refl

  -- what declares something by a name is one
  named : (i : ℕ) (what : right.Declared) → declared_name s senses i ≡ Some what → is_name s i ≡ true
  named i what e =
      let d : declares_entity s senses i ≡ true = declares i (declares_entity s senses i) (entity_type s senses i) what e in
      (and_parts (is_name s i) _ (and_parts (is_declaring s senses i) _ d).0).0

  -- at a leaf that is no name nothing with a linkage is declared
  local : (i : ℕ) (what : right.Declared) → is_name s i ≡ false → IsDeclaredAt s senses i what → what.linkage ≡ Local
  local i what plain (inl e) = absurd (both_ways (is_name s i) plain (named i what e))
  local i what plain (inr l) = ap (λ (w : right.Declared). w.linkage) l.2

module _ (s : Source) (name : List ℕ) (u : Unit) (b : IsBuilt s name u) where
  all : (i : ℕ) → OfSense (IsUnnamed s) (sense_in b.senses i)
  all i = unnamed s b.senses b.are_senses i

  -- the entity of a leaf that is no name
  none_linked : (d e : ℕ) (o : Option Entity) → entity_at (trees_of u) e ≡ o → is_name s d ≡ false → b.numbering d ≡ Some e → HasNoLinkage o
  none_linked d e (Some entity) at plain number =
      let m : IsMade s b.senses b.numbering u e entity = made s name u b e entity at in
      let same : d ≡ m.leaf = b.entity_once d m.leaf e number m.number in
      m.is.linkage ∙ local s b.senses m.leaf m.what (subst (λ (i : ℕ). is_name s i ≡ false) same plain) m.declared
  none_linked d e None at plain number =
      let (declared, what, is, numbered) = b.no_other_entity e (b.numbered d e number) in
      let (f, entity, same, there, entered) = b.each_declared declared what is in
      let one : f ≡ e = some_one (sym same ∙ numbered) in
      absurd (none_some (sym at ∙ (ap (λ (i : ℕ). entity_at (trees_of u) i) (sym one) ∙ there)))

  kind_unlinked : (kind other : NodeKind) → IsUnnamedKind s kind → SameKind b.numbering kind other → MakesUnlinked (trees_of u) other
  kind_unlinked (Literal d) (Literal e) asked same = none_linked d e (entity_at (trees_of u) e) refl asked same
  kind_unlinked kind (Literal e) asked same = cc
  kind_unlinked kind other asked same = tt

  unnamed_kind : (kind : NodeKind) (place : Place) (type : Ctype) (under : Cores) → Holds (IsUnnamed s) (Of kind place type under) → IsUnnamedKind s kind
  unnamed_kind (Literal d) place type under h = h.0
  unnamed_kind kind place type under h = tt

  node_unlinked : (i : ℕ) (node : Node) → slice_get u.nodes.items i ≡ Some node → MakesUnlinked (trees_of u) node.kind
  node_unlinked i node at =
      let h : Stands s b.senses b.numbering u i = nodes_stand s name u b i (slice_get_within u.nodes.items i node at) in
      by h.tree h.by (in_body_holds (IsUnnamed s) s b.senses all h.tree h.in_body)
    where
      by : (c : Core) → StandsBy b.numbering u i c → Holds (IsUnnamed s) c → MakesUnlinked (trees_of u) node.kind
      by (Of kind place type under) stands holds =
          let same : stands.0 ≡ node = some_one (sym stands.1 ∙ at) in
          kind_unlinked kind node.kind (unnamed_kind kind place type under holds) (subst (λ (x : Node). SameKind b.numbering kind x.kind) same stands.2)

pub literals_unlinked : LiteralsUnlinked
literals_unlinked s name u b i node at = node_unlinked s name u b i node at
