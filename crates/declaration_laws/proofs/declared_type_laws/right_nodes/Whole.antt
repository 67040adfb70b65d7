-- A right unit is made of the senses of its tree, as the counting law asks.
use Rattle.std.proofs.Common.{◌≡◌, ◌<◌, ℕ, List, Option, Some, None, length, slice_get, ap, subst, ◌⊎◌, inl, inr}
use Rattle.std.specs.Prelude.{IfSome}
use Rattle.core_tree.specs.declared.node.Unit.{Unit}
use Rattle.core_tree.specs.declared.node.Node.{Node}
use Rattle.core_tree.specs.declared.node.NodeKind.TheVariants.{Literal}
use Rattle.core_tree.specs.declared.node.Entity.{Entity}
use Rattle.core_tree.specs.declared.node.Storage.TheVariants.{FunctionBody}
use Rattle.core_tree.specs.Typed.{trees_of}
use Rattle.core_tree.specs.Rows.{Initialises}
use Rattle.core_tree.specs.Range.{named_by}
use Rattle.core_tree.specs.Valid.{HasBody, IsFunctionBody, IsObjectBody}
use Rattle.c_senses.specs.Names.{source_of, numbered}
use Rattle.c_senses.specs.Tree.{Source}
use Rattle.c_senses.specs.Right.{Right}
use Rattle.core_node_laws.specs.count_laws.once_nodes.Once.{BlocksDiffer, IsLaid}
use Rattle.core_node_laws.proofs.count_laws.single_nodes.Whole.{texts_once, calls_once, literals_once}
use Rattle.declaration_laws.proofs.declared_type_laws.owner_laws.passed.definition_laws.block_laws.Whole.{blocks_differ}
use Rattle.declaration_laws.specs.declared_type_laws.right_nodes.Once.{RightNodesOnce}

module _ (s : Source) (name : List ℕ) (u : Unit) (r : Right s name u) where
  body_of : (e b : ℕ) (entity : Entity) → (o : Option ℕ) → o ≡ Some b → HasBody (trees_of u) e entity o → (entity.storage ≡ FunctionBody) ⊎ Initialises (trees_of u) b e
  body_of e b entity None is h = absurd (none_some is)
    where
      none_some : {X : Type 0} → {x : X} → ◌≡◌ {A = Option X} None (Some x) → ⊥
      none_some e = cc
  body_of e b entity (Some d) is h = subst (λ (x : ℕ). (entity.storage ≡ FunctionBody) ⊎ Initialises (trees_of u) x e) (some_one is) (by h.0)
    where
      some_one : {X : Type 0} → {x y : X} → ◌≡◌ {A = Option X} (Some x) (Some y) → x ≡ y
      some_one e = cc

      by : IsFunctionBody (trees_of u) entity d ⊎ IsObjectBody (trees_of u) e entity d → (entity.storage ≡ FunctionBody) ⊎ Initialises (trees_of u) d e
      by (inl f) = inl f.storage
      by (inr o) = inr o.initialises

  pub right_laid : BlocksDiffer s r.senses → IsLaid s r.senses r.numbering u
  right_laid blocks = record {
    are_senses = r.are_senses;
    whole = r.whole;
    entity_once = r.entity_once;
    each_declared = r.each_declared;
    no_other_entity = r.no_other_entity;
    initialises_once = r.initialises_once;
    no_other_node = r.no_other_node;
    children_first = r.valid.trees.in_range.children;
    bodies = λ e b entity at body. body_of e b entity entity.body body (r.valid.trees.bodied e entity at);
    blocks = blocks;
  }

  -- the entity of a literal is one of the unit's
  literal_in : (n e : ℕ) (a : Node) → slice_get u.nodes.items n ≡ Some a → a.kind ≡ Literal e → e < length u.entities.items
  literal_in n e a at is = by (named_by a.kind) (ap named_by is) (r.valid.trees.in_range.entities n a at)
    where
      by : (o : Option ℕ) → o ≡ Some e → IfSome o (λ x. x < length u.entities.items) → e < length u.entities.items
      by None h k = absurd (none_some h)
        where
          none_some : {X : Type 0} → {x : X} → ◌≡◌ {A = Option X} None (Some x) → ⊥
          none_some e = cc
      by (Some x) h k = let same : x ≡ e = cc in subst (λ (y : ℕ). y < length u.entities.items) same k

pub right_nodes_once : RightNodesOnce
right_nodes_once tokens unit tree tag_number name u cut read r =
    let s : Source = numbered tag_number (source_of tokens tree) in
    let laid : IsLaid s r.senses r.numbering u = right_laid s name u r (blocks_differ tokens unit tree tag_number r.senses read r.are_senses r.whole) in
    record {
      text = λ n m a b bytes others nodes ka kb line column. texts_once tokens unit tree tag_number r.senses r.numbering u cut read laid n m a b bytes others nodes.first nodes.second ka kb line column;
      call = λ n m a b nodes ka kb line column. calls_once tokens unit tree tag_number r.senses r.numbering u cut read laid n m a b nodes.first nodes.second ka kb line column;
      literal = λ n m e a b nodes ka kb. literals_once tokens unit tree tag_number r.senses r.numbering u cut read laid n m e a b (literal_in s name u r n e a nodes.first ka) nodes.first nodes.second ka kb;
    }
