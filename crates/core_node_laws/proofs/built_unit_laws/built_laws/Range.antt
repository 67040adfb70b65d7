-- The numbers that nodes and entities name.
use Rattle.std.proofs.Common.{arith, ◌≡◌, ◌∙◌, ℕ, zero, suc, ◌<◌, List, [], ◌∷◌, length, Option, Some, None, slice_get, sym, subst}
use Rattle.std.specs.Prelude.{IfSome}
use Rattle.std.specs.List.{All}
use Rattle.std.proofs.lemmas.Option.{slice_get_within}
use Rattle.core_tree.specs.declared.node.Unit.{Unit}
use Rattle.core_tree.specs.declared.node.Node.{Node}
use Rattle.core_tree.specs.declared.node.NodeKind.{NodeKind}
use Rattle.core_tree.specs.declared.node.NodeKind.TheVariants.{Named, FunctionName, Literal, VarArgs, Block, For, Initialise}
use Rattle.core_tree.specs.Typed.{trees_of}
use Rattle.core_tree.specs.Range.{InRange, named_by, listed_by}
use Rattle.c_consts.specs.Core.{Core, Of}
use Rattle.c_senses.specs.Tree.{Source}
use Rattle.c_senses.specs.Right.{Numbering, SameEntities, SameKind, StandsBy, SameOwner, SameBody}
use Rattle.core_node_laws.specs.built_unit_laws.built_units.Built.{IsBuilt}
use Rattle.core_node_laws.specs.built_unit_laws.built_laws.Placed.{Stands}
use Rattle.core_node_laws.proofs.built_unit_laws.built_laws.Placed.{made, nodes_stand}

some_one : {X : Type 0} → {x y : X} → ◌≡◌ {A = Option X} (Some x) (Some y) → x ≡ y
some_one h = cc

-- numbers of entities that are below a count
module _ (n : Numbering) (count : ℕ) (numbered : (d e : ℕ) → n d ≡ Some e → e < count) where
  named_in : (kind other : NodeKind) → SameKind n kind other → IfSome (named_by other) (λ e. e < count)
  named_in (Named d) (Named e) h = numbered d e h
  named_in (FunctionName d) (FunctionName e) h = numbered d e h
  named_in (Literal d) (Literal e) h = numbered d e h
  named_in (VarArgs d) (VarArgs e) h = numbered d e h
  named_in (Initialise d paths) (Initialise e others) h = numbered d e h.0
  named_in kind (Named e) h = cc
  named_in kind (FunctionName e) h = cc
  named_in kind (Literal e) h = cc
  named_in kind (VarArgs e) h = cc
  named_in kind (Initialise e others) h = cc
  named_in kind other h = tt

  all_in : (ds es : List ℕ) → SameEntities n ds es → All (λ e. e < count) es
  all_in [] [] h k d lt = absurd (omega arith)
  all_in (c ∷ ds) [] h k d lt = absurd (omega arith)
  all_in [] (e ∷ es) h k d lt = absurd h
  all_in (c ∷ ds) (e ∷ es) h zero d lt = numbered c e h.0
  all_in (c ∷ ds) (e ∷ es) h (suc k) d lt = all_in ds es h.1 k d (omega arith)

  none_in : All (λ e. e < count) []
  none_in k d lt = absurd (omega arith)

  listed_in : (kind other : NodeKind) → SameKind n kind other → All (λ e. e < count) (listed_by other)
  listed_in (Block ds) (Block es) h = all_in ds es h
  listed_in (For ds c a) (For es d b) h = all_in ds es h.0
  listed_in kind (Block es) h = cc
  listed_in kind (For es d b) h = cc
  listed_in kind other h = none_in

  owner_in : (o p : Option ℕ) → SameOwner n o p → IfSome p (λ f. f < count)
  owner_in None None h = tt
  owner_in (Some d) (Some e) h = numbered d e h
  owner_in (Some d) None h = tt
  owner_in None (Some e) h = absurd h

body_in : (n : Numbering) (u : Unit) (o : Option Core) (p : Option ℕ) → SameBody n u o p → IfSome p (λ i. i < length u.nodes.items)
body_in n u o None h = tt
body_in n u None (Some i) h = absurd h
body_in n u (Some (Of kind place type under)) (Some i) h = slice_get_within u.nodes.items i h.0 h.1

-- the kind of a node is that of its tree, but for numbers
kind_there : (s : Source) (name : List ℕ) (u : Unit) (b : IsBuilt s name u) (i : ℕ) (node : Node) → slice_get u.nodes.items i ≡ Some node → (kind : NodeKind) × SameKind b.numbering kind node.kind
kind_there s name u b i node at =
    let h : Stands s b.senses b.numbering u i = nodes_stand s name u b i (slice_get_within u.nodes.items i node at) in
    by h.tree h.by
  where
    by : (c : Core) → StandsBy b.numbering u i c → (kind : NodeKind) × SameKind b.numbering kind node.kind
    by (Of kind place type under) stands =
        let same : stands.0 ≡ node = some_one (sym stands.1 ∙ at) in
        (kind, subst (λ (x : Node). SameKind b.numbering kind x.kind) same stands.2)

pub in_range : (s : Source) (name : List ℕ) (u : Unit) → IsBuilt s name u → InRange (trees_of u)
in_range s name u b = record {
  types = b.ready.types;
  children = b.ready.children;
  entities = λ i node at. (let k = kind_there s name u b i node at in named_in b.numbering (length u.entities.items) b.numbered k.0 node.kind k.1);
  lists = λ i node at. (let k = kind_there s name u b i node at in listed_in b.numbering (length u.entities.items) b.numbered k.0 node.kind k.1);
  entity_types = λ e entity at. (b.entered e entity at).type;
  owners = λ e entity at. (let m = made s name u b e entity at in owner_in b.numbering (length u.entities.items) b.numbered m.what.owner entity.owner m.is.owner);
  bodies = λ e entity at. (let m = made s name u b e entity at in body_in b.numbering u m.what.body entity.body m.is.body);
}
