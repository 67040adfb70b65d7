-- What functions give.
use Rattle.std.proofs.Common.{arith, ◌≡◌, inl, inr, ℕ, ◌+◌, ◌^◌, ◌≤◌, Bool, true, false, cond, List, [], ◌∷◌, length, Option, Some, None, IsSome, refl, subst}
use Rattle.std.specs.Prelude.{IfSome, nat_lt}
use Rattle.std.proofs.lemmas.Bool.{false≢true, ltb-true}
use Rattle.c_types.specs.Trees.{Ctype}
use Rattle.c_types.specs.Layout.{Extent}
use Rattle.c_types.specs.Table.{Table, type_of, extent_in, nodes_within}
use Rattle.type_rules.specs.Conversions.{result_of}
use Rattle.type_rules.specs.Sizes.{HasSize, ResultHasSize}
use Rattle.core_tree.specs.declared.node.Entity.{Entity}
use Rattle.core_tree.specs.declared.node.Node.{Node}
use Rattle.core_tree.specs.declared.node.NodeKind.{NodeKind}
use Rattle.core_tree.specs.declared.node.NodeKind.TheVariants.{Return}
use Rattle.core_tree.specs.declared.node.Program.{Program}
use Rattle.core_tree.specs.Typed.{CoreTrees, ValueNode, sort_at, type_at, trees_in}
use Rattle.core_tree.specs.Range.{Under}
use Rattle.core_tree.specs.Rows.{RowOf}
use Rattle.core_tree.specs.Valid.{UnderBody, FitsBody, ValidProgram}
use Rattle.obj_space.specs.Parts.{nodes_of as tree_nodes}
use Rattle.covering_laws.specs.covered_types.Whole.{IsWhole, IsHeld}
use Rattle.covering_laws.specs.covered_types.Returns.{HasResults, ReturnsHeld}
use Rattle.covering_laws.proofs.covered_types.Whole.{sized_complete}

-- a number of nodes up to 2^24
few_by : (o : Option Extent) → IsSome (nodes_within o) → length (tree_nodes o) ≤ 2 ^ 24
few_by None h = omega arith
few_by (Some e) h = by (nat_lt (length e.nodes) (2 ^ 24 + 1)) refl h
  where
    by : (b : Bool) → nat_lt (length e.nodes) (2 ^ 24 + 1) ≡ b → IsSome (cond b (Some (length e.nodes)) None) → length e.nodes ≤ 2 ^ 24
    by true is k = (let lt = ltb-true (length e.nodes) (2 ^ 24 + 1) is in omega arith)
    by false is k = absurd (false≢true k)

pub sized_whole : (table : Table) (t : Ctype) → HasSize table t → IsWhole table t
sized_whole table t h = record { complete = sized_complete table t h; few = few_by (extent_in table t) h.1 }

result_held : (table : Table) (t : Ctype) → ResultHasSize table t → IsHeld table (result_of t)
result_held table t (inl void) = inl void
result_held table t (inr sized) = inr (sized_whole table (result_of t) sized)

module _ (p : Program) (valid : ValidProgram p) where
  abbrev u : CoreTrees
  u = trees_in p

  value_by : (t : Ctype) (node : Node) (v : ℕ) → node.kind ≡ Return → node.children ≡ v ∷ [] → RowOf u node.kind t node.children → sort_at u v ≡ ValueNode
  value_by t node v kind children row =
      subst (λ (l : List ℕ). RowOf u Return t l) children (subst (λ (k : NodeKind). RowOf u k t node.children) kind row)

  type_by : (function : Entity) (b : ℕ) (node : Node) (v : ℕ) → node.kind ≡ Return → node.children ≡ v ∷ [] → FitsBody u function b node.kind node.children → type_at u v ≡ result_of (type_of p.types function.ty.0)
  type_by function b node v kind children fits =
      subst (λ (l : List ℕ). FitsBody u function b Return l) children (subst (λ (k : NodeKind). FitsBody u function b k node.children) kind fits)

  under_by : (function : Entity) (n : ℕ) (node : Node) (v : ℕ) → node.kind ≡ Return → node.children ≡ v ∷ [] → (o : Option ℕ) → UnderBody u o n → IfSome o (λ b. Under u b n → FitsBody u function b node.kind node.children)
      → type_at u v ≡ result_of (type_of p.types function.ty.0)
  under_by function n node v kind children None under fits = absurd under
  under_by function n node v kind children (Some b) under fits = type_by function b node v kind children (fits under)

  results : HasResults p
  results = record {
    given = λ f function there storage. result_held p.types (type_of p.types function.ty.0) (valid.trees.measured.results f function there storage);
    returned = λ n node v f function there kind children at around. (
      value_by (type_of p.types node.ty.0) node v kind children (valid.trees.rows n node there),
      under_by function n node v kind children function.body around.1 (((valid.trees.functions n node there).each f function at).fits around.0),
    );
  }

pub returns_held : ReturnsHeld
returns_held p valid = results p valid
