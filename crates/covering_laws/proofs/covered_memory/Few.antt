-- Each type of a table has few nodes, where its structures have.
use Rattle.std.proofs.Common.{arith, ◌≡◌, ℕ, suc, ◌^◌, ◌<◌, ◌≤◌, List, length, Option, Some, None, slice_get, refl, sym, ap, subst}
use Rattle.std.specs.Option.{option_map}
use Rattle.c_types.specs.declared.term.MemberTerm.{MemberTerm}
use Rattle.c_types.specs.declared.term.Term.TheVariants.{Union}
use Rattle.c_types.specs.Trees.{Ctype, VoidType, BoolType, IntegerType, FloatingType, VaListType, PointerTo, ArrayOf, FunctionFrom, StructureOf, UnionOf}
use Rattle.c_types.specs.Layout.{Extent, all_nodes, of_members, structure_of, union_of}
use Rattle.c_types.specs.Table.{Table, type_of, look_in, extent_in, extents_in, members_in}
use Rattle.c_types.specs.Made.{IsMade, AreNamed}
use Rattle.c_types.proofs.Nodes.{structure_nodes, union_nodes}
use Rattle.obj_space.specs.Parts.{nodes_of}
use Rattle.obj_space.proofs.Preorder.{nodes_repeated}
use Rattle.covering_laws.specs.covered_memory.Demands.{IsFew}
use Rattle.covering_laws.proofs.covered_memory.Proper.{IsProper, proper}

module _ (table : Table) (made : IsMade table) (named : AreNamed table)
    (fit : (tag : ℕ) (members : List MemberTerm) → members_in table tag ≡ Some members → ((i : ℕ) → slice_get table.terms i ≡ Some (Union tag) → ⊥) → length (all_nodes (extents_in table members)) < 2 ^ 24) where
  structure_few : (tag : ℕ) → ((i : ℕ) → slice_get table.terms i ≡ Some (Union tag) → ⊥) → (o : Option (List MemberTerm)) → members_in table tag ≡ o
      → length (nodes_of (of_members (structure_of (StructureOf tag)) (option_map (extents_in table) o))) ≤ 2 ^ 24
  structure_few tag none None is = omega arith
  structure_few tag none (Some ms) is =
      let many : length (structure_of (StructureOf tag) (extents_in table ms)).nodes ≡ suc (length (all_nodes (extents_in table ms))) = ap (λ (ns : List Ctype). length ns) (structure_nodes (StructureOf tag) (extents_in table ms)) in
      let less = fit tag ms is none in
      omega arith

  union_few : (tag : ℕ) (o : Option (List Extent)) → length (nodes_of (of_members (union_of (UnionOf tag)) o)) ≤ 2 ^ 24
  union_few tag None = omega arith
  union_few tag (Some es) = (let one : length (union_of (UnionOf tag) es).nodes ≡ 1 = ap (λ (ns : List Ctype). length ns) (union_nodes (UnionOf tag) es) in omega arith)

  pub structures_few : (tag : ℕ) → ((i : ℕ) → slice_get table.terms i ≡ Some (Union tag) → ⊥) → IsFew table (StructureOf tag)
  structures_few tag none =
      subst (λ (o : Option (List Extent)). length (nodes_of (of_members (structure_of (StructureOf tag)) o)) ≤ 2 ^ 24) (sym (made.laid tag)) (structure_few tag none (members_in table tag) refl)

  few_of : (t : Ctype) → IsProper table made named t → IsFew table t
  few_of VoidType h = omega arith
  few_of BoolType h = omega arith
  few_of (IntegerType size rank signed) h = omega arith
  few_of FloatingType h = omega arith
  few_of VaListType h = omega arith
  few_of (PointerTo to) h = omega arith
  few_of (ArrayOf of None) h = omega arith
  few_of (ArrayOf of (Some n)) h = subst (λ (ns : List Ctype). length ns ≤ 2 ^ 24) (sym (nodes_repeated n (extent_in table of))) (few_of of h)
  few_of (FunctionFrom r ps f) h = omega arith
  few_of (StructureOf tag) h = structures_few tag h.1
  few_of (UnionOf tag) h = union_few tag (look_in table tag)

  -- so a node's type has few nodes
  pub types_few : (id : ℕ) → IsFew table (type_of table id)
  types_few id = few_of (type_of table id) (proper table made named id)
