-- What is there when a program with more types begins.
use Rattle.std.proofs.Common.{◌≡◌, ◌∙◌, ℕ, ◌+◌, ◌<◌, ◌==◌, not, List, [], ◌∷◌, ◌++◌, length, map, filter, Option, Some, None, slice_get, unwrap_or, refl, ap}
use Rattle.c_types.specs.declared.key.ObjectKey.{ObjectKey}
use Rattle.c_types.specs.declared.key.ObjectKey.TheVariants.{Entity as EntityKey, Outside}
use Rattle.c_types.specs.declared.term.Term.{Term}
use Rattle.c_types.specs.Trees.{Ctype}
use Rattle.c_types.specs.Made.{IsMade}
use Rattle.core_tree.specs.declared.node.Node.{Node}
use Rattle.core_tree.specs.declared.node.Entity.{Entity}
use Rattle.core_tree.specs.declared.node.Program.{Program}
use Rattle.core_tree.specs.Typed.{CoreTrees, trees_in}
use Rattle.sol_model.specs.declared.system.Constraint.{Constraint}
use Rattle.sol_model.specs.declared.system.Constraint.TheVariants.{Address as AddressForm, Copy as CopyForm}
use Rattle.obj_space.specs.View.{SpaceView}
use Rattle.row_numbers.specs.Kept.{nodes_of, row_list}
use Rattle.row_numbers.specs.Functions.{number_of, key_type, parameters_of}
use Rattle.row_numbers.specs.Setting.{none_row, result_row}
use Rattle.normal_form.specs.Facts.{cell_list, parameter_rows}
use Rattle.normal_form.specs.SystemOf.{present_rows, taken_in, given_out, result_rows, entry_constraints, outside_constraints, start_constraints}
use Rattle.covering_laws.specs.grown_programs.Grown.{with_terms, MayFollow, IsKept, with_types}
use Rattle.covering_laws.proofs.grown_programs.Types.{both, three, nodes_same}
use Rattle.covering_laws.proofs.grown_programs.Numbers.{key_type_same, number_same, result_row_same, none_row_same, result_nodes_same}
use Rattle.covering_laws.proofs.grown_programs.Demanded.{flat_same}

module _ (p : Program) (more : List Term) (made : IsMade p.types) (follow : MayFollow (length p.types.terms) more) (kept : IsKept p.types (with_terms p.types more))
    (nodes_known : (n : ℕ) (node : Node) → slice_get p.nodes.items n ≡ Some node → node.ty.0 < length p.types.terms)
    (entities_known : (e : ℕ) (x : Entity) → slice_get p.entities.items e ≡ Some x → x.ty.0 < length p.types.terms) (s : SpaceView) where
  abbrev u : CoreTrees
  u = trees_in p

  abbrev u' : CoreTrees
  u' = trees_in (with_types p more)

  none_same : none_row u' s ≡ none_row u s
  none_same = none_row_same p more made follow kept nodes_known entities_known s

  pub parameter_same : (key : ObjectKey) → parameter_rows u' s key ≡ parameter_rows u s key
  parameter_same key =
      both (λ (none : ℕ) (ts : List Ctype). cell_list none (unwrap_or (s.first key) 0) ts) none_same
      (ap (nodes_of (with_terms p.types more)) (key_type_same p more made follow kept nodes_known entities_known key) ∙ nodes_same p.types more made follow kept (key_type u key))

  results_same : (e : ℕ) → result_rows u' s e ≡ result_rows u s e
  results_same e =
      three row_list none_same
      (ap (result_row u' s) (number_same p more made follow kept nodes_known entities_known s e) ∙ result_row_same p more made follow kept nodes_known entities_known s (number_of u s e))
      (result_nodes_same p more made follow kept nodes_known entities_known (EntityKey e))

  present_same : (rows own : List ℕ) → rows ≡ own → present_rows u' s rows ≡ present_rows u s own
  present_same rows own same = both (λ (none : ℕ) (list : List ℕ). filter (λ (row : ℕ). not (row == none)) list) none_same same

  taken_same : (outside : ℕ) (key : ObjectKey) → taken_in u' s outside (parameter_rows u' s key) ≡ taken_in u s outside (parameter_rows u s key)
  taken_same outside key = ap (map (λ (row : ℕ). CopyForm outside row)) (present_same (parameter_rows u' s key) (parameter_rows u s key) (parameter_same key))

  given_same : (outside e : ℕ) → given_out u' s outside (result_rows u' s e) ≡ given_out u s outside (result_rows u s e)
  given_same outside e = ap (map (λ (row : ℕ). CopyForm row outside)) (present_same (result_rows u' s e) (result_rows u s e) (results_same e))

  entry_same : (outside e : ℕ) → entry_constraints u' s outside e ≡ entry_constraints u s outside e
  entry_same outside e =
      both (λ (a b : List Constraint). a ++ b)
      (flat_same (λ key. taken_in u' s outside (parameter_rows u' s key)) (λ key. taken_in u s outside (parameter_rows u s key)) (parameters_of u s e) (λ key. taken_same outside key))
      (given_same outside e)

  outside_same : (entries : List ℕ) (o : Option ℕ) → outside_constraints u' s entries o ≡ outside_constraints u s entries o
  outside_same entries None = refl
  outside_same entries (Some outside) =
      ap (λ (list : List Constraint). AddressForm outside outside ∷ list) (flat_same (entry_constraints u' s outside) (entry_constraints u s outside) entries (λ e. entry_same outside e))

  pub starts_same : (entries : List ℕ) → start_constraints u' s entries ≡ start_constraints u s entries
  starts_same [] = refl
  starts_same (e ∷ rest) = outside_same (e ∷ rest) (s.first Outside)
