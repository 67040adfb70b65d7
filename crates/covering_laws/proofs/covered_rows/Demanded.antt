-- What a node demands holds of each family that is closed for the program's system.
use Rattle.std.proofs.Common.{arith, ◌≡◌, ◌∙◌, ℕ, ◌+◌, true, List, ◌++◌, length, Some, slice_get, Contains, refl, sym, ap, subst}
use Rattle.std.specs.List.{range_with_len}
use Rattle.std.proofs.lemmas.List.Elements.{Contains-append_left, Contains-append_right}
use Rattle.std.proofs.lemmas.Option.{slice_get_within}
use Rattle.c_types.specs.Trees.{Ctype}
use Rattle.c_types.specs.Table.{Table, type_of}
use Rattle.core_tree.specs.declared.node.NodeKind.{NodeKind}
use Rattle.core_tree.specs.declared.node.Program.{Program}
use Rattle.core_tree.specs.Typed.{trees_in}
use Rattle.sol_model.specs.declared.system.System.{System}
use Rattle.sol_model.specs.declared.system.Constraint.{Constraint}
use Rattle.sol_model.specs.Families.{Family, Has, IsContained}
use Rattle.sol_model.specs.Places.{sub_of, field_of}
use Rattle.sol_model.specs.Rules.{Satisfies}
use Rattle.sol_model.specs.Solutions.{IsClosed}
use Rattle.obj_space.specs.View.{SpaceView}
use Rattle.row_numbers.specs.Kept.{nodes_of, kept_at, kept, kept_row}
use Rattle.row_numbers.specs.Setting.{Setting}
use Rattle.normal_form.specs.declared.normal.Assignment.{Assignment}
use Rattle.normal_form.specs.declared.normal.Assignment.TheVariants.{Address, Copy, Load, Store, Field}
use Rattle.normal_form.specs.Assignments.{place_of_kind, value_of_kind, statement_of_kind, row_of_kind, assignments_at, assignments_of, copies, loads, stores}
use Rattle.normal_form.specs.SystemOf.{constraint_of, setting_of, SystemOf, Demands, by_node}
use Rattle.normal_form.proofs.Demanding.{demanded}
use Rattle.normal_form.proofs.WholeLemmas.{at_node}
use Rattle.covering_laws.specs.covered_rows.Nodes.{IsNode}
use Rattle.covering_laws.proofs.covered_rows.Lists.{map_has, flat_has, range_has, kept_has}

-- each kept node of a type has what the same node has in other rows
abbrev pub Copies : Table → Family → (ℕ → ℕ) → (ℕ → ℕ) → Ctype → Type 0
Copies table F from to t = (i : ℕ) → kept_at (slice_get (nodes_of table t) i) ≡ true → IsContained F (from i) (to i)

module _ (p : Program) (s : SpaceView) (system : System) (is : SystemOf p s system) (F : Family) (closed : IsClosed system F) where
  abbrev pub w : Setting
  w = setting_of p s is.owners

  pub satisfied : (c : Constraint) → Demands w (length system.calls) c → Satisfies system F c
  satisfied c d = closed c ((demanded p s system is c).1 d)

  pub assigned : (a : Assignment) → Contains (assignments_of w) a → Satisfies system F (constraint_of a)
  assigned a h = satisfied (constraint_of a) (by_node {a = a} h refl)

  module _ (n : ℕ) (kind : NodeKind) (t : Ctype) (children : List ℕ) (node : IsNode (trees_in p) n kind t children) where
    row_is : row_of_kind w n kind t children ≡ assignments_at w n
    row_is =
        ap (λ (k : NodeKind). row_of_kind w n k t children) (sym node.kind_is)
        ∙ (ap (λ (u : Ctype). row_of_kind w n node.node.kind u children) (sym node.type_is)
        ∙ (ap (λ (cs : List ℕ). row_of_kind w n node.node.kind (type_of p.types node.node.ty.0) cs) (sym node.children_are) ∙ at_node w n node.node node.there))

    pub by_row : (a : Assignment) → Contains (row_of_kind w n kind t children) a → Satisfies system F (constraint_of a)
    by_row a h =
        assigned a
        (flat_has (assignments_at w) (range_with_len 0 (length p.nodes.items)) n a
        (subst (λ (m : ℕ). Contains (range_with_len 0 (length p.nodes.items)) m) (let e : 0 + n ≡ n = omega arith in e) (range_has 0 (length p.nodes.items) n (slice_get_within p.nodes.items n node.node node.there)))
        (subst (λ (list : List Assignment). Contains list a) row_is h))

    pub by_place : (a : Assignment) → Contains (place_of_kind w n kind children) a → Satisfies system F (constraint_of a)
    by_place a h = by_row a (Contains-append_left (place_of_kind w n kind children ++ value_of_kind w n kind t children) (statement_of_kind w n kind children) a
        (Contains-append_left (place_of_kind w n kind children) (value_of_kind w n kind t children) a h))

    pub by_value : (a : Assignment) → Contains (value_of_kind w n kind t children) a → Satisfies system F (constraint_of a)
    by_value a h =
        by_row a (Contains-append_left (place_of_kind w n kind children ++ value_of_kind w n kind t children) (statement_of_kind w n kind children) a
        (Contains-append_right (place_of_kind w n kind children) (value_of_kind w n kind t children) a h))

    pub by_statement : (a : Assignment) → Contains (statement_of_kind w n kind children) a → Satisfies system F (constraint_of a)
    by_statement a h =
        by_row a (Contains-append_right (place_of_kind w n kind children ++ value_of_kind w n kind t children) (statement_of_kind w n kind children) a h)

  -- what each form says
  pub copy_says : (to from : ℕ) → Satisfies system F (constraint_of (Copy to from)) → IsContained F from to
  copy_says to from h = h.edges from to (refl, refl)

  pub address_says : (to location : ℕ) → Satisfies system F (constraint_of (Address to location)) → Has F to location
  address_says to location h = h.facts to location (refl, refl)

  pub load_says : (to pointer ty i : ℕ) → Satisfies system F (constraint_of (Load to pointer ty i)) → (l m : ℕ) → Has F pointer l → sub_of system l ty i ≡ Some m → IsContained F m to
  load_says to pointer ty i h l m has sub = h.edges m to (l, has, sub, refl)

  pub store_says : (pointer from ty i : ℕ) → Satisfies system F (constraint_of (Store pointer from ty i)) → (l m : ℕ) → Has F pointer l → sub_of system l ty i ≡ Some m → IsContained F from m
  store_says pointer from ty i h l m has sub = h.edges from m (l, has, sub, refl)

  pub field_says : (to from ty k : ℕ) → Satisfies system F (constraint_of (Field to from ty k)) → (l m : ℕ) → Has F from l → field_of system l ty k ≡ Some m → Has F to m
  field_says to from ty k h l m has field = h.facts to m (l, has, field, refl)

  -- what the lists of them say
  pub loads_say : (t : Ctype) (to pointer ty : ℕ) → ((a : Assignment) → Contains (loads (nodes_of p.types t) to pointer ty) a → Satisfies system F (constraint_of a))
      → (i : ℕ) → kept_at (slice_get (nodes_of p.types t) i) ≡ true → (l m : ℕ) → Has F pointer l → sub_of system l ty i ≡ Some m → IsContained F m (kept_row to (nodes_of p.types t) i)
  loads_say t to pointer ty each i h =
      load_says (kept_row to (nodes_of p.types t) i) pointer ty i
      (each (Load (kept_row to (nodes_of p.types t) i) pointer ty i)
      (map_has (λ (j : ℕ). Load (kept_row to (nodes_of p.types t) j) pointer ty j) (kept (nodes_of p.types t)) i (kept_has (nodes_of p.types t) i h)))

  pub stores_say : (t : Ctype) (pointer from ty : ℕ) → ((a : Assignment) → Contains (stores (nodes_of p.types t) pointer from ty) a → Satisfies system F (constraint_of a))
      → (i : ℕ) → kept_at (slice_get (nodes_of p.types t) i) ≡ true → (l m : ℕ) → Has F pointer l → sub_of system l ty i ≡ Some m → IsContained F (kept_row from (nodes_of p.types t) i) m
  stores_say t pointer from ty each i h =
      store_says pointer (kept_row from (nodes_of p.types t) i) ty i
      (each (Store pointer (kept_row from (nodes_of p.types t) i) ty i)
      (map_has (λ (j : ℕ). Store pointer (kept_row from (nodes_of p.types t) j) ty j) (kept (nodes_of p.types t)) i (kept_has (nodes_of p.types t) i h)))

  pub copies_say : (t : Ctype) (to from : ℕ) → ((a : Assignment) → Contains (copies (nodes_of p.types t) to from) a → Satisfies system F (constraint_of a))
      → Copies p.types F (kept_row from (nodes_of p.types t)) (kept_row to (nodes_of p.types t)) t
  copies_say t to from each i h =
      copy_says (kept_row to (nodes_of p.types t) i) (kept_row from (nodes_of p.types t) i)
      (each (Copy (kept_row to (nodes_of p.types t) i) (kept_row from (nodes_of p.types t) i))
      (map_has (λ (j : ℕ). Copy (kept_row to (nodes_of p.types t) j) (kept_row from (nodes_of p.types t) j)) (kept (nodes_of p.types t)) i (kept_has (nodes_of p.types t) i h)))
