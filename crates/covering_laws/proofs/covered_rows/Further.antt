-- Calls of variadic functions: what is passed past the parameters is covered in the object of all that.
use Rattle.std.proofs.Common.{arith, ◌≡◌, ◌∙◌, inl, ℕ, zero, suc, ◌+◌, ◌≤◌, true, false, Bool, List, [], ◌∷◌, ◌++◌, take, drop, length, map, Option, Some, None, slice_get, unwrap_or, Contains, refl, sym, ap, subst}
use Rattle.std.specs.Prelude.{if◌then◌else◌}
use Rattle.std.proofs.lemmas.Option.{slice_get_within}
use Rattle.c_types.specs.declared.key.ObjectKey.TheVariants.{Entity as EntityKey, Varargs as VarargsKey}
use Rattle.c_types.specs.Trees.{Ctype}
use Rattle.c_types.specs.Table.{type_of}
use Rattle.core_tree.specs.declared.node.Node.{Node}
use Rattle.core_tree.specs.declared.node.NodeKind.TheVariants.{CallNode}
use Rattle.core_tree.specs.declared.node.Program.{Program}
use Rattle.core_tree.specs.Typed.{CoreTrees, trees_in, type_at}
use Rattle.sol_model.specs.declared.system.System.{System}
use Rattle.sol_model.specs.declared.system.CallSite.{CallSite}
use Rattle.sol_model.specs.declared.system.Function.{Function}
use Rattle.sol_model.specs.Families.{Family, Has, IsContained}
use Rattle.sol_model.specs.Rules.{IsTarget, TargetEdge}
use Rattle.sol_model.specs.Solutions.{IsClosed}
use Rattle.obj_space.specs.declared.location.Location.{Location}
use Rattle.obj_space.specs.Spots.{Reached, reached, part_at}
use Rattle.obj_space.specs.View.{SpaceView, first_from, view_of}
use Rattle.row_numbers.specs.Kept.{nodes_of, kept_at, kept, kept_row}
use Rattle.row_numbers.specs.Functions.{key_type, parameters_of}
use Rattle.row_numbers.specs.Setting.{Setting, rest_row, takes_further, value_rows}
use Rattle.ref_cells.specs.declared.cells.Cell.{Cell}
use Rattle.ref_cells.specs.declared.cells.Cell.TheVariants.{Unset, Number, Null, Pointer, Function as FunctionCell}
use Rattle.ref_cells.specs.declared.cells.Value.{Value}
use Rattle.ref_cells.specs.declared.instance.Instance.{Instance}
use Rattle.call_sites.specs.Calls.{head_of, rest_of, variadic_count, rows_past, IsCallSite}
use Rattle.normal_form.specs.declared.normal.Assignment.{Assignment}
use Rattle.normal_form.specs.declared.normal.Assignment.TheVariants.{Copy}
use Rattle.normal_form.specs.Assignments.{row_in, gathered_row, gathered_past, call_row}
use Rattle.normal_form.specs.Facts.{parameter_rows, parameters_by}
use Rattle.normal_form.specs.SystemOf.{SystemOf}
use Rattle.covering_laws.specs.covered_memory.Cells.{EachCell}
use Rattle.covering_laws.specs.covered_memory.Spots.{spot}
use Rattle.covering_laws.specs.covered_memory.Covered.{Sets, Lands, CellIn, pointer_row}
use Rattle.covering_laws.specs.covered_memory.Demands.{Grounds, IsWhole}
use Rattle.covering_laws.proofs.covered_memory.Cells.{each_change}
use Rattle.covering_laws.proofs.covered_memory.Access.{row_inv}
use Rattle.covering_laws.specs.covered_rows.Nodes.{IsNode, HeldIn}
use Rattle.covering_laws.proofs.covered_rows.Lists.{first_has, behind_has, map_has, flat_has, kept_has, zip_has}
use Rattle.covering_laws.proofs.covered_rows.Demanded.{Copies, copy_says, by_value}
use Rattle.covering_laws.proofs.covered_rows.Values.{sets, w', value_copied}
use Rattle.covering_laws.proofs.covered_rows.Calls.{call_says}

none_some : {X : Type 0} → {x : X} → ◌≡◌ {A = Option X} None (Some x) → ⊥
none_some h = cc

some_one : {X : Type 0} → {x y : X} → ◌≡◌ {A = Option X} (Some x) (Some y) → x ≡ y
some_one h = cc

pub slice_has : {X : Type 0} (xs : List X) (k : ℕ) (x : X) → slice_get xs k ≡ Some x → Contains xs x
slice_has [] k x h = absurd (none_some h)
slice_has {X = X} (y ∷ xs) zero x h = subst (λ (z : X). Contains (y ∷ xs) z) (some_one h) (first_has y xs)
slice_has (y ∷ xs) (suc k) x h = behind_has x y xs (slice_has xs k x h)

-- what stands behind the first so many
dropped_has : {X : Type 0} (n : ℕ) (xs : List X) (k : ℕ) (x : X) → n ≤ k → slice_get xs k ≡ Some x → Contains (drop n xs) x
dropped_has zero xs k x le h = slice_has xs k x h
dropped_has (suc n) [] k x le h = absurd (none_some h)
dropped_has (suc n) (y ∷ xs) zero x le h = absurd (omega (arith, le))
dropped_has (suc n) (y ∷ xs) (suc k) x le h = dropped_has n xs k x (omega (arith, le)) h

-- what stands last
behind_taken : {X Y : Type 0} (f : X → Y) (n : ℕ) (xs : List X) (z : Y) → n ≤ length xs → slice_get (map f (take n xs) ++ z ∷ []) n ≡ Some z
behind_taken f zero xs z le = refl
behind_taken f (suc n) [] z le = absurd (omega (arith, le))
behind_taken f (suc n) (x ∷ xs) z le = behind_taken f n xs z (omega (arith, le))

behind_all : {X Y : Type 0} (f : X → Y) (xs : List X) (z : Y) → slice_get (map f xs ++ z ∷ []) (length xs) ≡ Some z
behind_all f [] z = refl
behind_all f (x ∷ xs) z = behind_all f xs z

-- a call gathers each argument past the parameters
call_has : (w : Setting) (n : ℕ) (children : List ℕ) (count k a : ℕ) (x : Assignment) → variadic_count (type_at w.trees (head_of children)) ≡ Some count → count ≤ k → slice_get (rest_of children) k ≡ Some a
    → Contains (gathered_row w n a) x → Contains (call_row w n children) x
call_has w n [] count k a x variadic le at h = absurd (none_some at)
call_has w n (c ∷ arguments) count k a x variadic le at h =
    subst (λ (o : Option ℕ). Contains (gathered_past w n o arguments) x) (sym variadic)
    (flat_has (gathered_row w n) (drop count arguments) a x (dropped_has count arguments k a le at) h)

-- where all nodes have one row, each cell is in it
module _ (g : Sets) (memory : List Instance) (l : ℕ) (o : Option Reached) where
  lands_one : (found : Option ℕ) → Lands g.family (pointer_row (λ i. l) o) found → Lands g.family (Some l) found
  lands_one found h =
      let i = row_inv (λ i. l) o h.at h.row_is in
      record { at = l; location = h.location; row_is = refl; found_is = h.found_is; has = subst (λ (k : ℕ). Has g.family k h.location) (sym i.4) h.has }

  cell_one : (c : Cell) → CellIn g memory (pointer_row (λ i. l) o) c → CellIn g memory (Some l) c
  cell_one (Pointer i path past) h = record { inst = h.inst; inst_is = h.inst_is; in_tree = h.in_tree; lands = lands_one (spot g.table g.space h.inst.key path) h.lands }
  cell_one (FunctionCell key) h = lands_one (spot g.table g.space key []) h
  cell_one Unset h = tt
  cell_one (Number n) h = tt
  cell_one Null h = tt

module _ (p : Program) (space : List Location) (system : System) (is : SystemOf p (view_of space) system) (F : Family) (closed : IsClosed system F) (grounds : Grounds p.types space system) where
  abbrev g : Sets
  g = sets p space system is F closed grounds

  abbrev w : Setting
  w = w' p space system is F closed grounds

  abbrev u : CoreTrees
  u = trees_in p

  abbrev s : SpaceView
  s = view_of space

  module _ (number n : ℕ) (node : Node) (site : CallSite) (at : slice_get system.calls number ≡ Some site) (of_call : IsCallSite w n node site)
      (target : ℕ) (function : Function) (is_target : IsTarget system F site target function) (body : function.library ≡ None) (there : slice_get u.nodes n ≡ Some node) (kind : node.kind ≡ CallNode) where
    -- An argument past the parameters is covered in the object of all that.
    pub further_in : (f count k a l : ℕ) → variadic_count (type_at u (head_of node.children)) ≡ Some count → takes_further (key_type u (EntityKey f)) ≡ true → function.parameters ≡ parameters_by u s (EntityKey f)
        → length (parameters_of u s f) ≡ count → first_from 0 space (VarargsKey f) ≡ Some l → count ≤ k → slice_get (rest_of node.children) k ≡ Some a → IsWhole p.types (type_at u a)
        → (memory : List Instance) (v : Value) → HeldIn g w memory a v → EachCell (λ path c. CellIn g memory (Some l) c) v.cells
    further_in f count k a l variadic further parameters many first le a_is whole memory v h =
        each_change (λ path c. CellIn g memory (pointer_row (λ i. l) (part_at p.types (Some (reached (type_at u a) 0 false)) path)) c) (λ path c. CellIn g memory (Some l) c) v.cells
        (λ path c x. cell_one g memory l (part_at p.types (Some (reached (type_at u a) 0 false)) path) c x)
        (value_copied g system grounds memory (kept_row (row_in w a) (nodes_of p.types (type_at u a))) (λ i. l) (type_at u a) whole each v h)
      where
        enough : count ≤ length (rest_of node.children)
        enough = let lt = slice_get_within (rest_of node.children) k a a_is in omega (arith, lt, le)

        arguments : slice_get site.arguments count ≡ Some (rest_row u s n ∷ [])
        arguments =
            ap (λ (rows : List (List ℕ)). slice_get rows count) of_call.arguments
            ∙ (ap (λ (o : Option ℕ). slice_get (rows_past u s n o (rest_of node.children)) count) variadic
            ∙ behind_taken (value_rows u s) count (rest_of node.children) (rest_row u s n ∷ []) enough)

        own : slice_get function.parameters count ≡ Some (l ∷ [])
        own =
            ap (λ (rows : List (List ℕ)). slice_get rows count) parameters
            ∙ (ap (λ (b : Bool). slice_get (map (parameter_rows u s) (parameters_of u s f) ++ (if b then (unwrap_or (s.first (VarargsKey f)) 0 ∷ []) ∷ [] else [])) count) further
            ∙ (ap (λ (o : Option ℕ). slice_get (map (parameter_rows u s) (parameters_of u s f) ++ (unwrap_or o 0 ∷ []) ∷ []) count) first
            ∙ (ap (λ (c : ℕ). slice_get (map (parameter_rows u s) (parameters_of u s f) ++ (l ∷ []) ∷ []) c) (sym many) ∙ behind_all (parameter_rows u s) (parameters_of u s f) (l ∷ []))))

        passed : IsContained F (rest_row u s n) l
        passed =
            call_says p space system is F closed grounds number site at target function is_target (rest_row u s n) l
            (subst (λ (o : Option ℕ). TargetEdge system F site target function o (rest_row u s n) l) (sym body)
            (inl (
              (rest_row u s n ∷ [], l ∷ []),
              zip_has site.arguments function.parameters count (rest_row u s n ∷ []) (l ∷ []) arguments own,
              zip_has (rest_row u s n ∷ []) (l ∷ []) 0 (rest_row u s n) l refl refl,
            )))

        call_node : IsNode u n CallNode (type_of p.types node.ty.0) node.children
        call_node = record { node = node; there = there; kind_is = kind; type_is = refl; children_are = refl }

        gathered : (i : ℕ) → kept_at (slice_get (nodes_of p.types (type_at u a)) i) ≡ true → IsContained F (kept_row (row_in w a) (nodes_of p.types (type_at u a)) i) (rest_row u s n)
        gathered i kept_is =
            copy_says p s system is F closed (rest_row u s n) (kept_row (row_in w a) (nodes_of p.types (type_at u a)) i)
            (by_value p s system is F closed n CallNode (type_of p.types node.ty.0) node.children call_node (Copy (rest_row u s n) (kept_row (row_in w a) (nodes_of p.types (type_at u a)) i))
            (call_has w n node.children count k a (Copy (rest_row u s n) (kept_row (row_in w a) (nodes_of p.types (type_at u a)) i)) variadic le a_is
            (map_has (λ (j : ℕ). Copy (rest_row u s n) (kept_row (row_in w a) (nodes_of p.types (type_at u a)) j)) (kept (nodes_of p.types (type_at u a))) i (kept_has (nodes_of p.types (type_at u a)) i kept_is))))

        each : Copies p.types F (kept_row (row_in w a) (nodes_of p.types (type_at u a))) (λ i. l) (type_at u a)
        each i kept_is x has = passed x (gathered i kept_is x has)
