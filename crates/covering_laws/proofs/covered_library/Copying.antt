-- The row of memcpy and memmove, as a call of them.
use Rattle.std.proofs.Common.{◌≡◌, ◌∙◌, ℕ, ◌==◌, ◌<◌, Bool, true, false, cond, List, Some, None, Result, Ok, Err, slice_get, Contains, refl, ap, subst}
use Rattle.pta_base.specs.declared.effect.Effect.TheVariants.{GivesArgument, Copies}
use Rattle.c_types.specs.declared.term.TypeId.{TypeId}
use Rattle.c_types.specs.Trees.{Ctype, PointerTo}
use Rattle.c_types.specs.Table.{Table, type_of}
use Rattle.core_tree.specs.declared.node.Node.{Node}
use Rattle.core_tree.specs.declared.node.Program.{Program}
use Rattle.core_tree.specs.Typed.{trees_in, type_at}
use Rattle.sol_model.specs.declared.system.System.{System}
use Rattle.sol_model.specs.declared.system.CallSite.{CallSite}
use Rattle.sol_model.specs.declared.system.Function.{Function}
use Rattle.sol_model.specs.Families.{Family, Has, IsContained}
use Rattle.sol_model.specs.Places.{nodes_of as system_nodes, deep}
use Rattle.sol_model.specs.Rules.{IsTarget}
use Rattle.sol_model.specs.Solutions.{IsClosed}
use Rattle.obj_space.specs.declared.location.Location.{Location}
use Rattle.obj_space.specs.View.{view_of}
use Rattle.row_numbers.specs.Kept.{nodes_of, kept_at}
use Rattle.row_numbers.specs.Numbers.{type_number}
use Rattle.row_numbers.specs.Setting.{Setting}
use Rattle.ref_cells.specs.declared.cells.Reason.{Reason}
use Rattle.ref_cells.specs.declared.cells.Reason.TheVariants.{Mismatch}
use Rattle.ref_cells.specs.declared.cells.Cell.{Cell}
use Rattle.ref_cells.specs.declared.instance.Instance.{Instance}
use Rattle.ref_mem.specs.Reads.{one_cell}
use Rattle.ref_elements.specs.declared.runs.Found.{Found}
use Rattle.ref_elements.specs.Arguments.{count_of}
use Rattle.ref_elements.specs.Outcomes.{Effected, gives}
use Rattle.ref_elements.specs.Runs.{◌>>=◌, found_at, size_in, parts_of, within}
use Rattle.ref_elements.specs.Types.{same_type}
use Rattle.ref_elements.proofs.SameTypes.{type_true}
use Rattle.ref_copies.specs.Copies.{copied, target_for, alike, copy_to, copy_from, copy_row}
use Rattle.call_sites.specs.Calls.{IsCallSite}
use Rattle.normal_form.specs.Assignments.{row_in}
use Rattle.normal_form.specs.SystemOf.{SystemOf}
use Rattle.covering_laws.specs.covered_memory.Covered.{Sets, InstanceIn, MemoryIn, Leaves}
use Rattle.covering_laws.specs.covered_memory.Demands.{Grounds, IsFew}
use Rattle.covering_laws.proofs.covered_memory.Changes.{Takes}
use Rattle.covering_laws.proofs.covered_memory.Stays.{same_memory, value_stays}
use Rattle.covering_laws.specs.covered_rows.Nodes.{IsArgument, HeldIn, node_row}
use Rattle.covering_laws.proofs.covered_rows.Places.{held_cell}
use Rattle.covering_laws.proofs.covered_rows.Values.{sets, w'}
use Rattle.covering_laws.proofs.covered_library.Effects.{edge_says, argument_is, gives_argument_in}
use Rattle.covering_laws.proofs.covered_library.Allocation.{IsCovered}
use Rattle.covering_laws.proofs.covered_library.Copies.{copy_in}

ok_one : {X : Type 0} → {x y : X} → ◌≡◌ {A = Result X Reason} (Ok x) (Ok y) → x ≡ y
ok_one h = cc

err_ok : {X : Type 0} → {r : Reason} → {x : X} → ◌≡◌ {A = Result X Reason} (Err r) (Ok x) → ⊥
err_ok h = cc

-- what stands before a step that went well went well
pub went : {A B : Type 0} (r : Result A Reason) (f : A → Result B Reason) (y : B) → r >>= f ≡ Ok y → (x : A) × (◌≡◌ {A = Result A Reason} r (Ok x)) × (◌≡◌ {A = Result B Reason} (f x) (Ok y))
went (Ok x) f y e = (x, refl, e)
went (Err reason) f y e = absurd (err_ok e)

alike_inv : (table : Table) (id : TypeId) (found target : Found) → alike table id found ≡ Ok target → (found ≡ target) × (type_of table target.run.of.0 ≡ type_of table id.0)
alike_inv table id found target e = by (same_type (type_of table found.run.of.0) (type_of table id.0)) refl e
  where
    by : (b : Bool) → same_type (type_of table found.run.of.0) (type_of table id.0) ≡ b → (let r : Result Found Reason = cond b (Ok found) (Err Mismatch) in r) ≡ Ok target → (found ≡ target) × (type_of table target.run.of.0 ≡ type_of table id.0)
    by true is f = (ok_one f, subst (λ (x : Found). type_of table x.run.of.0 ≡ type_of table id.0) (ok_one f) (type_true (type_of table found.run.of.0) (type_of table id.0) is))
    by false is f = absurd (err_ok f)

module _ (p : Program) (space : List Location) (system : System) (is : SystemOf p (view_of space) system) (F : Family) (closed : IsClosed system F) (grounds : Grounds p.types space system)
    (number n : ℕ) (node : Node) (site : CallSite) (at : slice_get system.calls number ≡ Some site) (of_call : IsCallSite (w' p space system is F closed grounds) n node site)
    (target : ℕ) (function : Function) (is_target : IsTarget system F site target function) (library : ℕ) (is_library : function.library ≡ Some library)
    (memory : List Instance) (all : MemoryIn (sets p space system is F closed grounds) memory) where
  abbrev g : Sets
  g = sets p space system is F closed grounds

  abbrev w : Setting
  w = w' p space system is F closed grounds

  -- memcpy and memmove: what they leave is covered, and so is what they give
  pub copy_row_in : (a b : ℕ) (ta tb to : Ctype) → Contains function.effects (GivesArgument 1) → Contains function.effects (Copies 1 2) → IsArgument (trees_in p) node 0 a → IsArgument (trees_in p) node 1 b
      → type_at (trees_in p) a ≡ PointerTo ta → type_at (trees_in p) b ≡ PointerTo tb → type_at (trees_in p) n ≡ PointerTo to
      → ((id : TypeId) → IsFew p.types (type_of p.types id.0))
      → ((id : TypeId) (i : ℕ) → kept_at (slice_get (nodes_of p.types (type_of p.types id.0)) i) ≡ true → i < system_nodes system (type_number (type_of p.types id.0)))
      → ((id : TypeId) (i : ℕ) (x : Instance) → slice_get memory i ≡ Some x → (h : InstanceIn g memory x) → x.ty ≡ None → Takes g system grounds id h.location.content)
      → (a1 a2 a3 : Cell) → HeldIn g w memory a (one_cell a1) → HeldIn g w memory b (one_cell a2) → (e : Effected) → copy_row p.types memory a1 a2 a3 ≡ Ok e
      → IsCovered p space system is F closed grounds number n node site at of_call target function is_target library is_library memory e
  copy_row_in a b ta tb to gives_it copies a_is b_is tya tyb tn few counts takes a1 a2 a3 h1 h2 e r = by (count_of a3 == 0) r
    where
      IsDone : Effected → Type 0
      IsDone x = IsCovered p space system is F closed grounds number n node site at of_call target function is_target library is_library memory x

      given : (after : List Instance) → Leaves g memory after → HeldIn g w after n (one_cell a1)
      given after l =
          value_stays g memory after l.extends (node_row w n) (type_at (trees_in p) n) (one_cell a1)
          (gives_argument_in p space system is F closed grounds number n node site at of_call target function is_target library is_library 0 a to ta gives_it a_is tya tn memory a1 h1)

      joined : (d s : ℕ) → Has F (row_in w a) d → Has F (row_in w b) s → (x y : ℕ) → Contains (deep system d s) (x, y) → IsContained F y x
      joined d s hd hs x y c =
          edge_says p space system is F closed grounds number n node site at of_call target function is_target library is_library (Copies 1 2) y x copies (
            d,
            s,
            (row_in w a, argument_is p space system is F closed grounds number n node site at of_call target function is_target library is_library 0 a ta a_is tya, hd),
            (row_in w b, argument_is p space system is F closed grounds number n node site at of_call target function is_target library is_library 1 b tb b_is tyb, hs),
            c,
          )

      copied_in : found_at p.types memory a2 >>= copy_from p.types memory a1 (count_of a3) ≡ Ok e → IsCovered p space system is F closed grounds number n node site at of_call target function is_target library is_library memory e
      copied_in k =
          let source = went (found_at p.types memory a2) (copy_from p.types memory a1 (count_of a3)) e k in
          let outer = went (target_for p.types memory a1 source.0.run.of >>= alike p.types source.0.run.of) (copy_to p.types memory a1 (count_of a3) source.0) e source.2 in
          let inner = went (target_for p.types memory a1 source.0.run.of) (alike p.types source.0.run.of) outer.0 outer.1 in
          let like = alike_inv p.types source.0.run.of inner.0 outer.0 inner.2 in
          let q1 = went (parts_of (count_of a3) (size_in p.types source.0.run.of)) _ e outer.2 in
          let q2 = went (within q1.0 source.0.run.room) _ e q1.2 in
          let q3 = went (within q2.0 outer.0.run.room) _ e q2.2 in
          let q4 = went (copied p.types memory source.0 outer.0.run 0 q3.0) _ e q3.2 in
          let target_is : ◌≡◌ {A = Result Found Reason} (target_for p.types memory a1 source.0.run.of) (Ok outer.0) = inner.1 ∙ ap (λ (x : Found). let z : Result Found Reason = Ok x in z) like.0 in
          let leaves = copy_in g system grounds memory all (row_in w a) (row_in w b) a1 a2 source.0 outer.0 (held_cell p space system is F closed grounds a ta memory a1 tya h1)
          (held_cell p space system is F closed grounds b tb memory a2 tyb h2) joined (few source.0.run.of) (counts source.0.run.of) (takes source.0.run.of) source.1 target_is like.1 0 q3.0 q4.0 q4.1 in
          subst (IsCovered p space system is F closed grounds number n node site at of_call target function is_target library is_library memory) (ok_one q4.2)
          (record { leaves = leaves.0; value = given _ leaves.0; stores = leaves.1 })

      by : (c : Bool) → cond c (gives memory (one_cell a1)) (found_at p.types memory a2 >>= copy_from p.types memory a1 (count_of a3)) ≡ Ok e
          → IsCovered p space system is F closed grounds number n node site at of_call target function is_target library is_library memory e
      by true k =
          let same : Leaves g memory memory = record { extends = same_memory g memory; covered = all } in
          subst (IsCovered p space system is F closed grounds number n node site at of_call target function is_target library is_library memory) (ok_one k) (record { leaves = same; value = given memory same; stores = tt })
      by false k = copied_in k
