-- The row of memset.
use Rattle.std.proofs.Common.{◌≡◌, ◌∙◌, ℕ, ◌==◌, ◌||◌, ◌%◌, Bool, true, false, cond, List, [], Option, Some, None, Result, Ok, Err, IsSome, slice_get, Contains, refl, sym, ap, subst}
use Rattle.std.proofs.lemmas.Bool.{false≢true}
use Rattle.pta_base.specs.declared.effect.Effect.TheVariants.{GivesArgument}
use Rattle.c_types.specs.declared.term.TypeId.{TypeId}
use Rattle.c_types.specs.Trees.{Ctype, PointerTo}
use Rattle.c_types.specs.Table.{Table, type_of, extent_in}
use Rattle.core_tree.specs.declared.node.Node.{Node}
use Rattle.core_tree.specs.declared.node.Program.{Program}
use Rattle.core_tree.specs.Typed.{trees_in, type_at}
use Rattle.sol_model.specs.declared.system.System.{System}
use Rattle.sol_model.specs.declared.system.CallSite.{CallSite}
use Rattle.sol_model.specs.declared.system.Function.{Function}
use Rattle.sol_model.specs.Families.{Family}
use Rattle.sol_model.specs.Rules.{IsTarget}
use Rattle.sol_model.specs.Solutions.{IsClosed}
use Rattle.obj_space.specs.declared.location.Location.{Location}
use Rattle.obj_space.specs.View.{view_of}
use Rattle.obj_space.specs.Spots.{reached, part_at}
use Rattle.row_numbers.specs.Setting.{Setting}
use Rattle.ref_cells.specs.declared.cells.Reason.{Reason}
use Rattle.ref_cells.specs.declared.cells.Reason.TheVariants.{Mismatch}
use Rattle.ref_cells.specs.declared.cells.Cell.{Cell}
use Rattle.ref_cells.specs.declared.cells.Cell.TheVariants.{Unset, Number, Null, Pointer, Function as FunctionCell}
use Rattle.ref_cells.specs.declared.instance.Instance.{Instance}
use Rattle.ref_cells.specs.Wholes.{whole_of, typed_whole, shape_of}
use Rattle.ref_mem.specs.Reads.{one_cell}
use Rattle.ref_mem.specs.Writes.{changed}
use Rattle.ref_elements.specs.declared.outcome.Next.TheVariants.{Done}
use Rattle.ref_elements.specs.declared.runs.Found.{Found}
use Rattle.ref_elements.specs.Arguments.{count_of}
use Rattle.ref_elements.specs.Outcomes.{Effected, gives}
use Rattle.ref_elements.specs.Parts.{puts, with_all}
use Rattle.ref_elements.specs.Runs.{◌>>=◌, whole_id, found_as, live_at, found_at, size_in, parts_of, within}
use Rattle.ref_copies.specs.Copies.{set_cells, set_parts, set_there, set_whole, zeroed, set_target, aimed_as, is_whole, is_all_bytes, set_at, set_row}
use Rattle.call_sites.specs.Calls.{IsCallSite}
use Rattle.normal_form.specs.Assignments.{row_in}
use Rattle.normal_form.specs.SystemOf.{SystemOf}
use Rattle.covering_laws.specs.covered_memory.Spots.{room, IsInTree}
use Rattle.covering_laws.specs.covered_memory.Covered.{Sets, PointsIn, CellIn, HasShape, MemoryIn, Leaves}
use Rattle.covering_laws.specs.covered_memory.Demands.{Grounds}
use Rattle.covering_laws.proofs.covered_memory.Access.{shape_complete}
use Rattle.covering_laws.proofs.covered_memory.Parts.{path_complete}
use Rattle.covering_laws.proofs.covered_memory.Changes.{zero_law}
use Rattle.covering_laws.proofs.covered_memory.Stays.{same_memory, value_stays}
use Rattle.covering_laws.specs.covered_rows.Nodes.{IsArgument, HeldIn, node_row}
use Rattle.covering_laws.proofs.covered_rows.Places.{held_cell}
use Rattle.covering_laws.proofs.covered_rows.Values.{sets, w'}
use Rattle.covering_laws.proofs.covered_library.Effects.{gives_argument_in}
use Rattle.covering_laws.proofs.covered_library.Allocation.{IsCovered}
use Rattle.covering_laws.proofs.covered_library.Answers.{answered}
use Rattle.covering_laws.proofs.covered_library.Copying.{went}
use Rattle.covering_laws.specs.covered_library.Calls.{StoresIn}
use Rattle.covering_laws.proofs.covered_library.Quiet.{quiet_law, quiet_stored, set_quiet, set_parts_quiet}
use Rattle.covering_laws.proofs.covered_library.Runs.{IsRun, found_inv, run_type, whole_shape}

some_one : {X : Type 0} → {x y : X} → ◌≡◌ {A = Option X} (Some x) (Some y) → x ≡ y
some_one h = cc

none_some : {X : Type 0} → {x : X} → ◌≡◌ {A = Option X} None (Some x) → ⊥
none_some h = cc

some_none : {X : Type 0} → {x : X} → ◌≡◌ {A = Option X} (Some x) None → ⊥
some_none h = cc

ok_one : {X : Type 0} → {x y : X} → ◌≡◌ {A = Result X Reason} (Ok x) (Ok y) → x ≡ y
ok_one h = cc

err_ok : {X : Type 0} → {r : Reason} → {x : X} → ◌≡◌ {A = Result X Reason} (Err r) (Ok x) → ⊥
err_ok h = cc

there : {X : Type 0} (o : Option X) → IsSome o → (x : X) × (o ≡ Some x)
there None h = absurd (false≢true h)
there (Some x) h = (x, refl)

-- the elements at a covered place: their instance has a type, and the elements' type is complete
module _ (g : Sets) (system : System) (grounds : Grounds g.table g.space system) (memory : List Instance) (all : MemoryIn g memory) where
  pub run_complete : (row : Option ℕ) (place : Cell) (found : Found) → CellIn g memory row place → (s : IsRun g.table memory place found) → IsSome (extent_in g.table (type_of g.table found.run.of.0))
  run_complete row place found place_in s =
      let inside = all s.i s.inst s.inst_is in
      let whole : whole_of g.table s.inst ≡ Some (shape_of g.table (whole_id g.table s.inst s.id)) = ap (typed_whole g.table s.inst) s.ty_is ∙ whole_shape g.table s.inst s.id in
      let points : PointsIn g memory row s.i s.path = subst (CellIn g memory row) s.place_is place_in in
      let tree : IsInTree g.table (Some (shape_of g.table (whole_id g.table s.inst s.id))) (room s.inst) s.path =
      subst (λ (w : Option Ctype). IsInTree g.table w (room s.inst) s.path) whole
      (subst (λ (x : Instance). IsInTree g.table (whole_of g.table x) (room x) s.path) (some_one (sym points.inst_is ∙ s.inst_is)) points.in_tree) in
      let part = there (part_at g.table (Some (reached (shape_of g.table (whole_id g.table s.inst s.id)) 0 false)) s.path) tree in
      let ty = run_type g.table grounds.named (whole_id g.table s.inst s.id) s.path s.past found.run s.run_is 0 false part.0 part.1 in
      subst (λ (c : Ctype). IsSome (extent_in g.table c)) ty
      (path_complete g.table grounds.made (shape_of g.table (whole_id g.table s.inst s.id)) 0 false s.path part.0
      (shape_complete g system grounds inside.location.content (shape_of g.table (whole_id g.table s.inst s.id)) (subst (HasShape g.table inside.location.content) whole inside.shape)) part.1)

  -- the instance of found elements has a type
  pub run_typed : (place : Cell) (found : Found) → (s : IsRun g.table memory place found) → (a : Instance) → slice_get memory found.number ≡ Some a → a.ty ≡ None → ⊥
  run_typed place found s a a_is none =
      let same : s.inst ≡ a = some_one (sym s.inst_is ∙ (ap (slice_get memory) (sym s.number_is) ∙ a_is)) in
      some_none (sym s.ty_is ∙ (ap (λ (x : Instance). x.ty) same ∙ none))

-- a target of memset with a type is what a read finds
pub aimed_inv : (table : Table) (memory : List Instance) (a1 : Cell) (byte bytes : ℕ) (found : Found) → set_target table memory a1 byte bytes ≡ Ok (Some found) → found_at table memory a1 ≡ Ok found
aimed_inv table memory Null byte bytes found h = absurd (err_ok h)
aimed_inv table memory Unset byte bytes found h = absurd (err_ok h)
aimed_inv table memory (Number k) byte bytes found h = absurd (err_ok h)
aimed_inv table memory (FunctionCell key) byte bytes found h = absurd (err_ok h)
aimed_inv table memory (Pointer i path past) byte bytes found h =
    let a = went (live_at (slice_get memory i)) (λ inst. aimed_as table (Pointer i path past) byte bytes inst inst.ty) (Some found) h in
    ap (λ (r : Result Instance Reason). r >>= (λ inst. found_as table i inst path past inst.ty)) a.1 ∙ typed a.0 a.0.ty refl a.2
  where
    whole_test : (b : Bool) → (let r : Result (Option Found) Reason = cond b (Ok None) (Err Mismatch) in r) ≡ Ok (Some found) → ⊥
    whole_test true f = none_some (ok_one f)
    whole_test false f = err_ok f

    typed : (inst : Instance) (o : Option TypeId) → inst.ty ≡ o → aimed_as table (Pointer i path past) byte bytes inst o ≡ Ok (Some found) → found_as table i inst path past inst.ty ≡ Ok found
    typed inst None is f = absurd (whole_test (is_whole (Pointer i path past) byte bytes inst.bytes) f)
    typed inst (Some id) is f =
        let q = went (found_as table i inst path past inst.ty) (λ x. let r : Result (Option Found) Reason = Ok (Some x) in r) (Some found) f in
        q.1 ∙ ap (λ (x : Found). let r : Result Found Reason = Ok x in r) (some_one (ok_one q.2))

module _ (p : Program) (space : List Location) (system : System) (is : SystemOf p (view_of space) system) (F : Family) (closed : IsClosed system F) (grounds : Grounds p.types space system)
    (number n : ℕ) (node : Node) (site : CallSite) (at : slice_get system.calls number ≡ Some site) (of_call : IsCallSite (w' p space system is F closed grounds) n node site)
    (target : ℕ) (function : Function) (is_target : IsTarget system F site target function) (library : ℕ) (is_library : function.library ≡ Some library)
    (memory : List Instance) (all : MemoryIn (sets p space system is F closed grounds) memory) where
  abbrev g : Sets
  g = sets p space system is F closed grounds

  abbrev w : Setting
  w = w' p space system is F closed grounds

  -- the first argument is given, whatever is left
  pub given_in : (k a : ℕ) (ta to : Ctype) → Contains function.effects (GivesArgument 1) → IsArgument (trees_in p) node 0 a → type_at (trees_in p) a ≡ PointerTo ta → type_at (trees_in p) n ≡ PointerTo to
      → (a1 : Cell) → HeldIn g w memory a (one_cell a1) → (after : List Instance) → Leaves g memory after → HeldIn g w after n (one_cell a1)
  given_in k a ta to gives_it a_is tya tn a1 h1 after l =
      value_stays g memory after l.extends (node_row w n) (type_at (trees_in p) n) (one_cell a1)
      (gives_argument_in p space system is F closed grounds number n node site at of_call target function is_target library is_library 0 a to ta gives_it a_is tya tn memory a1 h1)

  -- memset
  pub set_row_in : (a : ℕ) (ta to : Ctype) → Contains function.effects (GivesArgument 1) → IsArgument (trees_in p) node 0 a → type_at (trees_in p) a ≡ PointerTo ta → type_at (trees_in p) n ≡ PointerTo to
      → (a1 a2 a3 : Cell) → HeldIn g w memory a (one_cell a1) → (e : Effected) → set_row p.types memory a1 a2 a3 ≡ Ok e
      → IsCovered p space system is F closed grounds number n node site at of_call target function is_target library is_library memory e
  set_row_in a ta to gives_it a_is tya tn a1 a2 a3 h1 e r = by (count_of a3 == 0) r
    where
      held : (after : List Instance) → Leaves g memory after → HeldIn g w after n (one_cell a1)
      held after l = given_in 0 a ta to gives_it a_is tya tn a1 h1 after l

      answer : (after : List Instance) (stores : List (Cell × Cell)) → Leaves g memory after → StoresIn g after stores
          → ◌≡◌ {A = Result Effected Reason} (Ok (record { memory = after; outcome = record { value = one_cell a1; stores = stores; next = Done } })) (Ok e)
          → IsCovered p space system is F closed grounds number n node site at of_call target function is_target library is_library memory e
      answer after stores l stored h =
          answered p space system is F closed grounds number n node site at of_call target function is_target library is_library memory after (record { value = one_cell a1; stores = stores; next = Done }) e l (held after l) stored h

      whole_at : (i : ℕ) (o : Option Instance) → slice_get memory i ≡ o → zeroed memory a1 i o ≡ Ok e → IsCovered p space system is F closed grounds number n node site at of_call target function is_target library is_library memory e
      whole_at i None i_is h = absurd (err_ok h)
      whole_at i (Some inst) i_is h =
          answer (changed memory i (Some inst) (λ old. record old { zero = true })) []
          (subst (λ (o : Option Instance). Leaves g memory (changed memory i o (λ old. record old { zero = true }))) i_is (zero_law g system grounds memory i all)) tt h

      whole_in : (c : Cell) → a1 ≡ c → set_whole memory c ≡ Ok e → IsCovered p space system is F closed grounds number n node site at of_call target function is_target library is_library memory e
      whole_in (Pointer i path past) same h =
          whole_at i (slice_get memory i) refl (ap (λ (c : Cell). zeroed memory c i (slice_get memory i)) same ∙ h)
      whole_in Null same h = absurd (err_ok h)
      whole_in Unset same h = absurd (err_ok h)
      whole_in (Number k) same h = absurd (err_ok h)
      whole_in (FunctionCell key) same h = absurd (err_ok h)

      parts_in : (found : Found) → found_at p.types memory a1 ≡ Ok found → (byte m : ℕ)
          → puts p.types memory found.number found.run.of (set_parts found.run (set_cells p.types (type_of p.types found.run.of.0) byte) 0 m) a1 ≡ Ok e
          → IsCovered p space system is F closed grounds number n node site at of_call target function is_target library is_library memory e
      parts_in found found_is byte m h =
          let s = found_inv p.types memory a1 found found_is in
          answer (with_all p.types memory found.number found.run.of (set_parts found.run (set_cells p.types (type_of p.types found.run.of.0) byte) 0 m)) _
          (quiet_law g system grounds memory all found.number found.run.of (set_parts found.run (set_cells p.types (type_of p.types found.run.of.0) byte) 0 m)
          (set_parts_quiet found.run (set_cells p.types (type_of p.types found.run.of.0) byte) (set_quiet p.types (type_of p.types found.run.of.0) byte) 0 m)
          (run_complete g system grounds memory all (Some (row_in w a)) a1 found (held_cell p space system is F closed grounds a ta memory a1 tya h1) s)
          (run_typed g system grounds memory all a1 found s))
          (quiet_stored g (with_all p.types memory found.number found.run.of (set_parts found.run (set_cells p.types (type_of p.types found.run.of.0) byte) 0 m)) found.number (set_parts found.run (set_cells p.types (type_of p.types found.run.of.0) byte) 0 m)
          (set_parts_quiet found.run (set_cells p.types (type_of p.types found.run.of.0) byte) (set_quiet p.types (type_of p.types found.run.of.0) byte) 0 m)) h

      run_in : (byte bytes : ℕ) (found : Found) → found_at p.types memory a1 ≡ Ok found → (b : Bool)
          → cond b (parts_of bytes (size_in p.types found.run.of) >>= (λ m. within m found.run.room
          >>= (λ k. puts p.types memory found.number found.run.of (set_parts found.run (set_cells p.types (type_of p.types found.run.of.0) byte) 0 k) a1))) (Err Mismatch) ≡ Ok e
          → IsCovered p space system is F closed grounds number n node site at of_call target function is_target library is_library memory e
      run_in byte bytes found found_is false h = absurd (err_ok h)
      run_in byte bytes found found_is true h =
          let q1 = went (parts_of bytes (size_in p.types found.run.of)) _ e h in
          let q2 = went (within q1.0 found.run.room) _ e q1.2 in
          parts_in found found_is byte q2.0 q2.2

      there_in : (byte bytes : ℕ) (o : Option Found) → set_target p.types memory a1 byte bytes ≡ Ok o → set_there p.types memory a1 byte bytes o ≡ Ok e
          → IsCovered p space system is F closed grounds number n node site at of_call target function is_target library is_library memory e
      there_in byte bytes None t h = whole_in a1 refl h
      there_in byte bytes (Some found) t h = run_in byte bytes found (aimed_inv p.types memory a1 byte bytes found t) (byte == 0 || is_all_bytes p.types (type_of p.types found.run.of.0)) h

      by : (c : Bool) → cond c (gives memory (one_cell a1)) (set_at p.types memory a1 (count_of a2 % 256) (count_of a3)) ≡ Ok e
          → IsCovered p space system is F closed grounds number n node site at of_call target function is_target library is_library memory e
      by true k = answer memory [] (record { extends = same_memory g memory; covered = all }) tt k
      by false k =
          let q = went (set_target p.types memory a1 (count_of a2 % 256) (count_of a3)) (set_there p.types memory a1 (count_of a2 % 256) (count_of a3)) e k in
          there_in (count_of a2 % 256) (count_of a3) q.0 q.1 q.2
