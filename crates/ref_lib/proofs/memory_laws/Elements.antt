-- The types of elements are the table's.
use Rattle.std.proofs.Common.{◌≡◌, ℕ, ◌<◌, Bool, true, false, cond, List, [], ◌∷◌, Option, Some, None, Result, Ok, Err, IfOk, IfSome, length, refl, arith}
use Rattle.std.specs.List.{slice_get}
use Rattle.std.specs.Option.{option_map}
use Rattle.std.proofs.lemmas.Option.{slice_get_within}
use Rattle.c_types.specs.declared.term.PathStep.{PathStep}
use Rattle.c_types.specs.declared.term.PathStep.TheVariants.{Index, Member}
use Rattle.c_types.specs.declared.term.TypeId.{TypeId}
use Rattle.c_types.specs.declared.term.MemberTerm.{MemberTerm}
use Rattle.c_types.specs.declared.term.Term.{Term}
use Rattle.c_types.specs.declared.term.Term.TheVariants.{Array, Structure, Union}
use Rattle.c_types.specs.Table.{Table, type_of, extent_in, size_below, members_in}
use Rattle.c_types.specs.Made.{AreNamed, IsMade}
use Rattle.type_rules.specs.Members.{in_list}
use Rattle.ref_cells.specs.declared.cells.Reason.{Reason}
use Rattle.ref_cells.specs.declared.cells.Reason.TheVariants.{DeadUse}
use Rattle.ref_cells.specs.declared.cells.Cell.{Cell}
use Rattle.ref_cells.specs.declared.cells.Cell.TheVariants.{Null, Pointer}
use Rattle.ref_cells.specs.declared.instance.Instance.{Instance}
use Rattle.ref_cells.specs.declared.wholes.Whole.{Whole}
use Rattle.ref_cells.specs.declared.wholes.Whole.TheVariants.{One, Many}
use Rattle.ref_cells.specs.Wholes.{is_allocated, elements_of, shape_of, IsOver}
use Rattle.ref_cells.specs.Places.{IsKnown, AreKnown, is_out}
use Rattle.ref_elements.specs.declared.runs.Run.{Run}
use Rattle.ref_elements.specs.Runs.{whole_id, member_id, term_part, part_id, count_in, indexed, behind_step, last_index, run_from, with_run, found_as, live_at, found_at}
use Rattle.ref_lib.proofs.memory_laws.Follow.{known_at}
use Rattle.ref_lib.proofs.memory_laws.Steps.{and_then}

module _ (table : Table) (named : AreNamed table) (made : IsMade table) where
  member_known : (tag k : ℕ) → IfSome (member_id table tag k) (λ id. id.0 < length table.terms)
  member_known tag k = at (members_in table tag) refl
    where
      of : (list : List MemberTerm) → members_in table tag ≡ Some list → (o : Option MemberTerm) → slice_get list k ≡ o → IfSome (option_map (λ (m : MemberTerm). m.ty) o) (λ id. id.0 < length table.terms)
      of list e None q = tt
      of list e (Some m) q = (made.members tag list e k m q).0

      at : (o : Option (List MemberTerm)) → members_in table tag ≡ o → IfSome (option_map (λ (m : MemberTerm). m.ty) (in_list o k)) (λ id. id.0 < length table.terms)
      at None e = tt
      at (Some list) e = of list e (slice_get list k) refl

  array_known : (i : ℕ) (of : TypeId) (n : Option ℕ) → slice_get table.terms i ≡ Some (Array of n) → of.0 < length table.terms
  array_known i of n e =
      let lt : i < length table.terms = slice_get_within table.terms i (Array of n) e in
      let before : of.0 < i = (named i (Array of n) e).0 in
      omega arith

  term_known : (i : ℕ) (t : Option Term) → slice_get table.terms i ≡ t → (step : PathStep) → IfSome (term_part table t step) (λ id. id.0 < length table.terms)
  term_known i (Some (Array of (Some n))) e (Index k) = array_known i of (Some n) e
  term_known i (Some (Structure tag)) e (Member k) = member_known tag k
  term_known i (Some (Union tag)) e (Member k) = member_known tag k
  term_known i t e step = tt

  part_known : (whole : Whole) (step : PathStep) → IsOver (length table.terms) whole → IfSome (part_id table whole step) (λ id. id.0 < length table.terms)
  part_known (Many id n) (Index i) h = h
  part_known (Many id n) (Member k) h = tt
  part_known (One id) step h = term_known id.0 (slice_get table.terms id.0) refl step

  one_known : (o : Option TypeId) → IfSome o (λ id. id.0 < length table.terms) → IfSome (option_map One o) (IsOver (length table.terms))
  one_known None h = tt
  one_known (Some id) h = h

  indexed_known : (past : Bool) (i : ℕ) (count : Option ℕ) (o : Option TypeId) → IfSome o (λ id. id.0 < length table.terms) → IfSome (indexed past i count o) (λ run. run.of.0 < length table.terms)
  indexed_known past i (Some n) (Some id) h = h
  indexed_known past i count o h = tt

  behind_known : (step : PathStep) (out : Bool) (o : Option Run) → IfSome o (λ run. run.of.0 < length table.terms) → IfSome (behind_step step out o) (λ run. run.of.0 < length table.terms)
  behind_known step out None h = tt
  behind_known step out (Some run) h = h

  run_known : (whole : Option Whole) (path : List PathStep) (past : Bool) → IfSome whole (IsOver (length table.terms)) → IfSome (run_from table whole path past) (λ run. run.of.0 < length table.terms)
  run_known None path past h = tt
  run_known (Some (One id)) [] past h = h
  run_known (Some (Many id n)) [] past h = tt
  run_known (Some whole) (step ∷ rest) past h =
      at (last_index step rest) (run_known (option_map One (part_id table whole step)) rest past (one_known (part_id table whole step) (part_known whole step h)))
    where
      at : (o : Option ℕ) → IfSome (run_from table (option_map One (part_id table whole step)) rest past) (λ run. run.of.0 < length table.terms) → IfSome {T = Run} (elim o [
        | Some i ↦ indexed past i (count_in table whole) (part_id table whole (Index i))
        | None ↦ behind_step step (is_out (shape_of table whole) step) (run_from table (option_map One (part_id table whole step)) rest past)
      ]) (λ run. run.of.0 < length table.terms)
      at None g = behind_known step (is_out (shape_of table whole) step) (run_from table (option_map One (part_id table whole step)) rest past) g
      at (Some i) g = indexed_known past i (count_in table whole) (part_id table whole (Index i)) (part_known whole (Index i) h)

  whole_known : (b : Bool) (id : TypeId) (n : ℕ) → id.0 < length table.terms → IsOver (length table.terms) (cond b (Many id n) (One id))
  whole_known true id n h = h
  whole_known false id n h = h

  with_known : (i : ℕ) (o : Option Run) → IfSome o (λ run. run.of.0 < length table.terms) → IfOk (with_run i o) (λ found. found.run.of.0 < length table.terms)
  with_known i None h = tt
  with_known i (Some run) h = h

  pub found_as_known : (i : ℕ) (inst : Instance) (path : List PathStep) (past : Bool) (ty : Option TypeId) → IsKnown (length table.terms) ty → IfOk (found_as table i inst path past ty) (λ found. found.run.of.0 < length table.terms)
  found_as_known i inst path past None h = tt
  found_as_known i inst path past (Some id) h =
      with_known i (run_from table (Some (whole_id table inst id)) path past)
      (run_known (Some (whole_id table inst id)) path past (whole_known (is_allocated inst.key) id (elements_of inst.key inst.bytes (size_below (extent_in table (type_of table id.0)))) h))

  live_known : (inst : Instance) (b : Bool) → IsKnown (length table.terms) inst.ty → IfOk (let r : Result Instance Reason = cond b (Ok inst) (Err DeadUse) in r) (λ found. IsKnown (length table.terms) found.ty)
  live_known inst true h = h
  live_known inst false h = tt

  module _ (memory : List Instance) (known : AreKnown (length table.terms) memory) where
    pub live_at_known : (i : ℕ) → IfOk (live_at (slice_get memory i)) (λ inst. IsKnown (length table.terms) inst.ty)
    live_at_known i = at (slice_get memory i) refl
      where
        at : (o : Option Instance) → slice_get memory i ≡ o → IfOk (live_at o) (λ inst. IsKnown (length table.terms) inst.ty)
        at None e = tt
        at (Some inst) e = live_known inst inst.live (known_at (length table.terms) memory i inst known e)

    -- the type of the elements at a place
    pub found_known : (place : Cell) → IfOk (found_at table memory place) (λ found. found.run.of.0 < length table.terms)
    found_known Null = tt
    found_known (Pointer i path past) =
        and_then (live_at (slice_get memory i)) (λ inst. found_as table i inst path past inst.ty) (λ inst. IsKnown (length table.terms) inst.ty) (λ found. found.run.of.0 < length table.terms)
        (live_at_known i) (λ inst h. found_as_known i inst path past inst.ty h)
    found_known place = tt
