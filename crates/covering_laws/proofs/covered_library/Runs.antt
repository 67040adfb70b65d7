-- The elements from a place on are parts like the place: whatever the index, of one type and at one node.
use Rattle.std.proofs.Common.{◌≡◌, ◌∙◌, ℕ, ◌+◌, Bool, true, false, cond, List, [], ◌∷◌, ◌++◌, Option, Some, None, Result, Ok, Err, slice_get, refl, sym, ap, subst}
use Rattle.std.specs.Option.{option_map, option_and_then}
use Rattle.c_types.specs.declared.term.PathStep.{PathStep}
use Rattle.c_types.specs.declared.term.PathStep.TheVariants.{Index, Member}
use Rattle.c_types.specs.declared.term.MemberTerm.{MemberTerm}
use Rattle.c_types.specs.declared.term.Term.{Term}
use Rattle.c_types.specs.declared.term.Term.TheVariants.{Array, Structure, Union}
use Rattle.c_types.specs.declared.term.TypeId.{TypeId}
use Rattle.c_types.specs.Trees.{Ctype, ArrayOf, StructureOf, UnionOf}
use Rattle.c_types.specs.Parts.{field_in}
use Rattle.c_types.specs.Paths.{with_length, member_type}
use Rattle.c_types.specs.Table.{Table, type_of, members_in, extent_in, size_below}
use Rattle.c_types.specs.Made.{AreNamed}
use Rattle.type_rules.specs.Members.{in_list}
use Rattle.type_rules.proofs.term_types.Grown.{types_grown}
use Rattle.obj_space.specs.Spots.{Reached, reached, member_reached, step_by, step_from, part_at}
use Rattle.ref_cells.specs.declared.cells.Reason.{Reason}
use Rattle.ref_cells.specs.declared.cells.Reason.TheVariants.{DeadUse}
use Rattle.ref_cells.specs.declared.cells.Cell.{Cell}
use Rattle.ref_cells.specs.declared.cells.Cell.TheVariants.{Unset, Number, Null, Pointer, Function}
use Rattle.ref_cells.specs.declared.instance.Instance.{Instance}
use Rattle.ref_cells.specs.declared.wholes.Whole.{Whole}
use Rattle.ref_cells.specs.declared.wholes.Whole.TheVariants.{One, Many}
use Rattle.ref_cells.specs.Wholes.{is_allocated, elements_of, typed_whole, shape_of}
use Rattle.ref_cells.specs.Places.{is_out}
use Rattle.ref_elements.specs.declared.runs.Run.{Run}
use Rattle.ref_elements.specs.declared.runs.Found.{Found}
use Rattle.ref_elements.specs.Runs.{whole_id, term_part, part_id, count_in, indexed, behind_step, last_index, run_from, element_path, with_run, found_as, live_at, found_at, ◌>>=◌}
use Rattle.covering_laws.proofs.covered_memory.Filled.{nowhere}
use Rattle.covering_laws.proofs.covered_memory.Fields.{part_index}
use Rattle.covering_laws.proofs.covered_memory.Parts.{same_length}

some_one : {X : Type 0} → {x y : X} → ◌≡◌ {A = Option X} (Some x) (Some y) → x ≡ y
some_one h = cc

none_some : {X : Type 0} → {x : X} → ◌≡◌ {A = Option X} None (Some x) → ⊥
none_some h = cc

ok_one : {X : Type 0} → {x y : X} → ◌≡◌ {A = Result X Reason} (Ok x) (Ok y) → x ≡ y
ok_one h = cc

err_ok : {X : Type 0} → {r : Reason} → {x : X} → ◌≡◌ {A = Result X Reason} (Err r) (Ok x) → ⊥
err_ok h = cc

module _ (table : Table) where
  -- an element's path leads to what the place's path leads to
  indexed_parts : (past : Bool) (i : ℕ) (count : Option ℕ) (id : Option TypeId) (run : Run) → indexed past i count id ≡ Some run → (k : ℕ) (o : Option Reached)
      → part_at table o (element_path run k) ≡ part_at table o (Index i ∷ [])
  indexed_parts past i None id run e k o = absurd (none_some e)
  indexed_parts past i (Some n) None run e k o = absurd (none_some e)
  indexed_parts past i (Some n) (Some id) run e k o =
      subst (λ (r : Run). part_at table o (element_path r k) ≡ part_at table o (Index i ∷ [])) (some_one e) (part_index table o [] (i + k) i)

  behind_parts : (step : PathStep) (out : Bool) (d : Option Run) (run : Run) → behind_step step out d ≡ Some run → (k : ℕ) → (r : Run) × (d ≡ Some r) × (element_path run k ≡ step ∷ element_path r k)
  behind_parts step out None run e k = absurd (none_some e)
  behind_parts step out (Some r) run e k =
      (r, refl, subst (λ (x : Run). element_path x k ≡ step ∷ element_path r k) (some_one e) (by r.first))
    where
      by : (first : Option ℕ) → elim first as (λ _. List PathStep) [ None ↦ step ∷ r.front | Some i ↦ (step ∷ r.front) ++ Index (i + k) ∷ [] ] ≡ step ∷ elim first as (λ _. List PathStep) [ None ↦ r.front | Some i ↦ r.front ++ Index (i + k) ∷ [] ]
      by None = refl
      by (Some i) = refl

  last_is : (step : PathStep) (rest : List PathStep) (i : ℕ) → last_index step rest ≡ Some i → (step ≡ Index i) × (rest ≡ [])
  last_is (Index j) [] i e = (ap (λ (n : ℕ). Index n) (some_one e), refl)
  last_is (Index j) (s ∷ rest) i e = absurd (none_some e)
  last_is (Member k) rest i e = absurd (none_some e)

  pub run_parts : (whole : Option Whole) (path : List PathStep) (past : Bool) (run : Run) → run_from table whole path past ≡ Some run → (k : ℕ) (o : Option Reached) → part_at table o (element_path run k) ≡ part_at table o path
  run_parts None path past run e k o = absurd (none_some e)
  run_parts (Some (Many id n)) [] past run e k o = absurd (none_some e)
  run_parts (Some (One id)) [] past run e k o = subst (λ (r : Run). part_at table o (element_path r k) ≡ part_at table o []) (some_one e) refl
  run_parts (Some whole) (step ∷ rest) past run e k o = by (last_index step rest) refl e (λ d r f. run_parts d rest past r f k (step_from table o step))
    where
      by : (l : Option ℕ) → last_index step rest ≡ l → elim l as (λ _. Option Run) [
        | Some i ↦ indexed past i (count_in table whole) (part_id table whole (Index i))
        | None ↦ behind_step step (is_out (shape_of table whole) step) (run_from table (option_map One (part_id table whole step)) rest past)
      ] ≡ Some run
          → ((d : Option Whole) (r : Run) → run_from table d rest past ≡ Some r → part_at table (step_from table o step) (element_path r k) ≡ part_at table (step_from table o step) rest)
          → part_at table o (element_path run k) ≡ part_at table o (step ∷ rest)
      by (Some i) is f next =
          let l = last_is step rest i is in
          indexed_parts past i (count_in table whole) (part_id table whole (Index i)) run f k o
          ∙ sym (ap (λ (s : PathStep). part_at table o (s ∷ rest)) l.0 ∙ ap (λ (ps : List PathStep). part_at table o (Index i ∷ ps)) l.1)
      by None is f next =
          let b = behind_parts step (is_out (shape_of table whole) step) (run_from table (option_map One (part_id table whole step)) rest past) run f k in
          ap (part_at table o) b.2 ∙ next (option_map One (part_id table whole step)) b.0 b.1

module _ (table : Table) (named : AreNamed table) where
  length_same : (t s : Ctype) → with_length t ≡ Some s → s ≡ t
  length_same t s e = sym (same_length table t s e)

  -- the type of a member, by its number
  member_ty : (o : Option (List MemberTerm)) (k : ℕ) (id : TypeId) → option_map (λ (m : MemberTerm). m.ty) (in_list o k) ≡ Some id → (s : Ctype) → member_type table o k ≡ Some s → s ≡ type_of table id.0
  member_ty None k id e s f = absurd (none_some e)
  member_ty (Some ms) k id e s f = by (slice_get ms k) e f
    where
      by : (om : Option MemberTerm) → option_map (λ (m : MemberTerm). m.ty) om ≡ Some id → option_and_then (λ (m : MemberTerm). with_length (type_of table m.ty.0)) om ≡ Some s → s ≡ type_of table id.0
      by None g h = absurd (none_some g)
      by (Some m) g h = length_same (type_of table m.ty.0) s h ∙ ap (λ (x : TypeId). type_of table x.0) (some_one g)

  reached_ty : (whole : Ctype) (w : Option Ctype) (p : Option ℕ) (n : ℕ) (b : Bool) (q : Reached) (t : Ctype) → member_reached whole w p n b ≡ Some q → ((s : Ctype) → w ≡ Some s → s ≡ t) → q.ty ≡ t
  reached_ty whole None p n b q t e f = absurd (none_some e)
  reached_ty whole (Some s) p n true q t e f = sym (ap (λ (x : Reached). x.ty) (some_one e)) ∙ f s refl
  reached_ty whole (Some s) None n false q t e f = absurd (none_some e)
  reached_ty whole (Some s) (Some k) n false q t e f = sym (ap (λ (x : Reached). x.ty) (some_one e)) ∙ f s refl

  term_known : (id : TypeId) (t : Option Term) → slice_get table.terms id.0 ≡ t → (step : PathStep) (part : TypeId) → term_part table t step ≡ Some part → (n : ℕ) (b : Bool) (q : Reached) → step_by table (type_of table id.0) n b step ≡ Some q
      → q.ty ≡ type_of table part.0
  term_known id (Some (Array of (Some k))) at (Index i) part e n b q f =
      let array : type_of table id.0 ≡ ArrayOf (type_of table of.0) (Some k) = types_grown table id.0 (Array of (Some k)) named at in
      let is : Some (reached (type_of table of.0) n b) ≡ Some q = sym (ap (λ (t : Ctype). step_by table t n b (Index i)) array) ∙ f in
      sym (ap (λ (x : Reached). x.ty) (some_one is)) ∙ ap (λ (x : TypeId). type_of table x.0) (some_one e)
  term_known id (Some (Structure tag)) at (Member k) part e n b q f =
      let is : type_of table id.0 ≡ StructureOf tag = types_grown table id.0 (Structure tag) named at in
      reached_ty (StructureOf tag) (member_type table (members_in table tag) k) (field_in table (StructureOf tag) k) n b q (type_of table part.0)
      (sym (ap (λ (t : Ctype). step_by table t n b (Member k)) is) ∙ f) (member_ty (members_in table tag) k part e)
  term_known id (Some (Union tag)) at (Member k) part e n b q f =
      let is : type_of table id.0 ≡ UnionOf tag = types_grown table id.0 (Union tag) named at in
      reached_ty (UnionOf tag) (member_type table (members_in table tag) k) (field_in table (UnionOf tag) k) n b q (type_of table part.0)
      (sym (ap (λ (t : Ctype). step_by table t n b (Member k)) is) ∙ f) (member_ty (members_in table tag) k part e)
  term_known id t at step part e n b q f = absurd (none_some e)

  step_known : (whole : Whole) (step : PathStep) (part : TypeId) → part_id table whole step ≡ Some part → (n : ℕ) (b : Bool) (q : Reached) → step_by table (shape_of table whole) n b step ≡ Some q → q.ty ≡ type_of table part.0
  step_known (Many id k) (Index i) part e n b q f = sym (ap (λ (x : Reached). x.ty) (some_one f)) ∙ ap (λ (x : TypeId). type_of table x.0) (some_one e)
  step_known (Many id k) (Member j) part e n b q f = absurd (none_some e)
  step_known (One id) step part e n b q f = term_known id (slice_get table.terms id.0) refl step part e n b q f

  indexed_of : (past : Bool) (i : ℕ) (count : Option ℕ) (id : Option TypeId) (run : Run) → indexed past i count id ≡ Some run → id ≡ Some run.of
  indexed_of past i None id run e = absurd (none_some e)
  indexed_of past i (Some n) None run e = absurd (none_some e)
  indexed_of past i (Some n) (Some id) run e = ap (λ (r : Run). Some r.of) (some_one e)

  behind_of : (step : PathStep) (out : Bool) (d : Option Run) (run : Run) → behind_step step out d ≡ Some run → (r : Run) × (d ≡ Some r) × (r.of ≡ run.of)
  behind_of step out None run e = absurd (none_some e)
  behind_of step out (Some r) run e = (r, refl, ap (λ (x : Run). x.of) (some_one e))

  -- the elements from a place on have the type of the place's part
  pub run_type : (whole : Whole) (path : List PathStep) (past : Bool) (run : Run) → run_from table (Some whole) path past ≡ Some run → (n : ℕ) (b : Bool) (r : Reached) → part_at table (Some (reached (shape_of table whole) n b)) path ≡ Some r
      → r.ty ≡ type_of table run.of.0
  run_type (Many id k) [] past run e n b r f = absurd (none_some e)
  run_type (One id) [] past run e n b r f = sym (ap (λ (x : Reached). x.ty) (some_one f)) ∙ ap (λ (x : Run). type_of table x.of.0) (some_one e)
  run_type whole (step ∷ rest) past run e n b r f = by (last_index step rest) refl e (λ w d g m i h. run_type w rest past d g m i r h)
    where
      next_of : (o : Option TypeId) → part_id table whole step ≡ o → (d : Run) → run_from table (option_map One o) rest past ≡ Some d → d.of ≡ run.of
          → ((w : Whole) (d : Run) → run_from table (Some w) rest past ≡ Some d → (m : ℕ) (i : Bool) → part_at table (Some (reached (shape_of table w) m i)) rest ≡ Some r → r.ty ≡ type_of table d.of.0) → r.ty ≡ type_of table run.of.0
      next_of None is d g same next = absurd (none_some g)
      next_of (Some part) is d g same next = at (step_by table (shape_of table whole) n b step) refl f
        where
          at : (q : Option Reached) → step_by table (shape_of table whole) n b step ≡ q → part_at table q rest ≡ Some r → r.ty ≡ type_of table run.of.0
          at None q_is h = absurd (none_some (sym (nowhere table rest) ∙ h))
          at (Some q) q_is h =
              let ty = step_known whole step part is n b q q_is in
              next (One part) d g q.node q.inside (ap (λ (t : Ctype). part_at table (Some (reached t q.node q.inside)) rest) (sym ty) ∙ h) ∙ ap (λ (x : TypeId). type_of table x.0) same

      by : (l : Option ℕ) → last_index step rest ≡ l → elim l as (λ _. Option Run) [
        | Some i ↦ indexed past i (count_in table whole) (part_id table whole (Index i))
        | None ↦ behind_step step (is_out (shape_of table whole) step) (run_from table (option_map One (part_id table whole step)) rest past)
      ] ≡ Some run
          → ((w : Whole) (d : Run) → run_from table (Some w) rest past ≡ Some d → (m : ℕ) (i : Bool) → part_at table (Some (reached (shape_of table w) m i)) rest ≡ Some r → r.ty ≡ type_of table d.of.0) → r.ty ≡ type_of table run.of.0
      by (Some i) is g next =
          let l = last_is table step rest i is in
          let here : part_at table (Some (reached (shape_of table whole) n b)) (Index i ∷ []) ≡ Some r =
          sym (ap (λ (s : PathStep). part_at table (Some (reached (shape_of table whole) n b)) (s ∷ rest)) l.0 ∙ ap (λ (ps : List PathStep). part_at table (Some (reached (shape_of table whole) n b)) (Index i ∷ ps)) l.1) ∙ f in
          step_known whole (Index i) run.of (indexed_of past i (count_in table whole) (part_id table whole (Index i)) run g) n b r here
      by None is g next =
          let d = behind_of step (is_out (shape_of table whole) step) (run_from table (option_map One (part_id table whole step)) rest past) run g in
          next_of (part_id table whole step) refl d.0 d.1 d.2 next

-- the type that the code has for an instance is its own
pub whole_shape : (table : Table) (inst : Instance) (id : TypeId) → typed_whole table inst (Some id) ≡ Some (shape_of table (whole_id table inst id))
whole_shape table inst id = by (is_allocated inst.key)
  where
    count : ℕ
    count = elements_of inst.key inst.bytes (size_below (extent_in table (type_of table id.0)))

    by : (b : Bool) → Some (cond b (ArrayOf (type_of table id.0) (Some (elements_of inst.key inst.bytes (size_below (extent_in table (type_of table id.0)))))) (type_of table id.0))
        ≡ Some (shape_of table (cond b (Many id (elements_of inst.key inst.bytes (size_below (extent_in table (type_of table id.0))))) (One id)))
    by true = refl
    by false = refl

-- the elements at a place of an instance that has a type
pub record IsRun (table : Table) (memory : List Instance) (place : Cell) (found : Found) : Type 0 where
  pub i : ℕ
  pub path : List PathStep
  pub past : Bool
  pub place_is : place ≡ Pointer i path past
  pub inst : Instance
  pub inst_is : slice_get memory i ≡ Some inst
  pub id : TypeId
  pub ty_is : inst.ty ≡ Some id
  pub run_is : run_from table (Some (whole_id table inst id)) path past ≡ Some found.run
  pub number_is : found.number ≡ i

pub run_inv : (table : Table) (memory : List Instance) (i : ℕ) (path : List PathStep) (past : Bool) (inst : Instance) (ty : Option TypeId) (found : Found) → slice_get memory i ≡ Some inst → inst.ty ≡ ty
    → found_as table i inst path past ty ≡ Ok found → IsRun table memory (Pointer i path past) found
run_inv table memory i path past inst None found at is e = absurd (err_ok e)
run_inv table memory i path past inst (Some id) found at is e = by (run_from table (Some (whole_id table inst id)) path past) refl e
  where
    by : (o : Option Run) → run_from table (Some (whole_id table inst id)) path past ≡ o → with_run i o ≡ Ok found → IsRun table memory (Pointer i path past) found
    by None r f = absurd (err_ok f)
    by (Some run) r f = record {
      i = i;
      path = path;
      past = past;
      place_is = refl;
      inst = inst;
      inst_is = at;
      id = id;
      ty_is = is;
      run_is = r ∙ ap (λ (x : Found). Some x.run) (ok_one f);
      number_is = sym (ap (λ (x : Found). x.number) (ok_one f));
    }

pub found_inv : (table : Table) (memory : List Instance) (place : Cell) (found : Found) → found_at table memory place ≡ Ok found → IsRun table memory place found
found_inv table memory Null found e = absurd (err_ok e)
found_inv table memory Unset found e = absurd (err_ok e)
found_inv table memory (Number n) found e = absurd (err_ok e)
found_inv table memory (Function key) found e = absurd (err_ok e)
found_inv table memory (Pointer i path past) found e = by (slice_get memory i) refl e
  where
    lives : (inst : Instance) → slice_get memory i ≡ Some inst → (b : Bool) → (let r : Result Instance Reason = cond b (Ok inst) (Err DeadUse) in r) >>= (λ x. found_as table i x path past x.ty) ≡ Ok found → IsRun table memory (Pointer i path past) found
    lives inst at true f = run_inv table memory i path past inst inst.ty found at refl f
    lives inst at false f = absurd (err_ok f)

    by : (o : Option Instance) → slice_get memory i ≡ o → live_at o >>= (λ x. found_as table i x path past x.ty) ≡ Ok found → IsRun table memory (Pointer i path past) found
    by None at f = absurd (err_ok f)
    by (Some inst) at f = lives inst at inst.live f
