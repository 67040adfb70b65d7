-- What a library function gives to the one that it calls back: pointers to elements of arrays to which its own arguments lead.
use Rattle.std.proofs.Common.{arith, ◌≡◌, ◌∙◌, inl, inr, ℕ, zero, suc, ◌+◌, ◌==◌, ◌||◌, Bool, true, false, cond, List, [], ◌∷◌, ◌++◌, Option, Some, None, Result, Ok, Err, slice_get, Contains, refl, sym, ap, subst}
use Rattle.std.specs.Option.{option_map}
use Rattle.c_types.specs.declared.key.ObjectKey.{ObjectKey}
use Rattle.c_types.specs.declared.term.PathStep.{PathStep}
use Rattle.c_types.specs.declared.term.PathStep.TheVariants.{Index, Member}
use Rattle.c_types.specs.declared.term.TypeId.{TypeId}
use Rattle.c_types.specs.Table.{Table, type_of}
use Rattle.row_numbers.specs.Objects.{library_id}
use Rattle.ref_cells.specs.declared.cells.Reason.{Reason}
use Rattle.ref_cells.specs.declared.cells.Reason.TheVariants.{Mismatch}
use Rattle.ref_cells.specs.declared.cells.Cell.{Cell}
use Rattle.ref_cells.specs.declared.cells.Cell.TheVariants.{Unset, Number, Null, Pointer, Function as FunctionCell}
use Rattle.ref_cells.specs.declared.cells.Value.{Value}
use Rattle.ref_cells.specs.declared.instance.Instance.{Instance}
use Rattle.ref_cells.specs.declared.wholes.Whole.{Whole}
use Rattle.ref_cells.specs.declared.wholes.Whole.TheVariants.{One, Many}
use Rattle.ref_cells.specs.Wholes.{shape_of}
use Rattle.ref_cells.specs.Places.{is_out}
use Rattle.ref_mem.specs.Reads.{one_cell}
use Rattle.ref_elements.specs.declared.outcome.Next.{Next}
use Rattle.ref_elements.specs.declared.outcome.Next.TheVariants.{Done, Again, Calls}
use Rattle.ref_elements.specs.declared.runs.Run.{Run}
use Rattle.ref_elements.specs.declared.runs.Found.{Found}
use Rattle.ref_elements.specs.Arguments.{argument, count_of}
use Rattle.ref_elements.specs.Objects.{is_odd}
use Rattle.ref_elements.specs.Outcomes.{Effected, gives, no_value, null_value}
use Rattle.ref_elements.specs.Runs.{◌>>=◌, part_id, whole_id, count_in, indexed, behind_step, last_index, run_from, element_path, element_at, found_at, size_in, within}
use Rattle.ref_copies.specs.Turns.{checked_array, array_at, compares, first_of, second_of, swapped, swaps, sort_turn, sort_row, find_turn, find_row}
use Rattle.ref_lib.specs.declared.rows.Elements.TheVariants.{Sort, Find}
use Rattle.ref_lib.specs.declared.rows.Row.{Row}
use Rattle.ref_lib.specs.declared.rows.Row.TheVariants.{Moves}
use Rattle.ref_lib.specs.Effects.{rows, row_effect, effect}
use Rattle.ref_frames.specs.Running.{Running, element_type}
use Rattle.ref_calls.specs.Library.{object_of, result_in, term_in, performed_as, performed}
use Rattle.covering_laws.proofs.covered_library.Runs.{found_inv}
use Rattle.covered_runs.proofs.covered_steps.covered_values.Operands.{went, ok_one, err_ok}
use Rattle.covered_runs.specs.covered_steps.covered_effects.Traces.{MayCall, MayGo, IsTraced}
use Rattle.covered_runs.proofs.covered_steps.covered_effects.Traces.{effects_traced}
use Rattle.covered_runs.specs.touched_runs.called_frames.Looked.{looked_at, looked_in, looked_by}
use Rattle.covered_runs.specs.touched_runs.called_frames.Layers.{AreBeside, LeadsBeside, AreOfArguments}

some_one : {X : Type 0} → {x y : X} → ◌≡◌ {A = Option X} (Some x) (Some y) → x ≡ y
some_one h = cc

none_some : {X : Type 0} → {x : X} → ◌≡◌ {A = Option X} None (Some x) → ⊥
none_some h = cc

calls_given : {c d : Cell} → {xs ys : List Value} → ◌≡◌ {A = Next} (Calls c xs) (Calls d ys) → xs ≡ ys
calls_given h = cc

done_calls : {c : Cell} → {xs : List Value} → ◌≡◌ {A = Next} Done (Calls c xs) → ⊥
done_calls h = cc

again_calls : {c : Cell} → {xs : List Value} → ◌≡◌ {A = Next} Again (Calls c xs) → ⊥
again_calls h = cc

-- ---- elements stand beside the place from which they are counted

beside_under : (step : PathStep) (p q : List PathStep) → AreBeside p q → AreBeside (step ∷ p) (step ∷ q)
beside_under step p q (inl same) = inl (ap (λ (r : List PathStep). step ∷ r) same)
beside_under step p q (inr (front, i, j, p_is, q_is)) = inr (step ∷ front, i, j, ap (λ (r : List PathStep). step ∷ r) p_is, ap (λ (r : List PathStep). step ∷ r) q_is)

last_is : (step : PathStep) (rest : List PathStep) (i : ℕ) → last_index step rest ≡ Some i → (step ≡ Index i) × (rest ≡ [])
last_is (Index j) [] i e = (ap (λ (n : ℕ). Index n) (some_one e), refl)
last_is (Index j) (s ∷ rest) i e = absurd (none_some e)
last_is (Member k) rest i e = absurd (none_some e)

indexed_path : (past : Bool) (i : ℕ) (count : Option ℕ) (id : Option TypeId) (run : Run) → indexed past i count id ≡ Some run → (k : ℕ) → element_path run k ≡ Index (i + k) ∷ []
indexed_path past i None id run e k = absurd (none_some e)
indexed_path past i (Some n) None run e k = absurd (none_some e)
indexed_path past i (Some n) (Some id) run e k = subst (λ (r : Run). element_path r k ≡ Index (i + k) ∷ []) (some_one e) refl

behind_path : (step : PathStep) (out : Bool) (d : Option Run) (run : Run) → behind_step step out d ≡ Some run → (k : ℕ) → (r : Run) × (d ≡ Some r) × (element_path run k ≡ step ∷ element_path r k)
behind_path step out None run e k = absurd (none_some e)
behind_path step out (Some r) run e k =
    (r, refl, subst (λ (x : Run). element_path x k ≡ step ∷ element_path r k) (some_one e) (by r.first))
  where
    by : (first : Option ℕ) → elim first as (λ _. List PathStep) [ None ↦ step ∷ r.front | Some i ↦ (step ∷ r.front) ++ Index (i + k) ∷ [] ] ≡ step ∷ elim first as (λ _. List PathStep) [ None ↦ r.front | Some i ↦ r.front ++ Index (i + k) ∷ [] ]
    by None = refl
    by (Some i) = refl

module _ (table : Table) where
  -- an element's path stands beside that of the place
  pub run_beside : (whole : Option Whole) (path : List PathStep) (past : Bool) (run : Run) → run_from table whole path past ≡ Some run → (k : ℕ) → AreBeside (element_path run k) path
  run_beside None path past run e k = absurd (none_some e)
  run_beside (Some (Many id n)) [] past run e k = absurd (none_some e)
  run_beside (Some (One id)) [] past run e k = subst (λ (r : Run). AreBeside (element_path r k) []) (some_one e) (inl refl)
  run_beside (Some whole) (step ∷ rest) past run e k = by (last_index step rest) refl e (λ d r f. run_beside d rest past r f k)
    where
      by : (l : Option ℕ) → last_index step rest ≡ l → elim l as (λ _. Option Run) [
        | Some i ↦ indexed past i (count_in table whole) (part_id table whole (Index i))
        | None ↦ behind_step step (is_out (shape_of table whole) step) (run_from table (option_map One (part_id table whole step)) rest past)
      ] ≡ Some run → ((d : Option Whole) (r : Run) → run_from table d rest past ≡ Some r → AreBeside (element_path r k) rest) → AreBeside (element_path run k) (step ∷ rest)
      by (Some i) is f next =
          let l = last_is step rest i is in
          inr ([], i + k, i, indexed_path past i (count_in table whole) (part_id table whole (Index i)) run f k, ap (λ (s : PathStep). s ∷ rest) l.0 ∙ ap (λ (ps : List PathStep). Index i ∷ ps) l.1)
      by None is f next =
          let b = behind_path step (is_out (shape_of table whole) step) (run_from table (option_map One (part_id table whole step)) rest past) run f k in
          subst (λ (p : List PathStep). AreBeside p (step ∷ rest)) (sym b.2) (beside_under step (element_path b.0 k) rest (next (option_map One (part_id table whole step)) b.0 b.1))

  element_leads : (memory : List Instance) (place : Cell) (found : Found) → found_at table memory place ≡ Ok found → (k : ℕ) → LeadsBeside (element_at found k) place
  element_leads memory place found e k =
      let s = found_inv table memory place found e in
      subst (λ (c : Cell). LeadsBeside (element_at found k) c) (sym s.place_is) (s.number_is, run_beside (Some (whole_id table s.inst s.id)) s.path s.past found.run s.run_is k)

itself : (cell : Cell) → LeadsBeside cell cell
itself (Pointer i path past) = (refl, inl refl)
itself Unset = tt
itself (Number n) = tt
itself Null = tt
itself (FunctionCell key) = tt

-- ---- what calls back is given

-- each of the two arguments leads beside one through which the function looks, and the call has arguments
pub record AreLed (library : ℕ) (arguments given : List Value) : Type 0 where
  pub each : AreOfArguments library given arguments
  pub some : arguments ≡ [] → ⊥

-- an argument through which a library function looks, and a cell that leads beside it
abbrev IsOf : ℕ → List Value → Cell → Type 0
IsOf library arguments cell = (i : ℕ) × Contains (looked_by library) i × LeadsBeside cell (argument arguments i)

two_led : (library : ℕ) (arguments : List Value) (a b : Cell) → IsOf library arguments a → IsOf library arguments b → AreOfArguments library (one_cell a ∷ one_cell b ∷ []) arguments
two_led library arguments a b ha hb zero = ha
two_led library arguments a b ha hb (suc zero) = hb
two_led library arguments a b ha hb (suc (suc k)) = (ha.0, ha.1, tt)

compared : (memory : List Instance) (compare a b : Cell) (e : Effected) (callee : Cell) (given : List Value) → compares memory compare a b ≡ Ok e → e.outcome.next ≡ Calls callee given → given ≡ one_cell a ∷ one_cell b ∷ []
compared memory Null a b e callee given h next = absurd (err_ok h)
compared memory Unset a b e callee given h next = absurd (err_ok h)
compared memory (Number k) a b e callee given h next = absurd (err_ok h)
compared memory (Pointer i path past) a b e callee given h next = absurd (err_ok h)
compared memory (FunctionCell key) a b e callee given h next = sym (calls_given (ap (λ (z : Effected). z.outcome.next) (ok_one h) ∙ next))

module _ (table : Table) (memory : List Instance) where
  checked_same : (count size : ℕ) (found x : Found) → checked_array table count size found ≡ Ok x → found ≡ x
  checked_same count size found x h = by (size_in table found.run.of) h
    where
      sized : (k : ℕ) (b : Bool) → cond b (within count found.run.room >>= (λ m. let r : Result Found Reason = Ok found in r)) (Err Mismatch) ≡ Ok x → found ≡ x
      sized k false f = absurd (err_ok f)
      sized k true f = (let q = went (within count found.run.room) _ x f in ok_one q.2)

      by : (o : Option ℕ) → elim o as (λ _. Result Found Reason) [ None ↦ Err Mismatch | Some m ↦ cond (m == size) (within count found.run.room >>= (λ m. let r : Result Found Reason = Ok found in r)) (Err Mismatch) ] ≡ Ok x → found ≡ x
      by None f = absurd (err_ok f)
      by (Some m) f = sized m (m == size) f

  array_found : (place : Cell) (count size : ℕ) (found : Found) → array_at table memory place count size ≡ Ok found → found_at table memory place ≡ Ok found
  array_found place count size found h =
      let q = went (found_at table memory place) (checked_array table count size) found h in
      q.1 ∙ ap (λ (x : Found). let r : Result Found Reason = Ok x in r) (checked_same count size q.0 found q.2)

  -- where nothing is given, no array is found
  some_given : (arguments : List Value) (k : ℕ) (found : Found) → found_at table memory (argument arguments k) ≡ Ok found → arguments ≡ [] → ⊥
  some_given arguments k found is none = err_ok (subst (λ (xs : List Value). found_at table memory (argument xs k) ≡ Ok found) none is)

  module _ (arguments : List Value) (e : Effected) (callee : Cell) (given : List Value) (next : e.outcome.next ≡ Calls callee given) where
    -- what is given where two cells are compared of which the arguments lead to the array
    led : (library : ℕ) (compare a b : Cell) (l : ℕ) (found : Found) → found_at table memory (argument arguments l) ≡ Ok found → IsOf library arguments a → IsOf library arguments b → compares memory compare a b ≡ Ok e → AreLed library arguments given
    led library compare a b l found is ha hb h =
        subst (AreLed library arguments) (sym (compared memory compare a b e callee given h next))
        (record { each = two_led library arguments a b ha hb; some = some_given arguments l found is })

    sort_led : (library : ℕ) → Contains (looked_by library) 0 → (word : ℕ) (a2 a3 a4 : Cell) → sort_row table memory word (argument arguments 0) a2 a3 a4 ≡ Ok e → AreLed library arguments given
    sort_led library first word a2 a3 a4 h =
        let q = went (array_at table memory (argument arguments 0) (count_of a2) (count_of a3)) (sort_turn table memory (count_of a2) word a4) e h in
        by q.0 (array_found (argument arguments 0) (count_of a2) (count_of a3) q.0 q.1) (word == 0 || count_of a2 == 0) q.2
      where
        turn : (found : Found) → found_at table memory (argument arguments 0) ≡ Ok found → (b : Bool)
            → cond b (compares memory a4 (element_at found (first_of (count_of a2) word)) (element_at found (second_of (count_of a2) word)))
            (swapped table memory found (first_of (count_of a2) word) (second_of (count_of a2) word) >>= swaps table memory found) ≡ Ok e → AreLed library arguments given
        turn found is true f =
            led library a4 (element_at found (first_of (count_of a2) word)) (element_at found (second_of (count_of a2) word)) 0 found is
            (0, first, element_leads table memory (argument arguments 0) found is (first_of (count_of a2) word)) (0, first, element_leads table memory (argument arguments 0) found is (second_of (count_of a2) word)) f
        turn found is false f =
            let q = went (swapped table memory found (first_of (count_of a2) word) (second_of (count_of a2) word)) (swaps table memory found) e f in
            absurd (again_calls (ap (λ (z : Effected). z.outcome.next) (ok_one q.2) ∙ next))

        by : (found : Found) → found_at table memory (argument arguments 0) ≡ Ok found → (b : Bool)
            → cond b (gives memory no_value) (cond (is_odd word) (compares memory a4 (element_at found (first_of (count_of a2) word)) (element_at found (second_of (count_of a2) word)))
            (swapped table memory found (first_of (count_of a2) word) (second_of (count_of a2) word) >>= swaps table memory found)) ≡ Ok e → AreLed library arguments given
        by found is true f = absurd (done_calls (ap (λ (z : Effected). z.outcome.next) (ok_one f) ∙ next))
        by found is false f = turn found is (is_odd word) f

    find_led : (library : ℕ) → Contains (looked_by library) 0 → Contains (looked_by library) 1 → (word : ℕ) (a3 a4 a5 : Cell) → find_row table memory word (argument arguments 0) (argument arguments 1) a3 a4 a5 ≡ Ok e → AreLed library arguments given
    find_led library first second word a3 a4 a5 h =
        let q = went (array_at table memory (argument arguments 1) (count_of a3) (count_of a4)) (find_turn memory (count_of a3) word (argument arguments 0) a5) e h in
        by q.0 (array_found (argument arguments 1) (count_of a3) (count_of a4) q.0 q.1) (word == 0 || count_of a3 == 0) q.2
      where
        turn : (found : Found) → found_at table memory (argument arguments 1) ≡ Ok found → (b : Bool)
            → cond b (compares memory a5 (argument arguments 0) (element_at found (first_of (count_of a3) word))) (gives memory (one_cell (element_at found (first_of (count_of a3) word)))) ≡ Ok e → AreLed library arguments given
        turn found is true f =
            led library a5 (argument arguments 0) (element_at found (first_of (count_of a3) word)) 1 found is (0, first, itself (argument arguments 0)) (1, second, element_leads table memory (argument arguments 1) found is (first_of (count_of a3) word)) f
        turn found is false f = absurd (done_calls (ap (λ (z : Effected). z.outcome.next) (ok_one f) ∙ next))

        by : (found : Found) → found_at table memory (argument arguments 1) ≡ Ok found → (b : Bool)
            → cond b (gives memory null_value) (cond (is_odd word) (compares memory a5 (argument arguments 0) (element_at found (first_of (count_of a3) word))) (gives memory (one_cell (element_at found (first_of (count_of a3) word))))) ≡ Ok e
            → AreLed library arguments given
        by found is true f = absurd (done_calls (ap (λ (z : Effected). z.outcome.next) (ok_one f) ∙ next))
        by found is false f = turn found is (is_odd word) f

    effect_led : (function : ℕ) (key : ObjectKey) (fixed : Option TypeId) (result : TypeId) (word : ℕ) → effect table memory function key fixed result arguments word ≡ Ok e → AreLed function arguments given
    unfolding effect
    effect_led function key fixed result word h = by (slice_get rows function) refl h
      where
        traced : IsTraced memory function key arguments e
        traced = effects_traced table memory function key fixed result arguments word e h

        may : (row : Row) → slice_get rows function ≡ Some row → MayCall row
        may row at = subst (λ (r : Row). MayCall r) (some_one (sym traced.row_is ∙ at)) (subst (MayGo traced.row arguments) next traced.goes)

        looks : (row : Row) → slice_get rows function ≡ Some row → (i : ℕ) → Contains (looked_at row) i → Contains (looked_by function) i
        looks row at i h = subst (λ (list : List ℕ). Contains list i) (sym (ap looked_in at)) h

        by : (o : Option Row) → slice_get rows function ≡ o → row_effect table memory o key fixed (type_of table result.0) arguments word ≡ Ok e → AreLed function arguments given
        by None at f = absurd (err_ok f)
        by (Some (Moves Sort)) at f = sort_led function (looks (Moves Sort) at 0 (0, omega arith, refl)) word (argument arguments 1) (argument arguments 2) (argument arguments 3) f
        by (Some (Moves Find)) at f =
            find_led function (looks (Moves Find) at 0 (0, omega arith, refl)) (looks (Moves Find) at 1 (1, omega arith, refl)) word (argument arguments 2) (argument arguments 3) (argument arguments 4) f
        by (Some row) at f = absurd (may row at)

pub performed_led : (w : Running) (memory : List Instance) (n k : ℕ) (arguments : List Value) (word : ℕ) (e : Effected) (callee : Cell) (given : List Value) → performed w memory n k arguments word ≡ Ok e → e.outcome.next ≡ Calls callee given → AreLed k arguments given
unfolding performed
performed_led w memory n k arguments word e callee given h next = by (result_in (term_in w.trees (library_id k w.trees.entities))) h
  where
    by : (o : Option TypeId) → performed_as w memory n k arguments word o ≡ Ok e → AreLed k arguments given
    by None f = absurd (err_ok f)
    by (Some result) f = effect_led w.trees.types memory arguments e callee given next k (object_of w.trees n k) (element_type w (object_of w.trees n k)) result word f
