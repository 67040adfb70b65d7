-- A pointer that is moved stays in the same rows.
use Rattle.std.proofs.Common.{arith, ◌≡◌, ◌∙◌, ℕ, zero, suc, ◌-◌, ◌≤◌, ℤ, pos, negsuc, ◌+ℤ◌, int_le, unsigned_abs, int_eq, leb, Bool, true, false, cond, ◌&&◌, List, [], ◌∷◌, ◌++◌, take, length, Option, Some, None, Result, Ok, Err, slice_get, refl, sym, ap, subst}
use Rattle.std.specs.Prelude.{◌-ℤ◌}
use Rattle.std.proofs.lemmas.Bool.{false≢true}
use Rattle.std.proofs.lemmas.Bool.Decides.{nat_tests}
use Rattle.c_types.specs.declared.term.PathStep.{PathStep}
use Rattle.c_types.specs.declared.term.PathStep.TheVariants.{Index, Member}
use Rattle.c_types.specs.Trees.{Ctype}
use Rattle.ref_cells.specs.declared.cells.Reason.{Reason}
use Rattle.ref_cells.specs.declared.cells.Reason.TheVariants.{NullUse, OutOfRange}
use Rattle.ref_cells.specs.declared.cells.Cell.{Cell}
use Rattle.ref_cells.specs.declared.cells.Cell.TheVariants.{Unset, Number, Null, Pointer, Function}
use Rattle.ref_cells.specs.declared.instance.Instance.{Instance}
use Rattle.ref_cells.specs.Wholes.{whole_of}
use Rattle.ref_places.specs.Parts.{along, whole_in}
use Rattle.ref_places.specs.Pointers.{index_in, last_index, front, count_of, elements_at, index_moved, with_index, mark_moved, place_moved, moved, signed_by}
use Rattle.ref_values.specs.Memory.{pointer_moved}
use Rattle.covering_laws.specs.covered_memory.Covered.{Sets, CellIn}
use Rattle.covering_laws.proofs.covered_memory.Fields.{moved_law}
use Rattle.covered_runs.proofs.covered_steps.covered_values.Types.{none_some, some_one}
use Rattle.covered_runs.proofs.covered_steps.covered_values.Operands.{ok_one, err_ok}

-- a list by its last element
last_split : (xs : List PathStep) (n : ℕ) (x : PathStep) → length xs ≡ suc n → slice_get xs n ≡ Some x → xs ≡ take n xs ++ x ∷ []
last_split [] n x many e = absurd (none_some e)
last_split (y ∷ []) zero x many e = ap (λ (z : PathStep). z ∷ []) (some_one e)
last_split (y ∷ z ∷ rest) zero x many e = absurd (omega arith)
last_split (y ∷ rest) (suc n) x many e = ap (λ (zs : List PathStep). y ∷ zs) (last_split rest n x (omega arith) e)

index_is : (o : Option PathStep) (a : ℕ) → index_in o ≡ Some a → o ≡ Some (Index a)
index_is None a e = absurd (none_some e)
index_is (Some (Index i)) a e = ap (λ (k : ℕ). Some (Index k)) (some_one e)
index_is (Some (Member k)) a e = absurd (none_some e)

front_is : (path : List PathStep) (a : ℕ) → last_index path ≡ Some a → path ≡ front path ++ Index a ∷ []
front_is [] a e = absurd (none_some e)
front_is (s ∷ rest) a e = last_split (s ∷ rest) (length (s ∷ rest) - 1) (Index a) (omega arith) (index_is (slice_get (s ∷ rest) (length (s ∷ rest) - 1)) a e)

-- in no array there is no other element
zero_only : (x : ℤ) → int_le (pos 0) x ≡ true → int_le x (pos 0) ≡ true → unsigned_abs x ≡ 0
zero_only (pos n) a b = (let e : leb n 0 ≡ true = b in grind (arith, nat_tests))
zero_only (negsuc n) a b = absurd (false≢true a)

both_true : (a b : Bool) → (a && b) ≡ true → (a ≡ true) × (b ≡ true)
both_true true true e = (refl, refl)
both_true true false e = absurd (false≢true e)
both_true false b e = absurd (false≢true e)

module _ (g : Sets) (memory : List Instance) (row : Option ℕ) where
  module _ (i : ℕ) (path : List PathStep) (past : Bool) (h : CellIn g memory row (Pointer i path past)) where
    -- another mark
    marked : (c : Cell) (k : ℤ) → mark_moved i path past k ≡ Ok c → CellIn g memory row c
    marked c k e = first (int_eq k (pos 0)) past e
      where
        is : (gone : Bool) → Pointer i path gone ≡ c → CellIn g memory row c
        is gone same = subst (CellIn g memory row) same (let other : CellIn g memory row (Pointer i path gone) = h in other)

        back : (b : Bool) → cond b (Ok (Pointer i path false)) (Err OutOfRange) ≡ Ok c → CellIn g memory row c
        back true f = is false (ok_one f)
        back false f = absurd (err_ok f)

        on : (b : Bool) → cond b (Ok (Pointer i path true)) (Err OutOfRange) ≡ Ok c → CellIn g memory row c
        on true f = is true (ok_one f)
        on false f = absurd (err_ok f)

        first : (b gone : Bool) → cond b (Ok (Pointer i path past)) (cond gone (cond (int_eq k (pos 0 -ℤ pos 1)) (Ok (Pointer i path false)) (Err OutOfRange)) (cond (int_eq k (pos 1)) (Ok (Pointer i path true)) (Err OutOfRange))) ≡ Ok c
            → CellIn g memory row c
        first true gone f = is past (ok_one f)
        first false true f = back (int_eq k (pos 0 -ℤ pos 1)) f
        first false false f = on (int_eq k (pos 1)) f

    -- another index
    none_there : (a b : ℕ) (k : ℤ) → index_moved (elements_at g.table (slice_get memory i) path) a k ≡ Ok b → (inst : Instance) → slice_get memory i ≡ Some inst → whole_of g.table inst ≡ None → b ≤ a
    none_there a b k e inst at none = by ((int_le (pos 0) (pos a +ℤ k)) && int_le (pos a +ℤ k) (pos 0)) refl e'
      where
        count : elements_at g.table (slice_get memory i) path ≡ 0
        count = ap (λ (o : Option Instance). count_of (along g.table (whole_in g.table o) (front path))) at ∙ ap (λ (o : Option Ctype). count_of (along g.table o (front path))) none

        e' : index_moved 0 a k ≡ Ok b
        e' = sym (ap (λ (n : ℕ). index_moved n a k) count) ∙ e

        by : (t : Bool) → (int_le (pos 0) (pos a +ℤ k) && int_le (pos a +ℤ k) (pos 0)) ≡ t → cond t (Ok (unsigned_abs (pos a +ℤ k))) (Err OutOfRange) ≡ Ok b → b ≤ a
        by true is f =
            let r = both_true (int_le (pos 0) (pos a +ℤ k)) (int_le (pos a +ℤ k) (pos 0)) is in
            let zero : b ≡ 0 = sym (ok_one f) ∙ zero_only (pos a +ℤ k) r.0 r.1 in
            omega arith
        by false is f = absurd (err_ok f)

    indexed : (a : ℕ) (k : ℤ) (c : Cell) → last_index path ≡ Some a → with_index i path past (index_moved (elements_at g.table (slice_get memory i) path) a k) ≡ Ok c → CellIn g memory row c
    indexed a k c last e = by (index_moved (elements_at g.table (slice_get memory i) path) a k) refl e
      where
        is : path ≡ front path ++ Index a ∷ []
        is = front_is path a last

        by : (r : Result ℕ Reason) → index_moved (elements_at g.table (slice_get memory i) path) a k ≡ r → with_index i path past r ≡ Ok c → CellIn g memory row c
        by (Err reason) r_is f = absurd (err_ok f)
        by (Ok b) r_is f =
            subst (CellIn g memory row) (ok_one f)
            (moved_law g memory row i (front path) a b past past (none_there a b k r_is) (subst (λ (q : List PathStep). CellIn g memory row (Pointer i q past)) is h))

    placed : (k : ℤ) (c : Cell) → place_moved g.table memory i path past k (last_index path) ≡ Ok c → CellIn g memory row c
    placed k c e = by (last_index path) refl e
      where
        by : (o : Option ℕ) → last_index path ≡ o → place_moved g.table memory i path past k o ≡ Ok c → CellIn g memory row c
        by None is f = marked c k f
        by (Some a) is f = indexed a k c is f

  pub moved_in : (from : Cell) (k : ℤ) (c : Cell) → CellIn g memory row from → moved g.table memory from k ≡ Ok c → CellIn g memory row c
  unfolding moved
  moved_in Null k c h e = by (int_eq k (pos 0)) e
    where
      by : (b : Bool) → cond b (Ok Null) (Err NullUse) ≡ Ok c → CellIn g memory row c
      by true f = subst (CellIn g memory row) (ok_one f) tt
      by false f = absurd (err_ok f)
  moved_in (Function key) k c h e = by (int_eq k (pos 0)) e
    where
      by : (b : Bool) → cond b (Ok (Function key)) (Err OutOfRange) ≡ Ok c → CellIn g memory row c
      by true f = subst (CellIn g memory row) (ok_one f) h
      by false f = absurd (err_ok f)
  moved_in (Pointer i path past) k c h e = placed i path past h k c e
  moved_in Unset k c h e = absurd (err_ok e)
  moved_in (Number n) k c h e = absurd (err_ok e)

  -- a pointer and a count
  pub pointer_in : (from : Cell) (minus : Bool) (count c : Cell) → CellIn g memory row from → pointer_moved g.table memory from minus count ≡ Ok c → CellIn g memory row c
  pointer_in from minus (Number k) c h e = moved_in from (signed_by minus k) c h e
  pointer_in from minus Null c h e = absurd (err_ok e)
  pointer_in from minus Unset c h e = absurd (err_ok e)
  pointer_in from minus (Pointer i path past) c h e = absurd (err_ok e)
  pointer_in from minus (Function key) c h e = absurd (err_ok e)
