-- The first step: `<argv>` is there, and is written in a longer memory.
use Rattle.std.proofs.Common.{arith, ◌≡◌, ℕ, zero, suc, ◌+◌, ◌<◌, List, [], ◌∷◌, ◌++◌, length, Option, Some, Bool, true, false, cond, slice_get, slice_set, refl, ap, sym, ◌∙◌}
use Rattle.ref_cells.specs.declared.instance.Instance.{Instance}
use Rattle.ref_elements.specs.Objects.{is_object, object_from}
use Rattle.ref_mem.specs.Writes.{changed}
use Rattle.std.proofs.Common.{map, None, inl, inr, ◌%◌, pos}
use Rattle.std.specs.Prelude.{◌==◌, if◌then◌else◌}
use Rattle.std.proofs.lemmas.Bool.Decides.{eqb_tells}
use Rattle.type_rules.specs.Kinds.{character}
use Rattle.ref_cells.specs.Numbers.{converted}
use Rattle.ref_texts.specs.Writing.{byte_of}
use Rattle.c_types.specs.declared.key.ObjectKey.TheVariants.{Entity as EntityKey}
use Rattle.obj_space.specs.View.{view_of}
use Rattle.row_numbers.specs.Functions.{parameters_of}
use Rattle.ref_state.specs.declared.state.State.{State}
use Rattle.ref_frames.specs.Running.{Running}
use Rattle.ref_start.specs.Begin.{main_of, begins, begins_at, begins_with, begin}

one_found : (b : Bool) (i k n : ℕ) (later : Option ℕ) → (later ≡ Some k → k < i + 1 + n) → cond b (Some i) later ≡ Some k → k < i + suc n
one_found true i k n later more h = let e : i ≡ k = cc in omega (arith, e)
one_found false i k n later more h = omega (arith, more h)

-- where a library object is found, there is an instance
found_from : (position i k : ℕ) (memory : List Instance) → object_from position i memory ≡ Some k → k < i + length memory
found_from position i k [] h = cc
found_from position i k (inst ∷ rest) h =
    one_found (is_object position inst.key) i k (length rest) (object_from position (i + 1) rest) (λ e. found_from position (i + 1) k rest e) h

pub found_within : (position k : ℕ) (memory : List Instance) → object_from position 0 memory ≡ Some k → k < length memory
found_within position k memory h = omega (arith, found_from position 0 k memory h)

set_front : (xs ys : List Instance) (i : ℕ) (x : Instance) → i < length xs → slice_set (xs ++ ys) i x ≡ slice_set xs i x ++ ys
set_front [] ys i x lt = absurd (omega (arith, lt))
set_front (y ∷ xs) ys zero x lt = refl
set_front (y ∷ xs) ys (suc i) x lt = ap (λ (rest : List Instance). y ∷ rest) (set_front xs ys i x (omega (arith, lt)))

-- an instance of a longer memory is written
pub set_longer : (memory fresh : List Instance) (i : ℕ) (inst : Instance) (change : Instance → Instance) → slice_get memory i ≡ Some inst → i < length memory
    → slice_set (memory ++ fresh) i (change inst) ≡ changed memory i (slice_get memory i) change ++ fresh
set_longer memory fresh i inst change at lt =
    set_front memory fresh i (change inst) lt
    ∙ sym (ap (λ (o : Option Instance). changed memory i o change ++ fresh) at)

-- the first step where main has no parameters
pub begins_alone : (w : Running) (state : State) (word main : ℕ) (list : List ℕ) → main_of w.trees ≡ Some main
    → map EntityKey list ≡ parameters_of w.trees (view_of w.space) main
    → length list ≡ 0
    → begin w state word ≡ begins_with w state main 0 []
unfolding begin
begins_alone w state word main [] found are none = ap (begins w state word) found ∙ sym (ap (begins_with w state main word) are)
begins_alone w state word main (x ∷ list) found are none = absurd (omega (arith, none))

-- the first step where main has parameters
pub begins_called : (w : Running) (state : State) (word main : ℕ) (list : List ℕ) → main_of w.trees ≡ Some main
    → map EntityKey list ≡ parameters_of w.trees (view_of w.space) main
    → 0 < length list
    → begin w state word ≡ begins_at w state main word (object_from 9 0 state.memory)
unfolding begin
begins_called w state word main [] found are some = absurd (omega (arith, some))
begins_called w state word main (x ∷ list) found are some = ap (begins w state word) found ∙ sym (ap (begins_with w state main word) are)

-- a list's test for emptiness
pub none_there : (xs : List ℕ) (b : Bool) → b ≡ (length xs == 0) → b ≡ true → length xs ≡ 0
none_there xs b is on = elim (eqb_tells (length xs) 0) [
  | inl p ↦ p.1
  | inr p ↦ cc
]

pub some_there : (xs : List ℕ) (b : Bool) → b ≡ (length xs == 0) → b ≡ false → 0 < length xs
some_there xs b is off = elim (eqb_tells (length xs) 0) [
  | inl p ↦ (let impossible : ⊥ = cc in absurd impossible)
  | inr p ↦ omega (arith, p.1)
]

-- a byte that isn't zero
pub byte_some : (word : ℕ) → (word % 256 ≡ 0 → ⊥) → byte_of word ≡ Some (converted character (pos (word % 256)))
byte_some word some = elim (eqb_tells (word % 256) 0) [
  | inl p ↦ absurd (some p.1)
  | inr p ↦ ap (λ (b : Bool). if b then None else Some (converted character (pos (word % 256)))) p.0
]
