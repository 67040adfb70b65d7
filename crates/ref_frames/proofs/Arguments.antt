-- Objects and pointers of parameters, one after another.
use Rattle.std.proofs.Common.{arith, ◌≡◌, ℕ, zero, suc, ◌+◌, ◌≤◌, List, [], ◌∷◌, ◌++◌, length, Some, map, drop, slice_get, refl, ap, sym, ◌∙◌, append_assoc}
use Rattle.std.specs.List.{range_with_len}
use Rattle.std.proofs.lemmas.List.FromFn.{map-range_with_len_more}
use Rattle.std.proofs.lemmas.List.{append-nil}
use Rattle.std.proofs.Math.ListN.{drop_of_length-le}
use Rattle.c_types.specs.declared.key.ObjectKey.{ObjectKey}
use Rattle.c_types.specs.declared.key.ObjectKey.TheVariants.{Entity as EntityKey}
use Rattle.core_tree.specs.Typed.{CoreTrees}
use Rattle.ref_cells.specs.declared.cells.Cell.{Cell}
use Rattle.ref_cells.specs.declared.cells.Value.{Value}
use Rattle.ref_cells.specs.declared.instance.Instance.{Instance}
use Rattle.ref_elements.specs.Outcomes.{pointers_in}
use Rattle.ref_frames.specs.Frames.{parameter_object, parameter_objects, pointers_from}

-- from the i-th item on
pub drop_next : {X : Type 0} → (xs : List X) (i : ℕ) (x : X) → slice_get xs i ≡ Some x → drop i xs ≡ x ∷ drop (i + 1) xs
drop_next [] i x h = cc
drop_next (y ∷ xs) zero x h = let e : y ≡ x = cc in ap (λ z. z ∷ xs) e
drop_next (y ∷ xs) (suc i) x h =
    let e : suc (i + 1) ≡ suc i + 1 = omega arith in
    drop_next xs i x h ∙ ap (λ (k : ℕ). x ∷ drop k (y ∷ xs)) e

no_arguments : (u : CoreTrees) (keys : List ObjectKey) → parameter_objects u keys [] ≡ []
no_arguments u [] = refl
no_arguments u (key ∷ keys) = refl

pub objects_next : (u : CoreTrees) (ps : List ℕ) (vs : List Value) (i p : ℕ) (v : Value) (fresh all : List Instance)
    → slice_get ps i ≡ Some p → slice_get vs i ≡ Some v
    → fresh ++ parameter_objects u (map EntityKey (drop i ps)) (drop i vs) ≡ all
    → (fresh ++ parameter_object u (EntityKey p) v ∷ []) ++ parameter_objects u (map EntityKey (drop (i + 1) ps)) (drop (i + 1) vs) ≡ all
objects_next u ps vs i p v fresh all at_p at_v h =
    append_assoc fresh (parameter_object u (EntityKey p) v ∷ []) (parameter_objects u (map EntityKey (drop (i + 1) ps)) (drop (i + 1) vs))
    ∙ (sym (ap (λ (xs : List ℕ). fresh ++ parameter_objects u (map EntityKey xs) (drop i vs)) (drop_next ps i p at_p)
    ∙ ap (λ (ys : List Value). fresh ++ parameter_objects u (map EntityKey (p ∷ drop (i + 1) ps)) ys) (drop_next vs i v at_v))
    ∙ h)

pub objects_parameters : (u : CoreTrees) (ps : List ℕ) (vs : List Value) (i : ℕ) (fresh all : List Instance) → length ps ≤ i
    → fresh ++ parameter_objects u (map EntityKey (drop i ps)) (drop i vs) ≡ all → fresh ≡ all
objects_parameters u ps vs i fresh all past h =
    sym (append-nil fresh)
    ∙ (sym (ap (λ (xs : List ℕ). fresh ++ parameter_objects u (map EntityKey xs) (drop i vs)) (drop_of_length-le ps past)) ∙ h)

pub objects_arguments : (u : CoreTrees) (ps : List ℕ) (vs : List Value) (i : ℕ) (fresh all : List Instance) → length vs ≤ i
    → fresh ++ parameter_objects u (map EntityKey (drop i ps)) (drop i vs) ≡ all → fresh ≡ all
objects_arguments u ps vs i fresh all past h =
    sym (append-nil fresh)
    ∙ (sym (ap (λ (ys : List Value). fresh ++ parameter_objects u (map EntityKey (drop i ps)) ys) (drop_of_length-le vs past)
    ∙ ap (λ (xs : List Instance). fresh ++ xs) (no_arguments u (map EntityKey (drop i ps)))) ∙ h)

pub pointers_next : (instances : List Instance) (first i : ℕ) (inst : Instance) (stores all : List (Cell × Cell))
    → slice_get instances i ≡ Some inst
    → stores ++ pointers_from (first + i) (drop i instances) ≡ all
    → (stores ++ pointers_in (first + i) inst.cells) ++ pointers_from (first + (i + 1)) (drop (i + 1) instances) ≡ all
pointers_next instances first i inst stores all at h =
    let e : first + (i + 1) ≡ first + i + 1 = omega arith in
    append_assoc stores (pointers_in (first + i) inst.cells) (pointers_from (first + (i + 1)) (drop (i + 1) instances))
    ∙ (ap (λ (n : ℕ). stores ++ (pointers_in (first + i) inst.cells ++ pointers_from n (drop (i + 1) instances))) e
    ∙ (sym (ap (λ (xs : List Instance). stores ++ pointers_from (first + i) xs) (drop_next instances i inst at))
    ∙ h))

pub pointers_end : (instances : List Instance) (first i : ℕ) (stores all : List (Cell × Cell)) → length instances ≤ i
    → stores ++ pointers_from (first + i) (drop i instances) ≡ all → stores ≡ all
pointers_end instances first i stores all past h =
    sym (append-nil stores)
    ∙ (sym (ap (λ (xs : List Instance). stores ++ pointers_from (first + i) xs) (drop_of_length-le instances past)) ∙ h)

pub pointers_start : (instances : List Instance) (first : ℕ) → pointers_from (first + 0) instances ≡ pointers_from first instances
pointers_start instances first = let e : first + 0 ≡ first = omega arith in ap (λ (n : ℕ). pointers_from n instances) e

map_id : (xs : List ℕ) → map (λ x. x) xs ≡ xs
map_id [] = refl
map_id (x ∷ xs) = ap (λ (rest : List ℕ). x ∷ rest) (map_id xs)

-- one number more
pub range_more : (a n : ℕ) → range_with_len a (n + 1) ≡ range_with_len a n ++ (a + n) ∷ []
range_more a n =
    sym (map_id (range_with_len a (n + 1)))
    ∙ (map-range_with_len_more (λ x. x) a n (a + n) refl
    ∙ ap (λ (rest : List ℕ). rest ++ (a + n) ∷ []) (map_id (range_with_len a n)))
