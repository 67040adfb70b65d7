-- A place that is opened for a value, and then filled or shut.
use Rattle.std.proofs.Common.{arith, ◌≡◌, ℕ, ◌-◌, List, [], ◌∷◌, ◌++◌, length, length-append, Option, Some, take, slice_get, slice_set, refl, ap, ◌∙◌}
use Rattle.std.proofs.Math.Seq.{take-append_seam}
use Rattle.ref_cells.specs.declared.cells.Value.{Value}
use Rattle.ref_state.specs.declared.items.Item.{Item}
use Rattle.ref_state.specs.declared.items.Item.TheVariants.{Do, Wait, Library, Result as Returned}
use Rattle.ref_state.specs.declared.frames.Frame.{Frame}
use Rattle.ref_frames.specs.Tops.{items_at}
use Rattle.ref_state.specs.Values.{no_value}
use Rattle.ref_state.specs.Items.{given, settled, opened, filled, put_last, below_filled, shut, below_shut}

last_place : {X : Type 0} (xs : List X) (x : X) → length (xs ++ x ∷ []) - 1 ≡ length xs
last_place xs x = omega (arith, length-append xs (x ∷ []))

got : {X : Type 0} (xs : List X) (x : X) → slice_get (xs ++ x ∷ []) (length xs) ≡ Some x
got [] x = refl
got (y ∷ xs) x = got xs x

written : {X : Type 0} (xs : List X) (x z : X) → slice_set (xs ++ x ∷ []) (length xs) z ≡ xs ++ z ∷ []
written [] x z = refl
written (y ∷ xs) x z = ap (λ rest. y ∷ rest) (written xs x z)

filled_given : (n : ℕ) (v : Value) (item : Item) → filled v (given n no_value item) ≡ given n v item
filled_given n v (Do m) = refl
filled_given n v (Wait m left values) =
    let place = last_place values (n, no_value) in
    ap (λ (k : ℕ). Wait m left (put_last v (values ++ (n, no_value) ∷ []) (slice_get (values ++ (n, no_value) ∷ []) k))) place
    ∙ (ap (λ (o : Option (ℕ × Value)). Wait m left (put_last v (values ++ (n, no_value) ∷ []) o)) (got values (n, no_value))
    ∙ (ap (λ (k : ℕ). Wait m left (slice_set (values ++ (n, no_value) ∷ []) k (n, v))) place
    ∙ ap (λ (vs : List (ℕ × Value)). Wait m left vs) (written values (n, no_value) (n, v))))
filled_given n v (Library m k arguments) = refl
filled_given n v (Returned value) = refl

shut_given : (n : ℕ) (item : Item) → shut (given n no_value item) ≡ item
shut_given n (Do m) = refl
shut_given n (Wait m left values) =
    ap (λ (k : ℕ). Wait m left (take k (values ++ (n, no_value) ∷ []))) (last_place values (n, no_value))
    ∙ ap (λ (vs : List (ℕ × Value)). Wait m left vs) (take-append_seam values ((n, no_value) ∷ []))
shut_given n (Library m k arguments) = refl
shut_given n (Returned value) = refl

pub filled_opened : (n : ℕ) (v : Value) (items : List Item) → below_filled v (opened n items) ≡ settled n v items
filled_opened n v [] = refl
filled_opened n v (top ∷ []) = refl
filled_opened n v (top ∷ item ∷ rest) = ap (λ (x : Item). x ∷ rest) (filled_given n v item)

pub shut_opened : (n : ℕ) (items : List Item) → below_shut (opened n items) ≡ items
shut_opened n [] = refl
shut_opened n (top ∷ []) = refl
shut_opened n (top ∷ item ∷ rest) = ap (λ (x : Item). top ∷ x ∷ rest) (shut_given n item)

pub done_frames : (n : ℕ) (v : Value) (f : Frame) (rest : List Frame)
    → items_at (below_filled v) 0 (items_at (opened n) 0 (f ∷ rest)) ≡ record f { items = settled n v f.items } ∷ rest
done_frames n v f rest = ap (λ (xs : List Item). record f { items = xs } ∷ rest) (filled_opened n v f.items)

pub shut_frames : (n : ℕ) (f : Frame) (rest : List Frame) → items_at below_shut 0 (items_at (opened n) 0 (f ∷ rest)) ≡ f ∷ rest
shut_frames n f rest = ap (λ (xs : List Item). record f { items = xs } ∷ rest) (shut_opened n f.items)
