-- A frame that is taken out and put back.
use Rattle.std.proofs.Common.{arith, ◌≡◌, ℕ, zero, suc, ◌≤◌, List, [], ◌∷◌, length, Option, Some, Result, Ok, Err, slice_get, slice_set, refl, ap}
use Rattle.ref_cells.specs.declared.cells.Value.{Value}
use Rattle.ref_state.specs.Items.{settled}
use Rattle.ref_frames.specs.Frames.{caller_given}
use Rattle.std.specs.Result.{OnOk, OnErr}
use Rattle.ref_state.specs.declared.items.Item.{Item}
use Rattle.ref_state.specs.declared.frames.Frame.{Frame}
use Rattle.ref_frames.specs.Tops.{items_at}

pub set_twice : (change : List Item → List Item) (k : ℕ) (frames : List Frame) (f x : Frame) → slice_get frames k ≡ Some f
    → slice_set (slice_set frames k x) k (record f { items = change f.items }) ≡ items_at change k frames
set_twice change k [] f x h = cc
set_twice change zero (g ∷ frames) f x h =
    let e : f ≡ g = cc in ap (λ (y : Frame). record y { items = change y.items } ∷ frames) e
set_twice change (suc k) (g ∷ frames) f x h = ap (λ (rest : List Frame). g ∷ rest) (set_twice change k frames f x h)

pub set_back : (k : ℕ) (frames : List Frame) (f x : Frame) → slice_get frames k ≡ Some f → slice_set (slice_set frames k x) k f ≡ frames
set_back k [] f x h = cc
set_back zero (g ∷ frames) f x h = let e : f ≡ g = cc in ap (λ (y : Frame). y ∷ frames) e
set_back (suc k) (g ∷ frames) f x h = ap (λ (rest : List Frame). g ∷ rest) (set_back k frames f x h)

-- what holds after an answer that is no error
pub on_ok : {A E : Type 0} {P Q : Type 0} (r : Result A E) → (P → Q) → OnOk r P → OnOk r Q
on_ok (Ok x) f p = f p
on_ok (Err e) f p = p

pub on_err : {A E : Type 0} {P Q : Type 0} (r : Result A E) → (P → Q) → OnErr r P → OnErr r Q
on_err (Ok x) f p = p
on_err (Err e) f p = f p

-- what a caller gets is what the first of these frames gets
pub caller_is : (n : ℕ) (v : Value) (rest : List Frame) → items_at (settled n v) 0 rest ≡ caller_given n v rest
caller_is n v [] = refl
caller_is n v (f ∷ rest) = refl

pub none_below : (f : Frame) (rest : List Frame) → length (f ∷ rest) ≤ 1 → rest ≡ []
none_below f [] h = refl
none_below f (g ∷ rest) h = absurd (omega (arith, h))

pub some_is : {A : Type 0} (x y : A) → ◌≡◌ {A = Option A} (Some x) (Some y) → x ≡ y
some_is x y e = cc
