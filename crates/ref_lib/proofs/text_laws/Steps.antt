-- Answers taken apart.
use Rattle.std.proofs.Common.{◌≡◌, ℤ, List, ◌∷◌, Result, Ok, Err, refl}
use Rattle.ref_cells.specs.declared.cells.Reason.{Reason}
use Rattle.ref_texts.specs.Reading.{push_char}

pub not_ok : {A : Type 0} (reason : Reason) (x : A) → ◌≡◌ {A = Result A Reason} (Err reason) (Ok x) → ⊥
not_ok reason x e = cc

pub not_err : {A : Type 0} (reason : Reason) (x : A) → ◌≡◌ {A = Result A Reason} (Ok x) (Err reason) → ⊥
not_err reason x e = cc

pub ok_same : {A : Type 0} (x y : A) → ◌≡◌ {A = Result A Reason} (Ok x) (Ok y) → x ≡ y
ok_same x y e = cc

pub err_same : {A : Type 0} (a b : Reason) → ◌≡◌ {A = Result A Reason} (Err a) (Err b) → a ≡ b
err_same a b e = cc

-- a text that has a character in front
pub pushed_ok : (c : ℤ) (r : Result (List ℤ) Reason) (text : List ℤ) → push_char c r ≡ Ok text → (rest : List ℤ) × (r ≡ Ok rest) × (c ∷ rest ≡ text)
pushed_ok c (Err reason) text e = absurd (not_ok reason text e)
pushed_ok c (Ok rest) text e = (rest, refl, ok_same (c ∷ rest) text e)

pub pushed_err : (c : ℤ) (r : Result (List ℤ) Reason) (reason : Reason) → push_char c r ≡ Err reason → r ≡ Err reason
pushed_err c (Err other) reason e = e
pushed_err c (Ok rest) reason e = absurd (not_err reason (c ∷ rest) e)
