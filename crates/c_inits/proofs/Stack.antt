-- A stack of steps that ends in one more.
use Rattle.std.proofs.Common.{arith, ◌≡◌, ℕ, zero, suc, ◌<◌, ◌⊎◌, inl, inr, set, List, [], ◌∷◌, ◌++◌, length, take, refl, ap, sym, Option, Some, slice_get, Bool, true, false, cond, eqb}
use Rattle.c_types.specs.declared.term.PathStep.TheVariants.{Index, Member}
use Rattle.c_inits.specs.declared.cursor.Frame.{Frame}
use Rattle.c_inits.specs.Shapes.{Shape, Fields, Scalar, Elements, Structured, Overlaid, NoFields, Field, Path}
use Rattle.c_inits.specs.Parts.{shape_at, shape_in}
use Rattle.c_inits.specs.Cursor.{path_of}

injected : {A : Type 0} (x y : A) → ◌≡◌ {A = Option A} (Some x) (Some y) → x ≡ y
injected x y e = cc

pub path_last : (fs : List Frame) (i : ℕ) (f : Frame) → slice_get fs i ≡ Some f → length fs ≡ suc i → path_of fs ≡ path_of (take i fs) ++ f.step ∷ []
path_last [] i f e n = cc
path_last (g ∷ []) zero f e n = ap (λ (h : Frame). h.step ∷ []) (injected g f e)
path_last (g ∷ h ∷ rest) zero f e n = absurd (omega (arith, n))
path_last (g ∷ rest) (suc i) f e n = ap (λ p. g.step ∷ p) (path_last rest i f e (omega (arith, n)))

-- what stands at a longer path
mutual
  pub shape_along : (t : Shape) (p q : Path) (s : Shape) → shape_at t p ≡ Some s → shape_at t (p ++ q) ≡ shape_at s q
  shape_along t [] q s e = ap (λ u. shape_at u q) (injected t s e)
  shape_along (Scalar type) (step ∷ p) q s e = cc
  shape_along (Elements type of length) (Index k ∷ p) q s e = shape_along of p q s e
  shape_along (Elements type of length) (Member m ∷ p) q s e = cc
  shape_along (Structured type list) (Index k ∷ p) q s e = cc
  shape_along (Structured type list) (Member m ∷ p) q s e = along_list list m p q s e
  shape_along (Overlaid type list) (Index k ∷ p) q s e = cc
  shape_along (Overlaid type list) (Member m ∷ p) q s e = along_list list m p q s e

  along_list : (fs : Fields) (m : ℕ) (p q : Path) (s : Shape) → shape_in fs m p ≡ Some s → shape_in fs m (p ++ q) ≡ shape_at s q
  along_list NoFields m p q s e = cc
  along_list (Field name number shape rest) m p q s e =
      settled (eqb number m) _ _ _ _ _ e (λ d. shape_along shape p q s d) (λ d. along_list rest m p q s d)
    where
      settled : (b : Bool) (x y z : Option Shape) (u v : Option Shape) → cond b x y ≡ z → (x ≡ z → u ≡ shape_at s q) → (y ≡ z → v ≡ shape_at s q) → cond b u v ≡ shape_at s q
      settled true x y z u v e f g = f e
      settled false x y z u v e f g = g e

-- the last step replaced
pub path_set : (fs : List Frame) (i : ℕ) (f : Frame) → length fs ≡ suc i → path_of (set fs i f) ≡ path_of (take i fs) ++ f.step ∷ []
path_set [] i f n = absurd (omega (arith, n))
path_set (g ∷ []) zero f n = refl
path_set (g ∷ h ∷ rest) zero f n = absurd (omega (arith, n))
path_set (g ∷ rest) (suc i) f n = ap (λ p. g.step ∷ p) (path_set rest i f (omega (arith, n)))

-- a frame of the stack whose last step is replaced: an earlier one, or the last one
pub frame_set : (fs : List Frame) (i : ℕ) (f : Frame) → length fs ≡ suc i → (j : ℕ) (g : Frame) → slice_get (set fs i f) j ≡ Some g →
    ((j < i) × (slice_get fs j ≡ Some g)) ⊎ ((j ≡ i) × (g ≡ f))
frame_set [] i f n j g e = absurd (omega (arith, n))
frame_set (h ∷ []) zero f n zero g e = inr (refl, sym (injected f g e))
frame_set (h ∷ []) zero f n (suc j) g e = cc
frame_set (h ∷ k ∷ rest) zero f n j g e = absurd (omega (arith, n))
frame_set (h ∷ rest) (suc i) f n zero g e = inl (omega arith, e)
frame_set (h ∷ rest) (suc i) f n (suc j) g e = raised (frame_set rest i f (omega (arith, n)) j g e)
  where
    raised : ((j < i) × (slice_get rest j ≡ Some g)) ⊎ ((j ≡ i) × (g ≡ f)) → ((suc j < suc i) × (slice_get rest j ≡ Some g)) ⊎ ((suc j ≡ suc i) × (g ≡ f))
    raised (inl p) = inl (omega (arith, p.0), p.1)
    raised (inr p) = inr (ap suc p.0, p.1)

pub frame_take : (fs : List Frame) (n j : ℕ) (g : Frame) → slice_get (take n fs) j ≡ Some g → (j < n) × (slice_get fs j ≡ Some g)
frame_take [] zero j g e = cc
frame_take [] (suc n) j g e = cc
frame_take (h ∷ rest) zero j g e = cc
frame_take (h ∷ rest) (suc n) zero g e = (omega arith, e)
frame_take (h ∷ rest) (suc n) (suc j) g e = let p = frame_take rest n j g e in (omega (arith, p.0), p.1)

pub take_less : (fs : List Frame) (j n : ℕ) → j < n → take j (take n fs) ≡ take j fs
take_less [] zero n lt = refl
take_less [] (suc j) zero lt = refl
take_less [] (suc j) (suc n) lt = refl
take_less (f ∷ fs) zero n lt = refl
take_less (f ∷ fs) (suc j) zero lt = absurd (omega (arith, lt))
take_less (f ∷ fs) (suc j) (suc n) lt = ap (λ l. f ∷ l) (take_less fs j n (omega (arith, lt)))
