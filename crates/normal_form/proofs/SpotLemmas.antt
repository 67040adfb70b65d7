-- The spots of initialisers, one by one.
use Rattle.std.proofs.Common.{arith, ◌≡◌, ℕ, zero, suc, ◌<◌, ◌^◌, List, [], ◌∷◌, Bool, true, false, cond, length, get_or, Option, Some, None, unwrap_or, refl, ap, sym, subst}
use Rattle.std.proofs.lemmas.Bool.{lt-ltb}
use Rattle.c_types.specs.declared.term.PathStep.{PathStep}
use Rattle.c_types.specs.Trees.{Ctype}
use Rattle.c_types.specs.Parts.{within_32}
use Rattle.core_tree.specs.Typed.{CoreTrees}
use Rattle.obj_space.specs.View.{SpaceView}
use Rattle.normal_form.specs.Assignments.{put_at}
use Rattle.normal_form.specs.Spots.{IsSpotted, AreSpotted}

spot_at : (u : CoreTrees) (s : SpaceView) (e : ℕ) (ps : List (List PathStep)) (vs : List ℕ) (i : ℕ) (dp : List PathStep) (dv : ℕ) → i < length ps → i < length vs → AreSpotted u s e ps vs
    → IsSpotted u s e (get_or ps i dp) (get_or vs i dv)
spot_at u s e [] vs i dp dv h k all = absurd (omega arith)
spot_at u s e (p ∷ ps) [] i dp dv h k all = absurd (omega arith)
spot_at u s e (p ∷ ps) (v ∷ vs) zero dp dv h k all = all.0
spot_at u s e (p ∷ ps) (v ∷ vs) (suc i) dp dv h k all = spot_at u s e ps vs i dp dv (omega arith) (omega arith) all.1

pub spot_is : (u : CoreTrees) (s : SpaceView) (e : ℕ) (ps : List (List PathStep)) (vs : List ℕ) (i : ℕ) (path dp : List PathStep) (dv : ℕ) → i < length ps → i < length vs → path ≡ get_or ps i dp → AreSpotted u s e ps vs
    → IsSpotted u s e path (get_or vs i dv)
spot_is u s e ps vs i path dp dv h k is all = subst (λ (q : List PathStep). IsSpotted u s e q (get_or vs i dv)) (sym is) (spot_at u s e ps vs i dp dv h k all)

-- a value without nodes demands nothing
pub put_nothing : (nodes : List Ctype) (b : Bool) (location from : ℕ) → length nodes ≡ 0 → put_at nodes b location from ≡ []
put_nothing [] true location from h = refl
put_nothing [] false location from h = refl
put_nothing (t ∷ nodes) b location from h = absurd (omega arith)

-- a number of 32 bits is kept
pub small_kept : (o : Option ℕ) → unwrap_or o 0 < 2 ^ 32 → unwrap_or (within_32 o) 0 ≡ unwrap_or o 0
small_kept None small = refl
small_kept (Some n) small = ap (λ (b : Bool). unwrap_or (cond b (Some n) None) 0) (lt-ltb n (2 ^ 32) small)
