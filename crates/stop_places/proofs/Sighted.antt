-- What was found of the call at a node.
use Rattle.std.proofs.Common.{◌≡◌, ◌↔◌, ℕ, zero, suc, ◌<◌, ◌≤◌, ◌⊎◌, Bool, false, IsTrue, List, [], ◌∷◌, Some, None, length, slice_get, refl, sym, ◌∙◌, ap, subst, inl, inr, arith}
use Rattle.std.proofs.lemmas.Option.{same_Some, slice_get_past}
use Rattle.std.proofs.lemmas.Bool.{false≢true}
use Rattle.sol_model.specs.declared.system.System.{System}
use Rattle.sol_model.specs.declared.system.CallSite.{CallSite}
use Rattle.sol_model.specs.Families.{Family}
use Rattle.call_sites.specs.Calls.{calls_upto}
use Rattle.stop_places.specs.declared.targets.Judged.{Judged}
use Rattle.stop_places.specs.Fits.{Solution}
use Rattle.stop_places.specs.Targets.{CallAt, call_of, HasStranger, ReachesSomeLibrary, ReachesWalker, ReachesEnder}
use Rattle.stop_places.specs.Found.{IsJudged, nothing}
use Rattle.stop_places.specs.Sight.{IsOfCall}

has_item : {X : Type 0} (xs : List X) (i : ℕ) → i < length xs → (x : X) × (slice_get xs i ≡ Some x)
has_item [] i lt = absurd (omega arith)
has_item (x ∷ xs) zero lt = (x, refl)
has_item (x ∷ xs) (suc i) lt = has_item xs i (omega arith)

abbrev Fact : Type 1
Fact = System → Family → CallSite → Type 0

to_call : (x : Solution) (n : ℕ) (call : CallSite) (Is : Fact) → call_of x n ≡ Some call → Is x.system x.family call → CallAt x n Is
to_call x n call Is there h = (call, there, h)

from_call : (x : Solution) (n : ℕ) (call : CallSite) (Is : Fact) → call_of x n ≡ Some call → CallAt x n Is → Is x.system x.family call
from_call x n call Is there a = subst (Is x.system x.family) (same_Some a.0 call (sym a.1 ∙ there)) a.2

no_call : (x : Solution) (n : ℕ) (Is : Fact) → call_of x n ≡ None → CallAt x n Is → ⊥
no_call x n Is none a = let clash : None ≡ Some a.0 = sym none ∙ a.1 in cc

pub called : (x : Solution) (n number : ℕ) (j : Judged) → number ≡ length (calls_upto x.trees.nodes n) → number < length x.system.calls
    → ((call : CallSite) → slice_get x.system.calls number ≡ Some call → IsJudged x.system x.family call j) → IsOfCall x n j
called x n number j is lt judged =
    let item = has_item x.system.calls number lt in
    let call : CallSite = item.0 in
    let there : call_of x n ≡ Some call = subst (λ (k : ℕ). slice_get x.system.calls k ≡ Some call) is item.1 in
    let of = judged call item.1 in
    record {
      library = (λ h. to_call x n call ReachesSomeLibrary there (of.library.0 h), λ a. of.library.1 (from_call x n call ReachesSomeLibrary there a));
      mismatch = (λ h. to_call x n call ReachesWalker there (of.mismatch.0 h), λ a. of.mismatch.1 (from_call x n call ReachesWalker there a));
      bad = (
        (λ h. elim (of.bad.0 h) [ inl s ↦ inl (to_call x n call HasStranger there s) | inr e ↦ inr (to_call x n call ReachesEnder there e) ]),
        (λ a. of.bad.1 (elim a [ inl s ↦ inl (from_call x n call HasStranger there s) | inr e ↦ inr (from_call x n call ReachesEnder there e) ])),
      );
    }

pub uncalled : (x : Solution) (n number : ℕ) → number ≡ length (calls_upto x.trees.nodes n) → length x.system.calls ≤ number → IsOfCall x n nothing
uncalled x n number is past =
    let none : call_of x n ≡ None = subst (λ (k : ℕ). slice_get x.system.calls k ≡ None) is (slice_get_past x.system.calls number past) in
    record {
      library = (λ h. absurd (false≢true h), λ a. absurd (no_call x n ReachesSomeLibrary none a));
      mismatch = (λ h. absurd (false≢true h), λ a. absurd (no_call x n ReachesWalker none a));
      bad = (λ h. absurd (false≢true h), λ a. absurd (elim a [ inl s ↦ no_call x n HasStranger none s | inr e ↦ no_call x n ReachesEnder none e ]));
    }
