-- Views in a list, and one role of theirs.
use Rattle.std.proofs.Common.{◌≡◌, ◌≢◌, ℕ, zero, suc, Bool, true, false, true≢false, ◌||◌, if◌then◌else◌, ◌⊎◌, inl, inr, ⊎_elim}
use Rattle.std.proofs.Common.{List, [], ◌∷◌, ◌++◌, length, set, sym, refl, ap, ◌∙◌, subst}
use mathlib.Core.Option.{some, some-injective, some-ne-none}
use lib.ListN.{get_elem?}
use Rattle.crossbeam_queue.proofs.Lists.{at_set}
use Rattle.question_desk.specs.declared.view.View.{View}
use Rattle.question_desk.specs.Order.{Has}

-- a fact of each view, after a change of one of them
pub each_set : (F : ℕ → View → Type 0) (views : List View) (pass : ℕ) (w : View)
    → F pass w
    → ((j : ℕ) (u : View) → j ≢ pass → get_elem? views j ≡ some u → F j u)
    → (j : ℕ) (u : View) → get_elem? (set views pass w) j ≡ some u → F j u
each_set F views pass w mine others j u e =
    ⊎_elim (λ (x : (j ≡ pass) × (w ≡ u)). subst (λ (y : ℕ × View). F y.0 y.1) (λ i. (sym x.0 i, x.1 i)) mine)
    (λ (x : (j ≢ pass) × (get_elem? views j ≡ some u)). others j u x.0 x.1)
    (at_set views pass j w u e)

-- where a view stands once another one stands behind all
pub at_end : (views : List View) (w u : View) (j : ℕ) → get_elem? (views ++ w ∷ []) j ≡ some u
    → (get_elem? views j ≡ some u) ⊎ ((j ≡ length views) × (w ≡ u))
at_end [] w u zero e = inr (refl, some-injective w u e)
at_end [] w u (suc j) e = absurd (some-ne-none u (sym e))
at_end (x ∷ xs) w u zero e = inl e
at_end (x ∷ xs) w u (suc j) e =
    ⊎_elim (λ (a : get_elem? xs j ≡ some u). inl a)
    (λ (b : (j ≡ length xs) × (w ≡ u)). inr (ap suc b.0, b.1))
    (at_end xs w u j e)

-- nobody has a role
pub none : {A : Type 0} → (list : List A) (pass holder : ℕ) (whole : List A) → Has false list pass holder whole
none list pass holder whole e = absurd (true≢false (sym e))

-- no other pass has a role that this one has
pub alone : {A : Type 0} → (a b : Bool) (xs ys : List A) (pass other holder : ℕ) (whole : List A)
    → Has a xs pass holder whole → a ≡ true → other ≢ pass → Has b ys other holder whole → b ≡ true → ⊥
alone a b xs ys pass other holder whole mine has apart theirs too = apart ((theirs too).0 ∙ sym (mine has).0)

-- the first of two passes that are joined has a role where either had it
pub role_joined : {A : Type 0} → (a b : Bool) (xs ys : List A) (pass other holder : ℕ) (whole : List A)
    → Has a xs pass holder whole
    → Has b ys other holder whole
    → Has (a || b) (if b then ys else xs) pass (if b then pass else holder) whole
role_joined a true xs ys pass other holder whole mine theirs = λ _. (refl, (theirs refl).1)
role_joined true false xs ys pass other holder whole mine theirs = λ _. mine refl
role_joined false false xs ys pass other holder whole mine theirs = λ e. absurd (true≢false (sym e))

-- a third pass has a role as before
pub role_stays : {A : Type 0} → (b c : Bool) (ys zs : List A) (pass other third holder : ℕ) (whole : List A)
    → third ≢ other
    → Has b ys other holder whole
    → Has c zs third holder whole
    → Has c zs third (if b then pass else holder) whole
role_stays true c ys zs pass other third holder whole apart theirs its = λ e. absurd (apart ((its e).0 ∙ sym (theirs refl).0))
role_stays false c ys zs pass other third holder whole apart theirs its = its
