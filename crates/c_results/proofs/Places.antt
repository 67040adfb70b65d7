-- Places among all that has been made, with one thing more.
use Rattle.std.proofs.Common.{arith, ◌≡◌, ℕ, zero, suc, ◌+◌, ◌≤◌, List, [], ◌∷◌, ◌++◌, All, length, refl, ap, ◌∙◌}
use Rattle.std.proofs.lemmas.List.{get_or_append_left, map-append}
use Rattle.std.proofs.lemmas.List.Elements.{All-head, All-tail}
use Rattle.std.proofs.Math.Seq.{get_or-append_seam}
use Rattle.c_results.specs.declared.made.Made.{Made}
use Rattle.c_results.specs.declared.made.Made.TheVariants.{Nothing}
use Rattle.c_results.specs.Placed.{made_at_place, listed}

pub at_more : (made : List Made) (x : Made) (place : ℕ) → place ≤ length made → made_at_place (made ++ x ∷ []) place ≡ made_at_place made place
at_more made x zero h = refl
at_more made x (suc k) h = get_or_append_left made (x ∷ []) Nothing k (omega arith)

pub at_end : (made : List Made) (x : Made) (n : ℕ) → n ≡ length made → made_at_place (made ++ x ∷ []) (n + 1) ≡ x
at_end made x n e =
    let f : n + 1 ≡ suc (length made) = omega (arith, e) in
    ap (made_at_place (made ++ x ∷ [])) f ∙ get_or-append_seam made x [] Nothing

-- what stands at the places of a list stays
pub listed_kept : (old new : List Made) → ((place : ℕ) → place ≤ length old → made_at_place new place ≡ made_at_place old place) → (places : List ℕ) → All (λ p. p ≤ length old) places → listed new places ≡ listed old places
listed_kept old new kept [] all = refl
listed_kept old new kept (p ∷ rest) all =
    let first : made_at_place new p ≡ made_at_place old p = kept p (All-head (λ (p : ℕ). p ≤ length old) p rest all) in
    let others : listed new rest ≡ listed old rest = listed_kept old new kept rest (All-tail (λ (p : ℕ). p ≤ length old) p rest all) in
    cc

-- and one place more
pub listed_more : (old new : List Made) → ((place : ℕ) → place ≤ length old → made_at_place new place ≡ made_at_place old place) → (places : List ℕ) → All (λ p. p ≤ length old) places → (place : ℕ) (x : Made) → made_at_place new place ≡ x → listed new (places ++ place ∷ []) ≡ listed old places ++ x ∷ []
listed_more old new kept places all place x there =
    map-append (made_at_place new) places (place ∷ [])
    ∙ (ap (λ (l : List Made). l ++ made_at_place new place ∷ []) (listed_kept old new kept places all) ∙ ap (λ (m : Made). listed old places ++ m ∷ []) there)
