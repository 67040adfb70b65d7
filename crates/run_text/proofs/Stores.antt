-- Lines for the items of a list, one item more.
use Rattle.std.proofs.Common.{◌≡◌, ◌∙◌, ℕ, ◌+◌, ◌<◌, List, [], ◌∷◌, ◌++◌, flat_map, length, take, get_or, sym, ap, subst, append_assoc, append-nil}
use Rattle.std.proofs.lemmas.List.{take_more}
use Rattle.std.proofs.lemmas.Grind.{flat_map-append}

pub pieces_more : {X : Type 0} (f : X → List ℕ) (slice xs : List X) (i : ℕ) (x : X) (before so_far after : List ℕ) → slice ≡ xs → i < length slice → x ≡ get_or slice i x
    → so_far ≡ before ++ flat_map f (take i xs) → after ≡ so_far ++ f x → after ≡ before ++ flat_map f (take (i + 1) xs)
pieces_more f slice xs i x before so_far after same lt is e more =
    let within : i < length xs = subst (λ l. i < length l) same lt in
    let here : x ≡ get_or xs i x = is ∙ ap (λ l. get_or l i x) same in
    let further : take (i + 1) xs ≡ take i xs ++ x ∷ [] = take_more xs i x within ∙ ap (λ y. take i xs ++ y ∷ []) (sym here) in
    more ∙ ap (λ text. text ++ f x) e
    ∙ append_assoc before (flat_map f (take i xs)) (f x)
    ∙ ap (λ (rest : List ℕ). before ++ rest)
    (ap (λ (end : List ℕ). flat_map f (take i xs) ++ end) (sym (append-nil (f x))) ∙ sym (flat_map-append f (take i xs) (x ∷ [])) ∙ ap (flat_map f) (sym further))
