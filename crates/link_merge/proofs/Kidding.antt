-- The kids of one type more.
use Rattle.std.proofs.Common.{◌≡◌, ℕ, ◌+◌, List, [], ◌∷◌, ◌++◌, Some, map, take, append_assoc, sym, ap, ◌∙◌}
use Rattle.std.specs.Global.{Vec}
use Rattle.std.specs.List.{slice_get}
use Rattle.std.proofs.lemmas.List.{map-append, take_more}
use Rattle.std.proofs.lemmas.Option.{slice_get_within, get_or_from_slice_get}
use Rattle.c_types.specs.declared.term.Term.{Term}
use Rattle.link_merge.specs.Parted.{lists_of}

pub kids_more : (f : Term → List ℕ) (before : List (List ℕ)) (old now : List (Vec ℕ)) (list : Vec ℕ) (terms : List Term) (i : ℕ) (t : Term) → now ≡ old ++ list ∷ [] → lists_of old ≡ before ++ map f (take i terms) → slice_get terms i ≡ Some t → list.items ≡ f t
    → lists_of now ≡ before ++ map f (take (i + 1) terms)
kids_more f before old now list terms i t pushed kept at is =
    let taken : take (i + 1) terms ≡ take i terms ++ t ∷ [] = take_more terms i t (slice_get_within terms i t at) ∙ ap (λ (y : Term). take i terms ++ y ∷ []) (get_or_from_slice_get terms i t t at) in
    ap lists_of pushed
    ∙ (map-append (λ (v : Vec ℕ). v.items) old (list ∷ []) ∙ (ap (λ xs. lists_of old ++ xs ∷ []) is
    ∙ (ap (λ ls. ls ++ f t ∷ []) kept ∙ (append_assoc before (map f (take i terms)) (f t ∷ []) ∙ ap (λ ls. before ++ ls) (sym (ap (map f) taken ∙ map-append f (take i terms) (t ∷ [])))))))
