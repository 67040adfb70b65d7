-- Lists of values, one value more.
use Rattle.std.proofs.Common.{◌≡◌, ℕ, ◌+◌, ◌<◌, Bool, true, false, cond, List, [], ◌∷◌, ◌++◌, map, length, take, get_or, refl, sym, ◌∙◌, ap, arith, append-nil}
use Rattle.std.specs.List.{filter, range_with_len}
use Rattle.std.proofs.lemmas.List.{map_more, map-append}
use Rattle.call_graph.proofs.row_members.Ranges.{filter_range_more}
use Rattle.serde_json.specs.Data.{Data}
use Rattle.serde_json.specs.View.{view}
use Rattle.serde_json.specs.declared.value.Value.{Value}

-- one value behind those that stand for a list
pub pushed : (old new : List Value) (v : Value) (d : Data) (ds : List Data) → new ≡ old ++ v ∷ [] → view v ≡ d → map view old ≡ ds → map view new ≡ ds ++ d ∷ []
pushed old new v d ds more is before =
    ap (map view) more ∙ map-append view old (v ∷ []) ∙ ap (λ (front : List Data). front ++ view v ∷ []) before ∙ ap (λ (last : Data). ds ++ last ∷ []) is

-- values for the items of a list, one item more
pub value_more : {X : Type 0} (f : X → Data) (xs : List X) (i : ℕ) (x : X) (old new : List Value) (v : Value) → i < length xs
    → map view old ≡ map f (take i xs) → new ≡ old ++ v ∷ [] → view v ≡ f (get_or xs i x) → map view new ≡ map f (take (i + 1) xs)
value_more f xs i x old new v lt before more is = pushed old new v _ _ more is before ∙ sym (map_more f xs i x lt)

-- values for the numbers that pass a test, one number more
tested_more : (f : ℕ → Data) (p : ℕ → Bool) (n : ℕ) (ds : List Data) → ds ≡ map f (filter p (range_with_len 0 n)) → ds ++ map f (cond (p n) (n ∷ []) []) ≡ map f (filter p (range_with_len 0 (n + 1)))
tested_more f p n ds e =
    ap (λ (front : List Data). front ++ map f (cond (p n) (n ∷ []) [])) e
    ∙ sym (map-append f (filter p (range_with_len 0 n)) (cond (p n) (n ∷ []) []))
    ∙ ap (map f) (sym (filter_range_more p 0 n n (omega arith)))

pub tested_yes : (f : ℕ → Data) (p : ℕ → Bool) (n : ℕ) (old new : List Value) (v : Value) → p n ≡ true → map view old ≡ map f (filter p (range_with_len 0 n))
    → new ≡ old ++ v ∷ [] → view v ≡ f n → map view new ≡ map f (filter p (range_with_len 0 (n + 1)))
tested_yes f p n old new v holds before more is =
    pushed old new v (f n) (map view old) more is refl
    ∙ ap (λ (b : Bool). map view old ++ map f (cond b (n ∷ []) [])) (sym holds) ∙ tested_more f p n (map view old) before

pub tested_no : (f : ℕ → Data) (p : ℕ → Bool) (n : ℕ) (old : List Value) → p n ≡ false → map view old ≡ map f (filter p (range_with_len 0 n)) → map view old ≡ map f (filter p (range_with_len 0 (n + 1)))
tested_no f p n old fails before =
    sym (append-nil (map view old)) ∙ ap (λ (b : Bool). map view old ++ map f (cond b (n ∷ []) [])) (sym fails) ∙ tested_more f p n (map view old) before
