-- One parameter more in a function's list.
use Rattle.std.proofs.Common.{◌≡◌, ◌∙◌, ◌<◌, ◌⊎◌, inl, inr, ◌∷◌, [], ◌++◌, ℕ, List, Option, true, false, length, get_or, set, ap, sym, append-nil}
use Rattle.std.specs.Prelude.{Vec, ◌≢◌, cond}
use Rattle.std.specs.declared.alloc.Global.{Global}
use Rattle.std.specs.Option.{option_map_or}
use Rattle.std.proofs.Math.Dec.{eqb}
use Rattle.std.proofs.lemmas.Bool.Decides.{eqb_tells}
use Rattle.std.proofs.lemmas.Option.{slice_get-get_or}
use Rattle.c_types.specs.declared.key.ObjectKey.{ObjectKey}
use Rattle.row_numbers.proofs.SliceLemmas.{get_set_same, get_set_other}
use Rattle.constraints.specs.Owned.{listed}

pub listed_set : (lists : List (Vec ObjectKey Global)) (f other : ℕ) (old new d : Vec ObjectKey Global) (key : ObjectKey) → f < length lists → old ≡ get_or lists f d
    → new.items ≡ old.items ++ key ∷ [] → listed (set lists f new) other ≡ listed lists other ++ cond (eqb f other) (key ∷ []) []
listed_set lists f other old new d key lt is e = by (eqb_tells f other)
  where
    by : ((eqb f other ≡ true) × (f ≡ other)) ⊎ ((eqb f other ≡ false) × (f ≢ other)) → listed (set lists f new) other ≡ listed lists other ++ cond (eqb f other) (key ∷ []) []
    by (inl h) =
        let here : listed (set lists f new) f ≡ new.items = ap (λ (o : Option (Vec ObjectKey Global)). option_map_or (λ list. list.items) o []) (get_set_same lists f new lt) in
        let was : listed lists f ≡ old.items =
        ap (λ (o : Option (Vec ObjectKey Global)). option_map_or (λ list. list.items) o []) (slice_get-get_or lists f d lt) ∙ ap (λ (v : Vec ObjectKey Global). v.items) (sym is) in
        rw (h.0, ← h.1) (here ∙ (e ∙ ap (λ (xs : List ObjectKey). xs ++ key ∷ []) (sym was)))
    by (inr h) =
        let same : listed (set lists f new) other ≡ listed lists other = ap (λ (o : Option (Vec ObjectKey Global)). option_map_or (λ list. list.items) o []) (get_set_other lists f other new h.1) in
        rw h.0 (same ∙ sym (append-nil (listed lists other)))
