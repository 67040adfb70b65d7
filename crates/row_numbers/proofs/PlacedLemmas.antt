-- One object more among those that begin at each location.
use Rattle.std.proofs.Common.{arith, ◌≡◌, ℕ, zero, suc, ◌+◌, ◌<◌, ◌≤◌, ◌⊎◌, inl, inr, List, [], ◌∷◌, ◌++◌, true, false, cond, eqb, eq-eqb, Option, Some, None, get_or, set, map, refl, ap, sym, ◌∙◌}
use Rattle.std.specs.Option.{option_or, is_some}
use Rattle.std.specs.List.{range_with_len}
use Rattle.std.proofs.lemmas.Bool.{ne_eqb}
use Rattle.std.proofs.lemmas.Bool.Decides.{eqb_tells}
use Rattle.std.proofs.lemmas.List.Folds.{find-append}
use Rattle.std.proofs.lemmas.List.FromFn.{get_or-map-range_with_len}
use Rattle.c_types.specs.declared.key.ObjectKey.{ObjectKey}
use Rattle.obj_space.specs.View.{SpaceView}
use Rattle.row_numbers.specs.Functions.{begins_at, object_at, objects_at}

-- two functions that agree from some number on
map_same : {X : Type 0} (f g : ℕ → X) (a n : ℕ) → ((k : ℕ) → a ≤ k → f k ≡ g k) → map f (range_with_len a n) ≡ map g (range_with_len a n)
map_same f g a zero h = refl
map_same f g a (suc n) h = rw (h a (omega arith), map_same f g (a + 1) n (λ k le. h k (omega arith))) refl

-- one value changed
map_set : {X : Type 0} (f g : ℕ → X) (a n i : ℕ) (v : X) → i < n → g (a + i) ≡ v → ((k : ℕ) → (k ≡ a + i → ⊥) → f k ≡ g k) → set (map f (range_with_len a n)) i v ≡ map g (range_with_len a n)
map_set f g a zero i v lt e h = absurd (omega arith)
map_set f g a (suc n) zero v lt e h =
    let here : g a ≡ v = ap g (omega arith) ∙ e in
    rw (here, map_same f g (a + 1) n (λ k le. h k (λ q. omega arith))) refl
map_set f g a (suc n) (suc i) v lt e h =
    let first : f a ≡ g a = h a (λ q. omega arith) in
    let rest : set (map f (range_with_len (a + 1) n)) i v ≡ map g (range_with_len (a + 1) n) =
    map_set f g (a + 1) n i v (omega arith) (ap g (omega arith) ∙ e) (λ k ne. h k (λ q. ne (omega arith))) in
    rw (first, rest) refl

or_none : (o : Option ObjectKey) → option_or o None ≡ o
or_none None = refl
or_none (Some x) = refl

or_some : (o : Option ObjectKey) (p : Option ObjectKey) → is_some o ≡ true → option_or o p ≡ o
or_some None p h = cc
or_some (Some x) p h = refl

none_of : (o : Option ObjectKey) → is_some o ≡ false → o ≡ None
none_of None h = refl
none_of (Some x) h = cc

one_more : (s : SpaceView) (keys : List ObjectKey) (key : ObjectKey) (l : ℕ) → object_at s (keys ++ key ∷ []) l ≡ option_or (object_at s keys l) (cond (begins_at s l key) (Some key) None)
one_more s keys key l = find-append (begins_at s l) keys (key ∷ [])

starts : (s : SpaceView) (key : ObjectKey) (l k : ℕ) → s.first key ≡ Some l → begins_at s k key ≡ eqb l k
starts s key l k e = rw e refl

elsewhere : (s : SpaceView) (keys : List ObjectKey) (key : ObjectKey) (k : ℕ) → begins_at s k key ≡ false → object_at s keys k ≡ object_at s (keys ++ key ∷ []) k
elsewhere s keys key k absent = sym (one_more s keys key k ∙ (rw absent (or_none (object_at s keys k))))

module _ (s : SpaceView) (keys : List ObjectKey) (key : ObjectKey) (at : List (Option ObjectKey)) (count : ℕ) (was : at ≡ objects_at s keys count) where
  pub put_nowhere : s.first key ≡ None → at ≡ objects_at s (keys ++ key ∷ []) count
  put_nowhere e = was ∙ map_same (object_at s keys) (object_at s (keys ++ key ∷ [])) 0 count (λ k le. elsewhere s keys key k (rw e refl))

  there : (l : ℕ) (found : Option ObjectKey) → l < count → found ≡ get_or at l found → object_at s keys l ≡ found
  there l found lt read = sym (get_or-map-range_with_len (object_at s keys) 0 count l l found lt (omega arith)) ∙ (ap (λ (xs : List (Option ObjectKey)). get_or xs l found) (sym was) ∙ sym read)

  pub put_free : (l : ℕ) (found : Option ObjectKey) → s.first key ≡ Some l → l < count → found ≡ get_or at l found → is_some found ≡ false → set at l (Some key) ≡ objects_at s (keys ++ key ∷ []) count
  put_free l found e lt read free =
      let none : object_at s keys l ≡ None = there l found lt read ∙ none_of found free in
      let mine : begins_at s l key ≡ true = starts s key l l e ∙ eq-eqb l l refl in
      let new : object_at s (keys ++ key ∷ []) l ≡ Some key = one_more s keys key l ∙ rw (none, mine) refl in
      let new_at : object_at s (keys ++ key ∷ []) (0 + l) ≡ Some key = ap (object_at s (keys ++ key ∷ [])) (omega arith) ∙ new in
      rw was (map_set (object_at s keys) (object_at s (keys ++ key ∷ [])) 0 count l (Some key) lt new_at
      (λ k ne. elsewhere s keys key k (starts s key l k e ∙ ne_eqb l k (λ q. ne (omega arith)))))

  same_at : (k l : ℕ) (found : Option ObjectKey) → s.first key ≡ Some l → l < count → found ≡ get_or at l found → is_some found ≡ true → ((eqb l k ≡ true) × (l ≡ k)) ⊎ ((eqb l k ≡ false) × (l ≡ k → ⊥)) → object_at s keys k ≡ object_at s (keys ++ key ∷ []) k
  same_at k l found e lt read taken (inr (differs, ne)) = elsewhere s keys key k (starts s key l k e ∙ differs)
  same_at k l found e lt read taken (inl (agrees, here)) =
      let old : object_at s keys k ≡ found = ap (object_at s keys) (sym here) ∙ there l found lt read in
      sym (one_more s keys key k ∙ or_some (object_at s keys k) _ (ap is_some old ∙ taken))

  pub put_taken : (l : ℕ) (found : Option ObjectKey) → s.first key ≡ Some l → l < count → found ≡ get_or at l found → is_some found ≡ true → at ≡ objects_at s (keys ++ key ∷ []) count
  put_taken l found e lt read taken =
      was ∙ map_same (object_at s keys) (object_at s (keys ++ key ∷ [])) 0 count (λ k le. same_at k l found e lt read taken (eqb_tells l k))
