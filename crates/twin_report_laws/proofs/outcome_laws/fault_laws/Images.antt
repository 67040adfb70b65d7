-- What other numbers for tags leave as it is.
use Rattle.std.proofs.Common.{◌≡◌, ◌∙◌, ◌<◌, ◌⊎◌, ℕ, Bool, true, false, List, [], ◌∷◌, Some, None, refl, ap, inl, inr}
use Rattle.c_types.specs.declared.term.Form.{Form}
use Rattle.c_types.specs.declared.term.Form.TheVariants.{Fixed, Variadic, Unspecified}
use Rattle.c_types.specs.Trees.{Ctype, Ctypes, NoTypes, MoreTypes, VoidType, BoolType, IntegerType, FloatingType, VaListType, PointerTo, ArrayOf, FunctionFrom, StructureOf, UnionOf}
use Rattle.type_rules.specs.Kinds.{IsInteger, IsScalar, IsFunction, AreScalars, IsEntryType}
use Rattle.type_rules.specs.Sizes.{with_one}
use Rattle.type_rules.specs.Conversions.{Agree}
use Rattle.link_model.specs.Renamed.{renamed, all_renamed}
use Rattle.link_model.specs.Partition.{HasTags, AllHaveTags}
use Rattle.link_names.specs.Externals.{is_function_type}
use Rattle.link_names.specs.Together.{composite, is_listed, kept_type, linked_type}
use Rattle.link_names.specs.Shape.{PointsToFunction, PointsToOther, IsLetter, FitsList, FitsResult, HasShape}
use Rattle.link_names.specs.Faults.{IsWordList, IsMainList, IsMainType}

-- renaming twice is renaming once, where the numbers agree on the type's tags
mutual
  pub renamed_twice : (g f h : ℕ → ℕ) (n : ℕ) → ((t : ℕ) → t < n → g (f t) ≡ h t) → (t : Ctype) → HasTags n t → renamed g (renamed f t) ≡ renamed h t
  renamed_twice g f h n same VoidType has = refl
  renamed_twice g f h n same BoolType has = refl
  renamed_twice g f h n same (IntegerType size rank signed) has = refl
  renamed_twice g f h n same FloatingType has = refl
  renamed_twice g f h n same VaListType has = refl
  renamed_twice g f h n same (PointerTo to) has = ap PointerTo (renamed_twice g f h n same to has)
  renamed_twice g f h n same (ArrayOf of length) has = ap (λ (t : Ctype). ArrayOf t length) (renamed_twice g f h n same of has)
  renamed_twice g f h n same (FunctionFrom result parameters form) has =
      ap (λ (t : Ctype). FunctionFrom t (all_renamed g (all_renamed f parameters)) form) (renamed_twice g f h n same result has.0)
      ∙ ap (λ (ts : Ctypes). FunctionFrom (renamed h result) ts form) (all_renamed_twice g f h n same parameters has.1)
  renamed_twice g f h n same (StructureOf tag) has = ap StructureOf (same tag has)
  renamed_twice g f h n same (UnionOf tag) has = ap UnionOf (same tag has)

  all_renamed_twice : (g f h : ℕ → ℕ) (n : ℕ) → ((t : ℕ) → t < n → g (f t) ≡ h t) → (ts : Ctypes) → AllHaveTags n ts → all_renamed g (all_renamed f ts) ≡ all_renamed h ts
  all_renamed_twice g f h n same NoTypes has = refl
  all_renamed_twice g f h n same (MoreTypes first rest) has =
      ap (λ (t : Ctype). MoreTypes t (all_renamed g (all_renamed f rest))) (renamed_twice g f h n same first has.0)
      ∙ ap (λ (ts : Ctypes). MoreTypes (renamed h first) ts) (all_renamed_twice g f h n same rest has.1)

module _ (g : ℕ → ℕ) where
  abbrev R : Ctype → Ctype
  R t = renamed g t

  pub function_kept : (t : Ctype) → is_function_type (renamed g t) ≡ is_function_type t
  function_kept VoidType = refl
  function_kept BoolType = refl
  function_kept (IntegerType size rank signed) = refl
  function_kept FloatingType = refl
  function_kept VaListType = refl
  function_kept (PointerTo to) = refl
  function_kept (ArrayOf of length) = refl
  function_kept (FunctionFrom result parameters form) = refl
  function_kept (StructureOf tag) = refl
  function_kept (UnionOf tag) = refl

  pub listed_kept : (t : Ctype) → is_listed (renamed g t) ≡ is_listed t
  listed_kept VoidType = refl
  listed_kept BoolType = refl
  listed_kept (IntegerType size rank signed) = refl
  listed_kept FloatingType = refl
  listed_kept VaListType = refl
  listed_kept (PointerTo to) = refl
  listed_kept (ArrayOf of length) = refl
  listed_kept (FunctionFrom result parameters Fixed) = refl
  listed_kept (FunctionFrom result parameters Variadic) = refl
  listed_kept (FunctionFrom result parameters Unspecified) = refl
  listed_kept (StructureOf tag) = refl
  listed_kept (UnionOf tag) = refl

  pub composite_kept : (s t : Ctype) → composite (renamed g s) (renamed g t) ≡ renamed g (composite s t)
  composite_kept VoidType t = refl
  composite_kept BoolType t = refl
  composite_kept (IntegerType size rank signed) t = refl
  composite_kept FloatingType t = refl
  composite_kept VaListType t = refl
  composite_kept (PointerTo to) t = refl
  composite_kept (ArrayOf of None) t = refl
  composite_kept (ArrayOf of (Some n)) t = refl
  composite_kept (FunctionFrom result parameters Fixed) t = refl
  composite_kept (FunctionFrom result parameters Variadic) t = refl
  composite_kept (FunctionFrom result parameters Unspecified) t = refl
  composite_kept (StructureOf tag) t = refl
  composite_kept (UnionOf tag) t = refl

  pub one_kept : (t : Ctype) → with_one (renamed g t) ≡ renamed g (with_one t)
  one_kept VoidType = refl
  one_kept BoolType = refl
  one_kept (IntegerType size rank signed) = refl
  one_kept FloatingType = refl
  one_kept VaListType = refl
  one_kept (PointerTo to) = refl
  one_kept (ArrayOf of None) = refl
  one_kept (ArrayOf of (Some n)) = refl
  one_kept (FunctionFrom result parameters form) = refl
  one_kept (StructureOf tag) = refl
  one_kept (UnionOf tag) = refl

  kept_kept : (b : Bool) (own t : Ctype) → kept_type b (renamed g own) (renamed g t) ≡ renamed g (kept_type b own t)
  kept_kept false own t = refl
  kept_kept true VoidType t = refl
  kept_kept true BoolType t = refl
  kept_kept true (IntegerType size rank signed) t = refl
  kept_kept true FloatingType t = refl
  kept_kept true VaListType t = refl
  kept_kept true (PointerTo to) t = refl
  kept_kept true (ArrayOf of length) t = refl
  kept_kept true (FunctionFrom result parameters Fixed) t = refl
  kept_kept true (FunctionFrom result parameters Variadic) t = refl
  kept_kept true (FunctionFrom result parameters Unspecified) t = refl
  kept_kept true (StructureOf tag) t = refl
  kept_kept true (UnionOf tag) t = refl

  pub linked_kept : (b d : Bool) (own t : Ctype) → linked_type b d (renamed g own) (renamed g t) ≡ renamed g (linked_type b d own t)
  linked_kept b true own t = ap with_one (kept_kept b own t) ∙ one_kept (kept_type b own t)
  linked_kept b false own t = kept_kept b own t

  pub agree_kept : (s t : Ctype) → Agree s t → Agree (renamed g s) (renamed g t)
  agree_kept VoidType t h = ap R h
  agree_kept BoolType t h = ap R h
  agree_kept (IntegerType size rank signed) t h = ap R h
  agree_kept FloatingType t h = ap R h
  agree_kept VaListType t h = ap R h
  agree_kept (PointerTo to) t h = ap R h
  agree_kept (StructureOf tag) t h = ap R h
  agree_kept (UnionOf tag) t h = ap R h
  agree_kept (ArrayOf a None) VoidType h = ap R h
  agree_kept (ArrayOf a None) BoolType h = ap R h
  agree_kept (ArrayOf a None) (IntegerType z k i) h = ap R h
  agree_kept (ArrayOf a None) FloatingType h = ap R h
  agree_kept (ArrayOf a None) VaListType h = ap R h
  agree_kept (ArrayOf a None) (PointerTo to) h = ap R h
  agree_kept (ArrayOf a None) (StructureOf tag) h = ap R h
  agree_kept (ArrayOf a None) (UnionOf tag) h = ap R h
  agree_kept (ArrayOf a None) (FunctionFrom s qs Fixed) h = ap R h
  agree_kept (ArrayOf a None) (FunctionFrom s qs Variadic) h = ap R h
  agree_kept (ArrayOf a None) (FunctionFrom s qs Unspecified) h = ap R h
  agree_kept (ArrayOf a None) (ArrayOf b None) h = ap R h
  agree_kept (ArrayOf a None) (ArrayOf b (Some m)) h = ap R h
  agree_kept (ArrayOf a (Some n)) VoidType h = ap R h
  agree_kept (ArrayOf a (Some n)) BoolType h = ap R h
  agree_kept (ArrayOf a (Some n)) (IntegerType z k i) h = ap R h
  agree_kept (ArrayOf a (Some n)) FloatingType h = ap R h
  agree_kept (ArrayOf a (Some n)) VaListType h = ap R h
  agree_kept (ArrayOf a (Some n)) (PointerTo to) h = ap R h
  agree_kept (ArrayOf a (Some n)) (StructureOf tag) h = ap R h
  agree_kept (ArrayOf a (Some n)) (UnionOf tag) h = ap R h
  agree_kept (ArrayOf a (Some n)) (FunctionFrom s qs Fixed) h = ap R h
  agree_kept (ArrayOf a (Some n)) (FunctionFrom s qs Variadic) h = ap R h
  agree_kept (ArrayOf a (Some n)) (FunctionFrom s qs Unspecified) h = ap R h
  agree_kept (ArrayOf a (Some n)) (ArrayOf b None) h = ap R h
  agree_kept (ArrayOf a (Some n)) (ArrayOf b (Some m)) h = ap R h
  agree_kept (FunctionFrom r ps Fixed) VoidType h = ap R h
  agree_kept (FunctionFrom r ps Fixed) BoolType h = ap R h
  agree_kept (FunctionFrom r ps Fixed) (IntegerType z k i) h = ap R h
  agree_kept (FunctionFrom r ps Fixed) FloatingType h = ap R h
  agree_kept (FunctionFrom r ps Fixed) VaListType h = ap R h
  agree_kept (FunctionFrom r ps Fixed) (PointerTo to) h = ap R h
  agree_kept (FunctionFrom r ps Fixed) (StructureOf tag) h = ap R h
  agree_kept (FunctionFrom r ps Fixed) (UnionOf tag) h = ap R h
  agree_kept (FunctionFrom r ps Fixed) (ArrayOf b None) h = ap R h
  agree_kept (FunctionFrom r ps Fixed) (ArrayOf b (Some m)) h = ap R h
  agree_kept (FunctionFrom r ps Fixed) (FunctionFrom s qs Fixed) h = ap R h
  agree_kept (FunctionFrom r ps Fixed) (FunctionFrom s qs Variadic) h = ap R h
  agree_kept (FunctionFrom r ps Fixed) (FunctionFrom s qs Unspecified) h = ap R h
  agree_kept (FunctionFrom r ps Variadic) VoidType h = ap R h
  agree_kept (FunctionFrom r ps Variadic) BoolType h = ap R h
  agree_kept (FunctionFrom r ps Variadic) (IntegerType z k i) h = ap R h
  agree_kept (FunctionFrom r ps Variadic) FloatingType h = ap R h
  agree_kept (FunctionFrom r ps Variadic) VaListType h = ap R h
  agree_kept (FunctionFrom r ps Variadic) (PointerTo to) h = ap R h
  agree_kept (FunctionFrom r ps Variadic) (StructureOf tag) h = ap R h
  agree_kept (FunctionFrom r ps Variadic) (UnionOf tag) h = ap R h
  agree_kept (FunctionFrom r ps Variadic) (ArrayOf b None) h = ap R h
  agree_kept (FunctionFrom r ps Variadic) (ArrayOf b (Some m)) h = ap R h
  agree_kept (FunctionFrom r ps Variadic) (FunctionFrom s qs Fixed) h = ap R h
  agree_kept (FunctionFrom r ps Variadic) (FunctionFrom s qs Variadic) h = ap R h
  agree_kept (FunctionFrom r ps Variadic) (FunctionFrom s qs Unspecified) h = ap R h
  agree_kept (FunctionFrom r ps Unspecified) VoidType h = ap R h
  agree_kept (FunctionFrom r ps Unspecified) BoolType h = ap R h
  agree_kept (FunctionFrom r ps Unspecified) (IntegerType z k i) h = ap R h
  agree_kept (FunctionFrom r ps Unspecified) FloatingType h = ap R h
  agree_kept (FunctionFrom r ps Unspecified) VaListType h = ap R h
  agree_kept (FunctionFrom r ps Unspecified) (PointerTo to) h = ap R h
  agree_kept (FunctionFrom r ps Unspecified) (StructureOf tag) h = ap R h
  agree_kept (FunctionFrom r ps Unspecified) (UnionOf tag) h = ap R h
  agree_kept (FunctionFrom r ps Unspecified) (ArrayOf b None) h = ap R h
  agree_kept (FunctionFrom r ps Unspecified) (ArrayOf b (Some m)) h = ap R h
  agree_kept (FunctionFrom r ps Unspecified) (FunctionFrom s qs Fixed) h = ap R h
  agree_kept (FunctionFrom r ps Unspecified) (FunctionFrom s qs Variadic) h = ap R h
  agree_kept (FunctionFrom r ps Unspecified) (FunctionFrom s qs Unspecified) h = ap R h

  integer_kept : (t : Ctype) → IsInteger t → IsInteger (renamed g t)
  integer_kept BoolType h = h
  integer_kept (IntegerType size rank signed) h = h
  integer_kept VoidType h = h
  integer_kept FloatingType h = h
  integer_kept VaListType h = h
  integer_kept (PointerTo to) h = h
  integer_kept (ArrayOf of length) h = h
  integer_kept (FunctionFrom result parameters form) h = h
  integer_kept (StructureOf tag) h = h
  integer_kept (UnionOf tag) h = h

  is_function_kept : (t : Ctype) → IsFunction t → IsFunction (renamed g t)
  is_function_kept VoidType h = h
  is_function_kept BoolType h = h
  is_function_kept (IntegerType size rank signed) h = h
  is_function_kept FloatingType h = h
  is_function_kept VaListType h = h
  is_function_kept (PointerTo to) h = h
  is_function_kept (ArrayOf of length) h = h
  is_function_kept (FunctionFrom result parameters form) h = h
  is_function_kept (StructureOf tag) h = h
  is_function_kept (UnionOf tag) h = h

  is_function_from : (t : Ctype) → IsFunction (renamed g t) → IsFunction t
  is_function_from VoidType h = h
  is_function_from BoolType h = h
  is_function_from (IntegerType size rank signed) h = h
  is_function_from FloatingType h = h
  is_function_from VaListType h = h
  is_function_from (PointerTo to) h = h
  is_function_from (ArrayOf of length) h = h
  is_function_from (FunctionFrom result parameters form) h = h
  is_function_from (StructureOf tag) h = h
  is_function_from (UnionOf tag) h = h

  points_kept : (t : Ctype) → PointsToFunction t → PointsToFunction (renamed g t)
  points_kept (PointerTo to) h = is_function_kept to h
  points_kept VoidType h = h
  points_kept BoolType h = h
  points_kept (IntegerType size rank signed) h = h
  points_kept FloatingType h = h
  points_kept VaListType h = h
  points_kept (ArrayOf of length) h = h
  points_kept (FunctionFrom result parameters form) h = h
  points_kept (StructureOf tag) h = h
  points_kept (UnionOf tag) h = h

  other_kept : (t : Ctype) → PointsToOther t → PointsToOther (renamed g t)
  other_kept (PointerTo to) h = λ k. h (is_function_from to k)
  other_kept VoidType h = h
  other_kept BoolType h = h
  other_kept (IntegerType size rank signed) h = h
  other_kept FloatingType h = h
  other_kept VaListType h = h
  other_kept (ArrayOf of length) h = h
  other_kept (FunctionFrom result parameters form) h = h
  other_kept (StructureOf tag) h = h
  other_kept (UnionOf tag) h = h

  letter_kept : (letter : ℕ) (t : Ctype) → IsLetter letter t → IsLetter letter (renamed g t)
  letter_kept letter t (inl h) = inl (h.0, other_kept t h.1)
  letter_kept letter t (inr (inl h)) = inr (inl (h.0, integer_kept t h.1))
  letter_kept letter t (inr (inr (inl h))) = inr (inr (inl (h.0, points_kept t h.1)))
  letter_kept letter t (inr (inr (inr h))) = inr (inr (inr (h.0, ap R h.1)))

  fits_kept : (ts : Ctypes) (form : Form) (result : Ctype) (shape : List ℕ) → FitsList ts form result shape → FitsList (all_renamed g ts) form (renamed g result) shape
  fits_kept (MoreTypes t ts) form result [] h = absurd h
  fits_kept (MoreTypes t ts) form result (letter ∷ rest) h = (letter_kept letter t h.0, fits_kept ts form result rest h.1)
  fits_kept NoTypes Fixed result [] h = absurd h
  fits_kept NoTypes Fixed result (a ∷ []) h = absurd h
  fits_kept NoTypes Fixed result (a ∷ letter ∷ []) h = (h.0, letter_kept letter result h.1)
  fits_kept NoTypes Fixed result (a ∷ b ∷ c ∷ rest) h = absurd h
  fits_kept NoTypes Variadic result [] h = absurd h
  fits_kept NoTypes Variadic result (a ∷ []) h = absurd h
  fits_kept NoTypes Variadic result (a ∷ b ∷ []) h = absurd h
  fits_kept NoTypes Variadic result (a ∷ b ∷ letter ∷ []) h = (h.0, h.1, letter_kept letter result h.2)
  fits_kept NoTypes Variadic result (a ∷ b ∷ c ∷ d ∷ rest) h = absurd h
  fits_kept NoTypes Unspecified result [] h = absurd h
  fits_kept NoTypes Unspecified result (a ∷ rest) h = absurd h

  result_kept : (t : Ctype) (shape : List ℕ) → FitsResult t shape → FitsResult (renamed g t) shape
  result_kept t [] h = absurd h
  result_kept t (a ∷ []) h = absurd h
  result_kept t (a ∷ b ∷ []) h = (h.0, letter_kept b t h.1)
  result_kept t (a ∷ b ∷ c ∷ rest) h = result_kept t (b ∷ c ∷ rest) h

  pub shape_kept : (t : Ctype) (shape : List ℕ) → HasShape t shape → HasShape (renamed g t) shape
  shape_kept (FunctionFrom result parameters Unspecified) shape h = result_kept result shape h
  shape_kept (FunctionFrom result parameters Fixed) shape h = fits_kept parameters Fixed result shape h
  shape_kept (FunctionFrom result parameters Variadic) shape h = fits_kept parameters Variadic result shape h
  shape_kept VoidType [] h = absurd h
  shape_kept VoidType (letter ∷ []) h = letter_kept letter VoidType h
  shape_kept VoidType (letter ∷ more ∷ rest) h = absurd h
  shape_kept BoolType [] h = absurd h
  shape_kept BoolType (letter ∷ []) h = letter_kept letter BoolType h
  shape_kept BoolType (letter ∷ more ∷ rest) h = absurd h
  shape_kept (IntegerType size rank signed) [] h = absurd h
  shape_kept (IntegerType size rank signed) (letter ∷ []) h = letter_kept letter (IntegerType size rank signed) h
  shape_kept (IntegerType size rank signed) (letter ∷ more ∷ rest) h = absurd h
  shape_kept FloatingType [] h = absurd h
  shape_kept FloatingType (letter ∷ []) h = letter_kept letter FloatingType h
  shape_kept FloatingType (letter ∷ more ∷ rest) h = absurd h
  shape_kept VaListType [] h = absurd h
  shape_kept VaListType (letter ∷ []) h = letter_kept letter VaListType h
  shape_kept VaListType (letter ∷ more ∷ rest) h = absurd h
  shape_kept (PointerTo to) [] h = absurd h
  shape_kept (PointerTo to) (letter ∷ []) h = letter_kept letter (PointerTo to) h
  shape_kept (PointerTo to) (letter ∷ more ∷ rest) h = absurd h
  shape_kept (StructureOf tag) [] h = absurd h
  shape_kept (StructureOf tag) (letter ∷ []) h = letter_kept letter (StructureOf tag) h
  shape_kept (StructureOf tag) (letter ∷ more ∷ rest) h = absurd h
  shape_kept (UnionOf tag) [] h = absurd h
  shape_kept (UnionOf tag) (letter ∷ []) h = letter_kept letter (UnionOf tag) h
  shape_kept (UnionOf tag) (letter ∷ more ∷ rest) h = absurd h
  shape_kept (ArrayOf of length) [] h = absurd h
  shape_kept (ArrayOf of length) (letter ∷ []) h = letter_kept letter (ArrayOf of length) h
  shape_kept (ArrayOf of length) (letter ∷ more ∷ rest) h = absurd h

  words_kept : (ts : Ctypes) → IsWordList ts → IsWordList (all_renamed g ts)
  words_kept NoTypes h = absurd h
  words_kept (MoreTypes words NoTypes) h = ap R h
  words_kept (MoreTypes words (MoreTypes more rest)) h = absurd h

  main_list_kept : (ts : Ctypes) (form : Form) → IsMainList ts form → IsMainList (all_renamed g ts) form
  main_list_kept NoTypes Fixed h = tt
  main_list_kept NoTypes Unspecified h = tt
  main_list_kept NoTypes Variadic h = absurd h
  main_list_kept (MoreTypes count rest) Fixed h = (ap R h.0, words_kept rest h.1)
  main_list_kept (MoreTypes count rest) Variadic h = absurd h
  main_list_kept (MoreTypes count rest) Unspecified h = absurd h

  pub main_kept : (t : Ctype) → IsMainType t → IsMainType (renamed g t)
  main_kept (FunctionFrom result parameters form) h = (ap R h.0, main_list_kept parameters form h.1)
  main_kept VoidType h = h
  main_kept BoolType h = h
  main_kept (IntegerType size rank signed) h = h
  main_kept FloatingType h = h
  main_kept VaListType h = h
  main_kept (PointerTo to) h = h
  main_kept (ArrayOf of length) h = h
  main_kept (StructureOf tag) h = h
  main_kept (UnionOf tag) h = h

  scalar_kept : (t : Ctype) → IsScalar t → IsScalar (renamed g t)
  scalar_kept BoolType h = inl tt
  scalar_kept (IntegerType size rank signed) h = inl tt
  scalar_kept (PointerTo to) h = inr tt
  scalar_kept t h = h

  scalars_kept : (ts : Ctypes) → AreScalars ts → AreScalars (all_renamed g ts)
  scalars_kept NoTypes h = tt
  scalars_kept (MoreTypes first rest) h = (scalar_kept first h.0, scalars_kept rest h.1)

  given_kept : (t : Ctype) → (t ≡ VoidType) ⊎ IsScalar t → (renamed g t ≡ VoidType) ⊎ IsScalar (renamed g t)
  given_kept t (inl void) = inl (ap R void)
  given_kept t (inr scalar) = inr (scalar_kept t scalar)

  pub entry_kept : (t : Ctype) → IsEntryType t → IsEntryType (renamed g t)
  entry_kept (FunctionFrom result parameters form) h = (h.0, given_kept result h.1, scalars_kept parameters h.2)
  entry_kept t h = h
