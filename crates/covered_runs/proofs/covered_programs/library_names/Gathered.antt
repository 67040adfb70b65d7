-- What the declarations of a name say together, where each says the same.
use Rattle.std.proofs.Common.{◌≡◌, ◌∙◌, ℕ, suc, ◌||◌, Bool, true, false, cond, List, [], ◌∷◌, map, filter, Option, Some, None, refl, sym, ap}
use Rattle.std.specs.Prelude.{fold}
use Rattle.std.specs.List.{slice_get, find, list_any}
use Rattle.std.specs.Option.{option_or}
use Rattle.std.proofs.lemmas.Bool.{false≢true}
use Rattle.c_types.specs.declared.term.Form.TheVariants.{Fixed, Variadic, Unspecified}
use Rattle.c_types.specs.Trees.{Ctype, ArrayOf, FunctionFrom}
use Rattle.type_rules.specs.Kinds.{IsFunction}
use Rattle.link_names.specs.Shape.{HasShape, is_function_shape}
use Rattle.link_names.specs.Together.{composite, together, is_listed}

-- a fact of each element
abbrev pub EachOf : {X : Type 0} → (X → Type 0) → List X → Type 0
EachOf P [] = Unit {0}
EachOf P (x ∷ rest) = P x × EachOf P rest

module _ {X : Type 0} where
  pub filter_each : (test : X → Bool) (P : X → Type 0) (xs : List X) → ((k : ℕ) (x : X) → slice_get xs k ≡ Some x → test x ≡ true → P x) → EachOf P (filter test xs)
  filter_each test P [] h = tt
  filter_each test P (x ∷ xs) h = by (test x) refl (h 0 x refl) (filter_each test P xs (λ k y e. h (suc k) y e))
    where
      by : (b : Bool) → test x ≡ b → (test x ≡ true → P x) → EachOf P (filter test xs) → EachOf P (cond b (x ∷ filter test xs) (filter test xs))
      by true is own rest = (own is, rest)
      by false is own rest = rest

  -- what none is found to pass, none passes
  pub none_any : (test : X → Bool) (xs : List X) → find test xs ≡ None → list_any test xs ≡ false
  none_any test [] h = refl
  none_any test (x ∷ xs) h = by (test x) h (none_any test xs)
    where
      by : (b : Bool) → cond b (Some x) (find test xs) ≡ None → (find test xs ≡ None → list_any test xs ≡ false) → (b || list_any test xs) ≡ false
      by true e f = absurd (let no : ⊥ = cc in no)
      by false e f = f e

  -- what is found passes
  pub found_passes : (test : X → Bool) (xs : List X) (x : X) → find test xs ≡ Some x → test x ≡ true
  found_passes test [] x h = absurd (let no : ⊥ = cc in no)
  found_passes test (y ∷ xs) x h = by (test y) refl h (found_passes test xs x)
    where
      by : (b : Bool) → test y ≡ b → cond b (Some y) (find test xs) ≡ Some x → (find test xs ≡ Some x → test x ≡ true) → test x ≡ true
      by true is e f = let same : y ≡ x = cc in ap test (sym same) ∙ is
      by false is e f = f e

  -- the first of three choices that is there
  pub data Chosen (a b c : Option X) (d : X) : Type 0 where
    by_first : a ≡ Some d → Chosen a b c d
    by_second : a ≡ None → b ≡ Some d → Chosen a b c d
    by_third : a ≡ None → b ≡ None → c ≡ Some d → Chosen a b c d

  pub chosen : (a b c : Option X) (d : X) → option_or a (option_or b c) ≡ Some d → Chosen a b c d
  chosen (Some x) b c d h = by_first h
  chosen None (Some x) c d h = by_second refl h
  chosen None None c d h = by_third refl refl h

composite_one : (P : Ctype → Type 0) (s t : Ctype) → P s → P t → P (composite s t)
composite_one P (FunctionFrom r ps Unspecified) t p q = q
composite_one P (ArrayOf of None) t p q = q
composite_one P s t p q = p

module _ {X : Type 0} (f : X → Ctype) where
  fold_each : (P : Ctype → Type 0) (t : Ctype) (xs : List X) → P t → EachOf (λ x. P (f x)) xs → P (fold composite t (map f xs))
  fold_each P t [] p r = p
  fold_each P t (x ∷ xs) p r = fold_each P (composite t (f x)) xs (composite_one P t (f x) p r.0) r.1

  -- what is true of each type is true of what they give together
  pub together_each : (P : Ctype → Type 0) (x : X) (xs : List X) → EachOf (λ y. P (f y)) (x ∷ xs) → P (together (map f (x ∷ xs)))
  together_each P x xs h = fold_each P (f x) xs h.0 h.1

  composite_listed : (s t : Ctype) → IsFunction s → (is_listed s || is_listed t) ≡ true → is_listed (composite s t) ≡ true
  composite_listed (FunctionFrom r ps Fixed) t h e = refl
  composite_listed (FunctionFrom r ps Variadic) t h e = refl
  composite_listed (FunctionFrom r ps Unspecified) t h e = e
  composite_listed s t h e = absurd h

  more : (a b c d : Bool) → ((a || b) ≡ true → d ≡ true) → (a || (b || c)) ≡ true → (d || c) ≡ true
  more true b c true h e = refl
  more true b c false h e = absurd (false≢true (h refl))
  more false true c true h e = refl
  more false true c false h e = absurd (false≢true (h refl))
  more false false c true h e = refl
  more false false c false h e = e

  fold_listed : (t : Ctype) (xs : List X) → IsFunction t → EachOf (λ x. IsFunction (f x)) xs → (is_listed t || list_any (λ x. is_listed (f x)) xs) ≡ true → is_listed (fold composite t (map f xs)) ≡ true
  fold_listed t [] h r e = by (is_listed t) e
    where
      by : (b : Bool) → (b || false) ≡ true → b ≡ true
      by true g = refl
      by false g = g
  fold_listed t (x ∷ xs) h r e =
      fold_listed (composite t (f x)) xs (composite_one IsFunction t (f x) h r.0) r.1
      (more (is_listed t) (is_listed (f x)) (list_any (λ y. is_listed (f y)) xs) (is_listed (composite t (f x))) (composite_listed t (f x) h) e)

  -- functions, one of which has a list, have one together
  pub together_listed : (x : X) (xs : List X) → EachOf (λ y. IsFunction (f y)) (x ∷ xs) → list_any (λ y. is_listed (f y)) (x ∷ xs) ≡ true → is_listed (together (map f (x ∷ xs))) ≡ true
  together_listed x xs h e = fold_listed (f x) xs h.0 h.1 e

-- what has the shape of a function is one
pub function_shaped : (t : Ctype) (shape : List ℕ) → is_function_shape shape ≡ true → HasShape t shape → IsFunction t
function_shaped (FunctionFrom r ps f) shape e h = tt
function_shaped t [] e h = absurd (false≢true e)
function_shaped t (letter ∷ []) e h = absurd (false≢true e)
function_shaped t (c ∷ d ∷ rest) e h = absurd h
