-- What lasts of an initialiser, and the length that it gives to an array.
use Rattle.std.proofs.Common.{arith, ◌≡◌, ℕ, ◌≤◌, max, Bool, true, false, List, [], ◌∷◌, ◌++◌, Option, Some, None, refl, sym, ap, ◌∙◌, subst}
use Rattle.std.specs.Prelude.{is_some, option_map}
use Rattle.c_types.specs.declared.term.PathStep.TheVariants.{Index, Member}
use Rattle.c_types.specs.Trees.{Ctype, VoidType, BoolType, IntegerType, FloatingType, VaListType, PointerTo, ArrayOf, FunctionFrom, StructureOf, UnionOf}
use Rattle.c_inits.specs.Shapes.{Shape, Scalar, Elements, Structured, Overlaid, Path}
use Rattle.c_inits.specs.Made.{Look, shape_of, shape_for}
use Rattle.c_inits.specs.Syntax.{Init}
use Rattle.c_inits.specs.Initial.{Placed, Action, Clears, Puts, Places, is_character, is_under, initial, cleared, lasting, reach, length_given}
use Rattle.c_initialise.specs.placed_paths.Within.{Members, type_in, IsShape, Knows, GoesWithin, AllGoWithin, sized, PlacesWithin}
use Rattle.c_initialise.proofs.placed_paths.Parts.{cond_holds, no_type, index_in, in_bound}
use Rattle.c_initialise.proofs.placed_paths.Places.{AllPut, OutcomePuts, initial_puts}

some_one : {X : Type 0} → {x y : X} → ◌≡◌ {A = Option X} (Some x) (Some y) → x ≡ y
some_one h = cc

map_found : {A B : Type 0} (f : A → B) (o : Option A) (y : B) → option_map f o ≡ Some y → (x : A) × (o ≡ Some x) × (f x ≡ y)
map_found f None y h = cc
map_found f (Some x) y h = (x, refl, some_one h)

module _ (members : Members) where
  -- what lasts
  cleared_within : (t : Ctype) (path : Path) (xs : List Placed) → AllGoWithin members t xs → AllGoWithin members t (cleared path xs)
  cleared_within t path [] h = tt
  cleared_within t path (p ∷ xs) h =
      cond_holds (AllGoWithin members t) (is_under path p.path) (cleared path xs) (p ∷ cleared path xs) (λ e. cleared_within t path xs h.1) (λ e. (h.0, cleared_within t path xs h.1))

  one_more : (t : Ctype) (xs : List Placed) (p : Placed) → AllGoWithin members t xs → GoesWithin members t p → AllGoWithin members t (xs ++ p ∷ [])
  one_more t [] p h k = (k, tt)
  one_more t (x ∷ xs) p h k = (h.0, one_more t xs p h.1 k)

  lasting_within : (t : Ctype) (actions : List Action) (so_far : List Placed) → AllGoWithin members t so_far → AllPut members t actions → AllGoWithin members t (lasting so_far actions)
  lasting_within t [] so_far h k = h
  lasting_within t (Clears path ∷ rest) so_far h k = lasting_within t rest (cleared path so_far) (cleared_within t path so_far h) k
  lasting_within t (Puts p ∷ rest) so_far h k = lasting_within t rest (so_far ++ p ∷ []) (one_more t so_far p h k.0) k.1

  -- an array that is as long as its values reach
  reached : (e : Ctype) (limit n : ℕ) (path : Path) (character : Bool) → reach path ≤ n
      → (type : Ctype) × (type_in members (Some (ArrayOf e (Some limit))) path ≡ Some type) × (character ≡ true → is_character (Scalar type) ≡ true)
      → (type : Ctype) × (type_in members (Some (ArrayOf e (Some n))) path ≡ Some type) × (character ≡ true → is_character (Scalar type) ≡ true)
  reached e limit n [] character le h =
      (ArrayOf e (Some n), refl, λ c. let same : ArrayOf e (Some limit) ≡ h.0 = some_one h.1 in absurd (let f : false ≡ true = subst (λ (x : Ctype). is_character (Scalar x) ≡ true) (sym same) (h.2 c) in cc))
  reached e limit n (Index k ∷ path) character le h =
      let found = in_bound members e h.0 limit k path h.1 in (h.0, ap (λ (o : Option Ctype). type_in members o path) (index_in members e n k (omega (arith, le))) ∙ found.1, h.2)
  reached e limit n (Member k ∷ path) character le h = absurd (no_type members path h.0 h.1)

  sized_puts : (e : Ctype) (limit n : ℕ) (actions : List Action) → length_given actions ≤ n → AllPut members (ArrayOf e (Some limit)) actions → AllPut members (ArrayOf e (Some n)) actions
  sized_puts e limit n [] le h = tt
  sized_puts e limit n (Clears path ∷ rest) le h = sized_puts e limit n rest (let r : length_given rest ≤ max (reach path) (length_given rest) = omega arith in omega (arith, r, le)) h
  sized_puts e limit n (Puts p ∷ rest) le h = (
    reached e limit n p.path (is_some p.character) (let r : reach p.path ≤ max (reach p.path) (length_given rest) = omega arith in omega (arith, r, le)) h.0,
    sized_puts e limit n rest (let r : length_given rest ≤ max (reach p.path) (length_given rest) = omega arith in omega (arith, r, le)) h.1,
  )

  -- the shape of a type
  module _ (look : Look) (knows : Knows members look) where
    scalar_shape : (t : Ctype) (s : Shape) → ◌≡◌ {A = Option Shape} (Some (Scalar t)) (Some s) → IsShape members t s
    scalar_shape t s h = subst (λ (x : Shape). IsShape members t x) (some_one h) refl

    pub shape_is : (t : Ctype) (s : Shape) → shape_of look t ≡ Some s → IsShape members t s
    shape_is VoidType s h = cc
    shape_is BoolType s h = scalar_shape BoolType s h
    shape_is (IntegerType size rank signed) s h = scalar_shape (IntegerType size rank signed) s h
    shape_is FloatingType s h = scalar_shape FloatingType s h
    shape_is VaListType s h = scalar_shape VaListType s h
    shape_is (PointerTo to) s h = scalar_shape (PointerTo to) s h
    shape_is (ArrayOf of None) s h = cc
    shape_is (ArrayOf of (Some n)) s h =
        let found = map_found (λ (x : Shape). Elements (ArrayOf of (Some n)) x n) (shape_of look of) s h in
        subst (λ (x : Shape). IsShape members (ArrayOf of (Some n)) x) found.2 (of, refl, shape_is of found.0 found.1)
    shape_is (FunctionFrom r ps form) s h = cc
    shape_is (StructureOf tag) s h =
        let found = map_found (Structured (StructureOf tag)) (look tag) s h in
        let parts = knows tag found.0 found.1 in
        subst (λ (x : Shape). IsShape members (StructureOf tag) x) found.2 (tag, parts.0, refl, parts.1, parts.2)
    shape_is (UnionOf tag) s h =
        let found = map_found (Overlaid (UnionOf tag)) (look tag) s h in
        let parts = knows tag found.0 found.1 in
        subst (λ (x : Shape). IsShape members (UnionOf tag) x) found.2 (tag, parts.0, refl, parts.1, parts.2)

    closed : (t : Ctype) (s : Shape) (init : Init) (actions : List Action) → shape_of look t ≡ Some s → initial s init ≡ Places actions → AllGoWithin members t (lasting [] actions)
    closed t s init actions h e = lasting_within t actions [] tt (subst (OutcomePuts members t) e (initial_puts members init t s (shape_is t s h)))

    open_array : (of : Ctype) (limit : ℕ) (s : Shape) (init : Init) (actions : List Action) → option_map (λ (x : Shape). Elements (ArrayOf of None) x limit) (shape_of look of) ≡ Some s → initial s init ≡ Places actions
        → AllGoWithin members (ArrayOf of (Some (length_given actions))) (lasting [] actions)
    open_array of limit s init actions h e =
        let found = map_found (λ (x : Shape). Elements (ArrayOf of None) x limit) (shape_of look of) s h in
        let is : IsShape members (ArrayOf of (Some limit)) s = subst (λ (x : Shape). IsShape members (ArrayOf of (Some limit)) x) found.2 (of, refl, shape_is of found.0 found.1) in
        lasting_within (ArrayOf of (Some (length_given actions))) actions [] tt
        (sized_puts of limit (length_given actions) actions (omega arith) (subst (OutcomePuts members (ArrayOf of (Some limit))) e (initial_puts members init (ArrayOf of (Some limit)) s is)))

    pub go_within : (limit : ℕ) (t : Ctype) (s : Shape) (init : Init) (actions : List Action) → shape_for look limit t ≡ Some s → initial s init ≡ Places actions → AllGoWithin members (sized t actions) (lasting [] actions)
    go_within limit (ArrayOf of None) s init actions h e = open_array of limit s init actions h e
    go_within limit t s init actions h e = closed t s init actions h e

pub places_within : PlacesWithin
places_within members look knows limit t s init actions h e = go_within members look knows limit t s init actions h e
