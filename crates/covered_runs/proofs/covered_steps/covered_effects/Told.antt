-- What the shapes of the library's functions tell of their types.
use Rattle.std.proofs.Common.{arith, ◌≡◌, ◌∙◌, ◌⊎◌, inl, inr, ℕ, zero, suc, ◌||◌, Bool, true, false, eqb, List, [], ◌∷◌, Option, Some, None, slice_get, refl, sym, ap, subst}
use Rattle.std.proofs.lemmas.Bool.{false≢true, cases_Bool}
use Rattle.std.proofs.lemmas.Bool.Decides.{eqb_tells}
use Rattle.c_types.specs.declared.term.Form.{Form}
use Rattle.c_types.specs.declared.term.Form.TheVariants.{Fixed, Variadic, Unspecified}
use Rattle.c_types.specs.Trees.{Ctype, Ctypes, NoTypes, MoreTypes, VoidType, PointerTo, FunctionFrom}
use Rattle.type_rules.specs.Kinds.{IsScalar}
use Rattle.type_rules.specs.Conversions.{result_of}
use Rattle.lib_summaries.specs.Table.{Row as Summary, rows as summaries}
use Rattle.link_names.specs.Shape.{PointsToFunction, PointsToOther, IsLetter, FitsList, HasShape}
use Rattle.link_names.specs.Together.{is_listed}
use Rattle.ref_lib.specs.declared.rows.Making.TheVariants.{Malloc, Calloc, Realloc, Perhaps, Object, Place, Classes}
use Rattle.ref_lib.specs.declared.rows.Elements.TheVariants.{CopyBytes, SetBytes, Search, Strtol, Sort, Find}
use Rattle.ref_lib.specs.declared.rows.Texts.TheVariants.{CopyText, AddText, CopyPart, Duplicate, Line}
use Rattle.ref_lib.specs.declared.rows.Plain.TheVariants.{Keep}
use Rattle.ref_lib.specs.declared.rows.Row.{Row}
use Rattle.ref_lib.specs.declared.rows.Row.TheVariants.{Makes, Moves, Writes, Answers}
use Rattle.ref_lib.specs.Effects.{rows}
use Rattle.covering_laws.specs.covered_types.Calls.{type_from, parameter_types}

some_one : {X : Type 0} → {x y : X} → ◌≡◌ {A = Option X} (Some x) (Some y) → x ≡ y
some_one h = cc

none_some : {X : Type 0} → {x : X} → ◌≡◌ {A = Option X} None (Some x) → ⊥
none_some h = cc

-- the argument of that place is a pointer, and the result is one to an object
abbrev pub takes_pointer : ℕ → List ℕ → Bool
takes_pointer zero (c ∷ d ∷ e ∷ rest) = eqb c 112 || eqb c 102
takes_pointer (suc k) (c ∷ rest) = takes_pointer k rest
takes_pointer k shape = false

abbrev gives_pointer : List ℕ → Bool
gives_pointer (c ∷ d ∷ []) = eqb d 112
gives_pointer (c ∷ rest) = gives_pointer rest
gives_pointer [] = false

-- pointers among a function's parameters, and as its result
abbrev pub TakesPointer : Ctype → ℕ → Type 0
TakesPointer t k = (s : Ctype) × (type_from (parameter_types t) k ≡ Some (PointerTo s))

abbrev pub GivesPointer : Ctype → Type 0
GivesPointer t = (s : Ctype) × (result_of t ≡ PointerTo s)

same_number : (a b : ℕ) → eqb a b ≡ true → a ≡ b
same_number a b e = elim (eqb_tells a b) [ inl same ↦ same.1 | inr other ↦ absurd (false≢true (sym other.0 ∙ e)) ]

pointing : (t : Ctype) → PointsToOther t → (s : Ctype) × (t ≡ PointerTo s)
pointing (PointerTo s) h = (s, refl)
pointing t h = absurd h

-- an object pointer's letter
pointer_letter : (c : ℕ) (t : Ctype) → c ≡ 112 → IsLetter c t → (s : Ctype) × (t ≡ PointerTo s)
pointer_letter c t is h = elim h [
  | inl p ↦ pointing t p.1
  | inr other ↦ elim other [
    | inl i ↦ absurd (let bad : c ≡ 105 = i.0 in omega (arith, is, bad))
    | inr rest ↦ elim rest [
      | inl f ↦ absurd (let bad : c ≡ 102 = f.0 in omega (arith, is, bad))
      | inr v ↦ absurd (let bad : c ≡ 118 = v.0 in omega (arith, is, bad))
    ]
  ]
]

function_pointing : (t : Ctype) → PointsToFunction t → (s : Ctype) × (t ≡ PointerTo s)
function_pointing (PointerTo s) h = (s, refl)
function_pointing t h = absurd h

-- a function pointer's letter
function_letter : (c : ℕ) (t : Ctype) → c ≡ 102 → IsLetter c t → (s : Ctype) × (t ≡ PointerTo s)
function_letter c t is h = elim h [
  | inl p ↦ absurd (let bad : c ≡ 112 = p.0 in omega (arith, is, bad))
  | inr other ↦ elim other [
    | inl i ↦ absurd (let bad : c ≡ 105 = i.0 in omega (arith, is, bad))
    | inr rest ↦ elim rest [
      | inl f ↦ function_pointing t f.1
      | inr v ↦ absurd (let bad : c ≡ 118 = v.0 in omega (arith, is, bad))
    ]
  ]
]

either_letter : (c : ℕ) (t : Ctype) → (eqb c 112 || eqb c 102) ≡ true → IsLetter c t → (s : Ctype) × (t ≡ PointerTo s)
either_letter c t is h = elim (cases_Bool (eqb c 112)) [
  | inl its ↦ pointer_letter c t (same_number c 112 its) h
  | inr not_its ↦ function_letter c t (same_number c 102 (sym (ap (λ (b : Bool). b || eqb c 102) not_its) ∙ is)) h
]

argument_told : (ps : Ctypes) (form : Form) (r : Ctype) (shape : List ℕ) (k : ℕ) → FitsList ps form r shape → takes_pointer k shape ≡ true → (s : Ctype) × (type_from ps k ≡ Some (PointerTo s))
argument_told (MoreTypes t ts) form r (c ∷ d ∷ e ∷ rest) zero h is = (let p = either_letter c t is h.0 in (p.0, ap (λ (x : Ctype). Some x) p.1))
argument_told (MoreTypes t ts) form r (c ∷ d ∷ []) zero h is = absurd (false≢true is)
argument_told (MoreTypes t ts) form r (c ∷ []) zero h is = absurd (false≢true is)
argument_told (MoreTypes t ts) form r (c ∷ rest) (suc k) h is = argument_told ts form r rest k h.1 is
argument_told NoTypes Fixed r (to ∷ letter ∷ []) zero h is = absurd (false≢true is)
argument_told NoTypes Fixed r (to ∷ letter ∷ []) (suc zero) h is = absurd (false≢true is)
argument_told NoTypes Fixed r (to ∷ letter ∷ []) (suc (suc zero)) h is = absurd (false≢true is)
argument_told NoTypes Fixed r (to ∷ letter ∷ []) (suc (suc (suc k))) h is = absurd (false≢true is)
argument_told NoTypes Variadic r (dot ∷ to ∷ letter ∷ []) zero h is = absurd (false≢true (sym (ap (λ (c : ℕ). eqb c 112 || eqb c 102) h.0) ∙ is))
argument_told NoTypes Variadic r (dot ∷ to ∷ letter ∷ []) (suc zero) h is = absurd (false≢true is)
argument_told NoTypes Variadic r (dot ∷ to ∷ letter ∷ []) (suc (suc zero)) h is = absurd (false≢true is)
argument_told NoTypes Variadic r (dot ∷ to ∷ letter ∷ []) (suc (suc (suc zero))) h is = absurd (false≢true is)
argument_told NoTypes Variadic r (dot ∷ to ∷ letter ∷ []) (suc (suc (suc (suc k)))) h is = absurd (false≢true is)
argument_told ps form r shape k h is = absurd h

-- the result's letter
record IsResult (r : Ctype) (shape : List ℕ) : Type 0 where
  letter : ℕ
  is : IsLetter letter r
  pointer : gives_pointer shape ≡ true → letter ≡ 112

result_letter : (ps : Ctypes) (form : Form) (r : Ctype) (shape : List ℕ) → FitsList ps form r shape → IsResult r shape
result_letter (MoreTypes t ts) form r (c ∷ d ∷ e ∷ rest) h = (let one = result_letter ts form r (d ∷ e ∷ rest) h.1 in record { letter = one.letter; is = one.is; pointer = one.pointer })
result_letter (MoreTypes t NoTypes) Fixed r (c ∷ d ∷ []) h = absurd h.1
result_letter (MoreTypes t NoTypes) Variadic r (c ∷ d ∷ []) h = absurd h.1
result_letter (MoreTypes t NoTypes) Unspecified r (c ∷ d ∷ []) h = absurd h.1
result_letter (MoreTypes t (MoreTypes s NoTypes)) Fixed r (c ∷ d ∷ []) h = absurd h.1.1
result_letter (MoreTypes t (MoreTypes s NoTypes)) Variadic r (c ∷ d ∷ []) h = absurd h.1.1
result_letter (MoreTypes t (MoreTypes s NoTypes)) Unspecified r (c ∷ d ∷ []) h = absurd h.1.1
result_letter (MoreTypes t (MoreTypes s (MoreTypes q ts))) form r (c ∷ d ∷ []) h = absurd h.1.1
result_letter (MoreTypes t NoTypes) Fixed r (c ∷ []) h = absurd h.1
result_letter (MoreTypes t NoTypes) Variadic r (c ∷ []) h = absurd h.1
result_letter (MoreTypes t NoTypes) Unspecified r (c ∷ []) h = absurd h.1
result_letter (MoreTypes t (MoreTypes s ts)) form r (c ∷ []) h = absurd h.1
result_letter NoTypes Fixed r (to ∷ letter ∷ []) h = record { letter = letter; is = h.1; pointer = λ e. same_number letter 112 e }
result_letter NoTypes Variadic r (dot ∷ to ∷ letter ∷ []) h = record { letter = letter; is = h.2; pointer = λ e. same_number letter 112 e }
result_letter ps form r shape h = absurd h

-- a function with a list and its shape
record Listed (t : Ctype) (shape : List ℕ) : Type 0 where
  result : Ctype
  parameters : Ctypes
  form : Form
  type : t ≡ FunctionFrom result parameters form
  fits : FitsList parameters form result shape

listed : (t : Ctype) (shape : List ℕ) → HasShape t shape → is_listed t ≡ true → Listed t shape
listed (FunctionFrom r ps Fixed) shape h l = record { result = r; parameters = ps; form = Fixed; type = refl; fits = h }
listed (FunctionFrom r ps Variadic) shape h l = record { result = r; parameters = ps; form = Variadic; type = refl; fits = h }
listed (FunctionFrom r ps Unspecified) shape h l = absurd (false≢true l)
listed t shape h l = absurd (false≢true l)

module _ (t : Ctype) (shape : List ℕ) (h : HasShape t shape) (l : is_listed t ≡ true) where
  parts : Listed t shape
  parts = listed t shape h l

  pub takes : (k : ℕ) → takes_pointer k shape ≡ true → TakesPointer t k
  takes k is =
      let a = argument_told parts.parameters parts.form parts.result shape k parts.fits is in
      (a.0, ap (λ (x : Ctype). type_from (parameter_types x) k) parts.type ∙ a.1)

  gives : gives_pointer shape ≡ true → GivesPointer t
  gives is =
      let r = result_letter parts.parameters parts.form parts.result shape parts.fits in
      let p = pointer_letter r.letter parts.result (r.pointer is) r.is in
      (p.0, ap result_of parts.type ∙ p.1)

  held : (result_of t ≡ VoidType) ⊎ IsScalar (result_of t)
  held = subst (λ (x : Ctype). (x ≡ VoidType) ⊎ IsScalar x) (sym (ap result_of parts.type)) (by parts.result (result_letter parts.parameters parts.form parts.result shape parts.fits).is)
    where
      function_pointer : (r : Ctype) → PointsToFunction r → IsScalar r
      function_pointer (PointerTo s) q = inr tt
      function_pointer r q = absurd q

      other_pointer : (r : Ctype) → PointsToOther r → IsScalar r
      other_pointer (PointerTo s) q = inr tt
      other_pointer r q = absurd q

      by : (r : Ctype) → IsLetter (result_letter parts.parameters parts.form parts.result shape parts.fits).letter r → (r ≡ VoidType) ⊎ IsScalar r
      by r letter = elim letter [
        | inl p ↦ inr (other_pointer r p.1)
        | inr other ↦ elim other [
          | inl i ↦ inr (inl i.1)
          | inr rest ↦ elim rest [ inl f ↦ inr (function_pointer r f.1) | inr v ↦ inl v.1 ]
        ]
      ]

-- what a row takes of the function's type
abbrev pub Told : Row → Ctype → Type 0
Told (Makes Malloc) t = GivesPointer t
Told (Makes Calloc) t = GivesPointer t
Told (Makes Realloc) t = GivesPointer t × TakesPointer t 0
Told (Makes (Perhaps position)) t = GivesPointer t
Told (Makes (Object position)) t = GivesPointer t
Told (Makes (Place position)) t = GivesPointer t
Told (Makes Classes) t = GivesPointer t
Told (Moves CopyBytes) t = GivesPointer t × TakesPointer t 0 × TakesPointer t 1
Told (Moves SetBytes) t = GivesPointer t × TakesPointer t 0
Told (Moves Search) t = GivesPointer t × TakesPointer t 0
Told (Moves Strtol) t = TakesPointer t 0 × TakesPointer t 1
Told (Moves Sort) t = TakesPointer t 0 × TakesPointer t 3
Told (Moves Find) t = GivesPointer t × TakesPointer t 0 × TakesPointer t 1 × TakesPointer t 4
Told (Writes CopyText) t = GivesPointer t × TakesPointer t 0
Told (Writes AddText) t = GivesPointer t × TakesPointer t 0
Told (Writes CopyPart) t = GivesPointer t × TakesPointer t 0
Told (Writes Line) t = GivesPointer t × TakesPointer t 0
Told (Writes Duplicate) t = GivesPointer t
Told (Answers Keep) t = TakesPointer t 0
Told row t = Unit {0}

-- and of its shape
abbrev Tells : Row → List ℕ → Type 0
Tells (Makes Malloc) shape = gives_pointer shape ≡ true
Tells (Makes Calloc) shape = gives_pointer shape ≡ true
Tells (Makes Realloc) shape = (gives_pointer shape ≡ true) × (takes_pointer 0 shape ≡ true)
Tells (Makes (Perhaps position)) shape = gives_pointer shape ≡ true
Tells (Makes (Object position)) shape = gives_pointer shape ≡ true
Tells (Makes (Place position)) shape = gives_pointer shape ≡ true
Tells (Makes Classes) shape = gives_pointer shape ≡ true
Tells (Moves CopyBytes) shape = (gives_pointer shape ≡ true) × (takes_pointer 0 shape ≡ true) × (takes_pointer 1 shape ≡ true)
Tells (Moves SetBytes) shape = (gives_pointer shape ≡ true) × (takes_pointer 0 shape ≡ true)
Tells (Moves Search) shape = (gives_pointer shape ≡ true) × (takes_pointer 0 shape ≡ true)
Tells (Moves Strtol) shape = (takes_pointer 0 shape ≡ true) × (takes_pointer 1 shape ≡ true)
Tells (Moves Sort) shape = (takes_pointer 0 shape ≡ true) × (takes_pointer 3 shape ≡ true)
Tells (Moves Find) shape = (gives_pointer shape ≡ true) × (takes_pointer 0 shape ≡ true) × (takes_pointer 1 shape ≡ true) × (takes_pointer 4 shape ≡ true)
Tells (Writes CopyText) shape = (gives_pointer shape ≡ true) × (takes_pointer 0 shape ≡ true)
Tells (Writes AddText) shape = (gives_pointer shape ≡ true) × (takes_pointer 0 shape ≡ true)
Tells (Writes CopyPart) shape = (gives_pointer shape ≡ true) × (takes_pointer 0 shape ≡ true)
Tells (Writes Line) shape = (gives_pointer shape ≡ true) × (takes_pointer 0 shape ≡ true)
Tells (Writes Duplicate) shape = gives_pointer shape ≡ true
Tells (Answers Keep) shape = takes_pointer 0 shape ≡ true
Tells row shape = Unit {0}

told_by : (row : Row) (t : Ctype) (shape : List ℕ) → HasShape t shape → is_listed t ≡ true → Tells row shape → Told row t
told_by (Makes Malloc) t shape h l is = gives t shape h l is
told_by (Makes Calloc) t shape h l is = gives t shape h l is
told_by (Makes Realloc) t shape h l is = (gives t shape h l is.0, takes t shape h l 0 is.1)
told_by (Makes (Perhaps position)) t shape h l is = gives t shape h l is
told_by (Makes (Object position)) t shape h l is = gives t shape h l is
told_by (Makes (Place position)) t shape h l is = gives t shape h l is
told_by (Makes Classes) t shape h l is = gives t shape h l is
told_by (Moves CopyBytes) t shape h l is = (gives t shape h l is.0, takes t shape h l 0 is.1, takes t shape h l 1 is.2)
told_by (Moves SetBytes) t shape h l is = (gives t shape h l is.0, takes t shape h l 0 is.1)
told_by (Moves Search) t shape h l is = (gives t shape h l is.0, takes t shape h l 0 is.1)
told_by (Moves Strtol) t shape h l is = (takes t shape h l 0 is.0, takes t shape h l 1 is.1)
told_by (Moves Sort) t shape h l is = (takes t shape h l 0 is.0, takes t shape h l 3 is.1)
told_by (Moves Find) t shape h l is = (gives t shape h l is.0, takes t shape h l 0 is.1, takes t shape h l 1 is.2, takes t shape h l 4 is.3)
told_by (Writes CopyText) t shape h l is = (gives t shape h l is.0, takes t shape h l 0 is.1)
told_by (Writes AddText) t shape h l is = (gives t shape h l is.0, takes t shape h l 0 is.1)
told_by (Writes CopyPart) t shape h l is = (gives t shape h l is.0, takes t shape h l 0 is.1)
told_by (Writes Line) t shape h l is = (gives t shape h l is.0, takes t shape h l 0 is.1)
told_by (Writes Duplicate) t shape h l is = gives t shape h l is
told_by (Answers Keep) t shape h l is = takes t shape h l 0 is
told_by row t shape h l is = tt

-- two tables side by side
abbrev Fit : List Row → List Summary → Type 0
Fit [] summary = Unit {0}
Fit (row ∷ rest) [] = ⊥
Fit (row ∷ rest) (summary ∷ others) = Tells row summary.shape × Fit rest others

fit_at : (table : List Row) (summary : List Summary) → Fit table summary → (k : ℕ) (row : Row) (s : Summary) → slice_get table k ≡ Some row → slice_get summary k ≡ Some s → Tells row s.shape
fit_at [] summary h k row s e f = absurd (none_some e)
fit_at (x ∷ rest) [] h k row s e f = absurd h
fit_at (x ∷ rest) (y ∷ others) h zero row s e f = subst (λ (r : Row). Tells r s.shape) (some_one e) (subst (λ (z : Summary). Tells x z.shape) (some_one f) h.0)
fit_at (x ∷ rest) (y ∷ others) h (suc k) row s e f = fit_at rest others h.1 k row s e f

infixr 10 ◌&◌
◌&◌ : {A B : Type 0} → A → B → A × B
a & b = (a, b)

tells_all : Fit rows summaries
unfolding rows summaries
tells_all =
    -- malloc, calloc, realloc, free, memcpy, memmove, memset, strcpy, strcat, strncpy
    refl & refl & (refl, refl) & tt & (refl, refl, refl) & (refl, refl, refl) & (refl, refl) & (refl, refl) & (refl, refl) & (refl, refl)
    -- strchr, strrchr, strstr, memchr, strtol, qsort, bsearch, strlen, strcmp, strncmp, memcmp, strdup, getenv, strerror
    & (refl, refl) & (refl, refl) & (refl, refl) & (refl, refl) & (refl, refl) & (refl, refl) & (refl, refl, refl, refl) & tt & tt & tt & tt & refl & refl & refl
    -- atexit, exit, abort, printf, fprintf, sprintf, snprintf, puts, putchar, fputs, fputc, fopen, fclose, fgets
    & refl & tt & tt & tt & tt & tt & tt & tt & tt & tt & tt & refl & tt & (refl, refl)
    -- fgetc, getchar, fread, fwrite, fflush, isalpha, isdigit, isalnum, isspace, isupper, islower, toupper, tolower
    & tt & tt & tt & tt & tt & tt & tt & tt & tt & tt & tt & tt & tt
    -- atoi, __errno_location, __ctype_b_loc, __assert_fail
    & tt & refl & refl & tt & tt

-- A function's type tells what its row takes.
pub row_told : (k : ℕ) (row : Row) (s : Summary) (t : Ctype) → slice_get rows k ≡ Some row → slice_get summaries k ≡ Some s → HasShape t s.shape → is_listed t ≡ true → Told row t
row_told k row s t at there h l = told_by row t s.shape h l (fit_at rows summaries tells_all k row s at there)

-- what a library function gives is void or a scalar
pub result_told : (t : Ctype) (shape : List ℕ) → HasShape t shape → is_listed t ≡ true → (result_of t ≡ VoidType) ⊎ IsScalar (result_of t)
result_told t shape h l = held t shape h l
