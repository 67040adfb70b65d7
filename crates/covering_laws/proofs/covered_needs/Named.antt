-- The objects that a call of a library function makes or names are the call's.
use Rattle.std.proofs.Common.{◌≡◌, ◌∙◌, ◌⊎◌, inl, inr, ℕ, zero, suc, ◌+◌, true, false, cond, List, [], ◌∷◌, Option, Some, None, slice_get, Contains, refl, sym, ap, subst}
use Rattle.std.specs.List.{AllZip, list_any, enumerate_from}
use Rattle.pta_base.specs.declared.effect.Effect.{Effect}
use Rattle.c_types.specs.declared.key.ObjectKey.{ObjectKey}
use Rattle.c_types.specs.declared.key.ObjectKey.TheVariants.{Entity as EntityKey, Text as TextKey, Call as CallKey, Library as LibraryKey, Star as StarKey, Function as FunctionKey}
use Rattle.c_types.specs.declared.key.ObjectKey.TheVariants.{Varargs as VarargsKey, Outside as OutsideKey}
use Rattle.c_types.specs.declared.term.PathStep.TheVariants.{Index}
use Rattle.core_tree.specs.declared.node.Node.{Node}
use Rattle.core_tree.specs.Typed.{CoreTrees, trees_in}
use Rattle.lib_summaries.specs.Table.{Row as Summary, rows as summaries, effects_among, effects_of}
use Rattle.sol_model.specs.declared.system.CallSite.{CallSite}
use Rattle.sol_model.specs.declared.system.Function.{Function}
use Rattle.obj_made.specs.declared.object.Content.TheVariants.{Blob, Scalars}
use Rattle.obj_space.specs.declared.location.Location.{Location}
use Rattle.obj_space.specs.Objects.{LibraryRow, library_rows}
use Rattle.obj_space.specs.View.{SpaceView, first_from, view_of}
use Rattle.row_numbers.specs.Functions.{functions_of}
use Rattle.call_sites.specs.Calls.{is_giving, is_named, object_by, named_library}
use Rattle.normal_form.specs.Facts.{library_by, IsFunctionFact}
use Rattle.ref_cells.specs.declared.instance.Instance.{Instance}
use Rattle.ref_cells.specs.Wholes.{is_allocated, whole_of}
use Rattle.ref_elements.specs.Objects.{object_from}
use Rattle.ref_lib.specs.declared.rows.Making.TheVariants.{Malloc, Calloc, Realloc, Perhaps, Object, Place, Classes}
use Rattle.ref_lib.specs.declared.rows.Texts.TheVariants.{Duplicate}
use Rattle.ref_lib.specs.declared.rows.Row.{Row}
use Rattle.ref_lib.specs.declared.rows.Row.TheVariants.{Makes, Writes}
use Rattle.ref_lib.specs.Effects.{rows}
use Rattle.covering_laws.specs.object_contents.Contents.{IsMadeOf}
use Rattle.covering_laws.proofs.object_contents.Contents.{contents_known}
use Rattle.covering_laws.specs.covered_memory.Spots.{spot, room, IsInTree}
use Rattle.covering_laws.specs.covered_memory.Covered.{MemoryIn}
use Rattle.covering_laws.proofs.covered_memory.Firsts.{is_first}
use Rattle.covering_laws.specs.covered_rows.Laws.{Solved, sets_in, setting_in}
use Rattle.covering_laws.specs.covered_library.Calls.{IsNamed}
use Rattle.covering_laws.specs.covered_library.Laws.{IsLibraryCall}
use Rattle.covering_laws.specs.covered_needs.Needs.{HasLibrary, LibraryMade, NamesMet, NamesAreMet}
use Rattle.covering_laws.proofs.covered_library.Fresh.{fresh_there}
use Rattle.covering_laws.proofs.covered_library.Named.{object_there, place_named, element_named, blob_named}

none_some : {X : Type 0} → {x : X} → ◌≡◌ {A = Option X} None (Some x) → ⊥
none_some h = cc

some_one : {X : Type 0} → {x y : X} → ◌≡◌ {A = Option X} (Some x) (Some y) → x ≡ y
some_one h = cc

-- the object that a call gets by the effects of a row's function
abbrev pub Finds : Row → List Effect → Type 0
Finds (Makes (Perhaps position)) effects = (s : SpaceView) (n : ℕ) (named : Option ℕ) (k : ℕ) → object_by s n named k effects ≡ s.first (LibraryKey position)
Finds (Makes (Object position)) effects = (s : SpaceView) (n : ℕ) (named : Option ℕ) (k : ℕ) → object_by s n named k effects ≡ s.first (LibraryKey position)
Finds (Makes (Place position)) effects = (s : SpaceView) (n : ℕ) (named : Option ℕ) (k : ℕ) → object_by s n named k effects ≡ s.first (LibraryKey position)
Finds (Makes Classes) effects = (s : SpaceView) (n : ℕ) (named : Option ℕ) (k : ℕ) → object_by s n named k effects ≡ s.first (LibraryKey 7)
Finds (Makes Malloc) effects = (s : SpaceView) (n : ℕ) (named : Option ℕ) (k : ℕ) → object_by s n named k effects ≡ cond (is_named named k) (s.first (CallKey n)) (s.first (StarKey k))
Finds (Makes Calloc) effects = (s : SpaceView) (n : ℕ) (named : Option ℕ) (k : ℕ) → object_by s n named k effects ≡ cond (is_named named k) (s.first (CallKey n)) (s.first (StarKey k))
Finds (Makes Realloc) effects = (s : SpaceView) (n : ℕ) (named : Option ℕ) (k : ℕ) → object_by s n named k effects ≡ cond (is_named named k) (s.first (CallKey n)) (s.first (StarKey k))
Finds (Writes Duplicate) effects = (s : SpaceView) (n : ℕ) (named : Option ℕ) (k : ℕ) → object_by s n named k effects ≡ cond (is_named named k) (s.first (CallKey n)) (s.first (StarKey k))
Finds row effects = Unit {0}

abbrev pub IsGiving : Row → List Effect → Type 0
IsGiving (Makes (Perhaps position)) effects = list_any is_giving effects ≡ true
IsGiving (Makes (Object position)) effects = list_any is_giving effects ≡ true
IsGiving (Makes (Place position)) effects = list_any is_giving effects ≡ true
IsGiving (Makes Classes) effects = list_any is_giving effects ≡ true
IsGiving (Makes Malloc) effects = list_any is_giving effects ≡ true
IsGiving (Makes Calloc) effects = list_any is_giving effects ≡ true
IsGiving (Makes Realloc) effects = list_any is_giving effects ≡ true
IsGiving (Writes Duplicate) effects = list_any is_giving effects ≡ true
IsGiving row effects = Unit {0}

abbrev Fit : (Row → List Effect → Type 0) → List Row → List Summary → Type 0
Fit P [] summary = Unit {0}
Fit P (row ∷ rest) [] = ⊥
Fit P (row ∷ rest) (summary ∷ others) = P row summary.effects × Fit P rest others

fit_at : (P : Row → List Effect → Type 0) (table : List Row) (summary : List Summary) → Fit P table summary → (k : ℕ) (row : Row) → slice_get table k ≡ Some row → P row (effects_among summary k)
fit_at P [] summary h k row e = absurd (none_some e)
fit_at P (x ∷ rest) [] h k row e = absurd h
fit_at P (x ∷ rest) (s ∷ others) h zero row e = subst (λ (r : Row). P r s.effects) (some_one e) h.0
fit_at P (x ∷ rest) (s ∷ others) h (suc k) row e = fit_at P rest others h.1 k row e

infixr 10 ◌&◌
◌&◌ : {A B : Type 0} → A → B → A × B
a & b = (a, b)

finds_all : Fit Finds rows summaries
unfolding rows summaries
finds_all =
    -- malloc, calloc, realloc, free, memcpy, memmove, memset, strcpy, strcat, strncpy
    (λ s n named k. refl) & (λ s n named k. refl) & (λ s n named k. refl) & tt & tt & tt & tt & tt & tt & tt
    -- strchr, strrchr, strstr, memchr, strtol, qsort, bsearch, strlen, strcmp, strncmp, memcmp, strdup, getenv, strerror
    & tt & tt & tt & tt & tt & tt & tt & tt & tt & tt & tt & (λ s n named k. refl) & (λ s n named k. refl) & (λ s n named k. refl)
    -- atexit, exit, abort, printf, fprintf, sprintf, snprintf, puts, putchar, fputs, fputc, fopen, fclose, fgets
    & tt & tt & tt & tt & tt & tt & tt & tt & tt & tt & tt & (λ s n named k. refl) & tt & tt
    -- fgetc, getchar, fread, fwrite, fflush, isalpha, isdigit, isalnum, isspace, isupper, islower, toupper, tolower
    & tt & tt & tt & tt & tt & tt & tt & tt & tt & tt & tt & tt & tt
    -- atoi, __errno_location, __ctype_b_loc, __assert_fail
    & tt & (λ s n named k. refl) & (λ s n named k. refl) & tt & tt

gives_all : Fit IsGiving rows summaries
unfolding rows summaries
gives_all =
    -- malloc, calloc, realloc, free, memcpy, memmove, memset, strcpy, strcat, strncpy
    refl & refl & refl & tt & tt & tt & tt & tt & tt & tt
    -- strchr, strrchr, strstr, memchr, strtol, qsort, bsearch, strlen, strcmp, strncmp, memcmp, strdup, getenv, strerror
    & tt & tt & tt & tt & tt & tt & tt & tt & tt & tt & tt & refl & refl & refl
    -- atexit, exit, abort, printf, fprintf, sprintf, snprintf, puts, putchar, fputs, fputc, fopen, fclose, fgets
    & tt & tt & tt & tt & tt & tt & tt & tt & tt & tt & tt & refl & tt & tt
    -- fgetc, getchar, fread, fwrite, fflush, isalpha, isdigit, isalnum, isspace, isupper, islower, toupper, tolower
    & tt & tt & tt & tt & tt & tt & tt & tt & tt & tt & tt & tt & tt
    -- atoi, __errno_location, __ctype_b_loc, __assert_fail
    & tt & refl & refl & tt & tt

-- what the library's objects are made of whose places rows give
abbrev IsElements : ℕ → Type 0
IsElements position =
    (row : LibraryRow) → slice_get library_rows position ≡ Some row → (row.content ≡ Scalars 0) ⊎ ((row.content ≡ Blob) × (is_allocated (LibraryKey position) ≡ true))

abbrev Points : Row → List Effect → Type 0
Points (Makes (Perhaps position)) effects = IsElements position
Points (Makes (Object position)) effects = IsElements position
Points (Makes (Place position)) effects = is_allocated (LibraryKey position) ≡ false
Points row effects = Unit {0}

text : IsElements 0
unfolding library_rows
text row h = inl (sym (ap (λ (r : LibraryRow). r.content) (some_one h)))

second_text : IsElements 1
unfolding library_rows
second_text row h = inl (sym (ap (λ (r : LibraryRow). r.content) (some_one h)))

stream : IsElements 2
unfolding library_rows
stream row h = inr (sym (ap (λ (r : LibraryRow). r.content) (some_one h)), refl)

points_all : Fit Points rows summaries
unfolding rows summaries
points_all =
    -- malloc, calloc, realloc, free, memcpy, memmove, memset, strcpy, strcat, strncpy
    tt & tt & tt & tt & tt & tt & tt & tt & tt & tt
    -- strchr, strrchr, strstr, memchr, strtol, qsort, bsearch, strlen, strcmp, strncmp, memcmp, strdup, getenv, strerror
    & tt & tt & tt & tt & tt & tt & tt & tt & tt & tt & tt & tt & text & second_text
    -- atexit, exit, abort, printf, fprintf, sprintf, snprintf, puts, putchar, fputs, fputc, fopen, fclose, fgets
    & tt & tt & tt & tt & tt & tt & tt & tt & tt & tt & tt & stream & tt & tt
    -- fgetc, getchar, fread, fwrite, fflush, isalpha, isdigit, isalnum, isspace, isupper, islower, toupper, tolower
    & tt & tt & tt & tt & tt & tt & tt & tt & tt & tt & tt & tt & tt
    -- atoi, __errno_location, __ctype_b_loc, __assert_fail
    & tt & refl & tt & tt & tt

pub row_finds : (k : ℕ) (row : Row) → slice_get rows k ≡ Some row → Finds row (effects_of k)
unfolding effects_of
row_finds k row e = fit_at Finds rows summaries finds_all k row e

pub row_gives : (k : ℕ) (row : Row) → slice_get rows k ≡ Some row → IsGiving row (effects_of k)
unfolding effects_of
row_gives k row e = fit_at IsGiving rows summaries gives_all k row e

row_points : (k : ℕ) (row : Row) → slice_get rows k ≡ Some row → Points row (effects_of k)
unfolding effects_of
row_points k row e = fit_at Points rows summaries points_all k row e

zip_right : {A B : Type 0} (R : A → B → Type 0) (xs : List A) (ys : List B) (i : ℕ) (y : B) → AllZip R xs ys → slice_get ys i ≡ Some y → (x : A) × (slice_get xs i ≡ Some x) × R x y
zip_right R [] [] i y h at = absurd (none_some at)
zip_right R [] (z ∷ ys) i y h at = absurd h
zip_right R (x ∷ xs) [] i y h at = absurd h
zip_right {B = B} R (x ∷ xs) (z ∷ ys) zero y h at = (x, refl, subst (λ (v : B). R x v) (some_one at) h.0)
zip_right R (x ∷ xs) (z ∷ ys) (suc i) y h at = zip_right R xs ys i y h.1 at

enumerated : {A : Type 0} (n : ℕ) (xs : List A) (k : ℕ) (entry : ℕ × A) → slice_get (enumerate_from n xs) k ≡ Some entry → slice_get xs k ≡ Some entry.1
enumerated n [] k entry e = absurd (none_some e)
enumerated {A = A} n (x ∷ xs) zero entry e = ap (λ (o : ℕ × A). let r : Option A = Some o.1 in r) (some_one e)
enumerated n (x ∷ xs) (suc k) entry e = enumerated (n + 1) xs k entry e

library_key : (key : ObjectKey) (k : ℕ) → library_by key ≡ Some k → key ≡ FunctionKey k
library_key (FunctionKey j) k h = ap (λ (i : ℕ). FunctionKey i) (some_one h)
library_key (EntityKey j) k h = absurd (none_some h)
library_key (TextKey j) k h = absurd (none_some h)
library_key (CallKey j) k h = absurd (none_some h)
library_key (LibraryKey j) k h = absurd (none_some h)
library_key (StarKey j) k h = absurd (none_some h)
library_key OutsideKey k h = absurd (none_some h)
library_key (VarargsKey j) k h = absurd (none_some h)

module _ (s : Solved) (n : ℕ) (node : Node) (site : CallSite) (target : ℕ) (function : Function) (library : ℕ) (call : IsLibraryCall s n node site target function library) where
  abbrev u : CoreTrees
  u = trees_in s.program

  abbrev v : SpaceView
  v = view_of s.space

  -- the function of the call's number
  function_there : slice_get (functions_of u v) target ≡ Some (FunctionKey library)
  function_there =
      let z = zip_right (λ entry f. IsFunctionFact u v entry.0 entry.1 f) (enumerate_from 0 (functions_of u v)) s.system.functions target function s.is_system.functions call.is_target.known in
      let own = enumerated 0 (functions_of u v) target z.0 z.1 in
      own ∙ ap (λ (key : ObjectKey). Some key) (library_key z.0.1 library (sym z.2.library ∙ call.fact.library))

  -- what a call gets is among its objects
  pub got : (l : ℕ) → list_any is_giving (effects_of library) ≡ true → object_by v n (named_library u node) library (effects_of library) ≡ Some l → Contains {X = ℕ × ℕ} site.fresh (target, l)
  got l giving object = fresh_there (setting_in s) n node site call.of_call target library l function_there giving object

  module _ (objects : HasLibrary s.space) (memory : List Instance) (all : MemoryIn (sets_in s) memory) where
    -- the library's object that is in memory has a location
    located : (position i : ℕ) → object_from position 0 memory ≡ Some i → (l : ℕ) × (first_from 0 s.space (LibraryKey position) ≡ Some l)
    located position i h =
        let o = object_there position memory i h in
        let inside = all i o.0 o.1 in
        (inside.first, sym (ap (first_from 0 s.space) o.2) ∙ inside.first_is)

    made_of : (position l : ℕ) → first_from 0 s.space (LibraryKey position) ≡ Some l → (x : Location) × (slice_get s.space l ≡ Some x) × (row : LibraryRow) × (slice_get library_rows position ≡ Some row) × (x.content ≡ row.content)
    made_of position l first =
        let at = (is_first s.space (LibraryKey position) l first).here in
        let row = objects l at.0 position at.1 at.2 in
        (at.0, at.1, row.0, row.1, row.2)

    element_at : (position i : ℕ) → IsElements position → object_from position 0 memory ≡ Some i → (l : ℕ) → first_from 0 s.space (LibraryKey position) ≡ Some l
        → (inst : Instance) × (slice_get memory i ≡ Some inst) × IsInTree s.program.types (whole_of s.program.types inst) (room inst) (Index 0 ∷ []) × (spot s.program.types s.space inst.key (Index 0 ∷ []) ≡ Some l)
    element_at position i elements h l first =
        let x = made_of position l first in
        elim (elements x.2 x.3) [
          | inl scalars ↦ element_named (sets_in s) s.system s.grounds memory all position l first x.0 x.1 0 (x.4 ∙ scalars) i h
          | inr blob ↦ blob_named (sets_in s) s.system s.grounds memory all position l first x.0 x.1 (x.4 ∙ blob.0) blob.1 i h
        ]

    -- the first element of a library object
    pub element_here : (position : ℕ) → IsElements position → list_any is_giving (effects_of library) ≡ true
        → ((sp : SpaceView) (m : ℕ) (named : Option ℕ) (k : ℕ) → object_by sp m named k (effects_of library) ≡ sp.first (LibraryKey position)) → IsNamed (sets_in s) site target memory position (Index 0 ∷ [])
    element_here position elements giving finds = record {
      known = λ i h. (let l = located position i h in let e = element_at position i elements h l.0 l.1 in (e.0, l.0, e.1, e.2, e.3, got l.0 giving (finds v n (named_library u node) library ∙ l.1)));
    }

    -- a library object itself
    pub place_here : (position : ℕ) → is_allocated (LibraryKey position) ≡ false → list_any is_giving (effects_of library) ≡ true
        → ((sp : SpaceView) (m : ℕ) (named : Option ℕ) (k : ℕ) → object_by sp m named k (effects_of library) ≡ sp.first (LibraryKey position)) → IsNamed (sets_in s) site target memory position []
    place_here position plain giving finds = record {
      known = λ i h. (let l = located position i h in let e = place_named (sets_in s) s.system s.grounds memory all position l.0 l.1 plain i h in (e.0, l.0, e.1, e.2, e.3, got l.0 giving (finds v n (named_library u node) library ∙ l.1)));
    }

    -- what the rows name that name a library object
    pub names_here : NamesMet s site target memory library
    names_here = record {
      perhaps = λ position at. element_here position (row_points library (Makes (Perhaps position)) at) (row_gives library (Makes (Perhaps position)) at) (row_finds library (Makes (Perhaps position)) at);
      object = λ position at. element_here position (row_points library (Makes (Object position)) at) (row_gives library (Makes (Object position)) at) (row_finds library (Makes (Object position)) at);
      place = λ position at. place_here position (row_points library (Makes (Place position)) at) (row_gives library (Makes (Place position)) at) (row_finds library (Makes (Place position)) at);
      classes = λ at. place_here 7 refl (row_gives library (Makes Classes) at) (row_finds library (Makes Classes) at);
    }

pub names_met : NamesAreMet
names_met s n node site target function library memory call objects all = names_here s n node site target function library call objects memory all

pub library_made : LibraryMade
library_made p l x k made at key =
    let right = (contents_known p l x made at).0 in
    subst (λ (o : ObjectKey). IsMadeOf p o x.content) key right
