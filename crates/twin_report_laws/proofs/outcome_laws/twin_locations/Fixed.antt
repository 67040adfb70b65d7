-- The library's objects, which have no numbers of the program.
use Rattle.std.proofs.Common.{◌≡◌, ◌+◌, ◌-◌, ℕ, zero, suc, Bool, true, false, List, [], ◌∷◌, ◌++◌, map, refl, sym, ap, subst, inl, inr}
use Rattle.std.specs.Prelude.{⊤, codes, if◌then◌else◌, nat_eq, nat_lt}
use Rattle.c_types.specs.declared.key.ObjectKey.TheVariants.{Library as LibraryKey, Star as StarKey, Function as FunctionKey, Outside as OutsideKey}
use Rattle.c_types.specs.Table.{Table}
use Rattle.core_tree.specs.declared.node.Program.{Program}
use Rattle.obj_made.specs.declared.object.Content.{Content}
use Rattle.obj_made.specs.declared.object.Content.TheVariants.{Function, Blob, Scalar, Scalars, Typed, Elements}
use Rattle.obj_made.specs.declared.object.Object.{Object}
use Rattle.obj_made.specs.Uses.{is_named, is_starred}
use Rattle.obj_space.specs.Objects.{named_object, library_name, function_if, function_object, functions_below, LibraryRow, library_rows, is_needed, library_object, library_objects_from, library_objects, star_if, star_object, star_objects, takes_arguments, outside_objects, library_part}
use Rattle.twin_report_laws.specs.outcome_laws.twin_programs.One.{Numbers}
use Rattle.twin_report_laws.specs.outcome_laws.twin_locations.Same.{number_moved}
use Rattle.twin_report_laws.proofs.outcome_laws.twin_locations.Members.{Member}
use Rattle.twin_report_laws.proofs.outcome_laws.twin_locations.Cells.{cell_moved, cells}
use Rattle.twin_report_laws.proofs.outcome_laws.twin_locations.Objects.{SameObject}

-- no function, and made of no type that has a tag
abbrev pub IsFixed : Content → Type 0
IsFixed Function = ⊥
IsFixed Blob = ⊤
IsFixed (Scalar number) = nat_lt number 8 ≡ true
IsFixed (Scalars number) = nat_lt number 8 ≡ true
IsFixed (Typed id) = ⊥
IsFixed (Elements id) = ⊥

pub data IsLibraryObject : Object → Type 0 where
  function : (k : ℕ) → IsLibraryObject (named_object (FunctionKey k) (library_name k) Function)
  fixed : (k : ℕ) (name : List ℕ) (content : Content) → IsFixed content → IsLibraryObject (named_object (LibraryKey k) name content)
  star : (k : ℕ) (name : List ℕ) (content : Content) → IsFixed content → IsLibraryObject (named_object (StarKey k) name content)
  outside : IsLibraryObject (named_object OutsideKey (codes "<outside>") Blob)

abbrev AllLibrary : List Object → Type 0
AllLibrary [] = ⊤
AllLibrary (o ∷ rest) = IsLibraryObject o × AllLibrary rest

all_append : (a b : List Object) → AllLibrary a → AllLibrary b → AllLibrary (a ++ b)
all_append [] b h k = k
all_append (o ∷ a) b h k = (h.0, all_append a b h.1 k)

all_member : (os : List Object) (o : Object) → AllLibrary os → Member os o → IsLibraryObject o
all_member [] o h m = absurd m
all_member (a ∷ rest) o h (inl same) = subst IsLibraryObject same h.0
all_member (a ∷ rest) o h (inr m) = all_member rest o h.1 m

functions_right : (p : Program) (n : ℕ) → AllLibrary (functions_below p n)
unfolding functions_below
functions_right p zero = tt
functions_right p (suc n) = all_append (functions_below p n) (function_object p n) (functions_right p n) (by (is_named p.entities.items p.nodes.items n))
  where
    by : (b : Bool) → AllLibrary (function_if b n)
    by true = (function n, tt)
    by false = tt

abbrev RowsFixed : List LibraryRow → Type 0
RowsFixed [] = ⊤
RowsFixed (row ∷ rest) = IsFixed row.content × RowsFixed rest

library_right : (named : ℕ → Bool) (arguments : Bool) (k : ℕ) (rows : List LibraryRow) → RowsFixed rows → AllLibrary (library_objects_from named arguments k rows)
library_right named arguments k [] h = tt
library_right named arguments k (row ∷ rest) h =
    all_append (library_object named arguments k row) (library_objects_from named arguments (k + 1) rest) (by (is_needed named arguments row)) (library_right named arguments (k + 1) rest h.1)
  where
    by : (b : Bool) → AllLibrary (if b then named_object (LibraryKey k) row.name row.content ∷ [] else [])
    by true = (fixed k row.name row.content h.0, tt)
    by false = tt

rows_fixed : RowsFixed library_rows
unfolding library_rows
rows_fixed = (refl, (refl, (tt, (refl, (refl, (refl, (refl, (refl, (refl, (refl, (refl, tt)))))))))))

star_right : (b : Bool) (k : ℕ) → AllLibrary (star_if b k)
star_right true k = (star k _ _ (by (nat_eq k 21)), tt)
  where
    by : (b : Bool) → IsFixed (if b then Scalars 0 else Blob)
    by true = refl
    by false = tt
star_right false k = tt

outside_right : (entries : List ℕ) → AllLibrary (outside_objects entries)
outside_right [] = tt
outside_right (e ∷ rest) = (outside, tt)

all_library : (p : Program) → AllLibrary (library_part p)
unfolding library_objects
all_library p =
    let named = is_named p.entities.items p.nodes.items in
    let starred = is_starred p.entities.items p.nodes.items in
    let last = outside_objects p.entries.items in
    all_append (functions_below p 55) (library_objects named (takes_arguments p) ++ (star_objects p ++ last)) (functions_right p 55)
    (all_append (library_objects named (takes_arguments p)) (star_objects p ++ last) (library_right named (takes_arguments p) 0 library_rows rows_fixed)
    (all_append (star_objects p) last
    (all_append (star_object p 0) (star_object p 1 ++ (star_object p 2 ++ star_object p 21)) (star_right (starred 0) 0)
    (all_append (star_object p 1) (star_object p 2 ++ star_object p 21) (star_right (starred 1) 1)
    (all_append (star_object p 2) (star_object p 21) (star_right (starred 2) 2) (star_right (starred 21) 21))))
    (outside_right p.entries.items)))

pub library_view : (p : Program) (o : Object) → Member (library_part p) o → IsLibraryObject o
library_view p o m = all_member (library_part p) o (all_library p) m

scalar_fixed : (f : ℕ → ℕ) (number : ℕ) → nat_lt number 8 ≡ true → number ≡ number_moved f number
scalar_fixed f number h = sym (ap (λ (b : Bool). if b then number else 8 + f (number - 8)) h)

fixed_cells : (table other : Table) (f : ℕ → ℕ) (content : Content) → IsFixed content → cells other content ≡ map (cell_moved f) (cells table content)
fixed_cells table other f Function h = absurd h
fixed_cells table other f Blob h = refl
fixed_cells table other f (Scalar number) h = ap (λ (n : ℕ). record { suffix = []; ty = n; collapsed = false } ∷ []) (scalar_fixed f number h)
fixed_cells table other f (Scalars number) h = ap (λ (n : ℕ). record { suffix = []; ty = n; collapsed = false } ∷ []) (scalar_fixed f number h)
fixed_cells table other f (Typed id) h = absurd h
fixed_cells table other f (Elements id) h = absurd h

-- an object of the library is the same in both programs
pub library_twin : (p q : Program) (to : Numbers) (o : Object) → IsLibraryObject o → SameObject p q to o o
library_twin p q to o (function k) = record { key = refl; name = refl; nodes = refl }
library_twin p q to o (fixed k name content h) = record { key = refl; name = refl; nodes = fixed_cells p.types q.types to.tag content h }
library_twin p q to o (star k name content h) = record { key = refl; name = refl; nodes = fixed_cells p.types q.types to.tag content h }
library_twin p q to o outside = record { key = refl; name = refl; nodes = refl }
