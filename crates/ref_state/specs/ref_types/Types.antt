-- The types of a machine: those of its program, and behind them those of the library's objects.
use Rattle.std.specs.Prelude.{ℕ, ◌+◌, List, [], ◌∷◌, ◌++◌, Option, Some, None, true, false, length, slice_get}
use Rattle.c_types.specs.declared.term.TypeId.{TypeId}
use Rattle.c_types.specs.declared.term.Term.{Term}
use Rattle.c_types.specs.declared.term.Term.TheVariants.{Integer, Pointer, Array}
use Rattle.c_types.specs.Table.{Table}
use Rattle.ref_state.specs.declared.ref_types.types.LibraryTypes.{LibraryTypes}

abbrev pub id : ℕ → TypeId
id n = record { 0 = n }

-- char, and 8 and 64 of them, where char has number n
abbrev pub character_terms : ℕ → List Term
character_terms n = Integer 1 1 true ∷ Array (id n) (Some 8) ∷ Array (id n) (Some 64) ∷ []

-- unsigned short, and 384 of them
abbrev pub class_terms : ℕ → List Term
class_terms n = Integer 2 3 false ∷ Array (id n) (Some 384) ∷ []

-- char *, and 9 of them, where char * has number n
abbrev pub pointer_terms : ℕ → ℕ → List Term
pointer_terms character n = Pointer (id character) ∷ Array (id n) (Some 9) ∷ []

-- these, and int
abbrev pub library_terms : ℕ → List Term
library_terms n = character_terms n ++ class_terms (n + 3) ++ pointer_terms n (n + 5) ++ Integer 4 4 true ∷ []

unfoldable pub types_with : Table → Table
types_with table = record table { terms = table.terms ++ library_terms (length table.terms) }

-- their numbers, where the first one has number n
abbrev pub library_ids : ℕ → LibraryTypes
library_ids n = record {
  character = id n;
  argument = id (n + 1);
  text = id (n + 2);
  classes = id (n + 4);
  pointer = id (n + 5);
  arguments = id (n + 6);
  number = id (n + 7);
}

-- the types of the library's objects in order, none for `<FILE>`, where the first of these types has number n
abbrev pub library_types : ℕ → List (Option TypeId)
library_types n =
    Some (id (n + 2))
    ∷ Some (id (n + 2))
    ∷ None
    ∷ Some (id (n + 5))
    ∷ Some (id (n + 5))
    ∷ Some (id (n + 5))
    ∷ Some (id (n + 7))
    ∷ Some (id (n + 5))
    ∷ Some (id (n + 4))
    ∷ Some (id (n + 6))
    ∷ Some (id (n + 1))
    ∷ []

abbrev pub type_in : Option (Option TypeId) → Option TypeId
type_in None = None
type_in (Some ty) = ty

abbrev pub library_type : ℕ → ℕ → Option TypeId
library_type n position = type_in (slice_get (library_types n) position)
