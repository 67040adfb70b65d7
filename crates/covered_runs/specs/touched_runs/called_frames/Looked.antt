-- Through which of its arguments a library function looks at objects.
use Rattle.std.specs.Prelude.{ℕ, List, [], ◌∷◌, Option, Some, None, slice_get}
use Rattle.ref_lib.specs.declared.rows.Making.TheVariants.{Realloc}
use Rattle.ref_lib.specs.declared.rows.Elements.TheVariants.{CopyBytes, SetBytes, Search, Strtol, Sort, Find}
use Rattle.ref_lib.specs.declared.rows.Texts.TheVariants.{Length, Compare, ComparePart, CopyText, AddText, CopyPart}
use Rattle.ref_lib.specs.declared.rows.Texts.TheVariants.{Duplicate, Print, PrintPart, Line, Block}
use Rattle.ref_lib.specs.declared.rows.Row.{Row}
use Rattle.ref_lib.specs.declared.rows.Row.TheVariants.{Makes, Moves, Writes}
use Rattle.ref_lib.specs.Effects.{rows}

-- The arguments of a row's function, from 0, that lead to what it may read or write: realloc's old object, where bytes
-- and elements are copied, set, searched and sorted, where a number's text ends, and texts that are read, copied,
-- compared and written (C11 7.21.6, 7.21.7.2, 7.21.8.1, 7.22.1.4, 7.22.3.5, 7.22.5, 7.24). The other rows look at no
-- object but those that they make.
abbrev pub looked_at : Row → List ℕ
looked_at (Makes Realloc) = 0 ∷ []
looked_at (Moves CopyBytes) = 0 ∷ 1 ∷ []
looked_at (Moves SetBytes) = 0 ∷ []
looked_at (Moves Search) = 0 ∷ []
looked_at (Moves Strtol) = 0 ∷ 1 ∷ []
looked_at (Moves Sort) = 0 ∷ []
looked_at (Moves Find) = 0 ∷ 1 ∷ []
looked_at (Writes Length) = 0 ∷ []
looked_at (Writes Compare) = 0 ∷ 1 ∷ []
looked_at (Writes ComparePart) = 0 ∷ 1 ∷ []
looked_at (Writes CopyText) = 0 ∷ 1 ∷ []
looked_at (Writes AddText) = 0 ∷ 1 ∷ []
looked_at (Writes CopyPart) = 0 ∷ 1 ∷ []
looked_at (Writes Duplicate) = 0 ∷ []
looked_at (Writes Print) = 0 ∷ []
looked_at (Writes PrintPart) = 0 ∷ []
looked_at (Writes Line) = 0 ∷ []
looked_at (Writes Block) = 0 ∷ []
looked_at row = []

abbrev pub looked_in : Option Row → List ℕ
looked_in None = []
looked_in (Some row) = looked_at row

-- those of the library function of a number
abbrev pub looked_by : ℕ → List ℕ
looked_by k = looked_in (slice_get rows k)
