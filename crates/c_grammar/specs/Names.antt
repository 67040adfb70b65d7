-- The names that the open scopes declare (C11 6.2.1).
use Rattle.std.specs.Prelude.{ℕ, ◌-◌, Bool, nat_lt, Option, Some, None, List, [], ◌∷◌, ◌++◌, take, length, codes}
use Rattle.std.specs.Prelude.{slice_index_or, if◌then◌else◌}
use Rattle.std.specs.Option.{unwrap_or}
use Rattle.std.specs.List.{flat_map}
use Rattle.std.specs.Str.{bytes_eq}

-- a declared name, and whether it is a typedef name
abbrev pub Declaration : Type 0
Declaration = List ℕ × Bool

-- the declarations of the innermost scope, and of the scopes around it from the file's on, each in the order of the
-- text
pub record Names : Type 0 where
  pub enclosing : List (List Declaration)
  pub innermost : List Declaration

abbrev pub no_names : Names
no_names = record { enclosing = []; innermost = [] }

-- a scope more is open, the innermost one is closed, and it declares a name more
abbrev pub entered : Names → Names
entered names = record { enclosing = names.enclosing ++ names.innermost ∷ []; innermost = [] }

abbrev pub left : Names → Names
left names =
    record {
      enclosing = take (length names.enclosing - 1) names.enclosing;
      innermost = slice_index_or names.enclosing (length names.enclosing - 1) names.innermost;
    }

-- the declarations of the scope that is closed; the file's scope is none of these
abbrev pub closing : Names → List Declaration
closing names = if nat_lt 0 (length names.enclosing) then names.innermost else []

abbrev pub declared : Names → Declaration → Names
declared names d = record { enclosing = names.enclosing; innermost = names.innermost ++ d ∷ [] }

abbrev pub all_declared : Names → List Declaration → Names
all_declared names [] = names
all_declared names (d ∷ ds) = all_declared (declared names d) ds

abbrev pub scope_of : List Declaration → List Declaration
scope_of scope = scope

-- what a name means behind these declarations: the last one of that name decides
abbrev pub meaning : Option Bool → List Declaration → List ℕ → Option Bool
meaning before [] name = before
meaning before (d ∷ ds) name = meaning (if bytes_eq d.0 name then Some d.1 else before) ds name

-- A name is a typedef name where its innermost declaration says so, which is the last one of those in the scopes
-- that are open. One name is a typedef name without a declaration.
unfoldable pub is_type : Names → List ℕ → Bool
is_type names name =
    unwrap_or (meaning None (flat_map scope_of names.enclosing ++ names.innermost) name)
    (bytes_eq name (codes "__builtin_va_list"))
