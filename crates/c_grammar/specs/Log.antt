-- How the scopes keep what each name means now: a log of the declarations, each with what its name meant before,
-- and an entry for each name.
use Rattle.std.specs.Prelude.{◌≡◌, ℕ, Bool, Option, None, IsSome, List, [], ◌∷◌, ◌++◌, map}
use Rattle.std.specs.Global.{Vec}
use Rattle.std.specs.List.{flat_map}
use Rattle.c_grammar.specs.declared.current.Current.{Current}
use Rattle.c_grammar.specs.declared.scopes.Declared.{Declared}
use Rattle.c_grammar.specs.Current.{place_in, known, Indexed, Means}
use Rattle.c_grammar.specs.Names.{Declaration, meaning}

abbrev pub seen : Declared → Declaration
seen d = (d.name.items, d.is_type)

abbrev pub seen_all : List Declared → List Declaration
seen_all ds = map seen ds

abbrev pub seen_scope : Vec Declared → List Declaration
seen_scope scope = seen_all scope.items

abbrev pub itself : Vec Declared → List Declared
itself scope = scope.items

-- all declarations of the open scopes, in the order of the text
abbrev pub log : List (Vec Declared) → List Declared → List Declared
log enclosing innermost = flat_map itself enclosing ++ innermost

-- a name that has an entry has another meaning, and every other name has what it had
abbrev pub Restores : Current → List ℕ → Option Bool → Current → Type 0
Restores old name before new = IsSome (place_in old.places name) → Means old name before new

-- each declaration of the second list, which follows the first, has what its name meant before it
abbrev pub Recorded : List Declared → List Declared → Type 0
Recorded earlier [] = Unit {0}
Recorded earlier (d ∷ ds) =
    (d.before ≡ meaning None (seen_all earlier) d.name.items) × Recorded (earlier ++ d ∷ []) ds

-- the entries say what each name means behind the declarations of both lists, and the second list is recorded
abbrev pub Says : List Declared → List Declared → Current → Type 0
Says earlier ds current =
    Recorded earlier ds × ((q : List ℕ) → known current q ≡ meaning None (seen_all (earlier ++ ds)) q)

pub record Kept (enclosing : List (Vec Declared)) (innermost : List Declared) (current : Current) : Type 0 where
  pub says : Says [] (log enclosing innermost) current
  pub indexed : Indexed current

-- the declarations of a scope are taken back
abbrev pub Forgets : List Declared → Current → Current → Type 0
Forgets scope old new = (earlier : List Declared) → Says earlier scope old → Says earlier [] new
