-- When types of one name agree.
use Rattle.std.specs.Prelude.{ℕ, ◌≡◌, true, List, ◌∷◌, ◌++◌, None}
use Rattle.c_types.specs.Trees.{Ctype}
use Rattle.c_senses.specs.Entities.{all_together, agrees_with}
use Rattle.c_senses.specs.Sense.{Sense}
use Rattle.c_senses.specs.Tree.{Source}
use Rattle.c_senses.specs.World.{World}
use Rattle.declaration_laws.specs.joined_types.Joined.{AllAgree}

abbrev pub TypesAgreed : Type 0
TypesAgreed =
    (w : World) (s : Source) (sense : ℕ → Sense) (ts : List Ctype)
    → ((before : List Ctype) (t : Ctype) (after : List Ctype) → ts ≡ before ++ t ∷ after
    → agrees_with w s sense t (all_together None before) ≡ true)
    → AllAgree None ts
