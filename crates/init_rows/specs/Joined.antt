-- The productions of initialisers.
use Rattle.std.specs.Prelude.{ℕ, ◌==◌, ◌||◌, IsTrue}
use Rattle.c_grammar.specs.Productions.{p_init, p_items, p_designator}

abbrev pub IsInitialPart : ℕ → Type 0
IsInitialPart production =
    IsTrue ((production == p_init) || ((production == p_items) || (production == p_designator)))
