-- What is asked of a declaration by those before it.
use Rattle.std.specs.Prelude.{ℕ, Bool, ◌&&◌}
use Rattle.c_types.specs.Trees.{Ctype}
use Rattle.c_senses.specs.Tree.{Source}
use Rattle.c_senses.specs.World.{World}
use Rattle.c_senses.specs.Sense.{Sense}
use Rattle.c_senses.specs.Entities.{is_same_again, has_one_linkage, internal_fits}

abbrev pub agrees_before : World → Source → (ℕ → Sense) → Bool → Ctype → ℕ → Bool
agrees_before w s sense defined t leaf =
    is_same_again w s sense t leaf && (has_one_linkage w s sense leaf && internal_fits w s sense defined t leaf)
