-- The parts of the rows of what stands behind an operand, over its sense (C11 6.5.2.3, 6.5.2.4, 6.5.3.1).
use Rattle.std.specs.Prelude.{ℕ, Bool, List, if◌then◌else◌}
use Rattle.pta_base.specs.declared.place.Place.{Place}
use Rattle.core_tree.specs.declared.node.Op.TheVariants.{Plus, Minus}
use Rattle.c_consts.specs.Core.{Core, ctype_of}
use Rattle.c_senses.specs.Given.{Given, ◌>>=◌}
use Rattle.c_senses.specs.World.{World}
use Rattle.c_senses.specs.Conversions.{operand_of}
use Rattle.c_senses.specs.Operators.{number_core}
use Rattle.c_senses.specs.Objects.{member_row, arrow_row, update_row}
use Rattle.c_senses.specs.Sense.{Sense, core_of, value_in}

abbrev pub dotted_core : World → Place → ℕ → List ℕ → Sense → Given Core
dotted_core w place at name left = core_of at left >>= member_row w place at name

abbrev pub pointed_core : World → Place → ℕ → List ℕ → Sense → Given Core
pointed_core w place at name left =
    value_in w at left >>= (λ v. arrow_row w place at name v (operand_of (ctype_of v)))

abbrev pub counted_core : World → Place → ℕ → Core → Bool → Bool → Given Core
counted_core w place at p down post =
    update_row w (if down then Minus else Plus) post place at p (number_core 1 place)

abbrev pub counted_part : World → Place → ℕ → Sense → Bool → Bool → Given Core
counted_part w place at operand down post = core_of at operand >>= (λ p. counted_core w place at p down post)
