-- The parts of the rows of members (C11 6.5.2.3).
use Rattle.std.specs.Prelude.{ℕ, List, is_some}
use Rattle.pta_base.specs.declared.kind.Kind.TheVariants.{Operand}
use Rattle.pta_base.specs.declared.place.Place.{Place}
use Rattle.core_tree.specs.declared.node.NodeKind.TheVariants.{Deref}
use Rattle.c_types.specs.Trees.{Ctype}
use Rattle.c_consts.specs.Core.{Core, ctype_of, over}
use Rattle.c_senses.specs.Given.{Given, given_if, given_some, ◌>>=◌}
use Rattle.c_senses.specs.World.{World, members_of}
use Rattle.c_senses.specs.Objects.{part_at, member_step, member_row}

-- one step on the way to a member
abbrev pub stepped : World → Place → ℕ → Core → ℕ → Given Core
stepped w place at c k =
    given_some (part_at (members_of w (ctype_of c)) k) Operand at >>= (λ m. member_step place at c k m)

-- a member of what a pointer points to
abbrev pub pointed : World → Place → ℕ → List ℕ → Core → Ctype → Given Core
pointed w place at name v to =
    given_if (is_some (members_of w to)) Operand at (member_row w place at name (over Deref place to v))
