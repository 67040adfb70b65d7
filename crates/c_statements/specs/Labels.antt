-- What is known of names, and of the cases and defaults before a node.
use Rattle.std.specs.Prelude.{ℕ, ℤ, ◌≡◌, ◌<◌, ◌==◌, Bool, true, false, ◌&&◌, List, All, Option, Some, None, is_some}
use Rattle.std.specs.Ordering.{nat_cmp, int_cmp, int_eq, is_eq, ordering_then}
use Rattle.std.specs.Map.{lookup}
use Rattle.core_tree.specs.declared.node.NodeKind.{NodeKind}
use Rattle.core_tree.specs.declared.node.NodeKind.TheVariants.{Case, Default}
use Rattle.c_consts.specs.Core.{Core, ctype_of}
use Rattle.c_consts.specs.Wrapped.{converted}
use Rattle.c_senses.specs.Given.{Given, Fits, Refuses}
use Rattle.c_senses.specs.Tree.{Source, any_where, numbers_from}
use Rattle.c_senses.specs.World.{World}
use Rattle.c_senses.specs.Sense.{Sense}
use Rattle.c_senses.specs.Statements.{is_default_again, is_case_again}
use Rattle.tree_reads.specs.leaf_maps.Numbers.{number_at}

abbrev pub IsAscii : List ℕ → Type 0
IsAscii bytes = All (λ b. b < 128) bytes

-- the case that is kept for a switch and a number
abbrev pub case_at : List ((ℕ × ℤ) × ℕ) → ℕ → ℤ → Option ℕ
case_at entries switch number =
    lookup (λ k. is_eq (ordering_then (nat_cmp switch k.0) (int_cmp number k.1))) entries

-- the number of a case, and whether a node is a default
abbrev pub case_number : NodeKind → Option ℤ
case_number (Case n) = Some n
case_number kind = None

abbrev pub is_default_kind : NodeKind → Bool
is_default_kind Default = true
is_default_kind kind = false

-- that is the switch, and the number
abbrev pub is_choice : Option (ℕ × ℤ) → ℕ → ℤ → Bool
is_choice None switch number = false
is_choice (Some found) switch number = (found.0 == switch) && int_eq found.1 number

-- the switches that have a default among the nodes before one, and the cases of each
abbrev pub AreDefaults : World → Source → (ℕ → Sense) → ℕ → List (ℕ × ℕ) → Type 0
AreDefaults w s sense at defaults =
    (switch : ℕ)
    → is_some (number_at defaults switch) ≡ any_where (is_default_again w s sense switch) (numbers_from 0 at)

abbrev pub AreCases : World → Source → (ℕ → Sense) → ℕ → List ((ℕ × ℤ) × ℕ) → Type 0
AreCases w s sense at cases =
    (switch : ℕ) (n : ℤ)
    → is_some (case_at cases switch n) ≡ any_where (is_case_again w s sense switch n) (numbers_from 0 at)

-- the number of a case as one of the type of its switch's value, if that is an integer
abbrev pub number_for : Given Core → ℤ → Option ℤ
number_for (Fits v) n = Some (converted (ctype_of v) n)
number_for (Refuses kind node) n = None
