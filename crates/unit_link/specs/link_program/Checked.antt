-- Units without a fault of linking.
use Rattle.std.specs.Prelude.{ℕ, ◌+◌, List, length, slice_index}
use Rattle.c_types.specs.Table.{Table}
use Rattle.core_tree.specs.declared.node.Unit.{Unit}
use Rattle.link_names.specs.declared.declared.Declared.{Declared}
use Rattle.link_names.specs.declared.names.Names.{Names}
use Rattle.link_names.specs.Externals.{Joined, AreDeclarations}
use Rattle.link_names.specs.Faults.{AreFaultless}
use Rattle.link_names.specs.Names.{AreNames}

-- the units with their types in that table, where those of unit u begin at its start
abbrev pub joined_by : List Unit → Table → List ℕ → Joined
joined_by units table starts = record { units = units; table = table; place = λ u i. slice_index starts u + i }

-- all declarations of external names, without fault where those entries are named, and what they say of each name
pub record AreChecked (entered : List (List ℕ)) (j : Joined) (ds : List Declared) (names : Names) : Type 0 where
  pub declared : AreDeclarations j.units ds
  pub faultless : AreFaultless j ds entered (length ds)
  pub said : AreNames j ds names
