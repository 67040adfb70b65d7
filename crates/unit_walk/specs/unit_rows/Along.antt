-- What is kept beside a unit while its rows are made is right.
use Rattle.std.specs.Prelude.{List}
use Rattle.core_tree.specs.declared.node.Unit.{Unit}
use Rattle.c_results.specs.declared.made.Made.{Made}
use Rattle.c_meanings.specs.declared.names.Names.{Names}
use Rattle.c_meanings.specs.Linkages.{AreLinkages}
use Rattle.c_structures.specs.Listed.{AreLists}
use Rattle.tree_reads.specs.declared.syntax.Syntax.{Syntax}
use Rattle.unit_worlds.specs.unit_limits.Unions.{AreUnions}
use Rattle.unit_walk.specs.declared.unit_rows.along.Along.{Along}

pub record AreAlong (syntax : Syntax) (names : Names) (u : Unit) (results : List Made) (a : Along) : Type 0 where
  pub lists : AreLists syntax results a.lists
  pub unions : AreUnions u.types a.unions.items
  pub linkages : AreLinkages syntax results names a.linkages
