-- What is kept while the names of a unit are gone through.
use Rattle.std.specs.Prelude.{List}
use Rattle.c_results.specs.declared.made.Made.{Made}
use Rattle.c_meanings.specs.declared.names.Names.{Names}
use Rattle.c_meanings.specs.Linkages.{AreLinkages}
use Rattle.tree_reads.specs.declared.syntax.Syntax.{Syntax}
use Rattle.unit_names.specs.declared.declared.Asked.{Asked}
use Rattle.unit_names.specs.Firsts.{AreFirsts}

pub record AreAsked (syntax : Syntax) (results : List Made) (names : Names) (a : Asked) : Type 0 where
  pub linkages : AreLinkages syntax results names a.linkages
  pub firsts : AreFirsts syntax results a.firsts
