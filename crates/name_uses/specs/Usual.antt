-- Names of a unit whose rows fit mean what declarations make them mean.
use Rattle.std.specs.Prelude.{ℕ, ◌≡◌, false, List}
use Rattle.core_tree.specs.declared.node.Unit.{Unit}
use Rattle.c_results.specs.declared.made.Made.{Made}
use Rattle.c_results.specs.Standing.{senses_made}
use Rattle.c_senses.specs.Rows.{world_at, AreSenses}
use Rattle.tree_reads.specs.declared.syntax.Syntax.{Syntax}
use Rattle.tree_reads.specs.Sources.{source_in}
use Rattle.c_meanings.specs.declared.names.Names.{Names}
use Rattle.c_meanings.specs.Known.{AreNames, ArePaired}
use Rattle.name_uses.specs.Built.{names_strangely}

-- where the rows before a node fit, no name at the node is strange: an enumerator's value is an int's, and an
-- object is declared by a node
abbrev pub NamesAreUsual : Type 0
NamesAreUsual =
    (syntax : Syntax) (u : Unit) (results : List Made) (names : Names) (uses : List (ℕ × ℕ))
    (at production : ℕ) (children : List ℕ)
    → AreNames syntax u results names
    → ArePaired names uses
    → AreSenses (source_in syntax uses) (senses_made u results)
    → names_strangely (world_at (source_in syntax uses) (senses_made u results) at)
    (source_in syntax uses) production children
    ≡ false
