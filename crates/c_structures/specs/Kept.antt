-- What is kept of lists of members stays right.
use Rattle.std.specs.Prelude.{List, [], ◌∷◌, ◌++◌}
use Rattle.c_results.specs.declared.made.Made.{Made}
use Rattle.tree_reads.specs.declared.syntax.Syntax.{Syntax}
use Rattle.c_structures.specs.declared.lists.MemberLists.{MemberLists}
use Rattle.c_structures.specs.Listed.{AreLists}

-- where one thing more has been made
abbrev pub ListsKept : Type 0
ListsKept =
    (syntax : Syntax) (results : List Made) (m : Made) (lists : MemberLists)
    → AreLists syntax results lists
    → AreLists syntax (results ++ m ∷ []) lists
