-- The lists of members that are being gone through.
use Rattle.std.specs.Prelude.{ℕ, ◌≡◌, true, List, All}
use Rattle.c_senses.specs.Tree.{children_at}
use Rattle.c_results.specs.declared.made.Made.{Made}
use Rattle.tree_reads.specs.declared.syntax.Syntax.{Syntax}
use Rattle.tree_reads.specs.Sources.{source_read}
use Rattle.c_structures.specs.declared.before.MembersBefore.{MembersBefore}
use Rattle.c_structures.specs.declared.lists.MemberLists.{MemberLists}
use Rattle.c_structures.specs.Before.{Covers, ascends}

-- what is kept of a list: the names of its first declarations, and of the first fields of one
pub record IsOpen (syntax : Syntax) (results : List Made) (list : ℕ) (b : MembersBefore) : Type 0 where
  pub whole : Covers results (children_at (source_read syntax) list) b.whole
  pub whole_ascends : ascends (children_at (source_read syntax) list) ≡ true
  pub part : Covers results (children_at (source_read syntax) b.member) b.part
  pub part_ascends : ascends (children_at (source_read syntax) b.member) ≡ true

-- of each list that is kept
abbrev pub AreLists : Syntax → List Made → MemberLists → Type 0
AreLists syntax results lists = All (λ o. IsOpen syntax results o.list o.before) lists.open.items
