-- Which tags are told, before types that name them are carried.
use Rattle.std.specs.Prelude.{ℕ, ◌≡◌, ◌<◌, Bool, true, false, List, Option, Some, None, get_or}
use Rattle.c_types.specs.declared.term.MemberTerm.{MemberTerm}
use Rattle.c_types.specs.Table.{Table, members_in}
use Rattle.carried_trees.specs.carried_types.Members.{are_flagged}

-- a mark is the number 0, or nothing
abbrev pub IsMark : Option ℕ → Type 0
IsMark None = Unit {0}
IsMark (Some id) = id ≡ 0

abbrev pub AreMarks : List (Option ℕ) → Type 0
AreMarks marks = (k : ℕ) → IsMark (get_or marks k None)

-- a tag that is incomplete has a member of a type that isn't given
pub record LacksFlag (table : Table) (given incomplete : List Bool) (tag : ℕ) : Type 0 where
  pub flag : get_or incomplete tag false ≡ true
  pub list : List MemberTerm
  pub list_is : members_in table tag ≡ Some list
  pub lacks : are_flagged given list ≡ false

-- one of the first so many tags does
pub record IsPartUntold (table : Table) (given incomplete : List Bool) (count : ℕ) : Type 0 where
  pub own : ℕ
  pub few : own < count
  pub lacks : LacksFlag table given incomplete own
