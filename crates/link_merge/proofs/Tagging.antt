-- A unit's tag and the tag of the table that it is.
use Rattle.std.proofs.Common.{arith, ◌≡◌, ℕ, ◌+◌, ◌<◌, ◌≤◌, ◌⊎◌, List, length, map, refl, Option, Some, None, IsSome, is_some, false, MatchOption}
use Rattle.std.specs.List.{slice_get}
use Rattle.c_types.specs.declared.term.MemberTerm.{MemberTerm}
use Rattle.c_types.specs.Table.{Table, members_in}
use Rattle.c_types.specs.Made.{StandsAsStructure, StandsAsUnion, AreMembers, AreNamed, IsMade}
use Rattle.link_model.specs.link_types.Moved.{HasTypes}
use Rattle.link_merge.specs.Complete.{moved_member, AreDone}
use Rattle.link_merge.proofs.Completing.{among_first, among_some, stands_within, members_moved}

some_of : {A : Type 0} (o : Option A) → IsSome o → (x : A) × (o ≡ Some x)
some_of None h = cc
some_of (Some x) h = (x, refl)

pub none_has : {A : Type 0} (o : Option A) → o ≡ None → IsSome o → ⊥
none_has None e h = cc
none_has (Some x) e h = cc

pub match_none : {A : Type 0} (r : Option A) (P : Type 0) (Q : A → Type 0) → is_some r ≡ false → MatchOption r P Q → P
match_none None P Q e h = h
match_none (Some x) P Q e h = cc

-- a tag that was completed
abbrev pub IsCompletedAt : Table → ℕ → ℕ → Type 0
IsCompletedAt unit position tag = (members : List MemberTerm) × (slice_get unit.completed position ≡ Some (record { tag = tag; members = members }))

pub has_members : (unit : Table) (position tag : ℕ) → IsCompletedAt unit position tag → IsSome (members_in unit tag)
has_members unit position tag h = among_some unit.completed position (record { tag = tag; members = h.0 }) h.1

pub completed_stands : (unit : Table) (position tag : ℕ) → IsMade unit → IsCompletedAt unit position tag → StandsAsStructure unit.terms tag ⊎ StandsAsUnion unit.terms tag
completed_stands unit position tag made h = (let (list, is) = some_of (members_in unit tag) (has_members unit position tag h) in made.stands tag list is)

pub completed_within : (unit : Table) (position tag : ℕ) → IsMade unit → AreNamed unit → IsCompletedAt unit position tag → tag < unit.tags
completed_within unit position tag made named h = stands_within unit named tag (completed_stands unit position tag made h)

-- the list that the tag has may be its list in the table
pub members_right : (table unit : Table) (start : ℕ) (f : ℕ → ℕ) (position tag : ℕ) (list : List MemberTerm) → IsMade table → AreNamed table → IsMade unit → AreNamed unit → start + length unit.terms ≤ length table.terms → HasTypes table unit start f (length unit.terms)
    → IsCompletedAt unit position tag → members_in unit tag ≡ Some list → AreDone table unit f position → AreMembers table (f tag) (map (moved_member start) list)
members_right table unit start f position tag list made named own own_named within types at is done =
    let a = among_first unit.completed tag list is in
    let le = a.first position (record { tag = tag; members = at.0 }) at.1 refl in
    members_moved table unit start f made named own own_named within types a.at (record { tag = tag; members = list }) a.there
    (record { each = λ j c lt there. done.each j c (omega arith) there })
