-- Open tags with a member of a type that isn't given, one after another.
use Rattle.std.proofs.Common.{arith, ◌≡◌, ◌∙◌, ℕ, ◌+◌, ◌<◌, Bool, true, false, inl, inr, List, get_or, Option, Some, None, refl, sym, ap, subst, MatchBool}
use Rattle.std.proofs.lemmas.Bool.{cases_lt}
use Rattle.c_types.specs.declared.term.MemberTerm.{MemberTerm}
use Rattle.c_types.specs.Table.{Table, members_in}
use Rattle.carried_trees.specs.carried_types.Members.{are_flagged}
use Rattle.carried_trees.specs.carried_types.Told.{LacksFlag, IsPartUntold}

both_ways : (b : Bool) → b ≡ true → b ≡ false → ⊥
both_ways true h k = cc
both_ways false h k = cc

none_some : {X : Type 0} → {x : X} → ◌≡◌ {A = Option X} None (Some x) → ⊥
none_some h = cc

some_one : {X : Type 0} → {x y : X} → ◌≡◌ {A = Option X} (Some x) (Some y) → x ≡ y
some_one h = cc

pub when_true : (r : Bool) (P : Type 0) → r ≡ true → MatchBool r (P → ⊥) P → P → ⊥
when_true true P e h = h
when_true false P e h = cc

pub when_false : (r : Bool) (P : Type 0) → r ≡ false → MatchBool r (P → ⊥) P → P
when_false true P e h = cc
when_false false P e h = h

pub not_open : (table : Table) (given incomplete : List Bool) (tag : ℕ) → get_or incomplete tag false ≡ false → LacksFlag table given incomplete tag → ⊥
not_open table given incomplete tag e h = both_ways (get_or incomplete tag false) h.flag e

pub without_members : (table : Table) (given incomplete : List Bool) (tag : ℕ) → members_in table tag ≡ None → LacksFlag table given incomplete tag → ⊥
without_members table given incomplete tag e h = none_some (sym e ∙ h.list_is)

pub by_members : (table : Table) (given incomplete : List Bool) (tag : ℕ) (list : List MemberTerm) → get_or incomplete tag false ≡ true → members_in table tag ≡ Some list → (r : Bool) → r ≡ are_flagged given list → MatchBool r (LacksFlag table given incomplete tag → ⊥) (LacksFlag table given incomplete tag)
by_members table given incomplete tag list flag at true e = λ h. both_ways (are_flagged given list) (sym e) (ap (are_flagged given) (some_one (sym at ∙ h.list_is)) ∙ h.lacks)
by_members table given incomplete tag list flag at false e = record { flag = flag; list = list; list_is = at; lacks = sym e }

pub none_untold : (table : Table) (given incomplete : List Bool) → IsPartUntold table given incomplete 0 → ⊥
none_untold table given incomplete h = let few = h.few in omega (arith, few)

pub one_more : (table : Table) (given incomplete : List Bool) (count : ℕ) → (LacksFlag table given incomplete count → ⊥) → (IsPartUntold table given incomplete count → ⊥) → IsPartUntold table given incomplete (count + 1) → ⊥
one_more table given incomplete count here before h = elim (cases_lt h.own count) [
  | inl few ↦ before (record { own = h.own; few = few; lacks = h.lacks })
  | inr from ↦ (let few = h.few in let same : h.own ≡ count = omega (arith, few, from) in here (subst (λ (k : ℕ). LacksFlag table given incomplete k) same h.lacks))
]
