-- A table that grows stays the one of all units.
use Rattle.std.proofs.Common.{◌≡◌, ℕ, suc, ◌<◌, List, [], ◌∷◌, Some, length, refl, ap, ◌∙◌, arith}
use Rattle.std.specs.List.{slice_get}
use Rattle.std.specs.Prelude.{⊤}
use Rattle.c_types.specs.declared.term.MemberTerm.{MemberTerm}
use Rattle.c_types.specs.Table.{Table, TagMembers, members_in, members_among}
use Rattle.c_types.specs.Made.{IsMade}
use Rattle.core_tree.specs.declared.node.Unit.{Unit}
use Rattle.link_model.specs.Merged.{Numbering, AreMoved, HasList, IsMerged}
use Rattle.unit_link.specs.link_program.Merging.{placed, AreMerged}
use Rattle.unit_link.specs.link_program.Ready.{IsGrown}

abbrev TypesIn : ℕ → List MemberTerm → Type 0
TypesIn n [] = ⊤
TypesIn n (m ∷ ms) = (m.ty.0 < n) × TypesIn n ms

types_in_each : (n : ℕ) (list : List MemberTerm) → ((k : ℕ) (m : MemberTerm) → slice_get list k ≡ Some m → m.ty.0 < n) → TypesIn n list
types_in_each n [] h = tt
types_in_each n (m ∷ ms) h = (h 0 m refl, types_in_each n ms (λ k x at. h (suc k) x at))

moved_grown : (units : List Unit) (n : Numbering) (old now : Table) (u : ℕ) (ms ks : List MemberTerm) → IsGrown old now → TypesIn (length old.terms) ks → AreMoved units n old u ms ks → AreMoved units n now u ms ks
moved_grown units n old now u [] [] g t h = tt
moved_grown units n old now u [] (k ∷ ks) g t h = absurd h
moved_grown units n old now u (m ∷ ms) [] g t h = absurd h
moved_grown units n old now u (m ∷ ms) (k ∷ ks) g t h = (h.0, h.1, g.kept k.ty.0 t.0 ∙ h.2, moved_grown units n old now u ms ks g t.1 h.3)

same_members : (old now : Table) (tag : ℕ) → IsGrown old now → members_in now tag ≡ members_in old tag
same_members old now tag g = ap (λ (cs : List TagMembers). members_among cs tag) g.completed

list_grown : (units : List Unit) (n : Numbering) (old now : Table) (tag u : ℕ) (list : List MemberTerm) → IsMade old → IsGrown old now → HasList units n old tag u list → HasList units n now tag u list
list_grown units n old now tag u list made g h = record {
  members = h.members;
  members_are = same_members old now tag g ∙ h.members_are;
  moved = moved_grown units n old now u list h.members g (types_in_each (length old.terms) h.members (λ k m at. (made.members tag h.members h.members_are k m at).0)) h.moved;
}

pub merged_grown : (units : List Unit) (n : Numbering) (old now : Table) → IsMade old → IsGrown old now → IsMerged units n old → IsMerged units n now
merged_grown units n old now made g h = record {
  types = λ a is. (let t = h.types a is in record { within = g.more (n.type a.unit a.number) t.within; type_is = g.kept (n.type a.unit a.number) t.within ∙ t.type_is });
  one = h.one;
  within = λ a is. (let w = h.within a is in let t = g.tags in omega arith);
  only = λ tag lt. h.only tag (let t = g.tags in omega arith);
  lists = λ a b list is counts. list_grown units n old now (n.tag a.unit a.number) b.unit list made g (h.lists a b list is counts);
  without = λ a is none. same_members old now (n.tag a.unit a.number) g ∙ h.without a is none;
}

pub are_merged_grown : (units : List Unit) (starts : List ℕ) (old now : Table) → IsMade old → IsGrown old now → AreMerged units starts old → AreMerged units starts now
are_merged_grown units starts old now made g h = record { tag = h.tag; merged = merged_grown units (placed starts h.tag) old now made g h.merged; enough = h.enough }
