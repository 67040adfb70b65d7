-- A unit's members in a merged table.
use Rattle.std.proofs.Common.{◌≡◌, ◌∙◌, ◌⊎◌, ℕ, zero, suc, ◌<◌, List, [], ◌∷◌, Option, Some, None, slice_get, refl, sym, ap, subst, inl, inr}
use Rattle.c_types.specs.declared.term.Term.TheVariants.{Structure, Union}
use Rattle.c_types.specs.declared.term.MemberTerm.{MemberTerm}
use Rattle.c_types.specs.Trees.{Ctype, StructureOf, UnionOf}
use Rattle.c_types.specs.Table.{Table, type_of, members_in}
use Rattle.c_types.specs.Made.{StandsAsStructure, StandsAsUnion, AreNamed}
use Rattle.type_rules.specs.Members.{in_list, IsMemberOf}
use Rattle.core_tree.specs.declared.node.Unit.{Unit}
use Rattle.link_model.specs.Units.{item, types_if, types_in}
use Rattle.link_model.specs.Matching.{member_type}
use Rattle.link_model.specs.Merged.{Numbering, moved, AreMoved, HasList, IsMerged}
use Rattle.linked_laws.specs.merged_laws.Merged.{AreTables}

some_one : {X : Type 0} → {x y : X} → ◌≡◌ {A = Option X} (Some x) (Some y) → x ≡ y
some_one h = cc

none_some : {X : Type 0} → {x : X} → ◌≡◌ {A = Option X} None (Some x) → ⊥
none_some h = cc

-- a tag that stands is the table's
pub stands_within : (unit : Table) → AreNamed unit → (tag : ℕ) → StandsAsStructure unit.terms tag ⊎ StandsAsUnion unit.terms tag → tag < unit.tags
stands_within unit named tag h = elim h [
  | inl s ↦ (named s.0 (Structure tag) s.1).1
  | inr u ↦ (named u.0 (Union tag) u.1).1
]

moved_at : (units : List Unit) (n : Numbering) (table : Table) (u : ℕ) (ms ks : List MemberTerm) (k : ℕ) (m : MemberTerm) → AreMoved units n table u ms ks → slice_get ms k ≡ Some m
    → (j : MemberTerm) × (slice_get ks k ≡ Some j) × (type_of table j.ty.0 ≡ moved n u (member_type units u m))
moved_at units n table u [] [] k m h at = absurd (none_some at)
moved_at units n table u [] (y ∷ ks) k m h at = absurd h
moved_at units n table u (x ∷ ms) [] k m h at = absurd h
moved_at units n table u (x ∷ ms) (y ∷ ks) zero m h at = (y, refl, h.2 ∙ ap (λ (z : MemberTerm). moved n u (member_type units u z)) (some_one at))
moved_at units n table u (x ∷ ms) (y ∷ ks) (suc k) m h at = moved_at units n table u ms ks k m h.3 at

module _ (units : List Unit) (n : Numbering) (table : Table) (tables : AreTables units) (merged : IsMerged units n table) (u : ℕ) (x : Unit) (is : slice_get units u ≡ Some x) where
  pub types_is : types_in units u ≡ x.types
  types_is = ap types_if is

  -- a tag's own list stands in the table
  pub list_moved : (tag : ℕ) (ms : List MemberTerm) → members_in x.types tag ≡ Some ms → HasList units n table (n.tag u tag) u ms
  list_moved tag ms e =
      let within = stands_within x.types (tables.named u x is) tag ((tables.made u x is).stands tag ms e) in
      merged.lists (item u tag) (item u tag) ms (subst (λ (t : Table). tag < t.tags) (sym types_is) within) (record { list_is = ap (λ (t : Table). members_in t tag) types_is ∙ e; which = inl refl })

  member_by : (tag k : ℕ) (o : Option (List MemberTerm)) (m : MemberTerm) → members_in x.types tag ≡ o → in_list o k ≡ Some m
      → (j : MemberTerm) × (in_list (members_in table (n.tag u tag)) k ≡ Some j) × (type_of table j.ty.0 ≡ moved n u (type_of x.types m.ty.0))
  member_by tag k None m e at = absurd (none_some at)
  member_by tag k (Some ms) m e at =
      let l = list_moved tag ms e in
      let (j, there, type) = moved_at units n table u ms l.members k m l.moved at in
      (j, ap (λ (o : Option (List MemberTerm)). in_list o k) l.members_are ∙ there, type ∙ ap (λ (t : Table). moved n u (type_of t m.ty.0)) types_is)

  pub member_moved : (whole : Ctype) (k : ℕ) (t : Ctype) → IsMemberOf x.types whole k t → IsMemberOf table (moved n u whole) k (moved n u t)
  member_moved (StructureOf tag) k t h =
      let (j, there, type) = member_by tag k (members_in x.types tag) h.member refl h.stands in
      record { member = j; stands = there; type = type ∙ ap (moved n u) h.type }
  member_moved (UnionOf tag) k t h =
      let (j, there, type) = member_by tag k (members_in x.types tag) h.member refl h.stands in
      record { member = j; stands = there; type = type ∙ ap (moved n u) h.type }
  member_moved whole k t h = absurd (none_some h.stands)
