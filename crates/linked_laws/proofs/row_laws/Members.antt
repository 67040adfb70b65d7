-- The widths of members in a merged table.
use Rattle.std.proofs.Common.{◌≡◌, ◌∙◌, ℕ, zero, suc, List, [], ◌∷◌, Option, Some, None, slice_get, refl, ap}
use Rattle.c_types.specs.declared.term.MemberTerm.{MemberTerm}
use Rattle.c_types.specs.Trees.{Ctype, StructureOf, UnionOf}
use Rattle.c_types.specs.Table.{Table, members_in}
use Rattle.type_rules.specs.Members.{in_list, tag_of, member_at, width_of}
use Rattle.core_tree.specs.declared.node.Unit.{Unit}
use Rattle.link_model.specs.Merged.{Numbering, moved, AreMoved, IsMerged}
use Rattle.linked_laws.specs.merged_laws.Merged.{AreTables}
use Rattle.linked_laws.proofs.merged_laws.Members.{list_moved}

some_one : {X : Type 0} → {x y : X} → ◌≡◌ {A = Option X} (Some x) (Some y) → x ≡ y
some_one h = cc

none_some : {X : Type 0} → {x : X} → ◌≡◌ {A = Option X} None (Some x) → ⊥
none_some h = cc

bits_at : (units : List Unit) (n : Numbering) (table : Table) (u : ℕ) (ms ks : List MemberTerm) (k : ℕ) (m : MemberTerm) → AreMoved units n table u ms ks → slice_get ms k ≡ Some m
    → (j : MemberTerm) × (slice_get ks k ≡ Some j) × (j.bits ≡ m.bits)
bits_at units n table u [] [] k m h at = absurd (none_some at)
bits_at units n table u [] (y ∷ ks) k m h at = absurd h
bits_at units n table u (x ∷ ms) [] k m h at = absurd h
bits_at units n table u (x ∷ ms) (y ∷ ks) zero m h at = (y, refl, h.1 ∙ ap (λ (z : MemberTerm). z.bits) (some_one at))
bits_at units n table u (x ∷ ms) (y ∷ ks) (suc k) m h at = bits_at units n table u ms ks k m h.3 at

module _ (units : List Unit) (n : Numbering) (table : Table) (tables : AreTables units) (merged : IsMerged units n table) (u : ℕ) (x : Unit) (is : slice_get units u ≡ Some x) where
  width_by : (tag k : ℕ) (o : Option (List MemberTerm)) (m : MemberTerm) → members_in x.types tag ≡ o → in_list o k ≡ Some m → width_of (in_list (members_in table (n.tag u tag)) k) ≡ m.bits
  width_by tag k None m e at = absurd (none_some at)
  width_by tag k (Some ms) m e at =
      let l = list_moved units n table tables merged u x is tag ms e in
      let (j, there, bits) = bits_at units n table u ms l.members k m l.moved at in
      ap width_of (ap (λ (o : Option (List MemberTerm)). in_list o k) l.members_are ∙ there) ∙ bits

  -- the width of a member, in the table as in the unit
  pub width_moved : (t : Ctype) (k : ℕ) (m : MemberTerm) → member_at x.types (tag_of t) k ≡ Some m → width_of (member_at table (tag_of (moved n u t)) k) ≡ m.bits
  width_moved (StructureOf tag) k m at = width_by tag k (members_in x.types tag) m refl at
  width_moved (UnionOf tag) k m at = width_by tag k (members_in x.types tag) m refl at
  width_moved t k m at = absurd (none_some at)
