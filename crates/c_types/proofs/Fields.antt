-- The positions of members' nodes, as they are kept.
use Rattle.std.proofs.Common.{arith, ◌≡◌, ℕ, zero, suc, ◌^◌, ◌<◌, ◌≤◌, ◌⊎◌, inl, inr, length, get_or, List, [], ◌∷◌, Option, Some, None, Bool, true, false, nat_lt, if◌then◌else◌, slice_get, slice_index, refl, ap, ◌∙◌, sym}
use Rattle.std.specs.Option.{option_and_then}
use Rattle.std.proofs.lemmas.Bool.Decides.{leb_tells}
use Rattle.c_types.specs.declared.term.Term.{Term}
use Rattle.c_types.specs.declared.term.Term.TheVariants.{Void, Bool as BoolTerm, Integer, Floating, VaList, Pointer, Array, Function, Structure, Union}
use Rattle.c_types.specs.declared.term.MemberTerm.{MemberTerm}
use Rattle.c_types.specs.declared.table.TagLayout.{TagLayout}
use Rattle.c_types.specs.Trees.{Ctype, VoidType, BoolType, IntegerType, FloatingType, VaListType, PointerTo, ArrayOf, FunctionFrom, StructureOf, UnionOf, grow}
use Rattle.c_types.specs.Table.{Table, type_of, types_of, members_in, extents_in}
use Rattle.c_types.specs.Bounds.{cap}
use Rattle.c_types.specs.Parts.{unless_flexible, within_32, position, member_node, field_in}
use Rattle.c_types.specs.Inside.{IsLayoutOf, member_place}
use Rattle.c_types.proofs.Nodes.{starts_at}
use Rattle.c_types.proofs.Lies.{extents_length}

choose_cap : (n : ℕ) (a b : Bool) → ((a ≡ true) × (cap n < 2 ^ 32)) ⊎ ((a ≡ false) × (2 ^ 32 ≤ cap n)) → ((b ≡ true) × (n < 2 ^ 32)) ⊎ ((b ≡ false) × (2 ^ 32 ≤ n)) → (if a then Some (cap n) else None) ≡ (if b then Some n else None)
choose_cap n true true (inl p) (inl q) = ap Some (omega arith)
choose_cap n false false p q = refl
choose_cap n true false (inl p) (inr q) = absurd (omega arith)
choose_cap n false true (inr p) (inl q) = absurd (omega arith)
choose_cap n true b (inr p) q = absurd (cc)
choose_cap n false b (inl p) q = absurd (cc)
choose_cap n a true p (inr q) = absurd (cc)
choose_cap n a false p (inl q) = absurd (cc)

told : {b : Bool} (m : ℕ) → ((b ≡ true) × (suc m ≤ 2 ^ 32)) ⊎ ((b ≡ false) × (2 ^ 32 < suc m)) → ((b ≡ true) × (m < 2 ^ 32)) ⊎ ((b ≡ false) × (2 ^ 32 ≤ m))
told m (inl p) = inl (p.0, omega (arith, p.1))
told m (inr p) = inr (p.0, omega (arith, p.1))

within_cap : (n : ℕ) → within_32 (Some (cap n)) ≡ within_32 (Some n)
within_cap n = choose_cap n (nat_lt (cap n) (2 ^ 32)) (nat_lt n (2 ^ 32)) (told (cap n) (leb_tells (suc (cap n)) (2 ^ 32))) (told n (leb_tells (suc n) (2 ^ 32)))

place_cap : (t : Ctype) (n : ℕ) → within_32 (unless_flexible t (cap n)) ≡ within_32 (unless_flexible t n)
place_cap (ArrayOf of None) n = refl
place_cap (ArrayOf of (Some k)) n = within_cap n
place_cap VoidType n = within_cap n
place_cap BoolType n = within_cap n
place_cap (IntegerType size rank signed) n = within_cap n
place_cap FloatingType n = within_cap n
place_cap VaListType n = within_cap n
place_cap (PointerTo to) n = within_cap n
place_cap (FunctionFrom r ps f) n = within_cap n
place_cap (StructureOf tag) n = within_cap n
place_cap (UnionOf tag) n = within_cap n

within : {A : Type 0} (xs : List A) (i : ℕ) (x : A) → slice_get xs i ≡ Some x → i < length xs
within [] i x h = cc
within (y ∷ xs) zero x h = omega arith
within (y ∷ xs) (suc i) x h = omega (arith, within xs i x h)

module _ (table : Table) (tag : ℕ) (l : TagLayout) (h : IsLayoutOf table tag l) (k : ℕ) where
  pub structure_place : within_32 (member_place (types_of table) l.members.items k (slice_index l.positions.items k)) ≡ within_32 (field_in table (StructureOf tag) k)
  structure_place =
      go (slice_get l.members.items k) refl
      ∙ sym (ap (λ (o : Option (List MemberTerm)). within_32 (member_node table (λ ms. position (extents_in table ms) k) o k)) h.members)
    where
      go : (o : Option MemberTerm) → slice_get l.members.items k ≡ o → within_32 (option_and_then (λ m. unless_flexible (type_of table m.ty.0) (slice_index l.positions.items k)) (slice_get l.members.items k)) ≡ within_32 (option_and_then (λ m. unless_flexible (type_of table m.ty.0) (position (extents_in table l.members.items) k)) (slice_get l.members.items k))
      go None at =
          ap (λ (o : Option MemberTerm). within_32 (option_and_then (λ m. unless_flexible (type_of table m.ty.0) (slice_index l.positions.items k)) o)) at
          ∙ sym (ap (λ (o : Option MemberTerm). within_32 (option_and_then (λ m. unless_flexible (type_of table m.ty.0) (position (extents_in table l.members.items) k)) o)) at)
      go (Some m) at =
          let lt : k < length (extents_in table l.members.items) = omega (arith, within l.members.items k m at, extents_length table l.members.items) in
          let start : slice_index l.positions.items k ≡ cap (position (extents_in table l.members.items) k) = ap (λ (ps : List ℕ). get_or ps k 0) h.positions ∙ starts_at 1 (extents_in table l.members.items) k lt in
          ap (λ (o : Option MemberTerm). within_32 (option_and_then (λ m. unless_flexible (type_of table m.ty.0) (slice_index l.positions.items k)) o)) at
          ∙ (ap (λ (n : ℕ). within_32 (unless_flexible (type_of table m.ty.0) n)) start
          ∙ (place_cap (type_of table m.ty.0) (position (extents_in table l.members.items) k)
          ∙ sym (ap (λ (o : Option MemberTerm). within_32 (option_and_then (λ m. unless_flexible (type_of table m.ty.0) (position (extents_in table l.members.items) k)) o)) at)))

  pub union_place : within_32 (member_place (types_of table) l.members.items k 0) ≡ within_32 (field_in table (UnionOf tag) k)
  union_place = sym (ap (λ (o : Option (List MemberTerm)). within_32 (member_node table (λ ms. 0) o k)) h.members)

-- where the tag isn't complete
pub no_structure_field : (table : Table) (tag k : ℕ) → members_in table tag ≡ None → None ≡ within_32 (field_in table (StructureOf tag) k)
no_structure_field table tag k h = sym (ap (λ (o : Option (List MemberTerm)). within_32 (member_node table (λ ms. position (extents_in table ms) k) o k)) h)

pub no_union_field : (table : Table) (tag k : ℕ) → members_in table tag ≡ None → None ≡ within_32 (field_in table (UnionOf tag) k)
no_union_field table tag k h = sym (ap (λ (o : Option (List MemberTerm)). within_32 (member_node table (λ ms. 0) o k)) h)

-- of another type
pub no_field : (table : Table) (types : List Ctype) (t : Term) (k : ℕ) → ((tag : ℕ) → t ≡ Structure tag → ⊥) → ((tag : ℕ) → t ≡ Union tag → ⊥) → None ≡ within_32 (field_in table (grow types t) k)
no_field table types (Structure tag) k a b = absurd (a tag refl)
no_field table types (Union tag) k a b = absurd (b tag refl)
no_field table types Void k a b = refl
no_field table types BoolTerm k a b = refl
no_field table types (Integer size rank signed) k a b = refl
no_field table types Floating k a b = refl
no_field table types VaList k a b = refl
no_field table types (Pointer to) k a b = refl
no_field table types (Array of n) k a b = refl
no_field table types (Function r ps f) k a b = refl
