-- Members that may stand, one after another.
use Rattle.std.proofs.Common.{arith, ◌≡◌, ℕ, zero, suc, ◌+◌, ◌*◌, ◌<◌, ◌≤◌, Bool, true, false, ◌&&◌, ◌||◌, not, List, [], ◌∷◌, Option, Some, None, IsSome, All, length, map, drop, get_or, slice_get, refl, sym, ap, subst, ◌∙◌, ◌⊎◌, inl, inr, length-drop}
use Rattle.std.specs.Prelude.{◌==◌, is_some, nat_lt, nat_le}
use Rattle.std.proofs.lemmas.Bool.Decides.{nat_tests}
use Rattle.std.proofs.lemmas.List.{drop_more}
use Rattle.std.proofs.lemmas.List.Elements.{All-head, All-tail}
use Rattle.c_types.specs.Trees.{Ctype, VoidType, BoolType, IntegerType, FloatingType, VaListType, PointerTo, ArrayOf, FunctionFrom, StructureOf, UnionOf}
use Rattle.c_types.specs.Table.{Table, type_of, extent_in}
use Rattle.c_types.specs.Made.{HasBits, IsFlexible, IsMember, AreMembers, StandsAsStructure}
use Rattle.c_types.specs.declared.term.MemberTerm.{MemberTerm}
use Rattle.c_inits.specs.Tables.{part_of}
use Rattle.struct_rows.specs.Taken.{bits_fit, is_none_left, is_flexible, type_fits, takes_member, takes}

and_left : (a b : Bool) → (a && b) ≡ true → a ≡ true
and_left true b h = refl
and_left false b h = h

and_right : (a b : Bool) → (a && b) ≡ true → b ≡ true
and_right true b h = h
and_right false b h = cc

or_cases : (a b : Bool) → (a || b) ≡ true → (a ≡ true) ⊎ (b ≡ true)
or_cases true b h = inl refl
or_cases false b h = inr h

not_true : (a : Bool) → not a ≡ true → a ≡ false
not_true true h = cc
not_true false h = refl

some_is : {X : Type 0} (o : Option X) → is_some o ≡ true → IsSome o
some_is (Some x) h = refl
some_is None h = cc

widths : (most bits : ℕ) → (nat_lt 0 bits && nat_le bits most) ≡ true → (1 ≤ bits) × (bits ≤ most)
widths most bits h =
    let a = and_left (nat_lt 0 bits) (nat_le bits most) h in
    let b = and_right (nat_lt 0 bits) (nat_le bits most) h in
    (grind (arith, nat_tests, a), grind (arith, nat_tests, b))

has_bits : (t : Ctype) (bits : Option ℕ) → bits_fit t bits ≡ true → HasBits t bits
has_bits t None h = tt
has_bits BoolType (Some bits) h = widths 8 bits h
has_bits (IntegerType size rank signed) (Some bits) h = widths (8 * size) bits h
has_bits VoidType (Some bits) h = cc
has_bits FloatingType (Some bits) h = cc
has_bits VaListType (Some bits) h = cc
has_bits (PointerTo to) (Some bits) h = cc
has_bits (ArrayOf of n) (Some bits) h = cc
has_bits (FunctionFrom r ps f) (Some bits) h = cc
has_bits (StructureOf tag) (Some bits) h = cc
has_bits (UnionOf tag) (Some bits) h = cc

flexible_is : (table : Table) (t : Ctype) → is_flexible (extent_in table) t ≡ true → IsFlexible table t
flexible_is table (ArrayOf of None) h = some_is (extent_in table of) h
flexible_is table (ArrayOf of (Some n)) h = cc
flexible_is table VoidType h = cc
flexible_is table BoolType h = cc
flexible_is table (IntegerType size rank signed) h = cc
flexible_is table FloatingType h = cc
flexible_is table VaListType h = cc
flexible_is table (PointerTo to) h = cc
flexible_is table (FunctionFrom r ps f) h = cc
flexible_is table (StructureOf tag) h = cc
flexible_is table (UnionOf tag) h = cc

abbrev none_of : (X : Type 0) → List X
none_of X = []

none_at : (k : ℕ) (m : MemberTerm) → slice_get (none_of MemberTerm) k ≡ Some m → ⊥
none_at zero m at = cc
none_at (suc k) m at = cc

first_not : (j : ℕ) → (j == 0) ≡ false → 0 < j
first_not j h = grind (arith, nat_tests, h)

last_is : (table : Table) (rest : List MemberTerm) → is_none_left (map (part_of table) rest) ≡ true → length rest ≡ 0
last_is table [] h = refl
last_is table (x ∷ rest) h = cc

module _ (table : Table) (tag : ℕ) (whole : List MemberTerm) (is_union : Bool) (stands : is_union ≡ false → StandsAsStructure table.terms tag) where
  member_is : (j : ℕ) (m : MemberTerm) (rest : List MemberTerm) → length whole ≡ j + (1 + length rest) → takes_member (extent_in table) is_union (j == 0) (is_none_left (map (part_of table) rest)) (part_of table m) ≡ true → IsMember table tag whole j m
  member_is j m rest long h =
      let t = type_of table m.ty.0 in
      let last = is_none_left (map (part_of table) rest) in
      let fits = and_right (bits_fit t m.bits) (type_fits (extent_in table) is_union (j == 0) last t) h in
      record {
        object = elim (or_cases (is_some (extent_in table t)) (not is_union && (not (j == 0) && (last && is_flexible (extent_in table) t))) fits) [
          | inl whole_type ↦ inl (some_is (extent_in table t) whole_type)
          | inr ends ↦
              let structure = not_true is_union (and_left (not is_union) (not (j == 0) && (last && is_flexible (extent_in table) t)) ends) in
              let more = and_right (not is_union) (not (j == 0) && (last && is_flexible (extent_in table) t)) ends in
              let behind = not_true (j == 0) (and_left (not (j == 0)) (last && is_flexible (extent_in table) t) more) in
              let most = and_right (not (j == 0)) (last && is_flexible (extent_in table) t) more in
              inr (record {
                flexible = flexible_is table t (and_right last (is_flexible (extent_in table) t) most);
                after = first_not j behind;
                last = (let e = last_is table rest (and_left last (is_flexible (extent_in table) t) most) in omega (arith, long, e));
                structure = stands structure;
              })
        ];
        bits = has_bits t m.bits (and_left (bits_fit t m.bits) (type_fits (extent_in table) is_union (j == 0) last t) h);
      }

  members_from : (j : ℕ) (ms : List MemberTerm) → length whole ≡ j + length ms → All (λ m. m.ty.0 < length table.terms) ms → takes (extent_in table) is_union (j == 0) (map (part_of table) ms) ≡ true → (k : ℕ) (m : MemberTerm) → slice_get ms k ≡ Some m → (m.ty.0 < length table.terms) × IsMember table tag whole (j + k) m
  members_from j [] long within h k m at = absurd (none_at k m at)
  members_from j (x ∷ rest) long within h zero m at =
      let same : x ≡ m = cc in
      let here = member_is j x rest (omega (arith, long)) (and_left (takes_member (extent_in table) is_union (j == 0) (is_none_left (map (part_of table) rest)) (part_of table x)) (takes (extent_in table) is_union false (map (part_of table) rest)) h) in
      let place : j ≡ j + 0 = omega arith in
      subst (λ (y : MemberTerm). (y.ty.0 < length table.terms) × IsMember table tag whole (j + 0) y) same
      (All-head (λ (y : MemberTerm). y.ty.0 < length table.terms) x rest within, subst (λ (i : ℕ). IsMember table tag whole i x) place here)
  members_from j (x ∷ rest) long within h (suc k) m at =
      let others = and_right (takes_member (extent_in table) is_union (j == 0) (is_none_left (map (part_of table) rest)) (part_of table x)) (takes (extent_in table) is_union false (map (part_of table) rest)) h in
      let not_first : (suc j == 0) ≡ false = grind (arith, nat_tests) in
      let from = members_from (suc j) rest (omega (arith, long)) (All-tail (λ (y : MemberTerm). y.ty.0 < length table.terms) x rest within) (ap (λ (b : Bool). takes (extent_in table) is_union b (map (part_of table) rest)) not_first ∙ others) k m at in
      let place : suc j + k ≡ j + suc k = omega arith in
      subst (λ (i : ℕ). (m.ty.0 < length table.terms) × IsMember table tag whole i m) place from

pub are_members : (table : Table) (tag : ℕ) (ms : List MemberTerm) (is_union : Bool) → (is_union ≡ false → StandsAsStructure table.terms tag) → All (λ m. m.ty.0 < length table.terms) ms → takes (extent_in table) is_union true (map (part_of table) ms) ≡ true → AreMembers table tag ms
are_members table tag ms is_union stands within h = λ k m at.
    let first : (0 == 0) ≡ true = refl in
    let place : 0 + k ≡ k = omega arith in
    subst (λ (i : ℕ). (m.ty.0 < length table.terms) × IsMember table tag ms i m) place (members_from table tag ms is_union stands 0 ms (omega arith) within h k m at)

none_left : (table : Table) (rest : List MemberTerm) → is_none_left (map (part_of table) rest) ≡ (length rest == 0)
none_left table [] = refl
none_left table (x ∷ rest) = grind (arith, nat_tests)

same_test : (a b c d : ℕ) → a + c ≡ b + d → (a == b) ≡ (c == d)
same_test a b c d h = grind (arith, nat_tests, h)

-- a member that isn't taken
pub takes_not : (table : Table) (is_union : Bool) (ms : List MemberTerm) (i : ℕ) (m : MemberTerm) → i < length ms → m ≡ get_or ms i m → takes_member (extent_in table) is_union (i == 0) (i + 1 == length ms) (part_of table m) ≡ false → takes (extent_in table) is_union (i == 0) (map (part_of table) (drop i ms)) ≡ false
takes_not table is_union ms i m h at fails =
    let rest = drop (i + 1) ms in
    let last : is_none_left (map (part_of table) rest) ≡ (i + 1 == length ms) = none_left table rest ∙ same_test (length rest) 0 (i + 1) (length ms) (omega (arith, length-drop (i + 1) ms)) in
    ap (λ (xs : List MemberTerm). takes (extent_in table) is_union (i == 0) (map (part_of table) xs)) (drop_more ms i m h)
    ∙ (ap (λ (x : MemberTerm). takes (extent_in table) is_union (i == 0) (map (part_of table) (x ∷ rest))) (sym at)
    ∙ ap (λ (b : Bool). b && takes (extent_in table) is_union false (map (part_of table) rest)) (ap (λ (b : Bool). takes_member (extent_in table) is_union (i == 0) b (part_of table m)) last ∙ fails))
