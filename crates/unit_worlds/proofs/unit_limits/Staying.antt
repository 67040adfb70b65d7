-- A small table stays small.
use Rattle.std.proofs.Common.{arith, ◌≡◌, ◌==◌, inl, inr, ℕ, zero, suc, ◌<◌, Bool, true, false, List, [], length, map, Option, Some, None, refl, sym, ap, ◌∙◌, subst}
use Rattle.std.specs.Prelude.{is_some, slice_get, if◌then◌else◌}
use Rattle.std.specs.Option.{option_map}
use Rattle.std.proofs.lemmas.Bool.{and_parts, and_from, eqb-true, cases_lt}
use Rattle.c_types.specs.declared.term.Term.{Term}
use Rattle.c_types.specs.declared.term.Term.TheVariants.{Structure, Union}
use Rattle.c_types.specs.Trees.{Ctype, VoidType, BoolType, IntegerType, FloatingType, VaListType, PointerTo, ArrayOf, FunctionFrom, StructureOf, UnionOf}
use Rattle.c_types.specs.Layout.{Extent, Look, repeated, of_members, structure_of, union_of, extent_of, member_extent}
use Rattle.c_types.specs.Table.{Table, types_of, type_of, look_in, extent_in, extents_in}
use Rattle.c_types.specs.Made.{IsMade, AreNamed}
use Rattle.c_types.proofs.MadeLemmas.{KnowsMore, extent_more, made_tagged, made_empty}
use Rattle.core_tree.specs.declared.node.Unit.{Unit}
use Rattle.c_inits.specs.Made.{Part}
use Rattle.c_senses.specs.Limits.{is_small}
use Rattle.c_senses.specs.Tags.{types_of_parts}
use Rattle.unit_worlds.specs.Growing.{Completes}
use Rattle.unit_worlds.specs.unit_limits.Small.{has_element, stays_small, tag_in, is_small_tag, IsSmallTable, AreSmallFrom}
use Rattle.unit_worlds.specs.unit_limits.Laws.{EmptyIsSmall, OpenIsSmall, OpenTagsAreSmall, BuildingStaysSmall, CompletingStaysSmall}
use Rattle.unit_worlds.proofs.unit_limits.Terms.{type_is, term_at, structure_term, union_term}

-- ---- without complete structures and unions

abbrev none_of : (X : Type 0) → List X
none_of X = []

pub empty_small : EmptyIsSmall
empty_small count = record {
  made = made_tagged (record { terms = []; tags = 0; completed = [] }) count made_empty;
  named = λ i t e. absurd (no_term i t e);
  small = λ id lt. absurd (omega (arith, lt));
}
  where
    no_term : (i : ℕ) (t : Term) → slice_get (none_of Term) i ≡ Some t → ⊥
    no_term zero t e = cc
    no_term (suc i) t e = cc

pub open_small : OpenIsSmall
open_small types made named none from = record {
  made = made;
  named = named;
  small = λ id lt. from.each id (omega arith) lt;
}

tagged_open : (types : Table) → types.completed ≡ [] → (t : Ctype) → is_some (tag_in t) ≡ true → stays_small (extent_in types) t ≡ true
tagged_open types none (StructureOf tag) h = subst (λ cs. stays_small (extent_in (record types { completed = cs })) (StructureOf tag) ≡ true) (sym none) refl
tagged_open types none (UnionOf tag) h = subst (λ cs. stays_small (extent_in (record types { completed = cs })) (UnionOf tag) ≡ true) (sym none) refl
tagged_open types none t h = cc

pub open_tags_small : OpenTagsAreSmall
open_tags_small types made named none tags =
    open_small types made named none (record { each = λ id behind lt. tagged_open types none (type_of types id) (tags id lt) })

-- ---- with types more

has_same : (f g : Ctype → Option Extent) → ((t : Ctype) → f t ≡ g t) → (t : Ctype) → has_element f t ≡ has_element g t
has_same f g same (ArrayOf of n) = ap is_some (same of)
has_same f g same VoidType = refl
has_same f g same BoolType = refl
has_same f g same (IntegerType size rank signed) = refl
has_same f g same FloatingType = refl
has_same f g same VaListType = refl
has_same f g same (PointerTo to) = refl
has_same f g same (FunctionFrom r ps q) = refl
has_same f g same (StructureOf tag) = refl
has_same f g same (UnionOf tag) = refl

stays_same : (f g : Ctype → Option Extent) → ((t : Ctype) → f t ≡ g t) → (t : Ctype) → stays_small f t ≡ stays_small g t
stays_same f g same t =
    let a = same t in
    let b = has_same f g same t in
    cc

pub building_small : BuildingStaysSmall
building_small old new made named b from ok = record {
  made = made;
  named = named;
  small = λ id lt. elim (cases_lt id (length old.types.terms)) [
    | inl before ↦ stays_same (extent_in new.types) (extent_in old.types) b.extents (type_of new.types id) ∙ (ap (stays_small (extent_in old.types)) (b.types id before) ∙ ok.small id before)
    | inr behind ↦ from.each id behind lt
  ];
}

-- ---- with a tag more

some_of : {A : Type 0} (o : Option A) → is_some o ≡ true → (x : A) × (o ≡ Some x)
some_of None h = absurd cc
some_of (Some x) h = (x, refl)

is_some_of : {A : Type 0} (o : Option A) (x : A) → o ≡ Some x → is_some o ≡ true
is_some_of o x e = ap is_some e

-- a type that stays small is small over a look that knows more, where structures and unions are
module _ (l m : Look) (more : KnowsMore l m) where
  element_more : (t : Ctype) → has_element (extent_of l) t ≡ true → has_element (extent_of m) t ≡ true
  element_more (ArrayOf of n) h =
      let there = some_of (extent_of l of) h in
      is_some_of (extent_of m of) there.0 (extent_more l m more of there.0 there.1)
  element_more VoidType h = refl
  element_more BoolType h = refl
  element_more (IntegerType size rank signed) h = refl
  element_more FloatingType h = refl
  element_more VaListType h = refl
  element_more (PointerTo to) h = refl
  element_more (FunctionFrom r ps q) h = refl
  element_more (StructureOf tag) h = refl
  element_more (UnionOf tag) h = refl

  small_more : (t : Ctype) → ((tag : ℕ) → tag_in t ≡ Some tag → is_small (extent_of m t) ≡ true) → has_element (extent_of l) t ≡ true → is_small (extent_of l t) ≡ true → is_small (extent_of m t) ≡ true
  small_more (StructureOf tag) tagged h s = tagged tag refl
  small_more (UnionOf tag) tagged h s = tagged tag refl
  small_more (ArrayOf of None) tagged h s = refl
  small_more (ArrayOf of (Some n)) tagged h s =
      let there = some_of (extent_of l of) h in
      let after = extent_more l m more of there.0 there.1 in
      ap (λ (o : Option Extent). is_small (repeated n o)) after ∙ (sym (ap (λ (o : Option Extent). is_small (repeated n o)) there.1) ∙ s)
  small_more VoidType tagged h s = s
  small_more BoolType tagged h s = s
  small_more (IntegerType size rank signed) tagged h s = s
  small_more FloatingType tagged h s = s
  small_more VaListType tagged h s = s
  small_more (PointerTo to) tagged h s = s
  small_more (FunctionFrom r ps q) tagged h s = s

-- the one type of a tag
one_type : (types : Table) → IsMade types → AreNamed types → (i j tag : ℕ) → i < length types.terms → j < length types.terms → tag_in (type_of types i) ≡ Some tag → tag_in (type_of types j) ≡ Some tag → type_of types i ≡ type_of types j
one_type types made named i j tag hi hj ei ej = by (type_of types i) (type_of types j) refl refl ei ej
  where
    structure_at : (id k : ℕ) → id < length types.terms → type_of types id ≡ StructureOf k → slice_get types.terms id ≡ Some (Structure k)
    structure_at id k lt e =
        let found = term_at types.terms id lt in
        found.1 ∙ ap Some (structure_term (types_of types) found.0 k (sym (type_is types id found.0 named found.1) ∙ e))

    union_at : (id k : ℕ) → id < length types.terms → type_of types id ≡ UnionOf k → slice_get types.terms id ≡ Some (Union k)
    union_at id k lt e =
        let found = term_at types.terms id lt in
        found.1 ∙ ap Some (union_term (types_of types) found.0 k (sym (type_is types id found.0 named found.1) ∙ e))

    some_is : (a b : ℕ) → ◌≡◌ {A = Option ℕ} (Some a) (Some b) → a ≡ b
    some_is a b e = cc

    by : (a b : Ctype) → type_of types i ≡ a → type_of types j ≡ b → tag_in a ≡ Some tag → tag_in b ≡ Some tag → a ≡ b
    by (StructureOf m) (StructureOf n) p q e f = ap StructureOf (some_is m tag e ∙ sym (some_is n tag f))
    by (UnionOf m) (UnionOf n) p q e f = ap UnionOf (some_is m tag e ∙ sym (some_is n tag f))
    by (StructureOf m) (UnionOf n) p q e f =
        absurd (made.apart.each i j tag (structure_at i m hi p ∙ ap (λ (k : ℕ). Some (Structure k)) (some_is m tag e)) (union_at j n hj q ∙ ap (λ (k : ℕ). Some (Union k)) (some_is n tag f)))
    by (UnionOf m) (StructureOf n) p q e f =
        absurd (made.apart.each j i tag (structure_at j n hj q ∙ ap (λ (k : ℕ). Some (Structure k)) (some_is n tag f)) (union_at i m hi p ∙ ap (λ (k : ℕ). Some (Union k)) (some_is m tag e)))
    by (StructureOf m) b p q e f = absurd cc
    by (UnionOf m) b p q e f = absurd cc
    by a b p q e f = absurd cc

tagged_extent : (l m : Look) (t : Ctype) (tag : ℕ) → tag_in t ≡ Some tag → m tag ≡ l tag → extent_of m t ≡ extent_of l t
tagged_extent l m (StructureOf k) tag e same =
    let at : k ≡ tag = cc in
    ap (of_members (structure_of (StructureOf k))) (ap m at ∙ (same ∙ sym (ap l at)))
tagged_extent l m (UnionOf k) tag e same =
    let at : k ≡ tag = cc in
    ap (of_members (union_of (UnionOf k))) (ap m at ∙ (same ∙ sym (ap l at)))
tagged_extent l m VoidType tag e same = absurd cc
tagged_extent l m BoolType tag e same = absurd cc
tagged_extent l m (IntegerType size rank signed) tag e same = absurd cc
tagged_extent l m FloatingType tag e same = absurd cc
tagged_extent l m VaListType tag e same = absurd cc
tagged_extent l m (PointerTo to) tag e same = absurd cc
tagged_extent l m (ArrayOf of n) tag e same = absurd cc
tagged_extent l m (FunctionFrom r ps q) tag e same = absurd cc

module _ (old new : Unit) (tag : ℕ) (parts : List Part) (id : ℕ) (made : IsMade new.types) (named : AreNamed new.types) (c : Completes old new tag parts) (from : AreSmallFrom new.types (length old.types.terms)) (lt : id < length new.types.terms) (of_tag : tag_in (type_of new.types id) ≡ Some tag) (tag_ok : is_small_tag new.types (type_of new.types id) ≡ true) (ok : IsSmallTable old.types) where
  -- the tag took nothing before
  open_look : look_in old.types tag ≡ None
  open_look = ok.made.laid tag ∙ ap (option_map (extents_in old.types)) c.was_open

  knows_more : KnowsMore (look_in old.types) (look_in new.types)
  knows_more t es e = c.look t ∙ by (tag == t) refl
    where
      by : (b : Bool) → (tag == t) ≡ b → (if b then Some (map (member_extent (look_in old.types)) (types_of_parts parts)) else look_in old.types t) ≡ Some es
      by true h =
          let here : look_in old.types t ≡ None = ap (look_in old.types) (sym (eqb-true tag t h)) ∙ open_look in
          absurd cc
      by false h = e

  -- a structure or union of the table is small
  tagged_small : (i : ℕ) → i < length new.types.terms → i < length old.types.terms → (t : ℕ) → tag_in (type_of new.types i) ≡ Some t → is_small (extent_in new.types (type_of new.types i)) ≡ true
  tagged_small i inside before t e = by (tag == t) refl
    where
      by : (b : Bool) → (tag == t) ≡ b → is_small (extent_in new.types (type_of new.types i)) ≡ true
      by true h =
          let at : tag ≡ t = eqb-true tag t h in
          let same = one_type new.types made named i id tag inside lt (e ∙ ap Some (sym at)) of_tag in
          ap (λ (x : Ctype). is_small (extent_in new.types x)) same ∙ tag_ok
      by false h =
          let look : look_in new.types t ≡ look_in old.types t = c.look t ∙ ap (λ (b : Bool). if b then Some (map (member_extent (look_in old.types)) (types_of_parts parts)) else look_in old.types t) h in
          let same = tagged_extent (look_in old.types) (look_in new.types) (type_of new.types i) t e look in
          let was : is_small (extent_in old.types (type_of old.types i)) ≡ true = (and_parts (is_small (extent_in old.types (type_of old.types i))) (has_element (extent_in old.types) (type_of old.types i)) (ok.small i before)).0 in
          ap is_small same ∙ (ap (λ (x : Ctype). is_small (extent_in old.types x)) (c.types i before) ∙ was)

  old_small : (i : ℕ) → i < length new.types.terms → i < length old.types.terms → stays_small (extent_in new.types) (type_of new.types i) ≡ true
  old_small i inside before =
      let t = type_of new.types i in
      let was : stays_small (extent_in old.types) t ≡ true = ap (stays_small (extent_in old.types)) (c.types i before) ∙ ok.small i before in
      let parts_of = and_parts (is_small (extent_in old.types t)) (has_element (extent_in old.types) t) was in
      and_from (is_small (extent_in new.types t)) (has_element (extent_in new.types) t)
      (small_more (look_in old.types) (look_in new.types) knows_more t (tagged_small i inside before) parts_of.1 parts_of.0)
      (element_more (look_in old.types) (look_in new.types) knows_more t parts_of.1)

  pub completed_small : IsSmallTable new.types
  completed_small = record {
    made = made;
    named = named;
    small = λ i inside. elim (cases_lt i (length old.types.terms)) [ inl before ↦ old_small i inside before | inr behind ↦ from.each i behind inside ];
  }

pub completing_small : CompletingStaysSmall
completing_small old new tag parts id made named c from lt of_tag tag_ok ok = completed_small old new tag parts id made named c from lt of_tag tag_ok ok
