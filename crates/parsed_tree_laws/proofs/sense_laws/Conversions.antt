-- Values of places, conversions, promotions and usual conversions of what is sound are sound.
use Rattle.std.proofs.Common.{arith, ◌≡◌, ◌≢◌, ℕ, zero, suc, Bool, true, false, ◌==◌, ◌&&◌, ◌||◌, not, nat_lt, List, [], ◌∷◌, Option, Some, None, slice_get, refl, sym, ap, ◌∙◌, subst, inl, inr}
use Rattle.std.specs.Prelude.{⊤, if◌then◌else◌}
use Rattle.std.proofs.lemmas.Bool.{eqb-true, ltb-false}
use Rattle.pta_base.specs.declared.kind.Kind.{Kind}
use Rattle.pta_base.specs.declared.kind.Kind.TheVariants.{Operand, StructureCast, IntegerSizeCast}
use Rattle.c_types.specs.declared.term.Form.{Form}
use Rattle.c_types.specs.Trees.{Ctype, VoidType, BoolType, IntegerType, FloatingType, VaListType, PointerTo, ArrayOf, FunctionFrom, StructureOf, UnionOf}
use Rattle.c_conversions.specs.passed.core_tree.declared.node.NodeKind.TheVariants.{Upcast, Fetch}
use Rattle.c_conversions.specs.passed.core_tree.Typed.{Sort, NoNode, PlaceNode, ValueNode, StatementNode, IsInteger, IsStored, IsPromoted, decayed}
use Rattle.c_conversions.specs.passed.core_tree.Rows.{Converts, int}
use Rattle.c_senses.specs.passed.c_consts.Core.{Core, Of, place_of, ctype_of, core_sort, over}
use Rattle.c_senses.specs.passed.c_inits.Made.{Part}
use Rattle.c_senses.specs.Given.{Given, Fits}
use Rattle.c_senses.specs.World.{World, same_type}
use Rattle.c_senses.specs.Nulls.{is_null}
use Rattle.c_senses.specs.Objects.{part_at}
use Rattle.c_senses.specs.Conversions.{OperandSort, Whole, Address, Aggregate, Other, operand_of, is_fetched, is_list, fetched_or_decayed, value_of_sort, value_of, converted, made, is_narrow, read_width, promoted, promotion, higher, common, first_member_type, upcast_within, upcast, upcast_or, from_structure, character_kind, pointers, target_of, to_pointer, to_whole, to_other, conversion, null_value, typed}
use Rattle.c_conversions.proofs.passed.core_nodes.SameTypes.{type_sound}
use Rattle.parsed_tree_laws.specs.sense_laws.Sound.{Sound, SoundValue, SoundOf, IsProper, IsPartOf, IsFirstPart, Gives, ProperWorld}
use Rattle.parsed_tree_laws.proofs.sense_laws.Giving.{if_given, if_holds, differs}

-- which types the sorts of operands are of
pub whole_integer : (t : Ctype) → operand_of t ≡ Whole → IsInteger t
whole_integer BoolType h = tt
whole_integer (IntegerType size rank signed) h = tt
whole_integer t h = cc

pub address_pointer : (t to : Ctype) → operand_of t ≡ Address to → t ≡ PointerTo to
address_pointer (PointerTo a) to h = cc
address_pointer t to h = cc

fetched_stored : (w : World) (t : Ctype) → is_fetched w (operand_of t) || is_list t ≡ true → IsStored t
fetched_stored w BoolType h = inl (inl tt)
fetched_stored w (IntegerType size rank signed) h = inl (inl tt)
fetched_stored w (PointerTo to) h = inl (inr tt)
fetched_stored w (StructureOf tag) h = inr (inl tt)
fetched_stored w (UnionOf tag) h = inr (inl tt)
fetched_stored w VaListType h = inr (inr tt)
fetched_stored w t h = cc

decayed_proper : (t p : Ctype) → decayed t ≡ Some p → IsProper t → IsProper p
decayed_proper (ArrayOf of n) p h proper = subst IsProper (let e : PointerTo of ≡ p = cc in e) proper
decayed_proper (FunctionFrom r ps form) p h proper = subst IsProper (let e : PointerTo (FunctionFrom r ps form) ≡ p = cc in e) proper
decayed_proper t p h proper = cc

-- what a Convert may be
to_void : (a : Ctype) → Converts a VoidType
to_void VoidType = tt
to_void a = tt

whole_converts : (a b : Ctype) → IsInteger a → IsInteger b → a ≢ b → Converts a b
whole_converts BoolType BoolType h k ne = absurd (ne refl)
whole_converts BoolType (IntegerType size rank signed) h k ne = tt
whole_converts (IntegerType size rank signed) BoolType h k ne = tt
whole_converts (IntegerType size rank signed) (IntegerType other r g) h k ne = tt
whole_converts BoolType b h k ne = absurd k
whole_converts (IntegerType size rank signed) b h k ne = absurd k
whole_converts a b h k ne = absurd h

pointer_to_bool : (a : Ctype) → Converts (PointerTo a) BoolType
pointer_to_bool VoidType = tt
pointer_to_bool a = tt

pointer_to_integer : (a : Ctype) (size rank : ℕ) (signed : Bool) → Converts (PointerTo a) (IntegerType size rank signed)
pointer_to_integer VoidType size rank signed = tt
pointer_to_integer a size rank signed = tt

void_to_pointer : (a : Ctype) → ((r : Ctype) (ps : _) (f : Form) → a ≡ FunctionFrom r ps f → ⊥) → Converts (PointerTo VoidType) (PointerTo a)
void_to_pointer (FunctionFrom r ps f) h = absurd (h r ps f refl)
void_to_pointer VoidType h = tt
void_to_pointer a h = tt

pub pointer_to_void : (a : Ctype) → ((r : Ctype) (ps : _) (f : Form) → a ≡ FunctionFrom r ps f → ⊥) → Converts (PointerTo a) (PointerTo VoidType)
pointer_to_void (FunctionFrom r ps f) h = absurd (h r ps f refl)
pointer_to_void VoidType h = tt
pointer_to_void a h = tt

module _ (w : World) (entities : ℕ → Option Ctype) where
  pub proper_of : (c : Core) → Sound w entities c → IsProper (ctype_of c)
  proper_of (Of kind place type under) h = h.1

  -- values of places
  decayed_sound : (at : ℕ) (c : Core) → Sound w entities c → core_sort c ≡ PlaceNode → (o : Option Ctype) → decayed (ctype_of c) ≡ o → Gives (SoundValue w entities) (fetched_or_decayed w at c o)
  decayed_sound at c h s (Some pointer) e = (((s, e), decayed_proper (ctype_of c) pointer e (proper_of c h), tt, (h, tt)), refl)
  decayed_sound at c h s None e =
      if_given (SoundValue w entities) (is_fetched w (operand_of (ctype_of c)) || is_list (ctype_of c)) Operand at (Fits (over Fetch (place_of c) (ctype_of c) c))
      (λ fetched. ((((s, refl), fetched_stored w (ctype_of c) fetched), proper_of c h, tt, (h, tt)), refl))

  value_of_sort_sound : (at : ℕ) (c : Core) → Sound w entities c → (s : Sort) → core_sort c ≡ s → Gives (SoundValue w entities) (value_of_sort w at c s)
  value_of_sort_sound at c h NoNode e = tt
  value_of_sort_sound at c h PlaceNode e = decayed_sound at c h e (decayed (ctype_of c)) refl
  value_of_sort_sound at c h ValueNode e = (h, e)
  value_of_sort_sound at c h StatementNode e = tt

  pub value_sound : (at : ℕ) (c : Core) → Sound w entities c → Gives (SoundValue w entities) (value_of w at c)
  value_sound at c h = value_of_sort_sound at c h (core_sort c) refl

  -- conversions
  pub converted_sound : (t : Ctype) (v : Core) → SoundValue w entities v → ctype_of v ≢ t → Converts (ctype_of v) t → IsProper t → SoundOf w entities t (converted t v)
  converted_sound t v h ne converts proper = (((h.1, ne, converts), proper, tt, (h.0, tt)), (refl, refl))

  pub null_sound : (to : Ctype) (v : Core) → IsProper to → SoundOf w entities (PointerTo to) (null_value (PointerTo to) v)
  null_sound to v proper = ((tt, proper, tt, tt), (refl, refl))

  same_sound : (t : Ctype) (v : Core) → SoundValue w entities v → same_type (ctype_of v) t ≡ true → SoundOf w entities t v
  same_sound t v h e = (h.0, (h.1, type_sound (ctype_of v) t e))

  pub made_sound : (t : Ctype) (v : Core) → SoundValue w entities v → IsInteger (ctype_of v) → IsInteger t → IsProper t → SoundOf w entities t (made t v)
  made_sound t v h a b proper =
      if_holds (SoundOf w entities t) (same_type (ctype_of v) t) v (converted t v) (same_sound t v h)
      (λ e. converted_sound t v h (differs (ctype_of v) t e) (whole_converts (ctype_of v) t a b (differs (ctype_of v) t e)) proper)

  -- upcasts
  first_found : (o : Option (List Part)) (t : Ctype) → (elim o as (λ _. Option Ctype) [ None ↦ None | Some members ↦ elim (slice_get members 0) as (λ _. Option Ctype) [ None ↦ None | Some m ↦ Some m.type ] ]) ≡ Some t → (members : List Part) × (part : Part) × (o ≡ Some members) × (slice_get members 0 ≡ Some part) × (part.type ≡ t)
  first_found None t h = cc
  first_found (Some []) t h = cc
  first_found (Some (m ∷ rest)) t h = (m ∷ rest, m, refl, refl, cc)

  first_stands : (tag : ℕ) (t : Ctype) (members : List Part) (part : Part) → w.members tag ≡ Some members → slice_get members 0 ≡ Some part → part.type ≡ t → IsPartOf w (StructureOf tag) 0 t
  first_stands tag t members part e f g =
      let here : part_at (w.members tag) 0 ≡ slice_get members 0 = ap (λ (o : Option (List Part)). part_at o 0) e in
      record { part = part; stands = here ∙ f; type = g }

  first_part : ProperWorld w → (from t : Ctype) → first_member_type w from ≡ Some t → IsProper t × IsFirstPart w (PointerTo from) (PointerTo t)
  first_part world (StructureOf tag) t h =
      let found = first_found (w.members tag) t h in
      (subst IsProper found.4 (world.parts tag found.0 0 found.1 found.2 found.3), first_stands tag t found.0 found.1 found.2 found.3 found.4)
  first_part world from t h = cc

  pub GivesSome : (Core → Type 0) → Option Core → Type 0
  GivesSome P None = ⊤
  GivesSome P (Some x) = P x

  upcast_within_sound : ProperWorld w → (depth : ℕ) (sought from : Ctype) (o : Option Ctype) (v : Core) → first_member_type w from ≡ o → ctype_of v ≡ PointerTo from → SoundValue w entities v → GivesSome (SoundOf w entities (PointerTo sought)) (upcast_within w depth sought o v)
  unfolding GivesSome
  upcast_within_sound world zero sought from o v e f h = tt
  upcast_within_sound world (suc depth) sought from None v e f h = tt
  upcast_within_sound world (suc depth) sought from (Some t) v e f h =
      let one : Core = over Upcast (place_of v) (PointerTo t) v in
      let first = first_part world from t e in
      let sound : Sound w entities one = ((h.1, subst (λ (q : Ctype). IsFirstPart w q (PointerTo t)) (sym f) first.1), first.0, tt, (h.0, tt)) in
      if_holds (GivesSome (SoundOf w entities (PointerTo sought))) (same_type t sought) (Some one) (upcast_within w depth sought (first_member_type w t) one)
      (λ same. (sound, (refl, ap PointerTo (type_sound t sought same))))
      (λ other. upcast_within_sound world depth sought t (first_member_type w t) one refl refl (sound, refl))

  upcast_or_sound : (P : Core → Type 0) (at : ℕ) (kind : Kind) (o : Option Core) → GivesSome P o → Gives P (upcast_or at kind o)
  unfolding GivesSome
  upcast_or_sound P at kind None h = tt
  upcast_or_sound P at kind (Some x) h = h

  from_structure_sound : ProperWorld w → (cast : Bool) (at : ℕ) (v : Core) (from to : Ctype) (kind : Kind) → ctype_of v ≡ PointerTo from → SoundValue w entities v → Gives (SoundOf w entities (PointerTo to)) (from_structure w cast at v from to kind)
  from_structure_sound world false at v from to kind e h = tt
  from_structure_sound world true at v from to kind e h =
      upcast_or_sound (SoundOf w entities (PointerTo to)) at kind (upcast w from to v) (upcast_within_sound world (suc w.tags) to from (first_member_type w from) v refl e h)

  -- from pointers to pointers
  module _ (v : Core) (h : SoundValue w entities v) where
    pointed : (from to : Ctype) → ctype_of v ≡ PointerTo from → ctype_of v ≢ PointerTo to → IsProper (PointerTo to) → Converts (PointerTo from) (PointerTo to) → SoundOf w entities (PointerTo to) (converted (PointerTo to) v)
    pointed from to e ne proper converts = converted_sound (PointerTo to) v h ne (subst (λ (q : Ctype). Converts q (PointerTo to)) (sym e) converts) proper

    pointers_sound : ProperWorld w → (cast : Bool) (at : ℕ) (from to : Ctype) → ctype_of v ≡ PointerTo from → ctype_of v ≢ PointerTo to → IsProper (PointerTo to) → Gives (SoundOf w entities (PointerTo to)) (pointers w cast at v from to (target_of from) (target_of to))
    pointers_sound world cast at (FunctionFrom r ps f) (FunctionFrom q qs g) e ne proper = pointed (FunctionFrom r ps f) (FunctionFrom q qs g) e ne proper tt
    pointers_sound world cast at VoidType (FunctionFrom q qs g) e ne proper = tt
    pointers_sound world cast at from (FunctionFrom q qs g) e ne proper = tt
    pointers_sound world cast at (FunctionFrom r ps f) to e ne proper = tt
    pointers_sound world cast at VoidType to e ne proper = pointed VoidType to e ne proper tt
    pointers_sound world cast at from VoidType e ne proper = pointed from VoidType e ne proper tt
    pointers_sound world cast at BoolType BoolType e ne proper = absurd (ne e)
    pointers_sound world cast at BoolType (IntegerType size rank signed) e ne proper =
        if_given (SoundOf w entities (PointerTo (IntegerType size rank signed))) (1 == size) IntegerSizeCast at (Fits (converted (PointerTo (IntegerType size rank signed)) v))
        (λ same. pointed BoolType (IntegerType size rank signed) e ne proper (sym (eqb-true 1 size same)))
    pointers_sound world cast at (IntegerType size rank signed) BoolType e ne proper =
        if_given (SoundOf w entities (PointerTo BoolType)) (size == 1) IntegerSizeCast at (Fits (converted (PointerTo BoolType) v))
        (λ same. pointed (IntegerType size rank signed) BoolType e ne proper (eqb-true size 1 same))
    pointers_sound world cast at (IntegerType size rank signed) (IntegerType other r g) e ne proper =
        if_given (SoundOf w entities (PointerTo (IntegerType other r g))) (size == other) IntegerSizeCast at (Fits (converted (PointerTo (IntegerType other r g)) v))
        (λ same. pointed (IntegerType size rank signed) (IntegerType other r g) e ne proper (eqb-true size other same))
    pointers_sound world cast at (PointerTo from) (PointerTo to) e ne proper = pointed (PointerTo from) (PointerTo to) e ne proper tt
    pointers_sound world cast at (StructureOf a) (StructureOf b) e ne proper = from_structure_sound world cast at v (StructureOf a) (StructureOf b) StructureCast e h
    pointers_sound world cast at (StructureOf a) (UnionOf b) e ne proper = from_structure_sound world cast at v (StructureOf a) (UnionOf b) StructureCast e h
    pointers_sound world cast at (StructureOf a) BoolType e ne proper = from_structure_sound world cast at v (StructureOf a) BoolType (character_kind BoolType) e h
    pointers_sound world cast at (StructureOf a) (IntegerType size rank signed) e ne proper =
        from_structure_sound world cast at v (StructureOf a) (IntegerType size rank signed) (character_kind (IntegerType size rank signed)) e h
    pointers_sound world cast at (StructureOf a) (PointerTo to) e ne proper = from_structure_sound world cast at v (StructureOf a) (PointerTo to) Operand e h
    pointers_sound world cast at (StructureOf a) FloatingType e ne proper = from_structure_sound world cast at v (StructureOf a) FloatingType Operand e h
    pointers_sound world cast at (StructureOf a) VaListType e ne proper = from_structure_sound world cast at v (StructureOf a) VaListType Operand e h
    pointers_sound world cast at (StructureOf a) (ArrayOf of n) e ne proper = from_structure_sound world cast at v (StructureOf a) (ArrayOf of n) Operand e h
    pointers_sound world cast at from to e ne proper = tt

    to_pointer_sound : ProperWorld w → (cast : Bool) (at : ℕ) (to : Ctype) → ctype_of v ≢ PointerTo to → IsProper (PointerTo to) → (sort : OperandSort) → operand_of (ctype_of v) ≡ sort → Gives (SoundOf w entities (PointerTo to)) (to_pointer w cast at v to sort)
    to_pointer_sound world cast at to ne proper Whole e = tt
    to_pointer_sound world cast at to ne proper (Address from) e = pointers_sound world cast at from to (address_pointer (ctype_of v) from e) ne proper
    to_pointer_sound world cast at to ne proper (Aggregate tag) e = tt
    to_pointer_sound world cast at to ne proper Other e = tt

    to_whole_sound : (pointer : Bool) (at : ℕ) (t : Ctype) → ctype_of v ≢ t → IsProper t → IsInteger t → ((a : Ctype) → Converts (PointerTo a) t) → (sort : OperandSort) → operand_of (ctype_of v) ≡ sort → Gives (SoundOf w entities t) (to_whole pointer at v t sort)
    to_whole_sound pointer at t ne proper whole from Whole e = converted_sound t v h ne (whole_converts (ctype_of v) t (whole_integer (ctype_of v) e) whole ne) proper
    to_whole_sound pointer at t ne proper whole from (Address a) e =
        if_given (SoundOf w entities t) pointer Operand at (Fits (converted t v))
        (λ allowed. converted_sound t v h ne (subst (λ (q : Ctype). Converts q t) (sym (address_pointer (ctype_of v) a e)) (from a)) proper)
    to_whole_sound pointer at t ne proper whole from (Aggregate tag) e = tt
    to_whole_sound pointer at t ne proper whole from Other e = tt

    to_other_sound : ProperWorld w → (cast : Bool) (at : ℕ) (t : Ctype) → ctype_of v ≢ t → IsProper t → Gives (SoundOf w entities t) (to_other w cast at v t)
    to_other_sound world cast at VoidType ne proper =
        if_given (SoundOf w entities VoidType) cast Operand at (Fits (converted VoidType v)) (λ allowed. converted_sound VoidType v h ne (to_void (ctype_of v)) proper)
    to_other_sound world cast at BoolType ne proper = to_whole_sound true at BoolType ne proper tt pointer_to_bool (operand_of (ctype_of v)) refl
    to_other_sound world cast at (IntegerType size rank signed) ne proper =
        to_whole_sound cast at (IntegerType size rank signed) ne proper tt (λ a. pointer_to_integer a size rank signed) (operand_of (ctype_of v)) refl
    to_other_sound world cast at (PointerTo to) ne proper =
        if_holds (Gives (SoundOf w entities (PointerTo to))) (is_null v) (Fits (null_value (PointerTo to) v)) (to_pointer w cast at v to (operand_of (ctype_of v)))
        (λ null. null_sound to v proper)
        (λ other. to_pointer_sound world cast at to ne proper (operand_of (ctype_of v)) refl)
    to_other_sound world cast at t ne proper = tt

    pub conversion_sound : ProperWorld w → (cast : Bool) (at : ℕ) (t : Ctype) → IsProper t → Gives (SoundOf w entities t) (conversion w cast at v t)
    conversion_sound world cast at t proper =
        if_holds (Gives (SoundOf w entities t)) (same_type (ctype_of v) t) (Fits v) (to_other w cast at v t) (same_sound t v h)
        (λ other. to_other_sound world cast at t (differs (ctype_of v) t other) proper)

  pub typed_sound : (P : Core → Type 0) (at : ℕ) (t : Ctype) (g : Given Core) → Gives P g → Gives P (typed at t g)
  typed_sound P at FloatingType g h = tt
  typed_sound P at t g h = h

-- promotions and usual conversions
pub type_if : (P : Ctype → Type 0) (b : Bool) (x y : Ctype) → (b ≡ true → P x) → (b ≡ false → P y) → P (if b then x else y)
type_if P b x y h k = if_holds P b x y h k

or_left : (a b : Bool) → (a || b) ≡ false → a ≡ false
or_left true b h = cc
or_left false b h = refl

pub promoted_promoted : (t : Ctype) (narrow : Bool) → IsInteger t → IsPromoted (promoted t narrow)
promoted_promoted BoolType narrow h = omega arith
promoted_promoted (IntegerType size rank signed) narrow h =
    if_holds IsPromoted (nat_lt size 4 || ((size == 4) && (not signed && narrow))) int (IntegerType size rank signed) (λ e. omega arith)
    (λ e. ltb-false size 4 (or_left (nat_lt size 4) ((size == 4) && (not signed && narrow)) e))
promoted_promoted t narrow h = absurd h

pub promoted_integer : (t : Ctype) → IsPromoted t → IsInteger t
promoted_integer (IntegerType size rank signed) h = tt
promoted_integer t h = absurd h

pub promoted_proper : (t : Ctype) (narrow : Bool) → IsInteger t → IsProper t → IsProper (promoted t narrow)
promoted_proper BoolType narrow h proper = tt
promoted_proper (IntegerType size rank signed) narrow h proper =
    if_holds IsProper (nat_lt size 4 || ((size == 4) && (not signed && narrow))) int (IntegerType size rank signed) (λ e. tt) (λ e. proper)
promoted_proper t narrow h proper = absurd h

higher_promoted : (b : Bool) (x y : Ctype) → IsPromoted x → IsPromoted y → IsPromoted (higher b x y)
higher_promoted true x y h k = k
higher_promoted false x y h k = h

pub common_promoted : (a b : Ctype) → IsPromoted a → IsPromoted b → IsPromoted (common a b)
common_promoted (IntegerType size rank true) (IntegerType other r true) h k = higher_promoted (nat_lt rank r) (IntegerType size rank true) (IntegerType other r true) h k
common_promoted (IntegerType size rank false) (IntegerType other r false) h k = higher_promoted (nat_lt rank r) (IntegerType size rank false) (IntegerType other r false) h k
common_promoted (IntegerType size rank false) (IntegerType other r true) h k =
    if_holds IsPromoted (nat_lt rank r) (if nat_lt size other then IntegerType other r true else IntegerType other r false) (IntegerType size rank false)
    (λ e. if_holds IsPromoted (nat_lt size other) (IntegerType other r true) (IntegerType other r false) (λ f. k) (λ f. k)) (λ e. h)
common_promoted (IntegerType size rank true) (IntegerType other r false) h k =
    if_holds IsPromoted (nat_lt r rank) (if nat_lt other size then IntegerType size rank true else IntegerType size rank false) (IntegerType other r false)
    (λ e. if_holds IsPromoted (nat_lt other size) (IntegerType size rank true) (IntegerType size rank false) (λ f. h) (λ f. h)) (λ e. k)
common_promoted (IntegerType size rank true) b h k = absurd k
common_promoted (IntegerType size rank false) b h k = absurd k
common_promoted a b h k = absurd h

higher_proper : (b : Bool) (x y : Ctype) → IsProper x → IsProper y → IsProper (higher b x y)
higher_proper true x y h k = k
higher_proper false x y h k = h

pub common_proper : (a b : Ctype) → IsPromoted a → IsPromoted b → IsProper a → IsProper b → IsProper (common a b)
common_proper (IntegerType size rank true) (IntegerType other r true) x y h k = higher_proper (nat_lt rank r) (IntegerType size rank true) (IntegerType other r true) h k
common_proper (IntegerType size rank false) (IntegerType other r false) x y h k = higher_proper (nat_lt rank r) (IntegerType size rank false) (IntegerType other r false) h k
common_proper (IntegerType size rank false) (IntegerType other r true) x y h k =
    if_holds IsProper (nat_lt rank r) (if nat_lt size other then IntegerType other r true else IntegerType other r false) (IntegerType size rank false)
    (λ e. if_holds IsProper (nat_lt size other) (IntegerType other r true) (IntegerType other r false) (λ f. k) (λ f. k)) (λ e. h)
common_proper (IntegerType size rank true) (IntegerType other r false) x y h k =
    if_holds IsProper (nat_lt r rank) (if nat_lt other size then IntegerType size rank true else IntegerType size rank false) (IntegerType other r false)
    (λ e. if_holds IsProper (nat_lt other size) (IntegerType size rank true) (IntegerType size rank false) (λ f. h) (λ f. h)) (λ e. k)
common_proper (IntegerType size rank true) b x y h k = absurd y
common_proper (IntegerType size rank false) b x y h k = absurd y
common_proper a b x y h k = absurd x

module _ (w : World) (entities : ℕ → Option Ctype) where
  pub promotion_sound : (v : Core) → SoundValue w entities v → IsInteger (ctype_of v) → SoundOf w entities (promoted (ctype_of v) (is_narrow (read_width w v))) (promotion w v)
  promotion_sound v h whole =
      let promoted_type : IsPromoted (promoted (ctype_of v) (is_narrow (read_width w v))) = promoted_promoted (ctype_of v) (is_narrow (read_width w v)) whole in
      made_sound w entities (promoted (ctype_of v) (is_narrow (read_width w v))) v h whole (promoted_integer _ promoted_type) (promoted_proper (ctype_of v) (is_narrow (read_width w v)) whole (proper_of w entities v h.0))

  pub promotion_promoted : (v : Core) → SoundValue w entities v → IsInteger (ctype_of v) → IsPromoted (ctype_of (promotion w v))
  promotion_promoted v h whole = subst IsPromoted (sym (promotion_sound v h whole).1.1) (promoted_promoted (ctype_of v) (is_narrow (read_width w v)) whole)

  pub promotion_value : (v : Core) → SoundValue w entities v → IsInteger (ctype_of v) → SoundValue w entities (promotion w v)
  promotion_value v h whole = let p = promotion_sound v h whole in (p.0, p.1.0)
