-- The flags of tags: those of a world, and what they stay while a unit grows.
use Rattle.std.proofs.Common.{arith, ◌≡◌, ◌==◌, ℕ, zero, suc, ◌<◌, ◌≤◌, Bool, true, false, ◌||◌, List, [], ◌∷◌, Option, Some, None, length, map, get_or, slice_get, inl, inr, refl, sym, ap, ◌∙◌, subst}
use Rattle.std.specs.Prelude.{replicate, set, if◌then◌else◌, IsSome}
use Rattle.std.specs.Option.{option_map}
use Rattle.std.proofs.Math.Path.{fun_ext}
use Rattle.std.proofs.lemmas.Bool.{eqb-true, eqb-false}
use Rattle.std.proofs.lemmas.List.{length-set, length-replicate, get_or-set_same, get_or-set_other, set-get_or}
use Rattle.c_types.specs.declared.term.MemberTerm.{MemberTerm}
use Rattle.c_types.specs.declared.term.TypeId.{TypeId}
use Rattle.c_types.specs.Trees.{Ctype, VoidType, BoolType, IntegerType, FloatingType, VaListType, PointerTo, ArrayOf, FunctionFrom, StructureOf, UnionOf}
use Rattle.c_types.specs.Layout.{of_members, structure_of, union_of}
use Rattle.c_types.specs.Table.{Table, TagMembers, type_of, completions, members_among, members_in, look_in, extent_in, extents_in}
use Rattle.c_types.specs.Made.{IsMade, AreNamed, IsComplete, IsFlexible}
use Rattle.core_tree.specs.declared.node.Unit.{Unit}
use Rattle.c_inits.specs.Made.{Part, TagParts}
use Rattle.c_inits.specs.Tables.{part_of, parts_in}
use Rattle.c_senses.specs.World.{World}
use Rattle.c_senses.specs.Limits.{last_lacks_length, some_flexible, members_flexible, flexible_within}
use Rattle.c_results.specs.passed.core_nodes.Standing.{Knows}
use Rattle.unit_worlds.specs.Growing.{Completes, Grows}
use Rattle.unit_worlds.specs.unit_limits.Small.{tag_in, IsTypeOf}
use Rattle.unit_worlds.specs.unit_limits.Unions.{members_at, is_open, has_open, AreUnions, IsNoted}
use Rattle.unit_worlds.specs.unit_limits.Laws.{UnionsAreFlexible, BuildingKeepsUnions}
use Rattle.unit_worlds.proofs.unit_limits.Nesting.{IsOf, place, member_before, tag_below, rank, rank_most, rank_less}

-- two tests that agree on the types of some members
module _ (table : Table) (F G : Ctype → Bool) where
  some_same : (ms : List MemberTerm) → ((k : ℕ) (m : MemberTerm) → slice_get ms k ≡ Some m → F (type_of table m.ty.0) ≡ G (type_of table m.ty.0)) → some_flexible F (map (part_of table) ms) ≡ some_flexible G (map (part_of table) ms)
  some_same [] h = refl
  some_same (m ∷ ms) h =
      ap (λ (b : Bool). b || some_flexible F (map (part_of table) ms)) (h 0 m refl)
      ∙ ap (λ (b : Bool). G (type_of table m.ty.0) || b) (some_same ms (λ k x e. h (suc k) x e))

  in_same : (o : Option (List MemberTerm)) → ((ms : List MemberTerm) (k : ℕ) (m : MemberTerm) → o ≡ Some ms → slice_get ms k ≡ Some m → F (type_of table m.ty.0) ≡ G (type_of table m.ty.0)) → members_flexible (some_flexible F) (parts_in table o) ≡ members_flexible (some_flexible G) (parts_in table o)
  in_same None h = refl
  in_same (Some ms) h = some_same ms (λ k m e. h ms k m refl e)

-- ---- the flags of a world

-- a type without a tag is never such
dull : (w : World) (d : ℕ) (t : Ctype) → tag_in t ≡ None → flexible_within w d t ≡ false
dull w zero t e = refl
dull w (suc d) (StructureOf tag) e = cc
dull w (suc d) (UnionOf tag) e = cc
dull w (suc d) VoidType e = refl
dull w (suc d) BoolType e = refl
dull w (suc d) (IntegerType size rank signed) e = refl
dull w (suc d) FloatingType e = refl
dull w (suc d) VaListType e = refl
dull w (suc d) (PointerTo to) e = refl
dull w (suc d) (ArrayOf of n) e = refl
dull w (suc d) (FunctionFrom r ps f) e = refl

module _ (w : World) (u : Unit) (flags : List Bool) (made : IsMade u.types) (named : AreNamed u.types) (k : Knows w u) (f : AreUnions u.types flags) where
  abbrev own : Ctype → Bool
  own t = is_open (members_at u.types) flags t

  abbrev rank_of : ℕ → ℕ
  rank_of tag = rank u.types made named tag

  -- one without members isn't such
  structure_none : (d tag : ℕ) → members_in u.types tag ≡ None → flexible_within w d (StructureOf tag) ≡ false
  structure_none zero tag e = refl
  structure_none (suc d) tag e = ap (members_flexible last_lacks_length) (k.members tag ∙ ap (parts_in u.types) e)

  union_none : (d tag : ℕ) → members_in u.types tag ≡ None → flexible_within w d (UnionOf tag) ≡ false
  union_none zero tag e = refl
  union_none (suc d) tag e = ap (members_flexible (some_flexible (flexible_within w d))) (k.members tag ∙ ap (parts_in u.types) e)

  flag_none : (tag : ℕ) → members_in u.types tag ≡ None → get_or flags tag false ≡ false
  flag_none tag e = f.each tag ∙ ap (λ (o : Option (List MemberTerm)). members_flexible (some_flexible own) (parts_in u.types o)) e

  structure_some : (d tag : ℕ) → 0 < d → flexible_within w d (StructureOf tag) ≡ own (StructureOf tag)
  structure_some zero tag h = absurd (omega arith)
  structure_some (suc d) tag h = ap (members_flexible last_lacks_length) (k.members tag)

  structure_here : (d tag : ℕ) (o : Option (List MemberTerm)) → members_in u.types tag ≡ o → ((bs : List MemberTerm) → o ≡ Some bs → 0 < d) → flexible_within w d (StructureOf tag) ≡ own (StructureOf tag)
  structure_here d tag None e deep = structure_none d tag e ∙ sym (ap (λ (o : Option (List MemberTerm)). members_flexible last_lacks_length (parts_in u.types o)) e)
  structure_here d tag (Some bs) e deep = structure_some d tag (deep bs refl)

  union_here : (d tag : ℕ) (o : Option (List MemberTerm)) → members_in u.types tag ≡ o → ((bs : List MemberTerm) → o ≡ Some bs → flexible_within w d (UnionOf tag) ≡ get_or flags tag false) → flexible_within w d (UnionOf tag) ≡ get_or flags tag false
  union_here d tag None e deep = union_none d tag e ∙ sym (flag_none tag e)
  union_here d tag (Some bs) e deep = deep bs refl

  -- a member of a tag
  module _ (d tag : ℕ) (ms : List MemberTerm) (there : members_in u.types tag ≡ Some ms) (low : rank_of tag ≤ d) (below : (s : ℕ) → rank_of s < d → flexible_within w d (UnionOf s) ≡ get_or flags s false) (i : ℕ) (m : MemberTerm) (at : slice_get ms i ≡ Some m) where
    rank_member : (s : ℕ) (bs : List MemberTerm) → IsOf (type_of u.types m.ty.0) s → members_in u.types s ≡ Some bs → rank_of s < rank_of tag
    rank_member s bs of e =
        rank_less u.types made named s tag (tag_below u.types made named s bs e) (member_before u.types made named tag ms i m s bs there at of e)

    member_by : (t : Ctype) → type_of u.types m.ty.0 ≡ t → flexible_within w d t ≡ own t
    member_by (StructureOf s) e = structure_here d s (members_in u.types s) refl (λ bs h. let less = rank_member s bs (inl e) h in omega (arith, less, low))
    member_by (UnionOf s) e = union_here d s (members_in u.types s) refl (λ bs h. let less = rank_member s bs (inr e) h in below s (omega (arith, less, low)))
    member_by VoidType e = dull w d VoidType refl
    member_by BoolType e = dull w d BoolType refl
    member_by (IntegerType size rank signed) e = dull w d (IntegerType size rank signed) refl
    member_by FloatingType e = dull w d FloatingType refl
    member_by VaListType e = dull w d VaListType refl
    member_by (PointerTo to) e = dull w d (PointerTo to) refl
    member_by (ArrayOf of n) e = dull w d (ArrayOf of n) refl
    member_by (FunctionFrom r ps q) e = dull w d (FunctionFrom r ps q) refl

  flag_at : (d tag : ℕ) → rank_of tag < d → flexible_within w d (UnionOf tag) ≡ get_or flags tag false
  flag_at zero tag h = absurd (omega arith)
  flag_at (suc d) tag h =
      let low : rank_of tag ≤ d = omega (arith, h) in
      ap (members_flexible (some_flexible (flexible_within w d))) (k.members tag)
      ∙ (in_same u.types (flexible_within w d) own (members_in u.types tag) (λ ms i m e at. member_by d tag ms e low (λ s less. flag_at d s less) i m at (type_of u.types m.ty.0) refl)
      ∙ sym (f.each tag))

pub unions_flexible : UnionsAreFlexible
unions_flexible w u flags made named k f = λ tag.
    let most = rank_most u.types made named tag in
    let tags = k.tags in
    flag_at w u flags made named k f (suc w.tags) tag (omega (arith, most, tags))

-- ---- a unit that grows

pub unions_built : BuildingKeepsUnions
unions_built old new flags b f = record {
  long = f.long ∙ sym b.tags;
  each = λ tag.
      f.each tag
      ∙ ap (λ (members : ℕ → Option (List Part)). has_open members flags tag) (fun_ext (λ t. sym (b.parts t)));
}

none_flagged : (n tag : ℕ) → get_or (replicate n false) tag false ≡ false
none_flagged zero tag = refl
none_flagged (suc n) zero = refl
none_flagged (suc n) (suc tag) = none_flagged n tag

pub unions_open : (types : Table) (flags : List Bool) → types.completed ≡ [] → flags ≡ replicate types.tags false → AreUnions types flags
unions_open types flags none e = record {
  long = ap length e ∙ length-replicate types.tags false;
  each = λ tag.
      ap (λ (l : List Bool). get_or l tag false) e
      ∙ (none_flagged types.tags tag
      ∙ sym (ap (λ (cs : List TagMembers). members_flexible (some_flexible (is_open (members_at types) flags)) (parts_in types (members_among cs tag))) none));
}

-- a flag that is as its members say is noted again
pub unions_again : (types : Table) (flags more : List Bool) (tag : ℕ) → AreUnions types flags → IsNoted types flags more tag → AreUnions types more
unions_again types flags more tag f n =
    let same : more ≡ flags = n.noted ∙ (ap (set flags tag) (sym (f.each tag)) ∙ set-get_or flags tag false) in
    subst (AreUnions types) (sym same) f

-- a type of an incomplete tag is no member
some_never : {A : Type 0} (o : Option A) → o ≡ None → IsSome o → ⊥
some_never None e h = cc
some_never (Some x) e h = cc

open_never : (types : Table) (made : IsMade types) (s tag k : ℕ) (ms : List MemberTerm) (m : MemberTerm) → members_in types s ≡ None → members_in types tag ≡ Some ms → slice_get ms k ≡ Some m → IsOf (type_of types m.ty.0) s → ⊥
open_never types made s tag k ms m empty there at of =
    elim ((made.members tag ms there k m at).1.object) [ inl whole ↦ no_extent of whole | inr last ↦ no_array of last.flexible ]
  where
    no_look : look_in types s ≡ None
    no_look = made.laid s ∙ ap (option_map (extents_in types)) empty

    no_extent : IsOf (type_of types m.ty.0) s → IsComplete types (type_of types m.ty.0) → ⊥
    no_extent (inl e) h = some_never (extent_in types (type_of types m.ty.0)) (ap (extent_in types) e ∙ ap (of_members (structure_of (StructureOf s))) no_look) h
    no_extent (inr e) h = some_never (extent_in types (type_of types m.ty.0)) (ap (extent_in types) e ∙ ap (of_members (union_of (UnionOf s))) no_look) h

    no_array : IsOf (type_of types m.ty.0) s → IsFlexible types (type_of types m.ty.0) → ⊥
    no_array (inl e) h = subst (IsFlexible types) e h
    no_array (inr e) h = subst (IsFlexible types) e h

-- a tag more is complete, and its flag is noted
module _ (old new : Unit) (tag : ℕ) (parts : List Part) (made : IsMade old.types) (after : IsMade new.types) (named : AreNamed new.types) (c : Completes old new tag parts) (flags more : List Bool) (f : AreUnions old.types flags) (n : IsNoted new.types flags more tag) where
  abbrev was : ℕ → Option (List Part)
  was = members_at old.types

  abbrev now : ℕ → Option (List Part)
  now = members_at new.types

  inside : tag < length flags
  inside = let long = f.long in let tags = c.tags in let below = n.below in omega (arith, long, tags, below)

  here : get_or more tag false ≡ has_open now flags tag
  here = ap (λ (l : List Bool). get_or l tag false) n.noted ∙ get_or-set_same flags tag (has_open now flags tag) false inside

  others : (t : ℕ) → (tag == t) ≡ false → get_or more t false ≡ get_or flags t false
  others t e = ap (λ (l : List Bool). get_or l t false) n.noted ∙ get_or-set_other flags tag t (has_open now flags tag) false (λ same. eqb-false tag t e (sym same))

  stays : (t : ℕ) → (tag == t) ≡ false → now t ≡ was t
  stays t e = c.members t ∙ ap (λ (b : Bool). if b then Some parts else was t) e

  -- in the tag itself
  module _ (ms : List MemberTerm) (i : ℕ) (m : MemberTerm) (there : members_in new.types tag ≡ Some ms) (at : slice_get ms i ≡ Some m) where
    own_union : (s : ℕ) (b : Bool) → (tag == s) ≡ b → type_of new.types m.ty.0 ≡ UnionOf s → get_or flags s false ≡ get_or more s false
    own_union s false e of = sym (others s e)
    own_union s true e of =
        let same : tag ≡ s = eqb-true tag s e in
        let again : members_in new.types s ≡ Some ms = ap (members_in new.types) (sym same) ∙ there in
        let less = member_before new.types after named tag ms i m s ms there at (inr of) again in
        let never : place (completions new.types) tag < place (completions new.types) tag = subst (λ (k : ℕ). place (completions new.types) k < place (completions new.types) tag) (sym same) less in
        absurd (omega (arith, never))

    own_by : (t : Ctype) → type_of new.types m.ty.0 ≡ t → is_open now flags t ≡ is_open now more t
    own_by (UnionOf s) e = own_union s (tag == s) refl e
    own_by (StructureOf s) e = refl
    own_by VoidType e = refl
    own_by BoolType e = refl
    own_by (IntegerType size rank signed) e = refl
    own_by FloatingType e = refl
    own_by VaListType e = refl
    own_by (PointerTo to) e = refl
    own_by (ArrayOf of k) e = refl
    own_by (FunctionFrom r ps q) e = refl

  -- in another tag
  module _ (t : ℕ) (ms : List MemberTerm) (i : ℕ) (m : MemberTerm) (there : members_in old.types t ≡ Some ms) (at : slice_get ms i ≡ Some m) where
    never : (s : ℕ) → (tag == s) ≡ true → IsOf (type_of old.types m.ty.0) s → ⊥
    never s e of =
        let same : tag ≡ s = eqb-true tag s e in
        open_never old.types made s t i ms m (ap (members_in old.types) (sym same) ∙ c.was_open) there at of

    other_structure : (s : ℕ) (b : Bool) → (tag == s) ≡ b → type_of old.types m.ty.0 ≡ StructureOf s → is_open was flags (StructureOf s) ≡ is_open now more (StructureOf s)
    other_structure s false e of = ap (members_flexible last_lacks_length) (sym (stays s e))
    other_structure s true e of = absurd (never s e (inl of))

    other_union : (s : ℕ) (b : Bool) → (tag == s) ≡ b → type_of old.types m.ty.0 ≡ UnionOf s → is_open was flags (UnionOf s) ≡ is_open now more (UnionOf s)
    other_union s false e of = sym (others s e)
    other_union s true e of = absurd (never s e (inr of))

    other_by : (x : Ctype) → type_of old.types m.ty.0 ≡ x → is_open was flags x ≡ is_open now more x
    other_by (StructureOf s) e = other_structure s (tag == s) refl e
    other_by (UnionOf s) e = other_union s (tag == s) refl e
    other_by VoidType e = refl
    other_by BoolType e = refl
    other_by (IntegerType size rank signed) e = refl
    other_by FloatingType e = refl
    other_by VaListType e = refl
    other_by (PointerTo to) e = refl
    other_by (ArrayOf of k) e = refl
    other_by (FunctionFrom r ps q) e = refl

  each_at : (t : ℕ) (b : Bool) → (tag == t) ≡ b → get_or more t false ≡ has_open now more t
  each_at t true e =
      let same : tag ≡ t = eqb-true tag t e in
      subst (λ (s : ℕ). get_or more s false ≡ has_open now more s) same
      (here ∙ in_same new.types (is_open now flags) (is_open now more) (members_in new.types tag) (λ ms i m there at. own_by ms i m there at (type_of new.types m.ty.0) refl))
  each_at t false e =
      others t e
      ∙ (f.each t
      ∙ (in_same old.types (is_open was flags) (is_open now more) (members_in old.types t) (λ ms i m there at. other_by t ms i m there at (type_of old.types m.ty.0) refl)
      ∙ ap (members_flexible (some_flexible (is_open now more))) (sym (stays t e))))

  pub unions_noted : AreUnions new.types more
  unions_noted = record {
    long = ap length n.noted ∙ (length-set flags tag (has_open now flags tag) ∙ (f.long ∙ sym c.tags));
    each = λ t. each_at t (tag == t) refl;
  }

-- behind a row
pub unions_grown : (old new : Unit) (es : List TagParts) (flags more : List Bool) (tag : ℕ) → IsMade old.types → IsMade new.types → AreNamed new.types → Grows old new es → AreUnions old.types flags
    → IsNoted new.types flags more tag → ((e : TagParts) (rest : List TagParts) → es ≡ e ∷ rest → tag ≡ e.tag) → AreUnions new.types more
unions_grown old new [] flags more tag made after named g f n of = unions_again new.types flags more tag (unions_built old new flags g f) n
unions_grown old new (e ∷ rest) flags more tag made after named g f n of =
    let same : tag ≡ e.tag = of e rest refl in
    unions_noted old new e.tag e.members made after named g flags more f (subst (IsNoted new.types flags more) same n)

-- the tag of what a node completes
pub tag_same : (types : Table) (ty : TypeId) (es : List TagParts) (tag : ℕ) → IsTypeOf types (Some ty) es → tag_in (type_of types ty.0) ≡ Some tag → (e : TagParts) (rest : List TagParts) → es ≡ e ∷ rest → tag ≡ e.tag
tag_same types ty es tag of own e rest h =
    let here : tag_in (type_of types ty.0) ≡ Some e.tag = subst (IsTypeOf types (Some ty)) h of in
    let both : Some tag ≡ Some e.tag = sym own ∙ here in
    cc

-- behind a row that completes nothing
pub unions_untyped : (old new : Unit) (es : List TagParts) (flags : List Bool) → IsTypeOf new.types None es → Grows old new es → AreUnions old.types flags → AreUnions new.types flags
unions_untyped old new [] flags of g f = unions_built old new flags g f
unions_untyped old new (e ∷ rest) flags of g f = absurd of
