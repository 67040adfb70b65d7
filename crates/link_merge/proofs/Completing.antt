-- What a unit's tags have as members may be members in the table of all.
use Rattle.std.proofs.Common.{arith, ◌≡◌, ◌≢◌, ℕ, zero, suc, ◌+◌, ◌<◌, ◌≤◌, ◌⊎◌, inl, inr, List, [], ◌∷◌, ◌++◌, length, map, take, refl, ap, sym, ◌∙◌, subst, Option, Some, None, slice_get, true, false, cond, IsSome, is_some}
use Rattle.std.specs.Option.{option_map}
use Rattle.std.proofs.lemmas.Bool.Decides.{eqb_tells}
use Rattle.std.proofs.lemmas.List.{length-map}
use Rattle.std.proofs.lemmas.Option.{slice_get-map, slice_get_within}
use Rattle.c_types.specs.declared.term.Term.TheVariants.{Structure, Union}
use Rattle.c_types.specs.declared.term.MemberTerm.{MemberTerm}
use Rattle.c_types.specs.Trees.{Ctype, VoidType, BoolType, IntegerType, FloatingType, VaListType, PointerTo, ArrayOf, FunctionFrom, StructureOf, UnionOf, grow}
use Rattle.c_types.specs.Layout.{Extent, Look, Completed, extent_of, repeated, of_members, member_extent, laid_out, looked_up, structure_of, union_of}
use Rattle.c_types.specs.Table.{Table, TagMembers, types_of, type_of, look_in, extents_in, members_in, members_among}
use Rattle.c_types.specs.Made.{StandsAsStructure, StandsAsUnion, IsComplete, IsFlexible, IsMember, AreMembers, AreNamed, IsMade, HasWidth, HasBits, earlier}
use Rattle.link_model.specs.Renamed.{renamed}
use Rattle.link_model.specs.link_types.Moved.{HasTypes}
use Rattle.link_merge.specs.Complete.{moved_member, AreDone}
use Rattle.link_merge.proofs.Terms.{type_is, term_at, structure_term, union_term}

some_is : {A : Type 0} → {x y : A} → ◌≡◌ {A = Option A} (Some x) (Some y) → x ≡ y
some_is e = cc

some_of : {A : Type 0} (o : Option A) → IsSome o → (x : A) × (o ≡ Some x)
some_of None h = cc
some_of (Some x) h = (x, refl)

is_some_of : {A : Type 0} (o : Option A) (x : A) → o ≡ Some x → IsSome o
is_some_of o x e = rw e refl

-- one look knows, by other numbers, each tag that another knows
abbrev KnowsMoved : (ℕ → ℕ) → Look → Look → Type 0
KnowsMoved f look more = (tag : ℕ) → IsSome (look tag) → IsSome (more (f tag))

of_moved : (g h : List Extent → Extent) (a b : Option (List Extent)) → (IsSome a → IsSome b) → IsSome (of_members g a) → IsSome (of_members h b)
of_moved g h None b k e = cc
of_moved g h (Some es) None k e = k refl
of_moved g h (Some es) (Some fs) k e = refl

repeated_moved : (n : ℕ) (a b : Option Extent) → (IsSome a → IsSome b) → IsSome (repeated n a) → IsSome (repeated n b)
repeated_moved n None b k e = cc
repeated_moved n (Some d) None k e = k refl
repeated_moved n (Some d) (Some c) k e = refl

-- a complete type stays complete with other tags
extent_moved : (f : ℕ → ℕ) (look more : Look) → KnowsMoved f look more → (t : Ctype) → IsSome (extent_of look t) → IsSome (extent_of more (renamed f t))
extent_moved f look more k VoidType h = h
extent_moved f look more k BoolType h = refl
extent_moved f look more k (IntegerType size rank signed) h = refl
extent_moved f look more k FloatingType h = refl
extent_moved f look more k VaListType h = refl
extent_moved f look more k (PointerTo to) h = refl
extent_moved f look more k (ArrayOf of None) h = h
extent_moved f look more k (ArrayOf of (Some n)) h = repeated_moved n (extent_of look of) (extent_of more (renamed f of)) (extent_moved f look more k of) h
extent_moved f look more k (FunctionFrom result parameters form) h = h
extent_moved f look more k (StructureOf tag) h = of_moved (structure_of (StructureOf tag)) (structure_of (StructureOf (f tag))) (look tag) (more (f tag)) (k tag) h
extent_moved f look more k (UnionOf tag) h = of_moved (union_of (UnionOf tag)) (union_of (UnionOf (f tag))) (look tag) (more (f tag)) (k tag) h

abbrev FlexibleIn : Look → Ctype → Type 0
FlexibleIn look (ArrayOf of None) = IsSome (extent_of look of)
FlexibleIn look t = ⊥

flexible_moved : (table unit : Table) (f : ℕ → ℕ) → KnowsMoved f (look_in unit) (look_in table) → (t : Ctype) → IsFlexible unit t → IsFlexible table (renamed f t)
flexible_moved table unit f k (ArrayOf of None) h = extent_moved f (look_in unit) (look_in table) k of h
flexible_moved table unit f k (ArrayOf of (Some n)) h = absurd h
flexible_moved table unit f k VoidType h = absurd h
flexible_moved table unit f k BoolType h = absurd h
flexible_moved table unit f k (IntegerType size rank signed) h = absurd h
flexible_moved table unit f k FloatingType h = absurd h
flexible_moved table unit f k VaListType h = absurd h
flexible_moved table unit f k (PointerTo to) h = absurd h
flexible_moved table unit f k (FunctionFrom result parameters form) h = absurd h
flexible_moved table unit f k (StructureOf tag) h = absurd h
flexible_moved table unit f k (UnionOf tag) h = absurd h

width_moved : (f : ℕ → ℕ) (t : Ctype) (bits : ℕ) → HasWidth t bits → HasWidth (renamed f t) bits
width_moved f BoolType bits h = h
width_moved f (IntegerType size rank signed) bits h = h
width_moved f VoidType bits h = absurd h
width_moved f FloatingType bits h = absurd h
width_moved f VaListType bits h = absurd h
width_moved f (PointerTo to) bits h = absurd h
width_moved f (ArrayOf of n) bits h = absurd h
width_moved f (FunctionFrom result parameters form) bits h = absurd h
width_moved f (StructureOf tag) bits h = absurd h
width_moved f (UnionOf tag) bits h = absurd h

bits_moved : (f : ℕ → ℕ) (t : Ctype) (bits : Option ℕ) → HasBits t bits → HasBits (renamed f t) bits
bits_moved f t None h = tt
bits_moved f t (Some bits) h = width_moved f t bits h

-- the first of the tags completed that has a list
pub record IsAmong (cs : List TagMembers) (tag : ℕ) (list : List MemberTerm) : Type 0 where
  pub at : ℕ
  pub there : slice_get cs at ≡ Some (record { tag = tag; members = list })
  pub first : (j : ℕ) (c : TagMembers) → slice_get cs j ≡ Some c → c.tag ≡ tag → at ≤ j

pub among_first : (cs : List TagMembers) (tag : ℕ) (list : List MemberTerm) → members_among cs tag ≡ Some list → IsAmong cs tag list
among_first [] tag list e = cc
among_first (c ∷ cs) tag list e = elim (eqb_tells c.tag tag) [
  | inl same ↦
      let is : c.members ≡ list = some_is (sym (ap (λ b. cond b (Some c.members) (members_among cs tag)) same.0) ∙ e) in
      record {
        at = 0;
        there = ap Some (λ i. record { tag = same.1 i; members = is i });
        first = λ j d at named. omega arith;
      }
  | inr other ↦
      let rest = among_first cs tag list (sym (ap (λ b. cond b (Some c.members) (members_among cs tag)) other.0) ∙ e) in
      record {
        at = suc rest.at;
        there = rest.there;
        first = later c cs tag rest.at other.1 rest.first;
      }
]
  where
    later : (c : TagMembers) (cs : List TagMembers) (tag at : ℕ) → c.tag ≢ tag → ((j : ℕ) (d : TagMembers) → slice_get cs j ≡ Some d → d.tag ≡ tag → at ≤ j)
        → (j : ℕ) (d : TagMembers) → slice_get (c ∷ cs) j ≡ Some d → d.tag ≡ tag → suc at ≤ j
    later c cs tag at other first zero d there named = absurd (other (ap (λ (x : TagMembers). x.tag) (some_is there) ∙ named))
    later c cs tag at other first (suc j) d there named = (let le = first j d there named in omega arith)

pub among_some : (cs : List TagMembers) (j : ℕ) (c : TagMembers) → slice_get cs j ≡ Some c → IsSome (members_among cs c.tag)
among_some [] j c e = cc
among_some (d ∷ cs) zero c e = elim (eqb_tells d.tag c.tag) [
  | inl same ↦ ap is_some (ap (λ b. cond b (Some d.members) (members_among cs c.tag)) same.0)
  | inr other ↦ absurd (other.1 (ap (λ (x : TagMembers). x.tag) (some_is e)))
]
among_some (d ∷ cs) (suc j) c e = elim (eqb_tells d.tag c.tag) [
  | inl same ↦ ap is_some (ap (λ b. cond b (Some d.members) (members_among cs c.tag)) same.0)
  | inr other ↦ ap is_some (ap (λ b. cond b (Some d.members) (members_among cs c.tag)) other.0) ∙ among_some cs j c e
]

-- what a look knows was completed
abbrev completion : Table → TagMembers → Completed
completion table c = record { tag = c.tag; types = map (λ m. type_of table m.ty.0) c.members }

looked_in : (xs : List (ℕ × List Extent)) (t : ℕ) (es : List Extent) (tag : ℕ) → IsSome (looked_up (xs ++ (t, es) ∷ []) tag) → IsSome (looked_up xs tag) ⊎ (t ≡ tag)
looked_in [] t es tag h = elim (eqb_tells t tag) [
  | inl same ↦ inr same.1
  | inr other ↦ absurd (none (sym (ap (λ b. is_some (cond b (Some es) None)) other.0) ∙ h))
]
  where
    none : false ≡ true → ⊥
    none e = cc
looked_in ((u, ds) ∷ xs) t es tag h = elim (eqb_tells u tag) [
  | inl same ↦ inl (ap (λ b. is_some (cond b (Some ds) (looked_up xs tag))) same.0)
  | inr other ↦ elim (looked_in xs t es tag (sym (ap (λ b. is_some (cond b (Some ds) (looked_up (xs ++ (t, es) ∷ []) tag))) other.0) ∙ h)) [
    | inl here ↦ inl (ap (λ b. is_some (cond b (Some ds) (looked_up xs tag))) other.0 ∙ here)
    | inr last ↦ inr last
  ]
]

known_completed : (table : Table) (done : List (ℕ × List Extent)) (cs : List TagMembers) (tag : ℕ) → IsSome (looked_up (laid_out done (map (completion table) cs)) tag) → IsSome (looked_up done tag) ⊎ IsSome (members_among cs tag)
known_completed table done [] tag h = inl h
known_completed table done (c ∷ cs) tag h = elim (known_completed table (done ++ (c.tag, map (member_extent (looked_up done)) (completion table c).types) ∷ []) cs tag h) [
  | inl before ↦ elim (looked_in done c.tag (map (member_extent (looked_up done)) (completion table c).types) tag before) [
    | inl here ↦ inl here
    | inr last ↦ inr (elim (eqb_tells c.tag tag) [
      | inl same ↦ ap (λ b. is_some (cond b (Some c.members) (members_among cs tag))) same.0
      | inr other ↦ absurd (other.1 last)
    ])
  ]
  | inr rest ↦ inr (elim (eqb_tells c.tag tag) [
    | inl same ↦ ap (λ b. is_some (cond b (Some c.members) (members_among cs tag))) same.0
    | inr other ↦ ap (λ b. is_some (cond b (Some c.members) (members_among cs tag))) other.0 ∙ rest
  ])
]

none_known : (tag : ℕ) → IsSome (looked_up [] tag) → ⊥
none_known tag h = cc

take_within : (cs : List TagMembers) (k j : ℕ) (c : TagMembers) → slice_get (take k cs) j ≡ Some c → (j < k) × (slice_get cs j ≡ Some c)
take_within [] zero j c e = cc
take_within [] (suc k) j c e = cc
take_within (d ∷ cs) zero j c e = cc
take_within (d ∷ cs) (suc k) zero c e = (omega arith, e)
take_within (d ∷ cs) (suc k) (suc j) c e = (let r = take_within cs k j c e in (let lt = r.0 in omega arith, r.1))

option_some : {A B : Type 0} (g : A → B) (o : Option A) → IsSome o → IsSome (option_map g o)
option_some g None h = cc
option_some g (Some x) h = refl

-- what was complete in the unit before is complete in the table
knows_moved : (table unit : Table) (f : ℕ → ℕ) (k : ℕ) → IsMade table → AreDone table unit f k → KnowsMoved f (look_in (earlier unit k)) (look_in table)
knows_moved table unit f k made done tag h = elim (known_completed (earlier unit k) [] (take k unit.completed) tag h) [
  | inl none ↦ absurd (none_known tag none)
  | inr some ↦
      let (list, is) = some_of (members_among (take k unit.completed) tag) some in
      let a = among_first (take k unit.completed) tag list is in
      let w = take_within unit.completed k a.at (record { tag = tag; members = list }) a.there in
      let there : IsSome (members_in table (f tag)) = done.each a.at (record { tag = tag; members = list }) w.0 w.1 in
      ap is_some (made.laid (f tag)) ∙ option_some (extents_in table) (members_in table (f tag)) there
]

structure_moved : (table unit : Table) (start : ℕ) (f : ℕ → ℕ) → AreNamed table → AreNamed unit → start + length unit.terms ≤ length table.terms → HasTypes table unit start f (length unit.terms)
    → (tag : ℕ) → StandsAsStructure unit.terms tag → StandsAsStructure table.terms (f tag)
structure_moved table unit start f named own within types tag h =
    let lt = slice_get_within unit.terms h.0 (Structure tag) h.1 in
    let (t, at) = term_at table.terms (start + h.0) (omega arith) in
    let tree : grow (types_of table) t ≡ StructureOf (f tag) = sym (type_is table (start + h.0) t named at) ∙ (types.each h.0 lt ∙ ap (renamed f) (type_is unit h.0 (Structure tag) own h.1)) in
    (start + h.0, at ∙ ap Some (structure_term (types_of table) t (f tag) tree))

union_moved : (table unit : Table) (start : ℕ) (f : ℕ → ℕ) → AreNamed table → AreNamed unit → start + length unit.terms ≤ length table.terms → HasTypes table unit start f (length unit.terms)
    → (tag : ℕ) → StandsAsUnion unit.terms tag → StandsAsUnion table.terms (f tag)
union_moved table unit start f named own within types tag h =
    let lt = slice_get_within unit.terms h.0 (Union tag) h.1 in
    let (t, at) = term_at table.terms (start + h.0) (omega arith) in
    let tree : grow (types_of table) t ≡ UnionOf (f tag) = sym (type_is table (start + h.0) t named at) ∙ (types.each h.0 lt ∙ ap (renamed f) (type_is unit h.0 (Union tag) own h.1)) in
    (start + h.0, at ∙ ap Some (union_term (types_of table) t (f tag) tree))

pub stands_moved : (table unit : Table) (start : ℕ) (f : ℕ → ℕ) → AreNamed table → AreNamed unit → start + length unit.terms ≤ length table.terms → HasTypes table unit start f (length unit.terms)
    → (tag : ℕ) → StandsAsStructure unit.terms tag ⊎ StandsAsUnion unit.terms tag → StandsAsStructure table.terms (f tag) ⊎ StandsAsUnion table.terms (f tag)
stands_moved table unit start f named own within types tag h = elim h [
  | inl s ↦ inl (structure_moved table unit start f named own within types tag s)
  | inr u ↦ inr (union_moved table unit start f named own within types tag u)
]

-- a tag that stands is the table's
pub stands_within : (unit : Table) → AreNamed unit → (tag : ℕ) → StandsAsStructure unit.terms tag ⊎ StandsAsUnion unit.terms tag → tag < unit.tags
stands_within unit named tag h = elim h [
  | inl s ↦ (named s.0 (Structure tag) s.1).1
  | inr u ↦ (named u.0 (Union tag) u.1).1
]

-- the members of a tag, moved, may be its members in the table
pub members_moved : (table unit : Table) (start : ℕ) (f : ℕ → ℕ) → IsMade table → AreNamed table → IsMade unit → AreNamed unit → start + length unit.terms ≤ length table.terms
    → HasTypes table unit start f (length unit.terms) → (k : ℕ) (c : TagMembers) → slice_get unit.completed k ≡ Some c → AreDone table unit f k → AreMembers table (f c.tag) (map (moved_member start) c.members)
members_moved table unit start f made named own own_named within types k c at done i m there = here (slice_get c.members i) refl
  where
    knows : KnowsMoved f (look_in (earlier unit k)) (look_in table)
    knows = knows_moved table unit f k made done

    one : (x : MemberTerm) → slice_get c.members i ≡ Some x → (start + x.ty.0 < length table.terms) × IsMember table (f c.tag) (map (moved_member start) c.members) i (moved_member start x)
    one x is =
        let (lt, right) = own.ordered k c at i x is in
        let tree : type_of table (start + x.ty.0) ≡ renamed f (type_of unit x.ty.0) = types.each x.ty.0 lt in (
          omega arith,
          record {
            object = elim right.object [
              | inl complete ↦ inl (subst (IsComplete table) (sym tree) (extent_moved f (look_in (earlier unit k)) (look_in table) knows (type_of unit x.ty.0) complete))
              | inr flexible ↦ inr (record {
                flexible = subst (IsFlexible table) (sym tree) (flexible_moved table (earlier unit k) f knows (type_of unit x.ty.0) flexible.flexible);
                after = flexible.after;
                last = flexible.last ∙ sym (length-map c.members (moved_member start));
                structure = structure_moved table unit start f named own_named within types c.tag flexible.structure;
              })
            ];
            bits = subst (λ t. HasBits t x.bits) (sym tree) (bits_moved f (type_of unit x.ty.0) x.bits right.bits);
          },
        )

    here : (o : Option MemberTerm) → slice_get c.members i ≡ o → (m.ty.0 < length table.terms) × IsMember table (f c.tag) (map (moved_member start) c.members) i m
    here None e = absurd (none_some (sym (slice_get-map (moved_member start) c.members i ∙ ap (option_map (moved_member start)) e) ∙ there))
      where
        none_some : {x : MemberTerm} → ◌≡◌ {A = Option MemberTerm} None (Some x) → ⊥
        none_some h = cc
    here (Some x) e =
        let same : moved_member start x ≡ m = some_is (sym (slice_get-map (moved_member start) c.members i ∙ ap (option_map (moved_member start)) e) ∙ there) in
        subst (λ y. (y.ty.0 < length table.terms) × IsMember table (f c.tag) (map (moved_member start) c.members) i y) same (one x e)
