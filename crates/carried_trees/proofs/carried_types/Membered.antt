-- What the tags of one table have as members may be members in another one, by the types of tags there.
use Rattle.std.proofs.Common.{arith, ◌≡◌, ◌≢◌, ◌∙◌, ℕ, zero, suc, ◌<◌, ◌≤◌, ◌⊎◌, inl, inr, Bool, true, false, cond, ◌&&◌, List, [], ◌∷◌, ◌++◌, length, map, take, get_or, refl, ap, sym, subst, Option, Some, None, slice_get, IsSome, is_some}
use Rattle.std.specs.Option.{option_map, option_and_then}
use Rattle.std.proofs.lemmas.Bool.Decides.{eqb_tells}
use Rattle.std.proofs.lemmas.List.{length-map}
use Rattle.std.proofs.lemmas.Option.{slice_get-map}
use Rattle.c_types.specs.declared.term.MemberTerm.{MemberTerm}
use Rattle.c_types.specs.declared.term.Term.TheVariants.{Structure, Union}
use Rattle.c_types.specs.Trees.{Ctype, VoidType, BoolType, IntegerType, FloatingType, VaListType, PointerTo, ArrayOf, FunctionFrom, StructureOf, UnionOf}
use Rattle.c_types.specs.Layout.{Extent, Look, Completed, extent_of, repeated, of_members, member_extent, laid_out, looked_up, structure_of, union_of}
use Rattle.c_types.specs.Table.{Table, TagMembers, type_of, look_in, extents_in, members_in, members_among}
use Rattle.c_types.specs.Made.{StandsAsStructure, IsComplete, IsFlexible, IsMember, AreMembers, AreNamed, IsMade, HasWidth, HasBits, earlier}
use Rattle.c_inits.specs.Tables.{part_of}
use Rattle.carried_trees.specs.carried_types.Types.{or_void, carried_type, is_given_type}
use Rattle.carried_trees.specs.carried_types.Terms.{AreTypes}
use Rattle.carried_trees.specs.carried_types.Members.{tag_named, number_of, AreTagged, HaveKeyword, are_given_parts, moved_member, AreDone}

some_is : {A : Type 0} → {x y : A} → ◌≡◌ {A = Option A} (Some x) (Some y) → x ≡ y
some_is e = cc

some_of : {A : Type 0} (o : Option A) → IsSome o → (x : A) × (o ≡ Some x)
some_of None h = cc
some_of (Some x) h = (x, refl)

is_some_of : {A : Type 0} (o : Option A) (x : A) → o ≡ Some x → IsSome o
is_some_of o x e = rw e refl

-- one look knows, by other numbers, each tag that another knows
abbrev KnowsCarried : (ℕ → Option Ctype) → Look → Look → Type 0
KnowsCarried tag look more = (k number : ℕ) → IsSome (look k) → number_of tag k ≡ Some number → IsSome (more number)

of_some : (g : List Extent → Extent) (a : Option (List Extent)) → IsSome (of_members g a) → IsSome a
of_some g None h = h
of_some g (Some es) h = refl

some_extent : (g : List Extent → Extent) (a : Option (List Extent)) → IsSome a → IsSome (of_members g a)
some_extent g None h = h
some_extent g (Some es) h = refl

-- the type of a tag is complete there
tag_extent : (more : Look) (o : Option Ctype) → ((t : Ctype) → o ≡ Some t → IsSome (tag_named t)) → ((number : ℕ) → option_and_then tag_named o ≡ Some number → IsSome (more number)) → is_some o ≡ true → IsSome (extent_of more (or_void o))
tag_extent more None tagged knows h = cc
tag_extent more (Some VoidType) tagged knows h = tagged VoidType refl
tag_extent more (Some BoolType) tagged knows h = refl
tag_extent more (Some (IntegerType size rank signed)) tagged knows h = refl
tag_extent more (Some FloatingType) tagged knows h = refl
tag_extent more (Some VaListType) tagged knows h = refl
tag_extent more (Some (PointerTo to)) tagged knows h = refl
tag_extent more (Some (ArrayOf of n)) tagged knows h = absurd (no (tagged (ArrayOf of n) refl))
  where
    no : IsSome (tag_named (ArrayOf of n)) → ⊥
    no e = cc
tag_extent more (Some (FunctionFrom result parameters form)) tagged knows h = tagged (FunctionFrom result parameters form) refl
tag_extent more (Some (StructureOf u)) tagged knows h = some_extent (structure_of (StructureOf u)) (more u) (knows u refl)
tag_extent more (Some (UnionOf u)) tagged knows h = some_extent (union_of (UnionOf u)) (more u) (knows u refl)

repeated_carried : (n : ℕ) (a b : Option Extent) → (IsSome a → IsSome b) → IsSome (repeated n a) → IsSome (repeated n b)
repeated_carried n None b k e = cc
repeated_carried n (Some d) None k e = k refl
repeated_carried n (Some d) (Some c) k e = refl

-- a complete type stays complete with other tags
module _ (tag : ℕ → Option Ctype) (look more : Look) (tagged : AreTagged tag) (knows : KnowsCarried tag look more) where
  extent_carried : (t : Ctype) → is_given_type tag t ≡ true → IsSome (extent_of look t) → IsSome (extent_of more (carried_type tag t))
  extent_carried VoidType g h = h
  extent_carried BoolType g h = refl
  extent_carried (IntegerType size rank signed) g h = refl
  extent_carried FloatingType g h = refl
  extent_carried VaListType g h = refl
  extent_carried (PointerTo to) g h = refl
  extent_carried (ArrayOf of None) g h = h
  extent_carried (ArrayOf of (Some n)) g h = repeated_carried n (extent_of look of) (extent_of more (carried_type tag of)) (extent_carried of g) h
  extent_carried (FunctionFrom result parameters form) g h = h
  extent_carried (StructureOf k) g h =
      tag_extent more (tag k) (tagged k) (λ number is. knows k number (of_some (structure_of (StructureOf k)) (look k) h) is) g
  extent_carried (UnionOf k) g h =
      tag_extent more (tag k) (tagged k) (λ number is. knows k number (of_some (union_of (UnionOf k)) (look k) h) is) g

flexible_carried : (table from : Table) (tag : ℕ → Option Ctype) → AreTagged tag → KnowsCarried tag (look_in from) (look_in table) → (t : Ctype) → is_given_type tag t ≡ true → IsFlexible from t → IsFlexible table (carried_type tag t)
flexible_carried table from tag tagged knows (ArrayOf of None) g h = extent_carried tag (look_in from) (look_in table) tagged knows of g h
flexible_carried table from tag tagged knows (ArrayOf of (Some n)) g h = absurd h
flexible_carried table from tag tagged knows VoidType g h = absurd h
flexible_carried table from tag tagged knows BoolType g h = absurd h
flexible_carried table from tag tagged knows (IntegerType size rank signed) g h = absurd h
flexible_carried table from tag tagged knows FloatingType g h = absurd h
flexible_carried table from tag tagged knows VaListType g h = absurd h
flexible_carried table from tag tagged knows (PointerTo to) g h = absurd h
flexible_carried table from tag tagged knows (FunctionFrom result parameters form) g h = absurd h
flexible_carried table from tag tagged knows (StructureOf k) g h = absurd h
flexible_carried table from tag tagged knows (UnionOf k) g h = absurd h

width_carried : (tag : ℕ → Option Ctype) (t : Ctype) (bits : ℕ) → HasWidth t bits → HasWidth (carried_type tag t) bits
width_carried tag BoolType bits h = h
width_carried tag (IntegerType size rank signed) bits h = h
width_carried tag VoidType bits h = absurd h
width_carried tag FloatingType bits h = absurd h
width_carried tag VaListType bits h = absurd h
width_carried tag (PointerTo to) bits h = absurd h
width_carried tag (ArrayOf of n) bits h = absurd h
width_carried tag (FunctionFrom result parameters form) bits h = absurd h
width_carried tag (StructureOf k) bits h = absurd h
width_carried tag (UnionOf k) bits h = absurd h

bits_carried : (tag : ℕ → Option Ctype) (t : Ctype) (bits : Option ℕ) → HasBits t bits → HasBits (carried_type tag t) bits
bits_carried tag t None h = tt
bits_carried tag t (Some bits) h = width_carried tag t bits h

-- the first of the tags completed that has a list
pub record IsAmong (cs : List TagMembers) (tag : ℕ) (list : List MemberTerm) : Type 0 where
  pub at : ℕ
  pub there : slice_get cs at ≡ Some (record { tag = tag; members = list })
  pub first : (j : ℕ) (c : TagMembers) → slice_get cs j ≡ Some c → c.tag ≡ tag → at ≤ j

pub among_first : (cs : List TagMembers) (tag : ℕ) (list : List MemberTerm) → members_among cs tag ≡ Some list → IsAmong cs tag list
among_first [] tag list e = cc
among_first (c ∷ cs) tag list e = elim (eqb_tells c.tag tag) [
  | inl same ↦
      let is : c.members ≡ list = some_is (sym (ap (λ b. cond b (Some c.members) (members_among cs tag)) same.0) ∙ e) in
      record {
        at = 0;
        there = ap Some (λ i. record { tag = same.1 i; members = is i });
        first = λ j d at named. omega arith;
      }
  | inr other ↦
      let rest = among_first cs tag list (sym (ap (λ b. cond b (Some c.members) (members_among cs tag)) other.0) ∙ e) in
      record {
        at = suc rest.at;
        there = rest.there;
        first = later c cs tag rest.at other.1 rest.first;
      }
]
  where
    later : (c : TagMembers) (cs : List TagMembers) (tag at : ℕ) → c.tag ≢ tag → ((j : ℕ) (d : TagMembers) → slice_get cs j ≡ Some d → d.tag ≡ tag → at ≤ j)
        → (j : ℕ) (d : TagMembers) → slice_get (c ∷ cs) j ≡ Some d → d.tag ≡ tag → suc at ≤ j
    later c cs tag at other first zero d there named = absurd (other (ap (λ (x : TagMembers). x.tag) (some_is there) ∙ named))
    later c cs tag at other first (suc j) d there named = (let le = first j d there named in omega arith)

pub among_some : (cs : List TagMembers) (j : ℕ) (c : TagMembers) → slice_get cs j ≡ Some c → IsSome (members_among cs c.tag)
among_some [] j c e = cc
among_some (d ∷ cs) zero c e = elim (eqb_tells d.tag c.tag) [
  | inl same ↦ ap is_some (ap (λ b. cond b (Some d.members) (members_among cs c.tag)) same.0)
  | inr other ↦ absurd (other.1 (ap (λ (x : TagMembers). x.tag) (some_is e)))
]
among_some (d ∷ cs) (suc j) c e = elim (eqb_tells d.tag c.tag) [
  | inl same ↦ ap is_some (ap (λ b. cond b (Some d.members) (members_among cs c.tag)) same.0)
  | inr other ↦ ap is_some (ap (λ b. cond b (Some d.members) (members_among cs c.tag)) other.0) ∙ among_some cs j c e
]

-- what a look knows was completed
abbrev completion : Table → TagMembers → Completed
completion table c = record { tag = c.tag; types = map (λ m. type_of table m.ty.0) c.members }

looked_in : (xs : List (ℕ × List Extent)) (t : ℕ) (es : List Extent) (tag : ℕ) → IsSome (looked_up (xs ++ (t, es) ∷ []) tag) → IsSome (looked_up xs tag) ⊎ (t ≡ tag)
looked_in [] t es tag h = elim (eqb_tells t tag) [
  | inl same ↦ inr same.1
  | inr other ↦ absurd (none (sym (ap (λ b. is_some (cond b (Some es) None)) other.0) ∙ h))
]
  where
    none : false ≡ true → ⊥
    none e = cc
looked_in ((u, ds) ∷ xs) t es tag h = elim (eqb_tells u tag) [
  | inl same ↦ inl (ap (λ b. is_some (cond b (Some ds) (looked_up xs tag))) same.0)
  | inr other ↦ elim (looked_in xs t es tag (sym (ap (λ b. is_some (cond b (Some ds) (looked_up (xs ++ (t, es) ∷ []) tag))) other.0) ∙ h)) [
    | inl here ↦ inl (ap (λ b. is_some (cond b (Some ds) (looked_up xs tag))) other.0 ∙ here)
    | inr last ↦ inr last
  ]
]

known_completed : (table : Table) (done : List (ℕ × List Extent)) (cs : List TagMembers) (tag : ℕ) → IsSome (looked_up (laid_out done (map (completion table) cs)) tag) → IsSome (looked_up done tag) ⊎ IsSome (members_among cs tag)
known_completed table done [] tag h = inl h
known_completed table done (c ∷ cs) tag h = elim (known_completed table (done ++ (c.tag, map (member_extent (looked_up done)) (completion table c).types) ∷ []) cs tag h) [
  | inl before ↦ elim (looked_in done c.tag (map (member_extent (looked_up done)) (completion table c).types) tag before) [
    | inl here ↦ inl here
    | inr last ↦ inr (elim (eqb_tells c.tag tag) [
      | inl same ↦ ap (λ b. is_some (cond b (Some c.members) (members_among cs tag))) same.0
      | inr other ↦ absurd (other.1 last)
    ])
  ]
  | inr rest ↦ inr (elim (eqb_tells c.tag tag) [
    | inl same ↦ ap (λ b. is_some (cond b (Some c.members) (members_among cs tag))) same.0
    | inr other ↦ ap (λ b. is_some (cond b (Some c.members) (members_among cs tag))) other.0 ∙ rest
  ])
]

none_known : (tag : ℕ) → IsSome (looked_up [] tag) → ⊥
none_known tag h = cc

take_within : (cs : List TagMembers) (k j : ℕ) (c : TagMembers) → slice_get (take k cs) j ≡ Some c → (j < k) × (slice_get cs j ≡ Some c)
take_within [] zero j c e = cc
take_within [] (suc k) j c e = cc
take_within (d ∷ cs) zero j c e = cc
take_within (d ∷ cs) (suc k) zero c e = (omega arith, e)
take_within (d ∷ cs) (suc k) (suc j) c e = (let r = take_within cs k j c e in (let lt = r.0 in omega arith, r.1))

option_some : {A B : Type 0} (g : A → B) (o : Option A) → IsSome o → IsSome (option_map g o)
option_some g None h = cc
option_some g (Some x) h = refl

-- a tag that was completed
abbrev pub IsCompletedAt : Table → ℕ → ℕ → Type 0
IsCompletedAt from position own = (members : List MemberTerm) × (slice_get from.completed position ≡ Some (record { tag = own; members = members }))

pub has_members : (from : Table) (position own : ℕ) → IsCompletedAt from position own → IsSome (members_in from own)
has_members from position own h = among_some from.completed position (record { tag = own; members = h.0 }) h.1

pub completed_within : (from : Table) (position own : ℕ) → IsMade from → AreNamed from → IsCompletedAt from position own → own < from.tags
completed_within from position own made named h =
    let (list, is) = some_of (members_in from own) (has_members from position own h) in
    elim (made.stands own list is) [
      | inl s ↦ (named s.0 (Structure own) s.1).1
      | inr u ↦ (named u.0 (Union own) u.1).1
    ]

-- what was complete before is complete there
knows_carried : (table from : Table) (tag : ℕ → Option Ctype) (k : ℕ) → IsMade table → AreDone tag from table k → KnowsCarried tag (look_in (earlier from k)) (look_in table)
knows_carried table from tag k made done own number h is = elim (known_completed (earlier from k) [] (take k from.completed) own h) [
  | inl none ↦ absurd (none_known own none)
  | inr some ↦
      let (list, there) = some_of (members_among (take k from.completed) own) some in
      let a = among_first (take k from.completed) own list there in
      let w = take_within from.completed k a.at (record { tag = own; members = list }) a.there in
      let has : IsSome (members_in table number) = done a.at (record { tag = own; members = list }) number w.0 w.1 is in
      ap is_some (made.laid number) ∙ option_some (extents_in table) (members_in table number) has
]

both_true : (a b : Bool) → (a && b) ≡ true → (a ≡ true) × (b ≡ true)
both_true true b e = (refl, e)
both_true false b e = cc

given_at : (tag : ℕ → Option Ctype) (from : Table) (list : List MemberTerm) → are_given_parts tag (map (part_of from) list) ≡ true → (i : ℕ) (x : MemberTerm) → slice_get list i ≡ Some x → is_given_type tag (type_of from x.ty.0) ≡ true
given_at tag from [] h i x at = cc
given_at tag from (m ∷ rest) h zero x at =
    let same : m ≡ x = some_is at in
    subst (λ (y : MemberTerm). is_given_type tag (type_of from y.ty.0) ≡ true) same (both_true (is_given_type tag (type_of from m.ty.0)) (are_given_parts tag (map (part_of from) rest)) h).0
given_at tag from (m ∷ rest) h (suc i) x at = given_at tag from rest (both_true (is_given_type tag (type_of from m.ty.0)) (are_given_parts tag (map (part_of from) rest)) h).1 i x at

-- a tag that has a list, here, and there the same keyword
module _ (table from : Table) (tag : ℕ → Option Ctype) (ids : List ℕ) (given : List Bool) (made : IsMade table) (own_made : IsMade from) (types : AreTypes tag from (length from.terms) ids given table) (tagged : AreTagged tag) where
  structure_there : (id number own : ℕ) → HaveKeyword table.terms id number from.terms own → StandsAsStructure from.terms own → StandsAsStructure table.terms number
  structure_there id number own keyword stands = elim keyword [
    | inl s ↦ (id, s.0)
    | inr u ↦ absurd (own_made.apart.each stands.0 own own stands.1 u.1)
  ]

  members_carried : (k : ℕ) (c : TagMembers) → slice_get from.completed k ≡ Some c → AreDone tag from table k → (id number : ℕ) → HaveKeyword table.terms id number from.terms c.tag → are_given_parts tag (map (part_of from) c.members) ≡ true → AreMembers table number (map (moved_member ids) c.members)
  members_carried k c at done id number keyword all i m there = here (slice_get c.members i) refl
    where
      knows : KnowsCarried tag (look_in (earlier from k)) (look_in table)
      knows = knows_carried table from tag k made done

      one : (x : MemberTerm) → slice_get c.members i ≡ Some x → (get_or ids x.ty.0 0 < length table.terms) × IsMember table number (map (moved_member ids) c.members) i (moved_member ids x)
      one x is =
          let (lt, right) = own_made.ordered k c at i x is in
          let g : is_given_type tag (type_of from x.ty.0) ≡ true = given_at tag from c.members all i x is in
          let tree : type_of table (get_or ids x.ty.0 0) ≡ carried_type tag (type_of from x.ty.0) = types.types x.ty.0 lt in (
            types.within x.ty.0 lt,
            record {
              object = elim right.object [
                | inl complete ↦ inl (subst (IsComplete table) (sym tree) (extent_carried tag (look_in (earlier from k)) (look_in table) tagged knows (type_of from x.ty.0) g complete))
                | inr flexible ↦ inr (record {
                  flexible = subst (IsFlexible table) (sym tree) (flexible_carried table (earlier from k) tag tagged knows (type_of from x.ty.0) g flexible.flexible);
                  after = flexible.after;
                  last = flexible.last ∙ sym (length-map c.members (moved_member ids));
                  structure = structure_there id number c.tag keyword flexible.structure;
                })
              ];
              bits = subst (λ t. HasBits t x.bits) (sym tree) (bits_carried tag (type_of from x.ty.0) x.bits right.bits);
            },
          )

      here : (o : Option MemberTerm) → slice_get c.members i ≡ o → (m.ty.0 < length table.terms) × IsMember table number (map (moved_member ids) c.members) i m
      here None e = absurd (none_some (sym (slice_get-map (moved_member ids) c.members i ∙ ap (option_map (moved_member ids)) e) ∙ there))
        where
          none_some : {x : MemberTerm} → ◌≡◌ {A = Option MemberTerm} None (Some x) → ⊥
          none_some h = cc
      here (Some x) e =
          let same : moved_member ids x ≡ m = some_is (sym (slice_get-map (moved_member ids) c.members i ∙ ap (option_map (moved_member ids)) e) ∙ there) in
          subst (λ y. (y.ty.0 < length table.terms) × IsMember table number (map (moved_member ids) c.members) i y) same (one x e)

  -- the list that the tag has
  pub members_right : (position own : ℕ) (list : List MemberTerm) → IsCompletedAt from position own → members_in from own ≡ Some list → AreDone tag from table position → (id number : ℕ) → HaveKeyword table.terms id number from.terms own → are_given_parts tag (map (part_of from) list) ≡ true → AreMembers table number (map (moved_member ids) list)
  members_right position own list at is done id number keyword all =
      let a = among_first from.completed own list is in
      let le = a.first position (record { tag = own; members = at.0 }) at.1 refl in
      members_carried a.at (record { tag = own; members = list }) a.there (λ j c n lt there numbered. done j c n (omega arith) there numbered) id number keyword all
