-- A table stays well made.
use Rattle.std.proofs.Common.{arith, ◌≡◌, ◌≢◌, ℕ, suc, ◌<◌, ◌⊎◌, inl, inr, List, [], ◌∷◌, ◌++◌, length, length-append, refl, ap, sym, ◌∙◌, subst, Option, Some, None, slice_get, map, take, All, Bool, true, false, cond, eqb, IsSome}
use Rattle.std.specs.Option.{option_map}
use Rattle.std.proofs.lemmas.Bool.Decides.{eqb_tells}
use Rattle.std.proofs.lemmas.List.Elements.{All-nil, All-cons}
use Rattle.std.specs.List.{take-map}
use Rattle.std.proofs.Math.Seq.{take-append_seam}
use Rattle.std.proofs.lemmas.List.{length-map, take-append-le}
use Rattle.c_types.specs.declared.table.Entry.{Entry}
use Rattle.c_types.specs.Inside.{terms_of}
use Rattle.c_types.specs.declared.term.Term.{Term}
use Rattle.c_types.specs.declared.term.Term.TheVariants.{Structure, Union}
use Rattle.c_types.specs.declared.term.MemberTerm.{MemberTerm}
use Rattle.c_types.specs.Trees.{Ctype, VoidType, BoolType, IntegerType, FloatingType, VaListType, PointerTo, ArrayOf, FunctionFrom, StructureOf, UnionOf}
use Rattle.c_types.specs.Layout.{Extent, Look, Completed, extent_of, repeated, of_members, member_extent, element_extent, or_flexible, flexible, laid_out, looked_up, structure_of, union_of}
use Rattle.c_types.specs.Table.{Table, TagMembers, type_of, completions, look_in, extent_in, extents_in, members_in, members_among}
use Rattle.c_types.specs.Made.{IsSized, KeepsApart, TagsApart, StandsAsStructure, StandsAsUnion, IsFlexible, IsMember, AreMembers, IsMade, HasBits, earlier}
use Rattle.c_types.proofs.Push.{slice_get_push, slice_get_left}
use Rattle.c_types.proofs.Kept.{type_kept}

-- one look knows all that another knows
abbrev pub KnowsMore : Look → Look → Type 0
KnowsMore look more = (tag : ℕ) (es : List Extent) → look tag ≡ Some es → more tag ≡ Some es

some_is : {A : Type 0} (x y : A) → ◌≡◌ {A = Option A} (Some x) (Some y) → x ≡ y
some_is x y e = cc

of_more : (f : List Extent → Extent) (a b : Option (List Extent)) (e : Extent) → ((es : List Extent) → a ≡ Some es → b ≡ Some es) → of_members f a ≡ Some e → of_members f b ≡ Some e
of_more f None b e more h = cc
of_more f (Some es) b e more h = ap (of_members f) (more es refl) ∙ h

repeated_more : (n : ℕ) (a b : Option Extent) (e : Extent) → ((d : Extent) → a ≡ Some d → b ≡ Some d) → repeated n a ≡ Some e → repeated n b ≡ Some e
repeated_more n None b e more h = cc
repeated_more n (Some d) b e more h = ap (repeated n) (more d refl) ∙ h

-- an extent that there is stays
pub extent_more : (look more : Look) → KnowsMore look more → (t : Ctype) (e : Extent) → extent_of look t ≡ Some e → extent_of more t ≡ Some e
extent_more look more k VoidType e h = h
extent_more look more k BoolType e h = h
extent_more look more k (IntegerType size rank signed) e h = h
extent_more look more k FloatingType e h = h
extent_more look more k VaListType e h = h
extent_more look more k (PointerTo to) e h = h
extent_more look more k (ArrayOf of None) e h = h
extent_more look more k (ArrayOf of (Some n)) e h =
    repeated_more n (extent_of look of) (extent_of more of) e (λ d at. extent_more look more k of d at) h
extent_more look more k (FunctionFrom result parameters form) e h = h
extent_more look more k (StructureOf tag) e h = of_more (structure_of (StructureOf tag)) (look tag) (more tag) e (k tag) h
extent_more look more k (UnionOf tag) e h = of_more (union_of (UnionOf tag)) (look tag) (more tag) e (k tag) h

-- the value that there is
some_of : {A : Type 0} (o : Option A) → IsSome o → (x : A) × (o ≡ Some x)
some_of None h = cc
some_of (Some x) h = (x, refl)

is_some_of : {A : Type 0} (o : Option A) (x : A) → o ≡ Some x → IsSome o
is_some_of o x e = rw e refl

-- what a member may be, over a look
abbrev pub IsMemberType : Look → Ctype → Type 0
IsMemberType look (ArrayOf of None) = IsSome (extent_of look of)
IsMemberType look t = IsSome (extent_of look t)

plain_more : (look more : Look) → KnowsMore look more → (t : Ctype) → IsSome (extent_of look t) → member_extent more t ≡ member_extent look t
plain_more look more k t h =
    let (e, at) = some_of (extent_of look t) h in
    let after = extent_more look more k t e at in
    ap (λ (o : Option Extent). or_flexible o (element_extent more t)) after ∙ sym (ap (λ (o : Option Extent). or_flexible o (element_extent look t)) at)

-- a member's extent stays
pub member_more : (look more : Look) → KnowsMore look more → (t : Ctype) → IsMemberType look t → member_extent more t ≡ member_extent look t
member_more look more k (ArrayOf of None) h =
    let (e, at) = some_of (extent_of look of) h in
    let after = extent_more look more k of e at in
    ap flexible after ∙ sym (ap flexible at)
member_more look more k (ArrayOf of (Some n)) h = plain_more look more k (ArrayOf of (Some n)) h
member_more look more k VoidType h = plain_more look more k VoidType h
member_more look more k BoolType h = plain_more look more k BoolType h
member_more look more k (IntegerType size rank signed) h = plain_more look more k (IntegerType size rank signed) h
member_more look more k FloatingType h = plain_more look more k FloatingType h
member_more look more k VaListType h = plain_more look more k VaListType h
member_more look more k (PointerTo to) h = plain_more look more k (PointerTo to) h
member_more look more k (FunctionFrom r ps f) h = plain_more look more k (FunctionFrom r ps f) h
member_more look more k (StructureOf tag) h = plain_more look more k (StructureOf tag) h
member_more look more k (UnionOf tag) h = plain_more look more k (UnionOf tag) h

-- looking up with one more behind
pick : {A : Type 0} (b : Bool) (x : A) (r s : Option A) (found : A) → (r ≡ Some found → s ≡ Some found) → cond b (Some x) r ≡ Some found → cond b (Some x) s ≡ Some found
pick true x r s found f g = g
pick false x r s found f g = f g

pick_none : {A : Type 0} (b : Bool) (x : A) (r s t : Option A) → (r ≡ None → s ≡ t) → cond b (Some x) r ≡ None → cond b (Some x) s ≡ t
pick_none true x r s t f g = cc
pick_none false x r s t f g = f g

looked_append : (xs : List (ℕ × List Extent)) (t : ℕ) (es : List Extent) (tag : ℕ) (found : List Extent) → looked_up xs tag ≡ Some found → looked_up (xs ++ (t, es) ∷ []) tag ≡ Some found
looked_append [] t es tag found h = cc
looked_append ((u, ds) ∷ xs) t es tag found h =
    pick (eqb u tag) ds (looked_up xs tag) (looked_up (xs ++ (t, es) ∷ []) tag) found (λ g. looked_append xs t es tag found g) h

looked_last : (xs : List (ℕ × List Extent)) (t : ℕ) (es : List Extent) (tag : ℕ) → looked_up xs tag ≡ None → looked_up (xs ++ (t, es) ∷ []) tag ≡ cond (eqb t tag) (Some es) None
looked_last [] t es tag h = refl
looked_last ((u, ds) ∷ xs) t es tag h =
    pick_none (eqb u tag) ds (looked_up xs tag) (looked_up (xs ++ (t, es) ∷ []) tag) (cond (eqb t tag) (Some es) None) (λ g. looked_last xs t es tag g) h

members_append : (xs : List TagMembers) (c : TagMembers) (tag : ℕ) (found : List MemberTerm) → members_among xs tag ≡ Some found → members_among (xs ++ c ∷ []) tag ≡ Some found
members_append [] c tag found h = cc
members_append (x ∷ xs) c tag found h =
    pick (eqb x.tag tag) x.members (members_among xs tag) (members_among (xs ++ c ∷ []) tag) found (λ g. members_append xs c tag found g) h

members_last : (xs : List TagMembers) (c : TagMembers) (tag : ℕ) → members_among xs tag ≡ None → members_among (xs ++ c ∷ []) tag ≡ cond (eqb c.tag tag) (Some c.members) None
members_last [] c tag h = refl
members_last (x ∷ xs) c tag h =
    pick_none (eqb x.tag tag) x.members (members_among xs tag) (members_among (xs ++ c ∷ []) tag) (cond (eqb c.tag tag) (Some c.members) None) (λ g. members_last xs c tag g) h

map_more : {A B : Type 0} (f : A → B) (xs : List A) (y : A) → map f (xs ++ y ∷ []) ≡ map f xs ++ f y ∷ []
map_more f [] y = refl
map_more f (x ∷ xs) y = ap (λ (r : List _). f x ∷ r) (map_more f xs y)

laid_more : (done : List (ℕ × List Extent)) (a b : List Completed) → laid_out done (a ++ b) ≡ laid_out (laid_out done a) b
laid_more done [] b = refl
laid_more done (c ∷ a) b = laid_more (done ++ (c.tag, map (member_extent (looked_up done)) c.types) ∷ []) a b

-- what members take is the same for two looks, where it is for each member
extents_each : (f g : MemberTerm → Extent) (ms : List MemberTerm) → ((k : ℕ) (m : MemberTerm) → slice_get ms k ≡ Some m → f m ≡ g m) → map f ms ≡ map g ms
extents_each f g [] h = refl
extents_each f g (m ∷ ms) h =
    let first = h 0 m refl in
    let rest = extents_each f g ms (λ k x at. h (suc k) x at) in
    cc

extents_map : (table : Table) (ms : List MemberTerm) → extents_in table ms ≡ map (λ (m : MemberTerm). member_extent (look_in table) (type_of table m.ty.0)) ms
extents_map table [] = refl
extents_map table (m ∷ ms) = ap (λ (r : List Extent). member_extent (look_in table) (type_of table m.ty.0) ∷ r) (extents_map table ms)

flexible_type : (table : Table) (t : Ctype) → IsFlexible table t → IsMemberType (look_in table) t
flexible_type table (ArrayOf of None) h = h
flexible_type table (ArrayOf of (Some n)) h = absurd h
flexible_type table VoidType h = absurd h
flexible_type table BoolType h = absurd h
flexible_type table (IntegerType size rank signed) h = absurd h
flexible_type table FloatingType h = absurd h
flexible_type table VaListType h = absurd h
flexible_type table (PointerTo to) h = absurd h
flexible_type table (FunctionFrom r ps f) h = absurd h
flexible_type table (StructureOf tag) h = absurd h
flexible_type table (UnionOf tag) h = absurd h

complete_type : (look : Look) (t : Ctype) → IsSome (extent_of look t) → IsMemberType look t
complete_type look (ArrayOf of None) h = cc
complete_type look (ArrayOf of (Some n)) h = h
complete_type look VoidType h = h
complete_type look BoolType h = h
complete_type look (IntegerType size rank signed) h = h
complete_type look FloatingType h = h
complete_type look VaListType h = h
complete_type look (PointerTo to) h = h
complete_type look (FunctionFrom r ps f) h = h
complete_type look (StructureOf tag) h = h
complete_type look (UnionOf tag) h = h

pub member_type : (table : Table) (tag : ℕ) (ms : List MemberTerm) (k : ℕ) (m : MemberTerm) → IsMember table tag ms k m → IsMemberType (look_in table) (type_of table m.ty.0)
member_type table tag ms k m h =
    elim h.object [
      | inl c ↦ complete_type (look_in table) (type_of table m.ty.0) c
      | inr f ↦ flexible_type table (type_of table m.ty.0) f.flexible
    ]

-- with one tag completed
module _ (table : Table) (c : TagMembers) (made : IsMade table) (unseen : members_in table c.tag ≡ None) (stands : StandsAsStructure table.terms c.tag ⊎ StandsAsUnion table.terms c.tag) (are : AreMembers table c.tag c.members) where
  abbrev next : Table
  next = record table { completed = table.completed ++ c ∷ [] }

  next_look : (tag : ℕ) → look_in next tag ≡ looked_up (laid_out [] (completions table) ++ (c.tag, extents_in table c.members) ∷ []) tag
  next_look tag =
      ap (λ (cs : List Completed). looked_up (laid_out [] cs) tag) (map_more (λ (x : TagMembers). record { tag = x.tag; types = map (λ (m : MemberTerm). type_of table m.ty.0) x.members }) table.completed c)
      ∙ ap (λ (ls : List (ℕ × List Extent)). looked_up ls tag) (laid_more [] (completions table) (record { tag = c.tag; types = map (λ (m : MemberTerm). type_of table m.ty.0) c.members } ∷ []))

  knows : KnowsMore (look_in table) (look_in next)
  knows tag es h = next_look tag ∙ looked_append (laid_out [] (completions table)) c.tag (extents_in table c.members) tag es h

  -- every extent that there was stays
  pub extent_kept : (t : Ctype) (e : Extent) → extent_in table t ≡ Some e → extent_in next t ≡ Some e
  extent_kept t e h = extent_more (look_in table) (look_in next) knows t e h

  some_kept : (t : Ctype) → IsSome (extent_in table t) → IsSome (extent_in next t)
  some_kept t h = let (e, at) = some_of (extent_in table t) h in is_some_of (extent_in next t) e (extent_kept t e at)

  flexible_kept : (t : Ctype) → IsFlexible table t → IsFlexible next t
  flexible_kept (ArrayOf of None) h = some_kept of h
  flexible_kept (ArrayOf of (Some n)) h = absurd h
  flexible_kept VoidType h = absurd h
  flexible_kept BoolType h = absurd h
  flexible_kept (IntegerType size rank signed) h = absurd h
  flexible_kept FloatingType h = absurd h
  flexible_kept VaListType h = absurd h
  flexible_kept (PointerTo to) h = absurd h
  flexible_kept (FunctionFrom r ps f) h = absurd h
  flexible_kept (StructureOf tag) h = absurd h
  flexible_kept (UnionOf tag) h = absurd h

  members_kept : (tag : ℕ) (ms : List MemberTerm) → AreMembers table tag ms → AreMembers next tag ms
  members_kept tag ms h k m at =
      let old = (h k m at).1 in (
        (h k m at).0,
        record {
          object = elim old.object [
            | inl p ↦ inl (some_kept (type_of table m.ty.0) p)
            | inr p ↦ inr (record { flexible = flexible_kept (type_of table m.ty.0) p.flexible; after = p.after; last = p.last; structure = p.structure })
          ];
          bits = old.bits;
        },
      )

  extents_kept : (tag : ℕ) (ms : List MemberTerm) → AreMembers table tag ms → extents_in next ms ≡ extents_in table ms
  extents_kept tag ms h =
      extents_map next ms
      ∙ (extents_each (λ m. member_extent (look_in next) (type_of table m.ty.0)) (λ m. member_extent (look_in table) (type_of table m.ty.0)) ms (λ k m at. member_more (look_in table) (look_in next) knows (type_of table m.ty.0) (member_type table tag ms k m (h k m at).1))
      ∙ sym (extents_map table ms))

  -- the members of a tag, before or in this completion
  members_cases : (tag : ℕ) (ms : List MemberTerm) → members_in next tag ≡ Some ms → (members_in table tag ≡ Some ms) ⊎ ((c.tag ≡ tag) × (c.members ≡ ms))
  members_cases tag ms h = go (members_in table tag) refl
    where
      this : (b : Bool) → ((b ≡ true) × (c.tag ≡ tag)) ⊎ ((b ≡ false) × (c.tag ≢ tag)) → cond b (Some c.members) None ≡ Some ms → (c.tag ≡ tag) × (c.members ≡ ms)
      this true (inl p) g = (p.1, cc)
      this true (inr p) g = absurd (cc)
      this false p g = absurd (cc)

      go : (o : Option (List MemberTerm)) → members_in table tag ≡ o → (members_in table tag ≡ Some ms) ⊎ ((c.tag ≡ tag) × (c.members ≡ ms))
      go (Some xs) at =
          let same : xs ≡ ms = some_is xs ms (sym (members_append table.completed c tag xs at) ∙ h) in
          inl (at ∙ ap Some same)
      go None at = inr (this (eqb c.tag tag) (eqb_tells c.tag tag) (sym (members_last table.completed c tag at) ∙ h))

  laid_next : (tag : ℕ) → look_in next tag ≡ option_map (extents_in next) (members_in next tag)
  laid_next tag = go (members_in table tag) refl
    where
      last : (b : Bool) → cond b (Some (extents_in table c.members)) None ≡ option_map (extents_in next) (cond b (Some c.members) None)
      last true = ap Some (sym (extents_kept c.tag c.members are))
      last false = refl

      go : (o : Option (List MemberTerm)) → members_in table tag ≡ o → look_in next tag ≡ option_map (extents_in next) (members_in next tag)
      go (Some ms) at =
          let before : look_in table tag ≡ Some (extents_in table ms) = made.laid tag ∙ ap (option_map (extents_in table)) at in
          knows tag (extents_in table ms) before
          ∙ (ap Some (sym (extents_kept tag ms (made.members tag ms at))) ∙ sym (ap (option_map (extents_in next)) (members_append table.completed c tag ms at)))
      go None at =
          let before : look_in table tag ≡ None = made.laid tag ∙ ap (option_map (extents_in table)) at in
          next_look tag
          ∙ (looked_last (laid_out [] (completions table)) c.tag (extents_in table c.members) tag before
          ∙ (last (eqb c.tag tag) ∙ sym (ap (option_map (extents_in next)) (members_last table.completed c tag at))))

  pub made_completed : IsMade next
  made_completed = record {
    sizes = made.sizes;
    apart = made.apart;
    stands = λ tag ms h. elim (members_cases tag ms h) [
      | inl p ↦ made.stands tag ms p
      | inr p ↦ subst (λ (n : ℕ). StandsAsStructure table.terms n ⊎ StandsAsUnion table.terms n) p.0 stands
    ];
    members = λ tag ms h. elim (members_cases tag ms h) [
      | inl p ↦ members_kept tag ms (made.members tag ms p)
      | inr p ↦ subst (λ (n : ℕ). AreMembers next n ms) p.0 (subst (λ (xs : List MemberTerm). AreMembers next c.tag xs) p.1 (members_kept c.tag c.members are))
    ];
    ordered = λ k x at. elim (slice_get_push table.completed c k x at) [
      | inl p ↦ subst (λ (cs : List TagMembers). AreMembers (record table { completed = cs }) x.tag x.members) (sym (take-append-le k table.completed (c ∷ []) (omega (arith, p.0)))) (made.ordered k x p.1)
      | inr p ↦
          let whole : take k (table.completed ++ c ∷ []) ≡ table.completed = ap (λ (n : ℕ). take n (table.completed ++ c ∷ [])) p.0 ∙ take-append_seam table.completed (c ∷ []) in
          subst (λ (cs : List TagMembers). AreMembers (record table { completed = cs }) x.tag x.members) (sym whole) (subst (λ (y : TagMembers). AreMembers table y.tag y.members) (sym p.1) are)
    ];
    laid = laid_next;
  }

sized_more : (terms : List Term) (t : Term) → ((i : ℕ) (x : Term) → slice_get terms i ≡ Some x → IsSized x) → IsSized t → (i : ℕ) (x : Term) → slice_get (terms ++ t ∷ []) i ≡ Some x → IsSized x
sized_more terms t all h i x at = elim (slice_get_push terms t i x at) [ inl p ↦ all i x p.1 | inr p ↦ subst IsSized (sym p.1) h ]

apart_more : (terms : List Term) (t : Term) → TagsApart terms → KeepsApart terms t → TagsApart (terms ++ t ∷ [])
apart_more terms t apart h = record { each = λ i j tag a b. both i j tag (slice_get_push terms t i (Structure tag) a) (slice_get_push terms t j (Union tag) b) }
  where
    both : (i j tag : ℕ) → ((i < length terms) × (slice_get terms i ≡ Some (Structure tag))) ⊎ ((i ≡ length terms) × (Structure tag ≡ t)) → ((j < length terms) × (slice_get terms j ≡ Some (Union tag))) ⊎ ((j ≡ length terms) × (Union tag ≡ t)) → ⊥
    both i j tag (inl p) (inl q) = apart.each i j tag p.1 q.1
    both i j tag (inl p) (inr q) = (subst (KeepsApart terms) (sym q.1) h) i p.1
    both i j tag (inr p) (inl q) = (subst (KeepsApart terms) (sym p.1) h) j q.1
    both i j tag (inr p) (inr q) = cc

-- with one term more
module _ (table : Table) (t : Term) where
  abbrev longer : Table
  longer = record table { terms = table.terms ++ t ∷ [] }

  structure_longer : (tag : ℕ) → StandsAsStructure table.terms tag → StandsAsStructure (table.terms ++ t ∷ []) tag
  structure_longer tag h = (h.0, slice_get_left table.terms t h.0 (Structure tag) h.1)

  union_longer : (tag : ℕ) → StandsAsUnion table.terms tag → StandsAsUnion (table.terms ++ t ∷ []) tag
  union_longer tag h = (h.0, slice_get_left table.terms t h.0 (Union tag) h.1)

  module _ (same : completions longer ≡ completions table) where
    same_look : look_in longer ≡ look_in table
    same_look = ap (λ (cs : List Completed). looked_up (laid_out [] cs)) same

    same_extent : (x : Ctype) → extent_in longer x ≡ extent_in table x
    same_extent x = ap (λ (look : Look). extent_of look x) same_look

    same_type : (i : ℕ) → i < length table.terms → type_of longer i ≡ type_of table i
    same_type i h = type_kept table.terms t i h

    flexible_longer : (x : Ctype) → IsFlexible table x → IsFlexible longer x
    flexible_longer (ArrayOf of None) h = subst (λ (o : Option Extent). IsSome o) (sym (same_extent of)) h
    flexible_longer (ArrayOf of (Some n)) h = absurd h
    flexible_longer VoidType h = absurd h
    flexible_longer BoolType h = absurd h
    flexible_longer (IntegerType size rank signed) h = absurd h
    flexible_longer FloatingType h = absurd h
    flexible_longer VaListType h = absurd h
    flexible_longer (PointerTo to) h = absurd h
    flexible_longer (FunctionFrom r ps f) h = absurd h
    flexible_longer (StructureOf tag) h = absurd h
    flexible_longer (UnionOf tag) h = absurd h

    member_longer : (tag : ℕ) (ms : List MemberTerm) (k : ℕ) (m : MemberTerm) → m.ty.0 < length table.terms → IsMember table tag ms k m → IsMember longer tag ms k m
    member_longer tag ms k m lt h =
        let ty = same_type m.ty.0 lt in
        record {
          object = elim h.object [
            | inl p ↦ inl (subst (λ (o : Option Extent). IsSome o) (sym (ap (extent_in longer) ty ∙ same_extent (type_of table m.ty.0))) p)
            | inr p ↦ inr (record {
              flexible = subst (IsFlexible longer) (sym ty) (flexible_longer (type_of table m.ty.0) p.flexible);
              after = p.after;
              last = p.last;
              structure = structure_longer tag p.structure;
            })
          ];
          bits = subst (λ (x : Ctype). HasBits x m.bits) (sym ty) h.bits;
        }

    members_longer : (tag : ℕ) (ms : List MemberTerm) → AreMembers table tag ms → AreMembers longer tag ms
    members_longer tag ms h k m at =
        (omega (arith, (h k m at).0, length-append table.terms (t ∷ [])), member_longer tag ms k m (h k m at).0 (h k m at).1)

    extents_longer : (tag : ℕ) (ms : List MemberTerm) → AreMembers table tag ms → extents_in longer ms ≡ extents_in table ms
    extents_longer tag ms h =
        extents_map longer ms
        ∙ (extents_each (λ m. member_extent (look_in longer) (type_of longer m.ty.0)) (λ m. member_extent (look_in table) (type_of table m.ty.0)) ms (λ k m at. ap (λ (look : Look). member_extent look (type_of longer m.ty.0)) same_look ∙ ap (member_extent (look_in table)) (same_type m.ty.0 (h k m at).0))
        ∙ sym (extents_map table ms))

-- the table as it was earlier has one term more as well
same_earlier : (table : Table) (t : Term) → completions (longer table t) ≡ completions table → (k : ℕ) → completions (longer (earlier table k) t) ≡ completions (earlier table k)
same_earlier table t same k =
    let f : TagMembers → Completed = λ (c : TagMembers). record { tag = c.tag; types = map (λ (m : MemberTerm). type_of (longer table t) m.ty.0) c.members } in
    let g : TagMembers → Completed = λ (c : TagMembers). record { tag = c.tag; types = map (λ (m : MemberTerm). type_of table m.ty.0) c.members } in
    sym (take-map f k table.completed) ∙ (ap (λ (cs : List Completed). take k cs) same ∙ take-map g k table.completed)

module _ (table : Table) (t : Term) (made : IsMade table) (sized : IsSized t) (apart : KeepsApart table.terms t) (same : completions (longer table t) ≡ completions table) where
  laid_longer : (tag : ℕ) → look_in (longer table t) tag ≡ option_map (extents_in (longer table t)) (members_in table tag)
  laid_longer tag = go (members_in table tag) refl
    where
      go : (o : Option (List MemberTerm)) → members_in table tag ≡ o → look_in (longer table t) tag ≡ option_map (extents_in (longer table t)) (members_in table tag)
      go (Some ms) at =
          ap (λ (look : Look). look tag) (same_look table t same)
          ∙ (made.laid tag ∙ (ap (option_map (extents_in table)) at ∙ (ap Some (sym (extents_longer table t same tag ms (made.members tag ms at))) ∙ sym (ap (option_map (extents_in (longer table t))) at))))
      go None at =
          ap (λ (look : Look). look tag) (same_look table t same)
          ∙ (made.laid tag ∙ (ap (option_map (extents_in table)) at ∙ sym (ap (option_map (extents_in (longer table t))) at)))

  pub made_longer : IsMade (longer table t)
  made_longer = record {
    sizes = sized_more table.terms t made.sizes sized;
    apart = apart_more table.terms t made.apart apart;
    stands = λ tag ms h. elim (made.stands tag ms h) [ inl p ↦ inl (structure_longer table t tag p) | inr p ↦ inr (union_longer table t tag p) ];
    members = λ tag ms h. members_longer table t same tag ms (made.members tag ms h);
    ordered = λ k c at. members_longer (earlier table k) t (same_earlier table t same k) c.tag c.members (made.ordered k c at);
    laid = laid_longer;
  }

-- the tags of the table don't matter
module _ (table : Table) (n : ℕ) where
  flexible_tagged : (x : Ctype) → IsFlexible table x → IsFlexible (record table { tags = n }) x
  flexible_tagged (ArrayOf of None) h = h
  flexible_tagged (ArrayOf of (Some k)) h = absurd h
  flexible_tagged VoidType h = absurd h
  flexible_tagged BoolType h = absurd h
  flexible_tagged (IntegerType size rank signed) h = absurd h
  flexible_tagged FloatingType h = absurd h
  flexible_tagged VaListType h = absurd h
  flexible_tagged (PointerTo to) h = absurd h
  flexible_tagged (FunctionFrom r ps f) h = absurd h
  flexible_tagged (StructureOf tag) h = absurd h
  flexible_tagged (UnionOf tag) h = absurd h

  members_tagged : (tag : ℕ) (ms : List MemberTerm) → AreMembers table tag ms → AreMembers (record table { tags = n }) tag ms
  members_tagged tag ms h k m at =
      let old = h k m at in (
        old.0,
        record {
          object = elim old.1.object [
            | inl p ↦ inl p
            | inr p ↦ inr (record { flexible = flexible_tagged (type_of table m.ty.0) p.flexible; after = p.after; last = p.last; structure = p.structure })
          ];
          bits = old.1.bits;
        },
      )

pub made_tagged : (table : Table) (n : ℕ) → IsMade table → IsMade (record table { tags = n })
made_tagged table n made = record {
  sizes = made.sizes;
  apart = made.apart;
  stands = made.stands;
  members = λ tag ms h. members_tagged table n tag ms (made.members tag ms h);
  ordered = λ k c at. members_tagged (earlier table k) n c.tag c.members (made.ordered k c at);
  laid = made.laid;
}

pub made_empty : IsMade (record { terms = []; tags = 0; completed = [] })
made_empty = record {
  sizes = λ i t h. cc;
  apart = record { each = λ i j tag a b. cc };
  stands = λ tag ms h. cc;
  members = λ tag ms h. cc;
  ordered = λ k c at. cc;
  laid = λ tag. refl;
}

-- members' types are the table's
all_within : (n : ℕ) (ms : List MemberTerm) → ((k : ℕ) (m : MemberTerm) → slice_get ms k ≡ Some m → m.ty.0 < n) → All (λ m. m.ty.0 < n) ms
all_within n [] h = All-nil (λ m. m.ty.0 < n)
all_within n (m ∷ ms) h = All-cons (λ m. m.ty.0 < n) m ms (h 0 m refl) (all_within n ms (λ k x at. h (suc k) x at))

pub all_members : (entries : List Entry) (table : Table) (tag : ℕ) (ms : List MemberTerm) → table.terms ≡ terms_of entries → AreMembers table tag ms → All (λ m. m.ty.0 < length entries) ms
all_members entries table tag ms e h =
    all_within (length entries) ms (λ k m at. omega (arith, (h k m at).0, ap length e, length-map entries (λ (x : Entry). x.term)))
