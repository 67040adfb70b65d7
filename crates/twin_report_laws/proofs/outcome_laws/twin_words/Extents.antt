-- What types take in two tables that are one, but for the numbers of tags.
use Rattle.std.proofs.Common.{arith, ◌≡◌, ◌∙◌, ◌⊎◌, ◌<◌, ℕ, zero, suc, List, [], ◌∷◌, ◌++◌, map, take, Option, Some, None, IsSome, slice_get, refl, sym, ap, subst, inl, inr}
use Rattle.std.specs.Prelude.{⊤}
use Rattle.std.specs.Option.{option_map}
use Rattle.std.proofs.lemmas.Bool.{false≢true}
use Rattle.std.proofs.lemmas.List.{map-append}
use Rattle.c_types.specs.declared.term.MemberTerm.{MemberTerm}
use Rattle.c_types.specs.Trees.{Ctype, VoidType, BoolType, IntegerType, FloatingType, VaListType, PointerTo, ArrayOf, FunctionFrom, StructureOf, UnionOf}
use Rattle.c_types.specs.Layout.{Extent, Look, all_nodes, extent_of, repeated, of_members, structure_of, union_of, flexible, or_flexible, member_extent, element_extent}
use Rattle.c_types.specs.Table.{Table, type_of, look_in, extent_in, extents_in, members_in, members_among}
use Rattle.c_types.specs.Made.{IsMade, IsComplete, IsFlexible, earlier}
use Rattle.c_types.proofs.Nodes.{structure_nodes, union_nodes}
use Rattle.link_model.specs.Renamed.{renamed}
use Rattle.link_model.specs.Partition.{HasTags}
use Rattle.linked_laws.proofs.merged_laws.Completing.{IsAmong, among_first, among_some, known_completed, none_known, take_within}
use Rattle.twin_report_laws.specs.outcome_laws.twin_programs.One.{SameMembers}

-- both are complete, with nodes that are one but for tags, or neither is
abbrev pub Alike : (ℕ → ℕ) → Option Extent → Option Extent → Type 0
Alike f None None = ⊤
Alike f (Some e) (Some d) = d.nodes ≡ map (renamed f) e.nodes
Alike f a b = ⊥

-- the same of the members of a tag
abbrev pub ListsAlike : (ℕ → ℕ) → Option (List Extent) → Option (List Extent) → Type 0
ListsAlike f None None = ⊤
ListsAlike f (Some es) (Some ds) = all_nodes ds ≡ map (renamed f) (all_nodes es)
ListsAlike f a b = ⊥

some_of : {A : Type 0} (o : Option A) → IsSome o → (x : A) × (o ≡ Some x)
some_of None h = absurd (false≢true h)
some_of (Some x) h = (x, refl)

module _ (f : ℕ → ℕ) where
  repeated_alike : (n : ℕ) (a b : Option Extent) → Alike f a b → Alike f (repeated n a) (repeated n b)
  repeated_alike n None None h = tt
  repeated_alike n None (Some d) h = absurd h
  repeated_alike n (Some e) None h = absurd h
  repeated_alike n (Some e) (Some d) h = h

  structure_alike : (tag : ℕ) (a b : Option (List Extent)) → ListsAlike f a b → Alike f (of_members (structure_of (StructureOf tag)) a) (of_members (structure_of (StructureOf (f tag))) b)
  structure_alike tag None None h = tt
  structure_alike tag None (Some ds) h = absurd h
  structure_alike tag (Some es) None h = absurd h
  structure_alike tag (Some es) (Some ds) h =
      structure_nodes (StructureOf (f tag)) ds ∙ (ap (λ (ns : List Ctype). StructureOf (f tag) ∷ ns) h ∙ sym (ap (map (renamed f)) (structure_nodes (StructureOf tag) es)))

  union_alike : (tag : ℕ) (a b : Option (List Extent)) → ListsAlike f a b → Alike f (of_members (union_of (UnionOf tag)) a) (of_members (union_of (UnionOf (f tag))) b)
  union_alike tag None None h = tt
  union_alike tag None (Some ds) h = absurd h
  union_alike tag (Some es) None h = absurd h
  union_alike tag (Some es) (Some ds) h = union_nodes (UnionOf (f tag)) ds ∙ sym (ap (map (renamed f)) (union_nodes (UnionOf tag) es))

  some_repeated : (n : ℕ) (o : Option Extent) → IsSome (repeated n o) → IsSome o
  some_repeated n None h = h
  some_repeated n (Some e) h = refl

  some_members : (g : List Extent → Extent) (o : Option (List Extent)) → IsSome (of_members g o) → IsSome o
  some_members g None h = h
  some_members g (Some es) h = refl

  -- a type that is complete by the first look is alike by the others, where these know alike what the first one knows
  extent_known : (first look more : Look) → ((tag : ℕ) → IsSome (first tag) → ListsAlike f (look tag) (more (f tag))) → (t : Ctype) → IsSome (extent_of first t)
      → Alike f (extent_of look t) (extent_of more (renamed f t))
  extent_known first look more k VoidType h = tt
  extent_known first look more k BoolType h = refl
  extent_known first look more k (IntegerType size rank signed) h = refl
  extent_known first look more k FloatingType h = refl
  extent_known first look more k VaListType h = refl
  extent_known first look more k (PointerTo to) h = refl
  extent_known first look more k (ArrayOf of None) h = tt
  extent_known first look more k (ArrayOf of (Some n)) h =
      repeated_alike n (extent_of look of) (extent_of more (renamed f of)) (extent_known first look more k of (some_repeated n (extent_of first of) h))
  extent_known first look more k (FunctionFrom result parameters form) h = tt
  extent_known first look more k (StructureOf tag) h = structure_alike tag (look tag) (more (f tag)) (k tag (some_members (structure_of (StructureOf tag)) (first tag) h))
  extent_known first look more k (UnionOf tag) h = union_alike tag (look tag) (more (f tag)) (k tag (some_members (union_of (UnionOf tag)) (first tag) h))

  -- where all tags are known alike, each type is alike
  extent_alike : (n : ℕ) (look more : Look) → ((tag : ℕ) → tag < n → ListsAlike f (look tag) (more (f tag))) → (t : Ctype) → HasTags n t → Alike f (extent_of look t) (extent_of more (renamed f t))
  extent_alike n look more k VoidType h = tt
  extent_alike n look more k BoolType h = refl
  extent_alike n look more k (IntegerType size rank signed) h = refl
  extent_alike n look more k FloatingType h = refl
  extent_alike n look more k VaListType h = refl
  extent_alike n look more k (PointerTo to) h = refl
  extent_alike n look more k (ArrayOf of None) h = tt
  extent_alike n look more k (ArrayOf of (Some m)) h = repeated_alike m (extent_of look of) (extent_of more (renamed f of)) (extent_alike n look more k of h)
  extent_alike n look more k (FunctionFrom result parameters form) h = tt
  extent_alike n look more k (StructureOf tag) h = structure_alike tag (look tag) (more (f tag)) (k tag h)
  extent_alike n look more k (UnionOf tag) h = union_alike tag (look tag) (more (f tag)) (k tag h)

  flexible_none : (o : Option Extent) → (flexible o).nodes ≡ []
  flexible_none None = refl
  flexible_none (Some e) = refl

  flexible_alike : (table : Table) (look more : Look) (t : Ctype) → IsFlexible table t → (member_extent more (renamed f t)).nodes ≡ map (renamed f) (member_extent look t).nodes
  flexible_alike table look more (ArrayOf of None) h = flexible_none (extent_of more (renamed f of)) ∙ sym (ap (map (renamed f)) (flexible_none (extent_of look of)))
  flexible_alike table look more (ArrayOf of (Some n)) h = absurd h
  flexible_alike table look more VoidType h = absurd h
  flexible_alike table look more BoolType h = absurd h
  flexible_alike table look more (IntegerType size rank signed) h = absurd h
  flexible_alike table look more FloatingType h = absurd h
  flexible_alike table look more VaListType h = absurd h
  flexible_alike table look more (PointerTo to) h = absurd h
  flexible_alike table look more (FunctionFrom result parameters form) h = absurd h
  flexible_alike table look more (StructureOf tag) h = absurd h
  flexible_alike table look more (UnionOf tag) h = absurd h

  or_alike : (a b c d : Option Extent) → Alike f a b → (or_flexible b d).nodes ≡ map (renamed f) (or_flexible a c).nodes
  or_alike None None c d h = flexible_none d ∙ sym (ap (map (renamed f)) (flexible_none c))
  or_alike None (Some y) c d h = absurd h
  or_alike (Some e) None c d h = absurd h
  or_alike (Some e) (Some x) c d h = h

  member_known : (table : Table) (first look more : Look) → ((tag : ℕ) → IsSome (first tag) → ListsAlike f (look tag) (more (f tag))) → (t : Ctype) → IsSome (extent_of first t) ⊎ IsFlexible table t
      → (member_extent more (renamed f t)).nodes ≡ map (renamed f) (member_extent look t).nodes
  member_known table first look more k t (inl complete) =
      or_alike (extent_of look t) (extent_of more (renamed f t)) (element_extent look t) (element_extent more (renamed f t)) (extent_known first look more k t complete)
  member_known table first look more k t (inr loose) = flexible_alike table look more t loose

-- two tables whose tags have the same members
module _ (table other : Table) (f : ℕ → ℕ) (made : IsMade table) (again : IsMade other)
    (lists : (tag : ℕ) (ms : List MemberTerm) → members_in table tag ≡ Some ms → (ks : List MemberTerm) × (members_in other (f tag) ≡ Some ks) × SameMembers table other f ms ks) where
  -- what a member may be
  abbrev MayStand : ℕ → MemberTerm → Type 0
  MayStand at m = IsComplete (earlier table at) (type_of table m.ty.0) ⊎ IsFlexible (earlier table at) (type_of table m.ty.0)

  abbrev KnownBefore : ℕ → Type 0
  KnownBefore at = (tag : ℕ) → IsSome (look_in (earlier table at) tag) → ListsAlike f (look_in table tag) (look_in other (f tag))

  pub members_alike : (at : ℕ) → KnownBefore at → (ms ks : List MemberTerm) → SameMembers table other f ms ks → ((i : ℕ) (m : MemberTerm) → slice_get ms i ≡ Some m → MayStand at m)
      → all_nodes (extents_in other ks) ≡ map (renamed f) (all_nodes (extents_in table ms))
  members_alike at knows [] [] same each = refl
  members_alike at knows [] (k ∷ ks) same each = absurd same
  members_alike at knows (m ∷ ms) [] same each = absurd same
  members_alike at knows (m ∷ ms) (k ∷ ks) same each =
      let t = type_of table m.ty.0 in
      let one : (member_extent (look_in other) (type_of other k.ty.0)).nodes ≡ map (renamed f) (member_extent (look_in table) t).nodes =
      ap (λ (s : Ctype). (member_extent (look_in other) s).nodes) same.2 ∙ member_known f (earlier table at) (look_in (earlier table at)) (look_in table) (look_in other) knows t (each 0 m refl) in
      let rest = members_alike at knows ms ks same.3 (λ i y there. each (suc i) y there) in
      ap (λ (ns : List Ctype). ns ++ all_nodes (extents_in other ks)) one
      ∙ (ap (λ (ns : List Ctype). map (renamed f) (member_extent (look_in table) t).nodes ++ ns) rest ∙ sym (map-append (renamed f) (member_extent (look_in table) t).nodes (all_nodes (extents_in table ms))))

  -- the tags that were complete before one are alike
  abbrev AlikeBefore : ℕ → Type 0
  AlikeBefore at = (tag : ℕ) (list : List MemberTerm) → members_in table tag ≡ Some list → (a : IsAmong table.completed tag list) → a.at < at → ListsAlike f (look_in table tag) (look_in other (f tag))

  pub known_before : (at : ℕ) → AlikeBefore at → KnownBefore at
  known_before at before tag h = elim (known_completed (earlier table at) [] (take at table.completed) tag h) [
    | inl none ↦ absurd (none_known tag none)
    | inr some ↦
        let (list, among) = some_of (members_among (take at table.completed) tag) some in
        let b = among_first (take at table.completed) tag list among in
        let w = take_within table.completed at b.at (record { tag = tag; members = list }) b.there in
        let (first, first_is) = some_of (members_in table tag) (among_some table.completed b.at (record { tag = tag; members = list }) w.1) in
        let c = among_first table.completed tag first first_is in
        let le = c.first b.at (record { tag = tag; members = list }) w.1 refl in
        let lt = w.0 in
        before tag first first_is c (omega arith)
  ]

  lists_alike : (a b : Option (List Extent)) (es ds : List Extent) → a ≡ Some es → b ≡ Some ds → all_nodes ds ≡ map (renamed f) (all_nodes es) → ListsAlike f a b
  lists_alike a b es ds ea eb h = subst (λ (o : Option (List Extent)). ListsAlike f o b) (sym ea) (subst (λ (o : Option (List Extent)). ListsAlike f (Some es) o) (sym eb) h)

  pub alike_below : (at : ℕ) → AlikeBefore at
  alike_below zero tag list e a lt = absurd (omega arith)
  alike_below (suc at) tag list e a lt =
      let (ks, ks_are, same) = lists tag list e in
      lists_alike (look_in table tag) (look_in other (f tag)) (extents_in table list) (extents_in other ks)
      (made.laid tag ∙ ap (option_map (extents_in table)) e) (again.laid (f tag) ∙ ap (option_map (extents_in other)) ks_are)
      (members_alike a.at (known_before a.at (λ x first first_is c less. alike_below at x first first_is c (omega arith))) list ks same
      (λ i m there. elim (made.ordered a.at (record { tag = tag; members = list }) a.there i m there).1.object [ inl complete ↦ inl complete | inr loose ↦ inr loose.flexible ]))

  module _ (none : (tag : ℕ) → tag < table.tags → members_in table tag ≡ None → members_in other (f tag) ≡ None) where
    tag_alike : (tag : ℕ) → tag < table.tags → ListsAlike f (look_in table tag) (look_in other (f tag))
    tag_alike tag lt = by (members_in table tag) refl
      where
        by : (o : Option (List MemberTerm)) → members_in table tag ≡ o → ListsAlike f (look_in table tag) (look_in other (f tag))
        by (Some list) e = let a = among_first table.completed tag list e in alike_below (suc a.at) tag list e a (omega arith)
        by None e =
            subst (λ (o : Option (List Extent)). ListsAlike f o (look_in other (f tag))) (sym (made.laid tag ∙ ap (option_map (extents_in table)) e))
            (subst (λ (o : Option (List Extent)). ListsAlike f None o) (sym (again.laid (f tag) ∙ ap (option_map (extents_in other)) (none tag lt e))) tt)

    -- each type of the table has the same nodes in the other one, but for tags
    pub same_extent : (t : Ctype) → HasTags table.tags t → Alike f (extent_in table t) (extent_in other (renamed f t))
    same_extent t has = extent_alike f table.tags (look_in table) (look_in other) tag_alike t has
