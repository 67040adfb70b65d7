-- A tag's layout among those that are kept.
use Rattle.std.proofs.Common.{arith, ◌≡◌, inl, inr, ℕ, ◌<◌, List, [], refl, ap, sym, ◌∙◌, subst, Option, Some, None, slice_get, length, get_or}
use Rattle.std.proofs.lemmas.Option.{get_or_from_slice_get}
use Rattle.c_types.specs.declared.table.Entry.{Entry}
use Rattle.c_types.specs.declared.table.TagLayout.{TagLayout}
use Rattle.c_types.specs.declared.layout.Bounds.{Bounds}
use Rattle.c_types.specs.Trees.{StructureOf, UnionOf}
use Rattle.c_types.specs.Layout.{extent_of, laid_out, looked_up, of_members, structure_of, union_of}
use Rattle.std.specs.Option.{option_map}
use Rattle.c_types.specs.Table.{completions, look_in, extents_in, members_in}
use Rattle.c_types.specs.declared.term.Term.TheVariants.{Structure, Union}
use Rattle.c_types.specs.declared.term.MemberTerm.{MemberTerm}
use Rattle.c_types.specs.Made.{IsFresh}
use Rattle.c_types.proofs.Read.{terms_named}
use Rattle.c_types.proofs.MembersOf.{tag_members}
use Rattle.c_types.specs.Bounds.{bounds_or}
use Rattle.c_types.specs.Inside.{AreRight, IsLayoutOf, table_of, terms_of, starts}
use Rattle.c_types.proofs.Looked.{IsFound, look_found, look_none}

-- one tag has one place
one_place : (tags : List (Option ℕ)) (j k : ℕ) (m l : TagLayout) → j < k → slice_get tags m.tag ≡ Some (Some j) → slice_get tags l.tag ≡ Some (Some k) → m.tag ≡ l.tag → ⊥
one_place tags j k m l lt p q e =
    let r : slice_get tags m.tag ≡ Some (Some k) = rw e q in
    let s : j ≡ k = cc in
    absurd (omega arith)

-- what is kept of a tag's members, and where their nodes start
pub layout_is : (entries : List Entry) (tags : List (Option ℕ)) (cs : List TagLayout) → AreRight entries tags cs → (k : ℕ) (l : TagLayout) → slice_get cs k ≡ Some l → (look_in (table_of entries tags cs) l.tag ≡ Some (extents_in (table_of entries tags cs) l.members.items)) × (members_in (table_of entries tags cs) l.tag ≡ Some l.members.items) × (l.positions.items ≡ starts 1 (extents_in (table_of entries tags cs) l.members.items))
layout_is entries tags cs right k l at =
    let old = right.layouts_right in
    let table = table_of entries tags cs in
    let found = look_found cs (laid_out [] (completions table)) old.laid k l at (λ j m lt here e. one_place tags j k m l lt (old.tagged j m here) (old.tagged k l at) e) in
    let members : members_in table l.tag ≡ Some l.members.items = tag_members entries tags cs right l.tag k l (old.tagged k l at) ∙ ap (λ (d : TagLayout). Some d.members.items) (get_or_from_slice_get cs k l l at) in
    let look : look_in table l.tag ≡ Some (extents_in table l.members.items) = right.made.laid l.tag ∙ ap (option_map (extents_in table)) members in
    (look, members, found.positions (extents_in table l.members.items) look)

pub layout_at : (entries : List Entry) (tags : List (Option ℕ)) (cs : List TagLayout) → AreRight entries tags cs → (t k : ℕ) (d : TagLayout) → slice_get tags t ≡ Some (Some k) → IsLayoutOf (table_of entries tags cs) t (get_or cs k d)
layout_at entries tags cs right t k d at =
    let (l, there, tag) = right.layouts_right.known t k at in
    let (look, members, positions) = layout_is entries tags cs right k l there in
    let same : l ≡ get_or cs k d = sym (get_or_from_slice_get cs k l d there) in
    let of_l : IsLayoutOf (table_of entries tags cs) l.tag l = record { members = members; look = look; positions = positions; within = right.layouts_right.before k l there } in
    subst (IsLayoutOf (table_of entries tags cs) t) same (subst (λ (n : ℕ). IsLayoutOf (table_of entries tags cs) n l) tag of_l)

module _ (entries : List Entry) (tags : List (Option ℕ)) (cs : List TagLayout) (right : AreRight entries tags cs) (t : ℕ) where
  -- where the tag is complete
  pub found_tag : (k : ℕ) → slice_get tags t ≡ Some (Some k) → (l : TagLayout) × (slice_get cs k ≡ Some l) × (l.tag ≡ t) × IsFound (laid_out [] (completions (table_of entries tags cs))) l
  found_tag k at =
      let old = right.layouts_right in
      let (l, there, tag) = old.known t k at in
      (l, there, tag, look_found cs (laid_out [] (completions (table_of entries tags cs))) old.laid k l there (λ j m lt here e. differ j k m l lt (old.tagged j m here) (old.tagged k l there) e))
    where
      differ : (j k : ℕ) (m l : TagLayout) → j < k → slice_get tags m.tag ≡ Some (Some j) → slice_get tags l.tag ≡ Some (Some k) → m.tag ≡ l.tag → ⊥
      differ j k m l lt p q e =
          let r : slice_get tags m.tag ≡ Some (Some k) = rw e q in
          let s : j ≡ k = cc in
          absurd (omega arith)

  -- where it isn't
  pub no_tag : slice_get tags t ≡ Some None → look_in (table_of entries tags cs) t ≡ None
  no_tag at =
      let old = right.layouts_right in
      look_none cs (laid_out [] (completions (table_of entries tags cs))) old.laid t (λ j m here e. clash j m (old.tagged j m here) e)
    where
      clash : (j : ℕ) (m : TagLayout) → slice_get tags m.tag ≡ Some (Some j) → m.tag ≡ t → ⊥
      clash j m p e = let r : slice_get tags t ≡ Some (Some j) = rw (← e) p in cc

  pub found_structure : (k : ℕ) (d : TagLayout) → slice_get tags t ≡ Some (Some k) → Some (get_or cs k d).structure ≡ bounds_or (extent_of (look_in (table_of entries tags cs)) (StructureOf t))
  found_structure k d at =
      let (l, there, tag, f) = found_tag k at in
      let es = laid_out [] (completions (table_of entries tags cs)) in
      ap (λ (m : TagLayout). Some m.structure) (get_or_from_slice_get cs k l d there) ∙ (sym f.structure ∙ ap (λ (n : ℕ). bounds_or (of_members (structure_of (StructureOf n)) (looked_up es n))) tag)

  pub found_union : (k : ℕ) (d : TagLayout) → slice_get tags t ≡ Some (Some k) → Some (get_or cs k d).union ≡ bounds_or (extent_of (look_in (table_of entries tags cs)) (UnionOf t))
  found_union k d at =
      let (l, there, tag, f) = found_tag k at in
      let es = laid_out [] (completions (table_of entries tags cs)) in
      ap (λ (m : TagLayout). Some m.union) (get_or_from_slice_get cs k l d there) ∙ (sym f.union ∙ ap (λ (n : ℕ). bounds_or (of_members (union_of (UnionOf n)) (looked_up es n))) tag)

  pub no_structure : slice_get tags t ≡ Some None → ◌≡◌ {A = Option Bounds} None (bounds_or (extent_of (look_in (table_of entries tags cs)) (StructureOf t)))
  no_structure at = sym (ap (λ o. bounds_or (of_members (structure_of (StructureOf t)) o)) (no_tag at))

  pub no_union : slice_get tags t ≡ Some None → ◌≡◌ {A = Option Bounds} None (bounds_or (extent_of (look_in (table_of entries tags cs)) (UnionOf t)))
  no_union at = sym (ap (λ o. bounds_or (of_members (union_of (UnionOf t)) o)) (no_tag at))

-- the tag behind the last is fresh
pub fresh_tag : (entries : List Entry) (tags : List (Option ℕ)) (cs : List TagLayout) → AreRight entries tags cs → IsFresh (table_of entries tags cs) (length tags)
fresh_tag entries tags cs right = record {
  incomplete = none (members_in (table_of entries tags cs) (length tags)) refl;
  no_structure = structure;
  no_union = union;
}
  where
    structure : (i : ℕ) → slice_get (terms_of entries) i ≡ Some (Structure (length tags)) → ⊥
    structure i h = let past = (terms_named entries (length tags) right.entries_right i (Structure (length tags)) h).1 in omega arith

    union : (i : ℕ) → slice_get (terms_of entries) i ≡ Some (Union (length tags)) → ⊥
    union i h = let past = (terms_named entries (length tags) right.entries_right i (Union (length tags)) h).1 in omega arith

    none : (o : Option (List MemberTerm)) → members_in (table_of entries tags cs) (length tags) ≡ o → members_in (table_of entries tags cs) (length tags) ≡ None
    none None at = at
    none (Some ms) at = elim (right.made.stands (length tags) ms at) [ inl p ↦ absurd (structure p.0 p.1) | inr p ↦ absurd (union p.0 p.1) ]
