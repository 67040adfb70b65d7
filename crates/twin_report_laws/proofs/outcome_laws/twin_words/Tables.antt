-- Types of a program in the table of one that is the same, but for numbers.
use Rattle.std.proofs.Common.{◌≡◌, ◌∙◌, ◌<◌, ℕ, List, length, Option, Some, None, is_some, refl, sym, ap}
use Rattle.std.proofs.lemmas.List.{length-map}
use Rattle.c_types.specs.declared.term.MemberTerm.{MemberTerm}
use Rattle.c_types.specs.Trees.{Ctype}
use Rattle.c_types.specs.Table.{Table, type_of, extent_in, members_in}
use Rattle.c_types.specs.Made.{IsMade}
use Rattle.core_tree.specs.declared.node.Program.{Program}
use Rattle.link_model.specs.Renamed.{renamed}
use Rattle.link_model.specs.Partition.{HasTags}
use Rattle.link_merge.proofs.Own.{type_tags}
use Rattle.linked_laws.proofs.merged_laws.Members.{stands_within}
use Rattle.obj_space.specs.Parts.{Part, parts_of, nodes_of}
use Rattle.obj_space.proofs.Preorder.{same_nodes}
use Rattle.row_numbers.specs.Kept.{kept_count, nodes_of as row_nodes}
use Rattle.twin_report_laws.specs.outcome_laws.twin_programs.One.{Numbers, LeadsTo}
use Rattle.twin_report_laws.specs.outcome_laws.twin_words.Words.{IsSound}
use Rattle.twin_report_laws.proofs.outcome_laws.twin_words.Sums.{none_some}
use Rattle.twin_report_laws.proofs.outcome_laws.twin_words.Extents.{Alike, same_extent}
use Rattle.twin_report_laws.proofs.outcome_laws.twin_words.Kept.{kept_nodes, as_many_nodes, both_complete}

part_count : (table : Table) → IsMade table → (t : Ctype) → length (parts_of table t) ≡ length (nodes_of (extent_in table t))
part_count table made t = sym (length-map (parts_of table t) (λ (p : Part). p.ty)) ∙ ap (λ (ns : List Ctype). length ns) (same_nodes table made t)

module _ (p q : Program) (to back : Numbers) (l : LeadsTo p q to back) (r : LeadsTo q p back to) (sound : IsSound p) (other_sound : IsSound q) where
  pub extents : (t : Ctype) → HasTags p.types.tags t → Alike to.tag (extent_in p.types t) (extent_in q.types (renamed to.tag t))
  extents t has =
      same_extent p.types q.types to.tag sound.made other_sound.made
      (λ tag ms at. l.members tag ms (stands_within p.types sound.named tag (sound.made.stands tag ms at)) at)
      none t has
    where
      none : (tag : ℕ) → tag < p.types.tags → members_in p.types tag ≡ None → members_in q.types (to.tag tag) ≡ None
      none tag lt at = by (members_in q.types (to.tag tag)) refl
        where
          by : (o : Option (List MemberTerm)) → members_in q.types (to.tag tag) ≡ o → members_in q.types (to.tag tag) ≡ None
          by None e = e
          by (Some ks) e =
              let round = l.tag_back tag lt in
              let (ms, there, same) = r.members (to.tag tag) ks round.0 e in
              absurd (none_some (sym at ∙ (ap (members_in p.types) (sym round.1) ∙ there)))

  pub parts_alike : (t : Ctype) → HasTags p.types.tags t → length (parts_of q.types (renamed to.tag t)) ≡ length (parts_of p.types t)
  parts_alike t has =
      part_count q.types other_sound.made (renamed to.tag t)
      ∙ (as_many_nodes to.tag (extent_in p.types t) (extent_in q.types (renamed to.tag t)) (extents t has) ∙ sym (part_count p.types sound.made t))

  pub complete_alike : (t : Ctype) → HasTags p.types.tags t → is_some (extent_in q.types (renamed to.tag t)) ≡ is_some (extent_in p.types t)
  complete_alike t has = both_complete to.tag (extent_in p.types t) (extent_in q.types (renamed to.tag t)) (extents t has)

  pub kept_alike : (t : Ctype) → HasTags p.types.tags t → kept_count (row_nodes q.types (renamed to.tag t)) ≡ kept_count (row_nodes p.types t)
  kept_alike t has = kept_nodes to.tag (extent_in p.types t) (extent_in q.types (renamed to.tag t)) (extents t has)

  -- the same of types by their numbers, where the other type is the renamed one
  pub parts_there : (id other : ℕ) → type_of q.types other ≡ renamed to.tag (type_of p.types id) → length (parts_of q.types (type_of q.types other)) ≡ length (parts_of p.types (type_of p.types id))
  parts_there id other e = ap (λ (t : Ctype). length (parts_of q.types t)) e ∙ parts_alike (type_of p.types id) (type_tags p.types id sound.named)

  pub kept_there : (id other : ℕ) → type_of q.types other ≡ renamed to.tag (type_of p.types id) → kept_count (row_nodes q.types (type_of q.types other)) ≡ kept_count (row_nodes p.types (type_of p.types id))
  kept_there id other e = ap (λ (t : Ctype). kept_count (row_nodes q.types t)) e ∙ kept_alike (type_of p.types id) (type_tags p.types id sound.named)
