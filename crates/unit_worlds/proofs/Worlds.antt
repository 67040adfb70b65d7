-- A unit knows the world with one tag more.
use Rattle.std.proofs.Common.{arith, ◌≡◌, ℕ, Bool, true, false, cond, eqb, List, [], ◌∷◌, ◌++◌, length, map, Option, Some, None, refl, sym, ap, ◌∙◌, subst, append-nil}
use Rattle.std.proofs.lemmas.Bool.{eqb-true}
use Rattle.c_types.specs.Trees.{Ctype, StructureOf}
use Rattle.c_types.specs.Layout.{Extent, Look, of_members, structure_of, extent_of, member_extent}
use Rattle.c_types.specs.Table.{look_in, extent_in, members_in}
use Rattle.core_tree.specs.declared.node.Unit.{Unit}
use Rattle.c_inits.specs.Made.{Part, TagParts}
use Rattle.c_results.specs.passed.core_nodes.Standing.{parts_in, Knows}
use Rattle.c_results.proofs.passed.core_nodes.Growing.{knows_on}
use Rattle.c_senses.specs.Tree.{Source}
use Rattle.c_senses.specs.Sense.{Sense, sense_in}
use Rattle.c_senses.specs.Tags.{members_under, look_of, types_of_parts, completed_from}
use Rattle.c_senses.specs.Rows.{world_at, world_over}
use Rattle.parsed_tree_laws.specs.sense_laws.Senses.{ChildrenFirst}
use Rattle.unit_worlds.specs.Growing.{Completes, Grows, completed_at}
use Rattle.unit_worlds.specs.Laws.{KnownOn}
use Rattle.unit_worlds.proofs.Entries.{AreFew, few_at, completed_more}
use Rattle.unit_worlds.proofs.Completing.{after, under_append, none_laid, entry_for, look_append, extents_same, grown_same}

after_last : {A : Type 0} (o : Option A) → after o None ≡ o
unfolding after
after_last None = refl
after_last (Some x) = refl

no_members : (f : List Extent → Extent) (o : Option (List Extent)) → of_members f None ≡ of_members f o → o ≡ None
no_members f None e = refl
no_members f (Some es) e = cc

module _ (s : Source) (done : List TagParts) (c : TagParts) (old new : Unit) (xs ys : List Sense) (f g : ℕ → Sense) (i j : ℕ) (k : Knows (world_over s xs f done i) old) (h : Completes old new c.tag c.members) where
  open_before : members_under done c.tag ≡ None
  open_before = k.members c.tag ∙ ap (parts_in old.types) h.was_open

  members_more : (t : ℕ) → members_under (done ++ c ∷ []) t ≡ parts_in new.types (members_in new.types t)
  unfolding after
  members_more t = under_append done c t ∙ (by (eqb c.tag t) refl ∙ sym (h.members t))
    where
      by : (b : Bool) → eqb c.tag t ≡ b → after (members_under done t) (cond b (Some c.members) None) ≡ cond b (Some c.members) (parts_in old.types (members_in old.types t))
      by true e = ap (λ (o : Option (List Part)). after o (Some c.members)) (ap (members_under done) (sym (eqb-true c.tag t e)) ∙ open_before)
      by false e = after_last (members_under done t) ∙ k.members t

  look_before : look_of done c.tag ≡ None
  look_before = none_laid [] done c.tag refl open_before

  seen_before : look_in old.types c.tag ≡ None
  seen_before =
      no_members (structure_of (StructureOf c.tag)) (look_in old.types c.tag)
      (ap (of_members (structure_of (StructureOf c.tag))) (sym look_before) ∙ k.extents (StructureOf c.tag))

  same_entry : (t : ℕ) → entry_for (look_in old.types) c t ≡ entry_for (look_of done) c t
  unfolding entry_for
  same_entry t = ap (λ (es : List Extent). cond (eqb c.tag t) (Some es) None) (sym (extents_same (look_of done) (look_in old.types) k.extents (types_of_parts c.members)))

  look_more : (t : ℕ) → look_in new.types t ≡ after (look_in old.types t) (entry_for (look_of done) c t)
  unfolding after entry_for
  look_more t = h.look t ∙ (by (eqb c.tag t) refl ∙ ap (after (look_in old.types t)) (same_entry t))
    where
      by : (b : Bool) → eqb c.tag t ≡ b → cond b (Some (map (member_extent (look_in old.types)) (types_of_parts c.members))) (look_in old.types t) ≡ after (look_in old.types t) (entry_for (look_in old.types) c t)
      by true e =
          ap (λ (o : Option (List Extent)). after o (Some (map (member_extent (look_in old.types)) (types_of_parts c.members)))) (sym (ap (look_in old.types) (sym (eqb-true c.tag t e)) ∙ seen_before))
          ∙ ap (λ (b : Bool). after (look_in old.types t) (cond b (Some (map (member_extent (look_in old.types)) (types_of_parts c.members))) None)) (sym e)
      by false e = sym (ap (λ (b : Bool). after (look_in old.types t) (cond b (Some (map (member_extent (look_in old.types)) (types_of_parts c.members))) None)) e ∙ after_last (look_in old.types t))

  pub knows_completed : Knows (world_over s ys g (done ++ c ∷ []) j) new
  knows_completed = record {
    members = members_more;
    extents = λ t. grown_same (look_of done) (look_in old.types) k.extents (look_of (done ++ c ∷ [])) (look_in new.types) (entry_for (look_of done) c) (look_append done c) look_more t;
    tags = k.tags ∙ sym h.tags;
  }

knows_by : (s : Source) (done es : List TagParts) (old new : Unit) (xs ys : List Sense) (f g : ℕ → Sense) (i j : ℕ) → AreFew s es → Grows old new es → Knows (world_over s xs f done i) old → Knows (world_over s ys g (done ++ es) j) new
unfolding AreFew
knows_by s done [] old new xs ys f g i j few b k =
    let on = knows_on (world_over s xs f done i) old new b k in
    subst (λ (l : List TagParts). Knows (world_over s ys g l j) new) (sym (append-nil done)) (record { members = on.members; extents = on.extents; tags = on.tags })
knows_by s done (c ∷ []) old new xs ys f g i j few h k = knows_completed s done c old new xs ys f g i j k h
knows_by s done (c ∷ d ∷ rest) old new xs ys f g i j few h k = absurd few

pub known_one : KnownOn
known_one s first senses x old new i j grows k =
    let done : List TagParts = completed_from s senses (sense_in senses) 0 in
    subst (λ (l : List TagParts). Knows (world_over s (senses ++ x ∷ []) (sense_in (senses ++ x ∷ [])) l j) new) (sym (completed_more s first senses x))
    (knows_by s done (completed_at s (sense_in senses) (length senses)) old new senses (senses ++ x ∷ []) (sense_in senses) (sense_in (senses ++ x ∷ [])) i j (few_at s (sense_in senses) (length senses)) grows k)
