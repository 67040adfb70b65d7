use Rattle.std.proofs.Common.{◌≡◌, ℕ, List, Option, length, refl, sym, subst}
use Rattle.std.specs.Prelude.{slice_index}
use Rattle.c_senses.specs.Names.{names_of}
use Rattle.tree_reads.specs.Sources.{source_in, source_read}
use Rattle.c_tags.specs.tag_numbers.Firsts.{Declares}
use Rattle.carried_trees.specs.carried_types.Terms.{AreTagIds}
use Rattle.c_check.specs.declared.known_tags.known.Meaning.{Meaning}
use Rattle.c_check.specs.declared.known_tags.told.ToldTags.{ToldTags}
use Rattle.c_check.specs.known_tags.Given.{AreGiven, AreIdsOf}
use Rattle.c_check.specs.known_tags.Own.{AreUnder}
use Rattle.c_check.specs.known_tags.Told.{AreTold}
use Rattle.c_check.specs.Told.{AreMarked}
use Rattle.c_check.proofs.Answering.{both_ok, firsts_there}
use Rattle.c_check.proofs.known_tags.Telling.{marked_there}
use Rattle.c_check.proofs.telling.marked_tags.Goals as goal

pub returns-clause-marked : goal.returns-clause-marked
unfolding names_of
returns-clause-marked c =
    let n = c.args.numbered.now in
    let uses = c.args.bound.now.uses.items in
    let s = source_in n.syntax uses in
    let old = c.args.unit.now in
    let first = slice_index n.tags.firsts.items in
    let flags = c.as_slice.result.now in
    let known = c.as_slice-2.result.now in
    let count = c.type_count-count.ensures in
    let tags = c.requires.tags in
    let declares : Declares s c.in-Ok.declaring = c.in-Ok.ensures s refl (sym c.requires.bound.tags) in
    let under : AreUnder (source_read n.syntax) c.args.node flags = subst (AreUnder (source_read n.syntax) c.args.node) (sym c.as_slice.ensures.value) c.in_ok-flags.ensures.under in
    let within : AreTagIds known old.types = subst (λ (l : List (Option ℕ)). AreTagIds l old.types) (sym c.as_slice-2.ensures.value) c.in_ok-known.ensures.within in
    let long = both_ok c.told_tags.result (λ (t : ToldTags). length t.marks.items ≡ n.tags.count) (λ (t : ToldTags). length t.incomplete.items ≡ n.tags.count) (λ (t : ToldTags). (length t.marks.items ≡ n.tags.count) × (length t.incomplete.items ≡ n.tags.count))
    (λ t a b. (a, b)) c.told_tags.ensures.long c.told_tags.ensures.same in
    both_ok c.told_tags.result
    (λ (t : ToldTags). (us : List (ℕ × ℕ)) (list : List (ℕ × Meaning)) (node : ℕ) → Declares (source_in n.syntax us) c.in-Ok.declaring → AreGiven c.args.given.now list → AreUnder (source_read n.syntax) node flags → AreTold (source_in n.syntax us) first node list old.types known n.tags.count t.marks.items t.incomplete.items)
    (λ (t : ToldTags). (length t.marks.items ≡ n.tags.count) × (length t.incomplete.items ≡ n.tags.count))
    (λ (t : ToldTags). (list : List (ℕ × Meaning)) → AreGiven c.args.given.now list → AreMarked s c.args.node list old t.marks.items t.incomplete.items)
    (λ t told longs list given.
    let typed : AreIdsOf s list old.types n.tags.firsts.items n.tags.count known =
    subst (λ (l : List (Option ℕ)). AreIdsOf s list old.types n.tags.firsts.items n.tags.count l) (sym c.as_slice-2.ensures.value) (c.in_ok-known.ensures.typed uses list declares given) in
    marked_there s first (firsts_there s n.tags tags) c.args.node list old count.made count.named known n.tags.count tags.count typed within t.marks.items t.incomplete.items longs.0 longs.1 (told uses list c.args.node declares given under)) c.told_tags.ensures.told long
