use Rattle.std.proofs.Common.{◌≡◌, ℕ, List, Option, length, refl, sym, subst}
use Rattle.std.specs.Prelude.{slice_index}
use Rattle.c_senses.specs.Names.{names_of}
use Rattle.tree_reads.specs.Sources.{source_in, source_read}
use Rattle.c_tags.specs.tag_numbers.Firsts.{Declares}
use Rattle.carried_trees.specs.carried_types.Terms.{AreTagIds}
use Rattle.c_check.specs.declared.known_tags.known.Meaning.{Meaning}
use Rattle.c_check.specs.declared.known_tags.own.OwnTags.{OwnTags}
use Rattle.c_check.specs.known_tags.Given.{AreGiven, AreIdsOf}
use Rattle.c_check.specs.known_tags.Own.{AreUnder, AreOpened}
use Rattle.c_check.specs.Expressed.{AreOwn}
use Rattle.c_check.proofs.Answering.{both_ok}
use Rattle.c_check.proofs.expression.own_tags.Goals as goal

pub returns-clause-own : goal.returns-clause-own
unfolding names_of
returns-clause-own c =
    let n = c.args.numbered.now in
    let uses = c.args.bound.now.uses.items in
    let s = source_in n.syntax uses in
    let old = c.args.unit.now.types in
    let new = c.own_types.new.unit.types in
    let first = slice_index n.tags.firsts.items in
    let flags = c.as_slice.result.now in
    let known = c.as_slice-2.result.now in
    let declares : Declares s c.in-Ok.declaring = c.in-Ok.ensures s refl (sym c.requires.bound.tags) in
    let under : AreUnder (source_read n.syntax) c.args.node flags = subst (AreUnder (source_read n.syntax) c.args.node) (sym c.as_slice.ensures.value) c.in_ok-flags.ensures.under in
    both_ok c.own_types.result
    (λ (tags : OwnTags). (us : List (ℕ × ℕ)) (list : List (ℕ × Meaning)) (node : ℕ) → Declares (source_in n.syntax us) c.in-Ok.declaring → AreGiven c.args.given.now list → AreUnder (source_read n.syntax) node flags → AreOpened (source_in n.syntax us) first node list old.tags new known n.tags.count tags.ids.items tags.pairs.items)
    (λ (tags : OwnTags). length tags.ids.items ≡ n.tags.count)
    (λ (tags : OwnTags). (list : List (ℕ × Meaning)) → AreGiven c.args.given.now list → AreOwn s first c.args.node list n.tags.count old new tags.ids.items tags.pairs.items)
    (λ tags opened long list given. record {
      known = known;
      within = subst (λ (l : List (Option ℕ)). AreTagIds l old) (sym c.as_slice-2.ensures.value) c.in_ok-known.ensures.within;
      typed = subst (λ (l : List (Option ℕ)). AreIdsOf s list old n.tags.firsts.items n.tags.count l) (sym c.as_slice-2.ensures.value) (c.in_ok-known.ensures.typed uses list declares given);
      opened = opened uses list c.args.node declares given under;
      long = long;
    }) c.own_types.ensures.opened c.own_types.ensures.long
