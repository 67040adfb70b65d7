use Rattle.std.proofs.Common.{ℕ, ◌+◌, ◌<◌, List, [], ◌++◌, ap, ◌∙◌, length, drop, arith}
use Rattle.std.proofs.lemmas.Bool.Decides.{nat_tests}
use Rattle.std.proofs.lemmas.List.Elements.{All-same}
use Rattle.c_senses.specs.Sense.{sense_in}
use Rattle.c_results.specs.Standing.{senses_made}
use Rattle.tree_reads.specs.Sources.{source_in, source_read}
use Rattle.name_chains.specs.symbol_lists.Symbols.{of_symbol}
use Rattle.name_uses.specs.name_sayings.Listed.{leaf_if, internal_leaves}
use Rattle.name_uses.proofs.name_sayings.Listing.{ended, stopped, gone, missing, found_below, added_below}
use Rattle.name_uses.proofs.name_sayings.internal.internal_of.Goals as goal

pub is_internal_after-wanted-requires-clause-leaf : goal.is_internal_after-wanted-requires-clause-leaf
is_internal_after-wanted-requires-clause-leaf c =
    let ds = (source_read c.args.syntax.now).declared.ordinary in
    found_below (length c.args.syntax.now.tree.now.nodes.items) c.args.symbol ds c.loop-place.place c.in-Some.other c.requires.lists.nodes (c.in-Some.ensures ds c.requires.lists.those)

pub returns-in_default-clause-leaves : goal.returns-in_default-clause-leaves
returns-in_default-clause-leaves c = λ u uses.
    let s = source_in c.args.syntax.now uses in
    let sense = sense_in (senses_made u c.args.results.now) in
    let ds = of_symbol c.args.symbol s.declared.ordinary in
    ended s sense c.args.leaf ds c.loop-place.list.items c.loop-place.place (c.loop-place.invariant.left u uses)
    (missing ds c.loop-place.place (c.in_default.ensures s.declared.ordinary c.requires.lists.those))

pub returns-then-other-leaf-clause-leaves : goal.returns-then-other-leaf-clause-leaves
returns-then-other-leaf-clause-leaves c = λ u uses.
    let s = source_in c.args.syntax.now uses in
    let sense = sense_in (senses_made u c.args.results.now) in
    let ds = of_symbol c.args.symbol s.declared.ordinary in
    stopped s sense c.args.leaf ds c.loop-place.list.items c.loop-place.place c.in-Some.other (c.loop-place.invariant.left u uses) (c.in-Some.ensures s.declared.ordinary c.requires.lists.those) c.if-other-leaf.true

pub loop-place-init : goal.loop-place-init
loop-place-init c = record {
  seen = c.nothing_seen-seen.ensures c.args.syntax.now c.args.results.now c.args.names.now;
  left = λ u uses.
      let s = source_in c.args.syntax.now uses in
      let sense = sense_in (senses_made u c.args.results.now) in
      ap (λ (xs : List ℕ). xs ++ internal_leaves s sense c.args.leaf (of_symbol c.args.symbol s.declared.ordinary)) c.new-list.ensures.items;
  within = All-same (λ (k : ℕ). k < length c.args.syntax.now.tree.now.nodes.items) c.new-list.result.items [] c.new-list.ensures.items (λ k d l. absurd (omega arith));
}

pub loop-place-preserved : goal.loop-place-preserved
loop-place-preserved c =
    let n = length c.args.syntax.now.tree.now.nodes.items in
    let here = c.in-Some.ensures (source_read c.args.syntax.now).declared.ordinary c.requires.lists.those in
    let list = c.loop-place.list.items in
    let other = c.in-Some.other in
    let wanted = c.is_internal_after-wanted.result in
    record {
      seen = c.is_internal_after-wanted.ensures.seen;
      left = λ u uses.
          let s = source_in c.args.syntax.now uses in
          let sense = sense_in (senses_made u c.args.results.now) in
          let ds = of_symbol c.args.symbol s.declared.ordinary in
          ap (λ (xs : List ℕ). xs ++ internal_leaves s sense c.args.leaf (drop (c.loop-place.place + 1) ds)) c.in_ok-add_if.ensures.added
          ∙ gone s sense c.args.leaf ds list c.loop-place.place other wanted (c.loop-place.invariant.left u uses) here (grind (arith, nat_tests)) (c.is_internal_after-wanted.ensures.internal u uses);
      within = All-same (λ (k : ℕ). k < n) c.add_if.new.list.items (list ++ leaf_if wanted other) c.in_ok-add_if.ensures.added
          (added_below n list wanted other c.loop-place.invariant.within (found_below n c.args.symbol (source_read c.args.syntax.now).declared.ordinary c.loop-place.place other c.requires.lists.nodes here));
    }
