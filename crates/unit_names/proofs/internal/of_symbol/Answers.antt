use Rattle.std.proofs.Common.{◌<◌, ◌≤◌, ◌+◌, ◌++◌, ℕ, List, All, length, arith, sym, ap, subst, ◌∙◌}
use Rattle.c_senses.specs.Sense.{sense_in}
use Rattle.c_results.specs.Standing.{senses_made}
use Rattle.tree_reads.specs.Sources.{source_read, source_in}
use Rattle.c_meanings.specs.Known.{nodes_in}
use Rattle.name_chains.specs.symbol_lists.Symbols.{of_symbol}
use Rattle.unit_names.specs.Internal.{internal_of}
use Rattle.unit_names.proofs.Symbols.{left_of, symbol_within, kept_more, kept_missing, kept_all, within_more}
use Rattle.unit_names.proofs.internal.of_symbol.Goals as goal

pub is_internal_after-wanted-requires-clause-leaf : goal.is_internal_after-wanted-requires-clause-leaf
is_internal_after-wanted-requires-clause-leaf c =
    let ds = (source_read c.args.syntax.now).declared.ordinary in
    symbol_within (nodes_in c.args.syntax.now) ds c.args.symbol c.loop-place.place c.in-Some.leaf c.requires.names.chained.chains.nodes (sym (c.in-Some.ensures ds c.requires.lists))

pub returns-in_default-clause-leaves : goal.returns-in_default-clause-leaves
returns-in_default-clause-leaves c = λ u uses.
    let s = source_in c.args.syntax.now uses in
    let sense = sense_in (senses_made u c.args.results.now) in
    let ds = (source_read c.args.syntax.now).declared.ordinary in
    kept_missing s sense (of_symbol c.args.symbol ds) c.loop-place.place c.loop-place.list.items (internal_of s sense c.args.symbol) (sym (c.get.ensures ds c.requires.lists) ∙ c.in_default.is) (c.loop-place.invariant.rest u uses)

pub loop-place-init : goal.loop-place-init
loop-place-init c = record {
  seen = c.nothing_seen-seen.ensures c.args.syntax.now c.args.results.now c.args.names.now;
  rest = λ u uses.
      let s = source_in c.args.syntax.now uses in
      let sense = sense_in (senses_made u c.args.results.now) in
      ap (λ (l : List ℕ). l ++ left_of s sense (of_symbol c.args.symbol s.declared.ordinary) 0) c.new-list.ensures.items;
  within = subst (All (λ (x : ℕ). x < length c.args.syntax.now.tree.now.nodes.items)) (sym c.new-list.ensures.items) (λ k d l. absurd (omega arith));
}

pub loop-place-preserved : goal.loop-place-preserved
loop-place-preserved c =
    let ds = (source_read c.args.syntax.now).declared.ordinary in
    let here = sym (c.in-Some.ensures ds c.requires.lists) in
    let below : c.in-Some.leaf < length c.args.syntax.now.tree.now.nodes.items = symbol_within (nodes_in c.args.syntax.now) ds c.args.symbol c.loop-place.place c.in-Some.leaf c.requires.names.chained.chains.nodes here in
    record {
      seen = c.is_internal_after-wanted.ensures.seen;
      rest = λ u uses.
          let s = source_in c.args.syntax.now uses in
          let sense = sense_in (senses_made u c.args.results.now) in
          ap (λ (l : List ℕ). l ++ left_of s sense (of_symbol c.args.symbol ds) (c.loop-place.place + 1)) c.in_ok-add_if.ensures.added
          ∙ kept_more s sense (of_symbol c.args.symbol ds) c.loop-place.place c.in-Some.leaf c.is_internal_after-wanted.result c.loop-place.list.items (internal_of s sense c.args.symbol) here (c.is_internal_after-wanted.ensures.internal u uses) (c.loop-place.invariant.rest u uses);
      within = subst (All (λ (x : ℕ). x < length c.args.syntax.now.tree.now.nodes.items)) (sym c.in_ok-add_if.ensures.added) (within_more (length c.args.syntax.now.tree.now.nodes.items) c.loop-place.list.items c.is_internal_after-wanted.result c.in-Some.leaf c.loop-place.invariant.within below);
    }

pub returns-clause-leaves : goal.returns-clause-leaves
returns-clause-leaves c = λ u uses.
    let s = source_in c.args.syntax.now uses in
    let sense = sense_in (senses_made u c.args.results.now) in
    let ds = (source_read c.args.syntax.now).declared.ordinary in
    let past : length (of_symbol c.args.symbol ds) ≤ c.loop-place.place = omega (arith, c.count-place-end.ensures ds c.requires.lists) in
    kept_all s sense (of_symbol c.args.symbol ds) c.loop-place.place c.loop-place.list.items (internal_of s sense c.args.symbol) past (c.loop-place.invariant.rest u uses)
