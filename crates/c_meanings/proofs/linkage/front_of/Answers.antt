use Rattle.std.proofs.Common.{◌≡◌, [], ◌∷◌, ◌++◌, List, Some, append-nil, append_assoc, refl, ap, sym, subst, ◌∙◌}
use Rattle.c_scope.specs.declared.kinds.Declared.{Declared}
use Rattle.c_senses.specs.Sense.{sense_in}
use Rattle.c_results.specs.Standing.{senses_made}
use Rattle.tree_reads.specs.Sources.{source_in}
use Rattle.name_chains.specs.Links.{listed, IsLinkOf}
use Rattle.c_meanings.specs.Internal.{first_internal}
use Rattle.c_meanings.proofs.Lists.{ends, before_is, before_less}
use Rattle.c_meanings.proofs.Fronts.{first_cut}
use Rattle.c_meanings.proofs.linkage.front_of.Goals as goal

pub symbol_link-link-requires : goal.symbol_link-link-requires
symbol_link-link-requires c = subst (IsLinkOf c.args.names.now.symbols.items) c.in-Some.is c.loop-at.invariant.last

pub is_static-requires-clause-leaf : goal.is_static-requires-clause-leaf
is_static-requires-clause-leaf c = c.requires.names.chained.symbols.leaves.each c.in-Some.here c.symbol_link-link.result c.symbol_link-link.ensures

pub loop-at-init : goal.loop-at-init
loop-at-init c = record {
  last = c.requires.place;
  found = c.requires.place;
  rest = ([], sym (append-nil (listed c.args.names.now.symbols.items (Some c.args.place))));
  first = λ u uses. refl;
}

pub loop-at-smaller : goal.loop-at-smaller
loop-at-smaller c = before_less c.args.names.now.symbols.items c.in-Some.here c.symbol_link-link.result c.symbol_link-link.ensures c.requires.names.chained.symbols.backward c.loop-at.at c.in-Some.is

pub loop-at-preserved-then-is_static : goal.loop-at-preserved-then-is_static
loop-at-preserved-then-is_static c =
    let xs = c.args.names.now.symbols.items in
    let l = c.symbol_link-link.result in
    let back = c.requires.names.chained.symbols.backward in
    let there = before_is xs c.in-Some.here l c.symbol_link-link.ensures back in
    let more = c.loop-at.invariant.rest.0 in
    record {
      last = there;
      found = there;
      rest = ([], sym (append-nil (listed xs l.before)));
      first = λ u uses.
          let s = source_in c.args.syntax.now uses in
          let sense = sense_in (senses_made u c.args.results.now) in
          let whole : listed xs c.loop-at.front.last ≡ (listed xs l.before ++ l.declared ∷ []) ++ more =
          c.loop-at.invariant.rest.1 ∙ ap (λ (ds : List Declared). ds ++ more) (ends xs c.in-Some.here l c.symbol_link-link.ensures back c.loop-at.at c.in-Some.is) in
          sym (ap (first_internal s sense c.loop-at.front.leaf) whole ∙ first_cut s sense c.loop-at.front.leaf (listed xs l.before) more l.declared (c.is_static.ensures u uses c.if-is_static.true))
          ∙ c.loop-at.invariant.first u uses;
    }

pub loop-at-preserved : goal.loop-at-preserved
loop-at-preserved c =
    let xs = c.args.names.now.symbols.items in
    let l = c.symbol_link-link.result in
    let back = c.requires.names.chained.symbols.backward in
    let more = c.loop-at.invariant.rest.0 in
    let whole : listed xs c.loop-at.front.last ≡ (listed xs l.before ++ l.declared ∷ []) ++ more =
    c.loop-at.invariant.rest.1 ∙ ap (λ (ds : List Declared). ds ++ more) (ends xs c.in-Some.here l c.symbol_link-link.ensures back c.loop-at.at c.in-Some.is) in
    record {
      last = before_is xs c.in-Some.here l c.symbol_link-link.ensures back;
      found = c.loop-at.invariant.found;
      rest = (l.declared ∷ more, whole ∙ append_assoc (listed xs l.before) (l.declared ∷ []) more);
      first = c.loop-at.invariant.first;
    }
