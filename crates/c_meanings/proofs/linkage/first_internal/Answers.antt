use Rattle.c_scope.specs.declared.kinds.Declared.{Declared}
use Rattle.c_senses.specs.Entities.{is_internal}
use Rattle.name_chains.specs.Links.{listed, IsLinkOf}
use Rattle.name_chains.proofs.Linked.{listed-none}
use Rattle.c_meanings.specs.Internal.{first_internal}
use Rattle.c_meanings.proofs.Lists.{ends, before_is, before_less, first-push}
use Rattle.std.proofs.Common.{◌≡◌, ℕ, [], Bool, refl, ap, sym, subst, ◌∙◌}
use Rattle.c_senses.specs.Sense.{sense_in}
use Rattle.c_results.specs.Standing.{senses_made}
use Rattle.tree_reads.specs.Sources.{source_in}
use Rattle.c_meanings.proofs.linkage.first_internal.Goals as goal

pub symbol_link-link-requires : goal.symbol_link-link-requires
symbol_link-link-requires c = subst (IsLinkOf c.args.names.now.symbols.items) c.in-Some.is c.loop-at.invariant.last

pub internal_or-first-requires-clause-leaf : goal.internal_or-first-requires-clause-leaf
internal_or-first-requires-clause-leaf c = c.requires.names.chained.symbols.leaves.each c.in-Some.here c.symbol_link-link.result c.symbol_link-link.ensures

pub loop-at-init : goal.loop-at-init
loop-at-init c = record {
  last = c.requires.last;
  seen = c.nothing_seen-seen.ensures c.args.syntax.now c.args.results.now c.args.names.now;
  first = λ u uses. refl;
}

pub loop-at-smaller : goal.loop-at-smaller
loop-at-smaller c = before_less c.args.names.now.symbols.items c.in-Some.here c.symbol_link-link.result c.symbol_link-link.ensures c.requires.names.chained.symbols.backward c.loop-at.at c.in-Some.is

pub loop-at-preserved : goal.loop-at-preserved
loop-at-preserved c =
    let xs = c.args.names.now.symbols.items in
    let l = c.symbol_link-link.result in
    let back = c.requires.names.chained.symbols.backward in
    record {
      last = before_is xs c.in-Some.here l c.symbol_link-link.ensures back;
      seen = c.internal_or-first.ensures.seen;
      first = λ u uses.
          let s = source_in c.args.syntax.now uses in
          let sense = sense_in (senses_made u c.args.results.now) in
          let test : Declared → Bool = λ d. is_internal s sense d.node in
          ap (λ (x : ℕ). first_internal s sense x (listed xs l.before)) (c.internal_or-first.ensures.leaf u uses)
          ∙ (sym (first-push s sense test c.loop-at.first (listed xs l.before) l.declared)
          ∙ (ap (first_internal s sense c.loop-at.first) (sym (ends xs c.in-Some.here l c.symbol_link-link.ensures back c.loop-at.at c.in-Some.is)) ∙ c.loop-at.invariant.first u uses));
    }

pub returns : goal.returns
returns c = λ u uses.
    let s = source_in c.args.syntax.now uses in
    let sense = sense_in (senses_made u c.args.results.now) in
    let xs = c.args.names.now.symbols.items in
    let none : listed xs c.loop-at.at ≡ [] = ap (listed xs) c.in_default.is ∙ listed-none xs in
    sym (ap (first_internal s sense c.loop-at.first) none) ∙ c.loop-at.invariant.first u uses
