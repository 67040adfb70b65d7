use Rattle.std.proofs.Common.{◌≡◌, ◌<◌, Bool, true, false, not, Option, Some, None, List, length, refl, ap, sym, ◌∙◌, arith}
use Rattle.std.proofs.lemmas.Option.{slice_get_within}
use Rattle.c_scope.specs.declared.kinds.Declared.{Declared}
use Rattle.c_senses.specs.Names.{ordinary_at}
use Rattle.c_senses.specs.Sense.{sense_in}
use Rattle.c_senses.specs.Entities.{first_of, internal_among}
use Rattle.c_results.specs.Standing.{senses_made}
use Rattle.name_chains.specs.Links.{listed}
use Rattle.name_chains.proofs.Seeing.{found_at, missing_at}
use Rattle.tree_reads.specs.Sources.{source_read, source_in}
use Rattle.c_meanings.specs.Known.{nodes_in}
use Rattle.c_meanings.specs.Later.{later}
use Rattle.c_meanings.proofs.Lists.{first_of_symbol}
use Rattle.c_meanings.proofs.Onward.{not_false}
use Rattle.c_meanings.proofs.Thinning.{thin_now}
use Rattle.c_meanings.proofs.Tests.{if_then, if_else, some_of}
use Rattle.c_meanings.proofs.earlier.entity_kept.Goals as goal

not_true : (b : Bool) → not b ≡ true → b ≡ false
not_true true e = sym e
not_true false e = refl

pub returns-then-not-asked-clause-entity : goal.returns-then-not-asked-clause-entity
returns-then-not-asked-clause-entity c = λ u uses. if_else _ _ _ _ _ (c.internal_asked-asked.ensures.now u uses) (not_true _ c.if-not-asked.true) refl

pub returns-then-not-asked-clause-stays : goal.returns-then-not-asked-clause-stays
returns-then-not-asked-clause-stays c = λ t u uses more. if_else _ _ _ _ _ (c.internal_asked-asked.ensures.stays t u uses more) (not_true _ c.if-not-asked.true) refl

pub returns-in_default-clause-entity : goal.returns-in_default-clause-entity
returns-in_default-clause-entity c = λ u uses.
    let s = source_in c.args.syntax.now uses in
    let sense = sense_in (senses_made u c.args.results.now) in
    let h = c.requires.names.chained in
    let none : ordinary_at s c.args.leaf ≡ None = missing_at c.args.leaf s.declared.ordinary (sym (h.chains.places c.args.leaf) ∙ (sym c.get.ensures ∙ c.in_default.is)) in
    if_then _ _ _ _ _ (c.internal_asked-asked.ensures.now u uses) (not_false _ c.if-not-asked.false) (ap (λ (o : Option Declared). first_of s sense c.args.leaf (internal_among s sense s.declared.ordinary o)) (sym none))

pub symbol_thinned-requires-clause-last : goal.symbol_thinned-requires-clause-last
symbol_thinned-requires-clause-last c =
    let h = c.requires.names.chained in
    let ds = (source_read c.args.syntax.now).declared.ordinary in
    let there = found_at c.args.leaf ds c.in-Some.place (sym (h.chains.places c.args.leaf) ∙ (sym c.get.ensures ∙ c.in-Some.is)) in
    let lt : c.in-Some.place < length ds = slice_get_within ds c.in-Some.place there.0 there.1.at in
    omega (arith, h.symbols.count)

pub returns-in-Some-2-clause-entity : goal.returns-in-Some-2-clause-entity
returns-in-Some-2-clause-entity c = λ u uses.
    let s = source_in c.args.syntax.now uses in
    let sense = sense_in (senses_made u c.args.results.now) in
    let h = c.requires.names.chained in
    let xs = c.args.names.now.symbols.items in
    let e = not_false _ c.if-not-asked.false in
    let there = found_at c.args.leaf s.declared.ordinary c.in-Some.place (sym (h.chains.places c.args.leaf) ∙ (sym c.get.ensures ∙ c.in-Some.is)) in
    let thin = thin_now c.args.syntax.now c.args.results.now true (listed xs (Some c.in-Some.place)) c.in-Some-2.list.items (some_of _ _ _ c.in-Some-2.is c.in_ok-list.ensures.thin) u uses in
    let internal = c.internal_asked-asked.ensures.now u uses in
    if_then _ _ _ _ _ internal e
    (c.first_or.ensures s sense
    ∙ (ap (λ (l : List Declared). first_of s sense c.args.leaf l) c.as_slice.ensures.value
    ∙ (thin.first c.args.leaf ∙ first_of_symbol (nodes_in c.args.syntax.now) s sense xs c.args.leaf c.in-Some.place there.0 h.symbols there.1 (sym internal ∙ e))))

pub returns-in-Some-2-clause-stays : goal.returns-in-Some-2-clause-stays
returns-in-Some-2-clause-stays c = λ t u uses more.
    let s = source_in c.args.syntax.now uses in
    let sense = later u c.args.results.now more in
    let h = c.requires.names.chained in
    let xs = c.args.names.now.symbols.items in
    let e = not_false _ c.if-not-asked.false in
    let there = found_at c.args.leaf s.declared.ordinary c.in-Some.place (sym (h.chains.places c.args.leaf) ∙ (sym c.get.ensures ∙ c.in-Some.is)) in
    let thin = some_of _ _ _ c.in-Some-2.is c.in_ok-list.ensures.thin u uses more in
    let internal = c.internal_asked-asked.ensures.stays t u uses more in
    if_then _ _ _ _ _ internal e
    (c.first_or.ensures s sense
    ∙ (ap (λ (l : List Declared). first_of s sense c.args.leaf l) c.as_slice.ensures.value
    ∙ (thin.first c.args.leaf ∙ first_of_symbol (nodes_in c.args.syntax.now) s sense xs c.args.leaf c.in-Some.place there.0 h.symbols there.1 (sym internal ∙ e))))
