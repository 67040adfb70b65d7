use Rattle.std.proofs.Common.{length}
use Rattle.std.proofs.lemmas.Option.{slice_get_within}
use Rattle.c_scope.specs.declared.kinds.Declared.{Declared}
use Rattle.c_senses.specs.Names.{ordinary_at}
use Rattle.c_senses.specs.Entities.{first_of, internal_among}
use Rattle.name_chains.proofs.Seeing.{found_at, missing_at}
use Rattle.c_meanings.proofs.Lists.{first_of_symbol}
use Rattle.std.proofs.Common.{◌≡◌, ◌<◌, Option, None, true, false, refl, ap, sym, ◌∙◌, arith}
use Rattle.c_senses.specs.Sense.{sense_in}
use Rattle.c_results.specs.Standing.{senses_made}
use Rattle.tree_reads.specs.Sources.{source_read, source_in}
use Rattle.c_meanings.specs.Known.{nodes_in}
use Rattle.c_meanings.proofs.Tests.{if_then, if_else}
use Rattle.c_meanings.proofs.linkage.entity_of.Goals as goal

pub returns-then-not-is_internal : goal.returns-then-not-is_internal
returns-then-not-is_internal c = λ u uses. let e : c.is_internal.result ≡ false = cc in if_else _ _ _ _ _ (c.is_internal.ensures u uses) e refl

pub front_of-front-requires-clause-place : goal.front_of-front-requires-clause-place
front_of-front-requires-clause-place c =
    let h = c.requires.names.chained in
    let ds = (source_read c.args.syntax.now).declared.ordinary in
    let there = found_at c.args.leaf ds c.in-Some.place (sym (h.chains.places c.args.leaf) ∙ sym c.in-Some.ensures) in
    let lt : c.in-Some.place < length ds = slice_get_within ds c.in-Some.place there.0 there.1.at in
    omega (arith, h.symbols.count)

pub returns-in-Some : goal.returns-in-Some
returns-in-Some c = λ u uses.
    let s = source_in c.args.syntax.now uses in
    let sense = sense_in (senses_made u c.args.results.now) in
    let h = c.requires.names.chained in
    let e : c.is_internal.result ≡ true = cc in
    let there = found_at c.args.leaf s.declared.ordinary c.in-Some.place (sym (h.chains.places c.args.leaf) ∙ sym c.in-Some.ensures) in
    if_then _ _ _ _ _ (c.is_internal.ensures u uses) e
    (c.first_internal.ensures u uses
    ∙ (c.front_of-front.ensures.first u uses
    ∙ first_of_symbol (nodes_in c.args.syntax.now) s sense c.args.names.now.symbols.items c.args.leaf c.in-Some.place there.0 h.symbols there.1 (sym (c.is_internal.ensures u uses) ∙ e)))

pub returns-in-None : goal.returns-in-None
returns-in-None c = λ u uses.
    let s = source_in c.args.syntax.now uses in
    let sense = sense_in (senses_made u c.args.results.now) in
    let h = c.requires.names.chained in
    let e : c.is_internal.result ≡ true = cc in
    let none : ordinary_at s c.args.leaf ≡ None = missing_at c.args.leaf s.declared.ordinary (sym (h.chains.places c.args.leaf) ∙ sym c.in-None.ensures) in
    if_then _ _ _ _ _ (c.is_internal.ensures u uses) e
    (ap (λ (o : Option Declared). first_of s sense c.args.leaf (internal_among s sense s.declared.ordinary o)) (sym none))
