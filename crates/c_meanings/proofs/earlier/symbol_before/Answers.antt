use Rattle.std.proofs.Common.{◌≡◌, ◌<◌, Option, None, length, ap, sym, ◌∙◌, arith, true}
use Rattle.std.proofs.lemmas.Option.{slice_get_within}
use Rattle.c_scope.specs.declared.kinds.Declared.{Declared}
use Rattle.c_senses.specs.Names.{ordinary_at, made_before}
use Rattle.c_senses.specs.Entities.{internal_among}
use Rattle.name_chains.proofs.Linked.{listed-none}
use Rattle.name_chains.proofs.Seeing.{found_at, missing_at}
use Rattle.tree_reads.specs.Sources.{source_read, source_in}
use Rattle.c_meanings.specs.Known.{nodes_in}
use Rattle.c_meanings.specs.Thinned.{those}
use Rattle.c_meanings.proofs.Lists.{before_is}
use Rattle.c_meanings.proofs.Before.{symbol_internal}
use Rattle.c_meanings.proofs.earlier.symbol_before.Goals as goal

pub symbol_link-requires : goal.symbol_link-requires
symbol_link-requires c =
    let h = c.requires.names in
    let ds = (source_read c.args.syntax.now).declared.ordinary in
    let there = found_at c.args.leaf ds c.in-Some.place (sym (h.chains.places c.args.leaf) ∙ sym c.in-Some.ensures) in
    let lt : c.in-Some.place < length ds = slice_get_within ds c.in-Some.place there.0 there.1.at in
    omega (arith, h.symbols.count)

pub returns-in-Some-clause-last : goal.returns-in-Some-clause-last
returns-in-Some-clause-last c = before_is c.args.names.now.symbols.items c.in-Some.place c.symbol_link.result c.symbol_link.ensures c.requires.names.symbols.backward

pub returns-in-Some-clause-list : goal.returns-in-Some-clause-list
returns-in-Some-clause-list c = λ w uses sense.
    let s = source_in c.args.syntax.now uses in
    let h = c.requires.names in
    let there = found_at c.args.leaf s.declared.ordinary c.in-Some.place (sym (h.chains.places c.args.leaf) ∙ sym c.in-Some.ensures) in
    symbol_internal (nodes_in c.args.syntax.now) w s sense c.args.names.now.symbols.items c.args.leaf c.in-Some.place there.0 c.symbol_link.result h.symbols there.1 c.symbol_link.ensures

pub returns-in-None-clause-list : goal.returns-in-None-clause-list
returns-in-None-clause-list c = λ w uses sense.
    let s = source_in c.args.syntax.now uses in
    let h = c.requires.names in
    let none : ordinary_at s c.args.leaf ≡ None = missing_at c.args.leaf s.declared.ordinary (sym (h.chains.places c.args.leaf) ∙ sym c.in-None.ensures) in
    ap (those true s sense) (listed-none c.args.names.now.symbols.items) ∙ sym (ap (λ (o : Option Declared). internal_among s sense (made_before c.args.leaf s.declared.ordinary) o) none)
