use Rattle.std.proofs.Common.{List, take, sym, subst}
use Rattle.std.proofs.lemmas.List.{take_more, take_all}
use Rattle.c_scope.specs.declared.kinds.Declared.{Declared}
use Rattle.name_chains.specs.symbol_lists.Symbols.{Say}
use Rattle.name_chains.proofs.symbol_lists.Adding.{say_none}
use Rattle.name_chains.proofs.symbol_lists.lists.SymbolLists.new.Goals as goal

pub loop-declared-init : goal.loop-declared-init
loop-declared-init c = say_none c.new-counts.result c.new-leaves.result c.new-counts.ensures.empty c.new-leaves.ensures.empty

pub loop-declared-preserved : goal.loop-declared-preserved
loop-declared-preserved c =
    let those = c.args.declarations.now in
    let i = c.loop-declared.declared-index in
    subst (λ (ds : List Declared). Say ds c.add.new.counts c.add.new.leaves) (sym (take_more those i _ c.loop-declared-test.true)) (c.in_ok-add.ensures (take i those) c.loop-declared.invariant)

pub returns : goal.returns
returns c =
    subst (λ (ds : List Declared). Say ds c.loop-declared.counts c.loop-declared.leaves) (take_all c.loop-declared.declared-index c.args.declarations.now c.loop-declared-test.false) c.loop-declared.invariant
