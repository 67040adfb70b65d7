use Rattle.std.proofs.Common.{sym, ◌∙◌}
use Rattle.c_lexer.proofs.Words.{lookup_here, lookup_next, lookup_end}
use Rattle.c_lexer.proofs.meanings.lookup.Goals as goal

pub returns-then-is_same : goal.returns-then-is_same
returns-then-is_same c = sym (lookup_here c.args.table.now c.loop-entry.entry-index _ c.args.word.now c.loop-entry-test.true (sym c.is_same.ensures ∙ c.if-is_same.true)) ∙ c.loop-entry.invariant

pub loop-entry-preserved : goal.loop-entry-preserved
loop-entry-preserved c = lookup_next c.args.table.now c.loop-entry.entry-index _ c.args.word.now c.loop-entry-test.true (sym c.is_same.ensures ∙ c.if-is_same.false) ∙ c.loop-entry.invariant

pub returns : goal.returns
returns c = sym (lookup_end c.args.table.now c.loop-entry.entry-index c.args.word.now c.loop-entry-test.false) ∙ c.loop-entry.invariant
