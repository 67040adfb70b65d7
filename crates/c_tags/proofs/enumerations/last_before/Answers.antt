use Rattle.std.proofs.Common.{arith, ◌≡◌, ◌∙◌, ◌&&◌, ◌-◌, ℕ, suc, sym}
use Rattle.std.specs.Prelude.{nat_lt}
use Rattle.c_grammar.specs.Productions.{p_enumerator}
use Rattle.c_senses.specs.Tree.{is_a}
use Rattle.tree_reads.specs.Sources.{source_read}
use Rattle.c_tags.proofs.Backwards.{last_some}
use Rattle.c_tags.proofs.enumerations.last_before.Goals as goal

pub returns-then-is_before : goal.returns-then-is_before
returns-then-is_before c =
    let test = λ (x : ℕ). is_a (source_read c.args.syntax.now) p_enumerator x && nat_lt x c.args.at in
    let i = c.loop-left.left - 1 in
    let step : c.loop-left.left ≡ suc i = omega (arith, c.loop-left-test.true) in
    sym (last_some test c.args.list.now i c.loop-left.left step (omega (arith, c.loop-left.invariant.inside, c.loop-left-test.true)) c.loop-left.invariant.none (sym c.is_before.ensures ∙ c.if-is_before.true))
