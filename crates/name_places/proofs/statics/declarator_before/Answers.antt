use Rattle.std.proofs.Common.{arith, ◌≡◌, ◌∙◌, ◌-◌, suc, sym}
use Rattle.tree_reads.specs.Sources.{source_read}
use Rattle.name_places.specs.Statics.{is_declarator_before}
use Rattle.name_places.proofs.Backwards.{last_some}
use Rattle.name_places.proofs.statics.declarator_before.Goals as goal

pub returns-then-is_before : goal.returns-then-is_before
returns-then-is_before c =
    let test = is_declarator_before (source_read c.args.syntax.now) c.args.initialiser in
    let i = c.loop-left.left - 1 in
    let step : c.loop-left.left ≡ suc i = omega (arith, c.loop-left-test.true) in
    sym (last_some test c.args.list.now i c.loop-left.left step (omega (arith, c.loop-left.invariant.inside, c.loop-left-test.true)) c.loop-left.invariant.none (sym c.is_before.ensures ∙ c.if-is_before.true))
