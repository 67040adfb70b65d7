use Rattle.std.proofs.Common.{arith, ℕ, ◌+◌, ◌<◌, List, sym, subst, ◌∙◌}
use Rattle.ref_state.proofs.run_words.Reading.{Going, going_space, going_end, found_other, found_large, found_number}
use Rattle.ref_state.proofs.run_words.words.words_in.Goals as goal

pub loop-at-preserved-then-is_space : goal.loop-at-preserved-then-is_space
loop-at-preserved-then-is_space c =
    going_space c.args.text.now c.loop-at.at c.loop-at.words.items c.loop-at.invariant c.loop-at-test.true (sym c.is_space.ensures ∙ c.if-is_space.true)

pub returns-then-count-eq0 : goal.returns-then-count-eq0
returns-then-count-eq0 c =
    found_other c.args.text.now c.loop-at.at c.loop-at.words.items c.loop-at.invariant c.loop-at-test.true c.digits_in-count.result c.digits_in-count.ensures.within c.digits_in-count.ensures.before c.digits_in-count.ensures.after
    (sym c.is_space.ensures ∙ c.if-is_space.false) c.if-count-eq0.true

pub returns-in-None : goal.returns-in-None
returns-in-None c =
    let some : 0 < c.digits_in-count.result = omega (arith, c.if-count-eq0.false) in
    found_large c.args.text.now c.loop-at.at c.loop-at.words.items c.loop-at.invariant c.loop-at-test.true c.digits_in-count.result
    c.digits_in-count.ensures.within c.digits_in-count.ensures.before c.digits_in-count.ensures.after some c.in-None.ensures

pub loop-at-preserved : goal.loop-at-preserved
loop-at-preserved c =
    let some : 0 < c.digits_in-count.result = omega (arith, c.if-count-eq0.false) in
    let going = found_number c.args.text.now c.loop-at.at c.loop-at.words.items c.loop-at.invariant c.loop-at-test.true c.digits_in-count.result
    c.digits_in-count.ensures.within c.digits_in-count.ensures.before c.digits_in-count.ensures.after some c.in-Some.number c.in-Some.ensures in
    subst (λ (ws : List ℕ). Going c.args.text.now (c.loop-at.at + c.digits_in-count.result) ws) (sym c.in-Ok.ensures.items) going

pub returns : goal.returns
returns c = going_end c.args.text.now c.loop-at.at c.loop-at.words.items c.loop-at.invariant c.loop-at-test.false
