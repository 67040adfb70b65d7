use Rattle.std.proofs.Common.{◌≡◌, sym, ap, length, subst, arith, [], refl}
use Rattle.c_lexer.specs.States.{IsState, pushed}
use Rattle.c_lexer.proofs.Steps.{pending_starved, no_good_end, pushed_count}
use Rattle.c_lexer.proofs.lexer.list_tokens.Goals as goal

pub returns-in-Err-clause-tokens : goal.returns-in-Err-clause-tokens
returns-in-Err-clause-tokens c = c.first_fault.ensures c.loop-at.list.items c.loop-at.invariant.state

pub returns-in-Err-take-clause-tokens : goal.returns-in-Err-take-clause-tokens
returns-in-Err-take-clause-tokens c = c.in-Err-take.ensures.taken c.loop-at.list.items c.loop-at.invariant.state

pub loop-at-preserved : goal.loop-at-preserved
loop-at-preserved c =
    let v = c.loop-at.invariant in
    let text = c.args.text.now in
    let taken = c.in-Ok-take.taken in
    let items = c.loop-at.list.items in
    let end = c.in-Ok.found.end in
    let e : c.push_taken.new.list.items ≡ pushed text items taken.token c.loop-at.at end = c.in_ok-push_taken.ensures.ok in
    record {
      within = c.in-Ok.ensures.piece.within.1;
      place = c.place_behind-place.ensures;
      state = subst (λ ts. IsState text end ts taken.pending) (sym e) (c.in-Ok-take.ensures.taken items v.state);
      few = c.in-Ok-take.ensures.few;
      count = omega (arith, ap length e, pushed_count text items taken.token c.loop-at.at end, c.in-Ok.ensures.piece.within.0, v.count);
    }

pub returns-in-Some-clause-tokens : goal.returns-in-Some-clause-tokens
returns-in-Some-clause-tokens c =
    let text = c.args.text.now in
    pending_starved text c.loop-at.at c.loop-at.list.items c.in-Some.attribute c.requires (no_good_end text c.loop-at.at c.loop-at-test.false) (subst (λ p. IsState text c.loop-at.at c.loop-at.list.items p) c.in-Some.is c.loop-at.invariant.state)

pub loop-at-init : goal.loop-at-init
loop-at-init c = record {
  within = omega arith;
  place = c.first_place-place.ensures c.args.text.now;
  state = ([], refl, c.new-list.ensures.items);
  few = tt;
  count = omega (arith, ap length c.new-list.ensures.items);
}
