-- One instance more is looked at.
use Rattle.std.proofs.Common.{arith, ◌≡◌, ℕ, ◌+◌, ◌-◌, ◌<◌, length, drop, ap, sym, ◌∙◌}
use Rattle.ref_places.specs.Places.{first_instance}
use Rattle.obj_space.specs.Found.{kept_for}
use Rattle.ref_start.proofs.FirstInstances.{none_yet, one_before, kept_none}
use Rattle.ref_start.proofs.standing.standing_in.Goals as goal

pub loop-i-init : goal.loop-i-init
loop-i-init c = record { within = omega arith; kept = λ key. kept_none c.new-standing.result key c.new-standing.ensures.empty ∙ none_yet key c.args.memory.now }

pub loop-i-preserved : goal.loop-i-preserved
loop-i-preserved c =
    let some = c.loop-i-test.true in
    let back : c.loop-i.i - 1 + 1 ≡ c.loop-i.i = omega arith in
    let less : c.loop-i.i - 1 < length c.args.memory.now = omega (arith, c.loop-i.invariant.within) in
    record {
      within = omega (arith, c.loop-i.invariant.within);
      kept = λ key.
          c.in_ok-put.ensures key
          ∙ one_before key c.args.memory.now (c.loop-i.i - 1) c.index-memory-i.result (kept_for c.loop-i.standing key) less
          (c.loop-i.invariant.kept key ∙ ap (λ (k : ℕ). first_instance key k (drop k c.args.memory.now)) (sym back));
    }

pub returns : goal.returns
returns c = λ key.
    let none : c.loop-i.i ≡ 0 = omega arith in
    c.loop-i.invariant.kept key ∙ ap (λ (k : ℕ). first_instance key k (drop k c.args.memory.now)) none
