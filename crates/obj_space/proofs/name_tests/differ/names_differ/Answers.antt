use Rattle.std.proofs.Common.{arith, ◌≡◌, ◌∙◌, refl, sym, ap}
use Rattle.c_types.specs.Index.{number_at}
use Rattle.obj_space.proofs.name_tests.Following.{no_some, one_more, all_differ}
use Rattle.obj_space.proofs.name_tests.differ.names_differ.Goals as goal

pub loop-location-preserved : goal.loop-location-preserved
loop-location-preserved c =
    let copy = c.in_ok-name.name.items in
    let same : copy ≡ c.name.result.now = c.in_ok-name.ensures in
    let fresh : number_at c.loop-location.seen copy ≡ _ = ap (number_at c.loop-location.seen) (sym c.as_slice.ensures.value) ∙ (sym c.find.ensures ∙ no_some c.find.result (sym c.is_some.ensures ∙ c.if-is_some.false)) in
    one_more c.loop-location.seen c.insert.new.self c.args.space.now c.loop-location.location copy
    (rw same c.name.ensures) fresh
    c.in_ok-insert.ensures.here c.in_ok-insert.ensures.others c.loop-location.invariant

pub returns : goal.returns
returns c =
    let all = all_differ c.loop-location.seen c.args.space.now c.loop-location.location (omega (arith, c.count-location-end.ensures, c.loop-location-test.false)) c.loop-location.invariant in
    (λ t. all, λ d. refl)
