use Rattle.std.proofs.Common.{arith, ◌≡◌, ◌+◌, ◌-◌, ◌/◌, ℕ, ℤ, Ok, Err, refl, sym, subst, FitsSigned, rules, not, ◌&&◌, if◌then◌else◌, to_z-of_z}
use Rattle.c_consts.specs.Spine.{Leads, HeldAt, StartsBelow, IsClimbed, IsRest}
use Rattle.c_consts.proofs.Spine.{leads_below, leads_rest, leads_front}
use Rattle.c_consts.proofs.Climb.{climbed_none, climbed_rest, climbed_fails, climbed_twice, answered_fails, answered}
use Rattle.c_consts.proofs.Rows.{last_held}
use Rattle.c_consts.proofs.Under.{rows_leads, rows_two, rows_three}
use Rattle.c_consts.proofs.Rest.{rest_two_fails}
use Rattle.c_consts.proofs.Choice.{choice_fails, choice_other_fails, choice_chosen, choice_held}
use Rattle.c_consts.proofs.Finish.{two_less, three_less, integer_here, two_are}
use Rattle.c_consts.specs.Answer.{Operated, is_zero}
use Rattle.core_tree.specs.declared.node.NodeKind.TheVariants.{Arith}
use Rattle.std.proofs.lemmas.Result.{err_from_is_err_and}
use Rattle.std.specs.Int.{w128}
use Rattle.c_consts.proofs.evaluate.+evaluate.Goals as goal

pub climb-returns-then-depth-eq0-clause-value : goal.climb-returns-then-depth-eq0-clause-value
climb-returns-then-depth-eq0-clause-value t c =
    subst (λ (z : ℤ). IsClimbed c.args.types.now c.args.nodes.now c.args.node c.args.depth c.args.live c.args.start (Ok z)) (sym (to_z-of_z c.ranges.start))
    (climbed_none c.args.types.now c.args.nodes.now c.args.node c.args.depth c.args.live c.args.start c.if-depth-eq0.true)

pub climb-returns-then-depth-eq1-clause-value : goal.climb-returns-then-depth-eq1-clause-value
climb-returns-then-depth-eq1-clause-value t c =
    climbed_rest c.args.types.now c.args.nodes.now c.args.node c.args.depth c.args.live c.args.start c.finish.result c.if-depth-eq1.true
    (subst (λ (z : ℤ). IsRest c.args.types.now c.args.nodes.now c.args.node c.args.live z c.finish.result) (to_z-of_z c.ranges.start) c.finish.ensures.value)

pub climb-descend-middle-requires-clause-leads : goal.climb-descend-middle-requires-clause-leads
climb-descend-middle-requires-clause-leads t c =
    let split : c.args.depth / 2 + (c.args.depth - c.args.depth / 2) ≡ c.args.depth = omega arith in
    leads_front c.args.types.now c.args.nodes.now (c.args.depth / 2) (c.args.depth - c.args.depth / 2) c.args.node c.requires.start.below
    (subst (λ (q : ℕ). Leads c.args.types.now c.args.nodes.now c.args.node q c.requires.start.below) (sym split) c.requires.start.leads)

pub climb-climb-requires : goal.climb-climb-requires
climb-climb-requires t c =
    let below = leads_below c.args.types.now c.args.nodes.now c.requires.rows.order (c.args.depth / 2) c.args.node c.descend-middle.result c.descend-middle.ensures in
    let split : c.args.depth / 2 + (c.args.depth - c.args.depth / 2) ≡ c.args.depth = omega arith in
    let rest = leads_rest c.args.types.now c.args.nodes.now (c.args.depth / 2) (c.args.depth - c.args.depth / 2) c.args.node c.descend-middle.result c.requires.start.below c.descend-middle.ensures
    (subst (λ (q : ℕ). Leads c.args.types.now c.args.nodes.now c.args.node q c.requires.start.below) (sym split) c.requires.start.leads) in (
      omega arith,
      (
        rows_leads c.args.types.now c.args.nodes.now (c.args.depth / 2) c.args.node c.descend-middle.result c.descend-middle.ensures c.requires.rows,
        (
          omega arith,
          subst (λ (z : ℤ). StartsBelow c.args.types.now c.args.nodes.now c.descend-middle.result (c.args.depth - c.args.depth / 2) z) (sym (to_z-of_z c.ranges.start))
              (record { below = c.requires.start.below; leads = rest; held = c.requires.start.held }),
        ),
      ),
    )

pub climb-returns-in_err-value-clause-value : goal.climb-returns-in_err-value-clause-value
climb-returns-in_err-value-clause-value t c =
    let p = err_from_is_err_and c.from_residual.result c.from_residual.ensures.1 in
    let split : c.args.depth / 2 + (c.args.depth - c.args.depth / 2) ≡ c.args.depth = omega arith in
    let lower = subst (λ (z : ℤ). IsClimbed c.args.types.now c.args.nodes.now c.descend-middle.result (c.args.depth - c.args.depth / 2) c.args.live z (Err c.in_err-value.field-0.0)) (to_z-of_z c.ranges.start) c.in_err-value.ensures.value in
    rw (p.1, p.2) (climbed_fails c.args.types.now c.args.nodes.now c.requires.rows.order c.args.node (c.args.depth / 2) (c.args.depth - c.args.depth / 2) c.args.depth c.descend-middle.result c.args.live c.args.start c.requires.node c.descend-middle.ensures split c.in_err-value.field-0.0 lower)

pub climb-returns-clause-value : goal.climb-returns-clause-value
climb-returns-clause-value t c =
    let split : c.args.depth / 2 + (c.args.depth - c.args.depth / 2) ≡ c.args.depth = omega arith in
    let fits : FitsSigned w128 c.in_ok-value.value = search rules in
    let lower = subst (λ (z : ℤ). IsClimbed c.args.types.now c.args.nodes.now c.descend-middle.result (c.args.depth - c.args.depth / 2) c.args.live z (Ok c.in_ok-value.value)) (to_z-of_z c.ranges.start) c.in_ok-value.ensures.value in
    let upper = subst (λ (z : ℤ). IsClimbed c.args.types.now c.args.nodes.now c.args.node (c.args.depth / 2) c.args.live z c.climb-2.result) (to_z-of_z fits) c.climb-2.ensures.value in
    climbed_twice c.args.types.now c.args.nodes.now c.requires.rows.order c.args.node (c.args.depth / 2) (c.args.depth - c.args.depth / 2) c.args.depth c.descend-middle.result c.args.live c.args.start c.requires.node c.descend-middle.ensures split c.in_ok-value.value c.climb-2.result lower upper

pub evaluate-returns-in_err-start-clause-value : goal.evaluate-returns-in_err-start-clause-value
evaluate-returns-in_err-start-clause-value t c =
    let p = err_from_is_err_and c.from_residual.result c.from_residual.ensures.1 in
    rw (p.1, p.2) (answered_fails c.args.types.now c.args.nodes.now c.requires.rows.order c.args.node c.spine-depth.result.0 c.spine-depth.result.1 c.args.live c.requires.node c.spine-depth.ensures.leads c.spine-depth.ensures.last c.in_err-start.field-0.0 (sym c.in_err-start.ensures))

pub evaluate-climb-requires : goal.evaluate-climb-requires
evaluate-climb-requires t c =
    let fits : FitsSigned w128 c.in_ok-start.start = search rules in
    let held = last_held c.args.types.now c.args.nodes.now c.spine-depth.result.1 (rows_leads c.args.types.now c.args.nodes.now c.spine-depth.result.0 c.args.node c.spine-depth.result.1 c.spine-depth.ensures.leads c.requires.rows) c.in_ok-start.start (sym c.in_ok-start.ensures) in (
      omega (arith, c.spine-depth.ensures.range, c.ranges.node),
      (
        c.requires.rows,
        (
          c.requires.node,
          subst (λ (z : ℤ). StartsBelow c.args.types.now c.args.nodes.now c.args.node c.spine-depth.result.0 z) (sym (to_z-of_z fits))
              (record { below = c.spine-depth.result.1; leads = c.spine-depth.ensures.leads; held = held }),
        ),
      ),
    )

pub evaluate-returns-clause-value : goal.evaluate-returns-clause-value
evaluate-returns-clause-value t c =
    let fits : FitsSigned w128 c.in_ok-start.start = search rules in
    let climbed = subst (λ (z : ℤ). IsClimbed c.args.types.now c.args.nodes.now c.args.node c.spine-depth.result.0 c.args.live z c.climb.result) (to_z-of_z fits) c.climb.ensures.value in
    answered c.args.types.now c.args.nodes.now c.requires.rows.order c.args.node c.spine-depth.result.0 c.spine-depth.result.1 c.args.live c.requires.node c.spine-depth.ensures.leads c.spine-depth.ensures.last c.in_ok-start.start c.climb.result (sym c.in_ok-start.ensures) climbed

pub finish_choice-evaluate-requires : goal.finish_choice-evaluate-requires
finish_choice-evaluate-requires t c =
    let less = three_less c.args.types.now c.args.nodes.now c.args.node c.branches-first.result.0 c.branches-first.result.1 c.requires.rows c.branches-first.ensures in
    (omega (arith, less.0), ((rows_three c.args.types.now c.args.nodes.now c.args.node c.branches-first.result.0 c.branches-first.result.1 c.branches-first.ensures c.requires.rows).0, omega (arith, less.0)))

pub finish_choice-evaluate-requires-2 : goal.finish_choice-evaluate-requires-2
finish_choice-evaluate-requires-2 t c =
    let less = three_less c.args.types.now c.args.nodes.now c.args.node c.branches-first.result.0 c.branches-first.result.1 c.requires.rows c.branches-first.ensures in
    (omega (arith, less.1), ((rows_three c.args.types.now c.args.nodes.now c.args.node c.branches-first.result.0 c.branches-first.result.1 c.branches-first.ensures c.requires.rows).1, omega (arith, less.1)))

pub finish_choice-returns-in_err-one-clause-value : goal.finish_choice-returns-in_err-one-clause-value
finish_choice-returns-in_err-one-clause-value t c =
    let p = err_from_is_err_and c.from_residual.result c.from_residual.ensures.1 in
    let e = to_z-of_z c.ranges.start in
    let one_is = subst (λ (q : ℤ). c.taken-first_live.result.0 ≡ (c.args.live && not (is_zero q))) e c.taken-first_live.ensures.first in
    let other_is = subst (λ (q : ℤ). c.taken-first_live.result.1 ≡ (c.args.live && is_zero q)) e c.taken-first_live.ensures.second in
    rw (p.1, p.2) (choice_fails c.args.types.now c.args.nodes.now c.args.node c.branches-first.result.0 c.branches-first.result.1 c.args.start c.args.live c.taken-first_live.result.0 c.taken-first_live.result.1 c.requires.rows c.requires.kind c.requires.start c.branches-first.ensures one_is other_is c.in_err-one.field-0.0 c.in_err-one.ensures.value)

pub finish_choice-returns-in_err-other-clause-value : goal.finish_choice-returns-in_err-other-clause-value
finish_choice-returns-in_err-other-clause-value t c =
    let p = err_from_is_err_and c.from_residual-in_err-other.result c.from_residual-in_err-other.ensures.1 in
    let e = to_z-of_z c.ranges.start in
    let one_is = subst (λ (q : ℤ). c.taken-first_live.result.0 ≡ (c.args.live && not (is_zero q))) e c.taken-first_live.ensures.first in
    let other_is = subst (λ (q : ℤ). c.taken-first_live.result.1 ≡ (c.args.live && is_zero q)) e c.taken-first_live.ensures.second in
    rw (p.1, p.2) (choice_other_fails c.args.types.now c.args.nodes.now c.args.node c.branches-first.result.0 c.branches-first.result.1 c.args.start c.args.live c.taken-first_live.result.0 c.taken-first_live.result.1 c.requires.rows c.requires.kind c.requires.start c.branches-first.ensures one_is other_is c.in_err-other.field-0.0 c.in_ok-one.one c.in_ok-one.ensures.value c.in_err-other.ensures.value)

pub finish_choice-returns-clause-value : goal.finish_choice-returns-clause-value
finish_choice-returns-clause-value t c =
    let e = to_z-of_z c.ranges.start in
    let one_is = subst (λ (q : ℤ). c.taken-first_live.result.0 ≡ (c.args.live && not (is_zero q))) e c.taken-first_live.ensures.first in
    let other_is = subst (λ (q : ℤ). c.taken-first_live.result.1 ≡ (c.args.live && is_zero q)) e c.taken-first_live.ensures.second in
    let one_fits : FitsSigned w128 c.in_ok-one.one = search rules in
    let other_fits : FitsSigned w128 c.in_ok-other.other = search rules in
    let fits : FitsSigned w128 c.chosen.result = search rules in
    let is : c.chosen.result ≡ (if is_zero c.args.start then c.in_ok-other.other else c.in_ok-one.one) = simp (e, to_z-of_z one_fits, to_z-of_z other_fits) at c.chosen.ensures in
    subst (λ (q : ℤ). IsRest c.args.types.now c.args.nodes.now c.args.node c.args.live c.args.start (Ok q)) (sym (to_z-of_z fits))
    (choice_chosen c.args.types.now c.args.nodes.now c.args.node c.branches-first.result.0 c.branches-first.result.1 c.args.start c.args.live c.taken-first_live.result.0 c.taken-first_live.result.1 c.requires.rows c.requires.kind c.requires.start c.branches-first.ensures one_is other_is c.in_ok-one.one c.in_ok-other.other c.chosen.result c.in_ok-one.ensures.value c.in_ok-other.ensures.value is)

pub finish_choice-returns-clause-holds : goal.finish_choice-returns-clause-holds
finish_choice-returns-clause-holds t c =
    let e = to_z-of_z c.ranges.start in
    let one_is = subst (λ (q : ℤ). c.taken-first_live.result.0 ≡ (c.args.live && not (is_zero q))) e c.taken-first_live.ensures.first in
    let other_is = subst (λ (q : ℤ). c.taken-first_live.result.1 ≡ (c.args.live && is_zero q)) e c.taken-first_live.ensures.second in
    let one_fits : FitsSigned w128 c.in_ok-one.one = search rules in
    let other_fits : FitsSigned w128 c.in_ok-other.other = search rules in
    let fits : FitsSigned w128 c.chosen.result = search rules in
    let is : c.chosen.result ≡ (if is_zero c.args.start then c.in_ok-other.other else c.in_ok-one.one) = simp (e, to_z-of_z one_fits, to_z-of_z other_fits) at c.chosen.ensures in
    subst (λ (q : ℤ). HeldAt c.args.types.now c.args.nodes.now c.args.node q) (sym (to_z-of_z fits))
    (choice_held c.args.types.now c.args.nodes.now c.args.node c.branches-first.result.0 c.branches-first.result.1 c.args.start c.args.live c.taken-first_live.result.0 c.taken-first_live.result.1 c.requires.rows c.requires.kind c.requires.start c.branches-first.ensures one_is other_is c.in_ok-one.one c.in_ok-other.other c.chosen.result c.in_ok-one.ensures.holds c.in_ok-other.ensures.holds is)

pub finish_operator-evaluate-requires : goal.finish_operator-evaluate-requires
finish_operator-evaluate-requires t c =
    let less = two_less c.args.types.now c.args.nodes.now c.args.node c.in-Some.other c.requires.rows c.in-Some.ensures.two in
    (omega (arith, less), (rows_two c.args.types.now c.args.nodes.now c.args.node c.in-Some.other c.in-Some.ensures.two c.requires.rows, omega (arith, less)))

pub finish_operator-returns-in_err-second-in-Some-clause-value : goal.finish_operator-returns-in_err-second-in-Some-clause-value
finish_operator-returns-in_err-second-in-Some-clause-value t c =
    let p = err_from_is_err_and c.from_residual.result c.from_residual.ensures.1 in
    let kind = c.requires.kind in
    let two = c.in-Some.ensures.two in
    let integer = integer_here c.args.types.now c.args.nodes.now c.args.node kind.node kind.at (Arith c.args.op) (Operated c.args.op) c.args.start kind (λ t. refl) c.requires.start in
    rw (p.1, p.2) (rest_two_fails c.args.types.now c.args.nodes.now c.args.node kind.node kind.at c.args.live c.args.start c.in_err-second-in-Some.field-0.0 c.args.op two.first c.in-Some.other kind.is integer
    (two_are c.args.types.now c.args.nodes.now c.args.node kind.node kind.at c.in-Some.other two) c.in_err-second-in-Some.ensures.value)
