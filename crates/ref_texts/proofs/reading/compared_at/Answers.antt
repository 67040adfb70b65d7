use Rattle.std.proofs.Common.{◌≡◌, ◌∙◌, ◌<◌, ◌^◌, ℤ, Some, None, Result, Ok, Err, sym, ap, to_z-of_z, FitsSigned, rules, arith}
use Rattle.std.specs.Int.{w128}
use Rattle.ref_cells.specs.declared.cells.Reason.{Reason}
use Rattle.ref_cells.specs.declared.cells.Reason.TheVariants.{OutOfRange}
use Rattle.ref_texts.specs.Reading.{decided_at, compared_at}
use Rattle.ref_texts.proofs.TextSteps.{compare_begins, compare_fails, compare_ends, compare_goes}
use Rattle.ref_texts.proofs.reading.compared_at.Goals as goal

pub loop-k-init : goal.loop-k-init
loop-k-init c = compare_begins (decided_at c.args.types.now c.args.memory.now c.args.left.now c.args.right.now) (Err OutOfRange) (2 ^ 64)

pub returns-in-Err : goal.returns-in-Err
returns-in-Err c =
    let table = c.args.types.now in
    let memory = c.args.memory.now in
    let lt : c.loop-k.k < (2 ^ 64) = omega arith in
    compare_fails (decided_at table memory c.args.left.now c.args.right.now) (Err OutOfRange) c.loop-k.k (2 ^ 64) (compared_at table memory c.args.left.now c.args.right.now) c.in-Err.fault lt c.loop-k.invariant c.in-Err.ensures

pub returns-in-Ok-Some : goal.returns-in-Ok-Some
returns-in-Ok-Some c =
    let table = c.args.types.now in
    let memory = c.args.memory.now in
    let lt : c.loop-k.k < (2 ^ 64) = omega arith in
    let some : decided_at table memory c.args.left.now c.args.right.now c.loop-k.k ≡ Ok (Some c.in-Ok-Some.n) = cc (c.in-Ok-Some.ensures) in
    let fits : FitsSigned w128 c.in-Ok-Some.n = search rules in
    compare_ends (decided_at table memory c.args.left.now c.args.right.now) (Err OutOfRange) c.loop-k.k (2 ^ 64) (compared_at table memory c.args.left.now c.args.right.now) c.in-Ok-Some.n lt c.loop-k.invariant some
    ∙ ap (λ (z : ℤ). let r : Result ℤ Reason = Ok z in r) (sym (to_z-of_z fits))

pub loop-k-preserved : goal.loop-k-preserved
loop-k-preserved c =
    let table = c.args.types.now in
    let memory = c.args.memory.now in
    let lt : c.loop-k.k < (2 ^ 64) = omega arith in
    let none : decided_at table memory c.args.left.now c.args.right.now c.loop-k.k ≡ Ok None = cc (c.in-Ok-None.ensures) in
    compare_goes (decided_at table memory c.args.left.now c.args.right.now) (Err OutOfRange) c.loop-k.k (2 ^ 64) (compared_at table memory c.args.left.now c.args.right.now) lt c.loop-k.invariant none
