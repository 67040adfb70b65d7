use Rattle.std.proofs.Common.{◌≡◌, ◌∙◌, ◌++◌, [], ◌∷◌, ℤ, Some, None, Ok, ap, to_z-of_z, FitsSigned, rules, ◌<◌, ◌^◌, Err, arith}
use Rattle.std.specs.Int.{w128}
use Rattle.ref_cells.specs.declared.cells.Reason.TheVariants.{OutOfRange}
use Rattle.ref_texts.specs.Reading.{next_at, text_at}
use Rattle.ref_texts.proofs.TextSteps.{text_begins, text_fails, text_ends, text_goes}
use Rattle.ref_texts.proofs.reading.text_at.Goals as goal

pub loop-k-init : goal.loop-k-init
loop-k-init c = text_begins (next_at c.args.types.now c.args.memory.now c.args.place.now) (Err OutOfRange) (2 ^ 64) c.new-text.result.items (cc)

pub returns-in-Err : goal.returns-in-Err
returns-in-Err c =
    let table = c.args.types.now in
    let memory = c.args.memory.now in
    let lt : c.loop-k.k < (2 ^ 64) = omega arith in
    text_fails (next_at table memory c.args.place.now) (Err OutOfRange) c.loop-k.k (2 ^ 64) c.loop-k.text.items (text_at table memory c.args.place.now) c.in-Err.fault lt c.loop-k.invariant c.in-Err.ensures

pub returns-in-Ok-None : goal.returns-in-Ok-None
returns-in-Ok-None c =
    let table = c.args.types.now in
    let memory = c.args.memory.now in
    let lt : c.loop-k.k < (2 ^ 64) = omega arith in
    let none : next_at table memory c.args.place.now c.loop-k.k ≡ Ok None = cc (c.in-Ok-None.ensures) in
    text_ends (next_at table memory c.args.place.now) (Err OutOfRange) c.loop-k.k (2 ^ 64) c.loop-k.text.items (text_at table memory c.args.place.now) lt c.loop-k.invariant none

pub loop-k-preserved : goal.loop-k-preserved
loop-k-preserved c =
    let table = c.args.types.now in
    let memory = c.args.memory.now in
    let lt : c.loop-k.k < (2 ^ 64) = omega arith in
    let x = c.in-Ok-Some.c in
    let some : next_at table memory c.args.place.now c.loop-k.k ≡ Ok (Some x) = cc (c.in-Ok-Some.ensures) in
    let fits : FitsSigned w128 x = search rules in
    let longer = c.in_ok-push_char-in-Ok-Some.ensures ∙ ap (λ (y : ℤ). c.loop-k.text.items ++ y ∷ []) (to_z-of_z fits) in
    text_goes (next_at table memory c.args.place.now) (Err OutOfRange) c.loop-k.k (2 ^ 64) c.loop-k.text.items _ (text_at table memory c.args.place.now) c.in-Ok-Some.c lt c.loop-k.invariant some longer
