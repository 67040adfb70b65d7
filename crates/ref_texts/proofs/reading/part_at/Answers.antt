use Rattle.std.proofs.Common.{◌≡◌, ◌∙◌, ◌++◌, ◌∷◌, ℤ, Some, None, ap, to_z-of_z, FitsSigned, rules, ◌<◌, [], Ok, arith}
use Rattle.std.specs.Int.{w128}
use Rattle.ref_texts.specs.Reading.{next_at, part_at}
use Rattle.ref_texts.proofs.TextSteps.{text_begins, text_fails, text_ends, text_goes, text_all}
use Rattle.ref_texts.proofs.reading.part_at.Goals as goal

pub loop-k-init : goal.loop-k-init
loop-k-init c = text_begins (next_at c.args.types.now c.args.memory.now c.args.place.now) (Ok []) c.args.n c.new-text.result.items (cc)

pub returns-in-Err : goal.returns-in-Err
returns-in-Err c =
    let table = c.args.types.now in
    let memory = c.args.memory.now in
    let lt : c.loop-k.k < c.args.n = omega arith in
    text_fails (next_at table memory c.args.place.now) (Ok []) c.loop-k.k c.args.n c.loop-k.text.items (part_at table memory c.args.place.now c.args.n) c.in-Err.fault lt c.loop-k.invariant c.in-Err.ensures

pub returns-in-Ok-None : goal.returns-in-Ok-None
returns-in-Ok-None c =
    let table = c.args.types.now in
    let memory = c.args.memory.now in
    let lt : c.loop-k.k < c.args.n = omega arith in
    let none : next_at table memory c.args.place.now c.loop-k.k ≡ Ok None = cc (c.in-Ok-None.ensures) in
    text_ends (next_at table memory c.args.place.now) (Ok []) c.loop-k.k c.args.n c.loop-k.text.items (part_at table memory c.args.place.now c.args.n) lt c.loop-k.invariant none

pub loop-k-preserved : goal.loop-k-preserved
loop-k-preserved c =
    let table = c.args.types.now in
    let memory = c.args.memory.now in
    let lt : c.loop-k.k < c.args.n = omega arith in
    let x = c.in-Ok-Some.c in
    let some : next_at table memory c.args.place.now c.loop-k.k ≡ Ok (Some x) = cc (c.in-Ok-Some.ensures) in
    let fits : FitsSigned w128 x = search rules in
    let longer = c.in_ok-push_char-in-Ok-Some.ensures ∙ ap (λ (y : ℤ). c.loop-k.text.items ++ y ∷ []) (to_z-of_z fits) in
    text_goes (next_at table memory c.args.place.now) (Ok []) c.loop-k.k c.args.n c.loop-k.text.items _ (part_at table memory c.args.place.now c.args.n) c.in-Ok-Some.c lt c.loop-k.invariant some longer

pub returns : goal.returns
returns c =
    let table = c.args.types.now in
    let memory = c.args.memory.now in
    text_all (next_at table memory c.args.place.now) c.loop-k.k c.args.n c.loop-k.text.items (part_at table memory c.args.place.now c.args.n) (omega arith) c.loop-k.invariant
