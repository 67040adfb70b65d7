use Rattle.std.proofs.Common.{◌<◌, ◌≡◌, ◌+◌, ℤ, pos, Ok, length, get_or, drop, refl, subst, to_z-of_z, FitsSigned, rules, arith}
use Rattle.std.specs.Int.{w128}
use Rattle.ref_cells.specs.Answers.{Fails}
use Rattle.ref_mem.specs.Writes.{character_part}
use Rattle.ref_texts.specs.Reading.{place_at}
use Rattle.std.proofs.lemmas.List.{drop_more, drop_all}
use Rattle.ref_texts.specs.Writing.{text_parts}
use Rattle.ref_texts.proofs.PartSteps.{write_begins, write_fails, write_goes, write_ends}
use Rattle.ref_texts.proofs.writing.text_parts.Goals as goal

pub loop-i-init : goal.loop-i-init
loop-i-init c =
    let table = c.args.types.now in
    let memory = c.args.memory.now in
    let place = c.args.place.now in
    let text = c.args.text.now in
    write_begins table memory place c.args.k (c.args.k + 0) text (drop 0 text) c.new-parts.result.items (cc) (omega arith) refl

pub returns-in-Err : goal.returns-in-Err
returns-in-Err c =
    let table = c.args.types.now in
    let memory = c.args.memory.now in
    let place = c.args.place.now in
    let text = c.args.text.now in
    let i = c.loop-i.i in
    let lt : i < length text = omega arith in
    let x = get_or text i (pos 0) in
    let fits : FitsSigned w128 x = search rules in
    let failed = subst (λ (y : ℤ). Fails c.in-Err.fault (character_part table memory (place_at place (c.args.k + i)) y)) (to_z-of_z fits) c.in-Err.ensures in
    write_fails table memory place (c.args.k + i) (drop i text) (drop (i + 1) text) (get_or text i (pos 0)) c.loop-i.parts.items (text_parts table memory place c.args.k text) c.in-Err.fault c.loop-i.invariant (drop_more text i (pos 0) lt) failed

pub loop-i-preserved : goal.loop-i-preserved
loop-i-preserved c =
    let table = c.args.types.now in
    let memory = c.args.memory.now in
    let place = c.args.place.now in
    let text = c.args.text.now in
    let i = c.loop-i.i in
    let lt : i < length text = omega arith in
    let x = get_or text i (pos 0) in
    let fits : FitsSigned w128 x = search rules in
    let made = subst (λ (y : ℤ). character_part table memory (place_at place (c.args.k + i)) y ≡ Ok c.in-Ok.part) (to_z-of_z fits) c.in-Ok.ensures in
    write_goes table memory place (c.args.k + i) (c.args.k + (i + 1)) (drop i text) (drop (i + 1) text) (get_or text i (pos 0)) c.in-Ok.part c.loop-i.parts.items _ (text_parts table memory place c.args.k text) c.loop-i.invariant (drop_more text i (pos 0) lt) made c.in_ok-push_part-in-Ok.ensures (omega arith)

pub returns : goal.returns
returns c =
    let table = c.args.types.now in
    let memory = c.args.memory.now in
    let place = c.args.place.now in
    let text = c.args.text.now in
    let i = c.loop-i.i in
    write_ends table memory place (c.args.k + i) (drop i text) c.loop-i.parts.items (text_parts table memory place c.args.k text) c.loop-i.invariant (drop_all i text (omega arith))
