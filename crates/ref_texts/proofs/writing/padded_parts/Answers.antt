use Rattle.std.proofs.Common.{◌<◌, ◌≡◌, ℕ, ◌+◌, ◌-◌, ◌∙◌, ◌∷◌, ℤ, Ok, drop, refl, subst, ap, sym, to_z-of_z, FitsSigned, rules, arith}
use Rattle.std.specs.Int.{w128}
use Rattle.ref_cells.specs.Answers.{Fails}
use Rattle.ref_mem.specs.Writes.{character_part}
use Rattle.ref_texts.specs.Reading.{place_at}
use Rattle.ref_texts.specs.Writing.{text_parts, filled_up}
use Rattle.ref_texts.proofs.PartSteps.{write_begins, write_fails, write_goes, write_ends, filled_more, filled_none}
use Rattle.ref_texts.proofs.writing.padded_parts.Goals as goal

pub loop-i-init : goal.loop-i-init
loop-i-init c =
    let table = c.args.types.now in
    let memory = c.args.memory.now in
    let place = c.args.place.now in
    let text = c.args.text.now in
    let n = c.args.n in
    let e : n - 0 ≡ n = omega arith in
    write_begins table memory place 0 0 (filled_up n text) (filled_up (n - 0) (drop 0 text)) c.new-parts.result.items (cc) refl (ap (λ (m : ℕ). filled_up m text) e)

pub returns-in-Err : goal.returns-in-Err
returns-in-Err c =
    let table = c.args.types.now in
    let memory = c.args.memory.now in
    let place = c.args.place.now in
    let text = c.args.text.now in
    let i = c.loop-i.i in
    let n = c.args.n in
    let lt : i < n = omega arith in
    let fits : FitsSigned w128 c.char_in.result = search rules in
    let failed = subst (λ (y : ℤ). Fails c.in-Err.fault (character_part table memory (place_at place i) y)) (to_z-of_z fits) c.in-Err.ensures in
    write_fails table memory place i (filled_up (n - i) (drop i text)) (filled_up (n - (i + 1)) (drop (i + 1) text)) c.char_in.result c.loop-i.parts.items (text_parts table memory place 0 (filled_up n text)) c.in-Err.fault c.loop-i.invariant (filled_more n i text lt ∙ ap (λ (x : ℤ). x ∷ filled_up (n - (i + 1)) (drop (i + 1) text)) (sym c.char_in.ensures)) failed

pub loop-i-preserved : goal.loop-i-preserved
loop-i-preserved c =
    let table = c.args.types.now in
    let memory = c.args.memory.now in
    let place = c.args.place.now in
    let text = c.args.text.now in
    let i = c.loop-i.i in
    let n = c.args.n in
    let lt : i < n = omega arith in
    let fits : FitsSigned w128 c.char_in.result = search rules in
    let made = subst (λ (y : ℤ). character_part table memory (place_at place i) y ≡ Ok c.in-Ok.part) (to_z-of_z fits) c.in-Ok.ensures in
    write_goes table memory place i (i + 1) (filled_up (n - i) (drop i text)) (filled_up (n - (i + 1)) (drop (i + 1) text)) c.char_in.result c.in-Ok.part c.loop-i.parts.items _ (text_parts table memory place 0 (filled_up n text)) c.loop-i.invariant (filled_more n i text lt ∙ ap (λ (x : ℤ). x ∷ filled_up (n - (i + 1)) (drop (i + 1) text)) (sym c.char_in.ensures)) made c.in_ok-push_part-in-Ok.ensures (omega arith)

pub returns : goal.returns
returns c =
    let table = c.args.types.now in
    let memory = c.args.memory.now in
    let place = c.args.place.now in
    let text = c.args.text.now in
    let i = c.loop-i.i in
    write_ends table memory place i (filled_up (c.args.n - i) (drop i text)) c.loop-i.parts.items (text_parts table memory place 0 (filled_up c.args.n text)) c.loop-i.invariant (filled_none c.args.n i (drop i text) (omega arith))
