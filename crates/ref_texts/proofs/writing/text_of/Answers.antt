use Rattle.std.proofs.Common.{◌≡◌, ◌∙◌, ◌<◌, ◌++◌, [], ◌∷◌, ℤ, Some, refl, ap, to_z-of_z, FitsSigned, rules, arith}
use Rattle.std.specs.Int.{w128}
use Rattle.ref_texts.specs.Writing.{byte_of, text_of}
use Rattle.ref_texts.proofs.PartSteps.{take_begins, take_ends, take_goes, take_all}
use Rattle.ref_texts.proofs.writing.text_of.Goals as goal

pub loop-i-init : goal.loop-i-init
loop-i-init c = take_begins 7 c.args.word c.new-text.result.items (cc)

pub returns-in-None : goal.returns-in-None
returns-in-None c =
    let lt : c.loop-i.i < 7 = omega arith in
    take_ends 7 c.loop-i.i c.loop-i.rest c.loop-i.text.items (text_of c.args.word) lt c.loop-i.invariant (cc)

pub loop-i-preserved : goal.loop-i-preserved
loop-i-preserved c =
    let lt : c.loop-i.i < 7 = omega arith in
    let x = c.in-Some.c in
    let fits : FitsSigned w128 x = search rules in
    let some : byte_of c.loop-i.rest ≡ Some x = cc (c.in-Some.ensures) in
    let longer = c.in_ok-push_char-in-Some.ensures ∙ ap (λ (y : ℤ). c.loop-i.text.items ++ y ∷ []) (to_z-of_z fits) in
    take_goes 7 c.loop-i.i c.loop-i.rest _ x c.loop-i.text.items _ (text_of c.args.word) lt c.loop-i.invariant some longer refl

pub returns : goal.returns
returns c = take_all 7 c.loop-i.i c.loop-i.rest c.loop-i.text.items (text_of c.args.word) (omega arith) c.loop-i.invariant
