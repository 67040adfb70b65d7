use Rattle.std.proofs.Common.{◌≡◌, ◌++◌, ◌∷◌, [], length, take, ap, ◌∙◌, sym, arith, append_assoc}
use Rattle.std.proofs.lemmas.List.{take-append-le, length-append}
use Rattle.c_senses.specs.Literals.{bytes_of}
use Rattle.c_literals.proofs.Inside.{rest_are, first_is}
use Rattle.c_literals.proofs.strings.push_inside.Goals as goal

pub loop-element-preserved : goal.loop-element-preserved
loop-element-preserved c =
    let v = c.loop-element.invariant in
    let old = c.args.text.now.items in
    let text = c.loop-element.text.items in
    let byte = c.in-Some.element.value in
    let inside = c.loop-element.rest.now in
    let behind = c.in-Some.element.behind.now in
    let e = c.in-Some.ensures in
    let pushed : c.push.new.self.items ≡ text ++ byte ∷ [] = c.in_ok-push.ensures.items in
    record {
      whole =
          ap (λ xs. xs ++ bytes_of behind) pushed ∙ (append_assoc text (byte ∷ []) (bytes_of behind) ∙ (ap (λ xs. text ++ xs) (sym (first_is inside behind byte e v.bytes)) ∙ v.whole));
      bytes = rest_are inside behind byte e v.bytes;
      long = omega (arith, ap length pushed, length-append text (byte ∷ []), v.long);
      kept = ap (λ xs. take (length old) xs) pushed ∙ (take-append-le (length old) text (byte ∷ []) v.long ∙ v.kept);
    }
