use Rattle.std.proofs.Common.{◌≡◌, reverse, ap, sym, ◌∙◌}
use Rattle.std.proofs.lemmas.List.{reverse-reverse}
use Rattle.ref_machine.proofs.machine.listed.Goals as goal

pub returns : goal.returns
returns c =
    let xs = c.frames.inside.list.items in
    let view : reverse xs ≡ c.args.frames.now = c.frames.view_is in
    c.as_slice.ensures.value ∙ (sym (reverse-reverse xs) ∙ ap reverse view)
