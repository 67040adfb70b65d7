use Rattle.std.proofs.Common.{ℕ, List, length, get_or, drop, ap, ◌∙◌, arith}
use Rattle.link_units.proofs.Noding.{rest_from}
use Rattle.link_units.proofs.nodes.entities_from.Goals as goal

pub bounds-starts-u : goal.bounds-starts-u
bounds-starts-u c = (let long = ap (length {A = ℕ}) c.as_slice-starts.ensures.value in let lt = c.requires.start in omega arith)

pub returns : goal.returns
returns c =
    let numbers = c.args.numbers.now.numbers.items in
    rest_from c.as_slice-list.result.now numbers (get_or c.as_slice-starts.result.now c.args.u 0) c.as_slice-list.ensures.value ∙ ap (λ (l : List ℕ). drop (get_or l c.args.u 0) numbers) c.as_slice-starts.ensures.value
