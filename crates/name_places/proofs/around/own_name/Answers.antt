use Rattle.std.proofs.Common.{ℕ, List, Option, Some, option_map, ap, ◌∙◌}
use Rattle.c_senses.specs.Tree.{spelling_at}
use Rattle.tree_reads.specs.Sources.{source_read}
use Rattle.name_places.proofs.around.own_name.Goals as goal

pub returns-in-Some : goal.returns-in-Some
returns-in-Some c = λ u.
    let s = source_read c.args.syntax.now in
    ap (λ (x : List ℕ). Some x) c.spelling_of.ensures ∙ ap (λ (o : Option ℕ). option_map (spelling_at s) o) (c.in-Some.ensures.name u)

pub returns-in-None : goal.returns-in-None
returns-in-None c = λ u.
    let s = source_read c.args.syntax.now in
    ap (λ (o : Option ℕ). option_map (spelling_at s) o) (c.in-None.ensures.name u)
