use Rattle.std.proofs.Common.{◌∙◌, ap, ℕ}
use Rattle.std.specs.Prelude.{option_and_then, nat_lt, ◌&&◌}
use Rattle.c_grammar.specs.Productions.{p_enumerator}
use Rattle.c_senses.specs.Tree.{last_where, is_a, children_at}
use Rattle.tree_reads.specs.Sources.{source_read}
use Rattle.c_tags.proofs.enumerations.before_enumerator.Goals as goal

pub returns-in-Some : goal.returns-in-Some
returns-in-Some c = λ w sense.
    let s = source_read c.args.syntax.now in
    let before = λ (list : ℕ). last_where (λ c'. is_a s p_enumerator c' && nat_lt c' c.args.at) (children_at s list) in
    c.last_among.ensures ∙ ap (option_and_then before) c.in-Some.ensures.parent
