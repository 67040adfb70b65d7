use Rattle.std.proofs.Common.{ℕ, Bool, ◌&&◌, ap, sym, ◌∙◌}
use Rattle.c_senses.specs.Tree.{any_where}
use Rattle.c_senses.specs.Tags as spec
use Rattle.std.specs.Prelude.{◌==◌}
use Rattle.tree_reads.specs.Sources.{source_in}
use Rattle.c_tags.proofs.tag_numbers.seen.is_listed_again.Goals as goal

pub returns-then-has_list : goal.returns-then-has_list
returns-then-has_list c = λ uses declared listed.
    let s = source_in c.args.syntax.now uses in
    c.flag_at.ensures
    ∙ (listed c.args.declared
    ∙ (ap (λ (d : ℕ). any_where (λ j. spec.has_list s j && (spec.tag_declared s j == d)) (spec.specifiers_before s c.args.node)) (sym declared)
    ∙ ap (λ (b : Bool). b && spec.is_listed_before s c.args.node) (sym c.if-has_list.true ∙ c.has_list.ensures uses)))

pub returns-else-has_list : goal.returns-else-has_list
returns-else-has_list c = λ uses declared listed. c.if-has_list.false ∙ ap (λ (b : Bool). b && spec.is_listed_before (source_in c.args.syntax.now uses) c.args.node) (sym c.if-has_list.false ∙ c.has_list.ensures uses)
