use Rattle.std.proofs.Common.{ℕ, Bool, not, Option, sym, ap, ◌∙◌}
use Rattle.std.specs.Prelude.{unwrap_or}
use Rattle.c_senses.specs.Tree.{is_leaf, all_where}
use Rattle.tree_reads.specs.Sources.{source_read}
use Rattle.expression_rows.proofs.c_rows.Inner.{firsts, lasts, none_in}
use Rattle.expression_rows.proofs.c_rows.lists.list_parts.Goals as goal

pub returns-in-Some : goal.returns-in-Some
returns-in-Some c =
    let t : ℕ → Bool = λ i. not (is_leaf (source_read c.args.syntax.now) i) in
    let l = c.args.children.now in
    c.told_apart.ensures (all_where t l) (sym c.count_where-count.ensures) (sym (firsts t l) ∙ sym c.in-Some.ensures)
    (ap (λ (o : Option ℕ). unwrap_or o c.in-Some.a) (sym (lasts t l)) ∙ sym c.last_inner.ensures)

pub returns-in-None : goal.returns-in-None
returns-in-None c =
    let t : ℕ → Bool = λ i. not (is_leaf (source_read c.args.syntax.now) i) in
    let l = c.args.children.now in
    sym (none_in (all_where t l) (sym (firsts t l) ∙ sym c.in-None.ensures))
