use Rattle.std.proofs.Common.{ℕ, Bool, cond, Option, sym, subst}
use Rattle.c_consts.specs.Core.{Core}
use Rattle.c_senses.specs.Given.{Given, Fits}
use Rattle.c_senses.specs.Sense.{sense_in}
use Rattle.c_senses.specs.Statements as spec
use Rattle.core_nodes.specs.Standing.{Made}
use Rattle.c_results.specs.Standing.{senses_made}
use Rattle.tree_reads.specs.Sources.{source_in}
use Rattle.core_tree.specs.declared.node.NodeKind.TheVariants.{Skip}
use Rattle.c_consts.specs.Core.{NoCores}
use Rattle.c_senses.specs.Tree.{is_name, place_at, word_at}
use Rattle.statement_rows.proofs.Running.{not_this}
use Rattle.statement_rows.proofs.statements.leaf_statement.Goals as goal

pub returns-then-is_name-clause-made : goal.returns-then-is_name-clause-made
returns-then-is_name-clause-made c = λ w uses knows told.
    let s = source_in c.args.syntax.now uses in
    let sense = sense_in (senses_made c.args.unit.now c.args.results.now) in
    let at = c.args.at in
    let first = c.args.first in
    let children = c.args.children.now in
    let P : Given Core → Type 0 = λ g. Made c.labelled_row.new.unit c.labelled_row.result g in
    let skip : Given Core = Fits (spec.statement Skip (place_at s at) NoCores) in
    let label = spec.labelled w s sense at first children in
    let by_word = spec.of_word w s sense at children (word_at s first) in
    not_this P _ skip (cond (is_name s first) label by_word) (sym c.if-has_sign.ensures) (subst (λ (b : Bool). P (cond b label by_word)) c.if-is_name.ensures (c.labelled_row.ensures.made w uses (told.spelled first (sym c.if-is_name.ensures))))

pub returns-in-Some-clause-made : goal.returns-in-Some-clause-made
returns-in-Some-clause-made c = λ w uses knows told.
    let s = source_in c.args.syntax.now uses in
    let sense = sense_in (senses_made c.args.unit.now c.args.results.now) in
    let at = c.args.at in
    let first = c.args.first in
    let children = c.args.children.now in
    let P : Given Core → Type 0 = λ g. Made c.of_word.new.unit c.of_word.result g in
    let skip : Given Core = Fits (spec.statement Skip (place_at s at) NoCores) in
    let label = spec.labelled w s sense at first children in
    let by_word = spec.of_word w s sense at children (word_at s first) in
    not_this P _ skip (cond (is_name s first) label by_word) (sym c.if-has_sign.ensures)
    (not_this P _ label by_word (sym c.if-is_name.ensures) (subst (λ (o : Option ℕ). P (spec.of_word w s sense at children o)) c.in-Some.ensures (c.of_word.ensures.made w uses knows told)))
