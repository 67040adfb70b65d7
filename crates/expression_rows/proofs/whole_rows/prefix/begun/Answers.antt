use Rattle.std.proofs.Common.{ℕ, List, subst, get_or, drop}
use Rattle.pta_base.specs.declared.place.Place.{Place}
use Rattle.c_lexer.specs.declared.TokenKind.{TokenKind}
use Rattle.c_lexer.specs.declared.TokenKind.TheVariants.{Keyword}
use Rattle.c_senses.specs.Sense.{sense_in}
use Rattle.c_senses.specs.Expressions as expressions
use Rattle.c_results.specs.Standing.{senses_made, Rowed}
use Rattle.tree_reads.specs.Sources.{source_read}
use Rattle.c_senses.specs.Expressions.{worded}
use Rattle.expression_rows.specs.whole_rows.Prefix.{begun}
use Rattle.expression_rows.proofs.whole_rows.prefix.begun.Goals as goal

pub returns-in-Punctuator-clause-row : goal.returns-in-Punctuator-clause-row
returns-in-Punctuator-clause-row c w k =
    let u1 = c.prefixed.new.unit in
    let s = source_read c.args.syntax.now in
    let S = sense_in (senses_made c.args.unit.now c.args.results.now) in
    let xs = c.args.children.now in
    let placed = subst (λ (p : Place). Rowed u1 c.prefixed.result (expressions.prefixed w s S p c.args.at c.in-Punctuator.sign (drop 1 xs))) c.place_of-place.ensures (c.prefixed.ensures.row w s k) in
    subst (λ (kind : TokenKind). Rowed u1 c.prefixed.result (begun w s S c.args.at (get_or xs 0 0) (drop 1 xs) kind)) c.in-Punctuator.ensures placed

pub returns-in-Keyword-clause-row : goal.returns-in-Keyword-clause-row
returns-in-Keyword-clause-row c w k =
    let u1 = c.worded.new.unit in
    let s = source_read c.args.syntax.now in
    let S = sense_in (senses_made c.args.unit.now c.args.results.now) in
    let xs = c.args.children.now in
    let placed = subst (λ (p : Place). Rowed u1 c.worded.result (worded w s S p c.args.at c.behind_first.result.now c.in-Keyword.word)) c.place_of-place.ensures (c.worded.ensures.row w k) in
    let rest = subst (λ (l : List ℕ). Rowed u1 c.worded.result (begun w s S c.args.at (get_or xs 0 0) l (Keyword c.in-Keyword.word))) c.behind_first.ensures placed in
    subst (λ (kind : TokenKind). Rowed u1 c.worded.result (begun w s S c.args.at (get_or xs 0 0) (drop 1 xs) kind)) c.in-Keyword.ensures rest
