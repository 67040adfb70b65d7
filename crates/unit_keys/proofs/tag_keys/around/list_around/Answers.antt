use Rattle.std.proofs.Common.{◌∙◌, sym, ap}
use Rattle.std.specs.Prelude.{option_and_then}
use Rattle.c_senses.specs.Tree.{Source, parent_of}
use Rattle.tree_reads.specs.Sources.{source_in}
use Rattle.unit_keys.proofs.tag_keys.around.list_around.Goals as goal

pub returns-in-Some-clause-around : goal.returns-in-Some-clause-around
returns-in-Some-clause-around c = λ uses sense.
    let s : Source = source_in c.args.syntax.now uses in
    c.parent_of.ensures.parent ∙ ap (option_and_then (parent_of s)) (sym c.in-Some.is ∙ c.member_around.ensures.around uses sense)

pub returns-in-None-clause-around : goal.returns-in-None-clause-around
returns-in-None-clause-around c = λ uses sense.
    let s : Source = source_in c.args.syntax.now uses in
    ap (option_and_then (parent_of s)) (sym c.in-None.is ∙ c.member_around.ensures.around uses sense)
