use Rattle.std.proofs.Common.{arith, ◌∙◌, sym, ap}
use Rattle.std.specs.Prelude.{option_and_then}
use Rattle.c_senses.specs.Keys.{key_of}
use Rattle.c_senses.specs.Tree.{Source}
use Rattle.tree_reads.specs.Sources.{source_in}
use Rattle.unit_keys.proofs.given_keys.given.key_of_tag.Goals as goal

pub returns : goal.returns
returns c = λ uses sense are.
    let s : Source = source_in c.args.syntax.now uses in
    let on = sym (c.is_specifier.ensures uses) ∙ c.if-not-is_specifier.false in
    c.get.ensures
    ∙ (are.each c.in-Some.node (omega arith) c.in-Some.ensures.within on ∙ ap (option_and_then (key_of s sense)) (sym c.in-Some.is ∙ c.declaring_specifier.ensures.declares uses))
