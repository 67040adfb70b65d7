use Rattle.std.proofs.Common.{ap, ◌∙◌, sym}
use Rattle.std.specs.Prelude.{is_some}
use Rattle.c_senses.specs.Tags.{has_untagged}
use Rattle.tree_reads.specs.Sources.{source_read}
use Rattle.c_structures.proofs.places.has_untagged.Goals as goal

pub returns-in-Some : goal.returns-in-Some
returns-in-Some c = λ w sense.
    let s = source_read c.args.syntax.now in
    c.is_some.ensures ∙ (ap is_some (c.untagged_in.ensures w sense) ∙ ap (has_untagged w s sense) (sym c.in-Some.is))
