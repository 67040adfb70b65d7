-- What is known of a unit's names makes none of them strange.
use Rattle.std.proofs.Common.{◌∙◌, length}
use Rattle.c_results.specs.Standing.{senses_made}
use Rattle.c_senses.specs.Sense.{sense_in}
use Rattle.c_senses.specs.Rows.{world_at}
use Rattle.tree_reads.specs.Sources.{source_in}
use Rattle.name_uses.specs.Usual.{NamesAreUsual}
use Rattle.name_uses.proofs.Usual.{below_each, use_usual, ints_usual, names_usual}

pub names_are_usual : NamesAreUsual
names_are_usual syntax u results names uses at production children known pairs are =
    let s = source_in syntax uses in
    let senses = senses_made u results in
    let n = length s.nodes in
    let below = below_each n s.declared.ordinary known.named.chained.chains.nodes in
    names_usual (world_at s senses at) s production children
    (λ leaf. use_usual n s (sense_in senses) below (ints_usual s senses are n) leaf (λ d e. known.named.chained.pairs leaf d (pairs.each leaf ∙ e)))
