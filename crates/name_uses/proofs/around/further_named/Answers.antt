use Rattle.std.proofs.Common.{ℕ, not, None}
use Rattle.c_senses.specs.Tree.{all_where, is_leaf}
use Rattle.c_senses.specs.Sense.{sense_in}
use Rattle.c_results.specs.Standing.{senses_made}
use Rattle.tree_reads.specs.Sources.{source_read}
use Rattle.name_uses.proofs.Further.{second_two, second_one, second_other}
use Rattle.name_uses.proofs.around.further_named.Goals as goal

pub returns-in-Two : goal.returns-in-Two
returns-in-Two c = λ w uses is.
    let sense = sense_in (senses_made c.args.unit.now c.args.results.now) in
    let inner = all_where (λ (i : ℕ). not (is_leaf (source_read c.args.syntax.now) i)) c.args.rest.now in
    second_two w c.further_second.result sense inner c.in-Two.field-0 c.in-Two.second c.in-Two.ensures (c.further_second.ensures w uses is)

pub returns-in-One : goal.returns-in-One
returns-in-One c = λ w uses is.
    let sense = sense_in (senses_made c.args.unit.now c.args.results.now) in
    let inner = all_where (λ (i : ℕ). not (is_leaf (source_read c.args.syntax.now) i)) c.args.rest.now in
    second_one w None sense inner c.in-One.field-0 c.in-One.ensures

pub returns-in-Other : goal.returns-in-Other
returns-in-Other c = λ w uses is.
    let sense = sense_in (senses_made c.args.unit.now c.args.results.now) in
    let inner = all_where (λ (i : ℕ). not (is_leaf (source_read c.args.syntax.now) i)) c.args.rest.now in
    second_other w None sense inner c.in-Other.ensures
