use Rattle.std.proofs.Common.{◌≡◌, Some, ap, sym, ◌∙◌, arith}
use Rattle.core_nodes.specs.passed.c_senses.Entities.{initialiser_for, length_given_by}
use Rattle.c_entities.specs.Words.{length_in}
use Rattle.c_results.specs.Standing.{sense_made}
use Rattle.tree_reads.specs.Sources.{source_read}
use Rattle.c_entities.specs.remembered_names.Steps.{with_more}
use Rattle.c_entities.proofs.remembered_names.Onward.{still}
use Rattle.c_entities.proofs.remembered_names.steps.is_plain.Goals as goal

pub returns-in-Some-made_at : goal.returns-in-Some-made_at
returns-in-Some-made_at c = λ e u more.
    let s = source_read c.args.syntax.now in
    let rs = c.args.results.now in
    let F = with_more u rs more in
    let i = c.in-Some.initialiser in
    let at : initialiser_for s F c.args.leaf ≡ Some i = sym (c.in-Some.ensures F) in
    let here : F i ≡ sense_made u c.in-Some-made_at.made.now = still u rs more i (omega arith) ∙ sym (c.in-Some-made_at.ensures.sense u) in
    ap (length_given_by s F) at ∙ (ap length_in here ∙ c.lacks_length.ensures e u)
