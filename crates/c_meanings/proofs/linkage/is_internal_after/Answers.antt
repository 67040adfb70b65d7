use Rattle.std.proofs.Common.{◌≡◌, false, true, sym, ◌∙◌}
use Rattle.c_senses.specs.Sense.{sense_in}
use Rattle.c_results.specs.Standing.{senses_made}
use Rattle.c_meanings.proofs.Tests.{and_then, and_else, or_then, or_else}
use Rattle.c_meanings.proofs.linkage.is_internal_after.Goals as goal

pub returns-then-not-is_linked-clause-internal : goal.returns-then-not-is_linked-clause-internal
returns-then-not-is_linked-clause-internal c = λ u uses.
    let sense = sense_in (senses_made u c.args.results.now) in
    let no : c.is_linked.result ≡ false = cc in
    sym no ∙ and_else _ _ _ (c.is_linked.ensures uses sense) no

pub returns-then-is_static_at_file-clause-internal : goal.returns-then-is_static_at_file-clause-internal
returns-then-is_static_at_file-clause-internal c = λ u uses.
    let sense = sense_in (senses_made u c.args.results.now) in
    let linked : c.is_linked.result ≡ true = cc in
    sym c.if-is_static_at_file.true ∙ and_then _ _ _ _ (c.is_linked.ensures uses sense) linked (or_then _ _ _ (c.is_static_at_file.ensures u uses) c.if-is_static_at_file.true)

pub returns-then-not-takes_over-clause-internal : goal.returns-then-not-takes_over-clause-internal
returns-then-not-takes_over-clause-internal c = λ u uses.
    let sense = sense_in (senses_made u c.args.results.now) in
    let linked : c.is_linked.result ≡ true = cc in
    let no : c.takes_over.result ≡ false = cc in
    sym no ∙ and_then _ _ _ _ (c.is_linked.ensures uses sense) linked
    (or_else _ _ _ _ (c.is_static_at_file.ensures u uses) c.if-is_static_at_file.false (and_else _ _ _ (c.takes_over.ensures u uses) no))

pub returns-clause-internal : goal.returns-clause-internal
returns-clause-internal c = λ u uses.
    let sense = sense_in (senses_made u c.args.results.now) in
    let linked : c.is_linked.result ≡ true = cc in
    let over : c.takes_over.result ≡ true = cc in
    and_then _ _ _ _ (c.is_linked.ensures uses sense) linked
    (or_else _ _ _ _ (c.is_static_at_file.ensures u uses) c.if-is_static_at_file.false (and_then _ _ _ _ (c.takes_over.ensures u uses) over (c.sees_static.ensures.some u uses)))
