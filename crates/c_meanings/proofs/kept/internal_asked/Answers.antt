use Rattle.std.proofs.Common.{Bool, ap, sym, ◌∙◌}
use Rattle.c_senses.specs.Sense.{sense_in}
use Rattle.c_results.specs.Standing.{senses_made}
use Rattle.tree_reads.specs.Sources.{source_read, source_in}
use Rattle.c_meanings.specs.Known.{nodes_in}
use Rattle.c_meanings.specs.Statics.{some_static}
use Rattle.c_meanings.specs.Linkages.{internal_with}
use Rattle.c_meanings.specs.Later.{later}
use Rattle.c_meanings.proofs.Tests.{and_else}
use Rattle.c_meanings.proofs.Onward.{internal_stays}
use Rattle.c_meanings.proofs.kept.internal_asked.Goals as goal

pub static_at-seen-requires-clause-last : goal.static_at-seen-requires-clause-last
static_at-seen-requires-clause-last c = c.linked_link-last.ensures.link (source_read c.args.syntax.now) (nodes_in c.args.syntax.now) c.requires.names.chained.chains

pub returns-then-seen-clause-now : goal.returns-then-seen-clause-now
returns-then-seen-clause-now c = λ u uses.
    let s = source_in c.args.syntax.now uses in
    let sense = sense_in (senses_made u c.args.results.now) in
    c.internal_with.ensures u uses
    ∙ ap (λ (b : Bool). internal_with s sense b c.args.leaf)
    (c.static_at-seen.ensures.now u uses ∙ ap (some_static s sense) (c.linked_link-last.ensures.list s (nodes_in c.args.syntax.now) c.requires.names.chained.chains))

pub returns-then-seen-clause-stays : goal.returns-then-seen-clause-stays
returns-then-seen-clause-stays c = λ settled u uses more.
    let s = source_in c.args.syntax.now uses in
    let sense = later u c.args.results.now more in
    c.internal_with.ensures u uses
    ∙ (internal_stays c.args.syntax.now c.args.results.now c.args.leaf (c.is_settled-settled.ensures settled) c.static_at-seen.result.flag u uses more
    ∙ ap (λ (b : Bool). internal_with s sense b c.args.leaf)
    (c.static_at-seen.ensures.stays c.if-seen.true u uses more ∙ ap (some_static s sense) (c.linked_link-last.ensures.list s (nodes_in c.args.syntax.now) c.requires.names.chained.chains)))

pub returns-else-seen-clause-now : goal.returns-else-seen-clause-now
returns-else-seen-clause-now c = λ u uses.
    let s = source_in c.args.syntax.now uses in
    let sense = sense_in (senses_made u c.args.results.now) in
    c.internal_with.ensures u uses
    ∙ ap (λ (b : Bool). internal_with s sense b c.args.leaf)
    (c.static_at-seen.ensures.now u uses ∙ ap (some_static s sense) (c.linked_link-last.ensures.list s (nodes_in c.args.syntax.now) c.requires.names.chained.chains))

pub returns-then-not-is_linked-clause-now : goal.returns-then-not-is_linked-clause-now
returns-then-not-is_linked-clause-now c = λ u uses.
    let sense = sense_in (senses_made u c.args.results.now) in
    sym c.if-not-is_linked.true ∙ and_else _ _ _ (c.is_linked.ensures uses sense) c.if-not-is_linked.true

pub returns-then-not-is_linked-clause-stays : goal.returns-then-not-is_linked-clause-stays
returns-then-not-is_linked-clause-stays c = λ t u uses more. sym c.if-not-is_linked.true ∙ and_else _ _ _ (c.is_linked.ensures uses (later u c.args.results.now more)) c.if-not-is_linked.true

pub internal_with-requires-clause-linked : goal.internal_with-requires-clause-linked
internal_with-requires-clause-linked c = λ uses sense. sym (c.is_linked.ensures uses sense) ∙ c.if-not-is_linked.false
