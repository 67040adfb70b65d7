use Rattle.std.proofs.Common.{◌≡◌, ℕ, Bool, List, Option, Some, None, get_or, ap, sym, ◌∙◌}
use Rattle.c_senses.specs.Sense.{sense_in}
use Rattle.c_results.specs.Standing.{senses_made}
use Rattle.tree_reads.specs.Sources.{source_in}
use Rattle.name_chains.specs.Links.{listed}
use Rattle.name_chains.proofs.Linked.{listed-none}
use Rattle.c_meanings.specs.Statics.{some_static}
use Rattle.c_meanings.specs.Later.{later}
use Rattle.c_meanings.proofs.Onward.{static_now}
use Rattle.c_meanings.proofs.kept.static_before.Goals as goal

pub returns-in_default-clause-now : goal.returns-in_default-clause-now
returns-in_default-clause-now c = λ u uses.
    let s = source_in c.args.syntax.now uses in
    let sense = sense_in (senses_made u c.args.results.now) in
    let xs = c.args.names.now.chains.links.items in
    sym (ap (λ (o : Option ℕ). some_static s sense (listed xs o)) c.in_default.is ∙ ap (some_static s sense) (listed-none xs))

pub returns-in_default-clause-stays : goal.returns-in_default-clause-stays
returns-in_default-clause-stays c = λ t u uses more.
    let s = source_in c.args.syntax.now uses in
    let sense = later u c.args.results.now more in
    let xs = c.args.names.now.chains.links.items in
    sym (ap (λ (o : Option ℕ). some_static s sense (listed xs o)) c.in_default.is ∙ ap (some_static s sense) (listed-none xs))

pub has_static-requires-clause-seen : goal.has_static-requires-clause-seen
has_static-requires-clause-seen c = c.nothing_seen.ensures c.args.syntax.now c.args.results.now c.args.names.now

pub returns-in-Some-kept_at-clause-now : goal.returns-in-Some-kept_at-clause-now
returns-in-Some-kept_at-clause-now c = λ u uses.
    let s = source_in c.args.syntax.now uses in
    let sense = sense_in (senses_made u c.args.results.now) in
    let xs = c.args.names.now.chains.links.items in
    let at : get_or c.args.linkages.now.statics.items c.in-Some.place None ≡ Some c.in-Some-kept_at.flag =
    sym (ap (λ (l : List (Option Bool)). get_or l c.in-Some.place None) c.as_slice.ensures.value) ∙ (sym c.kept_at.ensures ∙ c.in-Some-kept_at.is) in
    static_now c.args.syntax.now c.args.results.now (listed xs (Some c.in-Some.place)) c.in-Some-kept_at.flag (c.requires.linkages.statics c.in-Some.place c.in-Some-kept_at.flag at) u uses
    ∙ ap (λ (o : Option ℕ). some_static s sense (listed xs o)) (sym c.in-Some.is)

pub returns-in-Some-kept_at-clause-stays : goal.returns-in-Some-kept_at-clause-stays
returns-in-Some-kept_at-clause-stays c = λ t u uses more.
    let s = source_in c.args.syntax.now uses in
    let sense = later u c.args.results.now more in
    let xs = c.args.names.now.chains.links.items in
    let at : get_or c.args.linkages.now.statics.items c.in-Some.place None ≡ Some c.in-Some-kept_at.flag =
    sym (ap (λ (l : List (Option Bool)). get_or l c.in-Some.place None) c.as_slice.ensures.value) ∙ (sym c.kept_at.ensures ∙ c.in-Some-kept_at.is) in
    c.requires.linkages.statics c.in-Some.place c.in-Some-kept_at.flag at u uses more ∙ ap (λ (o : Option ℕ). some_static s sense (listed xs o)) (sym c.in-Some.is)

pub returns-in-None-clause-now : goal.returns-in-None-clause-now
returns-in-None-clause-now c = λ u uses.
    let s = source_in c.args.syntax.now uses in
    let sense = sense_in (senses_made u c.args.results.now) in
    c.has_static.ensures u uses ∙ ap (λ (o : Option ℕ). some_static s sense (listed c.args.names.now.chains.links.items o)) (sym c.in-Some.is)
