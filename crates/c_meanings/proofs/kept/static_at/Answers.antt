use Rattle.std.proofs.Common.{◌≡◌, ℕ, Bool, true, ◌++◌, ◌∷◌, [], List, Option, Some, None, get_or, refl, ap, sym, subst, ◌∙◌, inl, inr}
use Rattle.c_senses.specs.Sense.{sense_in}
use Rattle.c_results.specs.Standing.{senses_made}
use Rattle.tree_reads.specs.Sources.{source_in}
use Rattle.name_chains.specs.Links.{listed}
use Rattle.name_chains.proofs.Linked.{listed-none}
use Rattle.c_meanings.specs.Statics.{some_static}
use Rattle.c_meanings.specs.Linkages.{StaysStatic}
use Rattle.c_meanings.specs.Later.{later}
use Rattle.c_meanings.proofs.Lists.{ends}
use Rattle.c_meanings.proofs.Onward.{static_now, static_push, both_left, both_right}
use Rattle.c_meanings.proofs.kept.static_at.Goals as goal

pub returns-in_default-clause-now : goal.returns-in_default-clause-now
returns-in_default-clause-now c = λ u uses.
    let s = source_in c.args.syntax.now uses in
    let sense = sense_in (senses_made u c.args.results.now) in
    let xs = c.args.names.now.chains.links.items in
    sym (ap (λ (o : Option ℕ). some_static s sense (listed xs o)) c.in_default.is ∙ ap (some_static s sense) (listed-none xs))

pub returns-in_default-clause-stays : goal.returns-in_default-clause-stays
returns-in_default-clause-stays c = λ t u uses more.
    let s = source_in c.args.syntax.now uses in
    let sense = later u c.args.results.now more in
    let xs = c.args.names.now.chains.links.items in
    sym (ap (λ (o : Option ℕ). some_static s sense (listed xs o)) c.in_default.is ∙ ap (some_static s sense) (listed-none xs))

pub returns-in-Some-kept_at-clause-now : goal.returns-in-Some-kept_at-clause-now
returns-in-Some-kept_at-clause-now c = λ u uses.
    let s = source_in c.args.syntax.now uses in
    let sense = sense_in (senses_made u c.args.results.now) in
    let xs = c.args.names.now.chains.links.items in
    let at : get_or c.args.linkages.now.statics.items c.in-Some.place None ≡ Some c.in-Some-kept_at.flag =
    sym (ap (λ (l : List (Option Bool)). get_or l c.in-Some.place None) c.as_slice.ensures.value) ∙ (sym c.kept_at.ensures ∙ c.in-Some-kept_at.is) in
    static_now c.args.syntax.now c.args.results.now (listed xs (Some c.in-Some.place)) c.in-Some-kept_at.flag (c.requires.linkages.statics c.in-Some.place c.in-Some-kept_at.flag at) u uses
    ∙ ap (λ (o : Option ℕ). some_static s sense (listed xs o)) (sym c.in-Some.is)

pub returns-in-Some-kept_at-clause-stays : goal.returns-in-Some-kept_at-clause-stays
returns-in-Some-kept_at-clause-stays c = λ t u uses more.
    let s = source_in c.args.syntax.now uses in
    let sense = later u c.args.results.now more in
    let xs = c.args.names.now.chains.links.items in
    let at : get_or c.args.linkages.now.statics.items c.in-Some.place None ≡ Some c.in-Some-kept_at.flag =
    sym (ap (λ (l : List (Option Bool)). get_or l c.in-Some.place None) c.as_slice.ensures.value) ∙ (sym c.kept_at.ensures ∙ c.in-Some-kept_at.is) in
    c.requires.linkages.statics c.in-Some.place c.in-Some-kept_at.flag at u uses more ∙ ap (λ (o : Option ℕ). some_static s sense (listed xs o)) (sym c.in-Some.is)

pub returns-clause-linkages : goal.returns-clause-linkages
returns-clause-linkages c =
    let xs = c.args.names.now.chains.links.items in
    let l = c.link_at-link.result in
    let place = c.in-Some.place in
    let ended : listed xs (Some place) ≡ listed xs l.before ++ l.declared ∷ [] = ends xs place l c.link_at-link.ensures c.requires.names.chained.chains.links (Some place) refl in
    let whole : c.either-kept.result.stays ≡ true → StaysStatic c.args.syntax.now c.args.results.now (listed xs (Some place)) c.either-kept.result.flag =
    λ t u uses more.
    let s = source_in c.args.syntax.now uses in
    let sense = later u c.args.results.now more in
    c.either-kept.ensures.flag
    ∙ (static_push s sense (listed xs l.before) l.declared c.static_before-before.result.flag c.static_here-here.result.flag
    (c.static_before-before.ensures.stays (both_left c.static_before-before.result.stays c.static_here-here.result.stays c.either-kept.result.stays c.either-kept.ensures.stays t) u uses more)
    (c.static_here-here.ensures.stays (both_right c.static_before-before.result.stays c.static_here-here.result.stays c.either-kept.result.stays c.either-kept.ensures.stays t) u uses more)
    ∙ sym (ap (some_static s sense) ended)) in
    record {
      many_linked = c.keep.ensures.long ∙ c.requires.linkages.many_linked;
      many_own = c.requires.linkages.many_own;
      statics = λ other b e.
          elim (c.keep.ensures.each other b e) [
            | inl old ↦ c.requires.linkages.statics other b old
            | inr new ↦
                subst (λ (x : ℕ). StaysStatic c.args.syntax.now c.args.results.now (listed xs (Some x)) b) (sym new.0)
                (subst (λ (y : Bool). StaysStatic c.args.syntax.now c.args.results.now (listed xs (Some place)) y) new.1 (whole new.2))
          ];
      scopes = c.requires.linkages.scopes;
      own = c.requires.linkages.own;
      typing = c.requires.linkages.typing;
      internal = c.requires.linkages.internal;
      memory = c.requires.linkages.memory;
    }

pub returns-clause-now : goal.returns-clause-now
returns-clause-now c = λ u uses.
    let s = source_in c.args.syntax.now uses in
    let sense = sense_in (senses_made u c.args.results.now) in
    let xs = c.args.names.now.chains.links.items in
    let l = c.link_at-link.result in
    let place = c.in-Some.place in
    let ended : listed xs (Some place) ≡ listed xs l.before ++ l.declared ∷ [] = ends xs place l c.link_at-link.ensures c.requires.names.chained.chains.links (Some place) refl in
    c.either-kept.ensures.flag
    ∙ (static_push s sense (listed xs l.before) l.declared c.static_before-before.result.flag c.static_here-here.result.flag (c.static_before-before.ensures.now u uses) (c.static_here-here.ensures.now u uses)
    ∙ (sym (ap (some_static s sense) ended) ∙ ap (λ (o : Option ℕ). some_static s sense (listed xs o)) (sym c.in-Some.is)))

pub returns-clause-stays : goal.returns-clause-stays
returns-clause-stays c = λ t u uses more.
    let xs = c.args.names.now.chains.links.items in
    let l = c.link_at-link.result in
    let place = c.in-Some.place in
    let ended : listed xs (Some place) ≡ listed xs l.before ++ l.declared ∷ [] = ends xs place l c.link_at-link.ensures c.requires.names.chained.chains.links (Some place) refl in
    let whole : c.either-kept.result.stays ≡ true → StaysStatic c.args.syntax.now c.args.results.now (listed xs (Some place)) c.either-kept.result.flag =
    λ t u uses more.
    let s = source_in c.args.syntax.now uses in
    let sense = later u c.args.results.now more in
    c.either-kept.ensures.flag
    ∙ (static_push s sense (listed xs l.before) l.declared c.static_before-before.result.flag c.static_here-here.result.flag
    (c.static_before-before.ensures.stays (both_left c.static_before-before.result.stays c.static_here-here.result.stays c.either-kept.result.stays c.either-kept.ensures.stays t) u uses more)
    (c.static_here-here.ensures.stays (both_right c.static_before-before.result.stays c.static_here-here.result.stays c.either-kept.result.stays c.either-kept.ensures.stays t) u uses more)
    ∙ sym (ap (some_static s sense) ended)) in
    whole t u uses more ∙ ap (λ (o : Option ℕ). some_static (source_in c.args.syntax.now uses) (later u c.args.results.now more) (listed xs o)) (sym c.in-Some.is)
