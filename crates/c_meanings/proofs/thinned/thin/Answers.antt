use Rattle.std.proofs.Common.{◌≡◌, List, Option, Some, get_or, slice_get, refl, subst}
use Rattle.std.proofs.lemmas.Option.{slice_get-get_or}
use Rattle.name_chains.specs.declared.links.Link.{Link}
use Rattle.name_chains.proofs.Linked.{no_link}
use Rattle.c_meanings.specs.declared.thinned.End.{End}
use Rattle.c_meanings.specs.Thinned.{IsEndOf}
use Rattle.c_meanings.proofs.Thinning.{thinned_with, thinned_links}
use Rattle.c_meanings.proofs.thinned.thin.Goals as goal

pub returns-in_err-last-clause-thinned : goal.returns-in_err-last-clause-thinned
returns-in_err-last-clause-thinned c = λ internal wanted a.
    thinned_links c.args.syntax.now c.args.results.now internal c.args.links.now c.args.thinned.now a _ c.in_err-last.ensures.adds c.in_err-last.ensures.leaves refl

pub returns-clause-thinned : goal.returns-clause-thinned
returns-clause-thinned c = λ internal wanted a.
    let links = c.args.links.now in
    let place = c.args.place in
    let l : Link = get_or links place no_link in
    let at : slice_get links place ≡ Some l = slice_get-get_or links place no_link c.requires.place in
    let is : IsEndOf c.args.thinned.now.ends.items l.before c.in-Some.before = subst (λ (ends : List (Option End)). IsEndOf ends l.before c.in-Some.before) c.as_slice.ensures.value c.in-Some.ensures in
    thinned_with c.args.syntax.now c.args.results.now internal links c.args.thinned.now a place l at c.requires.backward c.in-Some.before is c.args.wanted (wanted l at) _ c.in_ok-last.last c.in_ok-last.ensures.thin
    c.in_ok-last.ensures.adds c.in_ok-last.ensures.leaves c.keep_end.ensures.long c.in_ok-last.ensures.last c.keep_end.ensures.each
