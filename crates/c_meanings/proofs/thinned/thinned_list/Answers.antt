use Rattle.std.proofs.Common.{◌≡◌, List, Option, ap, sym, subst, ◌∙◌}
use Rattle.c_scope.specs.declared.kinds.Declared.{Declared}
use Rattle.name_chains.specs.declared.links.Link.{Link}
use Rattle.name_chains.specs.Links.{listed}
use Rattle.c_meanings.specs.declared.thinned.End.{End}
use Rattle.c_meanings.specs.Thinned.{StaysThin, IsEndOf}
use Rattle.c_meanings.proofs.Thinning.{end_thin}
use Rattle.c_meanings.proofs.thinned.thinned_list.Goals as goal

pub returns-in-Ok-clause-list : goal.returns-in-Ok-clause-list
returns-in-Ok-clause-list c = λ results internal links h.
    let t = c.args.thinned.now in
    let e = c.in-Some.end in
    let is : IsEndOf t.ends.items c.args.last e = subst (λ (l : List (Option End)). IsEndOf l c.args.last e) c.as_slice.ensures.value c.in-Some.ensures in
    let same : c.in-Ok.list.items ≡ listed t.links.items e.last = c.in-Ok.ensures.list ∙ ap (λ (l : List Link). listed l e.last) c.as_slice-2.ensures.value in
    subst (λ (l : List Declared). StaysThin c.args.syntax.now results internal (listed links c.args.last) l) (sym same) (end_thin c.args.syntax.now results internal links t h c.args.last e is)
