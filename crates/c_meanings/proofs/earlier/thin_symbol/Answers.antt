use Rattle.std.proofs.Common.{◌≡◌, true, List, Some, slice_get, sym, ap, subst, ◌∙◌}
use Rattle.name_chains.specs.declared.links.Link.{Link}
use Rattle.c_meanings.specs.Thinned.{AreThinned, StaysWanted}
use Rattle.c_meanings.proofs.Onward.{not_false}
use Rattle.c_meanings.proofs.Tests.{some_one}
use Rattle.c_meanings.proofs.earlier.thin_symbol.Goals as goal

pub returns-clause-linkages : goal.returns-clause-linkages
returns-clause-linkages c =
    let syntax = c.args.syntax.now in
    let results = c.args.results.now in
    let h = c.internal_asked-wanted.ensures.linkages in
    let flag = c.internal_asked-wanted.result.flag in
    let stays : StaysWanted syntax results true c.symbol_link-leaf.result.declared.node flag = c.internal_asked-wanted.ensures.stays (not_false c.internal_asked-wanted.result.stays c.if-not-wanted.false) in
    let same = c.as_slice.ensures.value in
    let wanted : (link : Link) → slice_get c.as_slice.result.now c.args.place ≡ Some link → StaysWanted syntax results true link.declared.node flag =
    λ link at.
    let one : c.symbol_link-leaf.result ≡ link = some_one (sym c.symbol_link-leaf.ensures ∙ (ap (λ (l : List Link). slice_get l c.args.place) (sym same) ∙ at)) in
    subst (λ (x : Link). StaysWanted syntax results true x.declared.node flag) one stays in
    let thinned = c.thin.ensures.thinned true wanted (subst (λ (l : List Link). AreThinned syntax results true l c.internal_asked-wanted.new.linkages.internal) (sym same) h.internal) in
    record {
      many_linked = h.many_linked;
      many_own = h.many_own;
      statics = h.statics;
      scopes = h.scopes;
      own = h.own;
      typing = h.typing;
      internal = subst (λ (l : List Link). AreThinned syntax results true l c.thin.new.thinned) same thinned;
      memory = h.memory;
    }
