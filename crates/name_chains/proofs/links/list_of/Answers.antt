use Rattle.std.proofs.Common.{◌≡◌, ◌<◌, List, [], ◌++◌, reverse, All, get_or, sym, ap, ◌∙◌, subst}
use Rattle.std.proofs.lemmas.List.Elements.{All-push}
use Rattle.c_scope.specs.declared.kinds.Declared.{Declared}
use Rattle.name_chains.specs.Links.{listed}
use Rattle.name_chains.proofs.Linked.{no_link, back_link, back_list, back_leaf, back_less, listed-none}
use Rattle.name_chains.proofs.links.list_of.Goals as goal

pub loop-at-preserved : goal.loop-at-preserved
loop-at-preserved c =
    let xs = c.args.links.now in
    let at = c.loop-at.at in
    let i = c.in-Some.place in
    let last = c.loop-at.invariant.last in
    let back = c.requires.backward in
    let taken = c.loop-at.list.items in
    record {
      last = back_link xs at i no_link c.in-Some.is last back;
      list = back_list xs at i no_link c.in-Some.is last back (listed xs c.args.last) taken c.loop-at.invariant.list
          ∙ ap (λ (t : List Declared). listed xs (get_or xs i no_link).before ++ reverse t) (sym c.in_ok-push.ensures.items);
      leaves = λ n have. subst (λ (t : List Declared). All (λ d. d.node < n) t) (sym c.in_ok-push.ensures.items)
          (All-push (λ (d : Declared). d.node < n) taken (get_or xs i no_link).declared (c.loop-at.invariant.leaves n have) (back_leaf xs at i no_link c.in-Some.is last back n have));
    }

pub loop-at-smaller : goal.loop-at-smaller
loop-at-smaller c = back_less c.args.links.now c.loop-at.at c.in-Some.place no_link c.in-Some.is c.loop-at.invariant.last c.requires.backward

pub returns-clause-list : goal.returns-clause-list
returns-clause-list c =
    let xs = c.args.links.now in
    let none : listed xs c.loop-at.at ≡ [] = ap (listed xs) c.in_default.is ∙ listed-none xs in
    c.reverse.ensures.items ∙ sym (c.loop-at.invariant.list ∙ ap (λ (t : List Declared). t ++ reverse c.loop-at.list.items) none)
