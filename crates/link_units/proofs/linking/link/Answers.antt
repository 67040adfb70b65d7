use Rattle.std.proofs.Common.{◌≡◌, ◌∙◌, ℕ, List, [], sym, subst}
use Rattle.std.specs.Prelude.{MatchResult}
use Rattle.core_tree.specs.declared.node.Unit.{Unit}
use Rattle.link_merge.specs.Tags.{AreKept}
use Rattle.link_names.specs.declared.fault.LinkFault.{LinkFault}
use Rattle.link_names.specs.Said.{IsFaultUnless}
use Rattle.unit_link.specs.Linked.{LinkedAt, LinksBadlyAt}
use Rattle.link_units.proofs.Wanting.{err_no_entry}
use Rattle.link_units.proofs.linking.link.Goals as goal

pub merge-requires : goal.merge-requires
merge-requires c = subst (λ (l : List Unit). AreKept l) (sym c.as_slice.ensures.value) (record { each = λ u x at. (c.requires.linkable.valid u x at).keys })

pub returns-clause-linked : goal.returns-clause-linked
returns-clause-linked c =
    let units = c.args.units.items in
    let none : c.as_slice-3.result.now ≡ [] = c.as_slice-3.ensures.value ∙ c.new-none.ensures.items in
    subst (λ (names : List (List ℕ)). MatchResult c.link_merged.result (LinkedAt names units) (λ (fault : LinkFault). IsFaultUnless fault (LinksBadlyAt names units fault))) none c.link_merged.ensures.linked

pub returns-clause-entry : goal.returns-clause-entry
returns-clause-entry c =
    let units = c.args.units.items in
    let none : c.as_slice-3.result.now ≡ [] = c.as_slice-3.ensures.value ∙ c.new-none.ensures.items in
    err_no_entry units c.link_merged.result (subst (λ (names : List (List ℕ)). MatchResult c.link_merged.result (LinkedAt names units) (λ (fault : LinkFault). IsFaultUnless fault (LinksBadlyAt names units fault))) none c.link_merged.ensures.linked)
