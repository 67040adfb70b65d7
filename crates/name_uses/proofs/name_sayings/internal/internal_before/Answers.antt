use Rattle.std.proofs.Common.{ℕ, ◌<◌, List, All, length, sym, ap, subst, ◌∙◌}
use Rattle.std.proofs.lemmas.Result.{IfOk-weaker}
use Rattle.c_scope.specs.declared.kinds.Declared.{Declared}
use Rattle.c_senses.specs.Sense.{sense_in}
use Rattle.c_results.specs.Standing.{senses_made}
use Rattle.tree_reads.specs.Sources.{source_in}
use Rattle.c_meanings.proofs.Tests.{some_of}
use Rattle.c_named.specs.Lists.{leaves_of}
use Rattle.name_uses.proofs.name_sayings.Listing.{leaves_below}
use Rattle.name_uses.proofs.name_sayings.Thin.{give_internal, give_internal_all}
use Rattle.name_uses.proofs.name_sayings.internal.internal_before.Goals as goal

pub returns-in-Some-clause-gives : goal.returns-in-Some-clause-gives
returns-in-Some-clause-gives c =
    IfOk-weaker c.leaves_of.result _ _
    (λ list e u w uses t.
    give_internal w (source_in c.args.syntax.now uses) (sense_in (senses_made u c.args.results.now)) c.args.leaf list.items c.in-Some.list.items (some_of _ _ _ c.in-Some.is c.in_ok-list.ensures.thin u w uses) (e ∙ ap leaves_of c.as_slice.ensures.value))
    c.leaves_of.ensures.leaves

pub returns-in-Some-clause-within : goal.returns-in-Some-clause-within
returns-in-Some-clause-within c =
    let n = length c.args.syntax.now.tree.now.nodes.items in
    let below : All (λ (d : Declared). d.node < n) c.as_slice.result.now =
    subst (λ (ds : List Declared). All (λ (d : Declared). d.node < n) ds) (sym c.as_slice.ensures.value) (some_of _ _ _ c.in-Some.is c.in_ok-list.ensures.leaves) in
    IfOk-weaker c.leaves_of.result _ _ (λ list h. subst (λ (xs : List ℕ). All (λ (k : ℕ). k < n) xs) (sym h) (leaves_below n c.as_slice.result.now below)) c.leaves_of.ensures.leaves

pub returns-in-None-clause-gives : goal.returns-in-None-clause-gives
returns-in-None-clause-gives c =
    IfOk-weaker c.all_before.result _ _
    (λ list e u w uses t. give_internal_all w (source_in c.args.syntax.now uses) (sense_in (senses_made u c.args.results.now)) c.args.leaf list.items (e u w uses))
    c.all_before.ensures.leaves
