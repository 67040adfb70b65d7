use Rattle.std.proofs.Common.{ℕ, ◌<◌, List, All, length, sym, ap, subst, ◌∙◌}
use Rattle.std.proofs.lemmas.Result.{IfOk-weaker}
use Rattle.c_scope.specs.declared.kinds.Declared.{Declared}
use Rattle.c_senses.specs.Sense.{sense_in}
use Rattle.c_results.specs.Standing.{senses_made}
use Rattle.tree_reads.specs.Sources.{source_in}
use Rattle.c_meanings.proofs.Tests.{some_of}
use Rattle.c_named.specs.Lists.{leaves_of}
use Rattle.name_uses.proofs.name_sayings.Listing.{leaves_below}
use Rattle.name_uses.proofs.name_sayings.Thin.{give_same, give_same_all}
use Rattle.name_uses.proofs.name_sayings.sayings.typedefs_before.Goals as goal

pub returns-in-Some-clause-same : goal.returns-in-Some-clause-same
returns-in-Some-clause-same c =
    IfOk-weaker c.leaves_of.result _ _
    (λ list e u w uses t.
    give_same w (source_in c.args.syntax.now uses) (sense_in (senses_made u c.args.results.now)) c.args.leaf list.items c.in-Some.list.items (some_of _ _ _ c.in-Some.is c.in_ok-list.ensures.thin u uses) (e ∙ ap leaves_of c.as_slice.ensures.value))
    c.leaves_of.ensures.leaves

pub returns-in-Some-clause-within : goal.returns-in-Some-clause-within
returns-in-Some-clause-within c =
    let n = length c.args.syntax.now.tree.now.nodes.items in
    let below : All (λ (d : Declared). d.node < n) c.as_slice.result.now =
    subst (λ (ds : List Declared). All (λ (d : Declared). d.node < n) ds) (sym c.as_slice.ensures.value) (some_of _ _ _ c.in-Some.is c.in_ok-list.ensures.leaves) in
    IfOk-weaker c.leaves_of.result _ _ (λ list h. subst (λ (xs : List ℕ). All (λ (k : ℕ). k < n) xs) (sym h) (leaves_below n c.as_slice.result.now below)) c.leaves_of.ensures.leaves

pub returns-in-None-clause-same : goal.returns-in-None-clause-same
returns-in-None-clause-same c =
    IfOk-weaker c.leaves_before.result _ _
    (λ list e u w uses t. give_same_all w (source_in c.args.syntax.now uses) (sense_in (senses_made u c.args.results.now)) c.args.leaf list.items (e uses))
    c.leaves_before.ensures.leaves
