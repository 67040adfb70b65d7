use Rattle.std.proofs.Common.{ℕ, ◌<◌, None, List, All, length, sym, ap, subst, ◌∙◌}
use Rattle.std.proofs.lemmas.Result.{IfOk-weaker}
use Rattle.c_scope.specs.declared.kinds.Declared.{Declared}
use Rattle.c_senses.specs.Sense.{sense_in}
use Rattle.c_senses.specs.Entities.{all_together, types_of}
use Rattle.c_results.specs.Standing.{senses_made}
use Rattle.tree_reads.specs.Sources.{source_in}
use Rattle.c_named.specs.Lists.{types_at}
use Rattle.c_named.proofs.Listing.{types_all}
use Rattle.name_uses.proofs.name_sayings.Listing.{leaves_below}
use Rattle.name_uses.proofs.name_sayings.sayings.typing_leaves.Goals as goal

pub returns-clause-typing : goal.returns-clause-typing
returns-clause-typing c =
    IfOk-weaker c.leaves_of.result _ _
    (λ list e u w uses t.
    let s = source_in c.args.syntax.now uses in
    let sense = sense_in (senses_made u c.args.results.now) in
    ap (λ (xs : List ℕ). all_together None (types_at s sense xs)) e
    ∙ (ap (all_together None) (types_all w s sense c.as_slice.result.now)
    ∙ (ap (λ (ds : List Declared). all_together None (types_of s sense ds)) c.as_slice.ensures.value ∙ c.in_ok-list.ensures.gives u uses)))
    c.leaves_of.ensures.leaves

pub returns-clause-within : goal.returns-clause-within
returns-clause-within c =
    let n = length c.args.syntax.now.tree.now.nodes.items in
    let below : All (λ (d : Declared). d.node < n) c.as_slice.result.now = subst (λ (ds : List Declared). All (λ (d : Declared). d.node < n) ds) (sym c.as_slice.ensures.value) c.in_ok-list.ensures.leaves in
    IfOk-weaker c.leaves_of.result _ _ (λ list h. subst (λ (xs : List ℕ). All (λ (k : ℕ). k < n) xs) (sym h) (leaves_below n c.as_slice.result.now below)) c.leaves_of.ensures.leaves
