use Rattle.std.proofs.Common.{ℕ, ◌<◌, List, All, length, sym, subst}
use Rattle.std.proofs.lemmas.Result.{IfOk-weaker}
use Rattle.c_scope.specs.declared.kinds.Declared.{Declared}
use Rattle.name_uses.proofs.name_sayings.Listing.{leaves_below}
use Rattle.name_uses.proofs.name_sayings.sayings.leaves_before.Goals as goal

pub returns-clause-within : goal.returns-clause-within
returns-clause-within c =
    let n = length c.args.syntax.now.tree.now.nodes.items in
    let below : All (λ (d : Declared). d.node < n) c.as_slice.result.now = subst (λ (ds : List Declared). All (λ (d : Declared). d.node < n) ds) (sym c.as_slice.ensures.value) c.in_ok-before.ensures.leaves in
    IfOk-weaker c.leaves_of.result _ _ (λ list h. subst (λ (xs : List ℕ). All (λ (k : ℕ). k < n) xs) (sym h) (leaves_below n c.as_slice.result.now below)) c.leaves_of.ensures.leaves
