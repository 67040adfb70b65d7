use Rattle.std.proofs.Common.{◌+◌, List, ℕ, get_or, refl, sym, subst}
use Rattle.std.proofs.lemmas.Option.{slice_get-get_or}
use Rattle.link_merge.specs.Parted.{IsRenumbered}
use Rattle.link_merge.proofs.Splitting.{renumbered_more}
use Rattle.link_merge.proofs.split.renumber.Goals as goal

pub loop-here-preserved : goal.loop-here-preserved
loop-here-preserved c =
    let old = c.args.class.now.items in
    let list = c.args.list.now in
    let leads = c.args.leads.now in
    let i = c.loop-here.here in
    let lt = c.loop-here-test.true in
    subst (λ (xs : List ℕ). IsRenumbered old xs list leads (i + 1)) (sym c.set_class.ensures)
    (renumbered_more old c.loop-here.class.items list leads i (get_or list i 0) (get_or list (get_or leads i 0) 0) c.loop-here.invariant (slice_get-get_or list i 0 lt) (c.requires.nodes i 0 lt) refl)
