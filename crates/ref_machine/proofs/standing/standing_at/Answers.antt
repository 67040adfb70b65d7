use Rattle.std.proofs.Common.{◌≡◌, List, None, ap, sym, ◌∙◌}
use Rattle.core_tree.specs.Seen.{core_of}
use Rattle.ref_cells.specs.declared.instance.Instance.{Instance}
use Rattle.ref_places.specs.Places.{own_instance}
use Rattle.ref_machine.proofs.FirstInstances.{standing_found}
use Rattle.ref_machine.proofs.standing.standing_at.Goals as goal

pub returns-in-None : goal.returns-in-None
returns-in-None c =
    let st = c.args.state.now in
    let frame = c.in_ok-frame.frame.now in
    let key = c.in_ok-key.key in
    let own : own_instance st.memory key frame.instances ≡ None =
    ap (λ (m : List Instance). own_instance m key frame.instances) (sym c.instances-memory.ensures)
    ∙ (ap (own_instance c.instances-memory.result.now key) (sym c.as_slice.ensures)
    ∙ (sym c.own_instance.ensures ∙ c.in-None.is)) in
    standing_found (core_of c.args.trees.now) c.args.standing.now st c.args.n c.in_ok-key.ensures.0 key frame
    c.in_ok-key.ensures.1 c.in_ok-key.ensures.2 (sym c.in_ok-frame.ensures) own c.requires c.first_of.result c.first_of.ensures
