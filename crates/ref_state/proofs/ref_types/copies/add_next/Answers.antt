use Rattle.std.proofs.Common.{◌≡◌, List, [], ◌∷◌, ◌++◌, Some, slice_get, ap, sym, ◌∙◌}
use Rattle.c_types.specs.declared.term.Term.{Term}
use Rattle.c_types.specs.Table.{Table}
use Rattle.ref_state.proofs.ref_types.Copied.{take_next}
use Rattle.ref_state.proofs.ref_types.copies.add_next.Goals as goal

pub returns : goal.returns
returns c =
    let there : slice_get c.args.types.now.terms c.args.number ≡ Some c.in_ok-term.term =
    c.term.ensures.value ∙ ap Some (sym c.in_ok-term.ensures) in
    c.in_ok-add.ensures.ok
    ∙ (ap (λ (x : Table). record x { terms = x.terms ++ c.in_ok-term.term ∷ [] }) c.requires.so_far
    ∙ ap (λ (ts : List Term). record c.args.types.now { terms = ts; completed = [] }) (sym (take_next c.args.types.now.terms c.args.number c.in_ok-term.term there)))
