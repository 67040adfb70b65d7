-- The pointer's type is the table's, or not.
use Rattle.std.proofs.Common.{arith, ◌+◌, ◌≤◌, [], ◌∷◌, ◌++◌, length, sym, subst}
use Rattle.ref_start.specs.declared.handed.HandedPlaces.{HandedPlaces}
use Rattle.ref_start.specs.Handed.{ArePlaces}
use Rattle.ref_start.proofs.HandedSteps.{past_kept, more_kept}
use Rattle.ref_start.proofs.handed.keep_place.Goals as goal
use Rattle.ref_start.proofs.handed.keep_place.Goals.{then-ty-type_count+in_ok-keep_one, else-ty-type_count}

pub returns-clause-ok : goal.returns-clause-ok
returns-clause-ok c = λ handed cell h.
    let table = c.args.types.now in
    let P : HandedPlaces → Type 0 = λ kept. ArePlaces table (handed ++ (c.args.ty, cell) ∷ []) (record kept { read = kept.read + 1 }) in
    elim c.if-ty-type_count.branch [
      | then-ty-type_count+in_ok-keep_one w ↦
          subst P (sym w.kept-is)
          (more_kept table handed (c.args.ty, cell) c.args.kept.now h w.first_same.result.0 w.keep_one.new.kept w.first_same.ensures w.in_ok-keep_one.ensures.ok)
      | else-ty-type_count w ↦
          let past : length table.terms ≤ c.args.ty.0 = omega (arith, w.if-ty-type_count.false, c.type_count.ensures.count) in
          subst P (sym w.kept-is) (past_kept table handed (c.args.ty, cell) c.args.kept.now h past)
    ]
