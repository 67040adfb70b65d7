use Rattle.std.proofs.Common.{◌++◌, ◌∷◌, [], sym, ◌∙◌, ap, map, append_assoc, arith}
use Rattle.std.specs.List.{range_with_len}
use Rattle.std.proofs.lemmas.List.FromFn.{map-range_with_len_more}
use Rattle.mod_ref.specs.Ways.{own_copy}
use Rattle.mod_ref.proofs.classes.push_own.Goals as goal

pub loop-row-preserved : goal.loop-row-preserved
loop-row-preserved c =
    rw (c.in_ok-push.ensures.ok, c.loop-row.invariant)
    (append_assoc c.args.list.now (map own_copy (range_with_len 0 c.loop-row.row)) (own_copy c.loop-row.row ∷ []) ∙ ap (λ xs. c.args.list.now ++ xs) (sym (map-range_with_len_more own_copy 0 c.loop-row.row c.loop-row.row (omega arith))))
