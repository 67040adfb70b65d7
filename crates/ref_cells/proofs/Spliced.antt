-- What a vector's own iterator gives is the vector's items.
use Rattle.std.proofs.Common.{◌≡◌, ◌++◌, take, drop, length, sym, ap, ◌∙◌}
use Rattle.std.specs.declared.vec.IntoIter.{IntoIter}
use Rattle.std.specs.Vec.Iter.{into_iter_items, into_iter_len, into_iter_steps}
use Rattle.std.specs.Iterator.{Drains}
use Rattle.std.proofs.lemmas.List.{map-id, append_assoc}
use Rattle.std.proofs.lemmas.Iterator.{YieldsList, items_from_drains}
use Rattle.std.proofs.lemmas.Iterator.Adapters.{YieldsList-from_vec}
use Rattle.ref_cells.specs.Cells.{Entry, CellList}

pub vec_drained : {Z : Type 0} (s : IntoIter Entry Z) (xs all : CellList) → into_iter_items s ≡ all → into_iter_len s ≡ length all → Drains (into_iter_steps {X = Entry} {Z = Z}) s xs → xs ≡ all
vec_drained {Z} s xs all items long d =
    let road : YieldsList (into_iter_steps {X = Entry} {Z = Z}) (λ (y : Entry). y) s all = YieldsList-from_vec all items long in
    sym (map-id xs) ∙ items_from_drains {steps = into_iter_steps {X = Entry} {Z = Z}} {v = λ (y : Entry). y} {s = s} {all = all} xs (d.1.0, d.1.1, λ _. (d.0, d.1.2)) road

pub spliced : (list xs all new : CellList) (from to : _) → xs ≡ all → new ≡ take from list ++ (xs ++ drop to list) → new ≡ take from list ++ all ++ drop to list
spliced list xs all new from to same e =
    e ∙ ap (λ (ys : CellList). take from list ++ (ys ++ drop to list)) same ∙ sym (append_assoc (take from list) all (drop to list))
