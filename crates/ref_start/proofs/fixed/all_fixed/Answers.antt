use Rattle.std.proofs.Common.{◌≡◌, ℕ, ◌+◌, List, [], ◌∷◌, ◌++◌, Some, drop, get_or, slice_get, ap, sym, ◌∙◌}
use Rattle.std.proofs.lemmas.Option.{slice_get-get_or}
use Rattle.ref_cells.specs.declared.cells.Value.{Value}
use Rattle.ref_start.specs.Fixed.{all_fixed, value_at}
use Rattle.ref_start.proofs.FixedSteps.{with_more, all_next}
use Rattle.ref_start.proofs.fixed.all_fixed.Goals as goal

pub loop-c-preserved : goal.loop-c-preserved
loop-c-preserved c =
    let fix = value_at c.args.table.now in
    let cs = c.args.children.now in
    let i = c.loop-c.c-index in
    let k = get_or cs i 0 in
    let v = c.in-Some.value in
    let at : slice_get cs i ≡ Some k = slice_get-get_or cs i 0 c.loop-c-test.true in
    let given : fix k ≡ Some v = sym c.in_ok-value.ensures ∙ c.in-Some.is in
    let longer : c.push.new.list.items ≡ c.loop-c.values.items ++ (k, v) ∷ [] = c.in_ok-push-in-Some.ensures.ok in
    ap (λ (xs : List (ℕ × Value)). with_more xs (all_fixed fix (drop (i + 1) cs))) longer
    ∙ all_next fix cs i k v c.loop-c.values.items (all_fixed fix cs) at given c.loop-c.invariant
