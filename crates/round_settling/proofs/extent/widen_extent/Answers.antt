use Rattle.std.proofs.Common.{◌≡◌, ◌≤◌, ℕ, List, Some, length, slice_get, slice_set, sym, ap, ◌∙◌, subst, arith}
use Rattle.std.proofs.lemmas.Option.{slice_get_within}
use Rattle.round_settling.specs.declared.extent.Extent.{Extent}
use Rattle.round_settling.specs.Extents.{IsWidened}
use Rattle.round_settling.proofs.Extents.{widened}
use Rattle.round_settling.proofs.extent.widen_extent.Goals as goal

pub returns : goal.returns
returns c =
    let old = c.args.extents.now.items in
    let row : ℕ = c.args.row in
    let held = c.extent_at-held.result in
    let new = c.with_words.result in
    let at : slice_get old row ≡ Some held = ap (λ (xs : List Extent). slice_get xs row) (sym c.as_slice.ensures.value) ∙ c.extent_at-held.ensures in
    subst (λ (xs : List Extent). IsWidened old xs row c.args.first c.args.end) (sym c.put_extent.ensures)
    (widened old row c.args.first c.args.end held new at c.with_words.ensures.old c.with_words.ensures.new)
