use Rattle.std.proofs.Common.{◌≡◌, ℕ, ◌+◌, slice_get, slice_index, Some, refl, sym, ap, ◌∙◌}
use Rattle.std.proofs.lemmas.Option.{slice_get_read}
use Rattle.row_numbers.specs.Setting.{lead_in}
use Rattle.row_numbers.specs.Numbering.{own_row}
use Rattle.row_numbers.proofs.NumberingLemmas.{map_more}
use Rattle.row_numbers.proofs.numbering.own_rows.Goals as goal

pub loop-n-preserved : goal.loop-n-preserved
loop-n-preserved c =
    let at : slice_get c.args.nodes.now c.loop-n.n ≡ Some c.index-nodes-n.result = slice_get_read c.args.nodes.now _ c.loop-n.n c.index-nodes-n.result refl c.loop-n-test.true c.index-nodes-n.is in
    let own : slice_index c.args.starts.now c.loop-n.n + c.lead.result ≡ own_row c.args.nodes.now c.args.starts.now c.loop-n.n =
    ap (λ (k : ℕ). slice_index c.args.starts.now c.loop-n.n + k) (c.lead.ensures.value ∙ sym (ap lead_in at)) in
    c.in_ok-push.ensures.items ∙ (rw c.loop-n.invariant (rw (map_more (own_row c.args.nodes.now c.args.starts.now) c.loop-n.n (slice_index c.args.starts.now c.loop-n.n + c.lead.result) own) refl))
