use Rattle.std.proofs.Common.{◌≡◌, ℕ, ◌+◌, List, sym, subst, arith}
use Rattle.row_share.proofs.share_laws.Onward.{AreFirstRows, firsts_begin, onward_more, onward_done}
use Rattle.row_share.specs.share_laws.Onward.{IsFirstOf}
use Rattle.row_share.proofs.row_classes.onward.first_rows.Goals as goal

pub loop-row-init : goal.loop-row-init
loop-row-init c = subst (λ (rows : List ℕ). AreFirstRows c.args.system.now rows 0) (sym c.new-rows.ensures.items) (firsts_begin c.args.system.now)

pub loop-row-preserved : goal.loop-row-preserved
loop-row-preserved c =
    let S = c.args.system.now in
    subst (λ (rows : List ℕ). AreFirstRows S rows (c.loop-row.row + 1)) (sym c.in_ok-push.ensures.items)
    (onward_more S c.loop-row.rows.items c.loop-row.row c.first_of-first.result c.requires.onward c.loop-row.invariant
    (subst (λ (rows : List ℕ). IsFirstOf S rows c.loop-row.row c.first_of-first.result) c.as_slice.ensures.value c.first_of-first.ensures))

pub returns : goal.returns
returns c = onward_done c.args.system.now c.loop-row.rows.items c.requires.valid c.requires.onward (subst (AreFirstRows c.args.system.now c.loop-row.rows.items) (let e : c.loop-row.row ≡ c.args.system.now.rows = omega arith in e) c.loop-row.invariant)
