use Rattle.std.proofs.Common.{◌≡◌, ℕ, get_or, Some, Contains, refl, subst, arith}
use Rattle.std.proofs.lemmas.Option.{slice_get-get_or, same_Some}
use Rattle.edge_book.proofs.Gaining.{gains_same}
use Rattle.new_members.proofs.Through.{OfAll, through_none, through_next, through_all}
use Rattle.new_members.proofs.pairs.put_stores.Goals as goal

pub loop-to-init : goal.loop-to-init
loop-to-init c = through_none c.args.tos.now (λ (to a b : ℕ). (c.args.from ≡ Some a) × (Some to ≡ Some b)) c.args.pairs.now.items

pub loop-to-preserved : goal.loop-to-preserved
loop-to-preserved c =
    let i : ℕ = c.loop-to.to-index in
    through_next c.args.tos.now (λ (to a b : ℕ). (c.args.from ≡ Some a) × (Some to ≡ Some b)) c.args.pairs.now.items c.loop-to.pairs.items c.put_between.new.pairs.items i (get_or c.args.tos.now i 0) (c.loop-to.invariant) (slice_get-get_or c.args.tos.now i 0 c.loop-to-test.true) (c.in_ok-put_between.ensures)

pub returns : goal.returns
returns c = gains_same c.args.pairs.now.items c.loop-to.pairs.items (OfAll c.args.tos.now (λ (to a b : ℕ). (c.args.from ≡ Some a) × (Some to ≡ Some b))) (λ a b. Contains c.args.tos.now b × (c.args.from ≡ Some a))
    (λ a b h. (subst (Contains c.args.tos.now) (same_Some h.0 b h.2.1) h.1, h.2.0))
    (λ a b h. (b, h.0, (h.1, refl)))
    (through_all c.args.tos.now (λ (to a b : ℕ). (c.args.from ≡ Some a) × (Some to ≡ Some b)) c.args.pairs.now.items c.loop-to.pairs.items c.loop-to.to-index (let n = c.loop-to-test.false in omega arith) (c.loop-to.invariant))
