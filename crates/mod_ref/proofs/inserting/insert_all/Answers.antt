use Rattle.std.proofs.Common.{◌≡◌, ℕ, get_or, Contains, refl, sym, subst}
use Rattle.std.proofs.lemmas.Option.{slice_get-get_or}
use Rattle.mod_ref.specs.Gains.{In}
use Rattle.mod_ref.proofs.Gaining.{gains_as, gains_in_listed, gains_in_next, gains_none, rows_kept}
use Rattle.mod_ref.proofs.inserting.insert_all.Goals as goal

pub loop-i-init : goal.loop-i-init
loop-i-init c = gains_none _ _

pub insert-requires-clause-location : goal.insert-requires-clause-location
insert-requires-clause-location c = c.requires.held c.loop-i.i 0 c.loop-i-test.true

pub insert-requires-clause-rows : goal.insert-requires-clause-rows
insert-requires-clause-rows c = rows_kept c.args.system.now c.args.touched.now c.loop-i.touched _ c.requires.rows c.loop-i.invariant

pub returns-clause-rows : goal.returns-clause-rows
returns-clause-rows c = rows_kept c.args.system.now c.args.touched.now c.loop-i.touched _ c.requires.rows c.loop-i.invariant

pub loop-i-preserved : goal.loop-i-preserved
loop-i-preserved c =
    gains_in_next c.args.held.now c.args.row (λ (location at : ℕ). at ≡ location) c.loop-i.i (get_or c.args.held.now c.loop-i.i 0) c.args.touched.now c.loop-i.touched c.insert.new.touched
    (slice_get-get_or c.args.held.now c.loop-i.i 0 c.loop-i-test.true) c.loop-i.invariant c.insert.ensures.gains

pub returns-clause-gains : goal.returns-clause-gains
returns-clause-gains c =
    gains_as c.args.touched.now c.loop-i.touched (In c.args.row (λ at. (location : ℕ) × Contains c.args.held.now location × (at ≡ location))) (In c.args.row (Contains c.args.held.now))
    (gains_in_listed c.args.held.now c.args.row (λ (location at : ℕ). at ≡ location) c.loop-i.i c.args.touched.now c.loop-i.touched c.loop-i-test.false c.loop-i.invariant)
    (λ r at h. let l = h.1 in (h.0, subst (Contains c.args.held.now) (sym l.2) l.1))
    (λ r at h. (h.0, (at, h.1, refl)))
