use Rattle.std.proofs.Common.{arith, ◌≡◌, ◌≤◌, [], ◌∷◌, length, ap, sym, ◌∙◌}
use Rattle.ref_state.specs.Items.{settled}
use Rattle.ref_frames.specs.Frames.{caller_given}
use Rattle.ref_frames.specs.Tops.{items_at}
use Rattle.ref_frames.proofs.ChangedFrames.{caller_is, none_below}
use Rattle.ref_frames.proofs.leaving.give_back.Goals as goal
use Rattle.ref_frames.proofs.leaving.give_back.Goals.{then-depth-gt1+in_ok-settle, else-depth-gt1}

pub returns-clause-ok : goal.returns-clause-ok
returns-clause-ok c =
    λ f rest e. elim c.if-depth-gt1.branch [
      | then-depth-gt1+in_ok-settle w ↦
          let left = c.end_top.ensures f (items_at (settled c.args.n c.args.value) 0 rest)
          (w.frames-is ∙ (w.in_ok-settle.ensures.ok ∙ ap (items_at (settled c.args.n c.args.value) 1) e)) in
          (left.0, left.1 ∙ caller_is c.args.n c.args.value rest)
      | else-depth-gt1 w ↦
          let left = c.end_top.ensures f rest (w.frames-is ∙ e) in
          let few : length (f ∷ rest) ≤ 1 = omega (arith, w.if-depth-gt1.false, c.depth.ensures, ap length e) in
          let none : rest ≡ [] = none_below f rest few in
          (left.0, left.1 ∙ (none ∙ sym (ap (caller_given c.args.n c.args.value) none)))
    ]
