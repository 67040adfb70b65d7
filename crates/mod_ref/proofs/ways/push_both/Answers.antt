use Rattle.std.proofs.Common.{◌++◌, ◌∷◌, [], ℕ, List, inr, ap, ◌∙◌}
use Rattle.mod_ref.proofs.ways.push_both.Goals as goal

pub returns-in_ok-push-2 : goal.returns-in_ok-push-2
returns-in_ok-push-2 c =
    inr (c.if-one-f.true, (0, 4294967295, c.in_ok-push-2.ensures.items ∙ ap (λ (ws : List (ℕ × ℕ × ℕ)). ws ++ (4294967295, c.args.f, c.args.one) ∷ []) c.in_ok-push.ensures.items))
