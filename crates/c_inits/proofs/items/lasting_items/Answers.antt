use Rattle.std.proofs.Common.{arith, refl, length, ◌≡◌, ◌∙◌, ◌++◌, ◌∷◌, [], List, sym, ap, map, append_assoc}
use Rattle.c_inits.specs.declared.items.InitAction.{InitAction}
use Rattle.c_inits.specs.Items.{action_of, placed_of}
use Rattle.c_inits.proofs.Lasting.{knows_more, left_more, all_left}
use Rattle.c_inits.proofs.items.lasting_items.Goals as goal

pub loop-action-preserved : goal.loop-action-preserved
loop-action-preserved c =
    let (done, all, known, so_far) = c.loop-action.invariant in
    let actions = map action_of done in (
      c.in-Some.action ∷ done,
      sym (append_assoc c.pop.new.self.items (c.in-Some.action ∷ []) done) ∙ ap (λ l. l ++ done) (sym c.in-Some.ensures.items) ∙ all,
      knows_more c.loop-action.cleared c.take_action.new.cleared c.in-Some.action actions c.in_ok-take_action.ensures.cleared known,
      left_more c.loop-action.cleared c.in-Some.action actions c.loop-action.items.items c.take_action.new.items.items known c.in_ok-take_action.ensures.items so_far,
    )

no_items : (xs : List InitAction) → length xs ≡ 0 → xs ≡ []
no_items [] e = refl
no_items (x ∷ xs) e = absurd (omega (arith, e))

pub returns : goal.returns
returns c =
    let (done, all, known, so_far) = c.loop-action.invariant in
    let none : c.loop-action.rest.items ≡ [] = no_items c.loop-action.rest.items (omega (arith, c.in_default.ensures.cases.0, c.loop-action.rest.ok)) in
    ap (map placed_of) c.reverse.ensures.items ∙ all_left done c.args.actions.items c.loop-action.items.items (sym (ap (λ l. l ++ done) none) ∙ all) so_far
