use Rattle.std.proofs.Common.{arith, ◌≡◌, ◌∙◌, ℕ, ◌+◌, ◌<◌, List, [], ◌∷◌, ◌++◌, length, length-append, append_assoc, take, get_or, refl, sym, ap, subst}
use Rattle.std.proofs.lemmas.List.{length-take-le, take_more}
use Rattle.unit_finish.specs.planted_nodes.Grown.{Notes}
use Rattle.unit_finish.proofs.planted_nodes.Positions.{notes_more}
use Rattle.unit_finish.proofs.planted_nodes.growing.append.Goals as goal

pub loop-child-preserved : goal.loop-child-preserved
loop-child-preserved c =
    let k = c.loop-child.child-index in
    let from = length c.args.origins.now.items in
    let children = c.args.children.now in
    let lt : k < length children = omega (arith, c.loop-child-test.true) in
    let child = get_or children k 0 in
    let long : length c.loop-child.origins.items ≡ from + k = ap length c.loop-child.invariant.origins ∙ (length-append c.args.origins.now.items (take k children) ∙ ap (λ (n : ℕ). from + n) (length-take-le k children (omega (arith, lt)))) in
    let at : c.len.result ≡ from + k = omega (arith, c.len.ensures, long) in
    record {
      origins =
          c.in_ok-push.ensures.items
          ∙ (ap (λ (l : List ℕ). l ++ child ∷ []) c.loop-child.invariant.origins
          ∙ (append_assoc c.args.origins.now.items (take k children) (child ∷ []) ∙ ap (λ (l : List ℕ). c.args.origins.now.items ++ l) (sym (take_more children k 0 lt))));
      met = notes_more from k children child c.args.met.now.items c.loop-child.met.items c.note.new.met.items c.loop-child.invariant.met (subst (λ (n : ℕ). Notes n (child ∷ []) 1 c.loop-child.met.items c.note.new.met.items) at c.note.ensures) refl;
    }
