use Rattle.std.proofs.Common.{arith, ◌≡◌, ◌≤◌, ◌^◌, ◌*◌, ◌+◌, ◌/◌, ℕ, ap, subst, ◌∙◌}
use Rattle.core_tree.specs.Typed.{trees_in}
use Rattle.obj_space.specs.View.{view_of}
use Rattle.constraints.specs.System.{IsWithin, word_total}
use Rattle.constraints.proofs.Laws.{rows_fit, size_fits, locations_fit}
use Rattle.constraints.proofs.Agreeing.{in_order, agrees_with}
use Rattle.constraints.proofs.whole.system.Goals as goal

pub returns-in-Ok-clause-sized : goal.returns-in-Ok-clause-sized
returns-in-Ok-clause-sized c =
    let p = c.args.program.now in
    let s = view_of c.args.space.now in
    let total : c.word_total-words.result ≡ word_total p s = c.word_total-words.ensures ∙ ap (λ (n : ℕ). n * ((s.count + 63) / 64)) c.requires.normal.rows in
    let words : word_total p s ≤ 2 ^ 24 = subst (λ (n : ℕ). n ≤ 2 ^ 24) total (omega arith) in
    let within : IsWithin p s = record { nodes = omega arith; words = words } in
    record {
      rows = rows_fit p s c.in-Ok.system c.in-Ok.ensures;
      words = size_fits p s c.in-Ok.system c.in-Ok.ensures within;
    }

pub returns-in-Ok-clause-located : goal.returns-in-Ok-clause-located
returns-in-Ok-clause-located c = λ typed trees l fact at.
    locations_fit (trees_in c.args.program.now) c.args.space.now typed trees c.in-Ok.system c.in-Ok.ensures.locations c.in-Ok.ensures.types l fact at

pub returns-in-Ok-clause-ordered : goal.returns-in-Ok-clause-ordered
returns-in-Ok-clause-ordered c = in_order (trees_in c.args.program.now) (view_of c.args.space.now) c.in-Ok.system c.in-Ok.ensures.functions

pub returns-in-Ok-clause-agrees : goal.returns-in-Ok-clause-agrees
returns-in-Ok-clause-agrees c = agrees_with (trees_in c.args.program.now) (view_of c.args.space.now) c.in-Ok.system c.in-Ok.ensures.locations
