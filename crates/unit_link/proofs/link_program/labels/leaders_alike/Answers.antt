use Rattle.std.proofs.Common.{◌≡◌, ℕ, ◌+◌, ◌<◌, List, ◌∷◌, [], ◌++◌, Option, Some, None, length, length-append, get_or, refl, sym, ap, subst, ◌∙◌, arith}
use Rattle.std.proofs.lemmas.Option.{slice_get_read}
use Rattle.std.specs.List.{slice_get}
use Rattle.link_names.specs.Firsts.{known}
use Rattle.unit_link.specs.link_program.Alike.{AreAlike, IsLeader}
use Rattle.unit_link.proofs.link_program.Leading.{leader_next, knows_more, led_more, alike_leaders}
use Rattle.unit_link.proofs.link_program.labels.leaders_alike.Goals as goal

pub loop-here-preserved : goal.loop-here-preserved
loop-here-preserved c =
    let labels = c.args.labels.now in
    let i = c.loop-here.here in
    let b = c.loop-here.invariant in
    let o = c.index-labels-here.result in
    let at = slice_get_read labels (length labels) i o refl c.loop-here-test.true c.index-labels-here.is in
    let x = c.in_ok-leader.leader in
    let items = c.in_ok-push.ensures.items in
    let leader = leader_next labels i (known c.loop-here.firsts) o x b.knows at c.in_ok-leader.ensures.first in
    record {
      knows = knows_more labels i (known c.loop-here.firsts) (known c.first_labelled.new.firsts) o b.knows at c.in_ok-leader.ensures.known;
      all = ap length items ∙ (length-append c.loop-here.list.items (x ∷ []) ∙ ap (λ n. n + 1) b.all);
      each = subst (λ xs. (k : ℕ) → k < i + 1 → IsLeader labels k (get_or xs k 0)) (sym items) (led_more labels c.loop-here.list.items x i b.all b.each leader);
    }

pub returns-clause-alike : goal.returns-clause-alike
returns-clause-alike c = record { all = omega (arith, c.loop-here.invariant.all); each = λ k l. c.loop-here.invariant.each k (omega arith) }

pub returns-clause-leaders : goal.returns-clause-leaders
returns-clause-leaders c =
    let alike : AreAlike c.args.labels.now c.loop-here.list.items = record { all = omega (arith, c.loop-here.invariant.all); each = λ k l. c.loop-here.invariant.each k (omega arith) } in
    alike_leaders c.args.labels.now c.loop-here.list.items alike
