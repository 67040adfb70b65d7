use Rattle.std.proofs.Common.{arith, ◌≡◌, ◌∙◌, ◌<◌, ◌+◌, ◌∷◌, ◌++◌, [], sym, ap, length, List, ℕ, take}
use Rattle.c_types.specs.declared.term.MemberTerm.{MemberTerm}
use Rattle.c_types.specs.Layout.{member_extent, all_nodes}
use Rattle.c_types.specs.Table.{extents_in, look_in, type_of}
use Rattle.c_types.specs.Bounds.{cap}
use Rattle.c_types.specs.Inside.{table_of, starts}
use Rattle.c_types.proofs.Members.{step_starts, step_sum, cap_next, take_all}
use Rattle.c_types.proofs.table.positions_of.Goals as goal

pub loop-m-preserved : goal.loop-m-preserved
loop-m-preserved c =
    let table = table_of c.args.entries.now c.args.tags.now c.args.completed.now in
    let ms = c.args.members.now in
    let i = c.loop-m.m-index in
    let m = member_extent (look_in table) (type_of table c.m-item.result.ty.0) in
    let lt : i < length ms = c.loop-m-test.true in
    let nodes : c.member_bounds.result.nodes ≡ cap (length m.nodes) = ap (λ b. b.nodes) c.member_bounds.ensures in
    let next = c.loop-m.invariant.next in
    record {
      list = c.in_ok-push_number.ensures ∙ (ap (λ (xs : List ℕ). xs ++ c.loop-m.next ∷ []) c.loop-m.invariant.list ∙ (ap (λ (k : ℕ). starts 1 (extents_in table (take i ms)) ++ k ∷ []) next ∙ sym (step_starts table ms i c.m-item.result lt c.m-item.is)));
      next = c.capped_sum-next.ensures ∙ (cap_next c.loop-m.next c.member_bounds.result.nodes (1 + length (all_nodes (extents_in table (take i ms)))) (length m.nodes) next nodes ∙ ap cap (sum_next (length (all_nodes (extents_in table (take i ms)))) (length m.nodes) (length (all_nodes (extents_in table (take (i + 1) ms)))) (step_sum table ms i c.m-item.result lt c.m-item.is)));
    }
  where
    sum_next : (a b d : ℕ) → d ≡ a + b → 1 + a + b ≡ 1 + d
    sum_next a b d e = omega arith

pub returns : goal.returns
returns c =
    let table = table_of c.args.entries.now c.args.tags.now c.args.completed.now in
    c.loop-m.invariant.list ∙ ap (λ (ms : List MemberTerm). starts 1 (extents_in table ms)) (take_all c.args.members.now c.loop-m.m-index c.loop-m-test.false)
