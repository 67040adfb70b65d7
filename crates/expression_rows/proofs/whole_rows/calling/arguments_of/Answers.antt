use Rattle.std.proofs.Common.{arith, ◌<◌, ◌∙◌, ℕ, map, ◌+◌, List, length, Vec, Global, sym, ap, subst}
use Rattle.c_senses.specs.Sense.{sense_in}
use Rattle.core_nodes.specs.Standing.{core_at}
use Rattle.c_results.specs.Standing.{senses_made}
use Rattle.tree_reads.specs.Sources.{source_read}
use Rattle.expression_rows.proofs.whole_rows.Arguments.{Gathered, none_gathered, all_gathered, fault_same, part_refused, gathered_more, gathered_token}
use Rattle.expression_rows.proofs.whole_rows.calling.arguments_of.Goals.{then-not-is_leaf+in-Ok+in_ok-push-in-Ok, else-not-is_leaf}
use Rattle.expression_rows.proofs.whole_rows.calling.arguments_of.Goals as goal

pub loop-k-init : goal.loop-k-init
loop-k-init c =
    let u = c.args.unit.now in
    let s = source_read c.args.syntax.now in
    none_gathered u s (sense_in (senses_made u c.args.results.now)) c.args.at c.args.parts.now _ c.new-nodes.ensures.items

pub loop-k-preserved : goal.loop-k-preserved
loop-k-preserved c =
    let u = c.args.unit.now in
    let s = source_read c.args.syntax.now in
    let S = sense_in (senses_made u c.args.results.now) in
    let parts = c.args.parts.now in
    let k = c.loop-k.k in
    let lt : k < length parts = omega (arith, c.loop-k-test.true) in
    elim c.if-not-is_leaf.branch [
      | then-not-is_leaf+in-Ok+in_ok-push-in-Ok b ↦
          subst (λ (l : List ℕ). Gathered u s S c.args.at parts (k + 1) l) (sym (ap (λ (v : Vec ℕ Global). v.items) b.nodes-is))
          (gathered_more u s S c.args.at parts k lt c.loop-k.nodes.items b.push.new.self.items b.in-Ok.node (sym c.is_leaf.ensures ∙ b.if-not-is_leaf.true) b.in_ok-push-in-Ok.ensures.items b.in-Ok.ensures.made b.in-Ok.ensures.within b.in-Ok.ensures.rows c.loop-k.invariant)
      | else-not-is_leaf b ↦
          subst (λ (l : List ℕ). Gathered u s S c.args.at parts (k + 1) l) (sym (ap (λ (v : Vec ℕ Global). v.items) b.nodes-is))
          (gathered_token u s S c.args.at parts k lt c.loop-k.nodes.items (sym c.is_leaf.ensures ∙ b.if-not-is_leaf.false) c.loop-k.invariant)
    ]

pub returns-in-Err-clause-made : goal.returns-in-Err-clause-made
returns-in-Err-clause-made c w =
    let u = c.args.unit.now in
    let s = source_read c.args.syntax.now in
    let S = sense_in (senses_made u c.args.results.now) in
    let parts = c.args.parts.now in
    let k = c.loop-k.k in
    let lt : k < length parts = omega (arith, c.loop-k-test.true) in
    fault_same u c.in-Err.fault _ _ (c.loop-k.invariant.left w) (part_refused w s S c.args.at parts k lt u c.in-Err.fault (map (λ i. core_at u i) c.loop-k.nodes.items) (sym c.is_leaf.ensures ∙ c.if-not-is_leaf.true) c.in-Err.ensures.made)

pub returns-clause-made : goal.returns-clause-made
returns-clause-made c w =
    let u = c.args.unit.now in
    let s = source_read c.args.syntax.now in
    let S = sense_in (senses_made u c.args.results.now) in
    let parts = c.args.parts.now in
    all_gathered w u s S c.args.at parts c.loop-k.k (omega (arith, c.loop-k-test.false)) c.loop-k.nodes.items c.of.result (sym c.of.ensures) (c.loop-k.invariant.left w)
