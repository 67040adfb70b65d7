use Rattle.std.proofs.Common.{◌≡◌, ◌<◌, ◌^◌, length, get_or, sym, ap, subst, ◌∙◌, ◌∷◌, [], ◌++◌, map, take, arith}
use Rattle.std.proofs.lemmas.List.{map_more}
use Rattle.std.proofs.lemmas.List.Elements.{All-more}
use Rattle.core_tree.specs.declared.node.Unit.{Unit}
use Rattle.unit_link.proofs.link_program.counts.node_counts.Goals as goal

pub loop-unit-preserved : goal.loop-unit-preserved
loop-unit-preserved c =
    let units = c.args.units.now in
    let i = c.loop-unit.unit-index in
    let x = c.unit-item.result in
    let lt = c.loop-unit-test.true in
    let same : c.len-count.result ≡ length x.nodes.items = omega (arith, c.len-count.ensures, x.nodes.ok) in
    let within : length x.nodes.items < 2 ^ 32 = omega (arith, same) in
    record {
      counts = c.in_ok-push.ensures.items ∙ (ap (λ l. l ++ c.len-count.result ∷ []) c.loop-unit.invariant.counts ∙ (ap (λ n. map (λ (y : Unit). length y.nodes.items) (take i units) ++ n ∷ []) (same ∙ ap (λ (y : Unit). length y.nodes.items) c.unit-item.is) ∙ sym (map_more (λ (y : Unit). length y.nodes.items) units i x lt)));
      small = All-more (λ (y : Unit). length y.nodes.items < 2 ^ 32) units i x lt c.loop-unit.invariant.small (subst (λ (y : Unit). length y.nodes.items < 2 ^ 32) c.unit-item.is within);
    }
