-- The link to the node above is the next one of the way.
use Rattle.std.proofs.Common.{arith, ◌<◌, ◌++◌, List, length, sym, ap, ◌∙◌}
use Rattle.std.proofs.lemmas.List.Elements.{All-push, All-same}
use Rattle.ref_blocks.specs.declared.ways.Link.{Link}
use Rattle.ref_blocks.specs.Ways.{above}
use Rattle.ref_blocks.proofs.Above.{parent_after, way_step, way_end}
use Rattle.ref_blocks.proofs.parents.above.Goals as goal

pub loop-p-preserved : goal.loop-p-preserved
loop-p-preserved c =
    let h = (sym c.parent_at.ensures.value ∙ c.in-Some.is) in
    let r = parent_after c.args.nodes.now c.loop-p.at c.in-Some.p h in
    record {
      way = ap (λ (w : List Link). w ++ above c.args.nodes.now c.in-Some.p) c.in_ok-push.ensures.ok ∙ way_step c.args.nodes.now c.loop-p.links.items c.loop-p.at c.in-Some.p _ h c.loop-p.invariant.way;
      within = All-same (λ (k : Link). (k.node < length c.args.nodes.now) × (k.child < length c.args.nodes.now)) _ _ c.in_ok-push.ensures.ok
          (All-push (λ (k : Link). (k.node < length c.args.nodes.now) × (k.child < length c.args.nodes.now)) c.loop-p.links.items (record { node = c.in-Some.p; child = c.loop-p.at }) c.loop-p.invariant.within (r.1, omega arith));
    }

pub returns-clause-value : goal.returns-clause-value
returns-clause-value c = way_end c.args.nodes.now c.loop-p.links.items c.loop-p.at _ (sym c.parent_at.ensures.value ∙ c.in_default.is) c.loop-p.invariant.way
