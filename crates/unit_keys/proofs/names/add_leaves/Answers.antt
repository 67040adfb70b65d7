use Rattle.std.proofs.Common.{◌∙◌, ◌+◌, ◌++◌, ℕ, map, drop, sym, ap}
use Rattle.std.specs.Global.{Vec}
use Rattle.c_senses.specs.Tree.{Source, spelling_at}
use Rattle.c_senses.specs.Keys.{names_among}
use Rattle.c_senses.specs.Sense.{Sense, sense_in}
use Rattle.c_results.specs.Standing.{senses_made}
use Rattle.tree_reads.specs.Sources.{source_in}
use Rattle.unit_keys.proofs.Naming.{leaf_more, leaf_none, leaves_done}
use Rattle.unit_keys.proofs.names.add_leaves.Goals as goal
use Rattle.unit_keys.proofs.names.add_leaves.Goals.{in-Some+in_ok-push, in_default}

pub loop-node-preserved : goal.loop-node-preserved
loop-node-preserved c = λ u uses.
    let s : Source = source_in c.args.syntax.now uses in
    let sense : ℕ → Sense = sense_in (senses_made u c.args.results.now) in
    let nodes = c.args.nodes.now in
    let i = c.loop-node.node-index in
    let rest = names_among s sense (drop (i + 1) nodes) in
    elim c.match-leaf_at.branch [
      | in-Some+in_ok-push w ↦
          ap (λ (v : Vec ℕ). map (spelling_at s) v.items ++ rest) w.leaves-is
          ∙ (leaf_more s sense nodes i w.in-Some.leaf c.loop-node.leaves.items w.push.new.self.items c.loop-node-test.true (sym w.in-Some.is ∙ c.leaf_at.ensures u uses) w.in_ok-push.ensures.items
          ∙ c.loop-node.invariant u uses)
      | in_default w ↦
          ap (λ (v : Vec ℕ). map (spelling_at s) v.items ++ rest) w.leaves-is
          ∙ (leaf_none s sense nodes i c.loop-node.leaves.items c.loop-node-test.true (sym w.in_default.is ∙ c.leaf_at.ensures u uses) ∙ c.loop-node.invariant u uses)
    ]

pub returns : goal.returns
returns c = λ u uses.
    let s : Source = source_in c.args.syntax.now uses in
    let sense : ℕ → Sense = sense_in (senses_made u c.args.results.now) in
    leaves_done s sense c.args.nodes.now c.loop-node.node-index c.loop-node.leaves.items _ c.loop-node-test.false (c.loop-node.invariant u uses)
