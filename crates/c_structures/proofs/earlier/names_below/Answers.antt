use Rattle.std.proofs.Common.{arith, ◌≡◌, ◌+◌, true, false, List, ℕ, take, sym, subst}
use Rattle.std.specs.Prelude.{nat_lt, slice_index}
use Rattle.std.proofs.lemmas.Bool.Decides.{nat_tests}
use Rattle.std.proofs.lemmas.List.{take_all}
use Rattle.c_senses.specs.Sense.{sense_in}
use Rattle.c_results.specs.Standing.{senses_made}
use Rattle.c_structures.specs.declared.names.MemberNames.{MemberNames}
use Rattle.c_structures.specs.Named.{SaysNames}
use Rattle.c_structures.specs.Before.{parts_below}
use Rattle.c_structures.proofs.Preceding.{names_more, names_passed}
use Rattle.c_structures.proofs.earlier.names_below.Goals as goal
use Rattle.c_structures.proofs.earlier.names_below.Goals.{then-node-below+in_ok-add_names, else-node-below}

pub loop-node-preserved : goal.loop-node-preserved
loop-node-preserved c = λ u w s.
    let sense = sense_in (senses_made u c.args.results.now) in
    let nodes = c.args.nodes.now in
    let i = c.loop-node.node-index in
    elim c.if-node-below.branch [
      | then-node-below+in_ok-add_names x ↦
          let is : true ≡ nat_lt (slice_index nodes i) c.args.below = grind (arith, nat_tests, x.if-node-below.true) in
          subst (λ (names : MemberNames). SaysNames names (parts_below w s sense (take (i + 1) nodes) c.args.below)) (sym x.names-is)
          (names_more w s sense nodes c.args.below i x.add_names.new.names c.loop-node-test.true is (x.in_ok-add_names.ensures u w s (parts_below w s sense (take i nodes) c.args.below) (c.loop-node.invariant u w s)))
      | else-node-below x ↦
          let is : false ≡ nat_lt (slice_index nodes i) c.args.below = grind (arith, nat_tests, x.if-node-below.false) in
          subst (λ (names : MemberNames). SaysNames names (parts_below w s sense (take (i + 1) nodes) c.args.below)) (sym x.names-is)
          (names_passed w s sense nodes c.args.below i c.loop-node.names c.loop-node-test.true is (c.loop-node.invariant u w s))
    ]

pub returns : goal.returns
returns c = λ u w s.
    subst (λ (nodes : List ℕ). SaysNames c.loop-node.names (parts_below w s (sense_in (senses_made u c.args.results.now)) nodes c.args.below)) (take_all c.loop-node.node-index c.args.nodes.now c.loop-node-test.false) (c.loop-node.invariant u w s)
