use Rattle.std.proofs.Common.{arith, ◌≡◌, ◌≤◌, true, length, inl, inr, refl}
use Rattle.std.proofs.lemmas.Bool.{cases_lt}
use Rattle.tree_reads.specs.Sources.{source_read}
use Rattle.unit_walk.proofs.unit_choices.Leaves.{none_past}
use Rattle.unit_walk.proofs.unit_choices.names.names_are_ascii.Goals as goal

pub returns-then-not-is_ascii_name : goal.returns-then-not-is_ascii_name
returns-then-not-is_ascii_name c = λ uses.
    (λ never. cc, λ spelled. let so : c.is_ascii_name.result ≡ true = c.is_ascii_name.ensures.1 (spelled c.loop-node.node) in cc)

pub returns : goal.returns
returns c = λ uses. (
  λ so name named. elim (cases_lt name c.loop-node.node) [
    | inl before ↦ c.loop-node.invariant name before named
    | inr behind ↦
        let long : length c.args.syntax.now.tree.now.nodes.items ≤ name = omega (arith, c.len-node-end.ensures, c.loop-node-test.false, behind) in
        absurd (none_past (source_read c.args.syntax.now) name long named)
  ],
  λ spelled. refl,
)
