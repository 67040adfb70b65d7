use Rattle.std.proofs.Common.{ℕ, List, subst}
use Rattle.unit_link.specs.link_program.Merging.{AreMerged}
use Rattle.link_merge.proofs.merging.merge.Goals as goal

pub returns : goal.returns
returns c = subst (λ (s : List ℕ). AreMerged c.args.units.now s c.in_ok-types.types) c.as_slice-2.ensures.value c.in_ok-types.ensures
