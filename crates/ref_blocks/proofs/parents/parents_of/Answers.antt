-- All nodes are looked at.
use Rattle.std.proofs.Common.{arith, ℕ, List, Option, sym, subst}
use Rattle.std.proofs.lemmas.List.{take_at}
use Rattle.ref_blocks.specs.Parents.{AreParents}
use Rattle.ref_blocks.proofs.parents.parents_of.Goals as goal

pub returns : goal.returns
returns c = subst (λ (w : List (Option ℕ)). AreParents c.args.nodes.now w) (sym (take_at c.note_all.new.parents _ _ (omega arith))) c.note_all.ensures
