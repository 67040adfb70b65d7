use Rattle.std.proofs.Common.{◌∙◌, ◌++◌, ◌≡◌, ℕ, List, Result, Ok, Err, OnOk, sym, ap, subst}
use Rattle.core_nodes.specs.declared.fault.CheckFault.{CheckFault}
use Rattle.tree_reads.specs.Sources.{source_read}
use Rattle.c_check.specs.declared.known_tags.known.Meaning.{Meaning}
use Rattle.c_check.specs.known_tags.Own.{AreUnder}
use Rattle.c_check.proofs.expression.add_values.Goals as goal

-- what was put there is known otherwise
put_as : (A : Type 0) (r : Result A CheckFault) (old new xs : List (ℕ × Meaning)) (P : Type 0) → OnOk r (new ≡ old ++ xs) → (new ≡ old ++ xs → P) → OnOk r P
put_as A (Ok x) old new xs P e f = f e
put_as A (Err e) old new xs P h f = h

pub returns-clause-added : goal.returns-clause-added
returns-clause-added c =
    let s = source_read c.args.walked.now.ground.numbered.syntax in
    let under : AreUnder s c.args.node c.as_slice.result.now = subst (AreUnder s c.args.node) (sym c.as_slice.ensures.value) c.in_ok-flags.ensures.under in
    put_as _ c.append.result c.args.pairs.now.items c.append.new.list.items c.as_slice-2.result.now _ c.append.ensures.ok
    (λ put u list given. put ∙ ap (λ (l : List (ℕ × Meaning)). c.args.pairs.now.items ++ l) (c.as_slice-2.ensures.value ∙ c.in_ok-values.ensures.values u list given under))
