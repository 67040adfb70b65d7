use Rattle.std.proofs.Common.{ℕ, List, Option, sym, subst}
use Rattle.std.proofs.lemmas.Result.{IfOk-weaker}
use Rattle.core_tree.specs.declared.node.Unit.{Unit}
use Rattle.c_senses.specs.World.{World}
use Rattle.c_senses.specs.Tree.{Source}
use Rattle.c_senses.specs.Sense.{sense_in}
use Rattle.c_results.specs.Standing.{senses_made}
use Rattle.tree_reads.specs.Sources.{source_in}
use Rattle.c_structures.specs.declared.names.MemberNames.{MemberNames}
use Rattle.c_structures.specs.Named.{SaysNames}
use Rattle.c_structures.specs.Before.{parts_before, parts_below}
use Rattle.c_structures.proofs.earlier.names_before.Goals as goal

pub returns-in-Some : goal.returns-in-Some
returns-in-Some c =
    IfOk-weaker c.names_below.result
    (λ (names : MemberNames). (u : Unit) (w : World) (s : Source) → SaysNames names (parts_below w s (sense_in (senses_made u c.args.results.now)) c.children_of.result.now c.args.below))
    (λ (names : MemberNames). (u : Unit) (w : World) (uses : List (ℕ × ℕ)) → SaysNames names (parts_before w (source_in c.args.syntax.now uses) (sense_in (senses_made u c.args.results.now)) c.args.list c.args.below))
    (λ names says u w uses.
    let s = source_in c.args.syntax.now uses in
    let sense = sense_in (senses_made u c.args.results.now) in
    subst (λ (o : Option ℕ). SaysNames names (parts_before w s sense o c.args.below)) (sym c.in-Some.is)
    (subst (λ (nodes : List ℕ). SaysNames names (parts_below w s sense nodes c.args.below)) c.children_of.ensures (says u w s)))
    c.names_below.ensures
