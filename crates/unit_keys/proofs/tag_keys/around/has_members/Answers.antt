use Rattle.std.proofs.Common.{◌∙◌, ℕ, Bool, false, Option, Some, None, sym, ap}
use Rattle.std.specs.Prelude.{nat_lt}
use Rattle.c_senses.specs.Tree.{Source}
use Rattle.c_senses.specs.Keys.{parts_of}
use Rattle.c_senses.specs.Sense.{Sense, sense_in}
use Rattle.c_results.specs.Standing.{senses_made}
use Rattle.tree_reads.specs.Sources.{source_in}
use Rattle.unit_keys.proofs.tag_keys.around.has_members.Goals as goal

some_parts : Source → (ℕ → Sense) → Option ℕ → Bool
some_parts s sense o = elim o [ None ↦ false | Some member ↦ nat_lt 0 (parts_of s sense (sense member)) ]

pub returns-in-Some : goal.returns-in-Some
unfolding some_parts
returns-in-Some c = λ u uses.
    let s : Source = source_in c.args.syntax.now uses in
    let sense : ℕ → Sense = sense_in (senses_made u c.args.results.now) in
    ap (nat_lt 0) (c.parts_of.ensures u s sense) ∙ ap (some_parts s sense) (sym c.in-Some.is ∙ c.member_around.ensures.around uses sense)

pub returns-in-None : goal.returns-in-None
unfolding some_parts
returns-in-None c = λ u uses.
    let s : Source = source_in c.args.syntax.now uses in
    let sense : ℕ → Sense = sense_in (senses_made u c.args.results.now) in
    ap (some_parts s sense) (sym c.in-None.is ∙ c.member_around.ensures.around uses sense)
