use Rattle.std.proofs.Common.{◌≡◌, List, Option, get_or, sym, ◌∙◌, subst}
use Rattle.c_senses.specs.Sense.{Sense, sense_in}
use Rattle.c_senses.specs.Specifiers as spec
use Rattle.c_senses.specs.World.{Meaning}
use Rattle.core_nodes.proofs.Growing.{builds_on}
use Rattle.c_declarators.specs.Named.{IsNamed}
use Rattle.c_results.specs.Standing.{senses_made, Rowed}
use Rattle.c_results.proofs.Keeping.{mades_kept}
use Rattle.tree_reads.specs.Sources.{source_in}
use Rattle.unit_walk.proofs.unit_rows.names.type_specifier.Goals as goal

pub type_row-requires-clause-named : goal.type_row-requires-clause-named
type_row-requires-clause-named c = c.type_meant.ensures.within c.meaning_at.new.unit c.in_ok-meaning.ensures.within

pub returns-clause-builds : goal.returns-clause-builds
returns-clause-builds c = builds_on c.args.unit.now c.meaning_at.new.unit c.type_row.new.unit c.in_ok-meaning.ensures.builds c.type_row.ensures.builds

pub returns-clause-row : goal.returns-clause-row
returns-clause-row c w uses pairs means =
    let mid = c.meaning_at.new.unit in
    let rs = c.args.results.now in
    let s = source_in c.args.syntax.now uses in
    let xs = c.args.children.now in
    let same : senses_made mid rs ≡ senses_made c.args.unit.now rs = mades_kept c.args.unit.now mid c.in_ok-meaning.ensures.builds rs c.requires.results in
    let named : IsNamed mid c.type_meant.result (w.meaning (get_or xs 0 0)) =
    subst (λ (o : Option Meaning). IsNamed mid c.type_meant.result o) (c.in_ok-meaning.ensures.made uses pairs ∙ sym (means (get_or xs 0 0))) (c.type_meant.ensures.named mid) in
    subst (λ (t : List Sense). Rowed c.type_row.new.unit c.type_row.result (spec.type_row w s (sense_in t) c.args.at xs)) same (c.type_row.ensures.row w uses named)
