use Rattle.std.proofs.Common.{◌≡◌, List, [], sym, ap, subst, ◌∙◌}
use Rattle.c_senses.specs.Given.{Given, Fits}
use Rattle.c_senses.specs.Sense.{Sense, sense_in}
use Rattle.c_senses.specs.Declarators.{plain_declarator_row, base_type}
use Rattle.c_senses.specs.Rows.{at_its_name}
use Rattle.c_results.specs.Standing.{sense_made, senses_made}
use Rattle.c_results.proofs.Keeping.{mades_kept, made_kept}
use Rattle.core_nodes.proofs.Growing.{builds_on, knows_on}
use Rattle.tree_reads.specs.Sources.{source_in}
use Rattle.c_named.specs.Said.{AreSaid}
use Rattle.c_named.proofs.Keeping.{read_kept}
use Rattle.c_named.proofs.Judging.{row_refused, row_passed, row_stopped}
use Rattle.c_named.proofs.rows.declarator_row.Goals as goal

pub returns-in-Err-clause-row : goal.returns-in-Err-clause-row
returns-in-Err-clause-row c = λ w uses around completed said.
    let s = source_in c.args.syntax.now uses in
    let old = c.args.unit.now in
    let mid = c.plain_declarator_row.new.unit in
    let results = c.args.results.now in
    let sense = sense_in (senses_made old results) in
    let at = c.args.at in
    let children = c.args.children.now in
    row_refused w s sense at children mid mid c.in-Err.fault (c.in-Err.ensures.row w uses around)

pub returns-in-Ok-judged-clause-builds : goal.returns-in-Ok-judged-clause-builds
returns-in-Ok-judged-clause-builds c = builds_on c.args.unit.now c.plain_declarator_row.new.unit c.judged.new.unit c.in-Ok.ensures.builds c.in-Ok-judged.ensures.builds

pub returns-in-Ok-judged-clause-named : goal.returns-in-Ok-judged-clause-named
returns-in-Ok-judged-clause-named c = λ w around.
    let s = source_in c.args.syntax.now [] in
    let old = c.args.unit.now in
    let mid = c.plain_declarator_row.new.unit in
    let results = c.args.results.now in
    let at = c.args.at in
    let children = c.args.children.now in
    let b = c.in-Ok.ensures.builds in
    c.in-Ok-judged.ensures.named w [] (read_kept old mid b results c.requires.results (λ y. plain_declarator_row w s y at children) ∙ c.in-Ok.ensures.row w [] around)

pub returns-in-Ok-judged-clause-row : goal.returns-in-Ok-judged-clause-row
returns-in-Ok-judged-clause-row c = λ w uses around completed said.
    let s = source_in c.args.syntax.now uses in
    let old = c.args.unit.now in
    let mid = c.plain_declarator_row.new.unit in
    let results = c.args.results.now in
    let sense = sense_in (senses_made old results) in
    let at = c.args.at in
    let children = c.args.children.now in
    let b = c.in-Ok.ensures.builds in
    let there = sense_in (senses_made mid results) in
    let x = sense_made mid c.in-Ok.made in
    let fits = c.in-Ok.ensures.row w uses around in
    let fits_there = read_kept old mid b results c.requires.results (λ y. plain_declarator_row w s y at children) ∙ fits in
    let said_there = subst (λ (senses : List Sense). AreSaid w s (sense_in senses) children c.args.around.now.said.now) (sym (mades_kept old mid b results c.requires.results)) said in
    let here : (g : Given Sense) → at_its_name w s sense at g (base_type w s sense at) x ≡ at_its_name w s there at g (base_type w s there at) x =
    λ g. sym (read_kept old mid b results c.requires.results (λ y. at_its_name w s y at g (base_type w s y at) x)) in
    let passes = c.in-Ok-judged.ensures.row w uses (knows_on w old mid b around.knows) completed said_there fits_there in
    row_passed w s sense at children x fits (λ g. here g ∙ passes g) ∙ ap (λ (y : Sense). Fits y) (sym (made_kept mid c.judged.new.unit c.in-Ok-judged.ensures.builds c.in-Ok.made c.in-Ok.ensures.within))

pub returns-in-Err-judged-clause-builds : goal.returns-in-Err-judged-clause-builds
returns-in-Err-judged-clause-builds c = builds_on c.args.unit.now c.plain_declarator_row.new.unit c.judged.new.unit c.in-Ok.ensures.builds c.in-Err-judged.ensures.builds

pub returns-in-Err-judged-clause-row : goal.returns-in-Err-judged-clause-row
returns-in-Err-judged-clause-row c = λ w uses around completed said.
    let s = source_in c.args.syntax.now uses in
    let old = c.args.unit.now in
    let mid = c.plain_declarator_row.new.unit in
    let results = c.args.results.now in
    let sense = sense_in (senses_made old results) in
    let at = c.args.at in
    let children = c.args.children.now in
    let b = c.in-Ok.ensures.builds in
    let there = sense_in (senses_made mid results) in
    let x = sense_made mid c.in-Ok.made in
    let fits = c.in-Ok.ensures.row w uses around in
    let fits_there = read_kept old mid b results c.requires.results (λ y. plain_declarator_row w s y at children) ∙ fits in
    let said_there = subst (λ (senses : List Sense). AreSaid w s (sense_in senses) children c.args.around.now.said.now) (sym (mades_kept old mid b results c.requires.results)) said in
    let here : (g : Given Sense) → at_its_name w s sense at g (base_type w s sense at) x ≡ at_its_name w s there at g (base_type w s there at) x =
    λ g. sym (read_kept old mid b results c.requires.results (λ y. at_its_name w s y at g (base_type w s y at) x)) in
    row_stopped w s sense at children c.judged.new.unit c.in-Err-judged.fault x (λ g. at_its_name w s there at g (base_type w s there at) x) fits here
    (c.in-Err-judged.ensures.row w uses (knows_on w old mid b around.knows) completed said_there fits_there)
