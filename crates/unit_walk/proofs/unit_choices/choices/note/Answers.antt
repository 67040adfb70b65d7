use Rattle.std.proofs.Common.{◌≡◌, ◌+◌, ◌++◌, ◌∷◌, [], ℕ, List, take, sym, ap, ◌∙◌, subst}
use Rattle.std.proofs.Math.Seq.{take-append_seam}
use Rattle.c_senses.specs.Sense.{Sense, sense_in}
use Rattle.c_results.specs.Standing.{senses_made}
use Rattle.tree_reads.specs.Sources.{source_in}
use Rattle.c_statements.specs.Labels.{AreCases, AreDefaults}
use Rattle.unit_walk.proofs.unit_choices.choices.note.Goals as goal

pub returns-clause-told : goal.returns-clause-told
returns-clause-told c = λ before after uses senses x e long told.
    let at = c.args.at in
    let old = c.args.choices.now in
    let new = c.note.new.self in
    let s = source_in c.args.syntax.now uses in
    let all = senses_made c.args.unit.now c.args.results.now in
    let front : senses ≡ take at all = sym (ap (take at) e ∙ (ap (λ (n : ℕ). take n (senses ++ x ∷ [])) (sym long) ∙ take-append_seam senses (x ∷ []))) in
    record {
      defaults = subst (λ (l : List Sense). AreDefaults after s (sense_in l) (at + 1) new.defaults) e
          (c.in_ok-note.ensures.defaults before after uses (subst (λ (l : List Sense). AreDefaults before s (sense_in l) at old.defaults) front told.defaults));
      cases = subst (λ (l : List Sense). AreCases after s (sense_in l) (at + 1) new.cases) e
          (c.in_ok-note.ensures.cases before after uses (subst (λ (l : List Sense). AreCases before s (sense_in l) at old.cases) front told.cases));
      spelled = told.spelled;
    }
