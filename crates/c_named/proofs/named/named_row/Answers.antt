use Rattle.std.proofs.Common.{ℕ, Bool, ◌≡◌, ◌||◌, Option, refl, sym, ap, ◌∙◌}
use Rattle.std.specs.Prelude.{is_some}
use Rattle.c_types.specs.Trees.{Ctype}
use Rattle.c_senses.specs.Entities as spec
use Rattle.core_nodes.proofs.Growing.{knows_on}
use Rattle.c_named.proofs.Judging.{passes_same, named_words, named_apart, named_incomplete, named_passed}
use Rattle.c_named.proofs.named.named_row.Goals as goal
use Rattle.c_types.specs.Table.{type_of}
use Rattle.c_senses.specs.Sense.{sense_in}
use Rattle.c_results.specs.Standing.{senses_made}
use Rattle.tree_reads.specs.Sources.{source_in}

pub returns-then-not-words_go-clause-row : goal.returns-then-not-words_go-clause-row
returns-then-not-words_go-clause-row c = λ w uses knows completed said g.
    let s = source_in c.args.syntax.now uses in
    let old = c.args.unit.now in
    let sense = sense_in (senses_made old c.args.results.now) in
    let at = c.args.declared.at in
    let leaf = c.args.declared.leaf in
    let t = type_of old.types c.args.declared.ty.0 in
    let i = c.is_some-initialised.result in
    let is : i ≡ is_some (spec.initialiser_of s sense at) = c.is_some-initialised.ensures ∙ ap (λ (o : Option ℕ). is_some o) (c.initialiser_of.ensures sense) in
    named_words w s sense at leaf t i (i || spec.is_defined s sense leaf) is refl (c.if-not-words_go.ensures old w uses said) g

pub returns-then-not-branch-clause-row : goal.returns-then-not-branch-clause-row
returns-then-not-branch-clause-row c = λ w uses knows completed said g.
    let s = source_in c.args.syntax.now uses in
    let old = c.args.unit.now in
    let sense = sense_in (senses_made old c.args.results.now) in
    let at = c.args.declared.at in
    let leaf = c.args.declared.leaf in
    let t = type_of old.types c.args.declared.ty.0 in
    let i = c.is_some-initialised.result in
    let is : i ≡ is_some (spec.initialiser_of s sense at) = c.is_some-initialised.ensures ∙ ap (λ (o : Option ℕ). is_some o) (c.initialiser_of.ensures sense) in
    let d = c.either-defined.result in
    let defined : d ≡ (i || spec.is_defined s sense leaf) = c.either-defined.ensures ∙ ap (λ (b : Bool). i || b) (c.is_defined-body.ensures sense) in
    let words = c.if-not-words_go.ensures old w uses said in
    named_apart w s sense at leaf t i d is defined words (sym c.if-not-branch.true ∙ c.in_ok-agrees_before.ensures.agrees w uses leaf said) g

pub returns-then-not-is_name_complete-clause-row : goal.returns-then-not-is_name_complete-clause-row
returns-then-not-is_name_complete-clause-row c = λ w uses knows completed said g.
    let s = source_in c.args.syntax.now uses in
    let old = c.args.unit.now in
    let sense = sense_in (senses_made old c.args.results.now) in
    let at = c.args.declared.at in
    let leaf = c.args.declared.leaf in
    let t = type_of old.types c.args.declared.ty.0 in
    let i = c.is_some-initialised.result in
    let is : i ≡ is_some (spec.initialiser_of s sense at) = c.is_some-initialised.ensures ∙ ap (λ (o : Option ℕ). is_some o) (c.initialiser_of.ensures sense) in
    let d = c.either-defined.result in
    let defined : d ≡ (i || spec.is_defined s sense leaf) = c.either-defined.ensures ∙ ap (λ (b : Bool). i || b) (c.is_defined-body.ensures sense) in
    let words = c.if-not-words_go.ensures old w uses said in
    let mid = c.agrees_before.new.unit in
    let b = c.in_ok-agrees_before.ensures.builds in
    let there = knows_on w old mid b knows in
    let agrees = sym c.if-not-branch.false ∙ c.in_ok-agrees_before.ensures.agrees w uses leaf said in
    let complete = c.if-not-is_name_complete.ensures old w uses there completed said ∙ ap (λ (x : Ctype). spec.is_name_complete w s sense i x leaf) (b.types c.args.declared.ty.0 c.requires.ty) in
    named_incomplete w s sense at leaf t i d is defined words agrees complete g

pub returns-clause-row : goal.returns-clause-row
returns-clause-row c = λ w uses knows completed said.
    let s = source_in c.args.syntax.now uses in
    let old = c.args.unit.now in
    let sense = sense_in (senses_made old c.args.results.now) in
    let at = c.args.declared.at in
    let leaf = c.args.declared.leaf in
    let t = type_of old.types c.args.declared.ty.0 in
    let i = c.is_some-initialised.result in
    let is : i ≡ is_some (spec.initialiser_of s sense at) = c.is_some-initialised.ensures ∙ ap (λ (o : Option ℕ). is_some o) (c.initialiser_of.ensures sense) in
    let d = c.either-defined.result in
    let defined : d ≡ (i || spec.is_defined s sense leaf) = c.either-defined.ensures ∙ ap (λ (b : Bool). i || b) (c.is_defined-body.ensures sense) in
    let words = c.if-not-words_go.ensures old w uses said in
    let mid = c.agrees_before.new.unit in
    let b = c.in_ok-agrees_before.ensures.builds in
    let there = knows_on w old mid b knows in
    let agrees = sym c.if-not-branch.false ∙ c.in_ok-agrees_before.ensures.agrees w uses leaf said in
    let complete = c.if-not-is_name_complete.ensures old w uses there completed said ∙ ap (λ (x : Ctype). spec.is_name_complete w s sense i x leaf) (b.types c.args.declared.ty.0 c.requires.ty) in
    passes_same c.definition_row.result (spec.definition_row w s sense (type_of mid.types c.args.declared.ty.0) leaf) (spec.named_row w s sense at leaf t)
    (λ g. named_passed w s sense at leaf t i d is defined words agrees complete g ∙ sym (ap (λ (x : Ctype). spec.definition_row w s sense x leaf g) (b.types c.args.declared.ty.0 c.requires.ty)))
    (c.definition_row.ensures old w uses there)
