use Rattle.std.proofs.Common.{◌≡◌, ◌∙◌, ◌++◌, ℕ, List, [], codes, refl, ap}
use Rattle.pta_base.specs.Kind.{name_of}
use Rattle.pta_base.specs.declared.place.Place.{Place}
use Rattle.c_senses.specs.Tree.{Source}
use Rattle.c_senses.specs.Names.{source_of, source_with}
use Rattle.c_senses.specs.Places.{own_place}
use Rattle.text_units.specs.Answers.{place_text, refusal}
use Rattle.text_units.specs.declared.fault.UnitsFault.{UnitsFault}
use Rattle.text_units.specs.Faults.{fault_of}
use Rattle.text_units.proofs.rows.kind_refusal.Goals as goal

pub returns : goal.returns
unfolding source_of
returns c =
    let at : own_place (source_with c.args.tokens.now c.args.tree.now []) c.args.node ≡ own_place (source_of c.args.tokens.now c.args.tree.now) c.args.node = refl in
    let place : c.own_place-place.result ≡ own_place (source_of c.args.tokens.now c.args.tree.now) c.args.node =
    c.own_place-place.ensures ∙ ap (λ (s : Source). own_place s c.args.node) (c.in_ok-syntax.ensures.source []) ∙ at in
    let said : List ℕ → UnitsFault = λ text. fault_of (refusal 4 (text ++ codes ": not accepted " ++ name_of c.args.kind)) in
    c.in_ok-fault.ensures ∙ ap said c.in_ok-text.ensures
    ∙ ap (λ (line : ℕ). said (place_text c.args.name.now line c.from-2.result)) c.from.ensures
    ∙ ap (λ (column : ℕ). said (place_text c.args.name.now c.own_place-place.result.line column)) c.from-2.ensures
    ∙ ap (λ (p : Place). said (place_text c.args.name.now p.line p.column)) place
