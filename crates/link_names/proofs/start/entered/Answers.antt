use Rattle.std.proofs.Common.{◌≡◌, ◌∙◌, ℕ, List, Some, All, length, take, get_or, sym, ap, subst, arith}
use Rattle.std.proofs.lemmas.Bool.{false≢true}
use Rattle.std.proofs.lemmas.Option.{slice_get-get_or}
use Rattle.std.proofs.lemmas.List.{take_all}
use Rattle.std.proofs.lemmas.List.Elements.{All-more}
use Rattle.std.specs.List.{slice_get}
use Rattle.link_names.specs.Faults.{HasEntry}
use Rattle.link_names.specs.Scene.{joined_of}
use Rattle.link_names.proofs.Starting.{want_fault}
use Rattle.link_names.proofs.start.entered.Goals as goal

pub returns-then-not-has_entry : goal.returns-then-not-has_entry
returns-then-not-has_entry c =
    let j = joined_of c.args.scene.now in
    let ds = c.args.scene.now.declared.now in
    let names = c.args.entries.now in
    let i = c.loop-name.name-index in
    let name = c.as_str-then-not-has_entry.result.now in
    let own : c.as_str.result.now ≡ name = c.as_str.ensures ∙ sym c.as_str-then-not-has_entry.ensures in
    let at : slice_get names i ≡ Some name = slice_get-get_or names i c.name-item.result c.loop-name-test.true ∙ ap Some (sym (c.as_str-then-not-has_entry.ensures ∙ c.name-item.is)) in
    want_fault j ds names i name c.no_entry.result at c.loop-name.invariant (λ h. false≢true (sym c.if-not-has_entry.true ∙ c.has_entry.ensures.1 (subst (HasEntry j ds) (sym own) h))) c.no_entry.ensures

pub loop-name-preserved : goal.loop-name-preserved
loop-name-preserved c =
    let j = joined_of c.args.scene.now in
    let ds = c.args.scene.now.declared.now in
    let names = c.args.entries.now in
    All-more (HasEntry j ds) names c.loop-name.name-index c.name-item.result c.loop-name-test.true c.loop-name.invariant
    (subst (HasEntry j ds) (c.as_str.ensures ∙ c.name-item.is) (c.has_entry.ensures.0 c.if-not-has_entry.false))

pub returns : goal.returns
returns c =
    let j = joined_of c.args.scene.now in
    let ds = c.args.scene.now.declared.now in
    let names = c.args.entries.now in
    subst (λ (l : List (List ℕ)). All (HasEntry j ds) l) (take_all c.loop-name.name-index names (omega arith)) c.loop-name.invariant
