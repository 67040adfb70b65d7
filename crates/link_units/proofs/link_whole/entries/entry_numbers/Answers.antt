use Rattle.std.proofs.Common.{◌≡◌, ◌∙◌, ◌+◌, ℕ, List, length, take, refl, sym, subst, arith}
use Rattle.std.proofs.lemmas.List.{take_all}
use Rattle.std.proofs.lemmas.Option.{slice_get_read}
use Rattle.std.specs.List.{AllZip}
use Rattle.link_units.specs.link_whole.Entries.{IsEntryOf, HasEntryOf}
use Rattle.link_units.proofs.link_whole.Entering.{entry_more}
use Rattle.link_units.proofs.link_whole.entries.entry_numbers.Goals as goal

pub entity_named-entity-requires-clause-stands : goal.entity_named-entity-requires-clause-stands
entity_named-entity-requires-clause-stands c =
    subst (HasEntryOf c.args.entities.now) (sym (c.as_str.ensures ∙ c.name-item.is)) (c.requires c.loop-name.name-index c.name-item.result c.loop-name-test.true)

pub loop-name-preserved : goal.loop-name-preserved
loop-name-preserved c =
    let list = c.args.entities.now in
    let names = c.args.entries.now in
    let i = c.loop-name.name-index in
    let name = c.name-item.result in
    let at = slice_get_read names (length names) i name refl c.loop-name-test.true c.name-item.is in
    let own : IsEntryOf list name c.entity_named-entity.result = subst (λ (n : List ℕ). IsEntryOf list n c.entity_named-entity.result) c.as_str.ensures c.entity_named-entity.ensures in
    subst (λ (l : List ℕ). AllZip (IsEntryOf list) (take (i + 1) names) l) (sym c.in_ok-push.ensures.items) (entry_more list names i name c.loop-name.list.items c.entity_named-entity.result at c.loop-name.invariant own)

pub returns : goal.returns
returns c =
    let names = c.args.entries.now in
    subst (λ (l : List (List ℕ)). AllZip (IsEntryOf c.args.entities.now) l c.loop-name.list.items) (take_all c.loop-name.name-index names (omega (arith, c.loop-name-test.false))) c.loop-name.invariant
