use Rattle.std.proofs.Common.{◌∙◌, ap, sym, []}
use Rattle.std.proofs.lemmas.Option.{slice_get-get_or}
use Rattle.c_types.specs.Trees.{Ctype, grow, grown}
use Rattle.c_types.specs.Parts.{field_in, within_32}
use Rattle.c_types.specs.Inside.{terms_of, table_of}
use Rattle.c_types.proofs.Read.{entry_at}
use Rattle.c_types.proofs.Lies.{as_many}
use Rattle.c_types.proofs.Fields.{structure_place, union_place, no_structure_field, no_union_field, no_field}
use Rattle.c_types.proofs.parts.field_at.Goals as goal

pub structure_field-requires-clause-positions : goal.structure_field-requires-clause-positions
structure_field-requires-clause-positions c = as_many _ _ _ c.in-Some.ensures

pub layout_for-requires-in-Union-clause-tag : goal.layout_for-requires-in-Union-clause-tag
layout_for-requires-in-Union-clause-tag c =
    let has = c.requires.right.entries_right.tagged c.args.id.0 _ (slice_get-get_or c.args.entries.now c.args.id.0 c.index-entries-id.result c.requires.id) in
    rw c.in-Union.is at has

pub returns-in-Some : goal.returns-in-Some
returns-in-Some c =
    let table = table_of c.args.entries.now c.args.tags.now c.args.completed.now in
    let types = grown [] (terms_of c.args.entries.now) in
    let e = entry_at c.args.entries.now _ c.requires.right.entries_right c.args.id.0 c.index-entries-id.result c.requires.id in
    c.structure_field.ensures
    ∙ (structure_place table c.in-Structure.tag c.in-Some.layout.now c.in-Some.ensures c.args.member
    ∙ ap (λ (t : Ctype). within_32 (field_in table t c.args.member)) (sym (e.term ∙ ap (grow types) c.in-Structure.is)))

pub returns-in-None : goal.returns-in-None
returns-in-None c =
    let table = table_of c.args.entries.now c.args.tags.now c.args.completed.now in
    let types = grown [] (terms_of c.args.entries.now) in
    let e = entry_at c.args.entries.now _ c.requires.right.entries_right c.args.id.0 c.index-entries-id.result c.requires.id in
    no_structure_field table c.in-Structure.tag c.args.member c.in-None.ensures
    ∙ ap (λ (t : Ctype). within_32 (field_in table t c.args.member)) (sym (e.term ∙ ap (grow types) c.in-Structure.is))

pub returns-in-Some-layout_for : goal.returns-in-Some-layout_for
returns-in-Some-layout_for c =
    let table = table_of c.args.entries.now c.args.tags.now c.args.completed.now in
    let types = grown [] (terms_of c.args.entries.now) in
    let e = entry_at c.args.entries.now _ c.requires.right.entries_right c.args.id.0 c.index-entries-id.result c.requires.id in
    c.union_field.ensures
    ∙ (union_place table c.in-Union.tag c.in-Some-layout_for.layout.now c.in-Some-layout_for.ensures c.args.member
    ∙ ap (λ (t : Ctype). within_32 (field_in table t c.args.member)) (sym (e.term ∙ ap (grow types) c.in-Union.is)))

pub returns-in-None-layout_for : goal.returns-in-None-layout_for
returns-in-None-layout_for c =
    let table = table_of c.args.entries.now c.args.tags.now c.args.completed.now in
    let types = grown [] (terms_of c.args.entries.now) in
    let e = entry_at c.args.entries.now _ c.requires.right.entries_right c.args.id.0 c.index-entries-id.result c.requires.id in
    no_union_field table c.in-Union.tag c.args.member c.in-None-layout_for.ensures
    ∙ ap (λ (t : Ctype). within_32 (field_in table t c.args.member)) (sym (e.term ∙ ap (grow types) c.in-Union.is))

pub returns-in_default : goal.returns-in_default
returns-in_default c =
    let table = table_of c.args.entries.now c.args.tags.now c.args.completed.now in
    let types = grown [] (terms_of c.args.entries.now) in
    let e = entry_at c.args.entries.now _ c.requires.right.entries_right c.args.id.0 c.index-entries-id.result c.requires.id in
    no_field table types _ c.args.member c.in_default.not-Structure c.in_default.not-Union
    ∙ ap (λ (t : Ctype). within_32 (field_in table t c.args.member)) (sym e.term)
