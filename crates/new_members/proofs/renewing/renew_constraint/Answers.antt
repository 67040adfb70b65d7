use Rattle.std.proofs.Common.{◌≡◌, ℕ, Some, slice_get, sym, ◌∙◌, subst}
use Rattle.std.proofs.lemmas.Option.{same_Some}
use Rattle.sol_model.specs.declared.system.Constraint.{Constraint}
use Rattle.sol_model.specs.declared.system.Constraint.TheVariants.{Load, Store, Field, Contents, Call}
use Rattle.sol_model.specs.Families.{members}
use Rattle.sol_model.specs.Rules.{DemandsEdge, DemandsFact}
use Rattle.new_members.specs.News.{Renews, NewPointerEdge, NewFieldFact, NewContentsEdge, NewCallEdge, NewCallFact}
use Rattle.new_members.proofs.Answering.{element}
use Rattle.new_members.proofs.Renewals.{renews_from, reads_of}
use Rattle.new_members.proofs.Splitting.{load_split, store_split, field_split, contents_split, call_split, call_fact_split, pointer_sound, field_sound, contents_sound, call_sound, call_fact_sound}
use Rattle.new_members.proofs.renewing.renew_constraint.Goals as goal

pub returns-in_ok-renew_load-in-Load-clause-book : goal.returns-in_ok-renew_load-in-Load-clause-book
returns-in_ok-renew_load-in-Load-clause-book c F constraint grown at =
    let S = c.args.system.now in
    let G = members c.args.rows.now in
    let row : ℕ = c.args.news.now.row in
    let new = c.args.news.now.new.now in
    let con : Constraint = Load c.in-Load.pointer c.in-Load.to c.in-Load.ty c.in-Load.sub in
    let here : slice_get S.constraints c.args.number ≡ Some con = c.in-Load.ensures.value in
    let reads = reads_of S row c.args.number con c.requires.reader here in
    let old = c.args.book.now in
    let more = c.renew_load.new.book in
    subst (λ (x : Constraint). Renews old more (DemandsEdge S F x) (DemandsEdge S G x)) (same_Some con constraint (sym here ∙ at))
    (renews_from old more (NewPointerEdge S c.in-Load.pointer new con) (DemandsEdge S F con) (DemandsEdge S G con) ((c.in_ok-renew_load-in-Load.ensures c.in-Load.pointer c.in-Load.to c.in-Load.ty c.in-Load.sub here).gains)
    (λ a b n. pointer_sound S G row new c.requires.members c.in-Load.pointer con a b reads n)
    (λ a b d. load_split S F G row new grown c.in-Load.pointer c.in-Load.to c.in-Load.ty c.in-Load.sub a b reads d))

pub returns-in_ok-renew_store-in-Store-clause-book : goal.returns-in_ok-renew_store-in-Store-clause-book
returns-in_ok-renew_store-in-Store-clause-book c F constraint grown at =
    let S = c.args.system.now in
    let G = members c.args.rows.now in
    let row : ℕ = c.args.news.now.row in
    let new = c.args.news.now.new.now in
    let con : Constraint = Store c.in-Store.pointer c.in-Store.from c.in-Store.ty c.in-Store.sub in
    let here : slice_get S.constraints c.args.number ≡ Some con = c.in-Store.ensures.value in
    let reads = reads_of S row c.args.number con c.requires.reader here in
    let old = c.args.book.now in
    let more = c.renew_store.new.book in
    subst (λ (x : Constraint). Renews old more (DemandsEdge S F x) (DemandsEdge S G x)) (same_Some con constraint (sym here ∙ at))
    (renews_from old more (NewPointerEdge S c.in-Store.pointer new con) (DemandsEdge S F con) (DemandsEdge S G con) ((c.in_ok-renew_store-in-Store.ensures c.in-Store.pointer c.in-Store.from c.in-Store.ty c.in-Store.sub here).gains)
    (λ a b n. pointer_sound S G row new c.requires.members c.in-Store.pointer con a b reads n)
    (λ a b d. store_split S F G row new grown c.in-Store.pointer c.in-Store.from c.in-Store.ty c.in-Store.sub a b reads d))

pub returns-in_ok-renew_field-in-Field-clause-facts : goal.returns-in_ok-renew_field-in-Field-clause-facts
returns-in_ok-renew_field-in-Field-clause-facts c F constraint grown at =
    let S = c.args.system.now in
    let G = members c.args.rows.now in
    let row : ℕ = c.args.news.now.row in
    let new = c.args.news.now.new.now in
    let con : Constraint = Field c.in-Field.from c.in-Field.to c.in-Field.ty c.in-Field.member in
    let here : slice_get S.constraints c.args.number ≡ Some con = c.in-Field.ensures.value in
    let reads = reads_of S row c.args.number con c.requires.reader here in
    let old = c.args.facts.now.items in
    let more = c.renew_field.new.facts.items in
    subst (λ (x : Constraint). Renews old more (DemandsFact S F x) (DemandsFact S G x)) (same_Some con constraint (sym here ∙ at))
    (renews_from old more (NewFieldFact S c.in-Field.to c.in-Field.ty c.in-Field.member new) (DemandsFact S F con) (DemandsFact S G con) (c.in_ok-renew_field-in-Field.ensures)
    (λ a b n. field_sound S G row new c.requires.members c.in-Field.from c.in-Field.to c.in-Field.ty c.in-Field.member a b reads n)
    (λ a b d. field_split S F G row new grown c.in-Field.from c.in-Field.to c.in-Field.ty c.in-Field.member a b d))

pub returns-in_ok-renew_contents-in-Contents-clause-book : goal.returns-in_ok-renew_contents-in-Contents-clause-book
returns-in_ok-renew_contents-in-Contents-clause-book c F constraint grown at =
    let S = c.args.system.now in
    let G = members c.args.rows.now in
    let row : ℕ = c.args.news.now.row in
    let new = c.args.news.now.new.now in
    let con : Constraint = Contents c.in-Contents.to c.in-Contents.from in
    let here : slice_get S.constraints c.args.number ≡ Some con = c.in-Contents.ensures.value in
    let reads = reads_of S row c.args.number con c.requires.reader here in
    let old = c.args.book.now in
    let more = c.renew_contents.new.book in
    subst (λ (x : Constraint). Renews old more (DemandsEdge S F x) (DemandsEdge S G x)) (same_Some con constraint (sym here ∙ at))
    (renews_from old more (NewContentsEdge S G c.in-Contents.to c.in-Contents.from row new) (DemandsEdge S F con) (DemandsEdge S G con) (c.in_ok-renew_contents-in-Contents.ensures.gains)
    (λ a b n. contents_sound S G row new c.requires.members c.in-Contents.to c.in-Contents.from a b n)
    (λ a b d. contents_split S F G row new grown c.in-Contents.to c.in-Contents.from a b d))

pub returns-in_ok-renew_call-in-Call-clause-book : goal.returns-in_ok-renew_call-in-Call-clause-book
returns-in_ok-renew_call-in-Call-clause-book c F constraint grown at =
    let S = c.args.system.now in
    let G = members c.args.rows.now in
    let row : ℕ = c.args.news.now.row in
    let new = c.args.news.now.new.now in
    let con : Constraint = Call c.in-Call.call in
    let here : slice_get S.constraints c.args.number ≡ Some con = c.in-Call.ensures.value in
    let reads = reads_of S row c.args.number con c.requires.reader here in
    let site = element S.calls c.in-Call.call c.in-Call.ensures.known in
    let old = c.args.book.now in
    let more = c.renew_call.new.book in
    subst (λ (x : Constraint). Renews old more (DemandsEdge S F x) (DemandsEdge S G x)) (same_Some con constraint (sym here ∙ at))
    (renews_from old more (NewCallEdge S G site.0 c.in-Call.call row new) (DemandsEdge S F con) (DemandsEdge S G con) ((c.in_ok-renew_call-in-Call.ensures.book site.0 site.1).gains)
    (λ a b n. call_sound S G row new c.requires.members site.0 c.in-Call.call a b site.1 n)
    (λ a b d. call_split S F G row new grown site.0 c.in-Call.call a b site.1 d))

pub returns-in_ok-renew_call-in-Call-clause-facts : goal.returns-in_ok-renew_call-in-Call-clause-facts
returns-in_ok-renew_call-in-Call-clause-facts c F constraint grown at =
    let S = c.args.system.now in
    let G = members c.args.rows.now in
    let row : ℕ = c.args.news.now.row in
    let new = c.args.news.now.new.now in
    let con : Constraint = Call c.in-Call.call in
    let here : slice_get S.constraints c.args.number ≡ Some con = c.in-Call.ensures.value in
    let reads = reads_of S row c.args.number con c.requires.reader here in
    let site = element S.calls c.in-Call.call c.in-Call.ensures.known in
    let old = c.args.facts.now.items in
    let more = c.renew_call.new.facts.items in
    subst (λ (x : Constraint). Renews old more (DemandsFact S F x) (DemandsFact S G x)) (same_Some con constraint (sym here ∙ at))
    (renews_from old more (NewCallFact S site.0 row new) (DemandsFact S F con) (DemandsFact S G con) (c.in_ok-renew_call-in-Call.ensures.facts site.0 site.1)
    (λ a b n. call_fact_sound S G row new c.requires.members site.0 c.in-Call.call a b site.1 n)
    (λ a b d. call_fact_split S F G row new grown site.0 c.in-Call.call a b site.1 d))
