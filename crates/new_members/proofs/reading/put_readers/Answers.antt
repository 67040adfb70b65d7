use Rattle.std.proofs.Common.{◌≡◌, ◌⊎◌, ℕ, Some, slice_get, sym, ◌∙◌, subst, inl, inr}
use Rattle.std.proofs.lemmas.Option.{same_Some}
use Rattle.edge_book.proofs.Gaining.{gains_same, gains_both}
use Rattle.sol_model.specs.declared.system.CallSite.{CallSite}
use Rattle.sol_model.specs.declared.system.Constraint.{Constraint}
use Rattle.sol_model.specs.declared.system.Constraint.TheVariants.{Load, Store, Field, Contents, Call}
use Rattle.sol_model.specs.Rules.{argument_row}
use Rattle.new_members.specs.News.{IsReader}
use Rattle.new_members.proofs.Answering.{element}
use Rattle.new_members.proofs.Renewals.{reads_of}
use Rattle.new_members.proofs.reading.put_readers.Goals as goal

pub returns-in_ok-put_reader-in-Load : goal.returns-in_ok-put_reader-in-Load
returns-in_ok-put_reader-in-Load c =
    let S = c.args.system.now in
    let number : ℕ = c.args.number in
    let con : Constraint = Load c.in-Load.pointer c.in-Load.to c.in-Load.ty c.in-Load.sub in
    let at : slice_get S.constraints number ≡ Some con = c.in-Load.ensures.value in
    gains_same c.args.readers.now c.put_reader.new.readers (λ a b. (a ≡ c.in-Load.pointer) × (b ≡ number)) (λ a b. IsReader S a number × (b ≡ number))
    (λ a b h. ((con, at, h.0), h.1))
    (λ a b h. (reads_of S a number con h.0 at, h.1))
    c.in_ok-put_reader-in-Load.ensures

pub returns-in_ok-put_reader-in-Store : goal.returns-in_ok-put_reader-in-Store
returns-in_ok-put_reader-in-Store c =
    let S = c.args.system.now in
    let number : ℕ = c.args.number in
    let con : Constraint = Store c.in-Store.pointer c.in-Store.from c.in-Store.ty c.in-Store.sub in
    let at : slice_get S.constraints number ≡ Some con = c.in-Store.ensures.value in
    gains_same c.args.readers.now c.put_reader-in-Store.new.readers (λ a b. (a ≡ c.in-Store.pointer) × (b ≡ number)) (λ a b. IsReader S a number × (b ≡ number))
    (λ a b h. ((con, at, h.0), h.1))
    (λ a b h. (reads_of S a number con h.0 at, h.1))
    c.in_ok-put_reader-in-Store.ensures

pub returns-in_ok-put_reader-in-Field : goal.returns-in_ok-put_reader-in-Field
returns-in_ok-put_reader-in-Field c =
    let S = c.args.system.now in
    let number : ℕ = c.args.number in
    let con : Constraint = Field c.in-Field.from c.in-Field.to c.in-Field.ty c.in-Field.member in
    let at : slice_get S.constraints number ≡ Some con = c.in-Field.ensures.value in
    gains_same c.args.readers.now c.put_reader-in-Field.new.readers (λ a b. (a ≡ c.in-Field.from) × (b ≡ number)) (λ a b. IsReader S a number × (b ≡ number))
    (λ a b h. ((con, at, h.0), h.1))
    (λ a b h. (reads_of S a number con h.0 at, h.1))
    c.in_ok-put_reader-in-Field.ensures

pub returns-in_ok-put_reader-in-Contents-2 : goal.returns-in_ok-put_reader-in-Contents-2
returns-in_ok-put_reader-in-Contents-2 c =
    let S = c.args.system.now in
    let number : ℕ = c.args.number in
    let con : Constraint = Contents c.in-Contents.to c.in-Contents.from in
    let at : slice_get S.constraints number ≡ Some con = c.in-Contents.ensures.value in
    let old = c.args.readers.now in
    let mid = c.put_reader-in-Contents.new.readers in
    let new = c.put_reader-in-Contents-2.new.readers in
    let One : ℕ → ℕ → Type 0 = λ a b. (a ≡ c.in-Contents.to) × (b ≡ number) in
    let Two : ℕ → ℕ → Type 0 = λ a b. (a ≡ c.in-Contents.from) × (b ≡ number) in
    gains_same old new (λ a b. One a b ⊎ Two a b) (λ a b. IsReader S a number × (b ≡ number))
    (λ a b h. elim h [ inl x ↦ ((con, at, inl x.0), x.1) | inr x ↦ ((con, at, inr x.0), x.1) ])
    (λ a b h. elim (reads_of S a number con h.0 at) [ inl x ↦ inl (x, h.1) | inr x ↦ inr (x, h.1) ])
    (gains_both old mid new One Two c.in_ok-put_reader-in-Contents.ensures c.in_ok-put_reader-in-Contents-2.ensures)

pub returns-in_ok-put_call_readers-in-Call : goal.returns-in_ok-put_call_readers-in-Call
returns-in_ok-put_call_readers-in-Call c =
    let S = c.args.system.now in
    let number : ℕ = c.args.number in
    let con : Constraint = Call c.in-Call.call in
    let at : slice_get S.constraints number ≡ Some con = c.in-Call.ensures.value in
    let site = element S.calls c.in-Call.call c.in-Call.ensures.known in
    let call : CallSite = site.0 in
    let Of : CallSite → ℕ → Type 0 = λ s a. (a ≡ s.callee) ⊎ ((k : ℕ) × (argument_row s k ≡ Some a)) in
    gains_same c.args.readers.now c.put_call_readers.new.readers (λ a b. Of call a × (b ≡ number)) (λ a b. IsReader S a number × (b ≡ number))
    (λ a b h. ((con, at, (call, site.1, h.0)), h.1))
    (λ a b h. let r = reads_of S a number con h.0 at in (subst (λ (s : CallSite). Of s a) (same_Some r.0 call (sym r.1 ∙ site.1)) r.2, h.1))
    (c.in_ok-put_call_readers-in-Call.ensures call site.1)
