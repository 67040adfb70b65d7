use Rattle.std.proofs.Common.{◌≡◌, ◌⊎◌, ℕ, zero, suc, ◌+◌, List, Some, slice_get, option_and_then, Contains, sym, ap, ◌∙◌, subst, inl, inr, arith}
use Rattle.std.proofs.lemmas.Option.{same_Some, none-some, option_and_then_some}
use Rattle.sol_model.specs.declared.system.CallSite.{CallSite}
use Rattle.sol_model.specs.Rules.{first_row, argument_row}
use Rattle.sol_model.proofs.Members.{Contains-at, at_Contains}
use Rattle.edge_book.specs.Edges.{Gains}
use Rattle.edge_book.proofs.Gaining.{gains_same, gains_none, gains_both}
use Rattle.new_members.proofs.Through.{Through, OfAll, through_none, through_next, through_all}
use Rattle.new_members.proofs.reading.put_call_readers.Goals as goal
use Rattle.new_members.proofs.reading.put_call_readers.Goals.{in-Some+in_ok-put_reader-2, in_default}

abbrev First : ℕ → List ℕ → ℕ → ℕ → Type 0
First number rows a b = (first_row rows ≡ Some a) × (b ≡ number)

pub loop-i-init : goal.loop-i-init
loop-i-init c = through_none c.call_at-site.result.now.arguments (First c.args.number) c.put_reader.new.readers

pub loop-i-preserved : goal.loop-i-preserved
loop-i-preserved c =
    let lists = c.call_at-site.result.now.arguments in
    let i : ℕ = c.loop-i.i in
    let rows = c.rows_at-rows.result.now in
    let old = c.put_reader.new.readers in
    let mid = c.loop-i.readers in
    let at : slice_get lists i ≡ Some rows = ap (λ (xs : List (List ℕ)). slice_get xs i) (sym c.as_slice.ensures) ∙ c.rows_at-rows.ensures.value in
    let P : List (ℕ × ℕ) → Type 0 = λ xs. Gains old xs (Through lists (First c.args.number) (i + 1)) in
    elim c.match-first_row.branch [
      | in-Some+in_ok-put_reader-2 w ↦ subst P (sym w.readers-is)
          (through_next lists (First c.args.number) old mid w.put_reader-in-Some.new.readers i rows c.loop-i.invariant at
          (gains_same mid w.put_reader-in-Some.new.readers (λ a b. (a ≡ w.in-Some.row) × (b ≡ c.args.number)) (First c.args.number rows)
          (λ a b h. (sym c.first_row.ensures.value ∙ w.in-Some.is ∙ ap Some (sym h.0), h.1))
          (λ a b h. (same_Some a w.in-Some.row (sym h.0 ∙ sym c.first_row.ensures.value ∙ w.in-Some.is), h.1))
          w.in_ok-put_reader-2.ensures))
      | in_default w ↦ subst P (sym w.readers-is)
          (through_next lists (First c.args.number) old mid mid i rows c.loop-i.invariant at
          (gains_none mid (First c.args.number rows) (λ a b h. none-some a (sym w.in_default.is ∙ c.first_row.ensures.value ∙ h.0))))
    ]

-- an argument's row, by its list
row_from : (site : CallSite) (k a : ℕ) → argument_row site k ≡ Some a → (rows : List ℕ) × Contains site.arguments rows × (first_row rows ≡ Some a)
row_from site zero a e = absurd (none-some a e)
row_from site (suc k) a e = option_and_then_some first_row (slice_get site.arguments k) a e (λ rows at first. (rows, Contains-at site.arguments k rows at, first))

row_to : (site : CallSite) (rows : List ℕ) (a : ℕ) → Contains site.arguments rows → first_row rows ≡ Some a → (k : ℕ) × (argument_row site k ≡ Some a)
row_to site rows a c e = let w = at_Contains site.arguments rows c in (suc w.0, ap (option_and_then first_row) w.2 ∙ e)

pub returns : goal.returns
returns c site at =
    let here : CallSite = c.call_at-site.result.now in
    let number : ℕ = c.args.number in
    let start = c.args.readers.now in
    let old = c.put_reader.new.readers in
    let new = c.loop-i.readers in
    let E : CallSite → ℕ → ℕ → Type 0 = λ s a b. ((a ≡ s.callee) ⊎ ((k : ℕ) × (argument_row s k ≡ Some a))) × (b ≡ number) in
    let One : ℕ → ℕ → Type 0 = λ a b. (a ≡ here.callee) × (b ≡ number) in
    let all = through_all here.arguments (First number) old new c.loop-i.i (let n = c.loop-i-test.false in let e = c.len-i-end.ensures in omega arith) c.loop-i.invariant in
    subst (λ (s : CallSite). Gains start new (E s)) (same_Some here site (sym c.call_at-site.ensures.value ∙ at))
    (gains_same start new (λ a b. One a b ⊎ OfAll here.arguments (First number) a b) (E here)
    (λ a b h. elim h [ inl o ↦ (inl o.0, o.1) | inr m ↦ (inr (row_to here m.0 a m.1 m.2.0), m.2.1) ])
    (λ a b h. elim h.0 [ inl o ↦ inl (o, h.1) | inr m ↦ inr (let r = row_from here m.0 a m.1 in (r.0, r.1, (r.2, h.1))) ])
    (gains_both start old new One (OfAll here.arguments (First number)) c.in_ok-put_reader.ensures all))
