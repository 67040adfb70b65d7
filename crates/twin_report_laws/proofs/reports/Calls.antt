-- The calls of a system that don't name their function, in order of place.
use Rattle.std.proofs.Common.{◌≡◌, ℕ, suc, ◌+◌, ◌<◌, Bool, true, false, cond, List, [], ◌∷◌, ◌++◌, length, Some, slice_get, refl, sym, ◌∙◌, ap, subst, inl, inr, arith}
use Rattle.std.proofs.lemmas.Bool.{cases_lt, true≢false}
use Rattle.std.proofs.lemmas.Option.{same_Some}
use Rattle.pta_base.specs.declared.place.Place.{Place}
use Rattle.std.specs.BTreeMap.{insert_entry}
use Rattle.sol_model.specs.declared.system.CallSite.{CallSite}
use Rattle.unit_report.specs.report_text.Report.{Placed, by_place, placed, all_placed, in_order}
use Rattle.twin_report_laws.proofs.reports.Spots.{Entry, Where, spot_of, Among, InOrder, put_in_order, put_there, put_kept, put_from}

-- where a call stands
abbrev pub entry_of : CallSite → ℕ → Entry
entry_of call number = ((call.place.unit, call.place.line, call.place.column, number), number)

-- calls that don't name their function stand at different places
abbrev pub AreApart : List CallSite → Type 0
AreApart calls = (j k : ℕ) (x y : CallSite) → slice_get calls j ≡ Some x → slice_get calls k ≡ Some y → x.direct ≡ false → y.direct ≡ false → x.place ≡ y.place → j ≡ k

in_order-append : (done a b : Placed) → in_order done (a ++ b) ≡ in_order (in_order done a) b
in_order-append done [] b = refl
in_order-append done (one ∷ a) b = in_order-append (insert_entry by_place done one.0 one.1) a b

place_is : (a b : Place) → a.unit ≡ b.unit → a.line ≡ b.line → a.column ≡ b.column → a ≡ b
place_is a b e f g = λ i. record { unit = e i; line = f i; column = g i }

module _ (calls : List CallSite) where
  pub record IsEntry (below : ℕ) (e : Entry) : Type 0 where
    pub number : ℕ
    pub call : CallSite
    pub at : slice_get calls number ≡ Some call
    pub through : call.direct ≡ false
    pub low : number < below
    pub is : entry_of call number ≡ e

  -- the entries of the first so many calls, in order
  pub record ArePut (below : ℕ) (done : Placed) : Type 0 where
    pub ordered : InOrder done
    pub each : (e : Entry) → Among done e → IsEntry below e
    pub all : (j : ℕ) (call : CallSite) → j < below → slice_get calls j ≡ Some call → call.direct ≡ false → Among done (entry_of call j)

  raised : (k : ℕ) (e : Entry) → IsEntry k e → IsEntry (k + 1) e
  raised k e h = record { number = h.number; call = h.call; at = h.at; through = h.through; low = (let lt = h.low in omega arith); is = h.is }

  module _ (apart : AreApart calls) where
    new_place : (k : ℕ) (call : CallSite) (done : Placed) → slice_get calls k ≡ Some call → call.direct ≡ false → ArePut k done → (e : Entry) → Among done e → spot_of (entry_of call k) ≡ spot_of e → ⊥
    new_place k call done at through put e among same =
        let h = put.each e among in
        let one_spot : spot_of (entry_of h.call h.number) ≡ spot_of (entry_of call k) = ap spot_of h.is ∙ sym same in
        let one_place : h.call.place ≡ call.place = place_is h.call.place call.place (ap (λ (w : Where). w.unit) one_spot) (ap (λ (w : Where). w.line) one_spot) (ap (λ (w : Where). w.column) one_spot) in
        let one_number : h.number ≡ k = apart h.number k h.call call h.at at h.through through one_place in
        let lt = h.low in
        omega (arith, one_number, lt)

    one_more : (k : ℕ) (call : CallSite) (done : Placed) (b : Bool) → slice_get calls k ≡ Some call → call.direct ≡ b → ArePut k done → ArePut (k + 1) (in_order done (cond b [] (entry_of call k ∷ [])))
    one_more k call done true at direct put = record {
      ordered = put.ordered;
      each = λ e among. raised k e (put.each e among);
      all = λ j other lt there through. elim (cases_lt j k) [
        | inl below ↦ put.all j other below there through
        | inr up ↦
            let same : j ≡ k = omega (arith, lt, up) in
            let is : other ≡ call = same_Some _ _ (sym there ∙ (ap (slice_get calls) same ∙ at)) in
            absurd (true≢false (sym direct ∙ (ap (λ (c : CallSite). c.direct) (sym is) ∙ through)))
      ];
    }
    one_more k call done false at through put =
        let new = new_place k call done at through put in record {
          ordered = put_in_order (entry_of call k).0 k done new put.ordered;
          each = λ e among. elim (put_from (entry_of call k).0 k done e new among) [
            | inl same ↦ record { number = k; call = call; at = at; through = through; low = omega arith; is = same }
            | inr kept ↦ raised k e (put.each e kept)
          ];
          all = λ j other lt there other_through. elim (cases_lt j k) [
            | inl below ↦ put_kept (entry_of call k).0 k done (entry_of other j) new (put.all j other below there other_through)
            | inr up ↦
                let same : j ≡ k = omega (arith, lt, up) in
                let is : other ≡ call = same_Some _ _ (sym there ∙ (ap (slice_get calls) same ∙ at)) in
                subst (λ (c : CallSite). Among (insert_entry by_place done (entry_of call k).0 k) (entry_of c j)) (sym is)
                (subst (λ (n : ℕ). Among (insert_entry by_place done (entry_of call k).0 k) (entry_of call n)) (sym same) (put_there (entry_of call k).0 k done new))
          ];
        }

    all_put : (rest : List CallSite) (k : ℕ) (done : Placed) → ((j : ℕ) (call : CallSite) → slice_get rest j ≡ Some call → slice_get calls (k + j) ≡ Some call) → k + length rest ≡ length calls → ArePut k done
        → ArePut (length calls) (in_order done (all_placed k rest))
    all_put [] k done at count put = subst (λ (n : ℕ). ArePut n done) (omega (arith, count)) put
    all_put (call ∷ rest) k done at count put =
        let here : slice_get calls k ≡ Some call = ap (slice_get calls) (omega arith) ∙ at 0 call refl in
        let more : ArePut (k + 1) (in_order done (placed k call)) = one_more k call done call.direct here refl put in
        subst (λ (es : Placed). ArePut (length calls) es) (sym (in_order-append done (placed k call) (all_placed (k + 1) rest)))
        (all_put rest (k + 1) (in_order done (placed k call)) (λ j other there. ap (slice_get calls) (omega arith) ∙ at (suc j) other there) (omega (arith, count)) more)

    pub entries_put : ArePut (length calls) (in_order [] (all_placed 0 calls))
    entries_put = all_put calls 0 [] (λ j call there. ap (slice_get calls) (omega arith) ∙ there) (omega arith)
        (record { ordered = tt; each = λ e among. elim among [ ]; all = λ j call lt there through. absurd (omega arith) })
