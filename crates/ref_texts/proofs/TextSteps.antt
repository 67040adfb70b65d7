-- Reading and comparing texts, one character more.
use Rattle.std.proofs.Common.{◌≡◌, ℕ, suc, ◌+◌, ◌-◌, ◌<◌, ◌++◌, ℤ, List, [], ◌∷◌, Option, Some, None, Result, Ok, Err, refl, sym, ap, ◌∙◌, arith}
use Rattle.std.proofs.lemmas.List.{append_assoc, append-nil}
use Rattle.ref_cells.specs.declared.cells.Reason.{Reason}
use Rattle.ref_cells.specs.declared.cells.MemFault.{MemFault}
use Rattle.ref_cells.specs.declared.cells.MemFault.TheVariants.{Stop, OutOfMemory}
use Rattle.ref_cells.specs.Answers.{Fails}
use Rattle.ref_texts.specs.Reading.{push_char, text_on, text_from, compare_on, compared}

-- a text with characters in front
abbrev pub with_front : List ℤ → Result (List ℤ) Reason → Result (List ℤ) Reason
with_front front (Err reason) = Err reason
with_front front (Ok text) = Ok (front ++ text)

pub front_none : (r : Result (List ℤ) Reason) → with_front [] r ≡ r
front_none (Err reason) = refl
front_none (Ok text) = refl

text_more : (at : ℕ → Result (Option ℤ) Reason) (end : Result (List ℤ) Reason) (k n : ℕ) → k < n → text_from at end (n - k) k ≡ text_on (at k) (text_from at end (n - (k + 1)) (k + 1))
unfolding text_from
text_more at end k n lt = let e : n - k ≡ suc (n - (k + 1)) = omega arith in ap (λ (m : ℕ). text_from at end m k) e

text_none : (at : ℕ → Result (Option ℤ) Reason) (end : Result (List ℤ) Reason) (k n : ℕ) → n ≡ k → text_from at end (n - k) k ≡ end
unfolding text_from
text_none at end k n e = let z : n - k ≡ 0 = omega arith in ap (λ (m : ℕ). text_from at end m k) z

-- what a loop over a text still has to read, behind what it has read
pub record Reads (at : ℕ → Result (Option ℤ) Reason) (end : Result (List ℤ) Reason) (k n : ℕ) (front : List ℤ) (whole : Result (List ℤ) Reason) : Type 0 where
  pub is : with_front front (text_from at end (n - k) k) ≡ whole

pub text_fails : (at : ℕ → Result (Option ℤ) Reason) (end : Result (List ℤ) Reason) (k n : ℕ) (front : List ℤ) (whole : Result (List ℤ) Reason) (e : MemFault) → k < n → Reads at end k n front whole → Fails e (at k) → Fails e whole
text_fails at end k n front whole OutOfMemory lt inv h = tt
text_fails at end k n front whole (Stop reason) lt inv h =
    sym inv.is ∙ ap (with_front front) (text_more at end k n lt ∙ ap (λ (r : Result (Option ℤ) Reason). text_on r (text_from at end (n - (k + 1)) (k + 1))) h)

pub text_ends : (at : ℕ → Result (Option ℤ) Reason) (end : Result (List ℤ) Reason) (k n : ℕ) (front : List ℤ) (whole : Result (List ℤ) Reason) → k < n → Reads at end k n front whole → at k ≡ Ok None → whole ≡ Ok front
text_ends at end k n front whole lt inv h =
    let rest = text_from at end (n - (k + 1)) (k + 1) in
    sym inv.is ∙ ap (with_front front) (text_more at end k n lt ∙ ap (λ (r : Result (Option ℤ) Reason). text_on r rest) h) ∙ ap (λ (xs : List ℤ). let r : Result (List ℤ) Reason = Ok xs in r) (append-nil front)

pub text_all : (at : ℕ → Result (Option ℤ) Reason) (k n : ℕ) (front : List ℤ) (whole : Result (List ℤ) Reason) → n ≡ k → Reads at (Ok []) k n front whole → whole ≡ Ok front
text_all at k n front whole e inv = sym inv.is ∙ ap (with_front front) (text_none at (Ok []) k n e) ∙ ap (λ (xs : List ℤ). let r : Result (List ℤ) Reason = Ok xs in r) (append-nil front)

pushed : (front : List ℤ) (c : ℤ) (rest : Result (List ℤ) Reason) → with_front (front ++ c ∷ []) rest ≡ with_front front (push_char c rest)
pushed front c (Err reason) = refl
pushed front c (Ok text) = ap (λ (xs : List ℤ). let r : Result (List ℤ) Reason = Ok xs in r) (append_assoc front (c ∷ []) text)

pub text_goes : (at : ℕ → Result (Option ℤ) Reason) (end : Result (List ℤ) Reason) (k n : ℕ) (front new : List ℤ) (whole : Result (List ℤ) Reason) (c : ℤ) → k < n → Reads at end k n front whole → at k ≡ Ok (Some c) → new ≡ front ++ c ∷ [] → Reads at end (k + 1) n new whole
text_goes at end k n front new whole c lt inv h longer = record {
  is =
      let rest = text_from at end (n - (k + 1)) (k + 1) in
      let on : text_from at end (n - k) k ≡ push_char c rest = text_more at end k n lt ∙ ap (λ (r : Result (Option ℤ) Reason). text_on r rest) h in
      ap (λ (xs : List ℤ). with_front xs rest) longer ∙ pushed front c rest ∙ ap (with_front front) (sym on) ∙ inv.is;
}

pub text_begins : (at : ℕ → Result (Option ℤ) Reason) (end : Result (List ℤ) Reason) (n : ℕ) (front : List ℤ) → front ≡ [] → Reads at end 0 n front (text_from at end n 0)
text_begins at end n front none = record {
  is =
      ap (λ (xs : List ℤ). with_front xs (text_from at end (n - 0) 0)) none
      ∙ front_none (text_from at end (n - 0) 0)
      ∙ (let e : n - 0 ≡ n = omega arith in ap (λ (m : ℕ). text_from at end m 0) e);
}

compare_more : (at : ℕ → Result (Option ℤ) Reason) (end : Result ℤ Reason) (k n : ℕ) → k < n → compared at end (n - k) k ≡ compare_on (at k) (compared at end (n - (k + 1)) (k + 1))
unfolding compared
compare_more at end k n lt = let e : n - k ≡ suc (n - (k + 1)) = omega arith in ap (λ (m : ℕ). compared at end m k) e

compare_none : (at : ℕ → Result (Option ℤ) Reason) (end : Result ℤ Reason) (k n : ℕ) → n ≡ k → compared at end (n - k) k ≡ end
unfolding compared
compare_none at end k n e = let z : n - k ≡ 0 = omega arith in ap (λ (m : ℕ). compared at end m k) z

-- what a loop over two texts still has to compare
pub record Compares (at : ℕ → Result (Option ℤ) Reason) (end : Result ℤ Reason) (k n : ℕ) (whole : Result ℤ Reason) : Type 0 where
  pub is : compared at end (n - k) k ≡ whole

pub compare_begins : (at : ℕ → Result (Option ℤ) Reason) (end : Result ℤ Reason) (n : ℕ) → Compares at end 0 n (compared at end n 0)
compare_begins at end n = record { is = (let e : n - 0 ≡ n = omega arith in ap (λ (m : ℕ). compared at end m 0) e) }

pub compare_fails : (at : ℕ → Result (Option ℤ) Reason) (end : Result ℤ Reason) (k n : ℕ) (whole : Result ℤ Reason) (e : MemFault) → k < n → Compares at end k n whole → Fails e (at k) → Fails e whole
compare_fails at end k n whole OutOfMemory lt inv h = tt
compare_fails at end k n whole (Stop reason) lt inv h =
    sym inv.is ∙ compare_more at end k n lt ∙ ap (λ (r : Result (Option ℤ) Reason). compare_on r (compared at end (n - (k + 1)) (k + 1))) h

pub compare_ends : (at : ℕ → Result (Option ℤ) Reason) (end : Result ℤ Reason) (k n : ℕ) (whole : Result ℤ Reason) (x : ℤ) → k < n → Compares at end k n whole → at k ≡ Ok (Some x) → whole ≡ Ok x
compare_ends at end k n whole x lt inv h =
    sym inv.is ∙ compare_more at end k n lt ∙ ap (λ (r : Result (Option ℤ) Reason). compare_on r (compared at end (n - (k + 1)) (k + 1))) h

pub compare_goes : (at : ℕ → Result (Option ℤ) Reason) (end : Result ℤ Reason) (k n : ℕ) (whole : Result ℤ Reason) → k < n → Compares at end k n whole → at k ≡ Ok None → Compares at end (k + 1) n whole
compare_goes at end k n whole lt inv h = record {
  is = sym (compare_more at end k n lt ∙ ap (λ (r : Result (Option ℤ) Reason). compare_on r (compared at end (n - (k + 1)) (k + 1))) h) ∙ inv.is;
}

pub compare_all : (at : ℕ → Result (Option ℤ) Reason) (end : Result ℤ Reason) (k n : ℕ) (whole : Result ℤ Reason) → n ≡ k → Compares at end k n whole → whole ≡ end
compare_all at end k n whole e inv = sym inv.is ∙ compare_none at end k n e
