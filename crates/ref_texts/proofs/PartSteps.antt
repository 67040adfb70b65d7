-- Writing texts, one character more.
use Rattle.std.proofs.Common.{◌≡◌, ℕ, zero, suc, ◌+◌, ◌-◌, ◌<◌, ◌≤◌, ◌/◌, ◌++◌, ℤ, pos, List, [], ◌∷◌, Option, Some, None, Result, Ok, Err, length, drop, get_or, slice_get, refl, sym, ap, ◌∙◌, inl, inr, arith}
use Rattle.std.proofs.lemmas.Option.{slice_get_cases}
use Rattle.std.proofs.lemmas.List.{append_assoc, append-nil, drop_more, drop_all}
use Rattle.c_types.specs.declared.term.PathStep.{PathStep}
use Rattle.c_types.specs.declared.term.PathStep.TheVariants.{Index}
use Rattle.c_types.specs.Table.{Table}
use Rattle.ref_cells.specs.declared.cells.Reason.{Reason}
use Rattle.ref_cells.specs.declared.cells.Cell.{Cell}
use Rattle.ref_cells.specs.declared.cells.Cell.TheVariants.{Number}
use Rattle.ref_cells.specs.declared.cells.MemFault.{MemFault}
use Rattle.ref_cells.specs.declared.cells.MemFault.TheVariants.{Stop, OutOfMemory}
use Rattle.ref_cells.specs.declared.instance.Instance.{Instance}
use Rattle.ref_cells.specs.Answers.{Fails}
use Rattle.ref_cells.specs.Cells.{CellList}
use Rattle.ref_cells.specs.Order.{IsBeforeAll, IsOrdered}
use Rattle.ref_mem.specs.Writes.{changed, character_part}
use Rattle.ref_elements.specs.Parts.{Parts}
use Rattle.ref_texts.specs.Reading.{place_at}
use Rattle.ref_texts.specs.Writing.{push_text, text_parts, filled_up, text_cells, byte_of, bytes_on, bytes_of}

pub changed_past : (memory : List Instance) (i : ℕ) (change : Instance → Instance) → length memory ≤ i → changed memory i (slice_get memory i) change ≡ memory
changed_past memory i change le =
    elim (slice_get_cases memory i).1 [
      | inl there ↦ (let lt = there.1 in absurd (omega arith))
      | inr past ↦ ap (λ (o : Option Instance). changed memory i o change) past.1
    ]

-- parts, with more behind
abbrev pub with_more : Parts → Result Parts Reason → Result Parts Reason
with_more parts (Ok more) = Ok (parts ++ more)
with_more parts (Err reason) = Err reason

more_none : (r : Result Parts Reason) → with_more [] r ≡ r
more_none (Err reason) = refl
more_none (Ok parts) = refl

-- what a loop over a text still has to write, behind what it has written
pub record Writes (table : Table) (memory : List Instance) (place : Cell) (k : ℕ) (text : List ℤ) (front : Parts) (whole : Result Parts Reason) : Type 0 where
  pub is : with_more front (text_parts table memory place k text) ≡ whole

pub write_begins : (table : Table) (memory : List Instance) (place : Cell) (k next : ℕ) (text same : List ℤ) (front : Parts) → front ≡ [] → next ≡ k → same ≡ text → Writes table memory place next same front (text_parts table memory place k text)
write_begins table memory place k next text same front none here e = record {
  is =
      ap (λ (ps : Parts). with_more ps (text_parts table memory place next same)) none
      ∙ more_none (text_parts table memory place next same)
      ∙ ap (λ (m : ℕ). text_parts table memory place m same) here
      ∙ ap (text_parts table memory place k) e;
}

pub write_ends : (table : Table) (memory : List Instance) (place : Cell) (k : ℕ) (text : List ℤ) (front : Parts) (whole : Result Parts Reason) → Writes table memory place k text front whole → text ≡ [] → whole ≡ Ok front
write_ends table memory place k text front whole inv none =
    sym inv.is ∙ ap (λ (xs : List ℤ). with_more front (text_parts table memory place k xs)) none ∙ ap (λ (ps : Parts). let r : Result Parts Reason = Ok ps in r) (append-nil front)

pub write_fails : (table : Table) (memory : List Instance) (place : Cell) (k : ℕ) (text more : List ℤ) (c : ℤ) (front : Parts) (whole : Result Parts Reason) (e : MemFault) → Writes table memory place k text front whole → text ≡ c ∷ more → Fails e (character_part table memory (place_at place k) c) → Fails e whole
write_fails table memory place k text more c front whole OutOfMemory inv here h = tt
write_fails table memory place k text more c front whole (Stop reason) inv here h =
    sym inv.is ∙ ap (λ (xs : List ℤ). with_more front (text_parts table memory place k xs)) here ∙ ap (λ (p : Result (List PathStep × CellList) Reason). with_more front (push_text p (text_parts table memory place (k + 1) more))) h

pushed : (front : Parts) (part : List PathStep × CellList) (rest : Result Parts Reason) → with_more (front ++ part ∷ []) rest ≡ with_more front (push_text (Ok part) rest)
pushed front part (Err reason) = refl
pushed front part (Ok more) = ap (λ (ps : Parts). let r : Result Parts Reason = Ok ps in r) (append_assoc front (part ∷ []) more)

pub write_goes : (table : Table) (memory : List Instance) (place : Cell) (k next : ℕ) (text more : List ℤ) (c : ℤ) (part : List PathStep × CellList) (front new : Parts) (whole : Result Parts Reason) → Writes table memory place k text front whole → text ≡ c ∷ more → character_part table memory (place_at place k) c ≡ Ok part → new ≡ front ++ part ∷ [] → next ≡ k + 1 → Writes table memory place next more new whole
write_goes table memory place k next text more c part front new whole inv here h longer then = record {
  is =
      let rest = text_parts table memory place (k + 1) more in
      ap (λ (ps : Parts). with_more ps (text_parts table memory place next more)) longer
      ∙ ap (λ (m : ℕ). with_more (front ++ part ∷ []) (text_parts table memory place m more)) then
      ∙ pushed front part rest
      ∙ ap (λ (p : Result (List PathStep × CellList) Reason). with_more front (push_text p rest)) (sym h)
      ∙ ap (λ (xs : List ℤ). with_more front (text_parts table memory place k xs)) (sym here)
      ∙ inv.is;
}

filled_on : (m i : ℕ) (text : List ℤ) → filled_up (suc m) (drop i text) ≡ get_or text i (pos 0) ∷ filled_up m (drop (i + 1) text)
filled_on m zero [] = refl
filled_on m (suc i) [] = let e : suc i + 1 ≡ suc (i + 1) = omega arith in rw e refl
filled_on m zero (c ∷ text) = refl
filled_on m (suc i) (c ∷ text) = let e : suc i + 1 ≡ suc (i + 1) = omega arith in rw e (filled_on m i text)

pub filled_more : (n i : ℕ) (text : List ℤ) → i < n → filled_up (n - i) (drop i text) ≡ get_or text i (pos 0) ∷ filled_up (n - (i + 1)) (drop (i + 1) text)
filled_more n i text lt = let e : n - i ≡ suc (n - (i + 1)) = omega arith in ap (λ (m : ℕ). filled_up m (drop i text)) e ∙ filled_on (n - (i + 1)) i text

pub filled_none : (n i : ℕ) (text : List ℤ) → n ≡ i → filled_up (n - i) text ≡ []
filled_none n i text e = let z : n - i ≡ 0 = omega arith in ap (λ (m : ℕ). filled_up m text) z

before_from : (j k : ℕ) (text : List ℤ) → j < k → IsBeforeAll (Index j ∷ []) (text_cells k text)
before_from j k [] lt = tt
before_from j k (c ∷ text) lt = (inl (omega arith), before_from j (k + 1) text (omega arith))

pub cells_ordered : (k : ℕ) (text : List ℤ) → IsOrdered (text_cells k text)
cells_ordered k [] = tt
cells_ordered k (c ∷ text) = (before_from k (k + 1) text (omega arith), cells_ordered (k + 1) text)

bytes_step : (n i word : ℕ) → i < n → bytes_of (n - i) word ≡ bytes_on (byte_of word) (bytes_of (n - (i + 1)) (word / 256))
unfolding bytes_of
bytes_step n i word lt = let e : n - i ≡ suc (n - (i + 1)) = omega arith in ap (λ (m : ℕ). bytes_of m word) e

bytes_none : (n i word : ℕ) → n ≡ i → bytes_of (n - i) word ≡ []
unfolding bytes_of
bytes_none n i word e = let z : n - i ≡ 0 = omega arith in ap (λ (m : ℕ). bytes_of m word) z

-- what a loop over a word's bytes still has to take
pub record Takes (n i rest : ℕ) (front whole : List ℤ) : Type 0 where
  pub is : front ++ bytes_of (n - i) rest ≡ whole

pub take_begins : (n word : ℕ) (front : List ℤ) → front ≡ [] → Takes n 0 word front (bytes_of n word)
take_begins n word front none = record {
  is = ap (λ (xs : List ℤ). xs ++ bytes_of (n - 0) word) none ∙ (let e : n - 0 ≡ n = omega arith in ap (λ (m : ℕ). bytes_of m word) e);
}

pub take_ends : (n i rest : ℕ) (front whole : List ℤ) → i < n → Takes n i rest front whole → byte_of rest ≡ None → front ≡ whole
take_ends n i rest front whole lt inv none =
    sym (append-nil front)
    ∙ sym (ap (λ (xs : List ℤ). front ++ xs) (bytes_step n i rest lt ∙ ap (λ (o : Option ℤ). bytes_on o (bytes_of (n - (i + 1)) (rest / 256))) none))
    ∙ inv.is

pub take_goes : (n i rest next : ℕ) (c : ℤ) (front new whole : List ℤ) → i < n → Takes n i rest front whole → byte_of rest ≡ Some c → new ≡ front ++ c ∷ [] → next ≡ rest / 256 → Takes n (i + 1) next new whole
take_goes n i rest next c front new whole lt inv some longer then = record {
  is =
      let more = bytes_of (n - (i + 1)) (rest / 256) in
      ap (λ (xs : List ℤ). xs ++ bytes_of (n - (i + 1)) next) longer
      ∙ ap (λ (w : ℕ). (front ++ c ∷ []) ++ bytes_of (n - (i + 1)) w) then
      ∙ append_assoc front (c ∷ []) more
      ∙ ap (λ (xs : List ℤ). front ++ xs) (sym (bytes_step n i rest lt ∙ ap (λ (o : Option ℤ). bytes_on o more) some))
      ∙ inv.is;
}

pub take_all : (n i rest : ℕ) (front whole : List ℤ) → n ≡ i → Takes n i rest front whole → front ≡ whole
take_all n i rest front whole e inv = sym (append-nil front) ∙ sym (ap (λ (xs : List ℤ). front ++ xs) (bytes_none n i rest e)) ∙ inv.is

-- what a loop over a text still has to list
pub record Lists (i : ℕ) (text : List ℤ) (list whole : CellList) : Type 0 where
  pub is : list ++ text_cells i (drop i text) ≡ whole

pub list_begins : (text : List ℤ) (list : CellList) → list ≡ [] → Lists 0 text list (text_cells 0 text)
list_begins text list none = record { is = ap (λ (xs : CellList). xs ++ text_cells 0 text) none }

pub list_goes : (i : ℕ) (text : List ℤ) (list new whole : CellList) → i < length text → Lists i text list whole → new ≡ list ++ (Index i ∷ [], Number (get_or text i (pos 0))) ∷ [] → Lists (i + 1) text new whole
list_goes i text list new whole lt inv longer = record {
  is =
      let e : List PathStep × Cell = (Index i ∷ [], Number (get_or text i (pos 0))) in
      let rest = text_cells (i + 1) (drop (i + 1) text) in
      ap (λ (xs : CellList). xs ++ rest) longer
      ∙ append_assoc list (e ∷ []) rest
      ∙ ap (λ (xs : CellList). list ++ xs) (sym (ap (text_cells i) (drop_more text i (pos 0) lt)))
      ∙ inv.is;
}

pub list_all_of : (i : ℕ) (text : List ℤ) (list whole : CellList) → length text ≤ i → Lists i text list whole → list ≡ whole
list_all_of i text list whole le inv = sym (append-nil list) ∙ sym (ap (λ (xs : CellList). list ++ xs) (ap (text_cells i) (drop_all i text le))) ∙ inv.is
