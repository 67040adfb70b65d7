-- One row further.
use Rattle.std.proofs.Common.{arith, ◌≡◌, ℕ, zero, suc, ◌+◌, ◌<◌, ◌≤◌, List, [], ◌∷◌, Some, None, Bool, true, false, cond, drop, get_or, length, map, refl, ap, sym, ◌∙◌, add-one}
use Rattle.std.specs.Str.{bytes_eq}
use Rattle.std.proofs.lemmas.Slice.Eq.{bytes_eq-Decides}
use Rattle.lib_summaries.specs.declared.table.Row.{Row as CodeRow}
use Rattle.lib_summaries.specs.Table.{Row, row, find_from, effects_among}
use Rattle.lib_summaries.specs.Shown.{shown}

drop_shown : (rows : List CodeRow) (i : ℕ) (d : CodeRow) → i < length rows → drop i (map shown rows) ≡ shown (get_or rows i d) ∷ drop (suc i) (map shown rows)
drop_shown [] i d h = absurd (omega arith)
drop_shown (r ∷ rows) zero d h = refl
drop_shown (r ∷ rows) (suc i) d h = drop_shown rows i d (omega arith)

drop_end : (rows : List CodeRow) (i : ℕ) → length rows ≤ i → drop i (map shown rows) ≡ []
drop_end [] zero h = refl
drop_end [] (suc i) h = refl
drop_end (r ∷ rows) zero h = absurd (omega arith)
drop_end (r ∷ rows) (suc i) h = drop_end rows i (omega arith)

module _ (rows : List CodeRow) (i : ℕ) (d : CodeRow) (name : List ℕ) (lt : i < length rows) where
  one : find_from i (drop i (map shown rows)) name ≡ cond (bytes_eq (get_or rows i d).name.now name) (Some (record { number = i; row = shown (get_or rows i d) })) (find_from (i + 1) (drop (suc i) (map shown rows)) name)
  one = ap (λ (rs : List Row). find_from i rs name) (drop_shown rows i d lt)

  pub passed : bytes_eq (get_or rows i d).name.now name ≡ false → find_from i (drop i (map shown rows)) name ≡ find_from (i + 1) (drop (i + 1) (map shown rows)) name
  passed h =
      one
      ∙ (ap (λ (b : Bool). cond b (Some (record { number = i; row = shown (get_or rows i d) })) (find_from (i + 1) (drop (suc i) (map shown rows)) name)) h
      ∙ ap (λ (k : ℕ). find_from (i + 1) (drop k (map shown rows)) name) (sym (add-one i)))

  pub met : bytes_eq (get_or rows i d).name.now name ≡ true → find_from i (drop i (map shown rows)) name ≡ Some (record { number = i; row = row name (get_or rows i d).shape.now (get_or rows i d).effects.now })
  met h =
      let same : (get_or rows i d).name.now ≡ name = (bytes_eq-Decides (get_or rows i d).name.now name).0 h in
      one
      ∙ (ap (λ (b : Bool). cond b (Some (record { number = i; row = shown (get_or rows i d) })) (find_from (i + 1) (drop (suc i) (map shown rows)) name)) h
      ∙ ap (λ (n : List ℕ). Some (record { number = i; row = row n (get_or rows i d).shape.now (get_or rows i d).effects.now })) same)

pub none_left : (rows : List CodeRow) (i : ℕ) (name : List ℕ) → length rows ≤ i → find_from i (drop i (map shown rows)) name ≡ None
none_left rows i name h = ap (λ (rs : List Row). find_from i rs name) (drop_end rows i h)

pub effects_at : (rows : List CodeRow) (i : ℕ) (d : CodeRow) → i < length rows → effects_among (map shown rows) i ≡ (get_or rows i d).effects.now
effects_at [] i d h = absurd (omega arith)
effects_at (r ∷ rows) zero d h = refl
effects_at (r ∷ rows) (suc i) d h = effects_at rows i d (omega arith)

pub effects_past : (rows : List CodeRow) (i : ℕ) → length rows ≤ i → effects_among (map shown rows) i ≡ []
effects_past [] i h = refl
effects_past (r ∷ rows) zero h = absurd (omega arith)
effects_past (r ∷ rows) (suc i) h = effects_past rows i (omega arith)
