use Rattle.std.proofs.Common.{◌≡◌, ◌⊎◌, ℕ, ◌/◌, ◌%◌, ◌<◌, ◌≤◌, List, get_or, Contains, sym, subst, inl, inr}
use Rattle.std.specs.Int.{bit_at}
use Rattle.std.proofs.lemmas.Bool.{cases_eq, cases_lt}
use Rattle.sol_model.specs.Families.{Family, Has, members}
use Rattle.sol_model.specs.Systems.{IsLocation}
use Rattle.new_members.specs.News.{AreAmong, IsIn, IsGrown}
use Rattle.new_members.proofs.Answering.{all_of}
use Rattle.new_members.proofs.renewing.renew_read.Goals as goal

-- what words add to a row is new, or was there
grown_by : (F G : Family) (row first end : ℕ) (words held new : List ℕ) → AreAmong F row words first end → ((r location : ℕ) → Has G r location → Has F r location ⊎ ((r ≡ row) × IsIn words location))
    → ((location : ℕ) → IsIn held location → Has F row location) → ((location : ℕ) → (IsIn words location × (IsIn held location → ⊥) × (first ≤ location / 64) × (location / 64 < end)) → Contains new location) → IsGrown F G row new
grown_by F G row first end words held new among adds was lists r location h = elim (adds r location h) [
  | inl old ↦ inl old
  | inr now ↦ elim (cases_eq (bit_at (get_or held (location / 64) 0) (location % 64)) 1) [
    | inl there ↦ inl (subst (λ (n : ℕ). Has F n location) (sym now.0) (was location there))
    | inr lacks ↦ elim (cases_lt (location / 64) first) [
      | inl before ↦ inl (subst (λ (n : ℕ). Has F n location) (sym now.0) (among location now.1 (inl before)))
      | inr from ↦ elim (cases_lt (location / 64) end) [
        | inl below ↦ inr (now.0, lists location (now.1, lacks, from, below))
        | inr past ↦ inl (subst (λ (n : ℕ). Has F n location) (sym now.0) (among location now.1 (inr past)))
      ]
    ]
  ]
]

pub renew_readers-requires-clause-new : goal.renew_readers-requires-clause-new
renew_readers-requires-clause-new c =
    all_of (IsLocation c.args.system.now) c.as_slice.result.now (λ location h. c.requires.known location ((c.in_ok-new.ensures location).0 (subst (λ (xs : List ℕ). Contains xs location) c.as_slice.ensures.value h)).0)

pub returns-clause-book : goal.returns-clause-book
returns-clause-book c = c.renew_readers.ensures.book (members c.args.rows.now)
    (grown_by (members c.args.rows.now) (members c.take_row.new.rows) c.args.grown.now.row c.args.grown.now.first c.args.grown.now.end c.args.grown.now.words.now c.row_words.result.now c.as_slice.result.now c.requires.among (λ r l. (c.take_row.ensures.has r l).0) (λ l. (c.row_words.ensures.has l).1)
    (λ l h. subst (λ (xs : List ℕ). Contains xs l) (sym c.as_slice.ensures.value) ((c.in_ok-new.ensures l).1 h)))

pub returns-clause-facts : goal.returns-clause-facts
returns-clause-facts c = c.renew_readers.ensures.facts (members c.args.rows.now)
    (grown_by (members c.args.rows.now) (members c.take_row.new.rows) c.args.grown.now.row c.args.grown.now.first c.args.grown.now.end c.args.grown.now.words.now c.row_words.result.now c.as_slice.result.now c.requires.among (λ r l. (c.take_row.ensures.has r l).0) (λ l. (c.row_words.ensures.has l).1)
    (λ l h. subst (λ (xs : List ℕ). Contains xs l) (sym c.as_slice.ensures.value) ((c.in_ok-new.ensures l).1 h)))
