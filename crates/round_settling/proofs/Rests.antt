-- Rows that still have more than is done of them.
use Rattle.std.proofs.Common.{◌≡◌, ◌≢◌, ◌⊎◌, ℕ, ◌+◌, ◌*◌, ◌/◌, ◌%◌, ◌<◌, ◌≤◌, ◌^◌, List, [], ◌∷◌, ◌++◌, get_or, Contains, refl, sym, ◌∙◌, subst, inl, inr, arith}
use Rattle.std.specs.Int.{bit_at, trailing_zeros, w64}
use Rattle.std.proofs.lemmas.Bool.{cases_eq}
use Rattle.std.proofs.lemmas.Nat.Bits.{bit_at-trailing_zeros}
use Rattle.std.proofs.lemmas.List.Elements.{Contains-append_left, Contains-push, Contains-push_cases}
use Rattle.sol_model.specs.declared.system.System.{System}
use Rattle.sol_model.specs.declared.rows.Rows.{Rows}
use Rattle.sol_model.specs.Families.{Family, Has, shown, members}
use Rattle.sol_model.specs.Systems.{width_of}
use Rattle.sol_model.proofs.Shown.{within_shown, bit_shown}
use Rattle.sol_model.proofs.Words.{bit_member}
use Rattle.set_rows.specs.declared.view.View.{View}
use Rattle.set_rows.specs.Views.{OnlyLooked, known}
use Rattle.set_rows.proofs.Adding.{known_more}
use Rattle.round_pieces.specs.delta_prop.Deltas.{IsAllOf, IsSound, new_bits}
use Rattle.round_pieces.proofs.delta_prop.Going.{looked_adds}
use Rattle.new_members.specs.News.{IsIn}
use Rattle.round_pieces.specs.Rounds.{IsSettled}
use Rattle.round_pieces.proofs.Growing.{new_small, new_there, new_lacked}
use Rattle.round_pieces.proofs.Parts.{ready_more}
use Rattle.round_pieces.proofs.Serving.{known_as}

nothing_looked : (v : View) → OnlyLooked v v
nothing_looked v = record { system = refl; ors = refl; shuts = refl; reads = refl; last = refl; knows = refl; found = refl; part = refl; halvings = refl; seen = λ word k h. h }

looked_again : (u v w : View) → OnlyLooked u v → OnlyLooked v w → OnlyLooked u w
looked_again u v w a b = record {
  system = b.system ∙ a.system;
  ors = b.ors ∙ a.ors;
  shuts = b.shuts ∙ a.shuts;
  reads = b.reads ∙ a.reads;
  last = b.last ∙ a.last;
  knows = b.knows ∙ a.knows;
  found = b.found ∙ a.found;
  part = b.part ∙ a.part;
  halvings = b.halvings ∙ a.halvings;
  seen = λ word k h. b.seen word k (a.seen word k h);
}

-- where no more was seen of a row than words have, they have all its members
pub all_in : (S : System) (w : View) (row location : ℕ) (words : List ℕ) → w.system ≡ S → IsAllOf (width_of S) w.seen row words → Has (known w) row location → IsIn words location
all_in S w row location words e all h =
    let W : ℕ = width_of S in
    let there : Has (shown W w.seen) row location = subst (λ (F : Family). Has F row location) (known_as w S e) h in
    let small = within_shown W w.seen row location there in
    all (location / 64) (omega arith) (location % 64) (bit_shown W w.seen row location there)

-- where more was seen, there is a member that they lack
pub one_more : (S : System) (w : View) (row k : ℕ) (words : List ℕ) → w.system ≡ S → k < width_of S → new_bits (get_or words k 0) (get_or w.seen (row * width_of S + k) 0) ≢ 0
    → (location : ℕ) × Has (known w) row location × (IsIn words location → ⊥)
one_more S w row k words e lt some =
    let W : ℕ = width_of S in
    let held : ℕ = get_or words k 0 in
    let now : ℕ = get_or w.seen (row * W + k) 0 in
    let n : ℕ = new_bits held now in
    let small : n < 2 ^ 64 = new_small held now in
    let low = bit_at-trailing_zeros w64 n (omega arith) small in
    let b : ℕ = trailing_zeros w64 n in
    let less : b < 64 = low.0 in
    let there : Has (shown W w.seen) row (64 * k + b) = bit_member W w.seen row k b lt less (new_there held now b low.1) in
    let at : (64 * k + b) / 64 ≡ k = omega arith in
    let bit : (64 * k + b) % 64 ≡ b = omega arith in (
      64 * k + b,
      subst (λ (F : Family). Has F row (64 * k + b)) (sym (known_as w S e)) there,
      λ h. new_lacked held now b less low.1 (subst (λ (x : ℕ). bit_at held x ≡ 1) bit (subst (λ (x : ℕ). bit_at (get_or words x 0) ((64 * k + b) % 64) ≡ 1) at h)),
    )

-- the rows below i were looked at, and those that have more were kept
pub record Kept (done : Rows) (i : ℕ) (v u : View) (left : List ℕ) : Type 0 where
  pub more : OnlyLooked v u
  pub sound : IsSound v → IsSound u
  pub rest : (row location : ℕ) → Has (known u) row location → Has (members done) row location ⊎ (Contains left row ⊎ (i ≤ row))
  pub grown : (row : ℕ) → Contains left row → (location : ℕ) × Has (known u) row location × (Has (members done) row location → ⊥)

pub kept_start : (done : Rows) (v : View) → Kept done 0 v v []
kept_start done v = record {
  more = nothing_looked v;
  sound = λ s. s;
  rest = λ row location h. inr (inr (omega arith));
  grown = λ row h. absurd (let l = h.1 in omega arith);
}

module _ (done : Rows) (i : ℕ) (v u w : View) (left : List ℕ) (kept : Kept done i v u left)
    (more : OnlyLooked u w) (sound : IsSound u → IsSound w) (others : (r l : ℕ) → Has (known w) r l → Has (known u) r l ⊎ (r ≡ i)) where
  still : (r : ℕ) → Contains left r → (location : ℕ) × Has (known w) r location × (Has (members done) r location → ⊥)
  still r h = let g = kept.grown r h in (g.0, known_more u w (looked_adds u w more) r g.0 g.1, g.2)

  older : (r l : ℕ) → r ≢ i → Has (known w) r l → Has (members done) r l ⊎ (Contains left r ⊎ (i + 1 ≤ r))
  older r l ne h = elim (others r l h) [
    | inr is ↦ absurd (ne is)
    | inl before ↦ elim (kept.rest r l before) [
      | inl there ↦ inl there
      | inr other ↦ elim other [ inl listed ↦ inr (inl listed) | inr ahead ↦ inr (inr (omega arith)) ]
    ]
  ]

  -- the row has no more than is done
  pub kept_done : ((l : ℕ) → Has (known w) i l → Has (members done) i l) → Kept done (i + 1) v w left
  kept_done all = record {
    more = looked_again v u w kept.more more;
    sound = λ s. sound (kept.sound s);
    rest = λ r l h. elim (cases_eq r i) [ inl is ↦ inl (subst (λ (n : ℕ). Has (members done) n l) (sym is) (all l (subst (λ (n : ℕ). Has (known w) n l) is h))) | inr ne ↦ older r l ne h ];
    grown = still;
  }

  -- it has more
  pub kept_more : (location : ℕ) × Has (known w) i location × (Has (members done) i location → ⊥) → Kept done (i + 1) v w (left ++ i ∷ [])
  kept_more some = record {
    more = looked_again v u w kept.more more;
    sound = λ s. sound (kept.sound s);
    rest = λ r l h. elim (cases_eq r i) [
      | inl is ↦ inr (inl (subst (Contains (left ++ i ∷ [])) (sym is) (Contains-push left i)))
      | inr ne ↦ elim (older r l ne h) [
        | inl there ↦ inl there
        | inr other ↦ elim other [ inl kept_row ↦ inr (inl (Contains-append_left left (i ∷ []) r kept_row)) | inr ahead ↦ inr (inr ahead) ]
      ]
    ];
    grown = λ r h. elim (Contains-push_cases left i r h) [ inl old ↦ still r old | inr is ↦ subst (λ (n : ℕ). (location : ℕ) × Has (known w) n location × (Has (members done) n location → ⊥)) is some ];
  }

-- what was settled stays so where rows are only looked at
pub settled_still : (S : System) (v w : View) (book : List (ℕ × ℕ)) (done : Rows) → OnlyLooked v w → IsSound w → IsSettled S v book done → IsSettled S w book done
settled_still S v w book done more sound s = record {
  ready = ready_more S v w book done (looked_adds v w more) s.ready;
  treated = record { edges = s.treated.edges; facts = λ row location f. known_more v w (looked_adds v w more) row location (s.treated.facts row location f) };
  sound = sound;
}
