-- Lists of pairs that grow by the edges of one element of a list after another.
use Rattle.std.proofs.Common.{◌≡◌, ◌⊎◌, ℕ, ◌+◌, ◌<◌, ◌≤◌, List, [], ◌++◌, length, Some, slice_get, Contains, sym, ap, ◌∙◌, subst, arith, append_assoc}
use Rattle.std.proofs.lemmas.List.{append-nil}
use Rattle.std.proofs.lemmas.Option.{same_Some}
use Rattle.sol_model.proofs.Members.{Contains-at, at_Contains}
use Rattle.edge_book.specs.Edges.{Gains}
use Rattle.edge_book.proofs.Gaining.{gains_none, gains_same, gains_both, one_more}
use Rattle.new_members.specs.News.{Takes}

-- the edges of one element of a list
abbrev pub OfOne : {X : Type 0} → List X → (X → ℕ → ℕ → Type 0) → ℕ → ℕ → ℕ → Type 0
OfOne {X} xs E k a b = (x : X) × (slice_get xs k ≡ Some x) × E x a b

-- the edges of the first i elements
abbrev pub Through : {X : Type 0} → List X → (X → ℕ → ℕ → Type 0) → ℕ → ℕ → ℕ → Type 0
Through {X} xs E i a b = (k : ℕ) × (k < i) × OfOne xs E k a b

-- the edges of all
abbrev pub OfAll : {X : Type 0} → List X → (X → ℕ → ℕ → Type 0) → ℕ → ℕ → Type 0
OfAll {X} xs E a b = (x : X) × Contains xs x × E x a b

module _ {X : Type 0} (xs : List X) (E : X → ℕ → ℕ → Type 0) where
  pub through_none : (old : List (ℕ × ℕ)) → Gains old old (Through xs E 0)
  through_none old = gains_none old (Through xs E 0) (λ a b h. let l = h.1 in absurd (omega arith))

  pub through_next : (old mid new : List (ℕ × ℕ)) (i : ℕ) (x : X) → Gains old mid (Through xs E i) → slice_get xs i ≡ Some x → Gains mid new (E x) → Gains old new (Through xs E (i + 1))
  through_next old mid new i x so_far at g = one_more old mid new i (OfOne xs E) so_far
      (gains_same mid new (E x) (OfOne xs E i) (λ a b e. (x, at, e)) (λ a b h. subst (λ (y : X). E y a b) (same_Some h.0 x (sym h.1 ∙ at)) h.2) g)

  pub through_all : (old new : List (ℕ × ℕ)) (i : ℕ) → length xs ≤ i → Gains old new (Through xs E i) → Gains old new (OfAll xs E)
  through_all old new i past g = gains_same old new (Through xs E i) (OfAll xs E)
      (λ a b h. (h.2.0, Contains-at xs h.0 h.2.0 h.2.1, h.2.2))
      (λ a b h. let w = at_Contains xs h.0 h.1 in let lt = w.1 in (w.0, omega arith, (h.0, w.2, h.2)))
      g

pub takes_none : (old : List (ℕ × ℕ)) (Edge : ℕ → ℕ → Type 0) → ((a b : ℕ) → Edge a b → ⊥) → Takes old old Edge
takes_none old Edge none = record { kept = ([], sym (append-nil old)); gains = gains_none old Edge none }

pub takes_same : (old new : List (ℕ × ℕ)) (Edge Other : ℕ → ℕ → Type 0) → ((a b : ℕ) → Edge a b → Other a b) → ((a b : ℕ) → Other a b → Edge a b) → Takes old new Edge → Takes old new Other
takes_same old new Edge Other to from t = record { kept = t.kept; gains = gains_same old new Edge Other to from t.gains }

pub kept_both : (old mid new : List (ℕ × ℕ)) → ((more : List (ℕ × ℕ)) × (mid ≡ old ++ more)) → ((more : List (ℕ × ℕ)) × (new ≡ mid ++ more)) → (more : List (ℕ × ℕ)) × (new ≡ old ++ more)
kept_both old mid new f s = (f.0 ++ s.0, s.1 ∙ ap (λ (xs : List (ℕ × ℕ)). xs ++ s.0) f.1 ∙ append_assoc old f.0 s.0)

pub takes_both : (old mid new : List (ℕ × ℕ)) (Edge Other : ℕ → ℕ → Type 0) → Takes old mid Edge → Takes mid new Other → Takes old new (λ a b. Edge a b ⊎ Other a b)
takes_both old mid new Edge Other f s = record { kept = kept_both old mid new f.kept s.kept; gains = gains_both old mid new Edge Other f.gains s.gains }

module _ {X : Type 0} (xs : List X) (E : X → ℕ → ℕ → Type 0) where
  pub takes_start : (old : List (ℕ × ℕ)) → Takes old old (Through xs E 0)
  takes_start old = takes_none old (Through xs E 0) (λ a b h. let l = h.1 in absurd (omega arith))

  pub takes_next : (old mid new : List (ℕ × ℕ)) (i : ℕ) (x : X) → Takes old mid (Through xs E i) → slice_get xs i ≡ Some x → Takes mid new (E x) → Takes old new (Through xs E (i + 1))
  takes_next old mid new i x so_far at t = record { kept = kept_both old mid new so_far.kept t.kept; gains = through_next xs E old mid new i x so_far.gains at t.gains }

  pub takes_all : (old new : List (ℕ × ℕ)) (i : ℕ) → length xs ≤ i → Takes old new (Through xs E i) → Takes old new (OfAll xs E)
  takes_all old new i past t = record { kept = t.kept; gains = through_all xs E old new i past t.gains }
