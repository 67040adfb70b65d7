-- Two lists in order of their ranks, whose items have their likes in each other, are matched one by one.
use Rattle.std.proofs.Common.{◌≡◌, ◌∙◌, ℕ, List, [], ◌∷◌, refl, sym, ap, subst, inl, inr}
use Rattle.std.specs.Prelude.{⊤}
use Rattle.std.specs.List.{AllZip}
use Rattle.twin_report_laws.proofs.outcome_laws.twin_locations.Members.{Member}
use Rattle.twin_report_laws.proofs.orders.Ranks.{Before, before_then, not_itself}

-- a rank is before those of a list
abbrev pub After : {X : Type 0} → (X → List ℕ) → X → List X → Type 0
After rank x [] = ⊤
After rank x (y ∷ ys) = Before (rank x) (rank y) × After rank x ys

-- the ranks of a list rise
abbrev pub InOrder : {X : Type 0} → (X → List ℕ) → List X → Type 0
InOrder rank [] = ⊤
InOrder rank (x ∷ xs) = After rank x xs × InOrder rank xs

pub after_each : {X : Type 0} (rank : X → List ℕ) (x : X) (xs : List X) (y : X) → After rank x xs → Member xs y → Before (rank x) (rank y)
after_each rank x [] y h there = absurd there
after_each rank x (z ∷ zs) y h (inl same) = subst (λ w. Before (rank x) (rank w)) same h.0
after_each rank x (z ∷ zs) y h (inr more) = after_each rank x zs y h.1 more

pub after_more : {X : Type 0} (rank : X → List ℕ) (x y : X) (ys : List X) → Before (rank x) (rank y) → After rank y ys → After rank x ys
after_more rank x y [] lt h = tt
after_more rank x y (z ∷ zs) lt h = (before_then (rank x) (rank y) (rank z) lt h.0, after_more rank x y zs lt h.1)

module _ {X Y : Type 0} (one : X → List ℕ) (other : Y → List ℕ) (R : X → Y → Type 0) where
  -- an item and its like
  abbrev IsLike : X → Y → Type 0
  IsLike x y = (other y ≡ one x) × R x y

  first_like : (x : X) (y : Y) (xs : List X) (ys : List Y) → After one x xs → After other y ys → (z : Y) → Member (y ∷ ys) z → IsLike x z → (w : X) → Member (x ∷ xs) w → one w ≡ other y → IsLike x y
  first_like x y xs ys after again z (inl same) like w back even = subst (IsLike x) (sym same) like
  first_like x y xs ys after again z (inr late) like w (inl same) even =
      let past : Before (other y) (one x) = subst (Before (other y)) like.0 (after_each other y ys z again late) in
      absurd (not_itself (one x) (subst (λ r. Before r (one x)) (sym even ∙ ap one (sym same)) past))
  first_like x y xs ys after again z (inr late) like w (inr later) even =
      let past : Before (other y) (one x) = subst (Before (other y)) like.0 (after_each other y ys z again late) in
      let before : Before (one x) (other y) = subst (Before (one x)) even (after_each one x xs w after later) in
      absurd (not_itself (one x) (before_then (one x) (other y) (one x) before past))

  -- the likes of later items are later
  like_later : (x : X) (y : Y) (xs : List X) (ys : List Y) → After one x xs → other y ≡ one x → (w : X) → Member xs w → (z : Y) → Member (y ∷ ys) z → other z ≡ one w → Member ys z
  like_later x y xs ys after first w later z (inl same) even =
      absurd (not_itself (one x) (subst (Before (one x)) (sym even ∙ (ap other (sym same) ∙ first)) (after_each one x xs w after later)))
  like_later x y xs ys after first w later z (inr more) even = more

  later_like : (x : X) (y : Y) (xs : List X) (ys : List Y) → After other y ys → other y ≡ one x → (z : Y) → Member ys z → (w : X) → Member (x ∷ xs) w → one w ≡ other z → Member xs w
  later_like x y xs ys again first z later w (inl same) even =
      absurd (not_itself (other y) (subst (Before (other y)) (sym even ∙ (ap one (sym same) ∙ sym first)) (after_each other y ys z again later)))
  later_like x y xs ys again first z later w (inr more) even = more

  pub matched : (xs : List X) (ys : List Y) → InOrder one xs → InOrder other ys → ((x : X) → Member xs x → (y : Y) × Member ys y × IsLike x y)
      → ((y : Y) → Member ys y → (x : X) × Member xs x × (one x ≡ other y)) → AllZip R xs ys
  matched [] [] ordered again to from = tt
  matched [] (y ∷ ys) ordered again to from = absurd (from y (inl refl)).1
  matched (x ∷ xs) [] ordered again to from = absurd (to x (inl refl)).1
  matched (x ∷ xs) (y ∷ ys) ordered again to from =
      let (z, in_other, like) = to x (inl refl) in
      let (w, in_one, even) = from y (inl refl) in
      let first : IsLike x y = first_like x y xs ys ordered.0 again.0 z in_other like w in_one even in (
        first.1,
        matched xs ys ordered.1 again.1
            (λ v among. let (u, there, same) = to v (inr among) in (u, like_later x y xs ys ordered.0 first.0 v among u there same.0, same))
            (λ v among. let (u, there, same) = from v (inr among) in (u, later_like x y xs ys again.0 first.0 v among u there same, same)),
      )
