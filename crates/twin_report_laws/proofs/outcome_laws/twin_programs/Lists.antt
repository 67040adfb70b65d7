-- Lists side by side.
use Rattle.std.proofs.Common.{arith, ◌≡◌, ◌∙◌, ◌<◌, ℕ, zero, suc, List, [], ◌∷◌, map, length, Option, Some, None, refl, ap}
use Rattle.std.specs.Prelude.{⊤}
use Rattle.std.specs.List.{slice_get}
use Rattle.std.specs.Option.{option_map}

pub some_one : {X : Type 0} → {x y : X} → ◌≡◌ {A = Option X} (Some x) (Some y) → x ≡ y
some_one h = cc

pub none_some : {X : Type 0} → {x : X} → ◌≡◌ {A = Option X} None (Some x) → ⊥
none_some h = cc

pub some_at : {X : Type 0} (xs : List X) (k : ℕ) → k < length xs → (x : X) × (slice_get xs k ≡ Some x)
some_at [] k lt = absurd (omega arith)
some_at (x ∷ xs) zero lt = (x, refl)
some_at (x ∷ xs) (suc k) lt = some_at xs k (omega arith)

-- two lists are as long, and their numbers are pairs in order
abbrev pub AllPaired : (ℕ → ℕ → Type 0) → List ℕ → List ℕ → Type 0
AllPaired R [] [] = ⊤
AllPaired R (a ∷ ns) (b ∷ bs) = R a b × AllPaired R ns bs
AllPaired R ns bs = ⊥

pub paired_more : (R S : ℕ → ℕ → Type 0) → ((a b : ℕ) → R a b → S a b) → (ns bs : List ℕ) → AllPaired R ns bs → AllPaired S ns bs
paired_more R S f [] [] h = tt
paired_more R S f [] (b ∷ bs) h = absurd h
paired_more R S f (a ∷ ns) [] h = absurd h
paired_more R S f (a ∷ ns) (b ∷ bs) h = (f a b h.0, paired_more R S f ns bs h.1)

-- the images of both lists, where those of pairs are one under a third map
pub paired_maps : (R : ℕ → ℕ → Type 0) (f g to : ℕ → ℕ) → ((a b : ℕ) → R a b → g b ≡ to (f a)) → (ns bs : List ℕ) → AllPaired R ns bs → map g bs ≡ map to (map f ns)
paired_maps R f g to same [] [] h = refl
paired_maps R f g to same [] (b ∷ bs) h = absurd h
paired_maps R f g to same (a ∷ ns) [] h = absurd h
paired_maps R f g to same (a ∷ ns) (b ∷ bs) h =
    ap (λ (n : ℕ). n ∷ map g bs) (same a b h.0) ∙ ap (λ (ns : List ℕ). to (f a) ∷ ns) (paired_maps R f g to same ns bs h.1)

-- both are none, or both are there and are a pair
abbrev pub OptionPaired : (ℕ → ℕ → Type 0) → Option ℕ → Option ℕ → Type 0
OptionPaired R None None = ⊤
OptionPaired R (Some a) (Some b) = R a b
OptionPaired R a b = ⊥

pub option_more : (R S : ℕ → ℕ → Type 0) → ((a b : ℕ) → R a b → S a b) → (a b : Option ℕ) → OptionPaired R a b → OptionPaired S a b
option_more R S f None None h = tt
option_more R S f None (Some b) h = absurd h
option_more R S f (Some a) None h = absurd h
option_more R S f (Some a) (Some b) h = f a b h

pub option_maps : (R : ℕ → ℕ → Type 0) (f g to : ℕ → ℕ) → ((a b : ℕ) → R a b → g b ≡ to (f a)) → (a b : Option ℕ) → OptionPaired R a b → option_map g b ≡ option_map to (option_map f a)
option_maps R f g to same None None h = refl
option_maps R f g to same None (Some b) h = absurd h
option_maps R f g to same (Some a) None h = absurd h
option_maps R f g to same (Some a) (Some b) h = ap Some (same a b h)
