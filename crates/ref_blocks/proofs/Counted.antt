-- Items that are counted, one by one.
use Rattle.std.specs.Prelude.{if◌then◌else◌}
use Rattle.std.proofs.Common.{arith, ◌≡◌, ◌==◌, ℕ, zero, suc, ◌+◌, ◌<◌, Bool, true, false, List, [], ◌∷◌, Option, Some, None, length, drop, slice_get, refl, ap, sym, ◌∙◌}
use Rattle.ref_state.specs.declared.items.Item.{Item}
use Rattle.ref_state.specs.declared.items.Item.TheVariants.{Do, Wait, Library, Result}
use Rattle.ref_blocks.specs.Jumps.{is_wait_of, items_to}

drop_at : (items : List Item) (i : ℕ) (item : Item) → slice_get items i ≡ Some item → drop i items ≡ item ∷ drop (i + 1) items
drop_at [] i item h = cc
drop_at (x ∷ xs) zero item h = let same : x ≡ item = cc in ap (λ (y : Item). y ∷ xs) same
drop_at (x ∷ xs) (suc i) item h =
    let next : suc i + 1 ≡ suc (i + 1) = omega arith in
    drop_at xs i item h ∙ ap (λ (n : ℕ). item ∷ drop n (x ∷ xs)) (sym next)

pub nothing : (items : List Item) (i : ℕ) → i < length items → slice_get items i ≡ None → ⊥
nothing [] i less h = absurd (omega (arith, less))
nothing (x ∷ xs) zero less h = cc
nothing (x ∷ xs) (suc i) less h = nothing xs i (omega (arith, less)) h

last_there : (b : Bool) (rest : ℕ) → b ≡ true → (if b then 1 else 1 + rest) ≡ 1
last_there true rest e = refl
last_there false rest e = cc

more_there : (b : Bool) (rest : ℕ) → b ≡ false → (if b then 1 else 1 + rest) ≡ 1 + rest
more_there true rest e = cc
more_there false rest e = refl

here : (a : ℕ) (item : Item) (rest : List Item) → is_wait_of a item ≡ true → items_to a (item ∷ rest) ≡ 1
here a (Wait n left values) rest e = last_there (n == a) (items_to a rest) e
here a (Do n) rest e = cc
here a (Library n k values) rest e = cc
here a (Result value) rest e = cc

beyond : (a : ℕ) (item : Item) (rest : List Item) → is_wait_of a item ≡ false → items_to a (item ∷ rest) ≡ 1 + items_to a rest
beyond a (Wait n left values) rest e = more_there (n == a) (items_to a rest) e
beyond a (Do n) rest e = refl
beyond a (Library n k values) rest e = refl
beyond a (Result value) rest e = refl

module _ (a : ℕ) (items : List Item) (i count : ℕ) (item : Item) (at : slice_get items i ≡ Some item) (so_far : count + items_to a (drop i items) ≡ items_to a items) where
  pub counted : is_wait_of a item ≡ true → count + 1 ≡ items_to a items
  counted e = sym (ap (λ (n : ℕ). count + n) (ap (items_to a) (drop_at items i item at) ∙ here a item (drop (i + 1) items) e)) ∙ so_far

  pub counted_on : is_wait_of a item ≡ false → count + 1 + items_to a (drop (i + 1) items) ≡ items_to a items
  counted_on e =
      let step : items_to a (drop i items) ≡ 1 + items_to a (drop (i + 1) items) = ap (items_to a) (drop_at items i item at) ∙ beyond a item (drop (i + 1) items) e in
      omega (arith, step, so_far)
