-- Items one by one, by their places.
use Rattle.std.proofs.Common.{arith, ◌≡◌, ◌∙◌, ◌⊎◌, inl, inr, ℕ, zero, suc, ◌+◌, ◌-◌, ◌<◌, ◌≤◌, List, [], ◌∷◌, Option, Some, None, All, drop, get_or, length, slice_get, refl, sym, ap, subst}
use Rattle.std.proofs.lemmas.Bool.{cases_lt}
use Rattle.std.proofs.lemmas.Option.{slice_get_within, slice_get-get_or, get_or_from_slice_get}
use Rattle.c_types.specs.declared.key.ObjectKey.{ObjectKey}
use Rattle.ref_cells.specs.declared.instance.Instance.{Instance}
use Rattle.ref_state.specs.declared.items.Item.{Item}
use Rattle.row_covers.specs.Scene.{Sight}
use Rattle.machine_covers.specs.Bare.{ItemLeaves, ItemsLeave, LeavesAt}
use Rattle.machine_covers.specs.Frames.{ItemBy, ItemAt}

none_some : {X : Type 0} → {x : X} → ◌≡◌ {A = Option X} None (Some x) → ⊥
none_some h = cc

-- what stands behind the first so many
drop_at : {X : Type 0} (n : ℕ) (xs : List X) (j : ℕ) (x : X) → slice_get (drop n xs) j ≡ Some x → slice_get xs (n + j) ≡ Some x
drop_at zero xs j x h = (let same : zero + j ≡ j = omega arith in ap (slice_get xs) same ∙ h)
drop_at (suc n) [] j x h = absurd (none_some h)
drop_at (suc n) (y ∷ xs) j x h = (let same : suc n + j ≡ suc (n + j) = omega arith in ap (slice_get (y ∷ xs)) same ∙ drop_at n xs j x h)

at_drop : {X : Type 0} (n : ℕ) (xs : List X) (k : ℕ) (x : X) → n ≤ k → slice_get xs k ≡ Some x → slice_get (drop n xs) (k - n) ≡ Some x
at_drop zero xs k x le h = (let same : k - zero ≡ k = omega arith in ap (slice_get xs) same ∙ h)
at_drop (suc n) [] k x le h = absurd (none_some h)
at_drop (suc n) (y ∷ xs) zero x le h = absurd (omega (arith, le))
at_drop (suc n) (y ∷ xs) (suc k) x le h = (let same : suc k - suc n ≡ k - n = omega arith in ap (slice_get (drop n xs)) same ∙ at_drop n xs k x (omega (arith, le)) h)

pub leave_all : (i off : ℕ) (items : List Item) → ((j : ℕ) → j < length items → LeavesAt i off j (slice_get items j)) → ItemsLeave i (drop off items)
leave_all i off items h k d lt = by (subst (LeavesAt i off (off + k)) at (h (off + k) (slice_get_within items (off + k) (get_or (drop off items) k d) at)))
  where
    at : slice_get items (off + k) ≡ Some (get_or (drop off items) k d)
    at = drop_at off items k (get_or (drop off items) k d) (slice_get-get_or (drop off items) k d lt)

    by : ((off + k) < off) ⊎ ItemLeaves i (get_or (drop off items) k d) → ItemLeaves i (get_or (drop off items) k d)
    by (inl less) = absurd (omega (arith, less))
    by (inr leaves) = leaves

pub all_leave : (i off : ℕ) (items : List Item) → ItemsLeave i (drop off items) → (j : ℕ) → LeavesAt i off j (slice_get items j)
all_leave i off items h j = by (slice_get items j) refl
  where
    behind : (x : Item) → slice_get items j ≡ Some x → off ≤ j → ItemLeaves i x
    behind x is le =
        let at = at_drop off items j x le is in
        subst (λ (y : Item). ItemLeaves i y) (get_or_from_slice_get (drop off items) (j - off) x x at) (h (j - off) x (slice_get_within (drop off items) (j - off) x at))

    by : (o : Option Item) → slice_get items j ≡ o → LeavesAt i off j o
    by None is = tt
    by (Some x) is = elim (cases_lt j off) [ inl less ↦ inl less | inr ge ↦ inr (behind x is ge) ]

pub items_in : (scene : Sight) (memory : List Instance) (key : ObjectKey) (items : List Item) → ((j : ℕ) → j < length items → ItemAt scene memory key (slice_get items j)) → All (λ item. ItemBy scene memory key item) items
items_in scene memory key items h k d lt = subst (ItemAt scene memory key) (slice_get-get_or items k d lt) (h k lt)

pub in_items : (scene : Sight) (memory : List Instance) (key : ObjectKey) (items : List Item) → All (λ item. ItemBy scene memory key item) items → (j : ℕ) → ItemAt scene memory key (slice_get items j)
in_items scene memory key items h j = by (slice_get items j) refl
  where
    by : (o : Option Item) → slice_get items j ≡ o → ItemAt scene memory key o
    by None is = tt
    by (Some x) is = subst (λ (y : Item). ItemBy scene memory key y) (get_or_from_slice_get items j x x is) (h j x (slice_get_within items j x is))
