-- The items of an initialiser that last.
use Rattle.std.proofs.Common.{arith, ◌≡◌, ◌∙◌, ◌↔◌, inl, inr, ℕ, zero, suc, ◌+◌, ◌<◌, Bool, true, false, ◌||◌, cond, List, [], ◌∷◌, map, Option, Some, slice_get, refl, sym, ap, subst}
use Rattle.std.specs.Ordering.{nat_cmp}
use Rattle.std.proofs.lemmas.Bool.{false≢true}
use Rattle.std.proofs.lemmas.Cmp.{nat_cmp_total}
use Rattle.std.proofs.lemmas.Option.{none-some}
use Rattle.c_inits.specs.Shapes.{Path}
use Rattle.c_inits.specs.Initial.{Placed, Action, Clears, Puts, is_under}
use Rattle.c_inits.proofs.Lasting.{covers, survivors, lasting_is}
use Rattle.twin_report_laws.specs.order_laws.walk_laws.Ordered.{IsShown}
use Rattle.twin_report_laws.specs.order_laws.walk_laws.Shown.{IsLeft, IsLastPut, ItemsLast}
use Rattle.twin_report_laws.proofs.order_laws.walk_laws.Orders.{Member, Behind, Rises, nil_rises, cons_rises, shown_is}
use Rattle.twin_report_laws.proofs.order_laws.walk_laws.Picked.{less_is}

put_cleared : (p : Placed) (q : Path) → ◌≡◌ {A = Option Action} (Some (Puts p)) (Some (Clears q)) → ⊥
put_cleared p q h = cc

same_path : (q r : Path) → ◌≡◌ {A = Option Action} (Some (Clears q)) (Some (Clears r)) → q ≡ r
same_path q r h = cc

same_put : (p r : Placed) → ◌≡◌ {A = Option Action} (Some (Puts p)) (Some (Puts r)) → p ≡ r
same_put p r h = cc

-- ---- what is taken away
neither : (a b : Bool) → (a || b) ≡ false → (a ≡ false) × (b ≡ false)
neither true b h = absurd (false≢true (sym h))
neither false b h = (refl, h)

uncovered : (rest : List Action) (path : Path) → ((j : ℕ) (q : Path) → slice_get rest j ≡ Some (Clears q) → is_under q path ≡ false) → covers rest path ≡ false
uncovered [] path none = refl
uncovered (Clears q ∷ rest) path none =
    ap (λ (b : Bool). b || covers rest path) (none 0 q refl) ∙ uncovered rest path (λ j r at. none (suc j) r at)
uncovered (Puts p ∷ rest) path none = uncovered rest path (λ j r at. none (suc j) r at)

none_covers : (rest : List Action) (path : Path) → covers rest path ≡ false → (j : ℕ) (q : Path) → slice_get rest j ≡ Some (Clears q) → is_under q path ≡ false
none_covers [] path h j q at = absurd (none-some (Clears q) at)
none_covers (Clears r ∷ rest) path h zero q at =
    ap (λ (x : Path). is_under x path) (sym (same_path r q at)) ∙ (neither (is_under r path) (covers rest path) h).0
none_covers (Clears r ∷ rest) path h (suc j) q at = none_covers rest path (neither (is_under r path) (covers rest path) h).1 j q at
none_covers (Puts p ∷ rest) path h zero q at = absurd (put_cleared p q at)
none_covers (Puts p ∷ rest) path h (suc j) q at = none_covers rest path h j q at

-- behind the first action stand the others
left_first : (a : Action) (rest : List Action) (path : Path) → covers rest path ≡ false → IsLeft (a ∷ rest) 0 path
left_first a rest path h zero q lt at = absurd (omega (arith, lt))
left_first a rest path h (suc j) q lt at = none_covers rest path h j q at

first_left : (a : Action) (rest : List Action) (path : Path) → IsLeft (a ∷ rest) 0 path → covers rest path ≡ false
first_left a rest path left = uncovered rest path (λ j q at. left (suc j) q (omega arith) at)

left_next : (a : Action) (rest : List Action) (k : ℕ) (path : Path) → IsLeft rest k path → IsLeft (a ∷ rest) (suc k) path
left_next a rest k path left zero q lt at = absurd (omega (arith, lt))
left_next a rest k path left (suc j) q lt at = left j q (omega (arith, lt)) at

next_left : (a : Action) (rest : List Action) (k : ℕ) (path : Path) → IsLeft (a ∷ rest) (suc k) path → IsLeft rest k path
next_left a rest k path left j q lt at = left (suc j) q (omega (arith, lt)) at

-- ---- the items with the numbers of their actions
abbrev item : ℕ × Placed → Placed
item e = e.1

abbrev lasted : ℕ → List Action → List (ℕ × Placed)
lasted i [] = []
lasted i (Clears q ∷ rest) = lasted (i + 1) rest
lasted i (Puts p ∷ rest) = cond (covers rest p.path) (lasted (i + 1) rest) ((i, p) ∷ lasted (i + 1) rest)

items_are : (i : ℕ) (actions : List Action) → survivors actions ≡ map item (lasted i actions)
items_are i [] = refl
items_are i (Clears q ∷ rest) = items_are (i + 1) rest
items_are i (Puts p ∷ rest) = by (covers rest p.path) (items_are (i + 1) rest)
  where
    by : (b : Bool) → survivors rest ≡ map item (lasted (i + 1) rest) → cond b (survivors rest) (p ∷ survivors rest) ≡ map item (cond b (lasted (i + 1) rest) ((i, p) ∷ lasted (i + 1) rest))
    by true e = e
    by false e = ap (λ (l : List Placed). p ∷ l) e

behind : (j i : ℕ) (actions : List Action) → j < i → Behind nat_cmp j (lasted i actions)
behind j i [] lt = tt
behind j i (Clears q ∷ rest) lt = behind j (i + 1) rest (omega (arith, lt))
behind j i (Puts p ∷ rest) lt = by (covers rest p.path) (behind j (i + 1) rest (omega (arith, lt)))
  where
    by : (b : Bool) → Behind nat_cmp j (lasted (i + 1) rest) → Behind nat_cmp j (cond b (lasted (i + 1) rest) ((i, p) ∷ lasted (i + 1) rest))
    by true later = later
    by false later = (less_is j i lt, later)

rises : (i : ℕ) (actions : List Action) → Rises nat_cmp (lasted i actions)
rises i [] = nil_rises Placed nat_cmp
rises i (Clears q ∷ rest) = rises (i + 1) rest
rises i (Puts p ∷ rest) = by (covers rest p.path) (rises (i + 1) rest)
  where
    by : (b : Bool) → Rises nat_cmp (lasted (i + 1) rest) → Rises nat_cmp (cond b (lasted (i + 1) rest) ((i, p) ∷ lasted (i + 1) rest))
    by true later = later
    by false later = cons_rises nat_cmp (i, p) (lasted (i + 1) rest) (behind i (i + 1) rest (omega arith)) later

record Lasts (i : ℕ) (actions : List Action) (e : ℕ × Placed) : Type 0 where
  number : ℕ
  same : e.0 ≡ i + number
  put : slice_get actions number ≡ Some (Puts e.1)
  left : IsLeft actions number e.1.path

later_lasts : (i : ℕ) (a : Action) (rest : List Action) (e : ℕ × Placed) → Lasts (i + 1) rest e → Lasts i (a ∷ rest) e
later_lasts i a rest e h =
    let same = h.same in
    record { number = suc h.number; same = omega (arith, same); put = h.put; left = left_next a rest h.number e.1.path h.left }

from : (i : ℕ) (actions : List Action) (e : ℕ × Placed) → Member (lasted i actions) e → Lasts i actions e
from i [] e h = absurd h
from i (Clears q ∷ rest) e h = later_lasts i (Clears q) rest e (from (i + 1) rest e h)
from i (Puts p ∷ rest) e h = by (covers rest p.path) refl h (λ m. later_lasts i (Puts p) rest e (from (i + 1) rest e m))
  where
    by : (b : Bool) → covers rest p.path ≡ b → Member (cond b (lasted (i + 1) rest) ((i, p) ∷ lasted (i + 1) rest)) e → (Member (lasted (i + 1) rest) e → Lasts i (Puts p ∷ rest) e) → Lasts i (Puts p ∷ rest) e
    by true is m later = later m
    by false is (inl same) later =
        subst (Lasts i (Puts p ∷ rest)) same
        (record { number = 0; same = omega arith; put = refl; left = left_first (Puts p) rest p.path is })
    by false is (inr m) later = later m

keeps : (i : ℕ) (a : Action) (rest : List Action) (e : ℕ × Placed) → Member (lasted (i + 1) rest) e → Member (lasted i (a ∷ rest)) e
keeps i (Clears q) rest e m = m
keeps i (Puts p) rest e m = by (covers rest p.path)
  where
    by : (b : Bool) → Member (cond b (lasted (i + 1) rest) ((i, p) ∷ lasted (i + 1) rest)) e
    by true = m
    by false = inr m

stands : (i : ℕ) (actions : List Action) (j : ℕ) (p : Placed) → slice_get actions j ≡ Some (Puts p) → IsLeft actions j p.path → Member (lasted i actions) (i + j, p)
stands i [] j p at left = absurd (none-some (Puts p) at)
stands i (Clears q ∷ rest) zero p at left = absurd (put_cleared p q (sym at))
stands i (Puts r ∷ rest) zero p at left =
    let same : r ≡ p = same_put r p at in
    let none : i ≡ i + 0 = omega arith in
    let last : covers rest r.path ≡ false = ap (λ (x : Placed). covers rest x.path) same ∙ first_left (Puts r) rest p.path left in
    subst (λ (b : Bool). Member (cond b (lasted (i + 1) rest) ((i, r) ∷ lasted (i + 1) rest)) (i + 0, p)) (sym last)
    (inl (ap (λ (k : ℕ). (k, r)) none ∙ ap (λ (x : Placed). (i + 0, x)) same))
stands i (a ∷ rest) (suc j) p at left =
    let next : (i + 1) + j ≡ i + suc j = omega arith in
    keeps i a rest (i + suc j, p) (subst (λ (k : ℕ). Member (lasted (i + 1) rest) (k, p)) next (stands (i + 1) rest j p at (next_left a rest j p.path left)))

own : (actions : List Action) (e : ℕ × Placed) → Lasts 0 actions e → IsLastPut actions e
own actions e h =
    let same = h.same in
    let number : h.number ≡ e.0 = omega (arith, same) in
    (subst (λ (k : ℕ). slice_get actions k ≡ Some (Puts e.1)) number h.put, subst (λ (k : ℕ). IsLeft actions k e.1.path) number h.left)

pub items_last : ItemsLast
items_last actions list =
    subst (λ (walk : List Placed). (list ≡ walk) ↔ IsShown nat_cmp (IsLastPut actions) item list) (sym (lasting_is actions ∙ items_are 0 actions))
    (shown_is nat_cmp nat_cmp_total (IsLastPut actions) (lasted 0 actions) (rises 0 actions)
    (λ e. (
      (λ m. own actions e (from 0 actions e m)),
      λ h. let none : 0 + e.0 ≡ e.0 = omega arith in subst (λ (k : ℕ). Member (lasted 0 actions) (k, e.1)) none (stands 0 actions e.0 e.1 h.0 h.1),
    )) item list)
