-- What stands under a step is between two cuts, and stays in order.
use Rattle.std.proofs.Common.{◌≡◌, ℕ, zero, suc, ◌+◌, ◌-◌, ◌<◌, ◌≤◌, Bool, true, false, cond, not, eqb, ltb, List, [], ◌∷◌, length, take, drop, filter, map, refl, sym, ◌∙◌, ap, subst, inl, inr, arith, rules, add-one}
use Rattle.std.proofs.lemmas.Bool.{cases_Bool}
use Rattle.std.proofs.lemmas.List.{length-take-le, length-drop, drop-drop}
use Rattle.c_types.specs.declared.term.PathStep.{PathStep}
use Rattle.c_types.specs.declared.term.PathStep.TheVariants.{Index, Member}
use Rattle.ref_cells.specs.Cells.{Entry, CellList, step_key, head_key, tail, behind, seen, under, above, prefixed, is_below, is_above, is_under, Begins, IsPart}
use Rattle.ref_cells.specs.Order.{IsBefore, IsBeforeAll, IsOrdered}

pub key_some : (s : PathStep) → 0 < step_key s
key_some (Index i) = omega arith
key_some (Member k) = omega arith

before_all_drop : (d n : ℕ) (p : List PathStep) (cells : CellList) → IsBeforeAll p (seen d cells) → IsBeforeAll p (seen d (drop n cells))
before_all_drop d zero p cells h = h
before_all_drop d (suc n) p [] h = h
before_all_drop d (suc n) p (e ∷ rest) h = before_all_drop d n p rest h.1

pub ordered_drop : (d n : ℕ) (cells : CellList) → IsOrdered (seen d cells) → IsOrdered (seen d (drop n cells))
ordered_drop d zero cells h = h
ordered_drop d (suc n) [] h = h
ordered_drop d (suc n) (e ∷ rest) h = ordered_drop d n rest h.1

before_all_take : (d n : ℕ) (p : List PathStep) (cells : CellList) → IsBeforeAll p (seen d cells) → IsBeforeAll p (seen d (take n cells))
before_all_take d zero p cells h = tt
before_all_take d (suc n) p [] h = tt
before_all_take d (suc n) p (e ∷ rest) h = (h.0, before_all_take d n p rest h.1)

pub ordered_take : (d n : ℕ) (cells : CellList) → IsOrdered (seen d cells) → IsOrdered (seen d (take n cells))
ordered_take d zero cells h = tt
ordered_take d (suc n) [] h = tt
ordered_take d (suc n) (e ∷ rest) h = (before_all_take d n (drop d e.0) rest h.0, ordered_take d n rest h.1)

-- one step more is the rest of the path
tail_drop : (d : ℕ) (p : List PathStep) → tail (drop d p) ≡ drop (suc d) p
tail_drop zero [] = refl
tail_drop zero (s ∷ p) = refl
tail_drop (suc d) [] = refl
tail_drop (suc d) (s ∷ p) = tail_drop d p

pub seen_more : (d : ℕ) (cells : CellList) → seen (d + 1) cells ≡ map behind (seen d cells)
seen_more d [] = refl
seen_more d (e ∷ rest) =
    let here : drop (d + 1) e.0 ≡ tail (drop d e.0) = rw add-one (sym (tail_drop d e.0)) in
    let more : seen (d + 1) rest ≡ map behind (seen d rest) = seen_more d rest in
    ap (λ (p : List PathStep). (p, e.1) ∷ seen (d + 1) rest) here ∙ ap (λ (xs : CellList). (tail (drop d e.0), e.1) ∷ xs) more

-- a number below the next one that isn't below this one is this one
tests_agree : (h key : ℕ) (xs ys zs : CellList) → ltb h key ≡ false → ltb h (key + 1) ≡ eqb h key
tests_agree h key xs ys zs e = search rules

abbrev pub between : ℕ → CellList → CellList
between key xs = filter (is_below (key + 1)) (filter (λ e. not (is_below key e)) xs)

step_below : (key : ℕ) (e : Entry) (xs : CellList) → ltb (head_key e.0) key ≡ true → between key xs ≡ filter (is_under key) xs → between key (e ∷ xs) ≡ filter (is_under key) (e ∷ xs)
step_below key e xs lt ih =
    let no : eqb (head_key e.0) key ≡ false = search rules in
    ap (λ (b : Bool). filter (is_below (key + 1)) (cond (not b) (e ∷ filter (λ f. not (is_below key f)) xs) (filter (λ f. not (is_below key f)) xs))) lt ∙ ih ∙ sym (ap (λ (b : Bool). cond b (e ∷ filter (is_under key) xs) (filter (is_under key) xs)) no)

step_from : (key : ℕ) (e : Entry) (xs : CellList) → ltb (head_key e.0) key ≡ false → between key xs ≡ filter (is_under key) xs → between key (e ∷ xs) ≡ filter (is_under key) (e ∷ xs)
step_from key e xs ge ih =
    let same : ltb (head_key e.0) (key + 1) ≡ eqb (head_key e.0) key = tests_agree (head_key e.0) key [] [] [] ge in
    ap (λ (b : Bool). filter (is_below (key + 1)) (cond (not b) (e ∷ filter (λ f. not (is_below key f)) xs) (filter (λ f. not (is_below key f)) xs))) ge
    ∙ ap (λ (b : Bool). cond b (e ∷ between key xs) (between key xs)) same
    ∙ ap (λ (ys : CellList). cond (eqb (head_key e.0) key) (e ∷ ys) ys) ih

pub between_is : (key : ℕ) (xs : CellList) → between key xs ≡ filter (is_under key) xs
between_is key [] = refl
between_is key (e ∷ xs) = elim (cases_Bool (ltb (head_key e.0) key)) [ inl lt ↦ step_below key e xs lt (between_is key xs) | inr ge ↦ step_from key e xs ge (between_is key xs) ]

-- what the two cuts leave is what stands under the step
pub under_cut : (d key : ℕ) (s : PathStep) (cells rest part : CellList) → key ≡ step_key s → filter (λ e. not (is_below key e)) (seen d cells) ≡ seen d rest → filter (is_below (key + 1)) (seen d rest) ≡ seen d part → seen (d + 1) part ≡ under s (seen d cells)
under_cut d key s cells rest part k from to =
    seen_more d part ∙ ap (map behind) (sym to ∙ ap (filter (is_below (key + 1))) (sym from) ∙ between_is key (seen d cells) ∙ ap (λ (n : ℕ). filter (is_under n) (seen d cells)) k)

before_tail : (s : PathStep) (p q : List PathStep) → head_key p ≡ step_key s → head_key q ≡ step_key s → IsBefore p q → IsBefore (tail p) (tail q)
before_tail s p [] hp hq h = absurd h
before_tail s [] (b ∷ q) hp hq h = let some : 0 < step_key s = key_some s in absurd (omega arith)
before_tail s (a ∷ p) (b ∷ q) hp hq (inl lt) = absurd (omega arith)
before_tail s (a ∷ p) (b ∷ q) hp hq (inr (e, h)) = h

before_all_yes : (s : PathStep) (p : List PathStep) (e : Entry) (xs : CellList) → head_key p ≡ step_key s → IsBefore p e.0 → IsBeforeAll (tail p) (map behind (filter (is_under (step_key s)) xs)) → (b : Bool) → eqb (head_key e.0) (step_key s) ≡ b → IsBeforeAll (tail p) (map behind (cond b (e ∷ filter (is_under (step_key s)) xs) (filter (is_under (step_key s)) xs)))
before_all_yes s p e xs hp h ih true same = (before_tail s p e.0 hp (search rules) h, ih)
before_all_yes s p e xs hp h ih false same = ih

before_all_under : (s : PathStep) (p : List PathStep) (xs : CellList) → head_key p ≡ step_key s → IsBeforeAll p xs → IsBeforeAll (tail p) (map behind (filter (is_under (step_key s)) xs))
before_all_under s p [] hp h = tt
before_all_under s p (e ∷ xs) hp h = before_all_yes s p e xs hp h.0 (before_all_under s p xs hp h.1) (eqb (head_key e.0) (step_key s)) refl

ordered_yes : (s : PathStep) (e : Entry) (xs : CellList) → IsBeforeAll e.0 xs → IsOrdered (map behind (filter (is_under (step_key s)) xs)) → (b : Bool) → eqb (head_key e.0) (step_key s) ≡ b → IsOrdered (map behind (cond b (e ∷ filter (is_under (step_key s)) xs) (filter (is_under (step_key s)) xs)))
ordered_yes s e xs h ih true same = (before_all_under s e.0 xs (search rules) h, ih)
ordered_yes s e xs h ih false same = ih

pub ordered_under : (s : PathStep) (xs : CellList) → IsOrdered xs → IsOrdered (under s xs)
ordered_under s [] h = tt
ordered_under s (e ∷ xs) h = ordered_yes s e xs h.0 (ordered_under s xs h.1) (eqb (head_key e.0) (step_key s)) refl

-- seen from no step on
pub seen_none : (cells : CellList) → seen 0 cells ≡ cells
seen_none [] = refl
seen_none (e ∷ rest) = ap (λ (xs : CellList). e ∷ xs) (seen_none rest)

abbrev pub AllAt : ℕ → CellList → Type 0
AllAt key [] = Unit {0}
AllAt key (e ∷ rest) = (head_key e.0 ≡ key) × AllAt key rest

at_yes : (key : ℕ) (e : Entry) (xs : CellList) → AllAt key (filter (is_under key) xs) → (b : Bool) → eqb (head_key e.0) key ≡ b → AllAt key (cond b (e ∷ filter (is_under key) xs) (filter (is_under key) xs))
at_yes key e xs h true same = (search rules, h)
at_yes key e xs h false same = h

all_at : (key : ℕ) (xs : CellList) → AllAt key (filter (is_under key) xs)
all_at key [] = tt
all_at key (e ∷ xs) = at_yes key e xs (all_at key xs) (eqb (head_key e.0) key) refl

-- a step is known by its number
same_key : (a b : PathStep) → step_key a ≡ step_key b → a ≡ b
same_key (Index i) (Index j) e = let n : i ≡ j = omega arith in ap Index n
same_key (Index i) (Member k) e = absurd (omega arith)
same_key (Member k) (Index i) e = absurd (omega arith)
same_key (Member k) (Member l) e = let n : k ≡ l = omega arith in ap Member n

by_key : (s : PathStep) (p : List PathStep) → head_key p ≡ step_key s → p ≡ s ∷ tail p
by_key s [] e = let some : 0 < step_key s = key_some s in absurd (omega arith)
by_key s (a ∷ p) e = ap (λ (q : PathStep). q ∷ p) (same_key a s e)

begins_at : (s : PathStep) (d : ℕ) (xs : CellList) → AllAt (step_key s) (seen d xs) → Begins s d xs
begins_at s d [] h = tt
begins_at s d (e ∷ xs) h =
    (by_key s (drop d e.0) h.0 ∙ ap (λ (p : List PathStep). s ∷ p) (let t : tail (drop d e.0) ≡ drop (d + 1) e.0 = rw add-one (tail_drop d e.0) in t), begins_at s d xs h.1)

-- what the two cuts leave has that step at its front
pub begins_cut : (d key : ℕ) (s : PathStep) (cells rest part : CellList) → key ≡ step_key s → filter (λ e. not (is_below key e)) (seen d cells) ≡ seen d rest → filter (is_below (key + 1)) (seen d rest) ≡ seen d part → Begins s d part
begins_cut d key s cells rest part k from to =
    let here : filter (is_under (step_key s)) (seen d cells) ≡ seen d part = sym (ap (λ (n : ℕ). filter (is_under n) (seen d cells)) k) ∙ (sym (between_is key (seen d cells)) ∙ ap (filter (is_below (key + 1))) from ∙ to) in
    begins_at s d part (subst (AllAt (step_key s)) here (all_at (step_key s) (seen d cells)))

pub begins_take : (s : PathStep) (d n : ℕ) (xs : CellList) → Begins s d xs → Begins s d (take n xs)
begins_take s d zero xs h = tt
begins_take s d (suc n) [] h = tt
begins_take s d (suc n) (e ∷ xs) h = (h.0, begins_take s d n xs h.1)

pub begins_drop : (s : PathStep) (d n : ℕ) (xs : CellList) → Begins s d xs → Begins s d (drop n xs)
begins_drop s d zero xs h = h
begins_drop s d (suc n) [] h = h
begins_drop s d (suc n) (e ∷ xs) h = begins_drop s d n xs h.1

pub begins_prefixed : (s : PathStep) (d : ℕ) (xs : CellList) → Begins s d xs → prefixed s (seen (d + 1) xs) ≡ seen d xs
begins_prefixed s d [] h = refl
begins_prefixed s d (e ∷ xs) h =
    ap (λ (p : List PathStep). (p, e.1) ∷ prefixed s (seen (d + 1) xs)) (sym h.0) ∙ ap (λ (ys : CellList). (drop d e.0, e.1) ∷ ys) (begins_prefixed s d xs h.1)

abbrev pub past : ℕ → CellList → CellList
past key xs = filter (λ e. not (is_below (key + 1) e)) (filter (λ e. not (is_below key e)) xs)

past_below : (key : ℕ) (e : Entry) (xs : CellList) → ltb (head_key e.0) key ≡ true → past key xs ≡ filter (is_above key) xs → past key (e ∷ xs) ≡ filter (is_above key) (e ∷ xs)
past_below key e xs lt ih =
    let no : ltb key (head_key e.0) ≡ false = search rules in
    ap (λ (b : Bool). filter (λ f. not (is_below (key + 1) f)) (cond (not b) (e ∷ filter (λ f. not (is_below key f)) xs) (filter (λ f. not (is_below key f)) xs))) lt ∙ ih ∙ sym (ap (λ (b : Bool). cond b (e ∷ filter (is_above key) xs) (filter (is_above key) xs)) no)

above_agrees : (h key : ℕ) → ltb h key ≡ false → not (ltb h (key + 1)) ≡ ltb key h
above_agrees h key e = search rules

past_from : (key : ℕ) (e : Entry) (xs : CellList) → ltb (head_key e.0) key ≡ false → past key xs ≡ filter (is_above key) xs → past key (e ∷ xs) ≡ filter (is_above key) (e ∷ xs)
past_from key e xs ge ih =
    let same : not (ltb (head_key e.0) (key + 1)) ≡ ltb key (head_key e.0) = above_agrees (head_key e.0) key ge in
    ap (λ (b : Bool). filter (λ f. not (is_below (key + 1) f)) (cond (not b) (e ∷ filter (λ f. not (is_below key f)) xs) (filter (λ f. not (is_below key f)) xs))) ge
    ∙ ap (λ (b : Bool). cond b (e ∷ past key xs) (past key xs)) same
    ∙ ap (λ (ys : CellList). cond (ltb key (head_key e.0)) (e ∷ ys) ys) ih

past_is : (key : ℕ) (xs : CellList) → past key xs ≡ filter (is_above key) xs
past_is key [] = refl
past_is key (e ∷ xs) = elim (cases_Bool (ltb (head_key e.0) key)) [ inl lt ↦ past_below key e xs lt (past_is key xs) | inr ge ↦ past_from key e xs ge (past_is key xs) ]

pub above_cut : (d key : ℕ) (s : PathStep) (cells rest behind : CellList) → key ≡ step_key s → filter (λ e. not (is_below key e)) (seen d cells) ≡ seen d rest → filter (λ e. not (is_below (key + 1) e)) (seen d rest) ≡ seen d behind → seen d behind ≡ above s (seen d cells)
above_cut d key s cells rest behind k from to =
    sym to ∙ ap (filter (λ e. not (is_below (key + 1) e))) (sym from) ∙ past_is key (seen d cells) ∙ ap (λ (n : ℕ). filter (is_above n) (seen d cells)) k

pub part_of : (cells rest part : CellList) (start n : ℕ) → start ≤ length cells → n ≤ length rest → rest ≡ drop start cells → part ≡ take n rest → IsPart cells start part
part_of cells rest part start n s l r p =
    let long : length part ≡ n = ap length p ∙ length-take-le n rest l in
    let room : length rest ≡ length cells - start = ap length r ∙ length-drop start cells in
    record {
      within = omega arith;
      cells = p ∙ ap (take n) r ∙ ap (λ (k : ℕ). take k (drop start cells)) (sym long);
    }

pub cut_past : (cells rest part : CellList) (start n : ℕ) → n ≤ length rest → rest ≡ drop start cells → part ≡ take n rest → drop n rest ≡ drop (start + length part) cells
cut_past cells rest part start n l r p =
    let long : length part ≡ n = ap length p ∙ length-take-le n rest l in
    ap (drop n) r ∙ drop-drop n start cells ∙ ap (λ (k : ℕ). drop k cells) (let e : start + n ≡ start + length part = omega arith in e)
