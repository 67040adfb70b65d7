-- A write changes one stretch of the list.
use Rattle.std.proofs.Common.{◌≡◌, ℕ, zero, suc, ◌+◌, ◌-◌, ◌<◌, ◌≤◌, Bool, true, false, cond, List, [], ◌∷◌, ◌++◌, Option, Result, Ok, Err, OnOk, length, take, drop, get_or, refl, sym, ◌∙◌, ap, subst, arith, add-one}
use Rattle.std.proofs.lemmas.List.{append-nil, append_assoc, map-append, take-take, take-append-drop, drop-drop, length-drop}
use Rattle.std.proofs.Math.Seq.{take-add, drop-length, take-length}
use Rattle.c_types.specs.declared.term.PathStep.{PathStep}
use Rattle.c_types.specs.Trees.{Ctype}
use Rattle.c_types.specs.Table.{Table}
use Rattle.c_types.specs.Paths.{part_below}
use Rattle.ref_cells.specs.Cells.{Entry, CellList, seen, under, below, above, prefixed, joined, Begins, IsPart}
use Rattle.ref_cells.specs.Values.{goes_on}
use Rattle.ref_cells.specs.Puts.{lost, put, replaced}
use Rattle.ref_cells.proofs.Unders.{begins_take, begins_drop, begins_prefixed, seen_none}
use Rattle.ref_cells.proofs.Fills.{joined_none}

pub all_scope : (d : ℕ) (cells whole : CellList) (path : List PathStep) (inside : List PathStep → CellList) (steps from to : ℕ) → steps ≡ 0 → from ≡ 0 → to ≡ length cells → whole ≡ inside path → whole ≡ seen d (take from cells) ++ joined (take steps path) (inside (drop steps path)) ++ seen d (drop to cells)
all_scope d cells whole path inside steps from to s f t e =
    e ∙ sym (ap (λ (n : ℕ). seen d (take n cells) ++ joined (take steps path) (inside (drop steps path)) ++ seen d (drop to cells)) f
    ∙ ap (λ (n : ℕ). joined (take n path) (inside (drop n path)) ++ seen d (drop to cells)) s
    ∙ ap (λ (n : ℕ). joined [] (inside path) ++ seen d (drop n cells)) t
    ∙ ap (λ (xs : CellList). joined [] (inside path) ++ seen d xs) (drop-length cells)
    ∙ append-nil (joined [] (inside path))
    ∙ joined_none (inside path))

seen_append : (d : ℕ) (xs ys : CellList) → seen d (xs ++ ys) ≡ seen d xs ++ seen d ys
seen_append d xs ys = map-append (λ (e : Entry). (drop d e.0, e.1)) xs ys

prefixed_append : (s : PathStep) (xs ys : CellList) → prefixed s (xs ++ ys) ≡ prefixed s xs ++ prefixed s ys
prefixed_append s xs ys = map-append (λ (e : Entry). (s ∷ e.0, e.1)) xs ys

prefixed_joined : (s : PathStep) (front : List PathStep) (xs : CellList) → prefixed s (joined front xs) ≡ joined (s ∷ front) xs
prefixed_joined s front [] = refl
prefixed_joined s front (e ∷ xs) = ap (λ (ys : CellList). (s ∷ (front ++ e.0), e.1) ∷ ys) (prefixed_joined s front xs)

take_part : (cells part : CellList) (start f : ℕ) → IsPart cells start part → f ≤ length part → take (start + f) cells ≡ take start cells ++ take f part
take_part cells part start f h le =
    take-add start f cells ∙ ap (λ (xs : CellList). take start cells ++ xs) (sym (take-take f (length part) (drop start cells) le) ∙ ap (take f) (sym h.cells))

drop_in : (xs : CellList) (t n : ℕ) → t ≤ n → drop t (take n xs) ++ drop n xs ≡ drop t xs
drop_in xs zero n le = take-append-drop n xs
drop_in [] (suc t) zero le = absurd (omega arith)
drop_in [] (suc t) (suc n) le = refl
drop_in (x ∷ xs) (suc t) zero le = absurd (omega arith)
drop_in (x ∷ xs) (suc t) (suc n) le = drop_in xs t n (omega arith)

drop_part : (cells part : CellList) (start t : ℕ) → IsPart cells start part → t ≤ length part → drop (start + t) cells ≡ drop t part ++ drop (start + length part) cells
drop_part cells part start t h le =
    sym (drop-drop t start cells) ∙ sym (drop_in (drop start cells) t (length part) le)
    ∙ ap (λ (xs : CellList). drop t xs ++ drop (length part) (drop start cells)) (sym h.cells)
    ∙ ap (λ (xs : CellList). drop t part ++ xs) (drop-drop (length part) start cells)

-- the stretch that changes under a step is the one that changes
pub inner_scope : (d : ℕ) (s : PathStep) (rest : List PathStep) (cells part value : CellList) (inside : CellList) (start f t k : ℕ) → IsPart cells start part → Begins s d part → f ≤ t → t ≤ length part →
    seen d (take start cells) ≡ below s (seen d cells) → seen d (drop (start + length part) cells) ≡ above s (seen d cells) →
    value ≡ seen (d + 1) (take f part) ++ joined (take k rest) inside ++ seen (d + 1) (drop t part) →
    below s (seen d cells) ++ prefixed s value ++ above s (seen d cells) ≡ seen d (take (start + f) cells) ++ joined (take (k + 1) (s ∷ rest)) inside ++ seen d (drop (start + t) cells)
inner_scope d s rest cells part value inside start f t k is_part begins ft tl lower upper e =
    let A = seen d (take start cells) in
    let B = seen d (take f part) in
    let J = joined (s ∷ take k rest) inside in
    let D = seen d (drop t part) in
    let U = seen d (drop (start + length part) cells) in
    let here : prefixed s value ≡ B ++ J ++ D =
    ap (prefixed s) e
    ∙ prefixed_append s (seen (d + 1) (take f part) ++ joined (take k rest) inside) (seen (d + 1) (drop t part))
    ∙ ap (λ (xs : CellList). xs ++ prefixed s (seen (d + 1) (drop t part))) (prefixed_append s (seen (d + 1) (take f part)) (joined (take k rest) inside))
    ∙ ap (λ (xs : CellList). xs ++ prefixed s (joined (take k rest) inside) ++ prefixed s (seen (d + 1) (drop t part))) (begins_prefixed s d (take f part) (begins_take s d f part begins))
    ∙ ap (λ (xs : CellList). B ++ xs ++ prefixed s (seen (d + 1) (drop t part))) (prefixed_joined s (take k rest) inside)
    ∙ ap (λ (xs : CellList). B ++ J ++ xs) (begins_prefixed s d (drop t part) (begins_drop s d t part begins)) in
    let front : seen d (take (start + f) cells) ≡ A ++ B = ap (seen d) (take_part cells part start f is_part (omega arith)) ∙ seen_append d (take start cells) (take f part) in
    let back : seen d (drop (start + t) cells) ≡ D ++ U = ap (seen d) (drop_part cells part start t is_part tl) ∙ seen_append d (drop t part) (drop (start + length part) cells) in
    let steps : joined (take (k + 1) (s ∷ rest)) inside ≡ J = rw add-one refl in
    ap (λ (xs : CellList). xs ++ prefixed s value ++ above s (seen d cells)) (sym lower)
    ∙ ap (λ (xs : CellList). A ++ prefixed s value ++ xs) (sym upper)
    ∙ ap (λ (xs : CellList). A ++ xs ++ U) here
    ∙ (let shape : A ++ (B ++ J ++ D) ++ U ≡ (A ++ B) ++ J ++ (D ++ U) = simp append_assoc in shape)
    ∙ ap (λ (xs : CellList). xs ++ J ++ (D ++ U)) (sym front)
    ∙ ap (λ (xs : CellList). seen d (take (start + f) cells) ++ xs ++ (D ++ U)) (sym steps)
    ∙ ap (λ (xs : CellList). seen d (take (start + f) cells) ++ joined (take (k + 1) (s ∷ rest)) inside ++ xs) (sym back)

pub put_on : (table : Table) (marked : Bool) (t : Option Ctype) (s : PathStep) (rest : List PathStep) (value cells : CellList) → goes_on t s cells ≡ true → put table marked t (s ∷ rest) value cells ≡ below s cells ++ prefixed s (put table marked (part_below table t s) rest value (under s cells)) ++ above s cells
put_on table marked t s rest value cells e =
    ap (λ (b : Bool). cond b (below s cells ++ prefixed s (put table marked (part_below table t s) rest value (under s cells)) ++ above s cells) (prefixed s (put table marked (part_below table t s) rest value (lost table marked (part_below table t s))))) e

pub put_off : (table : Table) (marked : Bool) (t : Option Ctype) (s : PathStep) (rest : List PathStep) (value cells : CellList) → goes_on t s cells ≡ false → put table marked t (s ∷ rest) value cells ≡ replaced table marked t (s ∷ rest) value
put_off table marked t s rest value cells e =
    ap (λ (b : Bool). cond b (below s cells ++ prefixed s (put table marked (part_below table t s) rest value (under s cells)) ++ above s cells) (prefixed s (put table marked (part_below table t s) rest value (lost table marked (part_below table t s))))) e

pub empty_put : (table : Table) (marked : Bool) (t w : Option Ctype) (path : List PathStep) (value cells : CellList) → length path < 1 → put table marked t path value cells ≡ replaced table marked w path value
empty_put table marked t w [] value cells h = refl
empty_put table marked t w (s ∷ rest) value cells h = absurd (omega arith)

pub off_put : (table : Table) (marked : Bool) (t w : Option Ctype) (path : List PathStep) (x : PathStep) (value cells : CellList) → 1 ≤ length path → goes_on t (get_or path 0 x) cells ≡ false → w ≡ t → put table marked t path value cells ≡ replaced table marked w path value
off_put table marked t w [] x value cells h e same = absurd (omega arith)
off_put table marked t w (s ∷ rest) x value cells h e same = put_off table marked t s rest value cells e ∙ ap (λ (u : Option Ctype). replaced table marked u (s ∷ rest) value) (sym same)

pub on_put : (table : Table) (marked : Bool) (t u w : Option Ctype) (path : List PathStep) (x : PathStep) (value cells part : CellList) (d start f to k : ℕ) → 1 ≤ length path →
    goes_on t (get_or path 0 x) (seen d cells) ≡ true → IsPart cells start part → Begins (get_or path 0 x) d part → f ≤ to → to ≤ length part →
    seen d (take start cells) ≡ below (get_or path 0 x) (seen d cells) → seen d (drop (start + length part) cells) ≡ above (get_or path 0 x) (seen d cells) →
    seen (d + 1) part ≡ under (get_or path 0 x) (seen d cells) → u ≡ part_below table t (get_or path 0 x) →
    put table marked u (drop 1 path) value (seen (d + 1) part) ≡ seen (d + 1) (take f part) ++ joined (take k (drop 1 path)) (replaced table marked w (drop k (drop 1 path)) value) ++ seen (d + 1) (drop to part) →
    put table marked t path value (seen d cells) ≡ seen d (take (start + f) cells) ++ joined (take (k + 1) path) (replaced table marked w (drop (k + 1) path) value) ++ seen d (drop (start + to) cells)
on_put table marked t u w [] x value cells part d start f to k h g is_part begins ft tl lower upper cut same e = absurd (omega arith)
on_put table marked t u w (s ∷ rest) x value cells part d start f to k h g is_part begins ft tl lower upper cut same e =
    let P = put table marked u rest value (seen (d + 1) part) in
    let past : drop k rest ≡ drop (k + 1) (s ∷ rest) = rw add-one refl in
    put_on table marked t s rest value (seen d cells) g
    ∙ ap (λ (xs : CellList). below s (seen d cells) ++ prefixed s (put table marked (part_below table t s) rest value xs) ++ above s (seen d cells)) (sym cut)
    ∙ ap (λ (v : Option Ctype). below s (seen d cells) ++ prefixed s (put table marked v rest value (seen (d + 1) part)) ++ above s (seen d cells)) (sym same)
    ∙ inner_scope d s rest cells part P (replaced table marked w (drop k rest) value) start f to k is_part begins ft tl lower upper e
    ∙ ap (λ (q : List PathStep). seen d (take (start + f) cells) ++ joined (take (k + 1) (s ∷ rest)) (replaced table marked w q value) ++ seen d (drop (start + to) cells)) past

-- a slice to the end
pub to_end : {A : Type 0} (n : ℕ) (xs : List A) → take (length xs - n) (drop n xs) ≡ drop n xs
to_end n xs = ap (λ (k : ℕ). take k (drop n xs)) (sym (length-drop n xs)) ∙ take-length (drop n xs)

pub on_put_rest : (table : Table) (marked : Bool) (t u w : Option Ctype) (path more : List PathStep) (x : PathStep) (value cells part : CellList) (d start f to k : ℕ) → more ≡ drop 1 path → 1 ≤ length path →
    goes_on t (get_or path 0 x) (seen d cells) ≡ true → IsPart cells start part → Begins (get_or path 0 x) d part → f ≤ to → to ≤ length part →
    seen d (take start cells) ≡ below (get_or path 0 x) (seen d cells) → seen d (drop (start + length part) cells) ≡ above (get_or path 0 x) (seen d cells) →
    seen (d + 1) part ≡ under (get_or path 0 x) (seen d cells) → u ≡ part_below table t (get_or path 0 x) →
    put table marked u more value (seen (d + 1) part) ≡ seen (d + 1) (take f part) ++ joined (take k more) (replaced table marked w (drop k more) value) ++ seen (d + 1) (drop to part) →
    put table marked t path value (seen d cells) ≡ seen d (take (start + f) cells) ++ joined (take (k + 1) path) (replaced table marked w (drop (k + 1) path) value) ++ seen d (drop (start + to) cells)
on_put_rest table marked t u w path more x value cells part d start f to k m h g is_part begins ft tl lower upper cut same e =
    on_put table marked t u w path x value cells part d start f to k h g is_part begins ft tl lower upper cut same
    (subst (λ (q : List PathStep). put table marked u q value (seen (d + 1) part) ≡ seen (d + 1) (take f part) ++ joined (take k q) (replaced table marked w (drop k q) value) ++ seen (d + 1) (drop to part)) m e)

pub on_ok : {E : Type 0} (r : Result (Unit {0}) E) (new old goal : CellList) → OnOk r (new ≡ old) → old ≡ goal → OnOk r (new ≡ goal)
on_ok (Ok u) new old goal h e = h ∙ e
on_ok (Err x) new old goal h e = tt

pub whole_put : (table : Table) (marked : Bool) (t w : Option Ctype) (path : List PathStep) (value list cells inside joint : CellList) (steps from to : ℕ) →
    inside ≡ replaced table marked w (drop steps path) value → joint ≡ joined (take steps path) inside → cells ≡ list →
    put table marked t path value (seen 0 cells) ≡ seen 0 (take from cells) ++ joined (take steps path) (replaced table marked w (drop steps path) value) ++ seen 0 (drop to cells) →
    take from list ++ joint ++ drop to list ≡ put table marked t path value list
whole_put table marked t w path value list cells inside joint steps from to i j same e =
    ap (λ (xs : CellList). take from list ++ xs ++ drop to list) (j ∙ ap (joined (take steps path)) i)
    ∙ ap (λ (xs : CellList). take from xs ++ joined (take steps path) (replaced table marked w (drop steps path) value) ++ drop to xs) (sym same)
    ∙ ap (λ (xs : CellList). xs ++ joined (take steps path) (replaced table marked w (drop steps path) value) ++ drop to cells) (sym (seen_none (take from cells)))
    ∙ ap (λ (xs : CellList). seen 0 (take from cells) ++ joined (take steps path) (replaced table marked w (drop steps path) value) ++ xs) (sym (seen_none (drop to cells)))
    ∙ sym e
    ∙ ap (put table marked t path value) (seen_none cells ∙ same)
