-- Lists that ascend.
use Rattle.std.proofs.Common.{arith, ◌≡◌, ℕ, zero, suc, ◌+◌, ◌-◌, ◌<◌, ◌≤◌, Bool, true, false, ◌&&◌, List, [], ◌∷◌, Some, slice_get, length, drop, get_or, refl, sym, ap, ◌∙◌, ⊎_elim}
use Rattle.std.specs.Prelude.{nat_lt, slice_index}
use Rattle.std.proofs.lemmas.Bool.{cases_lt}
use Rattle.std.proofs.lemmas.Bool.Decides.{nat_tests}
use Rattle.std.proofs.lemmas.Option.{slice_get_read}
use Rattle.c_grammar.specs.declared.trees.SyntaxNode.{SyntaxNode}
use Rattle.c_senses.specs.Tree.{children_of}
use Rattle.tree_reads.specs.Order.{ascends}

less_is : (x y : ℕ) → x < y → nat_lt x y ≡ true
less_is x y h = grind (arith, nat_tests, h)

not_less_is : (x y : ℕ) → y ≤ x → nat_lt x y ≡ false
not_less_is x y h = grind (arith, nat_tests, h)

is_less : (x y : ℕ) → nat_lt x y ≡ true → x < y
is_less x y h = grind (arith, nat_tests, h)

and_left : (a b : Bool) → (a && b) ≡ true → a ≡ true
and_left true b h = refl
and_left false b h = h

and_right : (a b : Bool) → (a && b) ≡ true → b ≡ true
and_right true b h = h
and_right false b h = cc

step_suc : (nodes : List ℕ) (k : ℕ) → suc k < length nodes → slice_index nodes k < slice_index nodes (suc k) → ascends (drop k nodes) ≡ ascends (drop (suc k) nodes)
step_suc [] k h less = absurd (omega arith)
step_suc (x ∷ []) k h less = absurd (omega arith)
step_suc (x ∷ y ∷ rest) zero h less = ap (λ (b : Bool). b && ascends (y ∷ rest)) (less_is x y less)
step_suc (x ∷ y ∷ rest) (suc k) h less = step_suc (y ∷ rest) k (omega arith) less

falls_suc : (nodes : List ℕ) (k : ℕ) → suc k < length nodes → slice_index nodes (suc k) ≤ slice_index nodes k → ascends (drop k nodes) ≡ false
falls_suc [] k h more = absurd (omega arith)
falls_suc (x ∷ []) k h more = absurd (omega arith)
falls_suc (x ∷ y ∷ rest) zero h more = ap (λ (b : Bool). b && ascends (y ∷ rest)) (not_less_is x y more)
falls_suc (x ∷ y ∷ rest) (suc k) h more = falls_suc (y ∷ rest) k (omega arith) more

end_suc : (nodes : List ℕ) (k : ℕ) → length nodes ≤ suc k → ascends (drop k nodes) ≡ true
end_suc [] zero h = refl
end_suc [] (suc k) h = refl
end_suc (x ∷ []) zero h = refl
end_suc (x ∷ []) (suc zero) h = refl
end_suc (x ∷ []) (suc (suc k)) h = refl
end_suc (x ∷ y ∷ rest) zero h = absurd (omega arith)
end_suc (x ∷ y ∷ rest) (suc k) h = end_suc (y ∷ rest) k (omega arith)

-- the same by a number and the one before it
pub ascends_step : (nodes : List ℕ) (i : ℕ) → 1 ≤ i → i < length nodes → slice_index nodes (i - 1) < slice_index nodes i → ascends (drop (i - 1) nodes) ≡ ascends (drop ((i + 1) - 1) nodes)
ascends_step nodes zero low h less = absurd (omega arith)
ascends_step nodes (suc k) low h less =
    let e : suc k - 1 ≡ k = omega arith in
    let f : (suc k + 1) - 1 ≡ suc k = omega arith in
    let lt : slice_index nodes k < slice_index nodes (suc k) = rw e at less in
    ap (λ (j : ℕ). ascends (drop j nodes)) e ∙ (step_suc nodes k h lt ∙ ap (λ (j : ℕ). ascends (drop j nodes)) (sym f))

pub ascends_not : (nodes : List ℕ) (i : ℕ) → 1 ≤ i → i < length nodes → slice_index nodes i ≤ slice_index nodes (i - 1) → ascends (drop (i - 1) nodes) ≡ false
ascends_not nodes zero low h more = absurd (omega arith)
ascends_not nodes (suc k) low h more =
    let e : suc k - 1 ≡ k = omega arith in
    let ge : slice_index nodes (suc k) ≤ slice_index nodes k = rw e at more in
    ap (λ (j : ℕ). ascends (drop j nodes)) e ∙ falls_suc nodes k h ge

pub ascends_end : (nodes : List ℕ) (i : ℕ) → 1 ≤ i → length nodes ≤ i → ascends (drop (i - 1) nodes) ≡ true
ascends_end nodes zero low h = absurd (omega arith)
ascends_end nodes (suc k) low h =
    let e : suc k - 1 ≡ k = omega arith in
    ap (λ (j : ℕ). ascends (drop j nodes)) e ∙ end_suc nodes k h

-- the children of the nodes so far ascend, and with them those of one node more
pub more_ascend : (nodes : List SyntaxNode) (node : SyntaxNode) (i : ℕ) (before after : Bool) (children : List ℕ) → i < length nodes → node ≡ get_or nodes i node → children ≡ node.children.items
    → (before ≡ true → (k : ℕ) → k < i → ascends (children_of (slice_get nodes k)) ≡ true)
    → after ≡ (before && ascends children)
    → after ≡ true → (k : ℕ) → k < i + 1 → ascends (children_of (slice_get nodes k)) ≡ true
more_ascend nodes node i before after children within there list so_far here holds k below =
    let both : (before && ascends children) ≡ true = sym here ∙ holds in
    ⊎_elim
    (λ l. so_far (and_left before (ascends children) both) k l)
    (λ l.
    let e : k ≡ i = omega (arith, l, below) in
    let s : slice_get nodes i ≡ Some node = slice_get_read nodes (length nodes) i node refl within there in
    ap (λ (j : ℕ). ascends (children_of (slice_get nodes j))) e ∙ (ap (λ o. ascends (children_of o)) s ∙ (ap ascends (sym list) ∙ and_right before (ascends children) both)))
    (cases_lt k i)

-- ---- what stands before and behind a place of an ascending list

pub tail_ascends : (x : ℕ) (rest : List ℕ) → ascends (x ∷ rest) ≡ true → ascends rest ≡ true
tail_ascends x [] h = refl
tail_ascends x (y ∷ rest) h = and_right (nat_lt x y) (ascends (y ∷ rest)) h

pub first_below : (x : ℕ) (rest : List ℕ) (k : ℕ) → ascends (x ∷ rest) ≡ true → k ≤ length rest → x ≤ slice_index (x ∷ rest) k
first_below x rest zero h le = omega arith
first_below x [] (suc k) h le = absurd (omega arith)
first_below x (y ∷ rest) (suc k) h le =
    let less = is_less x y (and_left (nat_lt x y) (ascends (y ∷ rest)) h) in
    let more = first_below y rest k (and_right (nat_lt x y) (ascends (y ∷ rest)) h) (omega arith) in
    omega (arith, less, more)

-- a number at an earlier place isn't above one at a later place
pub ascends_along : (list : List ℕ) (i k : ℕ) → ascends list ≡ true → i ≤ k → k < length list → slice_index list i ≤ slice_index list k
ascends_along [] i k h le lt = absurd (omega arith)
ascends_along (x ∷ rest) zero k h le lt = first_below x rest k h (omega arith)
ascends_along (x ∷ rest) (suc i) zero h le lt = absurd (omega arith)
ascends_along (x ∷ rest) (suc i) (suc k) h le lt = ascends_along rest i k (tail_ascends x rest h) (omega arith) (omega arith)

-- the first number is below each later one
pub first_above : (x : ℕ) (rest : List ℕ) (k : ℕ) → ascends (x ∷ rest) ≡ true → k < length rest → x < slice_index rest k
first_above x [] k h lt = absurd (omega arith)
first_above x (y ∷ rest) k h lt =
    let less = is_less x y (and_left (nat_lt x y) (ascends (y ∷ rest)) h) in
    let more = first_below y rest k (and_right (nat_lt x y) (ascends (y ∷ rest)) h) (omega (arith, lt)) in
    omega (arith, less, more)
