-- Keys of paths.
use Rattle.std.proofs.Common.{arith, ◌≡◌, ◌<◌, ◌≤◌, ℕ, zero, suc, Bool, true, false, ◌||◌, ◌&&◌, eqb, refl, ap, sym, ◌∙◌, subst, eq-eqb, List, [], ◌∷◌, map, length, take, Vec, Global}
use Rattle.std.specs.List.{list_any}
use Rattle.std.specs.BTreeSet.{BTreeSet, contains_by, UpdatesBy}
use Rattle.std.specs.BTreeMap.{is_at}
use Rattle.std.specs.declared.cmp.Ordering.{Ordering}
use Rattle.std.specs.declared.cmp.Ordering.TheVariants.{Less, Equal, Greater}
use Rattle.std.specs.Ordering.{is_eq, nat_cmp, ordering_then, eq_by_cmp}
use Rattle.std.specs.Set.{KeepsOthers}
use Rattle.std.specs.Map.{IsKeyTest, AreApart}
use Rattle.std.specs.Cmp.Lexicographic.{pointwise, pointwise_decides, slice_cmp}
use Rattle.std.proofs.lemmas.Bool.{eqb-true}
use Rattle.std.proofs.lemmas.Bool.Decides.{nat_tests}
use Rattle.c_inits.specs.declared.items.StepKey.{StepKey}
use Rattle.c_inits.specs.declared.items.StepKey.TheVariants.{Index, Member}
use Rattle.c_inits.specs.contracts.items.StepKeyOrd.TheImpl.{ghosts}
use Rattle.c_inits.specs.Items.{same_step_key, same_key, knows, has_prefix}

-- two keys compare equal where they are the same
number_same : (a b : ℕ) → is_eq (nat_cmp a b) ≡ eqb a b
number_same a b = grind (arith, nat_tests)

then_same : (o p : Ordering) → is_eq (ordering_then o p) ≡ (is_eq o && is_eq p)
then_same Less p = refl
then_same Equal p = refl
then_same Greater p = refl

step_order : (a b : StepKey) → is_eq (ghosts.cmp a b) ≡ same_step_key a b
step_order (Index a) (Index b) = number_same a b
step_order (Member a) (Member b) = number_same a b
step_order (Index a) (Member b) = refl
step_order (Member a) (Index b) = refl

key_order : (a b : List StepKey) → is_eq (slice_cmp ghosts.cmp a b) ≡ same_key a b
key_order [] [] = refl
key_order [] (y ∷ b) = refl
key_order (x ∷ a) [] = refl
key_order (x ∷ a) (y ∷ b) =
    then_same (ghosts.cmp x y) (slice_cmp ghosts.cmp a b)
    ∙ (ap (λ t. t && is_eq (slice_cmp ghosts.cmp a b)) (step_order x y) ∙ ap (λ t. same_step_key x y && t) (key_order a b))

step_same : (a b : StepKey) → same_step_key a b ≡ true → a ≡ b
step_same (Index a) (Index b) e = ap Index (eqb-true a b e)
step_same (Member a) (Member b) e = ap Member (eqb-true a b e)
step_same (Index a) (Member b) e = cc
step_same (Member a) (Index b) e = cc

step_own : (a : StepKey) → same_step_key a a ≡ true
step_own (Index a) = eq-eqb a a refl
step_own (Member a) = eq-eqb a a refl

pub key_same : (a b : List StepKey) → same_key a b ≡ true → a ≡ b
key_same a b e = (pointwise_decides (λ x y. (step_same x y, λ e. subst (λ z. same_step_key x z ≡ true) e (step_own x))) a b).0 e

pub key_own : (a b : List StepKey) → a ≡ b → same_key a b ≡ true
key_own a b e = (pointwise_decides (λ x y. (step_same x y, λ e. subst (λ z. same_step_key x z ≡ true) e (step_own x))) a b).1 e

by_bool : {A : Type 0} (b : Bool) → (b ≡ true → A) → (b ≡ false → A) → A
by_bool true e f = e refl
by_bool false e f = f refl

no_both : {A : Type 0} (b : Bool) → b ≡ true → b ≡ false → A
no_both true t f = cc
no_both false t f = cc

abbrev test_of : List StepKey → Vec StepKey Global → Bool
test_of p k = same_key p k.items

others : (test : Vec StepKey Global → Bool) (old new : List (Vec StepKey Global)) → KeepsOthers (λ x y. same_key x.items y.items) test old new → (other : Vec StepKey Global → Bool) → IsKeyTest (λ x y. same_key x.items y.items) other → AreApart test other → list_any other new ≡ list_any other old
unfolding KeepsOthers
others test old new h = h

-- a set with one key more
added : (old new : BTreeSet (Vec StepKey Global)) (key : Vec StepKey Global) → knows new key.items ≡ true → KeepsOthers (λ x y. same_key x.items y.items) (λ y. same_key key.items y.items) old.keys new.keys → (p : List StepKey) →
    knows new p ≡ (same_key key.items p || knows old p)
added old new key here keeps p =
    by_bool (same_key key.items p)
    (λ yes_here.
    sym (ap (λ q. knows new q) (key_same key.items p yes_here)) ∙ here ∙ sym (ap (λ b. b || knows old p) yes_here))
    (λ not_here.
    others (test_of key.items) old.keys new.keys keeps (test_of p)
    (λ x y e. sym (ap (λ q. same_key q y.items) (sym (key_same p x.items e))))
    (λ k e. by_bool (same_key p k.items) (λ t. no_both (same_key key.items p) (key_own key.items p (key_same key.items k.items e ∙ sym (key_same p k.items t))) not_here) (λ f. f))
    ∙ sym (ap (λ b. b || knows old p) not_here))

-- a beginning that passes a test is a prefix that does
pub prefix_at : {A : Type 0} (test : List A → Bool) (xs : List A) (n : ℕ) → n ≤ length xs → test (take n xs) ≡ true → has_prefix test xs ≡ true
prefix_at test [] zero le e = e
prefix_at test [] (suc n) le e = e
prefix_at test (x ∷ xs) zero le e = ap (λ b. b || has_prefix (λ p. test (x ∷ p)) xs) e
prefix_at test (x ∷ xs) (suc n) le e =
    ap (λ b. test [] || b) (prefix_at (λ p. test (x ∷ p)) xs n (omega (arith, le)) e) ∙ or_true (test [])
  where
    or_true : (b : Bool) → (b || true) ≡ true
    or_true true = refl
    or_true false = refl

pub last_prefix : {A : Type 0} (test : List A → Bool) (xs : List A) → ((n : ℕ) → n < length xs → test (take n xs) ≡ false) → has_prefix test xs ≡ test xs
last_prefix test [] h = refl
last_prefix test (x ∷ xs) h =
    ap (λ b. b || has_prefix (λ p. test (x ∷ p)) xs) (h 0 (omega arith)) ∙ last_prefix (λ p. test (x ∷ p)) xs (λ n lt. h (suc n) (omega (arith, lt)))

pub prefix_same : {A : Type 0} (f g : List A → Bool) (xs : List A) → ((p : List A) → f p ≡ g p) → has_prefix f xs ≡ has_prefix g xs
prefix_same f g xs h = ap (λ t. has_prefix t xs) (λ i p. h p i)

pub prefix_map : {A B : Type 0} (f : List B → Bool) (g : A → B) (xs : List A) → has_prefix f (map g xs) ≡ has_prefix (λ p. f (map g p)) xs
prefix_map f g [] = refl
prefix_map f g (x ∷ xs) = ap (λ b. f [] || b) (prefix_map (λ p. f (g x ∷ p)) g xs)

pub prefix_or : {A : Type 0} (f g : List A → Bool) (xs : List A) → has_prefix (λ p. f p || g p) xs ≡ (has_prefix f xs || has_prefix g xs)
prefix_or f g [] = refl
prefix_or f g (x ∷ xs) =
    ap (λ b. (f [] || g []) || b) (prefix_or (λ p. f (x ∷ p)) (λ p. g (x ∷ p)) xs)
    ∙ four (f []) (g []) (has_prefix (λ p. f (x ∷ p)) xs) (has_prefix (λ p. g (x ∷ p)) xs)
  where
    four : (a b c d : Bool) → ((a || b) || (c || d)) ≡ ((a || c) || (b || d))
    four true b c d = refl
    four false true true d = refl
    four false true false d = refl
    four false false c d = refl

pub prefix_none : {A : Type 0} (xs : List A) → has_prefix (λ p. false) xs ≡ false
prefix_none [] = refl
prefix_none (x ∷ xs) = prefix_none xs

-- what the set's own comparison finds
pub tested : (set : BTreeSet (Vec StepKey Global)) (p : List StepKey) → contains_by (λ k. slice_cmp ghosts.cmp p k.items) set ≡ knows set p
tested set p = ap (λ (test : Vec StepKey Global → Bool). list_any test set.keys) (λ i k. key_order p k.items i)

pub updated : (old new : BTreeSet (Vec StepKey Global)) (key : Vec StepKey Global) → UpdatesBy (λ x y. slice_cmp ghosts.cmp x.items y.items) (λ y. slice_cmp ghosts.cmp key.items y.items) old new true → (p : List StepKey) →
    knows new p ≡ (same_key key.items p || knows old p)
updated old new key h p =
    let keeps : KeepsOthers (λ (x y : Vec StepKey Global). same_key x.items y.items) (is_at (λ (y : Vec StepKey Global). slice_cmp ghosts.cmp key.items y.items)) old.keys new.keys
    = subst (λ (e : Vec StepKey Global → Vec StepKey Global → Bool). KeepsOthers e (is_at (λ (y : Vec StepKey Global). slice_cmp ghosts.cmp key.items y.items)) old.keys new.keys) (λ i x y. key_order x.items y.items i) h.3 in
    added old new key (sym (tested new key.items) ∙ h.1)
    (subst (λ (test : Vec StepKey Global → Bool). KeepsOthers (λ x y. same_key x.items y.items) test old.keys new.keys) (λ i y. key_order key.items y.items i) keeps) p
