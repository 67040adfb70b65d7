-- The rows of the nodes before a world, the senses that they see, and whose child a node is.
use Rattle.std.proofs.Common.{arith, ◌≡◌, ◌==◌, ◌<◌, ◌≤◌, ◌+◌, ℕ, zero, suc, Bool, true, false, ◌||◌, List, [], ◌∷◌, ◌++◌, Option, Some, None, length, slice_get, take, refl, sym, ap, ◌∙◌, subst, ◌⊎◌, inl, inr}
use Rattle.std.specs.Prelude.{if◌then◌else◌}
use Rattle.std.proofs.lemmas.Bool.{eqb-true, eq-eqb}
use Rattle.std.proofs.lemmas.Option.{slice_get-get_or, slice_get_within}
use Rattle.pta_base.specs.declared.kind.Kind.TheVariants.{Operand}
use Rattle.c_grammar.specs.declared.trees.SyntaxNode.{SyntaxNode}
use Rattle.c_grammar.specs.Terminals.{contains}
use Rattle.c_senses.specs.Given.{Given, Fits, given_if}
use Rattle.c_senses.specs.Tree.{Source, is_a, first_where, numbers_from, children_at, children_of, parent_of, production_at, production_of}
use Rattle.c_senses.specs.World.{World}
use Rattle.c_senses.specs.Sense.{Sense, Nothing, sense_in}
use Rattle.c_senses.specs.Rows.{world_at, row, row_of, AreSenses}
use Rattle.c_initialise.specs.passed.sense_laws.Senses.{ChildrenFirst}
use Rattle.c_initialise.specs.passed.sense_laws.Laws.{Grows}
use Rattle.c_initialise.proofs.passed.sense_laws.Completing.{grown_by_one}
use Rattle.core_node_laws.specs.passed.parsed_tree_laws.family_laws.Families.{IsChild, Families}

-- ---- what a row that fits says

pub given_true : {A : Type 0} (b : Bool) (n : ℕ) (g : Given A) (x : A) → given_if b Operand n g ≡ Fits x → (b ≡ true) × (g ≡ Fits x)
given_true true n g x e = (refl, e)
given_true false n g x e = cc

pub same_given : {A : Type 0} (x y : A) → ◌≡◌ {A = Given A} (Fits x) (Fits y) → x ≡ y
same_given x y e = cc

pub no_both : {b : Bool} → b ≡ true → b ≡ false → ⊥
no_both e f = cc

-- ---- the first that passes

pub record IsFound (test : ℕ → Bool) (xs : List ℕ) (c : ℕ) : Type 0 where
  pub place : ℕ
  pub there : slice_get xs place ≡ Some c
  pub passes : test c ≡ true

pub found : (test : ℕ → Bool) (xs : List ℕ) (c : ℕ) → first_where test xs ≡ Some c → IsFound test xs c
found test [] c e = cc
found test (x ∷ xs) c e = by (λ f. found test xs c f) (test x) refl e
  where
    by : (first_where test xs ≡ Some c → IsFound test xs c) → (b : Bool) → test x ≡ b → (if b then Some x else first_where test xs) ≡ Some c → IsFound test (x ∷ xs) c
    by rest true h f = let same : x ≡ c = cc in record { place = 0; there = ap Some same; passes = ap test (sym same) ∙ h }
    by rest false h f = let r = rest f in record { place = suc r.place; there = r.there; passes = r.passes }

pub record IsFirst (test : ℕ → Bool) (o : Option ℕ) : Type 0 where
  pub first : ℕ
  pub is : o ≡ Some first
  pub passes : test first ≡ true

pub first_among : (test : ℕ → Bool) (k n j : ℕ) → k ≤ j → j < k + n → test j ≡ true → IsFirst test (first_where test (numbers_from k n))
first_among test k zero j low high h = absurd (omega arith)
first_among test k (suc n) j low high h = by (λ l. first_among test (suc k) n j l (omega (arith, high)) h) (test k) refl
  where
    differs : test k ≡ false → k ≡ j → ⊥
    differs e same = let f : test k ≡ true = ap test same ∙ h in cc

    by : (suc k ≤ j → IsFirst test (first_where test (numbers_from (suc k) n))) → (b : Bool) → test k ≡ b → IsFirst test (if b then Some k else first_where test (numbers_from (suc k) n))
    by rest true e = record { first = k; is = refl; passes = e }
    by rest false e = let apart = differs e in rest (omega (arith, low, apart))

-- ---- children

pub in_list : (list : List ℕ) (i : ℕ) → contains list i ≡ true → (k : ℕ) × (slice_get list k ≡ Some i)
in_list [] i h = cc
in_list (x ∷ list) i h = by (in_list list i) (x == i) refl h
  where
    by : (contains list i ≡ true → (k : ℕ) × (slice_get list k ≡ Some i)) → (b : Bool) → (x == i) ≡ b → (b || contains list i) ≡ true → (k : ℕ) × (slice_get (x ∷ list) k ≡ Some i)
    by rest true e h = (0, ap Some (eqb-true x i e))
    by rest false e h = let more = rest h in (suc more.0, more.1)

pub list_in : (list : List ℕ) (k i : ℕ) → slice_get list k ≡ Some i → contains list i ≡ true
list_in [] k i h = cc
list_in (x ∷ list) zero i h = let same : x ≡ i = cc in ap (λ (b : Bool). b || contains list i) (eq-eqb x i same)
list_in (x ∷ list) (suc k) i h = by (x == i) (list_in list k i h)
  where
    by : (b : Bool) → contains list i ≡ true → (b || contains list i) ≡ true
    by true e = refl
    by false e = e

child_inside : (nodes : List SyntaxNode) (p k c : ℕ) (o : Option SyntaxNode) → slice_get nodes p ≡ o → slice_get (children_of o) k ≡ Some c → p < length nodes
child_inside nodes p k c None e h = cc
child_inside nodes p k c (Some n) e h = slice_get_within nodes p n e

pub parent_is : (s : Source) → Families s → (p c : ℕ) → IsChild s p c → parent_of s c ≡ Some p
parent_is s families p c h =
    let inside : p < length s.nodes = child_inside s.nodes p h.0 c (slice_get s.nodes p) refl h.1 in
    let one = first_among (λ q. contains (children_at s q) c) 0 (length s.nodes) p (omega arith) (omega (arith, inside)) (list_in (children_at s p) h.0 c h.1) in
    let other = in_list (children_at s one.first) c one.passes in
    let same : one.first ≡ p = families.single one.first p c other h in
    one.is ∙ ap Some same

-- ---- senses of the first so many nodes

pub taken_sense : (xs : List Sense) (n k : ℕ) → k < n → sense_in (take n xs) k ≡ sense_in xs k
taken_sense xs zero k h = absurd (omega arith)
taken_sense [] (suc n) k h = refl
taken_sense (x ∷ xs) (suc n) zero h = refl
taken_sense (x ∷ xs) (suc n) (suc k) h = taken_sense xs n k (omega (arith, h))

-- a node behind them stands for nothing
pub taken_past : (xs : List Sense) (n k : ℕ) → n ≤ k → sense_in (take n xs) k ≡ Nothing
taken_past xs zero k h = refl
taken_past [] (suc n) k h = refl
taken_past (x ∷ xs) (suc n) zero h = absurd (omega (arith, h))
taken_past (x ∷ xs) (suc n) (suc k) h = taken_past xs n k (omega (arith, h))

pub side_of : (k n : ℕ) → (k < n) ⊎ (n ≤ k)
side_of k zero = inr (omega arith)
side_of zero (suc n) = inl (omega arith)
side_of (suc k) (suc n) = by (side_of k n)
  where
    by : (k < n) ⊎ (n ≤ k) → (suc k < suc n) ⊎ (suc n ≤ suc k)
    by (inl h) = inl (omega (arith, h))
    by (inr h) = inr (omega (arith, h))

pub take_one : (xs : List Sense) (n : ℕ) → n < length xs → (x : Sense) × (take (suc n) xs ≡ take n xs ++ x ∷ [])
take_one [] n h = absurd (omega arith)
take_one (x ∷ xs) zero h = (x, refl)
take_one (x ∷ xs) (suc n) h = let more = take_one xs n (omega (arith, h)) in (more.0, ap (λ (l : List Sense). x ∷ l) more.1)

pub take_all : (xs : List Sense) → take (length xs) xs ≡ xs
take_all [] = refl
take_all (x ∷ xs) = ap (λ (l : List Sense). x ∷ l) (take_all xs)

pub taken_length : (xs : List Sense) (n : ℕ) → n ≤ length xs → length (take n xs) ≡ n
taken_length xs zero le = refl
taken_length [] (suc n) le = absurd (omega (arith, le))
taken_length (x ∷ xs) (suc n) le = ap suc (taken_length xs n (omega (arith, le)))

nodes_there : (nodes : List SyntaxNode) (i : ℕ) → i < length nodes → (n : SyntaxNode) × (slice_get nodes i ≡ Some n)
nodes_there [] i h = absurd (omega arith)
nodes_there (n ∷ rest) zero h = (n, refl)
nodes_there (n ∷ rest) (suc i) h = nodes_there rest i (omega (arith, h))

-- what the row of a node sees
abbrev pub before : List Sense → ℕ → ℕ → Sense
before senses i = sense_in (take i senses)

abbrev pub around : Source → List Sense → ℕ → World
around s senses i = world_at s (take i senses) i

pub row_whole : (s : Source) (senses : List Sense) → AreSenses s senses → (i : ℕ) → i < length senses → row_of (around s senses i) s (before senses i) (production_at s i) i (children_at s i) ≡ Fits (sense_in senses i)
row_whole s senses are i inside =
    let n = nodes_there s.nodes i (let long = are.within in omega (arith, inside, long)) in
    let fits : row s (take i senses) i n.0 ≡ Fits (sense_in senses i) = are.each i n.0 (sense_in senses i) n.1 (slice_get-get_or senses i Nothing inside) in
    subst (λ (o : Option SyntaxNode). row_of (around s senses i) s (before senses i) (production_of o) i (children_of o) ≡ Fits (sense_in senses i)) (sym n.1) fits

pub row_there : (s : Source) (senses : List Sense) → AreSenses s senses → (i q : ℕ) → i < length senses → production_at s i ≡ q → row_of (around s senses i) s (before senses i) q i (children_at s i) ≡ Fits (sense_in senses i)
row_there s senses are i q inside p =
    subst (λ (x : ℕ). row_of (around s senses i) s (before senses i) x i (children_at s i) ≡ Fits (sense_in senses i)) p (row_whole s senses are i inside)

pub production_is : (s : Source) (i p : ℕ) → is_a s p i ≡ true → production_at s i ≡ p
production_is s i p h = eqb-true (production_at s i) p h

-- the world grows
grows_by : (s : Source) → ChildrenFirst s → (senses : List Sense) (d n j : ℕ) → n + d ≡ length senses → Grows (around s senses n) (world_at s senses j)
grows_by s first senses zero n j e =
    let all : take n senses ≡ senses = ap (λ (k : ℕ). take k senses) (let z : n ≡ length senses = omega (arith, e) in z) ∙ take_all senses in
    subst (λ (l : List Sense). Grows (world_at s l n) (world_at s senses j)) (sym all) (record { members = λ tag parts h. h; extents = λ t x h. h })
grows_by s first senses (suc d) n j e =
    let one = take_one senses n (omega (arith, e)) in
    let more = grows_by s first senses d (suc n) j (omega (arith, e)) in
    let step : Grows (around s senses n) (around s senses (suc n)) = subst (λ (l : List Sense). Grows (around s senses n) (world_at s l (suc n))) (sym one.1) (grown_by_one s first (take n senses) one.0 n (suc n)) in
    record { members = λ tag parts h. more.members tag parts (step.members tag parts h); extents = λ t x h. more.extents t x (step.extents t x h) }

gap : (a b : ℕ) → a ≤ b → (d : ℕ) × (a + d ≡ b)
gap zero b h = (b, (let e : 0 + b ≡ b = omega arith in e))
gap (suc a) zero h = absurd (omega (arith, h))
gap (suc a) (suc b) h = let more = gap a b (omega (arith, h)) in (more.0, (let e = more.1 in omega (arith, e)))

pub grows_to : (s : Source) → ChildrenFirst s → (senses : List Sense) (n : ℕ) → n ≤ length senses → Grows (around s senses n) (world_at s senses (length senses))
grows_to s first senses n h = let g = gap n (length senses) h in grows_by s first senses g.0 n (length senses) g.1
