-- Lists of nodes in which each node is a child of one at most.
use Rattle.std.proofs.Common.{arith, ◌≡◌, ◌<◌, ◌≤◌, ℕ, zero, suc, List, [], ◌∷◌, ◌++◌, Some, length, slice_get, refl, sym, ap, ◌∙◌, subst, append_assoc, append-nil, ◌⊎◌, inl, inr}
use Rattle.std.proofs.lemmas.Option.{slice_get_within}
use Rattle.c_grammar.specs.Reads.{Node}

abbrev pub Extends : List Node → List Node → Type 0
Extends before nodes = (more : List Node) × (nodes ≡ before ++ more)

abbrev pub IsIn : List ℕ → ℕ → Type 0
IsIn ks k = (r : ℕ) × (slice_get ks r ≡ Some k)

-- numbers that ascend, between two
abbrev pub Climbs : ℕ → List ℕ → ℕ → Type 0
Climbs low [] high = low ≤ high
Climbs low (k ∷ ks) high = (low ≤ k) × Climbs (suc k) ks high

climbs_low : (low high : ℕ) (ks : List ℕ) → Climbs low ks high → low ≤ high
climbs_low low high [] h = h
climbs_low low high (k ∷ ks) h = let l : suc k ≤ high = climbs_low (suc k) high ks h.1 in let m : low ≤ k = h.0 in omega (arith, l, m)

climbs_wider : (low lower high : ℕ) (ks : List ℕ) → lower ≤ low → Climbs low ks high → Climbs lower ks high
climbs_wider low lower high [] l h = omega (arith, l, h)
climbs_wider low lower high (k ∷ ks) l h = (let m : low ≤ k = h.0 in omega (arith, l, m), h.1)

climbs_in : (low high : ℕ) (ks : List ℕ) (r k : ℕ) → Climbs low ks high → slice_get ks r ≡ Some k → (low ≤ k) × (k < high)
climbs_in low high [] r k h e = cc
climbs_in low high (c ∷ ks) zero k h e =
    let same : c ≡ k = cc in
    let l : suc c ≤ high = climbs_low (suc c) high ks h.1 in
    let m : low ≤ c = h.0 in
    (omega (arith, same, m), omega (arith, same, l))
climbs_in low high (c ∷ ks) (suc r) k h e =
    let rest = climbs_in (suc c) high ks r k h.1 e in
    let l : suc c ≤ k = rest.0 in
    let m : low ≤ c = h.0 in
    (omega (arith, l, m), rest.1)

climbs_then : (low mid high : ℕ) (xs ys : List ℕ) → Climbs low xs mid → Climbs mid ys high → Climbs low (xs ++ ys) high
climbs_then low mid high [] ys h g = climbs_wider mid low high ys h g
climbs_then low mid high (k ∷ xs) ys h g = (h.0, climbs_then (suc k) mid high xs ys h.1 g)

-- ---- where nodes stand

pub get_more : (nodes more : List Node) (k : ℕ) (n : Node) → slice_get nodes k ≡ Some n → slice_get (nodes ++ more) k ≡ Some n
get_more [] more k n e = cc
get_more (m ∷ nodes) more zero n e = e
get_more (m ∷ nodes) more (suc k) n e = get_more nodes more k n e

pub at_last : (nodes : List Node) (n : Node) → slice_get (nodes ++ n ∷ []) (length nodes) ≡ Some n
at_last [] n = refl
at_last (m ∷ nodes) n = at_last nodes n

pub same : (nodes : List Node) → Extends nodes nodes
same nodes = ([], sym (append-nil nodes))

pub then : (a b c : List Node) → Extends a b → Extends b c → Extends a c
then a b c x y = (x.0 ++ y.0, y.1 ∙ (ap (λ (l : List Node). l ++ y.0) x.1 ∙ append_assoc a x.0 y.0))

pub get_on : (a b : List Node) (k : ℕ) (n : Node) → Extends a b → slice_get a k ≡ Some n → slice_get b k ≡ Some n
get_on a b k n x e = subst (λ (l : List Node). slice_get l k ≡ Some n) (sym x.1) (get_more a x.0 k n e)

more_length : (nodes : List Node) (n : Node) → length (nodes ++ n ∷ []) ≡ suc (length nodes)
more_length [] n = refl
more_length (m ∷ nodes) n = ap suc (more_length nodes n)

-- before an end, or behind it
either_side : (nodes more : List Node) (i : ℕ) (n : Node) → slice_get (nodes ++ more) i ≡ Some n → (slice_get nodes i ≡ Some n) ⊎ (length nodes ≤ i)
either_side [] more i n e = inr (omega arith)
either_side (m ∷ nodes) more zero n e = inl e
either_side (m ∷ nodes) more (suc i) n e = by (either_side nodes more i n e)
  where
    by : (slice_get nodes i ≡ Some n) ⊎ (length nodes ≤ i) → (slice_get nodes i ≡ Some n) ⊎ (suc (length nodes) ≤ suc i)
    by (inl h) = inl h
    by (inr h) = inr (omega (arith, h))

side_of : (a b : List Node) (i : ℕ) (n : Node) → Extends a b → slice_get b i ≡ Some n → (slice_get a i ≡ Some n) ⊎ (length a ≤ i)
side_of a b i n x e = either_side a x.0 i n (subst (λ (l : List Node). slice_get l i ≡ Some n) x.1 e)

or_last : (nodes : List Node) (n m : Node) (i : ℕ) → slice_get (nodes ++ n ∷ []) i ≡ Some m → (slice_get nodes i ≡ Some m) ⊎ ((i ≡ length nodes) × (n ≡ m))
or_last [] n m zero e = inr (refl, cc)
or_last [] n m (suc i) e = cc
or_last (x ∷ nodes) n m zero e = inl e
or_last (x ∷ nodes) n m (suc i) e = by (or_last nodes n m i e)
  where
    by : (slice_get nodes i ≡ Some m) ⊎ ((i ≡ length nodes) × (n ≡ m)) → (slice_get nodes i ≡ Some m) ⊎ ((suc i ≡ suc (length nodes)) × (n ≡ m))
    by (inl h) = inl h
    by (inr h) = inr (ap suc h.0, h.1)

in_either : (xs ys : List ℕ) (k : ℕ) → IsIn (xs ++ ys) k → IsIn xs k ⊎ IsIn ys k
in_either [] ys k h = inr h
in_either (x ∷ xs) ys k (zero, e) = inl (0, e)
in_either (x ∷ xs) ys k (suc r, e) = by (in_either xs ys k (r, e))
  where
    by : IsIn xs k ⊎ IsIn ys k → IsIn (x ∷ xs) k ⊎ IsIn ys k
    by (inl h) = inl (suc h.0, h.1)
    by (inr h) = inr h

in_one : (x k : ℕ) → IsIn (x ∷ []) k → x ≡ k
in_one x k (zero, e) = cc
in_one x k (suc r, e) = cc

in_none : (k : ℕ) → IsIn [] k → ⊥
in_none k h = cc

-- ---- whose children they are

pub record Owned (nodes : List Node) : Type 0 where
  pub below : (i k : ℕ) (m : Node) → slice_get nodes i ≡ Some m → IsIn m.children k → k < i
  pub single : (i j k : ℕ) (m n : Node) → slice_get nodes i ≡ Some m → slice_get nodes j ≡ Some n → IsIn m.children k → IsIn n.children k → i ≡ j

abbrev Free : List Node → List ℕ → Type 0
Free nodes ks = (i k : ℕ) (m : Node) → slice_get nodes i ≡ Some m → IsIn m.children k → IsIn ks k → ⊥

abbrev Fresh : ℕ → List Node → Type 0
Fresh low nodes = (i k : ℕ) (m : Node) → slice_get nodes i ≡ Some m → low ≤ i → IsIn m.children k → low ≤ k

-- nodes are added, and these of them have no parent yet
pub record Steps (a b : List Node) (more : List ℕ) : Type 0 where
  pub extends : Extends a b
  pub climbs : Climbs (length a) more (length b)
  fresh : Fresh (length a) b
  pub owned : Owned a → Owned b
  free : Owned a → Free b more

pub none_owned : Owned []
none_owned = record { below = λ i k m e h. absurd (cc); single = λ i j k m n e f g h. absurd (cc) }

pub steps_same : (a : List Node) → Steps a a []
steps_same a = record {
  extends = same a;
  climbs = omega arith;
  fresh = λ i k m e low h. let inside = slice_get_within a i m e in absurd (omega (arith, inside, low));
  owned = λ o. o;
  free = λ o i k m e h g. in_none k g;
}

module _ (a b c : List Node) (xs ys : List ℕ) (s : Steps a b xs) (t : Steps b c ys) where
  fresh_then : Fresh (length a) c
  fresh_then i k m e low h = by (side_of b c i m t.extends e)
    where
      rises : length a ≤ length b
      rises = climbs_low (length a) (length b) xs s.climbs

      by : (slice_get b i ≡ Some m) ⊎ (length b ≤ i) → length a ≤ k
      by (inl g) = s.fresh i k m g low h
      by (inr g) = let up = t.fresh i k m e g h in omega (arith, up, rises)

  free_then : Owned a → Free c (xs ++ ys)
  free_then o i k m e h g = by (in_either xs ys k g)
    where
      first : IsIn xs k → ⊥
      first p = side (side_of b c i m t.extends e)
        where
          inside : k < length b
          inside = (climbs_in (length a) (length b) xs p.0 k s.climbs p.1).1

          side : (slice_get b i ≡ Some m) ⊎ (length b ≤ i) → ⊥
          side (inl q) = s.free o i k m q h p
          side (inr q) = let up = t.fresh i k m e q h in omega (arith, up, inside)

      by : IsIn xs k ⊎ IsIn ys k → ⊥
      by (inl p) = first p
      by (inr p) = t.free (s.owned o) i k m e h p

  pub steps_then : Steps a c (xs ++ ys)
  steps_then = record {
    extends = then a b c s.extends t.extends;
    climbs = climbs_then (length a) (length b) (length c) xs ys s.climbs t.climbs;
    fresh = fresh_then;
    owned = λ o. t.owned (s.owned o);
    free = free_then;
  }

module _ (a b : List Node) (n : Node) (ks : List ℕ) (s : Steps a b ks) (are : n.children ≡ ks) where
  rise : length a ≤ length b
  rise = climbs_low (length a) (length b) ks s.climbs

  own : (m : Node) (k : ℕ) → n ≡ m → IsIn m.children k → IsIn ks k
  own m k same h = subst (λ (l : List ℕ). IsIn l k) (ap (λ (x : Node). x.children) (sym same) ∙ are) h

  under : (k : ℕ) → IsIn ks k → (length a ≤ k) × (k < length b)
  under k h = climbs_in (length a) (length b) ks h.0 k s.climbs h.1

  below_more : Owned a → (i k : ℕ) (m : Node) → slice_get (b ++ n ∷ []) i ≡ Some m → IsIn m.children k → k < i
  below_more o i k m e h = by (or_last b n m i e)
    where
      by : (slice_get b i ≡ Some m) ⊎ ((i ≡ length b) × (n ≡ m)) → k < i
      by (inl g) = (s.owned o).below i k m g h
      by (inr g) = let lt = (under k (own m k g.1 h)).1 in let at = g.0 in omega (arith, lt, at)

  single_more : Owned a → (i j k : ℕ) (m p : Node) → slice_get (b ++ n ∷ []) i ≡ Some m → slice_get (b ++ n ∷ []) j ≡ Some p → IsIn m.children k → IsIn p.children k → i ≡ j
  single_more o i j k m p e f h g = by (or_last b n m i e) (or_last b n p j f)
    where
      by : (slice_get b i ≡ Some m) ⊎ ((i ≡ length b) × (n ≡ m)) → (slice_get b j ≡ Some p) ⊎ ((j ≡ length b) × (n ≡ p)) → i ≡ j
      by (inl x) (inl y) = (s.owned o).single i j k m p x y h g
      by (inl x) (inr y) = absurd (s.free o i k m x h (own p k y.1 g))
      by (inr x) (inl y) = absurd (s.free o j k p y g (own m k x.1 h))
      by (inr x) (inr y) = x.0 ∙ sym y.0

  fresh_more : Fresh (length a) (b ++ n ∷ [])
  fresh_more i k m e low h = by (or_last b n m i e)
    where
      by : (slice_get b i ≡ Some m) ⊎ ((i ≡ length b) × (n ≡ m)) → length a ≤ k
      by (inl g) = s.fresh i k m g low h
      by (inr g) = (under k (own m k g.1 h)).0

  pub steps_node : Steps a (b ++ n ∷ []) (length b ∷ [])
  steps_node = record {
    extends = then a b (b ++ n ∷ []) s.extends (n ∷ [], refl);
    climbs = (rise, let e = more_length b n in omega (arith, e));
    fresh = fresh_more;
    owned = λ o. record { below = below_more o; single = single_more o };
    free = λ o i k m e h g.
        let lt = below_more o i k m e h in
        let inside = slice_get_within (b ++ n ∷ []) i m e in
        let long = more_length b n in
        let at = in_one (length b) k g in
        omega (arith, lt, inside, long, at);
  }

-- a token's leaf
pub steps_leaf : (a : List Node) (n : Node) → n.children ≡ [] → Steps a (a ++ n ∷ []) (length a ∷ [])
steps_leaf a n e = steps_node a a n [] (steps_same a) e
