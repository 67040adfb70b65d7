-- Lists of nodes in which what is under a node stands behind the node's earlier siblings.
use Rattle.std.proofs.Common.{arith, ◌≡◌, ◌<◌, ◌≤◌, ℕ, zero, suc, List, [], ◌∷◌, ◌++◌, Some, length, slice_get, refl, sym, ap, ◌∙◌, subst, append_assoc, append-nil, ◌⊎◌, inl, inr}
use Rattle.std.proofs.lemmas.Option.{slice_get_within}
use Rattle.c_grammar.specs.Reads.{Node}

abbrev pub Extends : List Node → List Node → Type 0
Extends before nodes = (more : List Node) × (nodes ≡ before ++ more)

abbrev pub IsIn : List ℕ → ℕ → Type 0
IsIn ks k = (r : ℕ) × (slice_get ks r ≡ Some k)

-- numbers between two bounds
abbrev Between : ℕ → List ℕ → ℕ → Type 0
Between low ks high = (k : ℕ) → IsIn ks k → (low ≤ k) × (k < high)

same : (nodes : List Node) → Extends nodes nodes
same nodes = ([], sym (append-nil nodes))

then : (a b c : List Node) → Extends a b → Extends b c → Extends a c
then a b c x y = (x.0 ++ y.0, y.1 ∙ (ap (λ (l : List Node). l ++ y.0) x.1 ∙ append_assoc a x.0 y.0))

longer_by : (nodes more : List Node) → length nodes ≤ length (nodes ++ more)
longer_by [] more = omega arith
longer_by (n ∷ nodes) more = let h = longer_by nodes more in omega (arith, h)

longer : (a b : List Node) → Extends a b → length a ≤ length b
longer a b x = subst (λ (l : List Node). length a ≤ length l) (sym x.1) (longer_by a x.0)

more_length : (nodes : List Node) (n : Node) → length (nodes ++ n ∷ []) ≡ suc (length nodes)
more_length [] n = refl
more_length (m ∷ nodes) n = ap suc (more_length nodes n)

-- before an end, or behind it
either_side : (nodes more : List Node) (i : ℕ) (n : Node) → slice_get (nodes ++ more) i ≡ Some n → (slice_get nodes i ≡ Some n) ⊎ (length nodes ≤ i)
either_side [] more i n e = inr (omega arith)
either_side (m ∷ nodes) more zero n e = inl e
either_side (m ∷ nodes) more (suc i) n e = by (either_side nodes more i n e)
  where
    by : (slice_get nodes i ≡ Some n) ⊎ (length nodes ≤ i) → (slice_get nodes i ≡ Some n) ⊎ (suc (length nodes) ≤ suc i)
    by (inl h) = inl h
    by (inr h) = inr (omega (arith, h))

side_of : (a b : List Node) (i : ℕ) (n : Node) → Extends a b → slice_get b i ≡ Some n → (slice_get a i ≡ Some n) ⊎ (length a ≤ i)
side_of a b i n x e = either_side a x.0 i n (subst (λ (l : List Node). slice_get l i ≡ Some n) x.1 e)

or_last : (nodes : List Node) (n m : Node) (i : ℕ) → slice_get (nodes ++ n ∷ []) i ≡ Some m → (slice_get nodes i ≡ Some m) ⊎ ((i ≡ length nodes) × (n ≡ m))
or_last [] n m zero e = inr (refl, cc)
or_last [] n m (suc i) e = cc
or_last (x ∷ nodes) n m zero e = inl e
or_last (x ∷ nodes) n m (suc i) e = by (or_last nodes n m i e)
  where
    by : (slice_get nodes i ≡ Some m) ⊎ ((i ≡ length nodes) × (n ≡ m)) → (slice_get nodes i ≡ Some m) ⊎ ((suc i ≡ suc (length nodes)) × (n ≡ m))
    by (inl h) = inl h
    by (inr h) = inr (ap suc h.0, h.1)

in_either : (xs ys : List ℕ) (k : ℕ) → IsIn (xs ++ ys) k → IsIn xs k ⊎ IsIn ys k
in_either [] ys k h = inr h
in_either (x ∷ xs) ys k (zero, e) = inl (0, e)
in_either (x ∷ xs) ys k (suc r, e) = by (in_either xs ys k (r, e))
  where
    by : IsIn xs k ⊎ IsIn ys k → IsIn (x ∷ xs) k ⊎ IsIn ys k
    by (inl h) = inl (suc h.0, h.1)
    by (inr h) = inr h

in_one : (x k : ℕ) → IsIn (x ∷ []) k → x ≡ k
in_one x k (zero, e) = cc
in_one x k (suc r, e) = cc

in_none : (k : ℕ) → IsIn [] k → ⊥
in_none k h = cc

-- what is under one of these stands behind those of them that stand before it
pub Apart : List Node → List ℕ → Type 0
Apart nodes ks = (x y c : ℕ) (m : Node) → IsIn ks x → IsIn ks y → x < y → slice_get nodes y ≡ Some m → IsIn m.children c → x < c

pub record Ordered (nodes : List Node) : Type 0 where
  pub below : (i c : ℕ) (m : Node) → slice_get nodes i ≡ Some m → IsIn m.children c → c < i
  pub behind : (i x y c : ℕ) (n m : Node) → slice_get nodes i ≡ Some n → IsIn n.children x → IsIn n.children y → x < y → slice_get nodes y ≡ Some m → IsIn m.children c → x < c

pub none_ordered : Ordered []
none_ordered = record { below = λ i c m e h. cc; behind = λ i x y c n m e p q lt f h. cc }

Fresh : ℕ → List Node → Type 0
Fresh low nodes = (i c : ℕ) (m : Node) → slice_get nodes i ≡ Some m → low ≤ i → IsIn m.children c → low ≤ c

-- nodes are added, and these of them are the next children
pub record Steps (a b : List Node) (more : List ℕ) : Type 0 where
  extends : Extends a b
  between : Between (length a) more (length b)
  fresh : Fresh (length a) b
  apart : Apart b more
  pub ordered : Ordered a → Ordered b

pub steps_same : (a : List Node) → Steps a a []
unfolding Apart Fresh
steps_same a = record {
  extends = same a;
  between = λ k h. absurd (in_none k h);
  fresh = λ i c m e low h. let inside = slice_get_within a i m e in absurd (omega (arith, inside, low));
  apart = λ x y c m p q lt e h. absurd (in_none x p);
  ordered = λ o. o;
}

module _ (a b d : List Node) (xs ys : List ℕ) (s : Steps a b xs) (t : Steps b d ys) where
  first_longer : length a ≤ length b
  first_longer = longer a b s.extends

  then_longer : length b ≤ length d
  then_longer = longer b d t.extends

  between_then : Between (length a) (xs ++ ys) (length d)
  between_then k h = by (in_either xs ys k h)
    where
      by : IsIn xs k ⊎ IsIn ys k → (length a ≤ k) × (k < length d)
      by (inl g) = let g = s.between k g in let high = g.1 in let more = then_longer in (g.0, omega (arith, high, more))
      by (inr g) = let g = t.between k g in let low = g.0 in let more = first_longer in (omega (arith, low, more), g.1)

  fresh_then : Fresh (length a) d
  unfolding Fresh
  fresh_then i c m e low h = by (side_of b d i m t.extends e)
    where
      by : (slice_get b i ≡ Some m) ⊎ (length b ≤ i) → length a ≤ c
      by (inl g) = s.fresh i c m g low h
      by (inr g) = let up = t.fresh i c m e g h in let more = first_longer in omega (arith, up, more)

  apart_then : Apart d (xs ++ ys)
  unfolding Apart Fresh
  apart_then x y c m p q lt e h = by (in_either xs ys x p) (in_either xs ys y q)
    where
      inner : IsIn xs x → IsIn xs y → (slice_get b y ≡ Some m) ⊎ (length b ≤ y) → x < c
      inner f g (inl k) = s.apart x y c m f g lt k h
      inner f g (inr k) = let high = (s.between y g).1 in absurd (omega (arith, high, k))

      by : IsIn xs x ⊎ IsIn ys x → IsIn xs y ⊎ IsIn ys y → x < c
      by (inl f) (inl g) = inner f g (side_of b d y m t.extends e)
      by (inl f) (inr g) = let high = (s.between x f).1 in let up = t.fresh y c m e (t.between y g).0 h in omega (arith, high, up)
      by (inr f) (inl g) = let high = (s.between y g).1 in let low = (t.between x f).0 in absurd (omega (arith, high, low, lt))
      by (inr f) (inr g) = t.apart x y c m f g lt e h

  pub steps_then : Steps a d (xs ++ ys)
  steps_then = record {
    extends = then a b d s.extends t.extends;
    between = between_then;
    fresh = fresh_then;
    apart = apart_then;
    ordered = λ o. t.ordered (s.ordered o);
  }

module _ (a b : List Node) (n : Node) (ks : List ℕ) (s : Steps a b ks) (are : n.children ≡ ks) where
  own : (m : Node) (k : ℕ) → n ≡ m → IsIn m.children k → IsIn ks k
  own m k same h = subst (λ (l : List ℕ). IsIn l k) (ap (λ (x : Node). x.children) (sym same) ∙ are) h

  below_more : Ordered a → (i c : ℕ) (m : Node) → slice_get (b ++ n ∷ []) i ≡ Some m → IsIn m.children c → c < i
  below_more o i c m e h = by (or_last b n m i e)
    where
      by : (slice_get b i ≡ Some m) ⊎ ((i ≡ length b) × (n ≡ m)) → c < i
      by (inl g) = (s.ordered o).below i c m g h
      by (inr g) = let lt = (s.between c (own m c g.1 h)).1 in let at = g.0 in omega (arith, lt, at)

  behind_more : Ordered a → (i x y c : ℕ) (p m : Node) → slice_get (b ++ n ∷ []) i ≡ Some p → IsIn p.children x → IsIn p.children y → x < y → slice_get (b ++ n ∷ []) y ≡ Some m → IsIn m.children c → x < c
  unfolding Apart
  behind_more o i x y c p m e f g lt there h = by (or_last b n p i e) (or_last b n m y there)
    where
      inside : y < i
      inside = below_more o i y p e g

      top : i < length (b ++ n ∷ [])
      top = slice_get_within (b ++ n ∷ []) i p e

      by : (slice_get b i ≡ Some p) ⊎ ((i ≡ length b) × (n ≡ p)) → (slice_get b y ≡ Some m) ⊎ ((y ≡ length b) × (n ≡ m)) → x < c
      by (inl k) (inl l) = (s.ordered o).behind i x y c p m k f g lt l h
      by (inr k) (inl l) = s.apart x y c m (own p x k.1 f) (own p y k.1 g) lt l h
      by k (inr l) = let high = top in let low = inside in let long = more_length b n in let at = l.0 in absurd (omega (arith, high, low, long, at))

  fresh_more : Fresh (length a) (b ++ n ∷ [])
  unfolding Fresh
  fresh_more i c m e low h = by (or_last b n m i e)
    where
      by : (slice_get b i ≡ Some m) ⊎ ((i ≡ length b) × (n ≡ m)) → length a ≤ c
      by (inl g) = s.fresh i c m g low h
      by (inr g) = (s.between c (own m c g.1 h)).0

  pub steps_node : Steps a (b ++ n ∷ []) (length b ∷ [])
  unfolding Apart
  steps_node = record {
    extends = then a b (b ++ n ∷ []) s.extends (n ∷ [], refl);
    between = λ k h. let at = in_one (length b) k h in let low = longer a b s.extends in let long = more_length b n in (omega (arith, at, low), omega (arith, at, long));
    fresh = fresh_more;
    apart = λ x y c m p q lt e h. let f = in_one (length b) x p in let g = in_one (length b) y q in absurd (omega (arith, f, g, lt));
    ordered = λ o. record { below = below_more o; behind = behind_more o };
  }

pub steps_leaf : (a : List Node) (n : Node) → n.children ≡ [] → Steps a (a ++ n ∷ []) (length a ∷ [])
steps_leaf a n e = steps_node a a n [] (steps_same a) e
