-- Two lists in one strict order that have the same keys are paired one by one.
use Rattle.std.proofs.Common.{arith, ◌≡◌, ◌∙◌, ◌⊎◌, ◌<◌, ℕ, zero, suc, List, [], ◌∷◌, Contains, AllPairs, refl, sym, ap, subst, inl, inr}
use Rattle.std.specs.Prelude.{⊤}
use Rattle.link_names.specs.declared.declared.Declared.{Declared}
use Rattle.twin_report_laws.proofs.outcome_laws.fault_laws.Pairing.{Pairs}

-- one place in one unit
pub record SameKey (d e : Declared) : Type 0 where
  pub unit : d.unit ≡ e.unit
  pub line : d.line ≡ e.line
  pub column : d.column ≡ e.column

-- an earlier place
abbrev pub IsEarlier : Declared → Declared → Type 0
IsEarlier c d = (c.unit < d.unit) ⊎ ((c.unit ≡ d.unit) × ((c.line < d.line) ⊎ ((c.line ≡ d.line) × (c.column < d.column))))

abbrev pub In : List Declared → Declared → Type 0
In [] d = ⊥
In (c ∷ ds) d = (c ≡ d) ⊎ In ds d

abbrev pub AreInOrder : List Declared → Type 0
AreInOrder [] = ⊤
AreInOrder (d ∷ ds) = ((e : Declared) → In ds e → IsEarlier d e) × AreInOrder ds

pub in_list : (ds : List Declared) (d : Declared) → Contains ds d → In ds d
in_list [] d h = let (i, lt, e) = h in absurd (omega (arith, lt))
in_list (c ∷ ds) d (zero, lt, e) = inl e
in_list (c ∷ ds) d (suc i, lt, e) = inr (in_list ds d (i, omega (arith, lt), e))

pub contained : (ds : List Declared) (d : Declared) → In ds d → Contains ds d
contained [] d h = absurd h
contained (c ∷ ds) d (inl e) = (zero, omega arith, e)
contained (c ∷ ds) d (inr h) = let (i, lt, e) = contained ds d h in (suc i, omega (arith, lt), e)

-- what holds of each pair of a list in order holds of its first and each later one
pub first_before : (R : Declared → Declared → Type 0) (d : Declared) (ds : List Declared) → AllPairs R (d ∷ ds) → (e : Declared) → In ds e → R d e
first_before R d ds h e there = let (i, lt, same) = contained ds e there in subst (R d) same (h zero (suc i) e (omega arith) (omega (arith, lt)))

pub rest_pairs : (R : Declared → Declared → Type 0) (d : Declared) (ds : List Declared) → AllPairs R (d ∷ ds) → AllPairs R ds
rest_pairs R d ds h = λ i j e lt within. h (suc i) (suc j) e (omega (arith, lt)) (omega (arith, within))

keys_differ : (x y z : Declared) → IsEarlier x y → SameKey x z → SameKey y z → ⊥
keys_differ x y z (inl less) p q = let a = p.unit in let b = q.unit in omega (arith, less, a, b)
keys_differ x y z (inr (same, inl less)) p q = let a = p.line in let b = q.line in omega (arith, less, a, b)
keys_differ x y z (inr (same, inr (line, less))) p q = let a = p.column in let b = q.column in omega (arith, less, a, b)

turned_key : (d e : Declared) → SameKey d e → SameKey e d
turned_key d e h = record { unit = sym h.unit; line = sym h.line; column = sym h.column }

-- with the same key as a later one, it is earlier too
earlier_than : (x y z : Declared) → IsEarlier x y → SameKey y z → IsEarlier x z
earlier_than x y z (inl less) q = inl (subst (λ (n : ℕ). x.unit < n) q.unit less)
earlier_than x y z (inr (same, inl less)) q = inr (same ∙ q.unit, inl (subst (λ (n : ℕ). x.line < n) q.line less))
earlier_than x y z (inr (same, inr (line, less))) q = inr (same ∙ q.unit, inr (line ∙ q.line, subst (λ (n : ℕ). x.column < n) q.column less))

not_both : (x y : Declared) → IsEarlier x y → IsEarlier y x → ⊥
not_both x y (inl a) (inl b) = omega (arith, a, b)
not_both x y (inl a) (inr (b, more)) = omega (arith, a, b)
not_both x y (inr (a, more)) (inl b) = omega (arith, a, b)
not_both x y (inr (a, inl l)) (inr (b, inl k)) = omega (arith, l, k)
not_both x y (inr (a, inl l)) (inr (b, inr (k, less))) = omega (arith, l, k)
not_both x y (inr (a, inr (l, more))) (inr (b, inl k)) = omega (arith, l, k)
not_both x y (inr (a, inr (l, more))) (inr (b, inr (k, less))) = omega (arith, more, less)

-- the like of one in a list
pub record Partner (P : Declared → Declared → Type 0) (ds : List Declared) (d : Declared) : Type 0 where
  pub other : Declared
  pub there : In ds other
  pub like : P d other

module _ (P : Declared → Declared → Type 0) (keyed : (d e : Declared) → P d e → SameKey d e) where
  -- the first ones are paired
  heads : (d e : Declared) (ds es : List Declared) → AreInOrder (d ∷ ds) → AreInOrder (e ∷ es) → Partner P (e ∷ es) d → Partner SameKey (d ∷ ds) e → P d e
  heads d e ds es xs ys p q = first p.other p.there p.like
    where
      second : (o x : Declared) → In es o → SameKey d o → In (d ∷ ds) x → SameKey e x → ⊥
      second o x later key (inl here) back = keys_differ e o d (ys.0 o later) (record { unit = back.unit ∙ ap (λ (z : Declared). z.unit) (sym here); line = back.line ∙ ap (λ (z : Declared). z.line) (sym here); column = back.column ∙ ap (λ (z : Declared). z.column) (sym here) }) (turned_key d o key)
      second o x later key (inr more) back = not_both d e (earlier_than d x e (xs.0 x more) (turned_key e x back)) (earlier_than e o d (ys.0 o later) (turned_key d o key))

      first : (o : Declared) → In (e ∷ es) o → P d o → P d e
      first o (inl here) like = subst (P d) (sym here) like
      first o (inr later) like = absurd (second o q.other later (keyed d o like) q.there q.like)

  pub paired : (ds es : List Declared) → AreInOrder ds → AreInOrder es → ((d : Declared) → In ds d → Partner P es d) → ((e : Declared) → In es e → Partner SameKey ds e) → Pairs P ds es
  paired [] [] xs ys f g = tt
  paired [] (e ∷ es) xs ys f g = let h : Partner SameKey [] e = g e (inl refl) in absurd h.there
  paired (d ∷ ds) [] xs ys f g = let h : Partner P [] d = f d (inl refl) in absurd h.there
  paired (d ∷ ds) (e ∷ es) xs ys f g =
      let here : P d e = heads d e ds es xs ys (f d (inl refl)) (g e (inl refl)) in
      let same : SameKey d e = keyed d e here in
      (here, paired ds es xs.1 ys.1 (λ x there. later d e ds es x same xs there (f x (inr there))) (λ y there. sooner d e ds es y same ys there (g y (inr there))))
    where
      later : (d e : Declared) (ds es : List Declared) (x : Declared) → SameKey d e → AreInOrder (d ∷ ds) → In ds x → Partner P (e ∷ es) x → Partner P es x
      later d e ds es x same xs there p = by p.other p.there p.like
        where
          by : (o : Declared) → In (e ∷ es) o → P x o → Partner P es x
          by o (inr more) like = record { other = o; there = more; like = like }
          by o (inl here) like = absurd (keys_differ d x e (xs.0 x there) same (keyed x e (subst (P x) (sym here) like)))

      sooner : (d e : Declared) (ds es : List Declared) (y : Declared) → SameKey d e → AreInOrder (e ∷ es) → In es y → Partner SameKey (d ∷ ds) y → Partner SameKey ds y
      sooner d e ds es y same ys there p = by p.other p.there p.like
        where
          by : (o : Declared) → In (d ∷ ds) o → SameKey y o → Partner SameKey ds y
          by o (inr more) like = record { other = o; there = more; like = like }
          by o (inl here) like = absurd (keys_differ e y d (ys.0 y there) (turned_key d e same) (subst (SameKey y) (sym here) like))
