-- What stands beneath a node of a tree.
use Rattle.std.proofs.Common.{arith, ◌≡◌, ◌<◌, ◌≤◌, ℕ, zero, suc, Bool, true, false, List, [], ◌∷◌, take, Some, slice_get, refl, sym, subst}
use Rattle.std.specs.Prelude.{if◌then◌else◌}
use Rattle.core_tree.specs.Rows.{Has}
use Rattle.core_nodes.specs.passed.c_senses.Tree.{Source, children_at, all_where}
use Rattle.parsed_tree_laws.specs.family_laws.Families.{Families, IsChild, Ascend}
use Rattle.parsed_tree_laws.specs.ordered_parts.Ordered.{Beneath, itself, under}

-- numbers of a list that pass a test are numbers of it
pub where_has : (test : ℕ → Bool) (ks : List ℕ) (x : ℕ) → Has (all_where test ks) x → Has ks x
where_has test [] x h = h
where_has test (k ∷ ks) x h = by (test k) h (where_has test ks x)
  where
    by : (b : Bool) → Has (if b then k ∷ all_where test ks else all_where test ks) x → (Has (all_where test ks) x → Has ks x) → Has (k ∷ ks) x
    by true (zero, e) later = (0, e)
    by true (suc j, e) later = let more = later (j, e) in (suc more.0, more.1)
    by false h later = let more = later h in (suc more.0, more.1)

pub where_passes : (test : ℕ → Bool) (ks : List ℕ) (x : ℕ) → Has (all_where test ks) x → test x ≡ true
where_passes test [] x h = cc
where_passes test (k ∷ ks) x h = by (test k) refl h (where_passes test ks x)
  where
    by : (b : Bool) → test k ≡ b → Has (if b then k ∷ all_where test ks else all_where test ks) x → (Has (all_where test ks) x → test x ≡ true) → test x ≡ true
    by true is (zero, e) later = let same : k ≡ x = cc in subst (λ (y : ℕ). test y ≡ true) same is
    by true is (suc j, e) later = later (j, e)
    by false is h later = later h

pub has_where : (test : ℕ → Bool) (ks : List ℕ) (x : ℕ) → Has ks x → test x ≡ true → Has (all_where test ks) x
has_where test [] x h is = cc
has_where test (k ∷ ks) x (zero, e) is = let same : k ≡ x = cc in by (test k) (subst (λ (y : ℕ). test y ≡ true) (sym same) is)
  where
    by : (b : Bool) → b ≡ true → Has (if b then k ∷ all_where test ks else all_where test ks) x
    by true t = (0, e)
    by false t = cc
has_where test (k ∷ ks) x (suc j, e) is = by (test k) (has_where test ks x (j, e) is)
  where
    by : (b : Bool) → Has (all_where test ks) x → Has (if b then k ∷ all_where test ks else all_where test ks) x
    by true h = (suc h.0, h.1)
    by false h = h

ascend_lower : (low high : ℕ) (ks : List ℕ) → low ≤ high → Ascend high ks → Ascend low ks
ascend_lower low high [] le h = tt
ascend_lower low high (k ∷ ks) le h = (omega (arith, le, h.0), h.1)

pub ascend_where : (test : ℕ → Bool) (low : ℕ) (ks : List ℕ) → Ascend low ks → Ascend low (all_where test ks)
ascend_where test low [] h = tt
ascend_where test low (k ∷ ks) h = by (test k) (ascend_where test (suc k) ks h.1)
  where
    by : (b : Bool) → Ascend (suc k) (all_where test ks) → Ascend low (if b then k ∷ all_where test ks else all_where test ks)
    by true later = (h.0, later)
    by false later = ascend_lower low (suc k) (all_where test ks) (omega (arith, h.0)) later

pub ascend_take : (n low : ℕ) (ks : List ℕ) → Ascend low ks → Ascend low (take n ks)
ascend_take zero low ks h = tt
ascend_take (suc n) low [] h = tt
ascend_take (suc n) low (k ∷ ks) h = (h.0, ascend_take n (suc k) ks h.1)

pub ascend_above : (low : ℕ) (ks : List ℕ) (x : ℕ) → Ascend low ks → Has ks x → low ≤ x
ascend_above low [] x h has = cc
ascend_above low (k ∷ ks) x h (zero, e) = let same : k ≡ x = cc in subst (λ (y : ℕ). low ≤ y) same h.0
ascend_above low (k ∷ ks) x h (suc j, e) = let above = ascend_above (suc k) ks x h.1 (j, e) in omega (arith, above, h.0)

module _ (s : Source) (first : (i k c : ℕ) → slice_get (children_at s i) k ≡ Some c → c < i) (families : Families s) where
  before : (i c : ℕ) → IsChild s i c → c < i
  before i c h = first i h.0 c h.1

  pub beneath_small : (top p : ℕ) → Beneath s top p → p ≤ top
  beneath_small top p itself = omega arith
  beneath_small top p (under {q = q} child above) = let lt = before q p child in let le = beneath_small top q above in omega (arith, lt, le)

  pub beneath_child : (i c p : ℕ) → IsChild s i c → Beneath s c p → Beneath s i p
  beneath_child i c p child itself = under child itself
  beneath_child i c p child (under {q = q} part above) = under part (beneath_child i c q child above)

  -- a child of the parent of what is at the top
  never_above : (i c d : ℕ) → IsChild s i c → IsChild s i d → (q : ℕ) → IsChild s q c → Beneath s d q → ⊥
  never_above i c d child other q part above =
      let same : q ≡ i = families.single q i c part child in
      let le = beneath_small d q above in
      let lt = before i d other in
      omega (arith, same, le, lt)

  -- two children of one node have nothing in common
  pub apart : (i c d p : ℕ) → IsChild s i c → IsChild s i d → Beneath s c p → Beneath s d p → c ≡ d
  apart i c d p child other itself itself = refl
  apart i c d p child other itself (under {q = q} part above) = absurd (never_above i c d child other q part above)
  apart i c d p child other (under {q = q} part above) itself = absurd (never_above i d c other child q part above)
  apart i c d p child other (under {q = q} part above) (under {q = r} part2 above2) =
      let same : r ≡ q = families.single r q p part2 part in
      apart i c d q child other above (subst (λ (x : ℕ). Beneath s d x) same above2)
