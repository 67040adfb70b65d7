-- The declarations of a symbol, one after another.
use Rattle.std.proofs.Common.{◌≡◌, ℕ, ◌+◌, ◌<◌, ◌≤◌, zero, suc, Bool, true, false, eqb, eq-eqb, cond, List, [], ◌∷◌, ◌++◌, append_assoc, append-nil, length, drop, get_or, Option, Some, None, All, inl, inr, refl, sym, ap, subst, ◌∙◌, arith}
use Rattle.std.specs.Prelude.{slice_get, option_map}
use Rattle.std.proofs.lemmas.List.{drop_more}
use Rattle.std.proofs.lemmas.List.Elements.{All-get_or, All-filter, All-push, All-same, All-cons, All-head, All-tail}
use Rattle.std.proofs.lemmas.Option.{slice_get_cases}
use Rattle.c_scope.specs.declared.kinds.Declared.{Declared}
use Rattle.c_senses.specs.Tree.{Source}
use Rattle.c_senses.specs.Names.{made_before, ordinary_at}
use Rattle.c_senses.specs.World.{World}
use Rattle.c_senses.specs.Sense.{Sense}
use Rattle.c_senses.specs.Entities.{keep, is_internal, internal_among, internal_before}
use Rattle.c_named.specs.Lists.{leaves_of}
use Rattle.name_chains.specs.symbol_lists.Symbols.{of_symbol, leaf_of}
use Rattle.name_chains.proofs.symbol_lists.Before.{keep_of, before_of}
use Rattle.name_uses.specs.name_sayings.Listed.{leaf_if, internal_leaves, internal_of}

-- the declaration at a place, by its leaf, and what stands behind it
pub found : (ds : List Declared) (k leaf : ℕ) → Some leaf ≡ option_map leaf_of (slice_get ds k) → (x : Declared) × (drop k ds ≡ x ∷ drop (k + 1) ds) × (x.node ≡ leaf) × (k < length ds) × (get_or ds k x ≡ x)
found ds k leaf e =
    elim (slice_get_cases ds k).1 [
      | inl here ↦
          let x : Declared = here.0 in
          let at : Some leaf ≡ option_map leaf_of (Some x) = e ∙ ap (λ (o : Option Declared). option_map leaf_of o) here.2 in
          let node : x.node ≡ leaf = cc in
          (x, drop_more ds k x here.1 ∙ ap (λ (y : Declared). y ∷ drop (k + 1) ds) here.3, node, here.1, here.3)
      | inr past ↦ let none : Some leaf ≡ option_map leaf_of None = e ∙ ap (λ (o : Option Declared). option_map leaf_of o) past.1 in absurd (cc)
    ]

drop_nil : (k : ℕ) → ◌≡◌ {A = List Declared} (drop k []) []
drop_nil zero = refl
drop_nil (suc k) = refl

drop_past : (ds : List Declared) (k : ℕ) → length ds ≤ k → drop k ds ≡ []
drop_past [] k h = drop_nil k
drop_past (x ∷ ds) zero h = absurd (omega arith)
drop_past (x ∷ ds) (suc k) h = drop_past ds k (omega arith)

-- past the last one nothing stands
pub missing : (ds : List Declared) (k : ℕ) → ◌≡◌ {A = Option ℕ} None (option_map leaf_of (slice_get ds k)) → drop k ds ≡ []
missing ds k e =
    elim (slice_get_cases ds k).1 [
      | inl here ↦ let some : None ≡ option_map leaf_of (Some here.0) = e ∙ ap (λ (o : Option Declared). option_map leaf_of o) here.2 in absurd (cc)
      | inr past ↦ drop_past ds k past.0
    ]

-- the leaf at a place is one of so many nodes
pub found_below : (n : ℕ) (symbol : ℕ) (all : List Declared) (k leaf : ℕ) → All (λ d. d.node < n) all → Some leaf ≡ option_map leaf_of (slice_get (of_symbol symbol all) k) → leaf < n
found_below n symbol all k leaf h e =
    let those = of_symbol symbol all in
    let at = found those k leaf e in
    let below : All (λ (d : Declared). d.node < n) those = All-filter (λ (d : Declared). eqb d.symbol symbol) (λ (d : Declared). d.node < n) all h in
    let here : (get_or those k at.0).node < n = All-get_or (λ (d : Declared). d.node < n) those k at.0 at.3 below in
    subst (λ (m : ℕ). m < n) at.2 (subst (λ (d : Declared). d.node < n) at.4 here)

module _ (s : Source) (sense : ℕ → Sense) (leaf : ℕ) where
  abbrev gives : Declared → Bool
  gives d = is_internal s sense d.node

  stops : (d : Declared) (rest : List Declared) → d.node ≡ leaf → internal_leaves s sense leaf (d ∷ rest) ≡ []
  stops d rest e = ap (λ (b : Bool). leaves_of (keep s sense gives (cond b [] (d ∷ made_before leaf rest)))) (eq-eqb d.node leaf e)

  goes_by : (wanted : Bool) (d : Declared) (more : List Declared) → leaf_if wanted d.node ++ leaves_of (keep s sense gives more) ≡ leaves_of (cond wanted (d ∷ keep s sense gives more) (keep s sense gives more))
  goes_by true d more = refl
  goes_by false d more = refl

  goes : (d : Declared) (rest : List Declared) → eqb d.node leaf ≡ false → leaf_if (gives d) d.node ++ internal_leaves s sense leaf rest ≡ internal_leaves s sense leaf (d ∷ rest)
  goes d rest e = goes_by (gives d) d (made_before leaf rest) ∙ sym (ap (λ (b : Bool). leaves_of (keep s sense gives (cond b [] (d ∷ made_before leaf rest)))) e)

  -- what was found so far, with what is left of the declarations
  abbrev pub SoFar : List Declared → List ℕ → ℕ → Type 0
  SoFar ds list k = list ++ internal_leaves s sense leaf (drop k ds) ≡ internal_leaves s sense leaf ds

  pub ended : (ds : List Declared) (list : List ℕ) (k : ℕ) → SoFar ds list k → drop k ds ≡ [] → list ≡ internal_leaves s sense leaf ds
  ended ds list k h e = sym (append-nil list) ∙ (sym (ap (λ (xs : List Declared). list ++ internal_leaves s sense leaf xs) e) ∙ h)

  pub stopped : (ds : List Declared) (list : List ℕ) (k other : ℕ) → SoFar ds list k → Some other ≡ option_map leaf_of (slice_get ds k) → other ≡ leaf → list ≡ internal_leaves s sense leaf ds
  stopped ds list k other h e same =
      let at = found ds k other e in
      let none : internal_leaves s sense leaf (drop k ds) ≡ [] = ap (internal_leaves s sense leaf) at.1 ∙ stops at.0 (drop (k + 1) ds) (at.2 ∙ same) in
      sym (append-nil list) ∙ (sym (ap (λ (xs : List ℕ). list ++ xs) none) ∙ h)

  pub gone : (ds : List Declared) (list : List ℕ) (k other : ℕ) (wanted : Bool) → SoFar ds list k → Some other ≡ option_map leaf_of (slice_get ds k) → eqb other leaf ≡ false → wanted ≡ is_internal s sense other
      → SoFar ds (list ++ leaf_if wanted other) (k + 1)
  gone ds list k other wanted h e apart is =
      let at = found ds k other e in
      let x : Declared = at.0 in
      let apart_here : eqb x.node leaf ≡ false = ap (λ (n : ℕ). eqb n leaf) at.2 ∙ apart in
      let flag : leaf_if wanted other ≡ leaf_if (gives x) x.node = ap (λ (b : Bool). leaf_if b other) is ∙ ap (λ (n : ℕ). leaf_if (is_internal s sense n) n) (sym at.2) in
      let one : leaf_if wanted other ++ internal_leaves s sense leaf (drop (k + 1) ds) ≡ internal_leaves s sense leaf (drop k ds)
      = ap (λ (xs : List ℕ). xs ++ internal_leaves s sense leaf (drop (k + 1) ds)) flag ∙ (goes x (drop (k + 1) ds) apart_here ∙ sym (ap (internal_leaves s sense leaf) at.1)) in
      append_assoc list (leaf_if wanted other) (internal_leaves s sense leaf (drop (k + 1) ds)) ∙ (ap (λ (xs : List ℕ). list ++ xs) one ∙ h)

-- an internal name's declarations before a leaf, by those of its symbol
pub internal_is : (w : World) (s : Source) (sense : ℕ → Sense) (leaf : ℕ) (d : Declared) → ordinary_at s leaf ≡ Some d → internal_of s sense d.symbol leaf ≡ leaves_of (internal_before w s sense leaf)
internal_is w s sense leaf d e =
    ap leaves_of
    (sym (keep_of s sense d.symbol (made_before leaf s.declared.ordinary) ∙ ap (keep s sense (λ d. is_internal s sense d.node)) (before_of leaf s.declared.ordinary d e))
    ∙ sym (ap (λ (o : Option Declared). internal_among s sense (made_before leaf s.declared.ordinary) o) e))

pub internal_none : (w : World) (s : Source) (sense : ℕ → Sense) (leaf : ℕ) → ordinary_at s leaf ≡ None → [] ≡ leaves_of (internal_before w s sense leaf)
internal_none w s sense leaf e = sym (ap (λ (o : Option Declared). leaves_of (internal_among s sense (made_before leaf s.declared.ordinary) o)) e)

-- one more leaf of so many nodes, if it is wanted
pub added_below : (n : ℕ) (list : List ℕ) (wanted : Bool) (leaf : ℕ) → All (λ k. k < n) list → leaf < n → All (λ k. k < n) (list ++ leaf_if wanted leaf)
added_below n list true leaf h l = All-push (λ (k : ℕ). k < n) list leaf h l
added_below n list false leaf h l = All-same (λ (k : ℕ). k < n) (list ++ []) list (append-nil list) h

-- leaves of declarations of so many nodes
pub leaves_below : (n : ℕ) (ds : List Declared) → All (λ d. d.node < n) ds → All (λ k. k < n) (leaves_of ds)
leaves_below n [] h = λ k d l. absurd (omega arith)
leaves_below n (d ∷ ds) h = All-cons (λ (k : ℕ). k < n) d.node (leaves_of ds) (All-head (λ (x : Declared). x.node < n) d ds h) (leaves_below n ds (All-tail (λ (x : Declared). x.node < n) d ds h))
