-- The declarations of a symbol that give it internal linkage, one after another.
use Rattle.std.proofs.Common.{◌≡◌, ℕ, ◌+◌, ◌<◌, ◌≤◌, Bool, true, false, eqb, cond, List, [], ◌∷◌, ◌++◌, append_assoc, append-nil, All, length, drop, get_or, slice_get, Option, Some, None, option_map, inl, inr, refl, sym, ap, subst, ◌∙◌}
use Rattle.std.proofs.lemmas.List.{drop_more, drop_all}
use Rattle.std.proofs.lemmas.List.Elements.{All-filter, All-get_or, All-push}
use Rattle.std.proofs.lemmas.Option.{slice_get_cases, slice_get-get_or}
use Rattle.c_scope.specs.declared.kinds.Declared.{Declared}
use Rattle.c_senses.specs.Tree.{Source}
use Rattle.c_senses.specs.Names.{ordinary_at}
use Rattle.c_senses.specs.Sense.{Sense, sense_in}
use Rattle.c_senses.specs.Entities.{keep, is_internal, internal_among}
use Rattle.c_senses.specs.Right.{of_internal}
use Rattle.c_named.specs.Lists.{leaves_of}
use Rattle.name_chains.specs.symbol_lists.Symbols.{of_symbol, leaf_of}
use Rattle.name_chains.proofs.symbol_lists.Before.{keep_of}
use Rattle.unit_names.specs.Internal.{leaf_if, internal_of}

-- the declaration at a place, by its leaf, and what stands behind it
found : (ds : List Declared) (k leaf : ℕ) → option_map leaf_of (slice_get ds k) ≡ Some leaf → (x : Declared) × (drop k ds ≡ x ∷ drop (k + 1) ds) × (x.node ≡ leaf)
found ds k leaf e =
    elim (slice_get_cases ds k).1 [
      | inl here ↦
          let x = here.0 in
          let at : option_map leaf_of (Some x) ≡ Some leaf = sym (ap (λ (o : Option Declared). option_map leaf_of o) here.2) ∙ e in
          let node : x.node ≡ leaf = cc in
          (x, drop_more ds k x here.1 ∙ ap (λ (y : Declared). y ∷ drop (k + 1) ds) here.3, node)
      | inr past ↦ let none : option_map leaf_of None ≡ Some leaf = sym (ap (λ (o : Option Declared). option_map leaf_of o) past.1) ∙ e in absurd (cc)
    ]

missing : (ds : List Declared) (k : ℕ) → option_map leaf_of (slice_get ds k) ≡ None → drop k ds ≡ []
missing ds k e =
    elim (slice_get_cases ds k).1 [
      | inl here ↦ let some : option_map leaf_of (Some here.0) ≡ None = sym (ap (λ (o : Option Declared). option_map leaf_of o) here.2) ∙ e in absurd (cc)
      | inr past ↦ drop_all k ds past.0
    ]

-- a declaration of a symbol has its leaf among those of all
pub symbol_within : (n : ℕ) (ds : List Declared) (q k leaf : ℕ) → ((i : ℕ) (d : Declared) → slice_get ds i ≡ Some d → d.node < n) → option_map leaf_of (slice_get (of_symbol q ds) k) ≡ Some leaf → leaf < n
symbol_within n ds q k leaf nodes e =
    let P : Declared → Type 0 = λ d. d.node < n in
    let test : Declared → Bool = λ d. eqb d.symbol q in
    let those = of_symbol q ds in
    let all : All P ds = λ i d lt. nodes i (get_or ds i d) (slice_get-get_or ds i d lt) in
    elim (slice_get_cases those k).1 [
      | inl here ↦
          let x = here.0 in
          let at : option_map leaf_of (Some x) ≡ Some leaf = sym (ap (λ (o : Option Declared). option_map leaf_of o) here.2) ∙ e in
          let node : x.node ≡ leaf = cc in
          let kept : P (get_or those k x) = All-get_or P those k x here.1 (All-filter test P ds all) in
          subst (λ (y : ℕ). y < n) node (subst P here.3 kept)
      | inr past ↦ let none : option_map leaf_of None ≡ Some leaf = sym (ap (λ (o : Option Declared). option_map leaf_of o) past.1) ∙ e in absurd (cc)
    ]

-- a declaration more
kept_step : (b : Bool) (x : Declared) (rest : List Declared) → leaves_of (cond b (x ∷ rest) rest) ≡ leaf_if b x.node ++ leaves_of rest
kept_step true x rest = refl
kept_step false x rest = refl

module _ (s : Source) (sense : ℕ → Sense) where
  abbrev gives : Declared → Bool
  gives d = is_internal s sense d.node

  -- those that are left
  abbrev pub left_of : List Declared → ℕ → List ℕ
  left_of ds k = leaves_of (keep s sense (λ d. is_internal s sense d.node) (drop k ds))

  pub kept_more : (ds : List Declared) (k leaf : ℕ) (b : Bool) (so_far all : List ℕ) → option_map leaf_of (slice_get ds k) ≡ Some leaf → b ≡ is_internal s sense leaf
      → so_far ++ left_of ds k ≡ all → (so_far ++ leaf_if b leaf) ++ left_of ds (k + 1) ≡ all
  kept_more ds k leaf b so_far all e internal h =
      let there = found ds k leaf e in
      let x = there.0 in
      let rest = drop (k + 1) ds in
      let behind : List ℕ = left_of ds (k + 1) in
      let here : leaf_if b leaf ++ behind ≡ left_of ds k =
      ap (λ (c : Bool). leaf_if c leaf ++ behind) (internal ∙ ap (is_internal s sense) (sym there.2))
      ∙ (ap (λ (n : ℕ). leaf_if (gives x) n ++ behind) (sym there.2)
      ∙ (sym (kept_step (gives x) x (keep s sense gives rest)) ∙ ap (λ (l : List Declared). leaves_of (keep s sense gives l)) (sym there.1))) in
      append_assoc so_far (leaf_if b leaf) behind ∙ (ap (λ (l : List ℕ). so_far ++ l) here ∙ h)

  nothing_left : (ds : List Declared) (k : ℕ) (so_far all : List ℕ) → drop k ds ≡ [] → so_far ++ left_of ds k ≡ all → so_far ≡ all
  nothing_left ds k so_far all none h =
      sym (append-nil so_far) ∙ (ap (λ (l : List Declared). so_far ++ leaves_of (keep s sense gives l)) (sym none) ∙ h)

  pub kept_missing : (ds : List Declared) (k : ℕ) (so_far all : List ℕ) → option_map leaf_of (slice_get ds k) ≡ None → so_far ++ left_of ds k ≡ all → so_far ≡ all
  kept_missing ds k so_far all e h = nothing_left ds k so_far all (missing ds k e) h

  pub kept_all : (ds : List Declared) (k : ℕ) (so_far all : List ℕ) → length ds ≤ k → so_far ++ left_of ds k ≡ all → so_far ≡ all
  kept_all ds k so_far all past h = nothing_left ds k so_far all (drop_all k ds past) h

-- the declarations of an internal name are those of its symbol
pub internal_is : (s : Source) (senses : List Sense) (leaf : ℕ) (d : Declared) → ordinary_at s leaf ≡ Some d → internal_of s (sense_in senses) d.symbol ≡ leaves_of (of_internal s senses leaf)
internal_is s senses leaf d e =
    let sense = sense_in senses in
    sym (ap leaves_of (keep_of s sense d.symbol s.declared.ordinary))
    ∙ sym (ap (λ (o : Option Declared). leaves_of (internal_among s sense s.declared.ordinary o)) e)

pub internal_none : (s : Source) (senses : List Sense) (leaf : ℕ) → ordinary_at s leaf ≡ None → ◌≡◌ {A = List ℕ} [] (leaves_of (of_internal s senses leaf))
internal_none s senses leaf e = sym (ap (λ (o : Option Declared). leaves_of (internal_among s (sense_in senses) s.declared.ordinary o)) e)

-- a leaf more
pub within_more : (n : ℕ) (list : List ℕ) (b : Bool) (leaf : ℕ) → All (λ x. x < n) list → leaf < n → All (λ x. x < n) (list ++ leaf_if b leaf)
within_more n list true leaf all h = All-push (λ x. x < n) list leaf all h
within_more n list false leaf all h = subst (All (λ x. x < n)) (sym (append-nil list)) all
