-- What is made between two declarations.
use Rattle.std.proofs.Common.{arith, ◌≡◌, ◌<◌, ◌≤◌, ◌==◌, ℕ, suc, nat_eq, Bool, true, false, cond, List, [], ◌∷◌, Some, eq-eqb, refl, sym, ap, ◌∙◌, subst, ◌⊎◌, inl, inr}
use Rattle.std.specs.Prelude.{if◌then◌else◌}
use Rattle.std.specs.List.{find}
use Rattle.std.proofs.lemmas.Bool.{eqb-true}
use Rattle.c_lexer.specs.declared.Token.{Token}
use Rattle.c_grammar.specs.Reads.{Node}
use Rattle.c_scope.specs.declared.kinds.Declared.{Declared}
use Rattle.c_scope.specs.Known.{is_at, those_at}
use Rattle.c_senses.specs.Names.{made_before}
use Rattle.declaration_laws.proofs.declared_type_laws.owner_laws.passed.definition_laws.linkage_laws.Origins.{HasOrigin}
use Rattle.declaration_laws.proofs.declared_type_laws.owner_laws.internal_laws.Sorted.{Sorted}
use Rattle.declaration_laws.specs.declared_type_laws.seen_onward.Seen.{In}
use Rattle.declaration_laws.proofs.declared_type_laws.seen_onward.Lists.{none_at}

module _ (text : List ℕ) (tokens : List Token) (nodes : List Node) where
  abbrev pub Origin : Declared → Type 0
  Origin d = HasOrigin text tokens nodes d

  -- each declaration comes from a node
  pub comes_from : (low : ℕ) (ds : List Declared) (high : ℕ) (d : Declared) → Sorted text tokens nodes low ds high → In d ds → Origin d
  unfolding Sorted
  comes_from low [] high d s h = absurd h
  comes_from low (x ∷ xs) high d s (inl same) = subst Origin same s.0
  comes_from low (x ∷ xs) high d s (inr h) = comes_from (suc s.0.node) xs high d s.2 h

  -- what is made before a leaf is one of all
  pub of_all : (leaf : ℕ) (ds : List Declared) (d : Declared) → In d (made_before leaf ds) → In d ds
  of_all leaf [] d h = absurd h
  of_all leaf (x ∷ xs) d h = by (nat_eq x.node leaf) h (λ k. of_all leaf xs d k)
    where
      by : (b : Bool) → In d (if b then [] else x ∷ made_before leaf xs) → (In d (made_before leaf xs) → In d xs) → In d (x ∷ xs)
      by true h later = absurd h
      by false (inl same) later = inl same
      by false (inr h) later = inr (later h)

  -- what is made before a declaration that is made before a leaf is made before it
  pub made_earlier : (leaf : ℕ) (ds : List Declared) (d e : Declared) → In d (made_before leaf ds) → In e (made_before d.node ds) → In e (made_before leaf ds)
  made_earlier leaf [] d e h k = absurd h
  made_earlier leaf (x ∷ xs) d e h k = by (nat_eq x.node leaf) (nat_eq x.node d.node) refl h k (λ a b. made_earlier leaf xs d e a b)
    where
      no_both : (b : Bool) → b ≡ true → b ≡ false → ⊥
      no_both b f g = let both : true ≡ false = sym f ∙ g in cc

      by : (a b : Bool) → nat_eq x.node d.node ≡ b → In d (if a then [] else x ∷ made_before leaf xs) → In e (if b then [] else x ∷ made_before d.node xs) → (In d (made_before leaf xs) → In e (made_before d.node xs) → In e (made_before leaf xs))
          → In e (if a then [] else x ∷ made_before leaf xs)
      by true b f h k later = absurd h
      by false true f h k later = absurd k
      by false false f h (inl same) later = inl same
      by false false f (inl same) (inr k) later = absurd (no_both (nat_eq x.node d.node) (eq-eqb x.node d.node (ap (λ (y : Declared). y.node) same)) f)
      by false false f (inr h) (inr k) later = inr (later h k)

  -- ---- between two

  module _ (last first : ℕ) (from to scope symbol : ℕ) (none : (y : Declared) (h : Origin y) → from ≤ h.node → h.node < to → y.symbol ≡ symbol → y.scope ≡ scope → ⊥) where
    -- the leaf comes from that node
    abbrev OwnNode : Declared → Type 0
    OwnNode y = (h : Origin y) → h.node ≡ to

    none_behind : (low : ℕ) (ds : List Declared) (high : ℕ) → Sorted text tokens nodes low ds high → from ≤ low → (y : Declared) → find (λ (d : Declared). d.node == last) ds ≡ Some y → OwnNode y
        → (low ≤ to) × ((d : Declared) → In d (made_before last ds) → d.symbol ≡ symbol → d.scope ≡ scope → ⊥)
    unfolding Sorted
    none_behind low [] high s le y e own = cc
    none_behind low (x ∷ xs) high s le y e own = by (nat_eq x.node last) e (λ f. none_behind (suc s.0.node) xs high s.2 (let least = s.1 in omega (arith, le, least)) y f own)
      where
        by : (b : Bool) → cond b (Some x) (find (λ (d : Declared). d.node == last) xs) ≡ Some y
            → (find (λ (d : Declared). d.node == last) xs ≡ Some y → (suc s.0.node ≤ to) × ((d : Declared) → In d (made_before last xs) → d.symbol ≡ symbol → d.scope ≡ scope → ⊥))
            → (low ≤ to) × ((d : Declared) → In d (if b then [] else x ∷ made_before last xs) → d.symbol ≡ symbol → d.scope ≡ scope → ⊥)
        by true f later =
            let same : x ≡ y = cc in
            (reach (subst (λ (z : Declared). (h : Origin z) × (low ≤ h.node)) same (s.0, s.1)), λ d h a b. h)
          where
            reach : (h : Origin y) × (low ≤ h.node) → low ≤ to
            reach h = let at = own h.0 in let least = h.1 in omega (arith, at, least)
        by false f later =
            let more = later f in
            let lt = more.0 in
            let least = s.1 in
            (omega (arith, lt, least), λ d h a b. pick d h a b)
          where
            pick : (d : Declared) → (x ≡ d) ⊎ In d (made_before last xs) → d.symbol ≡ symbol → d.scope ≡ scope → ⊥
            pick d (inl same) a b =
                let lt = (later f).0 in
                let least = s.1 in
                none x s.0 (omega (arith, le, least)) (omega (arith, lt)) (ap (λ (z : Declared). z.symbol) same ∙ a) (ap (λ (z : Declared). z.scope) same ∙ b)
            pick d (inr h) a b = (later f).1 d h a b

    -- from the first one on none is made at the scope
    pub same_those : (low : ℕ) (ds : List Declared) (high : ℕ) → Sorted text tokens nodes low ds high → (y : Declared) → find (λ (d : Declared). d.node == last) ds ≡ Some y → OwnNode y
        → ((z : Declared) (h : Origin z) → In z ds → z.node ≡ first → h.node ≡ from) → (d : Declared) → d.node ≡ first → In d (made_before last ds)
        → those_at scope symbol (made_before first ds) ≡ those_at scope symbol (made_before last ds)
    unfolding Sorted
    same_those low [] high s y e own at d node h = absurd h
    same_those low (x ∷ xs) high s y e own at d node h =
        by (nat_eq x.node last) refl e h (nat_eq x.node first) refl (λ f k. same_those (suc s.0.node) xs high s.2 y f own (λ z o i n. at z o (inr i) n) d node k)
      where
        no_both : (b : Bool) → b ≡ true → b ≡ false → ⊥
        no_both b f g = let both : true ≡ false = sym f ∙ g in cc

        by : (b : Bool) → nat_eq x.node last ≡ b → cond b (Some x) (find (λ (z : Declared). z.node == last) xs) ≡ Some y → In d (if b then [] else x ∷ made_before last xs) → (c : Bool) → nat_eq x.node first ≡ c
            → (find (λ (z : Declared). z.node == last) xs ≡ Some y → In d (made_before last xs) → those_at scope symbol (made_before first xs) ≡ those_at scope symbol (made_before last xs))
            → those_at scope symbol (if c then [] else x ∷ made_before first xs) ≡ those_at scope symbol (if b then [] else x ∷ made_before last xs)
        by true is f h c g later = absurd h
        by false is f h true g later =
            let here : s.0.node ≡ from = at x s.0 (inl refl) (eqb-true x.node first g) in
            let behind = none_behind (suc s.0.node) xs high s.2 (omega (arith, here)) y f own in
            sym (none_at scope symbol (x ∷ made_before last xs) (λ z i a b. pick z i a b))
          where
            pick : (z : Declared) → (x ≡ z) ⊎ In z (made_before last xs) → z.symbol ≡ symbol → z.scope ≡ scope → ⊥
            pick z i a b = go i
              where
                here : s.0.node ≡ from
                here = at x s.0 (inl refl) (eqb-true x.node first g)

                go : (x ≡ z) ⊎ In z (made_before last xs) → ⊥
                go (inl same) =
                    let lt = (none_behind (suc s.0.node) xs high s.2 (let e0 = here in omega (arith, e0)) y f own).0 in
                    let e1 = here in
                    none x s.0 (omega (arith, e1)) (omega (arith, lt)) (ap (λ (k : Declared). k.symbol) same ∙ a) (ap (λ (k : Declared). k.scope) same ∙ b)
                go (inr more) = (none_behind (suc s.0.node) xs high s.2 (let e0 = here in omega (arith, e0)) y f own).1 z more a b
        by false is f (inl same) false g later = absurd (no_both (nat_eq x.node first) (eq-eqb x.node first (ap (λ (k : Declared). k.node) same ∙ node)) g)
        by false is f (inr h) false g later = ap (λ (l : List Declared). cond (is_at scope symbol x) (x ∷ l) l) (later f h)
