-- The declarations of a symbol before a leaf.
use Rattle.std.proofs.Common.{◌≡◌, ℕ, Bool, true, false, eqb, cond, ◌&&◌, List, [], ◌∷◌, Some, refl, sym, ap, ◌∙◌}
use Rattle.std.proofs.lemmas.Bool.{eq-eqb}
use Rattle.c_scope.specs.declared.kinds.Declared.{Declared}
use Rattle.c_senses.specs.Tree.{Source}
use Rattle.c_senses.specs.Names.{entry_of, made_before}
use Rattle.c_senses.specs.Sense.{Sense}
use Rattle.c_senses.specs.Entities.{keep, is_internal, is_internal_of}
use Rattle.name_chains.specs.symbol_lists.Symbols.{of_symbol}

-- those of a symbol that pass a test
kept_by : (here : Bool) (pass : Bool) (d : Declared) (rest more : List Declared) → cond (here && pass) (d ∷ rest) rest ≡ cond here (cond pass (d ∷ rest) rest) rest
kept_by true pass d rest more = refl
kept_by false pass d rest more = refl

module _ (s : Source) (sense : ℕ → Sense) where
  abbrev pub gives_internal : Declared → Bool
  gives_internal d = is_internal s sense d.node

  keep_through : (here : Bool) (d : Declared) (rest : List Declared) → cond here (cond (gives_internal d) (d ∷ keep s sense gives_internal rest) (keep s sense gives_internal rest)) (keep s sense gives_internal rest) ≡ keep s sense gives_internal (cond here (d ∷ rest) rest)
  keep_through true d rest = refl
  keep_through false d rest = refl

  pub keep_of : (symbol : ℕ) (ds : List Declared) → keep s sense (is_internal_of s sense symbol) ds ≡ keep s sense gives_internal (of_symbol symbol ds)
  keep_of symbol [] = refl
  keep_of symbol (d ∷ rest) =
      ap (λ (list : List Declared). cond (eqb d.symbol symbol && gives_internal d) (d ∷ list) list) (keep_of symbol rest)
      ∙ (kept_by (eqb d.symbol symbol) (gives_internal d) d (keep s sense gives_internal (of_symbol symbol rest)) []
      ∙ keep_through (eqb d.symbol symbol) d (of_symbol symbol rest))

-- what stands before a leaf, among those of its symbol
module _ (leaf : ℕ) where
  before_skips : (here : Bool) (x : Declared) (rest : List Declared) → eqb x.node leaf ≡ false → cond here (x ∷ made_before leaf rest) (made_before leaf rest) ≡ made_before leaf (cond here (x ∷ rest) rest)
  before_skips true x rest e = sym (ap (λ (b : Bool). cond b [] (x ∷ made_before leaf rest)) e)
  before_skips false x rest e = refl

  pub before_of : (ds : List Declared) (d : Declared) → entry_of ds leaf ≡ Some d → of_symbol d.symbol (made_before leaf ds) ≡ made_before leaf (of_symbol d.symbol ds)
  before_of [] d e = absurd (cc)
  before_of (x ∷ rest) d e = by_test (eqb x.node leaf) refl e (before_of rest d)
    where
      by_test : (b : Bool) → eqb x.node leaf ≡ b → cond b (Some x) (entry_of rest leaf) ≡ Some d → (entry_of rest leaf ≡ Some d → of_symbol d.symbol (made_before leaf rest) ≡ made_before leaf (of_symbol d.symbol rest))
          → of_symbol d.symbol (cond b [] (x ∷ made_before leaf rest)) ≡ made_before leaf (of_symbol d.symbol (x ∷ rest))
      by_test true h is others =
          let same : x ≡ d = cc in
          let symbols : eqb x.symbol d.symbol ≡ true = eq-eqb x.symbol d.symbol (ap (λ (y : Declared). y.symbol) same) in
          sym (ap (λ (b : Bool). made_before leaf (cond b (x ∷ of_symbol d.symbol rest) (of_symbol d.symbol rest))) symbols ∙ ap (λ (b : Bool). cond b [] (x ∷ made_before leaf (of_symbol d.symbol rest))) h)
      by_test false h is others =
          ap (λ (list : List Declared). cond (eqb x.symbol d.symbol) (x ∷ list) list) (others is) ∙ before_skips (eqb x.symbol d.symbol) x (of_symbol d.symbol rest) h
