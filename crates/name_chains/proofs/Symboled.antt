-- One more declaration behind those of its symbol.
use Rattle.std.proofs.Common.{◌≡◌, ℕ, ◌<◌, ◌≤◌, ◌+◌, ◌⊎◌, inl, inr, Bool, true, false, eqb, Some, List, [], ◌∷◌, ◌++◌, length, take, cond, refl, sym, ap, subst, ◌∙◌, arith, eqb-true, eq-eqb, length-append, append-nil}
use Rattle.std.specs.List.{slice_get}
use Rattle.std.specs.BTreeMap.{BTreeMap}
use Rattle.std.proofs.lemmas.Bool.{eqb-false}
use Rattle.std.proofs.lemmas.List.{take-append-le}
use Rattle.std.proofs.Math.Seq.{take-length}
use Rattle.c_types.proofs.Push.{slice_get_push}
use Rattle.c_scope.specs.declared.kinds.Declared.{Declared}
use Rattle.name_chains.specs.declared.links.Link.{Link}
use Rattle.name_chains.specs.Links.{listed, IsLinkOf, Adds}
use Rattle.name_chains.specs.Symbols.{of_symbol, last_at, AreSymbols, Last}
use Rattle.tree_reads.specs.leaf_maps.Numbers.{number_at}
use Rattle.name_chains.proofs.Linked.{listed-none, adds_one, added_list, added_link, listed-push, link-push, backward-push, leaves-push}
use Rattle.name_chains.proofs.Chained.{filter-push}

module _ (n : ℕ) (ds : List Declared) (d : Declared) (links : List Link) (symbols symbols' : BTreeMap ℕ ℕ) (h : Last n ds links symbols) (lt : d.node < n)
    (here : last_at symbols' d.symbol ≡ Some (length links)) (others : (q : ℕ) → (d.symbol ≡ q → ⊥) → last_at symbols' q ≡ last_at symbols q) where
  l : Link
  l = record { before = last_at symbols d.symbol; declared = d }

  before_is : IsLinkOf links l.before
  unfolding l
  before_is = h.is d.symbol

  adds : Adds links (links ++ l ∷ [])
  adds = adds_one links l h.all.backward before_is

  same : of_symbol d.symbol (ds ++ d ∷ []) ≡ of_symbol d.symbol ds ++ d ∷ []
  same = filter-push (λ (x : Declared). eqb x.symbol d.symbol) ds d ∙ ap (λ (b : Bool). of_symbol d.symbol ds ++ cond b (d ∷ []) []) (eq-eqb d.symbol d.symbol refl)

  other : (q : ℕ) → eqb d.symbol q ≡ false → of_symbol q (ds ++ d ∷ []) ≡ of_symbol q ds
  other q e = filter-push (λ (x : Declared). eqb x.symbol q) ds d ∙ (ap (λ (b : Bool). of_symbol q ds ++ cond b (d ∷ []) []) e ∙ append-nil (of_symbol q ds))

  newest : listed (links ++ l ∷ []) (Some (length links)) ≡ of_symbol d.symbol (ds ++ d ∷ [])
  unfolding l
  newest = listed-push links l ∙ (ap (λ (t : List Declared). t ++ d ∷ []) (h.list d.symbol) ∙ sym same)

  each : (k : ℕ) (e : Declared) → slice_get (ds ++ d ∷ []) k ≡ Some e → listed (links ++ l ∷ []) (Some k) ≡ of_symbol e.symbol (take (k + 1) (ds ++ d ∷ []))
  each k e at = by (slice_get_push ds d k e at)
    where
      by : ((k < length ds) × (slice_get ds k ≡ Some e)) ⊎ ((k ≡ length ds) × (e ≡ d)) → listed (links ++ l ∷ []) (Some k) ≡ of_symbol e.symbol (take (k + 1) (ds ++ d ∷ []))
      by (inl p) =
          let there : k < length links = omega (arith, p.0, h.all.count) in
          let le : k + 1 ≤ length ds = omega (arith, p.0) in
          added_list links (links ++ l ∷ []) adds (Some k) there
          ∙ (h.all.each k e p.1 ∙ ap (of_symbol e.symbol) (sym (take-append-le (k + 1) ds (d ∷ []) le)))
      by (inr p) =
          let long : k ≡ length links = omega (arith, p.0, h.all.count) in
          let more = length-append ds (d ∷ []) in
          let whole : k + 1 ≡ length (ds ++ d ∷ []) = omega (arith, p.0) in
          ap (λ (j : ℕ). listed (links ++ l ∷ []) (Some j)) long
          ∙ (newest ∙ (ap (λ (x : Declared). of_symbol x.symbol (ds ++ d ∷ [])) (sym p.1)
          ∙ ap (of_symbol e.symbol) (sym (ap (λ (j : ℕ). take j (ds ++ d ∷ [])) whole ∙ take-length (ds ++ d ∷ [])))))

  is : (symbol : ℕ) (b : Bool) → eqb d.symbol symbol ≡ b → IsLinkOf (links ++ l ∷ []) (last_at symbols' symbol)
  is symbol true e = subst (λ (q : ℕ). IsLinkOf (links ++ l ∷ []) (last_at symbols' q)) (eqb-true d.symbol symbol e) (subst (IsLinkOf (links ++ l ∷ [])) (sym here) (link-push links l))
  is symbol false e = subst (IsLinkOf (links ++ l ∷ [])) (sym (others symbol (eqb-false d.symbol symbol e))) (added_link links (links ++ l ∷ []) adds (last_at symbols symbol) (h.is symbol))

  list : (symbol : ℕ) (b : Bool) → eqb d.symbol symbol ≡ b → listed (links ++ l ∷ []) (last_at symbols' symbol) ≡ of_symbol symbol (ds ++ d ∷ [])
  list symbol true e = subst (λ (q : ℕ). listed (links ++ l ∷ []) (last_at symbols' q) ≡ of_symbol q (ds ++ d ∷ [])) (eqb-true d.symbol symbol e) (ap (listed (links ++ l ∷ [])) here ∙ newest)
  list symbol false e =
      ap (listed (links ++ l ∷ [])) (others symbol (eqb-false d.symbol symbol e))
      ∙ (added_list links (links ++ l ∷ []) adds (last_at symbols symbol) (h.is symbol) ∙ (h.list symbol ∙ sym (other symbol e)))

  pub last_more : Last n (ds ++ d ∷ []) (links ++ record { before = last_at symbols d.symbol; declared = d } ∷ []) symbols'
  unfolding l
  last_more = record {
    all = record {
      count = length-append links (l ∷ []) ∙ (ap (λ (k : ℕ). k + 1) h.all.count ∙ sym (length-append ds (d ∷ [])));
      backward = backward-push links l h.all.backward before_is;
      leaves = leaves-push n links l h.all.leaves lt;
      each = each;
    };
    is = λ symbol. is symbol (eqb d.symbol symbol) refl;
    list = λ symbol. list symbol (eqb d.symbol symbol) refl;
  }

-- before the first declaration
nothing : (n : ℕ) → AreSymbols n [] []
nothing n = record {
  count = refl;
  backward = record { each = λ i l at. absurd (cc) };
  leaves = record { each = λ i l at. absurd (cc) };
  each = λ k d at. absurd (cc);
}

pub last_none : (n : ℕ) (links : List Link) (symbols : BTreeMap ℕ ℕ) → links ≡ [] → symbols.entries ≡ [] → Last n [] links symbols
last_none n links symbols e f = record {
  all = subst (AreSymbols n []) (sym e) (nothing n);
  is = λ symbol. subst (λ (es : List (ℕ × ℕ)). IsLinkOf links (number_at es symbol)) (sym f) tt;
  list = λ symbol. ap (λ (es : List (ℕ × ℕ)). listed links (number_at es symbol)) f ∙ listed-none links;
}
