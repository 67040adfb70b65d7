-- Declarations that are seen along scopes.
use Rattle.std.proofs.Common.{◌≡◌, ◌==◌, ◌&&◌, ℕ, Bool, true, false, cond, List, [], ◌∷◌, ◌++◌, eq-eqb, refl, sym, ap, ◌∙◌, subst, ◌⊎◌, inl, inr}
use Rattle.std.specs.Prelude.{if◌then◌else◌}
use Rattle.std.proofs.lemmas.Bool.{eqb-true}
use Rattle.c_scope.specs.declared.kinds.Declared.{Declared}
use Rattle.c_scope.specs.Known.{is_at, those_at}
use Rattle.c_senses.specs.Names.{has_linkage, all_linked, with_outer, linked_along}
use Rattle.declaration_laws.specs.declared_type_laws.seen_onward.Seen.{In}

pub both : (a b : Bool) → (a && b) ≡ true → (a ≡ true) × (b ≡ true)
both true true e = (refl, refl)
both true false e = cc
both false b e = cc

pub in_left : (d : Declared) (xs ys : List Declared) → In d xs → In d (xs ++ ys)
in_left d [] ys h = absurd h
in_left d (x ∷ xs) ys (inl same) = inl same
in_left d (x ∷ xs) ys (inr h) = inr (in_left d xs ys h)

pub in_right : (d : Declared) (xs ys : List Declared) → In d ys → In d (xs ++ ys)
in_right d [] ys h = h
in_right d (x ∷ xs) ys h = inr (in_right d xs ys h)

pub in_either : (d : Declared) (xs ys : List Declared) → In d (xs ++ ys) → In d xs ⊎ In d ys
in_either d [] ys h = inr h
in_either d (x ∷ xs) ys (inl same) = inl (inl same)
in_either d (x ∷ xs) ys (inr h) = by (in_either d xs ys h)
  where
    by : In d xs ⊎ In d ys → In d (x ∷ xs) ⊎ In d ys
    by (inl k) = inl (inr k)
    by (inr k) = inr k

-- those at a scope
pub in_those : (scope symbol : ℕ) (ds : List Declared) (d : Declared) → In d (those_at scope symbol ds) → In d ds × (d.scope ≡ scope) × (d.symbol ≡ symbol)
in_those scope symbol [] d h = absurd h
in_those scope symbol (x ∷ xs) d h = by (is_at scope symbol x) refl h (λ k. in_those scope symbol xs d k)
  where
    by : (b : Bool) → is_at scope symbol x ≡ b → In d (cond b (x ∷ those_at scope symbol xs) (those_at scope symbol xs)) → (In d (those_at scope symbol xs) → In d xs × (d.scope ≡ scope) × (d.symbol ≡ symbol)) → In d (x ∷ xs) × (d.scope ≡ scope) × (d.symbol ≡ symbol)
    by true e (inl same) later =
        let b = both (x.scope == scope) (x.symbol == symbol) e in
        (inl same, subst (λ (y : Declared). y.scope ≡ scope) same (eqb-true x.scope scope b.0), subst (λ (y : Declared). y.symbol ≡ symbol) same (eqb-true x.symbol symbol b.1))
    by true e (inr more) later = let k = later more in (inr k.0, k.1, k.2)
    by false e h later = let k = later h in (inr k.0, k.1, k.2)

pub to_those : (scope symbol : ℕ) (ds : List Declared) (d : Declared) → In d ds → d.scope ≡ scope → d.symbol ≡ symbol → In d (those_at scope symbol ds)
to_those scope symbol [] d h at own = absurd h
to_those scope symbol (x ∷ xs) d h at own = by (is_at scope symbol x) refl h (λ k. to_those scope symbol xs d k at own)
  where
    all : (a b : Bool) → a ≡ true → b ≡ true → (a && b) ≡ true
    all true true e f = refl
    all true false e f = cc
    all false b e f = cc

    passes : is_at scope symbol d ≡ true
    passes = all (d.scope == scope) (d.symbol == symbol) (eq-eqb d.scope scope at) (eq-eqb d.symbol symbol own)

    no_both : (b : Bool) → b ≡ true → b ≡ false → ⊥
    no_both b e f = let never : true ≡ false = sym e ∙ f in cc

    by : (b : Bool) → is_at scope symbol x ≡ b → (x ≡ d) ⊎ In d xs → (In d xs → In d (those_at scope symbol xs)) → In d (cond b (x ∷ those_at scope symbol xs) (those_at scope symbol xs))
    by true e (inl same) later = inl same
    by true e (inr more) later = inr (later more)
    by false e (inl same) later = absurd (no_both (is_at scope symbol d) passes (subst (λ (y : Declared). is_at scope symbol y ≡ false) same e))
    by false e (inr more) later = later more

-- there are none where none is at it
pub none_at : (scope symbol : ℕ) (ds : List Declared) → ((d : Declared) → In d ds → d.symbol ≡ symbol → d.scope ≡ scope → ⊥) → those_at scope symbol ds ≡ []
none_at scope symbol [] none = refl
none_at scope symbol (x ∷ xs) none = by (is_at scope symbol x) refl (none_at scope symbol xs (λ d h. none d (inr h)))
  where
    by : (b : Bool) → is_at scope symbol x ≡ b → those_at scope symbol xs ≡ [] → cond b (x ∷ those_at scope symbol xs) (those_at scope symbol xs) ≡ []
    by true e later = let b = both (x.scope == scope) (x.symbol == symbol) e in absurd (none x (inl refl) (eqb-true x.symbol symbol b.1) (eqb-true x.scope scope b.0))
    by false e later = later

-- all of some with linkage have it
pub all_have : (ds : List Declared) (d : Declared) → all_linked ds ≡ true → In d ds → has_linkage d ≡ true
all_have [] d all h = absurd h
all_have (x ∷ xs) d all (inl same) = let b = both (has_linkage x) (all_linked xs) all in ap has_linkage (sym same) ∙ b.0
all_have (x ∷ xs) d all (inr h) = let b = both (has_linkage x) (all_linked xs) all in all_have xs d b.1 h

module _ (symbol : ℕ) (ds : List Declared) where
  pub record IsSeen (scopes : List ℕ) (d : Declared) : Type 0 where
    pub linked : all_linked (those_at d.scope symbol ds) ≡ true
    pub there : In d (those_at d.scope symbol ds)
    pub others : (e : Declared) → In e (those_at d.scope symbol ds) → In e (linked_along scopes symbol ds)

  -- what is seen along scopes is one of those at its scope, which all have linkage and are seen
  pub seen : (scopes : List ℕ) (d : Declared) → In d (linked_along scopes symbol ds) → IsSeen scopes d
  seen [] d h = absurd h
  seen (scope ∷ scopes) d h = by (all_linked (those_at scope symbol ds)) refl h (λ k. seen scopes d k)
    where
      own : all_linked (those_at scope symbol ds) ≡ true → In d (those_at scope symbol ds) → IsSeen (scope ∷ scopes) d
      own all k =
          let at : d.scope ≡ scope = (in_those scope symbol ds d k).1 in
          record {
            linked = ap (λ (n : ℕ). all_linked (those_at n symbol ds)) at ∙ all;
            there = subst (λ (n : ℕ). In d (those_at n symbol ds)) (sym at) k;
            others = λ e m.
                subst (λ (b : Bool). In e (if b then linked_along scopes symbol ds ++ those_at scope symbol ds else [])) (sym all)
                (in_right e (linked_along scopes symbol ds) (those_at scope symbol ds) (subst (λ (n : ℕ). In e (those_at n symbol ds)) at m));
          }

      further : all_linked (those_at scope symbol ds) ≡ true → IsSeen scopes d → IsSeen (scope ∷ scopes) d
      further all k = record {
        linked = k.linked;
        there = k.there;
        others = λ e m.
            subst (λ (b : Bool). In e (if b then linked_along scopes symbol ds ++ those_at scope symbol ds else [])) (sym all)
            (in_left e (linked_along scopes symbol ds) (those_at scope symbol ds) (k.others e m));
      }

      pick : all_linked (those_at scope symbol ds) ≡ true → In d (linked_along scopes symbol ds) ⊎ In d (those_at scope symbol ds) → (In d (linked_along scopes symbol ds) → IsSeen scopes d) → IsSeen (scope ∷ scopes) d
      pick all (inl k) later = further all (later k)
      pick all (inr k) later = own all k

      by : (b : Bool) → all_linked (those_at scope symbol ds) ≡ b → In d (if b then linked_along scopes symbol ds ++ those_at scope symbol ds else []) → (In d (linked_along scopes symbol ds) → IsSeen scopes d) → IsSeen (scope ∷ scopes) d
      by true all k later = pick all (in_either d (linked_along scopes symbol ds) (those_at scope symbol ds) k) later
      by false all k later = absurd k

  -- what is seen along further scopes is seen, where what is at the first one has linkage
  pub seen_on : (scope : ℕ) (scopes : List ℕ) (e : Declared) → all_linked (those_at scope symbol ds) ≡ true → In e (linked_along scopes symbol ds) → In e (linked_along (scope ∷ scopes) symbol ds)
  seen_on scope scopes e all h =
      subst (λ (b : Bool). In e (if b then linked_along scopes symbol ds ++ those_at scope symbol ds else [])) (sym all) (in_left e (linked_along scopes symbol ds) (those_at scope symbol ds) h)

  -- what is seen along scopes is at the first one, or seen along the others, and all that is at the first one has linkage
  pub seen_first : (scope : ℕ) (scopes : List ℕ) (e : Declared) → In e (linked_along (scope ∷ scopes) symbol ds) → (all_linked (those_at scope symbol ds) ≡ true) × (In e (linked_along scopes symbol ds) ⊎ In e (those_at scope symbol ds))
  seen_first scope scopes e h = by (all_linked (those_at scope symbol ds)) refl h
    where
      by : (b : Bool) → all_linked (those_at scope symbol ds) ≡ b → In e (if b then linked_along scopes symbol ds ++ those_at scope symbol ds else [])
          → (all_linked (those_at scope symbol ds) ≡ true) × (In e (linked_along scopes symbol ds) ⊎ In e (those_at scope symbol ds))
      by true all k = (all, in_either e (linked_along scopes symbol ds) (those_at scope symbol ds) k)
      by false all k = absurd k

-- where the same is at all scopes, the same is seen
abbrev pub SameAt : ℕ → List Declared → List Declared → List ℕ → Type 0
SameAt symbol xs ys [] = Unit {0}
SameAt symbol xs ys (scope ∷ scopes) = (those_at scope symbol xs ≡ those_at scope symbol ys) × SameAt symbol xs ys scopes

pub same_along : (symbol : ℕ) (xs ys : List Declared) (scopes : List ℕ) → SameAt symbol xs ys scopes → linked_along scopes symbol xs ≡ linked_along scopes symbol ys
same_along symbol xs ys [] h = refl
same_along symbol xs ys (scope ∷ scopes) h =
    ap (λ (l : List Declared). with_outer l (linked_along scopes symbol xs)) h.0 ∙ ap (with_outer (those_at scope symbol ys)) (same_along symbol xs ys scopes h.1)
