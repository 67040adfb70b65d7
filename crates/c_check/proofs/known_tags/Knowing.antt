-- What is known of declarations, with one more.
use Rattle.std.proofs.Common.{◌≡◌, ◌∙◌, ℕ, Bool, true, false, cond, eqb, inl, inr, List, [], ◌∷◌, ◌++◌, Option, Some, None, refl, sym, ap, subst}
use Rattle.std.specs.Option.{is_some}
use Rattle.std.proofs.lemmas.Bool.{false≢true}
use Rattle.std.proofs.lemmas.Bool.Decides.{eqb_tells}
use Rattle.c_senses.specs.World.{or_else}
use Rattle.c_check.specs.declared.known_tags.known.Meaning.{Meaning}
use Rattle.tree_reads.specs.leaf_maps.Numbers.{number_at}
use Rattle.c_check.specs.declared.known_tags.given.Given.{Given}
use Rattle.c_check.specs.known_tags.Given.{AreGiven}
use Rattle.c_check.specs.known_tags.Known.{known_at, entity_in, tag_in}

some_or : (o : Option Meaning) (p : Option Meaning) → is_some o ≡ true → or_else o p ≡ o
some_or None p h = absurd (false≢true h)
some_or (Some m) p h = refl

none_of : (o : Option Meaning) → is_some o ≡ false → o ≡ None
none_of None h = refl
none_of (Some m) h = absurd (false≢true (sym h))

known_more : (list : List (ℕ × Meaning)) (n : ℕ) (m : Meaning) (q : ℕ) → known_at (list ++ (n, m) ∷ []) q ≡ or_else (known_at list q) (cond (eqb n q) (Some m) None)
known_more [] n m q = refl
known_more (k ∷ rest) n m q =
    elim (eqb k.0 q) as (λ b. cond b (Some k.1) (known_at (rest ++ (n, m) ∷ []) q) ≡ or_else (cond b (Some k.1) (known_at rest q)) (cond (eqb n q) (Some m) None)) [
      | true ↦ refl
      | false ↦ known_more rest n m q
    ]

-- a declaration of which something is known already changes nothing
module _ (list : List (ℕ × Meaning)) (n : ℕ) (m : Meaning) where
  pub known_again : is_some (known_at list n) ≡ true → (q : ℕ) → known_at (list ++ (n, m) ∷ []) q ≡ known_at list q
  known_again h q =
      elim (eqb_tells n q) [
        | inl p ↦ known_more list n m q ∙ some_or (known_at list q) (cond (eqb n q) (Some m) None) (subst (λ (i : ℕ). is_some (known_at list i) ≡ true) p.1 h)
        | inr p ↦ known_more list n m q ∙ (ap (λ (b : Bool). or_else (known_at list q) (cond b (Some m) None)) p.0 ∙ or_none (known_at list q))
      ]
    where
      or_none : (o : Option Meaning) → or_else o None ≡ o
      or_none None = refl
      or_none (Some x) = refl

  none_more : (o : Option Meaning) → or_else o None ≡ o
  none_more None = refl
  none_more (Some x) = refl

  here_more : (i : ℕ) → cond (eqb i i) (Some m) None ≡ Some m
  here_more i = elim (eqb_tells i i) [ inl p ↦ ap (λ (b : Bool). cond b (Some m) None) p.0 | inr p ↦ absurd (p.1 refl) ]

  -- by what is read of each declaration, where nothing was known of this one
  module _ (X : Type 0) (read : Option Meaning → X) (old new : ℕ → X) (none : known_at list n ≡ None) (were : (q : ℕ) → old q ≡ read (known_at list q)) (others : (q : ℕ) → (n ≡ q → ⊥) → new q ≡ old q) (here : new n ≡ read (Some m)) where
    pub read_more : (q : ℕ) → new q ≡ read (known_at (list ++ (n, m) ∷ []) q)
    read_more q =
        elim (eqb_tells n q) [
          | inl p ↦
              let now : known_at (list ++ (n, m) ∷ []) n ≡ Some m = known_more list n m n ∙ (ap (λ (o : Option Meaning). or_else o (cond (eqb n n) (Some m) None)) none ∙ here_more n) in
              subst (λ (i : ℕ). new i ≡ read (known_at (list ++ (n, m) ∷ []) i)) p.1 (here ∙ sym (ap read now))
          | inr p ↦
              let now : known_at (list ++ (n, m) ∷ []) q ≡ known_at list q = known_more list n m q ∙ (ap (λ (b : Bool). or_else (known_at list q) (cond b (Some m) None)) p.0 ∙ none_more (known_at list q)) in
              others q p.1 ∙ (were q ∙ sym (ap read now))
        ]

-- what is found, with one declaration more
module _ (g : Given) (list : List (ℕ × Meaning)) (h : AreGiven g list) (n : ℕ) (m : Meaning) where
  pub given_again : is_some (number_at g.seen n) ≡ true → AreGiven g (list ++ (n, m) ∷ [])
  given_again e =
      let k : is_some (known_at list n) ≡ true = sym (h.seen n) ∙ e in
      record {
        seen = λ q. h.seen q ∙ sym (ap is_some (known_again list n m k q));
        entities = λ q. h.entities q ∙ sym (ap entity_in (known_again list n m k q));
        tags = λ q. h.tags q ∙ sym (ap tag_in (known_again list n m k q));
      }

  module _ (e : is_some (number_at g.seen n) ≡ false) where
    none : known_at list n ≡ None
    none = none_of (known_at list n) (sym (h.seen n) ∙ e)

    no_number : (o : Option ℕ) → is_some o ≡ false → is_some (or_else o (Some 0)) ≡ true
    no_number None f = refl
    no_number (Some x) f = refl

    -- a map that stays, and one that gets a number for the declaration
    pub entity_same : entity_in (Some m) ≡ None → number_at g.entities n ≡ entity_in (Some m)
    entity_same f = h.entities n ∙ (ap entity_in none ∙ sym f)

    pub tag_same : tag_in (Some m) ≡ None → number_at g.tags n ≡ tag_in (Some m)
    tag_same f = h.tags n ∙ (ap tag_in none ∙ sym f)

    pub entity_new : (o : Option ℕ) (k : ℕ) → o ≡ or_else (number_at g.entities n) (Some k) → entity_in (Some m) ≡ Some k → o ≡ entity_in (Some m)
    entity_new o k f same = f ∙ (ap (λ (x : Option ℕ). or_else x (Some k)) (h.entities n ∙ ap entity_in none) ∙ sym same)

    pub tag_new : (o : Option ℕ) (k : ℕ) → o ≡ or_else (number_at g.tags n) (Some k) → tag_in (Some m) ≡ Some k → o ≡ tag_in (Some m)
    tag_new o k f same = f ∙ (ap (λ (x : Option ℕ). or_else x (Some k)) (h.tags n ∙ ap tag_in none) ∙ sym same)

    pub given_new : (more : Given) → number_at more.seen n ≡ or_else (number_at g.seen n) (Some 0) → ((q : ℕ) → (n ≡ q → ⊥) → number_at more.seen q ≡ number_at g.seen q) → number_at more.entities n ≡ entity_in (Some m) → ((q : ℕ) → (n ≡ q → ⊥) → number_at more.entities q ≡ number_at g.entities q) → number_at more.tags n ≡ tag_in (Some m) → ((q : ℕ) → (n ≡ q → ⊥) → number_at more.tags q ≡ number_at g.tags q) → AreGiven more (list ++ (n, m) ∷ [])
    given_new more seen seen_others entity entity_others tag tag_others = record {
      seen = read_more list n m Bool is_some (λ (q : ℕ). is_some (number_at g.seen q)) (λ (q : ℕ). is_some (number_at more.seen q)) none h.seen (λ q d. ap is_some (seen_others q d)) (ap is_some seen ∙ no_number (number_at g.seen n) e);
      entities = read_more list n m (Option ℕ) entity_in (number_at g.entities) (number_at more.entities) none h.entities entity_others entity;
      tags = read_more list n m (Option ℕ) tag_in (number_at g.tags) (number_at more.tags) none h.tags tag_others tag;
    }
