-- Keys that are given, one tag more at a time.
use Rattle.std.proofs.Common.{arith, ◌≡◌, ◌≢◌, ◌∙◌, ℕ, zero, suc, ◌+◌, ◌<◌, Bool, true, false, cond, List, [], ◌∷◌, length, set, Option, Some, None, inl, inr, refl, sym, ap}
use Rattle.std.specs.Prelude.{◌||◌, ◌&&◌, slice_get}
use Rattle.std.specs.Global.{Vec}
use Rattle.std.specs.BTreeMap.{BTreeMap}
use Rattle.std.proofs.lemmas.Bool.Decides.{eqb_tells}
use Rattle.c_senses.specs.Tree.{Source}
use Rattle.c_senses.specs.Right.{is_tag, key_of_tag}
use Rattle.c_senses.specs.Sense.{Sense}
use Rattle.unit_keys.specs.Words.{has_word}
use Rattle.unit_keys.proofs.Lists.{any_more}
use Rattle.unit_keys.specs.given_keys.Given.{is_key, is_given, untaken, own_key, AreBelow, AreGiven}

get_same : {X : Type 0} (xs : List X) (i : ℕ) (x : X) → i < length xs → slice_get (set xs i x) i ≡ Some x
get_same [] i x lt = absurd (omega arith)
get_same (y ∷ ys) zero x lt = refl
get_same (y ∷ ys) (suc i) x lt = get_same ys i x (omega (arith, lt))

get_other : {X : Type 0} (xs : List X) (i j : ℕ) (x : X) → i ≢ j → slice_get (set xs i x) j ≡ slice_get xs j
get_other [] i j x ne = refl
get_other (y ∷ ys) zero zero x ne = absurd (ne refl)
get_other (y ∷ ys) zero (suc j) x ne = refl
get_other (y ∷ ys) (suc i) zero x ne = refl
get_other (y ∷ ys) (suc i) (suc j) x ne = get_other ys i j x (λ e. ne (ap suc e))

or_false : (a : Bool) → (a || false) ≡ a
or_false true = refl
or_false false = refl

or_swap : (a b : Bool) → (a || b) ≡ (b || a)
or_swap true true = refl
or_swap true false = refl
or_swap false true = refl
or_swap false false = refl

module _ (s : Source) (sense : ℕ → Sense) where
  given_next : (n : ℕ) (key : List ℕ) → is_given s sense (n + 1) key ≡ (is_given s sense n key || (is_tag s n && is_key (key_of_tag s sense n) key))
  given_next n key = any_more (λ c. is_tag s c && is_key (key_of_tag s sense c) key) n

  -- a node that is no tag
  pub given_same : (n : ℕ) (keys : List (Option (List ℕ))) (given : BTreeMap (Vec ℕ) ℕ) → is_tag s n ≡ false → AreGiven s sense keys given n → AreGiven s sense keys given (n + 1)
  given_same n keys given e are = record {
    got = λ d lt tag. elim (eqb_tells d n) [
      | inl p ↦ absurd (let f : is_tag s n ≡ true = ap (is_tag s) (sym p.1) ∙ tag in let g : true ≡ false = sym f ∙ e in cc)
      | inr p ↦ are.got d (omega (arith, lt, p.1)) tag
    ];
    words = λ key.
        are.words key
        ∙ sym (given_next n key ∙ (ap (λ (b : Bool). is_given s sense n key || (b && is_key (key_of_tag s sense n) key)) e ∙ or_false (is_given s sense n key)));
  }

  untaken_same : (f g : List ℕ → Bool) (o : Option (List ℕ)) → ((key : List ℕ) → f key ≡ g key) → untaken f o ≡ untaken g o
  untaken_same f g None h = refl
  untaken_same f g (Some key) h = ap (λ (b : Bool). cond b None (Some key)) (h key)

  -- one tag more
  pub given_more : (n : ℕ) (keys new : List (Option (List ℕ))) (given after : BTreeMap (Vec ℕ) ℕ) (key own : Option (List ℕ)) → is_tag s n ≡ true → AreBelow s (length keys) → key ≡ key_of_tag s sense n → own ≡ untaken (has_word given) key
      → ((other : List ℕ) → has_word after other ≡ (is_key key other || has_word given other)) → new ≡ set keys (s.tag_number n) own → AreGiven s sense keys given n → AreGiven s sense new after (n + 1)
  given_more n keys new given after key own tag_n numbers ek eo ew en are =
      let mine : own ≡ own_key s sense n = eo ∙ (untaken_same (has_word given) (is_given s sense n) key are.words ∙ ap (untaken (is_given s sense n)) ek) in
      record {
        got = λ d lt tag. elim (eqb_tells d n) [
          | inl p ↦
              ap (λ (l : List (Option (List ℕ))). slice_get l (s.tag_number d)) en
              ∙ (ap (λ (k : ℕ). slice_get (set keys (s.tag_number n) own) (s.tag_number k)) p.1
              ∙ (get_same keys (s.tag_number n) own (numbers.below n tag_n) ∙ (ap Some mine ∙ ap (λ (k : ℕ). Some (own_key s sense k)) (sym p.1))))
          | inr p ↦
              ap (λ (l : List (Option (List ℕ))). slice_get l (s.tag_number d)) en
              ∙ (get_other keys (s.tag_number n) (s.tag_number d) own (λ same. p.1 (sym (numbers.differ n d tag_n tag same))) ∙ are.got d (omega (arith, lt, p.1)) tag)
        ];
        words = λ other.
            ew other
            ∙ (ap (λ (b : Bool). is_key key other || b) (are.words other)
            ∙ (ap (λ (o : Option (List ℕ)). is_key o other || is_given s sense n other) ek
            ∙ (or_swap (is_key (key_of_tag s sense n) other) (is_given s sense n other)
            ∙ sym (given_next n other ∙ ap (λ (b : Bool). is_given s sense n other || (b && is_key (key_of_tag s sense n) other)) tag_n))));
      }
