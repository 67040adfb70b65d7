-- Enumerators' values, one after another.
use Rattle.std.proofs.Common.{◌≡◌, ◌∙◌, ℕ, ℤ, ◌+◌, Bool, true, false, cond, List, [], ◌∷◌, ◌++◌, append_assoc, append-nil, Option, Some, None, Result, Ok, Err, OnOk, refl, sym, ap}
use Rattle.c_senses.specs.Tree.{Source, children_at, all_where, numbers_from}
use Rattle.c_senses.specs.Sense.{Sense}
use Rattle.c_results.specs.Parts.{number_in}
use Rattle.c_tags.proofs.tag_numbers.Listing.{all_next}
use Rattle.c_check.specs.declared.known_tags.known.Meaning.{Meaning}
use Rattle.c_check.specs.known_tags.Values.{is_own_enumerator, new_leaf, pair_of, new_pair, values_of, own_values, pairs_if}

module _ (s : Source) (sense : ℕ → Sense) (list : List (ℕ × Meaning)) where
  values_append : (a b : List ℕ) → values_of s sense list (a ++ b) ≡ values_of s sense list a ++ values_of s sense list b
  values_append [] b = refl
  values_append (i ∷ a) b =
      ap (λ (l : List (ℕ × Meaning)). new_pair list (children_at s i) (number_in (sense i)) ++ l) (values_append a b) ∙ sym (append_assoc (new_pair list (children_at s i) (number_in (sense i))) (values_of s sense list a) (values_of s sense list b))

  last_value : (own : Bool) (k : ℕ) → values_of s sense list (cond own (k ∷ []) []) ≡ pairs_if own (new_pair list (children_at s k) (number_in (sense k)))
  last_value true k = append-nil (new_pair list (children_at s k) (number_in (sense k)))
  last_value false k = refl

  -- one node more
  pub values_next : (top k : ℕ) (pairs more : List (ℕ × Meaning)) (own : Bool) → pairs ≡ own_values s sense top list k → own ≡ is_own_enumerator s top k → more ≡ pairs ++ pairs_if own (new_pair list (children_at s k) (number_in (sense k))) → more ≡ own_values s sense top list (k + 1)
  values_next top k pairs more own e is m =
      m
      ∙ (ap (λ (x : List (ℕ × Meaning)). x ++ pairs_if own (new_pair list (children_at s k) (number_in (sense k)))) e
      ∙ (ap (λ (b : Bool). own_values s sense top list k ++ pairs_if b (new_pair list (children_at s k) (number_in (sense k)))) is
      ∙ (ap (λ (x : List (ℕ × Meaning)). own_values s sense top list k ++ x) (sym (last_value (is_own_enumerator s top k) k))
      ∙ (sym (values_append (all_where (is_own_enumerator s top) (numbers_from 0 k)) (cond (is_own_enumerator s top k) (k ∷ []) []))
      ∙ ap (values_of s sense list) (sym (all_next (is_own_enumerator s top) k))))))

-- what is put behind the pairs, by the steps
pub put_is : (own : Bool) (list : List (ℕ × Meaning)) (children children' : List ℕ) (value : Option ℤ) (leaf : ℕ) (n : ℤ) → own ≡ true → children ≡ children' → Some leaf ≡ new_leaf list children → Some n ≡ value → pair_of (Some leaf) (Some n) ≡ pairs_if own (new_pair list children' value)
put_is own list children children' value leaf n is e l v =
    ap (λ (o : Option ℕ). pair_of o (Some n)) l
    ∙ (ap (λ (o : Option ℤ). pair_of (new_leaf list children) o) v
    ∙ (ap (λ (cs : List ℕ). new_pair list cs value) e
    ∙ sym (ap (λ (b : Bool). pairs_if b (new_pair list children' value)) is)))

pair_none : (o : Option ℕ) → pair_of o None ≡ []
pair_none None = refl
pair_none (Some leaf) = refl

if_none : (own : Bool) → pairs_if own [] ≡ []
if_none true = refl
if_none false = refl

pub put_none : (own : Bool) (list : List (ℕ × Meaning)) (children : List ℕ) (value : Option ℤ) → None ≡ value → (pairs : List (ℕ × Meaning)) → pairs ≡ pairs ++ pairs_if own (new_pair list children value)
put_none own list children value v pairs =
    let none : new_pair list children value ≡ [] = ap (λ (o : Option ℤ). pair_of (new_leaf list children) o) (sym v) ∙ pair_none (new_leaf list children) in
    sym (ap (λ (l : List (ℕ × Meaning)). pairs ++ pairs_if own l) none ∙ (ap (λ (l : List (ℕ × Meaning)). pairs ++ l) (if_none own) ∙ append-nil pairs))

pub on_ok : {X E : Type 0} (r : Result X E) (P Q : Type 0) → (P → Q) → OnOk r P → OnOk r Q
on_ok (Ok x) P Q f h = f h
on_ok (Err e) P Q f h = h
