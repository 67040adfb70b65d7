-- Specifiers have one storage word at most (C11 6.7.1p2).
use Rattle.std.proofs.Common.{arith, ◌≡◌, ◌<◌, ℕ, zero, suc, nat_eq, Bool, true, false, ◌&&◌, ◌||◌, List, [], ◌∷◌, length, Option, Some, None, refl, sym, ap, ◌∙◌, subst}
use Rattle.std.specs.Prelude.{nat_le, option_and_then}
use Rattle.std.proofs.lemmas.Bool.{eqb-true, leb-true}
use Rattle.pta_base.specs.declared.kind.Kind.TheVariants.{Operand}
use Rattle.c_grammar.specs.Productions.{p_specs}
use Rattle.c_grammar.specs.Terminals.{contains}
use Rattle.c_grammar.specs.Words.{word_extern, word_static}
use Rattle.c_senses.specs.Tree.{Source, children_at, is_a, child_of, parent_of}
use Rattle.c_senses.specs.Specifiers.{storage_words, function_words, words_fit, specs_row}
use Rattle.c_senses.specs.Declarators.{outermost_of, declaration_around, specs_of}
use Rattle.c_senses.specs.Entities.{specified, has_storage}
use Rattle.c_senses.specs.Rows.{AreSenses}
use Rattle.c_senses.specs.Sense.{Sense, Nothing, IsSpecified, Specified, sense_in}
use Rattle.core_node_laws.proofs.standing_laws.Climbing.{found_where}
use Rattle.parsed_tree_laws.specs.sense_laws.Sound.{Gives}
use Rattle.parsed_tree_laws.proofs.sense_laws.Giving.{if_given}
use Rattle.core_node_laws.proofs.built_unit_laws.run_laws.Times.{known_at, world_of, row_as, fitted}

both : (a b : Bool) → (a && b) ≡ true → (a ≡ true) × (b ≡ true)
both true b e = (refl, e)
both false b e = cc

-- one word isn't two
one_word : (words : List ℕ) → nat_le (length words) 1 ≡ true → contains words word_extern ≡ true → contains words word_static ≡ true → ⊥
one_word [] h e f = cc
one_word (x ∷ []) h e f = by (nat_eq x word_extern) (nat_eq x word_static) refl refl e f
  where
    by : (a b : Bool) → nat_eq x word_extern ≡ a → nat_eq x word_static ≡ b → (a || false) ≡ true → (b || false) ≡ true → ⊥
    by true true ea eb k l = let same : word_extern ≡ word_static = sym (eqb-true x word_extern ea) ∙ eqb-true x word_static eb in absurd (omega (arith, same))
    by true false ea eb k l = cc
    by false b ea eb k l = cc
one_word (x ∷ y ∷ words) h e f = let few = leb-true (length (x ∷ y ∷ words)) 1 h in absurd (omega (arith, few))

sense_within : (senses : List Sense) (m : ℕ) → (sense_in senses m ≡ Nothing → ⊥) → m < length senses
sense_within [] m h = absurd (h refl)
sense_within (x ∷ xs) zero h = omega arith
sense_within (x ∷ xs) (suc m) h = let more = sense_within xs m h in omega (arith, more)

abbrev FewWords : Sense → Type 0
FewWords x = (y : Specified) → x ≡ IsSpecified y → nat_le (length y.storage) 1 ≡ true

abbrev has : ℕ → Option Specified → Bool
has word o = elim o as (λ _. Bool) [ None ↦ false | Some x ↦ contains x.storage word ]

module _ (s : Source) (senses : List Sense) (are : AreSenses s senses) where
  few_words : (c : ℕ) (z : Specified) → is_a s p_specs c ≡ true → sense_in senses c ≡ IsSpecified z → nat_le (length z.storage) 1 ≡ true
  few_words c z is e = fitted FewWords (specs_row (world_of s senses c) s (known_at s senses c) c (children_at s c)) (sense_in senses c) (row_as s senses are p_specs c inside is) row_few z e
    where
      never : IsSpecified z ≡ Nothing → ⊥
      never k = cc

      inside : c < length senses
      inside = sense_within senses c (λ none. never (sym e ∙ none))

      row_few : Gives FewWords (specs_row (world_of s senses c) s (known_at s senses c) c (children_at s c))
      row_few =
          if_given FewWords (words_fit s c (storage_words s (children_at s c)) (function_words s (children_at s c))) Operand c _
          (λ fit y same.
          let few : nat_le (length (storage_words s (children_at s c))) 1 ≡ true = (both (nat_le (length (storage_words s (children_at s c))) 1) _ fit).0 in
          let words : storage_words s (children_at s c) ≡ y.storage = words_of _ y same in
          subst (λ (l : List ℕ). nat_le (length l) 1 ≡ true) words few)
        where
          words_of : (x y : Specified) → IsSpecified x ≡ IsSpecified y → x.storage ≡ y.storage
          words_of x y k = let same : x ≡ y = cc in ap (λ (q : Specified). q.storage) same

  specs_is : (leaf c : ℕ) → option_and_then (specs_of s) (outermost_of s leaf) ≡ Some c → is_a s p_specs c ≡ true
  specs_is leaf c e = by (outermost_of s leaf) e
    where
      at : (o : Option ℕ) → option_and_then (child_of s p_specs) o ≡ Some c → is_a s p_specs c ≡ true
      at None k = cc
      at (Some p) k = found_where (is_a s p_specs) (children_at s p) c k

      by : (o : Option ℕ) → option_and_then (specs_of s) o ≡ Some c → is_a s p_specs c ≡ true
      by None k = cc
      by (Some m) k = at (option_and_then (declaration_around s) (parent_of s m)) k

  -- a name isn't both `extern` and `static`
  pub not_both : (leaf : ℕ) → has_storage s (sense_in senses) word_extern leaf ≡ true → has_storage s (sense_in senses) word_static leaf ≡ true → ⊥
  not_both leaf e f = by (option_and_then (specs_of s) (outermost_of s leaf)) refl e f
    where
      of : (c : ℕ) (y : Sense) → sense_in senses c ≡ y → is_a s p_specs c ≡ true → has word_extern (elim y as (λ _. Option Specified) [ IsSpecified x ↦ Some x | _ ↦ None ]) ≡ true
          → has word_static (elim y as (λ _. Option Specified) [ IsSpecified x ↦ Some x | _ ↦ None ]) ≡ true → ⊥
      of c (IsSpecified z) at is k l = one_word z.storage (few_words c z is at) k l
      of c y at is k l = cc

      by : (o : Option ℕ) → option_and_then (specs_of s) (outermost_of s leaf) ≡ o → has word_extern (specified s (sense_in senses) o) ≡ true → has word_static (specified s (sense_in senses) o) ≡ true → ⊥
      by None at k l = cc
      by (Some c) at k l = of c (sense_in senses c) refl (specs_is leaf c at) k l
