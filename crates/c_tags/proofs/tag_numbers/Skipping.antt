-- What goes on over nodes that are no specifiers.
use Rattle.std.proofs.Common.{arith, ◌≡◌, ℕ, zero, suc, ◌+◌, ◌-◌, ◌<◌, ◌≤◌, Bool, true, false, ◌&&◌, ◌||◌, List, [], length, Option, None, refl, sym, ap, ◌∙◌, subst}
use Rattle.std.specs.Prelude.{◌==◌, is_some}
use Rattle.c_grammar.specs.Productions.{p_struct, p_members}
use Rattle.c_senses.specs.Tree.{Source, is_a, any_where, numbers_from, child_of}
use Rattle.c_senses.specs.Tags.{is_tag_specifier, has_list, tag_declared, tag_of, specifiers_before}
use Rattle.c_tags.specs.declared.tag_numbers.seen.SeenTags.{SeenTags}
use Rattle.c_tags.specs.tag_numbers.Numbers.{AreNumbered, AreSeen, ListedBefore, MarkedBefore, NoSpecifier, completes}
use Rattle.c_tags.proofs.tag_numbers.Listing.{any_next, any_passing_next}
use Rattle.c_tags.proofs.tag_numbers.Numbering.{numbered_skip, seen_skip}

or_false : (a : Bool) → a ≡ (a || false)
or_false true = refl
or_false false = refl

or_left : (a b : Bool) → (a || b) ≡ false → a ≡ false
or_left true b e = cc
or_left false b e = refl

module _ (s : Source) (A : ℕ → Type 0) (one : (j : ℕ) → is_tag_specifier s j ≡ false → A j → A (j + 1)) where
  over_many : (m k : ℕ) → ((j : ℕ) → k ≤ j → j < k + m → is_tag_specifier s j ≡ false) → A k → A (k + m)
  over_many zero k none a = let e : k ≡ k + 0 = omega arith in subst A e a
  over_many (suc m) k none a =
      let e : (k + 1) + m ≡ k + suc m = omega arith in
      subst A e (over_many m (k + 1) (λ j ge lt. none j (omega (arith, ge)) (omega (arith, lt))) (one k (none k (omega arith) (omega arith)) a))

  over_to : (from to : ℕ) → from ≤ to → NoSpecifier s from to → A from → A to
  over_to from to le none a =
      let e : from + (to - from) ≡ to = omega (arith, le) in
      subst A e (over_many (to - from) from (λ j ge lt. none j ge (omega (arith, lt, le))) a)

module _ (s : Source) (from to : ℕ) (le : from ≤ to) (none : NoSpecifier s from to) where
  pub numbered_over : (numbers : ℕ → Option ℕ) (firsts : List ℕ) → AreNumbered s numbers firsts from → AreNumbered s numbers firsts to
  numbered_over numbers firsts = over_to s (AreNumbered s numbers firsts) (λ j no are. numbered_skip s numbers firsts j are (or_left (is_a s p_struct j) _ no)) from to le none

  pub seen_over : (seen : SeenTags) → AreSeen s seen from → AreSeen s seen to
  seen_over seen = over_to s (AreSeen s seen) (λ j no are. seen_skip s seen j are no) from to le none

  pub listed_over : (listed : List Bool) → ListedBefore s from listed → ListedBefore s to listed
  listed_over listed =
      over_to s (λ (i : ℕ). ListedBefore s i listed)
      (λ j no are d.
      let test : ℕ → Bool = λ i. has_list s i && (tag_declared s i == d) in
      let before = any_where test (specifiers_before s j) in
      are d ∙ (or_false before ∙ (ap (λ (b : Bool). before || (b && test j)) (sym no) ∙ sym (any_passing_next test (is_tag_specifier s) j))))
      from to le none

  pub marked_over : (flags : List Bool) → MarkedBefore s from flags → MarkedBefore s to flags
  marked_over flags =
      over_to s (λ (i : ℕ). MarkedBefore s i flags)
      (λ j no are n.
      let test : ℕ → Bool = λ i. completes s i && (tag_of s i == n) in
      let before = any_where test (numbers_from 0 j) in
      let not_one : test j ≡ false = ap (λ (b : Bool). (b && is_some (child_of s p_members j)) && (tag_of s j == n)) (or_left (is_a s p_struct j) _ no) in
      are n ∙ (or_false before ∙ (ap (λ (b : Bool). before || b) (sym not_one) ∙ sym (any_next test j))))
      from to le none

-- before the first node
pub numbered_none : (s : Source) (numbers : ℕ → Option ℕ) (firsts : List ℕ) → ((q : ℕ) → numbers q ≡ None) → firsts ≡ [] → AreNumbered s numbers firsts 0
numbered_none s numbers firsts none empty = record {
  each = λ j lt t. absurd (omega (arith, lt));
  back = λ d k e. absurd (let f = none d in cc);
  firsts_are = λ k lt. absurd (omega (arith, lt, ap length empty));
  known = λ k lt. absurd (omega (arith, lt, ap length empty));
  least = λ j k lt t e. absurd (omega (arith, lt));
  within = λ k lt. absurd (omega (arith, lt, ap length empty));
  all = empty;
}

-- one node more that is none
pub none_more : (s : Source) (from at : ℕ) → NoSpecifier s from at → is_tag_specifier s at ≡ false → NoSpecifier s from (at + 1)
none_more s from at none here j ge lt = grind (arith, none, here)
