-- Specifiers of one tag have one keyword.
use Rattle.std.proofs.Common.{arith, ◌≡◌, ◌==◌, ◌<◌, ◌≤◌, ◌+◌, ℕ, zero, suc, Bool, true, false, ◌&&◌, ◌||◌, not, List, Option, Some, None, length, slice_get, take, refl, sym, ap, ◌∙◌, subst, ◌⊎◌, inl, inr}
use Rattle.std.specs.Prelude.{if◌then◌else◌}
use Rattle.std.proofs.lemmas.Bool.{eqb-true, eq-eqb}
use Rattle.std.proofs.lemmas.Option.{slice_get-get_or}
use Rattle.pta_base.specs.declared.kind.Kind.TheVariants.{Operand}
use Rattle.c_grammar.specs.declared.trees.SyntaxNode.{SyntaxNode}
use Rattle.c_grammar.specs.Productions.{p_struct}
use Rattle.c_grammar.specs.Words.{word_union}
use Rattle.parsed_tree_laws.specs.family_laws.Families.{Families}
use Rattle.c_senses.specs.Given.{Given, Fits, given_if}
use Rattle.c_senses.specs.Tree.{Source, is_a, is_number, word_at, production_at, production_of, first_where, numbers_from}
use Rattle.c_senses.specs.World.{same_length}
use Rattle.c_senses.specs.Sense.{Sense, Nothing, sense_in}
use Rattle.c_senses.specs.Tags.{is_union, tag_of, tag_fits, tag_declared, named_tag, keyword_of, has_list, is_listed_before}
use Rattle.c_senses.specs.Right.{TagsDiffer}
use Rattle.c_senses.specs.Rows.{world_at, row, row_of, AreSenses}
use Rattle.struct_rows.specs.Built.{agree, first_is_union, is_of_tag, union_by}
use Rattle.limit_laws.specs.struct_laws.Untaken.{IsOtherKeyword, IsUntaken}
use Rattle.limit_laws.specs.struct_laws.Words.{NoOtherKeyword, UntakenAlone}
use Rattle.limit_laws.proofs.struct_laws.Opening.{tag_there}
use Rattle.limit_laws.proofs.struct_laws.Untaken.{untaken_only}

-- the first number that passes is no later than another that does
pub record IsFirst (test : ℕ → Bool) (found : Option ℕ) (j : ℕ) : Type 0 where
  pub first : ℕ
  pub is : found ≡ Some first
  pub before : first ≤ j
  pub passes : test first ≡ true

pub first_at : (test : ℕ → Bool) (k n j : ℕ) → k ≤ j → j < k + n → test j ≡ true → IsFirst test (first_where test (numbers_from k n)) j
first_at test k zero j low high h = absurd (omega arith)
first_at test k (suc n) j low high h = by (λ l. first_at test (suc k) n j l (omega (arith, high)) h) (test k) refl
  where
    differs : test k ≡ false → k ≡ j → ⊥
    differs e same = let f : test k ≡ true = ap test same ∙ h in cc

    by : (suc k ≤ j → IsFirst test (first_where test (numbers_from (suc k) n)) j) → (b : Bool) → test k ≡ b → IsFirst test (if b then Some k else first_where test (numbers_from (suc k) n)) j
    by rest true e = record { first = k; is = refl; before = low; passes = e }
    by rest false e = let apart = differs e in rest (omega (arith, low, apart))

same_lengths : (a b : Option ℕ) → same_length a b ≡ true → a ≡ b
same_lengths None None e = refl
same_lengths (Some a) (Some b) e = ap Some (eqb-true a b e)
same_lengths None (Some b) e = cc
same_lengths (Some a) None e = cc

fits_if : (b : Bool) (named : ℕ) (g : Given Sense) (x : Sense) → given_if b Operand named g ≡ Fits x → b ≡ true
fits_if true named g x e = refl
fits_if false named g x e = cc

word_agrees : (a b : Bool) → not (a || not b) ≡ true → b ≡ true
word_agrees true b e = cc
word_agrees false true e = refl
word_agrees false false e = cc

agree_same : (a b : Bool) → a ≡ b → agree a b ≡ true
agree_same true true e = refl
agree_same false false e = refl
agree_same true false e = cc
agree_same false true e = cc

no_both : {b : Bool} → b ≡ true → b ≡ false → ⊥
no_both e f = cc

both_first : (a b : Bool) → (a && b) ≡ true → a ≡ true
both_first true b e = refl
both_first false b e = cc

both_second : (a b : Bool) → (a && b) ≡ true → b ≡ true
both_second true b e = e
both_second false b e = cc

module _ (s : Source) where
  -- the keyword of a specifier whose tag fits is that of its tag
  word_of : (i : ℕ) → tag_fits s i ≡ true → keyword_of s (tag_declared s i) ≡ word_at s i
  word_of i h = same_lengths (keyword_of s (tag_declared s i)) (word_at s i) (word_agrees (has_list s i && is_listed_before s i) (same_length (keyword_of s (tag_declared s i)) (word_at s i)) h)

  module _ (senses : List Sense) (are : AreSenses s senses) where
    -- a specifier before has a tag that fits
    fits_before : (i : ℕ) → i < length senses → is_a s p_struct i ≡ true → tag_fits s i ≡ true
    fits_before i inside struct = by (slice_get s.nodes i) refl (eqb-true (production_at s i) p_struct struct)
      where
        by : (o : Option SyntaxNode) → slice_get s.nodes i ≡ o → production_of o ≡ p_struct → tag_fits s i ≡ true
        by None e p = absurd (omega (arith, p))
        by (Some n) e p =
            let before = take i senses in
            let w = world_at s before i in
            let fits : row s before i n ≡ Fits (sense_in senses i) = are.each i n (sense_in senses i) e (slice_get-get_or senses i Nothing inside) in
            let is : row_of w s (sense_in before) p_struct i n.children.items ≡ Fits (sense_in senses i) = subst (λ (q : ℕ). row_of w s (sense_in before) q i n.children.items ≡ Fits (sense_in senses i)) p fits in
            fits_if (tag_fits s i) (named_tag s i) _ (sense_in senses i) is

    module _ (differ : TagsDiffer s) (families : Families s) (at : ℕ) (here : at ≡ length senses) (inside : at < length s.nodes) (struct : is_a s p_struct at ≡ true) (fits : tag_fits s at ≡ true) where
      unions_agree : (i : ℕ) → i ≤ at → is_of_tag s (tag_of s at) i ≡ true → is_union s at ≡ is_union s i
      unions_agree i before is = by (i_or before)
        where
          struct_i : is_a s p_struct i ≡ true
          struct_i = both_first (is_a s p_struct i) (tag_of s i == tag_of s at) is

          i_or : i ≤ at → (i ≡ at) ⊎ (i < at)
          i_or l = by_test (i == at) refl
            where
              by_test : (b : Bool) → (i == at) ≡ b → (i ≡ at) ⊎ (i < at)
              by_test true e = inl (eqb-true i at e)
              by_test false e = inr (let apart : i ≡ at → ⊥ = λ same. no_both (eq-eqb i at same) e in omega (arith, l, apart))

          by : (i ≡ at) ⊎ (i < at) → is_union s at ≡ is_union s i
          by (inl same) = ap (is_union s) (sym same)
          by (inr less) =
              let tag : tag_of s i ≡ tag_of s at = eqb-true (tag_of s i) (tag_of s at) (both_second (is_a s p_struct i) (tag_of s i == tag_of s at) is) in
              let declared : tag_declared s i ≡ tag_declared s at = differ (tag_declared s i) (tag_declared s at) (tag_there s i (omega (arith, less, inside)) struct_i) (tag_there s at inside struct) tag in
              let words : word_at s at ≡ word_at s i = sym (word_of at fits) ∙ (ap (keyword_of s) (sym declared) ∙ word_of i (fits_before i (omega (arith, less, here)) struct_i)) in
              families.words at struct ∙ (ap (λ (o : Option ℕ). is_number o word_union) words ∙ sym (families.words i struct_i))

      keywords_agree : agree (is_union s at) (first_is_union s (tag_of s at)) ≡ true
      keywords_agree =
          let own : is_of_tag s (tag_of s at) at ≡ true = ap (λ (b : Bool). b && (tag_of s at == tag_of s at)) struct ∙ eq-eqb (tag_of s at) (tag_of s at) refl in
          let f = first_at (is_of_tag s (tag_of s at)) 0 (length s.nodes) at (omega arith) (omega (arith, inside)) own in
          agree_same (is_union s at) (first_is_union s (tag_of s at)) (unions_agree f.first f.before f.passes ∙ ap (union_by s) (sym f.is))

pub no_other_keyword : NoOtherKeyword
no_other_keyword s senses at are differ families here inside struct h = no_both (keywords_agree s senses are differ families at here inside struct h.fits) h.other

pub untaken_alone : UntakenAlone
untaken_alone s senses at are first differ families here inside struct h = by (untaken_only s senses at are first differ here inside struct h)
  where
    by : IsOtherKeyword s at ⊎ IsUntaken s senses at → IsUntaken s senses at
    by (inl other) = absurd (no_other_keyword s senses at are differ families here inside struct other)
    by (inr untaken) = untaken
