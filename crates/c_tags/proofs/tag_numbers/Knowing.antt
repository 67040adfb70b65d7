-- What is known of the tags, put together.
use Rattle.std.proofs.Common.{arith, ◌≡◌, ℕ, zero, suc, ◌<◌, ◌≤◌, Bool, true, false, ◌&&◌, ◌||◌, List, [], ◌∷◌, Option, None, length, slice_get, refl, ap, ◌∙◌, inl, inr}
use Rattle.std.specs.Prelude.{◌==◌, is_some}
use Rattle.std.proofs.lemmas.Bool.Decides.{leb_tells}
use Rattle.c_grammar.specs.Productions.{p_struct, p_enum, p_members}
use Rattle.c_grammar.specs.declared.trees.SyntaxNode.{SyntaxNode}
use Rattle.c_senses.specs.Tree.{Source, is_a, any_where, child_of, production_of, numbers_from}
use Rattle.c_senses.specs.Tags.{is_tag_specifier, tag_of}
use Rattle.c_tags.specs.declared.tag_numbers.tags.Tags.{Tags}
use Rattle.c_tags.specs.tag_numbers.Numbers.{AreSeen, MarkedBefore, completes}
use Rattle.c_tags.specs.tag_numbers.Known.{AreTagNumbers, AreTags}

slice_get_past : {X : Type 0} (xs : List X) (i : ℕ) → length xs ≤ i → slice_get xs i ≡ None
slice_get_past [] zero h = refl
slice_get_past [] (suc i) h = refl
slice_get_past (x ∷ xs) zero h = absurd (omega arith)
slice_get_past (x ∷ xs) (suc i) h = slice_get_past xs i (omega arith)

-- a specifier is a node of the tree
specifier_inside : (s : Source) (i : ℕ) → is_tag_specifier s i ≡ true → i < length s.nodes
specifier_inside s i t = elim (leb_tells (suc i) (length s.nodes)) [
  | inl less ↦ less.1
  | inr more ↦
      let past : slice_get s.nodes i ≡ None = slice_get_past s.nodes i (omega (arith, more.1)) in
      let f : is_tag_specifier s i ≡ false = ap (λ (o : Option SyntaxNode). (production_of o == p_struct) || (production_of o == p_enum)) past in
      absurd (cc)
]

any_same : (f g : ℕ → Bool) → ((i : ℕ) → f i ≡ g i) → (xs : List ℕ) → any_where f xs ≡ any_where g xs
any_same f g same [] = refl
any_same f g same (x ∷ xs) =
    let here : f x ≡ g x = same x in
    let rest : any_where f xs ≡ any_where g xs = any_same f g same xs in
    cc

and_assoc : (a b c : Bool) → ((a && b) && c) ≡ (a && (b && c))
and_assoc true b c = refl
and_assoc false b c = refl

pub tags_known : (s : Source) (t : Tags) → t.count ≡ length t.firsts.items → AreTagNumbers s t.firsts.items → AreSeen s t.seen (length s.nodes) → MarkedBefore s (length s.nodes) t.completed.items → AreTags s t
tags_known s t count numbers seen marked = record {
  count = count ∙ numbers.count;
  differ = numbers.differ;
  below = λ d tag. omega (arith, count, numbers.below d tag);
  onto = λ n h. numbers.onto n (omega (arith, count));
  seen = λ i specifier. seen.each i (specifier_inside s i specifier) specifier;
  firsts_are = λ n h. numbers.firsts_are n (omega (arith, count));
  least = numbers.least;
  completed = λ w sense n.
      marked n
      ∙ any_same (λ j. completes s j && (tag_of s j == n)) (λ j. is_a s p_struct j && (is_some (child_of s p_members j) && (tag_of s j == n))) (λ j. and_assoc (is_a s p_struct j) (is_some (child_of s p_members j)) (tag_of s j == n)) (numbers_from 0 (length s.nodes));
}
