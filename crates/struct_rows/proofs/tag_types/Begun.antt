-- The types of tags, by their first specifiers.
use Rattle.std.proofs.Common.{arith, ◌≡◌, ℕ, zero, suc, ◌+◌, ◌<◌, ◌≤◌, Bool, true, false, cond, ◌&&◌, List, [], ◌∷◌, Option, Some, None, length, slice_get, refl, sym, ap, ◌∙◌, subst, ◌==◌, inl, inr}
use Rattle.std.specs.Prelude.{slice_index}
use Rattle.std.proofs.lemmas.Bool.Decides.{nat_tests, leb_tells}
use Rattle.c_grammar.specs.Productions.{p_struct}
use Rattle.c_types.specs.Table.{Table}
use Rattle.c_inits.specs.Tables.{tagged}
use Rattle.c_grammar.specs.declared.trees.SyntaxNode.{SyntaxNode}
use Rattle.c_senses.specs.Tree.{Source, is_a, first_where, numbers_from, production_of}
use Rattle.c_senses.specs.Tags.{tag_of, tag_declared}
use Rattle.c_tags.specs.declared.tag_numbers.tags.Numbered.{Numbered}
use Rattle.c_tags.specs.declared.tag_numbers.tags.Tags.{Tags}
use Rattle.c_tags.specs.tag_numbers.Known.{AreTags}
use Rattle.c_tags.proofs.tag_numbers.Listing.{any_here}
use Rattle.tree_reads.specs.Sources.{source_in}
use Rattle.core_nodes.specs.Once.{HasOnce}
use Rattle.struct_rows.specs.Built.{is_of_tag, first_specifier, union_by, first_is_union, HasTagTypes}
use Rattle.struct_rows.proofs.Building.{stands_here}
use Rattle.struct_rows.specs.tag_types.Opened.{is_tag_union, IsOpened}

same_number : (n : ℕ) → (n == n) ≡ true
same_number n = grind (arith, nat_tests)

-- the first number that passes a test is the least one
first_least : (test : ℕ → Bool) (k n j : ℕ) → k ≤ j → j < k + n → test j ≡ true → ((i : ℕ) → i < k + n → test i ≡ true → j ≤ i) → first_where test (numbers_from k n) ≡ Some j
first_least test k zero j low high is least = absurd (omega arith)
first_least test k (suc n) j low high is least =
    elim (test k) as (λ b. test k ≡ b → cond b (Some k) (first_where test (numbers_from (suc k) n)) ≡ Some j) [
      | true ↦ λ e. let below = least k (omega arith) e in let same : k ≡ j = omega arith in ap Some same
      | false ↦ λ e.
          let apart : k ≡ j → ⊥ = λ same. (let f : test k ≡ true = ap test same ∙ is in cc) in
          first_least test (suc k) n j (further k j low apart) (omega arith) is (λ i h t. least i (omega arith) t)
    ] refl
  where
    further : (k j : ℕ) → k ≤ j → (k ≡ j → ⊥) → suc k ≤ j
    further k j h apart = omega (arith, h, apart)

slice_get_past : {X : Type 0} (xs : List X) (i : ℕ) → length xs ≤ i → slice_get xs i ≡ None
slice_get_past [] zero h = refl
slice_get_past [] (suc i) h = refl
slice_get_past (x ∷ xs) zero h = absurd (omega arith)
slice_get_past (x ∷ xs) (suc i) h = slice_get_past xs i (omega arith)

both : (a b : Bool) → a ≡ true → b ≡ true → (a && b) ≡ true
both a b e f = ap (λ (x : Bool). x && b) e ∙ f

and_first : (a b : Bool) → (a && b) ≡ true → a ≡ true
and_first true b h = refl
and_first false b h = h

and_second : (a b : Bool) → (a && b) ≡ true → b ≡ true
and_second true b h = h
and_second false b h = cc

module _ (s : Source) where
  -- a specifier is a node
  is_node : (i : ℕ) → is_a s p_struct i ≡ true → i < length s.nodes
  is_node i is = elim (leb_tells (suc i) (length s.nodes)) [
    | inl less ↦ less.1
    | inr more ↦
        let past : slice_get s.nodes i ≡ None = slice_get_past s.nodes i (omega (arith, more.1)) in
        let f : is_a s p_struct i ≡ false = ap (λ (o : Option SyntaxNode). production_of o == p_struct) past in
        absurd (cc)
  ]

  module _ (t : Tags) (tags : AreTags s t) where
    -- the number of a specifier's tag is one of the tags
    number_below : (i : ℕ) → is_a s p_struct i ≡ true → tag_of s i < t.count
    number_below i is =
        tags.below (tag_declared s i) (any_here (λ j. is_a s p_struct j && (tag_declared s j == tag_declared s i)) (length s.nodes) i (is_node i is) (both (is_a s p_struct i) (tag_declared s i == tag_declared s i) is (same_number (tag_declared s i))))

    first_of : (n : ℕ) → n < t.count → first_specifier s n ≡ Some (slice_index t.firsts.items n)
    first_of n h =
        let f = slice_index t.firsts.items n in
        let (is, here) = tags.firsts_are n h in
        let inside : f < length s.nodes = is_node f is in
        let own : (tag_of s f == n) ≡ true = ap (λ (k : ℕ). k == n) here ∙ same_number n in
        first_least (is_of_tag s n) 0 (length s.nodes) f (omega arith) (omega (arith, inside)) (both (is_a s p_struct f) (tag_of s f == n) is own)
        (λ i below passes.
        let struct = and_first (is_a s p_struct i) (tag_of s i == n) passes in
        let second = and_second (is_a s p_struct i) (tag_of s i == n) passes in
        let same : tag_of s i ≡ n = grind (arith, nat_tests, second) in
        let least : slice_index t.firsts.items (tag_of s i) ≤ i = tags.least i (omega (arith, below)) struct in
        subst (λ (k : ℕ). slice_index t.firsts.items k ≤ i) same least)

-- each tag of a unit has its type under its number
pub opened_types : (numbered : Numbered) (uses : List (ℕ × ℕ)) (table : Table) → AreTags (source_in numbered.syntax uses) numbered.tags → IsOpened numbered table → table.tags ≡ numbered.tags.count → HasTagTypes (source_in numbered.syntax uses) table
opened_types numbered uses table tags opened count = record {
  each = λ i is.
      let s = source_in numbered.syntax uses in
      let n = tag_of s i in
      let below : n < numbered.tags.count = number_below s numbered.tags tags i is in
      let inside : n < table.tags = omega (arith, below, count) in
      let first : is_tag_union numbered n ≡ first_is_union s n = sym (ap (union_by s) (first_of s numbered.tags tags n below)) in
      stands_here table n (first_is_union s n) (omega (arith, inside, opened.count)) (opened.types n inside ∙ ap (λ (u : Bool). tagged u n) first);
}

-- two tags have two types
one_tag : (a b : Bool) (i j : ℕ) → tagged a i ≡ tagged b j → i ≡ j
one_tag true true i j e = cc
one_tag true false i j e = cc
one_tag false true i j e = cc
one_tag false false i j e = cc

pub opened_once : (numbered : Numbered) (table : Table) → IsOpened numbered table → HasOnce table
opened_once numbered table opened = record {
  each = λ i j first second e.
      let at_first = opened.types i (omega (arith, first, opened.count)) in
      let at_second = opened.types j (omega (arith, second, opened.count)) in
      one_tag (is_tag_union numbered i) (is_tag_union numbered j) i j (sym at_first ∙ (e ∙ at_second));
}
