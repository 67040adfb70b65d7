-- How many nodes of a production a row brings at most.
use Rattle.std.proofs.Common.{arith, ◌≡◌, ◌≤◌, ◌+◌, ℕ, zero, suc, nat_eq, not, Bool, true, false, ◌&&◌, ◌||◌, List, [], ◌∷◌, ◌++◌, Some, slice_get, refl, sym, ap, ◌∙◌, subst, ◌⊎◌, inl, inr}
use Rattle.std.specs.Prelude.{nat_le, slice_index_or, if◌then◌else◌}
use Rattle.c_lexer.specs.declared.TokenKind.{TokenKind}
use Rattle.c_grammar.specs.declared.rows.Item.{Item}
use Rattle.c_grammar.specs.declared.rows.Item.TheVariants as item
use Rattle.c_grammar.specs.Table.{table, row, item_of}
use Rattle.c_grammar.specs.Terminals.{contains}
use Rattle.c_grammar.specs.Tree.{makes_node}
use Rattle.c_grammar.specs.Reads.{leaf}
use Rattle.core_node_laws.specs.count_laws.passed.parsed_tree_laws.sign_parts.Parts.{Mark, leaf_mark, Brings, ended, token, use_of, choice, again, enough, scope, Part, own_node, own_row}

pub left : (a b : Bool) → (a && b) ≡ true → a ≡ true
left true b e = refl
left false b e = cc

pub right : (a b : Bool) → (a && b) ≡ true → b ≡ true
right true b e = e
right false b e = cc

le_is : (a b : ℕ) → nat_le a b ≡ true → a ≤ b
le_is a b h = grind (arith, h)

-- the items from a place on
abbrev from : ℕ → List Item → List Item
from k [] = []
from zero (x ∷ xs) = x ∷ xs
from (suc k) (x ∷ xs) = from k xs

from_start : (l : List Item) → from 0 l ≡ l
from_start [] = refl
from_start (x ∷ xs) = refl

from_next : (l : List Item) (k : ℕ) (x : Item) → slice_get l k ≡ Some x → from k l ≡ x ∷ from (suc k) l
from_next [] k x e = cc
from_next (y ∷ l) zero x e = let same : y ≡ x = cc in ap (λ (z : Item). z ∷ l) same ∙ ap (λ (r : List Item). x ∷ r) (sym (from_start l))
from_next (y ∷ l) (suc k) x e = from_next l k x e

module _ (kind : ℕ) (ones many : List ℕ) where
  -- how many a production brings at most where it stands, and how many its row does
  abbrev most : ℕ → ℕ
  most p = if contains ones p then 1 else 0

  abbrev one_if_kind : ℕ → ℕ
  one_if_kind q = if nat_eq q kind then 1 else 0

  abbrev few : ℕ → ℕ
  few q = if makes_node q then one_if_kind q else most q

  abbrev not_many : ℕ → Bool
  not_many q = makes_node q || not (contains many q)

  abbrev few_in : List Item → ℕ
  few_in [] = 0
  few_in (item.Token k ∷ rest) = few_in rest
  few_in (item.Use q ∷ rest) = few q + few_in rest
  few_in (item.Choice a b ∷ rest) = (few a + few b) + few_in rest
  few_in (item.Repeat q ∷ rest) = few_in rest
  few_in (item.Scope n ∷ rest) = few_in rest

  abbrev plain : List Item → Bool
  plain [] = true
  plain (item.Token k ∷ rest) = plain rest
  plain (item.Use q ∷ rest) = not_many q && plain rest
  plain (item.Choice a b ∷ rest) = (not_many a && not_many b) && plain rest
  plain (item.Repeat q ∷ rest) = (not_many q && nat_le (few q) 0) && plain rest
  plain (item.Scope n ∷ rest) = plain rest

  abbrev pub fine : ℕ → List Item → Bool
  fine p items = contains many p || (plain items && nat_le (few_in items) (most p))

  abbrev pub all_fine : ℕ → List (List Item) → Bool
  all_fine p [] = true
  all_fine p (items ∷ rest) = fine p items && all_fine (suc p) rest

  abbrev pub count : List Mark → ℕ
  count [] = 0
  count (m ∷ ms) = one_if_kind m.production + count ms

  pub count_both : (xs ys : List Mark) → count (xs ++ ys) ≡ count xs + count ys
  count_both [] ys = omega arith
  count_both (x ∷ xs) ys = let h = count_both xs ys in omega (arith, h)

  module _ (checked : all_fine 0 table ≡ true) (other : nat_eq leaf kind ≡ false) (T : ℕ → TokenKind → ℕ → Type 0) where
    fine_from : (p : ℕ) (rows : List (List Item)) (k : ℕ) (items : List Item) → all_fine p rows ≡ true → slice_get rows k ≡ Some items → fine (p + k) items ≡ true
    fine_from p [] k items h e = cc
    fine_from p (x ∷ rows) zero items h e =
        let same : x ≡ items = cc in
        let zero_more : p ≡ p + 0 = omega arith in
        subst (λ (q : ℕ). fine q items ≡ true) zero_more (subst (λ (l : List Item). fine p l ≡ true) same (left (fine p x) (all_fine (suc p) rows) h))
    fine_from p (x ∷ rows) (suc k) items h e =
        let more : suc p + k ≡ p + suc k = omega arith in
        subst (λ (q : ℕ). fine q items ≡ true) more (fine_from (suc p) rows k items (right (fine p x) (all_fine (suc p) rows) h) e)

    items_there : (rows : List (List Item)) (p : ℕ) (i : Item) (items : List Item) → slice_index_or rows p [] ≡ i ∷ items → slice_get rows p ≡ Some (i ∷ items)
    items_there [] p i items e = cc
    items_there (x ∷ rows) zero i items e = ap (λ (l : List Item). Some l) e
    items_there (x ∷ rows) (suc p) i items e = items_there rows p i items e

    row_fine : (p : ℕ) (i : Item) (items : List Item) → row p ≡ i ∷ items → fine p (i ∷ items) ≡ true
    unfolding row
    row_fine p i items e =
        let none : 0 + p ≡ p = omega arith in
        subst (λ (q : ℕ). fine q (i ∷ items) ≡ true) none (fine_from 0 table p (i ∷ items) checked (items_there table p i items e))

    record Few (p : ℕ) : Type 0 where
      is_plain : plain (row p) ≡ true
      at_most : few_in (row p) ≤ most p

    or_false : (a b : Bool) → a ≡ false → (a || b) ≡ true → b ≡ true
    or_false true b e h = cc
    or_false false b e h = h

    row_few : (p : ℕ) → contains many p ≡ false → Few p
    row_few p out = by (row p) refl
      where
        by : (l : List Item) → row p ≡ l → Few p
        by [] e = record { is_plain = ap plain e; at_most = subst (λ (l : List Item). few_in l ≤ most p) (sym e) (omega arith) }
        by (i ∷ items) e =
            let h = or_false (contains many p) _ out (row_fine p i items e) in
            record {
              is_plain = ap plain e ∙ left (plain (i ∷ items)) (nat_le (few_in (i ∷ items)) (most p)) h;
              at_most = subst (λ (l : List Item). few_in l ≤ most p) (sym e) (le_is (few_in (i ∷ items)) (most p) (right (plain (i ∷ items)) (nat_le (few_in (i ∷ items)) (most p)) h));
            }

    next : (p at : ℕ) (x : Item) → item_of p at ≡ Some x → from at (row p) ≡ x ∷ from (at + 1) (row p)
    unfolding item_of
    next p at x e = let more : suc at ≡ at + 1 = omega arith in from_next (row p) at x e ∙ ap (λ (k : ℕ). x ∷ from k (row p)) more

    is_zero : (n : ℕ) → nat_le n 0 ≡ true → n ≤ 0
    is_zero n h = le_is n 0 h

    no_leaf : (place : ℕ) → one_if_kind (leaf_mark place).production ≡ 0
    no_leaf place = ap (λ (b : Bool). if b then 1 else 0) other

    few_node : (q : ℕ) → makes_node q ≡ true → few q ≡ one_if_kind q
    few_node q h = ap (λ (b : Bool). if b then one_if_kind q else most q) h

    few_row : (q : ℕ) → makes_node q ≡ false → few q ≡ most q
    few_row q h = ap (λ (b : Bool). if b then one_if_kind q else most q) h

    none_many : (q : ℕ) → makes_node q ≡ false → not_many q ≡ true → contains many q ≡ false
    none_many q h k = by (makes_node q) (contains many q) refl h k
      where
        by : (a b : Bool) → contains many q ≡ b → a ≡ false → (a || not b) ≡ true → contains many q ≡ false
        by true b e h k = cc
        by false true e h k = cc
        by false false e h k = e

    mutual
      pub brings_few : (p at : ℕ) (zs : List Mark) → Brings T p at zs → plain (from at (row p)) ≡ true → count zs ≤ few_in (from at (row p))
      brings_few p at zs (ended h e) ok = let none : count zs ≡ 0 = ap count e in omega (arith, none)
      brings_few p at zs (token {place = place} {k = k} {ys = ys} h takes e b) ok =
          let list = next p at (item.Token k) h in
          let rest = brings_few p (at + 1) ys b (subst (λ (l : List Item). plain l ≡ true) list ok) in
          let is : few_in (from at (row p)) ≡ few_in (from (at + 1) (row p)) = ap few_in list in
          let zero_one = no_leaf place in
          let made : count zs ≡ one_if_kind (leaf_mark place).production + count ys = ap count e in
          omega (arith, rest, is, zero_one, made)
      brings_few p at zs (use_of {q = q} {xs = xs} {ys = ys} h e x b) ok =
          let list = next p at (item.Use q) h in
          let good = subst (λ (l : List Item). plain l ≡ true) list ok in
          let rest = brings_few p (at + 1) ys b (right (not_many q) (plain (from (at + 1) (row p))) good) in
          let own = part_few q xs x (left (not_many q) (plain (from (at + 1) (row p))) good) in
          let is : few_in (from at (row p)) ≡ few q + few_in (from (at + 1) (row p)) = ap few_in list in
          let made : count zs ≡ count xs + count ys = ap count e ∙ count_both xs ys in
          omega (arith, rest, own, is, made)
      brings_few p at zs (choice {a = a} {b = c} {q = q} {xs = xs} {ys = ys} h o e x b) ok =
          let list = next p at (item.Choice a c) h in
          let good = subst (λ (l : List Item). plain l ≡ true) list ok in
          let rest = brings_few p (at + 1) ys b (right (not_many a && not_many c) (plain (from (at + 1) (row p))) good) in
          let both = left (not_many a && not_many c) (plain (from (at + 1) (row p))) good in
          let own = part_few q xs x (pick a c q o both) in
          let some = most_of a c q o in
          let is : few_in (from at (row p)) ≡ (few a + few c) + few_in (from (at + 1) (row p)) = ap few_in list in
          let made : count zs ≡ count xs + count ys = ap count e ∙ count_both xs ys in
          omega (arith, rest, own, some, is, made)
        where
          pick : (a c q : ℕ) → (a ≡ q) ⊎ (c ≡ q) → (not_many a && not_many c) ≡ true → not_many q ≡ true
          pick a c q (inl f) g = subst (λ (k : ℕ). not_many k ≡ true) f (left (not_many a) (not_many c) g)
          pick a c q (inr f) g = subst (λ (k : ℕ). not_many k ≡ true) f (right (not_many a) (not_many c) g)

          most_of : (a c q : ℕ) → (a ≡ q) ⊎ (c ≡ q) → few q ≤ few a + few c
          most_of a c q (inl f) = let same : few a ≡ few q = ap few f in omega (arith, same)
          most_of a c q (inr f) = let same : few c ≡ few q = ap few f in omega (arith, same)
      brings_few p at zs (again {q = q} {xs = xs} {ys = ys} h e x b) ok =
          let list = next p at (item.Repeat q) h in
          let good = subst (λ (l : List Item). plain l ≡ true) list ok in
          let both = left (not_many q && nat_le (few q) 0) (plain (from (at + 1) (row p))) good in
          let rest = brings_few p at ys b ok in
          let own = part_few q xs x (left (not_many q) (nat_le (few q) 0) both) in
          let none = is_zero (few q) (right (not_many q) (nat_le (few q) 0) both) in
          let made : count zs ≡ count xs + count ys = ap count e ∙ count_both xs ys in
          omega (arith, rest, own, none, made)
      brings_few p at zs (enough {q = q} h b) ok =
          let list = next p at (item.Repeat q) h in
          let good = subst (λ (l : List Item). plain l ≡ true) list ok in
          let rest = brings_few p (at + 1) zs b (right (not_many q && nat_le (few q) 0) (plain (from (at + 1) (row p))) good) in
          let is : few_in (from at (row p)) ≡ few_in (from (at + 1) (row p)) = ap few_in list in
          omega (arith, rest, is)
      brings_few p at zs (scope {n = n} h b) ok =
          let list = next p at (item.Scope n) h in
          let rest = brings_few p (at + 1) zs b (subst (λ (l : List Item). plain l ≡ true) list ok) in
          let is : few_in (from at (row p)) ≡ few_in (from (at + 1) (row p)) = ap few_in list in
          omega (arith, rest, is)

      pub part_few : (q : ℕ) (zs : List Mark) → Part T q zs → not_many q ≡ true → count zs ≤ few q
      part_few q zs (own_node {place = place} h e) ok =
          let made : count zs ≡ one_if_kind q + 0 = ap count e in
          let is = few_node q h in
          omega (arith, made, is)
      part_few q zs (own_row h b) ok =
          let f = row_few q (none_many q h ok) in
          let start = from_start (row q) in
          let own = brings_few q 0 zs b (ap plain start ∙ f.is_plain) in
          let is : few_in (from 0 (row q)) ≡ few_in (row q) = ap few_in start in
          let top = few_row q h in
          let last = f.at_most in
          omega (arith, own, is, top, last)

    -- what the whole row of a production brings
    pub row_brings_few : (p : ℕ) (zs : List Mark) → Brings T p 0 zs → contains many p ≡ false → count zs ≤ most p
    row_brings_few p zs b out =
        let f = row_few p out in
        let start = from_start (row p) in
        let own = brings_few p 0 zs b (ap plain start ∙ f.is_plain) in
        let is : few_in (from 0 (row p)) ≡ few_in (row p) = ap few_in start in
        let last = f.at_most in
        omega (arith, own, is, last)
