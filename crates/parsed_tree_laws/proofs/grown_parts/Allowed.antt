-- Which productions the parts of a node have.
use Rattle.std.proofs.Common.{◌≡◌, ℕ, ◌+◌, ◌⊎◌, inl, inr, nat_eq, Bool, true, false, ◌&&◌, ◌||◌, cond, List, [], ◌∷◌, drop, Some, refl, sym, subst}
use Rattle.std.proofs.lemmas.Bool.{eqb-true}
use Rattle.c_grammar.specs.declared.rows.Item.{Item}
use Rattle.c_grammar.specs.declared.rows.Item.TheVariants as item
use Rattle.c_grammar.specs.Table.{table, row, item_of}
use Rattle.c_grammar.specs.Tree.{makes_node}
use Rattle.c_grammar.specs.Terminals.{contains}
use Rattle.c_grammar.specs.Reads.{leaf}
use Rattle.parsed_tree_laws.proofs.placed_laws.Rows.{left, right, from_item}
use Rattle.parsed_tree_laws.specs.grown_parts.Parts.{Brings, ended, token, use_of, choice, again, enough, scope, Part, own_node, own_row}
use Rattle.parsed_tree_laws.proofs.grown_parts.Declaring.{AllIn, in_append}

module _ (allowed rows : List ℕ) where
  abbrev pub part_in : ℕ → Bool
  part_in z = cond (makes_node z) (contains allowed z) (contains rows z)

  abbrev pub item_in : Item → Bool
  item_in (item.Token k) = true
  item_in (item.Use z) = part_in z
  item_in (item.Choice a b) = part_in a && part_in b
  item_in (item.Repeat z) = part_in z
  item_in (item.Scope n) = true

  abbrev pub items_in : List Item → Bool
  items_in [] = true
  items_in (i ∷ items) = item_in i && items_in items

  abbrev pub rows_in : List ℕ → Bool
  rows_in [] = true
  rows_in (p ∷ more) = items_in (row p) && rows_in more

  row_in : (list : List ℕ) (p : ℕ) → rows_in list ≡ true → contains list p ≡ true → items_in (row p) ≡ true
  row_in [] p h c = cc
  row_in (x ∷ list) p h c = by (nat_eq x p) refl c (λ k. row_in list p (right (items_in (row x)) (rows_in list) h) k)
    where
      by : (b : Bool) → nat_eq x p ≡ b → (b || contains list p) ≡ true → (contains list p ≡ true → items_in (row p) ≡ true) → items_in (row p) ≡ true
      by true same k later = subst (λ (y : ℕ). items_in (row y) ≡ true) (eqb-true x p same) (left (items_in (row x)) (rows_in list) h)
      by false other k later = later k

  when : (b x y : Bool) → b ≡ true → cond b x y ≡ true → x ≡ true
  when true x y e h = h
  when false x y e h = cc

  unless : (b x y : Bool) → b ≡ false → cond b x y ≡ true → y ≡ true
  unless true x y e h = cc
  unless false x y e h = h

  pick : (a b x : ℕ) → (a ≡ x) ⊎ (b ≡ x) → (part_in a && part_in b) ≡ true → part_in x ≡ true
  pick a b x (inl e) h = subst (λ (z : ℕ). part_in z ≡ true) e (left (part_in a) (part_in b) h)
  pick a b x (inr e) h = subst (λ (z : ℕ). part_in z ≡ true) e (right (part_in a) (part_in b) h)

  abbrev From : ℕ → ℕ → Type 0
  From p at = items_in (drop at (row p)) ≡ true

  first_in : (p at : ℕ) (i : Item) → item_of p at ≡ Some i → From p at → (item_in i ≡ true) × From p (at + 1)
  first_in p at i is h =
      let k : (item_in i && items_in (drop (at + 1) (row p))) ≡ true = subst (λ (l : List Item). items_in l ≡ true) (from_item p at i is) h in
      (left (item_in i) (items_in (drop (at + 1) (row p))) k, right (item_in i) (items_in (drop (at + 1) (row p))) k)

  module _ (leaf_in : contains allowed leaf ≡ true) (all_rows : rows_in rows ≡ true) where
    mutual
      pub brings_in : (p at : ℕ) (zs : List ℕ) → Brings p at zs → From p at → AllIn allowed zs
      brings_in p at zs (ended h e) k = subst (AllIn allowed) (sym e) tt
      brings_in p at zs (token {k = t} {ys = ys} h e b) k = let f = first_in p at (item.Token t) h k in subst (AllIn allowed) (sym e) (leaf_in, brings_in p (at + 1) ys b f.1)
      brings_in p at zs (use_of {q = z} {xs = xs} {ys = ys} h e x b) k =
          let f = first_in p at (item.Use z) h k in subst (AllIn allowed) (sym e) (in_append allowed xs ys (parts_in z xs x f.0) (brings_in p (at + 1) ys b f.1))
      brings_in p at zs (choice {a = a} {b = c} {q = z} {xs = xs} {ys = ys} h o e x b) k =
          let f = first_in p at (item.Choice a c) h k in subst (AllIn allowed) (sym e) (in_append allowed xs ys (parts_in z xs x (pick a c z o f.0)) (brings_in p (at + 1) ys b f.1))
      brings_in p at zs (again {q = z} {xs = xs} {ys = ys} h e x b) k =
          let f = first_in p at (item.Repeat z) h k in subst (AllIn allowed) (sym e) (in_append allowed xs ys (parts_in z xs x f.0) (brings_in p at ys b k))
      brings_in p at zs (enough {q = z} h b) k = brings_in p (at + 1) zs b (first_in p at (item.Repeat z) h k).1
      brings_in p at zs (scope {n = n} h b) k = brings_in p (at + 1) zs b (first_in p at (item.Scope n) h k).1

      parts_in : (z : ℕ) (zs : List ℕ) → Part z zs → part_in z ≡ true → AllIn allowed zs
      parts_in z zs (own_node m e) k = subst (AllIn allowed) (sym e) (when (makes_node z) (contains allowed z) (contains rows z) m k, tt)
      parts_in z zs (own_row m b) k = brings_in z 0 zs b (row_in rows z all_rows (unless (makes_node z) (contains allowed z) (contains rows z) m k))

-- 6.7.6: a declarator has tokens, qualifiers, a declarator and suffixes
abbrev pub declarator_parts : List ℕ
declarator_parts = leaf ∷ 9 ∷ 19 ∷ 20 ∷ 21 ∷ 22 ∷ []

abbrev declarator_rows : List ℕ
declarator_rows = 48 ∷ 115 ∷ 116 ∷ 117 ∷ 118 ∷ 119 ∷ 120 ∷ []

declarators_in : rows_in declarator_parts declarator_rows declarator_rows ≡ true
unfolding table row makes_node
declarators_in = refl

pub declarator_list : (zs : List ℕ) → Brings 19 0 zs → AllIn declarator_parts zs
unfolding table row makes_node
declarator_list zs b = brings_in declarator_parts declarator_rows refl declarators_in 19 0 zs b refl

pub abstract_list : (zs : List ℕ) → Brings 20 0 zs → AllIn declarator_parts zs
unfolding table row makes_node
abstract_list zs b = brings_in declarator_parts declarator_rows refl declarators_in 20 0 zs b refl

pub either_list : (zs : List ℕ) → Brings 21 0 zs → AllIn declarator_parts zs
unfolding table row makes_node
either_list zs b = brings_in declarator_parts declarator_rows refl declarators_in 21 0 zs b refl
