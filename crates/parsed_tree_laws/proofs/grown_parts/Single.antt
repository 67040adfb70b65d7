-- Productions of which a node has one part at most.
use Rattle.std.proofs.Common.{◌≡◌, ℕ, ◌+◌, ◌==◌, ◌⊎◌, inl, inr, nat_eq, Bool, true, false, ◌&&◌, ◌||◌, not, cond, List, [], ◌∷◌, ◌++◌, drop, map, Some, refl, sym, ◌∙◌, subst}
use Rattle.std.specs.Prelude.{⊤}
use Rattle.std.proofs.lemmas.Bool.{eqb-true}
use Rattle.c_grammar.specs.declared.rows.Item.{Item}
use Rattle.c_grammar.specs.declared.rows.Item.TheVariants as item
use Rattle.c_grammar.specs.Table.{table, row, item_of}
use Rattle.c_grammar.specs.Tree.{makes_node}
use Rattle.c_grammar.specs.Terminals.{contains}
use Rattle.c_grammar.specs.Reads.{leaf}
use Rattle.parsed_tree_laws.proofs.placed_laws.Rows.{left, right, from_item}
use Rattle.parsed_tree_laws.specs.grown_parts.Parts.{Brings, ended, token, use_of, choice, again, enough, scope, Part, own_node, own_row}

-- none of that production, and one at most
abbrev pub HasNone : ℕ → List ℕ → Type 0
HasNone q [] = ⊤
HasNone q (z ∷ zs) = ((z == q) ≡ false) × HasNone q zs

abbrev pub AtMostOne : ℕ → List ℕ → Type 0
AtMostOne q [] = ⊤
AtMostOne q (z ∷ zs) = (((z == q) ≡ false) × AtMostOne q zs) ⊎ HasNone q zs

none_append : (q : ℕ) (xs ys : List ℕ) → HasNone q xs → HasNone q ys → HasNone q (xs ++ ys)
none_append q [] ys h k = k
none_append q (x ∷ xs) ys h k = (h.0, none_append q xs ys h.1 k)

one_before : (q : ℕ) (xs ys : List ℕ) → AtMostOne q xs → HasNone q ys → AtMostOne q (xs ++ ys)
one_before q [] ys h k = few q ys k
  where
    few : (q : ℕ) (zs : List ℕ) → HasNone q zs → AtMostOne q zs
    few q [] n = tt
    few q (z ∷ zs) n = inr n.1
one_before q (x ∷ xs) ys (inl h) k = inl (h.0, one_before q xs ys h.1 k)
one_before q (x ∷ xs) ys (inr h) k = inr (none_append q xs ys h k)

one_behind : (q : ℕ) (xs ys : List ℕ) → HasNone q xs → AtMostOne q ys → AtMostOne q (xs ++ ys)
one_behind q [] ys h k = k
one_behind q (x ∷ xs) ys h k = inl (h.0, one_behind q xs ys h.1 k)

-- what items bring, by two lists of productions without a node: those that bring none, and those that bring one at most
module _ (q : ℕ) (nones ones : List ℕ) where
  abbrev pub part_none : ℕ → Bool
  part_none z = cond (makes_node z) (not (z == q)) (contains nones z)

  abbrev pub item_none : Item → Bool
  item_none (item.Token k) = true
  item_none (item.Use z) = part_none z
  item_none (item.Choice a b) = part_none a && part_none b
  item_none (item.Repeat z) = part_none z
  item_none (item.Scope n) = true

  abbrev pub all_none : List Item → Bool
  all_none [] = true
  all_none (i ∷ items) = item_none i && all_none items

  abbrev pub part_one : ℕ → Bool
  part_one z = cond (makes_node z) true (contains ones z)

  abbrev pub item_one : Item → Bool
  item_one (item.Use z) = part_one z
  item_one (item.Choice a b) = part_one a && part_one b
  item_one i = false

  abbrev pub at_most : List Item → Bool
  at_most [] = true
  at_most (i ∷ items) = (item_none i && at_most items) || (item_one i && all_none items)

  abbrev pub rows_pass : (List Item → Bool) → List ℕ → Bool
  rows_pass test [] = true
  rows_pass test (p ∷ more) = test (row p) && rows_pass test more

  row_passes : (test : List Item → Bool) (list : List ℕ) (p : ℕ) → rows_pass test list ≡ true → contains list p ≡ true → test (row p) ≡ true
  row_passes test [] p h c = cc
  row_passes test (x ∷ list) p h c = by (nat_eq x p) refl c (λ k. row_passes test list p (right (test (row x)) (rows_pass test list) h) k)
    where
      by : (b : Bool) → nat_eq x p ≡ b → (b || contains list p) ≡ true → (contains list p ≡ true → test (row p) ≡ true) → test (row p) ≡ true
      by true same k later = subst (λ (y : ℕ). test (row y) ≡ true) (eqb-true x p same) (left (test (row x)) (rows_pass test list) h)
      by false other k later = later k

  module _ (is_leaf : (leaf == q) ≡ false) (none_rows : rows_pass all_none nones ≡ true) (one_rows : rows_pass at_most ones ≡ true) where
    not_it : (b : Bool) → not b ≡ true → b ≡ false
    not_it true h = cc
    not_it false h = refl

    when : (b : Bool) (x y : Bool) → b ≡ true → cond b x y ≡ true → x ≡ true
    when true x y e h = h
    when false x y e h = cc

    unless : (b : Bool) (x y : Bool) → b ≡ false → cond b x y ≡ true → y ≡ true
    unless true x y e h = cc
    unless false x y e h = h

    pick : (a b x : ℕ) (test : ℕ → Bool) → (a ≡ x) ⊎ (b ≡ x) → (test a && test b) ≡ true → test x ≡ true
    pick a b x test (inl e) h = subst (λ (z : ℕ). test z ≡ true) e (left (test a) (test b) h)
    pick a b x test (inr e) h = subst (λ (z : ℕ). test z ≡ true) e (right (test a) (test b) h)

    abbrev NoneFrom : ℕ → ℕ → Type 0
    NoneFrom p at = all_none (drop at (row p)) ≡ true

    first_none : (p at : ℕ) (i : Item) → item_of p at ≡ Some i → NoneFrom p at → (item_none i ≡ true) × NoneFrom p (at + 1)
    first_none p at i is h =
        let k : (item_none i && all_none (drop (at + 1) (row p))) ≡ true = subst (λ (l : List Item). all_none l ≡ true) (from_item p at i is) h in
        (left (item_none i) (all_none (drop (at + 1) (row p))) k, right (item_none i) (all_none (drop (at + 1) (row p))) k)

    mutual
      brings_none : (p at : ℕ) (zs : List ℕ) → Brings p at zs → NoneFrom p at → HasNone q zs
      brings_none p at zs (ended h e) k = subst (HasNone q) (sym e) tt
      brings_none p at zs (token {k = t} {ys = ys} h e b) k = let f = first_none p at (item.Token t) h k in subst (HasNone q) (sym e) (is_leaf, brings_none p (at + 1) ys b f.1)
      brings_none p at zs (use_of {q = z} {xs = xs} {ys = ys} h e x b) k =
          let f = first_none p at (item.Use z) h k in subst (HasNone q) (sym e) (none_append q xs ys (part_nones z xs x f.0) (brings_none p (at + 1) ys b f.1))
      brings_none p at zs (choice {a = a} {b = c} {q = z} {xs = xs} {ys = ys} h o e x b) k =
          let f = first_none p at (item.Choice a c) h k in subst (HasNone q) (sym e) (none_append q xs ys (part_nones z xs x (pick a c z part_none o f.0)) (brings_none p (at + 1) ys b f.1))
      brings_none p at zs (again {q = z} {xs = xs} {ys = ys} h e x b) k =
          let f = first_none p at (item.Repeat z) h k in subst (HasNone q) (sym e) (none_append q xs ys (part_nones z xs x f.0) (brings_none p at ys b k))
      brings_none p at zs (enough {q = z} h b) k = brings_none p (at + 1) zs b (first_none p at (item.Repeat z) h k).1
      brings_none p at zs (scope {n = n} h b) k = brings_none p (at + 1) zs b (first_none p at (item.Scope n) h k).1

      part_nones : (z : ℕ) (zs : List ℕ) → Part z zs → part_none z ≡ true → HasNone q zs
      part_nones z zs (own_node m e) k = subst (HasNone q) (sym e) (not_it (z == q) (when (makes_node z) (not (z == q)) (contains nones z) m k), tt)
      part_nones z zs (own_row m b) k = brings_none z 0 zs b (row_passes all_none nones z none_rows (unless (makes_node z) (not (z == q)) (contains nones z) m k))

    abbrev OneFrom : ℕ → ℕ → Type 0
    OneFrom p at = at_most (drop at (row p)) ≡ true

    either : (a b c d : Bool) → ((a && b) || (c && d)) ≡ true → ((a ≡ true) × (b ≡ true)) ⊎ ((c ≡ true) × (d ≡ true))
    either true true c d h = inl (refl, refl)
    either true false c d h = inr (left c d h, right c d h)
    either false b c d h = inr (left c d h, right c d h)

    first_one : (p at : ℕ) (i : Item) → item_of p at ≡ Some i → OneFrom p at → ((item_none i ≡ true) × OneFrom p (at + 1)) ⊎ ((item_one i ≡ true) × NoneFrom p (at + 1))
    first_one p at i is h =
        either (item_none i) (at_most (drop (at + 1) (row p))) (item_one i) (all_none (drop (at + 1) (row p))) (subst (λ (l : List Item). at_most l ≡ true) (from_item p at i is) h)

    mutual
      pub brings_one : (p at : ℕ) (zs : List ℕ) → Brings p at zs → OneFrom p at → AtMostOne q zs
      brings_one p at zs (ended h e) k = subst (AtMostOne q) (sym e) tt
      brings_one p at zs (token {k = t} {ys = ys} h e b) k = elim (first_one p at (item.Token t) h k) [
        | inl f ↦ subst (AtMostOne q) (sym e) (inl (is_leaf, brings_one p (at + 1) ys b f.1))
        | inr f ↦ absurd (let no : false ≡ true = f.0 in cc)
      ]
      brings_one p at zs (use_of {q = z} {xs = xs} {ys = ys} h e x b) k = elim (first_one p at (item.Use z) h k) [
        | inl f ↦ subst (AtMostOne q) (sym e) (one_behind q xs ys (part_nones z xs x f.0) (brings_one p (at + 1) ys b f.1))
        | inr f ↦ subst (AtMostOne q) (sym e) (one_before q xs ys (part_ones z xs x f.0) (brings_none p (at + 1) ys b f.1))
      ]
      brings_one p at zs (choice {a = a} {b = c} {q = z} {xs = xs} {ys = ys} h o e x b) k = elim (first_one p at (item.Choice a c) h k) [
        | inl f ↦ subst (AtMostOne q) (sym e) (one_behind q xs ys (part_nones z xs x (pick a c z part_none o f.0)) (brings_one p (at + 1) ys b f.1))
        | inr f ↦ subst (AtMostOne q) (sym e) (one_before q xs ys (part_ones z xs x (pick a c z part_one o f.0)) (brings_none p (at + 1) ys b f.1))
      ]
      brings_one p at zs (again {q = z} {xs = xs} {ys = ys} h e x b) k = elim (first_one p at (item.Repeat z) h k) [
        | inl f ↦ subst (AtMostOne q) (sym e) (one_behind q xs ys (part_nones z xs x f.0) (brings_one p at ys b k))
        | inr f ↦ absurd (let no : false ≡ true = f.0 in cc)
      ]
      brings_one p at zs (enough {q = z} h b) k = elim (first_one p at (item.Repeat z) h k) [
        | inl f ↦ brings_one p (at + 1) zs b f.1
        | inr f ↦ absurd (let no : false ≡ true = f.0 in cc)
      ]
      brings_one p at zs (scope {n = n} h b) k = elim (first_one p at (item.Scope n) h k) [
        | inl f ↦ brings_one p (at + 1) zs b f.1
        | inr f ↦ absurd (let no : false ≡ true = f.0 in cc)
      ]

      part_ones : (z : ℕ) (zs : List ℕ) → Part z zs → part_one z ≡ true → AtMostOne q zs
      part_ones z zs (own_node m e) k = subst (AtMostOne q) (sym e) (inr tt)
      part_ones z zs (own_row m b) k = brings_one z 0 zs b (row_passes at_most ones z one_rows (unless (makes_node z) true (contains ones z) m k))

-- two parts of that production are one
no_part : (f : ℕ → ℕ) (q : ℕ) (ks : List ℕ) (c : ℕ) → HasNone q (map f ks) → contains ks c ≡ true → (f c == q) ≡ true → ⊥
no_part f q [] c none h is = cc
no_part f q (k ∷ ks) c none h is = by (nat_eq k c) refl h (λ m. no_part f q ks c none.1 m is)
  where
    by : (b : Bool) → nat_eq k c ≡ b → (b || contains ks c) ≡ true → (contains ks c ≡ true → ⊥) → ⊥
    by true same m later = let no : (f c == q) ≡ false = subst (λ (x : ℕ). (f x == q) ≡ false) (eqb-true k c same) none.0 in let g : true ≡ false = sym is ∙ no in cc
    by false other m later = later m

pub sole : (f : ℕ → ℕ) (q : ℕ) (ks : List ℕ) (c d : ℕ) → AtMostOne q (map f ks) → contains ks c ≡ true → contains ks d ≡ true → (f c == q) ≡ true → (f d == q) ≡ true → c ≡ d
sole f q [] c d one h k is also = cc
sole f q (x ∷ ks) c d (inl later) h k is also = sole f q ks c d later.1 (behind c h is) (behind d k also) is also
  where
    behind : (e : ℕ) → (nat_eq x e || contains ks e) ≡ true → (f e == q) ≡ true → contains ks e ≡ true
    behind e m it = by (nat_eq x e) refl m
      where
        by : (b : Bool) → nat_eq x e ≡ b → (b || contains ks e) ≡ true → contains ks e ≡ true
        by true same n = absurd (let no : (f e == q) ≡ false = subst (λ (y : ℕ). (f y == q) ≡ false) (eqb-true x e same) later.0 in let g : true ≡ false = sym it ∙ no in cc)
        by false other n = n
sole f q (x ∷ ks) c d (inr none) h k is also = sym (here c h is) ∙ here d k also
  where
    here : (e : ℕ) → (nat_eq x e || contains ks e) ≡ true → (f e == q) ≡ true → x ≡ e
    here e m it = by (nat_eq x e) refl m
      where
        by : (b : Bool) → nat_eq x e ≡ b → (b || contains ks e) ≡ true → x ≡ e
        by true same n = eqb-true x e same
        by false other n = absurd (no_part f q ks e none n it)

-- 6.5.2.5: a cast and a unary expression have one list of a compound literal at most
abbrev no_list : List ℕ
no_list = 48 ∷ 208 ∷ 209 ∷ 211 ∷ 218 ∷ 219 ∷ 220 ∷ 221 ∷ 222 ∷ 223 ∷ 224 ∷ 225 ∷ 226 ∷ 227 ∷ 228 ∷ []

abbrev one_list : List ℕ
one_list = 48 ∷ 216 ∷ 217 ∷ 229 ∷ 230 ∷ 231 ∷ 232 ∷ 233 ∷ 234 ∷ 235 ∷ []

no_lists : rows_pass 26 no_list one_list (all_none 26 no_list one_list) no_list ≡ true
unfolding table row makes_node
no_lists = refl

one_lists : rows_pass 26 no_list one_list (at_most 26 no_list one_list) one_list ≡ true
unfolding table row makes_node
one_lists = refl

pub cast_list : (zs : List ℕ) → Brings 44 0 zs → AtMostOne 26 zs
unfolding table row makes_node
cast_list zs b = brings_one 26 no_list one_list refl no_lists one_lists 44 0 zs b refl

pub unary_list : (zs : List ℕ) → Brings 45 0 zs → AtMostOne 26 zs
unfolding table row makes_node
unary_list zs b = brings_one 26 no_list one_list refl no_lists one_lists 45 0 zs b refl
