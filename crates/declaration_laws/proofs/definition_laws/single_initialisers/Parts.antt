-- What the rows bring of initialisers, their lists, rests of declarations and declarators.
use Rattle.std.proofs.Common.{arith, ◌≡◌, ◌≤◌, ℕ, nat_eq, not, Bool, true, false, ◌&&◌, ◌||◌, List, [], ◌∷◌, ◌++◌, map, Option, Some, None, slice_get, eq-eqb, refl, sym, ap, ◌∙◌, subst, ◌⊎◌, inl, inr}
use Rattle.std.specs.Prelude.{if◌then◌else◌}
use Rattle.std.proofs.lemmas.Bool.{eqb-true}
use Rattle.c_lexer.specs.declared.TokenKind.{TokenKind}
use Rattle.c_grammar.specs.declared.trees.SyntaxNode.{SyntaxNode}
use Rattle.c_grammar.specs.Table.{table, row, item_of}
use Rattle.c_grammar.specs.Terminals.{contains}
use Rattle.c_grammar.specs.Tree.{makes_node}
use Rattle.c_grammar.specs.Reads.{leaf}
use Rattle.c_senses.specs.Tree.{Source, production_of, production_at, children_at}
use Rattle.core_node_laws.specs.count_laws.passed.parsed_tree_laws.sign_parts.Parts.{Mark, leaf_mark, Brings, Part, Takes, mark_of, mark_at, IsBrought}
use Rattle.core_node_laws.proofs.count_laws.passed.parsed_tree_laws.sign_parts.Rows.{of_end, of_token, of_use, of_choice, of_scope, of_node, of_row, all_repeated}
use Rattle.declaration_laws.proofs.definition_laws.single_initialisers.Counts.{all_fine, count, row_brings_few}

-- where initialisers, items of lists, rests of declarations and declarators stand
abbrev init_ones : List ℕ
init_ones = 27 ∷ 54 ∷ 55 ∷ []

abbrev init_many : List ℕ
init_many = 2 ∷ []

abbrev pub item_many : List ℕ
item_many = 26 ∷ 130 ∷ 131 ∷ []

abbrev rest_ones : List ℕ
rest_ones = 1 ∷ 3 ∷ 52 ∷ 56 ∷ 57 ∷ []

abbrev declarator_many : List ℕ
declarator_many = 1 ∷ 2 ∷ 3 ∷ 15 ∷ 19 ∷ 52 ∷ 55 ∷ 56 ∷ 57 ∷ 110 ∷ 117 ∷ []

inits_fine : all_fine 25 init_ones init_many 0 table ≡ true
unfolding table makes_node
inits_fine = refl

items_fine : all_fine 27 [] item_many 0 table ≡ true
unfolding table makes_node
items_fine = refl

rests_fine : all_fine 2 rest_ones [] 0 table ≡ true
unfolding table makes_node
rests_fine = refl

declarators_fine : all_fine 19 [] declarator_many 0 table ≡ true
unfolding table makes_node
declarators_fine = refl

inner_fine : all_fine 54 [] [] 0 table ≡ true
unfolding table makes_node
inner_fine = refl

outer_fine : all_fine 55 [] [] 0 table ≡ true
unfolding table makes_node
outer_fine = refl

pub member : (k x : ℕ) (ks : List ℕ) → contains (k ∷ ks) x ≡ true → (k ≡ x) ⊎ (contains ks x ≡ true)
member k x ks h = by (nat_eq k x) refl h
  where
    by : (b : Bool) → nat_eq k x ≡ b → (b || contains ks x) ≡ true → (k ≡ x) ⊎ (contains ks x ≡ true)
    by true e f = inl (eqb-true k x e)
    by false e f = inr f

eq_is : (a b : ℕ) → a ≡ b → nat_eq a b ≡ true
eq_is a b e = eq-eqb a b e

one_at_most : (b : Bool) → (if b then 1 else 0) ≤ 1
one_at_most true = omega arith
one_at_most false = omega arith

one_is : (b : Bool) → b ≡ true → 1 ≤ (if b then 1 else 0)
one_is true e = omega arith
one_is false e = cc

none_of : (b : Bool) → b ≡ false → (if b then 1 else 0) ≤ 0
none_of true e = cc
none_of false e = omega arith

no_rest : (q : ℕ) → contains (27 ∷ 54 ∷ 55 ∷ []) q ≡ true → contains (2 ∷ []) q ≡ false
no_rest q h = by (nat_eq 2 q) refl
  where
    by : (b : Bool) → nat_eq 2 q ≡ b → (b || contains [] q) ≡ false
    by true e = absurd (let bad : contains (27 ∷ 54 ∷ 55 ∷ []) 2 ≡ true = ap (contains (27 ∷ 54 ∷ 55 ∷ [])) (eqb-true 2 q e) ∙ h in cc)
    by false e = refl

-- ---- initialisers with a declarator between any two

abbrev pub apart : Bool → List Mark → Bool
apart b [] = true
apart b (m ∷ ms) = if nat_eq m.production 19 then apart false ms else if nat_eq m.production 25 then not b && apart true ms else apart b ms

pub differ : (m : ℕ) → m ≡ 19 → m ≡ 25 → ⊥
differ m e f = let h : nat_eq 19 25 ≡ true = eq_is 19 25 (sym e ∙ f) in cc

and_both : (a b : Bool) → (a && b) ≡ true → (a ≡ true) × (b ≡ true)
and_both true true e = (refl, refl)
and_both true false e = cc
and_both false b e = cc

-- what is said of the first of such a list
pub data First (b : Bool) (m : Mark) (ms : List Mark) : Type 0 where
  names : m.production ≡ 19 → apart false ms ≡ true → First b m ms
  sets : m.production ≡ 25 → not b ≡ true → apart true ms ≡ true → First b m ms
  neither : (m.production ≡ 19 → ⊥) → (m.production ≡ 25 → ⊥) → apart b ms ≡ true → First b m ms

not_equal : (m k : ℕ) → nat_eq m k ≡ false → m ≡ k → ⊥
not_equal m k e f = let both : true ≡ false = sym (eq_is m k f) ∙ e in cc

pub first_of : (b : Bool) (m : Mark) (ms : List Mark) → apart b (m ∷ ms) ≡ true → First b m ms
first_of b m ms h = by (nat_eq m.production 19) refl (nat_eq m.production 25) refl h
  where
    by : (x : Bool) → nat_eq m.production 19 ≡ x → (y : Bool) → nat_eq m.production 25 ≡ y → (if x then apart false ms else if y then (not b && apart true ms) else apart b ms) ≡ true → First b m ms
    by true e y f g = names (eqb-true m.production 19 e) g
    by false e true f g = let both = and_both (not b) (apart true ms) g in sets (eqb-true m.production 25 f) both.0 both.1
    by false e false f g = neither (not_equal m.production 19 e) (not_equal m.production 25 f) g

weaker : (ms : List Mark) → apart true ms ≡ true → apart false ms ≡ true
weaker [] h = refl
weaker (m ∷ ms) h = by (nat_eq m.production 19) (nat_eq m.production 25) h (weaker ms)
  where
    by : (a b : Bool) → (if a then apart false ms else if b then false else apart true ms) ≡ true → (apart true ms ≡ true → apart false ms ≡ true) → (if a then apart false ms else if b then apart true ms else apart false ms) ≡ true
    by true b h k = h
    by false true h k = cc
    by false false h k = k h

module _ (T : ℕ → TokenKind → ℕ → Type 0) where
  nothing_is : (zs : List Mark) → Part T 48 zs → zs ≡ []
  unfolding makes_node item_of row table
  nothing_is zs x = of_end T 48 0 zs (of_row T 48 zs x refl) refl

  record Initialised (zs : List Mark) : Type 0 where
    first : ℕ
    second : ℕ
    are : zs ≡ leaf_mark first ∷ record { production = 25; token = second } ∷ []

  initialised_is : (zs : List Mark) → Part T 54 zs → Initialised zs
  unfolding makes_node item_of row table
  initialised_is zs x =
      let (place, ys, takes, e, more) = of_token T 54 0 _ zs (of_row T 54 zs x refl) refl in
      let (xs, rest, f, own, last) = of_use T 54 1 25 ys more refl in
      let (second, one) = of_node T 25 xs own refl in
      let end = of_end T 54 2 rest last refl in
      record { first = place; second = second; are = e ∙ ap (λ (l : List Mark). leaf_mark place ∷ l) (f ∙ (ap (λ (l : List Mark). l ++ rest) one ∙ ap (λ (l : List Mark). record { production = 25; token = second } ∷ l) end)) }

  -- an initialiser, or nothing
  maybe_initialised : (xs ys : List Mark) → Part T 54 xs ⊎ Part T 48 xs → apart true ys ≡ true → apart false (xs ++ ys) ≡ true
  maybe_initialised xs ys (inl x) h = let i = initialised_is xs x in subst (λ (l : List Mark). apart false (l ++ ys) ≡ true) (sym i.are) h
  maybe_initialised xs ys (inr x) h = subst (λ (l : List Mark). apart false (l ++ ys) ≡ true) (sym (nothing_is xs x)) (weaker ys h)

  maybe_named : (xs ys : List Mark) → Part T 5 xs ⊎ Part T 48 xs → apart false ys ≡ true → apart false (xs ++ ys) ≡ true
  unfolding makes_node
  maybe_named xs ys (inl x) h = let n = of_node T 5 xs x refl in subst (λ (l : List Mark). apart false (l ++ ys) ≡ true) (sym n.1) h
  maybe_named xs ys (inr x) h = subst (λ (l : List Mark). apart false (l ++ ys) ≡ true) (sym (nothing_is xs x)) h

  joined : (xs ys zs : List Mark) → (xs ++ ys) ++ zs ≡ xs ++ (ys ++ zs)
  joined [] ys zs = refl
  joined (x ∷ xs) ys zs = ap (λ (l : List Mark). x ∷ l) (joined xs ys zs)

  more_names : (xs ys : List Mark) → Part T 55 xs → apart true ys ≡ true → apart true (xs ++ ys) ≡ true
  unfolding makes_node item_of row table
  more_names xs ys x h =
      let (place, ls, takes, e, w1) = of_token T 55 0 _ xs (of_row T 55 xs x refl) refl in
      let (bs, cs, f, own, w2) = of_use T 55 1 19 ls w1 refl in
      let (second, one) = of_node T 19 bs own refl in
      let w3 = of_scope T 55 2 2 cs w2 refl in
      let (ds, es, g, symbol, w4) = of_choice T 55 3 5 48 cs w3 refl in
      let (fs, gs, k, inits, w5) = of_choice T 55 4 54 48 es w4 refl in
      let end = of_end T 55 5 gs w5 refl in
      let last : apart false (es ++ ys) ≡ true = subst (λ (l : List Mark). apart false (l ++ ys) ≡ true) (sym k) (subst (λ (l : List Mark). apart false l ≡ true) (sym (joined fs gs ys)) (maybe_initialised fs (gs ++ ys) inits (subst (λ (l : List Mark). apart true (l ++ ys) ≡ true) (sym end) h))) in
      let named : apart false (cs ++ ys) ≡ true = subst (λ (l : List Mark). apart false (l ++ ys) ≡ true) (sym g) (subst (λ (l : List Mark). apart false l ≡ true) (sym (joined ds es ys)) (maybe_named ds (es ++ ys) symbol last)) in
      let whole : apart true (ls ++ ys) ≡ true = subst (λ (l : List Mark). apart true (l ++ ys) ≡ true) (sym (f ∙ ap (λ (l : List Mark). l ++ cs) one)) named in
      subst (λ (l : List Mark). apart true (l ++ ys) ≡ true) (sym e) whole

  semicolon : (zs : List Mark) → Brings T 2 2 zs → apart true zs ≡ true
  unfolding makes_node item_of row table
  semicolon zs b =
      let (place, ls, takes, e, w) = of_token T 2 2 _ zs b refl in
      let end = of_end T 2 3 ls w refl in
      ap (apart true) (e ∙ ap (λ (l : List Mark). leaf_mark place ∷ l) end)

  pub rest_apart : (zs : List Mark) → Brings T 2 0 zs → apart false zs ≡ true
  unfolding makes_node item_of row table
  rest_apart zs b =
      let (xs, ys, e, inits, w) = of_choice T 2 0 54 48 zs b refl in
      let more = all_repeated T (λ (l : List Mark). apart true l ≡ true) 2 1 55 refl semicolon more_names ys w in
      subst (λ (l : List Mark). apart false l ≡ true) (sym e) (maybe_initialised xs ys inits more)

-- ---- the nodes of a tree

module _ (s : Source) (brought : IsBrought s) where
  abbrev T : ℕ → TokenKind → ℕ → Type 0
  T = Takes s.text s.tokens

  pub marked : (c : ℕ) → (mark_at s c).production ≡ production_at s c
  marked c = by (slice_get s.nodes c)
    where
      by : (o : Option SyntaxNode) → (mark_of o).production ≡ production_of o
      by None = refl
      by (Some n) = refl

  -- one that is among the parts counts
  one_counts : (kind : ℕ) (ones many : List ℕ) (ks : List ℕ) (c : ℕ) → contains ks c ≡ true → production_at s c ≡ kind → 1 ≤ count kind ones many (map (mark_at s) ks)
  one_counts kind ones many [] c h e = cc
  one_counts kind ones many (k ∷ ks) c h e = by (member k c ks h) (λ more. one_counts kind ones many ks c more e)
    where
      by : (k ≡ c) ⊎ (contains ks c ≡ true) → (contains ks c ≡ true → 1 ≤ count kind ones many (map (mark_at s) ks)) → 1 ≤ count kind ones many (map (mark_at s) (k ∷ ks))
      by (inl same) later =
          let is : (mark_at s k).production ≡ kind = marked k ∙ (ap (production_at s) same ∙ e) in
          let one = one_is (nat_eq (mark_at s k).production kind) (eq_is (mark_at s k).production kind is) in
          omega (arith, one)
      by (inr more) later = let h = later more in omega (arith, h)

  -- of a kind of which there is one at most, two are one
  counted : (kind : ℕ) (ones many : List ℕ) (ks : List ℕ) (c d : ℕ) → contains ks c ≡ true → contains ks d ≡ true → production_at s c ≡ kind → production_at s d ≡ kind → count kind ones many (map (mark_at s) ks) ≤ 1 → c ≡ d
  counted kind ones many [] c d h g e f few = cc
  counted kind ones many (k ∷ ks) c d h g e f few = by (member k c ks h) (member k d ks g) (λ x y. counted kind ones many ks c d x y e f (omega (arith, few)))
    where
      head : (x : ℕ) → k ≡ x → production_at s x ≡ kind → 1 ≤ (if nat_eq (mark_at s k).production kind then 1 else 0)
      head x same is = one_is (nat_eq (mark_at s k).production kind) (eq_is (mark_at s k).production kind (marked k ∙ (ap (production_at s) same ∙ is)))

      by : (k ≡ c) ⊎ (contains ks c ≡ true) → (k ≡ d) ⊎ (contains ks d ≡ true) → (contains ks c ≡ true → contains ks d ≡ true → c ≡ d) → c ≡ d
      by (inl x) (inl y) later = sym x ∙ y
      by (inl x) (inr y) later = absurd (let one = head c x e in let more = one_counts kind ones many ks d y f in omega (arith, one, more, few))
      by (inr x) (inl y) later = absurd (let one = head d y f in let more = one_counts kind ones many ks c x e in omega (arith, one, more, few))
      by (inr x) (inr y) later = later x y

  -- what an initialiser is a part of
  pub data Holds (p : ℕ) : Type 0 where
    in_rest : production_at s p ≡ 2 → Holds p
    in_other : contains init_ones (production_at s p) ≡ true → Holds p

  pub holder : (p i : ℕ) → contains (children_at s p) i ≡ true → production_at s i ≡ 25 → Holds p
  holder p i child is = by (contains init_many (production_at s p)) refl (contains init_ones (production_at s p)) refl
    where
      by : (a : Bool) → contains init_many (production_at s p) ≡ a → (b : Bool) → contains init_ones (production_at s p) ≡ b → Holds p
      by true e b f = in_rest (pick (member 2 (production_at s p) [] e))
        where
          pick : (2 ≡ production_at s p) ⊎ (contains [] (production_at s p) ≡ true) → production_at s p ≡ 2
          pick (inl same) = sym same
          pick (inr none) = cc
      by false e true f = in_other f
      by false e false f =
          let few = row_brings_few 25 init_ones init_many inits_fine refl T (production_at s p) (map (mark_at s) (children_at s p)) (brought p) e in
          let one = one_counts 25 init_ones init_many (children_at s p) i child is in
          let none = none_of (contains init_ones (production_at s p)) f in
          absurd (omega (arith, few, one, none))

  none_such : (kind : ℕ) (many : List ℕ) → all_fine kind [] many 0 table ≡ true → nat_eq leaf kind ≡ false → (p c : ℕ) → contains many (production_at s p) ≡ false → contains (children_at s p) c ≡ true → production_at s c ≡ kind → ⊥
  none_such kind many fine other p c out child is =
      let few = row_brings_few kind [] many fine other T (production_at s p) (map (mark_at s) (children_at s p)) (brought p) out in
      let one = one_counts kind [] many (children_at s p) c child is in
      omega (arith, few, one)

  -- a part that an initialiser is a part of
  pub inner_holder : (r p i : ℕ) → contains (children_at s r) p ≡ true → contains (children_at s p) i ≡ true → production_at s i ≡ 25 → (production_at s p ≡ 2) ⊎ (production_at s p ≡ 27)
  inner_holder r p i up child is = by (holder p i child is)
    where
      by : Holds p → (production_at s p ≡ 2) ⊎ (production_at s p ≡ 27)
      by (in_rest e) = inl e
      by (in_other h) = first (member 27 (production_at s p) (54 ∷ 55 ∷ []) h)
        where
          third : (55 ≡ production_at s p) ⊎ (contains [] (production_at s p) ≡ true) → ⊥
          third (inl e) = none_such 55 [] outer_fine refl r p refl up (sym e)
          third (inr e) = cc

          second : (54 ≡ production_at s p) ⊎ (contains (55 ∷ []) (production_at s p) ≡ true) → ⊥
          second (inl e) = none_such 54 [] inner_fine refl r p refl up (sym e)
          second (inr e) = third (member 55 (production_at s p) [] e)

          first : (27 ≡ production_at s p) ⊎ (contains (54 ∷ 55 ∷ []) (production_at s p) ≡ true) → (production_at s p ≡ 2) ⊎ (production_at s p ≡ 27)
          first (inl e) = inr (sym e)
          first (inr e) = absurd (second (member 54 (production_at s p) (55 ∷ []) e))

  pub item_in : (r p : ℕ) → contains (children_at s r) p ≡ true → production_at s p ≡ 27 → contains item_many (production_at s r) ≡ true
  item_in r p up is = by (contains item_many (production_at s r)) refl
    where
      by : (b : Bool) → contains item_many (production_at s r) ≡ b → contains item_many (production_at s r) ≡ true
      by true e = e
      by false e = absurd (none_such 27 item_many items_fine refl r p e up is)

  pub no_declarator_in : (r d : ℕ) → contains item_many (production_at s r) ≡ true → contains (children_at s r) d ≡ true → production_at s d ≡ 19 → ⊥
  no_declarator_in r d h child is = none_such 19 declarator_many declarators_fine refl r d (other (production_at s r) h) child is
    where
      in_three : (q : ℕ) → contains item_many q ≡ true → (q ≡ 26) ⊎ ((q ≡ 130) ⊎ (q ≡ 131))
      in_three q h = first (member 26 q (130 ∷ 131 ∷ []) h)
        where
          third : (131 ≡ q) ⊎ (contains [] q ≡ true) → (q ≡ 26) ⊎ ((q ≡ 130) ⊎ (q ≡ 131))
          third (inl e) = inr (inr (sym e))
          third (inr e) = cc

          second : (130 ≡ q) ⊎ (contains (131 ∷ []) q ≡ true) → (q ≡ 26) ⊎ ((q ≡ 130) ⊎ (q ≡ 131))
          second (inl e) = inr (inl (sym e))
          second (inr e) = third (member 131 q [] e)

          first : (26 ≡ q) ⊎ (contains (130 ∷ 131 ∷ []) q ≡ true) → (q ≡ 26) ⊎ ((q ≡ 130) ⊎ (q ≡ 131))
          first (inl e) = inl (sym e)
          first (inr e) = second (member 130 q (131 ∷ []) e)

      other : (q : ℕ) → contains item_many q ≡ true → contains declarator_many q ≡ false
      other q h = by (in_three q h)
        where
          by : (q ≡ 26) ⊎ ((q ≡ 130) ⊎ (q ≡ 131)) → contains declarator_many q ≡ false
          by (inl e) = ap (contains declarator_many) e
          by (inr (inl e)) = ap (contains declarator_many) e
          by (inr (inr e)) = ap (contains declarator_many) e

  pub one_rest : (r p q : ℕ) → contains (children_at s r) p ≡ true → contains (children_at s r) q ≡ true → production_at s p ≡ 2 → production_at s q ≡ 2 → p ≡ q
  one_rest r p q h g e f =
      let few = row_brings_few 2 rest_ones [] rests_fine refl T (production_at s r) (map (mark_at s) (children_at s r)) (brought r) refl in
      let at_most = one_at_most (contains rest_ones (production_at s r)) in
      counted 2 rest_ones [] (children_at s r) p q h g e f (omega (arith, few, at_most))

  pub one_init : (p i j : ℕ) → contains init_ones (production_at s p) ≡ true → contains (children_at s p) i ≡ true → contains (children_at s p) j ≡ true → production_at s i ≡ 25 → production_at s j ≡ 25 → i ≡ j
  one_init p i j among h g e f =
      let few = row_brings_few 25 init_ones init_many inits_fine refl T (production_at s p) (map (mark_at s) (children_at s p)) (brought p) (no_rest (production_at s p) among) in
      let at_most = one_at_most (contains init_ones (production_at s p)) in
      counted 25 init_ones init_many (children_at s p) i j h g e f (omega (arith, few, at_most))

  pub separated : (p : ℕ) → production_at s p ≡ 2 → apart false (map (mark_at s) (children_at s p)) ≡ true
  separated p e = rest_apart T (map (mark_at s) (children_at s p)) (subst (λ (q : ℕ). Brings T q 0 (map (mark_at s) (children_at s p))) e (brought p))
