-- The members of a specifier's list may stand in their places.
use Rattle.std.proofs.Common.{arith, ◌≡◌, ◌==◌, ◌<◌, ◌≤◌, ◌+◌, ℕ, zero, suc, ℤ, int_eq, Bool, true, false, eqb, ◌&&◌, ◌||◌, not, List, [], ◌∷◌, ◌++◌, map, Option, Some, None, length, length-append, slice_get, take, refl, sym, ap, ◌∙◌, subst, ◌⊎◌, inl, inr}
use Rattle.std.specs.Prelude.{pos, is_some, is_none, nat_lt, nat_le, option_and_then, if◌then◌else◌}
use Rattle.std.proofs.lemmas.Bool.{eqb-true, eq-eqb}
use Rattle.std.proofs.lemmas.Bool.Decides.{nat_tests}
use Rattle.std.proofs.lemmas.Option.{slice_get-get_or, slice_get_within}
use Rattle.pta_base.specs.declared.kind.Kind.TheVariants.{Operand}
use Rattle.c_types.specs.Trees.{Ctype, BoolType, IntegerType, ArrayOf, StructureOf, UnionOf}
use Rattle.c_types.specs.Layout.{Extent, of_members, structure_of, union_of, member_extent, looked_up, laid_out}
use Rattle.c_types.specs.Table.{size_below}
use Rattle.c_grammar.specs.declared.trees.SyntaxNode.{SyntaxNode}
use Rattle.c_grammar.specs.Productions.{p_assert, p_specs, p_struct, p_members, p_member, p_field, p_declarator, p_conditional}
use Rattle.c_grammar.specs.Reads.{leaf}
use Rattle.c_grammar.specs.Terminals.{contains}
use Rattle.c_inits.specs.Made.{Part, TagParts}
use Rattle.c_senses.specs.Given.{Given, Fits, Refuses, given_if, given_some, ◌>>=◌}
use Rattle.c_senses.specs.Tree.{Source, is_a, is_leaf, first_where, any_where, last_where, all_where, child_of, children_at, children_of, parent_of, production_at, production_of}
use Rattle.c_senses.specs.World.{World, extent, has_size}
use Rattle.c_senses.specs.Constants.{constant_in}
use Rattle.c_senses.specs.Declarators.{derived, specified_at, sense_of_child}
use Rattle.c_senses.specs.Sense.{Sense, Nothing, IsType, IsDeclarator, IsMembers, sense_in}
use Rattle.c_senses.specs.Tags.{is_union, tag_of, tag_leaf, tag_fits, named_tag, aggregate_type, laid, struct_type, members_in_sense, members_among, untagged_in, type_in_sense, unnamed_member, member_specs, is_in_union, in_union, is_before, earlier_parts, declares_members, has_untagged, is_last_in, is_last_field, is_flexible_end, may_be_member, bit_field, bits_in, width_fits, field_name, is_new_name, named_field, field_typed, field_of, completed_from, completions_of, types_of_parts}
use Rattle.c_senses.specs.Limits.{is_small, ends_flexible}
use Rattle.c_senses.specs.Rows.{world_at, row, row_of, AreSenses}
use Rattle.parsed_tree_laws.specs.sense_laws.Senses.{ChildrenFirst}
use Rattle.parsed_tree_laws.specs.sense_laws.Laws.{Grows}
use Rattle.parsed_tree_laws.proofs.sense_laws.Completing.{grown_by_one}
use Rattle.struct_rows.specs.Taken.{bits_fit, width_in, is_flexible, takes}
use Rattle.parsed_tree_laws.specs.family_laws.Families.{IsChild, Ascend, Families}
use Rattle.limit_laws.specs.struct_laws.Untaken.{IsUntaken}
use Rattle.limit_laws.proofs.struct_laws.Lists.{found, lists_made}
use Rattle.limit_laws.specs.struct_laws.Words.{NeverUnbuilt}
use Rattle.limit_laws.proofs.struct_laws.Words.{first_at, untaken_alone}
use Rattle.limit_laws.proofs.struct_laws.Parting.{parts_of, among, among_same, among_equal, among_none, among_fewer, Origin, origin, FitsAt, takes_each, before_is, behind_last}

-- ---- what a row that fits says

given_true : {A : Type 0} (b : Bool) (n : ℕ) (g : Given A) (x : A) → given_if b Operand n g ≡ Fits x → (b ≡ true) × (g ≡ Fits x)
given_true true n g x e = (refl, e)
given_true false n g x e = cc

same_given : {A : Type 0} (x y : A) → ◌≡◌ {A = Given A} (Fits x) (Fits y) → x ≡ y
same_given x y e = cc

left : (a b : Bool) → (a && b) ≡ true → a ≡ true
left true b e = refl
left false b e = cc

right : (a b : Bool) → (a && b) ≡ true → b ≡ true
right true b e = e
right false b e = cc

either : (a b : Bool) → (a || b) ≡ true → (a ≡ true) ⊎ (b ≡ true)
either true b e = inl refl
either false b e = inr e

off : (a : Bool) → not a ≡ true → a ≡ false
off true e = cc
off false e = refl

no_both : {b : Bool} → b ≡ true → b ≡ false → ⊥
no_both e f = cc

size_some : (o : Option Extent) → is_some (size_below o) ≡ true → is_some o ≡ true
size_some None e = e
size_some (Some x) e = refl

in_list : (list : List ℕ) (i : ℕ) → contains list i ≡ true → (k : ℕ) × (slice_get list k ≡ Some i)
in_list [] i h = cc
in_list (x ∷ list) i h = by (in_list list i) (x == i) refl h
  where
    by : (contains list i ≡ true → (k : ℕ) × (slice_get list k ≡ Some i)) → (b : Bool) → (x == i) ≡ b → (b || contains list i) ≡ true → (k : ℕ) × (slice_get (x ∷ list) k ≡ Some i)
    by rest true e h = (0, ap Some (eqb-true x i e))
    by rest false e h = let more = rest h in (suc more.0, more.1)

list_in : (list : List ℕ) (k i : ℕ) → slice_get list k ≡ Some i → contains list i ≡ true
list_in [] k i h = cc
list_in (x ∷ list) zero i h = let same : x ≡ i = cc in ap (λ (b : Bool). b || contains list i) (eq-eqb x i same)
list_in (x ∷ list) (suc k) i h = by (x == i) (list_in list k i h)
  where
    by : (b : Bool) → contains list i ≡ true → (b || contains list i) ≡ true
    by true e = refl
    by false e = e

split_child : (pre : List ℕ) (c : ℕ) (post : List ℕ) → (k : ℕ) × (slice_get (pre ++ c ∷ post) k ≡ Some c)
split_child [] c post = (0, refl)
split_child (x ∷ pre) c post = let more = split_child pre c post in (suc more.0, more.1)

pre_child : (pre : List ℕ) (c : ℕ) (post : List ℕ) (r d : ℕ) → slice_get pre r ≡ Some d → (k : ℕ) × (slice_get (pre ++ c ∷ post) k ≡ Some d)
pre_child [] c post r d e = cc
pre_child (x ∷ pre) c post zero d e = (0, e)
pre_child (x ∷ pre) c post (suc r) d e = let more = pre_child pre c post r d e in (suc more.0, more.1)

post_child : (pre : List ℕ) (c : ℕ) (post : List ℕ) (r d : ℕ) → slice_get post r ≡ Some d → (k : ℕ) × (slice_get (pre ++ c ∷ post) k ≡ Some d)
post_child [] c post r d e = (suc r, e)
post_child (x ∷ pre) c post r d e = let more = post_child pre c post r d e in (suc more.0, more.1)

-- ---- senses of the first so many nodes

taken_sense : (xs : List Sense) (n k : ℕ) → k < n → sense_in (take n xs) k ≡ sense_in xs k
taken_sense xs zero k h = absurd (omega arith)
taken_sense [] (suc n) k h = refl
taken_sense (x ∷ xs) (suc n) zero h = refl
taken_sense (x ∷ xs) (suc n) (suc k) h = taken_sense xs n k (omega (arith, h))

taken_or : (xs : List Sense) (n k : ℕ) → (sense_in (take n xs) k ≡ sense_in xs k) ⊎ (sense_in (take n xs) k ≡ Nothing)
taken_or xs zero k = inr refl
taken_or [] (suc n) k = inl refl
taken_or (x ∷ xs) (suc n) zero = inl refl
taken_or (x ∷ xs) (suc n) (suc k) = taken_or xs n k

take_one : (xs : List Sense) (n : ℕ) → n < length xs → (x : Sense) × (take (suc n) xs ≡ take n xs ++ x ∷ [])
take_one [] n h = absurd (omega arith)
take_one (x ∷ xs) zero h = (x, refl)
take_one (x ∷ xs) (suc n) h = let more = take_one xs n (omega (arith, h)) in (more.0, ap (λ (l : List Sense). x ∷ l) more.1)

take_all : (xs : List Sense) → take (length xs) xs ≡ xs
take_all [] = refl
take_all (x ∷ xs) = ap (λ (l : List Sense). x ∷ l) (take_all xs)

-- ---- completed tags

Listed : ℕ → List TagParts → Type 0
Listed tag [] = ⊥
Listed tag (c ∷ rest) = (c.tag ≡ tag) ⊎ Listed tag rest

module _ (s : Source) (f : ℕ → Sense) (i list : ℕ) (ps : List Part) (struct : is_a s p_struct i ≡ true) (child : child_of s p_members i ≡ Some list) (made : f list ≡ IsMembers ps) where
  entry_later : (k : ℕ) (more : List TagParts) → Listed (tag_of s i) more
      → Listed (tag_of s i) (elim (if is_a s p_struct k then child_of s p_members k else None) as (λ _. List TagParts) [ None ↦ more | Some list ↦ elim (f list) as (λ _. List TagParts) [ IsMembers parts ↦ record { tag = tag_of s k; members = parts } ∷ more | _ ↦ more ] ])
  unfolding Listed
  entry_later k more h = by (if is_a s p_struct k then child_of s p_members k else None)
    where
      by_sense : (x : Sense) → Listed (tag_of s i) (elim x as (λ _. List TagParts) [ IsMembers parts ↦ record { tag = tag_of s k; members = parts } ∷ more | _ ↦ more ])
      by_sense (IsMembers parts) = inr h
      by_sense x = h

      by : (o : Option ℕ) → Listed (tag_of s i) (elim o as (λ _. List TagParts) [ None ↦ more | Some list ↦ elim (f list) as (λ _. List TagParts) [ IsMembers parts ↦ record { tag = tag_of s k; members = parts } ∷ more | _ ↦ more ] ])
      by None = h
      by (Some other) = by_sense (f other)

  entry_here : (more : List TagParts)
      → Listed (tag_of s i) (elim (if is_a s p_struct i then child_of s p_members i else None) as (λ _. List TagParts) [ None ↦ more | Some list ↦ elim (f list) as (λ _. List TagParts) [ IsMembers parts ↦ record { tag = tag_of s i; members = parts } ∷ more | _ ↦ more ] ])
  unfolding Listed
  entry_here more =
      let entry : Option ℕ → List TagParts = λ o. elim o as (λ _. List TagParts) [ None ↦ more | Some list ↦ elim (f list) as (λ _. List TagParts) [ IsMembers parts ↦ record { tag = tag_of s i; members = parts } ∷ more | _ ↦ more ] ] in
      let by : Sense → List TagParts = λ x. elim x as (λ _. List TagParts) [ IsMembers parts ↦ record { tag = tag_of s i; members = parts } ∷ more | _ ↦ more ] in
      let there : (if is_a s p_struct i then child_of s p_members i else None) ≡ Some list = ap (λ (b : Bool). if b then child_of s p_members i else None) struct ∙ child in
      let is : entry (if is_a s p_struct i then child_of s p_members i else None) ≡ record { tag = tag_of s i; members = ps } ∷ more = ap entry there ∙ ap by made in
      subst (Listed (tag_of s i)) (sym is) (inl refl)

  completed_has : (xs : List Sense) (k : ℕ) → k ≤ i → i < k + length xs → Listed (tag_of s i) (completed_from s xs f k)
  completed_has [] k low high = absurd (omega (arith, low, high))
  completed_has (x ∷ xs) k low high = by (λ l. completed_has xs (suc k) l (omega (arith, high))) (k == i) refl
    where
      apart : (k == i) ≡ false → k ≡ i → ⊥
      apart e same = no_both (eq-eqb k i same) e

      by : (suc k ≤ i → Listed (tag_of s i) (completed_from s xs f (suc k))) → (b : Bool) → (k == i) ≡ b → Listed (tag_of s i) (completed_from s (x ∷ xs) f k)
      by rest true e = subst (λ (j : ℕ). Listed (tag_of s i) (completed_from s (x ∷ xs) f j)) (sym (eqb-true k i e)) (entry_here (completed_from s xs f (suc i)))
      by rest false e = let never = apart e in entry_later k (completed_from s xs f (suc k)) (rest (omega (arith, low, never)))

some_left : (xs ys : List (ℕ × List Extent)) (tag : ℕ) → is_some (looked_up xs tag) ≡ true → is_some (looked_up (xs ++ ys) tag) ≡ true
some_left [] ys tag e = cc
some_left (c ∷ xs) ys tag e = by (eqb c.0 tag) (some_left xs ys tag) e
  where
    by : (b : Bool) → (is_some (looked_up xs tag) ≡ true → is_some (looked_up (xs ++ ys) tag) ≡ true) → is_some (if b then Some c.1 else looked_up xs tag) ≡ true → is_some (if b then Some c.1 else looked_up (xs ++ ys) tag) ≡ true
    by true rest e = refl
    by false rest e = rest e

some_here : (xs : List (ℕ × List Extent)) (tag : ℕ) (es : List Extent) → is_some (looked_up (xs ++ (tag, es) ∷ []) tag) ≡ true
some_here [] tag es = ap (λ (b : Bool). is_some (if b then Some es else None)) (eq-eqb tag tag refl)
some_here (c ∷ xs) tag es = by (eqb c.0 tag) (some_here xs tag es)
  where
    by : (b : Bool) → is_some (looked_up (xs ++ (tag, es) ∷ []) tag) ≡ true → is_some (if b then Some c.1 else looked_up (xs ++ (tag, es) ∷ []) tag) ≡ true
    by true e = refl
    by false e = e

laid_has : (done : List (ℕ × List Extent)) (cs : List TagParts) (tag : ℕ) → Listed tag cs ⊎ (is_some (looked_up done tag) ≡ true) → is_some (looked_up (laid_out done (completions_of cs)) tag) ≡ true
unfolding Listed
laid_has done [] tag (inl h) = absurd h
laid_has done [] tag (inr h) = h
laid_has done (c ∷ cs) tag (inl (inl h)) =
    let es : List Extent = map (member_extent (looked_up done)) (types_of_parts c.members) in
    laid_has (done ++ (c.tag, es) ∷ []) cs tag (inr (subst (λ (t : ℕ). is_some (looked_up (done ++ (c.tag, es) ∷ []) t) ≡ true) h (some_here done c.tag es)))
laid_has done (c ∷ cs) tag (inl (inr h)) = laid_has (done ++ (c.tag, map (member_extent (looked_up done)) (types_of_parts c.members)) ∷ []) cs tag (inl h)
laid_has done (c ∷ cs) tag (inr h) = laid_has (done ++ (c.tag, map (member_extent (looked_up done)) (types_of_parts c.members)) ∷ []) cs tag (inr (some_left done ((c.tag, map (member_extent (looked_up done)) (types_of_parts c.members)) ∷ []) tag h))

of_some : (g : List Extent → Extent) (o : Option (List Extent)) → is_some o ≡ true → is_some (of_members g o) ≡ true
of_some g None e = cc
of_some g (Some es) e = refl

-- ---- over the senses before a specifier

nodes_there : (nodes : List SyntaxNode) (i : ℕ) → i < length nodes → (n : SyntaxNode) × (slice_get nodes i ≡ Some n)
nodes_there [] i h = absurd (omega arith)
nodes_there (n ∷ rest) zero h = (n, refl)
nodes_there (n ∷ rest) (suc i) h = nodes_there rest i (omega (arith, h))

child_inside : (o : Option SyntaxNode) (nodes : List SyntaxNode) (p k c : ℕ) → slice_get nodes p ≡ o → slice_get (children_of o) k ≡ Some c → p < length nodes
child_inside None nodes p k c e h = cc
child_inside (Some n) nodes p k c e h = slice_get_within nodes p n e

module _ (s : Source) (senses : List Sense) (are : AreSenses s senses) (first : ChildrenFirst s) (families : Families s) where
  abbrev f : ℕ → Sense
  f = sense_in senses

  abbrev F : ℕ → ℕ → Sense
  F i = sense_in (take i senses)

  abbrev W : ℕ → World
  W i = world_at s (take i senses) i

  row_there : (i q : ℕ) → i < length senses → production_at s i ≡ q → row_of (W i) s (F i) q i (children_at s i) ≡ Fits (f i)
  row_there i q inside p =
      let n = nodes_there s.nodes i (let long = are.within in omega (arith, inside, long)) in
      let fits : row s (take i senses) i n.0 ≡ Fits (f i) = are.each i n.0 (f i) n.1 (slice_get-get_or senses i Nothing inside) in
      subst (λ (x : ℕ). row_of (W i) s (F i) x i (children_at s i) ≡ Fits (f i)) p
      (subst (λ (o : Option SyntaxNode). row_of (W i) s (F i) (production_of o) i (children_of o) ≡ Fits (f i)) (sym n.1) fits)

  production_is : (i p : ℕ) → is_a s p i ≡ true → production_at s i ≡ p
  production_is i p h = eqb-true (production_at s i) p h

  parent_is : (p c : ℕ) → IsChild s p c → parent_of s c ≡ Some p
  parent_is p c h =
      let inside : p < length s.nodes = child_inside (slice_get s.nodes p) s.nodes p h.0 c refl h.1 in
      let found = first_at (λ q. contains (children_at s q) c) 0 (length s.nodes) p (omega arith) (omega (arith, inside)) (list_in (children_at s p) h.0 c h.1) in
      let other = in_list (children_at s found.first) c found.passes in
      let same : found.first ≡ p = families.single found.first p c other h in
      found.is ∙ ap Some same

  -- the world grows
  grows_by : (d n j : ℕ) → n + d ≡ length senses → Grows (W n) (world_at s senses j)
  grows_by zero n j e =
      let all : take n senses ≡ senses = ap (λ (k : ℕ). take k senses) (let z : n ≡ length senses = omega (arith, e) in z) ∙ take_all senses in
      subst (λ (l : List Sense). Grows (world_at s l n) (world_at s senses j)) (sym all) (record { members = λ tag parts h. h; extents = λ t x h. h })
  grows_by (suc d) n j e =
      let one = take_one senses n (omega (arith, e)) in
      let more = grows_by d (suc n) j (omega (arith, e)) in
      let step : Grows (W n) (W (suc n)) = subst (λ (l : List Sense). Grows (W n) (world_at s l (suc n))) (sym one.1) (grown_by_one s first (take n senses) one.0 n (suc n)) in
      record { members = λ tag parts h. more.members tag parts (step.members tag parts h); extents = λ t x h. more.extents t x (step.extents t x h) }

  module _ (at : ℕ) (here : at ≡ length senses) where
    abbrev w : World
    w = world_at s senses at

    grows : (n : ℕ) → n < at → Grows (W n) w
    grows n h = by (gap n (length senses) (omega (arith, h, here)))
      where
        gap : (a b : ℕ) → a < b → (d : ℕ) × (a + d ≡ b)
        gap a zero h = absurd (omega arith)
        gap zero (suc b) h = (suc b, (let e : 0 + suc b ≡ suc b = omega arith in e))
        gap (suc a) (suc b) h = let more = gap a b (omega (arith, h)) in (more.0, (let e = more.1 in omega (arith, e)))

        by : (d : ℕ) × (n + d ≡ length senses) → Grows (W n) w
        by g = grows_by g.0 n at g.1

    some_kept : (n : ℕ) (t : Ctype) → n < at → is_some (extent (W n) t) ≡ true → is_some (extent w t) ≡ true
    some_kept n t h e = by (extent (W n) t) refl e
      where
        g : Grows (W n) w
        g = grows n h

        by : (o : Option Extent) → extent (W n) t ≡ o → is_some o ≡ true → is_some (extent w t) ≡ true
        by None q e = cc
        by (Some x) q e = ap is_some (g.extents t x q)

    -- what has no members
    leaf_none : (c : ℕ) → c < at → is_leaf s c ≡ true → parts_of (f c) ≡ []
    leaf_none c h is =
        let r : row_of (W c) s (F c) leaf c (children_at s c) ≡ Fits (f c) = row_there c leaf (omega (arith, h, here)) (production_is c leaf is) in
        ap parts_of (sym (same_given Nothing (f c) r))

    specs_none : (c : ℕ) → c < at → is_a s p_specs c ≡ true → parts_of (f c) ≡ []
    specs_none c h is =
        let r : row_of (W c) s (F c) p_specs c (children_at s c) ≡ Fits (f c) = row_there c p_specs (omega (arith, h, here)) (production_is c p_specs is) in
        let g = given_true _ c _ (f c) r in
        ap parts_of (sym (same_given _ (f c) g.1))

    assert_none : (c : ℕ) → c < at → is_a s p_assert c ≡ true → parts_of (f c) ≡ []
    assert_none c h is =
        let r : row_of (W c) s (F c) p_assert c (children_at s c) ≡ Fits (f c) = row_there c p_assert (omega (arith, h, here)) (production_is c p_assert is) in
        by (child_of s p_conditional c) r
      where
        value : (g : Given ℤ) → (g >>= (λ n. given_if (not (int_eq n (pos 0))) Operand c (Fits Nothing))) ≡ Fits (f c) → parts_of (f c) ≡ []
        value (Fits n) e = let g = given_true (not (int_eq n (pos 0))) c (Fits Nothing) (f c) e in ap parts_of (sym (same_given Nothing (f c) g.1))
        value (Refuses kind node) e = cc

        by : (o : Option ℕ) → (given_some o Operand c >>= (λ d. constant_in (W c) s c (F c d) >>= (λ n. given_if (not (int_eq n (pos 0))) Operand c (Fits Nothing)))) ≡ Fits (f c) → parts_of (f c) ≡ []
        by None e = cc
        by (Some d) e = value (constant_in (W c) s c (F c d)) e

    -- ---- fields

    record FieldPart (c j : ℕ) (m : Part) : Type 0 where
      place : j ≡ 0
      long : length (parts_of (f c)) ≡ 1
      bits : bits_fit m.type m.bits ≡ true
      type : (is_some (extent w m.type) ≡ true) ⊎ (is_flexible_end (W c) s (F c) c m.type ≡ true)

    one_part : (p m : Part) (j : ℕ) → slice_get (p ∷ []) j ≡ Some m → (j ≡ 0) × (p ≡ m)
    one_part p m zero e = (refl, cc)
    one_part p m (suc j) e = cc

    from_one : (c j : ℕ) (m p : Part) → IsMembers (p ∷ []) ≡ f c → bits_fit p.type p.bits ≡ true → (is_some (extent w p.type) ≡ true) ⊎ (is_flexible_end (W c) s (F c) c p.type ≡ true) → slice_get (parts_of (f c)) j ≡ Some m → FieldPart c j m
    from_one c j m p is bits type e =
        let o = one_part p m j (ap (λ (x : Sense). slice_get (parts_of x) j) is ∙ e) in
        record {
          place = o.0;
          long = ap (λ (x : Sense). length (parts_of x)) (sym is);
          bits = subst (λ (q : Part). bits_fit q.type q.bits ≡ true) o.1 bits;
          type = subst (λ (q : Part). (is_some (extent w q.type) ≡ true) ⊎ (is_flexible_end (W c) s (F c) c q.type ≡ true)) o.1 type;
        }

    from_none : (x : Sense) (j : ℕ) (m : Part) → IsMembers [] ≡ x → slice_get (parts_of x) j ≡ Some m → ⊥
    from_none x j m is e = let never : slice_get (parts_of (IsMembers [])) j ≡ Some m = ap (λ (y : Sense). slice_get (parts_of y) j) is ∙ e in cc

    may_type : (c : ℕ) (t : Ctype) → c < at → may_be_member (W c) s (F c) c t ≡ true → (is_some (extent w t) ≡ true) ⊎ (is_flexible_end (W c) s (F c) c t ≡ true)
    may_type c t h e = by (either (is_flexible_end (W c) s (F c) c t) (has_size (W c) t && (in_union (W c) s (F c) c || not (ends_flexible (W c) t))) e)
      where
        by : (is_flexible_end (W c) s (F c) c t ≡ true) ⊎ ((has_size (W c) t && (in_union (W c) s (F c) c || not (ends_flexible (W c) t))) ≡ true) → (is_some (extent w t) ≡ true) ⊎ (is_flexible_end (W c) s (F c) c t ≡ true)
        by (inl g) = inr g
        by (inr g) = inl (some_kept c t h (size_some (extent (W c) t) (left (has_size (W c) t) (in_union (W c) s (F c) c || not (ends_flexible (W c) t)) g)))

    bits_whole : (t : Ctype) (most : ℕ) → bits_in t ≡ Some most → is_some (extent w t) ≡ true
    bits_whole BoolType most e = refl
    bits_whole (IntegerType size rank signed) most e = refl
    bits_whole t most e = cc

    width_if : (b : Bool) (j k most : ℕ) (named : Bool) → (nat_le j most && (nat_lt 0 j || not named)) ≡ b → ◌≡◌ {A = Option ℕ} (if b then Some j else None) (Some k) → nat_le k most ≡ true
    width_if true j k most named g e = let same : j ≡ k = cc in ap (λ (x : ℕ). nat_le x most) (sym same) ∙ left (nat_le j most) (nat_lt 0 j || not named) g
    width_if false j k most named g e = cc

    width_most : (n : ℤ) (k most : ℕ) (named : Bool) → width_fits most named n ≡ Some k → nat_le k most ≡ true
    width_most (pos j) k most named e = width_if (nat_le j most && (nat_lt 0 j || not named)) j k most named refl e
    width_most n k most named e = cc

    above_zero : (k : ℕ) → (k == 0) ≡ false → nat_lt 0 k ≡ true
    above_zero k e = grind (arith, nat_tests, e)

    bits_part : (c j : ℕ) (m : Part) (named : ℕ) (name : Option (List ℕ)) (t : Ctype) (n : ℤ) (most : ℕ) → c < at → bits_in t ≡ Some most → bit_field (W c) s (F c) named name t n most ≡ Fits (f c) → slice_get (parts_of (f c)) j ≡ Some m → FieldPart c j m
    bits_part c j m named name t n most h whole e g = by (width_fits most (is_some name) n) refl e
      where
        by_zero : (k : ℕ) → width_fits most (is_some name) n ≡ Some k → (b : Bool) → (k == 0) ≡ b
            → (if b then Fits (IsMembers []) else Fits (IsMembers (record { name = name; type = t; bits = Some k } ∷ []))) ≡ Fits (f c) → FieldPart c j m
        by_zero k w_is true z r = absurd (from_none (f c) j m (same_given (IsMembers []) (f c) r) g)
        by_zero k w_is false z r =
            from_one c j m (record { name = name; type = t; bits = Some k }) (same_given _ (f c) r)
            (ap (λ (o : Option ℕ). width_in o k) whole ∙ (ap (λ (b : Bool). b && nat_le k most) (above_zero k z) ∙ width_most n k most (is_some name) w_is)) (inl (bits_whole t most whole)) g

        by : (o : Option ℕ) → width_fits most (is_some name) n ≡ o
            → (given_some o Operand named >>= (λ k. if k == 0 then Fits (IsMembers []) else Fits (IsMembers (record { name = name; type = t; bits = Some k } ∷ [])))) ≡ Fits (f c) → FieldPart c j m
        by None q r = cc
        by (Some k) q r = by_zero k q (k == 0) refl r

    typed_part : (c j : ℕ) (m : Part) (lf : Option ℕ) (t : Ctype) (width : Option ℕ) → c < at → field_typed (W c) s (F c) c lf t width ≡ Fits (f c) → slice_get (parts_of (f c)) j ≡ Some m → FieldPart c j m
    typed_part c j m lf t None h e g =
        let r = given_true (may_be_member (W c) s (F c) c t && is_new_name (W c) s (F c) c (field_name (W c) s (F c) lf)) (named_field (W c) s (F c) c lf) _ (f c) e in
        from_one c j m (record { name = field_name (W c) s (F c) lf; type = t; bits = None }) (same_given _ (f c) r.1) refl
        (may_type c t h (left (may_be_member (W c) s (F c) c t) (is_new_name (W c) s (F c) c (field_name (W c) s (F c) lf)) r.0)) g
    typed_part c j m lf t (Some width) h e g = by (bits_in t) refl e
      where
        nf : ℕ
        nf = named_field (W c) s (F c) c lf

        name : Option (List ℕ)
        name = field_name (W c) s (F c) lf

        value : (most : ℕ) → bits_in t ≡ Some most → (v : Given ℤ) → (v >>= (λ n. given_if (is_new_name (W c) s (F c) c (field_name (W c) s (F c) lf)) Operand (named_field (W c) s (F c) c lf) (bit_field (W c) s (F c) (named_field (W c) s (F c) c lf) (field_name (W c) s (F c) lf) t n most))) ≡ Fits (f c) → FieldPart c j m
        value most whole (Fits n) r =
            let q = given_true (is_new_name (W c) s (F c) c (field_name (W c) s (F c) lf)) (named_field (W c) s (F c) c lf) _ (f c) r in
            bits_part c j m (named_field (W c) s (F c) c lf) (field_name (W c) s (F c) lf) t n most h whole q.1 g
        value most whole (Refuses kind node) r = cc

        by : (o : Option ℕ) → bits_in t ≡ o
            → (given_some o Operand (named_field (W c) s (F c) c lf) >>= (λ most. constant_in (W c) s c (F c width) >>= (λ n. given_if (is_new_name (W c) s (F c) c (field_name (W c) s (F c) lf)) Operand (named_field (W c) s (F c) c lf) (bit_field (W c) s (F c) (named_field (W c) s (F c) c lf) (field_name (W c) s (F c) lf) t n most)))) ≡ Fits (f c) → FieldPart c j m
        by None q r = cc
        by (Some most) q r = value most q (constant_in (W c) s c (F c width)) r

    of_part : (c j : ℕ) (m : Part) (o : Option Ctype) (x : Sense) → c < at → field_of (W c) s (F c) c o x ≡ Fits (f c) → slice_get (parts_of (f c)) j ≡ Some m → FieldPart c j m
    of_part c j m None x h e g = cc
    of_part c j m (Some base) (IsDeclarator name ds) h e g = typed_part c j m name (derived ds base) (child_of s p_conditional c) h e g
    of_part c j m (Some base) x h e g = typed_part c j m None base (child_of s p_conditional c) h e g

    field_part : (c j : ℕ) (m : Part) → c < at → is_a s p_field c ≡ true → slice_get (parts_of (f c)) j ≡ Some m → FieldPart c j m
    field_part c j m h is g =
        let r : row_of (W c) s (F c) p_field c (children_at s c) ≡ Fits (f c) = row_there c p_field (omega (arith, h, here)) (production_is c p_field is) in
        of_part c j m (specified_at (W c) s (F c) (option_and_then (child_of s p_specs) (parent_of s c))) (sense_of_child (W c) s (F c) p_declarator c) h r g

    -- ---- an untagged structure or union

    none_is : {A : Type 0} (o : Option A) → is_none o ≡ true → o ≡ None
    none_is None e = refl
    none_is (Some x) e = cc

    aggregate_whole : (i : ℕ) → Listed (tag_of s i) (completed_from s senses f 0) → is_some (extent w (aggregate_type s i)) ≡ true
    aggregate_whole i listed = by (is_union s i)
      where
        look : is_some (w.look (tag_of s i)) ≡ true
        look = laid_has [] (completed_from s senses f 0) (tag_of s i) (inl listed)

        by : (b : Bool) → is_some (extent w (if b then UnionOf (tag_of s i) else StructureOf (tag_of s i))) ≡ true
        by true = of_some (union_of (UnionOf (tag_of s i))) (w.look (tag_of s i)) look
        by false = of_some (structure_of (StructureOf (tag_of s i))) (w.look (tag_of s i)) look

    untagged_whole : (i : ℕ) (t : Ctype) → i < at → is_a s p_struct i ≡ true → tag_leaf s i ≡ None → f i ≡ IsType t → is_some (extent w t) ≡ true
    untagged_whole i t h struct none is =
        let r : row_of (W i) s (F i) p_struct i (children_at s i) ≡ Fits (f i) = row_there i p_struct (omega (arith, h, here)) (production_is i p_struct struct) in
        by (child_of s p_members i) refl (families.untagged i struct none) (given_true (tag_fits s i) (named_tag s i) _ (f i) r).1
      where
        by : (o : Option ℕ) → child_of s p_members i ≡ o → is_some o ≡ true → struct_type (W i) s (F i) i o ≡ Fits (f i) → is_some (extent w t) ≡ true
        by None e some r = cc
        by (Some list) e some r =
            let q : (is_small (Some (laid (W i) (is_union s i) (aggregate_type s i) (members_in_sense (W i) s (F i) (F i list)))) ≡ true) × (Fits (IsType (aggregate_type s i)) ≡ Fits (f i)) = given_true (is_small (Some (laid (W i) (is_union s i) (aggregate_type s i) (members_in_sense (W i) s (F i) (F i list))))) i (Fits (IsType (aggregate_type s i))) (f i) r in
            let same : aggregate_type s i ≡ t = (let g : IsType (aggregate_type s i) ≡ IsType t = same_given _ (f i) q.1 ∙ is in cc) in
            let made = lists_made s senses i list are first (omega (arith, h, here)) e in
            subst (λ (x : Ctype). is_some (extent w x) ≡ true) same
            (aggregate_whole i (completed_has s f i list made.0 struct e made.1 senses 0 (omega arith) (omega (arith, h, here))))

    type_of : (x : Sense) (t : Ctype) → type_in_sense w s f x ≡ Some t → x ≡ IsType t
    type_of (IsType u) t e = ap IsType (let same : u ≡ t = cc in same)
    type_of x t e = cc

    -- ---- a declaration of members

    -- what is the only child that it is split at
    split_is : (p c : ℕ) (pre post : List ℕ) → children_at s p ≡ pre ++ c ∷ post → IsChild s p c
    split_is p c pre post e = let k = split_child pre c post in (k.0, ap (λ (l : List ℕ). slice_get l k.0) e ∙ k.1)

    in_post : (p c : ℕ) (pre post : List ℕ) → children_at s p ≡ pre ++ c ∷ post → (r d : ℕ) → slice_get post r ≡ Some d → IsChild s p d
    in_post p c pre post e r d h = let k = post_child pre c post r d h in (k.0, ap (λ (l : List ℕ). slice_get l k.0) e ∙ k.1)

    -- a part of a declaration of members that is no field has no members
    no_field_none : (p c : ℕ) → is_a s p_member p ≡ true → IsChild s p c → c < at → is_a s p_field c ≡ false → parts_of (f c) ≡ []
    no_field_none p c is h below none = by (either (is_leaf s c) (is_a s p_assert c || (is_a s p_specs c || is_a s p_field c)) (families.members p c is h))
      where
        by_specs : (is_a s p_specs c ≡ true) ⊎ (is_a s p_field c ≡ true) → parts_of (f c) ≡ []
        by_specs (inl g) = specs_none c below g
        by_specs (inr g) = absurd (no_both g none)

        by_assert : (is_a s p_assert c ≡ true) ⊎ ((is_a s p_specs c || is_a s p_field c) ≡ true) → parts_of (f c) ≡ []
        by_assert (inl g) = assert_none c below g
        by_assert (inr g) = by_specs (either (is_a s p_specs c) (is_a s p_field c) g)

        by : (is_leaf s c ≡ true) ⊎ ((is_a s p_assert c || (is_a s p_specs c || is_a s p_field c)) ≡ true) → parts_of (f c) ≡ []
        by (inl g) = leaf_none c below g
        by (inr g) = by_assert (either (is_a s p_assert c) (is_a s p_specs c || is_a s p_field c) g)

    row_member : (c : ℕ) → c < at → is_a s p_member c ≡ true → member_specs (W c) s (F c) c (children_at s c) (child_of s p_specs c) ≡ Fits (f c)
    row_member c h is = row_there c p_member (omega (arith, h, here)) (production_is c p_member is)

    nothing_in : (ps : List Part) (j : ℕ) (m : Part) → ps ≡ [] → slice_get ps j ≡ Some m → ⊥
    nothing_in [] j m e g = cc
    nothing_in (p ∷ ps) j m e g = cc

    parts_none : {A : Type 0} (ps : List Part) (j : ℕ) (m : Part) → ps ≡ [] → slice_get ps j ≡ Some m → A
    parts_none ps j m e g = absurd (nothing_in ps j m e g)

    some_any : (test : ℕ → Bool) (cs : List ℕ) → any_where test cs ≡ true → is_some (first_where test cs) ≡ true
    some_any test [] e = cc
    some_any test (c ∷ cs) e = by (test c) (some_any test cs) e
      where
        by : (b : Bool) → (any_where test cs ≡ true → is_some (first_where test cs) ≡ true) → (b || any_where test cs) ≡ true → is_some (if b then Some c else first_where test cs) ≡ true
        by true rest e = refl
        by false rest e = rest e

    or_first : (a b : Bool) → (a || b) ≡ false → a ≡ false
    or_first true b e = cc
    or_first false b e = refl

    or_second : (a b : Bool) → (a || b) ≡ false → b ≡ false
    or_second true b e = cc
    or_second false b e = e

    -- a declaration that declares no members has none
    declares_none : (c : ℕ) → c < at → is_a s p_member c ≡ true → declares_members w s f c ≡ false → parts_of (f c) ≡ []
    declares_none c h is none = by (child_of s p_specs c) refl (row_member c h is)
      where
        no_field : is_some (child_of s p_field c) ≡ false
        no_field = or_first (is_some (child_of s p_field c)) (has_untagged w s f (child_of s p_specs c)) none

        no_tag : has_untagged w s f (child_of s p_specs c) ≡ false
        no_tag = or_second (is_some (child_of s p_field c)) (has_untagged w s f (child_of s p_specs c)) none

        by_tag : (specs : ℕ) (o : Option ℕ) → untagged_in (W c) s (F c) specs ≡ o → is_some o ≡ false → unnamed_member (W c) s (F c) c (option_and_then (λ i. type_in_sense (W c) s (F c) (F c i)) o) ≡ Fits (f c) → parts_of (f c) ≡ []
        by_tag specs None q e r = ap parts_of (sym (same_given (IsMembers []) (f c) r))
        by_tag specs (Some i) q e r = cc

        by_field : (specs : ℕ) → child_of s p_specs c ≡ Some specs → (b : Bool) → any_where (is_a s p_field) (children_at s c) ≡ b
            → (if b then Fits (IsMembers (members_among (W c) s (F c) (children_at s c))) else unnamed_member (W c) s (F c) c (option_and_then (λ i. type_in_sense (W c) s (F c) (F c i)) (untagged_in (W c) s (F c) specs))) ≡ Fits (f c) → parts_of (f c) ≡ []
        by_field specs e true q r = absurd (no_both (some_any (is_a s p_field) (children_at s c) q) no_field)
        by_field specs e false q r = by_tag specs (untagged_in (W c) s (F c) specs) refl (sym (ap (has_untagged w s f) e) ∙ no_tag) r

        by : (o : Option ℕ) → child_of s p_specs c ≡ o → member_specs (W c) s (F c) c (children_at s c) o ≡ Fits (f c) → parts_of (f c) ≡ []
        by None e r = ap parts_of (sym (same_given (IsMembers []) (f c) r))
        by (Some specs) e r = by_field specs e (any_where (is_a s p_field) (children_at s c)) refl r

    -- ---- the whole list of a specifier

    module _ (list : ℕ) (own : IsChild s at list) (is_list : is_a s p_members list ≡ true) where
      list_below : list < at
      list_below = first at own.0 list own.1

      abbrev u : Bool
      u = is_union s at

      abbrev N : ℕ
      N = length (among f (children_at s list))

      list_child : (c : ℕ) → IsChild s list c → c < at
      list_child c h = let below = first list h.0 c h.1 in omega (arith, below, list_below)

      -- one of its parts that declares no members has none
      none_in_list : (c : ℕ) → IsChild s list c → (is_a s p_member c ≡ true → declares_members w s f c ≡ false) → parts_of (f c) ≡ []
      none_in_list c h none = by (either (is_leaf s c) (is_a s p_member c) (families.lists list c is_list h))
        where
          by : (is_leaf s c ≡ true) ⊎ (is_a s p_member c ≡ true) → parts_of (f c) ≡ []
          by (inl g) = leaf_none c (list_child c h) g
          by (inr g) = declares_none c (list_child c h) g (none g)

      -- a field's place
      module _ (c d : ℕ) (member : is_a s p_member c ≡ true) (pre post inner outer : List ℕ) (split : children_at s list ≡ pre ++ c ∷ post) (inner_split : children_at s c ≡ inner ++ d ∷ outer) where
        h_c : IsChild s list c
        h_c = split_is list c pre post split

        h_d : IsChild s c d
        h_d = split_is c d inner outer inner_split

        parent_d : parent_of s d ≡ Some c
        parent_d = parent_is c d h_d

        parent_c : parent_of s c ≡ Some list
        parent_c = parent_is list c h_c

        parent_list : parent_of s list ≡ Some at
        parent_list = parent_is at list own

        union_is : in_union (W d) s (F d) d ≡ is_union s at
        union_is =
            ap (λ (o : Option ℕ). elim o as (λ _. Bool) [ None ↦ false | Some i ↦ is_in_union (W d) s (F d) i ]) parent_d
            ∙ (ap (λ (o : Option ℕ). elim (option_and_then (parent_of s) o) as (λ _. Bool) [ None ↦ false | Some i ↦ is_union s i ]) parent_c
            ∙ ap (λ (o : Option ℕ). elim o as (λ _. Bool) [ None ↦ false | Some i ↦ is_union s i ]) parent_list)

        last_is : is_last_field (W d) s (F d) d ≡ (is_last_in (W d) s (F d) (is_a s p_field) c d && is_last_in (W d) s (F d) (declares_members (W d) s (F d)) list c)
        last_is =
            ap (λ (o : Option ℕ). elim o as (λ _. Bool) [ None ↦ false | Some i ↦ is_last_in (W d) s (F d) (is_a s p_field) i d && elim (parent_of s i) as (λ _. Bool) [ None ↦ false | Some l ↦ is_last_in (W d) s (F d) (declares_members (W d) s (F d)) l i ] ]) parent_d
            ∙ ap (λ (o : Option ℕ). is_last_in (W d) s (F d) (is_a s p_field) c d && elim o as (λ _. Bool) [ None ↦ false | Some l ↦ is_last_in (W d) s (F d) (declares_members (W d) s (F d)) l c ]) parent_c

        last_found : (test : ℕ → Bool) (p i : ℕ) → is_last_in (W d) s (F d) test p i ≡ true → last_where test (children_at s p) ≡ Some i
        last_found test p i e = by (last_where test (children_at s p)) e
          where
            by : (o : Option ℕ) → (elim o as (λ _. Bool) [ None ↦ false | Some last ↦ last == i ]) ≡ true → o ≡ Some i
            by None e = cc
            by (Some last) e = ap Some (eqb-true last i e)

        earlier_is : earlier_parts (W d) s (F d) d ≡ among (F d) pre ++ among (F d) inner
        earlier_is =
            ap (λ (o : Option ℕ). elim o as (λ _. List Part) [ None ↦ [] | Some i ↦ elim (parent_of s i) as (λ _. List Part) [ None ↦ [] | Some l ↦ members_among (W d) s (F d) (all_where (is_before (W d) s (F d) i) (children_at s l)) ] ++ members_among (W d) s (F d) (all_where (is_before (W d) s (F d) d) (children_at s i)) ]) parent_d
            ∙ (ap (λ (o : Option ℕ). elim o as (λ _. List Part) [ None ↦ [] | Some l ↦ members_among (W d) s (F d) (all_where (is_before (W d) s (F d) c) (children_at s l)) ] ++ members_among (W d) s (F d) (all_where (is_before (W d) s (F d) d) (children_at s c))) parent_c
            ∙ (ap (λ (l : List ℕ). members_among (W d) s (F d) l ++ members_among (W d) s (F d) (all_where (is_before (W d) s (F d) d) (children_at s c)))
            (ap (all_where (is_before (W d) s (F d) c)) split ∙ before_is (W d) s (F d) c 0 pre post (subst (Ascend 0) split (families.ascend list)))
            ∙ (ap (λ (l : List ℕ). members_among (W d) s (F d) pre ++ members_among (W d) s (F d) l)
            (ap (all_where (is_before (W d) s (F d) d)) inner_split ∙ before_is (W d) s (F d) d 0 inner outer (subst (Ascend 0) inner_split (families.ascend c)))
            ∙ (ap (λ (ps : List Part). ps ++ members_among (W d) s (F d) inner) (among_same (W d) s (F d) pre) ∙ ap (λ (ps : List Part). among (F d) pre ++ ps) (among_same (W d) s (F d) inner)))))

        fewer : (cs : List ℕ) → length (among (F d) cs) ≤ length (among f cs)
        fewer cs = among_fewer f (F d) cs (λ i. taken_or senses d i)

        -- an array without a length at the end
        flexible_at : (k : ℕ) (m : Part) → d < at → bits_fit m.type m.bits ≡ true → is_flexible_end (W d) s (F d) d m.type ≡ true → k ≡ length (among f pre) + length (among f inner)
            → N ≡ length (among f pre) + (length (parts_of (f c)) + length (among f post)) → length (parts_of (f c)) ≡ length (among f inner) + (1 + length (among f outer)) → FitsAt (extent w) u true k N m
        flexible_at k m below bits e at_is long inner_long = (bits, inr (by m.type e))
          where
            ends : (of : Ctype) → (has_size (W d) of && (not (in_union (W d) s (F d) d) && (is_last_field (W d) s (F d) d && nat_lt 0 (length (earlier_parts (W d) s (F d) d))))) ≡ true
                → (u ≡ false) × (k ≡ 0 → true ≡ false) × (suc k ≡ N) × (is_some (extent w of) ≡ true)
            ends of g =
                let size = left (has_size (W d) of) _ g in
                let rest = right (has_size (W d) of) _ g in
                let no_union = left (not (in_union (W d) s (F d) d)) _ rest in
                let more = right (not (in_union (W d) s (F d) d)) _ rest in
                let last = sym last_is ∙ left (is_last_field (W d) s (F d) d) _ more in
                let some = right (is_last_field (W d) s (F d) d) _ more in
                let last_d = last_found (is_a s p_field) c d (left (is_last_in (W d) s (F d) (is_a s p_field) c d) _ last) in
                let last_c = last_found (declares_members (W d) s (F d)) list c (right (is_last_in (W d) s (F d) (is_a s p_field) c d) _ last) in
                let earlier : 0 < length (earlier_parts (W d) s (F d) d) = grind (arith, nat_tests, some) in
                let so_long : length (earlier_parts (W d) s (F d) d) ≡ length (among (F d) pre) + length (among (F d) inner) = ap length earlier_is ∙ length-append (among (F d) pre) (among (F d) inner) in
                let less_pre = fewer pre in
                let less_inner = fewer inner in
                let none_outer : among f outer ≡ [] =
                among_none f outer (λ r x h.
                let child = in_post c d inner outer inner_split r x h in
                let below_c = first c child.0 x child.1 in
                let c_below = list_child c h_c in
                no_field_none c x member child (omega (arith, below_c, c_below))
                (behind_last (is_a s p_field) inner d outer (subst (Ascend 0) inner_split (families.ascend c)) (ap (last_where (is_a s p_field)) (sym inner_split) ∙ last_d) r x h)) in
                let none_post : among f post ≡ [] =
                among_none f post (λ r x h.
                none_in_list x (in_post list c pre post split r x h)
                (λ is. behind_last (declares_members (W d) s (F d)) pre c post (subst (Ascend 0) split (families.ascend list)) (ap (last_where (declares_members (W d) s (F d))) (sym split) ∙ last_c) r x h)) in
                let zero_outer : length (among f outer) ≡ 0 = ap length none_outer in
                let zero_post : length (among f post) ≡ 0 = ap length none_post in (
                  sym union_is ∙ off (in_union (W d) s (F d) d) no_union,
                  (λ z. absurd (omega (arith, z, at_is, earlier, so_long, less_pre, less_inner))),
                  omega (arith, at_is, long, inner_long, zero_outer, zero_post),
                  some_kept d of below (size_some (extent (W d) of) size),
                )

            by : (t : Ctype) → is_flexible_end (W d) s (F d) d t ≡ true → (u ≡ false) × (k ≡ 0 → true ≡ false) × (suc k ≡ N) × (is_flexible (extent w) t ≡ true)
            by (ArrayOf of None) g = ends of g
            by (ArrayOf of (Some n)) g = cc
            by t g = cc

      -- a member at its place
      module _ (k : ℕ) (m : Part) (o : Origin f (children_at s list) k m) (member : is_a s p_member o.node ≡ true) where
        abbrev c : ℕ
        c = o.node

        own_c : IsChild s list c
        own_c = split_is list c o.pre o.post o.split

        below : c < at
        below = list_child c own_c

        by_field : Origin f (children_at s c) o.place m → (parts_of (f c) ≡ among f (children_at s c)) → FitsAt (extent w) u true k N m
        by_field q same = by (is_a s p_field q.node) refl
          where
            h_d : IsChild s c q.node
            h_d = split_is c q.node q.pre q.post q.split

            d_below : q.node < at
            d_below = let less = first c h_d.0 q.node h_d.1 in omega (arith, less, below)

            of_field : FieldPart q.node q.place m → FitsAt (extent w) u true k N m
            of_field p = by_type p.type
              where
                by_type : (is_some (extent w m.type) ≡ true) ⊎ (is_flexible_end (W q.node) s (F q.node) q.node m.type ≡ true) → FitsAt (extent w) u true k N m
                by_type (inl g) = (p.bits, inl g)
                by_type (inr g) =
                    let a = o.at in
                    let b = q.at in
                    let z = p.place in
                    let one = p.long in
                    let long = q.long in
                    let whole : length (parts_of (f c)) ≡ length (among f (children_at s c)) = ap length same in
                    flexible_at c q.node member o.pre o.post q.pre q.post o.split q.split k m d_below p.bits g (omega (arith, a, b, z)) o.long (omega (arith, whole, long, one))

            by : (b : Bool) → is_a s p_field q.node ≡ b → FitsAt (extent w) u true k N m
            by true is = of_field (field_part q.node q.place m d_below is q.stands)
            by false is = parts_none (parts_of (f q.node)) q.place m (no_field_none c q.node member h_d d_below is) q.stands

        child_same : (r d : ℕ) → slice_get (children_at s c) r ≡ Some d → F c d ≡ f d
        child_same r d h = taken_sense senses c d (first c r d h)

        -- an untagged structure or union
        by_tag : (specs i : ℕ) → child_of s p_specs c ≡ Some specs → untagged_in (W c) s (F c) specs ≡ Some i → (t : Ctype) → type_in_sense (W c) s (F c) (F c i) ≡ Some t → is_some (extent w t) ≡ true
        by_tag specs i child e t typed = by (first_where (λ x. any_where (is_a s p_struct) (children_at s x)) (children_at s specs)) refl e
          where
            specs_below : specs < c
            specs_below = let g = found (is_a s p_specs) (children_at s c) specs child in first c g.place specs g.there

            by : (x : Option ℕ) → first_where (λ x. any_where (is_a s p_struct) (children_at s x)) (children_at s specs) ≡ x
                → option_and_then (λ x. first_where (λ y. is_a s p_struct y && is_none (tag_leaf s y)) (children_at s x)) x ≡ Some i → is_some (extent w t) ≡ true
            by None q r = cc
            by (Some x) q r =
                let g = found (λ x. any_where (is_a s p_struct) (children_at s x)) (children_at s specs) x q in
                let x_below : x < specs = first specs g.place x g.there in
                let h = found (λ y. is_a s p_struct y && is_none (tag_leaf s y)) (children_at s x) i r in
                let i_below : i < x = first x h.place i h.there in
                let less : i < c = omega (arith, specs_below, x_below, i_below) in
                untagged_whole i t (omega (arith, less, below)) (left (is_a s p_struct i) (is_none (tag_leaf s i)) h.passes) (none_is (tag_leaf s i) (right (is_a s p_struct i) (is_none (tag_leaf s i)) h.passes))
                (sym (taken_sense senses c i less) ∙ type_of (F c i) t typed)

        of_type : (x : Option Ctype) → ((t : Ctype) → x ≡ Some t → is_some (extent w t) ≡ true) → unnamed_member (W c) s (F c) c x ≡ Fits (f c) → FitsAt (extent w) u true k N m
        of_type None whole r = absurd (from_none (f c) o.place m (same_given (IsMembers []) (f c) r) o.stands)
        of_type (Some t) whole r =
            let q = given_true _ c _ (f c) r in
            let one = one_part (record { name = None; type = t; bits = None }) m o.place (ap (λ (x : Sense). slice_get (parts_of x) o.place) (same_given _ (f c) q.1) ∙ o.stands) in
            subst (FitsAt (extent w) u true k N) one.1 (refl, inl (whole t refl))

        by_specs : (specs : ℕ) → child_of s p_specs c ≡ Some specs → (b : Bool)
            → (if b then Fits (IsMembers (members_among (W c) s (F c) (children_at s c))) else unnamed_member (W c) s (F c) c (option_and_then (λ i. type_in_sense (W c) s (F c) (F c i)) (untagged_in (W c) s (F c) specs))) ≡ Fits (f c) → FitsAt (extent w) u true k N m
        by_specs specs e true r =
            let same : parts_of (f c) ≡ among f (children_at s c) = ap parts_of (sym (same_given _ (f c) r)) ∙ (among_same (W c) s (F c) (children_at s c) ∙ among_equal (F c) f (children_at s c) child_same) in
            by_field (origin f (children_at s c) o.place m (ap (λ (l : List Part). slice_get l o.place) (sym same) ∙ o.stands)) same
        by_specs specs e false r = of_type (option_and_then (λ i. type_in_sense (W c) s (F c) (F c i)) (untagged_in (W c) s (F c) specs)) whole r
          where
            whole : (t : Ctype) → option_and_then (λ i. type_in_sense (W c) s (F c) (F c i)) (untagged_in (W c) s (F c) specs) ≡ Some t → is_some (extent w t) ≡ true
            whole t q = by (untagged_in (W c) s (F c) specs) refl q
              where
                by : (x : Option ℕ) → untagged_in (W c) s (F c) specs ≡ x → option_and_then (λ i. type_in_sense (W c) s (F c) (F c i)) x ≡ Some t → is_some (extent w t) ≡ true
                by None y z = cc
                by (Some i) y z = by_tag specs i e y t z

        by_declaration : (x : Option ℕ) → child_of s p_specs c ≡ x → member_specs (W c) s (F c) c (children_at s c) x ≡ Fits (f c) → FitsAt (extent w) u true k N m
        by_declaration None e r = absurd (from_none (f c) o.place m (same_given (IsMembers []) (f c) r) o.stands)
        by_declaration (Some specs) e r = by_specs specs e (any_where (is_a s p_field) (children_at s c)) r

        member_fits : FitsAt (extent w) u true k N m
        member_fits = by_declaration (child_of s p_specs c) refl (row_member c below member)

      part_fits : (k : ℕ) (m : Part) → slice_get (among f (children_at s list)) k ≡ Some m → FitsAt (extent w) u true k N m
      part_fits k m e = by (origin f (children_at s list) k m e)
        where
          by : Origin f (children_at s list) k m → FitsAt (extent w) u true k N m
          by o = kind (either (is_leaf s o.node) (is_a s p_member o.node) (families.lists list o.node is_list child))
            where
              child : IsChild s list o.node
              child = split_is list o.node o.pre o.post o.split

              kind : (is_leaf s o.node ≡ true) ⊎ (is_a s p_member o.node ≡ true) → FitsAt (extent w) u true k N m
              kind (inl g) = parts_none (parts_of (f o.node)) o.place m (leaf_none o.node (list_child o.node child) g) o.stands
              kind (inr g) = member_fits k m o g

      all_taken : takes (extent w) u true (among f (children_at s list)) ≡ true
      all_taken = takes_each (extent w) u true (among f (children_at s list)) part_fits

    -- the members of a list that is made
    list_parts : (list : ℕ) (parts : List Part) → list < at → is_a s p_members list ≡ true → f list ≡ IsMembers parts → parts ≡ among f (children_at s list)
    list_parts list parts below is e =
        let r : row_of (W list) s (F list) p_members list (children_at s list) ≡ Fits (f list) = row_there list p_members (omega (arith, below, here)) (production_is list p_members is) in
        let same : IsMembers (members_among (W list) s (F list) (children_at s list)) ≡ IsMembers parts = same_given _ (f list) r ∙ e in
        let inner : members_among (W list) s (F list) (children_at s list) ≡ parts = cc in
        sym inner ∙ (among_same (W list) s (F list) (children_at s list) ∙ among_equal (F list) f (children_at s list) (λ k c h. taken_sense senses list c (first list k c h)))

pub never_untaken : (s : Source) (senses : List Sense) (at : ℕ) → AreSenses s senses → ChildrenFirst s → Families s → at ≡ length senses → IsUntaken s senses at → ⊥
never_untaken s senses at are first families here h =
    let g = found (is_a s p_members) (children_at s at) h.list h.child in
    let below : h.list < at = first at g.place h.list g.there in
    let own : IsChild s at h.list = (g.place, g.there) in
    let parts = list_parts s senses are first families at here h.list h.parts below g.passes h.made in
    let taken = all_taken s senses are first families at here h.list own g.passes in
    no_both (subst (λ (ps : List Part). takes (extent (world_at s senses at)) (is_union s at) true ps ≡ true) (sym parts) taken) h.untaken

-- the row of a specifier is built
pub never_unbuilt : NeverUnbuilt
never_unbuilt s senses at are first differ families here inside struct h =
    never_untaken s senses at are first families here (untaken_alone s senses at are first differ families here inside struct h)
