-- The members of one tag have different names.
use Rattle.std.proofs.Common.{arith, ◌≡◌, ◌==◌, ◌<◌, ◌≤◌, ◌+◌, ℕ, zero, suc, ℤ, int_eq, Bool, true, false, ◌&&◌, ◌||◌, not, List, [], ◌∷◌, ◌++◌, Option, Some, None, length, slice_get, take, refl, sym, ap, ◌∙◌, subst, ◌⊎◌, inl, inr}
use Rattle.std.specs.Prelude.{pos, is_some, nat_lt, option_and_then, if◌then◌else◌}
use Rattle.std.proofs.lemmas.Bool.{eqb-true, eq-eqb}
use Rattle.std.proofs.lemmas.Bool.Decides.{nat_tests}
use Rattle.std.proofs.lemmas.Option.{slice_get-get_or, slice_get_within}
use Rattle.pta_base.specs.declared.kind.Kind.TheVariants.{Operand}
use Rattle.c_grammar.specs.declared.trees.SyntaxNode.{SyntaxNode}
use Rattle.c_grammar.specs.Productions.{p_assert, p_specs, p_struct, p_members, p_member, p_field, p_declarator, p_conditional}
use Rattle.c_grammar.specs.Reads.{leaf}
use Rattle.c_grammar.specs.Terminals.{contains}
use Rattle.c_types.specs.Trees.{Ctype}
use Rattle.c_inits.specs.Made.{Part, TagParts}
use Rattle.c_senses.specs.Names.{source_of, numbered}
use Rattle.c_senses.specs.Given.{Given, Fits, Refuses, given_if, given_some, ◌>>=◌}
use Rattle.c_senses.specs.Tree.{Source, is_a, is_leaf, first_where, any_where, all_where, numbers_from, child_of, children_at, children_of, parent_of, production_at, production_of}
use Rattle.c_senses.specs.World.{World}
use Rattle.c_senses.specs.Constants.{constant_in}
use Rattle.c_senses.specs.Declarators.{derived, specified_at, sense_of_child}
use Rattle.c_senses.specs.Sense.{Sense, Nothing, IsDeclarator, IsMembers, sense_in}
use Rattle.c_senses.specs.Tags.{tag_of, members_among, untagged_in, type_in_sense, unnamed_member, member_specs, is_before, earlier_parts, has_part_named, may_be_member, bit_field, bits_in, width_fits, field_name, is_new_name, named_field, field_typed, field_of, completed_from, members_under}
use Rattle.c_senses.specs.Rows.{world_at, row, row_of, AreSenses}
use Rattle.parsed_tree_laws.specs.family_laws.Families.{IsChild, Families}
use Rattle.parsed_tree_laws.proofs.family_laws.Reading.{units_families}
use Rattle.parsed_tree_laws.specs.member_names.Differ.{PartsDiffer, InOrder, UnitsHaveMembers}
use Rattle.parsed_tree_laws.proofs.member_names.Order.{units_in_order}
use Rattle.parsed_tree_laws.proofs.member_names.Among.{parts_of, among, among_same, among_equal, Origin, origin, clashes, differ_among, has_there, has_first, has_then, has_among}

-- ---- what a row that fits says

some_one : {X : Type 0} → {x y : X} → ◌≡◌ {A = Option X} (Some x) (Some y) → x ≡ y
some_one h = cc

given_true : {A : Type 0} (b : Bool) (n : ℕ) (g : Given A) (x : A) → given_if b Operand n g ≡ Fits x → (b ≡ true) × (g ≡ Fits x)
given_true true n g x e = (refl, e)
given_true false n g x e = cc

same_given : {A : Type 0} (x y : A) → ◌≡◌ {A = Given A} (Fits x) (Fits y) → x ≡ y
same_given x y e = cc

right : (a b : Bool) → (a && b) ≡ true → b ≡ true
right true b e = e
right false b e = cc

either : (a b : Bool) → (a || b) ≡ true → (a ≡ true) ⊎ (b ≡ true)
either true b e = inl refl
either false b e = inr e

never_both : (b : Bool) → not b ≡ true → b ≡ true → ⊥
never_both true e f = cc
never_both false e f = cc

in_list : (list : List ℕ) (i : ℕ) → contains list i ≡ true → (k : ℕ) × (slice_get list k ≡ Some i)
in_list [] i h = cc
in_list (x ∷ list) i h = by (in_list list i) (x == i) refl h
  where
    by : (contains list i ≡ true → (k : ℕ) × (slice_get list k ≡ Some i)) → (b : Bool) → (x == i) ≡ b → (b || contains list i) ≡ true → (k : ℕ) × (slice_get (x ∷ list) k ≡ Some i)
    by rest true e h = (0, ap Some (eqb-true x i e))
    by rest false e h = let more = rest h in (suc more.0, more.1)

list_in : (list : List ℕ) (k i : ℕ) → slice_get list k ≡ Some i → contains list i ≡ true
list_in [] k i h = cc
list_in (x ∷ list) zero i h = let same : x ≡ i = cc in ap (λ (b : Bool). b || contains list i) (eq-eqb x i same)
list_in (x ∷ list) (suc k) i h = by (x == i) (list_in list k i h)
  where
    by : (b : Bool) → contains list i ≡ true → (b || contains list i) ≡ true
    by true e = refl
    by false e = e

-- what is found first stands there, and passes
record IsFound (test : ℕ → Bool) (xs : List ℕ) (c : ℕ) : Type 0 where
  place : ℕ
  there : slice_get xs place ≡ Some c
  passes : test c ≡ true

found : (test : ℕ → Bool) (xs : List ℕ) (c : ℕ) → first_where test xs ≡ Some c → IsFound test xs c
found test [] c e = cc
found test (x ∷ xs) c e = by (λ f. found test xs c f) (test x) refl e
  where
    by : (first_where test xs ≡ Some c → IsFound test xs c) → (b : Bool) → test x ≡ b → (if b then Some x else first_where test xs) ≡ Some c → IsFound test (x ∷ xs) c
    by rest true h f = let same : x ≡ c = cc in record { place = 0; there = ap Some same; passes = ap test (sym same) ∙ h }
    by rest false h f = let r = rest f in record { place = suc r.place; there = r.there; passes = r.passes }

-- among numbers one is found where one passes
some_found : (test : ℕ → Bool) (k n j : ℕ) → k ≤ j → j < k + n → test j ≡ true → (i : ℕ) × (first_where test (numbers_from k n) ≡ Some i) × (test i ≡ true)
some_found test k zero j low high h = absurd (omega (arith, low, high))
some_found test k (suc n) j low high h = by (λ l. some_found test (suc k) n j l (omega (arith, high)) h) (test k) refl
  where
    differs : test k ≡ false → k ≡ j → ⊥
    differs e same = let f : test k ≡ true = ap test same ∙ h in cc

    by : (suc k ≤ j → (i : ℕ) × (first_where test (numbers_from (suc k) n) ≡ Some i) × (test i ≡ true)) → (b : Bool) → test k ≡ b → (i : ℕ) × ((if b then Some k else first_where test (numbers_from (suc k) n)) ≡ Some i) × (test i ≡ true)
    by rest true e = (k, refl, e)
    by rest false e = let apart = differs e in rest (omega (arith, low, apart))

taken_sense : (xs : List Sense) (n k : ℕ) → k < n → sense_in (take n xs) k ≡ sense_in xs k
taken_sense xs zero k h = absurd (omega (arith, h))
taken_sense [] (suc n) k h = refl
taken_sense (x ∷ xs) (suc n) zero h = refl
taken_sense (x ∷ xs) (suc n) (suc k) h = taken_sense xs n k (omega (arith, h))

nodes_there : (nodes : List SyntaxNode) (i : ℕ) → i < length nodes → (n : SyntaxNode) × (slice_get nodes i ≡ Some n)
nodes_there [] i h = absurd (omega (arith, h))
nodes_there (n ∷ rest) zero h = (n, refl)
nodes_there (n ∷ rest) (suc i) h = nodes_there rest i (omega (arith, h))

child_inside : (o : Option SyntaxNode) (nodes : List SyntaxNode) (p k c : ℕ) → slice_get nodes p ≡ o → slice_get (children_of o) k ≡ Some c → p < length nodes
child_inside None nodes p k c e h = cc
child_inside (Some n) nodes p k c e h = slice_get_within nodes p n e

-- where no number is below a length, nothing stands
sense_inside : (xs : List Sense) (i : ℕ) (x : Sense) → sense_in xs i ≡ x → (x ≡ Nothing → ⊥) → i < length xs
sense_inside [] i x e never = absurd (never (sym e))
sense_inside (y ∷ xs) zero x e never = omega arith
sense_inside (y ∷ xs) (suc i) x e never = let h = sense_inside xs i x e never in omega (arith, h)

none_differ : (parts : List Part) → parts ≡ [] → PartsDiffer parts
none_differ parts e = subst PartsDiffer (sym e) (record { once = λ i j m n name f g p q. cc })

one_differs : (p : Part) → PartsDiffer (p ∷ [])
one_differs p = record { once = once }
  where
    once : (i j : ℕ) (m n : Part) (name : List ℕ) → slice_get (p ∷ []) i ≡ Some m → slice_get (p ∷ []) j ≡ Some n → m.name ≡ Some name → n.name ≡ Some name → i ≡ j
    once zero zero m n name e f g h = refl
    once zero (suc j) m n name e f g h = cc
    once (suc i) j m n name e f g h = cc

module _ (s : Source) (senses : List Sense) (are : AreSenses s senses) (order : InOrder s) (families : Families s) where
  abbrev f : ℕ → Sense
  f = sense_in senses

  abbrev F : ℕ → ℕ → Sense
  F i = sense_in (take i senses)

  abbrev W : ℕ → World
  W i = world_at s (take i senses) i

  row_there : (i q : ℕ) → i < length senses → production_at s i ≡ q → row_of (W i) s (F i) q i (children_at s i) ≡ Fits (f i)
  row_there i q inside p =
      let n = nodes_there s.nodes i (let long = are.within in omega (arith, inside, long)) in
      let fits : row s (take i senses) i n.0 ≡ Fits (f i) = are.each i n.0 (f i) n.1 (slice_get-get_or senses i Nothing inside) in
      subst (λ (x : ℕ). row_of (W i) s (F i) x i (children_at s i) ≡ Fits (f i)) p
      (subst (λ (o : Option SyntaxNode). row_of (W i) s (F i) (production_of o) i (children_of o) ≡ Fits (f i)) (sym n.1) fits)

  production_is : (i p : ℕ) → is_a s p i ≡ true → production_at s i ≡ p
  production_is i p h = eqb-true (production_at s i) p h

  parent_is : (p c : ℕ) → IsChild s p c → parent_of s c ≡ Some p
  parent_is p c h =
      let inside : p < length s.nodes = child_inside (slice_get s.nodes p) s.nodes p h.0 c refl h.1 in
      let first = some_found (λ q. contains (children_at s q) c) 0 (length s.nodes) p (omega arith) (omega (arith, inside)) (list_in (children_at s p) h.0 c h.1) in
      let other = in_list (children_at s first.0) c first.2 in
      let same : first.0 ≡ p = families.single first.0 p c other h in
      first.1 ∙ ap Some same

  -- what has no members
  leaf_none : (c : ℕ) → c < length senses → is_leaf s c ≡ true → parts_of (f c) ≡ []
  leaf_none c h is =
      let r : row_of (W c) s (F c) leaf c (children_at s c) ≡ Fits (f c) = row_there c leaf h (production_is c leaf is) in
      ap parts_of (sym (same_given Nothing (f c) r))

  specs_none : (c : ℕ) → c < length senses → is_a s p_specs c ≡ true → parts_of (f c) ≡ []
  specs_none c h is =
      let r : row_of (W c) s (F c) p_specs c (children_at s c) ≡ Fits (f c) = row_there c p_specs h (production_is c p_specs is) in
      let g = given_true _ c _ (f c) r in
      ap parts_of (sym (same_given _ (f c) g.1))

  assert_none : (c : ℕ) → c < length senses → is_a s p_assert c ≡ true → parts_of (f c) ≡ []
  assert_none c h is =
      let r : row_of (W c) s (F c) p_assert c (children_at s c) ≡ Fits (f c) = row_there c p_assert h (production_is c p_assert is) in
      by (child_of s p_conditional c) r
    where
      value : (g : Given ℤ) → (g >>= (λ n. given_if (not (int_eq n (pos 0))) Operand c (Fits Nothing))) ≡ Fits (f c) → parts_of (f c) ≡ []
      value (Fits n) e = let g = given_true (not (int_eq n (pos 0))) c (Fits Nothing) (f c) e in ap parts_of (sym (same_given Nothing (f c) g.1))
      value (Refuses kind node) e = cc

      by : (o : Option ℕ) → (given_some o Operand c >>= (λ d. constant_in (W c) s c (F c d) >>= (λ n. given_if (not (int_eq n (pos 0))) Operand c (Fits Nothing)))) ≡ Fits (f c) → parts_of (f c) ≡ []
      by None e = cc
      by (Some d) e = value (constant_in (W c) s c (F c d)) e

  -- ---- fields

  -- a field has one member at most, whose name is new
  pub record FieldNames (c : ℕ) : Type 0 where
    differ : PartsDiffer (parts_of (f c))
    pub few : length (parts_of (f c)) ≤ 1
    new : (j : ℕ) (m : Part) (name : List ℕ) → slice_get (parts_of (f c)) j ≡ Some m → m.name ≡ Some name → is_new_name (W c) s (F c) c (Some name) ≡ true

  from_none : (c : ℕ) → IsMembers [] ≡ f c → FieldNames c
  from_none c is =
      let none : parts_of (f c) ≡ [] = ap parts_of (sym is) in
      let zero_long : length (parts_of (f c)) ≡ 0 = ap length none in
      record { differ = none_differ (parts_of (f c)) none; few = omega (arith, zero_long); new = λ j m name e n. absurd (let never : slice_get (parts_of (IsMembers [])) j ≡ Some m = ap (λ (y : Sense). slice_get (parts_of y) j) is ∙ e in cc) }

  one_part : (p m : Part) (j : ℕ) → slice_get (p ∷ []) j ≡ Some m → p ≡ m
  one_part p m zero e = cc
  one_part p m (suc j) e = cc

  from_one : (c : ℕ) (p : Part) → IsMembers (p ∷ []) ≡ f c → is_new_name (W c) s (F c) c p.name ≡ true → FieldNames c
  from_one c p is new = record {
    differ = subst (λ (x : Sense). PartsDiffer (parts_of x)) is (one_differs p);
    few = (let long : length (parts_of (f c)) ≡ 1 = ap (λ (x : Sense). length (parts_of x)) (sym is) in omega (arith, long));
    new = λ j m name e n.
        let same : p ≡ m = one_part p m j (ap (λ (x : Sense). slice_get (parts_of x) j) is ∙ e) in
        subst (λ (o : Option (List ℕ)). is_new_name (W c) s (F c) c o ≡ true) (ap (λ (q : Part). q.name) same ∙ n) new;
  }

  bits_names : (c named : ℕ) (name : Option (List ℕ)) (t : Ctype) (n : ℤ) (most : ℕ) → is_new_name (W c) s (F c) c name ≡ true → bit_field (W c) s (F c) named name t n most ≡ Fits (f c) → FieldNames c
  bits_names c named name t n most new e = by (width_fits most (is_some name) n) e
    where
      by_zero : (k : ℕ) (b : Bool) → (if b then Fits (IsMembers []) else Fits (IsMembers (record { name = name; type = t; bits = Some k } ∷ []))) ≡ Fits (f c) → FieldNames c
      by_zero k true r = from_none c (same_given (IsMembers []) (f c) r)
      by_zero k false r = from_one c (record { name = name; type = t; bits = Some k }) (same_given _ (f c) r) new

      by : (o : Option ℕ) → (given_some o Operand named >>= (λ k. if k == 0 then Fits (IsMembers []) else Fits (IsMembers (record { name = name; type = t; bits = Some k } ∷ [])))) ≡ Fits (f c) → FieldNames c
      by None r = cc
      by (Some k) r = by_zero k (k == 0) r

  typed_names : (c : ℕ) (lf : Option ℕ) (t : Ctype) (width : Option ℕ) → field_typed (W c) s (F c) c lf t width ≡ Fits (f c) → FieldNames c
  typed_names c lf t None e =
      let r = given_true (may_be_member (W c) s (F c) c t && is_new_name (W c) s (F c) c (field_name (W c) s (F c) lf)) (named_field (W c) s (F c) c lf) _ (f c) e in
      from_one c (record { name = field_name (W c) s (F c) lf; type = t; bits = None }) (same_given _ (f c) r.1) (right (may_be_member (W c) s (F c) c t) (is_new_name (W c) s (F c) c (field_name (W c) s (F c) lf)) r.0)
  typed_names c lf t (Some width) e = by (bits_in t) e
    where
      value : (most : ℕ) (v : Given ℤ) → (v >>= (λ n. given_if (is_new_name (W c) s (F c) c (field_name (W c) s (F c) lf)) Operand (named_field (W c) s (F c) c lf) (bit_field (W c) s (F c) (named_field (W c) s (F c) c lf) (field_name (W c) s (F c) lf) t n most))) ≡ Fits (f c) → FieldNames c
      value most (Fits n) r =
          let q = given_true (is_new_name (W c) s (F c) c (field_name (W c) s (F c) lf)) (named_field (W c) s (F c) c lf) _ (f c) r in
          bits_names c (named_field (W c) s (F c) c lf) (field_name (W c) s (F c) lf) t n most q.0 q.1
      value most (Refuses kind node) r = cc

      by : (o : Option ℕ)
          → (given_some o Operand (named_field (W c) s (F c) c lf) >>= (λ most. constant_in (W c) s c (F c width) >>= (λ n. given_if (is_new_name (W c) s (F c) c (field_name (W c) s (F c) lf)) Operand (named_field (W c) s (F c) c lf) (bit_field (W c) s (F c) (named_field (W c) s (F c) c lf) (field_name (W c) s (F c) lf) t n most)))) ≡ Fits (f c) → FieldNames c
      by None r = cc
      by (Some most) r = value most (constant_in (W c) s c (F c width)) r

  of_names : (c : ℕ) (o : Option Ctype) (x : Sense) → field_of (W c) s (F c) c o x ≡ Fits (f c) → FieldNames c
  of_names c None x e = cc
  of_names c (Some base) (IsDeclarator name ds) e = typed_names c name (derived ds base) (child_of s p_conditional c) e
  of_names c (Some base) x e = typed_names c None base (child_of s p_conditional c) e

  pub field_names : (c : ℕ) → c < length senses → is_a s p_field c ≡ true → FieldNames c
  field_names c h is =
      let r : row_of (W c) s (F c) p_field c (children_at s c) ≡ Fits (f c) = row_there c p_field h (production_is c p_field is) in
      of_names c (specified_at (W c) s (F c) (option_and_then (child_of s p_specs) (parent_of s c))) (sense_of_child (W c) s (F c) p_declarator c) r

  -- ---- the members before a field

  module _ (list c d : ℕ) (own : IsChild s list c) (field : IsChild s c d) where
    earlier_is : earlier_parts (W d) s (F d) d ≡ members_among (W d) s (F d) (all_where (is_before (W d) s (F d) c) (children_at s list)) ++ members_among (W d) s (F d) (all_where (is_before (W d) s (F d) d) (children_at s c))
    earlier_is =
        ap (λ (o : Option ℕ). elim o as (λ _. List Part) [ None ↦ [] | Some i ↦ elim (parent_of s i) as (λ _. List Part) [ None ↦ [] | Some l ↦ members_among (W d) s (F d) (all_where (is_before (W d) s (F d) i) (children_at s l)) ] ++ members_among (W d) s (F d) (all_where (is_before (W d) s (F d) d) (children_at s i)) ]) (parent_is c d field)
        ∙ ap (λ (o : Option ℕ). elim o as (λ _. List Part) [ None ↦ [] | Some l ↦ members_among (W d) s (F d) (all_where (is_before (W d) s (F d) c) (children_at s l)) ] ++ members_among (W d) s (F d) (all_where (is_before (W d) s (F d) d) (children_at s c))) (parent_is list c own)

    less : (a b : ℕ) → a < b → nat_lt a b ≡ true
    less a b h = grind (arith, nat_tests, h)

    named_before : (x j : ℕ) (m : Part) (name : List ℕ) → x < d → slice_get (parts_of (f x)) j ≡ Some m → m.name ≡ Some name → has_part_named (W d) s (F d) name (parts_of (F d x)) ≡ true
    named_before x j m name h e n = has_there (W d) s (F d) name (parts_of (F d x)) j m (ap (λ (y : Sense). slice_get (parts_of y) j) (taken_sense senses d x h) ∙ e) n

    -- in an earlier declaration of members, or before it in its own
    in_list_before : (x j : ℕ) (m : Part) (name : List ℕ) → IsChild s list x → x < c → slice_get (parts_of (f x)) j ≡ Some m → m.name ≡ Some name → has_part_named (W d) s (F d) name (earlier_parts (W d) s (F d) d) ≡ true
    in_list_before x j m name there h e n =
        let before : x < d = order.behind list x c d there own h field in
        let has = has_among (W d) s (F d) name (is_before (W d) s (F d) c) (children_at s list) there.0 x there.1 (less x c h) (named_before x j m name before e n) in
        subst (λ (ps : List Part). has_part_named (W d) s (F d) name ps ≡ true) (sym earlier_is) (has_first (W d) s (F d) name (members_among (W d) s (F d) (all_where (is_before (W d) s (F d) c) (children_at s list))) (members_among (W d) s (F d) (all_where (is_before (W d) s (F d) d) (children_at s c))) has)

    in_own_before : (x j : ℕ) (m : Part) (name : List ℕ) → IsChild s c x → x < d → slice_get (parts_of (f x)) j ≡ Some m → m.name ≡ Some name → has_part_named (W d) s (F d) name (earlier_parts (W d) s (F d) d) ≡ true
    in_own_before x j m name there h e n =
        let has = has_among (W d) s (F d) name (is_before (W d) s (F d) d) (children_at s c) there.0 x there.1 (less x d h) (named_before x j m name h e n) in
        subst (λ (ps : List Part). has_part_named (W d) s (F d) name ps ≡ true) (sym earlier_is) (has_then (W d) s (F d) name (members_among (W d) s (F d) (all_where (is_before (W d) s (F d) c) (children_at s list))) (members_among (W d) s (F d) (all_where (is_before (W d) s (F d) d) (children_at s c))) has)

    never_again : (j : ℕ) (m : Part) (name : List ℕ) → FieldNames d → slice_get (parts_of (f d)) j ≡ Some m → m.name ≡ Some name → has_part_named (W d) s (F d) name (earlier_parts (W d) s (F d) d) ≡ true → ⊥
    never_again j m name names e n has = never_both (has_part_named (W d) s (F d) name (earlier_parts (W d) s (F d) d)) (names.new j m name e n) has

  -- ---- a declaration of members

  nothing_in : (ps : List Part) (j : ℕ) (m : Part) → ps ≡ [] → slice_get ps j ≡ Some m → ⊥
  nothing_in [] j m e g = cc
  nothing_in (p ∷ ps) j m e g = cc

  -- a part of a declaration of members is a field, or has no members
  pub part_of_member : (p c : ℕ) → is_a s p_member p ≡ true → IsChild s p c → c < length senses → (is_a s p_field c ≡ true) ⊎ (parts_of (f c) ≡ [])
  part_of_member p c is h below = by (either (is_leaf s c) (is_a s p_assert c || (is_a s p_specs c || is_a s p_field c)) (families.members p c is h))
    where
      by_specs : (is_a s p_specs c ≡ true) ⊎ (is_a s p_field c ≡ true) → (is_a s p_field c ≡ true) ⊎ (parts_of (f c) ≡ [])
      by_specs (inl g) = inr (specs_none c below g)
      by_specs (inr g) = inl g

      by_assert : (is_a s p_assert c ≡ true) ⊎ ((is_a s p_specs c || is_a s p_field c) ≡ true) → (is_a s p_field c ≡ true) ⊎ (parts_of (f c) ≡ [])
      by_assert (inl g) = inr (assert_none c below g)
      by_assert (inr g) = by_specs (either (is_a s p_specs c) (is_a s p_field c) g)

      by : (is_leaf s c ≡ true) ⊎ ((is_a s p_assert c || (is_a s p_specs c || is_a s p_field c)) ≡ true) → (is_a s p_field c ≡ true) ⊎ (parts_of (f c) ≡ [])
      by (inl g) = inr (leaf_none c below g)
      by (inr g) = by_assert (either (is_a s p_assert c) (is_a s p_specs c || is_a s p_field c) g)

  -- its members are those of its fields, or one without a name, or none
  abbrev pub MemberParts : ℕ → Type 0
  MemberParts c = (parts_of (f c) ≡ among f (children_at s c)) ⊎ (((p : Part) × (parts_of (f c) ≡ p ∷ []) × (p.name ≡ None)) ⊎ (parts_of (f c) ≡ []))

  pub member_parts : (c : ℕ) → c < length senses → is_a s p_member c ≡ true → MemberParts c
  member_parts c h is = by_declaration (child_of s p_specs c) (row_there c p_member h (production_is c p_member is))
    where
      of_type : (x : Option Ctype) → unnamed_member (W c) s (F c) c x ≡ Fits (f c) → MemberParts c
      of_type None r = inr (inr (ap parts_of (sym (same_given (IsMembers []) (f c) r))))
      of_type (Some t) r =
          let q = given_true _ c _ (f c) r in
          inr (inl (record { name = None; type = t; bits = None }, ap parts_of (sym (same_given _ (f c) q.1)), refl))

      by_specs : (specs : ℕ) (b : Bool)
          → (if b then Fits (IsMembers (members_among (W c) s (F c) (children_at s c))) else unnamed_member (W c) s (F c) c (option_and_then (λ i. type_in_sense (W c) s (F c) (F c i)) (untagged_in (W c) s (F c) specs))) ≡ Fits (f c) → MemberParts c
      by_specs specs true r =
          inl (ap parts_of (sym (same_given _ (f c) r)) ∙ (among_same (W c) s (F c) (children_at s c) ∙ among_equal (F c) f (children_at s c) (λ k d e. taken_sense senses c d (order.below c d (k, e)))))
      by_specs specs false r = of_type (option_and_then (λ i. type_in_sense (W c) s (F c) (F c i)) (untagged_in (W c) s (F c) specs)) r

      by_declaration : (x : Option ℕ) → member_specs (W c) s (F c) c (children_at s c) x ≡ Fits (f c) → MemberParts c
      by_declaration None r = inr (inr (ap parts_of (sym (same_given (IsMembers []) (f c) r))))
      by_declaration (Some specs) r = by_specs specs (any_where (is_a s p_field) (children_at s c)) r

  module _ (list : ℕ) (inside : list < length senses) (is_list : is_a s p_members list ≡ true) where
    child_below : (i c : ℕ) → i ≤ list → IsChild s i c → c < length senses
    child_below i c le h = let lt = order.below i c h in omega (arith, lt, le, inside)

    -- of one declaration
    module _ (c : ℕ) (own : IsChild s list c) (member : is_a s p_member c ≡ true) where
      under : (d : ℕ) → IsChild s c d → d < length senses
      under d h = let lt = order.below list c own in child_below c d (omega (arith, lt)) h

      fields_differ : PartsDiffer (among f (children_at s c))
      fields_differ =
          differ_among f (children_at s c) (families.ascend c)
          (λ r d e. elim (part_of_member c d member (r, e) (under d (r, e))) [ inl is ↦ (field_names d (under d (r, e)) is).differ | inr none ↦ none_differ (parts_of (f d)) none ])
          (clashes f (children_at s c)
          (λ r q x d i j m n name e g lt h k p o.
          elim (part_of_member c d member (q, g) (under d (q, g))) [
            | inl is ↦ never_again list c d own (q, g) j n name (field_names d (under d (q, g)) is) k o (in_own_before list c d own (q, g) x i m name (r, e) lt h p)
            | inr none ↦ nothing_in (parts_of (f d)) j n none k
          ]))

      member_differs : PartsDiffer (parts_of (f c))
      member_differs = by (member_parts c (child_below list c (omega arith) own) member)
        where
          by : MemberParts c → PartsDiffer (parts_of (f c))
          by (inl same) = subst PartsDiffer (sym same) fields_differ
          by (inr (inl one)) = subst PartsDiffer (sym one.1) (one_differs one.0)
          by (inr (inr none)) = none_differ (parts_of (f c)) none

      -- a named member is that of a field
      named_field_of : (j : ℕ) (n : Part) (name : List ℕ) → slice_get (parts_of (f c)) j ≡ Some n → n.name ≡ Some name → (d : ℕ) × IsChild s c d × FieldNames d × ((i : ℕ) × (slice_get (parts_of (f d)) i ≡ Some n))
      named_field_of j n name e is = by (member_parts c (child_below list c (omega arith) own) member)
        where
          by_origin : Origin f (children_at s c) j n → (d : ℕ) × IsChild s c d × FieldNames d × ((i : ℕ) × (slice_get (parts_of (f d)) i ≡ Some n))
          by_origin o = elim (part_of_member c o.node member (o.rank, o.there) (under o.node (o.rank, o.there))) [
            | inl field ↦ (o.node, (o.rank, o.there), field_names o.node (under o.node (o.rank, o.there)) field, (o.place, o.stands))
            | inr none ↦ absurd (nothing_in (parts_of (f o.node)) o.place n none o.stands)
          ]

          by : MemberParts c → (d : ℕ) × IsChild s c d × FieldNames d × ((i : ℕ) × (slice_get (parts_of (f d)) i ≡ Some n))
          by (inl same) = by_origin (origin f (children_at s c) j n (ap (λ (ps : List Part). slice_get ps j) (sym same) ∙ e))
          by (inr (inl one)) =
              let same : one.0 ≡ n = one_part one.0 n j (ap (λ (ps : List Part). slice_get ps j) (sym one.1) ∙ e) in
              absurd (let never : ◌≡◌ {A = Option (List ℕ)} None (Some name) = sym one.2 ∙ (ap (λ (q : Part). q.name) same ∙ is) in cc)
          by (inr (inr none)) = absurd (nothing_in (parts_of (f c)) j n none e)

    pub list_part : (c : ℕ) → IsChild s list c → (is_a s p_member c ≡ true) ⊎ (parts_of (f c) ≡ [])
    list_part c h = by (either (is_leaf s c) (is_a s p_member c) (families.lists list c is_list h))
      where
        by : (is_leaf s c ≡ true) ⊎ (is_a s p_member c ≡ true) → (is_a s p_member c ≡ true) ⊎ (parts_of (f c) ≡ [])
        by (inl g) = inr (leaf_none c (child_below list c (omega arith) h) g)
        by (inr g) = inl g

    list_differs : PartsDiffer (among f (children_at s list))
    list_differs =
        differ_among f (children_at s list) (families.ascend list)
        (λ r c e. elim (list_part c (r, e)) [ inl member ↦ member_differs c (r, e) member | inr none ↦ none_differ (parts_of (f c)) none ])
        (clashes f (children_at s list)
        (λ r q x c i j m n name e g lt h k p o.
        elim (list_part c (q, g)) [
          | inl member ↦
              let (d, field, names, (i', k')) = named_field_of c (q, g) member j n name k o in
              never_again list c d (q, g) field i' n name names k' o (in_list_before list c d (q, g) field x i m name (r, e) lt h p)
          | inr none ↦ nothing_in (parts_of (f c)) j n none k
        ]))

    -- the members of a list that is made
    list_parts : (parts : List Part) → f list ≡ IsMembers parts → parts ≡ among f (children_at s list)
    list_parts parts e =
        let r : row_of (W list) s (F list) p_members list (children_at s list) ≡ Fits (f list) = row_there list p_members inside (production_is list p_members is_list) in
        let same : IsMembers (members_among (W list) s (F list) (children_at s list)) ≡ IsMembers parts = same_given _ (f list) r ∙ e in
        let inner : members_among (W list) s (F list) (children_at s list) ≡ parts = cc in
        sym inner ∙ (among_same (W list) s (F list) (children_at s list) ∙ among_equal (F list) f (children_at s list) (λ k c h. taken_sense senses list c (order.below list c (k, h))))

  entry_differs : (list : ℕ) (parts : List Part) → is_a s p_members list ≡ true → f list ≡ IsMembers parts → PartsDiffer parts
  entry_differs list parts is e =
      let inside : list < length senses = sense_inside senses list (IsMembers parts) e (λ never. cc) in
      subst PartsDiffer (sym (list_parts list inside is parts e)) (list_differs list inside is)

  -- the members of a list that is made, of which something is shown
  pub entry_of : (P : List Part → Type 0) → ((list : ℕ) → list < length senses → is_a s p_members list ≡ true → P (among f (children_at s list))) → (list : ℕ) (parts : List Part) → is_a s p_members list ≡ true → f list ≡ IsMembers parts → P parts
  entry_of P each list parts is e =
      let inside : list < length senses = sense_inside senses list (IsMembers parts) e (λ never. cc) in
      subst P (sym (list_parts list inside is parts e)) (each list inside is)

  -- the members of completed tags
  module _ (P : List Part → Type 0) (each : (list : ℕ) (parts : List Part) → is_a s p_members list ≡ true → f list ≡ IsMembers parts → P parts) where
    module _ (xs : List Sense) (i tag : ℕ) (parts : List Part) (rest : members_under (completed_from s xs f (suc i)) tag ≡ Some parts → P parts) where
      by_tag : (b : Bool) (own : List Part) → P own → (if b then Some own else members_under (completed_from s xs f (suc i)) tag) ≡ Some parts → P parts
      by_tag true own h g = subst P (some_one g) h
      by_tag false own h g = rest g

      by_sense : (list : ℕ) → is_a s p_members list ≡ true → (y : Sense) → f list ≡ y
          → members_under (elim y as (λ _. List TagParts) [ IsMembers own ↦ record { tag = tag_of s i; members = own } ∷ completed_from s xs f (suc i) | _ ↦ completed_from s xs f (suc i) ]) tag ≡ Some parts → P parts
      by_sense list is (IsMembers own) q g = by_tag (tag_of s i == tag) own (each list own is q) g
      by_sense list is y q g = rest g

      by_list : (o : Option ℕ) → child_of s p_members i ≡ o
          → members_under (elim o as (λ _. List TagParts) [
            | None ↦ completed_from s xs f (suc i)
            | Some list ↦ elim (f list) as (λ _. List TagParts) [ IsMembers own ↦ record { tag = tag_of s i; members = own } ∷ completed_from s xs f (suc i) | _ ↦ completed_from s xs f (suc i) ]
          ]) tag ≡ Some parts → P parts
      by_list None q g = rest g
      by_list (Some list) q g = by_sense list (found (is_a s p_members) (children_at s i) list q).passes (f list) refl g

      by_struct : (b : Bool)
          → members_under (elim (if b then child_of s p_members i else None) as (λ _. List TagParts) [
            | None ↦ completed_from s xs f (suc i)
            | Some list ↦ elim (f list) as (λ _. List TagParts) [ IsMembers own ↦ record { tag = tag_of s i; members = own } ∷ completed_from s xs f (suc i) | _ ↦ completed_from s xs f (suc i) ]
          ]) tag ≡ Some parts → P parts
      by_struct true g = by_list (child_of s p_members i) refl g
      by_struct false g = rest g

    pub under_each : (xs : List Sense) (i tag : ℕ) (parts : List Part) → members_under (completed_from s xs f i) tag ≡ Some parts → P parts
    under_each [] i tag parts e = cc
    under_each (x ∷ xs) i tag parts e = by_struct xs i tag parts (λ g. under_each xs (suc i) tag parts g) (is_a s p_struct i) e

pub units_members : UnitsHaveMembers
units_members tokens unit tree tag_number senses tag parts cut read are e =
    let s : Source = numbered tag_number (source_of tokens tree) in
    let order = units_in_order tokens unit tree tag_number read in
    let families = units_families tokens unit tree tag_number cut read in
    under_each s senses are order families PartsDiffer (entry_differs s senses are order families) senses 0 tag parts e
