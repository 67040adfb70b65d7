-- A structure or union that some specifier completes is complete at the end.
use Rattle.std.proofs.Common.{arith, ◌≡◌, ◌<◌, ◌≤◌, ◌+◌, ◌==◌, ℕ, zero, suc, nat_eq, Bool, true, false, ◌&&◌, ◌||◌, List, [], ◌∷◌, length, Option, Some, None, refl, sym, ap, ◌∙◌, subst}
use Rattle.std.specs.Prelude.{is_some, if◌then◌else◌}
use Rattle.std.proofs.lemmas.Bool.{eqb-true, eqb-false}
use Rattle.c_types.specs.declared.term.MemberTerm.{MemberTerm}
use Rattle.c_types.specs.Trees.{StructureOf, UnionOf}
use Rattle.c_types.specs.Table.{members_in}
use Rattle.type_rules.specs.Sizes.{IsObject}
use Rattle.c_grammar.specs.Productions.{p_struct, p_members}
use Rattle.core_tree.specs.declared.node.Unit.{Unit}
use Rattle.core_nodes.specs.Standing.{Knows}
use Rattle.c_inits.specs.Made.{Part, TagParts}
use Rattle.c_inits.specs.Tables.{parts_in}
use Rattle.c_senses.specs.Given.{Given, Fits}
use Rattle.c_senses.specs.Tree.{Source, is_a, children_at, child_of, any_where, numbers_from, all_nodes}
use Rattle.c_senses.specs.Tags.{tag_of, completed_from, members_under}
use Rattle.c_senses.specs.Rows.{world_at, AreSenses}
use Rattle.c_senses.specs.Sense.{Sense, IsMembers, sense_in}
use Rattle.parsed_tree_laws.specs.sense_laws.Senses.{ChildrenFirst}
use Rattle.core_node_laws.proofs.standing_laws.Climbing.{found_where, in_list}
use Rattle.core_node_laws.proofs.built_unit_laws.run_laws.Times.{row_as}
use Rattle.core_node_laws.proofs.built_unit_laws.run_laws.Running.{first_in}
use Rattle.core_node_laws.proofs.built_unit_laws.value_laws.Shapes.{structure_complete, union_complete}

both : (a b : Bool) → (a && b) ≡ true → (a ≡ true) × (b ≡ true)
both true b e = (refl, e)
both false b e = cc

fits_same : {x y : Sense} → ◌≡◌ {A = Given Sense} (Fits x) (Fits y) → x ≡ y
fits_same e = cc

some_of : {A : Type 0} (o : Option A) → is_some o ≡ true → (x : A) × (o ≡ Some x)
some_of (Some x) h = (x, refl)
some_of None h = cc

-- a number that passes
any_found : (test : ℕ → Bool) (k n : ℕ) → any_where test (numbers_from k n) ≡ true → (i : ℕ) × (k ≤ i) × (i < k + n) × (test i ≡ true)
any_found test k zero h = cc
any_found test k (suc n) h = by (test k) refl h (λ g. any_found test (suc k) n g)
  where
    by : (b : Bool) → test k ≡ b → (b || any_where test (numbers_from (suc k) n)) ≡ true → (any_where test (numbers_from (suc k) n) ≡ true → (i : ℕ) × (suc k ≤ i) × (i < suc k + n) × (test i ≡ true)) → (i : ℕ) × (k ≤ i) × (i < k + suc n) × (test i ≡ true)
    by true e g later = (k, omega arith, omega arith, e)
    by false e g later = let f = later g in (f.0, (let a = f.1 in omega (arith, a)), (let a = f.2 in omega (arith, a)), f.3)

module _ (s : Source) (f : ℕ → Sense) (tag : ℕ) where
  abbrev Has : List TagParts → Type 0
  Has list = is_some (members_under list tag) ≡ true

  one_more : (t : ℕ) (ps : List Part) (rest : List TagParts) → Has rest → Has (record { tag = t; members = ps } ∷ rest)
  one_more t ps rest h = by (t == tag)
    where
      by : (b : Bool) → is_some (if b then Some ps else members_under rest tag) ≡ true
      by true = refl
      by false = h

  abbrev with_sense : ℕ → List TagParts → Sense → List TagParts
  with_sense k rest x = elim x as (λ _. List TagParts) [ IsMembers ps ↦ record { tag = tag_of s k; members = ps } ∷ rest | _ ↦ rest ]

  abbrev with_list : ℕ → List TagParts → Option ℕ → List TagParts
  with_list k rest o = elim o as (λ _. List TagParts) [ None ↦ rest | Some list ↦ with_sense k rest (f list) ]

  sense_keeps : (k : ℕ) (rest : List TagParts) → Has rest → (x : Sense) → Has (with_sense k rest x)
  sense_keeps k rest h (IsMembers ps) = one_more (tag_of s k) ps rest h
  sense_keeps k rest h x = h

  list_keeps : (k : ℕ) (rest : List TagParts) → Has rest → (o : Option ℕ) → Has (with_list k rest o)
  list_keeps k rest h None = h
  list_keeps k rest h (Some list) = sense_keeps k rest h (f list)

  -- node i completes the tag
  module _ (i list : ℕ) (parts : List Part) (struct : is_a s p_struct i ≡ true) (child : child_of s p_members i ≡ Some list) (made : f list ≡ IsMembers parts) (same : tag_of s i ≡ tag) where
    here : (rest : List TagParts) → Has (with_list i rest (if is_a s p_struct i then child_of s p_members i else None))
    here rest =
        let at : with_list i rest (if is_a s p_struct i then child_of s p_members i else None) ≡ record { tag = tag_of s i; members = parts } ∷ rest =
        ap (λ (b : Bool). with_list i rest (if b then child_of s p_members i else None)) struct ∙ (ap (with_list i rest) child ∙ ap (with_sense i rest) made) in
        subst Has (sym at) (by (tag_of s i == tag) refl)
      where
        by : (b : Bool) → (tag_of s i == tag) ≡ b → is_some (if b then Some parts else members_under rest tag) ≡ true
        by true e = refl
        by false e = absurd (eqb-false (tag_of s i) tag e same)

    completes : (xs : List Sense) (k : ℕ) → k ≤ i → i < k + length xs → Has (completed_from s xs f k)
    completes [] k low high = absurd (omega (arith, low, high))
    completes (x ∷ xs) k low high = by (nat_eq k i) refl (λ g. completes xs (suc k) g (omega (arith, high)))
      where
        by : (b : Bool) → nat_eq k i ≡ b → (suc k ≤ i → Has (completed_from s xs f (suc k))) → Has (completed_from s (x ∷ xs) f k)
        by true e later = subst (λ (j : ℕ). Has (with_list j (completed_from s xs f (suc k)) (if is_a s p_struct j then child_of s p_members j else None))) (sym (eqb-true k i e)) (here (completed_from s xs f (suc k)))
        by false e later = let differ = eqb-false k i e in list_keeps k (completed_from s xs f (suc k)) (later (omega (arith, low, differ))) (if is_a s p_struct k then child_of s p_members k else None)

module _ (s : Source) (senses : List Sense) (first : ChildrenFirst s) (are : AreSenses s senses) (whole : length senses ≡ length s.nodes) (tag : ℕ) where
  abbrev test : ℕ → Bool
  test i = is_a s p_struct i && (is_some (child_of s p_members i) && (tag_of s i == tag))

  members_made : any_where test (all_nodes s) ≡ true → is_some (members_under (completed_from s senses (sense_in senses) 0) tag) ≡ true
  members_made h =
      let found = any_found test 0 (length s.nodes) h in
      let i : ℕ = found.0 in
      let one = both (is_a s p_struct i) (is_some (child_of s p_members i) && (tag_of s i == tag)) found.3 in
      let two = both (is_some (child_of s p_members i)) (tag_of s i == tag) one.1 in
      let list = some_of (child_of s p_members i) two.0 in
      let at = in_list (children_at s i) list.0 (first_in (is_a s p_members) (children_at s i) list.0 list.1) in
      let before : list.0 < i = first i at.0 list.0 at.1 in
      let inside = found.2 in
      let row = row_as s senses are p_members list.0 (omega (arith, before, inside, whole)) (found_where (is_a s p_members) (children_at s i) list.0 list.1) in
      completes s (sense_in senses) tag i list.0 _ one.0 list.1 (sym (fits_same row)) (eqb-true (tag_of s i) tag two.1) senses 0 (omega arith) (omega (arith, inside, whole))

  module _ (u : Unit) (knows : Knows (world_at s senses (length senses)) u) (h : any_where test (all_nodes s) ≡ true) where
    members_known : is_some (members_in u.types tag) ≡ true
    members_known = by (members_in u.types tag) (ap is_some (sym (knows.members tag)) ∙ members_made h)
      where
        by : (o : Option (List MemberTerm)) → is_some (parts_in u.types o) ≡ true → is_some o ≡ true
        by (Some ms) e = refl
        by None e = cc

    pub structure_is : IsObject u.types (StructureOf tag)
    structure_is = structure_complete u.types tag members_known

    pub union_is : IsObject u.types (UnionOf tag)
    union_is = union_complete u.types tag members_known
