-- The types of library functions that a linked program names.
use Rattle.std.proofs.Common.{◌≡◌, ◌∙◌, ℕ, zero, suc, ◌<◌, ◌||◌, Bool, true, false, cond, eqb, List, [], ◌∷◌, Option, Some, None, refl, sym, ap, subst, inl, inr}
use Rattle.std.specs.List.{slice_get, find, list_any}
use Rattle.std.specs.Option.{option_map, option_map_or, option_and_then}
use Rattle.std.proofs.lemmas.Bool.{false≢true}
use Rattle.std.proofs.lemmas.Bool.Decides.{eqb_tells}
use Rattle.pta_base.specs.declared.place.Place.{Place}
use Rattle.c_types.specs.Table.{type_of}
use Rattle.core_tree.specs.declared.node.Unit.{Unit}
use Rattle.core_tree.specs.declared.node.Program.{Program}
use Rattle.core_tree.specs.declared.node.Node.{Node}
use Rattle.core_tree.specs.declared.node.NodeKind.{NodeKind}
use Rattle.core_tree.specs.declared.node.NodeKind.TheVariants.{Named, FunctionName}
use Rattle.core_tree.specs.declared.node.Entity.{Entity}
use Rattle.core_tree.specs.declared.node.Linkage.{Linkage}
use Rattle.core_tree.specs.declared.node.Linkage.TheVariants.{External, Internal, Local}
use Rattle.core_tree.specs.declared.node.Storage.{Storage}
use Rattle.core_tree.specs.declared.node.Storage.TheVariants.{Static, Automatic, FunctionBody, Parameter, Declared}
use Rattle.core_tree.specs.Typed.{trees_in}
use Rattle.core_tree.specs.Valid.{IsLocal, IsUsed, IsUseOf, ValidProgram}
use Rattle.lib_summaries.specs.Table.{Row, Numbered, summary_of}
use Rattle.link_model.specs.filled_units.Filled.{AreFilled}
use Rattle.link_names.specs.Externals.{IsExternal}
use Rattle.obj_made.specs.Uses.{is_number, number_in, entity_number, library_number as number_of_entity, named_entity, named_number, is_named}
use Rattle.row_numbers.specs.Objects.{is_open, library_number, is_library}
use Rattle.unit_link.specs.Linked.{LinkedAt}
use Rattle.unit_link.specs.Needs.{AreLinkable}
use Rattle.linked_laws.proofs.link_laws.Wholeness.{named_once}
use Rattle.covered_runs.specs.covered_programs.library_names.Names.{IsShaped, IsTypedBy}
use Rattle.covered_runs.proofs.covered_programs.library_names.Numbers.{numbers_known}
use Rattle.covered_runs.proofs.covered_programs.library_names.Naming.{function_long, names_shaped}

some_one : {X : Type 0} → {x y : X} → ◌≡◌ {A = Option X} (Some x) (Some y) → x ≡ y
some_one h = cc

none_some : {X : Type 0} → {x : X} → ◌≡◌ {A = Option X} None (Some x) → ⊥
none_some h = cc

same_number : (a b : ℕ) → eqb a b ≡ true → a ≡ b
same_number a b e = elim (eqb_tells a b) [ inl same ↦ same.1 | inr other ↦ absurd (false≢true (sym other.0 ∙ e)) ]

number_is : (k : ℕ) (o : Option ℕ) → is_number k o ≡ true → o ≡ Some k
number_is k None e = absurd (false≢true e)
number_is k (Some n) e = ap (λ (m : ℕ). Some m) (same_number n k e)

found_number : (k : ℕ) (o : Option ℕ) → option_map_or (λ (found : ℕ). eqb found k) o false ≡ true → o ≡ Some k
found_number k None e = absurd (false≢true e)
found_number k (Some n) e = ap (λ (m : ℕ). Some m) (same_number n k e)

-- both say which entities are the library's
numbers_same : (linkage : Linkage) (storage : Storage) (name : List ℕ) → cond (is_open linkage storage) (option_map (λ found. found.number) (summary_of name)) None ≡ number_in linkage storage name
numbers_same External Static name = refl
numbers_same External Automatic name = refl
numbers_same External FunctionBody name = refl
numbers_same External Parameter name = refl
numbers_same External Declared name = refl
numbers_same Internal storage name = refl
numbers_same Local storage name = refl

-- what an entity is that is a library name
record IsOpened (x : Entity) (k : ℕ) : Type 0 where
  linkage : x.linkage ≡ External
  storage : x.storage ≡ Declared
  found : Numbered
  found_is : summary_of x.name ≡ Some found
  number : found.number ≡ k

found_by : (o : Option Numbered) (k : ℕ) → option_map (λ (found : Numbered). found.number) o ≡ Some k → (found : Numbered) × (o ≡ Some found) × (found.number ≡ k)
found_by None k h = absurd (none_some h)
found_by (Some found) k h = (found, refl, some_one h)

opened_by : (linkage : Linkage) (storage : Storage) (name : List ℕ) (k : ℕ) → cond (is_open linkage storage) (option_map (λ (found : Numbered). found.number) (summary_of name)) None ≡ Some k
    → (linkage ≡ External) × (storage ≡ Declared) × (option_map (λ (found : Numbered). found.number) (summary_of name) ≡ Some k)
opened_by External Declared name k h = (refl, refl, h)
opened_by External Static name k h = absurd (none_some h)
opened_by External Automatic name k h = absurd (none_some h)
opened_by External FunctionBody name k h = absurd (none_some h)
opened_by External Parameter name k h = absurd (none_some h)
opened_by Internal storage name k h = absurd (none_some h)
opened_by Local storage name k h = absurd (none_some h)

opened : (x : Entity) (k : ℕ) → library_number x ≡ Some k → IsOpened x k
opened x k h =
    let o = opened_by x.linkage x.storage x.name k h in
    let f = found_by (summary_of x.name) k o.2 in
    record { linkage = o.0; storage = o.1; found = f.0; found_is = f.1; number = f.2 }

is_external : (x : Entity) (k : ℕ) → IsOpened x k → IsExternal x
is_external x k o = record { linkage = o.linkage; lasting = λ local. subst IsLocal o.storage local }

-- one number has one name
one_name : (x y : Entity) (k : ℕ) → IsOpened x k → IsOpened y k → x.name ≡ y.name
one_name x y k a b =
    let f = numbers_known x.name a.found a.found_is in
    let g = numbers_known y.name b.found b.found_is in
    let same : a.found.row ≡ b.found.row = some_one (sym f.row_is ∙ (ap (slice_get _) (a.number ∙ sym b.number) ∙ g.row_is)) in
    sym f.name_is ∙ (ap (λ (r : Row). r.name) same ∙ g.name_is)

module _ {X : Type 0} (test : X → Bool) where
  -- some element passes
  pub record Passes (xs : List X) : Type 0 where
    pub at : ℕ
    pub x : X
    pub there : slice_get xs at ≡ Some x
    pub passes : test x ≡ true

  later : (y : X) (xs : List X) → Passes xs → Passes (y ∷ xs)
  later y xs h = record { at = suc h.at; x = h.x; there = h.there; passes = h.passes }

  any_passes : (xs : List X) → list_any test xs ≡ true → Passes xs
  any_passes [] h = absurd (false≢true h)
  any_passes (y ∷ xs) h = by (test y) refl h (any_passes xs)
    where
      by : (b : Bool) → test y ≡ b → (b || list_any test xs) ≡ true → (list_any test xs ≡ true → Passes xs) → Passes (y ∷ xs)
      by true is e f = record { at = 0; x = y; there = refl; passes = is }
      by false is e f = later y xs (f e)

  -- the first that passes
  pub record Finds (xs : List X) : Type 0 where
    pub own : Passes xs
    pub found : find test xs ≡ Some own.x

  finds : (xs : List X) (i : ℕ) (x : X) → slice_get xs i ≡ Some x → test x ≡ true → Finds xs
  unfolding later
  finds [] i x at its = absurd (none_some at)
  finds (y ∷ xs) i x at its = by (test y) refl i at (finds xs)
    where
      by : (b : Bool) → test y ≡ b → (i : ℕ) → slice_get (y ∷ xs) i ≡ Some x → ((j : ℕ) (z : X) → slice_get xs j ≡ Some z → test z ≡ true → Finds xs) → Finds (y ∷ xs)
      by true is i e f = record { own = record { at = 0; x = y; there = refl; passes = is }; found = ap (λ (b : Bool). cond b (Some y) (find test xs)) is }
      by false is zero e f = absurd (false≢true (sym is ∙ (ap test (some_one e) ∙ its)))
      by false is (suc i) e f =
          let r = f i x e its in
          record { own = later y xs r.own; found = ap (λ (b : Bool). cond b (Some y) (find test xs)) is ∙ r.found }

-- a node that names an entity uses it
use_of : (kind : NodeKind) (e : ℕ) → named_entity kind ≡ Some e → IsUseOf kind e
use_of (Named o) e h = some_one h
use_of (FunctionName o) e h = some_one h
use_of kind e h = absurd (none_some h)

named_by : (f : ℕ → Option ℕ) (o : Option ℕ) (k : ℕ) → option_and_then f o ≡ Some k → (e : ℕ) × (o ≡ Some e) × (f e ≡ Some k)
named_by f None k h = absurd (none_some h)
named_by f (Some e) k h = (e, refl, h)

entity_by : (o : Option Entity) (k : ℕ) → option_and_then entity_number o ≡ Some k → (x : Entity) × (o ≡ Some x) × (entity_number x ≡ Some k)
entity_by None k h = absurd (none_some h)
entity_by (Some x) k h = (x, refl, h)

module _ {entered : List (List ℕ)} (units : List Unit) (p : Program) (linkable : AreLinkable units) (filled : AreFilled units) (h : LinkedAt entered units p) (valid : ValidProgram p) (k : ℕ) where
  -- the entity that is named, with the place of its first use
  record IsNamedAt : Type 0 where
    e : ℕ
    x : Entity
    at : slice_get p.entities.items e ≡ Some x
    opens : IsOpened x k
    place : Place
    used : x.used ≡ Some place

  named_at : is_named p.entities.items p.nodes.items k ≡ true → IsNamedAt
  named_at named =
      let n = any_passes (λ (node : Node). is_number k (named_number p.entities.items node)) p.nodes.items named in
      let e = named_by (number_of_entity p.entities.items) (named_entity n.x.kind) k (number_is k (named_number p.entities.items n.x) n.passes) in
      let x = entity_by (slice_get p.entities.items e.0) k e.2 in
      by n.at n.x n.there e.0 e.1 x.0 x.1 (numbers_same x.0.linkage x.0.storage x.0.name ∙ x.2) x.0.used refl (valid.trees.uses e.0 x.0 x.1)
    where
      by : (n : ℕ) (node : Node) → slice_get p.nodes.items n ≡ Some node → (e : ℕ) → named_entity node.kind ≡ Some e → (x : Entity) → slice_get p.entities.items e ≡ Some x → library_number x ≡ Some k
          → (o : Option Place) → x.used ≡ o → IsUsed (trees_in p) e o → IsNamedAt
      by n node there e names x at number (Some place) used is = record { e = e; x = x; at = at; opens = opened x k number; place = place; used = used }
      by n node there e names x at number None used is = absurd (is n node there (use_of node.kind e names))

  typed : IsNamedAt → IsTypedBy (trees_in p) k
  typed n =
      let row = numbers_known n.x.name n.opens.found n.opens.found_is in
      let shaped : IsShaped p n.x n.opens.found = names_shaped units p linkable filled h n.e n.x n.opens.found n.at n.opens.linkage n.opens.storage n.opens.found_is in
      let f = finds (is_library k) p.entities.items n.e n.x n.at (passes n.x (number_again n.x n.opens)) in
      let other = opened f.own.x k (found_number k (library_number f.own.x) f.own.passes) in
      let one : f.own.at ≡ n.e =
      (named_once units p h).once f.own.at n.e f.own.x n.x f.own.there n.at (is_external f.own.x k other) (is_external n.x k n.opens) (one_name f.own.x n.x k other n.opens) in
      let same : f.own.x ≡ n.x = some_one (sym f.own.there ∙ (ap (slice_get p.entities.items) one ∙ n.at)) in
      record {
        row = n.opens.found.row;
        row_is = ap (slice_get _) (sym n.opens.number) ∙ row.row_is;
        id = n.x.ty;
        id_is = ap (option_map (λ (x : Entity). x.ty)) (f.found ∙ ap (λ (x : Entity). Some x) same);
        within = valid.trees.in_range.entity_types n.e n.x n.at;
        shape = shaped.shape;
        listed = λ lt. shaped.listed (row.function (subst (λ (m : ℕ). m < 55) (sym n.opens.number) lt)) n.place n.used;
        function = λ f. subst (λ (m : ℕ). m < 55) n.opens.number (row.below (function_long (type_of p.types n.x.ty.0) f n.opens.found.row.shape shaped.shape));
      }
    where
      self : (m : ℕ) → eqb m m ≡ true
      self m = elim (eqb_tells m m) [ inl same ↦ same.0 | inr other ↦ absurd (other.1 refl) ]

      number_again : (x : Entity) → IsOpened x k → library_number x ≡ Some k
      number_again x o =
          ap (λ (l : Linkage). cond (is_open l x.storage) (option_map (λ (y : Numbered). y.number) (summary_of x.name)) None) o.linkage
          ∙ (ap (λ (s : Storage). cond (is_open External s) (option_map (λ (y : Numbered). y.number) (summary_of x.name)) None) o.storage
          ∙ (ap (option_map (λ (y : Numbered). y.number)) o.found_is ∙ ap (λ (m : ℕ). Some m) o.number))

      passes : (x : Entity) → library_number x ≡ Some k → is_library k x ≡ true
      passes x e = ap (λ (o : Option ℕ). option_map_or (λ (found : ℕ). eqb found k) o false) e ∙ self k

pub library_typed : {entered : List (List ℕ)} (units : List Unit) (p : Program) → AreLinkable units → AreFilled units → LinkedAt entered units p → ValidProgram p → (k : ℕ) → is_named p.entities.items p.nodes.items k ≡ true → IsTypedBy (trees_in p) k
library_typed units p linkable filled h valid k named = typed units p linkable filled h valid k (named_at units p linkable filled h valid k named)
