-- A program's system stands on its types and locations.
use Rattle.std.proofs.Common.{◌≡◌, ◌∙◌, ◌⊎◌, inl, inr, ℕ, zero, suc, true, false, List, [], ◌∷◌, ◌++◌, length, Option, Some, None, slice_get, refl, sym, ap, subst}
use Rattle.std.specs.List.{flat_map}
use Rattle.std.proofs.lemmas.List.Concat.{flat_map-cons}
use Rattle.std.proofs.lemmas.Option.{slice_get_within}
use Rattle.c_types.specs.Table.{Table}
use Rattle.c_types.specs.Made.{IsMade, AreNamed}
use Rattle.core_tree.specs.declared.node.Program.{Program}
use Rattle.core_tree.specs.Typed.{trees_in}
use Rattle.sol_model.specs.declared.system.System.{System}
use Rattle.sol_model.specs.declared.system.LocationFact.{LocationFact}
use Rattle.obj_made.specs.declared.object.Content.{Content}
use Rattle.obj_made.specs.declared.object.Content.TheVariants.{Function, Blob, Scalar, Scalars, Typed, Elements}
use Rattle.obj_made.specs.declared.object.Object.{Object}
use Rattle.obj_space.specs.declared.location.Location.{Location}
use Rattle.obj_space.specs.Objects.{objects_of}
use Rattle.obj_space.specs.Space.{located, locations_by, locations_of, locations_in}
use Rattle.obj_space.specs.Spots.{ReachesParts}
use Rattle.obj_space.specs.View.{view_of, collapsed_of, type_of_node}
use Rattle.obj_space.proofs.Placed.{get_mapped}
use Rattle.normal_form.specs.Facts.{location_fact}
use Rattle.normal_form.specs.SystemOf.{SystemOf}
use Rattle.covering_laws.specs.covered_memory.Demands.{ContentTells, Grounds}
use Rattle.covering_laws.proofs.covered_memory.Proper.{position_there}

some_one : {X : Type 0} → {x y : X} → ◌≡◌ {A = Option X} (Some x) (Some y) → x ≡ y
some_one h = cc

none_some : {X : Type 0} → {x : X} → ◌≡◌ {A = Option X} None (Some x) → ⊥
none_some h = cc

-- an element of two lists joined is one of either
of_either : {X : Type 0} (xs ys : List X) (l : ℕ) (x : X) → slice_get (xs ++ ys) l ≡ Some x → ((k : ℕ) × (slice_get xs k ≡ Some x)) ⊎ ((k : ℕ) × (slice_get ys k ≡ Some x))
of_either [] ys l x e = inr (l, e)
of_either (a ∷ xs) ys zero x e = inl (0, e)
of_either (a ∷ xs) ys (suc l) x e = elim (of_either xs ys l x e) [ inl h ↦ inl (suc h.0, h.1) | inr h ↦ inr h ]

one_is : {X : Type 0} (a : X) (l : ℕ) (x : X) → slice_get (a ∷ []) l ≡ Some x → a ≡ x
one_is a zero x e = some_one e
one_is a (suc l) x e = absurd (none_some e)

module _ (table : Table) where
  by_content : (o : Object) (content : Content) → o.content ≡ content → (l : ℕ) (x : Location) → slice_get (locations_by table o content) l ≡ Some x → ContentTells x.content x
  by_content o Function is l x e = (let same = one_is _ l x e in subst (λ (y : Location). ContentTells y.content y) same (subst (λ (c : Content). ContentTells c (record { key = o.key; content = o.content; name = o.name; ty = 5; collapsed = false })) (sym is) tt))
  by_content o Blob is l x e = (let same = one_is _ l x e in subst (λ (y : Location). ContentTells y.content y) same (subst (λ (c : Content). ContentTells c (record { key = o.key; content = o.content; name = o.name; ty = 5; collapsed = true })) (sym is) refl))
  by_content o (Scalar number) is l x e = (let same = one_is _ l x e in subst (λ (y : Location). ContentTells y.content y) same (subst (λ (c : Content). ContentTells c (record { key = o.key; content = o.content; name = o.name; ty = number; collapsed = false })) (sym is) (refl, refl)))
  by_content o (Scalars number) is l x e = (let same = one_is _ l x e in subst (λ (y : Location). ContentTells y.content y) same (subst (λ (c : Content). ContentTells c (record { key = o.key; content = o.content; name = o.name; ty = number; collapsed = false })) (sym is) (refl, refl)))
  by_content o (Typed id) is l x e =
      let m = get_mapped (located o.key o.content o.name) _ l x e in
      subst (λ (y : Location). ContentTells y.content y) m.2 (subst (λ (c : Content). ContentTells c (located o.key o.content o.name m.0)) (sym is) tt)
  by_content o (Elements id) is l x e =
      let m = get_mapped (located o.key o.content o.name) _ l x e in
      subst (λ (y : Location). ContentTells y.content y) m.2 (subst (λ (c : Content). ContentTells c (located o.key o.content o.name m.0)) (sym is) tt)

  all_tell : (os : List Object) (l : ℕ) (x : Location) → slice_get (flat_map (locations_of table) os) l ≡ Some x → ContentTells x.content x
  all_tell [] l x e = absurd (none_some e)
  all_tell (o ∷ os) l x e =
      elim (of_either (locations_of table o) (flat_map (locations_of table) os) l x (sym (ap (λ (ls : List Location). slice_get ls l) (flat_map-cons (locations_of table) o os)) ∙ e)) [
        | inl h ↦ by_content o o.content refl h.0 x h.1
        | inr h ↦ all_tell os h.0 x h.1
      ]

tells : (p : Program) (l : ℕ) (x : Location) → slice_get (locations_in p) l ≡ Some x → ContentTells x.content x
unfolding locations_in
tells p l x e = all_tell p.types (objects_of p) l x e

-- A program's system stands on its types and locations.
pub grounds_of : (p : Program) (space : List Location) (system : System) → space ≡ locations_in p → IsMade p.types → AreNamed p.types → ReachesParts p.types space → SystemOf p (view_of space) system
    → Grounds p.types space system
grounds_of p space system is_space made named reaches of = record {
  made = made;
  named = named;
  reaches = reaches;
  contents = λ l x e. tells p l x (ap (λ (ls : List Location). slice_get ls l) (sym is_space) ∙ e);
  facts = λ l x e. (
    location_fact (trees_in p) (view_of space) l,
    ap (λ (fs : List LocationFact). slice_get fs l) of.locations ∙ position_there (location_fact (trees_in p) (view_of space)) (length space) l (slice_get_within space l x e),
    record { collapsed = ap collapsed_of e; ty = ap type_of_node e },
  );
  types = of.types;
}
