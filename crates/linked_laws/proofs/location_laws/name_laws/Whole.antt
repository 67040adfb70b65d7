-- Locations have different names.
use Rattle.std.proofs.Common.{arith, ◌≡◌, ◌∙◌, ℕ, List, [], ◌∷◌, ◌++◌, map, refl, sym, inl, inr}
use Rattle.std.specs.List.{flat_map}
use Rattle.std.proofs.lemmas.Bool.{cases_eq, cases_lt}
use Rattle.std.proofs.lemmas.List.{append-nil, append_cancel_left}
use Rattle.c_types.specs.declared.term.TypeId.{TypeId}
use Rattle.c_types.specs.Table.{type_of}
use Rattle.core_tree.specs.declared.node.Program.{Program}
use Rattle.obj_made.specs.declared.object.Content.{Content}
use Rattle.obj_made.specs.declared.object.Content.TheVariants.{Function, Blob, Scalar, Scalars, Typed, Elements}
use Rattle.obj_made.specs.declared.object.Object.{Object}
use Rattle.obj_space.specs.Objects.{objects_of}
use Rattle.obj_space.specs.Parts.{Part, parts_of}
use Rattle.obj_space.specs.declared.location.Location.{Location}
use Rattle.obj_space.specs.Space.{located, locations_by, locations_of, locations_in, DistinctNames}
use Rattle.linked_laws.specs.location_laws.name_shapes.Bytes.{IsSuffix}
use Rattle.linked_laws.proofs.location_laws.name_shapes.Shapes.{read_back}
use Rattle.linked_laws.specs.location_laws.name_laws.Named.{HasNames}
use Rattle.linked_laws.proofs.location_laws.name_laws.Lists.{Every, Pairs, every_weaker, every_map, pairs_weaker, pairs_map, pairs_at, pairs_flat}
use Rattle.linked_laws.proofs.location_laws.name_laws.Parts.{Differ, IsPart, parts_right}
use Rattle.linked_laws.proofs.location_laws.name_laws.Sources.{same_key}
use Rattle.linked_laws.proofs.location_laws.name_laws.Library.{row_number, IsObject}
use Rattle.linked_laws.proofs.location_laws.name_laws.Placing.{KeysDiffer, all_objects}

abbrev NamesDiffer : Location → Location → Type 0
NamesDiffer a b = a.name ≡ b.name → ⊥

-- a location's name is that of its object, and a suffix
record IsLocation (o : Object) (l : Location) : Type 0 where
  rest : List ℕ
  suffix : IsSuffix rest
  name : l.name ≡ o.name ++ rest

record AreLocations (o : Object) (locations : List Location) : Type 0 where
  each : Every (IsLocation o) locations
  differ : Pairs NamesDiffer locations

module _ (p : Program) (h : HasNames p) where
  one_location_right : (o : Object) (l : Location) → l.name ≡ o.name → AreLocations o (l ∷ [])
  one_location_right o l is = record {
    each = (record { rest = []; suffix = record { dot = tt; bytes = refl }; name = is ∙ sym (append-nil o.name) }, tt);
    differ = (tt, tt);
  }

  parts_located_right : (o : Object) (id : TypeId) → AreLocations o (map (located o.key o.content o.name) (parts_of p.types (type_of p.types id.0)))
  parts_located_right o id =
      let parts = parts_right p.types h.members (type_of p.types id.0) in
      let list = parts_of p.types (type_of p.types id.0) in
      let make : Part → Location = located o.key o.content o.name in
      record {
        each = every_map (IsLocation o) make list (every_weaker IsPart (λ q. IsLocation o (make q)) list (λ q s. record { rest = q.suffix; suffix = s; name = refl }) parts.each);
        differ = pairs_map NamesDiffer make list (pairs_weaker Differ (λ a b. NamesDiffer (make a) (make b)) list (λ a b d e. d (append_cancel_left o.name a.suffix b.suffix e)) parts.differ);
      }

  locations_right : (o : Object) (content : Content) → AreLocations o (locations_by p.types o content)
  locations_right o Function = one_location_right o _ refl
  locations_right o Blob = one_location_right o _ refl
  locations_right o (Scalar number) = one_location_right o _ refl
  locations_right o (Scalars number) = one_location_right o _ refl
  locations_right o (Typed id) = parts_located_right o id
  locations_right o (Elements id) = parts_located_right o id

  -- locations of two objects
  two_differ : (a b : Object) (x y : Location) → IsObject p a → IsObject p b → KeysDiffer p h a b → IsLocation a x → IsLocation b y → NamesDiffer x y
  two_differ a b x y oa ob keys lx ly same =
      let texts = sym (oa.text lx.rest) ∙ (sym lx.name ∙ (same ∙ (ly.name ∙ ob.text ly.rest))) in
      let shapes = (read_back oa.shape ob.shape lx.rest ly.rest oa.right ob.right lx.suffix ly.suffix texts).0 in
      keys (same_key p h row_number a.key b.key oa.shape ob.shape oa.source ob.source shapes)

  across_one : (a b : Object) (x : Location) (ys : List Location) → IsObject p a → IsObject p b → KeysDiffer p h a b → IsLocation a x → Every (IsLocation b) ys → Every (NamesDiffer x) ys
  across_one a b x ys oa ob keys lx h = every_weaker (IsLocation b) (NamesDiffer x) ys (λ y ly. two_differ a b x y oa ob keys lx ly) h

  across_two : (a b : Object) (xs ys : List Location) → IsObject p a → IsObject p b → KeysDiffer p h a b → Every (IsLocation a) xs → Every (IsLocation b) ys → Every (λ x. Every (NamesDiffer x) ys) xs
  across_two a b xs ys oa ob keys lx ly = every_weaker (IsLocation a) (λ x. Every (NamesDiffer x) ys) xs (λ x l. across_one a b x ys oa ob keys l ly) lx

  abbrev Across : Object → Object → Type 0
  Across a b = Every (λ x. Every (NamesDiffer x) (locations_of p.types b)) (locations_of p.types a)

  one_across : (a : Object) (rest : List Object) → IsObject p a → Every (IsObject p) rest → Every (KeysDiffer p h a) rest → Every (Across a) rest
  one_across a [] oa os ks = tt
  one_across a (b ∷ rest) oa (ob, os) (k, ks) =
      (across_two a b (locations_of p.types a) (locations_of p.types b) oa ob k (locations_right a a.content).each (locations_right b b.content).each, one_across a rest oa os ks)

  all_across : (objects : List Object) → Every (IsObject p) objects → Pairs (KeysDiffer p h) objects → Pairs Across objects
  all_across [] os ks = tt
  all_across (a ∷ rest) (oa, os) (k, ks) = (one_across a rest oa os k, all_across rest os ks)

  own_differ : (objects : List Object) → Every (λ o. Pairs NamesDiffer (locations_of p.types o)) objects
  own_differ [] = tt
  own_differ (o ∷ rest) = ((locations_right o o.content).differ, own_differ rest)

  all_differ : Pairs NamesDiffer (flat_map (locations_of p.types) (objects_of p))
  all_differ =
      let all = all_objects p h in
      pairs_flat NamesDiffer (locations_of p.types) (objects_of p) (own_differ (objects_of p)) (all_across (objects_of p) all.each all.differ)

  distinct_by : (list : List Location) → Pairs NamesDiffer list → DistinctNames list
  distinct_by list pairs = record {
    once = λ i j a b at there names. elim (cases_eq i j) [
      | inl same ↦ same
      | inr ne ↦ elim (cases_lt i j) [
        | inl less ↦ absurd (pairs_at NamesDiffer list i j a b pairs less at there names)
        | inr more ↦ absurd (pairs_at NamesDiffer list j i b a pairs (omega arith) there at (sym names))
      ]
    ];
  }

  pub distinct : DistinctNames (locations_in p)
  unfolding locations_in
  distinct = distinct_by (flat_map (locations_of p.types) (objects_of p)) all_differ
