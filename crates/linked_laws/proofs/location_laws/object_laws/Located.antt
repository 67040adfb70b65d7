-- Each location is one of some object.
use Rattle.std.proofs.Common.{◌≡◌, ◌∙◌, ℕ, suc, List, [], ◌∷◌, map, Some, refl, sym, subst}
use Rattle.std.specs.List.{slice_get, flat_map}
use Rattle.std.proofs.lemmas.List.Concat.{flat_map-cons}
use Rattle.c_types.specs.Table.{Table, type_of}
use Rattle.core_tree.specs.declared.node.Program.{Program}
use Rattle.obj_made.specs.declared.object.Content.{Content}
use Rattle.obj_made.specs.declared.object.Content.TheVariants.{Function, Blob, Scalar, Scalars, Typed, Elements}
use Rattle.obj_made.specs.declared.object.Object.{Object}
use Rattle.obj_space.specs.Objects.{objects_of}
use Rattle.obj_space.specs.Parts.{Part, parts_of}
use Rattle.obj_space.specs.declared.location.Location.{Location}
use Rattle.obj_space.specs.Space.{located, locations_by, locations_of, locations_in}
use Rattle.linked_laws.proofs.location_laws.name_laws.Lists.{Every, every_all, every_append, every_map, every_at}
use Rattle.linked_laws.specs.location_laws.object_laws.Once.{IsObjectOf}
use Rattle.linked_laws.proofs.location_laws.object_laws.Keys.{once}

-- a location of that object
abbrev IsOf : Object → Location → Type 0
IsOf o l = (l.key ≡ o.key) × (l.content ≡ o.content)

module _ (table : Table) where
  part_of : (o : Object) (parts : List Part) → Every (IsOf o) (map (located o.key o.content o.name) parts)
  part_of o parts = every_map (IsOf o) (located o.key o.content o.name) parts (every_all (λ q. IsOf o (located o.key o.content o.name q)) parts (λ q. (refl, refl)))

  all_of : (o : Object) (content : Content) → Every (IsOf o) (locations_by table o content)
  all_of o Function = ((refl, refl), tt)
  all_of o Blob = ((refl, refl), tt)
  all_of o (Scalar number) = ((refl, refl), tt)
  all_of o (Scalars number) = ((refl, refl), tt)
  all_of o (Typed id) = part_of o (parts_of table (type_of table id.0))
  all_of o (Elements id) = part_of o (parts_of table (type_of table id.0))

  -- one of these objects
  IsOne : List Object → Location → Type 0
  IsOne objects l = (i : ℕ) × (o : Object) × (slice_get objects i ≡ Some o) × IsOf o l

  first_one : (o : Object) (rest : List Object) (ls : List Location) → Every (IsOf o) ls → Every (IsOne (o ∷ rest)) ls
  unfolding IsOne
  first_one o rest [] h = tt
  first_one o rest (l ∷ ls) (here, more) = ((0, o, refl, here), first_one o rest ls more)

  later_one : (o : Object) (rest : List Object) (ls : List Location) → Every (IsOne rest) ls → Every (IsOne (o ∷ rest)) ls
  unfolding IsOne
  later_one o rest [] h = tt
  later_one o rest (l ∷ ls) (here, more) = ((suc here.0, here.1, here.2, here.3), later_one o rest ls more)

  every_one : (objects : List Object) → Every (IsOne objects) (flat_map (locations_of table) objects)
  every_one [] = tt
  every_one (o ∷ rest) =
      subst (Every (IsOne (o ∷ rest))) (sym (flat_map-cons (locations_of table) o rest))
      (every_append (IsOne (o ∷ rest)) (locations_of table o) (flat_map (locations_of table) rest) (first_one o rest (locations_of table o) (all_of o o.content))
      (later_one o rest (flat_map (locations_of table) rest) (every_one rest)))

pub of_one : (p : Program) (l : ℕ) (location : Location) → slice_get (locations_in p) l ≡ Some location → (i : ℕ) × IsObjectOf p location i
unfolding IsOne locations_in
of_one p l location at =
    let (i, o, is, (key, content)) = every_at (IsOne p.types (objects_of p)) (flat_map (locations_of p.types) (objects_of p)) l location (every_one p.types (objects_of p)) at in (
      i,
      record {
        object = o;
        object_is = is;
        key = key;
        content = content;
        only = λ j other there same. once p i j o other is there (sym key ∙ sym same);
      },
    )
