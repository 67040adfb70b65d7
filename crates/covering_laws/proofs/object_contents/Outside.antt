-- What lies outside has a location where the program is entered from there.
use Rattle.std.proofs.Common.{◌≡◌, ℕ, List, [], ◌∷◌, ◌++◌, ◌≢◌, codes, refl, sym, subst}
use Rattle.std.specs.List.{flat_map}
use Rattle.std.proofs.lemmas.List.Concat.{flat_map-cons}
use Rattle.c_types.specs.declared.key.ObjectKey.{ObjectKey}
use Rattle.c_types.specs.declared.key.ObjectKey.TheVariants.{Outside as OutsideKey}
use Rattle.core_tree.specs.declared.node.Program.{Program}
use Rattle.obj_made.specs.declared.object.Content.TheVariants.{Blob}
use Rattle.obj_made.specs.declared.object.Object.{Object}
use Rattle.obj_made.specs.Made.{made_in_order, objects_in}
use Rattle.obj_made.specs.Uses.{is_named}
use Rattle.obj_space.specs.declared.location.Location.{Location}
use Rattle.obj_space.specs.Objects.{named_object, functions_below, library_objects, star_objects, outside_objects, takes_arguments}
use Rattle.obj_space.specs.Space.{locations_of, locations_in}
use Rattle.covering_laws.specs.object_contents.Contents.{IsMadeOf, OutsidePlaced}
use Rattle.covering_laws.proofs.object_contents.Contents.{contents_known}
use Rattle.covering_laws.proofs.object_contents.Made.{HasLocation, behind, first_some}
use Rattle.covering_laws.proofs.covered_memory.Firsts.{is_first}

module _ (p : Program) where
  outside_located : (entries : List ℕ) → entries ≢ [] → HasLocation OutsideKey (flat_map (locations_of p.types) (outside_objects entries))
  outside_located [] some = absurd (some refl)
  outside_located (e ∷ rest) some =
      subst (HasLocation OutsideKey) (sym (flat_map-cons (locations_of p.types) (named_object OutsideKey (codes "<outside>") Blob) [])) (0, _, refl, refl)

  -- what stands behind other objects has its locations
  later_located : (key : ObjectKey) (xs ys : List Object) → HasLocation key (flat_map (locations_of p.types) ys) → HasLocation key (flat_map (locations_of p.types) (xs ++ ys))
  later_located key [] ys h = h
  later_located key (x ∷ xs) ys h =
      subst (HasLocation key) (sym (flat_map-cons (locations_of p.types) x (xs ++ ys))) (behind key (locations_of p.types x) (flat_map (locations_of p.types) (xs ++ ys)) (later_located key xs ys h))

  outside_there : p.entries.items ≢ [] → HasLocation OutsideKey (locations_in p)
  unfolding locations_in
  outside_there some =
      let library : List Object = library_objects (is_named p.entities.items p.nodes.items) (takes_arguments p) in
      let last : List Object = star_objects p ++ outside_objects p.entries.items in
      later_located OutsideKey (objects_in (made_in_order p)) (functions_below p 55 ++ (library ++ last))
      (later_located OutsideKey (functions_below p 55) (library ++ last)
      (later_located OutsideKey library last (later_located OutsideKey (star_objects p) (outside_objects p.entries.items) (outside_located p.entries.items some))))

pub outside_placed : OutsidePlaced
outside_placed p made some =
    let there = outside_there p some in
    let first = first_some 0 there.0 (locations_in p) there.1 OutsideKey there.2 there.3 in
    let here = (is_first (locations_in p) OutsideKey first.0 first.1).here in
    record {
      first = first.0;
      location = here.0;
      first_is = first.1;
      location_is = here.1;
      content_is = (subst (λ (k : ObjectKey). IsMadeOf p k here.0.content) here.2 (contents_known p first.0 here.0 made here.1).0).0;
    }
