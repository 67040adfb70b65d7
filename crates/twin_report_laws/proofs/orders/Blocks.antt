-- The locations of objects that are the same, but for numbers.
use Rattle.std.proofs.Common.{◌∙◌, ◌++◌, ℕ, List, [], ◌∷◌, map, refl, sym, ap, subst}
use Rattle.std.specs.List.{AllZip}
use Rattle.c_types.specs.Table.{Table, type_of}
use Rattle.core_tree.specs.declared.node.Program.{Program}
use Rattle.obj_made.specs.declared.object.Content.{Content}
use Rattle.obj_made.specs.declared.object.Content.TheVariants.{Function, Blob, Scalar, Scalars, Typed, Elements}
use Rattle.obj_made.specs.declared.object.Object.{Object}
use Rattle.obj_space.specs.declared.location.Location.{Location}
use Rattle.obj_space.specs.Parts.{Part, parts_of}
use Rattle.obj_space.specs.Space.{located, locations_by, locations_of}
use Rattle.twin_report_laws.specs.outcome_laws.twin_programs.One.{Numbers}
use Rattle.twin_report_laws.specs.outcome_laws.twin_locations.Same.{key_moved, number_moved, SameLocation}
use Rattle.twin_report_laws.proofs.outcome_laws.twin_locations.Cells.{Cell, cell_of, cells, cell_moved, IsCellOf, one_is}
use Rattle.twin_report_laws.proofs.outcome_laws.twin_locations.Objects.{SameObject}

parts_match : (o : Object) (ps : List Part) → AllZip (IsCellOf o) (map cell_of ps) (map (located o.key o.content o.name) ps)
parts_match o [] = tt
parts_match o (part ∷ ps) = (record { key = refl; content = refl; name = refl; ty = refl; collapsed = refl }, parts_match o ps)

cells_match : (table : Table) (o : Object) (content : Content) → AllZip (IsCellOf o) (cells table content) (locations_by table o content)
cells_match table o Function = (one_is o 5 _, tt)
cells_match table o Blob = (one_is o 5 _, tt)
cells_match table o (Scalar number) = (one_is o number _, tt)
cells_match table o (Scalars number) = (one_is o number _, tt)
cells_match table o (Typed id) = parts_match o (parts_of table (type_of table id.0))
cells_match table o (Elements id) = parts_match o (parts_of table (type_of table id.0))

module _ (p q : Program) (to : Numbers) (o d : Object) (same : SameObject p q to o d) where
  joined : (cs : List Cell) (xs ys : List Location) → AllZip (IsCellOf o) cs xs → AllZip (IsCellOf d) (map (cell_moved to.tag) cs) ys → AllZip (SameLocation to) xs ys
  joined [] [] [] h k = tt
  joined [] [] (y ∷ ys) h k = absurd k
  joined [] (x ∷ xs) ys h k = absurd h
  joined (c ∷ cs) [] ys h k = absurd h
  joined (c ∷ cs) (x ∷ xs) [] h k = absurd k
  joined (c ∷ cs) (x ∷ xs) (y ∷ ys) h k = (
    record {
      key = k.0.key ∙ (same.key ∙ sym (ap (key_moved to) h.0.key));
      name = k.0.name ∙ (ap (λ (name : List ℕ). name ++ c.suffix) same.name ∙ sym h.0.name);
      ty = k.0.ty ∙ sym (ap (number_moved to.tag) h.0.ty);
      collapsed = k.0.collapsed ∙ sym h.0.collapsed;
    },
    joined cs xs ys h.1 k.1,
  )

  pub block : AllZip (SameLocation to) (locations_of p.types o) (locations_of q.types d)
  block =
      joined (cells p.types o.content) (locations_of p.types o) (locations_of q.types d) (cells_match p.types o o.content)
      (subst (λ (cs : List Cell). AllZip (IsCellOf d) cs (locations_of q.types d)) same.nodes (cells_match q.types d d.content))
