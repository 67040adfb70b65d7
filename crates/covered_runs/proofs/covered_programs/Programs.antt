-- A program that is linked from units is a scene.
use Rattle.std.proofs.Common.{◌≡◌, ◌∙◌, ℕ, List, [], ◌∷◌, length, Option, Some, refl, sym, ap, subst, slice_get}
use Rattle.std.specs.Prelude.{codes}
use Rattle.std.specs.List.{AllZip}
use Rattle.std.specs.Cmp.Lexicographic.{bytes_decides}
use Rattle.c_types.specs.Table.{type_of}
use Rattle.core_tree.specs.declared.node.Entity.{Entity}
use Rattle.core_tree.specs.declared.node.NodeKind.{NodeKind}
use Rattle.core_tree.specs.declared.node.NodeKind.TheVariants.{FunctionName}
use Rattle.core_tree.specs.declared.node.Program.{Program}
use Rattle.core_tree.specs.declared.node.Storage.{Storage}
use Rattle.core_tree.specs.declared.node.Storage.TheVariants.{FunctionBody}
use Rattle.core_tree.specs.declared.node.Unit.{Unit}
use Rattle.core_tree.specs.Range.{EachNode}
use Rattle.core_tree.specs.Typed.{trees_in}
use Rattle.core_tree.specs.Valid.{IsLocal}
use Rattle.sol_model.specs.declared.system.System.{System}
use Rattle.sol_model.specs.Families.{Family}
use Rattle.link_names.specs.Externals.{IsExternal}
use Rattle.link_names.specs.Faults.{IsMainType}
use Rattle.unit_link.specs.Linked.{IsOfName, Linked, LinkedAt}
use Rattle.linked_laws.specs.link_laws.Whole.{DefinesMain}
use Rattle.linked_laws.specs.merged_laws.Merged.{AreSizes, TagsFit}
use Rattle.linked_laws.proofs.merged_laws.Fitting.{tags_fit}
use Rattle.linked_laws.proofs.link_laws.Wholeness.{named_once, defines_main}
use Rattle.covered_runs.proofs.covered_programs.library_names.Naming.{functions_defined}
use Rattle.ref_state.specs.ref_types.Types.{id}
use Rattle.covered_runs.specs.covered_steps.Placed.{NamesDefined}
use Rattle.covered_runs.specs.machine_sound.covered_start.Objects.{terms_behind}
use Rattle.covered_runs.specs.machine_sound.covered_start.Start.{machine_world, StartsRight}
use Rattle.covered_runs.proofs.machine_sound.covered_start.Types.{library_follow, character_type}
use Rattle.covered_runs.proofs.machine_sound.covered_start.Mains.{IsStarting, starting}
use Rattle.covered_runs.specs.covered_programs.served_worlds.Stored.{AreStored}
use Rattle.covered_runs.proofs.covered_programs.served_worlds.Serving.{worlds_served}
use Rattle.covered_runs.proofs.covered_programs.served_worlds.Stored.{functions_stored}
use Rattle.covered_runs.specs.machine_sound.Scenes.{IsScene}
use Rattle.covered_runs.proofs.machine_sound.Scenes.{every_run_is_covered}
use Rattle.covered_runs.specs.covered_programs.Programs.{IsAnalysed, ProgramsCovered}

some_one : {X : Type 0} → {x y : X} → ◌≡◌ {A = Option X} (Some x) (Some y) → x ≡ y
some_one h = cc

-- a function with a body is no local
body_lasts : (s : Storage) → s ≡ FunctionBody → IsLocal s → ⊥
body_lasts s is h = subst IsLocal is h

-- the function that starts a linked program without entries is `main`, of one of its types
main_right : (units : List Unit) (p : Program) → Linked units p → StartsRight p
main_right units p linked none main entity is at = subst (λ (x : Entity). IsMainType (type_of p.types x.ty.0)) (sym same_entity) d.type
  where
    m : IsStarting p.entities.items main
    m = starting p.entities.items main is

    d : DefinesMain p
    d = defines_main units p linked

    external : IsExternal m.entity
    external = record { linkage = m.linkage; lasting = body_lasts m.entity.storage m.storage }

    same : main ≡ d.number
    same = (named_once units p linked).once main d.number m.entity d.entity m.there d.entity_is external d.external ((bytes_decides m.entity.name (codes "main")).0 m.named ∙ sym d.named)

    same_entity : entity ≡ d.entity
    same_entity = some_one (sym at ∙ (ap (slice_get p.entities.items) same ∙ d.entity_is))

-- a program that is entered at names has entries
starts_right : (units : List Unit) (p : Program) (entered : List (List ℕ)) → LinkedAt entered units p → StartsRight p
starts_right units p [] linked = main_right units p linked
starts_right units p (name ∷ names) linked = λ none. absurd (subst (AllZip (IsOfName p) (name ∷ names)) none linked.entries)

module _ (units : List Unit) (p : Program) (system : System) (family : Family) (h : IsAnalysed units p system family) where
  stores : AreStored units p
  stores = functions_stored h.entered units p h.linkable h.stored h.linked

  names_defined : EachNode (trees_in p) (λ n node. NamesDefined p node.kind)
  names_defined n node at = by node.kind refl
    where
      by : (kind : NodeKind) → node.kind ≡ kind → NamesDefined p kind
      by (FunctionName e) is = functions_defined units p h.linkable h.filled stores.declared h.linked h.valid n node e at is
      by kind is = tt

  sizes : AreSizes units
  sizes = record { each = λ u x at. (h.linkable.valid u x at).trees.measured.tags }

  fit : TagsFit p.types
  fit = tags_fit units h.linked.numbers p.types h.tables sizes h.made h.named h.linked.types

  pub scene : IsScene p system family
  scene = record {
    valid = h.valid;
    made = h.made;
    named = h.named;
    fit = fit.each;
    is_system = h.is_system;
    closed = h.least.closed;
    defined = names_defined;
    main = starts_right units p h.entered h.linked;
    automatic = stores.automatic;
    served = λ s runs.
        worlds_served h.entered units p (terms_behind p) (machine_world p system family s) (id (length p.types.terms)) h.linkable h.filled h.linked h.valid h.made h.named fit.each (library_follow (length p.types.terms))
        (record { program = refl; space = refl }) runs h.system_valid h.least (character_type p h.made h.named);
  }

pub programs_covered : ProgramsCovered
programs_covered units p system family h = every_run_is_covered p system family (scene units p system family h)
