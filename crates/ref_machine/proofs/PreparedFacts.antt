-- What is found of a program once, over the machine's own table of types.
use Rattle.std.proofs.Common.{arith, ◌≡◌, ℕ, ◌+◌, ◌<◌, List, [], None, length, ap, sym, subst, ◌∙◌}
use Rattle.std.specs.List.{All}
use Rattle.c_types.specs.declared.key.ObjectKey.{ObjectKey}
use Rattle.c_types.specs.declared.term.TypeId.{TypeId}
use Rattle.c_types.specs.Made.{IsMade, AreNamed}
use Rattle.c_types.specs.Table.{Table}
use Rattle.core_tree.specs.declared.node.Program.{Program}
use Rattle.core_tree.specs.Typed.{CoreTrees, trees_in}
use Rattle.core_tree.specs.Range.{InRange}
use Rattle.core_tree.specs.Seen.{core_of}
use Rattle.obj_space.specs.declared.location.Location.{Location}
use Rattle.obj_space.specs.Space.{locations_in}
use Rattle.obj_space.specs.View.{view_of}
use Rattle.ref_cells.specs.declared.cells.Cell.{Cell}
use Rattle.ref_cells.specs.declared.instance.Instance.{Instance}
use Rattle.ref_cells.specs.Places.{IsKnown}
use Rattle.ref_state.specs.declared.frames.Frame.{Frame}
use Rattle.ref_state.specs.declared.notes.Notes.{Notes}
use Rattle.ref_state.specs.declared.state.State.{State}
use Rattle.ref_state.specs.declared.ref_types.types.LibraryTypes.{LibraryTypes}
use Rattle.ref_state.specs.ref_types.Types.{types_with, library_ids}
use Rattle.ref_blocks.specs.Plans.{IsPlan}
use Rattle.ref_frames.specs.declared.running.Running.{Running as Made}
use Rattle.ref_frames.specs.Running.{Running}
use Rattle.ref_frames.specs.Made.{AreParameters, AreElementsKnown, IsRunning}
use Rattle.ref_frames.specs.OnTop.{only}
use Rattle.ref_start.specs.Objects.{object_types}
use Rattle.ref_start.specs.Start.{start_memory}
use Rattle.ref_start.proofs.ObjectSteps.{library_known}
use Rattle.ref_machine.specs.declared.prepared.Prepared.{Prepared}
use Rattle.ref_machine.specs.Types.{trees_with, running}
use Rattle.ref_machine.specs.Run.{start}
use Rattle.ref_machine.specs.Machines.{IsPreparedOf, IsGrounded}
use Rattle.ref_machine.proofs.Longer.{longer, range_with, elements_known}

-- a program's trees over a table
abbrev pub trees_by : Program → Table → CoreTrees
trees_by p types = record (trees_in p) { types = types }

pub prepared_of : (p : Program) (prepared : Prepared) → InRange (trees_in p) → IsMade p.types
    → prepared.types ≡ types_with p.types → prepared.library ≡ library_ids (length p.types.terms) → prepared.space ≡ locations_in p
    → IsPlan (trees_by p prepared.types) prepared.plan
    → AreParameters (trees_with p) (view_of prepared.space) prepared.parameters.items
    → IsPreparedOf p prepared
prepared_of p prepared range made types library space plan parameters = record {
  types = types;
  library = library;
  space = space;
  plan = subst (λ (table : Table). IsPlan (trees_by p table) prepared.plan) types plan;
  parameters = subst (λ (locations : List Location). AreParameters (trees_with p) (view_of locations) prepared.parameters.items) space parameters;
  range = range_with p range;
  elements = elements_known p made;
}

module _ (p : Program) (prepared : Prepared) (h : IsPreparedOf p prepared) where
  pub trees_same : trees_by p prepared.types ≡ trees_with p
  trees_same = ap (trees_by p) h.types

  -- what steps are over, by its parts
  pub running_is : (made : Made) → core_of made.trees ≡ trees_by p prepared.types → made.space.now ≡ prepared.space
      → made.parameters.now ≡ prepared.parameters.items → made.characters ≡ prepared.library.character → IsRunning made
  running_is made trees space parameters characters = record {
    range = subst InRange (sym trees) (subst InRange (sym trees_same) h.range);
    parameters =
        subst (λ (u : CoreTrees). AreParameters u (view_of made.space.now) made.parameters.now) (sym trees)
        (subst (λ (u : CoreTrees). AreParameters u (view_of made.space.now) made.parameters.now) (sym trees_same)
        (subst (λ (locations : List Location). AreParameters (trees_with p) (view_of locations) made.parameters.now) (sym space)
        (subst (λ (locations : List Location). AreParameters (trees_with p) (view_of locations) made.parameters.now) (sym h.space)
        (subst (λ (lists : List (List ℕ)). AreParameters (trees_with p) (view_of (locations_in p)) lists) (sym parameters) h.parameters))));
    elements =
        subst (λ (u : CoreTrees). AreElementsKnown (length u.types.terms) made.characters made.space.now) (sym trees)
        (subst (λ (u : CoreTrees). AreElementsKnown (length u.types.terms) made.characters made.space.now) (sym trees_same)
        (subst (λ (locations : List Location). AreElementsKnown (length (types_with p.types).terms) made.characters locations) (sym space)
        (subst (λ (locations : List Location). AreElementsKnown (length (types_with p.types).terms) made.characters locations) (sym h.space)
        (subst (λ (t : TypeId). AreElementsKnown (length (types_with p.types).terms) t (locations_in p)) (sym characters)
        (subst (λ (ids : LibraryTypes). AreElementsKnown (length (types_with p.types).terms) ids.character (locations_in p)) (sym h.library) h.elements)))));
  }

  pub running_seen : (trees : CoreTrees) (space : List Location) (entries : List ℕ) → trees ≡ trees_by p prepared.types → space ≡ prepared.space → entries ≡ p.entries.items
      → ◌≡◌ {A = Running} (record { trees = trees; space = space; characters = prepared.library.character; entries = entries }) (running p)
  running_seen trees space entries et es ee =
      ap (λ (u : CoreTrees). let w : Running = record { trees = u; space = space; characters = prepared.library.character; entries = entries } in w) (et ∙ trees_same)
      ∙ (ap (λ (locations : List Location). let w : Running = record { trees = trees_with p; space = locations; characters = prepared.library.character; entries = entries } in w) (es ∙ h.space)
      ∙ (ap (λ (ids : LibraryTypes). let w : Running = record { trees = trees_with p; space = locations_in p; characters = ids.character; entries = entries } in w) h.library
      ∙ ap (λ (es : List ℕ). record (running p) { entries = es }) ee))

  pub grounded : IsMade prepared.types → AreNamed prepared.types → IsGrounded (running p)
  grounded made named = record {
    range = h.range;
    named = subst AreNamed h.types named;
    made = subst IsMade h.types made;
    elements = h.elements;
    texts = omega (arith, longer p.types);
  }

  -- the types of the library's objects are of the table
  pub library_types_known : (w : Running) → w ≡ running p → All (IsKnown (length w.trees.types.terms)) (object_types prepared.library)
  library_types_known w e =
      let lt : length p.types.terms + 7 < length (types_with p.types).terms = omega (arith, longer p.types) in
      subst (λ (v : Running). All (IsKnown (length v.trees.types.terms)) (object_types prepared.library)) (sym e)
      (subst (λ (ids : LibraryTypes). All (IsKnown (length (types_with p.types).terms)) (object_types ids)) (sym h.library)
      (library_known (length p.types.terms) (length (types_with p.types).terms) lt))

  pub memory_starts : (w : Running) (memory : List Instance) → w ≡ running p → memory ≡ start_memory w.trees prepared.space prepared.library
      → memory ≡ start_memory (trees_with p) (locations_in p) (library_ids (length p.types.terms))
  memory_starts w memory e m =
      m ∙ (ap (λ (v : Running). start_memory v.trees prepared.space prepared.library) e
      ∙ (ap (λ (locations : List Location). start_memory (trees_with p) locations prepared.library) h.space
      ∙ ap (λ (ids : LibraryTypes). start_memory (trees_with p) (locations_in p) ids) h.library))

pub starts : (p : Program) (memory : List Instance) (frames : List Frame) (kept : List (ObjectKey × ℕ)) (notes : Notes) (handed : List (TypeId × Cell))
    → memory ≡ start_memory (trees_with p) (locations_in p) (library_ids (length p.types.terms)) → frames ≡ [] → kept ≡ [] → notes ≡ only [] → handed ≡ []
    → ◌≡◌ {A = State} (record { memory = memory; frames = frames; kept = kept; status = None; notes = notes; handed = handed }) (start p)
starts p memory frames kept notes handed m f k n l =
    ap (λ (x : List Instance). let s : State = record { memory = x; frames = frames; kept = kept; status = None; notes = notes; handed = handed } in s) m
    ∙ (ap (λ (x : List Frame). let s : State = record (start p) { frames = x; kept = kept; notes = notes; handed = handed } in s) f
    ∙ (ap (λ (x : List (ObjectKey × ℕ)). let s : State = record (start p) { kept = x; notes = notes; handed = handed } in s) k
    ∙ (ap (λ (x : Notes). let s : State = record (start p) { notes = x; handed = handed } in s) n
    ∙ ap (λ (x : List (TypeId × Cell)). let s : State = record (start p) { handed = x } in s) l)))
