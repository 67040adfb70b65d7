-- The texts of main's arguments, and the list that points to them, are covered.
use Rattle.std.proofs.Common.{arith, ◌≡◌, ◌∙◌, inl, ℕ, zero, suc, ◌+◌, ◌<◌, true, false, List, [], ◌∷◌, ◌++◌, map, length, Option, Some, None, slice_get, refl, sym, ap, subst}
use Rattle.std.specs.List.{range_with_len}
use Rattle.std.specs.Option.{option_map}
use Rattle.c_types.specs.declared.key.ObjectKey.TheVariants.{Library as LibraryKey}
use Rattle.c_types.specs.declared.term.PathStep.{PathStep}
use Rattle.c_types.specs.declared.term.PathStep.TheVariants.{Index}
use Rattle.c_types.specs.Trees.{Ctype, IntegerType, PointerTo, ArrayOf}
use Rattle.core_tree.specs.declared.node.Program.{Program}
use Rattle.sol_model.specs.declared.system.System.{System}
use Rattle.sol_model.specs.Families.{Family, Has}
use Rattle.obj_made.specs.declared.object.Content.{Content}
use Rattle.obj_made.specs.declared.object.Content.TheVariants.{Scalars}
use Rattle.obj_space.specs.declared.location.Location.{Location}
use Rattle.obj_space.specs.Objects.{LibraryRow, library_rows}
use Rattle.obj_space.specs.Space.{locations_in}
use Rattle.obj_space.specs.Spots.{part_at, node_in}
use Rattle.obj_space.specs.View.{first_from}
use Rattle.ref_cells.specs.declared.cells.Cell.{Cell}
use Rattle.ref_cells.specs.declared.cells.Cell.TheVariants.{Null, Pointer}
use Rattle.ref_cells.specs.declared.instance.Instance.{Instance}
use Rattle.ref_cells.specs.Wholes.{whole_of}
use Rattle.ref_elements.specs.Outcomes.{start_of}
use Rattle.ref_state.specs.ref_types.Types.{id}
use Rattle.ref_start.specs.Objects.{cells_from, numbers, text_object}
use Rattle.ref_start.specs.Begin.{argument_pointers}
use Rattle.covering_laws.specs.covered_memory.Cells.{EachCell}
use Rattle.covering_laws.specs.covered_memory.Spots.{spot_at, spot_from, whole_part, room, IsInTree}
use Rattle.covering_laws.specs.covered_memory.Covered.{CellIn, pointer_row, object_row, HasShape, InstanceIn, MemoryIn}
use Rattle.covering_laws.proofs.covered_memory.Access.{with_cells}
use Rattle.covering_laws.proofs.covered_memory.Changes.{change_law}
use Rattle.covering_laws.proofs.covered_memory.Firsts.{is_first}
use Rattle.covered_runs.specs.machine_sound.covered_start.Objects.{machine_table, machine_sets, IsSolved}
use Rattle.covered_runs.specs.machine_sound.covered_start.Arguments.{TextsCovered, ListsCovered}
use Rattle.covered_runs.proofs.machine_sound.covered_start.Types.{argument_type}
use Rattle.covered_runs.proofs.machine_sound.covered_start.Objects.{IsObject, numbers_plain, scalars_shape, plain_in}
use Rattle.covered_runs.proofs.machine_sound.covered_start.Pointed.{HasContent, pointer_scalar, grown, content_at, here, list_points}

some_one : {X : Type 0} → {x y : X} → ◌≡◌ {A = Option X} (Some x) (Some y) → x ≡ y
some_one h = cc

none_some : {X : Type 0} → {x : X} → ◌≡◌ {A = Option X} None (Some x) → ⊥
none_some h = cc

pub list_content : HasContent 9 (Scalars 4)
unfolding library_rows
list_content row e = ap (λ (r : LibraryRow). r.content) (sym (some_one e))

text_content : HasContent 10 (Scalars 0)
unfolding library_rows
text_content row e = ap (λ (r : LibraryRow). r.content) (sym (some_one e))

pub texts_covered : TextsCovered
texts_covered p system family memory text l s first =
    let here = (is_first (locations_in p) (LibraryKey 10) l first).here in
    let content = content_at p system family s 10 l here.0 (Scalars 0) text_content first here.1 in
    let made : IsObject (text_object (LibraryKey 10) (id (length p.types.terms + 1)) text) (LibraryKey 10) (Some (id (length p.types.terms + 1))) = record { key_is = refl; type_is = refl; plain = numbers_plain 0 text } in
    record {
      first = l;
      location = here.0;
      first_is = first;
      location_is = here.1;
      shape = subst (λ (c : Content). HasShape (machine_table p) c (whole_of (machine_table p) (text_object (LibraryKey 10) (id (length p.types.terms + 1)) text))) (sym content)
          (scalars_shape (machine_table p) (text_object (LibraryKey 10) (id (length p.types.terms + 1)) text) (LibraryKey 10) (id (length p.types.terms + 1)) (IntegerType 1 1 true) 8 0 made refl (argument_type p s.made s.named) (inl tt) refl);
      untyped = λ e. absurd (none_some (sym e));
      further = λ f. absurd f;
      cells = plain_in p s.made s.named family memory (object_row here.0.content l) (whole_part (whole_of (machine_table p) (text_object (LibraryKey 10) (id (length p.types.terms + 1)) text))) (cells_from 0 (numbers text)) (numbers_plain 0 text);
    }

module _ (p : Program) (system : System) (family : Family) (s : IsSolved p system family) (memory : List Instance) (all : MemoryIn (machine_sets p family) memory) where
  module _ (x : Instance) (key : x.key ≡ LibraryKey 9) (inside : InstanceIn (machine_sets p family) memory x) where
    first_is : first_from 0 (locations_in p) (LibraryKey 9) ≡ Some inside.first
    first_is = ap (first_from 0 (locations_in p)) (sym key) ∙ inside.first_is

    content : inside.location.content ≡ Scalars 4
    content = content_at p system family s 9 inside.first inside.location (Scalars 4) list_content first_is inside.location_is

    shape : HasShape (machine_table p) (Scalars 4) (whole_of (machine_table p) x)
    shape = subst (λ (c : Content). HasShape (machine_table p) c (whole_of (machine_table p) x)) content inside.shape

    pointer : (to : Ctype) × (shape.0 ≡ PointerTo to)
    pointer = pointer_scalar shape.0 shape.3 shape.4

    abbrev row : ℕ → Option ℕ
    row k = pointer_row (object_row inside.location.content inside.first) (part_at (machine_table p) (whole_part (whole_of (machine_table p) x)) (Index k ∷ []))

    row_is : (k : ℕ) → row k ≡ Some (object_row inside.location.content inside.first 0)
    row_is k = ap (λ (w : Option Ctype). pointer_row (object_row inside.location.content inside.first) (part_at (machine_table p) (whole_part w) (Index k ∷ []))) (shape.2 ∙ ap (λ (t : Ctype). Some (ArrayOf t (Some shape.1))) pointer.1)

    first_row : object_row inside.location.content inside.first 0 ≡ inside.first
    first_row = ap (λ (c : Content). object_row c inside.first 0) content ∙ (let z : inside.first + 0 ≡ inside.first = omega arith in z)

    -- a pointer to the first character of a text
    text_in : (k i : ℕ) (y : Instance) → slice_get memory i ≡ Some y → y.key ≡ LibraryKey 10 → CellIn (machine_sets p family) memory (row k) (Pointer i (Index 0 ∷ []) false)
    text_in k i y at own =
        let there = all i y at in
        let first : first_from 0 (locations_in p) (LibraryKey 10) ≡ Some there.first = ap (first_from 0 (locations_in p)) (sym own) ∙ there.first_is in
        let is = content_at p system family s 10 there.first there.location (Scalars 0) text_content first there.location_is in
        let form : HasShape (machine_table p) (Scalars 0) (whole_of (machine_table p) y) = subst (λ (c : Content). HasShape (machine_table p) c (whole_of (machine_table p) y)) is there.shape in
        record {
          inst = y;
          inst_is = at;
          in_tree = subst (λ (w : Option Ctype). IsInTree (machine_table p) w (room y) (Index 0 ∷ [])) (sym form.2) refl;
          lands = record {
            at = object_row inside.location.content inside.first 0;
            location = there.first;
            row_is = row_is k;
            found_is = ap (λ (f : Option ℕ). spot_from (machine_table p) (locations_in p) f (Index 0 ∷ [])) there.first_is
                ∙ (ap (λ (z : Option Location). spot_at (machine_table p) there.first z (Index 0 ∷ [])) there.location_is
                ∙ (ap (λ (c : Content). option_map (λ (n : ℕ). there.first + n) (node_in (machine_table p) c (Index 0 ∷ []))) is ∙ ap (λ (n : ℕ). Some n) (let z : there.first + 0 ≡ there.first = omega arith in z)));
            has = subst (λ (r : ℕ). Has family r there.first) (sym first_row) (list_points p system family s inside.first there.first first_is first);
          };
        }

    abbrev Covers : List PathStep → Cell → Type 0
    Covers path cell = CellIn (machine_sets p family) memory (pointer_row (object_row inside.location.content inside.first) (part_at (machine_table p) (whole_part (whole_of (machine_table p) x)) path)) cell

    -- the pointers one after another, and null behind them
    list_in : (k from count : ℕ) → ((j : ℕ) → j < count → (y : Instance) × (slice_get memory (from + j) ≡ Some y) × (y.key ≡ LibraryKey 10)) → EachCell Covers (cells_from k (map start_of (range_with_len from count) ++ Null ∷ []))
    list_in k from zero texts = (tt, tt)
    list_in k from (suc count) texts =
        let one = texts 0 (omega arith) in (
          text_in k from one.0 (ap (slice_get memory) (let z : from ≡ from + 0 = omega arith in z) ∙ one.1) one.2,
          list_in (k + 1) (from + 1) count
              (λ j lt. (let next = texts (suc j) (omega arith) in (next.0, ap (slice_get memory) (let z : (from + 1) + j ≡ from + suc j = omega arith in z) ∙ next.1, next.2))),
        )

pub lists_covered : ListsCovered
lists_covered p system family memory list first count s all found texts =
    change_law (machine_sets p family) system (grown p system family s) memory list (λ inst. record inst { cells = cells_from 0 (argument_pointers first count) }) all
    (λ x at inside.
    let own = here p system family s memory 9 list all found in
    let key : x.key ≡ LibraryKey 9 = ap (λ (y : Instance). y.key) (some_one (sym at ∙ own.there)) ∙ own.key_is in (
      record { key = refl; in_tree = λ path y. y; whole = λ t y. y },
      with_cells (machine_sets p family) system (grown p system family s) memory x inside (cells_from 0 (argument_pointers first count)) (list_in p system family s memory all x key inside 0 first count texts),
    ))
