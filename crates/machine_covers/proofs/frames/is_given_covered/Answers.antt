use Rattle.std.proofs.Common.{ℕ, Option, Some, None, ◌↔◌, ◌≡◌, ◌∙◌, IsTrue, All, false, ap, subst}
use Rattle.c_types.specs.declared.term.TypeId.{TypeId}
use Rattle.c_types.specs.Trees.{Ctype, VoidType}
use Rattle.c_types.specs.Table.{type_of}
use Rattle.core_tree.specs.Seen.{core_of}
use Rattle.type_rules.specs.Conversions.{result_of}
use Rattle.obj_space.specs.Spots.{reached}
use Rattle.row_numbers.specs.Functions.{type_or_void}
use Rattle.row_numbers.specs.Kept.{nodes_of, kept_row}
use Rattle.ref_cells.specs.Cells.{CellList}
use Rattle.row_covers.specs.Cells.{CellBy, EntryBy}
use Rattle.machine_covers.specs.Frames.{numbered, result_start, given_by, first_of}
use Rattle.row_covers.specs.Scene.{sets_over, sight_of}
use Rattle.row_covers.proofs.Decided.{void_cells}
use Rattle.machine_covers.proofs.frames.is_given_covered.Goals as goal

pub returns-in-Some : goal.returns-in-Some
returns-in-Some c =
    let u = core_of c.args.scene.now.trees in
    let g = sets_over c.args.scene.now in
    let system = c.args.scene.now.system.now in
    let space = c.args.scene.now.space.now in
    let own : type_of u.types c.in-Some.ty.0 ≡ given_by u c.args.key = c.in-Some.ensures.value ∙ ap (λ (o : Option TypeId). result_of (type_or_void u.types o)) c.key_id.ensures.value in
    let first : c.result_start.result ≡ result_start u space system (numbered system (first_of (sight_of c.args.scene.now) c.args.key)) = c.result_start.ensures.value ∙ ap (result_start u space system) c.number_of.ensures.value in
    subst
    (λ (cells : CellList). IsTrue c.are_covered.result ↔ All (λ entry. EntryBy g c.args.memory.now (λ k. kept_row (result_start u space system (numbered system (first_of (sight_of c.args.scene.now) c.args.key))) (nodes_of u.types (given_by u c.args.key)) k) (Some (reached (given_by u c.args.key) 0 false)) entry) cells)
    c.as_slice.ensures.cells
    (subst
    (λ (t : Ctype). IsTrue c.are_covered.result ↔ All (λ entry. EntryBy g c.args.memory.now (λ k. kept_row (result_start u space system (numbered system (first_of (sight_of c.args.scene.now) c.args.key))) (nodes_of u.types t) k) (Some (reached t 0 false)) entry) c.as_slice.result.now)
    own
    (subst
    (λ (start : ℕ). IsTrue c.are_covered.result ↔ All (λ entry. EntryBy g c.args.memory.now (λ k. kept_row start (nodes_of u.types (type_of u.types c.in-Some.ty.0)) k) (Some (reached (type_of u.types c.in-Some.ty.0) 0 false)) entry) c.as_slice.result.now)
    first c.are_covered.ensures))

pub returns-in-None : goal.returns-in-None
returns-in-None c =
    let u = core_of c.args.scene.now.trees in
    let g = sets_over c.args.scene.now in
    let system = c.args.scene.now.system.now in
    let space = c.args.scene.now.space.now in
    let start = result_start u space system (numbered system (first_of (sight_of c.args.scene.now) c.args.key)) in
    let own : VoidType ≡ given_by u c.args.key = c.in-None.ensures.value ∙ ap (λ (o : Option TypeId). result_of (type_or_void u.types o)) c.key_id.ensures.value in
    let void : IsTrue c.has_row.result ↔ All (λ entry. EntryBy g c.args.memory.now (λ k. kept_row start (nodes_of u.types VoidType) k) (Some (reached VoidType 0 false)) entry) c.as_slice-in-None.result.now =
    (let same = void_cells g c.args.memory.now (λ k. kept_row start (nodes_of u.types VoidType) k) c.as_slice-in-None.result.now in
    ((λ h. same.0 (c.has_row.ensures.0 h)), (λ h. c.has_row.ensures.1 (same.1 h)))) in
    subst
    (λ (cells : CellList). IsTrue c.has_row.result ↔ All (λ entry. EntryBy g c.args.memory.now (λ k. kept_row start (nodes_of u.types (given_by u c.args.key)) k) (Some (reached (given_by u c.args.key) 0 false)) entry) cells) c.as_slice-in-None.ensures.cells
    (subst (λ (t : Ctype). IsTrue c.has_row.result ↔ All (λ entry. EntryBy g c.args.memory.now (λ k. kept_row start (nodes_of u.types t) k) (Some (reached t 0 false)) entry) c.as_slice-in-None.result.now) own void)
