-- The object's instance is one of the memory's, and its parts are of known types.
use Rattle.std.proofs.Common.{◌≡◌, ℕ, ◌<◌, All, Bool, List, length, Some, get_or, subst, sym, ap, ◌∙◌, slice_get}
use Rattle.std.proofs.lemmas.Option.{slice_get-get_or}
use Rattle.c_types.specs.declared.key.ObjectKey.TheVariants.{Entity as EntityKey}
use Rattle.core_tree.specs.Seen.{core_of}
use Rattle.ref_cells.specs.declared.cells.Value.{Value}
use Rattle.ref_cells.specs.declared.instance.Instance.{Instance}
use Rattle.ref_cells.specs.Cells.{CellList}
use Rattle.ref_cells.specs.Places.{IsKnown}
use Rattle.ref_mem.specs.declared.writes.Initial.{Initial}
use Rattle.ref_mem.specs.Writes.{initialised}
use Rattle.ref_elements.specs.Outcomes.{pointers_in}
use Rattle.ref_state.specs.Items.{top_values}
use Rattle.ref_places.specs.Places.{instance_of}
use Rattle.ref_statements.specs.Initialisers.{parts, clears}
use Rattle.ref_statements.proofs.Initialised.{instance_within, parts_known, initialised_row}
use Rattle.ref_statements.proofs.initialisers.initialise_object.Goals as goal

pub bounds-instances-i : goal.bounds-instances-i
bounds-instances-i c =
    subst (λ (xs : List Instance). c.in-Some.i < length xs) (c.instances-2.ensures ∙ sym c.instances-3.ensures)
    (instance_within c.instances-2.result.now c.as_slice.result.now (EntityKey c.args.entity) c.in-Some.i (sym c.in-Some.ensures))

pub with_parts-requires-clause-inst : goal.with_parts-requires-clause-inst
with_parts-requires-clause-inst c =
    let less : c.in-Some.i < length c.args.memory.now =
    subst (λ (xs : List Instance). c.in-Some.i < length xs) c.instances-2.ensures
    (instance_within c.instances-2.result.now c.as_slice.result.now (EntityKey c.args.entity) c.in-Some.i (sym c.in-Some.ensures)) in
    subst (λ (x : Instance). IsKnown (length c.args.world.now.trees.types.now.terms) x.ty)
    (sym (c.index-instances-i.is ∙ ap (λ (xs : List Instance). get_or xs c.in-Some.i c.index-instances-i.result) c.instances-3.ensures))
    (c.requires.memory c.in-Some.i c.index-instances-i.result less)

pub with_parts-requires-clause-parts : goal.with_parts-requires-clause-parts
with_parts-requires-clause-parts c =
    subst (λ (xs : List Initial). All (λ (part : Initial). part.ty.0 < length c.args.world.now.trees.types.now.terms) xs)
    (sym (c.as_slice-2.ensures.value ∙ c.in_ok-list.ensures))
    (parts_known (core_of c.args.world.now.trees) c.requires.world.range c.args.paths.now c.args.children.now c.values.result.now c.requires.children)

pub set-requires : goal.set-requires
set-requires c =
    subst (λ (xs : List Instance). c.in-Some.i < length xs) c.instances-2.ensures
    (instance_within c.instances-2.result.now c.as_slice.result.now (EntityKey c.args.entity) c.in-Some.i (sym c.in-Some.ensures))

pub returns-clause-row : goal.returns-clause-row
returns-clause-row c =
    let u = core_of c.args.world.now.trees in
    let memory = c.args.memory.now in
    let i = c.in-Some.i in
    let inst = c.index-instances-i.result in
    let found : instance_of memory c.args.frame.now.instances (EntityKey c.args.entity) ≡ Some i =
    sym (ap (λ (m : List Instance). instance_of m c.as_slice.result.now (EntityKey c.args.entity)) c.instances-2.ensures
    ∙ ap (λ (own : List ℕ). instance_of memory own (EntityKey c.args.entity)) c.as_slice.ensures) ∙ sym c.in-Some.ensures in
    let less : i < length memory = instance_within memory c.args.frame.now.instances (EntityKey c.args.entity) i found in
    let at_i : slice_get memory i ≡ Some inst =
    slice_get-get_or memory i inst less
    ∙ ap (λ (x : Instance). Some x) (sym (c.index-instances-i.is ∙ ap (λ (xs : List Instance). get_or xs i inst) c.instances-3.ensures)) in
    let list : c.as_slice-2.result.now ≡ parts u c.args.paths.now c.args.children.now (top_values c.args.frame.now.items) =
    c.as_slice-2.ensures.value ∙ (c.in_ok-list.ensures ∙ ap (λ (vs : List (ℕ × Value)). parts u c.args.paths.now c.args.children.now vs) c.values.ensures) in
    let after : c.in_ok-after.after ≡ initialised u.types (clears c.args.paths.now) (parts u c.args.paths.now c.args.children.now (top_values c.args.frame.now.items)) inst =
    c.in_ok-after.ensures
    ∙ (ap (λ (b : Bool). initialised u.types b c.as_slice-2.result.now inst) c.clears.ensures
    ∙ ap (λ (xs : List Initial). initialised u.types (clears c.args.paths.now) xs inst) list) in
    initialised_row u memory c.set.new.self c.args.frame.now (instance_of memory c.args.frame.now.instances (EntityKey c.args.entity)) i inst c.in_ok-after.after c.args.paths.now
    (parts u c.args.paths.now c.args.children.now (top_values c.args.frame.now.items)) c.pop.new.self c.in_ok-stores.stores
    found at_i after c.set.ensures c.pop.ensures
    (c.in_ok-stores.ensures ∙ ap (λ (cells : CellList). pointers_in i cells) c.as_slice-3.ensures.cells)
