use Rattle.std.proofs.Common.{◌≡◌, ◌<◌, ℕ, List, length, Option, Some, None, All, OnOk, slice_get, ap, sym, subst, ◌∙◌}
use Rattle.std.proofs.lemmas.Option.{slice_get-get_or}
use Rattle.c_types.specs.declared.key.ObjectKey.TheVariants.{Entity as EntityKey}
use Rattle.c_types.specs.declared.term.PathStep.{PathStep}
use Rattle.core_tree.specs.declared.node.Node.{Node}
use Rattle.core_tree.specs.Seen.{core_of}
use Rattle.ref_cells.specs.declared.instance.Instance.{Instance}
use Rattle.ref_places.specs.Places.{first_instance}
use Rattle.ref_start.specs.Fixed.{value_at}
use Rattle.ref_start.specs.Start.{parts_of, filled_at}
use Rattle.ref_start.proofs.FilledSteps.{children_within, parts_known, filled_is}
use Rattle.ref_start.proofs.start.fill_by.Goals as goal

pub fill-requires-clause-parts : goal.fill-requires-clause-parts
fill-requires-clause-parts c =
    let u = core_of c.args.trees.now in
    let memory = c.args.memory.now in
    let fix = value_at c.args.table.now in
    let n = c.args.n in
    let node = c.in-Some.node.now in
    let there : slice_get u.nodes n ≡ Some node =
    slice_get-get_or u.nodes n node c.in-Some.ensures.lookup.3.0 ∙ ap (λ (x : Node). Some x) (sym c.in-Some.ensures.lookup.1) in
    let paths = c.as_slice.result.now in
    let children = c.as_slice-children.result.now in
    let within : All (λ v. v < length u.nodes) children =
    subst (All (λ v. v < length u.nodes)) (sym c.as_slice-children.ensures) (children_within u c.requires.range n node there) in
    subst (All (λ part. part.ty.0 < length u.types.terms))
    (sym (c.as_slice-in-Some-first_of.ensures.value ∙ c.in_ok-parts.ensures))
    (parts_known u c.requires.range fix paths children within)

pub returns-in-Some-first_of : goal.returns-in-Some-first_of
returns-in-Some-first_of c =
    λ objects given.
    let u = core_of c.args.trees.now in
    let memory = c.args.memory.now in
    let fix = value_at c.args.table.now in
    let n = c.args.n in
    let node = c.in-Some.node.now in
    let there : slice_get u.nodes n ≡ Some node =
    slice_get-get_or u.nodes n node c.in-Some.ensures.lookup.3.0 ∙ ap (λ (x : Node). Some x) (sym c.in-Some.ensures.lookup.1) in
    let paths = c.as_slice.result.now in
    let children = c.as_slice-children.result.now in
    let e = c.in-Initialise.entity in
    let found : first_instance (EntityKey e) 0 memory ≡ Some c.in-Some-first_of.i =
    sym (c.requires.standing (EntityKey e)) ∙ (sym c.first_of.ensures ∙ c.in-Some-first_of.is) in
    let parts = c.as_slice-in-Some-first_of.result.now in
    let made : parts ≡ parts_of u.nodes fix c.in-Initialise.paths node.children =
    c.as_slice-in-Some-first_of.ensures.value
    ∙ (c.in_ok-parts.ensures
    ∙ (ap (λ (ps : List (List PathStep)). parts_of u.nodes fix ps children) c.as_slice.ensures
    ∙ ap (parts_of u.nodes fix c.in-Initialise.paths) c.as_slice-children.ensures)) in
    subst (λ (m : List Instance). OnOk c.fill.result (c.fill.new.memory ≡ m))
    (sym (filled_is u objects memory c.args.table.now n node e c.in-Initialise.paths parts given there c.in-Initialise.is made
    ∙ ap (λ (o : Option ℕ). filled_at u memory o parts) found))
    c.fill.ensures

pub returns : goal.returns
returns c =
    λ objects given.
    let u = core_of c.args.trees.now in
    let memory = c.args.memory.now in
    let fix = value_at c.args.table.now in
    let n = c.args.n in
    let node = c.in-Some.node.now in
    let there : slice_get u.nodes n ≡ Some node =
    slice_get-get_or u.nodes n node c.in-Some.ensures.lookup.3.0 ∙ ap (λ (x : Node). Some x) (sym c.in-Some.ensures.lookup.1) in
    let paths = c.as_slice.result.now in
    let children = c.as_slice-children.result.now in
    let e = c.in-Initialise.entity in
    let found : first_instance (EntityKey e) 0 memory ≡ None =
    sym (c.requires.standing (EntityKey e)) ∙ (sym c.first_of.ensures ∙ c.in-None.is) in
    let parts = c.in_ok-parts.parts.items in
    let made : parts ≡ parts_of u.nodes fix c.in-Initialise.paths node.children =
    c.in_ok-parts.ensures
    ∙ (ap (λ (ps : List (List PathStep)). parts_of u.nodes fix ps children) c.as_slice.ensures
    ∙ ap (parts_of u.nodes fix c.in-Initialise.paths) c.as_slice-children.ensures) in
    sym (filled_is u objects memory c.args.table.now n node e c.in-Initialise.paths parts given there c.in-Initialise.is made
    ∙ ap (λ (o : Option ℕ). filled_at u memory o parts) found)
