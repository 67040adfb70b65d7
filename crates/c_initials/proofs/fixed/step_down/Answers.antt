use Rattle.std.proofs.Common.{refl, ap, sym, ◌∙◌, subst, length, IfOk, Bool, ◌≡◌}
use Rattle.std.proofs.lemmas.Option.{slice_get_read}
use Rattle.c_types.specs.Table.{type_of}
use Rattle.c_senses.specs.Initialised.{is_fixed_place, is_fixed_pointer}
use Rattle.core_nodes.proofs.Reading.{core_is}
use Rattle.c_initials.specs.Fixed.{is_firm_by, is_fixed_as}
use Rattle.c_initials.proofs.fixed.step_down.Goals as goal

pub returns-then-pointer-clause-firm : goal.returns-then-pointer-clause-firm
returns-then-pointer-clause-firm c = λ automatic.
    let u = c.args.unit.now in
    let n = c.index-there.result.now in
    let at = slice_get_read u.nodes.items (length u.nodes.items) c.args.node n refl c.requires.node c.index-there.ensures in
    let same = sym (ap (is_fixed_pointer automatic) (core_is u c.requires.ready c.args.node n at)) ∙ ap (λ (b : Bool). is_fixed_as automatic u b c.args.node) (sym c.if-pointer.true) in
    subst (λ (b : Bool). IfOk c.pointer_step.result (λ step. is_firm_by automatic u step ≡ b)) same (c.pointer_step.ensures.firm automatic n.place)

pub returns-then-pointer-clause-down : goal.returns-then-pointer-clause-down
returns-then-pointer-clause-down c =
    let u = c.args.unit.now in
    let n = c.index-there.result.now in
    let at = slice_get_read u.nodes.items (length u.nodes.items) c.args.node n refl c.requires.node c.index-there.ensures in
    c.pointer_step.ensures.down c.args.node (c.requires.ready.children c.args.node n at)

pub returns-else-pointer-clause-firm : goal.returns-else-pointer-clause-firm
returns-else-pointer-clause-firm c = λ automatic.
    let u = c.args.unit.now in
    let n = c.index-there.result.now in
    let at = slice_get_read u.nodes.items (length u.nodes.items) c.args.node n refl c.requires.node c.index-there.ensures in
    c.place_step.ensures.firm automatic u n.place (type_of u.types n.ty.0) ∙ sym (ap (is_fixed_place automatic) (core_is u c.requires.ready c.args.node n at))
    ∙ ap (λ (b : Bool). is_fixed_as automatic u b c.args.node) (sym c.if-pointer.false)

pub returns-else-pointer-clause-down : goal.returns-else-pointer-clause-down
returns-else-pointer-clause-down c =
    let u = c.args.unit.now in
    let n = c.index-there.result.now in
    let at = slice_get_read u.nodes.items (length u.nodes.items) c.args.node n refl c.requires.node c.index-there.ensures in
    c.place_step.ensures.down c.args.node (c.requires.ready.children c.args.node n at)
