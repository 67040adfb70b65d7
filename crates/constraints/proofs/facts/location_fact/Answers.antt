use Rattle.std.proofs.Common.{arith, ◌≡◌, ◌∙◌, List, Option, None, get_or, length, ap, refl}
use Rattle.std.proofs.lemmas.List.FromFn.{length-map-range_with_len, get_or-map-range_with_len}
use Rattle.c_types.specs.declared.key.ObjectKey.{ObjectKey}
use Rattle.core_tree.specs.Typed.{trees_in}
use Rattle.obj_space.specs.View.{view_of}
use Rattle.row_numbers.specs.Functions.{function_at, function_keys, object_at, number_at}
use Rattle.row_numbers.proofs.FrameLemmas.{read_zero, length_map}
use Rattle.constraints.proofs.facts.location_fact.Goals as goal

pub bounds-at-l : goal.bounds-at-l
bounds-at-l c = rw (ap length c.requires.at ∙ length-map-range_with_len (object_at (view_of c.args.space.now) (function_keys (trees_in c.args.program.now))) 0 _) c.requires.location

pub bounds-before-l : goal.bounds-before-l
bounds-before-l c = rw (length_map (number_at (trees_in c.args.program.now) (view_of c.args.space.now)) _ _ c.requires.before) c.requires.location

pub returns : goal.returns
returns c =
    let u = trees_in c.args.program.now in
    let s = view_of c.args.space.now in
    let at : get_or c.args.at.now c.args.l None ≡ function_at u s c.args.l = ap (λ (xs : List (Option ObjectKey)). get_or xs c.args.l None) c.requires.at ∙ get_or-map-range_with_len (object_at s (function_keys u)) 0 _ c.args.l c.args.l None c.requires.location (omega arith) in
    let before : get_or c.args.before.now c.args.l 0 ≡ number_at u s c.args.l = read_zero (number_at u s) _ c.args.l _ c.requires.before c.requires.location in
    rw (c.collapsed.ensures.view, c.node_type.ensures.view, c.number_if.ensures, at, before) refl
