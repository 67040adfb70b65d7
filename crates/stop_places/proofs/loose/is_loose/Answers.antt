use Rattle.std.proofs.Common.{◌≡◌, ◌<◌, length, ap, sym, subst, ◌∙◌, arith}
use Rattle.std.proofs.lemmas.List.FromFn.{length-map-range_with_len}
use Rattle.c_types.specs.Table.{type_of, types_of, IsAfter}
use Rattle.c_types.specs.Trees.{grow}
use Rattle.stop_places.specs.Loose.{is_loose, leads_to_array}
use Rattle.stop_places.proofs.Pushed.{read_map}
use Rattle.stop_places.proofs.loose.is_loose.Goals as goal

pub bounds-sight-to : goal.bounds-sight-to
bounds-sight-to c =
    let types = c.args.sight.now.program.now.types in
    let before : c.in-Pointer.to.0 < c.args.id.0 = subst (IsAfter c.args.id.0) c.in-Pointer.is c.term.ensures.types in
    let long : length c.args.sight.now.leads.now ≡ length types.terms = ap length c.requires.sight.leads ∙ length-map-range_with_len (λ i. leads_to_array (type_of types i)) 0 (length types.terms) in
    omega (arith, long, before, c.requires.id)

pub returns-in-Pointer : goal.returns-in-Pointer
returns-in-Pointer c =
    let types = c.args.sight.now.program.now.types in
    let before : c.in-Pointer.to.0 < c.args.id.0 = subst (IsAfter c.args.id.0) c.in-Pointer.is c.term.ensures.types in
    read_map (λ i. leads_to_array (type_of types i)) (length types.terms) c.in-Pointer.to.0 c.args.sight.now.leads.now _ c.requires.sight.leads (omega (arith, before, c.requires.id))
    ∙ sym (ap is_loose (c.term.ensures.tree ∙ ap (grow (types_of types)) c.in-Pointer.is))
