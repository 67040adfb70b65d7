use Rattle.std.proofs.Common.{◌≡◌, ◌<◌, length, ap, sym, subst, ◌∙◌, arith}
use Rattle.std.proofs.lemmas.List.FromFn.{length-map-range_with_len}
use Rattle.c_types.specs.Table.{type_of, types_of, IsAfter}
use Rattle.c_types.specs.Trees.{grow}
use Rattle.stop_places.specs.Loose.{leads_to_array}
use Rattle.stop_places.proofs.Pushed.{read_map}
use Rattle.stop_places.proofs.tables.leads_after.Goals as goal

pub bounds-leads-to : goal.bounds-leads-to
bounds-leads-to c =
    let before : c.in-Pointer.to.0 < c.args.id.0 = subst (IsAfter c.args.id.0) c.in-Pointer.is c.term.ensures.types in
    let long : length c.args.leads.now ≡ c.args.id.0 = ap length c.requires.leads ∙ length-map-range_with_len (λ i. leads_to_array (type_of c.args.types.now i)) 0 c.args.id.0 in
    omega arith

pub returns-in-Pointer : goal.returns-in-Pointer
returns-in-Pointer c =
    let before : c.in-Pointer.to.0 < c.args.id.0 = subst (IsAfter c.args.id.0) c.in-Pointer.is c.term.ensures.types in
    read_map (λ i. leads_to_array (type_of c.args.types.now i)) c.args.id.0 c.in-Pointer.to.0 c.args.leads.now _ c.requires.leads before
    ∙ sym (ap leads_to_array (c.term.ensures.tree ∙ ap (grow (types_of c.args.types.now)) c.in-Pointer.is))
