use Rattle.std.proofs.Common.{arith, ◌≡◌, ◌∙◌, length, ap, refl, Some, Option, ℕ, ◌<◌}
use Rattle.std.specs.Option.{unwrap_or}
use Rattle.std.specs.List.{slice_get}
use Rattle.std.proofs.lemmas.Option.{slice_get_read}
use Rattle.core_tree.specs.Typed.{trees_in}
use Rattle.obj_space.specs.View.{view_of}
use Rattle.row_numbers.specs.Functions.{functions_of}
use Rattle.row_numbers.specs.Setting.{result_row}
use Rattle.row_numbers.proofs.FrameLemmas.{read_map, length_map}
use Rattle.constraints.proofs.ListLemmas.{types_all}
use Rattle.constraints.proofs.functions.function_fact.Goals as goal

pub index-first-requires : goal.index-first-requires
index-first-requires c =
    let many = length_map (result_row (trees_in c.args.program.now) (view_of c.args.space.now)) _ _ c.requires.results.starts in
    let same = ap length c.requires.results.functions in
    omega (arith, many, same, c.requires.number, c.args.results.now.starts.ok.0)

pub key_id-requires : goal.key_id-requires
key_id-requires c = types_all (trees_in c.args.program.now) c.requires.range

pub parameters_by-requires-clause-types : goal.parameters_by-requires-clause-types
parameters_by-requires-clause-types c = types_all (trees_in c.args.program.now) c.requires.range

pub result_list-requires-clause-types : goal.result_list-requires-clause-types
result_list-requires-clause-types c = types_all (trees_in c.args.program.now) c.requires.range

pub result_list-requires-clause-first : goal.result_list-requires-clause-first
result_list-requires-clause-first c =
    let u = trees_in c.args.program.now in
    let s = view_of c.args.space.now in
    let inside : c.args.number < length (functions_of u s) = rw (← c.requires.results.functions) c.requires.number in
    let e = read_map (result_row u s) _ _ _ _ c.requires.results.starts inside c.index-first.ensures in
    omega (arith, e, c.requires.results.result_rows c.args.number, c.requires.results.small)

pub returns : goal.returns
returns c =
    let u = trees_in c.args.program.now in
    let s = view_of c.args.space.now in
    let key = c.index-key.result.now in
    let at : slice_get c.args.results.now.functions.items c.args.number ≡ Some key = slice_get_read c.args.results.now.functions.items _ c.args.number key refl c.requires.number c.index-key.ensures in
    let inside : c.args.number < length (functions_of u s) = rw (← c.requires.results.functions) c.requires.number in
    let first = read_map (result_row u s) _ _ _ _ c.requires.results.starts inside c.index-first.ensures in (
      key,
      at,
      record {
        location = c.unwrap_or.ensures ∙ ap (λ (o : Option ℕ). unwrap_or o 0) c.first.ensures.value;
        signature = rw c.key_id.ensures.value at c.in_ok-called_signature.ensures;
        parameters = c.in_ok-parameters_by.ensures;
        result = c.in_ok-result_list.ensures ∙ rw (c.requires.results.none, first) refl;
        library = c.library_by.ensures;
        effects = c.in_ok-effects_by.ensures;
      },
    )
