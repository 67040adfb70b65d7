use Rattle.std.proofs.Common.{arith, ◌≡◌, ◌<◌, ◌≤◌, ◌^◌, List, Option, length, map, sum, refl, ap, sym, ◌∙◌}
use Rattle.std.specs.List.{filter_map, range_with_len}
use Rattle.std.proofs.lemmas.List.{length-map}
use Rattle.c_types.specs.declared.key.ObjectKey.{ObjectKey}
use Rattle.core_tree.specs.Typed.{trees_in}
use Rattle.obj_space.specs.View.{view_of}
use Rattle.row_numbers.specs.Kept.{kept_count}
use Rattle.row_numbers.specs.Functions.{functions_of, objects_at}
use Rattle.row_numbers.specs.Numbering.{present_before}
use Rattle.row_numbers.specs.Setting.{result_widths, result_nodes, none_row}
use Rattle.row_numbers.proofs.NumberingLemmas.{result_widths_few}
use Rattle.row_numbers.proofs.FrameLemmas.{functions_is, before_is, results_is, locations_within, result_within, present_few, length_objects, results_last}
use Rattle.row_numbers.proofs.results.number_results.Goals as goal

pub present_before-requires : goal.present_before-requires
present_before-requires c =
    let s = view_of c.args.space.now in
    let placed : c.in_ok-at.at.items ≡ objects_at s c.in_ok-keys.keys.items s.count = c.in_ok-at.ensures ∙ ap (λ (ks : List ObjectKey). objects_at s ks s.count) c.as_slice.ensures.value in
    let many : length c.in_ok-at.at.items ≡ s.count = length_objects s _ _ placed in
    rw c.as_slice-4.ensures.value (omega (arith, many, locations_within (trees_in c.args.program.now) s, c.requires.rows, c.requires.few))

pub total-requires-clause-few : goal.total-requires-clause-few
total-requires-clause-few c =
    let s = view_of c.args.space.now in
    let placed : c.in_ok-at.at.items ≡ objects_at s c.in_ok-keys.keys.items s.count = c.in_ok-at.ensures ∙ ap (λ (ks : List ObjectKey). objects_at s ks s.count) c.as_slice.ensures.value in
    let many : length c.in_ok-at.at.items ≡ s.count = length_objects s _ _ placed in
    let few = present_few c.in_ok-at.at.items in
    let kept : length c.in_ok-functions.functions.items ≤ length c.in_ok-at.at.items = rw (c.in_ok-functions.ensures, c.as_slice-2.ensures.value) few in
    let same : length c.as_slice-5.result.now ≡ length c.in_ok-functions.functions.items = ap length (c.as_slice-5.ensures.value ∙ c.in_ok-widths.ensures) ∙ (length-map c.as_slice-3.result.now (λ (key : ObjectKey). kept_count (result_nodes (trees_in c.args.program.now) key)) ∙ ap length c.as_slice-3.ensures.value) in
    omega (arith, same, kept, many, locations_within (trees_in c.args.program.now) s, c.requires.rows, c.requires.few)

pub total-requires-clause-small : goal.total-requires-clause-small
total-requires-clause-small c = rw (c.as_slice-5.ensures.value ∙ c.in_ok-widths.ensures) (result_widths_few (trees_in c.args.program.now) c.as_slice-3.result.now)

pub overflow_sub-first : goal.overflow_sub-first
overflow_sub-first c =
    let u = trees_in c.args.program.now in
    let s = view_of c.args.space.now in
    let placed : c.in_ok-at.at.items ≡ objects_at s c.in_ok-keys.keys.items s.count = c.in_ok-at.ensures ∙ ap (λ (ks : List ObjectKey). objects_at s ks s.count) c.as_slice.ensures.value in
    let found : c.in_ok-functions.functions.items ≡ functions_of u s = functions_is u s _ _ _ c.in_ok-keys.ensures placed (c.in_ok-functions.ensures ∙ ap (filter_map (λ (o : Option ObjectKey). o)) c.as_slice-2.ensures.value) in
    let result_list : c.as_slice-5.result.now ≡ result_widths u s = c.as_slice-5.ensures.value ∙ (c.in_ok-widths.ensures ∙ ap (map (λ (key : ObjectKey). kept_count (result_nodes u key))) (c.as_slice-3.ensures.value ∙ found)) in
    let all : c.total.result ≡ sum (result_widths u s) = c.total.ensures.sum ∙ ap sum result_list in
    let last = results_last u s (none_row u s) c.total.result refl all in
    omega (arith, last, c.requires.rows)

pub starts-requires : goal.starts-requires
starts-requires c =
    let u = trees_in c.args.program.now in
    let s = view_of c.args.space.now in
    let placed : c.in_ok-at.at.items ≡ objects_at s c.in_ok-keys.keys.items s.count = c.in_ok-at.ensures ∙ ap (λ (ks : List ObjectKey). objects_at s ks s.count) c.as_slice.ensures.value in
    let found : c.in_ok-functions.functions.items ≡ functions_of u s = functions_is u s _ _ _ c.in_ok-keys.ensures placed (c.in_ok-functions.ensures ∙ ap (filter_map (λ (o : Option ObjectKey). o)) c.as_slice-2.ensures.value) in
    let result_list : c.as_slice-5.result.now ≡ result_widths u s = c.as_slice-5.ensures.value ∙ (c.in_ok-widths.ensures ∙ ap (map (λ (key : ObjectKey). kept_count (result_nodes u key))) (c.as_slice-3.ensures.value ∙ found)) in
    let all : c.total.result ≡ sum (result_widths u s) = c.total.ensures.sum ∙ ap sum result_list in
    let last = results_last u s (none_row u s) c.total.result refl all in
    let again : sum c.as_slice-6.result.now ≡ c.total.result = ap sum (c.as_slice-6.ensures.value ∙ sym c.as_slice-5.ensures.value) ∙ sym c.total.ensures.sum in
    omega (arith, last, again, c.requires.rows, c.requires.few)

pub returns : goal.returns
returns c =
    let u = trees_in c.args.program.now in
    let s = view_of c.args.space.now in
    let placed : c.in_ok-at.at.items ≡ objects_at s c.in_ok-keys.keys.items s.count = c.in_ok-at.ensures ∙ ap (λ (ks : List ObjectKey). objects_at s ks s.count) c.as_slice.ensures.value in
    let found : c.in_ok-functions.functions.items ≡ functions_of u s = functions_is u s _ _ _ c.in_ok-keys.ensures placed (c.in_ok-functions.ensures ∙ ap (filter_map (λ (o : Option ObjectKey). o)) c.as_slice-2.ensures.value) in
    let result_list : c.as_slice-5.result.now ≡ result_widths u s = c.as_slice-5.ensures.value ∙ (c.in_ok-widths.ensures ∙ ap (map (λ (key : ObjectKey). kept_count (result_nodes u key))) (c.as_slice-3.ensures.value ∙ found)) in
    let all : c.total.result ≡ sum (result_widths u s) = c.total.ensures.sum ∙ ap sum result_list in
    let last = results_last u s (none_row u s) c.total.result refl all in
    let before = c.in_ok-before.ensures ∙ ap (λ (at : List (Option ObjectKey)). map (present_before at) (range_with_len 0 (length at))) c.as_slice-4.ensures.value in
    let many : length c.in_ok-at.at.items ≡ s.count = length_objects s _ _ placed in
    let present = present_few c.in_ok-at.at.items in
    let kept : length c.in_ok-functions.functions.items ≤ length c.in_ok-at.at.items = rw (c.in_ok-functions.ensures, c.as_slice-2.ensures.value) present in
    let within = locations_within u s in
    let few : length (functions_of u s) < 2 ^ 32 = rw (← found) (omega (arith, kept, many, within, c.requires.rows, c.requires.few)) in
    let again : c.as_slice-6.result.now ≡ result_widths u s = c.as_slice-6.ensures.value ∙ (sym c.as_slice-5.ensures.value ∙ result_list) in
    record {
      at = placed ∙ ap (λ (ks : List ObjectKey). objects_at s ks s.count) c.in_ok-keys.ensures;
      functions = found;
      few = few;
      before = before_is u s _ _ _ c.in_ok-keys.ensures placed before;
      starts = results_is u s _ _ _ (omega (arith, last, c.requires.rows)) again c.in_ok-firsts.ensures;
      none = omega (arith, c.requires.rows);
      small = omega (arith, c.requires.rows, c.requires.few);
      locations = within;
      result_rows = result_within u s;
    }
