use Rattle.std.proofs.Common.{arith, ◌≡◌, ◌<◌, ◌≤◌, ◌+◌, ◌^◌, ℕ, List, Option, length, map, sum, ap, sym, ◌∙◌}
use Rattle.std.specs.List.{filter_map, range_with_len}
use Rattle.std.proofs.lemmas.List.{length-map}
use Rattle.c_types.specs.declared.key.ObjectKey.{ObjectKey}
use Rattle.core_tree.specs.declared.node.Node.{Node}
use Rattle.core_tree.specs.Typed.{trees_in}
use Rattle.obj_space.specs.View.{view_of}
use Rattle.row_numbers.specs.Kept.{kept_count}
use Rattle.row_numbers.specs.Functions.{functions_of, objects_at}
use Rattle.row_numbers.specs.Numbering.{present_before, own_row}
use Rattle.row_numbers.specs.Setting.{widths, result_widths, result_nodes, none_row, start_at}
use Rattle.row_numbers.proofs.NumberingLemmas.{widths_few, result_widths_few, all_small, starts_within}
use Rattle.row_numbers.proofs.FrameLemmas.{functions_is, before_is, firsts_is, rows_is, results_is, none_is, past_is, locations_within, node_within, result_within, present_few, length_objects, length_map}
use Rattle.row_numbers.proofs.frame.number_rows.Goals as goal

pub total-requires-clause-small : goal.total-requires-clause-small
total-requires-clause-small c = rw (c.as_slice-4.ensures.value ∙ c.in_ok-node_widths.ensures) (widths_few (trees_in c.args.program.now))

pub total-requires-2-clause-few : goal.total-requires-2-clause-few
total-requires-2-clause-few c =
    let u = trees_in c.args.program.now in
    let s = view_of c.args.space.now in
    let placed : c.in_ok-at.at.items ≡ objects_at s c.in_ok-keys.keys.items s.count = c.in_ok-at.ensures ∙ ap (λ (ks : List ObjectKey). objects_at s ks s.count) c.as_slice.ensures.value in
    let found : c.in_ok-functions.functions.items ≡ functions_of u s = functions_is u s _ _ _ c.in_ok-keys.ensures placed (c.in_ok-functions.ensures ∙ ap (filter_map (λ (o : Option ObjectKey). o)) c.as_slice-2.ensures.value) in
    let many : length c.in_ok-at.at.items ≡ s.count = length_objects s _ _ placed in
    let few = present_few c.in_ok-at.at.items in
    let kept : length c.in_ok-functions.functions.items ≤ length c.in_ok-at.at.items = rw (c.in_ok-functions.ensures, c.as_slice-2.ensures.value) few in
    let same : length c.as_slice-5.result.now ≡ length c.in_ok-functions.functions.items = ap length (c.as_slice-5.ensures.value ∙ c.in_ok-widths_of_results.ensures) ∙ (length-map c.as_slice-3.result.now (λ (key : ObjectKey). kept_count (result_nodes u key)) ∙ ap length c.as_slice-3.ensures.value) in
    omega (arith, same, kept, many, c.count.ensures, c.count.type_inv)

pub total-requires-2-clause-small : goal.total-requires-2-clause-small
total-requires-2-clause-small c = rw (c.as_slice-5.ensures.value ∙ c.in_ok-widths_of_results.ensures) (result_widths_few (trees_in c.args.program.now) c.as_slice-3.result.now)

pub returns-then-end : goal.returns-then-end
returns-then-end c =
    let u = trees_in c.args.program.now in
    let s = view_of c.args.space.now in
    let placed : c.in_ok-at.at.items ≡ objects_at s c.in_ok-keys.keys.items s.count = c.in_ok-at.ensures ∙ ap (λ (ks : List ObjectKey). objects_at s ks s.count) c.as_slice.ensures.value in
    let found : c.in_ok-functions.functions.items ≡ functions_of u s = functions_is u s _ _ _ c.in_ok-keys.ensures placed (c.in_ok-functions.ensures ∙ ap (filter_map (λ (o : Option ObjectKey). o)) c.as_slice-2.ensures.value) in
    let node_list : c.as_slice-4.result.now ≡ widths u = c.as_slice-4.ensures.value ∙ c.in_ok-node_widths.ensures in
    let result_list : c.as_slice-5.result.now ≡ result_widths u s = c.as_slice-5.ensures.value ∙ (c.in_ok-widths_of_results.ensures ∙ ap (map (λ (key : ObjectKey). kept_count (result_nodes u key))) (c.as_slice-3.ensures.value ∙ found)) in
    let count : c.from.result ≡ s.count = c.from.ensures ∙ c.count.ensures in
    let end : c.from.result + c.total.result + c.total-2.result ≡ none_row u s = none_is u s _ _ _ count (c.total.ensures.sum ∙ ap sum node_list) (c.total-2.ensures.sum ∙ ap sum result_list) in
    (omega (arith, end), omega (arith, c.if-end.true))

pub present_before-requires : goal.present_before-requires
present_before-requires c =
    let u = trees_in c.args.program.now in
    let s = view_of c.args.space.now in
    let placed : c.in_ok-at.at.items ≡ objects_at s c.in_ok-keys.keys.items s.count = c.in_ok-at.ensures ∙ ap (λ (ks : List ObjectKey). objects_at s ks s.count) c.as_slice.ensures.value in
    let many : length c.in_ok-at.at.items ≡ s.count = length_objects s _ _ placed in
    rw c.as_slice-6.ensures.value (omega (arith, many, c.count.ensures, c.count.type_inv))

pub own_rows-requires-clause-each : goal.own_rows-requires-clause-each
own_rows-requires-clause-each c =
    let u = trees_in c.args.program.now in
    let s = view_of c.args.space.now in
    let node_list : c.as_slice-7.result.now ≡ widths u = c.as_slice-7.ensures.value ∙ c.in_ok-node_widths.ensures in
    let firsts = c.as_slice-9.ensures.value ∙ firsts_is u s _ _ node_list (c.in_ok-firsts.ensures ∙ ap (λ (n : ℕ). map (start_at n c.as_slice-7.result.now) (range_with_len 0 (length c.as_slice-7.result.now))) c.count-2.ensures) in
    length_map (start_at s.count (widths u)) (length u.nodes) _ firsts ∙ sym (ap length c.as_slice-8.ensures.value)

pub own_rows-requires-clause-small : goal.own_rows-requires-clause-small
own_rows-requires-clause-small c =
    let u = trees_in c.args.program.now in
    let s = view_of c.args.space.now in
    let again : c.as_slice-4.result.now ≡ widths u = c.as_slice-4.ensures.value ∙ c.in_ok-node_widths.ensures in
    let node_list : c.as_slice-7.result.now ≡ widths u = c.as_slice-7.ensures.value ∙ c.in_ok-node_widths.ensures in
    let firsts = c.as_slice-9.ensures.value ∙ firsts_is u s _ _ node_list (c.in_ok-firsts.ensures ∙ ap (λ (n : ℕ). map (start_at n c.as_slice-7.result.now) (range_with_len 0 (length c.as_slice-7.result.now))) c.count-2.ensures) in
    let count : c.from.result ≡ s.count = c.from.ensures ∙ c.count.ensures in
    let nodes : c.total.result ≡ sum (widths u) = c.total.ensures.sum ∙ ap sum again in
    let most : s.count + sum (widths u) ≤ 2 ^ 24 = omega (arith, count, nodes, c.if-end.false) in
    rw firsts (all_small (start_at s.count (widths u)) (range_with_len 0 (length u.nodes)) (2 ^ 24) (λ k. omega (arith, starts_within s.count (widths u) k, most)))

pub returns : goal.returns
returns c =
    let u = trees_in c.args.program.now in
    let s = view_of c.args.space.now in
    let placed : c.in_ok-at.at.items ≡ objects_at s c.in_ok-keys.keys.items s.count = c.in_ok-at.ensures ∙ ap (λ (ks : List ObjectKey). objects_at s ks s.count) c.as_slice.ensures.value in
    let found : c.in_ok-functions.functions.items ≡ functions_of u s = functions_is u s _ _ _ c.in_ok-keys.ensures placed (c.in_ok-functions.ensures ∙ ap (filter_map (λ (o : Option ObjectKey). o)) c.as_slice-2.ensures.value) in
    let node_list : c.as_slice-4.result.now ≡ widths u = c.as_slice-4.ensures.value ∙ c.in_ok-node_widths.ensures in
    let result_list : c.as_slice-5.result.now ≡ result_widths u s = c.as_slice-5.ensures.value ∙ (c.in_ok-widths_of_results.ensures ∙ ap (map (λ (key : ObjectKey). kept_count (result_nodes u key))) (c.as_slice-3.ensures.value ∙ found)) in
    let count : c.from.result ≡ s.count = c.from.ensures ∙ c.count.ensures in
    let end : c.from.result + c.total.result + c.total-2.result ≡ none_row u s = none_is u s _ _ _ count (c.total.ensures.sum ∙ ap sum node_list) (c.total-2.ensures.sum ∙ ap sum result_list) in
    let before = c.in_ok-before.ensures ∙ ap (λ (at : List (Option ObjectKey)). map (present_before at) (range_with_len 0 (length at))) c.as_slice-6.ensures.value in
    let many : length c.in_ok-at.at.items ≡ s.count = length_objects s _ _ placed in
    let present = present_few c.in_ok-at.at.items in
    let kept : length c.in_ok-functions.functions.items ≤ length c.in_ok-at.at.items = rw (c.in_ok-functions.ensures, c.as_slice-2.ensures.value) present in
    let few : length (functions_of u s) < 2 ^ 32 = rw (← found) (omega (arith, kept, many, c.count.ensures, c.count.type_inv)) in
    let nodes_again : c.as_slice-7.result.now ≡ widths u = c.as_slice-7.ensures.value ∙ (sym c.as_slice-4.ensures.value ∙ node_list) in
    let results_again : c.as_slice-10.result.now ≡ result_widths u s = c.as_slice-10.ensures.value ∙ (sym c.as_slice-5.ensures.value ∙ result_list) in
    let sum_nodes : c.total.result ≡ sum (widths u) = c.total.ensures.sum ∙ ap sum node_list in
    let first : c.from.result + c.total.result ≡ s.count + sum (widths u) = omega (arith, count, sum_nodes) in
    let firsts = c.as_slice-9.ensures.value ∙ firsts_is u s _ _ nodes_again (c.in_ok-firsts.ensures ∙ ap (λ (n : ℕ). map (start_at n c.as_slice-7.result.now) (range_with_len 0 (length c.as_slice-7.result.now))) c.count-2.ensures) in
    record {
      functions = found;
      few = few;
      before = before_is u s _ _ _ c.in_ok-keys.ensures placed before;
      rows = rows_is u s _ _ firsts (c.in_ok-rows.ensures ∙ ap (λ (nodes : List Node). map (own_row nodes c.as_slice-9.result.now) (range_with_len 0 (length nodes))) c.as_slice-8.ensures.value);
      results = results_is u s _ _ _ first results_again c.in_ok-results.ensures;
      none = end;
      small = omega (arith, end, c.if-end.false);
      locations = locations_within u s;
      past = past_is u s;
      node_rows = node_within u s;
      result_rows = result_within u s;
    }
