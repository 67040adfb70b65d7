-- A program has a call for each call node at most.
use Rattle.std.proofs.Common.{arith, ℕ, zero, suc, ◌+◌, ◌<◌, ◌≤◌, ◌^◌, List, Option, Some, None, length}
use Rattle.std.specs.List.{slice_get, filter_map, range_with_len, cons_option}
use Rattle.std.proofs.lemmas.Slice.Zip.{AllZip-long}
use Rattle.core_tree.specs.declared.node.Program.{Program}
use Rattle.obj_space.specs.View.{SpaceView}
use Rattle.row_numbers.specs.Frame.{IsNumbered}
use Rattle.call_sites.specs.Calls.{call_if, calls_upto, IsSiteAt}
use Rattle.normal_form.specs.declared.normal.Normal.{Normal}
use Rattle.normal_form.specs.SystemOf.{IsWhole, setting_of}

one_more : (o : Option ℕ) (xs : List ℕ) (n : ℕ) → length xs ≤ n → length (cons_option o xs) ≤ suc n
one_more None xs n h = omega arith
one_more (Some x) xs n h = omega arith

fewer : (f : ℕ → Option ℕ) (a n : ℕ) → length (filter_map f (range_with_len a n)) ≤ n
fewer f a zero = omega arith
fewer f a (suc n) = one_more (f a) (filter_map f (range_with_len (a + 1) n)) n (fewer f (a + 1) n)

pub calls_few : (p : Program) (s : SpaceView) (normal : Normal) → IsNumbered p → IsWhole p s normal → length normal.calls < 2 ^ 32
calls_few p s normal numbered whole =
    let nodes = p.nodes.items in
    let each = AllZip-long (IsSiteAt (setting_of p s whole.owners)) (calls_upto nodes (length nodes)) normal.calls whole.calls in
    let few = fewer (λ n. call_if n (slice_get nodes n)) 0 (length nodes) in
    let small = numbered.nodes in
    omega arith
