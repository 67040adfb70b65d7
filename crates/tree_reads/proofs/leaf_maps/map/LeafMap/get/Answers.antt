use Rattle.std.proofs.Common.{arith, ℕ, suc, List, Option, Some, Ok, Err, subst, sym, ap, ◌∙◌, ◌≡◌, ◌<◌, ◌-◌, length, get_or, inl, inr}
use Rattle.std.proofs.lemmas.Bool.Decides.{leb_tells}
use Rattle.std.proofs.lemmas.List.{get_or_default}
use Rattle.std.proofs.lemmas.List.Sorted.{searched}
use Rattle.std.specs.List.Sorted.{IsBinarySearchResult}
use Rattle.std.specs.Ordering.{nat_cmp}
use Rattle.c_senses.specs.World.{or_else}
use Rattle.tree_reads.specs.leaf_maps.Numbers.{number_at}
use Rattle.tree_reads.specs.leaf_maps.Rising.{pairs_of}
use Rattle.tree_reads.proofs.leaf_maps.Finding.{found_in, found_at, missing, missing_behind, rises_all}
use Rattle.tree_reads.proofs.leaf_maps.map.LeafMap.get.Goals as goal

pub returns-in-Ok : goal.returns-in-Ok
returns-in-Ok c =
    let leaves = c.self.inside.leaves.items in
    let numbers = c.self.inside.numbers.items in
    let others = c.self.inside.others.entries in
    let are = c.self.invariant in
    let position = subst (λ (l : List ℕ). IsBinarySearchResult (λ y. nat_cmp y c.args.leaf) l (Ok c.in-Ok.place)) c.deref.ensures.value c.in-Ok.ensures.position in
    let found = searched leaves c.args.leaf (Ok c.in-Ok.place) position (rises_all leaves numbers are) in
    let there : number_at (pairs_of leaves numbers) c.args.leaf ≡ Some (get_or numbers c.in-Ok.place 0) = found_at leaves numbers c.in-Ok.place c.args.leaf are.long are.rises found.0 found.1 in
    let read : c.index.result.now ≡ get_or numbers c.in-Ok.place 0 = c.index.ensures ∙ get_or_default numbers c.in-Ok.place _ 0 (omega (arith, found.0, are.long)) in
    rw (← c.self.view_is) (ap Some read ∙ sym (found_in (pairs_of leaves numbers) others c.args.leaf ∙ ap (λ (o : Option ℕ). or_else o (number_at others c.args.leaf)) there))

pub returns-in-Err : goal.returns-in-Err
returns-in-Err c =
    let leaves = c.self.inside.leaves.items in
    let numbers = c.self.inside.numbers.items in
    let others = c.self.inside.others.entries in
    let are = c.self.invariant in
    let place = c.in-Err.field-0 in
    let position = subst (λ (l : List ℕ). IsBinarySearchResult (λ y. nat_cmp y c.args.leaf) l (Err place)) c.deref.ensures.value c.in-Err.ensures.position in
    let found = searched leaves c.args.leaf (Err place) position (rises_all leaves numbers are) in
    let none = missing leaves numbers c.args.leaf (λ i h e. elim (leb_tells (suc i) place) [
      | inl less ↦ let lt = less.1 in let below = found.1 i (omega arith) in omega (arith, below, e)
      | inr more ↦ let ge = more.1 in let above = found.2 i (omega arith) h in omega (arith, above, e)
    ]) in
    rw (← c.self.view_is) (c.copied-in-Err.ensures
    ∙ (c.get-in-Err.ensures.value ∙ sym (found_in (pairs_of leaves numbers) others c.args.leaf ∙ ap (λ (o : Option ℕ). or_else o (number_at others c.args.leaf)) none)))

pub returns-then-is_behind : goal.returns-then-is_behind
returns-then-is_behind c =
    let leaves = c.self.inside.leaves.items in
    let numbers = c.self.inside.numbers.items in
    let others = c.self.inside.others.entries in
    let behind = subst (λ (l : List ℕ). 0 < length l → get_or l (length l - 1) 0 < c.args.leaf) c.as_slice.ensures.value (c.is_behind.ensures c.if-is_behind.true) in
    let none = missing_behind leaves numbers c.args.leaf c.self.invariant behind in
    rw (← c.self.view_is) (c.copied.ensures
    ∙ (c.get.ensures.value ∙ sym (found_in (pairs_of leaves numbers) others c.args.leaf ∙ ap (λ (o : Option ℕ). or_else o (number_at others c.args.leaf)) none)))
