use Rattle.std.proofs.Common.{◌≡◌, ℕ, ◌+◌, ◌*◌, ◌<◌, ◌≤◌, true, Bool, List, [], ◌∷◌, ◌++◌, length, get_or, set, sym, ◌∙◌, ap, subst, arith, length-append}
use Rattle.sol_model.specs.Systems.{IsRow}
use Rattle.edge_book.specs.Leaving.{targets_of}
use Rattle.row_share.specs.share_laws.Orders.{IsSearch, is_seen, unseen}
use Rattle.row_share.proofs.share_laws.Marking.{target_rows}
use Rattle.row_share.proofs.share_laws.Times.{unseen_set}
use Rattle.row_share.proofs.share_laws.Searching.{search_go, search_leave}
use Rattle.row_share.proofs.row_classes.Books.{on_ok}
use Rattle.row_share.proofs.row_classes.order.advance.Goals as goal

pub first_unseen-requires : goal.first_unseen-requires
first_unseen-requires c k d lt =
    let known : IsRow c.args.system.now (get_or c.targets-targets.result.now k d) = subst (λ (xs : List ℕ). k < length xs → IsRow c.args.system.now (get_or xs k d)) (sym c.targets-targets.ensures)
    (λ inside. target_rows c.args.system.now c.requires.valid (λ row. targets_of row c.args.copies.now) c.requires.copies c.args.row k d inside) lt in
    let s = c.requires.search.sized in omega arith

pub enter-requires : goal.enter-requires
enter-requires c =
    let known : IsRow c.args.system.now (get_or c.targets-targets.result.now c.in-Some.at 0) = subst (λ (xs : List ℕ). c.in-Some.at < length xs → IsRow c.args.system.now (get_or xs c.in-Some.at 0)) (sym c.targets-targets.ensures)
    (λ inside. target_rows c.args.system.now c.requires.valid (λ row. targets_of row c.args.copies.now) c.requires.copies c.args.row c.in-Some.at 0 inside) c.in-Some.ensures.within in
    let s = c.requires.search.sized in omega arith

pub returns-in_ok-push-in-Some-clause-search : goal.returns-in_ok-push-in-Some-clause-search
returns-in_ok-push-in-Some-clause-search c =
    let S = c.args.system.now in
    let targets = c.targets-targets.result.now in
    let at = c.in-Some.at in
    let target = get_or targets at 0 in
    let known : IsRow c.args.system.now (get_or c.targets-targets.result.now c.in-Some.at 0) = subst (λ (xs : List ℕ). c.in-Some.at < length xs → IsRow c.args.system.now (get_or xs c.in-Some.at 0)) (sym c.targets-targets.ensures)
    (λ inside. target_rows c.args.system.now c.requires.valid (λ row. targets_of row c.args.copies.now) c.requires.copies c.args.row c.in-Some.at 0 inside) c.in-Some.ensures.within in
    let small : get_or c.targets-targets.result.now c.in-Some.at 0 < length c.args.seen.now = (let s = c.requires.search.sized in omega arith) in
    let went = search_go S (λ row. targets_of row c.args.copies.now) c.requires.copies c.args.order.now.items c.args.path.now.items c.args.seen.now c.args.row c.args.next at target c.requires.search
    (subst (λ (xs : List ℕ). c.in-Some.at < length xs) c.targets-targets.ensures c.in-Some.ensures.within)
    (ap (λ (xs : List ℕ). get_or xs c.in-Some.at 0) c.targets-targets.ensures) small c.in-Some.ensures.found
    (λ k low high. subst (λ (xs : List ℕ). is_seen c.args.seen.now (get_or xs k 0) ≡ true) c.targets-targets.ensures (c.in-Some.ensures.before k low high)) in
    on_ok c.enter.result (c.enter.new.path.items ≡ c.push.new.self.items ++ (target, 0) ∷ []) (IsSearch S (λ row. targets_of row c.args.copies.now) c.args.order.now.items c.enter.new.path.items c.enter.new.seen)
    (λ e. subst (λ (seen : List Bool). IsSearch S (λ row. targets_of row c.args.copies.now) c.args.order.now.items c.enter.new.path.items seen) (sym c.enter.ensures.seen)
    (subst (λ (path : List (ℕ × ℕ)). IsSearch S (λ row. targets_of row c.args.copies.now) c.args.order.now.items path (set c.args.seen.now target true))
    (sym (e ∙ ap (λ (path : List (ℕ × ℕ)). path ++ (target, 0) ∷ []) c.in_ok-push-in-Some.ensures.items)) went))
    c.enter.ensures.path

pub returns-in_ok-push-in-Some-clause-smaller : goal.returns-in_ok-push-in-Some-clause-smaller
returns-in_ok-push-in-Some-clause-smaller c =
    let target = get_or c.targets-targets.result.now c.in-Some.at 0 in
    let known : IsRow c.args.system.now (get_or c.targets-targets.result.now c.in-Some.at 0) = subst (λ (xs : List ℕ). c.in-Some.at < length xs → IsRow c.args.system.now (get_or xs c.in-Some.at 0)) (sym c.targets-targets.ensures)
    (λ inside. target_rows c.args.system.now c.requires.valid (λ row. targets_of row c.args.copies.now) c.requires.copies c.args.row c.in-Some.at 0 inside) c.in-Some.ensures.within in
    let small : get_or c.targets-targets.result.now c.in-Some.at 0 < length c.args.seen.now = (let s = c.requires.search.sized in omega arith) in
    let less = unseen_set c.args.seen.now target small c.in-Some.ensures.found in
    let same = ap unseen c.enter.ensures.seen in
    let one = ap length c.in_ok-push-in-Some.ensures.items ∙ length-append c.args.path.now.items ((c.args.row, c.in-Some.at) ∷ []) in
    on_ok c.enter.result (c.enter.new.path.items ≡ c.push.new.self.items ++ (target, 0) ∷ []) (2 * unseen c.enter.new.seen + length c.enter.new.path.items ≤ 2 * unseen c.args.seen.now + length c.args.path.now.items)
    (λ e. (let two = ap length e ∙ length-append c.push.new.self.items ((target, 0) ∷ []) in omega arith))
    c.enter.ensures.path

pub returns-in_ok-push-in-None-clause-search : goal.returns-in_ok-push-in-None-clause-search
returns-in_ok-push-in-None-clause-search c =
    subst (λ (order : List ℕ). IsSearch c.args.system.now (λ row. targets_of row c.args.copies.now) order c.args.path.now.items c.args.seen.now) (sym c.in_ok-push-in-None.ensures.items)
    (search_leave c.args.system.now (λ row. targets_of row c.args.copies.now) c.requires.copies c.args.order.now.items c.args.path.now.items c.args.seen.now c.args.row c.args.next c.requires.search
    (λ k low inside. subst (λ (xs : List ℕ). k < length xs → is_seen c.args.seen.now (get_or xs k 0) ≡ true) c.targets-targets.ensures (λ lt. c.in-None.ensures.none k low lt) inside))
