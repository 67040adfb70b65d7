use Rattle.std.proofs.Common.{◌≡◌, ℕ, ◌<◌, true, false, Bool, List, [], ◌∷◌, ◌++◌, length, set, sym, ◌∙◌, ap, subst, arith, get_or-set_same}
use Rattle.edge_book.specs.Leaving.{targets_of}
use Rattle.row_share.specs.share_laws.Orders.{IsSearch, is_seen}
use Rattle.row_share.proofs.share_laws.Searching.{search_begin, seen_more}
use Rattle.row_share.proofs.row_classes.order.visit.Goals as goal

pub loop-row-init : goal.loop-row-init
loop-row-init c =
    let small : c.args.root < length c.args.seen.now = (let s = c.requires.search.sized in let r = c.requires.root in omega arith) in
    let unseen : is_seen c.args.seen.now c.args.root ≡ false = sym c.is_seen.ensures ∙ c.if-is_seen.false in
    record {
      search = subst (λ (seen : List Bool). IsSearch c.args.system.now (λ row. targets_of row c.args.copies.now) c.args.order.now.items c.enter.new.path.items seen) (sym c.enter.ensures.seen)
          (subst (λ (path : List (ℕ × ℕ)). IsSearch c.args.system.now (λ row. targets_of row c.args.copies.now) c.args.order.now.items path (set c.args.seen.now c.args.root true))
          (sym (c.in_ok-enter.ensures.path ∙ ap (λ (path : List (ℕ × ℕ)). path ++ (c.args.root, 0) ∷ []) c.requires.empty))
          (search_begin c.args.system.now (λ row. targets_of row c.args.copies.now) c.args.order.now.items c.args.seen.now c.args.root c.requires.search small unseen));
      root = subst (λ (seen : List Bool). is_seen seen c.args.root ≡ true) (sym c.enter.ensures.seen) (get_or-set_same c.args.seen.now c.args.root true false small);
      kept = λ other h. subst (λ (seen : List Bool). is_seen seen other ≡ true) (sym c.enter.ensures.seen) (seen_more c.args.seen.now c.args.root other small h);
    }

pub advance-requires-clause-search : goal.advance-requires-clause-search
advance-requires-clause-search c = subst (λ (path : List (ℕ × ℕ)). IsSearch c.args.system.now (λ row. targets_of row c.args.copies.now) c.loop-row.order.items path c.loop-row.seen) c.in-Some.ensures.items c.loop-row.invariant.search
