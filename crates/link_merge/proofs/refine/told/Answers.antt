use Rattle.std.proofs.Common.{◌≡◌, ◌<◌, List, ℕ, All, length, get_or, sym, subst}
use Rattle.link_merge.specs.Kids.{IsSpread}
use Rattle.link_merge.specs.Parted.{lists_of}
use Rattle.link_merge.proofs.Begun.{firsts_within, firsts_itself}
use Rattle.link_merge.proofs.refine.told.Goals as goal

pub spread-requires-clause-within : goal.spread-requires-clause-within
spread-requires-clause-within c =
    subst (λ (xs : List ℕ). All (λ k. k < length xs) xs) (sym c.as_slice.ensures.value) (firsts_within c.args.types.now c.in_ok-firsts.firsts.items c.in_ok-firsts.ensures)

pub spread-requires-clause-itself : goal.spread-requires-clause-itself
spread-requires-clause-itself c =
    subst (λ (xs : List ℕ). (k : ℕ) → k < length xs → get_or xs (get_or xs k 0) 0 ≡ get_or xs k 0) (sym c.as_slice.ensures.value) (firsts_itself c.args.types.now c.in_ok-firsts.firsts.items c.in_ok-firsts.ensures)

pub returns : goal.returns
returns c = record {
  firsts = c.in_ok-firsts.firsts.items;
  firsts_are = c.in_ok-firsts.ensures;
  spread = subst (λ (xs : List ℕ). IsSpread c.args.leaders.now xs (lists_of c.args.kids.now) c.in_ok-list.list.items) c.as_slice.ensures.value c.in_ok-list.ensures;
}
