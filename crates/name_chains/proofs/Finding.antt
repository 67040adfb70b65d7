-- What is kept of the declaration of a leaf.
use Rattle.std.proofs.Common.{◌≡◌, ℕ, ◌<◌, Option, Some, None, List, length, take, sym, ap, ◌∙◌, arith}
use Rattle.std.proofs.lemmas.Option.{slice_get_within}
use Rattle.c_scope.specs.declared.kinds.Declared.{Declared}
use Rattle.c_scope.specs.Known.{those_at}
use Rattle.c_senses.specs.Tree.{Source}
use Rattle.c_senses.specs.Names.{linked_along, entry_of, made_before, linked_before, typing_declarations, before_in_scope, ordinary_at, scopes_at}
use Rattle.tree_reads.specs.leaf_maps.Numbers.{number_at}
use Rattle.name_chains.specs.declared.building.Seen.{Seen}
use Rattle.name_chains.specs.declared.building.NameChains.{NameChains}
use Rattle.name_chains.specs.Links.{listed}
use Rattle.name_chains.specs.Seen.{AreChainsOf, IsSeen, place_of, seen_by, seen_at, typed_with}
use Rattle.name_chains.proofs.Scoped.{past}
use Rattle.name_chains.proofs.Seeing.{IsAt, found_at, missing_at}

module _ (n : ℕ) (s : Source) (c : NameChains) (leaf : ℕ) (h : AreChainsOf n s c) where
  ds : List Declared
  ds = s.declared.ordinary

  -- what is kept there
  pub record Kept (x : Seen) : Type 0 where
    pub place : ℕ
    pub declared : Declared
    pub at : IsAt leaf s.declared.ordinary place declared
    pub seen : IsSeen (scopes_at s declared.node) (take place s.declared.ordinary) declared c.own.items c.links.items x

  by_seen : (o : Option ℕ) (x : Seen) → o ≡ place_of leaf s.declared.ordinary → seen_by c o ≡ Some x → Kept x
  by_seen None x e f = absurd (cc)
  by_seen (Some k) x e f =
      let there = found_at leaf s.declared.ordinary k (sym e) in
      record { place = k; declared = there.0; at = there.1; seen = h.seen k there.0 x there.1.at f }

  pub kept : (x : Seen) → Some x ≡ seen_at c leaf → Kept x
  kept x e = by_seen (number_at c.positions leaf) x (h.places leaf) (sym e)

  by_none : (o : Option ℕ) → o ≡ place_of leaf s.declared.ordinary → seen_by c o ≡ None → entry_of s.declared.ordinary leaf ≡ None
  by_none None e f = missing_at leaf s.declared.ordinary (sym e)
  by_none (Some k) e f =
      let there = found_at leaf s.declared.ordinary k (sym e) in
      let lt : k < length s.declared.ordinary = slice_get_within s.declared.ordinary k there.0 there.1.at in
      let le = past c.seen.items k f in
      absurd (omega (arith, h.count))

  pub none_kept : None ≡ seen_at c leaf → ordinary_at s leaf ≡ None
  none_kept e = by_none (number_at c.positions leaf) (h.places leaf) (sym e)

  module _ (x : Seen) (k : Kept x) where
    before : made_before k.declared.node s.declared.ordinary ≡ take k.place s.declared.ordinary
    before = ap (λ (l : ℕ). made_before l s.declared.ordinary) k.at.node ∙ k.at.before

    pub entry_is : Some x.declared ≡ ordinary_at s leaf
    entry_is = ap Some k.seen.declared ∙ sym k.at.entry

    pub linked_is : listed c.links.items x.linked ≡ linked_before s (ordinary_at s leaf)
    linked_is = k.seen.linked ∙ (ap (linked_along (scopes_at s k.declared.node) k.declared.symbol) (sym before) ∙ ap (linked_before s) (sym k.at.entry))

    pub typing_is : listed c.links.items x.typing ≡ typing_declarations s (ordinary_at s leaf)
    typing_is = k.seen.typing ∙ (ap (λ (l : List Declared). typed_with (linked_along (scopes_at s k.declared.node) k.declared.symbol l) k.declared) (sym before) ∙ ap (typing_declarations s) (sym k.at.entry))

    pub in_scope_is : listed c.own.items x.in_scope ≡ before_in_scope s (ordinary_at s leaf)
    in_scope_is = k.seen.in_scope ∙ (ap (those_at k.declared.scope k.declared.symbol) (sym before) ∙ ap (before_in_scope s) (sym k.at.entry))
