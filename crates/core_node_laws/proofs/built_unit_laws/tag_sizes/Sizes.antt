-- Structures and unions were asked for their limits where they were completed.
use Rattle.std.proofs.Common.{arith, ◌≡◌, ◌<◌, Bool, true, false, ◌&&◌, length, Option, Some, None, refl, sym, ap, ◌∙◌}
use Rattle.std.specs.Prelude.{is_some, IsSome}
use Rattle.c_types.specs.Trees.{Ctype}
use Rattle.c_types.specs.Layout.{Extent}
use Rattle.c_types.specs.Table.{type_of, extent_in, size_below, nodes_within}
use Rattle.c_senses.specs.World.{World, extent}
use Rattle.c_senses.specs.Limits.{is_small}
use Rattle.c_senses.specs.Tags.{aggregate_type}
use Rattle.c_senses.specs.Rows.{world_at}
use Rattle.core_node_laws.proofs.built_unit_laws.tag_sizes.Completed.{aggregate_small}
use Rattle.core_node_laws.specs.built_unit_laws.tag_sizes.Sizes.{IsSpecified, TagsSized}

both : (a b : Bool) → (a && b) ≡ true → (a ≡ true) × (b ≡ true)
both true b e = (refl, e)
both false b e = cc

abbrev IsSmall : Option Extent → Type 0
IsSmall o = IsSome (size_below o) × IsSome (nodes_within o)

small : (o : Option Extent) → is_small o ≡ true → is_some o ≡ true → IsSmall o
small None e h = cc
small (Some x) e h = both (is_some (size_below (Some x))) (is_some (nodes_within (Some x))) e

pub tags_sized : TagsSized
tags_sized s name u b first families specified id lt g object =
    let i : IsSpecified s u.types id = specified id lt g in
    let w : World = world_at s b.senses (length b.senses) in
    let inside : i.node < length b.senses = (let l = i.inside in let whole = b.whole in omega (arith, l, whole)) in
    let here : is_small (extent w (aggregate_type s i.node)) ≡ true = aggregate_small s b.senses b.are_senses first families b.tag_once i.node inside i.struct in
    let there : is_small (extent_in u.types (aggregate_type s i.node)) ≡ true = ap is_small (sym (b.knows.extents (aggregate_type s i.node))) ∙ here in
    let own : is_small (extent_in u.types (type_of u.types id)) ≡ true = ap (λ (t : Ctype). is_small (extent_in u.types t)) i.type ∙ there in
    small (extent_in u.types (type_of u.types id)) own object
