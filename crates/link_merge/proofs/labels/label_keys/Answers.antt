use Rattle.std.proofs.Common.{◌≡◌, ◌<◌, ◌+◌, ◌∷◌, [], ℕ, false, Option, Some, List, length, length-append, get_or, sym, ap, subst, ◌∙◌, arith}
use Rattle.std.specs.List.{slice_get}
use Rattle.std.specs.Option.{option_map}
use Rattle.std.proofs.lemmas.List.{map-append, get_or_default}
use Rattle.std.proofs.lemmas.Option.{slice_get-get_or, slice_get_within}
use Rattle.link_model.specs.declared.item.Item.{Item}
use Rattle.link_model.specs.Units.{item, is_union, label_at}
use Rattle.link_merge.specs.Keys.{key_of, keys_of, label_code}
use Rattle.link_merge.proofs.Pushing.{pushed_of, label_from_key}
use Rattle.link_merge.proofs.labels.label_keys.Goals as goal

pub loop-here-preserved : goal.loop-here-preserved
loop-here-preserved c =
    let units = c.args.units.now in
    let tags = c.args.tags.now in
    let i = c.loop-here.here in
    let a = get_or tags i (item 0 0) in
    let at = slice_get-get_or tags i (item 0 0) c.loop-here-test.true in
    let (tag, place) = c.requires.tags.each i a at in
    let unions = c.in_ok-unions.unions.items in
    let many = c.in_ok-unions.ensures.many in
    let also = c.requires.tags.many in
    let union : c.index.result.now ≡ is_union units a = c.index.ensures ∙ (get_or_default unions i c.index.result.now false (omega arith) ∙ (ap (λ g. get_or unions g false) (sym place) ∙ c.in_ok-unions.ensures.each a tag)) in
    let b = c.loop-here.invariant in
    let label = c.in_ok-label.label in
    let items = ap keys_of c.in_ok-push.ensures.items ∙ map-append key_of c.loop-here.list.items (label ∷ []) in
    let here : key_of label ≡ option_map label_code (label_at units a) = c.in_ok-label.ensures ∙ label_from_key units a c.tag_key_of-key.result.now c.index.result.now union c.tag_key_of-key.ensures in
    record {
      all = ap length items ∙ (length-append (keys_of c.loop-here.list.items) (key_of label ∷ []) ∙ ap (λ n. n + 1) b.all);
      each = subst (λ (ks : List (Option (List ℕ))). (g : ℕ) (x : Item) → g < i + 1 → slice_get tags g ≡ Some x → slice_get ks g ≡ Some (option_map label_code (label_at units x))) (sym items)
          (pushed_of tags (keys_of c.loop-here.list.items) (key_of label) i a (λ x. option_map label_code (label_at units x)) b.all at b.each here);
    }

pub returns : goal.returns
returns c =
    let b = c.loop-here.invariant in
    let all = b.all in
    record { many = omega arith; each = λ g a at. b.each g a (let lt = slice_get_within c.args.tags.now g a at in omega arith) at }
