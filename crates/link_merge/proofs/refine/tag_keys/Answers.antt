use Rattle.std.proofs.Common.{◌≡◌, ◌<◌, ◌+◌, ◌∷◌, [], ℕ, Option, Some, List, length, length-append, sym, ap, subst, ◌∙◌}
use Rattle.std.specs.List.{slice_get}
use Rattle.std.proofs.lemmas.List.{map-append}
use Rattle.link_merge.specs.Keys.{key_of, keys_of}
use Rattle.link_merge.specs.Classes.{round_key}
use Rattle.link_merge.proofs.Pushing.{pushed_more}
use Rattle.link_merge.proofs.refine.tag_keys.Goals as goal

pub loop-here-preserved : goal.loop-here-preserved
loop-here-preserved c =
    let i = c.loop-here.here in
    let b = c.loop-here.invariant in
    let key = c.in_ok-key.key in
    let items = ap keys_of c.in_ok-push.ensures.items ∙ map-append key_of c.loop-here.list.items (Some key ∷ []) in
    let F : ℕ → Option (List ℕ) = λ g. Some (round_key c.args.units.now c.args.type_starts.now c.args.firsts.now c.args.tags.now c.args.counted.now c.args.leaders.now g) in
    let here : key_of (Some key) ≡ Some (round_key c.args.units.now c.args.type_starts.now c.args.firsts.now c.args.tags.now c.args.counted.now c.args.leaders.now i) = ap Some c.in_ok-key.ensures in
    record {
      all = ap length items ∙ (length-append (keys_of c.loop-here.list.items) (key_of (Some key) ∷ []) ∙ ap (λ n. n + 1) b.all);
      each = subst (λ (ks : List (Option (List ℕ))). (g : ℕ) → g < i + 1 → slice_get ks g ≡ Some (F g)) (sym items) (pushed_more (keys_of c.loop-here.list.items) (key_of (Some key)) i F b.all b.each here);
    }
