use Rattle.std.proofs.Common.{◌≡◌, ℕ, ◌≤◌, List, map, length, ap, subst, arith}
use Rattle.std.proofs.lemmas.List.{length-map}
use Rattle.c_mentions.specs.declared.settings.Setting.{Setting}
use Rattle.c_mentions.specs.Settings.{Hands}
use Rattle.c_mentions.specs.Kept.{kind_at}
use Rattle.c_mentions.proofs.Alike.{handed_alike}
use Rattle.c_mentions.proofs.settings.SettingList.hand.Goals as goal

pub returns : goal.returns
returns c =
    let kinds : List Setting = c.self.inside.kinds.items in
    let places : List ℕ = c.self.inside.places.items in
    let new : List Setting = map (kind_at c.place_for.new.kinds.items) c.hand_all.new.places.items in
    let count : length (map (kind_at kinds) places) ≡ length c.args.self.now = ap (λ (l : List Setting). length l) c.self.view_is in
    let within : c.args.node ≤ length places = omega (arith, c.requires, count, length-map places (kind_at kinds)) in
    subst (λ (l : List Setting). Hands c.args.children.now c.args.node c.args.setting l new) c.self.view_is
    (handed_alike kinds c.place_for.new.kinds.items c.in_ok-place.ensures.keeps places c.hand_all.new.places.items c.self.invariant c.args.children.now c.args.node c.in_ok-place.place c.args.setting within c.in_ok-place.ensures.place.1 c.hand_all.ensures)
