use Rattle.std.proofs.Common.{◌≡◌, ℕ, ◌<◌, ◌≤◌, List, map, length, get_or, refl, sym, ap, subst, ◌∙◌, arith}
use Rattle.std.proofs.lemmas.List.{get_or-map, length-map}
use Rattle.c_mentions.specs.declared.settings.Setting.{Setting}
use Rattle.c_mentions.specs.Settings.{Hands}
use Rattle.c_mentions.specs.Kept.{Keeps, kind_at}
use Rattle.c_mentions.proofs.Alike.{handed_alike}
use Rattle.c_mentions.proofs.settings.SettingList.hand_same.Goals as goal

pub returns : goal.returns
returns c = λ d.
    let kinds : List Setting = c.self.inside.kinds.items in
    let places : List ℕ = c.self.inside.places.items in
    let now : List ℕ = c.hand_all.new.places.items in
    let count : length (map (kind_at kinds) places) ≡ length c.args.self.now = ap (λ (l : List Setting). length l) c.self.view_is in
    let below : c.args.node < length places = omega (arith, c.requires, count, length-map places (kind_at kinds)) in
    let within : c.args.node ≤ length places = omega arith in
    let keeps : Keeps kinds kinds = record { more = omega arith; kept = λ place l. refl } in
    let own : kind_at kinds c.index-place.result.now ≡ get_or (map (kind_at kinds) places) c.args.node d = sym (get_or-map (kind_at kinds) places c.args.node c.index-place.result.now d below ∙ ap (kind_at kinds) (sym c.index-place.ensures)) in
    subst (λ (l : List Setting). Hands c.args.children.now c.args.node (get_or l c.args.node d) l (map (kind_at kinds) now)) c.self.view_is
    (handed_alike kinds kinds keeps places now c.self.invariant c.args.children.now c.args.node c.index-place.result.now (get_or (map (kind_at kinds) places) c.args.node d) within own c.hand_all.ensures)
