use Rattle.std.proofs.Common.{◌≡◌, ℕ, zero, suc, List, [], ◌∷◌, ◌++◌, map, replicate, refl, ap, ◌∙◌}
use Rattle.c_mentions.specs.declared.settings.Setting.{Setting}
use Rattle.c_mentions.specs.Kept.{kind_at}
use Rattle.c_mentions.proofs.settings.SettingList.alike.Goals as goal

map_replicate : {X Y : Type 0} (f : X → Y) (n : ℕ) (x : X) → map f (replicate n x) ≡ replicate n (f x)
map_replicate f zero x = refl
map_replicate f (suc n) x = ap (λ l. f x ∷ l) (map_replicate f n x)

pub returns : goal.returns
returns c =
    let kinds : List Setting = c.push.new.self.items in
    ap (λ (l : List ℕ). map (kind_at kinds) l) c.in_ok-places.ensures ∙ (map_replicate (kind_at kinds) c.args.count 0 ∙ ap (λ (l : List Setting). replicate c.args.count (kind_at l 0)) (c.in_ok-push.ensures.items ∙ ap (λ (l : List Setting). l ++ c.args.setting ∷ []) c.new-kinds.ensures.items))
