use Rattle.std.proofs.Common.{◌≡◌, ◌∷◌, [], Some, map, take}
use Rattle.link_merge.specs.Keys.{keys_of}
use Rattle.link_merge.proofs.spread.class_keys.Given as goal

abbrev pub invariant-loop-one : goal.invariant-loop-one
invariant-loop-one l = keys_of l.keys.items ≡ map (λ c. Some (c ∷ [])) (take l.one-index l.class)
