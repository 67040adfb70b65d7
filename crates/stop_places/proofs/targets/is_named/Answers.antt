use Rattle.std.proofs.Common.{◌≡◌, ℕ, Bool, false, List, Option, ap, ◌∙◌}
use Rattle.std.specs.List.{list_any}
use Rattle.std.specs.Option.{option_map_or}
use Rattle.std.specs.Str.{bytes_eq}
use Rattle.std.proofs.Common.{map, Bor}
use Rattle.stop_places.proofs.Naming.{any_map}
use Rattle.stop_places.proofs.targets.is_named.Goals as goal

pub returns-in-Some : goal.returns-in-Some
returns-in-Some c =
    let names : List (List ℕ) = map (λ (name : Bor (List ℕ)). name.now) c.args.names.now in
    c.is_among.ensures
    ∙ (any_map (λ (name : Bor (List ℕ)). name.now) (λ other. bytes_eq other c.in-Some.name.now) c.args.names.now
    ∙ ap (λ (o : Option (List ℕ)). option_map_or (λ name. list_any (λ other. bytes_eq other name) names) o false) c.in-Some.ensures)
