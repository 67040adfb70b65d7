-- Words that are kept.
use Rattle.std.specs.Prelude.{ℕ, Bool, List, is_some}
use Rattle.std.specs.Global.{Vec}
use Rattle.std.specs.BTreeMap.{BTreeMap}
use Rattle.std.specs.Map.{lookup}
use Rattle.std.specs.Str.{bytes_eq}

abbrev pub has_word : BTreeMap (Vec ℕ) ℕ → List ℕ → Bool
has_word words word = is_some (lookup (λ k. bytes_eq word k.items) words.entries)
