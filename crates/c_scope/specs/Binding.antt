-- How the code's values stand for what is known of names.
use Rattle.std.specs.Prelude.{◌≡◌, ℕ, ◌==◌, Bool, true, false, ◌&&◌, Option, Some, None, List, [], ◌∷◌, ◌++◌}
use Rattle.std.specs.Prelude.{if◌then◌else◌}
use Rattle.std.specs.BTreeMap.{BTreeMap}
use Rattle.std.specs.BTreeSet.{BTreeSet}
use Rattle.std.specs.List.{list_any}
use Rattle.std.specs.Map.{lookup}
use Rattle.c_grammar.specs.Terminals as terminals
use Rattle.c_mentions.specs.declared.declarators.Derivation.{Derivation}
use Rattle.c_mentions.specs.declared.declarators.Derivation.TheVariants.{Bare, Function, Other}
use Rattle.c_mentions.specs.declared.mentions.Mention.{Mention}
use Rattle.c_mentions.specs.declared.mentions.Mention.TheVariants.{Label}
use Rattle.c_scope.specs.declared.binding.Binder.{Binder}
use Rattle.c_scope.specs.Known.{Known, first_fault}
use Rattle.c_scope.specs.Places.{Says}

abbrev pub or_first : Option ℕ → Option ℕ → Option ℕ
or_first None other = other
or_first (Some n) other = Some n

-- the first label of a symbol in a body
abbrev pub label_at : BTreeMap (ℕ × ℕ) ℕ → ℕ → ℕ → Option ℕ
label_at labels body symbol = lookup (λ k. body == k.0 && symbol == k.1) labels.entries

abbrev pub label_put : BTreeMap (ℕ × ℕ) ℕ → ℕ → ℕ → ℕ → ℕ → ℕ → Option ℕ
label_put before body symbol node other sign =
    if body == other && symbol == sign then Some node else label_at before other sign

-- with a label more, which counts where it is the first
abbrev pub label_more : BTreeMap (ℕ × ℕ) ℕ → ℕ → ℕ → ℕ → ℕ → ℕ → Option ℕ
label_more before body symbol node other sign =
    or_first (label_at before other sign) (if body == other && symbol == sign then Some node else None)

abbrev pub label_after : BTreeMap (ℕ × ℕ) ℕ → ℕ → ℕ → Mention → ℕ → ℕ → Option ℕ
label_after before body node (Label symbol) other sign = label_more before body symbol node other sign
label_after before body node _ other sign = label_at before other sign

-- a node leaves the same labels by either of two mentions
abbrev pub LeaveSameLabels : ℕ → Mention → Mention → Type 0
LeaveSameLabels node a b =
    (before : BTreeMap (ℕ × ℕ) ℕ) (body other sign : ℕ)
    → label_after before body node a other sign ≡ label_after before body node b other sign

abbrev pub has : BTreeSet ℕ → ℕ → Bool
has set n = list_any (λ k. n == k) set.keys

-- a set has the numbers of a list, and no others
abbrev pub HasAll : BTreeSet ℕ → List ℕ → Type 0
HasAll set list = (n : ℕ) → has set n ≡ terminals.contains list n

abbrev pub is_function : BTreeSet ℕ → Derivation → Option ℕ → Bool
is_function functions Function type_name = true
is_function functions Other type_name = false
is_function functions Bare None = false
is_function functions Bare (Some type_name) = has functions type_name

abbrev pub with_function : ℕ → Bool → List ℕ → List ℕ
with_function n is_function list = if is_function then list ++ n ∷ [] else list

-- the binder says what is known
pub record Holds (b : Binder) (k : Known) : Type 0 where
  pub names : Says b.names k.names
  pub tags : Says b.tags k.tags
  pub declared : b.declared.items ≡ k.names
  pub tagged : b.tagged.items ≡ k.tags
  pub functions : HasAll b.functions k.functions
  pub uses : b.uses.items ≡ k.uses
  pub labels : b.labels.items ≡ k.labels
  pub fault : b.fault ≡ first_fault None k.faults

-- a binder that says what is known says after a step what is known then
abbrev pub Turns : Binder → Binder → (Known → Known) → Type 0
Turns old new step = (k : Known) → Holds old k → Holds new (step k)
