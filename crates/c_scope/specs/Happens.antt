-- How the code's settings and symbols stand for what the nodes of a unit do.
use Rattle.std.specs.Prelude.{◌≡◌, ℕ, ◌<◌, nat_lt, List, length, slice_index_or, Option, Some, None, []}
use Rattle.std.specs.Prelude.{if◌then◌else◌}
use Rattle.c_mentions.specs.declared.settings.Setting.{Setting}
use Rattle.c_scope.specs.declared.resolving.Unit.{Unit}
use Rattle.c_mentions.specs.Syntax.{nodes_of}
use Rattle.c_mentions.specs.Settings.{IsChain}
use Rattle.c_mentions.specs.Mentions.{mention_at, speaking, symbol_at}
use Rattle.c_scope.specs.Known.{Happening, Known, after, is_label}
use Rattle.c_scope.specs.Binding.{or_first}
use Rattle.c_mentions.specs.declared.mentions.Mention.TheVariants.{Nothing}

pub record Happens (unit : Unit) (n : ℕ) (setting : Setting) (h : Happening) : Type 0 where
  pub mention : mention_at unit.text.now unit.tokens.now (symbol_at unit.symbols.now)
      (nodes_of unit.nodes.now) n (nat_lt setting.body unit.file) setting.role
      ≡ h.mention
  pub body : setting.body ≡ h.body
  pub chain : IsChain unit.scopes.now setting.scope h.scopes

-- these are what all nodes of the unit do
pub record AreHappenings (unit : Unit) (all : List Happening) : Type 0 where
  pub count : length all ≡ length unit.settings.now
  pub each : (n : ℕ) (d : Setting) (e : Happening)
      → n < length all
      → Happens unit n (slice_index_or unit.settings.now n d) (slice_index_or all n e)

-- what a node does, or nothing where there is no such node
abbrev pub happening_at : List Happening → ℕ → Happening
happening_at all n = slice_index_or all n (record { mention = Nothing; scopes = []; body = 0 })

-- the first label of a symbol in a body with what a node does
abbrev pub label_with : List Happening → ℕ → ℕ → ℕ → Option ℕ → Option ℕ
label_with all body symbol n first =
    or_first first (if is_label body symbol (happening_at all n) (happening_at all n).mention then Some n else None)

-- what is known with what a node does
abbrev pub known_with : ℕ → (ℕ → ℕ → Option ℕ) → List Happening → ℕ → Known → Known
known_with file labels all n k =
    after file labels n (happening_at all n).scopes (happening_at all n).body (happening_at all n).mention k

-- these are the nodes of a unit that may do something to names
pub record Speak (unit : Unit) (list : List ℕ) : Type 0 where
  pub count : length unit.settings.now ≡ length (nodes_of unit.nodes.now)
  pub all : list ≡ speaking unit.tokens.now (nodes_of unit.nodes.now)
