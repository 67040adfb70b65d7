-- Symbols: a name is known by the first token that spells it.
use Rattle.std.specs.Prelude.{◌≡◌, ℕ, ◌<◌, Bool, ◌&&◌, Option, Some, None, List, length, slice_get, slice_index}
use Rattle.std.specs.Prelude.{if◌then◌else◌}
use Rattle.std.specs.List.{position_from}
use Rattle.std.specs.Option.{unwrap_or}
use Rattle.std.specs.Str.{bytes_eq}
use Rattle.std.specs.Global.{Vec}
use Rattle.std.specs.BTreeMap.{BTreeMap}
use Rattle.std.specs.Map.{lookup}
use Rattle.c_lexer.specs.declared.Token.{Token}
use Rattle.c_grammar.specs.Reads.{name_at}
use Rattle.c_grammar.specs.Terminals.{spelled}
use Rattle.c_mentions.specs.Syntax.{is_identifier, token_kind}

-- a token that is an identifier and spells a name
abbrev pub spells : List ℕ → List ℕ → Token → Bool
spells text name t = is_identifier t.kind && bytes_eq name (spelled text t)

-- the number of the first token that spells a name, if there is one
abbrev pub first_token : List ℕ → List Token → List ℕ → Option ℕ
first_token text tokens name = position_from (spells text name) 0 tokens

-- the symbol of a token: of an identifier the number of the first identifier that is spelled so, of any other its
-- own number
unfoldable pub symbol_of : List ℕ → List Token → ℕ → ℕ
symbol_of text tokens token =
    if is_identifier (token_kind tokens token)
    then unwrap_or (first_token text tokens (name_at text (slice_get tokens token))) token else token

-- a list of the symbols of all tokens
pub record Numbers (text : List ℕ) (tokens : List Token) (symbols : List ℕ) : Type 0 where
  pub all : length symbols ≡ length tokens
  pub each : (token : ℕ) → token < length tokens → slice_index symbols token ≡ symbol_of text tokens token

-- what a map of first tokens says of a name
abbrev pub known : BTreeMap (Vec ℕ) ℕ → List ℕ → Option ℕ
known firsts name = lookup (λ k. bytes_eq name k.items) firsts.entries

abbrev pub first_or : Option ℕ → ℕ → ℕ
first_or None token = token
first_or (Some first) token = first

-- the first tokens with one token more, which counts where its name hasn't stood before
abbrev pub known_after : (List ℕ → Option ℕ) → List ℕ → ℕ → List ℕ → Option ℕ
known_after before name token other =
    if bytes_eq name other then Some (first_or (before name) token) else before other

-- the symbol of a token behind those before it, and the first tokens with it
abbrev pub numbered : List ℕ → (List ℕ → Option ℕ) → Token → ℕ → ℕ
numbered text before t token = if is_identifier t.kind then first_or (before (spelled text t)) token else token

abbrev pub known_with : List ℕ → (List ℕ → Option ℕ) → Token → ℕ → List ℕ → Option ℕ
known_with text before t token other =
    if is_identifier t.kind then known_after before (spelled text t) token other else before other
