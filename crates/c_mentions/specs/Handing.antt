-- What a node's production alone says of where its children stand.
use Rattle.std.specs.Prelude.{◌≡◌, ℕ, false, None, List}
use Rattle.c_lexer.specs.declared.Token.{Token}
use Rattle.c_grammar.specs.Reads.{Node}
use Rattle.c_mentions.specs.declared.roles.Handing.{Handing}
use Rattle.c_mentions.specs.declared.roles.Handing.TheVariants as handing
use Rattle.c_mentions.specs.declared.roles.Role.{Role}
use Rattle.c_mentions.specs.declared.roles.Role.TheVariants.{Elsewhere, Name}
use Rattle.c_mentions.specs.Roles.{handed, opened, is_body}

-- whatever its own role, a node gives a role to its children, opens no scope and is no body
pub record Gives (nodes : List Node) (n : ℕ) (given : Role) : Type 0 where
  pub role : (tokens : List Token) (own : Role) → handed tokens nodes n own ≡ given
  pub scope : (tokens : List Token) (own : Role) → opened tokens nodes n own ≡ None
  pub body : (own : Role) → is_body nodes n own ≡ false

abbrev pub Handled : List Node → ℕ → Handing → Type 0
Handled nodes n handing.Elsewhere = Gives nodes n Elsewhere
Handled nodes n handing.Name = Gives nodes n Name
Handled nodes n handing.Else = Unit {0}
