-- Declarators: their names, and what they make of them (C11 6.7.6).
use Rattle.std.specs.Prelude.{ℕ, zero, suc, Bool, false, ◌&&◌, ◌||◌, nat_lt, Option, Some, None, List}
use Rattle.std.specs.Prelude.{if◌then◌else◌}
use Rattle.std.specs.List.{find, list_any}
use Rattle.std.specs.Option.{option_or}
use Rattle.c_lexer.specs.declared.Token.{Token}
use Rattle.c_grammar.specs.Reads.{Node}
use Rattle.c_grammar.specs.Productions.{p_declarator, p_either, p_suffix}
use Rattle.c_grammar.specs.Words.{sign_star, sign_left_parenthesis}
use Rattle.c_mentions.specs.declared.declarators.Derivation.{Derivation}
use Rattle.c_mentions.specs.declared.declarators.Derivation.TheVariants.{Bare, Function, Other}
use Rattle.c_mentions.specs.declared.declarators.Declarator.{Declarator}
use Rattle.c_mentions.specs.Syntax.{children_at, first_child, first_part, is_of, is_name, is_sign}

-- a declarator that may have a name and stands before another node
abbrev pub is_inner : List Node → ℕ → ℕ → Bool
is_inner nodes outer n = (is_of nodes p_declarator n || is_of nodes p_either n) && nat_lt n outer

-- the declarator within the parentheses of a declarator
unfoldable pub inner_of : List Node → ℕ → Option ℕ
inner_of nodes n = find (λ child. is_inner nodes n child) (children_at nodes n)

-- At a declarator's own level: the leaf of the name, whether a star stands there, and the derivation that is
-- applied first
unfoldable pub name_of : List Token → List Node → ℕ → Option ℕ
name_of tokens nodes n = find (λ child. is_name tokens nodes child) (children_at nodes n)

unfoldable pub has_star : List Token → List Node → ℕ → Bool
has_star tokens nodes n = list_any (λ child. is_sign tokens nodes child sign_star) (children_at nodes n)

abbrev pub begins_with : List Token → List Node → ℕ → Option ℕ → Bool
begins_with tokens nodes sign None = false
begins_with tokens nodes sign (Some child) = is_sign tokens nodes child sign

-- a suffix that is a parameter list
unfoldable pub is_list : List Token → List Node → ℕ → Bool
is_list tokens nodes n = begins_with tokens nodes sign_left_parenthesis (first_child nodes n)

abbrev pub by_suffix : List Token → List Node → ℕ → Option ℕ → Derivation
by_suffix tokens nodes n None = if has_star tokens nodes n then Other else Bare
by_suffix tokens nodes n (Some suffix) = if is_list tokens nodes suffix then Function else Other

unfoldable pub derivation_of : List Token → List Node → ℕ → Derivation
derivation_of tokens nodes n = by_suffix tokens nodes n (first_part nodes n p_suffix)

-- the derivation next to a name is that of the inner declarator, if it has one
abbrev pub nearest : Derivation → Derivation → Derivation
nearest Bare outer = outer
nearest Function outer = Function
nearest Other outer = Other

-- what a declarator says of its name, by what the declarator within its parentheses says
abbrev pub around : List Token → List Node → ℕ → Declarator → Declarator
around tokens nodes n inner = record {
  name = inner.name;
  derivation = nearest inner.derivation (derivation_of tokens nodes n);
  suffix = option_or inner.suffix (first_part nodes n p_suffix);
}

abbrev pub level : List Token → List Node → (ℕ → Declarator) → ℕ → Option ℕ → Declarator
level tokens nodes deeper n None =
    record {
      name = name_of tokens nodes n;
      derivation = derivation_of tokens nodes n;
      suffix = first_part nodes n p_suffix;
    }
level tokens nodes deeper n (Some inner) = around tokens nodes n (deeper inner)

-- what a declarator says through so many levels
abbrev pub within : List Token → List Node → ℕ → ℕ → Declarator
within tokens nodes zero n = record { name = None; derivation = Bare; suffix = None }
within tokens nodes (suc levels) n = level tokens nodes (within tokens nodes levels) n (inner_of nodes n)

-- inner declarators stand before the declarator, so that there are no more levels than nodes up to it
unfoldable pub declarator : List Token → List Node → ℕ → Declarator
declarator tokens nodes n = within tokens nodes (suc n) n
