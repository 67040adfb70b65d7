-- What a row gives: something, or a refusal.
use Rattle.std.specs.Prelude.{ℕ, Bool, true, false, Option, Some, None}
use Rattle.c_scope.specs.passed.pta_base.declared.kind.Kind.{Kind}

-- what a row gives, or the kind of its refusal and the syntax node that it names
pub data Given (A : Type 0) : Type 0 where
  Fits : A → Given A
  Refuses : (kind : Kind) (node : ℕ) → Given A

infixl 10 ◌>>=◌
abbrev pub ◌>>=◌ : {A B : Type 0} → Given A → (A → Given B) → Given B
(Fits x) >>= f = f x
(Refuses kind node) >>= f = Refuses kind node

-- what is asked for, or a refusal where it isn't so
abbrev pub given_if : {A : Type 0} → Bool → Kind → ℕ → Given A → Given A
given_if true kind node g = g
given_if false kind node g = Refuses kind node

abbrev pub given_some : {A : Type 0} → Option A → Kind → ℕ → Given A
given_some None kind node = Refuses kind node
given_some (Some x) kind node = Fits x
