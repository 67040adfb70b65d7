-- What rows give, step by step.
use Rattle.std.proofs.Common.{ℕ, Bool, true, false, Option, Some, None}
use Rattle.std.specs.Prelude.{⊤, if◌then◌else◌}
use Rattle.pta_base.specs.declared.kind.Kind.{Kind}
use Rattle.c_senses.specs.Given.{Given, Fits, Refuses, ◌>>=◌, given_if, given_some}

-- what a row gives, if it gives something, is so
abbrev pub Gives : {A : Type 0} → (A → Type 0) → Given A → Type 0
Gives P (Fits x) = P x
Gives P (Refuses kind node) = ⊤

pub then_gives : {A B : Type 0} (P : A → Type 0) (Q : B → Type 0) (g : Given A) (f : A → Given B) → Gives P g → ((x : A) → P x → Gives Q (f x)) → Gives Q (g >>= f)
then_gives P Q (Fits x) f h k = k x h
then_gives P Q (Refuses kind node) f h k = tt

pub after : {A B : Type 0} (Q : B → Type 0) (g : Given A) (f : A → Given B) → ((x : A) → Gives Q (f x)) → Gives Q (g >>= f)
after Q (Fits x) f k = k x
after Q (Refuses kind node) f k = tt

pub if_given : {A : Type 0} (P : A → Type 0) (b : Bool) (kind : Kind) (node : ℕ) (g : Given A) → Gives P g → Gives P (given_if b kind node g)
if_given P true kind node g h = h
if_given P false kind node g h = tt

pub some_given : {A B : Type 0} (Q : B → Type 0) (o : Option A) (kind : Kind) (node : ℕ) (f : A → Given B) → ((x : A) → Gives Q (f x)) → Gives Q (given_some o kind node >>= f)
some_given Q None kind node f k = tt
some_given Q (Some x) kind node f k = k x

pub if_holds : {A : Type 0} (P : A → Type 0) (b : Bool) (x y : A) → P x → P y → P (if b then x else y)
if_holds P true x y h k = h
if_holds P false x y h k = k
