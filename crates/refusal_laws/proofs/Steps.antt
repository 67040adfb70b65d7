-- What is built step by step.
use Rattle.std.proofs.Common.{ℕ, Bool, true, false, Option, Some, None}
use Rattle.std.specs.Prelude.{if◌then◌else◌}
use Rattle.pta_base.specs.declared.kind.Kind.{Kind}
use Rattle.c_senses.specs.Given.{Given, Fits, Refuses, ◌>>=◌, given_if, given_some}
use Rattle.refusal_laws.specs.Refusals.{IsOther, IsBuilt}

pub then_built : {A B : Type 0} (g : Given A) (f : A → Given B) → IsBuilt g → ((x : A) → IsBuilt (f x)) → IsBuilt (g >>= f)
then_built (Fits x) f h k = k x
then_built (Refuses kind node) f h k = h

pub if_built : {A : Type 0} (b : Bool) (kind : Kind) (node : ℕ) (g : Given A) → IsOther kind → IsBuilt g → IsBuilt (given_if b kind node g)
if_built true kind node g o h = h
if_built false kind node g o h = o

pub some_built : {A B : Type 0} (o : Option A) (kind : Kind) (node : ℕ) (f : A → Given B) → IsOther kind → ((x : A) → IsBuilt (f x)) → IsBuilt (given_some o kind node >>= f)
some_built None kind node f h k = h
some_built (Some x) kind node f h k = k x

pub either_built : {A : Type 0} (b : Bool) (x y : Given A) → IsBuilt x → IsBuilt y → IsBuilt (if b then x else y)
either_built true x y h k = h
either_built false x y h k = k
