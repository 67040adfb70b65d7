-- Refusals and want of memory are passed on.
use Rattle.std.proofs.Common.{◌≡◌, ℕ, Result, Ok, Err, sym, ap, subst}
use Rattle.pta_base.specs.declared.kind.Kind.TheVariants.{Operand}
use Rattle.c_types.specs.Trees.{Ctype}
use Rattle.core_tree.specs.declared.node.Unit.{Unit}
use Rattle.c_senses.specs.passed.c_consts.Core.{Core}
use Rattle.c_senses.specs.Given.{Given, Fits, Refuses, ◌>>=◌}
use Rattle.core_nodes.specs.declared.fault.CheckFault.{CheckFault}
use Rattle.core_nodes.specs.declared.fault.CheckFault.TheVariants.{BadOperand, Unsupported, OutOfMemory}
use Rattle.core_nodes.specs.Standing.{core_at, Made, TypeMade}

-- what is said of one row is said of an equal one
pub made_same : (u : Unit) (r : Result ℕ CheckFault) (g h : Given Core) → g ≡ h → Made u r g → Made u r h
made_same u r g h e m = subst (λ (x : Given Core). Made u r x) e m

-- an error of a type is want of memory
pub type_fails : (u v : Unit) (e : CheckFault) (t : Ctype) (g : Given Core) → TypeMade u (Err e) t → Made v (Err e) g
type_fails u v (BadOperand n) t g h = absurd h
type_fails u v (Unsupported k n) t g h = absurd h
type_fails u v OutOfMemory t g h = tt

pub type_fails_again : (u v : Unit) (e : CheckFault) (t s : Ctype) → TypeMade u (Err e) t → TypeMade v (Err e) s
type_fails_again u v (BadOperand n) t s h = absurd h
type_fails_again u v (Unsupported k n) t s h = absurd h
type_fails_again u v OutOfMemory t s h = tt

-- a node that fits whatever there is: an error is want of memory
pub fits_fails : (u v : Unit) (e : CheckFault) (c : Core) (g : Given Core) → Made u (Err e) (Fits c) → Made v (Err e) g
fits_fails u v (BadOperand n) c g h = let no : Fits c ≡ Refuses Operand n = h in cc
fits_fails u v (Unsupported k n) c g h = let no : Fits c ≡ Refuses k n = h in cc
fits_fails u v OutOfMemory c g h = tt

-- the node that fits
pub fits_core : (u : Unit) (i : ℕ) (c : Core) → Made u (Ok i) (Fits c) → core_at u i ≡ c
fits_core u i c h = let e : Fits c ≡ Fits (core_at u i) = h in cc

-- a refusal goes before what follows
pub fails : (u v : Unit) (e : CheckFault) (g : Given Core) (f : Core → Given Core) → Made u (Err e) g → Made v (Err e) (g >>= f)
fails u v (BadOperand n) g f h = ap (λ (x : Given Core). x >>= f) h
fails u v (Unsupported k n) g f h = ap (λ (x : Given Core). x >>= f) h
fails u v OutOfMemory g f h = tt

-- what follows stands over the node that was made
pub follows : (u v : Unit) (i : ℕ) (r : Result ℕ CheckFault) (g : Given Core) (f : Core → Given Core) → Made u (Ok i) g → Made v r (f (core_at u i)) → Made v r (g >>= f)
follows u v i r g f h m = made_same v r (f (core_at u i)) (g >>= f) (sym (ap (λ (x : Given Core). x >>= f) h)) m
