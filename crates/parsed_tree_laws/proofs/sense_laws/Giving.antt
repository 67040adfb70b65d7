-- What rows give, step by step.
use Rattle.std.proofs.Common.{◌≡◌, ◌≢◌, ℕ, Bool, true, false, ◌&&◌, Option, Some, None, refl, sym, ap, ◌∙◌}
use Rattle.std.specs.Prelude.{if◌then◌else◌}
use Rattle.std.proofs.lemmas.Bool.{false≢true}
use Rattle.pta_base.specs.declared.kind.Kind.{Kind}
use Rattle.c_types.specs.Trees.{Ctype}
use Rattle.c_senses.specs.Given.{Given, Fits, Refuses, ◌>>=◌, given_if, given_some}
use Rattle.c_senses.specs.World.{same_type}
use Rattle.c_conversions.proofs.passed.core_nodes.SameTypes.{type_same}
use Rattle.parsed_tree_laws.specs.sense_laws.Sound.{Gives}

pub then_gives : {A B : Type 0} (P : A → Type 0) (Q : B → Type 0) (g : Given A) (f : A → Given B) → Gives P g → ((x : A) → P x → Gives Q (f x)) → Gives Q (g >>= f)
then_gives P Q (Fits x) f h k = k x h
then_gives P Q (Refuses kind node) f h k = tt

pub gives_weaker : {A : Type 0} (P Q : A → Type 0) (g : Given A) → ((x : A) → P x → Q x) → Gives P g → Gives Q g
gives_weaker P Q (Fits x) f h = f x h
gives_weaker P Q (Refuses kind node) f h = tt

pub if_given : {A : Type 0} (P : A → Type 0) (b : Bool) (kind : Kind) (node : ℕ) (g : Given A) → (b ≡ true → Gives P g) → Gives P (given_if b kind node g)
if_given P true kind node g h = h refl
if_given P false kind node g h = tt

pub some_given : {A B : Type 0} (Q : B → Type 0) (o : Option A) (kind : Kind) (node : ℕ) (f : A → Given B) → ((x : A) → o ≡ Some x → Gives Q (f x)) → Gives Q (given_some o kind node >>= f)
some_given Q None kind node f k = tt
some_given Q (Some x) kind node f k = k x refl

pub if_holds : {A : Type 0} (P : A → Type 0) (b : Bool) (x y : A) → (b ≡ true → P x) → (b ≡ false → P y) → P (if b then x else y)
if_holds P true x y h k = h refl
if_holds P false x y h k = k refl

pub and_left : (a b : Bool) → (a && b) ≡ true → a ≡ true
and_left true b h = refl
and_left false b h = absurd (false≢true h)

pub and_right : (a b : Bool) → (a && b) ≡ true → b ≡ true
and_right true b h = h
and_right false b h = absurd (false≢true h)

pub differs : (a b : Ctype) → same_type a b ≡ false → a ≢ b
differs a b h e = false≢true (sym h ∙ (ap (λ (x : Ctype). same_type x b) e ∙ type_same b))
