-- Tests that are asked in turn.
use Rattle.std.proofs.Common.{◌≡◌, Bool, true, false, ◌&&◌, ◌||◌, not, cond, Option, Some, None, IfSome, refl, sym, ap, subst, ◌∙◌}

pub and_then : (A B x y : Bool) → x ≡ A → x ≡ true → y ≡ B → y ≡ (A && B)
and_then A B x y e t f = f ∙ ap (λ (a : Bool). a && B) (sym t ∙ e)

pub and_else : (A B x : Bool) → x ≡ A → x ≡ false → x ≡ (A && B)
and_else A B x e t = t ∙ ap (λ (a : Bool). a && B) (sym t ∙ e)

pub or_then : (A B x : Bool) → x ≡ A → x ≡ true → x ≡ (A || B)
or_then A B x e t = t ∙ ap (λ (a : Bool). a || B) (sym t ∙ e)

pub or_else : (A B x y : Bool) → x ≡ A → x ≡ false → y ≡ B → y ≡ (A || B)
or_else A B x y e t f = f ∙ ap (λ (a : Bool). a || B) (sym t ∙ e)

pub if_then : {X : Type 0} (A x : Bool) (p P Q : X) → x ≡ A → x ≡ true → p ≡ P → p ≡ cond A P Q
if_then A x p P Q e t f = f ∙ ap (λ (a : Bool). cond a P Q) (sym t ∙ e)

pub if_else : {X : Type 0} (A x : Bool) (p P Q : X) → x ≡ A → x ≡ false → p ≡ Q → p ≡ cond A P Q
if_else A x p P Q e t f = f ∙ ap (λ (a : Bool). cond a P Q) (sym t ∙ e)

-- the first two of three, and not the third
pub without_third : (A B C r : Bool) → A ≡ true → C ≡ false → r ≡ B → r ≡ (A && (B && not C))
without_third A B C r a k e = e ∙ (by B ∙ (ap (λ (x : Bool). B && not x) (sym k) ∙ ap (λ (x : Bool). x && (B && not C)) (sym a)))
  where
    by : (x : Bool) → x ≡ (x && true)
    by true = refl
    by false = refl

pub with_third : (A B C : Bool) → C ≡ true → false ≡ (A && (B && not C))
with_third A B C k = by A B ∙ ap (λ (x : Bool). A && (B && not x)) (sym k)
  where
    by : (x y : Bool) → false ≡ (x && (y && false))
    by true true = refl
    by true false = refl
    by false y = refl

-- two tests in either order
pub and_turned : (A B : Bool) → (A && B) ≡ (B && A)
and_turned true true = refl
and_turned true false = refl
and_turned false true = refl
and_turned false false = refl

-- neither of two
pub or_none : (A B : Bool) → false ≡ (A || B) → false ≡ A
or_none true B e = e
or_none false B e = refl

-- what holds of a value, if there is one
pub some_weaker : {X : Type 0} (P Q : X → Type 0) (o : Option X) → ((x : X) → P x → Q x) → IfSome o P → IfSome o Q
some_weaker P Q None f h = tt
some_weaker P Q (Some x) f h = f x h

-- the value that is there
pub some_of : {X : Type 0} (P : X → Type 0) (o : Option X) (x : X) → o ≡ Some x → IfSome o P → P x
some_of P o x e h = subst (λ (y : Option _). IfSome y P) e h

pub some_one : {X : Type 0} → {x y : X} → ◌≡◌ {A = Option X} (Some x) (Some y) → x ≡ y
some_one h = cc
