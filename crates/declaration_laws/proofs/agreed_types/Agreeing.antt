-- Types that agree one after another agree as a whole.
use Rattle.std.proofs.Common.{◌≡◌, ℕ, true, List, [], ◌∷◌, ◌++◌, Option, Some, None, refl, sym, ap, ◌∙◌, subst, append-nil}
use Rattle.c_types.specs.Trees.{Ctype}
use Rattle.c_senses.specs.Tree.{Source}
use Rattle.c_senses.specs.World.{World}
use Rattle.c_senses.specs.Entities.{together, all_together, agrees_with}
use Rattle.c_senses.specs.Sense.{Sense}
use Rattle.declaration_laws.specs.joined_types.Joined.{AllAgree}
use Rattle.declaration_laws.specs.agreed_types.Agreed.{TypesAgreed}

abbrev with_next : Ctype → Option Ctype → Option Ctype
with_next t None = Some t
with_next t (Some a) = Some (together a t)

all_next : (so_far : Option Ctype) (xs : List Ctype) (t : Ctype) → all_together so_far (xs ++ t ∷ []) ≡ with_next t (all_together so_far xs)
all_next None [] t = refl
all_next (Some a) [] t = refl
all_next None (x ∷ xs) t = all_next (Some x) xs t
all_next (Some a) (x ∷ xs) t = all_next (Some (together a x)) xs t

append_all : (xs : List Ctype) (t : Ctype) (ys : List Ctype) → (xs ++ t ∷ []) ++ ys ≡ xs ++ t ∷ ys
append_all [] t ys = refl
append_all (x ∷ xs) t ys = ap (λ (l : List Ctype). x ∷ l) (append_all xs t ys)

module _ (w : World) (s : Source) (sense : ℕ → Sense) where
  abbrev Each : List Ctype → List Ctype → Type 0
  Each front ts = (before : List Ctype) (t : Ctype) (after : List Ctype) → ts ≡ before ++ t ∷ after → agrees_with w s sense t (all_together None (front ++ before)) ≡ true

  behind : (front ts : List Ctype) → Each front ts → AllAgree (all_together None front) ts
  behind front [] h = tt
  behind front (t ∷ rest) h =
      by (all_together None front) refl
      (behind (front ++ t ∷ []) rest (λ before u after e. subst (λ (l : List Ctype). agrees_with w s sense u (all_together None l) ≡ true) (sym (append_all front t before)) (h (t ∷ before) u after (ap (λ (l : List Ctype). t ∷ l) e))))
    where
      by : (o : Option Ctype) → all_together None front ≡ o → AllAgree (all_together None (front ++ t ∷ [])) rest → AllAgree o (t ∷ rest)
      by None e later = subst (λ (x : Option Ctype). AllAgree x rest) (all_next None front t ∙ ap (with_next t) e) later
      by (Some a) e later =
          (sym (ap (agrees_with w s sense t) (ap (all_together None) (append-nil front) ∙ e)) ∙ h [] t rest refl, subst (λ (x : Option Ctype). AllAgree x rest) (all_next None front t ∙ ap (with_next t) e) later)

pub types_agreed : TypesAgreed
types_agreed w s sense ts h = behind w s sense [] ts h
