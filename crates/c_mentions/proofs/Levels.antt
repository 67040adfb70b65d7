-- The levels of a declarator: more of them than nodes up to it change nothing.
use Rattle.std.proofs.Common.{◌≡◌, ℕ, zero, suc, ◌<◌, Bool, true, false, ◌||◌, ltb, Some, None, List, [], ◌∷◌, cond, refl, ap, subst, arith}
use Rattle.std.specs.List.{find}
use Rattle.std.proofs.lemmas.Bool.{and_parts, ltb-true}
use Rattle.c_lexer.specs.declared.Token.{Token}
use Rattle.c_grammar.specs.Reads.{Node}
use Rattle.c_grammar.specs.Productions.{p_declarator, p_either}
use Rattle.c_mentions.specs.Syntax.{is_of, children_at}
use Rattle.c_mentions.specs.Declarators.{is_inner, inner_of, level, around, within, declarator}

found : {X : Type 0} (p : X → Bool) (y : X) (ys : List X) (x : X) (b : Bool) → p y ≡ b → cond b (Some y) (find p ys) ≡ Some x → (find p ys ≡ Some x → p x ≡ true) → p x ≡ true
found p y ys x true q e more = let f : y ≡ x = cc in subst (λ z. p z ≡ true) f q
found p y ys x false q e more = more e

pub find_passes : {X : Type 0} (p : X → Bool) (xs : List X) (x : X) → find p xs ≡ Some x → p x ≡ true
find_passes p [] x e = absurd (cc)
find_passes p (y ∷ ys) x e = found p y ys x (p y) refl e (find_passes p ys x)

pub inner_before : (nodes : List Node) (n i : ℕ) → inner_of nodes n ≡ Some i → i < n
unfolding inner_of
inner_before nodes n i e =
    let h = find_passes (λ child. is_inner nodes n child) (children_at nodes n) i e in
    ltb-true i n (and_parts (is_of nodes p_declarator i || is_of nodes p_either i) (ltb i n) h).1

module _ (tokens : List Token) (nodes : List Node) where
  pub enough : (k m n : ℕ) → n < k → n < m → within tokens nodes k n ≡ within tokens nodes m n
  enough zero m n h g = absurd (omega arith)
  enough (suc k) zero n h g = absurd (omega arith)
  enough (suc k) (suc m) n h g =
      (elim (inner_of nodes n) as (λ o. inner_of nodes n ≡ o → level tokens nodes (within tokens nodes k) n o ≡ level tokens nodes (within tokens nodes m) n o) [
        | None ↦ λ e. refl
        | Some i ↦ λ e. let l = inner_before nodes n i e in ap (around tokens nodes n) (enough k m i (omega arith) (omega arith))
      ]) refl

  -- a declarator by the declarator within its parentheses
  pub declarator_inner : (n i : ℕ) → inner_of nodes n ≡ Some i → declarator tokens nodes n ≡ around tokens nodes n (declarator tokens nodes i)
  unfolding declarator
  declarator_inner n i e =
      let l = inner_before nodes n i e in
      rw e (ap (around tokens nodes n) (enough n (suc i) i l (omega arith)))

  pub declarator_level : (n : ℕ) → inner_of nodes n ≡ None → declarator tokens nodes n ≡ level tokens nodes (within tokens nodes n) n None
  unfolding declarator
  declarator_level n e = rw e refl
