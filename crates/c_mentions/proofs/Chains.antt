-- Chains of scopes in a list of scopes that grows.
use Rattle.std.proofs.Common.{◌≡◌, ℕ, zero, suc, ◌<◌, Some, List, [], ◌∷◌, ◌++◌, length, refl, sym, subst}
use Rattle.std.proofs.lemmas.Option.{slice_get_within}
use Rattle.std.specs.List.{slice_get}
use Rattle.c_mentions.specs.declared.settings.Scope.{Scope}
use Rattle.c_mentions.specs.declared.settings.Setting.{Setting}
use Rattle.c_mentions.specs.Settings.{IsChain, Extends, Standing, Stands}

pub slice_get_append : {X : Type 0} (xs ys : List X) (i : ℕ) (x : X) → slice_get xs i ≡ Some x → slice_get (xs ++ ys) i ≡ Some x
slice_get_append [] ys i x e = absurd (cc)
slice_get_append (y ∷ xs) ys zero x e = e
slice_get_append (y ∷ xs) ys (suc i) x e = slice_get_append xs ys i x e

pub slice_get_seam : {X : Type 0} (xs : List X) (x : X) (ys : List X) → slice_get (xs ++ x ∷ ys) (length xs) ≡ Some x
slice_get_seam [] x ys = refl
slice_get_seam (y ∷ xs) x ys = slice_get_seam xs x ys

pub chain_within : (scopes : List Scope) (at : ℕ) (ss : List ℕ) → IsChain scopes at ss → at < length scopes
chain_within scopes at [] h = absurd h
chain_within scopes at (s ∷ []) h = slice_get_within scopes at _ h
chain_within scopes at (s ∷ t ∷ ss) h = slice_get_within scopes at _ h.2

pub chain_extends : (old more : List Scope) (at : ℕ) (ss : List ℕ) → IsChain old at ss → IsChain (old ++ more) at ss
chain_extends old more at [] h = absurd h
chain_extends old more at (s ∷ []) h = slice_get_append old more at _ h
chain_extends old more at (s ∷ t ∷ ss) h = (h.0, h.1, slice_get_append old more at _ h.2, chain_extends old more h.0 (t ∷ ss) h.3)

pub chain_more : (old : List Scope) (number outer : ℕ) (ss : List ℕ) → IsChain old outer ss → IsChain (old ++ (record { number = number; outer = outer }) ∷ []) (length old) (number ∷ ss)
chain_more old number outer [] h = absurd h
chain_more old number outer (s ∷ ss) h =
    (outer, chain_within old outer (s ∷ ss) h, slice_get_seam old _ [], chain_extends old _ outer (s ∷ ss) h)

pub stands_extends : (old new : List Scope) (setting : Setting) (s : Standing) → Extends old new → Stands old setting s → Stands new setting s
stands_extends old new setting s e h = record {
  chain = subst (λ l. IsChain l setting.scope s.scopes) (sym e.1) (chain_extends old e.0 setting.scope s.scopes h.chain);
  body = h.body;
  role = h.role;
}
