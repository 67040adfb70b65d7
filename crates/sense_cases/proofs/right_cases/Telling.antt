-- What is declared at each node, as a list that computes.
use Rattle.std.proofs.Common.{◌≡◌, ℕ, zero, suc, ◌+◌, ◌<◌, ◌≤◌, Bool, true, false, ◌&&◌, List, [], ◌∷◌, Option, Some, None, inl, inr, length, slice_get, arith, subst, sym, refl, cond}
use Rattle.std.specs.Prelude.{⊤}
use Rattle.std.proofs.lemmas.Option.{slice_get_cases}
use Rattle.std.proofs.lemmas.Bool.{cases_lt}
use Rattle.c_grammar.specs.declared.trees.SyntaxNode.{SyntaxNode}
use Rattle.core_tree.specs.declared.node.NodeKind.{NodeKind}
use Rattle.core_tree.specs.declared.node.NodeKind.TheVariants.{Literal}
use Rattle.c_consts.specs.Core.{Core, Cores, Of, NoCores, MoreCores, kind_of, cores_under, core_in}
use Rattle.c_grammar.specs.Reads.{leaf}
use Rattle.c_senses.specs.Tree.{Source, is_name, is_identifier, kind_of_token, token_of, production_of, numbers_from, all_nodes}
use Rattle.std.specs.Prelude.{◌==◌}
use Rattle.c_senses.specs.Sense.{Sense}
use Rattle.c_senses.specs.Right.{Declared, declared_name, Within, Itself, Below, IsLiteralOf}

-- A fact of each node and of what it declares.
module _ (s : Source) (senses : List Sense) (P : ℕ → Declared → Type 0) where
  abbrev pub Told : ℕ → Option Declared → Type 0
  Told i None = ⊤
  Told i (Some what) = P i what

  abbrev pub AllTold : List ℕ → Type 0
  AllTold [] = ⊤
  AllTold (i ∷ rest) = Told i (declared_name s senses i) × AllTold rest

  told : (i : ℕ) (what : Declared) (o : Option Declared) → Told i o → o ≡ Some what → P i what
  told i what None t e = cc
  told i what (Some other) t e = subst (λ (x : Declared). P i x) (let same : other ≡ what = cc in same) t

  told_from : (n k : ℕ) → AllTold (numbers_from k n) → (d : ℕ) (what : Declared) → k ≤ d → d < k + n → declared_name s senses d ≡ Some what → P d what
  told_from zero k all d what low high e = absurd (omega (arith, low, high))
  told_from (suc n) k all d what low high e = elim (cases_lt k d) [
    | inl lt ↦ told_from n (suc k) all.1 d what (omega (arith, lt)) (omega (arith, high)) e
    | inr ge ↦ let same : k ≡ d = omega (arith, ge, low) in
        told d what (declared_name s senses d) (subst (λ (i : ℕ). Told i (declared_name s senses i)) same all.0) e
  ]

  abbrev NamedBy : Option SyntaxNode → Bool
  NamedBy o = (production_of o == leaf) && is_identifier (kind_of_token (token_of s o))

  nothing_named : (o : Option SyntaxNode) → o ≡ None → NamedBy o ≡ false
  nothing_named o e = subst (λ (x : Option SyntaxNode). NamedBy x ≡ false) (sym e) refl

  nothing_left : (b c rest : Bool) (x : Option Declared) (what : Declared) → b ≡ false → cond ((b && c) && rest) x None ≡ Some what → ⊥
  nothing_left true c rest x what f e = cc
  nothing_left false c rest x what f e = cc

  past : (d : ℕ) (what : Declared) → slice_get s.nodes d ≡ None → declared_name s senses d ≡ Some what → ⊥
  past d what none e = nothing_left (is_name s d) _ _ _ what (nothing_named (slice_get s.nodes d) none) e

  pub every : AllTold (all_nodes s) → (d : ℕ) (what : Declared) → declared_name s senses d ≡ Some what → P d what
  every all d what e = elim (slice_get_cases s.nodes d).1 [
    | inl h ↦ told_from (length s.nodes) 0 all d what (omega arith) (omega (arith, h.1)) e
    | inr h ↦ absurd (past d what h.1 e)
  ]

-- trees without compound literals
abbrev pub NoLiteralKind : NodeKind → Type 0
NoLiteralKind (Literal e) = ⊥
NoLiteralKind kind = ⊤

abbrev mutual
  pub LiteralFree : Core → Type 0
  LiteralFree (Of kind place type under) = NoLiteralKind kind × AllLiteralFree under

  pub AllLiteralFree : Cores → Type 0
  AllLiteralFree NoCores = ⊤
  AllLiteralFree (MoreCores c rest) = LiteralFree c × AllLiteralFree rest

part_free : (cs : Cores) (k : ℕ) (part : Core) → AllLiteralFree cs → core_in cs k ≡ Some part → LiteralFree part
part_free NoCores k part free e = cc
part_free (MoreCores c rest) zero part free e = subst (λ (x : Core). LiteralFree x) (let same : c ≡ part = cc in same) free.0
part_free (MoreCores c rest) (suc k) part free e = part_free rest k part free.1 e

under_free : (c : Core) → LiteralFree c → AllLiteralFree (cores_under c)
under_free (Of kind place type under) free = free.1

kind_free : (c : Core) → LiteralFree c → NoLiteralKind (kind_of c)
kind_free (Of kind place type under) free = free.0

no_literal : (kind : NodeKind) (i : ℕ) → NoLiteralKind kind → kind ≡ Literal i → ⊥
no_literal kind i free e = subst (λ (k : NodeKind). NoLiteralKind k) e free

module _ (s : Source) (senses : List Sense) where
  within_free : (d c : Core) → Within s senses d c → LiteralFree c → LiteralFree d
  within_free d c Itself free = free
  within_free d c (Below {part = part} p w) free = within_free d part w (part_free (cores_under c) p.0 part (under_free c free) p.1)

  -- where no body has a literal, none is declared
  abbrev pub BodyFree : ℕ → Declared → Type 0
  BodyFree d what = (body : Core) → what.body ≡ Some body → LiteralFree body

  pub no_literal_declared : AllTold s senses BodyFree (all_nodes s) → (i : ℕ) (c : Core) → IsLiteralOf s senses i c → ⊥
  no_literal_declared all i c h =
      no_literal (kind_of c) i (kind_free c (within_free c h.1.2 h.1.5 (every s senses BodyFree all h.1.0 h.1.1 h.1.3 h.1.2 h.1.4))) h.0
