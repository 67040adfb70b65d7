-- Numbers of entities, and what a written tree has.
use Rattle.std.proofs.Common.{◌≡◌, ℕ, suc, Bool, true, false, cond, eqb, List, [], ◌∷◌, Option, Some, None, slice_get, inl, inr, refl, ap, subst}
use Rattle.std.specs.Prelude.{option_map}
use Rattle.std.proofs.lemmas.Bool.Decides.{eqb_tells}
use Rattle.core_tree.specs.declared.node.Node.{Node}
use Rattle.core_tree.specs.Rows.{InitialisesIn, InitialisesEntity}
use Rattle.c_consts.specs.Core.{Core}
use Rattle.c_senses.specs.Given.{Given, Fits, Refuses}
use Rattle.c_senses.specs.Sense.{Sense}
use Rattle.sense_cases.proofs.right_cases.Telling.{LiteralFree}

-- the senses that a run comes to
abbrev pub senses_of : Given (List Sense) → List Sense
senses_of (Fits senses) = senses
senses_of (Refuses kind named) = []

-- entities are numbered in the order of a list of leaves
abbrev pub place_in : List ℕ → ℕ → Option ℕ
place_in [] d = None
place_in (l ∷ ls) d = cond (eqb l d) (Some 0) (option_map suc (place_in ls d))

stands_after : (ls : List ℕ) (d e : ℕ) (o : Option ℕ) → ((k : ℕ) → o ≡ Some k → slice_get ls k ≡ Some d) → option_map suc o ≡ Some e → (l : ℕ) → slice_get (l ∷ ls) e ≡ Some d
stands_after ls d e None f h l = cc
stands_after ls d e (Some k) f h l = subst (λ (m : ℕ). slice_get (l ∷ ls) m ≡ Some d) (let same : suc k ≡ e = cc in same) (f k refl)

by_test : (l : ℕ) (ls : List ℕ) (d e : ℕ) → ((k : ℕ) → place_in ls d ≡ Some k → slice_get ls k ≡ Some d) → (b : Bool) → eqb l d ≡ b → cond b (Some 0) (option_map suc (place_in ls d)) ≡ Some e → slice_get (l ∷ ls) e ≡ Some d
by_test l ls d e rest true t g =
    let same : l ≡ d = elim (eqb_tells l d) [ inl q ↦ q.1 | inr q ↦ absurd (let f : eqb l d ≡ false = q.0 in cc) ] in
    let first : 0 ≡ e = cc in
    subst (λ (m : ℕ). slice_get (l ∷ ls) m ≡ Some d) first (ap Some same)
by_test l ls d e rest false t g = stands_after ls d e (place_in ls d) rest g l

pub stands_in : (ls : List ℕ) (d e : ℕ) → place_in ls d ≡ Some e → slice_get ls e ≡ Some d
stands_in [] d e h = cc
stands_in (l ∷ ls) d e h = by_test l ls d e (λ k. stands_in ls d k) (eqb l d) refl h

pub free_of : (c : Core) → LiteralFree c → (body : Core) → Some c ≡ Some body → LiteralFree body
free_of c free body e = subst (λ (b : Core). LiteralFree b) (let same : c ≡ body = cc in same) free

pub some_initial : (o : Option Node) (e : ℕ) → InitialisesIn o e → (n : Node) × (o ≡ Some n) × InitialisesEntity n.kind e
some_initial None e h = absurd h
some_initial (Some n) e h = (n, refl, h)

pub bodiless : (body : Core) → None ≡ Some body → LiteralFree body
bodiless body e = cc
