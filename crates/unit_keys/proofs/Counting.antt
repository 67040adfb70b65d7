-- Positions, one after another.
use Rattle.std.proofs.Common.{arith, ◌≡◌, ◌∙◌, ℕ, ◌+◌, ◌<◌, ◌≤◌, Bool, true, false, cond, inl, inr, List, length, get_or, drop, Option, Some, None, refl, sym, ap}
use Rattle.std.specs.Prelude.{◌||◌, ◌==◌, option_map}
use Rattle.std.proofs.Math.ListN.{drop_of_length-le}
use Rattle.std.proofs.lemmas.Bool.Decides.{eqb_tells}
use Rattle.c_grammar.specs.Terminals.{contains}
use Rattle.c_inits.specs.Made.{Part}
use Rattle.c_senses.specs.Tree.{Source, children_at, first_where, numbers_from}
use Rattle.c_senses.specs.Keys.{parts_of, parts_before}
use Rattle.c_senses.specs.World.{or_else}
use Rattle.c_senses.specs.Sense.{Sense, IsMembers}
use Rattle.c_results.specs.Parts.{parts_in}
use Rattle.tree_reads.specs.leaf_maps.Numbers.{number_at}
use Rattle.unit_keys.specs.Placed.{position_below}
use Rattle.unit_keys.proofs.Lists.{drop_step, first_more}

-- the members in a sense
pub parts_some : (s : Source) (sense : ℕ → Sense) (x : Sense) (ps : List Part) → parts_in x ≡ Some ps → parts_of s sense x ≡ length ps
parts_some s sense (IsMembers parts) ps e = let same : parts ≡ ps = cc in ap length same
parts_some s sense x ps e = cc

pub parts_none : (s : Source) (sense : ℕ → Sense) (x : Sense) → parts_in x ≡ None → parts_of s sense x ≡ 0
parts_none s sense (IsMembers parts) e = cc
parts_none s sense x e = refl

by_equal : (b rest : Bool) (old : Option ℕ) (before parts y : ℕ) → or_else (cond b (or_else old (Some before)) old) (cond rest (Some ((before + parts) + y)) None) ≡ or_else old (cond (b || rest) (Some (before + cond b 0 (parts + y))) None)
by_equal true rest None before parts y = ap Some (omega arith)
by_equal true rest (Some x) before parts y = refl
by_equal false rest None before parts y = let e : (before + parts) + y ≡ before + (parts + y) = omega arith in ap (λ (n : ℕ). cond rest (Some n) None) e
by_equal false rest (Some x) before parts y = refl

or_none : (o : Option ℕ) → or_else o None ≡ o
or_none None = refl
or_none (Some x) = refl

-- a position is noted, or not
pub note_here : (old new : List (ℕ × ℕ)) (node position c : ℕ) → number_at new node ≡ or_else (number_at old node) (Some position) → ((q : ℕ) → (node ≡ q → ⊥) → number_at new q ≡ number_at old q) → number_at new c ≡ cond (node == c) (or_else (number_at old c) (Some position)) (number_at old c)
note_here old new node position c here others = elim (eqb_tells node c) [
  | inl p ↦
      ap (number_at new) (sym p.1)
      ∙ (here
      ∙ (ap (λ (k : ℕ). or_else (number_at old k) (Some position)) p.1 ∙ ap (λ (b : Bool). cond b (or_else (number_at old c) (Some position)) (number_at old c)) (sym p.0)))
  | inr p ↦ others c p.1 ∙ ap (λ (b : Bool). cond b (or_else (number_at old c) (Some position)) (number_at old c)) (sym p.0)
]

pub note_other : (test : ℕ → Bool) (old : List (ℕ × ℕ)) (node position c : ℕ) → test node ≡ false → test c ≡ true → number_at old c ≡ cond (node == c) (or_else (number_at old c) (Some position)) (number_at old c)
note_other test old node position c off on = elim (eqb_tells node c) [
  | inl p ↦ absurd (let e : true ≡ false = sym on ∙ (ap test (sym p.1) ∙ off) in cc)
  | inr p ↦ ap (λ (b : Bool). cond b (or_else (number_at old c) (Some position)) (number_at old c)) (sym p.0)
]

module _ (s : Source) (sense : ℕ → Sense) where
  -- what is left of the children after one of them
  pub position_more : (children : List ℕ) (i c : ℕ) (old new wanted : Option ℕ) (before after : ℕ) → i < length children → new ≡ cond (get_or children i 0 == c) (or_else old (Some before)) old → after ≡ before + parts_of s sense (sense (get_or children i 0))
      → or_else old (cond (contains (drop i children) c) (Some (before + parts_before s sense c (drop i children))) None) ≡ wanted
      → or_else new (cond (contains (drop (i + 1) children) c) (Some (after + parts_before s sense c (drop (i + 1) children))) None) ≡ wanted
  position_more children i c old new wanted before after lt en ea h =
      let child = get_or children i 0 in
      let rest = drop (i + 1) children in
      ap (λ (o : Option ℕ). or_else o (cond (contains rest c) (Some (after + parts_before s sense c rest)) None)) en
      ∙ (ap (λ (n : ℕ). or_else (cond (child == c) (or_else old (Some before)) old) (cond (contains rest c) (Some (n + parts_before s sense c rest)) None)) ea
      ∙ (by_equal (child == c) (contains rest c) old before (parts_of s sense (sense child)) (parts_before s sense c rest)
      ∙ (ap (λ (l : List ℕ). or_else old (cond (contains l c) (Some (before + parts_before s sense c l)) None)) (sym (drop_step children i lt)) ∙ h)))

  pub positions_done : (children : List ℕ) (i c : ℕ) (new wanted : Option ℕ) (before : ℕ) → length children ≤ i → or_else new (cond (contains (drop i children) c) (Some (before + parts_before s sense c (drop i children))) None) ≡ wanted → new ≡ wanted
  positions_done children i c new wanted before le h =
      sym (or_none new) ∙ (ap (λ (l : List ℕ). or_else new (cond (contains l c) (Some (before + parts_before s sense c l)) None)) (sym (drop_of_length-le children le)) ∙ h)

  map_or : (f : ℕ → ℕ) (o p : Option ℕ) → option_map f (or_else o p) ≡ or_else (option_map f o) (option_map f p)
  map_or f None p = refl
  map_or f (Some x) p = refl

  map_cond : (f : ℕ → ℕ) (b : Bool) (n : ℕ) → option_map f (cond b (Some n) None) ≡ cond b (Some (f n)) None
  map_cond f true n = refl
  map_cond f false n = refl

  -- one node more
  pub below_more : (n c : ℕ) (old new : Option ℕ) → old ≡ position_below s sense n c → new ≡ or_else old (cond (contains (children_at s n) c) (Some (parts_before s sense c (children_at s n))) None) → new ≡ position_below s sense (n + 1) c
  below_more n c old new eo en =
      let f : ℕ → ℕ = λ p. parts_before s sense c (children_at s p) in
      let test : ℕ → Bool = λ p. contains (children_at s p) c in
      en
      ∙ (ap (λ (o : Option ℕ). or_else o (cond (test n) (Some (f n)) None)) eo
      ∙ (ap (or_else (position_below s sense n c)) (sym (map_cond f (test n) n))
      ∙ (sym (map_or f (first_where test (numbers_from 0 n)) (cond (test n) (Some n) None)) ∙ ap (option_map f) (sym (first_more test n)))))
