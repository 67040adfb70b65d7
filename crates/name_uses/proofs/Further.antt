-- The function whose last parameter the second part of an operation on variadic lists names.
use Rattle.std.proofs.Common.{◌≡◌, ℕ, List, [], ◌∷◌, Option, Some, None, sym, subst}
use Rattle.c_consts.specs.Core.{Core}
use Rattle.c_senses.specs.World.{World}
use Rattle.c_senses.specs.Sense.{Sense, IsCore}
use Rattle.c_results.specs.Parts.{core_in}
use Rattle.expression_rows.specs.c_rows.Lists.{LeafFits, NamesLast, SecondFits, named_leaf, parts_seen}
use Rattle.expression_rows.specs.declared.c_rows.lists.ListParts.TheVariants.{One, Two, Other}
use Rattle.expression_rows.proofs.c_rows.Inner.{over_two}

module _ (w : World) (further : Option ℕ) where
  pub leaf_by : (leaf : ℕ) (o : Option ℕ) → Some leaf ≡ o → w.further leaf ≡ further → LeafFits w o further
  leaf_by leaf o e h = let fits : LeafFits w (Some leaf) further = h in subst (λ (x : Option ℕ). LeafFits w x further) e fits

  pub leaf_none : (o : Option ℕ) → None ≡ o → LeafFits w o further
  leaf_none None e = tt
  leaf_none (Some leaf) e = cc

  pub names_by : (x : Sense) (c : Core) → core_in x ≡ Some c → LeafFits w (named_leaf c) further → NamesLast w x further
  names_by (IsCore d) c e h = let same : c ≡ d = cc in subst (λ (k : Core). LeafFits w (named_leaf k) further) same h
  names_by x c e h = tt

  pub names_none : (x : Sense) → core_in x ≡ None → NamesLast w x further
  names_none (IsCore d) e = cc
  names_none x e = tt

  module _ (sense : ℕ → Sense) where
    pub second_two : (l : List ℕ) (a b : ℕ) → Two a b ≡ parts_seen l → NamesLast w (sense b) further → SecondFits w sense l further
    second_two l a b e h = subst (λ (x : List ℕ). SecondFits w sense x further) (sym (over_two l a b (sym e))) h

    pub second_one : (l : List ℕ) (a : ℕ) → One a ≡ parts_seen l → SecondFits w sense l further
    second_one [] a e = tt
    second_one (x ∷ []) a e = tt
    second_one (x ∷ y ∷ []) a e = cc
    second_one (x ∷ y ∷ z ∷ l) a e = tt

    pub second_other : (l : List ℕ) → Other ≡ parts_seen l → SecondFits w sense l further
    second_other [] e = tt
    second_other (x ∷ []) e = tt
    second_other (x ∷ y ∷ []) e = cc
    second_other (x ∷ y ∷ z ∷ l) e = tt
