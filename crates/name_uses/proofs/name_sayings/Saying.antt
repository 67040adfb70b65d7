-- What is said of a name, by what its declarations are asked.
use Rattle.std.proofs.Common.{◌≡◌, ℕ, zero, suc, ◌+◌, ◌<◌, ◌≤◌, Bool, true, false, not, ◌&&◌, cond, List, [], ◌∷◌, ◌++◌, append_assoc, append-nil, length, drop, get_or, refl, sym, ap, ◌∙◌, arith}
use Rattle.std.proofs.lemmas.List.{drop_more}
use Rattle.std.specs.Bool.{beq}
use Rattle.c_scope.specs.declared.kinds.Declared.{Declared}
use Rattle.c_scope.specs.declared.kinds.Kind.TheVariants.{Linked}
use Rattle.c_senses.specs.Tree.{Source}
use Rattle.c_senses.specs.World.{World}
use Rattle.c_senses.specs.Sense.{Sense}
use Rattle.c_senses.specs.Entities.{is_internal, same_internal}
use Rattle.c_named.specs.Lists.{leaves_of}

-- the leaves so far with those of what is left
pub leaf_more : (ds : List Declared) (list : List ℕ) (k : ℕ) (d : Declared) → k < length ds → list ++ leaves_of (drop k ds) ≡ leaves_of ds → (list ++ (get_or ds k d).node ∷ []) ++ leaves_of (drop (k + 1) ds) ≡ leaves_of ds
leaf_more ds list k d l h =
    append_assoc list ((get_or ds k d).node ∷ []) (leaves_of (drop (k + 1) ds))
    ∙ (sym (ap (λ (xs : List Declared). list ++ leaves_of xs) (drop_more ds k d l)) ∙ h)

abbrev pub no_declaration : Declared
no_declaration = record { node = 0; symbol = 0; scope = 0; kind = Linked; is_function = false }

drop_nil : (k : ℕ) → drop {A = Declared} k [] ≡ []
drop_nil zero = refl
drop_nil (suc k) = refl

drop_past : (ds : List Declared) (k : ℕ) → length ds ≤ k → drop k ds ≡ []
drop_past [] k h = drop_nil k
drop_past (x ∷ ds) zero h = absurd (omega arith)
drop_past (x ∷ ds) (suc k) h = drop_past ds k (omega arith)

pub leaf_none : (ds : List Declared) (list : List ℕ) (k : ℕ) → length ds ≤ k → list ++ leaves_of (drop k ds) ≡ leaves_of ds → list ≡ leaves_of ds
leaf_none ds list k l h = sym (append-nil list) ∙ (sym (ap (λ (xs : List Declared). list ++ leaves_of xs) (drop_past ds k l)) ∙ h)

-- what comparing two flags tells
pub one_flag : (a b : Bool) → not (beq a b) ≡ false → a ≡ b
one_flag true true e = refl
one_flag true false e = absurd (cc)
one_flag false true e = absurd (cc)
one_flag false false e = refl

pub two_flags : (a b : Bool) → not (beq a b) ≡ true → a ≡ b → ⊥
two_flags true true e h = absurd (cc)
two_flags true false e h = absurd (cc)
two_flags false true e h = absurd (cc)
two_flags false false e h = absurd (cc)

flags_one : (a b : Bool) → a ≡ b → cond a b (not b) ≡ true
flags_one true true e = refl
flags_one true false e = absurd (cc)
flags_one false true e = absurd (cc)
flags_one false false e = refl

flags_two : (a b : Bool) → (a ≡ b → ⊥) → cond a b (not b) ≡ false
flags_two true true e = absurd (e refl)
flags_two true false e = refl
flags_two false true e = refl
flags_two false false e = absurd (e refl)

module _ (w : World) (s : Source) (sense : ℕ → Sense) (internal : Bool) where
  pub same_more : (ds : List Declared) (k : ℕ) (d : Declared) → k < length ds → (flag : Bool) → flag ≡ is_internal s sense (get_or ds k d).node → flag ≡ internal
      → same_internal w s sense internal (drop (k + 1) ds) ≡ same_internal w s sense internal (drop k ds)
  same_more ds k d l flag is e =
      sym
      (ap (same_internal w s sense internal) (drop_more ds k d l)
      ∙ ap (λ (x : Bool). x && same_internal w s sense internal (drop (k + 1) ds)) (flags_one (is_internal s sense (get_or ds k d).node) internal (sym is ∙ e)))

  pub same_ends : (ds : List Declared) (k : ℕ) (d : Declared) → k < length ds → (flag : Bool) → flag ≡ is_internal s sense (get_or ds k d).node → (flag ≡ internal → ⊥)
      → same_internal w s sense internal (drop k ds) ≡ false
  same_ends ds k d l flag is e =
      ap (same_internal w s sense internal) (drop_more ds k d l)
      ∙ ap (λ (x : Bool). x && same_internal w s sense internal (drop (k + 1) ds)) (flags_two (is_internal s sense (get_or ds k d).node) internal (λ h. e (is ∙ h)))

  pub same_none : (ds : List Declared) (k : ℕ) → length ds ≤ k → same_internal w s sense internal (drop k ds) ≡ true
  same_none ds k l = ap (same_internal w s sense internal) (drop_past ds k l)
