-- What declarations run, and what functions return.
use Rattle.std.proofs.Common.{arith, ◌≡◌, ℕ, ◌<◌, ◌≤◌, ◌+◌, ◌-◌, ◌==◌, ◌||◌, Bool, true, false, eqb, cond, List, [], ◌∷◌, ◌++◌, Option, Some, None, IsTrue, length, map, take, drop, get_or, append_assoc, append-nil, refl, sym, ap, ◌∙◌, subst}
use Rattle.std.specs.Prelude.{if◌then◌else◌}
use Rattle.std.proofs.lemmas.Bool.{eqb-true, false_from_ne_true}
use Rattle.std.proofs.lemmas.List.{drop_more, take_rest}
use Rattle.c_consts.specs.Core.{Core}
use Rattle.c_senses.specs.Tree.{Source}
use Rattle.c_senses.specs.World.{World}
use Rattle.c_senses.specs.Sense.{Sense, Nothing, IsCore, IsType, IsSpecified, IsDeclarator, IsDerivation, IsParameter, IsMembers, IsValue, IsRun, IsInitial}
use Rattle.c_senses.specs.Statements.{initials_among, run_in, runs_initialiser, for_of, for_parts, for_row, statement_of, statement_row}
use Rattle.c_statements.proofs.Gathering.{drop_past}
use Rattle.statement_rows.specs.Parts.{initial_in, initial_at, run_in_sense}
use Rattle.statement_rows.specs.Told.{IsStatementPart}

-- an initialiser that runs
abbrev pub initial_by : Option Core → Bool → List Core
initial_by None b = []
initial_by (Some c) b = if b then c ∷ [] else []

pub initial_is : (x : Sense) (b : Bool) → initial_by (initial_in x) b ≡ (elim x as (λ _. List Core) [ IsInitial c n ↦ if b then c ∷ [] else [] | _ ↦ [] ])
initial_is (IsInitial c n) b = refl
initial_is x b = refl

pub map_last : (f : ℕ → Core) (list : List ℕ) (i : ℕ) → map f (list ++ i ∷ []) ≡ map f list ++ f i ∷ []
map_last f [] i = refl
map_last f (x ∷ list) i = ap (λ (l : List Core). f x ∷ l) (map_last f list i)

chosen_first : (x : Sense) (b : Bool) (more : List Core) → (elim x as (λ _. List Core) [ IsInitial c n ↦ if b then c ∷ [] else [] | _ ↦ [] ]) ++ more ≡ (elim x as (λ _. List Core) [ IsInitial c n ↦ if b then c ∷ more else more | _ ↦ more ])
chosen_first (IsInitial c n) true more = refl
chosen_first (IsInitial c n) false more = refl
chosen_first x b more = refl

module _ (w : World) (s : Source) (sense : ℕ → Sense) where
  initials_first : (c : ℕ) (rest : List ℕ) → initial_at w s sense c ++ initials_among w s sense rest ≡ initials_among w s sense (c ∷ rest)
  initials_first c rest = chosen_first (sense c) (runs_initialiser w s sense c) (initials_among w s sense rest)

  pub initials_more : (list : List ℕ) (i : ℕ) (now next : List Core) → i < length list → next ≡ now ++ initial_at w s sense (get_or list i 0) → now ++ initials_among w s sense (drop i list) ≡ initials_among w s sense list
      → next ++ initials_among w s sense (drop (i + 1) list) ≡ initials_among w s sense list
  initials_more list i now next h e so_far =
      ap (λ (l : List Core). l ++ initials_among w s sense (drop (i + 1) list)) e
      ∙ (append_assoc now (initial_at w s sense (get_or list i 0)) (initials_among w s sense (drop (i + 1) list))
      ∙ (ap (λ (l : List Core). now ++ l) (initials_first (get_or list i 0) (drop (i + 1) list) ∙ ap (initials_among w s sense) (sym (drop_more list i 0 h))) ∙ so_far))

  pub initials_all : (list : List ℕ) (i : ℕ) (now : List Core) → length list ≤ i → now ++ initials_among w s sense (drop i list) ≡ initials_among w s sense list → initials_among w s sense list ≡ now
  initials_all list i now h so_far =
      sym so_far ∙ (ap (λ (l : List ℕ). now ++ initials_among w s sense l) (drop_past list i h) ∙ append-nil now)

  -- the first that runs something
  runs_by : (x : Sense) (cores more : List Core) → run_in_sense x ≡ Some cores → (elim x as (λ _. List Core) [ IsRun cs ↦ cs | _ ↦ more ]) ≡ cores
  runs_by Nothing cores more e = absurd (cc)
  runs_by (IsCore a) cores more e = absurd (cc)
  runs_by (IsType a) cores more e = absurd (cc)
  runs_by (IsSpecified a) cores more e = absurd (cc)
  runs_by (IsDeclarator a b) cores more e = absurd (cc)
  runs_by (IsDerivation a) cores more e = absurd (cc)
  runs_by (IsParameter a) cores more e = absurd (cc)
  runs_by (IsMembers a) cores more e = absurd (cc)
  runs_by (IsValue a) cores more e = absurd (cc)
  runs_by (IsRun cs) cores more e = cc
  runs_by (IsInitial a b) cores more e = absurd (cc)

  runs_not : (x : Sense) (more : List Core) → run_in_sense x ≡ None → (elim x as (λ _. List Core) [ IsRun cs ↦ cs | _ ↦ more ]) ≡ more
  runs_not Nothing more e = refl
  runs_not (IsCore a) more e = refl
  runs_not (IsType a) more e = refl
  runs_not (IsSpecified a) more e = refl
  runs_not (IsDeclarator a b) more e = refl
  runs_not (IsDerivation a) more e = refl
  runs_not (IsParameter a) more e = refl
  runs_not (IsMembers a) more e = refl
  runs_not (IsValue a) more e = refl
  runs_not (IsRun cs) more e = absurd (cc)
  runs_not (IsInitial a b) more e = refl

  pub run_here : (list : List ℕ) (i : ℕ) (cores : List Core) → i < length list → run_in w s sense (drop i list) ≡ run_in w s sense list → run_in_sense (sense (get_or list i 0)) ≡ Some cores → run_in w s sense list ≡ cores
  run_here list i cores h so_far e =
      sym so_far ∙ (ap (run_in w s sense) (drop_more list i 0 h) ∙ runs_by (sense (get_or list i 0)) cores (run_in w s sense (drop (i + 1) list)) e)

  pub run_on : (list : List ℕ) (i : ℕ) → i < length list → run_in w s sense (drop i list) ≡ run_in w s sense list → run_in_sense (sense (get_or list i 0)) ≡ None → run_in w s sense (drop (i + 1) list) ≡ run_in w s sense list
  run_on list i h so_far e =
      sym (runs_not (sense (get_or list i 0)) (run_in w s sense (drop (i + 1) list)) e) ∙ (sym (ap (run_in w s sense) (drop_more list i 0 h)) ∙ so_far)

  pub run_end : (list : List ℕ) (i : ℕ) → length list ≤ i → run_in w s sense (drop i list) ≡ run_in w s sense list → run_in w s sense list ≡ []
  run_end list i h so_far = sym so_far ∙ ap (run_in w s sense) (drop_past list i h)

  -- a for by what stands behind its parenthesis, and a statement by its first part
  pub behind_two : (at : ℕ) (list : List ℕ) → (length list < 2 → ⊥) → for_of w s sense at (for_parts w s sense (take (length list - 2) (drop 2 list))) (take (length list - 2) (drop 2 list)) ≡ for_row w s sense at list
  behind_two at [] h = absurd (h (omega arith))
  behind_two at (a ∷ []) h = absurd (h (omega arith))
  behind_two at (a ∷ b ∷ rest) h = ap (λ (l : List ℕ). for_of w s sense at (for_parts w s sense l) l) (take_rest (a ∷ b ∷ rest) 2)

  pub begins : (at : ℕ) (list : List ℕ) → eqb (length list) 0 ≡ false → statement_of w s sense at (get_or list 0 0) list ≡ statement_row w s sense at list
  begins at [] e = absurd (cc)
  begins at (c ∷ rest) e = refl

-- tests of numbers that fail
pub differs : (a b : ℕ) → (a ≡ b → ⊥) → (a == b) ≡ false
differs a b apart = false_from_ne_true (a == b) (λ e. apart (eqb-true a b e))

pub not_this : {X : Type 0} (P : X → Type 0) (b : Bool) (x y : X) → b ≡ false → P y → P (cond b x y)
not_this P b x y e p = subst (λ c. P (cond c x y)) (sym e) p

pub is_statement : (p : ℕ) → IsStatementPart p → (p ≡ 2 → ⊥) → (p ≡ 3 → ⊥) → (p ≡ 29 → ⊥) → p ≡ 30
is_statement p part a b c = eqb-true p 30 (last_of (p == 2) (p == 3) (p == 29) (p == 30) (differs p 2 a) (differs p 3 b) (differs p 29 c) part)
  where
    last_of : (x y z t : Bool) → x ≡ false → y ≡ false → z ≡ false → IsTrue (x || (y || (z || t))) → t ≡ true
    last_of true y z t e f g h = cc
    last_of false true z t e f g h = cc
    last_of false false true t e f g h = cc
    last_of false false false t e f g h = h
