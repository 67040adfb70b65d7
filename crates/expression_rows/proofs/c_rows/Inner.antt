-- The parts of operations on variadic lists.
use Rattle.std.proofs.Common.{arith, ◌≡◌, ℕ, suc, ◌==◌, Bool, true, false, List, [], ◌∷◌, length, ◌<◌, drop, Option, Some, None, refl, sym, ap, ◌∙◌, subst, unwrap_or, inl, inr}
use Rattle.std.proofs.lemmas.Bool.Decides.{eqb_tells}
use Rattle.std.specs.Prelude.{if◌then◌else◌, codes}
use Rattle.std.specs.Str.{bytes_eq}
use Rattle.pta_base.specs.declared.kind.Kind.TheVariants.{Operand}
use Rattle.pta_base.specs.declared.place.Place.{Place}
use Rattle.c_types.specs.Trees.{Ctype, VaListType}
use Rattle.core_tree.specs.declared.node.NodeKind.{NodeKind}
use Rattle.core_tree.specs.declared.node.NodeKind.TheVariants.{Named}
use Rattle.core_tree.specs.declared.node.Unit.{Unit}
use Rattle.core_nodes.specs.Standing.{cores_at}
use Rattle.c_consts.specs.Core.{Core, Of, NoCores}
use Rattle.c_senses.specs.Tree.{Source, is_a, all_where, first_where, last_where, last_or}
use Rattle.c_grammar.specs.Productions.{p_type_name}
use Rattle.c_senses.specs.Given.{Given, Fits, Refuses, ◌>>=◌}
use Rattle.c_senses.specs.World.{World}
use Rattle.c_senses.specs.Conversions.{is_list}
use Rattle.c_senses.specs.Objects.{last_named, start_named, start_row, copy_row}
use Rattle.c_senses.specs.Sense.{Sense, IsCore, core_of}
use Rattle.c_senses.specs.Expressions.{list_core}
use Rattle.expression_rows.specs.c_rows.Lists.{first_in, last_in, parts_seen, NamesLast, LeafFits, named_leaf, lone_leaf, next_core, copied_core, started_core}
use Rattle.expression_rows.specs.declared.c_rows.lists.ListParts.{ListParts}
use Rattle.expression_rows.specs.declared.c_rows.lists.ListParts.TheVariants.{One, Two, Other}

or_none : (o : Option ℕ) → last_or o None ≡ o
or_none None = refl
or_none (Some x) = refl

first_by : (x : ℕ) (b : Bool) (o : Option ℕ) (m : List ℕ) → o ≡ first_in m → (if b then Some x else o) ≡ first_in (if b then x ∷ m else m)
first_by x true o m e = refl
first_by x false o m e = e

last_by : (x : ℕ) (b : Bool) (o : Option ℕ) (m : List ℕ) → o ≡ last_in m → last_or o (if b then Some x else None) ≡ last_in (if b then x ∷ m else m)
last_by x true o m e = ap (λ (p : Option ℕ). last_or p (Some x)) e
last_by x false o m e = or_none o ∙ e

module _ (t : ℕ → Bool) where
  pub firsts : (l : List ℕ) → first_where t l ≡ first_in (all_where t l)
  firsts [] = refl
  firsts (x ∷ xs) = first_by x (t x) (first_where t xs) (all_where t xs) (firsts xs)

  pub lasts : (l : List ℕ) → last_where t l ≡ last_in (all_where t l)
  lasts [] = refl
  lasts (x ∷ xs) = last_by x (t x) (last_where t xs) (all_where t xs) (lasts xs)

pub one_in : (m : List ℕ) (a : ℕ) → first_in m ≡ Some a → length m ≡ 1 → parts_seen m ≡ One a
one_in [] a f n = cc
one_in (x ∷ []) a f n = let same : x ≡ a = cc in ap One same
one_in (x ∷ y ∷ m) a f n = absurd (omega (arith, n))

pub two_in : (m : List ℕ) (a b : ℕ) → first_in m ≡ Some a → unwrap_or (last_in m) a ≡ b → length m ≡ 2 → parts_seen m ≡ Two a b
two_in [] a b f l n = cc
two_in (x ∷ []) a b f l n = absurd (omega (arith, n))
two_in (x ∷ y ∷ []) a b f l n = let same : x ≡ a = cc in ap (λ (z : ℕ). Two z y) same ∙ ap (Two a) l
two_in (x ∷ y ∷ z ∷ m) a b f l n = absurd (omega (arith, n))

pub none_in : (m : List ℕ) → first_in m ≡ None → parts_seen m ≡ Other
none_in [] f = refl
none_in (x ∷ m) f = cc

pub more_in : (m : List ℕ) → (length m ≡ 1 → ⊥) → (length m ≡ 2 → ⊥) → parts_seen m ≡ Other
more_in [] one two = refl
more_in (x ∷ []) one two = absurd (one (omega arith))
more_in (x ∷ y ∷ []) one two = absurd (two (omega arith))
more_in (x ∷ y ∷ z ∷ m) one two = refl

pub one_left : (xs : List ℕ) → 0 < length xs → length xs < 2 → drop 1 xs ≡ []
one_left [] some few = absurd (omega arith)
one_left (x ∷ []) some few = refl
one_left (x ∷ y ∷ xs) some few = absurd (omega arith)

-- a type that is a list's
pub list_type : (t : Ctype) → is_list t ≡ true → t ≡ VaListType
list_type VaListType e = refl
list_type t e = cc

-- the leaf of a node that is a name
no_zero : (n : ℕ) → (suc n == 0) ≡ false
no_zero n = elim (eqb_tells (suc n) 0) [ inl p ↦ absurd (omega (arith, p.1)) | inr p ↦ p.0 ]

pub lone_is : (u : Unit) (kind : NodeKind) (place : Place) (t : Ctype) (children : List ℕ) (b : Bool) → b ≡ (length children == 0)
    → lone_leaf kind b ≡ named_leaf (Of kind place t (cores_at u children))
lone_is u (Named leaf) place t [] b e = ap (lone_leaf (Named leaf)) e
lone_is u (Named leaf) place t (i ∷ is) b e = ap (lone_leaf (Named leaf)) (e ∙ no_zero (length is))
lone_is u kind place t children b e = refl

-- what a part names
pub names_last : (w : World) (at : ℕ) (x : Sense) (c : Core) (further : Option ℕ) → core_of at x ≡ Fits c → NamesLast w x further → LeafFits w (named_leaf c) further
names_last w at (IsCore d) c further e h = let same : d ≡ c = cc in subst (λ (k : Core). LeafFits w (named_leaf k) further) same h
names_last w at x c further e h = cc

abbrev further_by : World → Option ℕ → Option ℕ
further_by w None = None
further_by w (Some leaf) = w.further leaf

last_is : (w : World) (c : Core) → last_named w c ≡ further_by w (named_leaf c)
last_is w (Of (Named leaf) place t NoCores) = refl
last_is w c = refl

-- a list that is started by a name, or by what is none
pub start_named_by : (w : World) (place : Place) (at : ℕ) (a n : Core) (leaf : ℕ) (further : Option ℕ) → Some leaf ≡ named_leaf n → LeafFits w (named_leaf n) further → start_named place at a further ≡ start_row w place at a n
start_named_by w place at a n leaf further e fits =
    let leads : w.further leaf ≡ further = subst (λ (o : Option ℕ). LeafFits w o further) (sym e) fits in
    let last : last_named w n ≡ further = last_is w n ∙ (ap (further_by w) (sym e) ∙ leads) in
    ap (start_named place at a) (sym last)

pub start_unnamed : (w : World) (place : Place) (at : ℕ) (a n : Core) → None ≡ named_leaf n → start_row w place at a n ≡ Refuses Operand at
start_unnamed w place at a n e = ap (start_named place at a) (last_is w n ∙ ap (further_by w) (sym e))

-- lists by their parts
pub over_one : (inner : List ℕ) (a : ℕ) → parts_seen inner ≡ One a → inner ≡ a ∷ []
over_one [] a e = cc
over_one (x ∷ []) a e = let same : x ≡ a = cc in ap (λ (z : ℕ). z ∷ []) same
over_one (x ∷ y ∷ []) a e = cc
over_one (x ∷ y ∷ z ∷ inner) a e = cc

pub over_two : (inner : List ℕ) (a b : ℕ) → parts_seen inner ≡ Two a b → inner ≡ a ∷ b ∷ []
over_two [] a b e = cc
over_two (x ∷ []) a b e = cc
over_two (x ∷ y ∷ []) a b e = let same : x ≡ a = cc in let other : y ≡ b = cc in cc
over_two (x ∷ y ∷ z ∷ inner) a b e = cc

-- operations by how many parts they have
module _ (w : World) (s : Source) (sense : ℕ → Sense) (at : ℕ) (place : Place) (name : List ℕ) where
  pub over_none : (inner : List ℕ) → parts_seen inner ≡ Other → list_core w s sense at place name inner ≡ Refuses Operand at
  over_none [] e = refl
  over_none (a ∷ []) e = cc
  over_none (a ∷ b ∷ []) e = cc
  over_none (a ∷ b ∷ c ∷ inner) e = refl

  abbrev by_tests : ℕ → ℕ → Bool → Bool → Given Core
  by_tests a b named copy =
      if named then next_core place at (sense a) (sense b)
      else (core_of at (sense a) >>= (λ x. core_of at (sense b) >>= (λ y. if copy then copy_row w place at x y else start_row w place at x y)))

  pub over_type : (a b : ℕ) → is_a s p_type_name b ≡ true → list_core w s sense at place name (a ∷ b ∷ []) ≡ next_core place at (sense a) (sense b)
  over_type a b e = ap (λ (t : Bool). by_tests a b t (bytes_eq name (codes "__builtin_va_copy"))) e

  pub over_copy : (a b : ℕ) → is_a s p_type_name b ≡ false → bytes_eq name (codes "__builtin_va_copy") ≡ true → list_core w s sense at place name (a ∷ b ∷ []) ≡ copied_core w place at (sense a) (sense b)
  over_copy a b e f = ap (λ (t : Bool). by_tests a b t (bytes_eq name (codes "__builtin_va_copy"))) e ∙ ap (by_tests a b false) f

  pub over_start : (a b : ℕ) → is_a s p_type_name b ≡ false → bytes_eq name (codes "__builtin_va_copy") ≡ false → list_core w s sense at place name (a ∷ b ∷ []) ≡ started_core w place at (sense a) (sense b)
  over_start a b e f = ap (λ (t : Bool). by_tests a b t (bytes_eq name (codes "__builtin_va_copy"))) e ∙ ap (by_tests a b false) f
