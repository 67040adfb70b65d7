-- Types of one unit that differ differ in the table (C11 6.2.7).
use Rattle.std.proofs.Common.{◌≡◌, ◌∙◌, ℕ, zero, suc, ◌<◌, List, [], ◌∷◌, ◌++◌, Option, Some, refl, ap}
use Rattle.std.specs.List.{slice_get}
use Rattle.c_types.specs.declared.term.Term.{Term}
use Rattle.c_types.specs.declared.term.Term.TheVariants.{Void, Bool as BoolTerm, Integer, Floating, VaList, Pointer, Array, Function, Structure, Union}
use Rattle.c_types.specs.declared.term.TypeId.{TypeId}
use Rattle.c_types.specs.declared.term.Form.{Form}
use Rattle.c_types.specs.Trees.{Ctype, Ctypes, NoTypes, MoreTypes, VoidType, BoolType, IntegerType, FloatingType, VaListType, PointerTo, ArrayOf, FunctionFrom, StructureOf, UnionOf, tree_at, trees_at, grow, grown}
use Rattle.c_types.specs.Table.{Table, type_of, HasTag}
use Rattle.c_types.specs.Made.{AreNamed}
use Rattle.link_model.specs.Renamed.{renamed, all_renamed}
use Rattle.link_model.specs.Partition.{HasTags, AllHaveTags}

-- ---- the tags of a table's types are the table's
appended : (n : ℕ) (xs : List Ctype) (x : Ctype) → ((j : ℕ) → HasTags n (tree_at xs j)) → HasTags n x → (j : ℕ) → HasTags n (tree_at (xs ++ x ∷ []) j)
appended n [] x each last zero = last
appended n [] x each last (suc j) = tt
appended n (y ∷ ys) x each last zero = each 0
appended n (y ∷ ys) x each last (suc j) = appended n ys x (λ k. each (suc k)) last j

all_tags : (trees : List Ctype) (n : ℕ) (ids : List TypeId) → ((j : ℕ) → HasTags n (tree_at trees j)) → AllHaveTags n (trees_at trees ids)
all_tags trees n [] each = tt
all_tags trees n (id ∷ ids) each = (each id.0, all_tags trees n ids each)

grown_tags : (trees : List Ctype) (n : ℕ) (t : Term) → ((j : ℕ) → HasTags n (tree_at trees j)) → HasTag n t → HasTags n (grow trees t)
grown_tags trees n Void each tag = tt
grown_tags trees n BoolTerm each tag = tt
grown_tags trees n (Integer size rank signed) each tag = tt
grown_tags trees n Floating each tag = tt
grown_tags trees n VaList each tag = tt
grown_tags trees n (Pointer to) each tag = each to.0
grown_tags trees n (Array of m) each tag = each of.0
grown_tags trees n (Function result parameters form) each tag = (each result.0, all_tags trees n parameters each)
grown_tags trees n (Structure k) each tag = tag
grown_tags trees n (Union k) each tag = tag

tags_in : (n : ℕ) (trees : List Ctype) (terms : List Term) → ((j : ℕ) → HasTags n (tree_at trees j)) → ((i : ℕ) (t : Term) → slice_get terms i ≡ Some t → HasTag n t) → (j : ℕ) → HasTags n (tree_at (grown trees terms) j)
tags_in n trees [] each tags j = each j
tags_in n trees (t ∷ rest) each tags j =
    tags_in n (trees ++ grow trees t ∷ []) rest (appended n trees (grow trees t) each (grown_tags trees n t each (tags 0 t refl))) (λ i s at. tags (suc i) s at) j

pub type_tags : (table : Table) (id : ℕ) → AreNamed table → HasTags table.tags (type_of table id)
type_tags table id named = tags_in table.tags [] table.terms (λ j. tt) (λ i t at. (named i t at).1) id

-- ---- a numbering that tells tags apart tells types apart
module _ (f : ℕ → ℕ) (n : ℕ) (one : (a b : ℕ) → a < n → b < n → f a ≡ f b → a ≡ b) where
  mutual
    pub renamed_once : (s t : Ctype) → HasTags n s → HasTags n t → renamed f s ≡ renamed f t → s ≡ t
    renamed_once VoidType VoidType a b e = refl
    renamed_once BoolType BoolType a b e = refl
    renamed_once (IntegerType size rank signed) (IntegerType other r g) a b e = e
    renamed_once FloatingType FloatingType a b e = refl
    renamed_once VaListType VaListType a b e = refl
    renamed_once (PointerTo s) (PointerTo t) a b e = ap PointerTo (renamed_once s t a b (let q : renamed f s ≡ renamed f t = cc in q))
    renamed_once (ArrayOf s k) (ArrayOf t l) a b e =
        ap (λ (z : Ctype). ArrayOf z k) (renamed_once s t a b (let q : renamed f s ≡ renamed f t = cc in q)) ∙ ap (λ (z : Option ℕ). ArrayOf t z) (let q : k ≡ l = cc in q)
    renamed_once (FunctionFrom s ss g) (FunctionFrom t ts k) a b e =
        ap (λ (z : Ctype). FunctionFrom z ss g) (renamed_once s t a.0 b.0 (let q : renamed f s ≡ renamed f t = cc in q))
        ∙ (ap (λ (z : Ctypes). FunctionFrom t z g) (all_renamed_once ss ts a.1 b.1 (let q : all_renamed f ss ≡ all_renamed f ts = cc in q)) ∙ ap (λ (z : Form). FunctionFrom t ts z) (let q : g ≡ k = cc in q))
    renamed_once (StructureOf x) (StructureOf y) a b e = ap (λ (z : ℕ). StructureOf z) (one x y a b (let q : f x ≡ f y = cc in q))
    renamed_once (UnionOf x) (UnionOf y) a b e = ap (λ (z : ℕ). UnionOf z) (one x y a b (let q : f x ≡ f y = cc in q))
    renamed_once s t a b e = absurd (let bad : ⊥ = cc in bad)

    pub all_renamed_once : (ss ts : Ctypes) → AllHaveTags n ss → AllHaveTags n ts → all_renamed f ss ≡ all_renamed f ts → ss ≡ ts
    all_renamed_once NoTypes NoTypes a b e = refl
    all_renamed_once (MoreTypes s ss) (MoreTypes t ts) a b e =
        ap (λ (z : Ctype). MoreTypes z ss) (renamed_once s t a.0 b.0 (let q : renamed f s ≡ renamed f t = cc in q)) ∙ ap (λ (z : Ctypes). MoreTypes t z) (all_renamed_once ss ts a.1 b.1 (let q : all_renamed f ss ≡ all_renamed f ts = cc in q))
    all_renamed_once NoTypes (MoreTypes t ts) a b e = absurd (let bad : ⊥ = cc in bad)
    all_renamed_once (MoreTypes s ss) NoTypes a b e = absurd (let bad : ⊥ = cc in bad)
