-- What can't be refuted of numbers, names, types and lists of members is so.
use Rattle.std.proofs.Common.{◌≡◌, ◌∙◌, ℕ, Bool, true, false, List, [], ◌∷◌, Option, Some, None, refl, ap, inl, inr}
use Rattle.std.proofs.lemmas.Bool.{cases_eq}
use Rattle.c_types.specs.declared.term.Form.{Form}
use Rattle.c_types.specs.declared.term.Form.TheVariants.{Fixed, Variadic, Unspecified}
use Rattle.c_types.specs.declared.term.MemberTerm.{MemberTerm}
use Rattle.c_types.specs.Trees.{Ctype, Ctypes, NoTypes, MoreTypes, VoidType, BoolType, IntegerType, FloatingType, VaListType, PointerTo, ArrayOf, FunctionFrom, StructureOf, UnionOf}
use Rattle.c_types.specs.Table.{Table, type_of}
use Rattle.link_model.specs.Renamed.{renamed}
use Rattle.twin_report_laws.specs.outcome_laws.twin_programs.One.{SameMembers}

-- it can't be refuted
abbrev pub NotNot : Type 0 → Type 0
NotNot A = (A → ⊥) → ⊥

number : (a b : ℕ) → NotNot (a ≡ b) → a ≡ b
number a b h = elim (cases_eq a b) [ inl same ↦ same | inr other ↦ absurd (h other) ]

flag : (a b : Bool) → NotNot (a ≡ b) → a ≡ b
flag true true h = refl
flag false false h = refl
flag a b h = absurd (h (λ e. cc))

form : (a b : Form) → NotNot (a ≡ b) → a ≡ b
form Fixed Fixed h = refl
form Variadic Variadic h = refl
form Unspecified Unspecified h = refl
form a b h = absurd (h (λ e. cc))

number_if : (a b : Option ℕ) → NotNot (a ≡ b) → a ≡ b
number_if None None h = refl
number_if (Some a) (Some b) h = ap Some (number a b (λ other. h (λ e. other cc)))
number_if a b h = absurd (h (λ e. cc))

numbers : (ns bs : List ℕ) → NotNot (ns ≡ bs) → ns ≡ bs
numbers [] [] h = refl
numbers (a ∷ ns) (b ∷ bs) h =
    let first : a ≡ b = number a b (λ other. h (λ e. other cc)) in
    let rest : ns ≡ bs = numbers ns bs (λ other. h (λ e. other cc)) in
    ap (λ (n : ℕ). n ∷ ns) first ∙ ap (λ (ns : List ℕ). b ∷ ns) rest
numbers ns bs h = absurd (h (λ e. cc))

name : (a b : Option (List ℕ)) → NotNot (a ≡ b) → a ≡ b
name None None h = refl
name (Some a) (Some b) h = ap Some (numbers a b (λ other. h (λ e. other cc)))
name a b h = absurd (h (λ e. cc))

mutual
  type : (s t : Ctype) → NotNot (s ≡ t) → s ≡ t
  type VoidType VoidType h = refl
  type BoolType BoolType h = refl
  type (IntegerType a b c) (IntegerType d e f) h =
      let one : a ≡ d = number a d (λ other. h (λ i. other cc)) in
      let two : b ≡ e = number b e (λ other. h (λ i. other cc)) in
      let three : c ≡ f = flag c f (λ other. h (λ i. other cc)) in
      ap (λ (n : ℕ). IntegerType n b c) one ∙ (ap (λ (n : ℕ). IntegerType d n c) two ∙ ap (λ (n : Bool). IntegerType d e n) three)
  type FloatingType FloatingType h = refl
  type VaListType VaListType h = refl
  type (PointerTo s) (PointerTo t) h = ap PointerTo (type s t (λ other. h (λ e. other cc)))
  type (ArrayOf s n) (ArrayOf t m) h =
      let one : s ≡ t = type s t (λ other. h (λ e. other cc)) in
      let two : n ≡ m = number_if n m (λ other. h (λ e. other cc)) in
      ap (λ (z : Ctype). ArrayOf z n) one ∙ ap (λ (z : Option ℕ). ArrayOf t z) two
  type (FunctionFrom s ps f) (FunctionFrom t qs g) h =
      let one : s ≡ t = type s t (λ other. h (λ e. other cc)) in
      let two : ps ≡ qs = types ps qs (λ other. h (λ e. other cc)) in
      let three : f ≡ g = form f g (λ other. h (λ e. other cc)) in
      ap (λ (z : Ctype). FunctionFrom z ps f) one ∙ (ap (λ (z : Ctypes). FunctionFrom t z f) two ∙ ap (λ (z : Form). FunctionFrom t qs z) three)
  type (StructureOf a) (StructureOf b) h = ap StructureOf (number a b (λ other. h (λ e. other cc)))
  type (UnionOf a) (UnionOf b) h = ap UnionOf (number a b (λ other. h (λ e. other cc)))
  type s t h = absurd (h (λ e. cc))

  types : (ss ts : Ctypes) → NotNot (ss ≡ ts) → ss ≡ ts
  types NoTypes NoTypes h = refl
  types (MoreTypes s ss) (MoreTypes t ts) h =
      let first : s ≡ t = type s t (λ other. h (λ e. other cc)) in
      let rest : ss ≡ ts = types ss ts (λ other. h (λ e. other cc)) in
      ap (λ (z : Ctype). MoreTypes z ss) first ∙ ap (λ (z : Ctypes). MoreTypes t z) rest
  types ss ts h = absurd (h (λ e. cc))

pub members : (one other : Table) (tag : ℕ → ℕ) (ms ks : List MemberTerm) → NotNot (SameMembers one other tag ms ks) → SameMembers one other tag ms ks
members one other tag [] [] h = tt
members one other tag (m ∷ ms) (k ∷ ks) h = (
  name k.name m.name (λ no. h (λ e. no e.0)),
  number_if k.bits m.bits (λ no. h (λ e. no e.1)),
  type (type_of other k.ty.0) (renamed tag (type_of one m.ty.0)) (λ no. h (λ e. no e.2)),
  members one other tag ms ks (λ no. h (λ e. no e.3)),
)
members one other tag [] (k ∷ ks) h = absurd (h (λ e. e))
members one other tag (m ∷ ms) [] h = absurd (h (λ e. e))
