-- Fixed numbers among core nodes.
use Rattle.std.proofs.Common.{arith, ◌≡◌, ◌<◌, ◌+◌, ◌&&◌, ℕ, refl, ap, sym, ◌∙◌, List, [], ◌∷◌, ◌++◌, Bool, true, false, Some, slice_get, length, All}
use Rattle.std.proofs.lemmas.List.Elements.{All-weaker}
use Rattle.c_types.specs.Trees.{Ctype}
use Rattle.c_types.specs.Table.{type_of}
use Rattle.core_tree.specs.declared.node.Node.{Node}
use Rattle.core_tree.specs.declared.node.Unit.{Unit}
use Rattle.c_consts.specs.Core.{Cores, Of, nodes_in, nodes_of}
use Rattle.c_senses.specs.Initialised.{FixedForm, Always, OfNumbers, Never, number_form, is_integer_type, is_fixed_number, are_fixed_numbers}
use Rattle.core_nodes.specs.Standing.{core_at, cores_at, IsReady}
use Rattle.core_nodes.proofs.Reading.{core_is}

and_assoc : (a b c : Bool) → ((a && b) && c) ≡ (a && (b && c))
and_assoc true b c = refl
and_assoc false b c = refl

pub and_true : (a b : Bool) → b ≡ true → (a && b) ≡ a
and_true true b e = e
and_true false b e = refl

pub and_false : (a b : Bool) → b ≡ false → (a && b) ≡ false
and_false true b e = e
and_false false b e = refl

pub fixed_append : (u : Unit) (xs ys : List ℕ) → are_fixed_numbers (cores_at u (xs ++ ys)) ≡ (are_fixed_numbers (cores_at u xs) && are_fixed_numbers (cores_at u ys))
fixed_append u [] ys = refl
fixed_append u (x ∷ xs) ys =
    ap (λ (b : Bool). is_fixed_number (core_at u x) && b) (fixed_append u xs ys) ∙ sym (and_assoc (is_fixed_number (core_at u x)) (are_fixed_numbers (cores_at u xs)) (are_fixed_numbers (cores_at u ys)))

pub nodes_append : (u : Unit) (xs ys : List ℕ) → nodes_of (cores_at u (xs ++ ys)) ≡ nodes_of (cores_at u xs) + nodes_of (cores_at u ys)
nodes_append u [] ys = omega arith
nodes_append u (x ∷ xs) ys = let rest : nodes_of (cores_at u (xs ++ ys)) ≡ nodes_of (cores_at u xs) + nodes_of (cores_at u ys) = nodes_append u xs ys in omega (arith, rest)

abbrev by_form : FixedForm → Ctype → Cores → Bool
by_form form t under = elim form [ Always ↦ true | OfNumbers ↦ is_integer_type t && are_fixed_numbers under | _ ↦ false ]

-- a node by its form
module _ (u : Unit) (ready : IsReady u) (i : ℕ) (n : Node) (at : slice_get u.nodes.items i ≡ Some n) where
  whole : core_at u i ≡ Of n.kind n.place (type_of u.types n.ty.0) (cores_at u n.children)
  whole = core_is u ready i n at

  formed : (form : FixedForm) → form ≡ number_form n.kind → is_fixed_number (core_at u i) ≡ by_form form (type_of u.types n.ty.0) (cores_at u n.children)
  formed form e = ap is_fixed_number whole ∙ sym (ap (λ (f : FixedForm). by_form f (type_of u.types n.ty.0) (cores_at u n.children)) e)

  pub always : (a : Bool) → Always ≡ number_form n.kind → (a && is_fixed_number (core_at u i)) ≡ (true && a)
  always a e = and_true a (is_fixed_number (core_at u i)) (formed Always e)

  pub never : (a b : Bool) → Never ≡ number_form n.kind → (a && is_fixed_number (core_at u i)) ≡ (false && b)
  never a b e = and_false a (is_fixed_number (core_at u i)) (formed Never e)

  pub no_integer : (a b : Bool) → OfNumbers ≡ number_form n.kind → false ≡ is_integer_type (type_of u.types n.ty.0) → (a && is_fixed_number (core_at u i)) ≡ (false && b)
  no_integer a b e f =
      and_false a (is_fixed_number (core_at u i)) (formed OfNumbers e ∙ ap (λ (b : Bool). b && are_fixed_numbers (cores_at u n.children)) (sym f))

  pub of_numbers : (old new : List ℕ) → OfNumbers ≡ number_form n.kind → true ≡ is_integer_type (type_of u.types n.ty.0) → new ≡ old ++ n.children →
      (are_fixed_numbers (cores_at u old) && is_fixed_number (core_at u i)) ≡ (true && are_fixed_numbers (cores_at u new))
  of_numbers old new e f p =
      ap (λ (b : Bool). are_fixed_numbers (cores_at u old) && b) (formed OfNumbers e ∙ ap (λ (b : Bool). b && are_fixed_numbers (cores_at u n.children)) (sym f))
      ∙ sym (fixed_append u old n.children) ∙ sym (ap (λ (l : List ℕ). are_fixed_numbers (cores_at u l)) p)

  counted : nodes_in (core_at u i) ≡ nodes_of (cores_at u n.children) + 1
  counted = ap nodes_in whole

  pub fewer : (old new : List ℕ) → new ≡ old ++ n.children → nodes_of (cores_at u new) < nodes_of (cores_at u old) + nodes_in (core_at u i)
  fewer old new p =
      let here : nodes_of (cores_at u new) ≡ nodes_of (cores_at u old) + nodes_of (cores_at u n.children) = ap (λ (l : List ℕ). nodes_of (cores_at u l)) p ∙ nodes_append u old n.children in
      omega (arith, here, counted)

  pub same_fewer : (old : List ℕ) → nodes_of (cores_at u old) < nodes_of (cores_at u old) + nodes_in (core_at u i)
  same_fewer old = omega (arith, counted)

  pub children_within : i < length u.nodes.items → All (λ c. c < length u.nodes.items) n.children
  children_within lt = All-weaker (λ (c : ℕ). c < i) (λ (c : ℕ). c < length u.nodes.items) (λ c h. omega (arith, h, lt)) n.children (ready.children i n at)

-- the last of a list
and_one : (a : Bool) → (a && true) ≡ a
and_one true = refl
and_one false = refl

pub pop_fixed : (u : Unit) (old rest : List ℕ) (i : ℕ) → old ≡ rest ++ i ∷ [] → are_fixed_numbers (cores_at u old) ≡ (are_fixed_numbers (cores_at u rest) && is_fixed_number (core_at u i))
pop_fixed u old rest i e =
    ap (λ (l : List ℕ). are_fixed_numbers (cores_at u l)) e ∙ fixed_append u rest (i ∷ [])
    ∙ ap (λ (b : Bool). are_fixed_numbers (cores_at u rest) && b) (and_one (is_fixed_number (core_at u i)))

pub pop_nodes : (u : Unit) (old rest : List ℕ) (i : ℕ) → old ≡ rest ++ i ∷ [] → nodes_of (cores_at u old) ≡ nodes_of (cores_at u rest) + nodes_in (core_at u i)
pop_nodes u old rest i e =
    let apart : nodes_of (cores_at u (rest ++ i ∷ [])) ≡ nodes_of (cores_at u rest) + nodes_of (cores_at u (i ∷ [])) = nodes_append u rest (i ∷ []) in
    ap (λ (l : List ℕ). nodes_of (cores_at u l)) e ∙ omega (arith, apart)

pub goes_on : (g x y : Bool) → x ≡ (g && y) → g ≡ true → x ≡ y
goes_on true x y e h = e
goes_on false x y e h = cc

pub stops : (g x y : Bool) → x ≡ (g && y) → g ≡ false → false ≡ x
stops true x y e h = cc
stops false x y e h = sym e
