-- A node over what is found at its operands.
use Rattle.std.proofs.Common.{◌≡◌, ℕ, ℤ, Bool, true, false, not, ◌&&◌, List, [], ◌∷◌, Some, Result, Ok, Err, slice_get, slice_index, if◌then◌else◌, refl, sym, ap, ◌∙◌, subst}
use Rattle.c_types.specs.Trees.{Ctype, VoidType, BoolType, IntegerType, FloatingType, VaListType, PointerTo, ArrayOf, FunctionFrom, StructureOf, UnionOf}
use Rattle.c_types.specs.Table.{Table, type_of}
use Rattle.core_tree.specs.declared.node.Node.{Node}
use Rattle.core_tree.specs.declared.node.Op.{Op}
use Rattle.core_tree.specs.declared.node.NodeKind.TheVariants.{Choose, Convert, Arith}
use Rattle.core_tree.specs.Typed.{IsInteger}
use Rattle.c_consts.specs.declared.fault.ConstFault.{ConstFault}
use Rattle.c_consts.specs.Core.{Cores, NoCores, MoreCores, Stands, StandAll}
use Rattle.c_consts.specs.Wrapped.{converted}
use Rattle.c_consts.specs.Operators.{Step, Gives, Breaks}
use Rattle.c_consts.specs.Answer.{Found, Value, Fails, Form, Operated, Chosen, Converted, after, asked, form_of, of_integer, is_zero, unary_in, binary_in, rest_of, answer, answers, located}
use Rattle.c_consts.specs.Spine.{asked_at, IsAnswer, IsRest}
use Rattle.c_consts.proofs.Trees.{some_inj}

pub integer_form : (t : Ctype) (form : Form) → IsInteger t → of_integer t form ≡ form
integer_form BoolType form h = refl
integer_form (IntegerType size rank signed) form h = refl
integer_form VoidType form h = absurd h
integer_form FloatingType form h = absurd h
integer_form VaListType form h = absurd h
integer_form (PointerTo to) form h = absurd h
integer_form (ArrayOf of n) form h = absurd h
integer_form (FunctionFrom r ps f) form h = absurd h
integer_form (StructureOf tag) form h = absurd h
integer_form (UnionOf tag) form h = absurd h

pub located_here : (nodes : List Node) (i : ℕ) (live : Bool) (step : Step) → asked_at live i step ≡ located nodes i (asked live step)
located_here nodes i true (Gives v) = refl
located_here nodes i true (Breaks w) = refl
located_here nodes i false step = refl

module _ (types : Table) (nodes : List Node) (i : ℕ) (n : Node) (at : slice_get nodes i ≡ Some n) where
  pub after_fails : (k b : ℕ) (found : Found) (rest : ℤ → Found) (f : ConstFault) → slice_index n.children k ≡ b → Err f ≡ located nodes b found → Err f ≡ located nodes i (after k found rest)
  after_fails k b (Value v) rest f child e = cc
  after_fails k b (Fails w path) rest f child e = rw (at, child) e

  pub after_value : (k b : ℕ) (found : Found) (rest : ℤ → Found) (v : ℤ) → Ok v ≡ located nodes b found → located nodes i (after k found rest) ≡ located nodes i (rest v)
  after_value k b (Value u) rest v e = let same : u ≡ v = cc in ap (λ (z : ℤ). located nodes i (rest z)) same
  after_value k b (Fails w path) rest v e = cc

  module _ (live : Bool) (x : ℤ) (result : Result ℤ ConstFault) where
    pub is_rest : (a : ℕ) (more : List ℕ) (form : Form) → form_of n.kind (type_of types n.ty.0) ≡ form → n.children ≡ a ∷ more → ((cs : Cores) → StandAll types nodes more cs → result ≡ located nodes i (rest_of form (type_of types n.ty.0) live x (answers cs))) → IsRest types nodes i live x result
    is_rest a more form f children each = record {
      tree = λ m b more' cs at' e all.
          let same : n ≡ m = some_inj n m (slice_get nodes i) at at' in
          let both : a ∷ more ≡ b ∷ more' = sym children ∙ (ap (λ (q : Node). q.children) same ∙ e) in
          let tail : more' ≡ more = cc in
          let here = subst (λ (g : Form). result ≡ located nodes i (rest_of g (type_of types n.ty.0) live x (answers cs))) (sym f) (each cs (subst (λ (q : List ℕ). StandAll types nodes q cs) tail all)) in
          subst (λ (q : Node). result ≡ located nodes i (rest_of (form_of q.kind (type_of types q.ty.0)) (type_of types q.ty.0) live x (answers cs))) same here;
    }

    -- an operator with one operand
    one_each : (op : Op) → result ≡ asked_at live i (unary_in op (type_of types n.ty.0) x) → (cs : Cores) → StandAll types nodes [] cs → result ≡ located nodes i (rest_of (Operated op) (type_of types n.ty.0) live x (answers cs))
    one_each op is NoCores all = is ∙ located_here nodes i live (unary_in op (type_of types n.ty.0) x)
    one_each op is (MoreCores c cs) (j, more, e, s, all) = cc

    pub rest_one : (op : Op) (a : ℕ) → n.kind ≡ Arith op → IsInteger (type_of types n.ty.0) → n.children ≡ a ∷ [] → result ≡ asked_at live i (unary_in op (type_of types n.ty.0) x) → IsRest types nodes i live x result
    rest_one op a kind integer children is =
        is_rest a [] (Operated op) (rw kind (integer_form (type_of types n.ty.0) (Operated op) integer)) children (one_each op is)

    -- a conversion
    converted_each : result ≡ asked_at live i (Gives (converted (type_of types n.ty.0) x)) → (cs : Cores) → StandAll types nodes [] cs → result ≡ located nodes i (rest_of Converted (type_of types n.ty.0) live x (answers cs))
    converted_each is NoCores all = is ∙ located_here nodes i live (Gives (converted (type_of types n.ty.0) x))
    converted_each is (MoreCores c cs) (j, more, e, s, all) = cc

    pub rest_converted : (a : ℕ) → n.kind ≡ Convert → IsInteger (type_of types n.ty.0) → n.children ≡ a ∷ [] → result ≡ asked_at live i (Gives (converted (type_of types n.ty.0) x)) → IsRest types nodes i live x result
    rest_converted a kind integer children is =
        is_rest a [] Converted (rw kind (integer_form (type_of types n.ty.0) Converted integer)) children (converted_each is)

    -- an operator with two operands, where the second one has a value
    two_each : (op : Op) (b : ℕ) (y : ℤ) → IsAnswer types nodes b live (Ok y) → result ≡ asked_at live i (binary_in op (type_of types n.ty.0) x y) → (cs : Cores) → StandAll types nodes (b ∷ []) cs → result ≡ located nodes i (rest_of (Operated op) (type_of types n.ty.0) live x (answers cs))
    two_each op b y second is NoCores all = cc
    two_each op b y second is (MoreCores c NoCores) (j, more, e, s, all) =
        let same : j ≡ b = cc in
        let stands = subst (λ (q : ℕ). Stands types nodes q c) same s in
        is ∙ located_here nodes i live (binary_in op (type_of types n.ty.0) x y) ∙ sym (after_value 1 b (answer c live) (λ z. asked live (binary_in op (type_of types n.ty.0) x z)) y (second.tree c stands))
    two_each op b y second is (MoreCores c (MoreCores d cs)) (j, more, e, s, (k, further, e', t, all)) = cc

    pub rest_two : (op : Op) (a b : ℕ) (y : ℤ) → n.kind ≡ Arith op → IsInteger (type_of types n.ty.0) → n.children ≡ a ∷ b ∷ [] → IsAnswer types nodes b live (Ok y) → result ≡ asked_at live i (binary_in op (type_of types n.ty.0) x y) → IsRest types nodes i live x result
    rest_two op a b y kind integer children second is =
        is_rest a (b ∷ []) (Operated op) (rw kind (integer_form (type_of types n.ty.0) (Operated op) integer)) children (two_each op b y second is)

    -- a choice whose branches both have a value
    choice_each : (a b : ℕ) (y z : ℤ) → IsAnswer types nodes a (live && not (is_zero x)) (Ok y) → IsAnswer types nodes b (live && is_zero x) (Ok z) → result ≡ Ok (if is_zero x then z else y) → (cs : Cores) → StandAll types nodes (a ∷ b ∷ []) cs → result ≡ located nodes i (rest_of Chosen (type_of types n.ty.0) live x (answers cs))
    choice_each a b y z one two is NoCores all = cc
    choice_each a b y z one two is (MoreCores c NoCores) (j, more, e, s, all) = cc
    choice_each a b y z one two is (MoreCores c (MoreCores d NoCores)) (j, more, e, s, (k, further, e', t, all)) =
        let same : j ≡ a = cc in
        let other : k ≡ b = cc in
        let first = one.tree c (subst (λ (q : ℕ). Stands types nodes q c) same s) in
        let second = two.tree d (subst (λ (q : ℕ). Stands types nodes q d) other t) in
        let inner = after_value 2 b (answer d (live && is_zero x)) (λ w. Value (if is_zero x then w else y)) z second in
        let outer = after_value 1 a (answer c (live && not (is_zero x))) (λ v. after 2 (answer d (live && is_zero x)) (λ w. Value (if is_zero x then w else v))) y first in
        is ∙ sym inner ∙ sym outer
    choice_each a b y z one two is (MoreCores c (MoreCores d (MoreCores f cs))) (j, more, e, s, (k, further, e', t, (l, last, e'', u, all))) = cc

    pub rest_choice : (c a b : ℕ) (y z : ℤ) → n.kind ≡ Choose → IsInteger (type_of types n.ty.0) → n.children ≡ c ∷ a ∷ b ∷ [] → IsAnswer types nodes a (live && not (is_zero x)) (Ok y) → IsAnswer types nodes b (live && is_zero x) (Ok z) → result ≡ Ok (if is_zero x then z else y) → IsRest types nodes i live x result
    rest_choice c a b y z kind integer children one two is =
        is_rest c (a ∷ b ∷ []) Chosen (rw kind (integer_form (type_of types n.ty.0) Chosen integer)) children (choice_each a b y z one two is)

  module _ (live : Bool) (x : ℤ) (f : ConstFault) where
    -- an operator whose second operand is wrong
    two_fails_each : (op : Op) (a b : ℕ) → n.children ≡ a ∷ b ∷ [] → IsAnswer types nodes b live (Err f) → (cs : Cores) → StandAll types nodes (b ∷ []) cs → Err f ≡ located nodes i (rest_of (Operated op) (type_of types n.ty.0) live x (answers cs))
    two_fails_each op a b children second NoCores all = cc
    two_fails_each op a b children second (MoreCores c NoCores) (j, more, e, s, all) =
        let same : j ≡ b = cc in
        after_fails 1 b (answer c live) (λ z. asked live (binary_in op (type_of types n.ty.0) x z)) f (rw children refl) (second.tree c (subst (λ (q : ℕ). Stands types nodes q c) same s))
    two_fails_each op a b children second (MoreCores c (MoreCores d cs)) (j, more, e, s, (k, further, e', t, all)) = cc

    pub rest_two_fails : (op : Op) (a b : ℕ) → n.kind ≡ Arith op → IsInteger (type_of types n.ty.0) → n.children ≡ a ∷ b ∷ [] → IsAnswer types nodes b live (Err f) → IsRest types nodes i live x (Err f)
    rest_two_fails op a b kind integer children second =
        is_rest live x (Err f) a (b ∷ []) (Operated op) (rw kind (integer_form (type_of types n.ty.0) (Operated op) integer)) children (two_fails_each op a b children second)

    -- a choice whose first branch is wrong
    choice_fails_each : (c₀ a b : ℕ) → n.children ≡ c₀ ∷ a ∷ b ∷ [] → IsAnswer types nodes a (live && not (is_zero x)) (Err f) → (cs : Cores) → StandAll types nodes (a ∷ b ∷ []) cs → Err f ≡ located nodes i (rest_of Chosen (type_of types n.ty.0) live x (answers cs))
    choice_fails_each c₀ a b children one NoCores all = cc
    choice_fails_each c₀ a b children one (MoreCores c NoCores) (j, more, e, s, all) = cc
    choice_fails_each c₀ a b children one (MoreCores c (MoreCores d NoCores)) (j, more, e, s, (k, further, e', t, all)) =
        let same : j ≡ a = cc in
        after_fails 1 a (answer c (live && not (is_zero x))) (λ v. after 2 (answer d (live && is_zero x)) (λ w. Value (if is_zero x then w else v))) f (rw children refl) (one.tree c (subst (λ (q : ℕ). Stands types nodes q c) same s))
    choice_fails_each c₀ a b children one (MoreCores c (MoreCores d (MoreCores g cs))) (j, more, e, s, (k, further, e', t, (l, last, e'', u, all))) = cc

    pub rest_choice_fails : (c a b : ℕ) → n.kind ≡ Choose → IsInteger (type_of types n.ty.0) → n.children ≡ c ∷ a ∷ b ∷ [] → IsAnswer types nodes a (live && not (is_zero x)) (Err f) → IsRest types nodes i live x (Err f)
    rest_choice_fails c a b kind integer children one =
        is_rest live x (Err f) c (a ∷ b ∷ []) Chosen (rw kind (integer_form (type_of types n.ty.0) Chosen integer)) children (choice_fails_each c a b children one)

    -- a choice whose second branch is wrong, and not its first
    choice_other_each : (c₀ a b : ℕ) (y : ℤ) → n.children ≡ c₀ ∷ a ∷ b ∷ [] → IsAnswer types nodes a (live && not (is_zero x)) (Ok y) → IsAnswer types nodes b (live && is_zero x) (Err f) → (cs : Cores) → StandAll types nodes (a ∷ b ∷ []) cs → Err f ≡ located nodes i (rest_of Chosen (type_of types n.ty.0) live x (answers cs))
    choice_other_each c₀ a b y children one two NoCores all = cc
    choice_other_each c₀ a b y children one two (MoreCores c NoCores) (j, more, e, s, all) = cc
    choice_other_each c₀ a b y children one two (MoreCores c (MoreCores d NoCores)) (j, more, e, s, (k, further, e', t, all)) =
        let same : j ≡ a = cc in
        let other : k ≡ b = cc in
        let first = one.tree c (subst (λ (q : ℕ). Stands types nodes q c) same s) in
        let second = two.tree d (subst (λ (q : ℕ). Stands types nodes q d) other t) in
        let inner = after_fails 2 b (answer d (live && is_zero x)) (λ w. Value (if is_zero x then w else y)) f (rw children refl) second in
        inner ∙ sym (after_value 1 a (answer c (live && not (is_zero x))) (λ v. after 2 (answer d (live && is_zero x)) (λ w. Value (if is_zero x then w else v))) y first)
    choice_other_each c₀ a b y children one two (MoreCores c (MoreCores d (MoreCores g cs))) (j, more, e, s, (k, further, e', t, (l, last, e'', u, all))) = cc

    pub rest_choice_other_fails : (c a b : ℕ) (y : ℤ) → n.kind ≡ Choose → IsInteger (type_of types n.ty.0) → n.children ≡ c ∷ a ∷ b ∷ [] → IsAnswer types nodes a (live && not (is_zero x)) (Ok y) → IsAnswer types nodes b (live && is_zero x) (Err f) → IsRest types nodes i live x (Err f)
    rest_choice_other_fails c a b y kind integer children one two =
        is_rest live x (Err f) c (a ∷ b ∷ []) Chosen (rw kind (integer_form (type_of types n.ty.0) Chosen integer)) children (choice_other_each c a b y children one two)
