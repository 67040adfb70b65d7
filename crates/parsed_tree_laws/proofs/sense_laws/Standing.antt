-- From sound trees to the rows of all kinds of nodes, in a unit that backs the world.
use Rattle.std.proofs.Common.{◌≡◌, ℕ, ◌<◌, Bool, true, false, List, [], ◌∷◌, Option, Some, None, slice_get, length, get_or, refl, sym, ap, ◌∙◌, subst, map, All, inl, inr}
use Rattle.std.specs.Prelude.{is_some, reverse}
use Rattle.std.specs.Option.{option_map, option_and_then}
use Rattle.std.proofs.lemmas.Option.{slice_get-get_or, slice_get-map, slice_get_within}
use Rattle.std.proofs.lemmas.List.Elements.{All-cons, All-nil, All-head, All-tail}
use mathlib.Core.List.{reverse_aux}
use Rattle.c_types.specs.Trees.{Ctype, Ctypes, NoTypes, MoreTypes, VoidType, PointerTo, ArrayOf, FunctionFrom, StructureOf, UnionOf}
use Rattle.c_types.specs.declared.term.Form.{Form}
use Rattle.c_types.specs.declared.term.Form.TheVariants.{Fixed, Variadic, Unspecified}
use Rattle.c_types.specs.declared.term.MemberTerm.{MemberTerm}
use Rattle.c_types.specs.declared.term.PathStep.{PathStep}
use Rattle.c_types.specs.declared.term.PathStep.TheVariants.{Index, Member as MemberStep}
use Rattle.c_types.specs.Paths.{with_length, member_type, part_type, part_below, type_at_path}
use Rattle.c_types.specs.Table.{Table, type_of, members_in}
use Rattle.type_rules.specs.Members.{IsMemberOf, member_at, in_list, tag_of, width_of}
use Rattle.type_rules.specs.Sizes.{PointsToObject}
use Rattle.type_rules.specs.Conversions.{IsFirstOf}
use Rattle.c_conversions.specs.passed.core_tree.declared.node.Node.{Node}
use Rattle.c_conversions.specs.passed.core_tree.declared.node.Entity.{Entity}
use Rattle.c_conversions.specs.passed.core_tree.declared.node.Unit.{Unit}
use Rattle.c_conversions.specs.passed.core_tree.declared.node.NodeKind.{NodeKind}
use Rattle.c_conversions.specs.passed.core_tree.declared.node.NodeKind.TheVariants.{Named, Text, Literal, FunctionName, Deref, Member, Number, NullValue, Fetch, AddressOf, Decay, PointerAdd, Convert, Upcast, Assign, Update, Choose, Sequence, CallNode, MemberOfValue, Arith, VarArgs, NextArg, Expression, Block, If, While, DoWhile, For, Switch, Case, Default, Label, Goto, Break, Continue, Return, Initialise, Skip}
use Rattle.type_rules.specs.Kinds.{IsList}
use Rattle.c_conversions.specs.passed.core_tree.Typed.{CoreTrees, trees_of, sort_at, type_at, Sort, PlaceNode, ValueNode, StatementNode, IsPassed, decayed, IsValue, IsPlace, IsStatement}
use Rattle.c_conversions.specs.passed.core_tree.Rows.{RowOf, IsEntityIn, IsVariadicIn, entity_type, width_at, place_bits, IsCondition, IsNumeral, IsFurther, Arguments, Calls, InitialisesIn, InitialisesEntity, InitialisesOneOf, IsFirstStatement, IsExpressionNode, IsOneExpression, ForFirst, ForCondition, ForAfter, ForParts, InitialValues, IfRow, ReturnRow, LabelledRow, LoneRow, ForRow}
use Rattle.c_conversions.specs.passed.core_tree.Valid.{InRow}
use Rattle.pta_base.specs.declared.place.Place.{Place}
use Rattle.c_senses.specs.passed.c_consts.Nodes.{IsConstantKind}
use Rattle.c_senses.specs.passed.c_consts.Core.{Core, Of, kind_of, ctype_of, core_sort}
use Rattle.c_senses.specs.passed.c_inits.Made.{Part}
use Rattle.c_senses.specs.passed.c_inits.Tables.{part_of, parts_in}
use Rattle.c_senses.specs.World.{World, members_of}
use Rattle.c_senses.specs.Conversions.{place_width, width_in}
use Rattle.c_senses.specs.Objects.{part_at}
use Rattle.c_conversions.specs.passed.core_nodes.Standing.{core_at, cores_at, IsReady}
use Rattle.c_conversions.specs.passed.core_nodes.Sorts.{bits_of}
use Rattle.c_conversions.proofs.passed.core_nodes.Reading.{core_is, kind_is}
use Rattle.c_conversions.proofs.passed.core_nodes.BitFields.{width_listed}
use Rattle.parsed_tree_laws.specs.sense_laws.Sound.{Sound, list_of, IsVariadicOf, AgreesWith, IsPartOf, PointsToSized, IsFirstPart, IsValueCore, IsPlaceCore, IsStatementCore, IsConditionCore, IsNumeralCore, IsFurtherCore, AreArguments, CallsWith, type_of_part, step_type, step_below, type_down, InitialOver, IsOneExpressionCore, IsForFirst, IsForCondition, IsForAfter, AreForParts, IfOver, ReturnOver, One, IsEmpty}
use Rattle.parsed_tree_laws.specs.sense_laws.Laws.{Backs}
use Rattle.parsed_tree_laws.proofs.sense_laws.Bridge.{head_in, tail_in, child_sort, child_type, of_type, value_at, condition_at, numeral_at, constant_row, below_all}

-- members
member_found : (table : Table) (o : Option (List MemberTerm)) (k : ℕ) (p : Part) → part_at (parts_in table o) k ≡ Some p → (m : MemberTerm) × (in_list o k ≡ Some m) × (part_of table m ≡ p)
member_found table None k p h = cc
member_found table (Some ms) k p h = among (slice_get ms k) refl (sym (slice_get-map (part_of table) ms k) ∙ h)
  where
    among : (o : Option MemberTerm) → slice_get ms k ≡ o → option_map (part_of table) o ≡ Some p → (m : MemberTerm) × (slice_get ms k ≡ Some m) × (part_of table m ≡ p)
    among None e f = cc
    among (Some m) e f = (m, e, cc)

bits_width : (o : Option MemberTerm) → bits_of o ≡ width_of o
bits_width None = refl
bits_width (Some m) = refl

agrees_in : (x : CoreTrees) (o : Option Entity) (t : Ctype) → AgreesWith (entity_type x o) t → IsEntityIn x o t
agrees_in x None t h = h
agrees_in x (Some e) t h = h

-- lists of nodes and of their trees
list_is : (u : Unit) (is : List ℕ) → list_of (cores_at u is) ≡ map (core_at u) is
list_is u [] = refl
list_is u (i ∷ is) = ap (λ (cs : List Core). core_at u i ∷ cs) (list_is u is)

map_reverse : {A B : Type 0} (f : A → B) (xs ys : List A) → reverse_aux (map f xs) (map f ys) ≡ map f (reverse_aux xs ys)
map_reverse f [] ys = refl
map_reverse f (x ∷ xs) ys = map_reverse f xs (x ∷ ys)

reversed_is : (u : Unit) (is : List ℕ) → reverse (list_of (cores_at u is)) ≡ list_of (cores_at u (reverse is))
reversed_is u is = ap reverse (list_is u is) ∙ (map_reverse (core_at u) is [] ∙ sym (list_is u (reverse is)))

all_reversed : (P : ℕ → Type 0) (is js : List ℕ) → All P is → All P js → All P (reverse_aux is js)
all_reversed P [] js h k = k
all_reversed P (i ∷ is) js h k = all_reversed P is (i ∷ js) (All-tail P i is h) (All-cons P i js (All-head P i is h) k)

module _ (w : World) (entities : ℕ → Option Ctype) (u : Unit) (ready : IsReady u) (backs : Backs w entities u) where
  In : List ℕ → Type 0
  In is = All (λ c. c < length u.nodes.items) is

  in_head : (i : ℕ) (is : List ℕ) → In (i ∷ is) → i < length u.nodes.items
  unfolding In
  in_head i is h = head_in u i is h

  in_tail : (i : ℕ) (is : List ℕ) → In (i ∷ is) → In is
  unfolding In
  in_tail i is h = tail_in u i is h

  in_reversed : (is : List ℕ) → In is → In (reverse is)
  unfolding In
  in_reversed is h = all_reversed (λ c. c < length u.nodes.items) is [] h (All-nil (λ c. c < length u.nodes.items))

  sort_of_node : (c : ℕ) → c < length u.nodes.items → (s : Sort) → core_sort (core_at u c) ≡ s → sort_at (trees_of u) c ≡ s
  sort_of_node c lt s e = child_sort u ready (trees_of u) refl refl c lt s e

  type_of_node : (c : ℕ) → c < length u.nodes.items → type_at (trees_of u) c ≡ ctype_of (core_at u c)
  type_of_node c lt = child_type u ready (trees_of u) refl refl c lt

  by_type : (P : Ctype → Type 0) (c : ℕ) → c < length u.nodes.items → P (ctype_of (core_at u c)) → P (type_at (trees_of u) c)
  by_type P c lt h = of_type u ready (trees_of u) refl refl P c lt h

  is_value : (t : Ctype) (c : ℕ) → c < length u.nodes.items → IsValueCore (core_at u c) t → IsValue (trees_of u) c t
  is_value t c lt h = value_at u ready (trees_of u) refl refl t c lt h

  is_place : (t : Ctype) (c : ℕ) → c < length u.nodes.items → IsPlaceCore (core_at u c) t → IsPlace (trees_of u) c t
  is_place t c lt h = (sort_of_node c lt PlaceNode h.0, type_of_node c lt ∙ h.1)

  is_statement : (c : ℕ) → c < length u.nodes.items → IsStatementCore (core_at u c) → IsStatement (trees_of u) c
  is_statement c lt h = sort_of_node c lt StatementNode h

  is_condition : (c : ℕ) → c < length u.nodes.items → IsConditionCore (core_at u c) → IsCondition (trees_of u) c
  is_condition c lt h = condition_at u ready (trees_of u) refl refl c lt h

  is_numeral : (c : ℕ) → c < length u.nodes.items → IsNumeralCore (core_at u c) → IsNumeral (trees_of u) c
  is_numeral c lt h = numeral_at u ready (trees_of u) refl refl c lt h

  is_further : (c : ℕ) → c < length u.nodes.items → IsFurtherCore (core_at u c) → IsFurther (trees_of u) c
  is_further c lt h = (sort_of_node c lt ValueNode h.0, by_type IsPassed c lt h.1)

  -- the node of a number, and its kind
  node_found : (c : ℕ) → c < length u.nodes.items → (n : Node) × (slice_get u.nodes.items c ≡ Some n)
  node_found c lt =
      let any : Node = record { kind = Choose; place = record { unit = 0; line = 0; column = 0 }; ty = record { 0 = 0 }; children = [] } in
      (get_or u.nodes.items c any, slice_get-get_or u.nodes.items c any lt)

  initialises_at : (e : ℕ) (c : ℕ) → c < length u.nodes.items → InitialisesEntity (kind_of (core_at u c)) e → InitialisesIn (slice_get u.nodes.items c) e
  initialises_at e c lt h =
      let found = node_found c lt in
      subst (λ (o : Option Node). InitialisesIn o e) (sym found.1) (subst (λ (k : NodeKind). InitialisesEntity k e) (sym (kind_is u ready c found.0 found.1)) h)

  first_statement_at : (es : List ℕ) (c : ℕ) → c < length u.nodes.items → InitialisesOneOf es (kind_of (core_at u c)) → IsFirstStatement es (slice_get u.nodes.items c)
  first_statement_at es c lt h =
      let found = node_found c lt in
      subst (λ (o : Option Node). IsFirstStatement es o) (sym found.1) (subst (λ (k : NodeKind). InitialisesOneOf es k) (sym (kind_is u ready c found.0 found.1)) h)

  expression_at : (c : ℕ) → c < length u.nodes.items → kind_of (core_at u c) ≡ Expression → IsExpressionNode (slice_get u.nodes.items c)
  expression_at c lt h = let found = node_found c lt in subst IsExpressionNode (sym found.1) (kind_is u ready c found.0 found.1 ∙ h)

  -- members and sizes
  member_in : (tag k : ℕ) (t : Ctype) (p : Part) → part_at (w.members tag) k ≡ Some p → p.type ≡ t → (m : MemberTerm) × (in_list (members_in u.types tag) k ≡ Some m) × (type_of u.types m.ty.0 ≡ t)
  member_in tag k t p stands type =
      let found = member_found u.types (members_in u.types tag) k p (ap (λ (o : Option (List Part)). part_at o k) (sym (backs.knows.members tag)) ∙ stands) in
      (found.0, found.1, ap (λ (q : Part). q.type) found.2 ∙ type)

  is_member : (whole : Ctype) (k : ℕ) (t : Ctype) → IsPartOf w whole k t → IsMemberOf u.types whole k t
  is_member (StructureOf tag) k t h = let m = member_in tag k t h.part h.stands h.type in record { member = m.0; stands = m.1; type = m.2 }
  is_member (UnionOf tag) k t h = let m = member_in tag k t h.part h.stands h.type in record { member = m.0; stands = m.1; type = m.2 }
  is_member VoidType k t h = let no : None ≡ Some h.part = h.stands in cc
  is_member whole k t h = let no : part_at None k ≡ Some h.part = h.stands in cc

  is_first : (a t : Ctype) → IsFirstPart w a t → IsFirstOf u.types a t
  is_first (PointerTo (StructureOf tag)) (PointerTo first) h = is_member (StructureOf tag) 0 first h
  is_first a t h = absurd h

  points_to : (t : Ctype) → PointsToSized w t → PointsToObject u.types t
  points_to (PointerTo to) h = ap is_some (sym (backs.knows.extents to)) ∙ h
  points_to t h = absurd h

  width_in_list : (o : Option (List MemberTerm)) (k : ℕ) → width_in (parts_in u.types o) k ≡ width_of (in_list o k)
  width_in_list None k = refl
  width_in_list (Some ms) k = width_listed u.types ms k ∙ bits_width (slice_get ms k)

  width_same : (t : Ctype) (k : ℕ) → width_in (members_of w t) k ≡ width_of (member_at u.types (tag_of t) k)
  width_same (StructureOf tag) k = ap (λ (o : Option (List Part)). width_in o k) (backs.knows.members tag) ∙ width_in_list (members_in u.types tag) k
  width_same (UnionOf tag) k = ap (λ (o : Option (List Part)). width_in o k) (backs.knows.members tag) ∙ width_in_list (members_in u.types tag) k
  width_same t k = refl

  no_width : (kind : NodeKind) (place : _) (t : Ctype) (is : List ℕ) → In is → Sound w entities (Of kind place t (cores_at u is)) → place_width w (Of kind place t (cores_at u is)) ≡ None → width_at (trees_of u) kind is ≡ None
  no_width (Member k) place t (p ∷ []) lt h e =
      let same : width_of (member_at u.types (tag_of (ctype_of (core_at u p))) k) ≡ None = sym (width_same (ctype_of (core_at u p)) k) ∙ e in
      by_type (λ (q : Ctype). width_of (member_at u.types (tag_of q) k) ≡ None) p (in_head p [] lt) same
  no_width (Member k) place t [] lt h e = absurd h.0
  no_width (Member k) place t (p ∷ q ∷ is) lt h e = absurd h.0
  no_width kind place t is lt h e = refl

  children_in : (i : ℕ) (n : Node) → slice_get u.nodes.items i ≡ Some n → i < length u.nodes.items → In n.children
  unfolding In
  children_in i n at lt = below_all w entities u ready i n at lt

  address_at : (p : ℕ) → p < length u.nodes.items → Sound w entities (core_at u p) → place_width w (core_at u p) ≡ None → place_bits (trees_of u) (slice_get u.nodes.items p) ≡ None
  address_at p lt h e =
      let found = node_found p lt in
      let n : Node = found.0 in
      let is : core_at u p ≡ Of n.kind n.place (type_of u.types n.ty.0) (cores_at u n.children) = core_is u ready p n found.1 in
      let below : In n.children = children_in p n found.1 lt in
      subst (λ (o : Option Node). place_bits (trees_of u) o ≡ None) (sym found.1)
      (no_width n.kind n.place (type_of u.types n.ty.0) n.children below (subst (λ (c : Core). Sound w entities c) is h) (subst (λ (c : Core). place_width w c ≡ None) is e))

  -- types at the ends of paths
  member_type_same : (o : Option (List MemberTerm)) (k : ℕ) → member_type u.types o k ≡ type_of_part w (parts_in u.types o) k
  member_type_same None k = refl
  member_type_same (Some ms) k = listed (slice_get ms k) ∙ sym (ap (λ (o : Option Part). option_and_then (λ m. with_length m.type) o) (slice_get-map (part_of u.types) ms k))
    where
      listed : (o : Option MemberTerm) → option_and_then (λ m. with_length (type_of u.types m.ty.0)) o ≡ option_and_then (λ m. with_length m.type) (option_map (part_of u.types) o)
      listed None = refl
      listed (Some m) = refl

  tag_type_same : (tag k : ℕ) → member_type u.types (members_in u.types tag) k ≡ type_of_part w (w.members tag) k
  tag_type_same tag k = member_type_same (members_in u.types tag) k ∙ sym (ap (λ (o : Option (List Part)). type_of_part w o k) (backs.knows.members tag))

  step_same : (t : Ctype) (step : PathStep) → part_type u.types t step ≡ step_type w t step
  step_same (StructureOf tag) (MemberStep k) = tag_type_same tag k
  step_same (UnionOf tag) (MemberStep k) = tag_type_same tag k
  step_same (ArrayOf of (Some n)) (Index i) = refl
  step_same t step = refl

  below_same : (o : Option Ctype) (step : PathStep) → part_below u.types o step ≡ step_below w o step
  below_same None step = refl
  below_same (Some t) step = step_same t step

  path_same : (o : Option Ctype) (path : List PathStep) → type_at_path u.types o path ≡ type_down w o path
  path_same o [] = refl
  path_same o (step ∷ path) = path_same (part_below u.types o step) path ∙ ap (λ (q : Option Ctype). type_down w q path) (below_same o step)

  initial_values : (o : Option Ctype) (paths : List (List PathStep)) (is : List ℕ) → In is → InitialOver w o paths (list_of (cores_at u is)) → InitialValues (trees_of u) o paths is
  initial_values o [] [] lt h = tt
  initial_values o (path ∷ paths) (v ∷ is) lt h =
      let lv : v < length u.nodes.items = in_head v is lt in
      (sort_of_node v lv ValueNode h.0, path_same o path ∙ (h.1 ∙ ap Some (sym (type_of_node v lv))), initial_values o paths is (in_tail v is lt) h.2)
  initial_values o [] (v ∷ is) lt h = absurd h
  initial_values o (path ∷ paths) [] lt h = absurd h

  -- lists of parts
  all_at : (P : Core → Type 0) (Q : ℕ → Type 0) → ((c : ℕ) → c < length u.nodes.items → P (core_at u c) → Q c) → (is : List ℕ) → In is → All P (list_of (cores_at u is)) → All Q is
  all_at P Q f [] lt h = All-nil Q
  all_at P Q f (i ∷ is) lt h = All-cons Q i is (f i (in_head i is lt) (All-head P (core_at u i) (list_of (cores_at u is)) h)) (all_at P Q f is (in_tail i is lt) (All-tail P (core_at u i) (list_of (cores_at u is)) h))

  arguments_at : (ps : Ctypes) (f : Form) (is : List ℕ) → In is → AreArguments ps f (list_of (cores_at u is)) → Arguments (trees_of u) ps f is
  arguments_at NoTypes Fixed [] lt h = tt
  arguments_at NoTypes Fixed (i ∷ is) lt h = absurd h
  arguments_at NoTypes Variadic is lt h = all_at IsFurtherCore (IsFurther (trees_of u)) is_further is lt h
  arguments_at NoTypes Unspecified is lt h = all_at IsFurtherCore (IsFurther (trees_of u)) is_further is lt h
  arguments_at (MoreTypes t rest) Unspecified [] lt h = absurd h
  arguments_at (MoreTypes t rest) Unspecified (i ∷ is) lt h = absurd h
  arguments_at (MoreTypes t rest) Fixed [] lt h = absurd h
  arguments_at (MoreTypes t rest) Variadic [] lt h = absurd h
  arguments_at (MoreTypes t rest) Fixed (i ∷ is) lt h = (is_value t i (in_head i is lt) h.0, arguments_at rest Fixed is (in_tail i is lt) h.1)
  arguments_at (MoreTypes t rest) Variadic (i ∷ is) lt h = (is_value t i (in_head i is lt) h.0, arguments_at rest Variadic is (in_tail i is lt) h.1)

  calls_at : (callee t : Ctype) (is : List ℕ) → In is → CallsWith callee t (list_of (cores_at u is)) → Calls (trees_of u) callee t is
  calls_at (PointerTo (FunctionFrom r ps f)) t is lt h = (h.0, arguments_at ps f is lt h.1)
  calls_at callee t is lt h = absurd h

  -- the parts of a For
  one_expression : (is : List ℕ) → In is → IsOneExpressionCore (list_of (cores_at u is)) → IsOneExpression (trees_of u) is
  one_expression [] lt h = absurd h
  one_expression (i ∷ []) lt h = expression_at i (in_head i [] lt) h
  one_expression (i ∷ j ∷ is) lt h = absurd h

  for_first_at : (es is : List ℕ) → In is → IsForFirst es (list_of (cores_at u is)) → ForFirst (trees_of u) es is
  for_first_at es is lt (inl h) = inl (all_at (λ c. InitialisesOneOf es (kind_of c)) (λ s. IsFirstStatement es (slice_get u.nodes.items s)) (first_statement_at es) is lt h)
  for_first_at es is lt (inr h) = inr (one_expression is lt h)

  for_reversed : (es is : List ℕ) → In is → IsForFirst es (reverse (list_of (cores_at u is))) → ForFirst (trees_of u) es (reverse is)
  for_reversed es is lt h = for_first_at es (reverse is) (in_reversed is lt) (subst (λ (cs : List Core). IsForFirst es cs) (reversed_is u is) h)

  for_condition_at : (es : List ℕ) (condition : Bool) (is : List ℕ) → In is → IsForCondition es condition (list_of (cores_at u is)) → ForCondition (trees_of u) es condition is
  for_condition_at es true [] lt h = absurd h
  for_condition_at es true (c ∷ is) lt h = (is_condition c (in_head c is lt) h.0, for_reversed es is (in_tail c is lt) h.1)
  for_condition_at es false is lt h = for_reversed es is lt h

  for_after_at : (es : List ℕ) (condition after : Bool) (is : List ℕ) → In is → IsForAfter es condition after (list_of (cores_at u is)) → ForAfter (trees_of u) es condition after is
  for_after_at es condition true [] lt h = absurd h
  for_after_at es condition true (v ∷ is) lt h = (sort_of_node v (in_head v is lt) ValueNode h.0, for_condition_at es condition is (in_tail v is lt) h.1)
  for_after_at es condition false is lt h = for_condition_at es condition is lt h

  for_parts_at : (es : List ℕ) (condition after : Bool) (is : List ℕ) → In is → AreForParts es condition after (list_of (cores_at u is)) → ForParts (trees_of u) es condition after is
  for_parts_at es condition after [] lt h = absurd h
  for_parts_at es condition after (body ∷ is) lt h = (is_statement body (in_head body is lt) h.0, for_after_at es condition after is (in_tail body is lt) h.1)

  -- the row of each kind
  typed_at : (e : ℕ) (t : Ctype) → AgreesWith (entities e) t → IsEntityIn (trees_of u) (slice_get u.entities.items e) t
  typed_at e t h = agrees_in (trees_of u) (slice_get u.entities.items e) t (subst (λ (o : Option Ctype). AgreesWith o t) (sym (backs.typed e)) h)

  constant_stands : (kind : NodeKind) (place : Place) (t : Ctype) (is : List ℕ) → IsConstantKind kind → In is → Sound w entities (Of kind place t (cores_at u is)) → RowOf (trees_of u) kind t is
  unfolding In
  constant_stands kind place t is k lt h = constant_row u ready (trees_of u) refl refl w entities kind t is lt k h.0

  if_stands : (is : List ℕ) → In is → IfOver (list_of (cores_at u is)) → IfRow (trees_of u) is
  if_stands (c ∷ s ∷ []) lt h = (is_condition c (in_head c (s ∷ []) lt) h.0, is_statement s (in_head s [] (in_tail c (s ∷ []) lt)) h.1)
  if_stands (c ∷ s ∷ o ∷ []) lt h =
      let more : In (s ∷ o ∷ []) = in_tail c (s ∷ o ∷ []) lt in
      (is_condition c (in_head c (s ∷ o ∷ []) lt) h.0, is_statement s (in_head s (o ∷ []) more) h.1, is_statement o (in_head o [] (in_tail s (o ∷ []) more)) h.2)
  if_stands [] lt h = absurd h
  if_stands (a ∷ []) lt h = absurd h
  if_stands (a ∷ b ∷ c ∷ d ∷ is) lt h = absurd h

  return_stands : (is : List ℕ) → In is → ReturnOver (list_of (cores_at u is)) → ReturnRow (trees_of u) is
  return_stands [] lt h = tt
  return_stands (v ∷ []) lt h = sort_of_node v (in_head v [] lt) ValueNode h
  return_stands (a ∷ b ∷ is) lt h = absurd h

  labelled_stands : (is : List ℕ) → In is → One IsStatementCore (list_of (cores_at u is)) → LabelledRow (trees_of u) is
  labelled_stands [] lt h = absurd h
  labelled_stands (s ∷ []) lt h = is_statement s (in_head s [] lt) h
  labelled_stands (a ∷ b ∷ is) lt h = absurd h

  lone_stands : (is : List ℕ) → IsEmpty (list_of (cores_at u is)) → LoneRow is
  lone_stands [] h = tt
  lone_stands (i ∷ is) h = absurd h

  for_stands : (es : List ℕ) (condition after : Bool) (is : List ℕ) → In is → AreForParts es condition after (reverse (list_of (cores_at u is))) → ForRow (trees_of u) es condition after is
  for_stands es condition after is lt h = for_parts_at es condition after (reverse is) (in_reversed is lt) (subst (λ (cs : List Core). AreForParts es condition after cs) (reversed_is u is) h)

  variadic_at : (o : Option Entity) → IsVariadicOf (entity_type (trees_of u) o) → IsVariadicIn (trees_of u) o
  variadic_at None h = absurd h
  variadic_at (Some x) h = h

  row_stands : (kind : NodeKind) (place : Place) (t : Ctype) (is : List ℕ) → In is → Sound w entities (Of kind place t (cores_at u is)) → RowOf (trees_of u) kind t is
  row_stands (Named e) place t [] lt h = (typed_at e t h.0.0, h.0.1)
  row_stands (Named e) place t (i ∷ is) lt h = absurd h.0
  row_stands (Text bytes) place t [] lt h = h.0
  row_stands (Text bytes) place t (i ∷ is) lt h = absurd h.0
  row_stands (Literal e) place t [] lt h = absurd h.0
  row_stands (Literal e) place t (a ∷ []) lt h = let la : a < length u.nodes.items = in_head a [] lt in (backs.typed e ∙ h.0.0, initialises_at e a la h.0.1)
  row_stands (Literal e) place t (a ∷ b ∷ is) lt h = absurd h.0
  row_stands (FunctionName e) place t [] lt h = (typed_at e t h.0.0, h.0.1)
  row_stands (FunctionName e) place t (i ∷ is) lt h = absurd h.0
  row_stands Deref place t [] lt h = absurd h.0
  row_stands Deref place t (a ∷ []) lt h = let la : a < length u.nodes.items = in_head a [] lt in (is_value (PointerTo t) a la h.0.0, h.0.1)
  row_stands Deref place t (a ∷ b ∷ is) lt h = absurd h.0
  row_stands (Member k) place t [] lt h = absurd h.0
  row_stands (Member k) place t (a ∷ []) lt h = let la : a < length u.nodes.items = in_head a [] lt in (sort_of_node a la PlaceNode h.0.0, by_type (λ (q : Ctype). IsMemberOf u.types q k t) a la (is_member (ctype_of (core_at u a)) k t h.0.1), h.0.2)
  row_stands (Member k) place t (a ∷ b ∷ is) lt h = absurd h.0
  row_stands (Number n) place t is lt h = constant_stands (Number n) place t is tt lt h
  row_stands NullValue place t [] lt h = h.0
  row_stands NullValue place t (i ∷ is) lt h = absurd h.0
  row_stands Fetch place t [] lt h = absurd h.0
  row_stands Fetch place t (a ∷ []) lt h = let la : a < length u.nodes.items = in_head a [] lt in (is_place t a la h.0.0, h.0.1)
  row_stands Fetch place t (a ∷ b ∷ is) lt h = absurd h.0
  row_stands AddressOf place t [] lt h = absurd h.0
  row_stands AddressOf place t (a ∷ []) lt h = let la : a < length u.nodes.items = in_head a [] lt in (sort_of_node a la PlaceNode h.0.0, h.0.1 ∙ ap PointerTo (sym (type_of_node a la)), address_at a la h.3.0 h.0.2)
  row_stands AddressOf place t (a ∷ b ∷ is) lt h = absurd h.0
  row_stands Decay place t [] lt h = absurd h.0
  row_stands Decay place t (a ∷ []) lt h = let la : a < length u.nodes.items = in_head a [] lt in (sort_of_node a la PlaceNode h.0.0, by_type (λ (q : Ctype). decayed q ≡ Some t) a la h.0.1)
  row_stands Decay place t (a ∷ b ∷ is) lt h = absurd h.0
  row_stands (PointerAdd minus) place t [] lt h = absurd h.0
  row_stands (PointerAdd minus) place t (a ∷ []) lt h = absurd h.0
  row_stands (PointerAdd minus) place t (a ∷ b ∷ []) lt h =
      let la : a < length u.nodes.items = in_head a (b ∷ []) lt in
      let lb : b < length u.nodes.items = in_head b [] (in_tail a (b ∷ []) lt) in
      (is_value t a la h.0.0, points_to t h.0.1, is_numeral b lb h.0.2)
  row_stands (PointerAdd minus) place t (a ∷ b ∷ c ∷ is) lt h = absurd h.0
  row_stands Convert place t is lt h = constant_stands Convert place t is tt lt h
  row_stands Upcast place t [] lt h = absurd h.0
  row_stands Upcast place t (a ∷ []) lt h = let la : a < length u.nodes.items = in_head a [] lt in (sort_of_node a la ValueNode h.0.0, by_type (λ (q : Ctype). IsFirstOf u.types q t) a la (is_first (ctype_of (core_at u a)) t h.0.1))
  row_stands Upcast place t (a ∷ b ∷ is) lt h = absurd h.0
  row_stands Assign place t [] lt h = absurd h.0
  row_stands Assign place t (a ∷ []) lt h = absurd h.0
  row_stands Assign place t (a ∷ b ∷ []) lt h =
      let la : a < length u.nodes.items = in_head a (b ∷ []) lt in
      let lb : b < length u.nodes.items = in_head b [] (in_tail a (b ∷ []) lt) in
      (is_place t a la h.0.0, is_value t b lb h.0.1, h.0.2)
  row_stands Assign place t (a ∷ b ∷ c ∷ is) lt h = absurd h.0
  row_stands (Update op post) place t [] lt h = absurd h.0
  row_stands (Update op post) place t (a ∷ []) lt h = absurd h.0
  row_stands (Update op post) place t (a ∷ b ∷ []) lt h =
      let la : a < length u.nodes.items = in_head a (b ∷ []) lt in
      let lb : b < length u.nodes.items = in_head b [] (in_tail a (b ∷ []) lt) in
      (is_place t a la h.0.0, is_numeral b lb h.0.1, h.0.2)
  row_stands (Update op post) place t (a ∷ b ∷ c ∷ is) lt h = absurd h.0
  row_stands Choose place t is lt h = constant_stands Choose place t is tt lt h
  row_stands Sequence place t [] lt h = absurd h.0
  row_stands Sequence place t (a ∷ []) lt h = absurd h.0
  row_stands Sequence place t (a ∷ b ∷ []) lt h =
      let la : a < length u.nodes.items = in_head a (b ∷ []) lt in
      let lb : b < length u.nodes.items = in_head b [] (in_tail a (b ∷ []) lt) in
      (sort_of_node a la ValueNode h.0.0, is_value t b lb h.0.1)
  row_stands Sequence place t (a ∷ b ∷ c ∷ is) lt h = absurd h.0
  row_stands CallNode place t [] lt h = absurd h.0
  row_stands CallNode place t (a ∷ is) lt h =
      let la : a < length u.nodes.items = in_head a is lt in
      (sort_of_node a la ValueNode h.0.0, by_type (λ (q : Ctype). Calls (trees_of u) q t is) a la (calls_at (ctype_of (core_at u a)) t is (in_tail a is lt) h.0.1))
  row_stands (MemberOfValue k) place t [] lt h = absurd h.0
  row_stands (MemberOfValue k) place t (a ∷ []) lt h = let la : a < length u.nodes.items = in_head a [] lt in (sort_of_node a la ValueNode h.0.0, by_type (λ (q : Ctype). IsMemberOf u.types q k t) a la (is_member (ctype_of (core_at u a)) k t h.0.1), h.0.2)
  row_stands (MemberOfValue k) place t (a ∷ b ∷ is) lt h = absurd h.0
  row_stands (Arith op) place t is lt h = constant_stands (Arith op) place t is tt lt h
  row_stands (VarArgs e) place t [] lt h = (h.0.1, variadic_at (slice_get u.entities.items e) (subst IsVariadicOf (sym (backs.typed e)) h.0.2))
  row_stands (VarArgs e) place t (i ∷ is) lt h = absurd h.0.0
  row_stands NextArg place t [] lt h = absurd h.0
  row_stands NextArg place t (a ∷ []) lt h =
      let la : a < length u.nodes.items = in_head a [] lt in
      ((sort_of_node a la PlaceNode h.0.0, by_type IsList a la h.0.1), h.0.2)
  row_stands NextArg place t (a ∷ b ∷ is) lt h = absurd h.0
  row_stands Expression place t [] lt h = absurd h.0
  row_stands Expression place t (a ∷ []) lt h = let la : a < length u.nodes.items = in_head a [] lt in sort_of_node a la ValueNode h.0
  row_stands Expression place t (a ∷ b ∷ is) lt h = absurd h.0
  row_stands (Block es) place t is lt h = all_at IsStatementCore (IsStatement (trees_of u)) is_statement is lt h.0
  row_stands If place t is lt h = if_stands is lt h.0
  row_stands While place t [] lt h = absurd h.0
  row_stands While place t (a ∷ []) lt h = absurd h.0
  row_stands While place t (a ∷ b ∷ []) lt h =
      let la : a < length u.nodes.items = in_head a (b ∷ []) lt in
      let lb : b < length u.nodes.items = in_head b [] (in_tail a (b ∷ []) lt) in
      (is_condition a la h.0.0, is_statement b lb h.0.1)
  row_stands While place t (a ∷ b ∷ c ∷ is) lt h = absurd h.0
  row_stands DoWhile place t [] lt h = absurd h.0
  row_stands DoWhile place t (a ∷ []) lt h = absurd h.0
  row_stands DoWhile place t (a ∷ b ∷ []) lt h =
      let la : a < length u.nodes.items = in_head a (b ∷ []) lt in
      let lb : b < length u.nodes.items = in_head b [] (in_tail a (b ∷ []) lt) in
      (is_condition b lb h.0.0, is_statement a la h.0.1)
  row_stands DoWhile place t (a ∷ b ∷ c ∷ is) lt h = absurd h.0
  row_stands (For es condition after) place t is lt h = for_stands es condition after is lt h.0
  row_stands Switch place t [] lt h = absurd h.0
  row_stands Switch place t (a ∷ []) lt h = absurd h.0
  row_stands Switch place t (a ∷ b ∷ []) lt h =
      let la : a < length u.nodes.items = in_head a (b ∷ []) lt in
      let lb : b < length u.nodes.items = in_head b [] (in_tail a (b ∷ []) lt) in
      (is_numeral a la h.0.0, is_statement b lb h.0.1)
  row_stands Switch place t (a ∷ b ∷ c ∷ is) lt h = absurd h.0
  row_stands (Case n) place t is lt h = labelled_stands is lt h.0
  row_stands Default place t is lt h = labelled_stands is lt h.0
  row_stands (Label name) place t is lt h = labelled_stands is lt h.0
  row_stands (Goto name) place t is lt h = lone_stands is h.0
  row_stands Break place t is lt h = lone_stands is h.0
  row_stands Continue place t is lt h = lone_stands is h.0
  row_stands Skip place t is lt h = lone_stands is h.0
  row_stands Return place t is lt h = return_stands is lt h.0
  row_stands (Initialise e paths) place t is lt h = subst (λ (o : Option Ctype). InitialValues (trees_of u) o paths is) (sym (backs.typed e)) (initial_values (entities e) paths is lt h.0)

  pub node_stands : (i : ℕ) (n : Node) → slice_get u.nodes.items i ≡ Some n → Sound w entities (core_at u i) → InRow (trees_of u) n
  node_stands i n at h =
      row_stands n.kind n.place (type_of u.types n.ty.0) n.children (children_in i n at (slice_get_within u.nodes.items i n at)) (subst (λ (c : Core). Sound w entities c) (core_is u ready i n at) h)
