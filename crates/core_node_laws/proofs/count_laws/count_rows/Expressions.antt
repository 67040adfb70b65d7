-- The nodes of expressions.
use Rattle.std.proofs.Common.{arith, ◌==◌, ℕ, ◌+◌, ◌≤◌, ◌≡◌, refl, sym, Bool, true, false, not, List, [], ◌∷◌, Option, Some, None}
use Rattle.std.specs.Prelude.{is_some, is_none, codes, if◌then◌else◌}
use Rattle.std.specs.Str.{bytes_eq}
use Rattle.pta_base.specs.declared.kind.Kind.TheVariants.{Operand}
use Rattle.pta_base.specs.declared.place.Place.{Place}
use Rattle.c_lexer.specs.declared.Token.{Token}
use Rattle.c_lexer.specs.declared.TokenKind.{TokenKind}
use Rattle.c_lexer.specs.declared.TokenKind.TheVariants.{Identifier, Keyword, Punctuator, Integer, Character, Text, End}
use Rattle.core_tree.specs.declared.node.Op.TheVariants.{Plus, Minus, Complement}
use Rattle.core_tree.specs.declared.node.NodeKind.TheVariants.{CallNode, Text as TextNode}
use Rattle.c_grammar.specs.Productions.{p_type_name, p_cast}
use Rattle.c_grammar.specs.Words.{word_sizeof, word_alignof, sign_left_bracket, sign_left_parenthesis, sign_dot, sign_arrow, sign_increment, sign_decrement, sign_ampersand, sign_star, sign_plus, sign_minus, sign_tilde, sign_assign}
use Rattle.c_consts.specs.Core.{Core, ctype_of, core_sort}
use Rattle.c_senses.specs.Tree.{Source, is_a, is_leaf, token_at, kind_of_token, sign_of_kind, place_at, spelling_at, kind_at, sign_at, last_where, all_where, left_of}
use Rattle.c_senses.specs.Given.{Given, Fits, Refuses, ◌>>=◌}
use Rattle.c_senses.specs.World.{World}
use Rattle.c_senses.specs.Conversions.{operand_of, value_of}
use Rattle.c_senses.specs.Operators.{between, operator, number_core, choice_row}
use Rattle.c_senses.specs.Objects.{name_row, index_row, member_row, arrow_row, assign_row, assigned_op, update_row, call_row, cast_row, size_row, align_row, named_width, sized_expression, next_row, end_row}
use Rattle.c_senses.specs.Sense.{Sense, IsCore, core_of, value_in, type_of_sense, last_of}
use Rattle.c_senses.specs.Expressions.{as_sense, indexed_core, is_operator, value_core, operator_core, passed, string_bytes, named_of, step, chained, is_single, binary_row, primary_of, primary_row, indexed, dotted, pointed, all_cores, called, counted_after, post_of, post_signed, post_row, prefixed_core, prefixed, sized, aligned, worded, unary_of, unary_row, cast_over, cast_last, cast_of, cast_row_of, conditional_row, assigned, assigned_by, assignment_row, two_lists, list_core, list_row, named_primary}
use Rattle.core_node_laws.specs.count_laws.count_rows.Counts.{Count, count_in, count_all, count_of}
use Rattle.core_node_laws.specs.count_laws.count_rows.Covers.{IsIn}
use Rattle.core_node_laws.proofs.count_laws.count_rows.Giving.{Gives, then_gives, after, if_given, some_given, if_holds}
use Rattle.core_node_laws.proofs.count_laws.count_rows.Lists.{in_head, in_tail, last_in, last_where_in, N, T, all_where_less}
use Rattle.core_node_laws.proofs.count_laws.count_rows.Values.{AtMost, value_kept}
use Rattle.core_node_laws.proofs.count_laws.count_rows.Operators.{Together, value_less, between_kept, promoted_kept, not_kept, choice_kept, name_kept, address_kept, indirection_kept, index_kept, member_kept, arrow_kept, assign_kept, update_kept, call_kept, cast_kept, size_kept, align_kept, start_kept, copy_kept, next_kept, end_kept}

token_there : (o : Option Token) (k : TokenKind) → kind_of_token o ≡ k → (k ≡ End → ⊥) → is_some o ≡ true
token_there None k e never = absurd (never (sym e))
token_there (Some t) k e never = refl

-- a sense has so many nodes at most
abbrev pub SenseMost : Count → ℕ → Sense → Type 0
SenseMost n k x = count_of n x ≤ k

abbrev pub AllMost : Count → ℕ → List Core → Type 0
AllMost n k cs = count_all n cs ≤ k

module _ (n : Count) (w : World) where
  pub as_sense_kept : (k : ℕ) (g : Given Core) → Gives (AtMost n k) g → Gives (SenseMost n k) (as_sense g)
  as_sense_kept k (Fits c) h = h
  as_sense_kept k (Refuses kind node) h = tt

  pub core_less : (at : ℕ) (x : Sense) → Gives (AtMost n (count_of n x)) (core_of at x)
  core_less at (IsCore c) = omega arith
  core_less at x = tt

  pub value_in_less : (at : ℕ) (x : Sense) → Gives (AtMost n (count_of n x)) (value_in w at x)
  value_in_less at x = then_gives (AtMost n (count_of n x)) (AtMost n (count_of n x)) (core_of at x) (value_of w at) (core_less at x) (λ c k. value_kept n (count_of n x) w at c k)

  indexed_core_kept : (m : ℕ) (place : Place) (at : ℕ) (x y : Sense) → count_of n x + count_of n y ≤ m → Gives (AtMost n m) (indexed_core w place at x y)
  indexed_core_kept m place at x y h =
      then_gives (AtMost n (count_of n x)) (AtMost n m) (value_in w at x) (λ a. value_in w at y >>= (λ b. index_row w place at a b (operand_of (ctype_of a)) (operand_of (ctype_of b)))) (value_in_less at x)
      (λ a l.
      then_gives (AtMost n (count_of n y)) (AtMost n m) (value_in w at y) (λ b. index_row w place at a b (operand_of (ctype_of a)) (operand_of (ctype_of b))) (value_in_less at y)
      (λ b p. index_kept n m w place at a b (operand_of (ctype_of a)) (operand_of (ctype_of b)) (omega (arith, h, l, p))))

  value_core_kept : (m : ℕ) (place : Place) (at : ℕ) (v : Core) (sign : ℕ) → AtMost n m v → Gives (AtMost n m) (value_core w place at v sign)
  value_core_kept m place at v sign h =
      if_holds (Gives (AtMost n m)) (sign == sign_star) _ _ (indirection_kept n m place at v (operand_of (ctype_of v)) h)
      (if_holds (Gives (AtMost n m)) (sign == sign_plus) _ _ (promoted_kept n m w Plus place at v (operand_of (ctype_of v)) h)
      (if_holds (Gives (AtMost n m)) (sign == sign_minus) _ _ (promoted_kept n m w Minus place at v (operand_of (ctype_of v)) h)
      (if_holds (Gives (AtMost n m)) (sign == sign_tilde) _ _ (promoted_kept n m w Complement place at v (operand_of (ctype_of v)) h) (not_kept n m place at v h))))

  operator_core_kept : (m : ℕ) (place : Place) (at : ℕ) (x : Core) (sign : ℕ) → AtMost n m x → Gives (AtMost n m) (operator_core w place at x sign)
  operator_core_kept m place at x sign h =
      if_holds (Gives (AtMost n m)) (sign == sign_ampersand) _ _ (address_kept n m w place at x (core_sort x) h)
      (then_gives (AtMost n m) (AtMost n m) (value_of w at x) (λ v. value_core w place at v sign) (value_kept n m w at x h) (λ v k. value_core_kept m place at v sign k))

module _ (n : Count) (w : World) (s : Source) (sense : ℕ → Sense) where
  -- each of these senses has so many nodes at most
  abbrev pub EachMost : ℕ → List ℕ → Type 0
  EachMost m list = (c : ℕ) → IsIn list c → N n sense c ≤ m

  -- operators between operands
  step_kept : (m named o : ℕ) (a b : Core) (sign : Option ℕ) → Together n m a b → Gives (AtMost n m) (step w s sense (between w) named o a b sign)
  step_kept m named o a b None h = tt
  step_kept m named o a b (Some sign) h =
      then_gives (AtMost n (count_in n a)) (AtMost n m) (value_of w named a) (λ x. value_of w named b >>= between w (operator sign) (place_at s o) named x) (value_less n w named a)
      (λ x l.
      then_gives (AtMost n (count_in n b)) (AtMost n m) (value_of w named b) (between w (operator sign) (place_at s o) named x) (value_less n w named b)
      (λ y p. between_kept n m w (operator sign) (place_at s o) named x y (omega (arith, h, l, p))))

  chained_kept : (m k at : ℕ) (single : Bool) (left : Core) (list : List ℕ) → AtMost n k left → k + T n sense list ≤ m → Gives (AtMost n m) (chained w s sense (between w) at single left list)
  chained_kept m k at single left [] h sum = omega (arith, h, sum)
  chained_kept m k at single left (o ∷ []) h sum = tt
  chained_kept m k at single left (o ∷ c ∷ rest) h sum =
      let named : ℕ = named_of w s sense (between w) at o single in
      let two : ℕ = k + N n sense c in
      then_gives (AtMost n (N n sense c)) (AtMost n m) (core_of named (sense c)) (λ b. step w s sense (between w) named o left b (sign_at s o) >>= (λ x. chained w s sense (between w) at single x rest)) (core_less n w named (sense c))
      (λ b l.
      then_gives (AtMost n two) (AtMost n m) (step w s sense (between w) named o left b (sign_at s o)) (λ x. chained w s sense (between w) at single x rest) (step_kept two named o left b (sign_at s o) (omega (arith, h, l)))
      (λ x q. chained_kept m two at single x rest q (omega (arith, sum))))

  pub binary_kept : (m at : ℕ) (children : List ℕ) → T n sense children ≤ m → Gives (SenseMost n m) (binary_row w s sense (between w) at children)
  binary_kept m at [] sum = tt
  binary_kept m at (first ∷ []) sum = omega (arith, sum)
  binary_kept m at (first ∷ o ∷ rest) sum =
      as_sense_kept n w m (core_of at (sense first) >>= (λ a. chained w s sense (between w) at (is_single w s sense (between w) (o ∷ rest)) a (o ∷ rest)))
      (then_gives (AtMost n (N n sense first)) (AtMost n m) (core_of at (sense first)) (λ a. chained w s sense (between w) at (is_single w s sense (between w) (o ∷ rest)) a (o ∷ rest)) (core_less n w at (sense first))
      (λ a h. chained_kept m (N n sense first) at (is_single w s sense (between w) (o ∷ rest)) a (o ∷ rest) h sum))

  -- operations on variadic lists
  two_lists_kept : (m at : ℕ) (place : Place) (name : List ℕ) (a b : Core) → Together n m a b → Gives (AtMost n m) (two_lists w s sense at place name a b)
  two_lists_kept m at place name a b h =
      if_holds (Gives (AtMost n m)) (bytes_eq name (codes "__builtin_va_copy")) _ _ (copy_kept n m w place at a b h) (start_kept n m w place at a b (omega (arith, h)))

  list_core_kept : (m at : ℕ) (place : Place) (name : List ℕ) (parts : List ℕ) → T n sense parts ≤ m → Gives (AtMost n m) (list_core w s sense at place name parts)
  list_core_kept m at place name [] h = tt
  list_core_kept m at place name (a ∷ []) h =
      then_gives (AtMost n (N n sense a)) (AtMost n m) (core_of at (sense a)) (end_row w place at) (core_less n w at (sense a)) (λ x k. end_kept n m w place at x (omega (arith, h, k)))
  list_core_kept m at place name (a ∷ b ∷ []) h =
      if_holds (Gives (AtMost n m)) (is_a s p_type_name b) _ _
      (then_gives (AtMost n (N n sense a)) (AtMost n m) (core_of at (sense a)) (λ x. type_of_sense at (sense b) >>= next_row place at x) (core_less n w at (sense a))
      (λ x k. after (AtMost n m) (type_of_sense at (sense b)) (next_row place at x) (λ t. next_kept n m place at x t (omega (arith, h, k)))))
      (then_gives (AtMost n (N n sense a)) (AtMost n m) (core_of at (sense a)) (λ x. core_of at (sense b) >>= two_lists w s sense at place name x) (core_less n w at (sense a))
      (λ x k.
      then_gives (AtMost n (N n sense b)) (AtMost n m) (core_of at (sense b)) (two_lists w s sense at place name x) (core_less n w at (sense b))
      (λ y l. two_lists_kept m at place name x y (omega (arith, h, k, l)))))
  list_core_kept m at place name (a ∷ b ∷ c ∷ rest) h = tt

  list_row_kept : (m at first : ℕ) (rest : List ℕ) → T n sense rest ≤ m → Gives (SenseMost n m) (list_row w s sense at first rest)
  list_row_kept m at first rest h =
      let list : List ℕ = all_where (λ c. not (is_leaf s c)) rest in
      let less = all_where_less n sense (λ c. not (is_leaf s c)) rest in
      as_sense_kept n w m (list_core w s sense at (place_at s first) (spelling_at s first) list) (list_core_kept m at (place_at s first) (spelling_at s first) list (omega (arith, h, less)))

  named_kept : (m at first : ℕ) (rest : List ℕ) → ((bytes : List ℕ) → n.weight (TextNode bytes) (place_at s first) ≤ m) → T n sense rest ≤ m → Gives (SenseMost n m) (named_primary w s sense at first rest)
  named_kept m at first [] p h = as_sense_kept n w m (name_row w (place_at s first) at (w.meaning first)) (name_kept n m w (place_at s first) at (w.meaning first) p)
  named_kept m at first (c ∷ rest) p h = list_row_kept m at first (c ∷ rest) h

  enclosed_kept : (m at : ℕ) (children : List ℕ) → T n sense children ≤ m → Gives (SenseMost n m) (passed sense at children)
  enclosed_kept m at [] h = tt
  enclosed_kept m at (c ∷ rest) h = omega (arith, h)

  primary_of_kept : (m at first : ℕ) (rest : List ℕ) (kind : TokenKind) → kind_at s first ≡ kind → (is_some (token_at s first) ≡ true → (bytes : List ℕ) → n.weight (TextNode bytes) (place_at s first) ≤ m) → T n sense rest ≤ m → Gives (SenseMost n m) (primary_of w s sense at first rest kind)
  primary_of_kept m at first rest Identifier e p h = named_kept m at first rest (p (token_there (token_at s first) Identifier e (λ f. absurd (cc)))) h
  primary_of_kept m at first rest Integer e p h = omega arith
  primary_of_kept m at first rest Character e p h = omega arith
  primary_of_kept m at first rest Text e p h = let q = p (token_there (token_at s first) Text e (λ f. absurd (cc))) (string_bytes w s sense (first ∷ rest)) in omega (arith, q)
  primary_of_kept m at first rest (Punctuator sign) e p h = enclosed_kept m at rest h
  primary_of_kept m at first rest kind e p h = tt

  pub primary_kept : (m at : ℕ) (children : List ℕ) → ((first : ℕ) (rest : List ℕ) (bytes : List ℕ) → children ≡ first ∷ rest → is_some (token_at s first) ≡ true → n.weight (TextNode bytes) (place_at s first) ≤ m) → T n sense children ≤ m → Gives (SenseMost n m) (primary_row w s sense at children)
  primary_kept m at [] p h = tt
  primary_kept m at (first ∷ rest) p h = primary_of_kept m at first rest (kind_at s first) refl (λ there bytes. p first rest bytes refl there) (omega (arith, h))

  -- what follows a primary
  indexed_kept : (m : ℕ) (place : Place) (at : ℕ) (left : Sense) (list : List ℕ) → count_of n left + T n sense list ≤ m → Gives (SenseMost n m) (indexed w s sense place at left list)
  indexed_kept m place at left [] h = tt
  indexed_kept m place at left (e ∷ rest) h = as_sense_kept n w m (indexed_core w place at left (sense e)) (indexed_core_kept n w m place at left (sense e) (omega (arith, h)))

  dotted_kept : (m : ℕ) (place : Place) (at : ℕ) (left : Sense) (list : List ℕ) → count_of n left ≤ m → Gives (SenseMost n m) (dotted w s sense place at left list)
  dotted_kept m place at left [] h = tt
  dotted_kept m place at left (name ∷ rest) h =
      as_sense_kept n w m (core_of at left >>= member_row w place at (spelling_at s name))
      (then_gives (AtMost n (count_of n left)) (AtMost n m) (core_of at left) (member_row w place at (spelling_at s name)) (core_less n w at left) (λ c k. member_kept n m w place at (spelling_at s name) c (omega (arith, h, k))))

  pointed_kept : (m : ℕ) (place : Place) (at : ℕ) (left : Sense) (list : List ℕ) → count_of n left ≤ m → Gives (SenseMost n m) (pointed w s sense place at left list)
  pointed_kept m place at left [] h = tt
  pointed_kept m place at left (name ∷ rest) h =
      as_sense_kept n w m (value_in w at left >>= (λ v. arrow_row w place at (spelling_at s name) v (operand_of (ctype_of v))))
      (then_gives (AtMost n (count_of n left)) (AtMost n m) (value_in w at left) (λ v. arrow_row w place at (spelling_at s name) v (operand_of (ctype_of v))) (value_in_less n w at left)
      (λ v k. arrow_kept n m w place at (spelling_at s name) v (operand_of (ctype_of v)) (omega (arith, h, k))))

  all_cores_kept : (at : ℕ) (list : List ℕ) → Gives (AllMost n (T n sense list)) (all_cores w s sense at list)
  all_cores_kept at [] = omega arith
  all_cores_kept at (c ∷ rest) =
      let all : ℕ = T n sense (c ∷ rest) in
      then_gives (AtMost n (N n sense c)) (AllMost n all) (core_of at (sense c)) (λ x. all_cores w s sense at rest >>= (λ more. Fits (x ∷ more))) (core_less n w at (sense c))
      (λ x h. then_gives (AllMost n (T n sense rest)) (AllMost n all) (all_cores w s sense at rest) (λ more. Fits (x ∷ more)) (all_cores_kept at rest) (λ more k. omega (arith, h, k)))

  called_kept : (m : ℕ) (place : Place) (at : ℕ) (left : Sense) (rest : List ℕ) → n.weight CallNode place + (count_of n left + T n sense rest) ≤ m → Gives (SenseMost n m) (called w s sense place at left rest)
  called_kept m place at left rest h =
      let list : List ℕ = all_where (λ c. not (is_leaf s c)) rest in
      let less = all_where_less n sense (λ c. not (is_leaf s c)) rest in
      as_sense_kept n w m (core_of at left >>= (λ f. all_cores w s sense at list >>= call_row w place at f))
      (then_gives (AtMost n (count_of n left)) (AtMost n m) (core_of at left) (λ f. all_cores w s sense at list >>= call_row w place at f) (core_less n w at left)
      (λ f k. then_gives (AllMost n (T n sense list)) (AtMost n m) (all_cores w s sense at list) (call_row w place at f) (all_cores_kept at list) (λ args l. call_kept n w place at f args m (omega (arith, h, k, l, less)))))

  counted_kept : (m : ℕ) (post : Bool) (place : Place) (at : ℕ) (q : Core) (down : Bool) → AtMost n m q → Gives (AtMost n m) (update_row w (if down then Minus else Plus) post place at q (number_core 1 place))
  counted_kept m post place at q down h = update_kept n m w (if down then Minus else Plus) post place at q (number_core 1 place) (omega (arith, h))

  counted_after_kept : (m : ℕ) (place : Place) (at : ℕ) (left : Sense) (down : Bool) → count_of n left ≤ m → Gives (SenseMost n m) (counted_after w s sense place at left down)
  counted_after_kept m place at left down h =
      as_sense_kept n w m (core_of at left >>= (λ q. update_row w (if down then Minus else Plus) true place at q (number_core 1 place)))
      (then_gives (AtMost n (count_of n left)) (AtMost n m) (core_of at left) (λ q. update_row w (if down then Minus else Plus) true place at q (number_core 1 place)) (core_less n w at left) (λ q k. counted_kept m true place at q down (omega (arith, h, k))))

  post_of_kept : (m : ℕ) (place : Place) (at : ℕ) (left : Sense) (rest : List ℕ) (sign : ℕ) → n.weight CallNode place + (count_of n left + T n sense rest) ≤ m → Gives (SenseMost n m) (post_of w s sense place at left rest sign)
  post_of_kept m place at left rest sign h =
      let one : count_of n left ≤ m = omega (arith, h) in
      if_holds (Gives (SenseMost n m)) (sign == sign_left_bracket) _ _ (indexed_kept m place at left rest (omega (arith, h)))
      (if_holds (Gives (SenseMost n m)) (sign == sign_left_parenthesis) _ _ (called_kept m place at left rest h)
      (if_holds (Gives (SenseMost n m)) (sign == sign_dot) _ _ (dotted_kept m place at left rest one)
      (if_holds (Gives (SenseMost n m)) (sign == sign_arrow) _ _ (pointed_kept m place at left rest one)
      (if_holds (Gives (SenseMost n m)) (sign == sign_increment) _ _ (counted_after_kept m place at left false one)
      (if_holds (Gives (SenseMost n m)) (sign == sign_decrement) _ (Refuses Operand at) (counted_after_kept m place at left true one) tt)))))

  post_signed_kept : (m : ℕ) (place : Place) (at : ℕ) (left : Sense) (rest : List ℕ) (sign : Option ℕ) → (is_some sign ≡ true → n.weight CallNode place + (count_of n left + T n sense rest) ≤ m) → Gives (SenseMost n m) (post_signed w s sense place at left rest sign)
  post_signed_kept m place at left rest None h = tt
  post_signed_kept m place at left rest (Some sign) h = post_of_kept m place at left rest sign (h refl)

  signed_there : (o : Option Token) → is_some (sign_of_kind (kind_of_token o)) ≡ true → is_some o ≡ true
  signed_there None e = cc
  signed_there (Some t) e = refl

  pub post_kept : (m at : ℕ) (children : List ℕ) → ((first : ℕ) (rest : List ℕ) → children ≡ first ∷ rest → is_some (token_at s first) ≡ true → n.weight CallNode (place_at s first) + (N n sense (left_of s first) + T n sense rest) ≤ m)
      → Gives (SenseMost n m) (post_row w s sense at children)
  post_kept m at [] h = tt
  post_kept m at (first ∷ rest) h = post_signed_kept m (place_at s first) at (sense (left_of s first)) rest (sign_at s first) (λ e. h first rest refl (signed_there (token_at s first) e))

  -- operators before their operands
  prefixed_core_kept : (m : ℕ) (place : Place) (at : ℕ) (x : Core) (sign : ℕ) → AtMost n m x → Gives (AtMost n m) (prefixed_core w s sense place at x sign)
  prefixed_core_kept m place at x sign h =
      if_holds (Gives (AtMost n m)) (is_operator sign) _ _ (operator_core_kept n w m place at x sign h)
      (if_holds (Gives (AtMost n m)) (sign == sign_increment) _ _ (counted_kept m false place at x false h)
      (if_holds (Gives (AtMost n m)) (sign == sign_decrement) _ (Refuses Operand at) (counted_kept m false place at x true h) tt))

  prefixed_kept : (m : ℕ) (place : Place) (at sign : ℕ) (list : List ℕ) → EachMost m list → Gives (SenseMost n m) (prefixed w s sense place at sign list)
  prefixed_kept m place at sign [] h = tt
  prefixed_kept m place at sign (operand ∷ rest) h =
      let one = h operand (in_head operand rest) in
      as_sense_kept n w m (core_of at (sense operand) >>= (λ x. prefixed_core w s sense place at x sign))
      (then_gives (AtMost n (N n sense operand)) (AtMost n m) (core_of at (sense operand)) (λ x. prefixed_core w s sense place at x sign) (core_less n w at (sense operand)) (λ x k. prefixed_core_kept m place at x sign (omega (arith, one, k))))

  sized_kept : (m : ℕ) (place : Place) (at : ℕ) (o : Option ℕ) → Gives (SenseMost n m) (sized w s sense place at o)
  sized_kept m place at None = tt
  sized_kept m place at (Some c) =
      if_holds (Gives (SenseMost n m)) (is_a s p_type_name c) _ _
      (as_sense_kept n w m (type_of_sense at (sense c) >>= size_row w place at) (after (AtMost n m) (type_of_sense at (sense c)) (size_row w place at) (λ t. size_kept n m w place at t)))
      (as_sense_kept n w m (core_of at (sense c) >>= sized_expression w place at)
      (after (AtMost n m) (core_of at (sense c)) (sized_expression w place at) (λ x. if_given (AtMost n m) (is_none (named_width w x)) Operand at (size_row w place at (ctype_of x)) (size_kept n m w place at (ctype_of x)))))

  aligned_kept : (m : ℕ) (place : Place) (at : ℕ) (o : Option ℕ) → Gives (SenseMost n m) (aligned w s sense place at o)
  aligned_kept m place at None = tt
  aligned_kept m place at (Some c) =
      as_sense_kept n w m (type_of_sense at (sense c) >>= align_row w place at) (after (AtMost n m) (type_of_sense at (sense c)) (align_row w place at) (λ t. align_kept n m w place at t))

  worded_kept : (m : ℕ) (place : Place) (at : ℕ) (rest : List ℕ) (word : ℕ) → Gives (SenseMost n m) (worded w s sense place at rest word)
  worded_kept m place at rest word =
      if_holds (Gives (SenseMost n m)) (word == word_sizeof) _ _ (sized_kept m place at (last_where (λ c. not (is_leaf s c)) rest))
      (if_holds (Gives (SenseMost n m)) (word == word_alignof) _ (Refuses Operand at) (aligned_kept m place at (last_where (λ c. not (is_leaf s c)) rest)) tt)

  unary_of_kept : (m at first : ℕ) (rest : List ℕ) (leafy : Bool) (kind : TokenKind) → EachMost m (first ∷ rest) → Gives (SenseMost n m) (unary_of w s sense at first rest leafy kind)
  unary_of_kept m at first rest false kind h = h (last_of first rest) (last_in first rest)
  unary_of_kept m at first rest true (Punctuator p) h = prefixed_kept m (place_at s first) at p rest (λ c i. h c (in_tail first c rest i))
  unary_of_kept m at first rest true (Keyword k) h = worded_kept m (place_at s first) at rest k
  unary_of_kept m at first rest true kind h = tt

  pub unary_kept : (m at : ℕ) (children : List ℕ) → EachMost m children → Gives (SenseMost n m) (unary_row w s sense at children)
  unary_kept m at [] h = tt
  unary_kept m at (first ∷ rest) h = unary_of_kept m at first rest (is_leaf s first) (kind_at s first) h

  -- casts
  cast_with : (m at c : ℕ) (rest : List ℕ) → N n sense c ≤ m → Gives (AtMost n m) (elim rest as (λ _. Given Core) [ [] ↦ Refuses Operand at | t ∷ more ↦ type_of_sense at (sense t) >>= (λ type. core_of at (sense c) >>= (λ x. cast_row w at x type)) ])
  cast_with m at c [] h = tt
  cast_with m at c (t ∷ more) h =
      after (AtMost n m) (type_of_sense at (sense t)) (λ type. core_of at (sense c) >>= (λ x. cast_row w at x type))
      (λ type. then_gives (AtMost n (N n sense c)) (AtMost n m) (core_of at (sense c)) (λ x. cast_row w at x type) (core_less n w at (sense c)) (λ x k. cast_kept n m w at x type (omega (arith, h, k))))

  cast_over_kept : (m at : ℕ) (rest : List ℕ) (c : ℕ) → N n sense c ≤ m → Gives (SenseMost n m) (cast_over w s sense at rest c)
  cast_over_kept m at rest c h = if_holds (Gives (SenseMost n m)) (is_a s p_cast c) _ (Fits (sense c)) (as_sense_kept n w m _ (cast_with m at c rest h)) h

  cast_last_kept : (m at : ℕ) (rest : List ℕ) (o : Option ℕ) → last_where (λ c. not (is_leaf s c)) rest ≡ o → EachMost m rest → Gives (SenseMost n m) (cast_last w s sense at rest o)
  cast_last_kept m at rest None e h = tt
  cast_last_kept m at rest (Some c) e h = cast_over_kept m at rest c (h c (last_where_in (λ x. not (is_leaf s x)) rest c e))

  cast_of_kept : (m at first : ℕ) (rest : List ℕ) (leafy : Bool) → EachMost m (first ∷ rest) → Gives (SenseMost n m) (cast_of w s sense at first rest leafy)
  cast_of_kept m at first rest false h = h first (in_head first rest)
  cast_of_kept m at first rest true h = cast_last_kept m at rest (last_where (λ c. not (is_leaf s c)) rest) refl (λ c i. h c (in_tail first c rest i))

  pub cast_row_kept : (m at : ℕ) (children : List ℕ) → EachMost m children → Gives (SenseMost n m) (cast_row_of w s sense at children)
  cast_row_kept m at [] h = tt
  cast_row_kept m at (first ∷ rest) h = cast_of_kept m at first rest (is_leaf s first) h

  -- choices and assignments
  chosen_kept : (m at c question a b : ℕ) → N n sense c + (N n sense a + N n sense b) ≤ m → Gives (AtMost n m) (value_in w at (sense c) >>= (λ x. value_in w at (sense a) >>= (λ y. value_in w at (sense b) >>= choice_row w (place_at s question) at x y)))
  chosen_kept m at c question a b sum =
      let two : ℕ = N n sense a + N n sense b in
      then_gives (AtMost n (N n sense c)) (AtMost n m) (value_in w at (sense c)) (λ x. value_in w at (sense a) >>= (λ y. value_in w at (sense b) >>= choice_row w (place_at s question) at x y)) (value_in_less n w at (sense c))
      (λ x g.
      then_gives (AtMost n (N n sense a)) (AtMost n m) (value_in w at (sense a)) (λ y. value_in w at (sense b) >>= choice_row w (place_at s question) at x y) (value_in_less n w at (sense a))
      (λ y h.
      then_gives (AtMost n (N n sense b)) (AtMost n m) (value_in w at (sense b)) (choice_row w (place_at s question) at x y) (value_in_less n w at (sense b))
      (λ z k. choice_kept n two w (place_at s question) at x y z (N n sense c) (omega (arith, h, k)) m g (omega (arith, sum)))))

  pub conditional_kept : (m at : ℕ) (children : List ℕ) → T n sense children ≤ m → Gives (SenseMost n m) (conditional_row w s sense at children)
  conditional_kept m at (c ∷ []) sum = omega (arith, sum)
  conditional_kept m at (c ∷ question ∷ a ∷ colon ∷ b ∷ []) sum = as_sense_kept n w m _ (chosen_kept m at c question a b (omega (arith, sum)))
  conditional_kept m at children sum = tt

  assigned_kept : (m at o : ℕ) (q b : Core) (sign : ℕ) → Together n m q b → Gives (AtMost n m) (assigned w s sense at o q b sign)
  assigned_kept m at o q b sign h =
      if_holds (Gives (AtMost n m)) (sign == sign_assign) _ _
      (then_gives (AtMost n (count_in n b)) (AtMost n m) (value_of w at b) (assign_row w (place_at s o) at q) (value_less n w at b) (λ v l. assign_kept n m w (place_at s o) at q v (omega (arith, h, l))))
      (some_given (AtMost n m) (assigned_op sign) Operand at _
      (λ op. then_gives (AtMost n (count_in n b)) (AtMost n m) (value_of w at b) (update_row w op false (place_at s o) at q) (value_less n w at b) (λ v l. update_kept n m w op false (place_at s o) at q v (omega (arith, h, l)))))

  assigned_by_kept : (m at o : ℕ) (q b : Core) (sign : Option ℕ) → Together n m q b → Gives (AtMost n m) (assigned_by w s sense at o q b sign)
  assigned_by_kept m at o q b None h = tt
  assigned_by_kept m at o q b (Some sign) h = assigned_kept m at o q b sign h

  pub assignment_kept : (m at : ℕ) (children : List ℕ) → T n sense children ≤ m → Gives (SenseMost n m) (assignment_row w s sense at children)
  assignment_kept m at (c ∷ []) sum = omega (arith, sum)
  assignment_kept m at (p ∷ o ∷ v ∷ []) sum =
      as_sense_kept n w m (core_of at (sense p) >>= (λ a. core_of at (sense v) >>= (λ b. assigned_by w s sense at o a b (sign_at s o))))
      (then_gives (AtMost n (N n sense p)) (AtMost n m) (core_of at (sense p)) (λ a. core_of at (sense v) >>= (λ b. assigned_by w s sense at o a b (sign_at s o))) (core_less n w at (sense p))
      (λ a h. then_gives (AtMost n (N n sense v)) (AtMost n m) (core_of at (sense v)) (λ b. assigned_by w s sense at o a b (sign_at s o)) (core_less n w at (sense v)) (λ b k. assigned_by_kept m at o a b (sign_at s o) (omega (arith, sum, h, k)))))
  assignment_kept m at children sum = tt
