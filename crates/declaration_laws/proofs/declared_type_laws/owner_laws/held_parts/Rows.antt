-- What the rows of statements and blocks keep of the trees of their parts.
use Rattle.std.proofs.Common.{arith, ◌≡◌, ◌≤◌, ℕ, zero, suc, Bool, true, false, ◌&&◌, ◌||◌, ◌==◌, not, List, [], ◌∷◌, Option, Some, None, length, refl, sym, ap, ◌∙◌, subst, ◌⊎◌, inl, inr}
use Rattle.std.specs.Prelude.{⊤, ℤ, if◌then◌else◌}
use Rattle.std.proofs.lemmas.Bool.{eqb-true}
use Rattle.pta_base.specs.declared.kind.Kind.TheVariants.{Operand}
use Rattle.core_tree.specs.declared.node.NodeKind.TheVariants.{Case}
use Rattle.core_tree.specs.Rows.{Has}
use Rattle.c_lexer.specs.declared.TokenKind.{TokenKind}
use Rattle.c_lexer.specs.declared.TokenKind.TheVariants.{Keyword}
use Rattle.c_grammar.specs.Productions.{p_declaration, p_statement, p_block, p_expression, p_conditional}
use Rattle.c_grammar.specs.Words.{word_case, word_default, word_if, word_switch, word_while, word_do, word_for, word_goto, word_continue, word_break, word_return, sign_semicolon}
use Rattle.c_consts.specs.Core.{Core, Cores, NoCores, MoreCores, ctype_of}
use Rattle.c_consts.specs.Wrapped.{converted}
use Rattle.c_senses.specs.Tree.{Source, is_a, is_leaf, is_name, has_sign, has_word, place_at, word_at, kind_at, word_of_kind, sign_of_kind, is_number, is_identifier, children_at, all_where, any_where, child_of, numbers_from}
use Rattle.c_senses.specs.Given.{Given, Fits, Refuses, ◌>>=◌, given_if}
use Rattle.c_senses.specs.World.{World}
use Rattle.c_senses.specs.Constants.{constant_in}
use Rattle.c_senses.specs.Sense.{Sense, IsCore, IsRun, core_of, fits}
use Rattle.c_senses.specs.Statements.{statement, one, appended, with_some, ForParts, cores_in, block_row, condition_of, statements_among, body_of, other_body, expression_in, switch_around, switched, is_case_again, labelled, case_row, default_row, if_row, switch_row, while_row, do_row, for_parts, for_first, for_condition, for_after, for_of, for_row, of_word, leaf_statement, statement_row}
use Rattle.parsed_tree_laws.specs.sense_laws.Sound.{Gives}
use Rattle.parsed_tree_laws.proofs.sense_laws.Giving.{then_gives, if_given, some_given, if_holds}
use Rattle.core_node_laws.specs.passed.parsed_tree_laws.statement_shapes.Shaped.{is_part, of_word as most_of_word, allowed}
use Rattle.declaration_laws.specs.declared_type_laws.owner_laws.held_parts.Held.{StandsIn, InSome, InRun, IsHeld}

-- ---- lists of which few pass a test

number_at_least : (test : ℕ → Bool) (ks : List ℕ) (c : ℕ) → Has ks c → test c ≡ true → 1 ≤ length (all_where test ks)
number_at_least test [] c h t = cc
number_at_least test (k ∷ ks) c (zero, e) t = let same : k ≡ c = cc in by (test k) (subst (λ (x : ℕ). test x ≡ true) (sym same) t)
  where
    by : (b : Bool) → b ≡ true → 1 ≤ length (if b then k ∷ all_where test ks else all_where test ks)
    by true f = omega arith
    by false f = cc
number_at_least test (k ∷ ks) c (suc j, e) t = by (test k) (number_at_least test ks c (j, e) t)
  where
    by : (b : Bool) → 1 ≤ length (all_where test ks) → 1 ≤ length (if b then k ∷ all_where test ks else all_where test ks)
    by true f = omega arith
    by false f = f

narrower : (f g : ℕ → Bool) (ks : List ℕ) → ((c : ℕ) → f c ≡ true → g c ≡ true) → length (all_where f ks) ≤ length (all_where g ks)
narrower f g [] h = omega arith
narrower f g (k ∷ ks) h = by (f k) (g k) refl refl (narrower f g ks h)
  where
    by : (a b : Bool) → f k ≡ a → g k ≡ b → length (all_where f ks) ≤ length (all_where g ks) → length (if a then k ∷ all_where f ks else all_where f ks) ≤ length (if b then k ∷ all_where g ks else all_where g ks)
    by true true ea eb later = omega (arith, later)
    by true false ea eb later = let on = h k ea in let both : true ≡ false = sym on ∙ eb in cc
    by false true ea eb later = omega (arith, later)
    by false false ea eb later = later

empty_of : (l : List ℕ) → length l ≤ 0 → l ≡ []
empty_of [] h = refl
empty_of (x ∷ l) h = absurd (omega (arith, h))

-- one alone
sole : (test : ℕ → Bool) (ks : List ℕ) (c : ℕ) → Has ks c → test c ≡ true → length (all_where test ks) ≤ 1 → all_where test ks ≡ c ∷ []
sole test [] c h t few = cc
sole test (k ∷ ks) c (zero, e) t few = let same : k ≡ c = cc in by (test k) (subst (λ (x : ℕ). test x ≡ true) (sym same) t) same few
  where
    by : (b : Bool) → b ≡ true → k ≡ c → length (if b then k ∷ all_where test ks else all_where test ks) ≤ 1 → (if b then k ∷ all_where test ks else all_where test ks) ≡ c ∷ []
    by true f same few =
        let none : all_where test ks ≡ [] = empty_of (all_where test ks) (omega (arith, few)) in
        ap (λ (l : List ℕ). k ∷ l) none ∙ ap (λ (x : ℕ). x ∷ []) same
    by false f same few = cc
sole test (k ∷ ks) c (suc j, e) t few = by (test k) few (λ h. sole test ks c (j, e) t h)
  where
    by : (b : Bool) → length (if b then k ∷ all_where test ks else all_where test ks) ≤ 1 → (length (all_where test ks) ≤ 1 → all_where test ks ≡ c ∷ []) → (if b then k ∷ all_where test ks else all_where test ks) ≡ c ∷ []
    by true few later = let some = number_at_least test ks c (j, e) t in absurd (omega (arith, few, some))
    by false few later = later few

-- one of two
abbrev pub OfTwo : ℕ → List ℕ → Type 0
OfTwo c l = ((rest : List ℕ) × (l ≡ c ∷ rest)) ⊎ ((d : ℕ) × (rest : List ℕ) × (l ≡ d ∷ c ∷ rest))

of_two : (test : ℕ → Bool) (ks : List ℕ) (c : ℕ) → Has ks c → test c ≡ true → length (all_where test ks) ≤ 2 → OfTwo c (all_where test ks)
of_two test [] c h t few = cc
of_two test (k ∷ ks) c (zero, e) t few = let same : k ≡ c = cc in by (test k) (subst (λ (x : ℕ). test x ≡ true) (sym same) t) same
  where
    by : (b : Bool) → b ≡ true → k ≡ c → OfTwo c (if b then k ∷ all_where test ks else all_where test ks)
    by true f same = inl (all_where test ks, ap (λ (x : ℕ). x ∷ all_where test ks) same)
    by false f same = cc
of_two test (k ∷ ks) c (suc j, e) t few = by (test k) few (λ h. of_two test ks c (j, e) t h)
  where
    by : (b : Bool) → length (if b then k ∷ all_where test ks else all_where test ks) ≤ 2 → (length (all_where test ks) ≤ 2 → OfTwo c (all_where test ks)) → OfTwo c (if b then k ∷ all_where test ks else all_where test ks)
    by true few later = let one = sole test ks c (j, e) t (omega (arith, few)) in inr (k, [], ap (λ (l : List ℕ). k ∷ l) one)
    by false few later = later few

-- what is left behind the first of a list
behind_first : (test : ℕ → Bool) (k : ℕ) (ks : List ℕ) (c : ℕ) → (all_where test (k ∷ ks) ≡ []) ⊎ (all_where test (k ∷ ks) ≡ c ∷ []) → (all_where test ks ≡ []) ⊎ (all_where test ks ≡ c ∷ [])
behind_first test k ks c h = by (test k) h
  where
    by : (b : Bool) → ((if b then k ∷ all_where test ks else all_where test ks) ≡ []) ⊎ ((if b then k ∷ all_where test ks else all_where test ks) ≡ c ∷ []) → (all_where test ks ≡ []) ⊎ (all_where test ks ≡ c ∷ [])
    by true (inl e) = cc
    by true (inr e) = let same : all_where test ks ≡ [] = cc in inl same
    by false h = h

on_true : (b : Bool) (n p q : ℕ) → b ≡ true → n ≤ (if b then p else q) → n ≤ p
on_true true n p q e h = h
on_true false n p q e h = cc

on_false : (b : Bool) (n p q : ℕ) → b ≡ false → n ≤ (if b then p else q) → n ≤ q
on_false false n p q e h = h
on_false true n p q e h = cc

clash : {X : Type 0} → (b : Bool) → b ≡ true → b ≡ false → X
clash true e f = cc
clash false e f = cc

or_left : (a b : Bool) → a ≡ true → (a || b) ≡ true
or_left true b e = refl
or_left false b e = cc

or_right : (a b : Bool) → b ≡ true → (a || b) ≡ true
or_right true b e = refl
or_right false b e = e

-- ---- trees

module _ (x : Core) where
  abbrev pub K : Core → Type 0
  K = StandsIn x

  abbrev pub S : Sense → Type 0
  S = IsHeld x

  in_appended : (first : List Core) (more : Cores) → InRun x first ⊎ InSome x more → InSome x (appended first more)
  in_appended [] more (inl h) = absurd h
  in_appended [] more (inr h) = h
  in_appended (c ∷ first) more (inl (inl h)) = inl h
  in_appended (c ∷ first) more (inl (inr h)) = inr (in_appended first more (inl h))
  in_appended (c ∷ first) more (inr h) = inr (in_appended first more (inr h))

  in_with : (o : Option Core) (more : Cores) → InSome x more → InSome x (with_some o more)
  in_with None more h = h
  in_with (Some c) more h = inr h

  anything : {A : Type 0} (g : Given A) → Gives (λ n. ⊤) g
  anything (Fits n) = tt
  anything (Refuses kind node) = tt

  core_held : (n : ℕ) (y : Sense) → S y → Gives K (core_of n y)
  core_held n (IsCore c) h = h
  core_held n y h = tt

  module _ (w : World) (s : Source) (sense : ℕ → Sense) (at c : ℕ) (held : S (sense c)) where
    -- the statement of a list that has it first
    first_body : (list rest : List ℕ) → list ≡ c ∷ rest → Gives K (body_of w s sense at list)
    first_body [] rest e = cc
    first_body (d ∷ more) rest e = let same : d ≡ c = cc in subst (λ (k : ℕ). Gives K (core_of at (sense k))) (sym same) (core_held at (sense c) held)

    only_body : (list : List ℕ) → (list ≡ []) ⊎ (list ≡ c ∷ []) → Gives K (body_of w s sense at list)
    only_body [] h = tt
    only_body (d ∷ more) (inl e) = cc
    only_body (d ∷ more) (inr e) = first_body (d ∷ more) [] e

    SomeHeld : Option Core → Type 0
    SomeHeld None = ⊥
    SomeHeld (Some y) = K y

    second_body : (list rest : List ℕ) (d : ℕ) → list ≡ d ∷ c ∷ rest → Gives SomeHeld (other_body w s sense at list)
    unfolding SomeHeld
    second_body [] rest d e = cc
    second_body (a ∷ []) rest d e = cc
    second_body (a ∷ b ∷ more) rest d e =
        let same : b ≡ c = cc in
        then_gives K SomeHeld (core_of at (sense b)) (λ y. Fits (Some y)) (subst (λ (k : ℕ). Gives K (core_of at (sense k))) (sym same) (core_held at (sense c) held)) (λ y h. h)

    -- statements over one other
    module _ (children : List ℕ) (sole_is : statements_among w s sense children ≡ c ∷ []) where
      body_is : Gives K (body_of w s sense at (statements_among w s sense children))
      body_is = first_body (statements_among w s sense children) [] sole_is

      over_body : (f : Core → Given Core) → ((b : Core) → K b → Gives K (f b)) → Gives K (body_of w s sense at (statements_among w s sense children) >>= f)
      over_body f h = then_gives K K (body_of w s sense at (statements_among w s sense children)) f body_is h

      behind_any : {A : Type 0} (g : Given A) (f : A → Given Core) → ((y : A) → Gives K (f y)) → Gives K (g >>= f)
      behind_any g f h = then_gives (λ n. ⊤) K g f (anything g) (λ y t. h y)

      label_held : (name : ℕ) → Gives K (labelled w s sense at name children)
      label_held name = over_body _ (λ b h. inr (inl h))

      case_by : (switch : ℕ) (body : Core) (n : ℤ) → K body → (g : Given Core)
          → Gives K
          (elim g as (λ _. Given Core) [
            | Refuses kind node ↦ Fits (statement (Case n) (place_at s at) (one body))
            | Fits v ↦
                let m = converted (ctype_of v) n in
                given_if (not (any_where (is_case_again w s sense switch m) (numbers_from 0 at))) Operand at (Fits (statement (Case m) (place_at s at) (one body)))
          ])
      case_by switch body n h (Refuses kind node) = inr (inl h)
      case_by switch body n h (Fits v) = if_given K _ Operand at (Fits (statement (Case (converted (ctype_of v) n)) (place_at s at) (one body))) (λ new. inr (inl h))

      case_held : Gives K (case_row w s sense at children)
      case_held =
          some_given K (child_of s p_conditional at) Operand at _
          (λ d e.
          behind_any (constant_in w s at (sense d)) _
          (λ n.
          some_given K (switch_around w s sense at) Operand at _
          (λ switch around. over_body _ (λ body h. case_by switch body n h (switched w s sense switch (expression_in w s sense (children_at s switch)))))))

      default_held : Gives K (default_row w s sense at children)
      default_held =
          some_given K (switch_around w s sense at) Operand at _
          (λ switch around.
          if_given K _ Operand at (body_of w s sense at (statements_among w s sense children) >>= _)
          (λ new. over_body _ (λ body h. inr (inl h))))

      switch_held : Gives K (switch_row w s sense at children)
      switch_held = behind_any (switched w s sense at (expression_in w s sense children)) _ (λ v. over_body _ (λ body h. inr (inr (inl h))))

      while_held : Gives K (while_row w s sense at children)
      while_held = behind_any (condition_of w s sense at (expression_in w s sense children)) _ (λ v. over_body _ (λ body h. inr (inr (inl h))))

      do_held : Gives K (do_row w s sense at children)
      do_held = behind_any (condition_of w s sense at (expression_in w s sense children)) _ (λ v. over_body _ (λ body h. inr (inl h)))

    -- one of two statements
    with_held : (o : Option Core) → SomeHeld o → InSome x (with_some o NoCores)
    unfolding SomeHeld
    with_held None h = absurd h
    with_held (Some y) h = inl h

    if_held : (children : List ℕ) → OfTwo c (statements_among w s sense children) → Gives K (if_row w s sense at children)
    if_held children (inl (rest, e)) =
        then_gives (λ v. ⊤) K (condition_of w s sense at (expression_in w s sense children)) _ (anything (condition_of w s sense at (expression_in w s sense children)))
        (λ v t.
        then_gives K K (body_of w s sense at (statements_among w s sense children)) _ (first_body (statements_among w s sense children) rest e)
        (λ body h.
        then_gives (λ o. ⊤) K (other_body w s sense at (statements_among w s sense children)) _ (anything (other_body w s sense at (statements_among w s sense children)))
        (λ other t. inr (inr (inl h)))))
    if_held children (inr (d, rest, e)) =
        then_gives (λ v. ⊤) K (condition_of w s sense at (expression_in w s sense children)) _ (anything (condition_of w s sense at (expression_in w s sense children)))
        (λ v t.
        then_gives (λ v. ⊤) K (body_of w s sense at (statements_among w s sense children)) _ (anything (body_of w s sense at (statements_among w s sense children)))
        (λ body t.
        then_gives SomeHeld K (other_body w s sense at (statements_among w s sense children)) _ (second_body (statements_among w s sense children) rest d e)
        (λ other h. inr (inr (inr (with_held other h))))))

    -- the body of a `for`
    for_body : (p : ForParts) (rest : List ℕ) → (statements_among w s sense rest ≡ []) ⊎ (statements_among w s sense rest ≡ c ∷ []) → Gives K (for_of w s sense at p rest)
    for_body p rest sole_is =
        then_gives (λ v. ⊤) K (for_first w s sense at p.first) _ (anything (for_first w s sense at p.first))
        (λ first t.
        then_gives (λ v. ⊤) K (for_condition w s sense at p.condition) _ (anything (for_condition w s sense at p.condition))
        (λ condition t.
        then_gives (λ v. ⊤) K (for_after w s sense at p.after) _ (anything (for_after w s sense at p.after))
        (λ after t.
        then_gives K K (body_of w s sense at (statements_among w s sense rest)) _ (only_body (statements_among w s sense rest) sole_is)
        (λ body h. inr (in_appended first (with_some condition (with_some after (one body))) (inr (in_with condition (with_some after (one body)) (in_with after (one body) (inl h)))))))))

    for_held : (children : List ℕ) → statements_among w s sense children ≡ c ∷ [] → Gives K (for_row w s sense at children)
    for_held [] e = tt
    for_held (word ∷ []) e = tt
    for_held (word ∷ parenthesis ∷ rest) e =
        for_body (for_parts w s sense rest) rest
        (behind_first (is_a s p_statement) parenthesis rest c (behind_first (is_a s p_statement) word (parenthesis ∷ rest) c (inr e)))

    -- the declaration of a `for`
    module _ (declares : is_a s p_declaration c ≡ true) (runs : (cores : List Core) × (sense c ≡ IsRun cores)) where
      run_in : (y : Sense) → y ≡ IsRun runs.0 → S y → InRun x (elim y as (λ _. List Core) [ IsRun cores ↦ cores | _ ↦ [] ])
      run_in (IsRun cores) e h = h
      run_in y e h = cc

      first_of_run : Gives (InRun x) (for_first w s sense at (Some c))
      first_of_run =
          if_holds (Gives (InRun x)) (is_a s p_declaration c) _ _ (λ t. run_in (sense c) runs.1 held) (λ f. clash (is_a s p_declaration c) declares f)

      first_run : (o : Option ℕ) → o ≡ Some c → Gives (InRun x) (for_first w s sense at o)
      first_run o e = subst (λ (k : Option ℕ). Gives (InRun x) (for_first w s sense at k)) (sym e) first_of_run

      for_run : (p : ForParts) (rest : List ℕ) → p.first ≡ Some c → Gives K (for_of w s sense at p rest)
      for_run p rest e =
          then_gives (InRun x) K (for_first w s sense at p.first) _ (first_run p.first e)
          (λ first h.
          then_gives (λ v. ⊤) K (for_condition w s sense at p.condition) _ (anything (for_condition w s sense at p.condition))
          (λ condition t.
          then_gives (λ v. ⊤) K (for_after w s sense at p.after) _ (anything (for_after w s sense at p.after))
          (λ after t.
          then_gives (λ v. ⊤) K (body_of w s sense at (statements_among w s sense rest)) _ (anything (body_of w s sense at (statements_among w s sense rest)))
          (λ body t. inr (in_appended first (with_some condition (with_some after (one body))) (inl h))))))

      parts_first : (rest : List ℕ) → (for_parts w s sense (c ∷ rest)).first ≡ Some c
      parts_first rest = if_holds (λ (p : ForParts). p.first ≡ Some c) (is_a s p_declaration c) _ _ (λ t. refl) (λ f. clash (is_a s p_declaration c) declares f)

      word_run : (word parenthesis k : ℕ) (rest : List ℕ) → k ≡ word_for → Gives K (of_word w s sense at (word ∷ parenthesis ∷ c ∷ rest) (Some k))
      word_run word parenthesis k rest e =
          subst (λ (z : ℕ). Gives K (of_word w s sense at (word ∷ parenthesis ∷ c ∷ rest) (Some z))) (sym e) (for_run (for_parts w s sense (c ∷ rest)) (c ∷ rest) (parts_first rest))

      pub declaration_held : (word parenthesis : ℕ) (rest : List ℕ) → has_word s word_for word ≡ true → Gives S (statement_row w s sense at (word ∷ parenthesis ∷ c ∷ rest))
      declaration_held word parenthesis rest begins =
          if_holds (Gives S) (is_leaf s word) _ _
          (λ lf. then_gives K S (leaf_statement w s sense at word (word ∷ parenthesis ∷ c ∷ rest)) fits leaf_run (λ y h. h))
          (λ f. clash (is_leaf s word) (both (is_leaf s word) _ begins).0 f)
        where
          both : (a b : Bool) → (a && b) ≡ true → (a ≡ true) × (b ≡ true)
          both true b e = (refl, e)
          both false b e = cc

          no_sign : (k : TokenKind) (a : Bool) → is_number (word_of_kind k) word_for ≡ true → (a && is_number (sign_of_kind k) sign_semicolon) ≡ true → ⊥
          no_sign (Keyword b) true e f = cc
          no_sign (Keyword b) false e f = cc
          no_sign k a e f = cc

          no_name : (k : TokenKind) (a : Bool) → is_number (word_of_kind k) word_for ≡ true → (a && is_identifier k) ≡ true → ⊥
          no_name (Keyword b) true e f = cc
          no_name (Keyword b) false e f = cc
          no_name k a e f = cc

          word_is : is_number (word_at s word) word_for ≡ true
          word_is = (both (is_leaf s word) _ begins).1

          of_option : (o : Option ℕ) → is_number o word_for ≡ true → Gives K (of_word w s sense at (word ∷ parenthesis ∷ c ∷ rest) o)
          of_option None e = cc
          of_option (Some k) e = word_run word parenthesis k rest (eqb-true k word_for e)

          leaf_run : Gives K (leaf_statement w s sense at word (word ∷ parenthesis ∷ c ∷ rest))
          leaf_run =
              if_holds (Gives K) (has_sign s sign_semicolon word) _ _ (λ t. absurd (no_sign (kind_at s word) (is_leaf s word) word_is t))
              (λ f. if_holds (Gives K) (is_name s word) _ _ (λ t. absurd (no_name (kind_at s word) (is_leaf s word) word_is t)) (λ f. of_option (word_at s word) word_is))

    -- a statement or a block among the parts
    module _ (children : List ℕ) (has : Has children c) (is : is_part s c ≡ true) where
      abbrev most : ℕ
      most = length (all_where (is_part s) children)

      some : 1 ≤ most
      some = number_at_least (is_part s) children c has is

      never : {X : Type 0} → most ≤ 0 → X
      never few = absurd (omega (arith, few, some))

      module _ (states : is_a s p_statement c ≡ true) where
        fewer : length (all_where (is_a s p_statement) children) ≤ most
        fewer = narrower (is_a s p_statement) (is_part s) children (λ d t. or_left (is_a s p_statement d) (is_a s p_block d) t)

        one_of : most ≤ 1 → statements_among w s sense children ≡ c ∷ []
        one_of few = sole (is_a s p_statement) children c has states (omega (arith, few, fewer))

        two_of : most ≤ 2 → OfTwo c (statements_among w s sense children)
        two_of few = of_two (is_a s p_statement) children c has states (omega (arith, few, fewer))

        word_most : (k word n : ℕ) → most_of_word (Some k) ≡ n → (word == k) ≡ true → most ≤ most_of_word (Some word) → most ≤ n
        word_most k word n value e few =
            let same : most_of_word (Some word) ≡ most_of_word (Some k) = ap (λ (z : ℕ). most_of_word (Some z)) (eqb-true word k e) in
            omega (arith, few, same, value)

        word_held : (o : Option ℕ) → most ≤ most_of_word o → Gives K (of_word w s sense at children o)
        word_held None few = tt
        word_held (Some word) few =
            if_holds (Gives K) (word == word_case) _ _ (λ e. case_held children (one_of (word_most word_case word 1 refl e few)))
            (λ e. if_holds (Gives K) (word == word_default) _ _ (λ e. default_held children (one_of (word_most word_default word 1 refl e few)))
            (λ e. if_holds (Gives K) (word == word_if) _ _ (λ e. if_held children (two_of (word_most word_if word 2 refl e few)))
            (λ e. if_holds (Gives K) (word == word_switch) _ _ (λ e. switch_held children (one_of (word_most word_switch word 1 refl e few)))
            (λ e. if_holds (Gives K) (word == word_while) _ _ (λ e. while_held children (one_of (word_most word_while word 1 refl e few)))
            (λ e. if_holds (Gives K) (word == word_do) _ _ (λ e. do_held children (one_of (word_most word_do word 1 refl e few)))
            (λ e. if_holds (Gives K) (word == word_for) _ _ (λ e. for_held children (one_of (word_most word_for word 1 refl e few)))
            (λ e. if_holds (Gives K) (word == word_goto) _ _ (λ e. never (word_most word_goto word 0 refl e few))
            (λ e. if_holds (Gives K) (word == word_continue) _ _ (λ e. never (word_most word_continue word 0 refl e few))
            (λ e. if_holds (Gives K) (word == word_break) _ _ (λ e. never (word_most word_break word 0 refl e few))
            (λ e. if_holds (Gives K) (word == word_return) _ (Refuses Operand at) (λ e. never (word_most word_return word 0 refl e few)) (λ e. tt)))))))))))

        leaf_held : (first : ℕ) → most ≤ (if has_sign s sign_semicolon first then 0 else if is_name s first then 1 else most_of_word (word_at s first)) → Gives K (leaf_statement w s sense at first children)
        leaf_held first few =
            if_holds (Gives K) (has_sign s sign_semicolon first) _ _ (λ t. never (on_true (has_sign s sign_semicolon first) most 0 _ t few))
            (λ f. let later = on_false (has_sign s sign_semicolon first) most 0 _ f few in
            if_holds (Gives K) (is_name s first) _ _ (λ t. label_held children (one_of (on_true (is_name s first) most 1 _ t later)) first)
            (λ g. word_held (word_at s first) (on_false (is_name s first) most 1 _ g later)))

    pub statement_held : (first : ℕ) (rest : List ℕ) → Has (first ∷ rest) c → is_part s c ≡ true → length (all_where (is_part s) (first ∷ rest)) ≤ allowed s first
        → (is_leaf s first ≡ true → length (all_where (is_a s p_block) (first ∷ rest)) ≡ 0) → (is_leaf s first ≡ false → is_a s p_expression first ≡ false → is_a s p_block first ≡ true)
        → Gives S (statement_row w s sense at (first ∷ rest))
    statement_held first rest has is few blocks begins =
        if_holds (Gives S) (is_leaf s first) _ _
        (λ lf. then_gives K S (leaf_statement w s sense at first (first ∷ rest)) fits
        (leaf_held (first ∷ rest) has is (states (is_a s p_statement c) (is_a s p_block c) refl refl is (blocks lf)) first (on_true (is_leaf s first) (length (all_where (is_part s) (first ∷ rest))) _ _ lf few)) (λ y h. h))
        (λ nf. let later = on_false (is_leaf s first) (length (all_where (is_part s) (first ∷ rest))) _ _ nf few in
        if_holds (Gives S) (is_a s p_expression first) _ _
        (λ ex. never (first ∷ rest) has is (on_true (is_a s p_expression first) (length (all_where (is_part s) (first ∷ rest))) 0 1 ex later))
        (λ nx. own (begins nf nx) (on_false (is_a s p_expression first) (length (all_where (is_part s) (first ∷ rest))) 0 1 nx later)))
      where
        states : (a b : Bool) → is_a s p_statement c ≡ a → is_a s p_block c ≡ b → (a || b) ≡ true → length (all_where (is_a s p_block) (first ∷ rest)) ≡ 0 → is_a s p_statement c ≡ true
        states true b ea eb h none = ea
        states false true ea eb h none = let many = number_at_least (is_a s p_block) (first ∷ rest) c has eb in absurd (omega (arith, many, none))
        states false false ea eb h none = cc

        own : is_a s p_block first ≡ true → length (all_where (is_part s) (first ∷ rest)) ≤ 1 → S (sense first)
        own block few =
            let a = sole (is_part s) (first ∷ rest) c has is few in
            let b = sole (is_part s) (first ∷ rest) first (0, refl) (or_right (is_a s p_statement first) (is_a s p_block first) block) few in
            let one : ◌≡◌ {A = List ℕ} (c ∷ []) (first ∷ []) = sym a ∙ b in
            let same : c ≡ first = cc in
            subst (λ (k : ℕ). S (sense k)) same held

    -- 6.8.2: a part of a block
    cores_held : (list : List ℕ) → Has list c → InSome x (cores_in w s sense list)
    cores_held [] has = cc
    cores_held (d ∷ rest) (zero, e) = let same : d ≡ c = cc in by (sense d) (subst (λ (k : ℕ). S (sense k)) (sym same) held)
      where
        by : (y : Sense) → S y → InSome x (elim y as (λ _. Cores) [ IsCore z ↦ MoreCores z (cores_in w s sense rest) | IsRun cores ↦ appended cores (cores_in w s sense rest) | _ ↦ cores_in w s sense rest ])
        by (IsCore z) h = inl h
        by (IsRun cores) h = in_appended cores (cores_in w s sense rest) (inl h)
        by y h = absurd h
    cores_held (d ∷ rest) (suc j, e) = by (sense d) (cores_held rest (j, e))
      where
        by : (y : Sense) → InSome x (cores_in w s sense rest) → InSome x (elim y as (λ _. Cores) [ IsCore z ↦ MoreCores z (cores_in w s sense rest) | IsRun cores ↦ appended cores (cores_in w s sense rest) | _ ↦ cores_in w s sense rest ])
        by (IsCore z) h = inr h
        by (IsRun cores) h = in_appended cores (cores_in w s sense rest) (inr h)
        by y h = h

    pub block_held : (children : List ℕ) → Has children c → Gives S (block_row w s sense at children)
    block_held children has = inr (cores_held children has)
