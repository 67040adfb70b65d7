-- The parts of declarations with initialisers, in order.
use Rattle.std.proofs.Common.{◌≡◌, ℕ, ◌⊎◌, inl, inr, List, [], ◌∷◌, ◌++◌, refl, sym, ap, ◌∙◌, subst, append-nil}
use Rattle.c_lexer.specs.declared.TokenKind.{TokenKind}
use Rattle.c_lexer.specs.declared.TokenKind.TheVariants.{Punctuator}
use Rattle.c_grammar.specs.Table.{table, row, item_of}
use Rattle.c_grammar.specs.Tree.{makes_node}
use Rattle.c_grammar.specs.Words.{sign_semicolon, sign_comma, sign_assign}
use Rattle.core_node_laws.specs.count_laws.passed.parsed_tree_laws.sign_parts.Parts.{Mark, leaf_mark, Brings, Part}
use Rattle.core_node_laws.proofs.count_laws.passed.parsed_tree_laws.sign_parts.Rows.{of_end, of_token, of_use, of_choice, of_scope, of_node, of_row, all_repeated}

abbrev pub mark : ℕ → ℕ → Mark
mark p place = record { production = p; token = place }

module _ (T : ℕ → TokenKind → ℕ → Type 0) where
  -- an initialiser behind its sign, or nothing
  pub data MaybeInit : List Mark → Type 0 where
    Absent : MaybeInit []
    Present : (equals init : ℕ) → T 54 (Punctuator sign_assign) equals → MaybeInit (leaf_mark equals ∷ mark 25 init ∷ [])

  -- a name for the assembler, or nothing
  pub data MaybeAsm : List Mark → Type 0 where
    NoAsm : MaybeAsm []
    Asm : (place : ℕ) → MaybeAsm (mark 5 place ∷ [])

  -- further declarators, each with its initialiser, and the end
  pub data Further : List Mark → Type 0 where
    Over : (place : ℕ) → Further (leaf_mark place ∷ [])
    Next : {asm init more : List Mark} (comma declarator : ℕ) → T 55 (Punctuator sign_comma) comma → MaybeAsm asm → MaybeInit init → Further more → Further (leaf_mark comma ∷ mark 19 declarator ∷ (asm ++ (init ++ more)))

  -- the rest of a declaration
  pub data IsRestList : List Mark → Type 0 where
    Begins : {init more : List Mark} → MaybeInit init → Further more → IsRestList (init ++ more)

  -- what declares names: specifiers, a declarator, and the rest
  pub data IsNaming : List Mark → Type 0 where
    Naming : {asm : List Mark} (specs declarator rest : ℕ) → MaybeAsm asm → IsNaming (mark 6 specs ∷ mark 19 declarator ∷ (asm ++ mark 2 rest ∷ []))

  -- and what doesn't have a rest
  pub data IsOther : List Mark → Type 0 where
    Assert : (place : ℕ) → IsOther (mark 4 place ∷ [])
    Alone : (specs place : ℕ) → IsOther (mark 6 specs ∷ leaf_mark place ∷ [])
    Body : {asm : List Mark} (specs declarator block : ℕ) → MaybeAsm asm → IsOther (mark 6 specs ∷ mark 19 declarator ∷ (asm ++ mark 29 block ∷ []))

  no_part : (zs : List Mark) → Part T 48 zs → zs ≡ []
  unfolding makes_node item_of row table
  no_part zs h = of_end T 48 0 zs (of_row T 48 zs h refl) refl

  asm_part : (zs : List Mark) → Part T 5 zs ⊎ Part T 48 zs → MaybeAsm zs
  unfolding makes_node
  asm_part zs (inl h) = let n = of_node T 5 zs h refl in subst MaybeAsm (sym n.1) (Asm n.0)
  asm_part zs (inr h) = subst MaybeAsm (sym (no_part zs h)) NoAsm

  initialised_part : (zs : List Mark) → Part T 54 zs → MaybeInit zs
  unfolding makes_node item_of row table
  initialised_part zs h =
      let first = of_token T 54 0 (Punctuator sign_assign) zs (of_row T 54 zs h refl) refl in
      let second = of_use T 54 1 25 first.1 first.4 refl in
      let node = of_node T 25 second.0 second.3 refl in
      let ends : first.1 ≡ mark 25 node.0 ∷ [] = second.2 ∙ (ap (λ (l : List Mark). l ++ second.1) node.1 ∙ ap (λ (l : List Mark). mark 25 node.0 ∷ l) (of_end T 54 2 second.1 second.4 refl)) in
      subst MaybeInit (sym (first.3 ∙ ap (λ (l : List Mark). leaf_mark first.0 ∷ l) ends)) (Present first.0 node.0 first.2)

  maybe_initialised : (zs : List Mark) → Part T 54 zs ⊎ Part T 48 zs → MaybeInit zs
  maybe_initialised zs (inl h) = initialised_part zs h
  maybe_initialised zs (inr h) = subst MaybeInit (sym (no_part zs h)) Absent

  append_all : (xs ys zs : List Mark) → (xs ++ ys) ++ zs ≡ xs ++ (ys ++ zs)
  append_all [] ys zs = refl
  append_all (x ∷ xs) ys zs = ap (λ (l : List Mark). x ∷ l) (append_all xs ys zs)

  more_names : (zs more : List Mark) → Part T 55 zs → Further more → Further (zs ++ more)
  unfolding makes_node item_of row table
  more_names zs more h next =
      let first = of_token T 55 0 (Punctuator sign_comma) zs (of_row T 55 zs h refl) refl in
      let second = of_use T 55 1 19 first.1 first.4 refl in
      let third = of_choice T 55 3 5 48 second.1 (of_scope T 55 2 2 second.1 second.4 refl) refl in
      let fourth = of_choice T 55 4 54 48 third.1 third.4 refl in
      let node = of_node T 19 second.0 second.3 refl in
      let last : fourth.1 ≡ [] = of_end T 55 5 fourth.1 fourth.4 refl in
      let ends : second.1 ≡ third.0 ++ fourth.0 = third.2 ∙ ap (λ (l : List Mark). third.0 ++ l) (fourth.2 ∙ (ap (λ (l : List Mark). fourth.0 ++ l) last ∙ append-nil fourth.0)) in
      let all : zs ≡ leaf_mark first.0 ∷ mark 19 node.0 ∷ (third.0 ++ fourth.0) =
      first.3 ∙ ap (λ (l : List Mark). leaf_mark first.0 ∷ l) (second.2 ∙ (ap (λ (l : List Mark). l ++ second.1) node.1 ∙ ap (λ (l : List Mark). mark 19 node.0 ∷ l) ends)) in
      let whole : zs ++ more ≡ leaf_mark first.0 ∷ mark 19 node.0 ∷ (third.0 ++ (fourth.0 ++ more)) =
      ap (λ (l : List Mark). l ++ more) all ∙ ap (λ (l : List Mark). leaf_mark first.0 ∷ mark 19 node.0 ∷ l) (append_all third.0 fourth.0 more) in
      subst Further (sym whole) (Next first.0 node.0 first.2 (asm_part third.0 third.3) (maybe_initialised fourth.0 fourth.3) next)

  pub rest_list : (zs : List Mark) → Brings T 2 0 zs → IsRestList zs
  unfolding makes_node item_of row table
  rest_list zs h =
      let first = of_choice T 2 0 54 48 zs h refl in
      let last = λ (ys : List Mark) (b : Brings T 2 2 ys).
      let token = of_token T 2 2 (Punctuator sign_semicolon) ys b refl in
      subst Further (sym (token.3 ∙ ap (λ (l : List Mark). leaf_mark token.0 ∷ l) (of_end T 2 3 token.1 token.4 refl))) (Over token.0) in
      let more : Further first.1 = all_repeated T Further 2 1 55 refl last (λ xs ys x y. more_names xs ys x y) first.1 first.4 in
      subst IsRestList (sym first.2) (Begins (maybe_initialised first.0 first.3) more)

  semicolon_part : (specs : ℕ) (zs : List Mark) → Part T 49 zs → IsOther (mark 6 specs ∷ zs)
  unfolding makes_node item_of row table
  semicolon_part specs zs h =
      let first = of_token T 49 0 (Punctuator sign_semicolon) zs (of_row T 49 zs h refl) refl in
      subst IsOther (sym (ap (λ (l : List Mark). mark 6 specs ∷ l) (first.3 ∙ ap (λ (l : List Mark). leaf_mark first.0 ∷ l) (of_end T 49 1 first.1 first.4 refl)))) (Alone specs first.0)

  body_part : (zs : List Mark) → Part T 53 zs → (block : ℕ) × (zs ≡ mark 29 block ∷ [])
  unfolding makes_node item_of row table
  body_part zs h =
      let one = of_scope T 53 0 0 zs (of_row T 53 zs h refl) refl in
      let two = of_scope T 53 1 2 zs one refl in
      let block = of_use T 53 2 29 zs two refl in
      let last = of_scope T 53 3 1 block.1 block.4 refl in
      let node = of_node T 29 block.0 block.3 refl in
      (node.0, block.2 ∙ (ap (λ (l : List Mark). l ++ block.1) node.1 ∙ ap (λ (l : List Mark). mark 29 node.0 ∷ l) (of_end T 53 4 block.1 last refl)))

  declared_names : (specs : ℕ) (zs : List Mark) → Part T 57 zs → IsNaming (mark 6 specs ∷ zs)
  unfolding makes_node item_of row table
  declared_names specs zs h =
      let first = of_use T 57 0 19 zs (of_row T 57 zs h refl) refl in
      let second = of_scope T 57 1 2 first.1 first.4 refl in
      let third = of_choice T 57 2 5 48 first.1 second refl in
      let fourth = of_use T 57 3 2 third.1 third.4 refl in
      let node = of_node T 19 first.0 first.3 refl in
      let rest = of_node T 2 fourth.0 fourth.3 refl in
      let begins : zs ≡ mark 19 node.0 ∷ first.1 = first.2 ∙ ap (λ (l : List Mark). l ++ first.1) node.1 in
      let ends : third.1 ≡ mark 2 rest.0 ∷ [] = fourth.2 ∙ (ap (λ (l : List Mark). l ++ fourth.1) rest.1 ∙ ap (λ (l : List Mark). mark 2 rest.0 ∷ l) (of_end T 57 4 fourth.1 fourth.4 refl)) in
      let all : zs ≡ mark 19 node.0 ∷ (third.0 ++ mark 2 rest.0 ∷ []) = begins ∙ ap (λ (l : List Mark). mark 19 node.0 ∷ l) (third.2 ∙ ap (λ (l : List Mark). third.0 ++ l) ends) in
      subst IsNaming (sym (ap (λ (l : List Mark). mark 6 specs ∷ l) all)) (Naming specs node.0 rest.0 (asm_part third.0 third.3))

  external_names : (specs : ℕ) (zs : List Mark) → Part T 52 zs → IsNaming (mark 6 specs ∷ zs) ⊎ IsOther (mark 6 specs ∷ zs)
  unfolding makes_node item_of row table
  external_names specs zs h =
      let first = of_use T 52 0 19 zs (of_row T 52 zs h refl) refl in
      let second = of_scope T 52 1 2 first.1 first.4 refl in
      let third = of_choice T 52 2 5 48 first.1 second refl in
      let fourth = of_choice T 52 3 53 2 third.1 third.4 refl in
      let node = of_node T 19 first.0 first.3 refl in
      let begins : zs ≡ mark 19 node.0 ∷ first.1 = first.2 ∙ ap (λ (l : List Mark). l ++ first.1) node.1 in
      let one : third.1 ≡ fourth.0 = fourth.2 ∙ (ap (λ (l : List Mark). fourth.0 ++ l) (of_end T 52 4 fourth.1 fourth.4 refl) ∙ append-nil fourth.0) in
      let all : zs ≡ mark 19 node.0 ∷ (third.0 ++ fourth.0) = begins ∙ ap (λ (l : List Mark). mark 19 node.0 ∷ l) (third.2 ∙ ap (λ (l : List Mark). third.0 ++ l) one) in
      elim fourth.3 [
        | inl body ↦ let b = body_part fourth.0 body in inr (subst IsOther (sym (ap (λ (l : List Mark). mark 6 specs ∷ l) (all ∙ ap (λ (l : List Mark). mark 19 node.0 ∷ (third.0 ++ l)) b.1))) (Body specs node.0 b.0 (asm_part third.0 third.3)))
        | inr rest ↦ let r = of_node T 2 fourth.0 rest refl in inl (subst IsNaming (sym (ap (λ (l : List Mark). mark 6 specs ∷ l) (all ∙ ap (λ (l : List Mark). mark 19 node.0 ∷ (third.0 ++ l)) r.1))) (Naming specs node.0 r.0 (asm_part third.0 third.3)))
      ]

  pub external_list : (zs : List Mark) → Brings T 1 0 zs → IsNaming zs ⊎ IsOther zs
  unfolding makes_node item_of row table
  external_list zs h =
      let first = of_use T 1 0 6 zs h refl in
      let node = of_node T 6 first.0 first.3 refl in
      let second = of_choice T 1 1 49 52 first.1 first.4 refl in
      let ends : first.1 ≡ second.0 = second.2 ∙ (ap (λ (l : List Mark). second.0 ++ l) (of_end T 1 2 second.1 second.4 refl) ∙ append-nil second.0) in
      let all : zs ≡ mark 6 node.0 ∷ second.0 = first.2 ∙ (ap (λ (l : List Mark). l ++ first.1) node.1 ∙ ap (λ (l : List Mark). mark 6 node.0 ∷ l) ends) in
      elim second.3 [
        | inl alone ↦ inr (subst IsOther (sym all) (semicolon_part node.0 second.0 alone))
        | inr names ↦ subst (λ (l : List Mark). IsNaming l ⊎ IsOther l) (sym all) (external_names node.0 second.0 names)
      ]

  pub declaration_list : (zs : List Mark) → Brings T 3 0 zs → IsNaming zs ⊎ IsOther zs
  unfolding makes_node item_of row table
  declaration_list zs h =
      let only = of_choice T 3 0 4 56 zs h refl in
      let whole : zs ≡ only.0 = only.2 ∙ (ap (λ (l : List Mark). only.0 ++ l) (of_end T 3 1 only.1 only.4 refl) ∙ append-nil only.0) in
      elim only.3 [
        | inl assert ↦ let n = of_node T 4 only.0 assert refl in inr (subst IsOther (sym (whole ∙ n.1)) (Assert n.0))
        | inr names ↦ by only.0 whole names
      ]
    where
      by : (ys : List Mark) → zs ≡ ys → Part T 56 ys → IsNaming zs ⊎ IsOther zs
      by ys same names =
          let first = of_use T 56 0 6 ys (of_row T 56 ys names refl) refl in
          let node = of_node T 6 first.0 first.3 refl in
          let second = of_choice T 56 1 49 57 first.1 first.4 refl in
          let ends : first.1 ≡ second.0 = second.2 ∙ (ap (λ (l : List Mark). second.0 ++ l) (of_end T 56 2 second.1 second.4 refl) ∙ append-nil second.0) in
          let all : zs ≡ mark 6 node.0 ∷ second.0 = same ∙ (first.2 ∙ (ap (λ (l : List Mark). l ++ first.1) node.1 ∙ ap (λ (l : List Mark). mark 6 node.0 ∷ l) ends)) in
          elim second.3 [
            | inl alone ↦ inr (subst IsOther (sym all) (semicolon_part node.0 second.0 alone))
            | inr named ↦ inl (subst IsNaming (sym all) (declared_names node.0 second.0 named))
          ]
