-- An external declaration has a block or the rest of a declaration.
use Rattle.std.proofs.Common.{◌≡◌, ℕ, ◌⊎◌, inl, inr, true, List, [], ◌∷◌, ◌++◌, refl, sym, ap, ◌∙◌, subst, append-nil}
use Rattle.c_lexer.specs.declared.TokenKind.TheVariants.{Punctuator}
use Rattle.c_grammar.specs.Table.{table, row, item_of}
use Rattle.c_grammar.specs.Tree.{makes_node}
use Rattle.c_grammar.specs.Terminals.{contains}
use Rattle.c_grammar.specs.Reads.{leaf}
use Rattle.c_grammar.specs.Words.{sign_semicolon}
use Rattle.parsed_tree_laws.specs.grown_parts.Parts.{Brings, Part}
use Rattle.parsed_tree_laws.proofs.grown_parts.Rows.{of_end, of_token, of_use, of_choice, of_scope, of_node, of_row}
use Rattle.parsed_tree_laws.proofs.grown_parts.Declaring.{AllIn, in_append}

abbrev pub block_parts : List ℕ
block_parts = 6 ∷ 19 ∷ 5 ∷ 29 ∷ leaf ∷ []

abbrev pub name_parts : List ℕ
name_parts = 6 ∷ 19 ∷ 5 ∷ 2 ∷ leaf ∷ []

module _ (allowed : List ℕ) (specs : contains allowed 6 ≡ true) (declarator : contains allowed 19 ≡ true) (asm : contains allowed 5 ≡ true) (token : contains allowed leaf ≡ true) where
  node_part : (q : ℕ) (zs : List ℕ) → Part q zs → makes_node q ≡ true → contains allowed q ≡ true → AllIn allowed zs
  node_part q zs h made is = subst (AllIn allowed) (sym (of_node q zs h made)) (is, tt)

  no_part : (zs : List ℕ) → Part 48 zs → AllIn allowed zs
  unfolding makes_node item_of row table
  no_part zs h = subst (AllIn allowed) (sym (of_end 48 0 zs (of_row 48 zs h refl) refl)) tt

  semicolon_part : (zs : List ℕ) → Part 49 zs → AllIn allowed zs
  unfolding makes_node item_of row table
  semicolon_part zs h =
      let first = of_token 49 0 (Punctuator sign_semicolon) zs (of_row 49 zs h refl) refl in
      subst (AllIn allowed) (sym (first.1 ∙ ap (λ (l : List ℕ). leaf ∷ l) (of_end 49 1 first.0 first.2 refl))) (token, tt)

  asm_part : (zs : List ℕ) → Part 5 zs ⊎ Part 48 zs → AllIn allowed zs
  unfolding makes_node
  asm_part zs (inl h) = node_part 5 zs h refl asm
  asm_part zs (inr h) = no_part zs h

  body_part : contains allowed 29 ≡ true → (zs : List ℕ) → Part 53 zs → AllIn allowed zs
  unfolding makes_node item_of row table
  body_part is zs h =
      let scoped = of_scope 53 1 2 zs (of_scope 53 0 0 zs (of_row 53 zs h refl) refl) refl in
      let block = of_use 53 2 29 zs scoped refl in
      let ends : AllIn allowed block.1 = subst (AllIn allowed) (sym (of_end 53 4 block.1 (of_scope 53 3 1 block.1 block.4 refl) refl)) tt in
      subst (AllIn allowed) (sym block.2) (in_append allowed block.0 block.1 (node_part 29 block.0 block.3 refl is) ends)

  rest_part : contains allowed 2 ≡ true → (zs : List ℕ) → Part 2 zs → AllIn allowed zs
  unfolding makes_node
  rest_part is zs h = node_part 2 zs h refl is

  two_parts : (zs a b : List ℕ) → zs ≡ a ++ b → AllIn allowed a → AllIn allowed b → AllIn allowed zs
  two_parts zs a b e h k = subst (AllIn allowed) (sym e) (in_append allowed a b h k)

  assembled : (zs a b c d e g : List ℕ) → zs ≡ a ++ b → b ≡ c ++ d → d ≡ e ++ g → g ≡ [] → AllIn allowed a → AllIn allowed c → AllIn allowed e → AllIn allowed zs
  assembled zs a b c d e g is two three none x y z = two_parts zs a b is x (two_parts b c d two y (two_parts d e g three z (subst (AllIn allowed) (sym none) tt)))

external_names : (zs : List ℕ) → Part 52 zs → AllIn block_parts zs ⊎ AllIn name_parts zs
unfolding makes_node item_of row table
external_names zs h =
    let first = of_use 52 0 19 zs (of_row 52 zs h refl) refl in
    let third = of_choice 52 2 5 48 first.1 (of_scope 52 1 2 first.1 first.4 refl) refl in
    let fourth = of_choice 52 3 53 2 third.1 third.4 refl in
    let none : fourth.1 ≡ [] = of_end 52 4 fourth.1 fourth.4 refl in
    elim fourth.3 [
      | inl b ↦ inl (assembled block_parts refl refl refl refl zs first.0 first.1 third.0 third.1 fourth.0 fourth.1 first.2 third.2 fourth.2 none
          (node_part block_parts refl refl refl refl 19 first.0 first.3 refl refl) (asm_part block_parts refl refl refl refl third.0 third.3) (body_part block_parts refl refl refl refl refl fourth.0 b))
      | inr r ↦ inr (assembled name_parts refl refl refl refl zs first.0 first.1 third.0 third.1 fourth.0 fourth.1 first.2 third.2 fourth.2 none
          (node_part name_parts refl refl refl refl 19 first.0 first.3 refl refl) (asm_part name_parts refl refl refl refl third.0 third.3) (rest_part name_parts refl refl refl refl refl fourth.0 r))
    ]

-- so it has no block, or no rest
pub external_list : (zs : List ℕ) → Brings 1 0 zs → AllIn block_parts zs ⊎ AllIn name_parts zs
unfolding makes_node item_of row table
external_list zs h =
    let first = of_use 1 0 6 zs h refl in
    let second = of_choice 1 1 49 52 first.1 first.4 refl in
    let none : second.1 ≡ [] = of_end 1 2 second.1 second.4 refl in
    let head : first.1 ≡ second.0 = second.2 ∙ (ap (λ (l : List ℕ). second.0 ++ l) none ∙ append-nil second.0) in
    elim second.3 [
      | inl semicolon ↦ inl (two_parts block_parts refl refl refl refl zs first.0 first.1 first.2 (node_part block_parts refl refl refl refl 6 first.0 first.3 refl refl)
          (subst (AllIn block_parts) (sym head) (semicolon_part block_parts refl refl refl refl second.0 semicolon)))
      | inr names ↦ elim (external_names second.0 names) [
        | inl b ↦ inl (two_parts block_parts refl refl refl refl zs first.0 first.1 first.2 (node_part block_parts refl refl refl refl 6 first.0 first.3 refl refl) (subst (AllIn block_parts) (sym head) b))
        | inr r ↦ inr (two_parts name_parts refl refl refl refl zs first.0 first.1 first.2 (node_part name_parts refl refl refl refl 6 first.0 first.3 refl refl) (subst (AllIn name_parts) (sym head) r))
      ]
    ]
