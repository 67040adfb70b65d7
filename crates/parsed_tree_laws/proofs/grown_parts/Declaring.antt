-- The parts of declarations.
use Rattle.std.proofs.Common.{◌≡◌, ℕ, ◌⊎◌, inl, inr, true, List, [], ◌∷◌, ◌++◌, refl, sym, ap, ◌∙◌, subst, append-nil}
use Rattle.std.specs.Prelude.{⊤}
use Rattle.c_lexer.specs.declared.TokenKind.TheVariants.{Punctuator}
use Rattle.c_grammar.specs.Table.{table, row, item_of}
use Rattle.c_grammar.specs.Tree.{makes_node}
use Rattle.c_grammar.specs.Terminals.{contains}
use Rattle.c_grammar.specs.Reads.{leaf}
use Rattle.c_grammar.specs.Words.{sign_semicolon, sign_comma, sign_assign}
use Rattle.parsed_tree_laws.specs.grown_parts.Parts.{Brings, Part}
use Rattle.parsed_tree_laws.proofs.grown_parts.Rows.{of_end, of_token, of_use, of_choice, of_scope, of_node, of_row, all_repeated}

-- all are among some productions
abbrev pub AllIn : List ℕ → List ℕ → Type 0
AllIn allowed [] = ⊤
AllIn allowed (z ∷ zs) = (contains allowed z ≡ true) × AllIn allowed zs

pub in_append : (allowed xs ys : List ℕ) → AllIn allowed xs → AllIn allowed ys → AllIn allowed (xs ++ ys)
in_append allowed [] ys h k = k
in_append allowed (x ∷ xs) ys h k = (h.0, in_append allowed xs ys h.1 k)

-- nothing, or one node
no_part : (zs : List ℕ) → Part 48 zs → zs ≡ []
unfolding makes_node item_of row table
no_part zs h = of_end 48 0 zs (of_row 48 zs h refl) refl

semicolon_part : (zs : List ℕ) → Part 49 zs → zs ≡ leaf ∷ []
unfolding makes_node item_of row table
semicolon_part zs h =
    let first = of_token 49 0 (Punctuator sign_semicolon) zs (of_row 49 zs h refl) refl in first.1 ∙ ap (λ (l : List ℕ). leaf ∷ l) (of_end 49 1 first.0 first.2 refl)

asm_part : (zs : List ℕ) → Part 5 zs ⊎ Part 48 zs → (zs ≡ 5 ∷ []) ⊎ (zs ≡ [])
unfolding makes_node
asm_part zs (inl h) = inl (of_node 5 zs h refl)
asm_part zs (inr h) = inr (no_part zs h)

-- an initialiser behind its sign
initialised_part : (zs : List ℕ) → Part 54 zs → zs ≡ leaf ∷ 25 ∷ []
unfolding makes_node item_of row table
initialised_part zs h =
    let first = of_token 54 0 (Punctuator sign_assign) zs (of_row 54 zs h refl) refl in
    let second = of_use 54 1 25 first.0 first.2 refl in
    first.1 ∙ ap (λ (l : List ℕ). leaf ∷ l) (second.2 ∙ (ap (λ (l : List ℕ). l ++ second.1) (of_node 25 second.0 second.3 refl) ∙ ap (λ (l : List ℕ). 25 ∷ l) (of_end 54 2 second.1 second.4 refl)))

maybe_initialised : (zs : List ℕ) → Part 54 zs ⊎ Part 48 zs → (zs ≡ leaf ∷ 25 ∷ []) ⊎ (zs ≡ [])
maybe_initialised zs (inl h) = inl (initialised_part zs h)
maybe_initialised zs (inr h) = inr (no_part zs h)

-- 6.7: a declaration: a static assertion, specifiers alone, or specifiers, a declarator and the rest
pub data IsDeclarationList : List ℕ → Type 0 where
  Asserts : IsDeclarationList (4 ∷ [])
  Alone : IsDeclarationList (6 ∷ leaf ∷ [])
  Names : IsDeclarationList (6 ∷ 19 ∷ 2 ∷ [])
  NamesAsm : IsDeclarationList (6 ∷ 19 ∷ 5 ∷ 2 ∷ [])

declared_names : (zs : List ℕ) → Part 57 zs → (zs ≡ 19 ∷ 2 ∷ []) ⊎ (zs ≡ 19 ∷ 5 ∷ 2 ∷ [])
unfolding makes_node item_of row table
declared_names zs h =
    let first = of_use 57 0 19 zs (of_row 57 zs h refl) refl in
    let second = of_scope 57 1 2 first.1 first.4 refl in
    let third = of_choice 57 2 5 48 first.1 second refl in
    let fourth = of_use 57 3 2 third.1 third.4 refl in
    let begins : zs ≡ 19 ∷ first.1 = first.2 ∙ ap (λ (l : List ℕ). l ++ first.1) (of_node 19 first.0 first.3 refl) in
    let ends : third.1 ≡ 2 ∷ [] = fourth.2 ∙ (ap (λ (l : List ℕ). l ++ fourth.1) (of_node 2 fourth.0 fourth.3 refl) ∙ ap (λ (l : List ℕ). 2 ∷ l) (of_end 57 4 fourth.1 fourth.4 refl)) in
    elim (asm_part third.0 third.3) [
      | inl asm ↦ inr (begins ∙ ap (λ (l : List ℕ). 19 ∷ l) (third.2 ∙ (ap (λ (l : List ℕ). l ++ third.1) asm ∙ ap (λ (l : List ℕ). 5 ∷ l) ends)))
      | inr none ↦ inl (begins ∙ ap (λ (l : List ℕ). 19 ∷ l) (third.2 ∙ (ap (λ (l : List ℕ). l ++ third.1) none ∙ ends)))
    ]

declaration_names : (zs : List ℕ) → Part 56 zs → IsDeclarationList zs
unfolding makes_node item_of row table
declaration_names zs h =
    let first = of_use 56 0 6 zs (of_row 56 zs h refl) refl in
    let second = of_choice 56 1 49 57 first.1 first.4 refl in
    let begins : zs ≡ 6 ∷ first.1 = first.2 ∙ ap (λ (l : List ℕ). l ++ first.1) (of_node 6 first.0 first.3 refl) in
    let ends : first.1 ≡ second.0 = second.2 ∙ (ap (λ (l : List ℕ). second.0 ++ l) (of_end 56 2 second.1 second.4 refl) ∙ append-nil second.0) in
    elim second.3 [
      | inl alone ↦ subst IsDeclarationList (sym (begins ∙ ap (λ (l : List ℕ). 6 ∷ l) (ends ∙ semicolon_part second.0 alone))) Alone
      | inr names ↦ elim (declared_names second.0 names) [
        | inl plain ↦ subst IsDeclarationList (sym (begins ∙ ap (λ (l : List ℕ). 6 ∷ l) (ends ∙ plain))) Names
        | inr asm ↦ subst IsDeclarationList (sym (begins ∙ ap (λ (l : List ℕ). 6 ∷ l) (ends ∙ asm))) NamesAsm
      ]
    ]

pub declaration_list : (zs : List ℕ) → Brings 3 0 zs → IsDeclarationList zs
unfolding makes_node item_of row table
declaration_list zs h =
    let first = of_choice 3 0 4 56 zs h refl in
    let ends : zs ≡ first.0 = first.2 ∙ (ap (λ (l : List ℕ). first.0 ++ l) (of_end 3 1 first.1 first.4 refl) ∙ append-nil first.0) in
    elim first.3 [
      | inl assert ↦ subst IsDeclarationList (sym (ends ∙ of_node 4 first.0 assert refl)) Asserts
      | inr names ↦ subst IsDeclarationList (sym ends) (declaration_names first.0 names)
    ]

-- the rest of a declaration: tokens, initialisers, declarators and names for the assembler
abbrev pub rest_parts : List ℕ
rest_parts = leaf ∷ 25 ∷ 19 ∷ 5 ∷ []

maybe_in : (zs : List ℕ) → (zs ≡ leaf ∷ 25 ∷ []) ⊎ (zs ≡ []) → AllIn rest_parts zs
maybe_in zs (inl e) = subst (AllIn rest_parts) (sym e) (refl, (refl, tt))
maybe_in zs (inr e) = subst (AllIn rest_parts) (sym e) tt

asm_in : (zs : List ℕ) → (zs ≡ 5 ∷ []) ⊎ (zs ≡ []) → AllIn rest_parts zs
asm_in zs (inl e) = subst (AllIn rest_parts) (sym e) (refl, tt)
asm_in zs (inr e) = subst (AllIn rest_parts) (sym e) tt

more_names : (zs : List ℕ) → Part 55 zs → AllIn rest_parts zs
unfolding makes_node item_of row table
more_names zs h =
    let first = of_token 55 0 (Punctuator sign_comma) zs (of_row 55 zs h refl) refl in
    let second = of_use 55 1 19 first.0 first.2 refl in
    let third = of_choice 55 3 5 48 second.1 (of_scope 55 2 2 second.1 second.4 refl) refl in
    let fourth = of_choice 55 4 54 48 third.1 third.4 refl in
    let ends : AllIn rest_parts fourth.1 = subst (AllIn rest_parts) (sym (of_end 55 5 fourth.1 fourth.4 refl)) tt in
    let more : AllIn rest_parts third.1 = subst (AllIn rest_parts) (sym fourth.2) (in_append rest_parts fourth.0 fourth.1 (maybe_in fourth.0 (maybe_initialised fourth.0 fourth.3)) ends) in
    let names : AllIn rest_parts second.1 = subst (AllIn rest_parts) (sym third.2) (in_append rest_parts third.0 third.1 (asm_in third.0 (asm_part third.0 third.3)) more) in
    let both : AllIn rest_parts first.0 = subst (AllIn rest_parts) (sym second.2) (in_append rest_parts second.0 second.1 (subst (AllIn rest_parts) (sym (of_node 19 second.0 second.3 refl)) (refl, tt)) names) in
    subst (AllIn rest_parts) (sym first.1) (refl, both)

pub rest_list : (zs : List ℕ) → Brings 2 0 zs → AllIn rest_parts zs
unfolding makes_node item_of row table
rest_list zs h =
    let first = of_choice 2 0 54 48 zs h refl in
    let last = λ (ys : List ℕ) (b : Brings 2 2 ys).
    let token = of_token 2 2 (Punctuator sign_semicolon) ys b refl in
    subst (AllIn rest_parts) (sym (token.1 ∙ ap (λ (l : List ℕ). leaf ∷ l) (of_end 2 3 token.0 token.2 refl))) (refl, tt) in
    let more : AllIn rest_parts first.1 = all_repeated (AllIn rest_parts) 2 1 55 refl last (λ xs ys x y. in_append rest_parts xs ys (more_names xs x) y) first.1 first.4 in
    subst (AllIn rest_parts) (sym first.2) (in_append rest_parts first.0 first.1 (maybe_in first.0 (maybe_initialised first.0 first.3)) more)
