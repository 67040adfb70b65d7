-- What is known of the first so many nodes, one more at a time.
use Rattle.std.proofs.Common.{arith, ◌≡◌, ◌∙◌, ℕ, ◌+◌, ◌<◌, ◌≤◌, inl, inr, List, [], ◌∷◌, ◌++◌, length, get_or, Option, sym, ap}
use Rattle.std.specs.Prelude.{◌||◌, ◌&&◌, ◌==◌}
use Rattle.std.proofs.lemmas.Bool.{cases_lt}
use Rattle.std.proofs.lemmas.Bool.Decides.{eqb_tells}
use Rattle.std.proofs.lemmas.List.{get_or_append_left, get_or_push, get_or_past}
use Rattle.std.proofs.lemmas.Option.{slice_get_past}
use Rattle.c_grammar.specs.Productions.{p_struct, p_member, p_enum, p_suffix, p_block}
use Rattle.c_grammar.specs.Words.{sign_left_parenthesis}
use Rattle.c_grammar.specs.declared.trees.SyntaxNode.{SyntaxNode}
use Rattle.c_senses.specs.Tree.{Source, production_of, children_of, has_sign, any_where}
use Rattle.tree_reads.specs.declared.node_roles.roles.Role.{Role}
use Rattle.tree_reads.specs.declared.node_roles.roles.Role.TheVariants.{Other}
use Rattle.tree_reads.specs.node_roles.Roles.{role_by, role_at, AreRoles}

module _ (s : Source) where
  pub role_more : (roles new : List Role) (role : Role) (n : ℕ) → length roles ≡ n → new ≡ roles ++ role ∷ [] → role ≡ role_at s n → ((i : ℕ) → i < n → get_or roles i Other ≡ role_at s i) → (i : ℕ) → i < n + 1 → get_or new i Other ≡ role_at s i
  role_more roles new role n long en is are i lt =
      ap (λ (l : List Role). get_or l i Other) en
      ∙ elim (eqb_tells i n) [
        | inl p ↦ get_or_push roles role Other i (long ∙ sym p.1) ∙ (is ∙ ap (role_at s) (sym p.1))
        | inr p ↦ get_or_append_left roles (role ∷ []) Other i (omega (arith, p.1, lt, long)) ∙ are i (omega (arith, p.1, lt))
      ]

  -- what is past the tree is none of these
  role_past : (i : ℕ) → length s.nodes ≤ i → role_at s i ≡ Other
  role_past i le =
      ap (λ (o : Option SyntaxNode).
      role_by (production_of o == p_struct) (production_of o == p_enum) (production_of o == p_member)
      ((production_of o == p_block) || ((production_of o == p_suffix) && any_where (has_sign s sign_left_parenthesis) (children_of o))))
      (slice_get_past s.nodes i le)

  pub roles_known : (roles : List Role) (n : ℕ) → length roles ≡ n → n ≡ length s.nodes → ((i : ℕ) → i < n → get_or roles i Other ≡ role_at s i) → AreRoles s roles
  roles_known roles n long all are = λ i. elim (cases_lt i n) [
    | inl lt ↦ are i lt
    | inr le ↦ get_or_past roles i Other (omega (arith, le, long)) ∙ sym (role_past i (omega (arith, le, all)))
  ]
