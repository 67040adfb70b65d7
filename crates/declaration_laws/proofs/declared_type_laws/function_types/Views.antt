-- Leaves as name resolution and as the rows see them.
use Rattle.std.proofs.Common.{◌≡◌, ℕ, ◌==◌, ◌&&◌, nat_eq, Bool, true, false, Option, Some, None, slice_get, refl, sym, ap, ◌∙◌}
use Rattle.std.specs.Prelude.{option_map, if◌then◌else◌}
use Rattle.std.proofs.lemmas.Option.{slice_get-map}
use Rattle.c_lexer.specs.declared.Token.{Token}
use Rattle.c_lexer.specs.declared.TokenKind.{TokenKind}
use Rattle.c_lexer.specs.declared.TokenKind.TheVariants.{Identifier, Punctuator, End}
use Rattle.c_grammar.specs.declared.trees.SyntaxNode.{SyntaxNode}
use Rattle.c_grammar.specs.Reads.{Node, node_of, leaf}
use Rattle.c_mentions.specs.Syntax as syntax
use Rattle.c_senses.specs.Tree.{Source, production_of, is_a, is_name, has_sign, is_identifier, is_number, sign_of_kind, kind_of_token, token_of}
use Rattle.declaration_laws.proofs.declared_type_laws.owner_laws.passed.definition_laws.linkage_laws.Seen.{nodes}

kind_same : (o : Option Token) → syntax.kind_of o ≡ kind_of_token o
kind_same None = refl
kind_same (Some t) = refl

sign_kind : (k : TokenKind) (g : ℕ) → syntax.is_punctuator k g ≡ is_number (sign_of_kind k) g
sign_kind (Punctuator p) g = refl
sign_kind k g = refl

name_kind : (k : TokenKind) → syntax.is_identifier k ≡ is_identifier k
name_kind Identifier = refl
name_kind k = refl

module _ (s : Source) where
  abbrev leaf_of : Option Node → TokenKind
  leaf_of o = if syntax.production_of o == leaf then syntax.token_kind s.tokens (syntax.token_of o) else End

  pub sign_same : (g k : ℕ) → syntax.is_sign s.tokens (nodes s) k g ≡ has_sign s g k
  sign_same g k = ap (λ (o : Option Node). syntax.is_punctuator (leaf_of o) g) (slice_get-map node_of s.nodes k) ∙ by (slice_get s.nodes k)
    where
      of : (b : Bool) (o : Option Token) → syntax.is_punctuator (if b then syntax.kind_of o else End) g ≡ (b && is_number (sign_of_kind (kind_of_token o)) g)
      of true o = sign_kind (syntax.kind_of o) g ∙ ap (λ (x : TokenKind). is_number (sign_of_kind x) g) (kind_same o)
      of false o = refl

      by : (o : Option SyntaxNode) → syntax.is_punctuator (leaf_of (option_map node_of o)) g ≡ ((production_of o == leaf) && is_number (sign_of_kind (kind_of_token (token_of s o))) g)
      by None = refl
      by (Some n) = of (n.production == leaf) (slice_get s.tokens n.token)

  pub name_same : (k : ℕ) → syntax.is_name s.tokens (nodes s) k ≡ is_name s k
  name_same k = ap (λ (o : Option Node). syntax.is_identifier (leaf_of o)) (slice_get-map node_of s.nodes k) ∙ by (slice_get s.nodes k)
    where
      of : (b : Bool) (o : Option Token) → syntax.is_identifier (if b then syntax.kind_of o else End) ≡ (b && is_identifier (kind_of_token o))
      of true o = name_kind (syntax.kind_of o) ∙ ap is_identifier (kind_same o)
      of false o = refl

      by : (o : Option SyntaxNode) → syntax.is_identifier (leaf_of (option_map node_of o)) ≡ ((production_of o == leaf) && is_identifier (kind_of_token (token_of s o)))
      by None = refl
      by (Some n) = of (n.production == leaf) (slice_get s.tokens n.token)

  -- a node of a production, if that is neither a leaf's nor nothing
  pub part_same : (p k : ℕ) → nat_eq 48 p ≡ false → nat_eq leaf p ≡ false → syntax.is_of (nodes s) p k ≡ is_a s p k
  part_same p k nothing no_leaf = ap (λ (o : Option Node). nat_eq (syntax.production_of o) p) (slice_get-map node_of s.nodes k) ∙ by (slice_get s.nodes k)
    where
      by : (o : Option SyntaxNode) → nat_eq (syntax.production_of (option_map node_of o)) p ≡ nat_eq (production_of o) p
      by None = nothing ∙ sym no_leaf
      by (Some n) = refl
