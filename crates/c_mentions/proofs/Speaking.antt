-- The nodes that may do something to names: all others do nothing.
use Rattle.std.proofs.Common.{◌≡◌, ℕ, zero, suc, ◌+◌, ◌<◌, Bool, true, false, ◌||◌, eqb, eqb-true, Option, Some, None, List, [], ◌∷◌, ◌++◌, filter, length, get_or, cond, refl, sym, ap, subst, ◌∙◌, arith}
use Rattle.std.proofs.lemmas.List.Elements.{filter-append}
use Rattle.std.proofs.lemmas.Option.{slice_get-get_or}
use Rattle.std.specs.List.{range_with_len, slice_get}
use Rattle.c_lexer.specs.declared.Token.{Token}
use Rattle.c_grammar.specs.declared.trees.SyntaxNode.{SyntaxNode}
use Rattle.c_grammar.specs.Reads.{Node, node_of, leaf}
use Rattle.c_grammar.specs.Productions.{p_declarator, p_either, p_enumerator}
use Rattle.c_mentions.specs.declared.mentions.Mention.TheVariants as mention
use Rattle.c_mentions.specs.declared.roles.Role.{Role}
use Rattle.c_mentions.specs.Declarators.{declarator}
use Rattle.c_mentions.specs.Syntax.{nodes_of, is_identifier, is_name, token_kind, token_at, production_at}
use Rattle.c_mentions.specs.Mentions.{mention_at, end_mention, leaf_mention, name_at, enumerator_mention, declarator_mention, ends_name, node_speaks, speaks, speaks_of}
use Rattle.c_mentions.proofs.Nodes.{length-nodes_of, get_or-nodes_of}

range_next : (a n : ℕ) → range_with_len a (suc n) ≡ range_with_len a n ++ (a + n) ∷ []
range_next a zero = let e : a ≡ a + 0 = omega arith in ap (λ k. k ∷ []) e
range_next a (suc n) = let e : a + 1 + n ≡ a + suc n = omega arith in ap (λ l. a ∷ l) (range_next (a + 1) n ∙ ap (λ k. range_with_len (a + 1) n ++ k ∷ []) e)

pub range_more : (n : ℕ) → range_with_len 0 (n + 1) ≡ range_with_len 0 n ++ n ∷ []
range_more n =
    let e : n + 1 ≡ suc n = omega arith in
    let f : 0 + n ≡ n = omega arith in
    ap (range_with_len 0) e ∙ (range_next 0 n ∙ ap (λ k. range_with_len 0 n ++ k ∷ []) f)

kept : (p : ℕ → Bool) (n : ℕ) → filter p (range_with_len 0 (n + 1)) ≡ filter p (range_with_len 0 n) ++ filter p (n ∷ [])
kept p n = ap (filter p) (range_more n) ∙ filter-append p (range_with_len 0 n) (n ∷ [])

-- a number more that passes, and one that doesn't
pub kept_more : (p : ℕ → Bool) (n : ℕ) (old new : List ℕ) → p n ≡ true → old ≡ filter p (range_with_len 0 n) → new ≡ old ++ n ∷ [] → new ≡ filter p (range_with_len 0 (n + 1))
kept_more p n old new e h g = g ∙ (ap (λ l. l ++ n ∷ []) h ∙ (ap (λ b. filter p (range_with_len 0 n) ++ cond b (n ∷ []) []) (sym e) ∙ sym (kept p n)))

nothing_more : (l : List ℕ) → l ≡ l ++ []
nothing_more [] = refl
nothing_more (x ∷ l) = ap (λ k. x ∷ k) (nothing_more l)

pub kept_same : (p : ℕ → Bool) (n : ℕ) (old : List ℕ) → p n ≡ false → old ≡ filter p (range_with_len 0 n) → old ≡ filter p (range_with_len 0 (n + 1))
kept_same p n old e h = h ∙ (nothing_more (filter p (range_with_len 0 n)) ∙ (ap (λ b. filter p (range_with_len 0 n) ++ cond b (n ∷ []) []) (sym e) ∙ sym (kept p n)))

-- what the code sees of a node
pub node_here : (tokens : List Token) (nodes : List SyntaxNode) (n : ℕ) (d : SyntaxNode) → n < length nodes → node_speaks tokens (node_of (get_or nodes n d)) ≡ speaks tokens (nodes_of nodes) n
node_here tokens nodes n d l =
    let within : n < length (nodes_of nodes) = omega (arith, length-nodes_of nodes) in
    ap (node_speaks tokens) (sym (get_or-nodes_of nodes n d)) ∙ sym (ap (speaks_of tokens) (slice_get-get_or (nodes_of nodes) n (node_of d) within))

or_first_false : (a b : Bool) → a || b ≡ false → a ≡ false
or_first_false true b e = cc
or_first_false false b e = refl

or_second_false : (a b : Bool) → a || b ≡ false → b ≡ false
or_second_false true b e = cc
or_second_false false b e = e

-- the end of no declaration
unended : (tokens : List Token) (symbol : ℕ → ℕ) (nodes : List Node) (n : ℕ) (role : Role) → ends_name (production_at nodes n) ≡ false → end_mention tokens symbol nodes n role ≡ mention.Nothing
unfolding end_mention
unended tokens symbol nodes n role e =
    let p = production_at nodes n in
    let a : eqb p p_enumerator ≡ false = or_first_false (eqb p p_enumerator) (eqb p p_declarator || eqb p p_either) e in
    let b : eqb p p_declarator || eqb p p_either ≡ false = or_second_false (eqb p p_enumerator) (eqb p p_declarator || eqb p p_either) e in
    ap (λ t. cond t (enumerator_mention symbol nodes n) (cond (eqb p p_declarator || eqb p p_either) (declarator_mention symbol nodes (declarator tokens nodes n) role) mention.Nothing)) a
    ∙ ap (λ t. cond t (declarator_mention symbol nodes (declarator tokens nodes n) role) mention.Nothing) b

leaf_or_end : (tokens : List Token) (nodes : List Node) (n : ℕ) (o : Option Node) → slice_get nodes n ≡ o → speaks_of tokens o ≡ false → (is_name tokens nodes n ≡ false) × (ends_name (production_at nodes n) ≡ false)
leaf_or_end tokens nodes n None h e = (rw h refl, rw h refl)
leaf_or_end tokens nodes n (Some x) h e = by_leaf (eqb x.production leaf) refl
  where
    by_leaf : (b : Bool) → eqb x.production leaf ≡ b → (is_name tokens nodes n ≡ false) × (ends_name (production_at nodes n) ≡ false)
    by_leaf true q =
        let e2 : is_identifier (token_kind tokens x.token) ≡ false = subst (λ (t : Bool). cond t (is_identifier (token_kind tokens x.token)) (ends_name x.production) ≡ false) q e in
        let at : x.production ≡ leaf = eqb-true x.production leaf q in
        (rw h (rw q e2), rw h (subst (λ p. ends_name p ≡ false) (sym at) refl))
    by_leaf false q =
        let e2 : ends_name x.production ≡ false = subst (λ (t : Bool). cond t (is_identifier (token_kind tokens x.token)) (ends_name x.production) ≡ false) q e in
        (rw h (rw q refl), rw h e2)

-- any other node does nothing, wherever it stands
pub silent : (text : List ℕ) (tokens : List Token) (symbol : ℕ → ℕ) (nodes : List Node) (n : ℕ) (in_body : Bool) (role : Role) → speaks tokens nodes n ≡ false → mention_at text tokens symbol nodes n in_body role ≡ mention.Nothing
unfolding mention_at
silent text tokens symbol nodes n in_body role e =
    let h = leaf_or_end tokens nodes n (slice_get nodes n) refl e in
    ap (λ t. cond t (leaf_mention (name_at text tokens (token_at nodes n)) (symbol (token_at nodes n)) n in_body role) (end_mention tokens symbol nodes n role)) h.0
    ∙ unended tokens symbol nodes n role h.1
