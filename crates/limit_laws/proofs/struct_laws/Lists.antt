-- A specifier's list stands for members.
use Rattle.std.proofs.Common.{arith, ◌≡◌, ◌<◌, ℕ, suc, Bool, true, false, List, [], ◌∷◌, Option, Some, None, length, slice_get, take, refl, sym, ap, ◌∙◌, subst}
use Rattle.std.specs.Prelude.{if◌then◌else◌}
use Rattle.std.proofs.lemmas.Bool.{eqb-true}
use Rattle.std.proofs.lemmas.Option.{slice_get-get_or}
use Rattle.c_grammar.specs.declared.trees.SyntaxNode.{SyntaxNode}
use Rattle.c_grammar.specs.Productions.{p_members}
use Rattle.c_inits.specs.Made.{Part}
use Rattle.c_senses.specs.Given.{Given, Fits}
use Rattle.c_senses.specs.Tree.{is_a, children_at, first_where, production_at, production_of}
use Rattle.c_senses.specs.Sense.{Sense, Nothing, IsMembers, sense_in}
use Rattle.c_senses.specs.Tags.{members_among}
use Rattle.c_senses.specs.Rows.{world_at, row, row_of}
use Rattle.limit_laws.specs.struct_laws.Laws.{ListsAreMade}

-- what is found first stands there, and passes
pub record IsFound (test : ℕ → Bool) (xs : List ℕ) (c : ℕ) : Type 0 where
  pub place : ℕ
  pub there : slice_get xs place ≡ Some c
  pub passes : test c ≡ true

pub found : (test : ℕ → Bool) (xs : List ℕ) (c : ℕ) → first_where test xs ≡ Some c → IsFound test xs c
found test [] c e = cc
found test (x ∷ xs) c e = by (λ f. found test xs c f) (test x) refl e
  where
    by : (first_where test xs ≡ Some c → IsFound test xs c) → (b : Bool) → test x ≡ b → (if b then Some x else first_where test xs) ≡ Some c → IsFound test (x ∷ xs) c
    by rest true h f = let same : x ≡ c = cc in record { place = 0; there = ap Some same; passes = ap test (sym same) ∙ h }
    by rest false h f = let r = rest f in record { place = suc r.place; there = r.there; passes = r.passes }

same_sense : (x y : Sense) → ◌≡◌ {A = Given Sense} (Fits x) (Fits y) → y ≡ x
same_sense x y e = cc

pub lists_made : ListsAreMade
lists_made s senses at list are first short child =
    let f = found (is_a s p_members) (children_at s at) list child in
    let below : list < at = first at f.place list f.there in
    by (omega (arith, below, short)) (slice_get s.nodes list) refl (eqb-true (production_at s list) p_members f.passes)
  where
    by : list < length senses → (o : Option SyntaxNode) → slice_get s.nodes list ≡ o → production_of o ≡ p_members → (parts : List Part) × (sense_in senses list ≡ IsMembers parts)
    by inside None e p = absurd (omega (arith, p))
    by inside (Some n) e p =
        let before = take list senses in
        let w = world_at s before list in
        let fits : row s before list n ≡ Fits (sense_in senses list) = are.each list n (sense_in senses list) e (slice_get-get_or senses list Nothing inside) in
        let is : row_of w s (sense_in before) p_members list n.children.items ≡ Fits (sense_in senses list) = subst (λ (q : ℕ). row_of w s (sense_in before) q list n.children.items ≡ Fits (sense_in senses list)) p fits in
        (members_among w s (sense_in before) n.children.items, same_sense (IsMembers (members_among w s (sense_in before) n.children.items)) (sense_in senses list) is)
