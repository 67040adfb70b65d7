use Rattle.std.proofs.Common.{◌≡◌, ◌∙◌, ℕ, Bool, true, false, cond, Option, Some, None, refl, sym, ap}
use Rattle.std.specs.Prelude.{unwrap_or, option_map, option_and_then, if◌then◌else◌}
use Rattle.c_grammar.specs.Productions.{p_member}
use Rattle.c_senses.specs.Tree.{Source, is_a, children_at, parent_of}
use Rattle.c_senses.specs.Keys.{declaration_with, parts_before}
use Rattle.c_senses.specs.Sense.{Sense}
use Rattle.tree_reads.specs.Sources.{source_in}
use Rattle.unit_keys.proofs.tag_keys.around.position_in.Goals as goal

place_in : Source → (ℕ → Sense) → Option ℕ → ℕ
place_in s sense o = elim o [ None ↦ 0 | Some member ↦ elim (parent_of s member) [ None ↦ 0 | Some list ↦ parts_before s sense member (children_at s list) ] ]

by_parent : (s : Source) (sense : ℕ → Sense) (member : ℕ) (o : Option ℕ) → unwrap_or (option_map (λ p. parts_before s sense member (children_at s p)) o) 0 ≡ (elim o [ None ↦ 0 | Some list ↦ parts_before s sense member (children_at s list) ])
by_parent s sense member None = refl
by_parent s sense member (Some list) = refl

if_some : (b : Bool) (m p : ℕ) → cond b (Some p) None ≡ Some m → (p ≡ m) × (b ≡ true)
if_some true m p e = (cc, refl)
if_some false m p e = cc

-- what is around is a declaration of members
is_member : (s : Source) (o : Option ℕ) (m : ℕ) → option_and_then (λ p. if is_a s p_member p then Some p else None) o ≡ Some m → is_a s p_member m ≡ true
is_member s None m e = cc
is_member s (Some p) m e = let f = if_some (is_a s p_member p) m p e in ap (is_a s p_member) (sym f.0) ∙ f.1

pub returns-in-Some : goal.returns-in-Some
unfolding place_in
returns-in-Some c = λ uses sense are.
    let s : Source = source_in c.args.syntax.now uses in
    let member = c.in-Some.member in
    let around = sym (sym c.in-Some.is ∙ c.member_around.ensures.around uses sense) in
    c.unwrap_or.ensures
    ∙ (ap (λ (o : Option ℕ). unwrap_or o 0) (c.get.ensures ∙ are member (is_member s (declaration_with s sense c.args.node) member around))
    ∙ (by_parent s sense member (parent_of s member) ∙ ap (place_in s sense) (sym c.in-Some.is ∙ c.member_around.ensures.around uses sense)))

pub returns-in-None : goal.returns-in-None
unfolding place_in
returns-in-None c = λ uses sense are.
    let s : Source = source_in c.args.syntax.now uses in
    ap (place_in s sense) (sym c.in-None.is ∙ c.member_around.ensures.around uses sense)
