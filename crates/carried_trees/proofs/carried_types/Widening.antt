-- Tables that get types, tags, and members of tags, one step after another.
use Rattle.std.proofs.Common.{arith, ◌≡◌, ◌∙◌, ℕ, ◌+◌, ◌<◌, List, [], ◌∷◌, ◌++◌, length, length-append, Option, refl, sym, ap, subst}
use Rattle.c_types.specs.declared.term.Term.{Term}
use Rattle.c_types.specs.Trees.{Ctype, tree_at, grown}
use Rattle.c_types.specs.Table.{Table, TagMembers, type_of, extent_in, members_in, members_among}
use Rattle.carried_trees.specs.carried_types.Terms.{IsGrown}
use Rattle.carried_trees.specs.carried_types.Members.{AreAdded}
use Rattle.carried_trees.specs.carried_types.Wider.{IsWider}

pub wider_self : (table : Table) → IsWider table table
wider_self table = record { terms = omega arith; types = λ id h. refl; tags = omega arith; members = λ tag ms h. h; extents = λ t e h. h }

pub wider_on : (a b c : Table) → IsWider a b → IsWider b c → IsWider a c
wider_on a b c p q = record {
  terms = omega (arith, p.terms, q.terms);
  types = λ id h. q.types id (omega (arith, p.terms)) ∙ p.types id h;
  tags = omega (arith, p.tags, q.tags);
  members = λ tag ms h. q.members tag ms (p.members tag ms h);
  extents = λ t e h. q.extents t e (p.extents t e h);
}

pub wider_tag : (old new : Table) → new ≡ record old { tags = old.tags + 1 } → IsWider old new
wider_tag old new is = subst (IsWider old) (sym is) (record { terms = omega arith; types = λ id h. refl; tags = omega arith; members = λ tag ms h. h; extents = λ t e h. h })

pub wider_term : (old new : Table) (term : Term) → new ≡ record old { terms = old.terms ++ term ∷ [] } → ((i : ℕ) → i < length old.terms → type_of new i ≡ type_of old i) → ((t : Ctype) → extent_in new t ≡ extent_in old t) → IsWider old new
wider_term old new term is kept extents = record {
  terms = let l : length (old.terms ++ term ∷ []) ≡ length old.terms + 1 = length-append old.terms (term ∷ []) in let e : length new.terms ≡ length (old.terms ++ term ∷ []) = ap (λ (t : Table). length t.terms) is in omega arith;
  types = kept;
  tags = let e : new.tags ≡ old.tags = ap (λ (t : Table). t.tags) is in omega arith;
  members = λ tag ms h. ap (λ (t : Table). members_in t tag) is ∙ h;
  extents = λ t e h. extents t ∙ h;
}

pub wider_grown : (old new : Table) → IsGrown old new → IsWider old new
wider_grown old new g = record {
  terms = g.terms;
  types = g.types;
  tags = let e = g.tags in omega arith;
  members = λ tag ms h. ap (λ (cs : List TagMembers). members_among cs tag) g.completed ∙ h;
  extents = λ t e h. g.extents t ∙ h;
}

pub wider_added : (tag : ℕ → Option Ctype) (from old new : Table) → AreAdded tag from old new → IsWider old new
wider_added tag from old new g = record {
  terms = let e = ap (length {A = Term}) g.terms in omega arith;
  types = λ id h. ap (λ (ts : List Term). tree_at (grown [] ts) id) g.terms;
  tags = let e = g.tags in omega arith;
  members = g.kept;
  extents = g.extents;
}
