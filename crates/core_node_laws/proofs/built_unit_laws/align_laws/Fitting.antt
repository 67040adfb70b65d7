-- Alignments fit at each row, one after another.
use Rattle.std.proofs.Common.{arith, ◌≡◌, ℕ, zero, suc, ◌<◌, ◌≤◌, List, [], ◌∷◌, take, length, Option, Some, slice_get, sym, subst, inl, inr, pos}
use Rattle.std.specs.Prelude.{true}
use Rattle.std.proofs.lemmas.Bool.{cases_order}
use Rattle.std.proofs.lemmas.List.{take-take, length-take-le}
use Rattle.std.proofs.lemmas.Option.{slice_get_within}
use Rattle.c_types.specs.Trees.{Ctype}
use Rattle.c_types.specs.Layout.{Extent}
use Rattle.core_tree.specs.Typed.{Holds}
use Rattle.c_grammar.specs.Productions.{p_declaration, p_primary}
use Rattle.c_senses.specs.Tree.{Source, is_a, children_at}
use Rattle.c_senses.specs.Given.{Fits}
use Rattle.c_senses.specs.World.{World, extent}
use Rattle.c_senses.specs.Literals.{unsigned_long}
use Rattle.c_senses.specs.Entities.{with_length, length_seen, entity_of}
use Rattle.c_senses.specs.Initialised.{opening}
use Rattle.c_senses.specs.Statements.{objects_declared}
use Rattle.c_senses.specs.Tags.{completed_from, look_of}
use Rattle.c_senses.specs.Sense.{Sense, IsMembers, sense_in}
use Rattle.c_senses.specs.Rows.{AreSenses, world_at, row}
use Rattle.c_initialise.specs.passed.sense_laws.Sound.{IsProper, FurtherIsVariadic}
use Rattle.c_initialise.specs.passed.sense_laws.Senses.{ChildrenFirst, ConstantsFit, StatementGrammar, RunsIn, SoundSense}
use Rattle.c_initialise.specs.passed.sense_laws.Asked.{FirstFits, InitialAsks, OutcomeStands, AskedFit}
use Rattle.c_initialise.proofs.passed.sense_laws.All.{asked_sound, first_fits, weaker_outcome}
use Rattle.core_node_laws.specs.built_unit_laws.align_laws.Aligns.{AllElseFits, AlignsFit, AskedElseFit, AskedAlignsFit}
use Rattle.core_node_laws.proofs.built_unit_laws.align_laws.Low.{HasProperParts, completed_proper, look_of_low, extent_low, low_holds, some_low}

taken_get : (n : ℕ) (xs : List Sense) (i : ℕ) (x : Sense) → slice_get (take n xs) i ≡ Some x → slice_get xs i ≡ Some x
taken_get zero xs i x e = cc
taken_get (suc n) [] i x e = cc
taken_get (suc n) (y ∷ xs) zero x e = e
taken_get (suc n) (y ∷ xs) (suc i) x e = taken_get n xs i x e

parts_of : (w : World) (entities : ℕ → Option Ctype) (x : Sense) → SoundSense w entities x → HasProperParts x
parts_of w entities (IsMembers parts) h = h
parts_of w entities x h = tt

module _ (entities : ℕ → Option Ctype) (s : Source) (senses : List Sense) (are : AreSenses s senses) (first : ChildrenFirst s) (ints : ConstantsFit s) (grammar : StatementGrammar s) (fit : AskedElseFit entities s senses) where
  abbrev AlignsAt : List Sense → ℕ → Type 0
  AlignsAt xs i = (t : Ctype) (e : Extent) → IsProper t → extent (world_at s xs i) t ≡ Some e → Holds unsigned_long (pos e.align)

  -- the first so many senses
  module _ (n : ℕ) (le : n ≤ length senses) where
    long : length (take n senses) ≡ n
    long = length-take-le n senses le

    before : (i : ℕ) → i < length (take n senses) → i < n
    before i lt = omega (arith, lt, long)

    shorter : (i : ℕ) → i < n → take i (take n senses) ≡ take i senses
    shorter i lt = take-take i n senses (omega (arith, lt))

    are_taken : AreSenses s (take n senses)
    are_taken = record {
      within = (let w = are.within in omega (arith, w, le, long));
      each = λ i node x at is.
          let lt : i < n = before i (slice_get_within (take n senses) i x is) in
          subst (λ (xs : List Sense). row s xs i node ≡ Fits x) (sym (shorter i lt)) (are.each i node x at (taken_get n senses i x is));
    }

    fit_taken : ((i : ℕ) → i < n → AlignsAt (take i senses) i) → AskedFit entities s (take n senses)
    fit_taken aligns = record {
      names = λ i lt.
          let few : i < n = before i lt in
          subst (λ (xs : List Sense). is_a s p_primary i ≡ true → FirstFits (world_at s xs i) entities (children_at s i)) (sym (shorter i few)) (fit.names i (omega (arith, few, le)));
      further = λ i lt.
          let few : i < n = before i lt in
          subst (λ (xs : List Sense). is_a s p_primary i ≡ true → FurtherIsVariadic (world_at s xs i) entities) (sym (shorter i few)) (fit.further i (omega (arith, few, le)));
      aligns = λ i lt.
          let few : i < n = before i lt in
          subst (λ (xs : List Sense). AlignsAt xs i) (sym (shorter i few)) (aligns i few);
      runs = λ i lt.
          let few : i < n = before i lt in
          subst (λ (xs : List Sense). (d : ℕ) → is_a s p_declaration d ≡ true → RunsIn (objects_declared (world_at s xs i) s (sense_in xs) d) (sense_in xs d)) (sym (shorter i few)) (fit.runs i (omega (arith, few, le)));
      initials = λ i lt.
          let few : i < n = before i lt in
          subst (λ (xs : List Sense). InitialAsks (OutcomeStands (world_at s xs i) entities s (sense_in xs)) (world_at s xs i) s (sense_in xs) i) (sym (shorter i few)) (fit.initials i (omega (arith, few, le)));
    }

    align_here : ((i : ℕ) → i < n → AlignsAt (take i senses) i) → AlignsAt (take n senses) n
    align_here aligns t e proper at =
        let xs : List Sense = take n senses in
        let sound : (j : ℕ) → HasProperParts (sense_in xs j) = λ j. parts_of (world_at s xs (length xs)) entities (sense_in xs j) (asked_sound entities s xs are_taken first ints grammar (fit_taken aligns) j).0 in
        let tags = completed_from s xs (sense_in xs) 0 in
        let low = extent_low (look_of tags) (look_of_low tags (completed_proper s (sense_in xs) sound xs 0)) t proper in
        low_holds e.align (some_low (extent (world_at s xs n) t) e at low)

  aligns_up : (n : ℕ) → n ≤ length senses → (i : ℕ) → i < n → AlignsAt (take i senses) i
  aligns_up zero le i lt = absurd (omega (arith, lt))
  aligns_up (suc n) le i lt =
      let few : n ≤ length senses = omega (arith, le) in
      elim (cases_order i n) [
        | inl same ↦ subst (λ (k : ℕ). AlignsAt (take k senses) k) (sym same) (align_here n few (aligns_up n few))
        | inr (inl less) ↦ aligns_up n few i less
        | inr (inr more) ↦ absurd (omega (arith, lt, more))
      ]

  all_aligned : (i : ℕ) → i < length senses → AlignsAt (take i senses) i
  all_aligned i lt = aligns_up (length senses) (omega arith) i lt

  asked_fit : AskedFit entities s senses
  asked_fit = record { names = fit.names; further = fit.further; aligns = λ i lt. all_aligned i lt; runs = fit.runs; initials = fit.initials }

pub asked_aligns_fit : AskedAlignsFit
asked_aligns_fit entities s senses are first ints grammar fit = asked_fit entities s senses are first ints grammar fit

asked_of : (entities : ℕ → Option Ctype) (s : Source) (senses : List Sense) → AllElseFits entities s senses → AskedElseFit entities s senses
asked_of entities s senses fit = record {
  names = λ i lt primary. first_fits (world_at s (take i senses) i) entities (fit.names i lt) (children_at s i);
  further = λ i lt primary. fit.further i lt;
  runs = fit.runs;
  initials = λ i lt.
      let w : World = world_at s (take i senses) i in
      let f : ℕ → Sense = sense_in (take i senses) in
      record {
        objects = λ p declarator leaf t is parent rest by name type. weaker_outcome w entities s f (entity_of s f leaf) (with_length (length_seen s f leaf) t) _ ((fit.initials i lt).objects i declarator leaf t type);
        literals = λ p name t is parent over named type. weaker_outcome w entities s f (opening w s f p) t _ ((fit.initials i lt).literals i p t);
      };
}

pub aligns_fit : AlignsFit
aligns_fit entities s senses are first ints grammar fit =
    record { names = fit.names; further = fit.further; aligns = all_aligned entities s senses are first ints grammar (asked_of entities s senses fit); runs = fit.runs; initials = fit.initials }
