-- What was found of a call.
use Rattle.std.proofs.Common.{◌≡◌, ◌↔◌, ℕ, ◌⊎◌, Bool, true, List, Some, slice_get, Contains, refl, sym, ◌∙◌, ap, subst, inl, inr}
use Rattle.std.specs.List.{list_any}
use Rattle.sol_model.specs.declared.system.System.{System}
use Rattle.sol_model.specs.declared.system.CallSite.{CallSite}
use Rattle.sol_model.specs.declared.system.Function.{Function}
use Rattle.sol_model.specs.Families.{Family, Has}
use Rattle.sol_model.specs.Rules.{IsTarget}
use Rattle.sol_model.specs.Systems.{IsValid, IsLocation}
use Rattle.call_graph.specs.Graph.{IsFunctionAt}
use Rattle.stop_places.specs.declared.targets.Judged.{Judged}
use Rattle.stop_places.specs.declared.targets.Found.TheVariants.{Stranger, Library}
use Rattle.stop_places.specs.Targets.{ReachesLibrary, ReachesSomeLibrary, ReachesNamed, ReachesWalker, ReachesEnder, HasStranger, walkers, enders}
use Rattle.stop_places.specs.Found.{found_at, function_at, is_library, is_walker, is_bad, AreJudged, IsJudged}
use Rattle.stop_places.proofs.Pushed.{any_in, in_any}
use Rattle.stop_places.proofs.Finding.{stands, stood, library_from, library_to, stranger_from, stranger_to, is_library_from, is_walker_from, is_bad_from, is_named_from, is_named_to}

module _ (system : System) (F : Family) (call : CallSite) (held : List ℕ) (valid : IsValid system)
    (known : (l : ℕ) → Has F call.callee l → IsLocation system l) (has : (l : ℕ) → Contains held l ↔ Has F call.callee l) where
  -- a library function that is found at a member of the row is reached
  reached : (l k : ℕ) → Contains held l → found_at system call.signature l ≡ Library k → ReachesLibrary system F call k
  reached l k there is =
      let a = library_from call.signature (function_at system l) k is in
      let b = stands system l a.0 valid a.1 in
      (b.0, a.0, record { known = b.1; reached = subst (Has F call.callee) (sym b.2) ((has l).0 there); agrees = a.2 }, a.3)

  -- and one that is reached is found
  found : (k : ℕ) → (r : ReachesLibrary system F call k) → found_at system call.signature r.1.location ≡ Library k
  found k r =
      library_to call.signature (function_at system r.1.location) r.1 k
      (stood system r.1.location r.0 r.1 valid (known r.1.location r.2.reached) r.2.known refl) r.2.agrees r.3

  library_is : list_any (λ l. is_library (found_at system call.signature l)) held ≡ true ↔ ReachesSomeLibrary system F call
  library_is = (
    (λ h.
        let a = any_in (λ l. is_library (found_at system call.signature l)) held h in
        let b = is_library_from (found_at system call.signature a.0) a.2 in
        (b.0, reached a.0 b.0 a.1 b.1)),
    (λ r. in_any (λ l. is_library (found_at system call.signature l)) held r.1.1.location ((has r.1.1.location).1 r.1.2.reached) (ap is_library (found r.0 r.1))),
  )

  walker_is : list_any (λ l. is_walker (found_at system call.signature l)) held ≡ true ↔ ReachesWalker system F call
  walker_is = (
    (λ h.
        let a = any_in (λ l. is_walker (found_at system call.signature l)) held h in
        let b = is_walker_from (found_at system call.signature a.0) a.2 in
        (b.0, reached a.0 b.0 a.1 b.1, is_named_from walkers b.0 b.2)),
    (λ r.
        in_any (λ l. is_walker (found_at system call.signature l)) held r.1.1.location ((has r.1.1.location).1 r.1.2.reached)
        (ap is_walker (found r.0 r.1) ∙ is_named_to walkers r.0 r.2)),
  )

  -- a member of the row at which no function of the signature stands
  stranger : (l : ℕ) → Contains held l → found_at system call.signature l ≡ Stranger → HasStranger system F call
  stranger l there is = record {
    location = l;
    has = (has l).0 there;
    other = λ number f at.
        stranger_from call.signature (function_at system l) f is
        (stood system l number f valid (known l ((has l).0 there)) at.known at.stands) at.agrees;
  }

  strange : (s : HasStranger system F call) → found_at system call.signature s.location ≡ Stranger
  strange s = stranger_to call.signature (function_at system s.location) (λ f is agrees.
      let b = stands system s.location f valid is in s.other b.0 f (record { known = b.1; stands = b.2; agrees = agrees }))

  bad_from : list_any (λ l. is_bad (found_at system call.signature l)) held ≡ true → HasStranger system F call ⊎ ReachesEnder system F call
  bad_from h =
      let a = any_in (λ l. is_bad (found_at system call.signature l)) held h in
      elim (is_bad_from (found_at system call.signature a.0) a.2) [
        | inl is ↦ inl (stranger a.0 a.1 is)
        | inr b ↦ inr (b.0, reached a.0 b.0 a.1 b.1, is_named_from enders b.0 b.2)
      ]

  bad_to : HasStranger system F call ⊎ ReachesEnder system F call → list_any (λ l. is_bad (found_at system call.signature l)) held ≡ true
  bad_to h = elim h [
    | inl s ↦ in_any (λ l. is_bad (found_at system call.signature l)) held s.location ((has s.location).1 s.has) (ap is_bad (strange s))
    | inr r ↦ in_any (λ l. is_bad (found_at system call.signature l)) held r.1.1.location ((has r.1.1.location).1 r.1.2.reached)
        (ap is_bad (found r.0 r.1) ∙ is_named_to enders r.0 r.2)
  ]

  pub judged_so : (judged : Judged) → AreJudged system call.signature held judged → IsJudged system F call judged
  judged_so judged are = record {
    library = (λ h. library_is.0 (sym are.library ∙ h), λ r. are.library ∙ library_is.1 r);
    mismatch = (λ h. walker_is.0 (sym are.mismatch ∙ h), λ r. are.mismatch ∙ walker_is.1 r);
    bad = (λ h. bad_from (sym are.bad ∙ h), λ r. are.bad ∙ bad_to r);
  }
