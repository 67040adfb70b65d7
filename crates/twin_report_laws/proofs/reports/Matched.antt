-- Lists in order whose entries have their likes in each other are matched one by one.
use Rattle.std.proofs.Common.{◌≡◌, List, [], ◌∷◌, map, Option, Some, slice_get, refl, sym, ◌∙◌, ap, subst, inl, inr}
use Rattle.std.specs.Prelude.{⊤}
use Rattle.std.specs.List.{cons_option}
use Rattle.sol_model.specs.declared.system.CallSite.{CallSite}
use Rattle.unit_report.specs.report_text.Report.{Placed, calls_at}
use Rattle.twin_report_laws.proofs.reports.Spots.{Entry, Where, spot_of, Before, before_then, not_itself, Among, After, InOrder, after_each}

-- what stands for each call of two systems: a line or a value
module _ {A : Type 0} (one other : List CallSite) (line line_there : CallSite → A) where
  -- entries of calls that stand at one place and have one line
  pub record IsPair (e f : Entry) : Type 0 where
    pub call : CallSite
    pub like : CallSite
    pub at : slice_get one e.1 ≡ Some call
    pub there : slice_get other f.1 ≡ Some like
    pub same_line : line_there like ≡ line call
    pub same_place : spot_of e ≡ spot_of f

  abbrev pub AreMatched : Placed → Placed → Type 0
  AreMatched [] [] = ⊤
  AreMatched (e ∷ es) (f ∷ fs) = IsPair e f × AreMatched es fs
  AreMatched es fs = ⊥

  pub lines_matched : (es fs : Placed) → AreMatched es fs → map line_there (calls_at other fs) ≡ map line (calls_at one es)
  lines_matched [] [] h = refl
  lines_matched [] (f ∷ fs) h = elim h [ ]
  lines_matched (e ∷ es) [] h = elim h [ ]
  lines_matched (e ∷ es) (f ∷ fs) h =
      let rest = lines_matched es fs h.1 in
      ap (λ (o : Option CallSite). map line_there (cons_option o (calls_at other fs))) h.0.there
      ∙ (ap (λ (l : A). l ∷ map line_there (calls_at other fs)) h.0.same_line
      ∙ (ap (λ (ls : List A). line h.0.call ∷ ls) rest
      ∙ sym (ap (λ (o : Option CallSite). map line (cons_option o (calls_at one es))) h.0.at)))

  first_pair : (e f : Entry) (es fs : Placed) → After e es → After f fs → (g : Entry) → Among (f ∷ fs) g → IsPair e g → (d : Entry) → Among (e ∷ es) d → IsPair d f → IsPair e f
  first_pair e f es fs after again g (inl same) pair d in_one other_pair = subst (λ (x : Entry). IsPair e x) (sym same) pair
  first_pair e f es fs after again g (inr late) pair d (inl same) other_pair = subst (λ (x : Entry). IsPair x f) (sym same) other_pair
  first_pair e f es fs after again g (inr late) pair d (inr later) other_pair =
      let past : Before (spot_of f) (spot_of e) = subst (λ (w : Where). Before (spot_of f) w) (sym pair.same_place) (after_each f fs g again late) in
      let before : Before (spot_of e) (spot_of f) = subst (λ (w : Where). Before (spot_of e) w) other_pair.same_place (after_each e es d after later) in
      absurd (not_itself (spot_of e) (before_then (spot_of e) (spot_of f) (spot_of e) before past))

  rest_there : (e f x y : Entry) (es fs : Placed) → After e es → IsPair e f → Among es x → Among (f ∷ fs) y → IsPair x y → Among fs y
  rest_there e f x y es fs after first among (inl same) pair =
      let at_first : spot_of x ≡ spot_of e = pair.same_place ∙ (ap spot_of (sym same) ∙ sym first.same_place) in
      absurd (not_itself (spot_of e) (subst (λ (w : Where). Before (spot_of e) w) at_first (after_each e es x after among)))
  rest_there e f x y es fs after first among (inr more) pair = more

  rest_back : (e f x y : Entry) (es fs : Placed) → After f fs → IsPair e f → Among fs y → Among (e ∷ es) x → IsPair x y → Among es x
  rest_back e f x y es fs after first among (inl same) pair =
      let at_first : spot_of y ≡ spot_of f = sym pair.same_place ∙ (ap spot_of (sym same) ∙ first.same_place) in
      absurd (not_itself (spot_of f) (subst (λ (w : Where). Before (spot_of f) w) at_first (after_each f fs y after among)))
  rest_back e f x y es fs after first among (inr more) pair = more

  pub matched : (es fs : Placed) → InOrder es → InOrder fs → ((e : Entry) → Among es e → (f : Entry) × Among fs f × IsPair e f) → ((f : Entry) → Among fs f → (e : Entry) × Among es e × IsPair e f)
      → AreMatched es fs
  matched [] [] ordered again to from = tt
  matched [] (f ∷ fs) ordered again to from = let (e, among, pair) = from f (inl refl) in elim among [ ]
  matched (e ∷ es) [] ordered again to from = let (f, among, pair) = to e (inl refl) in elim among [ ]
  matched (e ∷ es) (f ∷ fs) ordered again to from =
      let (g, in_other, pair) = to e (inl refl) in
      let (d, in_one, other_pair) = from f (inl refl) in
      let first : IsPair e f = first_pair e f es fs ordered.0 again.0 g in_other pair d in_one other_pair in (
        first,
        matched es fs ordered.1 again.1
            (λ x among. let (y, there, same) = to x (inr among) in (y, rest_there e f x y es fs ordered.0 first among there same, same))
            (λ y among. let (x, there, same) = from y (inr among) in (x, rest_back e f x y es fs again.0 first among there same, same)),
      )
