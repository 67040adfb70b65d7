-- How what the open productions lead to goes on from step to step.
use Rattle.std.proofs.Common.{◌≡◌, ℕ, zero, suc, ◌+◌, ◌≤◌, true, false, Option, Some, None, Result, Ok, Err, List, [], ◌∷◌, ◌++◌, length, refl, sym, ap, subst, arith}
use Rattle.c_lexer.specs.declared.Token.{Token}
use Rattle.c_grammar.specs.Names.{Names}
use Rattle.c_grammar.specs.declared.trees.SyntaxNode.{SyntaxNode}
use Rattle.c_grammar.specs.declared.rows.Item.TheVariants as item
use Rattle.c_grammar.specs.Table.{item_of}
use Rattle.c_grammar.specs.Tree.{makes_node, nests}
use Rattle.c_grammar.specs.Refusals.{refusal}
use Rattle.c_grammar.specs.Reads.{State, Fault, Walks, Opens, at_end, use_of, no_use, choice, no_choice, again, no_again, first, second, chosen_at, fits_at, most_nested}
use Rattle.c_parser.specs.declared.reader.Own.{Own}
use Rattle.c_parser.specs.declared.reader.Frame.{Frame}
use Rattle.c_parser.specs.declared.reader.Progress.{Progress}
use Rattle.c_parser.specs.declared.ParseFault.{ParseFault}
use Rattle.c_parser.specs.declared.ParseFault.TheVariants.{Malformed, Unsupported, TooDeep, OutOfMemory}
use Rattle.std.specs.Result.{MatchResult}
use Rattle.c_grammar.specs.Notes.{noted, notes_begin}
use Rattle.c_parser.specs.Parse.{state, Sees, Faults}
use Rattle.c_parser.proofs.Steps.{own_begin, read_own, broken_own, helper, faults_map}
use Rattle.c_parser.specs.Levels.{is_run, outside}
use Rattle.c_parser.specs.Leads.{Kept, kept, ended, ended_by, Rises, Ended, Passes, Ends, Leads, IsAdvanced, IsEntered, IsFaulty, IsTurned}

pub no_more : {A : Type 0} (xs : List A) → length xs ≡ 0 → xs ≡ []
no_more [] e = refl
no_more (x ∷ xs) e = absurd (omega arith)

pub kept_own : (own : Option Own) (o : Own) → own ≡ Some o → kept own ≡ Some (o.children.items, noted o.notes)
kept_own own o e = rw e refl

-- outside of a production that is no level within others there is none
pub outside_none : (outermost production : ℕ) → is_run outermost production ≡ false → outside outermost production ≡ 0
outside_none outermost production e = rw e refl

module _ (text : List ℕ) (tokens : List Token) where
  -- a fault goes on to the outermost level
  pub rises_fault : (n production depth token : ℕ) (own : Kept) (e : Fault) → Rises text tokens n production depth token own (Err e) (Err e)
  rises_fault zero production depth token own e = refl
  rises_fault (suc n) production depth token own e = refl

  pub ended_fault : (f : Frame) (e : Fault) → Ended text tokens f (Err e) (Err e)
  ended_fault f e = rises_fault (outside f.outermost f.production) f.production f.depth f.token (kept f.outer) e

  -- a production that is no level within others gives its user what it gives
  pub ended_alone : (outermost production depth token : ℕ) (own : Kept) (y : Result State Fault) → is_run outermost production ≡ false → Rises text tokens (outside outermost production) production depth token own y (ended production token own y)
  ended_alone outermost production depth token own y e = subst (λ n. Rises text tokens n production depth token own y (ended production token own y)) (sym (outside_none outermost production e)) refl

  pub alone_ended : (outermost production depth token : ℕ) (own : Kept) (y z : Result State Fault) → is_run outermost production ≡ false → Rises text tokens (outside outermost production) production depth token own y z → z ≡ ended production token own y
  alone_ended outermost production depth token own y z e h = subst (λ n. Rises text tokens n production depth token own y z) (outside_none outermost production e) h

  -- what the innermost user passes on goes to those that use it
  pub ends_last : (fs : List Frame) (f : Frame) (x r : Result State Fault) → Ends text tokens (fs ++ f ∷ []) x r → (z : Result State Fault) × Passes text tokens f x z × Ends text tokens fs z r
  ends_last [] f x r (z, e, h) = (r, subst (λ w. Passes text tokens f w r) (sym e) h, refl)
  ends_last (g ∷ fs) f x r (z, e, h) = let m = ends_last fs f x z e in (m.0, m.1, (z, m.2, h))

  -- a fault goes on to the outermost
  pub ends_fault : (fs : List Frame) (e : Fault) → Ends text tokens fs (Err e) (Err e)
  ends_fault [] e = refl
  ends_fault (f ∷ fs) e = (Err e, ends_fault fs e, refl)

  -- a fault of the innermost production
  pub leads_fault : (p : Progress) (scopes : Names) (nodes : List SyntaxNode) (e : Fault) → Walks text tokens p.top.production p.top.at p.top.depth (state p.ahead.place scopes nodes p.own) (Err e) → Leads text tokens p scopes nodes (Err e)
  leads_fault p scopes nodes e w = (Err e, w, (Err e, ended_fault p.top e, ends_fault p.users.items e))

  pub faults_lead : (p : Progress) (scopes : Names) (nodes : List SyntaxNode) (e : ParseFault) → Faults (Walks text tokens p.top.production p.top.at p.top.depth (state p.ahead.place scopes nodes p.own)) e → Faults (Leads text tokens p scopes nodes) e
  faults_lead p scopes nodes (Malformed n) w = leads_fault p scopes nodes _ w
  faults_lead p scopes nodes (Unsupported k n) w = leads_fault p scopes nodes _ w
  faults_lead p scopes nodes (TooDeep n) w = leads_fault p scopes nodes _ w
  faults_lead p scopes nodes OutOfMemory w = tt

  -- what is used at an item: how its walk goes on
  abbrev pub GoesThrough : ℕ → ℕ → Progress → State → Type 0
  GoesThrough q on p s =
      ((t : State) (y : Result State Fault) → Opens text tokens q p.top.depth s (Ok t) → Walks text tokens p.top.production on p.top.depth t y → Walks text tokens p.top.production p.top.at p.top.depth s y)
      × ((e : Fault) → Opens text tokens q p.top.depth s (Err e) → Walks text tokens p.top.production p.top.at p.top.depth s (Err e))

  pub leads_through : (p : Progress) (scopes : Names) (nodes : List SyntaxNode) (q on : ℕ) → GoesThrough q on p (state p.ahead.place scopes nodes p.own) → (r x z : Result State Fault) → Opens text tokens q p.top.depth (state p.ahead.place scopes nodes p.own) x
      → Passes text tokens (record p.top { at = on }) x z → Ends text tokens p.users.items z r → Leads text tokens p scopes nodes r
  leads_through p scopes nodes q on g r (Ok t) z o (y, w, e) h = (y, g.0 t y o w, (z, e, h))
  leads_through p scopes nodes q on g r (Err e) z o k h = (Err e, g.1 e o, (Err e, ended_fault p.top e, subst (λ v. Ends text tokens p.users.items v r) k h))

  pub through_use : (p : Progress) (s : State) (q : ℕ) → item_of p.top.production p.top.at ≡ Some (item.Use q) → GoesThrough q (p.top.at + 1) p s
  through_use p s q i = (λ t y o w. use_of i o w, λ e o. no_use i o)

  pub through_choice : (p : Progress) (s : State) (a b q : ℕ) → item_of p.top.production p.top.at ≡ Some (item.Choice a b) → chosen_at text tokens a b s ≡ Some q → GoesThrough q (p.top.at + 1) p s
  through_choice p s a b q i c = (λ t y o w. choice i c o w, λ e o. no_choice i c o)

  pub through_again : (p : Progress) (s : State) (q : ℕ) → item_of p.top.production p.top.at ≡ Some (item.Repeat q) → fits_at text tokens q s ≡ true → GoesThrough q p.top.at p s
  through_again p s q i f = (λ t y o w. again i f o w, λ e o. no_again i f o)

  -- what is entered at an item goes on
  pub entered_turns : (old new : Progress) (scopes : Names) (nodes : List SyntaxNode) (q on : ℕ) → Sees text tokens scopes old.ahead → GoesThrough q on old (state old.ahead.place scopes nodes old.own) → (r : Result (Unit {0}) ParseFault)
      → MatchResult r (λ done. IsEntered text tokens q on old new) (λ fault. IsFaulty text tokens q old.ahead old.top.depth old.own fault)
      → MatchResult r (λ done. IsTurned text tokens true old scopes nodes new scopes nodes) (λ fault. Faults (Leads text tokens old scopes nodes) fault)
  entered_turns old new scopes nodes q on sees g (Ok u) h = λ r l. let m = h.1 scopes nodes sees r l in leads_through old scopes nodes q on g r m.0 m.2.0 m.1 m.2.1 m.2.2
  entered_turns old new scopes nodes q on sees g (Err f) h =
      faults_lead old scopes nodes f (faults_map (Opens text tokens q old.top.depth (state old.ahead.place scopes nodes old.own)) (Walks text tokens old.top.production old.top.at old.top.depth (state old.ahead.place scopes nodes old.own)) f g.1 (h scopes nodes sees))

  -- what is read or entered at an item goes on
  pub advanced_turns : (old new : Progress) (scopes : Names) (nodes nodes' : List SyntaxNode) (q on : ℕ) → GoesThrough q on old (state old.ahead.place scopes nodes old.own) → Sees text tokens scopes old.ahead → (r : Result (Unit {0}) ParseFault)
      → MatchResult r (λ done. IsAdvanced text tokens q on old scopes nodes new nodes') (λ fault. IsFaulty text tokens q old.ahead old.top.depth old.own fault)
      → MatchResult r (λ done. IsTurned text tokens true old scopes nodes new scopes nodes') (λ fault. Faults (Leads text tokens old scopes nodes) fault)
  advanced_turns old new scopes nodes nodes' q on g sees (Ok u) h = λ r l. let m = h r l in leads_through old scopes nodes q on g r m.0 m.2.0 m.1 m.2.1 m.2.2
  advanced_turns old new scopes nodes nodes' q on g sees (Err f) h =
      faults_lead old scopes nodes f (faults_map (Opens text tokens q old.top.depth (state old.ahead.place scopes nodes old.own)) (Walks text tokens old.top.production old.top.at old.top.depth (state old.ahead.place scopes nodes old.own)) f g.1 (h scopes nodes sees))

  -- what has been entered has advanced
  pub entered_advances : (old new : Progress) (scopes : Names) (nodes : List SyntaxNode) (q on : ℕ) → Sees text tokens scopes old.ahead → (r : Result (Unit {0}) ParseFault)
      → MatchResult r (λ done. IsEntered text tokens q on old new) (λ fault. IsFaulty text tokens q old.ahead old.top.depth old.own fault)
      → MatchResult r (λ done. IsAdvanced text tokens q on old scopes nodes new nodes) (λ fault. IsFaulty text tokens q old.ahead old.top.depth old.own fault)
  entered_advances old new scopes nodes q on sees (Ok u) h = λ r l. h.1 scopes nodes sees r l
  entered_advances old new scopes nodes q on sees (Err f) h = h

  -- what has been read at once has advanced
  pub read_advances : (old new : Progress) (scopes : Names) (nodes nodes' : List SyntaxNode) (q on : ℕ) → new.top ≡ record old.top { at = on } → new.users ≡ old.users
      → Opens text tokens q old.top.depth (state old.ahead.place scopes nodes old.own) (Ok (state new.ahead.place scopes nodes' new.own)) → IsAdvanced text tokens q on old scopes nodes new nodes'
  read_advances old new scopes nodes nodes' q on top users o = λ r l.
      let after = state new.ahead.place scopes nodes' new.own in
      let f : Frame = record old.top { at = on } in
      let w = subst (λ (f : Frame). Walks text tokens f.production f.at f.depth after l.0) top l.1 in
      let e = subst (λ (f : Frame). Ended text tokens f l.0 l.2.0) top l.2.1 in
      (Ok after, o, (l.2.0, (l.0, w, e), subst (λ us. Ends text tokens us.items l.2.0 r) users l.2.2))

  -- a production that makes a node has been opened, and one that makes none
  pub opens_own : (q d place : ℕ) (scopes : Names) (nodes : List SyntaxNode) (own new : Own) → d + nests q ≤ most_nested
      → refusal q (first text tokens (state place scopes nodes own)) (second text tokens (state place scopes nodes own)) ≡ None → makes_node q ≡ true
      → new.children.items ≡ [] → noted new.notes ≡ notes_begin q (noted own.notes) → (y : Result State Fault) → Walks text tokens q 0 (d + nests q) (state place scopes nodes new) y
      → Opens text tokens q d (state place scopes nodes own) (ended q place (Some (own.children.items, noted own.notes)) y)
  opens_own q d place scopes nodes own new fits free makes e n (Ok t) w =
      let s = state place scopes nodes own in
      let start : state place scopes nodes new ≡ own_begin q s = cc in
      read_own text tokens q d s fits free t makes (subst (λ x. Walks text tokens q 0 (d + nests q) x (Ok t)) start w)
  opens_own q d place scopes nodes own new fits free makes e n (Err x) w =
      let s = state place scopes nodes own in
      let start : state place scopes nodes new ≡ own_begin q s = cc in
      broken_own text tokens q d s fits free x makes (subst (λ v. Walks text tokens q 0 (d + nests q) v (Err x)) start w)

  pub opens_helper : (q d place : ℕ) (scopes : Names) (nodes : List SyntaxNode) (own : Own) → d + nests q ≤ most_nested
      → refusal q (first text tokens (state place scopes nodes own)) (second text tokens (state place scopes nodes own)) ≡ None → makes_node q ≡ false
      → (y : Result State Fault) → Walks text tokens q 0 (d + nests q) (state place scopes nodes own) y → Opens text tokens q d (state place scopes nodes own) (ended q place None y)
  opens_helper q d place scopes nodes own fits free makes (Ok t) w = helper text tokens q d (state place scopes nodes own) fits free (Ok t) makes w
  opens_helper q d place scopes nodes own fits free makes (Err x) w = helper text tokens q d (state place scopes nodes own) fits free (Err x) makes w

  -- what the innermost user passes on
  ends_add : (fs : List Frame) (f : Frame) (x z r : Result State Fault) → Passes text tokens f x z → Ends text tokens fs z r → Ends text tokens (fs ++ f ∷ []) x r
  ends_add [] f x z r k e = (x, refl, subst (λ v. Passes text tokens f x v) e k)
  ends_add (g ∷ fs) f x z r k (v, e, h) = (v, ends_add fs f x z v k e, h)

  -- the innermost production has been read, and the one that uses it goes on; or it is the outermost
  pub close_more : (old new : Progress) (scopes : Names) (nodes nodes' : List SyntaxNode) → is_run old.top.outermost old.top.production ≡ false → item_of old.top.production old.top.at ≡ None → old.users.items ≡ new.users.items ++ new.top ∷ []
      → state new.ahead.place scopes nodes' new.own ≡ ended_by old.top.production old.top.token (kept old.top.outer) (state old.ahead.place scopes nodes old.own)
      → (r : Result State Fault) → Leads text tokens new scopes nodes' r → Leads text tokens old scopes nodes r
  close_more old new scopes nodes nodes' alone none users fin r (y, w, (z, e, h)) =
      let t = state old.ahead.place scopes nodes old.own in
      let given = ended_by old.top.production old.top.token (kept old.top.outer) t in (
        Ok t,
        at_end none,
        (
          Ok given,
          ended_alone old.top.outermost old.top.production old.top.depth old.top.token (kept old.top.outer) (Ok t) alone,
          subst (λ fs. Ends text tokens fs (Ok given) r) (sym users) (ends_add new.users.items new.top (Ok given) z r (y, subst (λ s. Walks text tokens new.top.production new.top.at new.top.depth s y) fin w, e) h),
        ),
      )

  pub close_last : (old : Progress) (scopes : Names) (nodes nodes' : List SyntaxNode) (place : ℕ) (own : Own) → is_run old.top.outermost old.top.production ≡ false → item_of old.top.production old.top.at ≡ None → old.users.items ≡ []
      → state place scopes nodes' own ≡ ended_by old.top.production old.top.token (kept old.top.outer) (state old.ahead.place scopes nodes old.own)
      → Leads text tokens old scopes nodes (Ok (state place scopes nodes' own))
  close_last old scopes nodes nodes' place own alone none users fin =
      let t = state old.ahead.place scopes nodes old.own in
      let given = ended_by old.top.production old.top.token (kept old.top.outer) t in (
        Ok t,
        at_end none,
        (
          Ok given,
          ended_alone old.top.outermost old.top.production old.top.depth old.top.token (kept old.top.outer) (Ok t) alone,
          subst (λ fs. Ends text tokens fs (Ok given) (Ok (state place scopes nodes' own))) (sym users) (ap (λ (s : State). Ok s) (sym fin)),
        ),
      )

  -- the innermost production goes on at a place of its row
  pub leads_on : (old new : Progress) (scopes scopes' : Names) (nodes nodes' : List SyntaxNode) (on : ℕ) → new.top ≡ record old.top { at = on } → new.users ≡ old.users
      → ((y : Result State Fault) → Walks text tokens old.top.production on old.top.depth (state new.ahead.place scopes' nodes' new.own) y → Walks text tokens old.top.production old.top.at old.top.depth (state old.ahead.place scopes nodes old.own) y)
      → (r : Result State Fault) → Leads text tokens new scopes' nodes' r → Leads text tokens old scopes nodes r
  leads_on old new scopes scopes' nodes nodes' on top users g r (y, w, (z, e, h)) = (
    y,
    g y (subst (λ (f : Frame). Walks text tokens f.production f.at f.depth (state new.ahead.place scopes' nodes' new.own) y) top w),
    (z, subst (λ (f : Frame). Ended text tokens f y z) top e, subst (λ us. Ends text tokens us.items z r) users h),
  )

  -- a production has been entered
  pub enter_more : (old new : Progress) (used on : ℕ) (frame : Frame) → new.top ≡ frame → new.users.items ≡ old.users.items ++ (record old.top { at = on }) ∷ [] → (scopes : Names) (nodes : List SyntaxNode)
      → ((y z : Result State Fault) → Walks text tokens frame.production frame.at frame.depth (state new.ahead.place scopes nodes new.own) y → Ended text tokens frame y z → Opens text tokens used old.top.depth (state old.ahead.place scopes nodes old.own) z)
      → (r : Result State Fault) → Leads text tokens new scopes nodes r
      → (x : Result State Fault) × Opens text tokens used old.top.depth (state old.ahead.place scopes nodes old.own) x × ((z : Result State Fault) × Passes text tokens (record old.top { at = on }) x z × Ends text tokens old.users.items z r)
  enter_more old new used on frame top users scopes nodes o r (y, w, (z, e, h)) =
      let last = subst (λ us. Ends text tokens us z r) users h in (
        z,
        o y z (subst (λ (f : Frame). Walks text tokens f.production f.at f.depth (state new.ahead.place scopes nodes new.own) y) top w) (subst (λ (f : Frame). Ended text tokens f y z) top e),
        ends_last old.users.items (record old.top { at = on }) z r last,
      )
