-- The want of a start: of `main`, or of the first entry.
use Rattle.std.proofs.Common.{◌≡◌, ◌∙◌, ◌++◌, ℕ, List, [], ◌∷◌, All, refl, sym, ap, subst}
use Rattle.std.proofs.lemmas.List.Elements.{All-head, All-tail}
use Rattle.link_names.specs.declared.declared.Declared.{Declared}
use Rattle.link_names.specs.declared.fault.LinkFault.{LinkFault}
use Rattle.link_names.specs.declared.fault.LinkFault.TheVariants.{NoMain, NoEntry}
use Rattle.link_names.specs.Externals.{Joined}
use Rattle.link_names.specs.Faults.{HasEntry, IsStarted, IsFirstWant}
use Rattle.link_names.specs.Said.{IsWant}

-- the first of these that lacks what others have
first_one : (P Q : List ℕ → Type 0) → ((name : List ℕ) → P name → Q name) → ((name : List ℕ) → Q name → P name) → (a b : List ℕ) (before after earlier later : List (List ℕ))
    → before ++ a ∷ after ≡ earlier ++ b ∷ later → All P before → (P a → ⊥) → All Q earlier → (Q b → ⊥) → a ≡ b
first_one P Q forth again a b [] after [] later same have lacks has wants = cc
first_one P Q forth again a b [] after (y ∷ earlier) later same have lacks has wants =
    let one : a ≡ y = cc in
    absurd (lacks (subst P (sym one) (again y (All-head Q y earlier has))))
first_one P Q forth again a b (x ∷ before) after [] later same have lacks has wants =
    let one : x ≡ b = cc in
    absurd (wants (subst Q one (forth x (All-head P x before have))))
first_one P Q forth again a b (x ∷ before) after (y ∷ earlier) later same have lacks has wants =
    first_one P Q forth again a b before after earlier later (let rest : before ++ a ∷ after ≡ earlier ++ b ∷ later = cc in rest) (All-tail P x before have) lacks (All-tail Q y earlier has) wants

none_split : (name : List ℕ) (before after : List (List ℕ)) → ◌≡◌ {A = List (List ℕ)} [] (before ++ name ∷ after) → ⊥
none_split name [] after same = cc
none_split name (x ∷ before) after same = cc

-- two lists of declarations in which the same names have entries want the same
pub one_want : (j k : Joined) (ds es : List Declared) (entered : List (List ℕ)) → ((name : List ℕ) → HasEntry j ds name → HasEntry k es name) → ((name : List ℕ) → HasEntry k es name → HasEntry j ds name)
    → (fault more : LinkFault) → IsWant j ds entered fault → IsWant k es entered more → fault ≡ more
one_want j k ds es entered forth again NoMain NoMain f g = refl
one_want j k ds es entered forth again NoMain (NoEntry name) f g = absurd (none_split name g.before g.after (sym f.0 ∙ g.split))
one_want j k ds es entered forth again (NoEntry name) NoMain f g = absurd (none_split name f.before f.after (sym g.0 ∙ f.split))
one_want j k ds es entered forth again (NoEntry name) (NoEntry other) f g =
    ap NoEntry (first_one (HasEntry j ds) (HasEntry k es) forth again name other f.before f.after g.before g.after (sym f.split ∙ g.split) f.have f.wants g.have g.wants)
one_want j k ds es entered forth again NoMain more f g = absurd g
one_want j k ds es entered forth again (NoEntry name) more f g = absurd g
one_want j k ds es entered forth again fault more f g = absurd f

at_name : (P : List ℕ → Type 0) (name : List ℕ) (before after : List (List ℕ)) → All P (before ++ name ∷ after) → P name
at_name P name [] after h = All-head P name after h
at_name P name (x ∷ before) after h = at_name P name before after (All-tail P x (before ++ name ∷ after) h)

all_started : (j : Joined) (ds : List Declared) (name : List ℕ) (before after : List (List ℕ)) → IsStarted j ds (before ++ name ∷ after) → All (HasEntry j ds) (before ++ name ∷ after)
all_started j ds name [] after h = h
all_started j ds name (x ∷ before) after h = h

-- a program that can begin wants nothing
pub no_want : (j : Joined) (ds : List Declared) (entered : List (List ℕ)) (fault : LinkFault) → IsStarted j ds entered → IsWant j ds entered fault → ⊥
no_want j ds entered NoMain h w = w.1 (subst (IsStarted j ds) w.0 h)
no_want j ds entered (NoEntry name) h w =
    w.wants (at_name (HasEntry j ds) name w.before w.after (all_started j ds name w.before w.after (subst (IsStarted j ds) w.split h)))
no_want j ds entered fault h w = absurd w
