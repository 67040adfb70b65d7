-- Shares of texts, and those behind them.
use Rattle.std.proofs.Common.{◌≡◌, ℕ, suc, ◌+◌, List, [], ◌∷◌, ◌++◌, length, Vec, Global, inl, inr, sym, subst, arith}
use Rattle.std.specs.Prelude.{zip, Result, Ok, Err, IfOk, IfErr}
use Rattle.std.specs.Borrow.{Bor}
use Rattle.core_tree.specs.declared.node.Unit.{Unit}
use Rattle.text_units.specs.declared.fault.UnitsFault.{UnitsFault}
use Rattle.text_units.specs.declared.fault.UnitsFault.TheVariants.{Refused, Memory}
use Rattle.text_units.specs.Answers.{names_of, NamedText, Answer}
use Rattle.text_units.specs.Lowered.{AreRightTexts}
use Rattle.text_units.specs.Refused.{IsRefusedText, FirstRefused}
use Rattle.text_units.specs.Faults.{IsFirstFault}
use Rattle.text_units.proofs.Refused.{IsLoweredTo, lowered_first, fault_behind}

of_ok : {A E : Type 0} (r : Result A E) (x : A) (P : A → Type 0) → r ≡ Ok x → IfOk r P → P x
of_ok r x P is h = let Q : Result _ _ → Type 0 = λ q. IfOk q P in subst Q is h

of_err : {A E : Type 0} (r : Result A E) (e : E) (P : E → Type 0) → r ≡ Err e → IfErr r P → P e
of_err r e P is h = let Q : Result _ _ → Type 0 = λ q. IfErr q P in subst Q is h

-- right texts, and those behind them
before : (first : ℕ) (words more : List (Bor (List ℕ))) (texts others : List (List ℕ)) (units : List Unit) → length texts ≡ length words → AreRightTexts first (zip (names_of words) texts) units
    → IsLoweredTo first (zip (names_of (words ++ more)) (texts ++ others)) (zip (names_of more) others) (first + length words) units
before first [] more [] others [] count right = lowered_first first _ _ (omega arith)
before first [] more [] others (u ∷ us) count right = absurd right
before first [] more (text ∷ texts) others units count right = absurd (omega arith)
before first (word ∷ words) more [] others units count right = absurd (omega arith)
before first (word ∷ words) more (text ∷ texts) others [] count right = absurd right
before first (word ∷ words) more (text ∷ texts) others (u ∷ us) count right =
    let so_far = before (first + 1) words more texts others us (omega arith) right.1 in
    let next : first + suc (length words) ≡ first + 1 + length words = omega arith in
    let rest : List NamedText = zip (names_of more) others in record {
      refused = λ answer h. inr (u, right.0, so_far.refused answer (let P : ℕ → Type 0 = λ n. FirstRefused IsRefusedText n rest answer in subst P next h));
      right = λ vs h. (right.0, so_far.right vs (let P : ℕ → Type 0 = λ n. AreRightTexts n rest vs in subst P next h));
    }

refused_before : (first : ℕ) (words more : List (Bor (List ℕ))) (texts others : List (List ℕ)) (answer : Answer) → length texts ≡ length words → FirstRefused IsRefusedText first (zip (names_of words) texts) answer
    → FirstRefused IsRefusedText first (zip (names_of (words ++ more)) (texts ++ others)) answer
refused_before first [] more texts others answer count h = absurd h
refused_before first (word ∷ words) more [] others answer count h = absurd h
refused_before first (word ∷ words) more (text ∷ texts) others answer count (inl h) = inl h
refused_before first (word ∷ words) more (text ∷ texts) others answer count (inr (u, right, h)) =
    inr (u, right, refused_before (first + 1) words more texts others answer (omega arith) h)

first_before : (first : ℕ) (words more : List (Bor (List ℕ))) (texts others : List (List ℕ)) (fault : UnitsFault) → length texts ≡ length words → IsFirstFault first (zip (names_of words) texts) fault
    → IsFirstFault first (zip (names_of (words ++ more)) (texts ++ others)) fault
first_before first words more texts others (Refused status line) count h = refused_before first words more texts others _ count h
first_before first words more texts others Memory count h = tt

-- a share of names and texts, and the others, whose first is the unit of the next number
module _ (first next : ℕ) (all words more : List (Bor (List ℕ))) (whole texts others : List (List ℕ)) (cut : all ≡ words ++ more) (cut_texts : whole ≡ texts ++ others) (count : length texts ≡ length words)
    (next_is : next ≡ first + length words) where
  so : (P : List NamedText → Type 0) → P (zip (names_of (words ++ more)) (texts ++ others)) → P (zip (names_of all) whole)
  so P h =
      let N : List (Bor (List ℕ)) → Type 0 = λ ns. P (zip (names_of ns) (texts ++ others)) in
      let T : List (List ℕ) → Type 0 = λ ts. P (zip (names_of all) ts) in subst T (sym cut_texts) (subst N (sym cut) h)

  behind : (units : List Unit) → AreRightTexts first (zip (names_of words) texts) units → IsLoweredTo first (zip (names_of all) whole) (zip (names_of more) others) next units
  behind units right =
      let N : ℕ → Type 0 = λ n. IsLoweredTo first (zip (names_of all) whole) (zip (names_of more) others) n units in
      subst N (sym next_is) (so (λ ts. IsLoweredTo first ts (zip (names_of more) others) (first + length words) units) (before first words more texts others units count right))

  module _ (mine theirs : Result (Vec Unit Global) UnitsFault) (right : IfOk mine (λ units. AreRightTexts first (zip (names_of words) texts) units.items))
      (their_right : IfOk theirs (λ units. AreRightTexts next (zip (names_of more) others) units.items)) (refused : IfErr mine (IsFirstFault first (zip (names_of words) texts)))
      (their_refused : IfErr theirs (IsFirstFault next (zip (names_of more) others))) where
    -- the first fault of the share is that of all
    pub fault_in_share : (fault : UnitsFault) → mine ≡ Err fault → IsFirstFault first (zip (names_of all) whole) fault
    fault_in_share fault is = so (λ ts. IsFirstFault first ts fault) (first_before first words more texts others fault count (of_err mine fault _ is refused))

    -- where the share is right, the first fault of the others is that of all
    pub fault_in_others : (units : Vec Unit Global) (fault : UnitsFault) → mine ≡ Ok units → theirs ≡ Err fault → IsFirstFault first (zip (names_of all) whole) fault
    fault_in_others units fault is their_is = fault_behind first _ _ next units.items fault (behind units.items (of_ok mine units _ is right)) (of_err theirs fault _ their_is their_refused)

    -- the units of the share and those of the others are the units of all
    pub all_right : (units more_units : Vec Unit Global) (joined : List Unit) → mine ≡ Ok units → theirs ≡ Ok more_units → joined ≡ units.items ++ more_units.items → AreRightTexts first (zip (names_of all) whole) joined
    all_right units more_units joined is their_is joined_is =
        let Q : List Unit → Type 0 = λ us. AreRightTexts first (zip (names_of all) whole) us in
        subst Q (sym joined_is) ((behind units.items (of_ok mine units _ is right)).right more_units.items (of_ok theirs more_units _ their_is their_right))
