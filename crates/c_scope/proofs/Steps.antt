-- Steps of what is known, as the binder makes them.
use Rattle.std.proofs.Common.{◌≡◌, ℕ, Bool, true, false, ◌||◌, eqb, Option, List, [], ◌∷◌, ◌++◌, cond, refl, sym, ap, ◌∙◌}
use Rattle.std.specs.BTreeSet.{BTreeSet}
use Rattle.c_scope.specs.declared.kinds.NameFault.{NameFault}
use Rattle.c_scope.specs.Known.{first_fault, earlier}
use Rattle.c_scope.specs.Binding.{has, HasAll}
use Rattle.c_mentions.proofs.Handing.{contains-push}

pub first_fault-push : (first : Option NameFault) (faults : List NameFault) (fault : NameFault) → first_fault first (faults ++ fault ∷ []) ≡ earlier (first_fault first faults) fault
first_fault-push first [] fault = refl
first_fault-push first (f ∷ faults) fault = first_fault-push (earlier first f) faults fault

or_same : (b c : Bool) → cond b true c ≡ c || b
or_same true true = refl
or_same true false = refl
or_same false true = refl
or_same false false = refl

pub has_more : (old new : BTreeSet ℕ) (list : List ℕ) (n : ℕ) → ((q : ℕ) → has new q ≡ cond (eqb n q) true (has old q)) → HasAll old list → HasAll new (list ++ n ∷ [])
has_more old new list n f h q = f q ∙ (or_same (eqb n q) (has old q) ∙ (ap (λ b. b || eqb n q) (h q) ∙ sym (contains-push list n q)))
