-- From what was read to what is told.
use Rattle.std.proofs.Common.{◌≡◌, ℕ, ◌<◌, inl, inr, ◌≤◌, ◌^◌, List, [], Option, Some, None, IfSome, option_map, length, slice_get, sym, subst, ◌∙◌, ap, arith, append-nil}
use Rattle.std.specs.Borrow.{Bor}
use Rattle.std.specs.Option.{option_map_or}
use Rattle.std.specs.Str.Parse.{digits_value}
use Rattle.std.proofs.lemmas.List.{length-map}
use Rattle.command_line.specs.Rules.{IsNumberIn}
use Rattle.pta_base.specs.Outside.{HasRisen, IsSteady}
use Rattle.text_units.specs.Answers.{names_of}
use Rattle.unit_report.specs.report_text.Outside.{Grows}
use Rattle.report_cli.specs.Outside.{Receives}
use Rattle.text_units.proofs.Texts.{some_same}

-- nothing was written
pub grows_nothing : (before after : Option (List ℕ)) → after ≡ before → Grows before after []
grows_nothing None after same = same
grows_nothing (Some written) after same = same ∙ ap Some (sym (append-nil written))

pub receives_nothing : (before after : Option (List ℕ)) (faults_before faults_after : ℕ) → after ≡ before → Receives before after faults_before faults_after []
receives_nothing before after faults_before faults_after same = record {
  whole = λ steady. grows_nothing before after same;
  part = (0, omega arith, grows_nothing before after same);
}

pub always : {X : Type 0} (o : Option X) (Q : X → Type 0) → ((x : X) → Q x) → IfSome o Q
always None Q h = tt
always (Some x) Q h = h x

-- a name of a number
pub same_name : (names : List (List ℕ)) (number : ℕ) (name text : List ℕ) → slice_get names number ≡ Some name → slice_get names number ≡ Some text → text ≡ name
same_name names number name text one other = some_same text name (sym other ∙ one)

-- a count that is steady has not risen
pub not_risen : (before now : ℕ) → IsSteady before now → HasRisen before now → ⊥
not_risen before now steady risen = elim risen [
  | inl more ↦ let same = steady.same in omega arith
  | inr last ↦ let below = steady.below in omega arith
]

-- the number of workers
pub number_of_workers : (text : Option (List ℕ)) (n : ℕ) → IsNumberIn 1 64 text → n ≡ option_map_or (digits_value 10) text 1 → (0 < n) × (n ≤ 64)
number_of_workers None n right is = (omega arith, omega arith)
number_of_workers (Some text) n right is = let least = right.at_least in let most = right.at_most in (omega arith, omega arith)

number_within : (text : Option (List ℕ)) → IsNumberIn 1 1000 text → IfSome (option_map (digits_value 10) text) (λ n. (1 ≤ n) × (n ≤ 1000))
number_within None right = tt
number_within (Some text) right = (right.at_least, right.at_most)

-- the number of a generated program
pub number_generated : (text : Option (List ℕ)) (number : Option ℕ) → IsNumberIn 1 1000 text → number ≡ option_map (digits_value 10) text → IfSome number (λ n. (1 ≤ n) × (n ≤ 1000))
number_generated text number right is = let P : Option ℕ → Type 0 = λ n. IfSome n (λ k. (1 ≤ k) × (k ≤ 1000)) in subst P (sym is) (number_within text right)

-- right words name few units
pub few_names : (items : List (Bor (List ℕ))) (names : List (List ℕ)) → names_of items ≡ names → length names ≤ 256 → length items ≤ 2 ^ 8
few_names items names is few = let same = length-map items (λ (b : Bor (List ℕ)). b.now) in let long = ap length is in omega arith
