use Rattle.std.proofs.Common.{◌≡◌, ◌||◌, ℕ, ◌+◌, ◌<◌, Bool, List, get_or, length, take, sym, ap, ◌∙◌}
use Rattle.std.specs.List.{list_any}
use Rattle.std.proofs.lemmas.List.{take_all}
use Rattle.std.proofs.lemmas.List.Folds.{list_any_more}
use Rattle.stop_places.specs.declared.targets.Judged.{Judged}
use Rattle.stop_places.specs.declared.targets.Found.{Found}
use Rattle.stop_places.specs.Found.{found_at, is_library, is_walker, is_bad, joined, AreJudged}
use Rattle.stop_places.proofs.targets.judge.Goals as goal

-- one answer with one location more
one_more : (p : ℕ → Bool) (xs : List ℕ) (i : ℕ) (old new now : Bool) → i < length xs → old ≡ list_any p (take i xs) → now ≡ p (get_or xs i 0) → new ≡ (old || now) → new ≡ list_any p (take (i + 1) xs)
one_more p xs i old new now lt before here is =
    is ∙ (ap (λ b. b || now) before ∙ (ap (λ b. list_any p (take i xs) || b) here ∙ sym (list_any_more p xs i 0 lt)))

pub loop-location-preserved : goal.loop-location-preserved
loop-location-preserved c =
    let system = c.args.system.now in
    let signature = c.args.signature in
    let xs : List ℕ = c.args.locations.now in
    let i : ℕ = c.loop-location.location-index in
    let old = c.loop-location.judged in
    let found : c.found_at.result ≡ found_at system signature (get_or xs i 0) = c.found_at.ensures in
    let before = c.loop-location.invariant in
    record {
      library = one_more (λ l. is_library (found_at system signature l)) xs i old.library c.with-judged.result.library (is_library c.found_at.result) c.loop-location-test.true before.library (ap is_library found) (ap (λ (j : Judged). j.library) c.with-judged.ensures);
      mismatch = one_more (λ l. is_walker (found_at system signature l)) xs i old.mismatch c.with-judged.result.mismatch (is_walker c.found_at.result) c.loop-location-test.true before.mismatch (ap is_walker found) (ap (λ (j : Judged). j.mismatch) c.with-judged.ensures);
      bad = one_more (λ l. is_bad (found_at system signature l)) xs i old.bad c.with-judged.result.bad (is_bad c.found_at.result) c.loop-location-test.true before.bad (ap is_bad found) (ap (λ (j : Judged). j.bad) c.with-judged.ensures);
    }
