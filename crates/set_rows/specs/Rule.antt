-- The rule of the shared words: it holds between any two steps of any threads. Its points: the rows are inside each
-- closed family; the closing word is 0 or 1, and 1 only where the rows are closed; what each live view has seen is
-- in the words; the words are a state of the rows machine; and what is in the words was seen by a live view.
use Rattle.std.specs.Prelude.{◌≡◌, ℕ, ◌+◌, ◌<◌, ◌≤◌, ◌==◌, ◌*◌, ◌-◌, ◌^◌, true, if◌then◌else◌, List, [], ◌∷◌}
use Rattle.std.specs.Prelude.{length, slice_index, take}
use mathlib.Core.Option.{some}
use lib.ListN.{get_elem?}
use Rattle.std.specs.Int.{bit_at}
use Rattle.atomic_table.specs.Table.{State}
use Rattle.sol_model.specs.declared.system.System.{System}
use Rattle.sol_model.specs.Families.{Family, IsInside, shown}
use Rattle.sol_model.specs.Solutions.{IsClosed, IsBelow}
use Rattle.sol_model.specs.Systems.{IsValid, width_of}
use Rattle.sol_model.specs.Words.{Within}
use Rattle.set_rows.specs.declared.rows_core.event.Event.{Event}
use Rattle.set_rows.specs.rows_core.Machine.{start, run, AllLicensed}
use Rattle.set_rows.specs.declared.view.View.{View}
use Rattle.set_rows.specs.Views.{words_of}

-- the family in the words of the rows, before the closing word and the ticket word
abbrev pub rows_in : System → List ℕ → Family
rows_in S words = shown (width_of S) (take (words_of S) words)

abbrev pub closing_word : System → List ℕ → ℕ
closing_word S words = slice_index words (words_of S)

-- the words are a state of the rows machine, after some list of events each of which was licensed when it came
pub record IsReached (S : System) (words : List ℕ) : Type 0 where
  pub events : List Event
  pub licensed : AllLicensed S start events
  pub rows_there : IsInside (run start events).rows (rows_in S words)
  pub no_others : IsInside (rows_in S words) (run start events).rows
  pub mark : (run start events).shut ≡ (closing_word S words == 1)

-- the facts seen are in the words, and where the view knows that the closing word is 1, it is
pub record Seen (v : View) (words : List ℕ) : Type 0 where
  pub facts : (word : ℕ) → Within (slice_index v.seen word) (slice_index words word)
  pub last_known : v.last ≡ 1 → v.knows ≡ true
  pub closing_known : v.knows ≡ true → closing_word v.system words ≡ 1

pub record Stands (S : System) (v : View) (words : List ℕ) : Type 0 where
  pub system : v.system ≡ S
  pub sized : length v.seen ≡ words_of S
  pub some_part : 0 < v.part
  pub seen : Seen v words

-- a live view has seen the bit k of word j
pub record Holder (views : List View) (j k : ℕ) : Type 0 where
  pub seat : ℕ
  pub view : View
  pub there : get_elem? views seat ≡ some view
  pub live : view.live ≡ true
  pub has : bit_at (slice_index view.seen j) k ≡ 1

-- a live view knows that the closing word is 1
pub record Knower (views : List View) : Type 0 where
  pub seat : ℕ
  pub view : View
  pub there : get_elem? views seat ≡ some view
  pub live : view.live ≡ true
  pub knows : view.knows ≡ true

-- each fact of the n words of rows was seen by a live view, and where the closing word is 1 a live view knows it;
-- so no table starts with facts, or closed
pub record Held (n : ℕ) (words : List ℕ) (views : List View) : Type 0 where
  pub facts : (j k : ℕ) → j < n → bit_at (slice_index words j) k ≡ 1 → Holder views j k
  pub closing : slice_index words n ≡ 1 → Knower views

-- what a number of each view adds up to
abbrev pub total : (View → ℕ) → List View → ℕ
total f [] = 0
total f (v ∷ views) = f v + total f views

-- a live view's part, counted in parts of which 2 ^ level are the whole
abbrev pub share_at : ℕ → View → ℕ
share_at level v = if v.live then v.part * 2 ^ (level - v.halvings) else 0

-- the parts of all live views are the whole; so a view whose part is the whole is the only live one
pub record IsWhole (views : List View) : Type 0 where
  pub level : ℕ
  pub fine : (seat : ℕ) (v : View) → get_elem? views seat ≡ some v → v.live ≡ true → v.halvings ≤ level
  pub parts : (n : ℕ) → level ≤ n → total (share_at n) views ≡ 2 ^ n

-- a spent view is left out of the points on views
pub record Kept (S : System) (s : State (Unit {0}) View) : Type 0 where
  pub valid : IsValid S
  pub sized : length s.words ≡ words_of S + 2
  pub reached : IsReached S s.words
  pub below : IsBelow S (rows_in S s.words)
  pub closing : closing_word S s.words ≤ 1
  pub closed : closing_word S s.words ≡ 1 → IsClosed S (rows_in S s.words)
  pub views : (seat : ℕ) (v : View) → get_elem? s.views seat ≡ some v → v.live ≡ true → Stands S v s.words
  pub held : Held (words_of S) s.words s.views
  pub whole : IsWhole s.views
