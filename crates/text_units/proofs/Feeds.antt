-- Lines and columns, byte by byte.
use Rattle.std.proofs.Common.{◌≡◌, ℕ, suc, ◌+◌, ◌≤◌, List, Bool, true, false, slice_index, refl, sym, ◌∙◌, ap, arith}
use Rattle.std.specs.Prelude.{◌==◌, if◌then◌else◌}
use Rattle.c_lexer.specs.Places.{line_of, column_of}

pub line_first : (text : List ℕ) → 1 ≡ line_of text 0
unfolding line_of
line_first text = refl

pub column_first : (text : List ℕ) → 1 ≡ column_of text 0
unfolding column_of
column_first text = refl

pub line_next : (text : List ℕ) (n line next : ℕ) (feed : Bool) → line ≡ line_of text n → feed ≡ (slice_index text n == 10) → next ≡ (if feed then line + 1 else line) → next ≡ line_of text (n + 1)
unfolding line_of
line_next text n line next feed is_line is_feed is =
    let e : n + 1 ≡ suc n = omega arith in
    is ∙ ap (λ (f : Bool). if f then line + 1 else line) is_feed ∙ ap (λ (l : ℕ). if slice_index text n == 10 then l + 1 else l) is_line ∙ sym (ap (line_of text) e)

pub column_next : (text : List ℕ) (n column next : ℕ) (feed : Bool) → column ≡ column_of text n → feed ≡ (slice_index text n == 10) → next ≡ (if feed then 1 else column + 1) → next ≡ column_of text (n + 1)
unfolding column_of
column_next text n column next feed is_column is_feed is =
    let e : n + 1 ≡ suc n = omega arith in
    is ∙ ap (λ (f : Bool). if f then 1 else column + 1) is_feed ∙ ap (λ (l : ℕ). if slice_index text n == 10 then 1 else l + 1) is_column ∙ sym (ap (column_of text) e)

-- one more at the most
pub few_lines : (n line next : ℕ) (feed : Bool) → line ≤ n + 1 → next ≡ (if feed then line + 1 else line) → next ≤ n + 1 + 1
few_lines n line next true few is = omega arith
few_lines n line next false few is = omega arith

pub few_columns : (n column next : ℕ) (feed : Bool) → column ≤ n + 1 → next ≡ (if feed then 1 else column + 1) → next ≤ n + 1 + 1
few_columns n column next true few is = omega arith
few_columns n column next false few is = omega arith
