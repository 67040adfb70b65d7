use Rattle.std.proofs.Common.{ℕ, sym, subst, get_or, drop}
use Rattle.pta_base.specs.declared.place.Place.{Place}
use Rattle.c_senses.specs.Sense.{sense_in}
use Rattle.c_senses.specs.Tree.{place_at}
use Rattle.c_results.specs.Standing.{senses_made, Rowed}
use Rattle.tree_reads.specs.Sources.{source_read}
use Rattle.c_senses.specs.Expressions.{post_of}
use Rattle.expression_rows.proofs.c_rows.postfix.other_post.Goals as goal

pub returns-then-sign-eq-SIGN_LEFT_BRACKET-clause-row : goal.returns-then-sign-eq-SIGN_LEFT_BRACKET-clause-row
returns-then-sign-eq-SIGN_LEFT_BRACKET-clause-row c w k =
    let s = source_read c.args.syntax.now in
    let S = sense_in (senses_made c.args.unit.now c.args.results.now) in
    let xs = c.args.children.now in
    let row = λ (sign : ℕ) (p : Place). post_of w s S p c.args.at (S c.args.left) (drop 1 xs) sign in
    let placed = subst (λ (p : Place). Rowed c.with_index.new.unit c.with_index.result (row 0 p)) c.place_of-place.ensures (c.with_index.ensures.row w s k) in
    subst (λ (sign : ℕ). Rowed c.with_index.new.unit c.with_index.result (row sign (place_at s (get_or xs 0 0)))) (sym c.if-sign-eq-SIGN_LEFT_BRACKET.true) placed

pub returns-then-sign-eq-SIGN_DOT-clause-row : goal.returns-then-sign-eq-SIGN_DOT-clause-row
returns-then-sign-eq-SIGN_DOT-clause-row c w k =
    let s = source_read c.args.syntax.now in
    let S = sense_in (senses_made c.args.unit.now c.args.results.now) in
    let xs = c.args.children.now in
    let row = λ (sign : ℕ) (p : Place). post_of w s S p c.args.at (S c.args.left) (drop 1 xs) sign in
    let placed = subst (λ (p : Place). Rowed c.with_dot.new.unit c.with_dot.result (row 6 p)) c.place_of-place.ensures (c.with_dot.ensures.row w k) in
    subst (λ (sign : ℕ). Rowed c.with_dot.new.unit c.with_dot.result (row sign (place_at s (get_or xs 0 0)))) (sym c.if-sign-eq-SIGN_DOT.true) placed

pub returns-then-sign-eq-SIGN_ARROW-clause-row : goal.returns-then-sign-eq-SIGN_ARROW-clause-row
returns-then-sign-eq-SIGN_ARROW-clause-row c w k =
    let s = source_read c.args.syntax.now in
    let S = sense_in (senses_made c.args.unit.now c.args.results.now) in
    let xs = c.args.children.now in
    let row = λ (sign : ℕ) (p : Place). post_of w s S p c.args.at (S c.args.left) (drop 1 xs) sign in
    let placed = subst (λ (p : Place). Rowed c.with_arrow.new.unit c.with_arrow.result (row 7 p)) c.place_of-place.ensures (c.with_arrow.ensures.row w k) in
    subst (λ (sign : ℕ). Rowed c.with_arrow.new.unit c.with_arrow.result (row sign (place_at s (get_or xs 0 0)))) (sym c.if-sign-eq-SIGN_ARROW.true) placed

pub returns-then-sign-eq-SIGN_INCREMENT-clause-row : goal.returns-then-sign-eq-SIGN_INCREMENT-clause-row
returns-then-sign-eq-SIGN_INCREMENT-clause-row c w k =
    let s = source_read c.args.syntax.now in
    let S = sense_in (senses_made c.args.unit.now c.args.results.now) in
    let xs = c.args.children.now in
    let row = λ (sign : ℕ) (p : Place). post_of w s S p c.args.at (S c.args.left) (drop 1 xs) sign in
    let placed = subst (λ (p : Place). Rowed c.counted_left.new.unit c.sensed.result (row 8 p)) c.place_of-place.ensures (c.sensed.ensures.row c.counted_left.new.unit _ (c.counted_left.ensures.made w k)) in
    subst (λ (sign : ℕ). Rowed c.counted_left.new.unit c.sensed.result (row sign (place_at s (get_or xs 0 0)))) (sym c.if-sign-eq-SIGN_INCREMENT.true) placed

pub returns-then-sign-eq-SIGN_DECREMENT-clause-row : goal.returns-then-sign-eq-SIGN_DECREMENT-clause-row
returns-then-sign-eq-SIGN_DECREMENT-clause-row c w k =
    let s = source_read c.args.syntax.now in
    let S = sense_in (senses_made c.args.unit.now c.args.results.now) in
    let xs = c.args.children.now in
    let row = λ (sign : ℕ) (p : Place). post_of w s S p c.args.at (S c.args.left) (drop 1 xs) sign in
    let placed = subst (λ (p : Place). Rowed c.counted_left-then-sign-eq-SIGN_DECREMENT.new.unit c.sensed-then-sign-eq-SIGN_DECREMENT.result (row 9 p)) c.place_of-place.ensures (c.sensed-then-sign-eq-SIGN_DECREMENT.ensures.row c.counted_left-then-sign-eq-SIGN_DECREMENT.new.unit _ (c.counted_left-then-sign-eq-SIGN_DECREMENT.ensures.made w k)) in
    subst (λ (sign : ℕ). Rowed c.counted_left-then-sign-eq-SIGN_DECREMENT.new.unit c.sensed-then-sign-eq-SIGN_DECREMENT.result (row sign (place_at s (get_or xs 0 0)))) (sym c.if-sign-eq-SIGN_DECREMENT.true) placed
