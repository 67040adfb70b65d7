-- What the workers and the asker beside them leave together.
use Rattle.std.proofs.Common.{Result, Ok, Err, OnOk, ◌≡◌, ◌||◌, ℕ, ◌*◌, ◌^◌, Bool, refl, sym, ◌∙◌, ap, arith}
use Rattle.sol_model.specs.declared.system.System.{System}
use Rattle.set_rows.specs.declared.view.View.{View}
use Rattle.set_rows.specs.Views.{OnlyAsked, SamePart, half_kept, half_given, met}
use Rattle.round_pieces.proofs.Parts.{halves_add}
use Rattle.alias_query.specs.ask_rounds.Solves.{HasSolved}
use Rattle.alias_query.specs.ask_rounds.Tries.{HasAsked}

pub on_ok : {A E : Type 0} (r : Result A E) (P Q : Type 0) → (P → Q) → OnOk r P → OnOk r Q
on_ok (Ok x) P Q f p = f p
on_ok (Err e) P Q f p = tt

pub was_ok : {A E : Type 0} (r : Result A E) (x : A) (P : Type 0) → r ≡ Ok x → OnOk r P → P
was_ok (Ok y) x P is h = h
was_ok (Err e) x P is h = absurd (cc)

-- who has only asked has the part that it had
pub part_kept : (u v w : View) → SamePart u v → OnlyAsked v w → SamePart u w
part_kept u v w same asked = ap (λ (h : ℕ). u.part * 2 ^ h) asked.halvings ∙ same ∙ ap (λ (p : ℕ). p * 2 ^ u.halvings) (sym asked.part)

pub solved_beside : (S : System) (v a b : View) → HasSolved S (half_kept v) a → HasAsked (half_given v) b → HasSolved S v (met a b)
solved_beside S v a b one two = record {
  last = one.last;
  knows = ap (λ (k : Bool). k || b.knows) one.knows;
  whole = halves_add v a b one.whole (part_kept (half_given v) (half_given v) b refl two.asked);
  family = one.family;
  least = one.least;
  work = one.work;
  work_is = one.work_is;
  bound = (let x = one.bound in let y = two.asked.ors in omega arith);
}
