-- Giving classes, with what it stands on.
use Rattle.std.proofs.Common.{◌≡◌, ℕ, ◌+◌, ◌*◌, ◌<◌, ◌≤◌, List, [], ◌∷◌, ◌++◌, Option, Some, None, length, take, get_or, set, All, Contains, refl, sym, ◌∙◌, ap, subst, inl, inr, arith, length-set, get_or-set_same}
use Rattle.std.proofs.lemmas.Bool.{cases_eq}
use Rattle.std.proofs.lemmas.Option.{none-some}
use Rattle.std.proofs.lemmas.List.{take_more, take_all, length-append}
use Rattle.std.proofs.lemmas.List.Elements.{Contains-push_cases, All-contains, Contains-get_or}
use Rattle.sol_model.specs.declared.system.System.{System}
use Rattle.sol_model.specs.declared.system.Constraint.TheVariants.{Copy}
use Rattle.sol_model.specs.Systems.{IsValid, IsRow, IsConstraintValid}
use Rattle.row_share.specs.share_laws.Classes.{IsCopy}
use Rattle.row_share.specs.share_laws.Orders.{AreTargets, AreSources, IsOrder}
use Rattle.row_share.specs.share_laws.Gathered.{class_of, HasClass, IsClosedBack, IsGathering, IsUnderWay, ArePartly, Gives, unclassed}
use Rattle.row_share.proofs.share_laws.Gathering.{gathering_begin, gathering_mark, gathering_take, gathering_drop, unclassed_set, still_class}

pub copy_rows : (S : System) → IsValid S → (from to : ℕ) → IsCopy S from to → IsRow S from × IsRow S to
copy_rows S valid from to copy = All-contains (IsConstraintValid S) S.constraints (Copy from to) valid.constraints copy

pub target_rows : (S : System) → IsValid S → (targets : ℕ → List ℕ) → AreTargets S targets → (row : ℕ) → All (IsRow S) (targets row)
target_rows S valid targets are row k d lt = (copy_rows S valid row (get_or (targets row) k d) (are.copies row (get_or (targets row) k d) (Contains-get_or (targets row) k d lt))).1

pub source_rows : (S : System) → IsValid S → (sources : ℕ → List ℕ) → AreSources S sources → (row : ℕ) → All (IsRow S) (sources row)
source_rows S valid sources are row k d lt = (copy_rows S valid (get_or (sources row) k d) row (are.copies (get_or (sources row) k d) row (Contains-get_or (sources row) k d lt))).0

pub way_begin : (S : System) (order : List ℕ) (last class : ℕ) (old : List (Option ℕ)) → IsOrder S order → last < length order → length old ≡ S.rows
    → ((i : ℕ) → last < i → i < length order → HasClass old (get_or order i 0)) → class_of old (get_or order last 0) ≡ None → IsClosedBack S old
    → IsUnderWay S order last class old (set old (get_or order last 0) (Some class)) (get_or order last 0 ∷ [])
way_begin S order last class old is inside sized after none closed = record {
  is = is;
  inside = inside;
  sized = sized;
  after = after;
  gathering = gathering_begin S order is last class inside old after sized none closed;
}

pub way_take : (S : System) (order : List ℕ) (last class row : ℕ) (old new : List (Option ℕ)) (waiting : List ℕ) → IsUnderWay S order last class old new (waiting ++ row ∷ []) → IsUnderWay S order last class old new (row ∷ waiting)
way_take S order last class row old new waiting w = record {
  is = w.is;
  inside = w.inside;
  sized = w.sized;
  after = w.after;
  gathering = gathering_take S order w.is last class w.inside old w.after w.sized new row waiting w.gathering;
}

pub way_mark : (S : System) (order : List ℕ) (last class row x : ℕ) (old new : List (Option ℕ)) (waiting : List ℕ) → IsUnderWay S order last class old new (row ∷ waiting) → IsRow S x → IsCopy S x row → class_of new x ≡ None
    → IsUnderWay S order last class old (set new x (Some class)) (row ∷ (waiting ++ x ∷ []))
way_mark S order last class row x old new waiting w known copy none = record {
  is = w.is;
  inside = w.inside;
  sized = w.sized;
  after = w.after;
  gathering = gathering_mark S order w.is last class w.inside old w.after w.sized new row x waiting w.gathering known copy none;
}

pub way_drop : (S : System) (order : List ℕ) (last class row : ℕ) (old new : List (Option ℕ)) (waiting : List ℕ) → IsUnderWay S order last class old new (row ∷ waiting) → ((x : ℕ) → IsCopy S x row → HasClass new x)
    → IsUnderWay S order last class old new waiting
way_drop S order last class row old new waiting w sources = record {
  is = w.is;
  inside = w.inside;
  sized = w.sized;
  after = w.after;
  gathering = gathering_drop S order w.is last class w.inside old w.after w.sized new row waiting w.gathering sources;
}

-- the sources so far have classes
pub record Marks (S : System) (class row : ℕ) (sources : List ℕ) (old new : List (Option ℕ)) (before after : List ℕ) (n : ℕ) : Type 0 where
  pub sized : length new ≡ length old
  pub way : (order : List ℕ) (last : ℕ) (oldest : List (Option ℕ)) → IsUnderWay S order last class oldest old (row ∷ before) → IsUnderWay S order last class oldest new (row ∷ after)
  pub marked : (x : ℕ) → Contains (take n sources) x → HasClass new x
  pub smaller : 2 * unclassed new + length after ≤ 2 * unclassed old + length before

pub marks_none : (S : System) (class row : ℕ) (sources : List ℕ) (old : List (Option ℕ)) (before : List ℕ) → Marks S class row sources old old before before 0
marks_none S class row sources old before = record {
  sized = refl;
  way = λ order last oldest w. w;
  marked = λ x h. absurd (let lt = h.1 in omega arith);
  smaller = omega arith;
}

given_way : (S : System) (order : List ℕ) (last class row x : ℕ) (oldest old new : List (Option ℕ)) (before after : List ℕ) → Gives class x old new before after → IsRow S x → IsCopy S x row
    → IsUnderWay S order last class oldest old (row ∷ before) → IsUnderWay S order last class oldest new (row ∷ after)
given_way S order last class row x oldest old new before after gives known copy w = elim gives.done [
  | inl same ↦ subst (λ (cs : List (Option ℕ)). IsUnderWay S order last class oldest cs (row ∷ after)) (sym same.0) (subst (λ (ws : List ℕ). IsUnderWay S order last class oldest old (row ∷ ws)) (sym same.1) w)
  | inr more ↦ subst (λ (cs : List (Option ℕ)). IsUnderWay S order last class oldest cs (row ∷ after)) (sym more.0) (subst (λ (ws : List ℕ). IsUnderWay S order last class oldest (set old x (Some class)) (row ∷ ws)) (sym more.1)
      (way_mark S order last class row x oldest old before w known copy more.2))
]

given_sized : (class x : ℕ) (old new : List (Option ℕ)) (before after : List ℕ) → Gives class x old new before after → length new ≡ length old
given_sized class x old new before after gives = elim gives.done [ inl same ↦ ap length same.0 | inr more ↦ ap length more.0 ∙ length-set old x (Some class) ]

given_kept : (class x other : ℕ) (old new : List (Option ℕ)) (before after : List ℕ) → x < length old → Gives class x old new before after → HasClass old other → HasClass new other
given_kept class x other old new before after lt gives h = elim gives.done [
  | inl same ↦ subst (λ (cs : List (Option ℕ)). HasClass cs other) (sym same.0) h
  | inr more ↦ subst (λ (cs : List (Option ℕ)). HasClass cs other) (sym more.0) (still_class old x other class lt h)
]

given_has : (class x : ℕ) (old new : List (Option ℕ)) (before after : List ℕ) → x < length old → Gives class x old new before after → HasClass new x
given_has class x old new before after lt gives = elim gives.done [
  | inl same ↦ subst (λ (cs : List (Option ℕ)). HasClass cs x) (sym same.0) same.2
  | inr more ↦ subst (λ (cs : List (Option ℕ)). HasClass cs x) (sym more.0) (class, get_or-set_same old x (Some class) None lt)
]

given_smaller : (class x : ℕ) (old new : List (Option ℕ)) (before after : List ℕ) → x < length old → Gives class x old new before after → 2 * unclassed new + length after ≤ 2 * unclassed old + length before
given_smaller class x old new before after lt gives = elim gives.done [
  | inl same ↦ (let a = ap unclassed same.0 in let b = ap length same.1 in omega arith)
  | inr more ↦ (let a = ap unclassed more.0 in let b = ap length more.1 ∙ length-append before (x ∷ []) in let s = unclassed_set old x class lt more.2 in omega arith)
]

pub marks_more : (S : System) (class row x n : ℕ) (sources : List ℕ) (old mid new : List (Option ℕ)) (before waiting after : List ℕ) → Marks S class row sources old mid before waiting n → n < length sources → x ≡ get_or sources n 0
    → IsRow S x → IsCopy S x row → x < length mid → Gives class x mid new waiting after → Marks S class row sources old new before after (n + 1)
marks_more S class row x n sources old mid new before waiting after m lt is known copy small gives = record {
  sized = given_sized class x mid new waiting after gives ∙ m.sized;
  way = λ order last oldest w. given_way S order last class row x oldest mid new waiting after gives known copy (m.way order last oldest w);
  marked = λ y h. elim (Contains-push_cases (take n sources) (get_or sources n 0) y (subst (λ (ys : List ℕ). Contains ys y) (take_more sources n 0 lt) h)) [
    | inl older ↦ given_kept class x y mid new waiting after small gives (m.marked y older)
    | inr same ↦ subst (HasClass new) (is ∙ same) (given_has class x mid new waiting after small gives)
  ];
  smaller = (let a = given_smaller class x mid new waiting after small gives in let b = m.smaller in omega arith);
}

-- all sources of the row have classes
pub way_next : (S : System) (order : List ℕ) (last class row : ℕ) (targets : ℕ → List ℕ) (oldest old new : List (Option ℕ)) (before after : List ℕ) → AreSources S targets
    → Marks S class row (targets row) old new before after (length (targets row)) → IsUnderWay S order last class oldest old (row ∷ before) → IsUnderWay S order last class oldest new after
way_next S order last class row targets oldest old new before after are m w =
    way_drop S order last class row oldest new after (m.way order last oldest w)
    (λ x copy. m.marked x (subst (λ (xs : List ℕ). Contains xs x) (sym (take_all (length (targets row)) (targets row) (omega arith))) (are.listed x row copy)))

-- the first row gets the class
pub way_gives : (S : System) (order : List ℕ) (last class : ℕ) (old new : List (Option ℕ)) (before after : List ℕ) → IsOrder S order → last < length order → length old ≡ S.rows
    → ((i : ℕ) → last < i → i < length order → HasClass old (get_or order i 0)) → class_of old (get_or order last 0) ≡ None → IsClosedBack S old → before ≡ [] → Gives class (get_or order last 0) old new before after
    → IsUnderWay S order last class old new after
way_gives S order last class old new before after is inside sized behind none closed empty gives = elim gives.done [
  | inl same ↦ absurd (none-some same.2.0 (sym none ∙ same.2.1))
  | inr more ↦ subst (λ (cs : List (Option ℕ)). IsUnderWay S order last class old cs after) (sym more.0)
      (subst (λ (ws : List ℕ). IsUnderWay S order last class old (set old (get_or order last 0) (Some class)) ws) (sym (more.1 ∙ ap (λ (ws : List ℕ). ws ++ get_or order last 0 ∷ []) empty))
      (way_begin S order last class old is inside sized behind none closed))
]

-- all rows from the place on have classes
pub gathered_after : (S : System) (order : List ℕ) (last class : ℕ) (old new : List (Option ℕ)) → IsGathering S order last class old new [] → ((i : ℕ) → last < i → i < length order → HasClass old (get_or order i 0))
    → (i : ℕ) → last ≤ i → i < length order → HasClass new (get_or order i 0)
gathered_after S order last class old new g behind i from_last inside = elim (cases_eq i last) [
  | inl same ↦ subst (λ (k : ℕ). HasClass new (get_or order k 0)) (sym same) (class, g.begun)
  | inr apart ↦ (let had = behind i (omega arith) inside in
      elim (g.each (get_or order i 0)) [
        | inl kept ↦ (had.0, kept ∙ had.1)
        | inr got ↦ (class, got.1)
      ])
]

pub from_last_on : (old : List (Option ℕ)) (order : List ℕ) (last : ℕ) → HasClass old (get_or order last 0) → ((i : ℕ) → last < i → i < length order → HasClass old (get_or order i 0)) → (i : ℕ) → last ≤ i → i < length order → HasClass old (get_or order i 0)
from_last_on old order last here behind i from_last inside = elim (cases_eq i last) [
  | inl same ↦ subst (λ (k : ℕ). HasClass old (get_or order k 0)) (sym same) here
  | inr apart ↦ behind i (omega arith) inside
]

-- nothing has a class yet
pub partly_none : (S : System) (classes : List (Option ℕ)) → length classes ≡ S.rows → ((row : ℕ) → class_of classes row ≡ None) → ArePartly S classes
partly_none S classes sized none = record {
  sized = sized;
  known = λ row class h. absurd (none-some class (sym (none row) ∙ h));
  closed = λ from to copy h. absurd (none-some h.0 (sym (none to) ∙ h.1));
  cycles = λ a b there back h. none a ∙ sym (none b);
  followed = λ row from follows h. none row ∙ sym (none from);
}
